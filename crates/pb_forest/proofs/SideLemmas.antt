-- Each held stream of a forest has a side.
use Rattle.std.proofs.Common.{◌≡◌, ◌∙◌, ℕ, false, Some, slice_get, get_or, set, sym, subst}
use Rattle.std.proofs.lemmas.Option.{slice_get_within, slice_get-get_or, get_or_from_slice_get}
use Rattle.pb_graph.specs.declared.records.Stream.{Stream}
use Rattle.pb_graph.specs.ProcessGraph.{IsStream, some_stream}
use Rattle.pb_graph.specs.Walk.{ends_of, IsReach}
use Rattle.pb_graph.specs.Path.{is_open}
use Rattle.pb_graph.proofs.WalkLemmas.{some_same}
use Rattle.pb_forest.specs.Flows.{OneBalancedLaw}
use Rattle.pb_graph.proofs.ReachLemmas.{some_reach}
use Rattle.pb_forest.proofs.FlowLemmas.{balanced_one}

pub one_balanced_law : OneBalancedLaw
one_balanced_law g held xs ys graph forest bx by_ agree =
    let ss = g.streams in
    let each : (k : ℕ) (t : Stream) → slice_get ss k ≡ Some t → IsStream g.nodes t = λ k t at.
    subst (λ (u : Stream). IsStream g.nodes u) (get_or_from_slice_get ss k t some_stream at) (graph.joins k some_stream (slice_get_within ss k t at)) in
    balanced_one g held xs ys graph forest (λ j lt h.
    let s : Stream = get_or ss j some_stream in
    let at : slice_get ss j ≡ Some s = slice_get-get_or ss j some_stream lt in
    let (side, reach) = some_reach ss g.nodes (is_open (set held j false)) s.from (each j s at).from each in
    (side, λ t here. subst (λ (u : Stream). IsReach (ends_of (is_open (set held j false)) ss) g.nodes u.from side) (some_same (sym at ∙ here)) reach)) bx by_ agree
