use Rattle.std.specs.Prelude.{map, option_map}
use Rattle.std.proofs.Common.{◌≡◌, ◌∙◌, ◌+◌, ℕ, Some, [], ◌∷◌, slice_get, sym, ap, length-append}
use Rattle.pb_graph.specs.declared.records.Stream.{Stream}
use Rattle.pb_site.specs.Site.{arcs_of}
use Rattle.pb_book.specs.Rows.{declared_of}
use Rattle.pb_period.specs.PeriodGraph.{base_of, stream_with}
use Rattle.pb_period.proofs.GraphLemmas.{one_more}
use Rattle.pb_period.proofs.graph.design.Goals as goal

pub loop-j-preserved : goal.loop-j-preserved
loop-j-preserved c =
    let arcs = arcs_of (declared_of c.args.book.now) in
    let declared = stream_with base_of in
    let stream : Stream = c.declared_stream.result in
    let here = rw c.site-site.ensures.value at c.arc.ensures.value in
    let is : Some stream ≡ option_map declared (slice_get arcs c.loop-j.j) = ap (λ (s : Stream). Some s) c.declared_stream.ensures.value ∙ sym (ap (option_map declared) here) in
    rw c.in_ok-push.ensures.ok (record {
      nodes = c.loop-j.invariant.nodes;
      counted = length-append c.loop-j.graph.streams (stream ∷ []) ∙ ap (λ (n : ℕ). n + 1) c.loop-j.invariant.counted;
      so_far = one_more declared (map declared arcs) c.loop-j.graph.streams arcs c.loop-j.j stream is c.loop-j.invariant.so_far;
    })
