use Rattle.std.proofs.Common.{◌≡◌, ◌∙◌, ◌<◌, ◌++◌, ◌∷◌, [], false, List, length, get_or, take, sym, subst, ap, arith}
use Rattle.pb_graph.specs.declared.records.Stream.{Stream}
use Rattle.pb_graph.specs.ProcessGraph.{ProcessGraph, Fits, some_stream}
use Rattle.pb_advise.specs.Choice.{metered, with_meters}
use Rattle.pb_advise.proofs.MeteredLemmas.{metered_fits, take_metered}
use Rattle.pb_advise.proofs.metered.metered_copy.Goals.{After-metered_stream}
use Rattle.pb_advise.proofs.metered.metered_copy.Goals as goal

within : (c : After-metered_stream) → c.loop-j.j < length c.args.graph.now.streams
within c =
    let lt = c.loop-j-test.true in
    let same = ap (λ (l : List Stream). length l) c.streams-stream-items.ensures.value in
    omega (arith, lt, same)

copied : (c : After-metered_stream) → c.metered_stream.result ≡ metered (get_or c.args.chosen.now c.loop-j.j false) (get_or c.args.graph.now.streams c.loop-j.j some_stream)
copied c =
    c.metered_stream.ensures
    ∙ ap (λ (l : List Stream). metered (get_or c.args.chosen.now c.loop-j.j false) (get_or l c.loop-j.j some_stream)) c.streams-stream-items.ensures.value

pub push-requires : goal.push-requires
push-requires c =
    let g = c.args.graph.now in
    let chosen = c.args.chosen.now in
    let j = c.loop-j.j in
    let fits = metered_fits g chosen j some_stream c.streams-stream-items.ensures.limits (within c) in
    let so_far : ProcessGraph = record { nodes = g.nodes; streams = with_meters (take j chosen) (take j g.streams) } in
    subst (λ (q : ProcessGraph). Fits q c.metered_stream.result) (sym c.loop-j.invariant) (subst (λ (s : Stream). Fits so_far s) (sym (copied c)) fits)

pub loop-j-preserved : goal.loop-j-preserved
loop-j-preserved c =
    let g = c.args.graph.now in
    let chosen = c.args.chosen.now in
    let j = c.loop-j.j in
    let front = (goal.at.loop-j-preserved c).After-metered_stream in
    let streams = with_meters (take j chosen) (take j g.streams) in
    let pushed : c.push.new.self ≡ record { nodes = c.loop-j.copy.nodes; streams = c.loop-j.copy.streams ++ c.metered_stream.result ∷ [] } = c.in_ok-push.ensures.ok in
    pushed
    ∙ ap (λ (q : ProcessGraph). record { nodes = q.nodes; streams = q.streams ++ c.metered_stream.result ∷ [] }) c.loop-j.invariant
    ∙ ap (λ (s : Stream). record { nodes = g.nodes; streams = streams ++ s ∷ [] }) (copied front)
    ∙ ap (λ (l : List Stream). record { nodes = g.nodes; streams = l }) (sym (take_metered chosen g.streams j some_stream c.requires (within front)))
