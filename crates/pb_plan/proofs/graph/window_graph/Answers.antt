use Rattle.std.proofs.Common.{◌∙◌, ◌+◌, ◌++◌, ◌∷◌, [], ℕ, List, length, get_or, slice_get, None, Some, ap, ap₂, sym, subst, arith}
use Rattle.std.proofs.lemmas.List.{length-take-le, take_all}
use Rattle.std.proofs.lemmas.List.Elements.{All-push}
use Rattle.pb_graph.specs.declared.records.Stream.{Stream}
use Rattle.pb_graph.specs.ProcessGraph.{Fits, IsStream, IsWithinLimits, ProcessGraph}
use Rattle.pb_plan.specs.Graph.{graph_streams}
use Rattle.pb_plan.proofs.GraphLemmas.{among_first, joins_at, limits_at, one_more, stream_at, streams_long}
use Rattle.pb_plan.proofs.graph.window_graph.Goals as goal

pub returns-then-not-fits-clause-over : goal.returns-then-not-fits-clause-over
returns-then-not-fits-clause-over c =
    let window = c.args.window.now in
    let measured = c.args.measured.now in
    let j = c.loop-j.j in
    let inv = c.loop-j.invariant in
    let stream = c.graph_stream-stream.result in
    let meas = get_or measured j None in
    let whole = graph_streams window.streams measured in
    let there = stream_at window.streams measured j c.at.result.now c.requires.each c.at.ensures ∙ ap Some (sym c.graph_stream-stream.ensures) in
    let long = streams_long window.streams measured c.requires.each in
    let lt = c.loop-j-test.true in
    let size = ap length inv.so_far ∙ length-take-le j whole (omega (arith, long, lt, c.requires.each)) in
    let ends = joins_at (1 + length window.nodes) window.streams j c.at.result.now meas c.requires.window.joins c.at.ensures in
    let joins : IsStream c.loop-j.graph.nodes stream =
    subst (λ (n : ℕ). IsStream n stream) (sym inv.nodes) (subst (IsStream (1 + length window.nodes)) (sym c.graph_stream-stream.ensures) ends) in
    record {
      stream = stream;
      there = there;
      outside = λ within.
          let fits : Fits c.loop-j.graph stream = record { room = omega (arith, size, lt, c.requires.each, c.requires.window.few_streams); joins = joins; limits = within } in
          cc (sym c.if-not-fits.true ∙ c.fits.ensures.1 fits);
      before = λ k one less at.
          limits_at c.loop-j.graph.streams k one inv.within (ap (λ (l : List Stream). slice_get l k) inv.so_far ∙ among_first whole j k one less at);
    }

pub loop-j-preserved : goal.loop-j-preserved
loop-j-preserved c =
    let window = c.args.window.now in
    let measured = c.args.measured.now in
    let j = c.loop-j.j in
    let inv = c.loop-j.invariant in
    let stream = c.graph_stream-stream.result in
    let whole = graph_streams window.streams measured in
    let there = stream_at window.streams measured j c.at.result.now c.requires.each c.at.ensures ∙ ap Some (sym c.graph_stream-stream.ensures) in
    rw c.in_ok-push.ensures.ok (record {
      nodes = inv.nodes;
      so_far = ap (λ (l : List Stream). l ++ stream ∷ []) inv.so_far ∙ sym (one_more whole j stream there);
      within = All-push IsWithinLimits c.loop-j.graph.streams stream inv.within (c.fits.ensures.0 c.if-not-fits.false).limits;
    })

pub returns-clause-ok : goal.returns-clause-ok
returns-clause-ok c =
    let window = c.args.window.now in
    let measured = c.args.measured.now in
    let inv = c.loop-j.invariant in
    let whole = graph_streams window.streams measured in
    let long = streams_long window.streams measured c.requires.each in
    let all = take_all c.loop-j.j whole (omega (arith, long, c.loop-j-test.false, c.requires.each)) in
    ap₂ (λ (n : ℕ) (streams : List Stream). let g : ProcessGraph = record { nodes = n; streams = streams } in g) inv.nodes (inv.so_far ∙ all)
