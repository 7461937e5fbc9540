use Rattle.std.specs.Prelude.{map}
use Rattle.std.proofs.Common.{◌≡◌, ◌∙◌, ◌+◌, ◌≤◌, ℕ, false, [], ◌∷◌, ◌++◌, length, drop, None, sym, ap, arith, length-append}
use Rattle.std.proofs.lemmas.List.Elements.{All-push}
use Rattle.pb_graph.specs.declared.records.Stream.{Stream}
use Rattle.pb_site.specs.declared.declared.Version.TheVariants.{One}
use Rattle.pb_site.specs.Site.{arcs_of}
use Rattle.pb_book.specs.Rows.{declared_of, facts_of}
use Rattle.pb_facts.specs.Facts.{live_facts}
use Rattle.pb_period.specs.Measurement.{measured}
use Rattle.pb_period.specs.PeriodGraph.{graph_in, is_over, stream_with}
use Rattle.pb_period.proofs.GraphLemmas.{finished, next, nothing_left, one_more, over_at, streams_of}
use Rattle.pb_period.proofs.graph.measured_graph.Goals as goal

pub is_over-requires-clause-room : goal.is_over-requires-clause-room
is_over-requires-clause-room c = omega (arith, c.loop-j.invariant.counted, c.loop-j-test.true, c.arcs-j-end.ensures.within)

pub is_over-requires-clause-joins : goal.is_over-requires-clause-joins
is_over-requires-clause-joins c = rw c.loop-j.invariant.nodes c.measured_stream-stream.ensures.joins

pub returns-then-is_over-clause-answer : goal.returns-then-is_over-clause-answer
returns-then-is_over-clause-answer c = λ _.
    let rows = c.args.book.now in
    let arcs = arcs_of (declared_of rows) in
    let measure = stream_with (measured (declared_of rows) (live_facts (facts_of rows)) c.args.days None) in
    let made = c.loop-j.graph.streams in
    let stream = c.measured_stream-stream in
    let split = c.loop-j.invariant.so_far ∙ ap (λ rest. made ++ rest) (next measure arcs c.loop-j.j stream.result stream.ensures.value) in
    over_at (graph_in One rows c.args.days) made (map measure (drop (c.loop-j.j + 1) arcs)) stream.result c.loop-j.j split c.loop-j.invariant.within
    (sym c.is_over.ensures.value ∙ c.if-is_over.true) c.loop-j.invariant.counted

pub loop-j-preserved : goal.loop-j-preserved
loop-j-preserved c =
    let rows = c.args.book.now in
    let arcs = arcs_of (declared_of rows) in
    let measure = stream_with (measured (declared_of rows) (live_facts (facts_of rows)) c.args.days None) in
    let stream = c.measured_stream-stream in
    rw c.in_ok-push.ensures.ok (record {
      nodes = c.loop-j.invariant.nodes;
      counted = length-append c.loop-j.graph.streams (stream.result ∷ []) ∙ ap (λ (n : ℕ). n + 1) c.loop-j.invariant.counted;
      so_far = one_more measure (streams_of rows c.args.days) c.loop-j.graph.streams arcs c.loop-j.j stream.result stream.ensures.value c.loop-j.invariant.so_far;
      within = All-push (λ (s : Stream). is_over s ≡ false) c.loop-j.graph.streams stream.result c.loop-j.invariant.within (sym c.is_over.ensures.value ∙ c.if-is_over.false);
    })

pub returns-clause-answer : goal.returns-clause-answer
returns-clause-answer c = λ _.
    let rows = c.args.book.now in
    let arcs = arcs_of (declared_of rows) in
    let measure = stream_with (measured (declared_of rows) (live_facts (facts_of rows)) c.args.days None) in
    let past : length arcs ≤ c.loop-j.j = rw (← c.site-site.ensures.value) (omega (arith, c.loop-j-test.false, c.arcs-j-end.ensures.value)) in
    let all = nothing_left measure (streams_of rows c.args.days) c.loop-j.graph.streams arcs c.loop-j.j past c.loop-j.invariant.so_far in
    finished (graph_in One rows c.args.days) c.loop-j.graph c.loop-j.invariant.nodes all c.loop-j.invariant.within
