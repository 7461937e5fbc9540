use Rattle.std.proofs.Common.{◌≡◌, ◌≢◌, ◌∙◌, true, false, sym, inl, inr, arith}
use Rattle.std.proofs.lemmas.Bool.{cases_eq, eq-eqb, ne_eqb}
use Rattle.pb_graph.specs.ProcessGraph.{is_measured}
use Rattle.pb_classify.specs.Points.{NodePoints}
use Rattle.pb_classify.specs.Tables.{points_of}
use Rattle.pb_classify.proofs.SideLemmas.{stream_in, lower_within, labels_apart, labels_joined, chord_joined, points_tell, points_joined}
use Rattle.pb_classify.proofs.points.Points.is_apart.Goals as goal

pub entry-requires : goal.entry-requires
entry-requires c =
    let is = stream_in c.args.graph.now c.args.j c.stream-stream.result c.requires.points.limits c.stream-stream.ensures in
    omega (arith, is.from, c.requires.points.nodes)

pub entry-requires-then-is_some : goal.entry-requires-then-is_some
entry-requires-then-is_some c =
    let is = stream_in c.args.graph.now c.args.j c.stream-stream.result c.requires.points.limits c.stream-stream.ensures in
    omega (arith, is.to, c.requires.points.nodes)

-- a measured stream
pub returns-then-is_some-clause-apart : goal.returns-then-is_some-clause-apart
returns-then-is_some-clause-apart c = λ apart.
    let s = c.stream-stream.result in
    let points : NodePoints = points_of c.args.self.now in
    let ne : points.label s.from ≢ points.label s.to = λ same.
    let e : c.entry.result.tree ≡ c.entry-then-is_some.result.tree = c.entry.ensures.label ∙ same ∙ sym c.entry-then-is_some.ensures.label in
    cc (rw (eq-eqb c.entry.result.tree c.entry-then-is_some.result.tree e) at apart) in
    labels_apart c.args.graph.now points c.args.j s c.requires.points.limits c.requires.points c.stream-stream.ensures ne

pub returns-then-is_some-clause-joined : goal.returns-then-is_some-clause-joined
returns-then-is_some-clause-joined c = λ joined.
    let s = c.stream-stream.result in
    let points : NodePoints = points_of c.args.self.now in
    let measured : is_measured s ≡ true = sym c.is_some.ensures ∙ c.if-is_some.true in
    let same : points.label s.from ≡ points.label s.to = elim (cases_eq c.entry.result.tree c.entry-then-is_some.result.tree) [
      | inl e ↦ sym c.entry.ensures.label ∙ e ∙ c.entry-then-is_some.ensures.label
      | inr ne ↦ cc (rw (ne_eqb c.entry.result.tree c.entry-then-is_some.result.tree ne) at joined)
    ] in
    labels_joined c.args.graph.now points c.args.j s c.requires.points.limits c.requires.points c.stream-stream.ensures measured same

pub lower_end-requires-clause-from : goal.lower_end-requires-clause-from
lower_end-requires-clause-from c =
    let is = stream_in c.args.graph.now c.args.j c.stream-stream.result c.requires.points.limits c.stream-stream.ensures in
    omega (arith, is.from, c.requires.points.nodes)

pub lower_end-requires-clause-to : goal.lower_end-requires-clause-to
lower_end-requires-clause-to c =
    let is = stream_in c.args.graph.now c.args.j c.stream-stream.result c.requires.points.limits c.stream-stream.ensures in
    omega (arith, is.to, c.requires.points.nodes)

pub are_below-requires : goal.are_below-requires
are_below-requires c =
    let points : NodePoints = points_of c.args.self.now in
    let lt = lower_within c.args.graph.now points c.args.j c.in-Some.node c.stream-stream.result c.requires.points.limits c.stream-stream.ensures c.in-Some.ensures.1 in
    omega (arith, lt, c.requires.points.nodes)

-- an unmeasured stream that isn't held
pub returns-in-None-clause-joined : goal.returns-in-None-clause-joined
returns-in-None-clause-joined c = λ e.
    let bare : is_measured c.stream-stream.result ≡ false = sym c.is_some.ensures ∙ c.if-is_some.false in
    chord_joined c.args.graph.now (points_of c.args.self.now) c.args.j c.stream-stream.result c.requires.points.limits c.requires.points c.stream-stream.ensures bare
    c.in-None.ensures.0 c.in-None.ensures.1

-- a held unmeasured stream
pub returns-in-Some-clause-apart : goal.returns-in-Some-clause-apart
returns-in-Some-clause-apart c = λ below.
    let points : NodePoints = points_of c.args.self.now in
    let lt = lower_within c.args.graph.now points c.args.j c.in-Some.node c.stream-stream.result c.requires.points.limits c.stream-stream.ensures c.in-Some.ensures.1 in
    points_tell c.args.graph.now points c.args.j c.in-Some.node c.requires.points.limits c.requires.points lt c.in-Some.ensures.0 (c.are_below.ensures.0 below)

pub returns-in-Some-clause-joined : goal.returns-in-Some-clause-joined
returns-in-Some-clause-joined c = λ out.
    let points : NodePoints = points_of c.args.self.now in
    let lt = lower_within c.args.graph.now points c.args.j c.in-Some.node c.stream-stream.result c.requires.points.limits c.stream-stream.ensures c.in-Some.ensures.1 in
    points_joined c.args.graph.now points c.args.j c.in-Some.node c.requires.points.limits c.requires.points lt c.in-Some.ensures.0 (λ w. cc (sym out ∙ c.are_below.ensures.1 w))
