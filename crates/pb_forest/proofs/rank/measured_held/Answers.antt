use Rattle.std.proofs.Common.{◌≡◌, ◌∙◌, ℕ, ◌+◌, Bool, false, ◌&&◌, None, get_or, drop, ap, sym, refl}
use mir.Val.{bool_byte}
use Rattle.pb_graph.specs.declared.records.Stream.{Stream}
use Rattle.pb_graph.specs.ProcessGraph.{is_measured}
use Rattle.pb_forest.specs.Forest.{degrees_of_freedom}
use Rattle.pb_forest.proofs.RankLemmas.{degrees_next, count_next}
use Rattle.pb_forest.proofs.rank.measured_held.Goals.{then-is_some, else-is_some}
use Rattle.pb_forest.proofs.rank.measured_held.Goals as goal

abbrev some_stream : Stream
some_stream = record { from = 0; to = 0; meas = None }

-- one more stream
pub loop-j-preserved : goal.loop-j-preserved
loop-j-preserved c =
    let ss = c.args.streams.now in
    let held = c.args.held.now in
    let j = c.loop-j.j in
    let measured : Bool = is_measured (get_or ss j some_stream) in
    let mark : Bool = get_or held j false in
    let bit : c.if-is_some.from ≡ (measured && mark) = elim c.if-is_some.branch [
      | then-is_some w ↦ w.from-is ∙ rw (sym c.is_some.ensures ∙ w.if-is_some.true) refl
      | else-is_some w ↦ w.from-is ∙ w.if-is_some.false ∙ rw (sym c.is_some.ensures ∙ w.if-is_some.false) refl
    ] in
    let next = degrees_next ss held j some_stream false c.loop-j-test.true c.requires.each in
    let sum = count_next c.loop-j.count c.from.result (degrees_of_freedom (drop (j + 1) ss) (drop (j + 1) held)) (degrees_of_freedom ss held) j (measured && mark)
    (c.from.ensures ∙ ap bool_byte bit) (ap (λ (n : ℕ). c.loop-j.count + n) (sym next) ∙ c.loop-j.invariant.so_far) c.loop-j.invariant.small in
    record { so_far = sum.0; small = sum.1 }
