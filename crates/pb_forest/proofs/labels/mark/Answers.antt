use Rattle.std.proofs.Common.{◌≡◌, Some, length, slice_get, get_or, inl, inr, arith}
use Rattle.std.proofs.lemmas.Bool.{cases_Bool}
use Rattle.std.proofs.lemmas.Option.{slice_get-get_or}
use Rattle.pb_graph.specs.declared.records.Stream.{Stream}
use Rattle.pb_graph.specs.ProcessGraph.{is_measured, some_stream}
use Rattle.pb_forest.proofs.LabelLemmas.{labels_between}
use Rattle.pb_forest.proofs.labels.mark.Goals as goal

pub pass-requires-2-clause-ends : goal.pass-requires-2-clause-ends
pass-requires-2-clause-ends c = rw c.pass.ensures.parts.each c.requires.ends

-- the unmeasured streams are those before the first measured one
pub pass-requires-2-clause-begins : goal.pass-requires-2-clause-begins
pass-requires-2-clause-begins c = rw c.pass.ensures.parts.each (labels_between c.args.streams.now (length c.args.parts.now) c.pass.new.parts c.pass.ensures.parts)

-- a measured stream has its mark from the second pass, an unmeasured one from the first
pub returns : goal.returns
returns c =
    let ss = c.args.streams.now in
    record {
      each = omega (arith, c.pass.auto.held, c.pass-2.auto.held, c.requires.each);
      decided = λ j lt.
          let s : Stream = get_or ss j some_stream in
          let at : slice_get ss j ≡ Some s = slice_get-get_or ss j some_stream lt in
          elim (cases_Bool (is_measured s)) [
            | inl measured ↦ c.pass-2.ensures.marks j s at measured
            | inr bare ↦ rw (c.pass-2.ensures.others j s at bare) (c.pass.ensures.marks j s at bare)
          ];
    }
