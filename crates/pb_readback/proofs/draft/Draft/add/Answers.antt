use Rattle.std.specs.Option.{option_map}
use Rattle.std.proofs.Common.{List, ap, refl, rules}
use Rattle.pb_form.specs.Value.{Value}
use Rattle.pb_form.specs.declared.output.OutputKind.TheVariants.{Measure, Nodal, Solved}
use Rattle.pb_blocks.specs.Counts.{IsStreamKind}
use Rattle.pb_blocks.specs.Values.{said_measure, said_nodal, said_solution}
use Rattle.pb_readback.specs.declared.draft.Draft.{Draft}
use Rattle.pb_readback.specs.Drafts.{with_measure, with_nodal}
use Rattle.pb_readback.proofs.AddingLemmas.{joins, new_stream, node_name, stream_name, values_are}
use Rattle.pb_readback.proofs.draft.Draft.add.Goals as goal
use Rattle.pb_readback.proofs.draft.Draft.add.Goals.{in-Node+in_ok-add_node-in-Node, in-Stream+in_ok-add_stream-in-Stream, in-Solved, in-Global+in-Some-1, in-Global+in-None-1, in-Nodal+in_ok-push_nodal-in-Nodal, in-Measure+in_ok-push_measure-in-Measure, in_default}

pub add_node-requires-clause-form : goal.add_node-requires-clause-form
add_node-requires-clause-form c = node_name c.args.fields.now c.args.values.now (rw c.in-Node.is at c.requires.read)

pub add_stream-requires-clause-form : goal.add_stream-requires-clause-form
add_stream-requires-clause-form c =
    let is : IsStreamKind c.args.kind = search rules in
    stream_name c.args.kind c.args.fields.now c.args.values.now is c.requires.read

pub add_stream-requires-clause-new : goal.add_stream-requires-clause-new
add_stream-requires-clause-new c =
    let is : IsStreamKind c.args.kind = search rules in
    new_stream c.args.self.now c.args.kind c.args.fields.now is c.requires.fine

pub add_stream-requires-clause-joins : goal.add_stream-requires-clause-joins
add_stream-requires-clause-joins c =
    let is : IsStreamKind c.args.kind = search rules in
    joins c.args.self.now c.args.kind c.args.fields.now c.args.values.now c.requires.way is c.requires.fine

pub returns : goal.returns
returns c =
    let values = values_are c.args.kind c.args.fields.now c.args.values.now c.requires.read in
    elim c.match-kind.branch [
      | in-Node+in_ok-add_node-in-Node w ↦ rw (w.in-Node.is, w.self-is, w.in_ok-add_node-in-Node.ensures) refl
      | in-Stream+in_ok-add_stream-in-Stream w ↦ search (rules, values)
      | in-Solved w ↦
          let told = rw w.in-Solved.is at values in
          let solved : List Value → Draft = λ values. record c.args.self.now { last = Solved; solution = said_solution values } in
          rw (w.self-is, w.in-Solved.is, w.said_solution-self.ensures) (ap solved told)
      | in-Global+in-Some-1 w ↦ search (rules, values)
      | in-Global+in-None-1 w ↦ search (rules, values)
      | in-Nodal+in_ok-push_nodal-in-Nodal w ↦
          let told = rw w.in-Nodal.is at values in
          let tested : List Value → Draft = λ values.
          record c.args.self.now { last = Nodal; tests = option_map (with_nodal (said_nodal c.args.self.now.nodes c.args.fields.now values)) c.args.self.now.tests } in
          rw (w.self-is, w.in-Nodal.is, w.in_ok-push_nodal-in-Nodal.ensures, w.said_nodal-test.ensures) (ap tested told)
      | in-Measure+in_ok-push_measure-in-Measure w ↦
          let told = rw w.in-Measure.is at values in
          let tested : List Value → Draft = λ values.
          record c.args.self.now { last = Measure; tests = option_map (with_measure (said_measure c.args.self.now.streams c.args.fields.now values)) c.args.self.now.tests } in
          rw (w.self-is, w.in-Measure.is, w.in_ok-push_measure-in-Measure.ensures, w.said_measure-test.ensures) (ap tested told)
      | in_default w ↦ search (rules, values)
    ]
