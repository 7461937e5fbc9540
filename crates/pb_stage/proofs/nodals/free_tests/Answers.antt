use Rattle.std.proofs.Common.{◌≡◌, ◌∙◌, ◌<◌, true, false, sym, arith}
use Rattle.std.proofs.lemmas.List.Elements.{All-push}
use Rattle.pb_study.specs.WellFormed.{IsNodalWithin}
use Rattle.pb_graph.specs.Groups.{group_count, is_free_group}
use Rattle.pb_stage.proofs.GroupLemmas.{free_is, left_out, taken_more}
use Rattle.pb_stage.proofs.nodals.free_tests.Goals.{then-free+in_ok-push, else-free}
use Rattle.pb_stage.proofs.nodals.free_tests.Goals as goal

-- one more group has its test, if it is free
pub loop-group-preserved : goal.loop-group-preserved
loop-group-preserved c =
    let at = c.loop-group in
    let g = c.args.graph.now in
    let grouping = c.args.groups.now in
    let lt : at.group < group_count grouping.group = omega (arith, c.loop-group-test.true, c.count-group-end.ensures) in
    let free = free_is g grouping at.group c.requires.limits c.requires.groups lt in
    elim c.if-free.branch [
      | then-free+in_ok-push w ↦
          let is : is_free_group grouping.group g.streams at.group ≡ true = sym free ∙ sym c.free.ensures ∙ w.if-free.true in
          rw (w.tests-is, w.in_ok-push.ensures.ok) (record {
            so_far = taken_more grouping.group g.streams c.args.critical at.group at.tests w.nodal.result is at.invariant.so_far w.nodal.ensures.value;
            within = All-push (IsNodalWithin g) at.tests w.nodal.result at.invariant.within w.nodal.ensures.within;
          })
      | else-free w ↦
          let is : is_free_group grouping.group g.streams at.group ≡ false = sym free ∙ sym c.free.ensures ∙ w.if-free.false in
          rw w.tests-is (record { so_far = left_out grouping.group g.streams c.args.critical at.group at.tests is at.invariant.so_far; within = at.invariant.within })
    ]
