use Rattle.std.proofs.Common.{◌∙◌, ◌+◌, take, drop, None, sym, arith}
use Rattle.std.proofs.lemmas.Option.{slice_get_within}
use Rattle.pb_graph.specs.declared.records.Stream.{Stream}
use Rattle.pb_graph.specs.Boundary.{members_from, boundary_of}
use Rattle.pb_graph.proofs.BoundaryLemmas.{no_member, next_member, member_taken, member_missing}
use Rattle.pb_graph.proofs.cut.is_boundary.Goals.{in-Some+else-not-has_at, in_default}
use Rattle.pb_graph.proofs.cut.is_boundary.Goals as goal

abbrev some_stream : Stream
some_stream = record { from = 0; to = 0; meas = None }

pub returns-then-not-has_at : goal.returns-then-not-has_at
returns-then-not-has_at c =
    let side = c.args.side.now in
    let ss = c.args.streams.now in
    let ms = c.args.members.now in
    let j = c.loop-j.j in
    let m = c.in-Some.wanted in
    let next = next_member side ss (boundary_of side ss) (take c.loop-j.at ms) j some_stream m c.loop-j-test.true (sym c.member.ensures ∙ c.in-Some.is) c.loop-j.invariant.so_far in
    let missing = member_missing (boundary_of side ss) ms (members_from side (j + 1) (drop (j + 1) ss)) c.loop-j.at m c.loop-j.invariant.within (λ is. cc (sym (c.has_at.ensures.1 is) ∙ c.if-not-has_at.true)) next in
    ((λ t. cc t), (λ is. absurd (missing is)))

-- one more stream is compared
pub loop-j-preserved : goal.loop-j-preserved
loop-j-preserved c =
    let side = c.args.side.now in
    let ss = c.args.streams.now in
    let ms = c.args.members.now in
    let j = c.loop-j.j in
    elim c.match-member.branch [
      | in-Some+else-not-has_at w ↦
          let m = w.in-Some.wanted in
          let is = w.has_at.ensures.0 w.if-not-has_at.false in
          let lt = slice_get_within ms c.loop-j.at m is in
          let next = next_member side ss (boundary_of side ss) (take c.loop-j.at ms) j some_stream m c.loop-j-test.true (sym c.member.ensures ∙ w.in-Some.is) c.loop-j.invariant.so_far in
          let taken = member_taken (boundary_of side ss) ms (members_from side (j + 1) (drop (j + 1) ss)) c.loop-j.at m lt is next in
          rw w.at-is (record { so_far = taken; within = omega (arith, lt) })
      | in_default w ↦
          let next = no_member side ss (boundary_of side ss) (take c.loop-j.at ms) j some_stream c.loop-j-test.true (sym c.member.ensures ∙ w.in_default.is) c.loop-j.invariant.so_far in
          rw w.at-is (record { so_far = next; within = c.loop-j.invariant.within })
    ]
