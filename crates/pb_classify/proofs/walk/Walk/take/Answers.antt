use Rattle.std.proofs.Common.{◌≡◌, ◌∙◌, ◌+◌, ◌*◌, ◌≤◌, length, ap, sym, arith}
use Rattle.pb_classify.specs.Tables.{Entries}
use Rattle.pb_classify.specs.Walk.{unentered, with_entry}
use Rattle.pb_classify.proofs.EntryLemmas.{unentered_set}
use Rattle.pb_classify.proofs.StackLemmas.{takes_none, takes_next, waits_last, measure_falls, on_ok_both}
use Rattle.pb_classify.proofs.walk.Walk.take.Goals as goal

-- the node was entered in the meantime
pub returns-then-has-clause-walking : goal.returns-then-has-clause-walking
returns-then-has-clause-walking c =
    let w = c.args.self.now in
    takes_none c.args.graph.now.nodes c.args.graph.now.streams c.args.forest.now.held c.args.entry (length w.list) c.args.stack.now.items w c.requires.walking
    (sym c.has.ensures ∙ c.if-has.true)

pub visit-requires-clause-next : goal.visit-requires-clause-next
visit-requires-clause-next c =
    takes_next c.args.graph.now.nodes c.args.graph.now.streams c.args.forest.now.held c.args.entry c.args.stack.now.items c.args.self.now c.requires.walking
    (sym c.has.ensures ∙ c.if-has.false)

-- one node fewer is left
pub returns-clause-less : goal.returns-clause-less
returns-clause-less c =
    let w = c.args.self.now in
    let e = c.args.entry in
    let m = length c.args.graph.now.streams in
    let waits = waits_last c.args.graph.now.nodes c.args.graph.now.streams c.args.forest.now.held e e.tree (length w.list) c.args.stack.now.items w c.requires.walking in
    let falls = unentered_set w.entered e.node (omega (arith, waits.node, c.requires.walking.entries.marks)) (sym c.has.ensures ∙ c.if-has.false) in
    on_ok_both c.visit.result (c.visit.new.self ≡ with_entry w e) (length c.visit.new.stack.items ≤ length c.args.stack.now.items + m)
    (unentered c.visit.new.self.entered * (m + 1) + length c.visit.new.stack.items ≤ unentered w.entered * (m + 1) + length c.args.stack.now.items)
    (λ same few. measure_falls (unentered c.visit.new.self.entered) (unentered w.entered) m (length c.args.stack.now.items) (length c.visit.new.stack.items)
    (ap (λ (u : Entries). unentered u.entered + 1) same ∙ falls) few) c.visit.ensures.entered c.visit.ensures.few
