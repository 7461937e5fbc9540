use Rattle.std.proofs.Common.{◌≡◌, ℕ, length, ap, sym, subst}
use Rattle.pb_classify.specs.declared.walk.Entry.{Entry}
use Rattle.pb_classify.specs.Tables.{Entries, tree_at}
use Rattle.pb_classify.specs.Walk.{IsWalking, with_entry}
use Rattle.pb_classify.proofs.EntryLemmas.{entry_last, enters}
use Rattle.pb_classify.proofs.walk.Walk.visit.Goals as goal

pub follow_all-requires-clause-walking : goal.follow_all-requires-clause-walking
follow_all-requires-clause-walking c =
    let nodes = c.args.graph.now.nodes in
    let ss = c.args.graph.now.streams in
    let held = c.args.forest.now.held in
    let w = c.args.self.now in
    let e = c.args.entry in
    let stack = c.args.stack.now.items in
    let tree : e.tree ≡ tree_at (with_entry w e) (length w.list) = sym (ap (λ (y : Entry). y.tree) (entry_last w e)) in
    let base : IsWalking nodes ss held (tree_at (with_entry w e) (length w.list)) (length w.list) stack (with_entry w e) =
    subst (λ (t : ℕ). IsWalking nodes ss held t (length w.list) stack (with_entry w e)) tree (enters nodes ss held e stack w c.requires.next) in
    let there : IsWalking nodes ss held (tree_at c.enter.new.self (length w.list)) (length w.list) stack c.enter.new.self =
    subst (λ (u : Entries). IsWalking nodes ss held (tree_at u (length w.list)) (length w.list) stack u) (sym c.in_ok-enter.ensures) base in
    subst (λ (n : ℕ). IsWalking nodes ss held (tree_at c.enter.new.self n) n stack c.enter.new.self) (sym c.len-last.ensures) there
