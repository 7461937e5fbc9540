use Rattle.std.proofs.Common.{ℕ, ◌∷◌, [], ◌++◌, List, length, sym, subst}
use Rattle.pb_classify.specs.declared.walk.Entry.{Entry}
use Rattle.pb_classify.specs.Walk.{IsWalking}
use Rattle.pb_classify.proofs.StackLemmas.{waits_last}
use Rattle.pb_classify.proofs.walk.Walk.walk_tree.Goals as goal

-- what waited last is of this tree
pub take-requires-clause-walking : goal.take-requires-clause-walking
take-requires-clause-walking c =
    let nodes = c.args.graph.now.nodes in
    let ss = c.args.graph.now.streams in
    let held = c.args.forest.now.held in
    let w = c.loop-entry.self in
    let e = c.in-Some.entry in
    let stack = c.pop.new.self.items in
    let walking : IsWalking nodes ss held c.len-tree.result (length w.list) (stack ++ e ∷ []) w =
    subst (λ (l : List Entry). IsWalking nodes ss held c.len-tree.result (length w.list) l w) c.in-Some.ensures.items c.loop-entry.invariant.walking in
    let waits = waits_last nodes ss held e c.len-tree.result (length w.list) stack w walking in
    subst (λ (t : ℕ). IsWalking nodes ss held t (length w.list) (stack ++ e ∷ []) w) (sym waits.label) walking

pub loop-entry-preserved : goal.loop-entry-preserved
loop-entry-preserved c =
    let nodes = c.args.graph.now.nodes in
    let ss = c.args.graph.now.streams in
    let held = c.args.forest.now.held in
    let w = c.loop-entry.self in
    let e = c.in-Some.entry in
    let stack = c.pop.new.self.items in
    let walking : IsWalking nodes ss held c.len-tree.result (length w.list) (stack ++ e ∷ []) w =
    subst (λ (l : List Entry). IsWalking nodes ss held c.len-tree.result (length w.list) l w) c.in-Some.ensures.items c.loop-entry.invariant.walking in
    let waits = waits_last nodes ss held e c.len-tree.result (length w.list) stack w walking in
    let kept = c.in_ok-take.ensures.kept in
    record {
      walking = subst (λ (t : ℕ). IsWalking nodes ss held t (length c.take.new.self.list) c.take.new.stack.items c.take.new.self) waits.label c.in_ok-take.ensures.walking;
      kept = record {
        kept = λ n seen. kept n (c.loop-entry.invariant.kept.kept n seen);
        now = kept c.args.node c.loop-entry.invariant.kept.now;
      };
    }
