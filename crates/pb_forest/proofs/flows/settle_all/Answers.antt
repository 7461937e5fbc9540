use Rattle.std.proofs.Common.{◌≡◌, ◌∙◌, ℕ, ◌+◌, ◌-◌, ◌^◌, ◌<◌, ℤ, pos, unsigned_abs, List, None, Some, Option, length, get_or, ap, sym, subst, arith}
use Rattle.std.proofs.lemmas.List.{get_or_default}
use Rattle.pb_fixed.specs.Sums.{item}
use Rattle.pb_forest.specs.Trees.{node_at, up_of}
use Rattle.pb_forest.specs.Balancing.{AreBalancedFrom, IsBranchWithin, Branch, branch_from, branches_of, settled, settled_by}
use Rattle.pb_forest.proofs.NetLemmas.{settle_none, settle_more}
use Rattle.pb_forest.proofs.ChordLemmas.{branch_at, branches_within, length_branches, settled_is}
use Rattle.pb_forest.proofs.flows.settle_all.Goals as goal

-- no node is balanced yet
pub loop-i-init : goal.loop-i-init
loop-i-init c =
    let t = c.args.trees.now in
    let ss = c.args.graph.now.streams in
    let before = settle_none c.args.graph.now.nodes ss c.args.held.now c.args.off.now t c.args.out.now c.requires.trees c.requires.marks c.requires.limits.few_streams c.requires.given c.requires.nets in
    let each : length c.args.branches.now ≡ length t.order = ap length c.requires.branches ∙ length_branches ss t in
    subst (λ (n : ℕ). AreBalancedFrom ss c.args.held.now c.args.off.now t n c.args.out.now) (sym each) before

pub settle-requires-clause-there : goal.settle-requires-clause-there
settle-requires-clause-there c = λ b is.
    let t = c.args.trees.now in
    let ss = c.args.graph.now.streams in
    let place : c.loop-i.i - 1 < length t.order = omega (arith, ap length c.requires.branches ∙ length_branches ss t) in
    let is_here : get_or (branches_of ss t) (c.loop-i.i - 1) None ≡ Some b = ap (λ (bs : List (Option Branch)). get_or bs (c.loop-i.i - 1) None) (sym c.requires.branches) ∙ is in
    subst (λ (n : ℕ). IsBranchWithin n b) (sym c.loop-i.invariant.each)
    (branches_within c.args.graph.now.nodes ss c.args.held.now t (c.loop-i.i - 1) b c.requires.trees place is_here)

pub settle-requires-clause-nets : goal.settle-requires-clause-nets
settle-requires-clause-nets c = λ i d lt.
    let small : unsigned_abs (item c.loop-i.out i) < 2 ^ 68 = c.loop-i.invariant.small i in
    rw (get_or_default c.loop-i.out i d (pos 0) lt) small

-- one more node is balanced
pub loop-i-preserved : goal.loop-i-preserved
loop-i-preserved c =
    let t = c.args.trees.now in
    let ss = c.args.graph.now.streams in
    let held = c.args.held.now in
    let off = c.args.off.now in
    let i : ℕ = c.loop-i.i - 1 in
    let out = c.loop-i.out in
    let place : i < length t.order = omega (arith, ap length c.requires.branches ∙ length_branches ss t) in
    let next : c.loop-i.i ≡ i + 1 = omega (arith, c.loop-i-test.true) in
    let limits = c.requires.limits in
    let before : AreBalancedFrom ss held off t (i + 1) out = subst (λ (n : ℕ). AreBalancedFrom ss held off t n out) next c.loop-i.invariant in
    let branch : get_or c.args.branches.now i None ≡ branch_from ss t (node_at t i) (up_of t (node_at t i)) =
    ap (λ (bs : List (Option Branch)). get_or bs i None) c.requires.branches ∙ branch_at ss t i place in
    let same : c.settle.new.out ≡ settled ss t (node_at t i) (up_of t (node_at t i)) out =
    c.settle.ensures ∙ ap (λ (b : Option Branch). settled_by b out) branch ∙ settled_is ss t (node_at t i) (up_of t (node_at t i)) out in
    subst (λ (v : List ℤ). AreBalancedFrom ss held off t i v) (sym same)
    (settle_more c.args.graph.now.nodes ss held off t i out c.requires.trees c.requires.marks limits.few_streams c.requires.given limits.joins place before)
