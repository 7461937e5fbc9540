use Rattle.std.proofs.Common.{◌∙◌, ℕ, sym, subst}
use Rattle.pb_graph.specs.Walk.{ends_of, Reaches}
use Rattle.pb_graph.specs.Path.{is_open}
use Rattle.pb_graph.proofs.WalkLemmas.{reach_back}
use Rattle.pb_graph.proofs.FoundLemmas.{reached_found}
use Rattle.pb_graph.proofs.search.path.Goals as goal

-- a node that isn't found doesn't reach the root
pub returns-then-not-has : goal.returns-then-not-has
returns-then-not-has c = λ r.
    let ss = c.args.graph.now.streams in
    let may = is_open c.args.marks.now in
    let t = c.in_ok-tree.tree in
    let back = reach_back may ss c.args.from c.args.to r in
    let found = reached_found (ends_of may ss) c.args.graph.now.nodes t c.args.from c.in_ok-tree.ensures.search
    (subst (λ (n : ℕ). Reaches (ends_of may ss) n c.args.from) (sym c.in_ok-tree.ensures.root) back) in
    cc (sym (c.has.ensures.1 found) ∙ c.if-not-has.true)
