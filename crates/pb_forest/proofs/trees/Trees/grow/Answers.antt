use Rattle.std.proofs.Common.{rules, ◌≡◌, Some, None, sym, subst}
use Rattle.pb_forest.specs.Trees.{RootedTrees, Extends, root_of}
use Rattle.pb_forest.proofs.TreeLemmas.{hung_root, extends_both}
use Rattle.pb_forest.proofs.trees.Trees.grow.Goals as goal

-- the node is a root
pub search-requires-clause-trees : goal.search-requires-clause-trees
search-requires-clause-trees c =
    let t = c.args.self.now in
    let new : root_of t c.args.node ≡ None = search rules in
    let is = hung_root c.args.graph.now.nodes c.args.graph.now.streams c.args.held.now t c.args.node c.requires.trees new c.requires.node in
    rw (c.len-first.ensures, c.in_ok-hang.ensures) is.growing

pub returns-in_ok-search-clause-trees : goal.returns-in_ok-search-clause-trees
returns-in_ok-search-clause-trees c =
    let t = c.args.self.now in
    let new : root_of t c.args.node ≡ None = search rules in
    let is = hung_root c.args.graph.now.nodes c.args.graph.now.streams c.args.held.now t c.args.node c.requires.trees new c.requires.node in
    record {
      growing = c.in_ok-search.ensures.growing;
      extends = extends_both t c.hang.new.self c.search.new.self (subst (λ (u : RootedTrees). Extends t u) (sym c.in_ok-hang.ensures) is.extends) c.in_ok-search.ensures.extends;
    }

pub returns-in_ok-search-clause-found : goal.returns-in_ok-search-clause-found
returns-in_ok-search-clause-found c =
    let t = c.args.self.now in
    let n = c.args.node in
    let new : root_of t n ≡ None = search rules in
    let is = hung_root c.args.graph.now.nodes c.args.graph.now.streams c.args.held.now t n c.requires.trees new c.requires.node in
    (n, c.in_ok-search.ensures.extends.kept n n (subst (λ (u : RootedTrees). root_of u n ≡ Some n) (sym c.in_ok-hang.ensures) is.found))
