use Rattle.std.proofs.Common.{◌≡◌, ℕ, List, Bool, not, ◌==◌, map, Ok, Err, sym, subst}
use Rattle.std.specs.Result.{IfOk}
use Rattle.pb_graph.specs.Walk.{ends_of, IsReach}
use Rattle.pb_graph.specs.Path.{is_open}
use Rattle.pb_graph.proofs.FoundLemmas.{search_reach}
use Rattle.pb_graph.proofs.search.reach.Goals as goal

pub returns : goal.returns
returns c =
    let ss = c.args.graph.now.streams in
    let ends = ends_of (is_open c.args.marks.now) ss in
    let nodes = c.args.graph.now.nodes in
    let t = c.in_ok-search.field-0 in
    let found : List Bool = map (λ p. not (p == 0)) t.place in
    let is : IsReach ends nodes t.root found = search_reach (is_open c.args.marks.now) ss nodes t c.in_ok-search.ensures.search in
    let whole : IsReach ends nodes c.args.start found = subst (λ (n : ℕ). IsReach ends nodes n found) c.in_ok-search.ensures.root is in
    elim c.side-2.result as (λ r. IfOk r (λ side. side ≡ found) → IfOk r (λ side. IsReach ends nodes c.args.start side)) [
      | Ok side ↦ λ e. subst (λ (l : List Bool). IsReach ends nodes c.args.start l) (sym e) whole
      | Err e ↦ λ e. tt
    ] c.side-2.ensures
