use Rattle.std.proofs.Common.{rules, ◌≡◌, true, false, get_or, sym, subst, inl, inr}
use Rattle.std.proofs.lemmas.Bool.{cases_Bool}
use Rattle.pb_graph.specs.ProcessGraph.{ProcessGraph}
use Rattle.pb_graph.specs.Walk.{ends_of, Reaches}
use Rattle.pb_graph.specs.Path.{IsPath, is_open}
use Rattle.pb_graph.proofs.WalkLemmas.{reach_back}
use Rattle.pb_advise.specs.Choice.{stays_unmeasured}
use Rattle.pb_advise.proofs.PathLemmas.{forest_joins, path_stays}
use Rattle.pb_advise.proofs.advice.cycle_of.Goals as goal

pub returns-in-None : goal.returns-in-None
returns-in-None c = elim (cases_Bool (get_or c.args.chosen.now c.args.j false)) [
  | inr off ↦ off
  | inl on ↦
      let g = c.args.graph.now in
      let chosen = c.args.chosen.now in
      let s = c.stream-stream.result in
      let stays = stays_unmeasured chosen in
      let is = c.requires.forest.graph in
      let r = forest_joins chosen c.args.forest.now.held g.streams s.to s.from c.requires.forest.marks
      (reach_back stays g.streams s.from s.to (c.requires.joined c.args.j s c.stream-stream.ensures on)) in
      let joined = subst (λ (q : ProcessGraph). Reaches (ends_of (is_open c.args.forest.now.held) q.streams) s.to s.from) (sym is) r in
      let apart = rw c.in-None.is at c.in_ok-path.ensures.path in
      absurd (apart joined)
]

pub returns-in_ok-forward_then-in-Some : goal.returns-in_ok-forward_then-in-Some
returns-in_ok-forward_then-in-Some c =
    let g = c.args.graph.now in
    let chosen = c.args.chosen.now in
    let s = c.stream-stream.result in
    let stays = stays_unmeasured chosen in
    let held = c.args.forest.now.held in
    let on : get_or chosen c.args.j false ≡ true = search rules in
    let tied = reach_back stays g.streams s.from s.to (c.requires.joined c.args.j s c.stream-stream.ensures on) in
    let path = rw c.in-Some.is at c.in_ok-path.ensures.path in
    let whole = subst (λ (q : ProcessGraph). IsPath (ends_of (is_open held) q.streams) q.nodes q.streams s.to c.in-Some.back s.from) c.requires.forest.graph path in (
      on,
      record {
        s = s;
        at = c.stream-stream.ensures;
        back = c.in-Some.back;
        path = path_stays g.nodes chosen held g.streams s.to s.from c.in-Some.back c.requires.forest.marks tied whole;
        round = search rules;
      },
    )
