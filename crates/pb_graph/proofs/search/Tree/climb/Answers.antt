use Rattle.std.proofs.Common.{◌≡◌, ◌≢◌, ◌∙◌, ℕ, [], ◌∷◌, ◌++◌, length, ap, subst, rules}
use Rattle.pb_graph.specs.declared.records.Step.{Step}
use Rattle.pb_graph.specs.Walk.{ends_of}
use Rattle.pb_graph.specs.Path.{is_open}
use Rattle.pb_graph.specs.Search.{way_of, end_of}
use Rattle.pb_graph.proofs.FoundLemmas.{Climbs, climb_more, climb_end}
use Rattle.pb_graph.proofs.search.Tree.climb.Goals as goal

-- one more step up the tree
pub loop-at-preserved : goal.loop-at-preserved
loop-at-preserved c =
    let t = c.args.self.now in
    let ss = c.args.streams.now in
    let away : c.loop-at.at ≢ t.root = search rules in
    let more = climb_more (is_open c.args.marks.now) ss (length t.place) t c.args.from c.loop-at.at c.loop-at.steps c.requires.tree away c.loop-at.invariant in
    let step : c.way_at-step.result ≡ way_of t c.loop-at.at = c.way_at-step.ensures in
    let end_is : c.end-at.result ≡ end_of ss (way_of t c.loop-at.at) = c.end-at.ensures ∙ ap (end_of ss) step in
    let steps_are : c.push.new.self ≡ c.loop-at.steps ++ way_of t c.loop-at.at ∷ [] = c.in_ok-push.ensures.ok ∙ ap (λ (s : Step). c.loop-at.steps ++ s ∷ []) step in
    rw (steps_are, end_is) more.0

-- each step leads to a node that was found before
pub loop-at-smaller : goal.loop-at-smaller
loop-at-smaller c =
    let t = c.args.self.now in
    let ss = c.args.streams.now in
    let away : c.loop-at.at ≢ t.root = search rules in
    let more = climb_more (is_open c.args.marks.now) ss (length t.place) t c.args.from c.loop-at.at c.loop-at.steps c.requires.tree away c.loop-at.invariant in
    let end_is : c.end-at.result ≡ end_of ss (way_of t c.loop-at.at) = c.end-at.ensures ∙ ap (end_of ss) c.way_at-step.ensures in
    rw end_is more.1

pub returns : goal.returns
returns c =
    let t = c.args.self.now in
    let ss = c.args.streams.now in
    let is : c.loop-at.at ≡ t.root = search rules in
    climb_end (ends_of (is_open c.args.marks.now) ss) (length t.place) ss t c.args.from c.loop-at.steps
    (subst (λ (n : ℕ). Climbs (ends_of (is_open c.args.marks.now) ss) (length t.place) ss t c.args.from c.loop-at.steps n) is c.loop-at.invariant)
