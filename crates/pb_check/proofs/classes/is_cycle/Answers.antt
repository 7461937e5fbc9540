use Rattle.std.proofs.Common.{◌≡◌, refl, rules}
use Rattle.std.proofs.lemmas.Slice.Eq.{slice_eq-Decides}
use Rattle.pb_check.proofs.classes.is_cycle.Goals as goal

pub returns-in-Some : goal.returns-in-Some
returns-in-Some c =
    let told = rw c.in-Some.cycle-is at c.eq.ensures in
    let same : c.args.steps.now ≡ c.in-Some.cycle.now = (slice_eq-Decides (λ a b. search rules) c.args.steps.now c.in-Some.cycle.now c.eq.result told).0 c.if-eq.true in
    (λ t. rw same (rw c.in-Some.is at c.requires), λ is. refl)
