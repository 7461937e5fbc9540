use Rattle.std.proofs.Common.{◌<◌, ◌∙◌, FitsSigned, arith, ap, ap₂, ℕ, ℤ}
use Rattle.std.specs.Prelude.{◌-ℤ◌}
use mir.Syntax.{w128}
use Rattle.std.proofs.lemmas.Int.{ints, to_z-of_z}
use Rattle.pb_facts.specs.Share.{share_of, up_to}
use Rattle.pb_facts.proofs.ShareLemmas.{IsPart, less_none, part, up_to_all, up_to_none}
use Rattle.pb_facts.proofs.shares.share.Goals as goal

pub returns-clause-whole : goal.returns-clause-whole
returns-clause-whole c = λ none all.
    let fits : FitsSigned w128 c.args.total = c.ranges.total in
    let upper : FitsSigned w128 c.up_to.result = omega (arith, ints, c.up_to.ensures.within) in
    let lower : FitsSigned w128 c.up_to-2.result = omega (arith, ints, c.up_to-2.ensures.within) in
    let share : FitsSigned w128 (c.up_to.result -ℤ c.up_to-2.result) =
    omega (arith, ints, c.up_to.ensures.within, c.up_to-2.ensures.within) in
    let some : 0 < c.args.days = omega (arith, c.requires.some_days) in
    let to_b = simp to_z-of_z at c.up_to.ensures.value in
    let to_a = simp to_z-of_z at c.up_to-2.ensures.value in
    simp to_z-of_z (
    ap₂ (λ (x y : ℤ). x -ℤ y) (to_b ∙ ap (λ (k : ℕ). up_to c.args.total c.args.days k) all ∙ up_to_all c.args.total c.args.days some)
    (to_a ∙ ap (λ (k : ℕ). up_to c.args.total c.args.days k) none ∙ up_to_none c.args.total c.args.days)
    ∙ less_none c.args.total)

pub returns-clause-no_more : goal.returns-clause-no_more
returns-clause-no_more c =
    let fits : FitsSigned w128 c.args.total = c.ranges.total in
    let upper : FitsSigned w128 c.up_to.result = omega (arith, ints, c.up_to.ensures.within) in
    let lower : FitsSigned w128 c.up_to-2.result = omega (arith, ints, c.up_to-2.ensures.within) in
    let share : FitsSigned w128 (c.up_to.result -ℤ c.up_to-2.result) =
    omega (arith, ints, c.up_to.ensures.within, c.up_to-2.ensures.within) in
    let to_b = simp to_z-of_z at c.up_to.ensures.value in
    let to_a = simp to_z-of_z at c.up_to-2.ensures.value in
    let is_part : IsPart c.args.total (share_of c.args.total c.args.days c.args.before c.args.until) =
    part c.args.total c.args.days c.args.before c.args.until (omega (arith, c.requires.some_days)) c.requires.order c.requires.within in
    simp to_z-of_z (rw (to_b, to_a) is_part.no_more)
