use Rattle.std.proofs.Common.{◌≡◌, ◌∙◌, pos, FitsSigned, refl, sym, ap, arith}
use mir.Syntax.{w128}
use mir.Val.{to_z, of_z}
use Rattle.std.proofs.lemmas.Int.{ints}
use Rattle.std.proofs.Math.Facts.{to_z-of_z}
use Rattle.pb_check.specs.Asked.{IsLeastOfGroup}
use Rattle.pb_check.proofs.GroupLemmas.{least_here, free_here, price_there, price_small, not_shared, not_fixed, has_price}
use Rattle.pb_check.proofs.prices.other_price.Goals.{else-price-ne0-via-then-price-ne0+else-not-free, else-price-ne0-via-else-price-ne0}
use Rattle.pb_check.proofs.prices.other_price.Goals as goal

pub returns-then-price-shared : goal.returns-then-price-shared
returns-then-price-shared c =
    let stage = c.args.stage.now in
    let n = c.args.node in
    let m = c.least.result in
    let least : IsLeastOfGroup stage.graph n m =
    least_here stage.graph c.args.groups.now n c.group-group.result m c.requires.groups c.requires.node c.group-group.ensures.value c.least.ensures in
    let price = price_there stage n c.at-price.result.now c.at-price.ensures in
    let shared = price_there stage m c.at-shared.result.now c.at-shared.ensures in
    let small = price_small stage m c.at-shared.result.now c.requires.formed c.at-shared.ensures in
    let fits : FitsSigned w128 c.at-shared.result.now = omega (arith, ints, small) in
    simp to_z-of_z (not_shared stage n m c.at-shared.result.now least (λ e. c.if-price-shared.true (ap (of_z w128) (sym price ∙ e ∙ shared))) (sym shared))

pub returns-then-not-free : goal.returns-then-not-free
returns-then-not-free c =
    let stage = c.args.stage.now in
    let n = c.args.node in
    let m = c.least.result in
    let least : IsLeastOfGroup stage.graph n m =
    least_here stage.graph c.args.groups.now n c.group-group.result m c.requires.groups c.requires.node c.group-group.ensures.value c.least.ensures in
    let price = price_there stage n c.at-price.result.now c.at-price.ensures in
    let shared = price_there stage m c.at-shared.result.now c.at-shared.ensures in
    let small = price_small stage m c.at-shared.result.now c.requires.formed c.at-shared.ensures in
    let small_price = price_small stage n c.at-price.result.now c.requires.formed c.at-price.ensures in
    let fits : FitsSigned w128 c.at-shared.result.now = omega (arith, ints, small) in
    let fits_price : FitsSigned w128 c.at-price.result.now = omega (arith, ints, small_price) in
    let same : c.at-price.result.now ≡ c.at-shared.result.now = simp to_z-of_z at (ap (to_z w128) c.if-price-shared.false) in
    let free = free_here stage.graph c.args.groups.now n c.group-group.result c.free.result c.requires.groups c.requires.node c.group-group.ensures.value c.free.ensures in
    not_fixed stage n m (pos 0) least (price ∙ same ∙ sym shared) (λ e. c.if-price-ne0.true (ap (of_z w128) (sym price ∙ e)))
    (λ is. cc (sym c.if-not-free.true ∙ free.1 is)) refl

pub returns : goal.returns
returns c =
    let stage = c.args.stage.now in
    let n = c.args.node in
    let m = c.least.result in
    let least : IsLeastOfGroup stage.graph n m =
    least_here stage.graph c.args.groups.now n c.group-group.result m c.requires.groups c.requires.node c.group-group.ensures.value c.least.ensures in
    let price = price_there stage n c.at-price.result.now c.at-price.ensures in
    let shared = price_there stage m c.at-shared.result.now c.at-shared.ensures in
    let small = price_small stage m c.at-shared.result.now c.requires.formed c.at-shared.ensures in
    let small_price = price_small stage n c.at-price.result.now c.requires.formed c.at-price.ensures in
    let fits : FitsSigned w128 c.at-shared.result.now = omega (arith, ints, small) in
    let fits_price : FitsSigned w128 c.at-price.result.now = omega (arith, ints, small_price) in
    let same : c.at-price.result.now ≡ c.at-shared.result.now = simp to_z-of_z at (ap (to_z w128) c.if-price-shared.false) in
    has_price stage n m least (price ∙ same ∙ sym shared) (elim c.else-price-ne0.branch [
      | else-price-ne0-via-then-price-ne0+else-not-free w ↦
          let free = free_here stage.graph c.args.groups.now n c.group-group.result w.free.result c.requires.groups c.requires.node c.group-group.ensures.value w.free.ensures in
          λ tied. absurd (tied (free.0 w.if-not-free.false))
      | else-price-ne0-via-else-price-ne0 w ↦
          let zero : c.at-price.result.now ≡ pos 0 = simp to_z-of_z at (ap (to_z w128) w.if-price-ne0.false) in
          λ tied. price ∙ zero
    ])
