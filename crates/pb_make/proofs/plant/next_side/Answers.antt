use Rattle.std.proofs.Common.{◌≡◌, ◌∙◌, ℕ, ◌*◌, ap, sym}
use Rattle.pb_make.specs.Draws.{state_after_draws}
use Rattle.pb_make.proofs.Abbreviations.{side_by, upper_bits}
use Rattle.pb_make.proofs.DrawLemmas.{AreThree, side_is, three_draws}
use Rattle.pb_make.proofs.plant.next_side.Goals as goal

three : (c : goal.After-side_by) (number place : ℕ) → c.args.draws.now.state ≡ state_after_draws number (3 * place)
    → AreThree number place c.draw-first.result c.draw-second.result c.draw-third.result c.draw-third.new.self.state
three c number place begins =
    three_draws number place c.args.draws.now.state c.draw-first.new.self.state c.draw-second.new.self.state c.draw-third.new.self.state
    c.draw-first.result c.draw-second.result c.draw-third.result begins c.draw-first.ensures.state c.draw-second.ensures.state c.draw-third.ensures.state
    (c.draw-first.ensures.value ∙ up (c.draw-first.ensures.state)) (c.draw-second.ensures.value ∙ up (c.draw-second.ensures.state)) (c.draw-third.ensures.value ∙ up (c.draw-third.ensures.state))
  where
    up : {a b : ℕ} → a ≡ b → upper_bits b ≡ upper_bits a
    up e = ap upper_bits (sym e)

pub returns-clause-value : goal.returns-clause-value
returns-clause-value c = λ number place begins.
    let is : c.side_by.result ≡ side_by c.args.units c.draw-first.result c.draw-second.result c.draw-third.result =
    λ i. record { from = c.side_by.ensures.from i; to = c.side_by.ensures.to i; truth = c.side_by.ensures.truth i } in
    is ∙ side_is number c.args.units place _ _ _ _ (three c number place begins)

pub returns-clause-state : goal.returns-clause-state
returns-clause-state c = λ number place begins. (three c number place begins).state_is
