-- Three draws give a side stream.
use Rattle.std.proofs.Common.{◌≡◌, ◌∙◌, ℕ, suc, ◌+◌, ◌*◌, ap, arith, refl}
use Rattle.pb_make.specs.Draws.{draw_at, next_state, state_after_draws}
use Rattle.pb_make.specs.Plant.{side_at}
use Rattle.pb_make.proofs.Abbreviations.{side_by, upper_bits}

-- the state after one more draw
next_draw : (number draws more s t : ℕ) → s ≡ state_after_draws number draws → t ≡ next_state s → more ≡ suc draws → t ≡ state_after_draws number more
next_draw number draws more s t so_far is next =
    let one : more ≡ suc draws = next in
    is ∙ ap next_state so_far ∙ ap (state_after_draws number) (suc_is draws more one)
  where
    suc_is : (a b : ℕ) → b ≡ suc a → suc a ≡ b
    suc_is a b e = omega (arith, e)

-- a draw is the one at its place
pub draw_is : (number draws s t d : ℕ) → s ≡ state_after_draws number draws → t ≡ next_state s → d ≡ upper_bits t → d ≡ draw_at number draws
draw_is number draws s t d so_far is gives = gives ∙ ap upper_bits (is ∙ ap next_state so_far)

-- what three draws give
pub record AreThree (number place first second third state : ℕ) : Type 0 where
  pub first_is : first ≡ draw_at number (3 * place)
  pub second_is : second ≡ draw_at number (3 * place + 1)
  pub third_is : third ≡ draw_at number (3 * place + 2)
  pub state_is : state ≡ state_after_draws number (3 * (place + 1))

pub three_draws : (number place s t u v a b c : ℕ) → s ≡ state_after_draws number (3 * place) → t ≡ next_state s → u ≡ next_state t → v ≡ next_state u
    → a ≡ upper_bits t → b ≡ upper_bits u → c ≡ upper_bits v → AreThree number place a b c v
three_draws number place s t u v a b c so_far t_is u_is v_is a_is b_is c_is =
    let one = next_draw number (3 * place) (3 * place + 1) s t so_far t_is (omega arith) in
    let two = next_draw number (3 * place + 1) (3 * place + 2) t u one u_is (omega arith) in
    record {
      first_is = draw_is number (3 * place) s t a so_far t_is a_is;
      second_is = draw_is number (3 * place + 1) t u b one u_is b_is;
      third_is = draw_is number (3 * place + 2) u v c two v_is c_is;
      state_is = next_draw number (3 * place + 2) (3 * (place + 1)) u v two v_is (omega arith);
    }

-- one more draw after this many
pub one_draw : (number draws more s t : ℕ) → s ≡ state_after_draws number draws → t ≡ next_state s → more ≡ draws + 1 → t ≡ state_after_draws number more
one_draw number draws more s t so_far is next = next_draw number draws more s t so_far is (omega (arith, next))

-- the side stream of three draws
pub side_is : (number units place a b c v : ℕ) → AreThree number place a b c v → side_by units a b c ≡ side_at number units place
side_is number units place a b c v three = rw (three.first_is, three.second_is, three.third_is) refl
