-- If a price and the greatest price together are within the least room, the interval of a border contains the price.
use Rattle.std.proofs.Common.{◌≡◌, ◌^◌, ◌<◌, ◌≤◌, ℕ, ◌+◌, ℤ, pos, neg_ℤ, ◌+ℤ◌, ◌-ℤ◌, ◌≤ℤ◌, List, [], ◌∷◌, length, get_or, drop, inl, inr, refl, ap, arith, unsigned_abs}
use Rattle.std.specs.Prelude.{int_lt}
use Rattle.std.specs.Int.{int_max, int_min}
use Rattle.std.specs.List.{All, AllByRecursion}
use Rattle.std.proofs.lemmas.Bool.{cases_Bool}
use Rattle.std.proofs.lemmas.Int.{int_max_is, int_min_is, ints}
use Rattle.pb_fixed.proofs.Lists.{AllByRecursion-from_all, drop_next}
use Rattle.pb_dual.specs.declared.border.BorderStream.{BorderStream}
use Rattle.pb_dual.specs.Best.{clamped}
use Rattle.pb_dual.specs.Border.{AreBorder, IsBorderStream, IsGreatest, border_low, border_high, border_room}

-- one more stream
pub room_more : (room : ℤ) (border : List BorderStream) (i : ℕ) (d : BorderStream) → i < length border
    → border_room room (drop i border) ≡ border_room (int_min room (get_or border i d).room) (drop (i + 1) border)
room_more room border i d lt = ap (border_room room) (drop_next border i d lt)

min_left : (a b : ℤ) → int_min a b ≤ℤ a
min_left a b = omega (arith, ints, int_min_is a b)

min_right : (a b : ℤ) → int_min a b ≤ℤ b
min_right a b = omega (arith, ints, int_min_is a b)

max_of : (a b c : ℤ) → a ≤ℤ c → b ≤ℤ c → int_max a b ≤ℤ c
max_of a b c h k = omega (arith, ints, h, k, int_max_is a b)

min_of : (a b c : ℤ) → c ≤ℤ a → c ≤ℤ b → c ≤ℤ int_min a b
min_of a b c h k = omega (arith, ints, h, k, int_min_is a b)

at_most : (a b c : ℤ) → a ≤ℤ b → b ≤ℤ c → a ≤ℤ c
at_most a b c h k = omega (arith, ints, h, k)

-- the least room is at most the bound before it, and at most each room
pub room_within : (room : ℤ) (border : List BorderStream) → border_room room border ≤ℤ room
room_within room [] = omega (arith, ints)
room_within room (a ∷ border) = at_most (border_room (int_min room a.room) border) (int_min room a.room) room (room_within (int_min room a.room) border) (min_left room a.room)

pub room_each : (room : ℤ) (border : List BorderStream) → AllByRecursion (λ a. border_room room border ≤ℤ a.room) border
room_each room [] = tt
room_each room (a ∷ border) = (
  at_most (border_room (int_min room a.room) border) (int_min room a.room) a.room (room_within (int_min room a.room) border) (min_right room a.room),
  room_each (int_min room a.room) border,
)

-- prices at the other ends are small
abbrev Others : List ℤ → ℤ → List BorderStream → Type 0
Others prices greatest border = AllByRecursion (λ a. pos (unsigned_abs (get_or prices a.other (pos 0))) ≤ℤ greatest) border

within_low : (o room c greatest least : ℤ) → pos (unsigned_abs o) ≤ℤ greatest → least ≤ℤ room → (pos (unsigned_abs c) +ℤ greatest) ≤ℤ least → (o -ℤ room) ≤ℤ c
within_low o room c greatest least h k l = omega (arith, ints, h, k, l)

within_high : (o room c greatest least : ℤ) → pos (unsigned_abs o) ≤ℤ greatest → least ≤ℤ room → (pos (unsigned_abs c) +ℤ greatest) ≤ℤ least → c ≤ℤ (o +ℤ room)
within_high o room c greatest least h k l = omega (arith, ints, h, k, l)

low_within : (prices : List ℤ) (lo c greatest least : ℤ) (border : List BorderStream) → Others prices greatest border → AllByRecursion (λ a. least ≤ℤ a.room) border
    → (pos (unsigned_abs c) +ℤ greatest) ≤ℤ least → lo ≤ℤ c → border_low prices lo border ≤ℤ c
low_within prices lo c greatest least [] o r h l = l
low_within prices lo c greatest least (a ∷ border) o r h l =
    let other = get_or prices a.other (pos 0) in
    low_within prices (int_max lo (other -ℤ a.room)) c greatest least border o.1 r.1 h (max_of lo (other -ℤ a.room) c l (within_low other a.room c greatest least o.0 r.0 h))

high_within : (prices : List ℤ) (hi c greatest least : ℤ) (border : List BorderStream) → Others prices greatest border → AllByRecursion (λ a. least ≤ℤ a.room) border
    → (pos (unsigned_abs c) +ℤ greatest) ≤ℤ least → c ≤ℤ hi → c ≤ℤ border_high prices hi border
high_within prices hi c greatest least [] o r h l = l
high_within prices hi c greatest least (a ∷ border) o r h l =
    let other = get_or prices a.other (pos 0) in
    high_within prices (int_min hi (other +ℤ a.room)) c greatest least border o.1 r.1 h (min_of hi (other +ℤ a.room) c l (within_high other a.room c greatest least o.0 r.0 h))

others : (prices : List ℤ) (greatest : ℤ) (border : List BorderStream) (k : ℕ) → AllByRecursion (IsBorderStream prices k) border → All (λ p. pos (unsigned_abs p) ≤ℤ greatest) prices
    → Others prices greatest border
others prices greatest [] k b g = tt
others prices greatest (a ∷ border) k b g = (g a.other (pos 0) b.0.group, others prices greatest border k b.1 g)

held : (lo hi c : ℤ) → lo ≤ℤ c → c ≤ℤ hi → clamped lo hi c ≡ c
held lo hi c h k = elim (cases_Bool (int_lt c lo)) [
  | inl low ↦ absurd (omega (arith, ints, h, low))
  | inr not_low ↦ rw not_low (elim (cases_Bool (int_lt hi c)) [ inl high ↦ absurd (omega (arith, ints, k, high)) | inr not_high ↦ rw not_high refl ])
]

pub held_in_box : (prices : List ℤ) (k : ℕ) (border : List BorderStream) (c room greatest : ℤ) → AreBorder prices k border → room ≡ border_room (pos (2 ^ 112)) border → IsGreatest greatest prices
    → (pos (unsigned_abs c) +ℤ greatest) ≤ℤ room → clamped (border_low prices (neg_ℤ (pos (2 ^ 120))) border) (border_high prices (pos (2 ^ 120)) border) c ≡ c
held_in_box prices k border c room greatest are is greater h =
    let least = border_room (pos (2 ^ 112)) border in
    let at : (pos (unsigned_abs c) +ℤ greatest) ≤ℤ least = omega (arith, ints, is, h) in
    let o = others prices greatest border k (AllByRecursion-from_all (IsBorderStream prices k) border are.each) greater.above in
    let r = room_each (pos (2 ^ 112)) border in
    let most = room_within (pos (2 ^ 112)) border in
    let from = greater.from in
    held (border_low prices (neg_ℤ (pos (2 ^ 120))) border) (border_high prices (pos (2 ^ 120)) border) c
    (low_within prices (neg_ℤ (pos (2 ^ 120))) c greatest least border o r at (omega (arith, ints, at, most, from)))
    (high_within prices (pos (2 ^ 120)) c greatest least border o r at (omega (arith, ints, at, most, from)))

-- no price is above 2^120, either way
pub prices_within : (greatest : ℤ) (prices : List ℤ) → IsGreatest greatest prices → All (λ p. unsigned_abs p ≤ 2 ^ 120) prices
prices_within greatest prices h k d lt = let above = h.above k d lt in omega (arith, ints, above, h.to)

-- the least room of a border is small
min_size : (a b : ℤ) → unsigned_abs a ≤ 2 ^ 112 → unsigned_abs b ≤ 2 ^ 112 → unsigned_abs (int_min a b) ≤ 2 ^ 112
min_size a b h k = omega (arith, ints, h, k, int_min_is a b)

room_small : (k : ℕ) (prices : List ℤ) (room : ℤ) (border : List BorderStream) → unsigned_abs room ≤ 2 ^ 112 → AllByRecursion (IsBorderStream prices k) border → unsigned_abs (border_room room border) ≤ 2 ^ 112
room_small k prices room [] h r = h
room_small k prices room (a ∷ border) h r = room_small k prices (int_min room a.room) border (min_size room a.room h r.0.space) r.1

pub room_size : (prices : List ℤ) (k : ℕ) (border : List BorderStream) → AreBorder prices k border → unsigned_abs (border_room (pos (2 ^ 112)) border) ≤ 2 ^ 112
room_size prices k border h = room_small k prices (pos (2 ^ 112)) border (omega arith) (AllByRecursion-from_all (IsBorderStream prices k) border h.each)
