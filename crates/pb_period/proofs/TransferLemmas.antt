-- What the facts at some places moved.
use Rattle.std.specs.Prelude.{◌&&◌, filter, filter_map, int_le, option_and_then}
use Rattle.std.specs.Int.{int_max, int_min}
use Rattle.std.specs.List.{cons_option}
use Rattle.std.proofs.Common.{◌≡◌, ◌∙◌, ◌<◌, ◌≤◌, ◌+◌, ℕ, ℤ, suc, List, [], ◌∷◌, length, drop, get_or, Bool, false, Option, Some, None, refl, sym, ap, arith, inl, inr, drop-cons}
use Rattle.std.proofs.lemmas.Bool.{cases_Bool}
use Rattle.std.proofs.lemmas.Int.{int_max_is, int_min_is, ints}
use Rattle.std.proofs.Math.ListN.{drop_of_length-le}
use Rattle.pb_rows.specs.Name.{same_name}
use Rattle.pb_facts.specs.declared.fact.Fact.{Fact}
use Rattle.pb_facts.specs.declared.fact.Fact.TheVariants.{Reading, Transfer, Dip}
use Rattle.pb_facts.specs.declared.facts.KeptFact.{KeptFact}
use Rattle.pb_facts.specs.Fact.{is_transfer_within}
use Rattle.pb_facts.specs.Facts.{HoldsTransfers, live_at, live_facts}
use Rattle.pb_period.specs.declared.amount.Amount.{Amount}
use Rattle.pb_period.specs.declared.days.Days.{Days}
use Rattle.pb_period.specs.Amounts.{sum_of_two, with_more}
use Rattle.pb_period.specs.Facts.{no_amount, total_of, transferred}
use Rattle.pb_period.proofs.AmountLemmas.{more_none, none_more, sum_assoc}

-- ---- a transfer without a day in common moves nothing

-- days that have no day in common
apart : (first last from to : ℤ) → (int_le first to && int_le from last) ≡ false → int_le (int_max from first) (int_min to last) ≡ false
apart first last from to none = elim (cases_Bool (int_le (int_max from first) (int_min to last))) [
  | inl some ↦
      let greatest = int_max_is from first in
      let least = int_min_is to last in
      elim (cases_Bool (int_le first to)) [
        | inl begins ↦ elim (cases_Bool (int_le from last)) [
          | inl ends ↦ absurd (cc (rw (begins, ends) at none))
          | inr late ↦ absurd (omega (arith, ints, some, late, greatest, least))
        ]
        | inr early ↦ absurd (omega (arith, ints, some, early, greatest, least))
      ]
  | inr is ↦ is
]

moves_nothing : (days : Days) (stream : List ℕ) (fact : Fact) → is_transfer_within stream days.first days.last fact ≡ false → transferred days stream fact ≡ None
moves_nothing days stream (Reading id own day grams variance) other = refl
moves_nothing days stream (Dip id tank day mm density variance) other = refl
moves_nothing days stream (Transfer id own first last grams variance) other = elim (cases_Bool (same_name own stream)) [
  | inl same ↦
      let none : (int_le first days.last && int_le days.first last) ≡ false = rw same at other in
      rw (same, apart first last days.first days.last none) refl
  | inr differs ↦ rw differs refl
]

-- ---- what is left out moves nothing

-- items that give nothing may be left out
without : {X Y : Type 0} (f : X → Option Y) (p : X → Bool) (xs : List X) → ((x : X) → p x ≡ false → f x ≡ None) → filter_map f xs ≡ filter_map f (filter p xs)
without f p [] nothing = refl
without f p (x ∷ xs) nothing = elim (cases_Bool (p x)) [
  | inl passes ↦ rw passes (ap (λ (ys : List _). cons_option (f x) ys) (without f p xs nothing))
  | inr fails ↦ rw (fails, nothing x fails) (without f p xs nothing)
]

-- the transfers at the places moved what all live facts moved
pub all_transferred : (days : Days) (stream : List ℕ) (kept : List KeptFact) (places : List ℕ) → HoldsTransfers kept stream days.first days.last places
    → filter_map (transferred days stream) (filter_map (live_at kept) places) ≡ filter_map (transferred days stream) (live_facts kept)
all_transferred days stream kept places holds =
    let f = transferred days stream in
    let within = is_transfer_within stream days.first days.last in
    let nothing = moves_nothing days stream in
    without f within (filter_map (live_at kept) places) nothing ∙ sym (ap (filter_map f) holds) ∙ sym (without f within (live_facts kept) nothing)

-- ---- place by place

-- what the facts from a place on moved
abbrev pub moved_from : Days → List ℕ → List KeptFact → List ℕ → ℕ → Amount
moved_from days stream kept places i = total_of (filter_map (transferred days stream) (filter_map (live_at kept) (drop i places)))

-- a total, and the remaining amounts, the first of which may join the total
join : (total : Amount) (o : Option Amount) (rest : List Amount) → sum_of_two total (total_of (cons_option o rest)) ≡ sum_of_two (with_more total o) (total_of rest)
join total None rest = refl
join total (Some more) rest = sym (sum_assoc total more (total_of rest))

-- an optional result of an optional value
chained : {X Y : Type 0} (f : X → Option Y) (o : Option X) (xs : List X) → filter_map f (cons_option o xs) ≡ cons_option (option_and_then f o) (filter_map f xs)
chained f None xs = refl
chained f (Some x) xs = refl

-- one more place
pub place_more : (days : Days) (stream : List ℕ) (kept : List KeptFact) (places : List ℕ) (i d : ℕ) (total : Amount) → i < length places
    → sum_of_two total (moved_from days stream kept places i)
    ≡ sum_of_two (with_more total (option_and_then (transferred days stream) (live_at kept (get_or places i d)))) (moved_from days stream kept places (i + 1))
place_more days stream kept places i d total lt =
    let f = transferred days stream in
    let place = get_or places i d in
    let next : suc i ≡ i + 1 = omega arith in
    let split : drop i places ≡ place ∷ drop (i + 1) places = drop-cons places i d lt ∙ ap (λ (k : ℕ). place ∷ drop k places) next in
    let rest = filter_map (live_at kept) (drop (i + 1) places) in
    ap (λ (ns : List ℕ). sum_of_two total (total_of (filter_map f (filter_map (live_at kept) ns)))) split
    ∙ ap (λ (ys : List Amount). sum_of_two total (total_of ys)) (chained f (live_at kept place) rest)
    ∙ join total (option_and_then f (live_at kept place)) (filter_map f rest)

-- no place yet, and none left
pub from_nothing : (days : Days) (stream : List ℕ) (kept : List KeptFact) (places : List ℕ) → sum_of_two no_amount (moved_from days stream kept places 0) ≡ moved_from days stream kept places 0
from_nothing days stream kept places = none_more (moved_from days stream kept places 0)

pub to_the_end : (days : Days) (stream : List ℕ) (kept : List KeptFact) (places : List ℕ) (i : ℕ) (total : Amount) → length places ≤ i
    → sum_of_two total (moved_from days stream kept places i) ≡ total
to_the_end days stream kept places i total past =
    ap (λ (ns : List ℕ). sum_of_two total (total_of (filter_map (transferred days stream) (filter_map (live_at kept) ns)))) (drop_of_length-le places past) ∙ more_none total
