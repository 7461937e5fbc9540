-- The worst suspect of a list of tests.
use Rattle.std.proofs.Common.{◌≡◌, ◌∙◌, ℕ, zero, suc, ℤ, ◌≤ℤ◌, ◌<ℤ◌, Bool, true, false, ◌||◌, List, [], ◌∷◌, ◌++◌, length, Option, Some, None, slice_get, append_assoc, append-nil, refl, sym, ap, ap₂, subst, inl, inr, arith}
use Rattle.std.specs.Prelude.{int_lt, if◌then◌else◌}
use Rattle.std.specs.List.{list_any}
use Rattle.std.proofs.lemmas.Bool.{cases_order}
use Rattle.std.proofs.lemmas.Int.{ints}
use Rattle.std.proofs.lemmas.Option.{slice_get_within}
use Rattle.pb_study.specs.declared.results.Verdict.{Verdict}
use Rattle.pb_study.specs.declared.results.Verdict.TheVariants.{Reject, Accept, Undecided, NoCritical, NoTest}
use Rattle.pb_study.specs.declared.results.MeasureTest.{MeasureTest}
use Rattle.pb_study.specs.declared.results.Taken.{Taken}
use Rattle.pb_graph.proofs.WalkLemmas.{some_same}
use Rattle.pb_elim.specs.Elimination.{IsSuspect, is_reject}
use Rattle.pb_elim.specs.Rounds.{is_suspect, IsWorst, worse, worse_of, worst_from}
use Rattle.pb_elim.proofs.ListLemmas.{each_push, get_last, get_push}

-- ---- verdicts
rejected_is : (v : Verdict) → is_reject v ≡ true → v ≡ Reject
rejected_is Reject is = refl
rejected_is Accept is = cc is
rejected_is Undecided is = cc is
rejected_is NoCritical is = cc is
rejected_is NoTest is = cc is

not_rejected : (v : Verdict) → is_reject v ≡ false → v ≡ Reject → ⊥
not_rejected v none is = cc (sym none ∙ ap is_reject is)

-- ---- no suspect
or_none : (a b : Bool) → (a || b) ≡ false → (a ≡ false) × (b ≡ false)
or_none true b none = cc none
or_none false b none = (refl, none)

-- no test of a list rejects
none_rejects : (tests : List MeasureTest) → list_any is_suspect tests ≡ false → (k : ℕ) (test : MeasureTest) → slice_get tests k ≡ Some test → test.verdict ≡ Reject → ⊥
none_rejects [] none k test at is = cc at
none_rejects (t ∷ tests) none zero test at is =
    let first : is_suspect t ≡ false = (or_none (is_suspect t) (list_any is_suspect tests) none).0 in
    not_rejected test.verdict (ap is_suspect (sym (some_same at)) ∙ first) is
none_rejects (t ∷ tests) none (suc k) test at is = none_rejects tests (or_none (is_suspect t) (list_any is_suspect tests) none).1 k test at is

-- ---- one more test
none_more : (before : List MeasureTest) (test : MeasureTest) → list_any is_suspect before ≡ false → is_suspect test ≡ false → list_any is_suspect (before ++ test ∷ []) ≡ false
none_more [] test none other = ap (λ (b : Bool). b || false) other
none_more (t ∷ before) test none other =
    let parts = or_none (is_suspect t) (list_any is_suspect before) none in
    ap₂ (λ (a b : Bool). a || b) parts.0 (none_more before test parts.1 other)

-- the suspect stays, if the test after it isn't worse
stays : (before : List MeasureTest) (test : MeasureTest) (t : Taken) → IsSuspect before t → (test.verdict ≡ Reject → test.low ≤ℤ t.low) → IsSuspect (before ++ test ∷ []) t
stays before test t is less =
    let within = slice_get_within before is.place is.test is.there in
    let low : t.low ≡ is.test.low = ap (λ (u : Taken). u.low) is.is in
    record {
      place = is.place;
      test = is.test;
      there = get_push before test is.place within ∙ is.there;
      rejected = is.rejected;
      is = is.is;
      greatest = each_push (λ k other. other.verdict ≡ Reject → other.low ≤ℤ is.test.low) before test is.greatest (λ rejected. subst (λ (z : ℤ). test.low ≤ℤ z) low (less rejected));
      earliest = λ k other lt at rejected. is.earliest k other lt (sym (get_push before test k (omega (arith, lt, within))) ∙ at) rejected;
    }

-- the test after them takes its place, if it is worse than all
comes : (before : List MeasureTest) (test : MeasureTest) → is_suspect test ≡ true
    → ((k : ℕ) (other : MeasureTest) → slice_get before k ≡ Some other → other.verdict ≡ Reject → other.low <ℤ test.low)
    → IsSuspect (before ++ test ∷ []) (record { stream = test.stream; low = test.low })
comes before test suspect less = record {
  place = length before;
  test = test;
  there = get_last before test;
  rejected = rejected_is test.verdict suspect;
  is = refl;
  greatest = each_push (λ k other. other.verdict ≡ Reject → other.low ≤ℤ test.low) before test
      (λ k other at rejected. omega (arith, ints, less k other at rejected)) (λ rejected. omega (arith, ints));
  earliest = λ k other lt at rejected. less k other (sym (get_push before test k lt) ∙ at) rejected;
}

-- what holds for either choice
pub pick : {A : Type 0} (b : Bool) (P : A → Type 0) (x y : A) → (b ≡ true → P x) → (b ≡ false → P y) → P (if b then x else y)
pick true P x y first second = first refl
pick false P x y first second = second refl

-- above the worst drop, and so above all
beyond : {before : List MeasureTest} (t : Taken) (is : IsSuspect before t) (low other : ℤ) → t.low <ℤ low → other ≤ℤ is.test.low → other <ℤ low
beyond t is low other above most =
    let same : t.low ≡ is.test.low = ap (λ (u : Taken). u.low) is.is in
    let less : is.test.low <ℤ low = subst (λ (z : ℤ). z <ℤ low) same above in
    omega (arith, ints, less, most)

-- a test that isn't of a suspect changes nothing
unsuspected : (before : List MeasureTest) (test : MeasureTest) (worst : Option Taken) → is_suspect test ≡ false → IsWorst before worst → IsWorst (before ++ test ∷ []) worst
unsuspected before test None none is = none_more before test is none
unsuspected before test (Some t) none is = stays before test t is (λ rejected. absurd (not_rejected test.verdict none rejected))

-- the test of a suspect takes the place of the worst, if it is worse
suspected : (before : List MeasureTest) (test : MeasureTest) (worst : Option Taken) → is_suspect test ≡ true → IsWorst before worst
    → IsSuspect (before ++ test ∷ []) (worse_of worst (record { stream = test.stream; low = test.low }))
suspected before test None suspect none = comes before test suspect (λ k other at rejected. absurd (none_rejects before none k other at rejected))
suspected before test (Some t) suspect is =
    pick (int_lt t.low test.low) (IsSuspect (before ++ test ∷ [])) (record { stream = test.stream; low = test.low }) t
    (λ more. comes before test suspect (λ k other at rejected. let most = is.greatest k other at rejected in beyond t is test.low other.low (omega (arith, ints, more)) most))
    (λ less. stays before test t is (λ rejected. omega (arith, ints, less)))

-- ---- the worst of a list
worst_more : (before : List MeasureTest) (test : MeasureTest) (worst : Option Taken) → IsWorst before worst → IsWorst (before ++ test ∷ []) (worse worst test)
worst_more before test worst is =
    pick (is_suspect test) (IsWorst (before ++ test ∷ [])) (Some (worse_of worst (record { stream = test.stream; low = test.low }))) worst
    (λ suspect. suspected before test worst suspect is)
    (λ unsuspicious. unsuspected before test worst unsuspicious is)

worst_behind : (before tests : List MeasureTest) (worst : Option Taken) → IsWorst before worst → IsWorst (before ++ tests) (worst_from worst tests)
worst_behind before [] worst is = subst (λ (xs : List MeasureTest). IsWorst xs worst) (sym (append-nil before)) is
worst_behind before (test ∷ tests) worst is =
    subst (λ (xs : List MeasureTest). IsWorst xs (worst_from worst (test ∷ tests))) (append_assoc before (test ∷ []) tests)
    (worst_behind (before ++ test ∷ []) tests (worse worst test) (worst_more before test worst is))

pub worst_is : (tests : List MeasureTest) → IsWorst tests (worst_from None tests)
worst_is tests = worst_behind [] tests None refl

-- ---- there is only one
pub one_suspect : (tests : List MeasureTest) (t u : Taken) → IsSuspect tests t → IsSuspect tests u → t ≡ u
one_suspect tests t u x y = elim (cases_order x.place y.place) [
  | inl same ↦
      let test : x.test ≡ y.test = some_same (sym x.there ∙ ap (slice_get tests) same ∙ y.there) in
      x.is ∙ ap (λ (m : MeasureTest). record { stream = m.stream; low = m.low }) test ∙ sym y.is
  | inr (inl before) ↦
      let less = y.earliest x.place x.test before x.there x.rejected in
      let most = x.greatest y.place y.test y.there y.rejected in
      absurd (omega (arith, ints, less, most))
  | inr (inr behind) ↦
      let less = x.earliest y.place y.test behind y.there y.rejected in
      let most = y.greatest x.place x.test x.there x.rejected in
      absurd (omega (arith, ints, less, most))
]
