-- Assays: the sets that say which there are, and the grades that they give.
use Rattle.std.specs.Prelude.{◌||◌, IfSome, find, if◌then◌else◌, map, take}
use Rattle.std.specs.Cmp.Lexicographic.{bytes_decides}
use Rattle.std.specs.HashSet.{HashSet, contains}
use Rattle.std.specs.List.{list_any}
use Rattle.std.specs.Option.{option_map, option_or}
use Rattle.std.proofs.Common.{◌≡◌, ◌∙◌, ◌<◌, ℕ, suc, List, [], ◌∷◌, ◌++◌, get_or, length, slice_get, Bool, true, false, Option, Some, None, refl, sym, ap, arith, inl, inr, length-append}
use Rattle.std.proofs.lemmas.Bool.{and_parts, cases_Bool, or_parts}
use Rattle.std.proofs.lemmas.List.{get_or-take, get_or_default, length-take-le, map-append}
use Rattle.std.proofs.lemmas.List.Elements.{All-push}
use Rattle.std.proofs.lemmas.List.Folds.{find-append, list_any-append, list_any_at, list_any_none}
use Rattle.std.proofs.lemmas.List.Quantifiers.{all_pairs_push}
use Rattle.std.proofs.lemmas.Option.{get_or_from_slice_get, slice_get_within}
use Rattle.std.proofs.Math.Seq.{take-suc}
use Rattle.pb_facts.specs.Grade.{IsGrade}
use Rattle.pb_facts.specs.declared.grade.Grade.{Grade}
use Rattle.pb_rows.specs.Name.{same_name}
use Rattle.pb_facts.specs.Assays.{AreUnlike, grade_among, is_assay_of, is_assay_over, is_like, most_assays}
use Rattle.pb_facts.specs.declared.assays.Assay.{Assay}
use Rattle.pb_facts.specs.Kept.{AreAssays, same_three, same_two}

-- ---- the sets, with one more assay

-- no assay of the list is like a new one
unlike_at : (test : Assay → Bool) (assays : List Assay) (k : ℕ) (d : Assay) → list_any test assays ≡ false → k < length assays → test (get_or assays k d) ≡ false
unlike_at test assays k d none lt = elim (cases_Bool (test (get_or assays k d))) [
  | inl passes ↦ cc (sym none ∙ list_any_at test assays k d lt passes)
  | inr fails ↦ fails
]

either : (b x : Bool) → (if b then true else x) ≡ (x || (b || false))
either true true = refl
either true false = refl
either false true = refl
either false false = refl

joined : (test : Assay → Bool) (assays : List Assay) (assay : Assay) → (if test assay then true else list_any test assays) ≡ list_any test (assays ++ assay ∷ [])
joined test assays assay = either (test assay) (list_any test assays) ∙ sym (list_any-append test assays (assay ∷ []))

pub assays_push : {S T : Type 0} (assays : List Assay) (all more_all : HashSet ((List ℕ × List ℕ) × List ℕ) S) (overs more_overs : HashSet (List ℕ × List ℕ) T) (assay : Assay)
    → AreAssays assays all overs → IsGrade assay.grade → list_any (is_like assay) assays ≡ false → length assays < most_assays
    → ((q : (List ℕ × List ℕ) × List ℕ) → contains same_three more_all q ≡ (if same_three ((assay.component, assay.period), assay.stream) q then true else contains same_three all q))
    → ((q : List ℕ × List ℕ) → contains same_two more_overs q ≡ (if same_two (assay.component, assay.period) q then true else contains same_two overs q))
    → AreAssays (assays ++ assay ∷ []) more_all more_overs
assays_push assays all more_all overs more_overs assay right grade new room put_all put_over = record {
  each = λ component period stream.
      put_all ((component, period), stream)
      ∙ ap (λ (b : Bool). if is_assay_of component period stream assay then true else b) (right.each component period stream)
      ∙ joined (is_assay_of component period stream) assays assay;
  over = λ component period.
      put_over (component, period)
      ∙ ap (λ (b : Bool). if is_assay_over component period assay then true else b) (right.over component period)
      ∙ joined (is_assay_over component period) assays assay;
  apart = all_pairs_push (λ (a b : Assay). is_like b a ≡ false) assays assay right.apart (λ k d lt. unlike_at (is_like assay) assays k d new lt);
  grades = All-push (λ (a : Assay). IsGrade a.grade) assays assay right.grades grade;
  few = omega (arith, room, length-append assays (assay ∷ []));
}

-- sets that have the same keys
pub assays_same_keys : {S T : Type 0} (assays : List Assay) (all other_all : HashSet ((List ℕ × List ℕ) × List ℕ) S) (overs other_overs : HashSet (List ℕ × List ℕ) T)
    → AreAssays assays all overs → ((q : (List ℕ × List ℕ) × List ℕ) → contains same_three other_all q ≡ contains same_three all q)
    → ((q : List ℕ × List ℕ) → contains same_two other_overs q ≡ contains same_two overs q) → AreAssays assays other_all other_overs
assays_same_keys assays all other_all overs other_overs right same_all same_overs = record {
  each = λ component period stream. same_all ((component, period), stream) ∙ right.each component period stream;
  over = λ component period. same_overs (component, period) ∙ right.over component period;
  apart = right.apart;
  grades = right.grades;
  few = right.few;
}

-- ---- the grades

-- an assay of a component, a period and a stream is like any other assay of these
like_of : (component period stream : List ℕ) (a b : Assay) → is_assay_of component period stream a ≡ true → is_assay_of component period stream b ≡ is_like a b
like_of component period stream a b is =
    let parts = and_parts (is_assay_over component period a) (same_name a.stream stream) is in
    let over = and_parts (same_name a.component component) (same_name a.period period) parts.0 in
    let component_is : a.component ≡ component = (bytes_decides a.component component).0 over.0 in
    let period_is : a.period ≡ period = (bytes_decides a.period period).0 over.1 in
    let stream_is : a.stream ≡ stream = (bytes_decides a.stream stream).0 parts.1 in
    rw (component_is, period_is, stream_is) refl

found_none : (test : Assay → Bool) (assays : List Assay) → list_any test assays ≡ false → find test assays ≡ None
found_none test [] none = refl
found_none test (a ∷ assays) none =
    let parts = or_parts (test a) (list_any test assays) none in
    rw parts.0 (found_none test assays parts.1)

-- no assay before one is of its component, period and stream
none_before : (component period stream : List ℕ) (assays : List Assay) (i : ℕ) (one : Assay) → AreUnlike assays → i < length assays
    → get_or assays i one ≡ one → is_assay_of component period stream one ≡ true → find (is_assay_of component period stream) (take i assays) ≡ None
none_before component period stream assays i one apart lt here is =
    found_none (is_assay_of component period stream) (take i assays) (list_any_none (is_assay_of component period stream) (take i assays) each)
  where
    each : (k : ℕ) (d : Assay) → k < length (take i assays) → is_assay_of component period stream (get_or (take i assays) k d) ≡ false
    each k d within =
        let before : k < i = omega (arith, within, lt, length-take-le i assays (omega (arith, lt))) in
        let one_is : get_or assays i d ≡ one = get_or_default assays i d one lt ∙ here in
        let unlike : is_like one (get_or assays k d) ≡ false = rw one_is at (apart k i d before lt) in
        rw (get_or-take i assays k d before) (like_of component period stream one (get_or assays k d) is ∙ unlike)

option_or_none : {X : Type 0} (o : Option X) → option_or o None ≡ o
option_or_none None = refl
option_or_none (Some x) = refl

-- the grade among the assays up to one more
grade_more : (assays : List Assay) (i : ℕ) (one : Assay) (component period stream : List ℕ) → AreUnlike assays → slice_get assays i ≡ Some one
    → grade_among (take (suc i) assays) component period stream
    ≡ (if is_assay_of component period stream one then Some one.grade else grade_among (take i assays) component period stream)
grade_more assays i one component period stream apart at =
    let lt = slice_get_within assays i one at in
    let here : get_or assays i one ≡ one = get_or_from_slice_get assays i one one at in
    let all : find test (take (suc i) assays) ≡ option_or (find test (take i assays)) (find test (one ∷ [])) =
    ap (find test) (take-suc assays i one lt ∙ ap (λ (a : Assay). take i assays ++ a ∷ []) here) ∙ find-append test (take i assays) (one ∷ []) in
    ap (option_map grade) all ∙ elim (cases_Bool (test one)) [
      | inl is ↦ rw (none_before component period stream assays i one apart lt here is, is) refl
      | inr other ↦ rw other (ap (option_map grade) (option_or_none (find test (take i assays))))
    ]
  where
    test : Assay → Bool
    test = is_assay_of component period stream

    grade : Assay → Grade
    grade assay = assay.grade

-- with one more assay of the component over the period, whose grade joins the map, and with one more assay of something else
pub grade_put : (assays : List Assay) (i : ℕ) (one : Assay) (component period stream : List ℕ) (old new : Option Grade) → AreUnlike assays
    → slice_get assays i ≡ Some one → is_assay_over component period one ≡ true → new ≡ (if same_name one.stream stream then Some one.grade else old)
    → old ≡ grade_among (take i assays) component period stream → new ≡ grade_among (take (suc i) assays) component period stream
grade_put assays i one component period stream old new apart at over put so_far =
    put ∙ ap (λ (o : Option Grade). if same_name one.stream stream then Some one.grade else o) so_far ∙ sym (grade_more assays i one component period stream apart at ∙ rw over refl)

pub grade_passed : (assays : List Assay) (i : ℕ) (one : Assay) (component period stream : List ℕ) (old : Option Grade) → AreUnlike assays
    → slice_get assays i ≡ Some one → is_assay_over component period one ≡ false
    → old ≡ grade_among (take i assays) component period stream → old ≡ grade_among (take (suc i) assays) component period stream
grade_passed assays i one component period stream old apart at other so_far = so_far ∙ sym (grade_more assays i one component period stream apart at ∙ rw other refl)

-- a grade that is put, or was there, is within its limits
pub grade_within : (b : Bool) (grade : Grade) (old : Option Grade) → IsGrade grade → IfSome old IsGrade → IfSome (if b then Some grade else old) IsGrade
grade_within true grade old is before = is
grade_within false grade old is before = before

-- ---- the grades of several streams

-- the images of the items up to one more
pub images_more : {X Y : Type 0} (f : X → Y) (xs : List X) (i : ℕ) (x : X) → i < length xs → x ≡ get_or xs i x → map f (take (suc i) xs) ≡ map f (take i xs) ++ f x ∷ []
images_more f xs i x lt is =
    ap (map f) (take-suc xs i x lt) ∙ map-append f (take i xs) (get_or xs i x ∷ []) ∙ ap (λ y. map f (take i xs) ++ f y ∷ []) (sym is)
