-- The first cause to refuse an edit, by the live fact of an id.
use Rattle.std.specs.Prelude.{◌&&◌, not, position}
use Rattle.std.specs.List.{list_any}
use Rattle.std.specs.Cmp.Lexicographic.{bytes_decides}
use Rattle.std.proofs.Common.{◌≡◌, ◌∙◌, ◌<◌, ℕ, List, [], Bool, true, false, Option, Some, None, get_or, length, slice_get, refl, sym, arith, inl, inr}
use Rattle.std.proofs.lemmas.Bool.{and_parts, cases_Bool, cases_lt}
use Rattle.std.proofs.lemmas.List.{get_or_default}
use Rattle.std.proofs.lemmas.List.Folds.{list_any_at, list_any_none}
use Rattle.std.proofs.lemmas.Option.{get_or_from_slice_get}
use Rattle.pb_site.specs.declared.declared.Declared.{Declared}
use Rattle.pb_site.specs.declared.declared.Version.TheVariants.{One}
use Rattle.pb_facts.specs.declared.fact.Change.{Change}
use Rattle.pb_facts.specs.declared.facts.KeptFact.{KeptFact}
use Rattle.pb_facts.specs.Changes.{changed, fits}
use Rattle.pb_facts.specs.Fact.{id_of}
use Rattle.pb_facts.specs.Facts.{NoRepeats, has_id, is_live_with, is_repeat}
use Rattle.pb_kinds.specs.declared.rows.Edit.{Edit}
use Rattle.pb_kinds.specs.declared.rows.Edit.TheVariants as edits
use Rattle.pb_kinds.specs.declared.rows.Effect.TheVariants.{Edits}
use Rattle.pb_book.specs.declared.answer.Refused.{Refused}
use Rattle.pb_book.specs.declared.answer.Refused.TheVariants.{Unknown}
use Rattle.pb_book.specs.Causes.{cause_of_change, cause_of_edit, is_misfit, is_moved_outside}
use Rattle.pb_book.specs.Refusals.{is_outside_table, refusal_behind}
use Rattle.pb_periods.proofs.PeriodLemmas.{none_at_first, position_at_first}

-- a live fact of an id repeats each kept fact of the id
repeats : (id : List ℕ) (a b : KeptFact) → is_live_with id a ≡ true → is_live_with id b ≡ true → is_repeat b.fact a ≡ true
repeats id a b first second =
    let one = and_parts (not a.struck) (has_id id a) first in
    let two = and_parts (not b.struck) (has_id id b) second in
    let a_is : id_of a.fact ≡ id = (bytes_decides (id_of a.fact) id).0 one.1 in
    let b_is : id_of b.fact ≡ id = (bytes_decides (id_of b.fact) id).0 two.1 in
    let same : has_id (id_of b.fact) a ≡ true = (bytes_decides (id_of a.fact) (id_of b.fact)).1 (a_is ∙ sym b_is) in
    rw same refl

-- at most one live fact has an id
pub only_live : (id : List ℕ) (kept : List KeptFact) (i k : ℕ) (d : KeptFact) → NoRepeats kept → i < length kept → is_live_with id (get_or kept i d) ≡ true → k < length kept
    → is_live_with id (get_or kept k d) ≡ true → k ≡ i
only_live id kept i k d apart within is lt also = elim (cases_lt i k) [
  | inl before ↦ cc (sym (apart i k d before lt) ∙ repeats id (get_or kept i d) (get_or kept k d) is also)
  | inr from ↦ elim (cases_lt k i) [
    | inl behind ↦ cc (sym (apart k i d behind within) ∙ repeats id (get_or kept k d) (get_or kept i d) also is)
    | inr to ↦ omega (arith, from, to)
  ]
]

-- some live fact of an id passes a test iff the one that is found does
any_live : (id : List ℕ) (q : KeptFact → Bool) (kept : List KeptFact) (i : ℕ) (k : KeptFact) → NoRepeats kept → Some i ≡ position (is_live_with id) kept → slice_get kept i ≡ Some k
    → list_any (λ (x : KeptFact). is_live_with id x && q x) kept ≡ q k
any_live id q kept i k apart is at =
    let found = position_at_first (is_live_with id) kept i k is in
    let here : get_or kept i k ≡ k = get_or_from_slice_get kept i k k at in
    elim (cases_Bool (q k)) [
      | inl passes ↦ list_any_at (λ (x : KeptFact). is_live_with id x && q x) kept i k found.0 (rw (found.1, here) passes) ∙ sym passes
      | inr fails ↦ list_any_none (λ (x : KeptFact). is_live_with id x && q x) kept (each found.0 found.1 here fails) ∙ sym fails
    ]
  where
    each : i < length kept → is_live_with id (get_or kept i k) ≡ true → get_or kept i k ≡ k → q k ≡ false → (n : ℕ) (d : KeptFact) → n < length kept
        → (is_live_with id (get_or kept n d) && q (get_or kept n d)) ≡ false
    each within live here fails n d lt = elim (cases_Bool (is_live_with id (get_or kept n d) && q (get_or kept n d))) [
      | inl both ↦
          let parts = and_parts (is_live_with id (get_or kept n d)) (q (get_or kept n d)) both in
          let at_d : get_or kept i d ≡ k = get_or_default kept i d k within ∙ here in
          let live_d : is_live_with id (get_or kept i d) ≡ true = rw (get_or_default kept i d k within) live in
          let same = only_live id kept i n d apart within live_d lt parts.0 in
          let passes : q k ≡ true = rw (same, at_d) at parts.1 in
          cc (sym fails ∙ passes)
      | inr none ↦ none
    ]

some_live : (id : List ℕ) (kept : List KeptFact) (i : ℕ) (d : KeptFact) → Some i ≡ position (is_live_with id) kept → list_any (is_live_with id) kept ≡ true
some_live id kept i d is = let found = position_at_first (is_live_with id) kept i d is in list_any_at (is_live_with id) kept i d found.0 found.1

-- an edit of no live fact
pub edit_unknown : (declared : List Declared) (kept : List KeptFact) (id : List ℕ) (edit : Edit) → None ≡ position (is_live_with id) kept
    → Some Unknown ≡ refusal_behind One declared kept [] [] (Edits id edit [])
edit_unknown declared kept id edit is = rw (none_at_first (is_live_with id) kept is) refl

change_cause : (declared : List Declared) (kept : List KeptFact) (id : List ℕ) (change : Change) (i : ℕ) (k : KeptFact) (cause : Option Refused)
    → Some i ≡ position (is_live_with id) kept → slice_get kept i ≡ Some k → NoRepeats kept → cause ≡ cause_of_change declared k.fact change
    → cause ≡ refusal_behind One declared kept [] [] (Edits id (edits.Change change) [])
change_cause declared kept id change i k cause is at apart cause_is =
    let misfit : list_any (is_misfit id change) kept ≡ not (fits change k.fact) = any_live id (λ (x : KeptFact). not (fits change x.fact)) kept i k apart is at in
    let outside : list_any (is_moved_outside declared id change) kept ≡ is_outside_table declared (changed change k.fact) =
    any_live id (λ (x : KeptFact). is_outside_table declared (changed change x.fact)) kept i k apart is at in
    rw (some_live id kept i k is, misfit, outside) cause_is

-- an edit of the live fact at a place
pub edit_cause : (declared : List Declared) (kept : List KeptFact) (id : List ℕ) (edit : Edit) (i : ℕ) (k : KeptFact) (cause : Option Refused)
    → Some i ≡ position (is_live_with id) kept → slice_get kept i ≡ Some k → NoRepeats kept → cause ≡ cause_of_edit declared k.fact edit
    → cause ≡ refusal_behind One declared kept [] [] (Edits id edit [])
edit_cause declared kept id (edits.Change change) i k cause is at apart cause_is = change_cause declared kept id change i k cause is at apart cause_is
edit_cause declared kept id edits.Strike i k cause is at apart cause_is = rw (some_live id kept i k is) cause_is
