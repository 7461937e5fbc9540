-- Results that were looked up: a name that no stream has gets their number as its place.
use Rattle.std.specs.Prelude.{◌≢◌, ◌==◌, not, map, Result, Ok, Err}
use Rattle.std.specs.List.{list_any, position, position_or_len}
use Rattle.std.proofs.Common.{◌≡◌, ◌∙◌, ℕ, ◌≤◌, List, [], ◌∷◌, length, Bool, true, false, None, refl, sym, ap, arith, inl, inr}
use Rattle.std.proofs.lemmas.Bool.{cases_Bool}
use Rattle.std.proofs.lemmas.List.{length-map}
use Rattle.pb_rows.specs.Name.{same_name}
use Rattle.pb_graph.specs.declared.records.Member.{Member}
use Rattle.pb_graph.specs.declared.records.Step.{Step}
use Rattle.pb_study.specs.declared.results.StreamResult.{StreamResult}
use Rattle.pb_form.specs.declared.output.OutputKind.{OutputKind}
use Rattle.pb_form.specs.declared.output.OutputKind.TheVariants.{Stream, StreamBefore, End}
use Rattle.pb_blocks.specs.declared.fault.RowFault.{RowFault}
use Rattle.pb_blocks.specs.declared.rows.Heading.{Heading}
use Rattle.pb_choices.specs.declared.places.Shape.{Shape}
use Rattle.pb_choices.specs.declared.places.Shape.TheVariants.{Cut, Cycle}
use Rattle.pb_blocks.specs.declared.rows.StreamRow.{StreamRow}
use Rattle.pb_blocks.specs.Kinds.{kind_among}
use Rattle.pb_blocks.specs.Lists.{is_among, items, member_of, part_name, place_of, step_of}
use Rattle.pb_blocks.specs.Held.{names_no_stream}
use Rattle.pb_blocks.specs.Results.{has_unknown_part, result_of, witness_by}
use Rattle.pb_blocks.proofs.NameLemmas.{any_place, none_place}
use Rattle.pb_readback.specs.declared.draft.Draft.{Draft}
use Rattle.pb_readback.specs.Drafts.{draft_of, draft_with_row, kinds_next, with_rows}
use Rattle.pb_readback.specs.Faults.{first_unknown}
use Rattle.pb_readback.specs.Reading.{IsReadTo, IsUnderWay, KeepsResults, has_stream, is_on_stream, is_stream_kind}
use Rattle.pb_readback.proofs.NextLemmas.{is_end, rows_complete}
use Rattle.pb_readback.proofs.ReadingLemmas.{not_below, told_if}

same_number : (n : ℕ) → (n == n) ≡ true
same_number n = grind arith

-- a name isn't one of these exactly when its place is their number
unplaced : (names : List (List ℕ)) (name : List ℕ) → (place_of names name == length names) ≡ not (is_among names name)
unplaced names name = elim (cases_Bool (is_among names name)) [
  | inl there ↦
      let at = any_place (same_name name) names there in
      let other : (place_of names name == length names) ≡ false = grind (arith, at) in
      rw there other
  | inr absent ↦ rw (none_place (same_name name) names absent, absent) (same_number (length names))
]

-- ---- a test of what was made of items

any_of_made : {A B : Type 0} (made : A → B) (test : B → Bool) (before : A → Bool) (xs : List A) → ((x : A) → test (made x) ≡ before x)
    → list_any test (map made xs) ≡ list_any before xs
any_of_made made test before [] same = refl
any_of_made made test before (x ∷ xs) same = elim (cases_Bool (before x)) [
  | inl holds ↦ rw (same x, holds) refl
  | inr fails ↦ rw (same x, fails) (any_of_made made test before xs same)
]

place_of_made : {A B : Type 0} (made : A → B) (test : B → Bool) (before : A → Bool) (xs : List A) → ((x : A) → test (made x) ≡ before x)
    → position_or_len test (map made xs) ≡ position_or_len before xs
place_of_made made test before [] same = refl
place_of_made made test before (x ∷ xs) same = elim (cases_Bool (before x)) [
  | inl here ↦ rw (same x, here) refl
  | inr later ↦ let rest = place_of_made made test before xs same in rw (same x, later) (omega (arith, rest))
]

first_of_made : {A B : Type 0} (made : A → B) (test : B → Bool) (before : A → Bool) (xs : List A) → ((x : A) → test (made x) ≡ before x)
    → position test (map made xs) ≡ position before xs
first_of_made made test before xs same = rw (place_of_made made test before xs same, length-map xs made) refl

-- ---- unknown parts

unknown_in : (shape : Shape) (streams : List (List ℕ)) (row : StreamRow) → has_stream (length streams) (witness_by shape streams row) ≡ has_unknown_part streams row
unknown_in Cut streams row =
    any_of_made (member_of streams) (λ (m : Member). m.stream == length streams) (names_no_stream streams) (items row.parts) (λ part. unplaced streams (part_name part))
unknown_in Cycle streams row =
    any_of_made (step_of streams) (λ (t : Step). t.stream == length streams) (names_no_stream streams) (items row.parts) (λ part. unplaced streams (part_name part))

-- the first unknown part follows from the results
pub told_by_results : (draft : Draft) (results : List StreamResult) → length draft.streams ≡ draft.heading.streams → results ≡ map (result_of draft.streams) draft.rows
    → position (is_on_stream draft.heading.streams) results ≡ first_unknown draft
told_by_results draft results all are =
    let whole : (length draft.streams == draft.heading.streams) ≡ true = grind (arith, all) in
    let found =
    first_of_made (result_of draft.streams) (is_on_stream (length draft.streams)) (has_unknown_part draft.streams) draft.rows
    (λ (row : StreamRow). unknown_in row.shape draft.streams row) in
    rw (whole, are, ← all) found

-- before all streams are read no part is unknown
pub untold : (draft : Draft) → length draft.streams ≢ draft.heading.streams → first_unknown draft ≡ None
untold draft some = let part : (length draft.streams == draft.heading.streams) ≡ false = grind (arith, some) in rw part refl

-- ---- kept results

pub begins_kept : (heading : Heading) → KeepsResults (draft_of heading) []
begins_kept heading = λ all. refl

-- a row that isn't a stream's keeps them
pub still_kept : (draft after : Draft) (row : List (List ℕ)) (results : List StreamResult) → KeepsResults draft results → after ≡ draft_with_row draft row → is_stream_kind after.last ≡ false
    → KeepsResults after results
still_kept draft after row results kept told other =
    rw told (by (kind_among (kinds_next draft) row) (rw told at other))
  where
    by : (kind : Result OutputKind RowFault) → is_stream_kind (told_if kind draft row).last ≡ false → KeepsResults (told_if kind draft row) results
    by (Err fault) other = kept
    by (Ok Stream) other = cc other
    by (Ok StreamBefore) other = cc other
    by (Ok kind) other = kept

-- at the end of a block they are the results of all its streams
pub kept_whole : (heading : Heading) (draft : Draft) (all left : List (List (List ℕ))) (results : List StreamResult) → IsReadTo (draft_of heading) all draft left → IsUnderWay draft
    → draft.last ≡ End → KeepsResults draft results → results ≡ map (result_of draft.streams) draft.rows
kept_whole heading draft all left results read way ends kept =
    let told = read.told in
    let complete = rows_complete (draft_of heading) read.rows (λ at_end. cc at_end) read.sound (ap is_end (ap (λ (d : Draft). d.last) (sym told) ∙ ends)) in
    let many : draft.heading.streams ≤ length draft.streams =
    rw told (not_below (length (with_rows (draft_of heading) read.rows).streams) (with_rows (draft_of heading) read.rows).heading.streams complete.1) in
    let few = way.streams in
    kept (omega (arith, many, few))
