-- What comes next: exactly one thing; blocks put after others.
use Rattle.std.specs.Prelude.{◌≢◌, ◌⊎◌, bytes_eq, codes, Result, Ok, Err, if◌then◌else◌}
use Rattle.std.specs.Cmp.Lexicographic.{bytes_decides}
use Rattle.std.specs.List.{list_all}
use Rattle.std.proofs.Common.{◌≡◌, ◌∙◌, ℕ, ◌+◌, ◌≤◌, List, [], ◌∷◌, ◌++◌, length, drop, Bool, true, false, true≢false, Option, Some, None, refl, sym, ap, ap₂, arith, inl, inr, append_assoc, length-append}
use Rattle.std.proofs.lemmas.Bool.{and_parts, cases_Bool}
use Rattle.pb_form.specs.OutputRows.{output_columns, output_schema}
use Rattle.pb_form.specs.Reading.{has_count}
use Rattle.pb_form.specs.Telling.{agrees}
use Rattle.pb_form.specs.declared.output.OutputKind.{OutputKind}
use Rattle.pb_form.specs.declared.output.OutputKind.TheVariants.{Report, Node, Stream, StreamBefore, Solved, Global, Nodal, Measure, End}
use Rattle.pb_blocks.specs.declared.fault.RowFault.{RowFault}
use Rattle.pb_blocks.specs.declared.fault.RowFault.TheVariants.{Unknown, Ended}
use Rattle.pb_blocks.specs.Beside.{opening_fault}
use Rattle.pb_blocks.specs.Kinds.{is_passed_over, kind_among}
use Rattle.pb_readback.specs.declared.block.Block.{Block}
use Rattle.pb_readback.specs.declared.draft.Draft.{Draft}
use Rattle.pb_readback.specs.Blocks.{block_of}
use Rattle.pb_readback.specs.Drafts.{draft_with_row, kinds_next, with_rows}
use Rattle.pb_readback.specs.Faults.{fault_behind, first_unknown}
use Rattle.pb_readback.specs.Laws.{JoinLaw, NextLaw}
use Rattle.pb_readback.specs.Next.{AreBlocks, ArePassedOver, AreSound, Found, IsFault, IsFound, IsNext, IsNoBlock, Next, NoBlock, Refused, opened_draft}
use Rattle.pb_readback.specs.Reading.{HasAll, IsReadWhole, MayCome, fault_next}
use Rattle.pb_readback.proofs.ReadingLemmas.{fault_if, is_row_of, may_come, not_below, opening_by, sound_more, told_if, unended, with_rows_more}

-- the row that ends a block
abbrev pub is_end : OutputKind → Bool
is_end End = true
is_end kind = false

pub at_end : (kind : OutputKind) → is_end kind ≡ true → kind ≡ End
at_end End h = refl
at_end kind h = cc h

pub not_at_end : (kind : OutputKind) → is_end kind ≡ false → kind ≢ End
not_at_end kind h = λ e. true≢false (sym (ap is_end e) ∙ h)

not_end : (kind : OutputKind) → kind ≢ End → is_end kind ≡ false
not_end kind h = elim (cases_Bool (is_end kind)) [
  | inl holds ↦ absurd (h (at_end kind holds))
  | inr fails ↦ fails
]

the_fault : {f g : RowFault} → (let o : Option RowFault = Some f in o) ≡ Some g → f ≡ g
the_fault h = cc h

-- ---- what reading on from a draft gives: the block and what comes after it, or the place in the block and the fault

abbrev Outcome : Type 0
Outcome = (Block × List (List (List ℕ))) ⊎ (ℕ × (RowFault × List (List (List ℕ))))

abbrev by_fault : Option RowFault → ℕ → List (List (List ℕ)) → Outcome → Outcome
by_fault None rows rest more = more
by_fault (Some fault) rows rest more = inr (rows + 2, (fault, rest))

abbrev by_end : Bool → Draft → List (List (List ℕ)) → Outcome → Outcome
by_end true draft rest more = inl (block_of draft, rest)
by_end false draft rest more = more

abbrev by_known : Option ℕ → Draft → List (List (List ℕ)) → Outcome → Outcome
by_known None draft left more = more
by_known (Some stream) draft left more = inr (draft.heading.nodes + stream + 2, (Unknown, left))

abbrev outcome : Draft → ℕ → List (List (List ℕ)) → Outcome
outcome draft rows [] = by_known (first_unknown draft) draft [] (by_end (is_end draft.last) draft [] (inr (rows + 2, (Ended, []))))
outcome draft rows (row ∷ rest) =
    by_known (first_unknown draft) draft (row ∷ rest)
    (by_end (is_end draft.last) draft (row ∷ rest) (by_fault (fault_behind draft row) rows rest (outcome (draft_with_row draft row) (rows + 1) rest)))

-- a draft whose last row is the end has all its nodes and streams
abbrev pub EndsComplete : Draft → Type 0
EndsComplete draft = is_end draft.last ≡ true → HasAll draft

-- after a row of a kind that may come it is so
complete_after : (draft : Draft) (kind : OutputKind) (row : List (List ℕ)) → MayCome draft kind → EndsComplete (told_if (Ok kind) draft row)
complete_after draft End row may = λ ends. may.0
complete_after draft Node row may = λ ends. cc ends
complete_after draft Stream row may = λ ends. cc ends
complete_after draft StreamBefore row may = λ ends. cc ends
complete_after draft Solved row may = λ ends. cc ends
complete_after draft Global row may = λ ends. cc ends
complete_after draft Nodal row may = λ ends. cc ends
complete_after draft Measure row may = λ ends. cc ends
complete_after draft kind row may = absurd may

stays_complete : (draft : Draft) (row : List (List ℕ)) → EndsComplete draft → fault_behind draft row ≡ None → EndsComplete (draft_with_row draft row)
stays_complete draft row complete none = by (kind_among (kinds_next draft) row) refl none
  where
    by : (kind : Result OutputKind RowFault) → kind_among (kinds_next draft) row ≡ kind → fault_if kind draft row ≡ None → EndsComplete (told_if kind draft row)
    by (Err fault) is none = cc none
    by (Ok kind) is none = complete_after draft kind row (may_come draft row kind is)

-- no row comes after the end
none_after : (draft : Draft) (kind : OutputKind) → MayCome draft kind → EndsComplete draft → draft.last ≢ End
none_after draft Node may complete = λ ends. let all = complete (ap is_end ends) in absurd (true≢false (sym may ∙ all.0))
none_after draft Stream may complete = λ ends. let all = complete (ap is_end ends) in absurd (true≢false (sym may.1 ∙ all.1))
none_after draft StreamBefore may complete = λ ends. let all = complete (ap is_end ends) in absurd (true≢false (sym may.1 ∙ all.1))
none_after draft Solved may complete = may.1
none_after draft Global may complete = may.1
none_after draft Nodal may complete = may.1
none_after draft Measure may complete = may.1
none_after draft End may complete = may.1
none_after draft kind may complete = absurd may

not_ended : (draft : Draft) (row : List (List ℕ)) → EndsComplete draft → fault_behind draft row ≡ None → is_end draft.last ≡ false
not_ended draft row complete none = by (kind_among (kinds_next draft) row) refl none
  where
    by : (kind : Result OutputKind RowFault) → kind_among (kinds_next draft) row ≡ kind → fault_if kind draft row ≡ None → is_end draft.last ≡ false
    by (Err fault) is none = cc none
    by (Ok kind) is none = not_end draft.last (none_after draft kind (may_come draft row kind is) complete)

goes_on : (draft : Draft) (n : ℕ) (rows rest : List (List (List ℕ))) → EndsComplete draft → AreSound draft rows
    → outcome draft n (rows ++ rest) ≡ outcome (with_rows draft rows) (n + length rows) rest
goes_on draft n [] rest complete sound = let e : n ≡ n + 0 = omega arith in ap (λ m. outcome draft m rest) e
goes_on draft n (row ∷ rows) rest complete sound =
    let more = goes_on (draft_with_row draft row) (n + 1) rows rest (stays_complete draft row complete sound.1) sound.2 in
    let e : n + 1 + length rows ≡ n + length (row ∷ rows) = omega arith in
    step ∙ more ∙ ap (λ m. outcome (with_rows (draft_with_row draft row) rows) m rest) e
  where
    step : outcome draft n (row ∷ (rows ++ rest)) ≡ outcome (draft_with_row draft row) (n + 1) (rows ++ rest)
    step = rw (sound.0, not_ended draft row complete sound.1, sound.1) refl

-- at the end the outcome is the block
ends_whole : (draft : Draft) (n : ℕ) (rest : List (List (List ℕ))) → first_unknown draft ≡ None → draft.last ≡ End → outcome draft n rest ≡ inl (block_of draft, rest)
ends_whole draft n [] known last = rw (known, last) refl
ends_whole draft n (row ∷ rest) known last = rw (known, last) refl

-- before it a fault
broken_as : (m within : ℕ) (f fault : RowFault) (l left : List (List (List ℕ))) → within ≡ m → fault ≡ f → left ≡ l
    → (let o : Outcome = inr (m, (f, l)) in o) ≡ inr (within, (fault, left))
broken_as m within f fault l left e g h = rw (e, g, h) refl

ends_broken : (draft : Draft) (n : ℕ) (rest : List (List (List ℕ))) (within : ℕ) (fault : RowFault) (left : List (List (List ℕ))) → IsFault draft n rest within fault left
    → outcome draft n rest ≡ inr (within, (fault, left))
ends_broken draft n [] within fault left (inl unknown) = rw (unknown.1) (broken_as _ within _ fault _ left unknown.2 unknown.3 unknown.4)
ends_broken draft n (row ∷ rest) within fault left (inl unknown) = rw (unknown.1) (broken_as _ within _ fault _ left unknown.2 unknown.3 unknown.4)
ends_broken draft n [] within fault left (inr next) =
    rw (next.0, not_end draft.last next.1) (broken_as _ within _ fault _ left next.3 (sym (the_fault next.2)) next.4)
ends_broken draft n (row ∷ rest) within fault left (inr next) =
    rw (next.0, not_end draft.last next.1, next.2) (broken_as _ within _ fault _ left next.3 refl next.4)

-- ---- records

abbrev told_by : ℕ → Outcome → Next
told_by at (inl found) = Found found.0 found.1
told_by at (inr broken) = Refused (at + broken.0) broken.1.0 broken.1.1

abbrev by_opening : Option RowFault → ℕ → List (List ℕ) → List (List (List ℕ)) → Next
by_opening (Some fault) at row rest = Refused (at + 1) fault rest
by_opening None at row rest = told_by at (outcome (opened_draft row) 0 rest)

-- what comes next, by a walk
abbrev next_of : ℕ → List (List (List ℕ)) → Next
next_of at [] = NoBlock
next_of at (row ∷ rest) = if is_passed_over row then next_of (at + 1) rest else by_opening (opening_fault row) at row rest

over : (at : ℕ) (passed more : List (List (List ℕ))) → ArePassedOver passed → next_of at (passed ++ more) ≡ next_of (at + length passed) more
over at [] more skipped = let e : at ≡ at + 0 = omega arith in ap (λ m. next_of m more) e
over at (row ∷ passed) more skipped =
    let parts = and_parts (is_passed_over row) (list_all is_passed_over passed) skipped in
    let e : at + 1 + length passed ≡ at + length (row ∷ passed) = omega arith in
    step parts.0 ∙ over (at + 1) passed more parts.1 ∙ ap (λ m. next_of m more) e
  where
    step : is_passed_over row ≡ true → next_of at (row ∷ (passed ++ more)) ≡ next_of (at + 1) (passed ++ more)
    step holds = rw holds refl

append_nil : (rows : List (List (List ℕ))) → rows ++ [] ≡ rows
append_nil [] = refl
append_nil (row ∷ rows) = ap (λ (more : List (List (List ℕ))). row ∷ more) (append_nil rows)

-- a row of a report's heading isn't passed over
heading_new : (row : List (List ℕ)) → is_row_of row Report ≡ true → is_passed_over row ≡ false
heading_new [] is = let none : false ≡ true = is in cc none
heading_new (word ∷ row) is =
    let parts = and_parts (has_count (output_schema Report) (length (word ∷ row))) (agrees (output_columns Report) (word ∷ row)) is in
    let here = and_parts (bytes_eq word (codes "report")) (agrees (drop 1 (output_columns Report)) row) parts.1 in
    rw ((bytes_decides word (codes "report")).0 here.0) refl

-- a row that opens a block isn't passed over
opens_new : (row : List (List ℕ)) → opening_fault row ≡ None → is_passed_over row ≡ false
opens_new row opens = by (kind_among (Report ∷ []) row) refl opens
  where
    by : (kind : Result OutputKind RowFault) → kind_among (Report ∷ []) row ≡ kind → opening_by kind row ≡ None → is_passed_over row ≡ false
    by (Err fault) is opens = cc opens
    by (Ok kind) is opens = elim (cases_Bool (is_row_of row Report)) [
      | inl report ↦ heading_new row report
      | inr other ↦ let none = rw other at is in cc none
    ]

complete_at_first : (row : List (List ℕ)) → EndsComplete (opened_draft row)
complete_at_first row = λ ends. cc ends

pub rows_complete : (draft : Draft) (rows : List (List (List ℕ))) → EndsComplete draft → AreSound draft rows → EndsComplete (with_rows draft rows)
rows_complete draft [] complete sound = complete
rows_complete draft (row ∷ rows) complete sound = rows_complete (draft_with_row draft row) rows (stays_complete draft row complete sound.1) sound.2

-- a block that ends has all its nodes and streams
pub ended_complete : (first : List (List ℕ)) (rows : List (List (List ℕ))) → AreSound (opened_draft first) rows → (with_rows (opened_draft first) rows).last ≡ End
    → ((with_rows (opened_draft first) rows).heading.nodes ≤ length (with_rows (opened_draft first) rows).nodes)
    × ((with_rows (opened_draft first) rows).heading.streams ≤ length (with_rows (opened_draft first) rows).streams)
ended_complete first rows sound ends =
    let counts = rows_complete (opened_draft first) rows (complete_at_first first) sound (ap is_end ends) in (
      not_below (length (with_rows (opened_draft first) rows).nodes) (with_rows (opened_draft first) rows).heading.nodes counts.0,
      not_below (length (with_rows (opened_draft first) rows).streams) (with_rows (opened_draft first) rows).heading.streams counts.1,
    )

-- what comes next is what the walk gives
is_walked : (at : ℕ) (records : List (List (List ℕ))) (next : Next) → IsNext at records next → next ≡ next_of at records
is_walked at records NoBlock skipped = sym (ap (next_of at) (sym (append_nil records)) ∙ over at records [] skipped)
is_walked at records (Found block rest) found =
    let w = found in
    let opens = w.opens in
    let on = goes_on (opened_draft found.first) 0 found.rows rest (complete_at_first found.first) w.sound in
    let ends = ends_whole (with_rows (opened_draft found.first) found.rows) (0 + length found.rows) rest w.known w.ends in
    let all = on ∙ ends in
    sym (ap (next_of at) found.split ∙ over at found.passed (found.first ∷ (found.rows ++ rest)) found.skipped
    ∙ rw (opens_new found.first opens, opens, all) (ap (λ (b : Block). Found b rest) (sym w.value)))
is_walked at records (Refused number fault left) refused =
    sym (ap (next_of at) refused.split ∙ over at refused.passed (refused.first ∷ refused.behind) refused.skipped
    ∙ rw (refused.other) (by refused.cause))
  where
    here : ℕ
    here = at + length refused.passed

    count : (rows rest : List (List (List ℕ))) → IsFault (with_rows (opened_draft refused.first) rows) (length rows) rest refused.within fault left
        → IsFault (with_rows (opened_draft refused.first) rows) (0 + length rows) rest refused.within fault left
    count rows rest h = let e : length rows ≡ 0 + length rows = omega arith in rw (← e) h

    by : IsNoBlock refused.first refused.behind refused.within fault left
        → by_opening (opening_fault refused.first) here refused.first refused.behind ≡ Refused number fault left
    by (inl opening) =
        let one = opening.1 in
        let place = refused.place in
        let same : here + 1 ≡ number = omega (arith, one, place) in
        rw (opening.0) (ap₂ (λ (n : ℕ) (l : List (List (List ℕ))). Refused n fault l) same (sym opening.2))
    by (inr w) =
        let on = goes_on (opened_draft refused.first) 0 w.1 w.2 (complete_at_first refused.first) w.4 in
        let ends = ends_broken (with_rows (opened_draft refused.first) w.1) (0 + length w.1) w.2 refused.within fault left (count w.1 w.2 w.5) in
        let all = ap (outcome (opened_draft refused.first) 0) w.3 ∙ on ∙ ends in
        rw (w.0, all) (ap (λ (n : ℕ). Refused n fault left) (sym refused.place))

-- ---- one thing comes next

-- the rows read so far after a first one; this is how many they are
record IsSoundTo (start : Draft) (all : List (List (List ℕ))) (draft : Draft) (left : List (List (List ℕ))) (n : ℕ) : Type 0 where
  rows : List (List (List ℕ))
  split : all ≡ rows ++ left
  sound : AreSound start rows
  told : draft ≡ with_rows start rows
  count : n ≡ length rows

-- what an outcome says about the records after a first one
record Breaks (start : Draft) (all : List (List (List ℕ))) (within : ℕ) (fault : RowFault) (left : List (List (List ℕ))) : Type 0 where
  rows : List (List (List ℕ))
  rest : List (List (List ℕ))
  split : all ≡ rows ++ rest
  sound : AreSound start rows
  cause : IsFault (with_rows start rows) (length rows) rest within fault left

abbrev IsOutcome : Draft → List (List (List ℕ)) → Outcome → Type 0
IsOutcome start all (inl found) = IsReadWhole start all found.1 found.0
IsOutcome start all (inr broken) = Breaks start all broken.0 broken.1.0 broken.1.1

broken_before : (start draft : Draft) (all left : List (List (List ℕ))) (n stream : ℕ) → IsSoundTo start all draft left n → first_unknown draft ≡ Some stream
    → Breaks start all (draft.heading.nodes + stream + 2) Unknown left
broken_before start draft all left n stream s unknown = record {
  rows = s.rows;
  rest = left;
  split = s.split;
  sound = s.sound;
  cause = inl (stream, ap first_unknown (sym s.told) ∙ unknown, ap (λ (d : Draft). d.heading.nodes + stream + 2) s.told, refl, refl);
}

whole_at : (start draft : Draft) (all left : List (List (List ℕ))) (n : ℕ) → IsSoundTo start all draft left n → first_unknown draft ≡ None → draft.last ≡ End
    → IsReadWhole start all left (block_of draft)
whole_at start draft all left n s known last = record {
  rows = s.rows;
  split = s.split;
  sound = s.sound;
  known = ap first_unknown (sym s.told) ∙ known;
  ends = ap (λ (d : Draft). d.last) (sym s.told) ∙ last;
  value = ap block_of s.told;
}

broken_at : (start draft : Draft) (all left : List (List (List ℕ))) (n : ℕ) (fault : RowFault) → IsSoundTo start all draft left n → first_unknown draft ≡ None
    → draft.last ≢ End → fault_next draft left ≡ Some fault → Breaks start all (n + 2) fault (drop 1 left)
broken_at start draft all left n fault s known on cause = record {
  rows = s.rows;
  rest = left;
  split = s.split;
  sound = s.sound;
  cause = inr (ap first_unknown (sym s.told) ∙ known, unended start draft s.rows s.told on, ap (λ (d : Draft). fault_next d left) (sym s.told) ∙ cause, ap (λ (m : ℕ). m + 2) s.count, refl);
}

sound_next : (start draft : Draft) (all left : List (List (List ℕ))) (row : List (List ℕ)) (n : ℕ) → IsSoundTo start all draft (row ∷ left) n → first_unknown draft ≡ None
    → fault_behind draft row ≡ None → IsSoundTo start all (draft_with_row draft row) left (n + 1)
sound_next start draft all left row n s known fine = record {
  rows = s.rows ++ row ∷ [];
  split = s.split ∙ sym (append_assoc s.rows (row ∷ []) left);
  sound = sound_more start s.rows row s.sound (ap first_unknown (sym s.told) ∙ known) (ap (λ (d : Draft). fault_behind d row) (sym s.told) ∙ fine);
  told = ap (λ (d : Draft). draft_with_row d row) s.told ∙ sym (with_rows_more start s.rows row);
  count = let long = length-append s.rows (row ∷ []) in let n_is = s.count in omega (arith, long, n_is);
}

gives : (start all : _) (left : List (List (List ℕ))) (draft : Draft) (n : ℕ) → IsSoundTo start all draft left n → IsOutcome start all (outcome draft n left)
gives start all [] draft n s = by (first_unknown draft) refl
  where
    by_last : (b : Bool) → is_end draft.last ≡ b → first_unknown draft ≡ None → IsOutcome start all (by_end b draft [] (inr (n + 2, (Ended, []))))
    by_last true last known = whole_at start draft all [] n s known (at_end draft.last last)
    by_last false last known = broken_at start draft all [] n Ended s known (not_at_end draft.last last) refl

    by : (k : Option ℕ) → first_unknown draft ≡ k → IsOutcome start all (by_known k draft [] (by_end (is_end draft.last) draft [] (inr (n + 2, (Ended, [])))))
    by (Some stream) unknown = broken_before start draft all [] n stream s unknown
    by None known = by_last (is_end draft.last) refl known
gives start all (row ∷ left) draft n s = by (gives start all left (draft_with_row draft row) (n + 1)) (first_unknown draft) refl
  where
    by_row : (IsSoundTo start all (draft_with_row draft row) left (n + 1) → IsOutcome start all (outcome (draft_with_row draft row) (n + 1) left))
        → (f : Option RowFault) → fault_behind draft row ≡ f → first_unknown draft ≡ None → draft.last ≢ End
        → IsOutcome start all (by_fault f n left (outcome (draft_with_row draft row) (n + 1) left))
    by_row more None fine known on = more (sound_next start draft all left row n s known fine)
    by_row more (Some fault) cause known on = broken_at start draft all (row ∷ left) n fault s known on cause

    by_last : (IsSoundTo start all (draft_with_row draft row) left (n + 1) → IsOutcome start all (outcome (draft_with_row draft row) (n + 1) left))
        → (b : Bool) → is_end draft.last ≡ b → first_unknown draft ≡ None
        → IsOutcome start all (by_end b draft (row ∷ left) (by_fault (fault_behind draft row) n left (outcome (draft_with_row draft row) (n + 1) left)))
    by_last more true last known = whole_at start draft all (row ∷ left) n s known (at_end draft.last last)
    by_last more false last known = by_row more (fault_behind draft row) refl known (not_at_end draft.last last)

    by : (IsSoundTo start all (draft_with_row draft row) left (n + 1) → IsOutcome start all (outcome (draft_with_row draft row) (n + 1) left))
        → (k : Option ℕ) → first_unknown draft ≡ k
        → IsOutcome start all (by_known k draft (row ∷ left) (by_end (is_end draft.last) draft (row ∷ left) (by_fault (fault_behind draft row) n left (outcome (draft_with_row draft row) (n + 1) left))))
    by more (Some stream) unknown = broken_before start draft all (row ∷ left) n stream s unknown
    by more None known = by_last more (is_end draft.last) refl known

-- one more row that is passed over
one_over : (at : ℕ) (row : List (List ℕ)) (rest : List (List (List ℕ))) (next : Next) → is_passed_over row ≡ true → IsNext (at + 1) rest next → IsNext at (row ∷ rest) next
one_over at row rest NoBlock holds none = rw (holds) none
one_over at row rest (Found block left) holds found = record {
  passed = row ∷ found.passed;
  first = found.first;
  rows = found.rows;
  split = ap (λ (more : List (List (List ℕ))). row ∷ more) found.split;
  skipped = rw holds found.skipped;
  opens = found.opens;
  sound = found.sound;
  known = found.known;
  ends = found.ends;
  value = found.value;
}
one_over at row rest (Refused number fault left) holds refused = record {
  passed = row ∷ refused.passed;
  first = refused.first;
  behind = refused.behind;
  within = refused.within;
  split = ap (λ (more : List (List (List ℕ))). row ∷ more) refused.split;
  skipped = rw holds refused.skipped;
  other = refused.other;
  cause = refused.cause;
  place = refused.place ∙ omega arith;
}

-- a block, or a fault, after a row that opens one
by_outcome : (at : ℕ) (row : List (List ℕ)) (rest : List (List (List ℕ))) (o : Outcome) → opening_fault row ≡ None → IsOutcome (opened_draft row) rest o → IsNext at (row ∷ rest) (told_by at o)
by_outcome at row rest (inl found) opens whole = record {
  passed = [];
  first = row;
  rows = whole.rows;
  split = ap (λ (more : List (List (List ℕ))). row ∷ more) whole.split;
  skipped = refl;
  opens = opens;
  sound = whole.sound;
  known = whole.known;
  ends = whole.ends;
  value = whole.value;
}
by_outcome at row rest (inr broken) opens breaks = record {
  passed = [];
  first = row;
  behind = rest;
  within = broken.0;
  split = refl;
  skipped = refl;
  other = opens_new row opens;
  cause = inr (opens, breaks.rows, breaks.rest, breaks.split, breaks.sound, breaks.cause);
  place = omega arith;
}

comes_next : (at : ℕ) (records : List (List (List ℕ))) → IsNext at records (next_of at records)
comes_next at [] = refl
comes_next at (row ∷ rest) = by (comes_next (at + 1) rest) (is_passed_over row) refl
  where
    by_first : (f : Option RowFault) → opening_fault row ≡ f → is_passed_over row ≡ false → IsNext at (row ∷ rest) (by_opening f at row rest)
    by_first (Some fault) cause other =
        record {
          passed = [];
          first = row;
          behind = rest;
          within = 1;
          split = refl;
          skipped = refl;
          other = other;
          cause = inl (cause, refl, refl);
          place = omega arith;
        }
    by_first None opens other =
        by_outcome at row rest (outcome (opened_draft row) 0 rest) opens
        (gives (opened_draft row) rest rest (opened_draft row) 0 (record { rows = []; split = refl; sound = tt; told = refl; count = refl }))

    by : IsNext (at + 1) rest (next_of (at + 1) rest) → (b : Bool) → is_passed_over row ≡ b
        → IsNext at (row ∷ rest) (if b then next_of (at + 1) rest else by_opening (opening_fault row) at row rest)
    by later true over = one_over at row rest (next_of (at + 1) rest) over later
    by later false other = by_first (opening_fault row) refl other

pub next_holds : NextLaw
next_holds = record {
  some = λ at records. (next_of at records, comes_next at records);
  only = λ at records one other first second. is_walked at records one first ∙ sym (is_walked at records other second);
}

-- ---- blocks put after others

passed_more : (front back : List (List (List ℕ))) → ArePassedOver front → ArePassedOver back → ArePassedOver (front ++ back)
passed_more [] back one other = other
passed_more (row ∷ front) back one other =
    let parts = and_parts (is_passed_over row) (list_all is_passed_over front) one in
    rw (parts.0) (passed_more front back parts.1 other)

behind_passed : (front back : List (List (List ℕ))) (blocks : List Block) → ArePassedOver front → AreBlocks back blocks → AreBlocks (front ++ back) blocks
behind_passed front back [] skipped blocks = passed_more front back skipped blocks
behind_passed front back (block ∷ more) skipped blocks =
    let found = blocks.1 in (
      blocks.0,
      record {
        passed = front ++ found.passed;
        first = found.first;
        rows = found.rows;
        split = ap (λ (rest : List (List (List ℕ))). front ++ rest) found.split ∙ sym (append_assoc front found.passed (found.first ∷ (found.rows ++ blocks.0)));
        skipped = passed_more front found.passed skipped found.skipped;
        opens = found.opens;
        sound = found.sound;
        known = found.known;
        ends = found.ends;
        value = found.value;
      },
      blocks.2,
    )

before_more : (all rest back : List (List (List ℕ))) (block : Block) → IsFound all block rest → IsFound (all ++ back) block (rest ++ back)
before_more all rest back block found = record {
  passed = found.passed;
  first = found.first;
  rows = found.rows;
  split =
      ap (λ (front : List (List (List ℕ))). front ++ back) found.split
      ∙ append_assoc found.passed (found.first ∷ (found.rows ++ rest)) back
      ∙ ap (λ (more : List (List (List ℕ))). found.passed ++ found.first ∷ more) (append_assoc found.rows rest back);
  skipped = found.skipped;
  opens = found.opens;
  sound = found.sound;
  known = found.known;
  ends = found.ends;
  value = found.value;
}

pub join_holds : JoinLaw
join_holds front back [] more one other = behind_passed front back more one other
join_holds front back (block ∷ blocks) more one other =
    (one.0 ++ back, before_more front one.0 back block one.1, join_holds one.0 back blocks more one.2 other)
