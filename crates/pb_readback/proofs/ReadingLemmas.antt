-- Reading on: what one more row shows of the records.
use Rattle.std.specs.Prelude.{◌≢◌, nat_eq, nat_lt, find, Result, Ok, Err, if◌then◌else◌}
use Rattle.std.specs.List.{list_all, list_any, AllByRecursion}
use Rattle.std.specs.Option.{ok_or, option_map_or}
use Rattle.std.specs.Result.{result_ok, result_map_both}
use Rattle.std.proofs.Common.{◌≡◌, ◌∙◌, ℕ, ◌+◌, ◌<◌, ◌≤◌, List, [], ◌∷◌, ◌++◌, length, Bool, true, false, Option, Some, None, refl, sym, ap, arith, inl, inr, append_assoc, length-append}
use Rattle.std.proofs.lemmas.Bool.{and_parts, cases_Bool}
use Rattle.pb_form.specs.OutputRows.{output_schema}
use Rattle.pb_form.specs.Reading.{row_read}
use Rattle.pb_form.specs.Telling.{is_of}
use Rattle.pb_form.specs.declared.output.OutputKind.{OutputKind}
use Rattle.pb_form.specs.declared.output.OutputKind.TheVariants.{Report, Node, Stream, StreamBefore, Solved, Global, Nodal, Measure, End}
use Rattle.pb_rows.specs.RecordsLeft.{RecordsLeft}
use Rattle.pb_blocks.specs.declared.fault.RowFault.{RowFault}
use Rattle.pb_blocks.specs.declared.fault.RowFault.TheVariants.{Unknown, Ended}
use Rattle.pb_blocks.specs.declared.rows.Heading.{Heading}
use Rattle.pb_blocks.specs.Counts.{IsHeading}
use Rattle.pb_blocks.specs.Beside.{fault_as, heading_fault}
use Rattle.pb_blocks.specs.Codes.{fault_by}
use Rattle.pb_blocks.specs.Held.{has_word_of}
use Rattle.pb_blocks.specs.Kinds.{is_passed_over, kind_among}
use Rattle.pb_blocks.specs.Texts.{name_field}
use Rattle.pb_blocks.specs.Values.{said_arc, said_stream, values_in}
use Rattle.pb_form.specs.declared.fault.FormFault.{FormFault}
use Rattle.pb_form.specs.declared.fault.FormFault.TheVariants as form
use Rattle.pb_readback.specs.declared.block.Block.{Block}
use Rattle.pb_readback.specs.declared.draft.Draft.{Draft}
use Rattle.pb_readback.specs.declared.reading.ReadRefused.{ReadRefused}
use Rattle.pb_readback.specs.declared.reading.ReadRefused.TheVariants.{At, NoMemory}
use Rattle.pb_readback.specs.Blocks.{block_of}
use Rattle.pb_readback.specs.Drafts.{draft_of, draft_with_row, kinds_after, kinds_next, stream_kinds, with_rows, with_stream}
use Rattle.pb_readback.specs.Reading.{told_with, AwaitsNodes, AwaitsStreams, Breaks, BreaksFrom, Ends, HasAll, IsBroken, IsReadFrom, IsReadTo, IsReadWhole, IsUnderWay, MayCome, RefusesPart, RefusesRow, Skips, is_stream_kind}
use Rattle.pb_readback.specs.Faults.{fault_behind, first_unknown, row_fault_of}
use Rattle.pb_readback.specs.Next.{AreCounted, ArePassedOver, AreSound, IsFound, IsReadRefused, IsWithinGiven, opened_draft}

-- ---- a row whose kind was looked up

-- a row has a kind's word and its number of fields
abbrev pub is_row_of : List (List ℕ) → OutputKind → Bool
is_row_of row kind = is_of row (output_schema kind)

-- what it says, and its fault
abbrev pub told_if : Result OutputKind RowFault → Draft → List (List ℕ) → Draft
told_if kind draft row = option_map_or (λ (k : OutputKind). told_with k draft row) (result_ok kind) draft

abbrev pub fault_if : Result OutputKind RowFault → Draft → List (List ℕ) → Option RowFault
fault_if kind draft row = fault_as (λ k. row_fault_of k draft row) kind

-- the fault of a row that opens a block, or should open one
abbrev pub opening_by : Result OutputKind RowFault → List (List ℕ) → Option RowFault
opening_by kind row = fault_as (λ k. heading_fault (row_read (output_schema Report) row)) kind

-- ---- what may come

-- a kind that a row is found to have is one of the kinds that were tried
found_among : (P : OutputKind → Type 0) (row : List (List ℕ)) (kinds : List OutputKind) (kind : OutputKind) → AllByRecursion P kinds → find (is_row_of row) kinds ≡ Some kind → P kind
found_among P row [] kind all found = cc found
found_among P row (first ∷ kinds) kind all found = elim (cases_Bool (is_row_of row first)) [
  | inl here ↦
      let at = rw here at found in
      let same : first ≡ kind = cc at in
      rw (← same) all.0
  | inr later ↦ found_among P row kinds kind all.1 (rw later at found)
]

told_among : (P : OutputKind → Type 0) (row : List (List ℕ)) (kinds : List OutputKind) (kind : OutputKind) → AllByRecursion P kinds → kind_among kinds row ≡ Ok kind → P kind
told_among P row kinds kind all told = by (find (is_row_of row) kinds) refl (if list_any (has_word_of row) kinds then form.Fields else form.Kind) told
  where
    by : (found : Option OutputKind) → find (is_row_of row) kinds ≡ found → (fault : FormFault) → result_map_both (λ kind. kind) fault_by (ok_or found fault) ≡ Ok kind → P kind
    by None is fault told = cc told
    by (Some other) is fault told =
        let same : other ≡ kind = cc told in
        rw (← same) (found_among P row kinds other all is)

going : (draft : Draft) (last : OutputKind) → draft.last ≡ last → last ≢ End → draft.last ≢ End
going draft last is apart = λ ends. apart (sym is ∙ ends)

-- after the last stream
after_all : (draft : Draft) → HasAll draft → (last : OutputKind) → draft.last ≡ last → AllByRecursion (MayCome draft) (kinds_after last)
after_all draft all Solved is = let on = going draft Solved is (λ e. cc e) in ((all, on), ((all, on), tt))
after_all draft all Global is = let on = going draft Global is (λ e. cc e) in ((all, on), ((all, on), ((all, on), tt)))
after_all draft all Nodal is = let on = going draft Nodal is (λ e. cc e) in ((all, on), ((all, on), ((all, on), tt)))
after_all draft all Measure is = let on = going draft Measure is (λ e. cc e) in ((all, on), ((all, on), tt))
after_all draft all End is = tt
after_all draft all last is = ((all, going draft last is (λ e. cc e)), tt)

of_stream : (draft : Draft) → AwaitsStreams draft → (last : OutputKind) → AllByRecursion (MayCome draft) (stream_kinds last)
of_stream draft awaits Stream = (awaits, tt)
of_stream draft awaits StreamBefore = (awaits, tt)
of_stream draft awaits last = (awaits, (awaits, tt))

-- a row of one of the kinds that may come next may
may_next : (draft : Draft) → AllByRecursion (MayCome draft) (kinds_next draft)
may_next draft = by (nat_lt (length draft.nodes) draft.heading.nodes) refl (nat_lt (length draft.streams) draft.heading.streams) refl
  where
    by : (a : Bool) → nat_lt (length draft.nodes) draft.heading.nodes ≡ a → (b : Bool) → nat_lt (length draft.streams) draft.heading.streams ≡ b
        → AllByRecursion (MayCome draft) (if a then Node ∷ [] else if b then stream_kinds draft.last else kinds_after draft.last)
    by true nodes b streams = (nodes, tt)
    by false nodes true streams = of_stream draft (nodes, streams) draft.last
    by false nodes false streams = after_all draft (nodes, streams) draft.last refl

pub may_come : (draft : Draft) (row : List (List ℕ)) (kind : OutputKind) → kind_among (kinds_next draft) row ≡ Ok kind → MayCome draft kind
may_come draft row kind told = told_among (MayCome draft) row (kinds_next draft) kind (may_next draft) told

below : (m n : ℕ) → nat_lt m n ≡ true → m < n
below m n is = grind (arith, is)

-- there is room for a node that may come, and for a stream
pub node_room : (draft : Draft) → AwaitsNodes draft → length draft.nodes < draft.heading.nodes
node_room draft may = below (length draft.nodes) draft.heading.nodes may

pub stream_room : (draft : Draft) → AwaitsStreams draft → length draft.streams < draft.heading.streams
stream_room draft may = below (length draft.streams) draft.heading.streams may.1

pub not_below : (m n : ℕ) → nat_lt m n ≡ false → n ≤ m
not_below m n is = grind (arith, is)

-- if a stream may come, all nodes have come
pub all_nodes : (draft : Draft) → IsUnderWay draft → AwaitsStreams draft → length draft.nodes ≡ draft.heading.nodes
all_nodes draft way may =
    let most = not_below (length draft.nodes) draft.heading.nodes may.0 in
    let few = way.nodes in
    omega (arith, most, few)

-- ---- drafts

pub one_more : {A : Type 0} (xs : List A) (x : A) → length (xs ++ x ∷ []) ≡ length xs + 1
one_more xs x = length-append xs (x ∷ [])

-- one more stream
pub stream_under : (draft : Draft) (kind : OutputKind) (row : List (List ℕ)) → IsUnderWay draft → AwaitsStreams draft
    → IsUnderWay (record (with_stream kind row draft) { last = kind })
stream_under draft kind row way may =
    let room = stream_room draft may in
    let names = one_more draft.streams (name_field row) in
    let streams = one_more draft.graph.streams (said_arc draft.nodes row (values_in kind row)) in
    let rows = one_more draft.rows (said_stream draft.nodes kind row (values_in kind row)) in
    let each = way.each_stream in
    let each_row = way.each_row in
    record {
      heading = way.heading;
      graph = way.graph;
      nodes = way.nodes;
      streams = omega (arith, room, names);
      each_stream = omega (arith, names, streams, each);
      each_row = omega (arith, names, rows, each_row);
    }

pub still_under : (draft : Draft) (kind : OutputKind) (row : List (List ℕ)) → IsUnderWay draft → MayCome draft kind → IsUnderWay (told_with kind draft row)
still_under draft Node row way may = record {
  heading = way.heading;
  graph = way.graph;
  nodes = let room = node_room draft may in let long = one_more draft.nodes (name_field row) in omega (arith, room, long);
  streams = way.streams;
  each_stream = way.each_stream;
  each_row = way.each_row;
}
still_under draft Stream row way may = stream_under draft Stream row way may
still_under draft StreamBefore row way may = stream_under draft StreamBefore row way may
still_under draft kind row way may = record {
  heading = way.heading;
  graph = way.graph;
  nodes = way.nodes;
  streams = way.streams;
  each_stream = way.each_stream;
  each_row = way.each_row;
}

-- a draft in progress is still in progress after a row without a fault
pub still_under_way : (draft : Draft) (row : List (List ℕ)) → IsUnderWay draft → fault_behind draft row ≡ None → IsUnderWay (draft_with_row draft row)
still_under_way draft row way none = by (kind_among (kinds_next draft) row) refl none
  where
    by : (kind : Result OutputKind RowFault) → kind_among (kinds_next draft) row ≡ kind → fault_if kind draft row ≡ None → IsUnderWay (told_if kind draft row)
    by (Err fault) is none = cc none
    by (Ok kind) is none = still_under draft kind row way (may_come draft row kind is)

pub begins_under_way : (heading : Heading) → IsHeading heading → IsUnderWay (draft_of heading)
begins_under_way heading counts = record {
  heading = counts;
  graph = refl;
  nodes = omega arith;
  streams = omega arith;
  each_stream = refl;
  each_row = refl;
}

-- no part is unknown at the beginning
pub begins_known : (heading : Heading) → first_unknown (draft_of heading) ≡ None
begins_known heading = by (nat_eq 0 heading.streams)
  where
    by : (b : Bool) → (if b then (let none : Option ℕ = None in none) else None) ≡ None
    by true = refl
    by false = refl

-- once all parts are known, they stay so: parts are looked up only after a stream
pub known_after : (draft : Draft) (row : List (List ℕ)) → first_unknown draft ≡ None → (is_stream_kind (draft_with_row draft row).last ≡ true → first_unknown (draft_with_row draft row) ≡ None)
    → first_unknown (draft_with_row draft row) ≡ None
known_after draft row known at = by (kind_among (kinds_next draft) row) at
  where
    by : (kind : Result OutputKind RowFault) → (is_stream_kind (told_if kind draft row).last ≡ true → first_unknown (told_if kind draft row) ≡ None)
        → first_unknown (told_if kind draft row) ≡ None
    by (Err fault) at = known
    by (Ok Stream) at = at refl
    by (Ok StreamBefore) at = at refl
    by (Ok kind) at = known

-- ---- rows

pub with_rows_more : (draft : Draft) (rows : List (List (List ℕ))) (row : List (List ℕ)) → with_rows draft (rows ++ row ∷ []) ≡ draft_with_row (with_rows draft rows) row
with_rows_more draft [] row = refl
with_rows_more draft (r ∷ rows) row = with_rows_more (draft_with_row draft r) rows row

pub sound_more : (draft : Draft) (rows : List (List (List ℕ))) (row : List (List ℕ)) → AreSound draft rows → first_unknown (with_rows draft rows) ≡ None
    → fault_behind (with_rows draft rows) row ≡ None → AreSound draft (rows ++ row ∷ [])
sound_more draft [] row sound known fine = (known, fine, tt)
sound_more draft (r ∷ rows) row sound known fine = (sound.0, sound.1, sound_more (draft_with_row draft r) rows row sound.2 known fine)

-- nothing is read yet
pub read_none : (draft : Draft) (all : List (List (List ℕ))) → first_unknown draft ≡ None → IsReadTo draft all draft all
read_none draft all known = record { rows = []; split = refl; sound = tt; told = refl; known = known }

-- one more row
pub read_more : (start draft : Draft) (all left : List (List (List ℕ))) (row : List (List ℕ)) → IsReadTo start all draft (row ∷ left) → fault_behind draft row ≡ None
    → first_unknown (draft_with_row draft row) ≡ None → IsReadTo start all (draft_with_row draft row) left
read_more start draft all left row read fine known = record {
  rows = read.rows ++ row ∷ [];
  split = read.split ∙ sym (append_assoc read.rows (row ∷ []) left);
  sound = sound_more start read.rows row read.sound (ap first_unknown (sym read.told) ∙ read.known) (ap (λ (d : Draft). fault_behind d row) (sym read.told) ∙ fine);
  told = ap (λ (d : Draft). draft_with_row d row) read.told ∙ sym (with_rows_more start read.rows row);
  known = known;
}

-- the block is whole
pub read_whole : (start draft : Draft) (all left : List (List (List ℕ))) (block : Block) → IsReadTo start all draft left → draft.last ≡ End → block ≡ block_of draft
    → IsReadWhole start all left block
read_whole start draft all left block read ends value = record {
  rows = read.rows;
  split = read.split;
  sound = read.sound;
  known = ap first_unknown (sym read.told) ∙ read.known;
  ends = ap (λ (d : Draft). d.last) (sym read.told) ∙ ends;
  value = value ∙ ap block_of read.told;
}

-- how many rows were read after the first
pub rows_read : (all rows left : List (List (List ℕ))) (opened_draft taken : ℕ) → all ≡ rows ++ left → taken + length left ≡ opened_draft + length all → taken ≡ opened_draft + length rows
rows_read all rows left opened_draft taken split counted =
    let long = ap length split ∙ length-append rows left in omega (arith, long, counted)

pub unended : (start draft : Draft) (rows : List (List (List ℕ))) → draft ≡ with_rows start rows → draft.last ≢ End → (with_rows start rows).last ≢ End
unended start draft rows told on = λ ends. on (ap (λ (d : Draft). d.last) told ∙ ends)

-- the records end within the block
pub breaks_ended : (start draft : Draft) (all : List (List (List ℕ))) (opened_draft taken : ℕ) → IsReadTo start all draft [] → draft.last ≢ End → taken + 0 ≡ opened_draft + length all
    → IsBroken start all opened_draft (taken + 1) Ended []
breaks_ended start draft all opened_draft taken read on counted =
    let behind = rows_read all read.rows [] opened_draft taken read.split counted in
    record {
      rows = read.rows;
      rest = [];
      within = length read.rows + 2;
      split = read.split;
      sound = read.sound;
      cause = inr (ap first_unknown (sym read.told) ∙ read.known, unended start draft read.rows read.told on, refl, refl, refl);
      place = omega (arith, behind);
    }

-- the next row has a fault
pub breaks_at : (start draft : Draft) (all left : List (List (List ℕ))) (row : List (List ℕ)) (fault : RowFault) (opened_draft taken : ℕ)
    → IsReadTo start all draft (row ∷ left) → draft.last ≢ End → fault_behind draft row ≡ Some fault → taken + length left ≡ opened_draft + length all
    → IsBroken start all opened_draft taken fault left
breaks_at start draft all left row fault opened_draft taken read on cause counted =
    let long = ap length read.split ∙ length-append read.rows (row ∷ left) in
    record {
      rows = read.rows;
      rest = row ∷ left;
      within = length read.rows + 2;
      split = read.split;
      sound = read.sound;
      cause = inr (ap first_unknown (sym read.told) ∙ read.known, unended start draft read.rows read.told on, ap (λ (d : Draft). fault_behind d row) (sym read.told) ∙ cause, refl, refl);
      place = omega (arith, long, counted);
    }

-- the last of the streams is read, and the parts of one name a stream that isn't there
pub breaks_before : (start draft : Draft) (all left : List (List (List ℕ))) (row : List (List ℕ)) (stream opened_draft : ℕ) → IsReadTo start all draft (row ∷ left)
    → fault_behind draft row ≡ None → first_unknown (draft_with_row draft row) ≡ Some stream
    → IsBroken start all opened_draft (opened_draft + (draft_with_row draft row).heading.nodes + stream + 1) Unknown left
breaks_before start draft all left row stream opened_draft read fine unknown =
    let told = ap (λ (d : Draft). draft_with_row d row) read.told ∙ sym (with_rows_more start read.rows row) in
    record {
      rows = read.rows ++ row ∷ [];
      rest = left;
      within = (draft_with_row draft row).heading.nodes + stream + 2;
      split = read.split ∙ sym (append_assoc read.rows (row ∷ []) left);
      sound = sound_more start read.rows row read.sound (ap first_unknown (sym read.told) ∙ read.known) (ap (λ (d : Draft). fault_behind d row) (sym read.told) ∙ fine);
      cause = inl (stream, ap first_unknown (sym told) ∙ unknown, ap (λ (d : Draft). d.heading.nodes + stream + 2) told, refl, refl);
      place = omega arith;
    }

-- ---- what a refusal says

-- the records taken so far were given, and so was the record after them
rows_taken : (old now : RecordsLeft) (draft start : Draft) → IsReadTo start old.left draft now.left → AreCounted old now → old.taken ≤ now.taken
rows_taken old now draft start read counted =
    let long = ap length read.split ∙ length-append read.rows now.left in omega (arith, long, counted)

counted_within : (start draft : Draft) (old new : RecordsLeft) (row : List (List ℕ)) → IsReadTo start old.left draft (row ∷ new.left) → AreCounted old new → IsWithinGiven old new
counted_within start draft old new row read counted =
    let long = ap length read.split ∙ length-append read.rows (row ∷ new.left) in
    (omega (arith, long, counted), omega (arith, counted))

pub broke_ended : (start draft : Draft) (old now new : RecordsLeft) (refused : ReadRefused) → IsReadTo start old.left draft now.left → draft.last ≢ End
    → AreCounted old now → Ends now new refused → Breaks start old new refused
broke_ended start draft old now new NoMemory read on counted ends =
    let more = rows_taken old now draft start read counted in
    let kept = ends.0 in
    let few = ends.1 in
    (omega (arith, more, kept), omega (arith, few, counted))
broke_ended start draft old now new (At number fault) read on counted ends =
    let none = ends.0 in
    let at : IsReadTo start old.left draft [] = rw (← none) read in
    let count : now.taken + 0 ≡ old.taken + length old.left = rw none at counted in
    rw (ends.1, ends.2, ends.3, none) (breaks_ended start draft old.left old.taken now.taken at on count, count)

pub broke_at : (start draft : Draft) (old now new : RecordsLeft) (row : List (List ℕ)) (number : ℕ) (refused : ReadRefused) → IsReadTo start old.left draft now.left
    → draft.last ≢ End → now.left ≡ row ∷ new.left → number ≡ new.taken → AreCounted old new → RefusesRow draft row number refused → Breaks start old new refused
broke_at start draft old now new row number NoMemory read on next is counted breaks =
    let here : IsReadTo start old.left draft (row ∷ new.left) = rw (← next) read in
    counted_within start draft old new row here counted
broke_at start draft old now new row number (At at fault) read on next is counted breaks =
    let here : IsReadTo start old.left draft (row ∷ new.left) = rw (← next) read in
    rw (breaks.1, is) (breaks_at start draft old.left new.left row fault old.taken new.taken here on breaks.0 counted, counted)

pub broke_before : (start draft after : Draft) (old now new : RecordsLeft) (row : List (List ℕ)) (refused : ReadRefused) → IsReadTo start old.left draft now.left
    → now.left ≡ row ∷ new.left → fault_behind draft row ≡ None → after ≡ draft_with_row draft row → AreCounted old new → RefusesPart after old.taken refused → Breaks start old new refused
broke_before start draft after old now new row NoMemory read next fine told counted breaks =
    let here : IsReadTo start old.left draft (row ∷ new.left) = rw (← next) read in
    counted_within start draft old new row here counted
broke_before start draft after old now new row (At number fault) read next fine told counted breaks =
    let here : IsReadTo start old.left draft (row ∷ new.left) = rw (← next) read in
    let unknown = ap first_unknown (sym told) ∙ breaks.1 in
    rw (breaks.2, breaks.3, told) (breaks_before start draft old.left new.left row breaks.0 old.taken here fine unknown, counted)

-- one more row is read
pub read_one : (start draft after : Draft) (all left rest : List (List (List ℕ))) (row : List (List ℕ)) → IsReadTo start all draft left → left ≡ row ∷ rest
    → fault_behind draft row ≡ None → after ≡ draft_with_row draft row → (is_stream_kind after.last ≡ true → first_unknown after ≡ None) → IsReadTo start all after rest
read_one start draft after all left rest row read next fine told at =
    let now : IsReadTo start all draft (row ∷ rest) = rw (← next) read in
    let known : first_unknown (draft_with_row draft row) ≡ None = known_after draft row read.known (rw told at at) in
    rw told (read_more start draft all rest row now fine known)

pub still_way : (draft after : Draft) (row : List (List ℕ)) → IsUnderWay draft → fault_behind draft row ≡ None → after ≡ draft_with_row draft row → IsUnderWay after
still_way draft after row way fine told = rw told (still_under_way draft row way fine)

-- a row keeps the heading
heading_kept : (draft : Draft) (kind : OutputKind) (row : List (List ℕ)) → (told_with kind draft row).heading ≡ draft.heading
heading_kept draft Node row = refl
heading_kept draft Stream row = refl
heading_kept draft StreamBefore row = refl
heading_kept draft Solved row = refl
heading_kept draft Global row = refl
heading_kept draft Nodal row = refl
heading_kept draft Measure row = refl
heading_kept draft kind row = refl

pub same_heading : (draft after : Draft) (row : List (List ℕ)) (heading : Heading) → draft.heading ≡ heading → after ≡ draft_with_row draft row → after.heading ≡ heading
same_heading draft after row heading same told = ap (λ (d : Draft). d.heading) told ∙ by (kind_among (kinds_next draft) row) ∙ same
  where
    by : (kind : Result OutputKind RowFault) → (told_if kind draft row).heading ≡ draft.heading
    by (Err fault) = refl
    by (Ok kind) = heading_kept draft kind row

-- one more row that is passed over
pub over_more : (all left rest : List (List (List ℕ))) (row : List (List ℕ)) → ((passed : List (List (List ℕ))) × (all ≡ passed ++ left) × ArePassedOver passed)
    → left ≡ row ∷ rest → is_passed_over row ≡ true → (passed : List (List (List ℕ))) × (all ≡ passed ++ rest) × ArePassedOver passed
over_more all left rest row over next passes = (
  over.0 ++ row ∷ [],
  over.1 ∙ ap (λ (more : List (List (List ℕ))). over.0 ++ more) next ∙ sym (append_assoc over.0 (row ∷ []) rest),
  all_over over.0 over.2,
)
  where
    all_over : (passed : List (List (List ℕ))) → ArePassedOver passed → ArePassedOver (passed ++ row ∷ [])
    all_over [] h = rw passes refl
    all_over (r ∷ passed) h =
        let parts = and_parts (is_passed_over r) (list_all is_passed_over passed) h in
        rw parts.0 (all_over passed parts.1)

-- ---- after rows that are passed over

behind : (passed rest : List (List (List ℕ))) (row : List (List ℕ)) → length (passed ++ row ∷ rest) ≡ length passed + 1 + length rest
behind passed rest row = let long = length-append passed (row ∷ rest) in omega (arith, long)

pub found_from : (all rest left : List (List (List ℕ))) (row : List (List ℕ)) (block : Block) → Skips all rest (Some row) → IsReadFrom row rest left block → IsFound all block left
found_from all rest left row block skips read = record {
  passed = skips.0;
  first = row;
  rows = read.1.rows;
  split = skips.1 ∙ ap (λ (more : List (List (List ℕ))). skips.0 ++ row ∷ more) read.1.split;
  skipped = skips.2;
  opens = read.0;
  sound = read.1.sound;
  known = read.1.known;
  ends = read.1.ends;
  value = read.1.value;
}

pub tells_from : (old now new : RecordsLeft) (row : List (List ℕ)) (refused : ReadRefused) → Skips old.left now.left (Some row) → AreCounted old now
    → BreaksFrom row now new refused → IsReadRefused old new refused
tells_from old now new row NoMemory skips counted breaks =
    let long = ap length skips.1 ∙ behind skips.0 now.left row in
    let more = breaks.0 in
    let few = breaks.1 in
    (omega (arith, long, counted, more), omega (arith, counted, few))
tells_from old now new row (At number fault) skips counted breaks =
    let long = ap length skips.1 ∙ behind skips.0 now.left row in
    elim breaks [
      | inl opening ↦
          let same = opening.2 in (
            record {
              passed = skips.0;
              first = row;
              behind = now.left;
              within = 1;
              split = skips.1;
              skipped = skips.2;
              other = skips.3;
              cause = inl (opening.0, refl, ap (λ (r : RecordsLeft). r.left) same);
              place = opening.1 ∙ omega (arith, long, counted);
            },
            ap (λ (r : RecordsLeft). r.taken + length r.left) same ∙ counted,
          )
      | inr within ↦
          let broken = within.1 in
          let place = broken.place in (
            record {
              passed = skips.0;
              first = row;
              behind = now.left;
              within = broken.within;
              split = skips.1;
              skipped = skips.2;
              other = skips.3;
              cause = inr (within.0, broken.rows, broken.rest, broken.split, broken.sound, broken.cause);
              place = omega (arith, long, counted, place);
            },
            within.2 ∙ counted,
          )
    ]
