-- The rows of streams, one after the other, and what follows them: how the stage was solved, its tests and the end.
use Rattle.std.specs.Prelude.{◌==◌, nat_lt, map}
use Rattle.std.specs.List.{AllByRecursion}
use Rattle.std.proofs.Common.{◌≡◌, ◌∙◌, ℕ, ◌+◌, ◌<◌, ◌≤◌, List, [], ◌∷◌, ◌++◌, length, true, false, None, refl, sym, ap, ap₂, subst, arith, append_assoc, length-append}
use Rattle.std.proofs.lemmas.Bool.{ne_eqb, lt-ltb}
use Rattle.std.proofs.lemmas.List.{append-nil}
use Rattle.std.proofs.Math.Seq.{get_or-append_seam}
use Rattle.pb_rows.specs.declared.name.Names.{Names}
use Rattle.pb_graph.specs.declared.records.Stream.{Stream}
use Rattle.pb_study.specs.declared.results.StreamResult.{StreamResult}
use Rattle.pb_graph.specs.ProcessGraph.{ProcessGraph, IsStream, IsWithinLimits}
use Rattle.pb_study.specs.WellFormed.{IsResultWithin}
use Rattle.pb_report.specs.Block.{result_row}
use Rattle.pb_report.specs.Names.{name_at}
use Rattle.pb_report.specs.Rows.{rows_with}
use Rattle.pb_form.specs.Value.{Value}
use Rattle.pb_form.specs.declared.output.OutputKind.{OutputKind}
use Rattle.pb_blocks.specs.declared.rows.StreamRow.{StreamRow}
use Rattle.pb_blocks.specs.Lists.{is_among}
use Rattle.pb_blocks.specs.Values.{said_arc, said_stream}
use Rattle.pb_readback.specs.declared.draft.Draft.{Draft}
use Rattle.pb_readback.specs.Drafts.{draft_with_row}
use Rattle.pb_readback.specs.Faults.{first_unknown}
use Rattle.pb_readback.specs.Written.{records_in}
use Rattle.pb_readback.proofs.WrittenFieldLemmas.{AreNew, AreWritten}
use Rattle.pb_readback.proofs.WrittenRowLemmas.{row_leaves, row_sound, takes_least, values_back}
use Rattle.pb_readback.proofs.WrittenStreamLemmas.{AreKnownNames, result_told, stream_back, stream_fields, stream_fine, stream_values, told_of, fields_are}
use Rattle.pb_readback.proofs.WrittenBlockLemmas.{Tells, last_of, tells_more, tells_none, tells_to}

-- the draft after the rows of streams
abbrev pub behind_streams : Names → Draft → List (List ℕ) → List Stream → List StreamResult → Draft
behind_streams names draft rest streams results =
    record draft {
      last = last_of OutputKind.Stream draft.last streams;
      streams = draft.streams ++ rest;
      graph = record draft.graph { streams = draft.graph.streams ++ streams };
      rows = draft.rows ++ map (told_of names) results;
    }

-- where rows of streams stand: after all nodes, and after this many streams
pub record IsAmidStreams (names : Names) (draft : Draft) (rest : List (List ℕ)) : Type 0 where
  pub all_nodes : nat_lt (length draft.nodes) draft.heading.nodes ≡ false
  pub nodes : draft.nodes ≡ names.nodes
  pub split : names.streams ≡ draft.streams ++ rest
  pub room : length draft.streams + length rest ≤ draft.heading.streams
  pub new : AreNew draft.streams rest
  pub with_least : takes_least draft.last ≡ true

-- not all streams are read
unfinished : (draft : Draft) → length draft.streams < draft.heading.streams → first_unknown draft ≡ None
unfinished draft lt =
    let other : (length draft.streams == draft.heading.streams) ≡ false = ne_eqb (length draft.streams) draft.heading.streams (λ e. omega (arith, e, lt)) in
    rw other refl

pub streams_tell : AreWritten → (names : Names) (graph : ProcessGraph) → AreKnownNames names graph → (draft : Draft) (rest : List (List ℕ)) (streams : List Stream) (results : List StreamResult)
    → length rest ≡ length streams → length results ≡ length streams → AllByRecursion (IsStream graph.nodes) streams → AllByRecursion IsWithinLimits streams
    → AllByRecursion (IsResultWithin graph) results → IsAmidStreams names draft rest
    → Tells draft (records_in (rows_with (result_row names) (length draft.streams) streams results)) (behind_streams names draft rest streams results)
streams_tell written names graph known draft [] [] [] few many joins limits within at =
    tells_to draft draft (behind_streams names draft [] [] []) []
    (ap₂ (λ (ns : List (List ℕ)) (p : List Stream × List StreamRow). record draft { streams = ns; graph = record draft.graph { streams = p.0 }; rows = p.1 })
    (sym (append-nil draft.streams)) (ap₂ (λ (ss : List Stream) (rs : List StreamRow). (ss, rs)) (sym (append-nil draft.graph.streams)) (sym (append-nil draft.rows))))
    (tells_none draft)
streams_tell written names graph known draft rest [] (result ∷ results) few many joins limits within at = absurd (omega (arith, many))
streams_tell written names graph known draft rest (stream ∷ streams) [] few many joins limits within at = absurd (omega (arith, many))
streams_tell written names graph known draft [] (stream ∷ streams) (result ∷ results) few many joins limits within at = absurd (omega (arith, few))
streams_tell written names graph known draft (name ∷ rest) [] results few many joins limits within at = absurd (omega (arith, few))
streams_tell written names graph known draft (name ∷ rest) (stream ∷ streams) (result ∷ results) few many joins limits within at =
    let i = length draft.streams in
    let whole : length names.streams ≡ i + length (name ∷ rest) = ap (λ (all : List (List ℕ)). length all) at.split ∙ length-append draft.streams (name ∷ rest) in
    let more : length (draft.streams ++ name ∷ []) ≡ i + 1 = length-append draft.streams (name ∷ []) in
    let here : name_at names.streams i ≡ name = ap (λ (all : List (List ℕ)). name_at all i) at.split ∙ get_or-append_seam draft.streams name rest [] in
    let below : i < draft.heading.streams = omega (arith, at.room) in
    let row = stream_fields names i stream result in
    let values = stream_values names i stream result in
    let fine = stream_fine written draft names graph i stream result known joins.0 limits.0 within.0 (omega (arith, whole)) (record {
      awaits = (at.all_nodes, lt-ltb i draft.heading.streams below);
      nodes = at.nodes;
      new = subst (λ (n : List ℕ). is_among draft.streams n ≡ false) (sym here) at.new.0;
      with_least = at.with_least;
    }) in
    let next : Draft = record draft {
      last = OutputKind.Stream;
      streams = draft.streams ++ name ∷ [];
      graph = record draft.graph { streams = draft.graph.streams ++ stream ∷ [] };
      rows = draft.rows ++ told_of names result ∷ [];
    } in
    let told : said_stream draft.nodes OutputKind.Stream row values ≡ told_of names result =
    ap (λ (nodes : List (List ℕ)). said_stream nodes OutputKind.Stream row values) at.nodes ∙ result_told written names graph i stream result known within.0 in
    let read : said_arc draft.nodes row values ≡ stream =
    ap (λ (nodes : List (List ℕ)). said_arc nodes row values) at.nodes ∙ stream_back names graph i stream result known joins.0 in
    let with = λ (said : List Value). record draft {
      last = OutputKind.Stream;
      streams = draft.streams ++ name_at names.streams i ∷ [];
      graph = record draft.graph { streams = draft.graph.streams ++ said_arc draft.nodes row said ∷ [] };
      rows = draft.rows ++ said_stream draft.nodes OutputKind.Stream row said ∷ [];
    } in
    let leaves : draft_with_row draft row ≡ next =
    row_leaves draft OutputKind.Stream row values fine ∙ ap with (values_back OutputKind.Stream row values fine.read)
    ∙ ap₂ (λ (n : List ℕ) (p : Stream × StreamRow). record draft {
      last = OutputKind.Stream;
      streams = draft.streams ++ n ∷ [];
      graph = record draft.graph { streams = draft.graph.streams ++ p.0 ∷ [] };
      rows = draft.rows ++ p.1 ∷ [];
    }) here (ap₂ (λ (s : Stream) (r : StreamRow). (s, r)) read told) in
    let after : IsAmidStreams names next rest = record {
      all_nodes = at.all_nodes;
      nodes = at.nodes;
      split = at.split ∙ sym (append_assoc draft.streams (name ∷ []) rest);
      room = omega (arith, more, at.room);
      new = at.new.1;
      with_least = refl;
    } in
    let behind = streams_tell written names graph known next rest streams results (omega (arith, few)) (omega (arith, many)) joins.1 limits.1 within.1 after in
    let same : behind_streams names next rest streams results ≡ behind_streams names draft (name ∷ rest) (stream ∷ streams) (result ∷ results) =
    ap₂ (λ (ns : List (List ℕ)) (p : List Stream × List StreamRow). record draft { last = last_of OutputKind.Stream OutputKind.Stream streams; streams = ns; graph = record draft.graph { streams = p.0 }; rows = p.1 })
    (append_assoc draft.streams (name ∷ []) rest)
    (ap₂ (λ (ss : List Stream) (rs : List StreamRow). (ss, rs)) (append_assoc draft.graph.streams (stream ∷ []) streams)
    (append_assoc draft.rows (told_of names result ∷ []) (map (told_of names) results))) in
    let all_rows = records_in (rows_with (result_row names) (i + 1) streams results) in
    let counted = subst (λ (n : ℕ). Tells next (records_in (rows_with (result_row names) n streams results)) (behind_streams names next rest streams results)) more behind in
    let told_row = λ (fields : List (List ℕ)). Tells draft (fields ∷ all_rows) (behind_streams names draft (name ∷ rest) (stream ∷ streams) (result ∷ results)) in
    subst told_row (fields_are names i stream result)
    (tells_more draft next row all_rows (behind_streams names draft (name ∷ rest) (stream ∷ streams) (result ∷ results)) (unfinished draft below) (row_sound draft OutputKind.Stream row values fine) leaves
    (tells_to next (behind_streams names next rest streams results) (behind_streams names draft (name ∷ rest) (stream ∷ streams) (result ∷ results)) all_rows same counted))
