-- The reports of a run read back as the stages of their studies, each of which passes.
use Rattle.std.proofs.Common.{◌≡◌, ◌∙◌, ◌&&◌, ℕ, ◌+◌, Bool, true, false, List, [], ◌∷◌, ◌++◌, length, map, All, Option, Some, None, Result, Ok, Err, ap, ap₂, sym, refl, subst, arith, slice_get, get_or, codes}
use Rattle.std.specs.Prelude.{is_some, slice_index_or}
use Rattle.std.proofs.lemmas.Option.{get_or_from_slice_get, slice_get-get_or, slice_get_within}
use Rattle.std.specs.List.{list_all, list_any}
use Rattle.std.proofs.lemmas.List.{map-append}
use Rattle.std.proofs.lemmas.List.Elements.{All-append, All-cons, All-head, All-nil, All-tail, All-weaker}
use Rattle.std.proofs.lemmas.List.Folds.{list_all-append}
use Rattle.std.proofs.lemmas.Grind.{flat_map-append}
use Rattle.pb_rows.specs.declared.name.Names.{Names}
use Rattle.pb_rows.specs.Name.{is_name}
use Rattle.pb_rows.specs.Records.{records_of}
use Rattle.pb_rows.specs.Written.{begins_with_word}
use Rattle.pb_plan.specs.Codes.{window_names}
use Rattle.pb_plan.specs.Places.{window_places}
use Rattle.pb_study.specs.declared.results.Options.{Options}
use Rattle.pb_study.specs.declared.results.Bounds.{Bounds}
use Rattle.pb_study.specs.declared.results.Stage.{Stage}
use Rattle.pb_graph.specs.ProcessGraph.{IsProcessGraph, ProcessGraph}
use Rattle.pb_graph.specs.declared.records.Classified.{Classified}
use Rattle.pb_graph.specs.declared.records.Stream.{Stream}
use Rattle.pb_stage.specs.Certified.{HasLeastThroughout, IsCertifiedStage}
use Rattle.pb_study.specs.Criticals.{AreCritical}
use Rattle.pb_elim.specs.Laws.{FormedLaw}
use Rattle.pb_study.specs.Options.{AreOptions}
use Rattle.pb_check.specs.Verdict.{IsPassed}
use Rattle.pb_book.specs.declared.answer.Accepted.{Accepted}
use Rattle.pb_book.specs.declared.answer.Accepted.TheVariants.{Blank, Design, Report, History, Advise, Component, Window}
use Rattle.pb_kinds.specs.Costs.{named_costs}
use Rattle.pb_periods.specs.declared.period.Period.{Period}
use Rattle.pb_book.specs.Accepted.{AreAccepted}
use Rattle.pb_book.specs.Answer.{Answer, Refuses, Says, Stores, answer_of, cause_code}
use Rattle.pb_book.specs.Edits.{history_of}
use Rattle.pb_book.specs.Laws.{AcceptedLaw, AskedWindowLaw}
use Rattle.pb_book.specs.Named.{AreNamed, HaveWellFormedNames, NamedLaw}
use Rattle.pb_kinds.specs.declared.rows.StoredRow.{StoredRow}
use Rattle.pb_book.specs.Rows.{declared_of, periods_of}
use Rattle.pb_book.specs.Windows.{BookWindowsLaw, IsWindowAsked, window_between}
use Rattle.pb_periods.specs.Windows.{names_of_periods, periods_between}
use Rattle.pb_period.specs.declared.days.Days.{Days}
use Rattle.pb_period.specs.Days.{days_of}
use Rattle.pb_period.specs.declared.graph.Assembly.{Assembly}
use Rattle.pb_period.specs.declared.graph.Assembly.TheVariants.{Over, NoMemory}
use Rattle.pb_period.specs.PeriodGraph.{assembly_of, design_graph, period_names}
use Rattle.pb_report.specs.declared.form.Form.{Form}
use Rattle.pb_report.specs.declared.form.Form.TheVariants.{Csv}
use Rattle.pb_report.specs.Form.{row_text, text_in}
use Rattle.pb_report.specs.Row.{OutputRow, fields_of}
use Rattle.pb_report.specs.Rows.{rows_with}
use Rattle.pb_report.specs.Study.{study_rows}
use Rattle.pb_readback.specs.declared.block.Block.{Block}
use Rattle.pb_readback.specs.Laws.{JoinLaw}
use Rattle.pb_readback.specs.Next.{AreBlocks}
use Rattle.pb_readback.specs.Written.{BeginWithWords, HasBoundsForLeast, HasKindWord, IsPassedRow, IsReportable, PassedRowsLaw, RowTextLaw, RowWordsLaw, StudyRowsLaw, block_with, blocks_from, records_in}
use Rattle.pb_session.specs.Criticals.{critical_of}
use Rattle.pb_report.specs.Advice.{advice_row, advice_rows, meter_row}
use Rattle.pb_report.specs.Component.{component_row}
use Rattle.pb_report.specs.Design.{class_row, design_rows, graph_row}
use Rattle.pb_report.specs.History.{edit_row, history_rows, period_row}
use Rattle.pb_report.specs.Names.{name_at}
use Rattle.pb_report.specs.Over.{over_row}
use Rattle.pb_report.specs.Refusal.{refused_row}
use Rattle.pb_report.specs.Window.{place_row, window_row}
use Rattle.pb_site.specs.Site.{names_of, version_of}
use Rattle.pb_window.specs.Between.{assembly_between}
use Rattle.pb_session.specs.Session.{Adds, AddsAccepted, AddsBy, Balances, IsHistoryText, IsReport, IsSessionText, IsTextOf, Reports, ReportsBy, SessionState, Windows, state_after, window_head}
use Rattle.pb_audit.specs.Judgement.{AreFindings, Finding, IsJudgement, IsPassedBlock, passed, is_wrong}
use Rattle.pb_audit.specs.Laws.{OneFindingsLaw, PassedLaw}
use Rattle.pb_readback.proofs.ReadbackLaws.{list_passed, one_passed, only_passed}
use Rattle.pb_cli.proofs.ServedLemmas.{days_named}
use Rattle.pb_cli.specs.Laws.{OwnLaw}

-- A text consists of rows that read back as blocks, each of which passes.
pub record ReadsBack (text : List ℕ) : Type 0 where
  pub rows : List OutputRow
  pub blocks : List Block
  pub text_is : text ≡ text_in Csv rows
  pub words : BeginWithWords rows
  pub are : AreBlocks (records_in rows) blocks
  pub pass : All IsPassedBlock blocks

-- no row
none_read : ReadsBack []
none_read = record { rows = []; blocks = []; text_is = refl; words = refl; are = refl; pass = All-nil IsPassedBlock }

-- one text after the other
both_read : JoinLaw → (front back : List ℕ) → ReadsBack front → ReadsBack back → ReadsBack (front ++ back)
both_read join front back a b =
    let joined : records_in (a.rows ++ b.rows) ≡ records_in a.rows ++ records_in b.rows = map-append fields_of a.rows b.rows in
    record {
      rows = a.rows ++ b.rows;
      blocks = a.blocks ++ b.blocks;
      text_is = ap₂ (λ (x y : List ℕ). x ++ y) a.text_is b.text_is ∙ sym (flat_map-append (row_text Csv) a.rows b.rows);
      words =
          ap (λ (l : List (List (List ℕ))). list_all begins_with_word l) joined ∙ list_all-append begins_with_word (records_in a.rows) (records_in b.rows)
          ∙ ap₂ (λ (x y : Bool). x && y) a.words b.words;
      are =
          subst (λ (l : List (List (List ℕ))). AreBlocks l (a.blocks ++ b.blocks)) (sym joined)
          (join (records_in a.rows) (records_in b.rows) a.blocks b.blocks a.are b.are);
      pass = All-append IsPassedBlock a.blocks b.blocks a.pass b.pass;
    }

-- ---- what holds for a session, and still holds later

pub record IsSound (state : SessionState) : Type 0 where
  pub form : state.form ≡ Csv
  pub options : AreOptions state.options
  pub accepted : AreAccepted state.rows
  pub named : HaveWellFormedNames state.rows

sound_after : AcceptedLaw → NamedLaw → (state : SessionState) (at : ℕ) (fields : List (List ℕ)) → IsSound state → IsSound (state_after state at fields)
sound_after accepted named state at fields sound = record {
  form = sound.form;
  options = sound.options;
  accepted = accepted.go_on state.rows at fields sound.accepted;
  named = named.go_on state.rows at fields sound.named;
}

-- rows in the form of a session
in_csv : (state : SessionState) (rows : List OutputRow) (text : List ℕ) → state.form ≡ Csv → text ≡ text_in state.form rows → text ≡ text_in Csv rows
in_csv state rows text csv is = is ∙ ap (λ (form : Form). text_in form rows) csv

-- What is known about studies, their rows, and the other rows.
pub record AreKnown : Type 0 where
  pub join : JoinLaw
  pub rows : StudyRowsLaw
  pub others : PassedRowsLaw
  pub words : RowWordsLaw
  pub formed : FormedLaw
  pub own : OwnLaw
  pub critical : (rows : List StoredRow) → AreAccepted rows → AreCritical (critical_of rows)

-- ---- rows that are passed over

-- rows without a block
passed_over : AreKnown → (rows : List OutputRow) (text : List ℕ) → text ≡ text_in Csv rows → All IsPassedRow rows → ReadsBack text
passed_over known rows text is each = record {
  rows = rows;
  blocks = [];
  text_is = is;
  words = known.words.rows rows (All-weaker IsPassedRow HasKindWord (λ row (is : IsPassedRow row). is.word) rows each);
  are = known.others rows each;
  pass = All-nil IsPassedBlock;
}

classes_passed : (names : Names) (i : ℕ) (streams : List Stream) (classes : List Classified) → All IsPassedRow (rows_with (class_row names) i streams classes)
classes_passed names i [] classes = All-nil IsPassedRow
classes_passed names i (stream ∷ streams) [] = All-nil IsPassedRow
classes_passed names i (stream ∷ streams) (classified ∷ classes) =
    All-cons IsPassedRow (class_row names i stream classified) (rows_with (class_row names) (i + 1) streams classes)
    (one_passed (class_row names i stream classified) refl refl) (classes_passed names (i + 1) streams classes)

-- ---- a report

at_place : {X : Type 0} (P : X → Type 0) (xs : List X) (i : ℕ) (x : X) → slice_get xs i ≡ Some x → All P xs → P x
at_place P xs i x is all = subst P (get_or_from_slice_get xs i x x is) (all i x (slice_get_within xs i x is))

first_is : (names : List (List ℕ)) (name : List ℕ) → slice_get names 0 ≡ Some name → slice_index_or names 0 [] ≡ name
first_is [] name is = cc is
first_is (x ∷ names) name is = cc is

-- stages that pass are blocks that pass
blocks_pass : (names : Names) (period : List ℕ) (options : Options) (round : ℕ) (stages : List Stage) → All (λ (stage : Stage). IsPassed stage options.gap options.sweeps) stages
    → All IsPassedBlock (blocks_from names period options round stages)
blocks_pass names period options round [] all = All-nil IsPassedBlock
blocks_pass names period options round (stage ∷ stages) all =
    All-cons IsPassedBlock (block_with names period options round stage) (blocks_from names period options (round + 1) stages)
    (All-head (λ (stage : Stage). IsPassed stage options.gap options.sweeps) stage stages all)
    (blocks_pass names period options (round + 1) stages (All-tail (λ (stage : Stage). IsPassed stage options.gap options.sweeps) stage stages all))

-- no stream has least bounds without bounds, if each has least bounds exactly if it has bounds
none_there : (least : Option Bounds) → is_some least ≡ false → least ≡ None
none_there None none = refl
none_there (Some bounds) none = cc none

bounds_for_least : (stage : Stage) → HasLeastThroughout stage → All HasBoundsForLeast stage.streams
bounds_for_least stage through = λ k d lt.
    let result = get_or stage.streams k d in
    λ none. none_there result.least (through k result (slice_get-get_or stage.streams k d lt) ∙ ap is_some none)

-- names of nodes and streams are names
record HaveForms (names : Names) : Type 0 where
  nodes : list_all is_name names.nodes ≡ true
  streams : list_all is_name names.streams ≡ true

-- so are those of the graph of some days
served_named : (rows : List StoredRow) (days : Days) → AreNamed rows → HaveForms (period_names rows days)
served_named rows days named =
    let (nodes, streams) = days_named (version_of (declared_of rows)) (declared_of rows) days.first days.last named.nodes named.streams in
    record { nodes = nodes; streams = streams }

-- a report can be read back
reportable : AreKnown → (state : SessionState) (before : List OutputRow) (names : Names) (period : List ℕ) (graph : ProcessGraph) (text : List ℕ) → IsSound state → HaveForms names → is_name period ≡ true
    → (report : IsReport state before names period graph text) → IsReportable names period state.options report.study
reportable known state before names period graph text sound forms name report = record {
  named = record {
    graph = graph;
    named = report.named.each;
    formed = known.formed graph state.options (critical_of state.rows) report.study report.limits sound.options (known.critical state.rows sound.accepted) report.is_study;
  };
  graphs =
      All-weaker IsCertifiedStage (λ (stage : Stage). IsProcessGraph stage.graph) (λ (stage : Stage) (c : IsCertifiedStage stage). c.shown.limits) report.study.stages
      report.certified;
  least = All-weaker HasLeastThroughout (λ (stage : Stage). All HasBoundsForLeast stage.streams) bounds_for_least report.study.stages report.least;
  all_names = record {
    node_forms = forms.nodes;
    stream_forms = forms.streams;
    nodes_differ = report.named.nodes;
    streams_differ = report.named.streams;
    env = first_is names.nodes (codes "env") report.named.environment;
  };
  name = name;
  asked = record { some_gap = sound.options.some_gap; greatest_gap = sound.options.greatest_gap; greatest_sweeps = sound.options.greatest_sweeps };
  greatest_round = omega (arith, report.is_study.rounds.between, report.is_study.rounds.rounds, sound.options.greatest_rounds);
}

-- rows without a block, and a report after them
report_read : AreKnown → (state : SessionState) (before : List OutputRow) (names : Names) (period : List ℕ) (graph : ProcessGraph) (text : List ℕ) → IsSound state → HaveForms names → is_name period ≡ true
    → All IsPassedRow before → IsReport state before names period graph text → ReadsBack text
report_read known state before names period graph text sound forms name each report =
    let rows : List OutputRow = study_rows names period state.options report.study in
    let whole : text ≡ text_in Csv before ++ text_in Csv rows =
    in_csv state (before ++ rows) text sound.form report.rows ∙ flat_map-append (row_text Csv) before rows in
    subst (λ (t : List ℕ). ReadsBack t) (sym whole) (both_read known.join (text_in Csv before) (text_in Csv rows) (passed_over known before (text_in Csv before) refl each) (record {
      rows = rows;
      blocks = blocks_from names period state.options 0 report.study.stages;
      text_is = refl;
      words = known.words.studies names period state.options report.study;
      are = known.rows names period state.options report.study (reportable known state before names period graph text sound forms name report);
      pass =
          blocks_pass names period state.options 0 report.study.stages
          (known.own graph state.options (critical_of state.rows) report.study report.limits report.is_study);
    }))

-- a period's name is a name
period_named : NamedLaw → (state : SessionState) (i : ℕ) (period : Period) → IsSound state → slice_get (periods_of state.rows) i ≡ Some period → is_name period.name ≡ true
period_named law state i period sound at =
    at_place (λ (p : Period). is_name p.name ≡ true) (periods_of state.rows) i period at (law.named state.rows sound.named).periods

-- the row of a stream beyond the limits
over_read : AreKnown → (state : SessionState) (period stream text : List ℕ) → IsSound state → IsTextOf state (over_row period stream ∷ []) text → ReadsBack text
over_read known state period stream text sound is =
    let rows : List OutputRow = over_row period stream ∷ [] in
    passed_over known rows text (in_csv state rows text sound.form is) (only_passed (over_row period stream) (one_passed (over_row period stream) refl refl))

-- a report after such rows, or the row of a stream beyond the limits
reports_by_read : AreKnown → (state : SessionState) (before : List OutputRow) (names : Names) (period : List ℕ) (assembly : Result ProcessGraph Assembly) (text : List ℕ) → IsSound state → HaveForms names
    → is_name period ≡ true → All IsPassedRow before → ReportsBy state before names period assembly text → ReadsBack text
reports_by_read known state before names period (Ok graph) text sound forms name each report =
    report_read known state before names period graph text sound forms name each report
reports_by_read known state before names period (Err (Over j)) text sound forms name each is = over_read known state period (name_at names.streams j) text sound is
reports_by_read known state before names period (Err NoMemory) text sound forms name each is = absurd is

reports_read : AreKnown → NamedLaw → (state : SessionState) (i : ℕ) (text : List ℕ) → IsSound state → (found : Option Period) → slice_get (periods_of state.rows) i ≡ found
    → Reports state found text → ReadsBack text
reports_read known law state i text sound None at reports = absurd reports
reports_read known law state i text sound (Some period) at reports =
    reports_by_read known state [] (period_names state.rows (days_of period)) period.name (assembly_of state.rows (days_of period)) text sound
    (served_named state.rows (days_of period) (law.named state.rows sound.named)) (period_named law state i period sound at) (All-nil IsPassedRow) reports

-- ---- the balance of a component

-- the report of its graph after the row of the component
balances_read : AreKnown → NamedLaw → (state : SessionState) (component : List ℕ) (i : ℕ) (text : List ℕ) → IsSound state → (found : Option Period) → slice_get (periods_of state.rows) i ≡ found
    → Balances state component found text → ReadsBack text
balances_read known law state component i text sound None at balance = absurd balance
balances_read known law state component i text sound (Some period) at (answer, of, by) =
    reports_by_read known state (component_row component period.name ∷ []) (period_names state.rows (days_of period)) period.name answer text sound
    (served_named state.rows (days_of period) (law.named state.rows sound.named)) (period_named law state i period sound at)
    (only_passed (component_row component period.name) (one_passed (component_row component period.name) refl refl)) by

-- ---- a window of several periods

-- what is known about windows that are asked for
pub record AreKnownWindows : Type 0 where
  pub books : BookWindowsLaw
  pub asked : AskedWindowLaw

windows_read : AreKnown → AreKnownWindows → NamedLaw → (state : SessionState) (i k : ℕ) (text : List ℕ) → IsSound state → IsWindowAsked state.rows i k
    → Windows state (slice_get (periods_of state.rows) i) (slice_get (periods_of state.rows) k) text → ReadsBack text
windows_read known windows law state i k text sound asked adds =
    let first = asked.one in
    let last = asked.other in
    let window = window_between state.rows first last in
    let periods = periods_between (periods_of state.rows) first last in
    let places = window_places (names_of (declared_of state.rows)) (names_of_periods periods) window in
    let row = window_row first.name last.name (length periods) in
    let codes = (windows.books state.rows first last sound.accepted asked.no_cause).names in
    reports_by_read known state (window_head state.rows first last) (window_names window) first.name (assembly_between state.rows first last) text sound
    (record { nodes = codes.nodes.forms; streams = codes.streams.forms }) (period_named law state i first sound asked.first_is)
    (list_passed row (one_passed row refl refl) place_row (λ place. one_passed (place_row place) refl refl) places)
    (subst (λ (o : Option Period). Windows state (Some first) o text) asked.last_is
    (subst (λ (o : Option Period). Windows state o (slice_get (periods_of state.rows) k) text) asked.first_is adds))

-- ---- one record, and all of them

record_read : AreKnown → AreKnownWindows → NamedLaw → (state : SessionState) (at : ℕ) (fields : List (List ℕ)) (text : List ℕ) → IsSound state → Adds state at fields text → ReadsBack text
record_read known windows law state at fields text sound adds = by (answer_of state.rows fields) refl adds
  where
    tells : (found : Option Period) → IsHistoryText state found text → ReadsBack text
    tells None is = absurd is
    tells (Some period) is =
        let edits = history_of state.rows period in
        let rows : List OutputRow = history_rows period.name period.closed edits in
        let row = period_row period.name period.closed (length edits) in
        passed_over known rows text (in_csv state rows text sound.form is) (list_passed row (one_passed row refl refl) edit_row (λ edit. one_passed (edit_row edit) refl refl) edits)

    nothing : text ≡ [] → ReadsBack text
    nothing is = subst (λ (t : List ℕ). ReadsBack t) (sym is) none_read

    said : (accepted : Accepted) → answer_of state.rows fields ≡ Says accepted → AddsAccepted state (named_costs fields) accepted text → ReadsBack text
    said Blank asks is = nothing is
    said Accepted.Stored asks is = nothing is
    said Design asks design =
        let names = names_of (declared_of state.rows) in
        let graph = design_graph state.rows in
        let rows : List OutputRow = design_rows names graph design.classes in
        let each = classes_passed names 0 graph.streams design.classes in
        passed_over known rows text (in_csv state rows text sound.form design.rows)
        (All-cons IsPassedRow (graph_row graph) (rows_with (class_row names) 0 graph.streams design.classes) (one_passed (graph_row graph) refl refl) each)
    said (Report i) asks reports = reports_read known law state i text sound (slice_get (periods_of state.rows) i) refl reports
    said (History i) asks is = tells (slice_get (periods_of state.rows) i) is
    said (Component component i) asks balance = balances_read known law state component i text sound (slice_get (periods_of state.rows) i) refl balance
    said (Window i k) asks adds = windows_read known windows law state i k text sound (windows.asked state.rows fields i k asks) adds
    said Advise asks advised =
        let names = names_of (declared_of state.rows) in
        let rows : List OutputRow = advice_rows names advised.advice in
        let row = advice_row advised.advice in
        passed_over known rows text (in_csv state rows text sound.form advised.rows)
        (list_passed row (one_passed row refl refl) (meter_row names) (λ meter. one_passed (meter_row names meter) refl refl) advised.advice.meter)

    by : (answer : Answer) → answer_of state.rows fields ≡ answer → AddsBy state at (named_costs fields) answer text → ReadsBack text
    by (Refuses cause) asks is =
        let row = refused_row at (cause_code cause) in
        passed_over known (row ∷ []) text (in_csv state (row ∷ []) text sound.form is) (only_passed row (one_passed row refl refl))
    by (Stores effect) asks is = nothing is
    by (Says accepted) asks is = said accepted asks is

pub session_read : AreKnown → AreKnownWindows → NamedLaw → AcceptedLaw → (state : SessionState) (at : ℕ) (records : List (List (List ℕ))) (text : List ℕ) → IsSound state → IsSessionText state at records text → ReadsBack text
session_read known windows law accepted state at [] text sound is = subst (λ (t : List ℕ). ReadsBack t) (sym is) none_read
session_read known windows law accepted state at (fields ∷ records) text sound (first, rest, adds, texts, whole) =
    let here = record_read known windows law state at fields first sound adds in
    let behind = session_read known windows law accepted (state_after state at fields) (at + 1) records rest (sound_after accepted law state at fields sound) texts in
    subst (λ (t : List ℕ). ReadsBack t) (sym whole) (both_read known.join first rest here behind)

-- ---- the check of this text

nothing_wrong : (blocks : List Block) → list_any is_wrong (map (λ (block : Block). passed block) blocks) ≡ false
nothing_wrong [] = refl
nothing_wrong (block ∷ blocks) = nothing_wrong blocks

-- nothing wrong is found in it
pub reads_right : RowTextLaw → PassedLaw → OneFindingsLaw → (text : List ℕ) → ReadsBack text → (wrong : Bool) (judgement : List ℕ) → IsJudgement wrong (records_of text) judgement → wrong ≡ false
reads_right written passes one text reads wrong judgement judged =
    let records : records_of text ≡ records_in reads.rows = ap records_of reads.text_is ∙ written reads.rows reads.words in
    let here = subst (λ (rs : List (List (List ℕ))). AreFindings 0 rs judged.findings) records judged.are in
    let same = one 0 (records_in reads.rows) judged.findings _ here (passes 0 (records_in reads.rows) reads.blocks reads.are reads.pass) in
    judged.wrong_is ∙ ap (λ (fs : List Finding). list_any is_wrong fs) same ∙ nothing_wrong reads.blocks
