-- Statement. Each input has one text for a run and one for a check; the check of a run's own reports finds nothing wrong; and each made
-- session has one summary.
use Rattle.std.specs.Prelude.{◌≡◌, ℕ, ◌≤◌, Bool, false, List, All}
use Rattle.pb_limits.specs.Limits.{most_made_streams}
use Rattle.pb_rows.specs.Records.{records_of}
use Rattle.pb_graph.specs.ProcessGraph.{ProcessGraph, IsProcessGraph}
use Rattle.pb_study.specs.declared.results.Study.{Study}
use Rattle.pb_study.specs.declared.results.Options.{Options}
use Rattle.pb_study.specs.declared.results.Critical.{Critical}
use Rattle.pb_study.specs.Options.{AreOptions}
use Rattle.pb_elim.specs.Study.{IsStudyOf}
use Rattle.pb_check.specs.Verdict.{IsPassed}
use Rattle.pb_report.specs.declared.form.Form.{Form}
use Rattle.pb_report.specs.declared.form.Form.TheVariants.{Csv}
use Rattle.pb_make.specs.Plant.{least_streams}
use Rattle.pb_audit.specs.Judgement.{IsJudgement}
use Rattle.pb_audit.specs.Laws.{IsJudgementText}
use Rattle.pb_cli.specs.Run.{IsTextOfRun}
use Rattle.pb_cli.specs.Summary.{IsSummaryText, made_options}

-- each input has a text of its run, for any options within their limits, in each form
abbrev pub SomeRunTextLaw : Type 0
SomeRunTextLaw = (options : Options) (form : Form) (input : List ℕ) → AreOptions options → (text : List ℕ) × IsTextOfRun options form input text

-- and no other
abbrev pub OneRunTextLaw : Type 0
OneRunTextLaw =
    (options : Options) (form : Form) (input one other : List ℕ)
    → IsTextOfRun options form input one → IsTextOfRun options form input other → one ≡ other

-- each input has the text of its check
abbrev pub SomeCheckTextLaw : Type 0
SomeCheckTextLaw = (input : List ℕ) → (text : List ℕ) × IsJudgementText (records_of input) text

-- and no other
abbrev pub OneCheckTextLaw : Type 0
OneCheckTextLaw =
    (input one other : List ℕ) → IsJudgementText (records_of input) one → IsJudgementText (records_of input) other → one ≡ other

-- each stage of a study passes at the gap and the sweeps of the study
abbrev pub OwnLaw : Type 0
OwnLaw = (graph : ProcessGraph) (options : Options) (critical : Critical) (study : Study)
    → IsProcessGraph graph → IsStudyOf graph options critical study
    → All (λ stage. IsPassed stage options.gap options.sweeps) study.stages

-- the check of the text of a run in CSV finds nothing wrong: each of its blocks gets a yes, and each of its rows can be read
abbrev pub OwnReportsLaw : Type 0
OwnReportsLaw =
    (options : Options) (input text judgement : List ℕ) (wrong : Bool) → AreOptions options → IsTextOfRun options Csv input text
    → IsJudgement wrong (records_of text) judgement → wrong ≡ false

-- a made session has at most one summary
abbrev pub OneSummaryLaw : Type 0
OneSummaryLaw =
    (number streams gap sweeps : ℕ) (one other : List ℕ) → IsSummaryText number streams gap sweeps one
    → IsSummaryText number streams gap sweeps other → one ≡ other

-- each made session has a summary
abbrev pub SomeSummaryLaw : Type 0
SomeSummaryLaw =
    (number streams gap sweeps : ℕ) → least_streams ≤ streams → streams ≤ most_made_streams
    → AreOptions (made_options gap sweeps) → (text : List ℕ) × IsSummaryText number streams gap sweeps text
