use Rattle.std.proofs.Common.{◌≡◌, ◌∙◌, ℕ, List, subst, sym}
use Rattle.pb_io.specs.Counts.{Rose}
use Rattle.pb_words.specs.declared.command.Command.{Command}
use Rattle.pb_words.specs.declared.command.Command.TheVariants.{Run, Check, Make}
use Rattle.pb_words.specs.Command.{IsCommandOf}
use Rattle.pb_words.proofs.WordLaws.{one_command}
use Rattle.pb_cli.specs.declared.status.Status.TheVariants.{NoMemory, TooLarge, WriteFault}
use Rattle.pb_cli.specs.Run.{EndsAs, IsGiven}
use Rattle.pb_cli.proofs.CommandLemmas.{completes, completes_unread, making_here, unless_failed}
use Rattle.pb_cli.proofs.runs.run.Goals as goal

pub returns-in-Err-Usage-clause-usage : goal.returns-in-Err-Usage-clause-usage
returns-in-Err-Usage-clause-usage g c = λ e accepted. c.in-Err-Usage.ensures.usage c.in-Err-Usage.field-0-is accepted.0 accepted.1

pub returns-in-Err-Usage-clause-complete : goal.returns-in-Err-Usage-clause-complete
returns-in-Err-Usage-clause-complete g c = λ command input of told none. absurd (c.in-Err-Usage.ensures.usage c.in-Err-Usage.field-0-is command of)

pub returns-in-Err-clause-not_too_large : goal.returns-in-Err-clause-not_too_large
returns-in-Err-clause-not_too_large g c = λ other. c.read_input.ensures.not_too_large (λ large.
    let both = sym c.in-Err.is ∙ large in
    let same : c.in-Err.status ≡ TooLarge = cc both in
    other same)

pub returns-in-Err-clause-complete : goal.returns-in-Err-clause-complete
returns-in-Err-clause-complete g c =
    completes_unread one_command c.args.words.now c.in-Ok.command (g.R.Source.seen c.args.source.now) (g.R.Source.seen c.read_input.new.source)
    (Rose (g.W.Sink.seen c.args.sink.now).faults (g.W.Sink.seen c.args.sink.now).faults) c.in-Err.status c.in-Ok.ensures.ok c.in-Err.ensures.complete

pub returns-in-Err-clause-make_unread : goal.returns-in-Err-clause-make_unread
returns-in-Err-clause-make_unread g c = λ number streams summary gap sweeps made. c.read_input.ensures.unread (making_here one_command c.args.words.now c.in-Ok.command c.in-Ok.ensures.ok number streams summary gap sweeps made)

pub returns-in-Run-clause-complete : goal.returns-in-Run-clause-complete
returns-in-Run-clause-complete g c =
    let source_old = g.R.Source.seen c.args.source.now in
    let source_new = g.R.Source.seen c.read_input.new.source in
    let run : Command = Run c.in-Run.options c.in-Run.form in
    let here : IsCommandOf c.args.words.now run = subst (λ (command : Command). IsCommandOf c.args.words.now command) c.in-Run.is c.in-Ok.ensures.ok in
    let given : (input : List ℕ) → IsGiven run source_old source_new input → c.in-Ok-read_input.input.items ≡ input =
    subst (λ (command : Command). (input : List ℕ) → IsGiven command source_old source_new input → c.in-Ok-read_input.input.items ≡ input) c.in-Run.is c.in-Ok-read_input.ensures.given in
    completes one_command c.args.words.now run c.as_slice.result.now source_old source_new
    (Rose (g.W.Sink.seen c.args.sink.now).faults (g.W.Sink.seen c.answer.new.sink).faults) c.answer.result here (λ input told. c.as_slice.ensures.value ∙ given input told)
    (unless_failed (EndsAs run c.as_slice.result.now c.answer.result) (c.answer.result ≡ WriteFault) (c.answer.result ≡ NoMemory)
    (Rose (g.W.Sink.seen c.args.sink.now).faults (g.W.Sink.seen c.answer.new.sink).faults) c.answer.ensures.answers c.answer.ensures.write_fault)

pub returns-in-Run-clause-make_unread : goal.returns-in-Run-clause-make_unread
returns-in-Run-clause-make_unread g c = λ number streams summary gap sweeps made. c.read_input.ensures.unread (making_here one_command c.args.words.now c.in-Ok.command c.in-Ok.ensures.ok number streams summary gap sweeps made)

pub returns-in-Check-clause-complete : goal.returns-in-Check-clause-complete
returns-in-Check-clause-complete g c =
    let source_old = g.R.Source.seen c.args.source.now in
    let source_new = g.R.Source.seen c.read_input.new.source in
    let here : IsCommandOf c.args.words.now Check = subst (λ (command : Command). IsCommandOf c.args.words.now command) c.in-Check.is c.in-Ok.ensures.ok in
    let given : (input : List ℕ) → IsGiven Check source_old source_new input → c.in-Ok-read_input.input.items ≡ input =
    subst (λ (command : Command). (input : List ℕ) → IsGiven command source_old source_new input → c.in-Ok-read_input.input.items ≡ input) c.in-Check.is c.in-Ok-read_input.ensures.given in
    completes one_command c.args.words.now Check c.as_slice-in-Check.result.now source_old source_new
    (Rose (g.W.Sink.seen c.args.sink.now).faults (g.W.Sink.seen c.judge.new.sink).faults) c.judge.result here (λ input told. c.as_slice-in-Check.ensures.value ∙ given input told)
    (unless_failed (EndsAs Check c.as_slice-in-Check.result.now c.judge.result) (c.judge.result ≡ WriteFault) (c.judge.result ≡ NoMemory)
    (Rose (g.W.Sink.seen c.args.sink.now).faults (g.W.Sink.seen c.judge.new.sink).faults) c.judge.ensures.answers c.judge.ensures.write_fault)

pub returns-in-Check-clause-make_unread : goal.returns-in-Check-clause-make_unread
returns-in-Check-clause-make_unread g c = λ number streams summary gap sweeps made. c.read_input.ensures.unread (making_here one_command c.args.words.now c.in-Ok.command c.in-Ok.ensures.ok number streams summary gap sweeps made)

pub returns-clause-complete : goal.returns-clause-complete
returns-clause-complete g c =
    let source_old = g.R.Source.seen c.args.source.now in
    let source_new = g.R.Source.seen c.read_input.new.source in
    let make : Command = Make c.in-Make.number c.in-Make.streams c.in-Make.summary c.in-Make.gap c.in-Make.sweeps in
    let here : IsCommandOf c.args.words.now make = subst (λ (command : Command). IsCommandOf c.args.words.now command) c.in-Make.is c.in-Ok.ensures.ok in
    let given : (input : List ℕ) → IsGiven make source_old source_new input → c.in-Ok-read_input.input.items ≡ input =
    subst (λ (command : Command). (input : List ℕ) → IsGiven command source_old source_new input → c.in-Ok-read_input.input.items ≡ input) c.in-Make.is c.in-Ok-read_input.ensures.given in
    completes one_command c.args.words.now make c.in-Ok-read_input.input.items source_old source_new
    (Rose (g.W.Sink.seen c.args.sink.now).faults (g.W.Sink.seen c.make_session.new.sink).faults) c.make_session.result here given c.make_session.ensures.complete
