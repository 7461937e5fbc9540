use Rattle.std.proofs.Common.{◌≡◌, ◌∙◌, Option, ap, arith, is_some, refl}
use Rattle.pb_book.specs.declared.answer.Refused.{Refused}
use Rattle.pb_book.specs.Answer.{Answer, Refuses, Says, Stores, answer_of, is_refused}
use Rattle.std.proofs.lemmas.Result.{err_from_is_err_and}
use Rattle.pb_session.specs.Session.{Adds, cause_in}
use Rattle.pb_cli.specs.declared.answers.Stopped.TheVariants.{OutOfMemory, SinkFault}
use Rattle.pb_cli.proofs.TextLemmas.{any_err, cut_text, put_text}
use Rattle.pb_cli.proofs.answers.answer_record.Goals as goal

apart : OutOfMemory ≡ SinkFault → ⊥
apart e = cc e

-- out of memory for the text
pub returns-in_err-refused : goal.returns-in_err-refused
returns-in_err-refused g c =
    let p = err_from_is_err_and c.from_residual.result c.from_residual.ensures.1 in
    record {
      stored = rw p.1 tt;
      refused = rw p.1 tt;
      whole = rw p.1 tt;
      no_memory = any_err c.from_residual.result _ (λ e same. refl);
      cut = rw (p.1, p.2) (λ e. absurd (apart e));
      cause = rw (p.1, p.2) (λ e. absurd (apart e));
      no_fault = rw p.1 tt;
      idle = refl;
      faults_stay = omega arith;
      stops = λ _. refl;
    }

-- the sink failed within it
pub returns-in_err-write_all-clause-cut : goal.returns-in_err-write_all-clause-cut
returns-in_err-write_all-clause-cut g c =
    any_err c.from_residual-in_err-write_all.result _ (λ e same.
    cut_text (Adds c.args.session.now.state c.args.at c.args.fields.now) c.new-text.result.items c.row.new.out.items c.as_slice.result.now (g.W.Sink.seen c.args.sink.now)
    (g.W.Sink.seen c.write_all.new.sink) c.in_ok-refused.ensures.ok c.new-text.ensures.items c.as_slice.ensures.value c.in_err-write_all.ensures.prefix)

-- it is written
pub returns-clause-whole : goal.returns-clause-whole
returns-clause-whole g c =
    put_text (Adds c.args.session.now.state c.args.at c.args.fields.now) c.new-text.result.items c.row.new.out.items c.as_slice.result.now (g.W.Sink.seen c.args.sink.now)
    (g.W.Sink.seen c.write_all.new.sink) c.in_ok-refused.ensures.ok c.new-text.ensures.items c.as_slice.ensures.value c.in_ok-write_all.ensures.whole

-- a record is refused iff there is a cause
some_cause : (answer : Answer) (cause : Option Refused) → cause ≡ cause_in answer → is_some cause ≡ is_refused answer
some_cause (Refuses why) cause is = ap is_some is
some_cause (Stores effect) cause is = ap is_some is
some_cause (Says accepted) cause is = ap is_some is

pub returns-clause-refused : goal.returns-clause-refused
returns-clause-refused g c = c.is_some.ensures ∙ some_cause (answer_of c.args.session.now.state.rows c.args.fields.now) _ c.in_ok-refused.ensures.refused
