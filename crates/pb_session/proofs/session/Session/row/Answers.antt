use Rattle.std.proofs.Common.{◌≡◌, ◌≢◌, ◌∙◌, ◌≤◌, List, Option, Some, None, length, IfSome, OnErr, Result, Ok, Err, refl, sym, ap, ap₂, subst}
use Rattle.std.specs.List.{AllByRecursion}
use Rattle.pb_study.specs.declared.results.Stage.{Stage}
use Rattle.pb_classify.specs.Classification.{IsClassification}
use Rattle.pb_stage.specs.Printed.{printed_classes}
use Rattle.pb_book.specs.declared.answer.Accepted.{Accepted}
use Rattle.pb_book.specs.declared.answer.Refused.{Refused}
use Rattle.pb_book.specs.declared.answer.NotAccepted.{NotAccepted}
use Rattle.pb_book.specs.declared.answer.NotAccepted.TheVariants.{NoMemory}
use Rattle.pb_kinds.specs.declared.rows.StoredRow.{StoredRow}
use Rattle.pb_book.specs.declared.answer.Accepted.TheVariants.{Advise}
use Rattle.pb_kinds.specs.Costs.{named_costs}
use Rattle.pb_book.specs.Answer.{Answer, Refuses, Says, after, after_answer, answer_of, said_of}
use Rattle.pb_period.proofs.GraphLaws.{closed_graphs_law, untouched_law}
use Rattle.pb_session.specs.declared.kept.KeptStudy.{KeptStudy}
use Rattle.pb_session.specs.Closed.{LeavesClosed}
use Rattle.pb_session.specs.Keeping.{IsKeeping, IsKeptStudy, held_of, last_stage, left_by, saved_by}
use Rattle.pb_session.specs.Kept.{Held, IsReportedStage, Keeps, KeepsAccepted, KeepsBy, most_kept, reported_after, reported_behind}
use Rattle.pb_session.specs.Session.{AddsBy, Adds, SessionState, cause_in, state_after}
use Rattle.pb_session.proofs.KeepingLemmas.{graph_in, keeps_by, left_few, left_kept, left_other, left_stage, reported_still, said, said_ok, saved_other, state_with}
use Rattle.pb_session.proofs.ClosedLemmas.{leaves_closed, none_joined}
use Rattle.pb_session.proofs.KeptLemmas.{periods_in}
use Rattle.pb_session.proofs.RowLemmas.{accepted_adds, accepted_is, advice_is, answers, of_periods, refused_is, unchanged_by}
use Rattle.pb_session.proofs.session.Session.row.Goals as goal

-- what the book says isn't that memory ran out
accepted_sure : (accepted : Accepted) (result : Result Accepted NotAccepted) → result ≡ Ok accepted → result ≢ Err NoMemory
accepted_sure accepted result is = λ other. cc (is, other)

refused_sure : (cause : Refused) (result : Result Accepted NotAccepted) → result ≡ Err (NotAccepted.Refused cause) → result ≢ Err NoMemory
refused_sure cause result is = λ other. cc (is, other)

refused_for : (cause : Refused) (other : NotAccepted) (result : Result Accepted NotAccepted) → result ≡ Err other → other ≡ NotAccepted.Refused cause → result ≡ Err (NotAccepted.Refused cause)
refused_for cause other result is other_is = cc (is, other_is)

on_err : {T E : Type 0} (r : Result T E) (P : Type 0) → P → OnErr r P
on_err (Ok x) P holds = tt
on_err (Err e) P holds = holds

pub write-requires-clause-periods : goal.write-requires-clause-periods
write-requires-clause-periods c =
    let sure = accepted_sure c.in-Ok.accepted c.accept.result c.in-Ok.is in
    let said = sym c.in-Ok.is ∙ c.accept.ensures.answer sure in
    of_periods c.self.inside.book c.accept.new.self c.args.at (answer_of c.self.inside.book c.args.row.now) c.in-Ok.accepted said (answers c.self.inside.book c.args.row.now) (c.accept.ensures.stored sure)

pub write-requires-clause-advised : goal.write-requires-clause-advised
write-requires-clause-advised c = λ asks.
    let rows = c.self.inside.book in
    let sure = accepted_sure c.in-Ok.accepted c.accept.result c.in-Ok.is in
    let said : said_ok Advise ≡ said_of (answer_of rows c.args.row.now) = ap said_ok (sym asks) ∙ sym c.in-Ok.is ∙ c.accept.ensures.answer sure in
    let it = advice_is rows c.accept.new.self c.args.at (answer_of rows c.args.row.now) said (c.accept.ensures.stored sure) in
    subst (λ (rs : List StoredRow). answer_of rs c.args.row.now ≡ Says Advise) (sym it.1) it.0

-- the stage that was reported last stays
stage_left : (state : SessionState) (accepted : Accepted) (rows : List StoredRow) (kept new : List KeptStudy) (last new_last : Option Stage) → new ≡ left_by accepted rows kept
    → new_last ≡ saved_by accepted rows kept last → AllByRecursion (IsKeptStudy state) kept → last_stage new new_last ≡ last_stage kept last
stage_left state accepted rows kept new last new_last left saved all = ap₂ last_stage left saved ∙ left_stage state accepted rows kept last all

-- what is kept after the row is that of the rows stored then
pub invariant_of-self : goal.invariant_of-self
invariant_of-self c =
    let state : SessionState = record { options = c.self.inside.options; form = c.self.inside.form; rows = c.self.inside.book } in
    let kept = c.self.inside.kept.items in
    let rows = c.accept.new.self in
    let accepted = c.in-Ok.accepted in
    let sure = accepted_sure accepted c.accept.result c.in-Ok.is in
    let said_is = sym c.in-Ok.is ∙ c.accept.ensures.answer sure in
    let answer = answer_of state.rows c.args.row.now in
    let left = c.drop_touched.ensures.left in
    let stage = stage_left state accepted rows kept c.drop_touched.new.kept.items c.self.inside.last c.drop_touched.new.last left c.drop_touched.ensures.saved c.self.invariant.studies in
    let studies = left_kept untouched_law state rows c.args.at answer accepted kept said_is (said state.rows c.args.row.now) (c.accept.ensures.stored sure)
    (λ stored. (c.accept.ensures.accepted, c.accept.ensures.no_repeats (c.in-Ok.is ∙ ap (λ (a : Accepted). said_ok a) stored))) c.self.invariant.studies in
    record {
      options = c.self.invariant.options;
      studies = subst (AllByRecursion (IsKeptStudy (state_with state rows))) (sym left) studies;
      few = subst (λ (ks : List KeptStudy). length ks ≤ most_kept) (sym left) (left_few accepted rows kept c.self.invariant.few);
      classes = subst (λ (o : Option Stage). IfSome o (λ (s : Stage). IsClassification s.graph (printed_classes s))) (sym stage) c.self.invariant.classes;
      last_is = subst (λ (o : Option Stage). IfSome o (IsReportedStage state.options)) (sym stage) c.self.invariant.last_is;
    }

-- a refused record doesn't change it
pub invariant_of-self-in-Err-Refused : goal.invariant_of-self-in-Err-Refused
invariant_of-self-in-Err-Refused c =
    let state : SessionState = record { options = c.self.inside.options; form = c.self.inside.form; rows = c.self.inside.book } in
    let cause = c.in-Err-Refused.cause in
    let is_for = refused_for cause c.in-Err-Refused.field-0 c.accept.result c.in-Err-Refused.is c.in-Err-Refused.field-0-is in
    let sure = refused_sure cause c.accept.result is_for in
    let answer_is = refused_is (answer_of state.rows c.args.row.now) cause (sym is_for ∙ c.accept.ensures.answer sure) in
    let rows_stay : c.accept.new.self ≡ state.rows = c.accept.ensures.stored sure ∙ ap (after_answer state.rows c.args.at) answer_is in
    subst (λ (rows : List StoredRow). IsKeeping (state_with state rows) c.self.inside.kept.items c.self.inside.last) (sym rows_stay) c.self.invariant

pub returns-in_err-write-in-Ok-clause-err : goal.returns-in_err-write-in-Ok-clause-err
returns-in_err-write-in-Ok-clause-err c =
    let state : SessionState = record { options = c.self.inside.options; form = c.self.inside.form; rows = c.self.inside.book } in
    let kept = c.self.inside.kept.items in
    let last = c.self.inside.last in
    let accepted = c.in-Ok.accepted in
    let sure = accepted_sure accepted c.accept.result c.in-Ok.is in
    let said_is = sym c.in-Ok.is ∙ c.accept.ensures.answer sure in
    let answer = answer_of state.rows c.args.row.now in
    let other = c.in_err-write-in-Ok.ensures.sure in
    let rows_stay : c.accept.new.self ≡ state.rows = c.accept.ensures.stored sure ∙ unchanged_by state.rows c.args.at answer accepted said_is other in
    let kept_stay : c.drop_touched.new.kept.items ≡ kept = c.drop_touched.ensures.left ∙ left_other accepted c.accept.new.self kept other in
    let last_stay : c.drop_touched.new.last ≡ last = c.drop_touched.ensures.saved ∙ saved_other accepted c.accept.new.self kept last other in
    let same : held_of (state_with state c.accept.new.self) c.drop_touched.new.kept.items c.drop_touched.new.last ≡ held_of state kept last =
    ap₂ (λ (rows : List StoredRow) (ks : List KeptStudy). held_of (state_with state rows) ks c.drop_touched.new.last) rows_stay kept_stay ∙ ap (held_of state kept) last_stay in
    on_err _ _ (c.in_err-write-in-Ok.ensures.err ∙ same ∙ c.self.view_is)

pub returns-in_ok-write-in-Ok-clause-ok : goal.returns-in_ok-write-in-Ok-clause-ok
returns-in_ok-write-in-Ok-clause-ok c =
    let state : SessionState = record { options = c.self.inside.options; form = c.self.inside.form; rows = c.self.inside.book } in
    let new : SessionState = state_with state c.accept.new.self in
    let sure = accepted_sure c.in-Ok.accepted c.accept.result c.in-Ok.is in
    let said_is = sym c.in-Ok.is ∙ c.accept.ensures.answer sure in
    let answer = answer_of c.self.inside.book c.args.row.now in
    let new_is : new ≡ state_with state (after_answer state.rows c.args.at answer) = ap (state_with state) (c.accept.ensures.stored sure) in
    let (text, written, adds) = c.in_ok-write-in-Ok.ensures.ok in
    let here : Adds state c.args.at c.args.row.now text = accepted_adds state new c.args.at (named_costs c.args.row.now) answer c.in-Ok.accepted text said_is new_is adds in
    (text, written, subst (λ (h : Held). Adds h.state c.args.at c.args.row.now text) c.self.view_is here)

pub returns-in_ok-write-in-Ok-clause-refused : goal.returns-in_ok-write-in-Ok-clause-refused
returns-in_ok-write-in-Ok-clause-refused c =
    let sure = accepted_sure c.in-Ok.accepted c.accept.result c.in-Ok.is in
    let said_is = sym c.in-Ok.is ∙ c.accept.ensures.answer sure in
    let here = accepted_is (answer_of c.self.inside.book c.args.row.now) c.in-Ok.accepted said_is in
    subst (λ (h : Held). None ≡ cause_in (answer_of h.state.rows c.args.row.now)) c.self.view_is here

pub returns-in_ok-write-in-Ok-clause-stored : goal.returns-in_ok-write-in-Ok-clause-stored
returns-in_ok-write-in-Ok-clause-stored c =
    let state : SessionState = record { options = c.self.inside.options; form = c.self.inside.form; rows = c.self.inside.book } in
    let sure = accepted_sure c.in-Ok.accepted c.accept.result c.in-Ok.is in
    c.in_ok-write-in-Ok.ensures.state ∙ ap (state_with state) (c.accept.ensures.stored sure) ∙ ap (λ (h : Held). state_after h.state c.args.at c.args.row.now) c.self.view_is

pub returns-in_ok-write-in-Ok-clause-kept : goal.returns-in_ok-write-in-Ok-clause-kept
returns-in_ok-write-in-Ok-clause-kept c =
    let state : SessionState = record { options = c.self.inside.options; form = c.self.inside.form; rows = c.self.inside.book } in
    let kept = c.self.inside.kept.items in
    let rows = c.accept.new.self in
    let accepted = c.in-Ok.accepted in
    let sure = accepted_sure accepted c.accept.result c.in-Ok.is in
    let said_is = sym c.in-Ok.is ∙ c.accept.ensures.answer sure in
    let answer = answer_of state.rows c.args.row.now in
    let after = c.write.new.self.kept in
    let left = c.drop_touched.ensures.left in
    let keeps : KeepsAccepted (state_with state rows) (periods_in (left_by accepted rows kept)) accepted after =
    subst (λ (ks : List KeptStudy). KeepsAccepted (state_with state rows) (periods_in ks) accepted after) left c.in_ok-write-in-Ok.ensures.kept in
    let here : Keeps state (periods_in kept) c.args.at c.args.row.now after =
    keeps_by state rows c.args.at answer accepted kept after said_is (said state.rows c.args.row.now) (c.accept.ensures.stored sure) keeps in
    subst (λ (h : Held). Keeps h.state h.kept c.args.at c.args.row.now after) c.self.view_is here

pub returns-in_ok-write-in-Ok-clause-closed : goal.returns-in_ok-write-in-Ok-clause-closed
returns-in_ok-write-in-Ok-clause-closed c =
    let state : SessionState = record { options = c.self.inside.options; form = c.self.inside.form; rows = c.self.inside.book } in
    let at = c.args.at in
    let rows_is : c.write.new.self.state.rows ≡ c.accept.new.self = ap (λ (s : SessionState). s.rows) c.in_ok-write-in-Ok.ensures.state in
    let here = leaves_closed closed_graphs_law state.rows c.accept.new.self at c.accept.ensures.accepted in
    subst (λ (h : Held). LeavesClosed h.state.rows at c.write.new.self.state.rows) c.self.view_is (subst (LeavesClosed state.rows at) (sym rows_is) here)

pub returns-in_ok-write-in-Ok-clause-reported : goal.returns-in_ok-write-in-Ok-clause-reported
returns-in_ok-write-in-Ok-clause-reported c =
    let state : SessionState = record { options = c.self.inside.options; form = c.self.inside.form; rows = c.self.inside.book } in
    let held = held_of state c.self.inside.kept.items c.self.inside.last in
    let accepted = c.in-Ok.accepted in
    let sure = accepted_sure accepted c.accept.result c.in-Ok.is in
    let said_is = sym c.in-Ok.is ∙ c.accept.ensures.answer sure in
    let answer = answer_of state.rows c.args.row.now in
    let still = reported_still state c.accept.new.self c.args.at answer accepted held.reported said_is (c.accept.ensures.stored sure) in
    let stage = stage_left state accepted c.accept.new.self c.self.inside.kept.items c.drop_touched.new.kept.items c.self.inside.last c.drop_touched.new.last
    c.drop_touched.ensures.left c.drop_touched.ensures.saved c.self.invariant.studies in
    let left = ap (λ (last : Option Stage). reported_behind (state_with state c.accept.new.self) (graph_in last) accepted) stage in
    c.in_ok-write-in-Ok.ensures.reported ∙ left ∙ still ∙ ap (λ (h : Held). reported_after h.state h.reported (answer_of h.state.rows c.args.row.now)) c.self.view_is

pub returns-in_ok-refuse-in-Err-Refused : goal.returns-in_ok-refuse-in-Err-Refused
returns-in_ok-refuse-in-Err-Refused c =
    let state : SessionState = record { options = c.self.inside.options; form = c.self.inside.form; rows = c.self.inside.book } in
    let kept = c.self.inside.kept.items in
    let last = c.self.inside.last in
    let held = held_of state kept last in
    let new = held_of (state_with state c.accept.new.self) kept last in
    let cause = c.in-Err-Refused.cause in
    let is_for = refused_for cause c.in-Err-Refused.field-0 c.accept.result c.in-Err-Refused.is c.in-Err-Refused.field-0-is in
    let sure = refused_sure cause c.accept.result is_for in
    let answer = answer_of c.self.inside.book c.args.row.now in
    let answer_is : answer ≡ Refuses cause = refused_is answer cause (sym is_for ∙ c.accept.ensures.answer sure) in
    let (text, written, is) = c.in_ok-refuse-in-Err-Refused.ensures.ok in
    let here : Adds state c.args.at c.args.row.now text = subst (λ (a : Answer). AddsBy state c.args.at (named_costs c.args.row.now) a text) (sym answer_is) is in
    let refused_now : Some cause ≡ cause_in answer = sym (ap cause_in answer_is) in
    let rows_stay : c.accept.new.self ≡ after c.self.inside.book c.args.at c.args.row.now = c.accept.ensures.stored sure in
    let stored : new.state ≡ state_after held.state c.args.at c.args.row.now = ap (state_with state) rows_stay in
    let keeps : Keeps held.state held.kept c.args.at c.args.row.now new.kept = subst (λ (a : Answer). KeepsBy state held.kept c.args.at a held.kept) (sym answer_is) refl in
    let reports : new.reported ≡ reported_after held.state held.reported (answer_of held.state.rows c.args.row.now) = sym (ap (reported_after state held.reported) answer_is) in
    record {
      ok = (text, written, subst (λ (h : Held). Adds h.state c.args.at c.args.row.now text) c.self.view_is here);
      refused = subst (λ (h : Held). Some cause ≡ cause_in (answer_of h.state.rows c.args.row.now)) c.self.view_is refused_now;
      stored = subst (λ (h : Held). new.state ≡ state_after h.state c.args.at c.args.row.now) c.self.view_is stored;
      kept = subst (λ (h : Held). Keeps h.state h.kept c.args.at c.args.row.now new.kept) c.self.view_is keeps;
      reported = subst (λ (h : Held). new.reported ≡ reported_after h.state h.reported (answer_of h.state.rows c.args.row.now)) c.self.view_is reports;
      closed = subst (λ (h : Held). LeavesClosed h.state.rows c.args.at c.accept.new.self) c.self.view_is
          (none_joined state.rows c.accept.new.self c.args.at (rows_stay ∙ ap (after_answer state.rows c.args.at) answer_is));
      err = tt;
      err_out = tt;
    }

pub returns-in_err-refuse-in-Err-Refused-clause-err : goal.returns-in_err-refuse-in-Err-Refused-clause-err
returns-in_err-refuse-in-Err-Refused-clause-err c =
    let cause = c.in-Err-Refused.cause in
    let is_for = refused_for cause c.in-Err-Refused.field-0 c.accept.result c.in-Err-Refused.is c.in-Err-Refused.field-0-is in
    let sure = refused_sure cause c.accept.result is_for in
    let answer = answer_of c.self.inside.book c.args.row.now in
    let answer_is : answer ≡ Refuses cause = refused_is answer cause (sym is_for ∙ c.accept.ensures.answer sure) in
    let rows_stay : c.accept.new.self ≡ c.self.inside.book = c.accept.ensures.stored sure ∙ ap (after_answer c.self.inside.book c.args.at) answer_is in
    let state : SessionState = record { options = c.self.inside.options; form = c.self.inside.form; rows = c.self.inside.book } in
    let held : List StoredRow → Held = λ rows. held_of (state_with state rows) c.self.inside.kept.items c.self.inside.last in
    let same : held c.accept.new.self ≡ held state.rows = ap held rows_stay in
    on_err _ _ (same ∙ c.self.view_is)
