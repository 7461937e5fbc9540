use Rattle.std.proofs.Common.{◌≡◌, ◌∙◌, List, ℕ, Option, Some, None, slice_get, sym, ap, subst}
use Rattle.pb_study.specs.declared.results.Stage.{Stage}
use Rattle.pb_book.specs.Rows.{periods_of}
use Rattle.pb_session.specs.declared.kept.KeptStudy.{KeptStudy}
use Rattle.pb_session.specs.declared.session.Reported.{Reported}
use Rattle.pb_session.specs.Keeping.{IsKeeping, IsReportedAt, held_of, last_stage, settled, settled_stage}
use Rattle.pb_session.specs.Kept.{Held, KeepsReportOf, reported_of}
use Rattle.pb_session.specs.Session.{SessionState}
use Rattle.pb_session.proofs.KeepingLemmas.{Settles, graph_in, passes_over, settles}
use Rattle.pb_session.proofs.KeptLemmas.{periods_in}
use Rattle.pb_session.proofs.session.Session.write_report.Goals as goal

-- what is held after the row that names a stream over the limits
none_held : (state : SessionState) (i : ℕ) (before kept : List KeptStudy) (last : Option Stage) (left : Option Reported) → before ≡ kept → left ≡ None
    → IsReportedAt (held_of state before last) i (slice_get (periods_of state.rows) i) left → IsKeeping state kept last
    → Settles state i (slice_get (periods_of state.rows) i) kept last before last
none_held state i before kept last left same none leaves keeping =
    let found = slice_get (periods_of state.rows) i in
    let here : IsReportedAt (held_of state kept last) i found None =
    subst (λ (o : Option Reported). IsReportedAt (held_of state kept last) i found o) none (subst (λ (ks : List KeptStudy). IsReportedAt (held_of state ks last) i found left) same leaves) in
    subst (λ (ks : List KeptStudy). Settles state i found kept last ks last) (sym same) (passes_over state i kept last here keeping)

-- what is held after a report
some_held : (state : SessionState) (i : ℕ) (before kept new : List KeptStudy) (last new_last : Option Stage) (left : Option Reported) (r : Reported) → before ≡ kept → left ≡ Some r
    → new ≡ settled i r.made before → new_last ≡ settled_stage i r.made before
    → IsReportedAt (held_of state before last) i (slice_get (periods_of state.rows) i) left → IsKeeping state kept last
    → Settles state i (slice_get (periods_of state.rows) i) kept last new new_last
some_held state i before kept new last new_last left r same some new_is last_is leaves keeping =
    let found = slice_get (periods_of state.rows) i in
    let here : IsReportedAt (held_of state kept last) i found (Some r) =
    subst (λ (o : Option Reported). IsReportedAt (held_of state kept last) i found o) some (subst (λ (ks : List KeptStudy). IsReportedAt (held_of state ks last) i found left) same leaves) in
    subst (λ (ks : List KeptStudy). Settles state i found kept last ks new_last) (sym (new_is ∙ ap (settled i r.made) same))
    (subst (λ (stage : Option Stage). Settles state i found kept last (settled i r.made kept) stage) (sym (last_is ∙ ap (settled_stage i r.made) same)) (settles state i r kept last here keeping))

pub invariant_of-self-in-Some : goal.invariant_of-self-in-Some
invariant_of-self-in-Some c =
    let state : SessionState = record { options = c.self.inside.options; form = c.self.inside.form; rows = c.self.inside.book } in
    let i = c.args.i in
    let s = some_held state i _ c.self.inside.kept.items c.settle.new.kept.items c.self.inside.last c.settle.new.last c.in_ok-reported.field-0 c.in-Some.reported
    c.in_ok-reserve.ensures.items c.in-Some.is c.settle.ensures.kept c.settle.ensures.stage c.in_ok-reported.ensures.leaves c.self.invariant in
    s.keeping

pub returns-in-Some-clause-kept : goal.returns-in-Some-clause-kept
returns-in-Some-clause-kept c =
    let state : SessionState = record { options = c.self.inside.options; form = c.self.inside.form; rows = c.self.inside.book } in
    let i = c.args.i in
    let s = some_held state i _ c.self.inside.kept.items c.settle.new.kept.items c.self.inside.last c.settle.new.last c.in_ok-reported.field-0 c.in-Some.reported
    c.in_ok-reserve.ensures.items c.in-Some.is c.settle.ensures.kept c.settle.ensures.stage c.in_ok-reported.ensures.leaves c.self.invariant in
    subst (λ (h : Held). KeepsReportOf h.state i h.kept (slice_get (periods_of h.state.rows) i) (periods_in c.settle.new.kept.items)) c.self.view_is s.keeps

pub returns-in-Some-clause-reported : goal.returns-in-Some-clause-reported
returns-in-Some-clause-reported c =
    let state : SessionState = record { options = c.self.inside.options; form = c.self.inside.form; rows = c.self.inside.book } in
    let i = c.args.i in
    let s = some_held state i _ c.self.inside.kept.items c.settle.new.kept.items c.self.inside.last c.settle.new.last c.in_ok-reported.field-0 c.in-Some.reported
    c.in_ok-reserve.ensures.items c.in-Some.is c.settle.ensures.kept c.settle.ensures.stage c.in_ok-reported.ensures.leaves c.self.invariant in
    let stage : Option Stage = last_stage c.settle.new.kept.items c.settle.new.last in
    subst (λ (h : Held). graph_in stage ≡ reported_of h.state h.reported (slice_get (periods_of h.state.rows) i)) c.self.view_is s.reports

pub returns-in-None-clause-kept : goal.returns-in-None-clause-kept
returns-in-None-clause-kept c =
    let state : SessionState = record { options = c.self.inside.options; form = c.self.inside.form; rows = c.self.inside.book } in
    let i = c.args.i in
    let s = none_held state i _ c.self.inside.kept.items c.self.inside.last c.in_ok-reported.field-0 c.in_ok-reserve.ensures.items c.in-None.is c.in_ok-reported.ensures.leaves c.self.invariant in
    subst (λ (h : Held). KeepsReportOf h.state i h.kept (slice_get (periods_of h.state.rows) i) (periods_in c.reserve.new.self.items)) c.self.view_is s.keeps
