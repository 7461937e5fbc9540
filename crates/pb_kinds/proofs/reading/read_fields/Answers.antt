use Rattle.std.specs.Prelude.{Result, Ok, Err}
use Rattle.std.proofs.Common.{◌≡◌, ◌∙◌, ◌≤◌, length, sym, arith}
use Rattle.std.proofs.lemmas.Result.{err_from_is_err_and}
use Rattle.pb_form.specs.SessionRows.{session_told}
use Rattle.pb_form.specs.declared.fault.FormFault.{FormFault}
use Rattle.pb_form.specs.declared.session.SessionKind.{SessionKind}
use Rattle.pb_kinds.specs.There.{kinds_of}
use Rattle.pb_kinds.proofs.ReadingLemmas.{asked_may, told_is_of}
use Rattle.pb_kinds.proofs.RequestLemmas.{blank_asks, told_asks}
use Rattle.pb_kinds.proofs.reading.read_fields.Goals as goal

abbrev told_as : Result SessionKind FormFault → Result SessionKind FormFault
told_as told = told

pub returns-then-len-eq0-clause-value : goal.returns-then-len-eq0-clause-value
returns-then-len-eq0-clause-value c = sym (blank_asks (kinds_of c.args.version) c.args.fields.now (sym c.len.ensures ∙ c.if-len-eq0.true))

pub returns-in_err-kind-clause-value : goal.returns-in_err-kind-clause-value
returns-in_err-kind-clause-value c =
    let p = err_from_is_err_and c.from_residual.result c.from_residual.ensures.1 in
    let some : 1 ≤ length c.args.fields.now = omega (arith, c.len.ensures, c.if-len-eq0.false) in
    let told : session_told (kinds_of c.args.version) c.args.fields.now ≡ told_as (Err c.in_err-kind.field-0.0) = sym c.kind_of.ensures ∙ c.in_err-kind.was in
    rw (p.1, p.2) (sym (told_asks (kinds_of c.args.version) c.args.fields.now _ some told))

pub asked_of-requires : goal.asked_of-requires
asked_of-requires c =
    let told : session_told (kinds_of c.args.version) c.args.fields.now ≡ told_as (Ok c.in_ok-kind.kind) = sym c.kind_of.ensures ∙ c.in_ok-kind.was in
    told_is_of (kinds_of c.args.version) c.args.fields.now c.in_ok-kind.kind told

pub returns-clause-value : goal.returns-clause-value
returns-clause-value c =
    let some : 1 ≤ length c.args.fields.now = omega (arith, c.len.ensures, c.if-len-eq0.false) in
    let told : session_told (kinds_of c.args.version) c.args.fields.now ≡ told_as (Ok c.in_ok-kind.kind) = sym c.kind_of.ensures ∙ c.in_ok-kind.was in
    c.asked_of.ensures.value ∙ sym (told_asks (kinds_of c.args.version) c.args.fields.now _ some told)

pub returns-clause-may : goal.returns-clause-may
returns-clause-may c =
    let told : session_told (kinds_of c.args.version) c.args.fields.now ≡ told_as (Ok c.in_ok-kind.kind) = sym c.kind_of.ensures ∙ c.in_ok-kind.was in
    rw c.asked_of.ensures.value (asked_may c.args.version c.args.fields.now c.in_ok-kind.kind _ told)
