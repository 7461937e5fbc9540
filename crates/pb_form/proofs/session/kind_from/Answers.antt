use Rattle.std.specs.Prelude.{Result, Ok}
use Rattle.std.proofs.Common.{◌≡◌, ◌∙◌, ◌+◌, ◌<◌, ℕ, List, ap, drop, length, map, refl, sym, arith}
use Rattle.std.proofs.lemmas.List.{length-drop, length-map}
use Rattle.std.proofs.lemmas.Result.{err_from_is_err_and}
use Rattle.pb_form.specs.Columns.{Schema}
use Rattle.pb_form.specs.Seen.{schema_seen}
use Rattle.pb_form.specs.SessionRows.{session_kinds, session_schema}
use Rattle.pb_form.specs.Told.{schema_told}
use Rattle.pb_form.specs.declared.fault.FormFault.{FormFault}
use Rattle.pb_form.proofs.KindLemmas.{kind_from_told, no_kind_told, reading_told, schemas_from}
use Rattle.pb_form.proofs.session.kind_from.Goals as goal

pub returns-then-is_of_kind : goal.returns-then-is_of_kind
returns-then-is_of_kind c = sym (reading_told c.args.start c.args.fields.now c.requires (sym c.is_of_kind.ensures ∙ c.if-is_of_kind.true))

pub returns-in_err-place : goal.returns-in_err-place
returns-in_err-place c =
    let p = err_from_is_err_and c.from_residual.result c.from_residual.ensures.1 in
    let seen = schemas_from c.session_schemas.result.now c.args.start c.session_schemas.ensures in
    let told = sym (ap (λ (schemas : List Schema). schema_told schemas c.args.fields.now) seen) ∙ sym c.tell.ensures.value ∙ c.in_err-place.was in
    rw (p.1, p.2) (sym (no_kind_told c.args.start c.args.fields.now _ told))

pub returns : goal.returns
returns c =
    let seen = schemas_from c.session_schemas.result.now c.args.start c.session_schemas.ensures in
    let told : schema_told (map session_schema (drop c.args.start session_kinds)) c.args.fields.now ≡ (let place : Result ℕ FormFault = Ok c.in_ok-place.place in place) =
    sym (ap (λ (schemas : List Schema). schema_told schemas c.args.fields.now) seen) ∙ sym c.tell.ensures.value ∙ c.in_ok-place.was in
    let count = sym (length-map _ schema_seen) ∙ ap length seen ∙ length-map (drop c.args.start session_kinds) session_schema ∙ length-drop c.args.start session_kinds in
    let kinds : length session_kinds ≡ 33 = refl in
    let within : c.args.start + c.in_ok-place.place < length session_kinds = omega (arith, c.requires, kinds, count, c.in_ok-place.ensures.within) in
    sym (kind_from_told c.args.start c.in_ok-place.place c.args.fields.now told within)
