use Rattle.std.specs.Prelude.{IfSome, Option, None, Some, Result, Ok}
use Rattle.std.proofs.Common.{◌≡◌, ◌∙◌, ◌≤◌, ℕ, List, false, length, ap, sym, arith}
use Rattle.pb_form.specs.SessionRows.{session_told}
use Rattle.pb_form.specs.declared.fault.FormFault.{FormFault}
use Rattle.pb_form.specs.declared.session.SessionKind.{SessionKind}
use Rattle.pb_form.specs.declared.session.SessionKind.TheVariants as kind
use Rattle.pb_facts.specs.declared.fact.Fact.{Fact}
use Rattle.pb_kinds.specs.Requests.{asked_by, books, request_in}
use Rattle.pb_kinds.specs.There.{IsReadingIn, kinds_of}
use Rattle.pb_kinds.proofs.ReadingLemmas.{reading_asks, reading_length, told_is_of}
use Rattle.pb_kinds.proofs.RequestLemmas.{told_asks}
use Rattle.pb_kinds.proofs.VersionLemmas.{asked_in_version}
use Rattle.pb_kinds.proofs.reading.read_reading.Goals as goal

abbrev told_as : Result SessionKind FormFault → Result SessionKind FormFault
told_as told = told

-- what fields ask that say a reading
asks_it : (kinds : List SessionKind) (fields : List (List ℕ)) (read : Option Fact) → session_told kinds fields ≡ Ok kind.Reading → IfSome read (IsReadingIn fields)
    → IfSome read (λ fact. asked_by kinds fields ≡ Ok (books false fact))
asks_it kinds fields None told reads = tt
asks_it kinds fields (Some fact) told reads =
    let some : 1 ≤ length fields = omega (arith, reading_length fields (told_is_of kinds fields kind.Reading told)) in
    told_asks kinds fields _ some told ∙ sym (reading_asks fields fact reads)

pub reading_in-requires : goal.reading_in-requires
reading_in-requires c =
    let told : session_told (kinds_of c.in-Some.version) c.filled-fields.result ≡ told_as (Ok kind.Reading) = sym c.kind_of.ensures ∙ c.in-Ok-Reading.is ∙ ap (λ (it : SessionKind). told_as (Ok it)) c.in-Ok-Reading.field-0-is in
    told_is_of (kinds_of c.in-Some.version) c.filled-fields.result kind.Reading told

pub returns-in-Ok-Reading-clause-value : goal.returns-in-Ok-Reading-clause-value
unfolding request_in
returns-in-Ok-Reading-clause-value c =
    let told : session_told (kinds_of c.in-Some.version) c.filled-fields.result ≡ told_as (Ok kind.Reading) = sym c.kind_of.ensures ∙ c.in-Ok-Reading.is ∙ ap (λ (it : SessionKind). told_as (Ok it)) c.in-Ok-Reading.field-0-is in
    rw (c.in-Some.is, ← c.filled-fields.ensures, asked_in_version c.in-Some.version c.filled-fields.result) (asks_it (kinds_of c.in-Some.version) c.filled-fields.result c.reading_in.result told c.reading_in.ensures)
