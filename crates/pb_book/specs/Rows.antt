-- Statement. The stored rows of a book: what they declare, which periods there are, and which facts are live.
use Rattle.std.specs.Prelude.{ℕ, ℤ, false, List, [], ◌∷◌, ◌++◌, map, filter_map, position, Option, Some, None}
use Rattle.std.specs.List.{fold}
use Rattle.pb_site.specs.declared.declared.Declared.{Declared}
use Rattle.pb_site.specs.declared.declared.Version.{Version}
use Rattle.pb_site.specs.Site.{version_of}
use Rattle.pb_facts.specs.declared.fact.Fact.{Fact}
use Rattle.pb_facts.specs.declared.facts.KeptFact.{KeptFact}
use Rattle.pb_facts.specs.Changes.{amended, struck}
use Rattle.pb_kinds.specs.declared.rows.Edit.TheVariants as edits
use Rattle.pb_kinds.specs.declared.rows.Effect.{Effect}
use Rattle.pb_kinds.specs.declared.rows.Effect.TheVariants.{Declares, Opens, Books, Edits, Closes}
use Rattle.pb_periods.specs.declared.period.Period.{Period}
use Rattle.pb_kinds.specs.declared.rows.StoredRow.{StoredRow}
use Rattle.pb_periods.specs.Apart.{is_named}
use Rattle.pb_periods.specs.Closing.{closed_if_named}

-- these rows, followed by what the record with this number does
abbrev pub with_row : List StoredRow → ℕ → Effect → List StoredRow
with_row rows at effect = rows ++ record { at = at; effect = effect } ∷ []

-- what a row declares, if it declares something
abbrev pub declaration_in : Effect → Option Declared
declaration_in (Declares declared) = Some declared
declaration_in effect = None

-- the declarations among the stored rows, in order
abbrev pub declared_of : List StoredRow → List Declared
declared_of rows = filter_map (λ (stored : StoredRow). declaration_in stored.effect) rows

-- the version of the session, which it has once a row is stored
abbrev pub version_at : List StoredRow → Option Version
version_at [] = None
version_at (stored ∷ rows) = Some (version_of (declared_of (stored ∷ rows)))

-- a period that hasn't been closed
abbrev pub open_period : List ℕ → ℤ → ℤ → Period
open_period name first last = record { name = name; first = first; last = last; closed = false }

-- the periods after one more row: a closing closes the period of its name
abbrev pub periods_after : List Period → Effect → List Period
periods_after periods (Opens name first last) = periods ++ open_period name first last ∷ []
periods_after periods (Closes name) = map (closed_if_named name) periods
periods_after periods effect = periods

-- the periods, in order
abbrev pub periods_of : List StoredRow → List Period
periods_of rows = fold (λ (periods : List Period) (stored : StoredRow). periods_after periods stored.effect) [] rows

-- a fact that hasn't been struck
abbrev pub live : Fact → KeptFact
live fact = record { fact = fact; struck = false }

-- the facts after one more row: a change gives the live fact of its id new values, and a strike marks it as struck
abbrev pub facts_after : List KeptFact → Effect → List KeptFact
facts_after kept (Books fact late) = kept ++ live fact ∷ []
facts_after kept (Edits id (edits.Change change) reason) = amended id change kept
facts_after kept (Edits id edits.Strike reason) = struck id kept
facts_after kept effect = kept

-- the facts with their last values, in order
abbrev pub facts_of : List StoredRow → List KeptFact
facts_of rows = fold (λ (kept : List KeptFact) (stored : StoredRow). facts_after kept stored.effect) [] rows

-- the place of the period of this name
abbrev pub period_place : List StoredRow → List ℕ → Option ℕ
period_place rows name = position (is_named name) (periods_of rows)
