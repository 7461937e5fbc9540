-- Accepted rows declare a plant, and their facts lie in their ranges.
use Rattle.std.specs.Prelude.{if◌then◌else◌}
use Rattle.std.proofs.Common.{◌≡◌, ◌∙◌, ◌≤◌, ◌<◌, ℕ, zero, suc, pos, List, [], ◌∷◌, ◌++◌, length, take, get_or, All, Bool, true, false, Some, None, refl, sym, ap, subst, arith}
use Rattle.std.proofs.lemmas.List.{append-nil}
use Rattle.std.proofs.lemmas.List.Elements.{filter_map-append}
use Rattle.std.proofs.lemmas.Option.{slice_get-get_or}
use Rattle.std.proofs.Math.Seq.{take-suc}
use Rattle.std.proofs.lemmas.List.{take_all}
use Rattle.pb_site.specs.declared.declared.Declared.{Declared}
use Rattle.pb_site.specs.Faults.{first_site_fault, is_declaration_out_of_order, is_duplicate_declaration, is_mismatched_declaration, is_plant_full, refers_to_unknown}
use Rattle.pb_site.specs.Laws.{IsDeclaredPlant, PlantLaw}
use Rattle.pb_site.specs.Site.{version_of}
use Rattle.pb_facts.specs.Fact.{IsFactInRange}
use Rattle.pb_facts.specs.declared.facts.KeptFact.{KeptFact}
use Rattle.pb_book.specs.declared.answer.Refused.TheVariants.{Unknown, Duplicate, Order, Mismatch, Sealed, Closed, Range, Full}
use Rattle.pb_kinds.specs.declared.rows.Effect.{Effect}
use Rattle.pb_kinds.specs.declared.rows.Effect.TheVariants.{Declares, Opens, Books, Edits, Closes, Assays}
use Rattle.pb_book.specs.Accepted.{AreAccepted, IsAcceptable}
use Rattle.pb_book.specs.Laws.{AcceptedLaw}
use Rattle.pb_book.specs.Refusals.{is_sealed}
use Rattle.pb_kinds.specs.declared.rows.StoredRow.{StoredRow}
use Rattle.pb_book.specs.Rows.{declaration_in, declared_of, facts_of, periods_of}

-- the declarations are a plant, and each fact lies in its ranges
pub record IsReady (rows : List StoredRow) : Type 0 where
  pub plant : IsDeclaredPlant (declared_of rows)
  pub ranges : All (λ (k : KeptFact). IsFactInRange k.fact) (facts_of rows)

-- a declaration that there is no cause to refuse has no fault
pub no_fault : (a b c d e f : Bool)
    → (if a then Some Unknown else if b then Some Duplicate else if c then Some Order else if d then Some Mismatch else if e then Some Sealed
    else if false then Some Closed else if false then Some Range else if f then Some Full else None) ≡ None → first_site_fault a b c d f ≡ None
no_fault true b c d e f none = cc none
no_fault false true c d e f none = cc none
no_fault false false true d e f none = cc none
no_fault false false false true e f none = cc none
no_fault false false false false true f none = cc none
no_fault false false false false false true none = cc none
no_fault false false false false false false none = refl

declared_more : (rows : List StoredRow) (stored : StoredRow) → declared_of (rows ++ stored ∷ []) ≡ declared_of rows ++ declared_of (stored ∷ [])
declared_more rows stored = filter_map-append (λ (s : StoredRow). declaration_in s.effect) rows (stored ∷ [])

-- one more row that declares nothing
same_plant : (rows : List StoredRow) (stored : StoredRow) → declared_of (stored ∷ []) ≡ [] → IsDeclaredPlant (declared_of rows) → IsDeclaredPlant (declared_of (rows ++ stored ∷ []))
same_plant rows stored none right =
    subst IsDeclaredPlant (sym (declared_more rows stored ∙ ap (λ (more : List Declared). declared_of rows ++ more) none ∙ append-nil (declared_of rows))) right

-- one more row
one_more : PlantLaw → (rows : List StoredRow) (at : ℕ) (effect : Effect) → IsDeclaredPlant (declared_of rows) → IsAcceptable rows effect
    → IsDeclaredPlant (declared_of (rows ++ record { at = at; effect = effect } ∷ []))
one_more law rows at (Declares declared) right accepted =
    let stored : StoredRow = record { at = at; effect = Declares declared } in
    let before = declared_of rows in
    let version = version_of before in
    let none = no_fault (refers_to_unknown before declared) (is_duplicate_declaration before declared) (is_declaration_out_of_order before declared) (is_mismatched_declaration before declared)
    (is_sealed version (periods_of rows) (Declares declared)) (is_plant_full version before declared) accepted.no_cause in
    subst IsDeclaredPlant (sym (declared_more rows stored)) (law.1 before declared right accepted.in_range none)
one_more law rows at (Opens name first last) right accepted = same_plant rows (record { at = at; effect = Opens name first last }) refl right
one_more law rows at (Books fact late) right accepted = same_plant rows (record { at = at; effect = Books fact late }) refl right
one_more law rows at (Edits id how reason) right accepted = same_plant rows (record { at = at; effect = Edits id how reason }) refl right
one_more law rows at (Closes name) right accepted = same_plant rows (record { at = at; effect = Closes name }) refl right
one_more law rows at (Assays assay) right accepted = same_plant rows (record { at = at; effect = Assays assay }) refl right

some_row : StoredRow
some_row = record { at = 0; effect = Opens [] (pos 0) (pos 0) }

plant_up_to : PlantLaw → (rows : List StoredRow) → AreAccepted rows → (n : ℕ) → n ≤ length rows → IsDeclaredPlant (declared_of (take n rows))
plant_up_to law rows accepted zero le = law.0
plant_up_to law rows accepted (suc n) le =
    let within : n < length rows = omega (arith, le) in
    let stored = get_or rows n some_row in
    let before = plant_up_to law rows accepted n (omega (arith, le)) in
    let next = accepted n stored (slice_get-get_or rows n some_row within) in
    subst (λ (rs : List StoredRow). IsDeclaredPlant (declared_of rs)) (sym (take-suc rows n some_row within)) (one_more law (take n rows) stored.at stored.effect before next)

-- accepted rows declare a plant
pub plant_of : PlantLaw → (rows : List StoredRow) → AreAccepted rows → IsDeclaredPlant (declared_of rows)
plant_of law rows accepted =
    subst (λ (rs : List StoredRow). IsDeclaredPlant (declared_of rs)) (take_all (length rows) rows (omega arith)) (plant_up_to law rows accepted (length rows) (omega arith))

pub ready : PlantLaw → AcceptedLaw → (rows : List StoredRow) → AreAccepted rows → IsReady rows
ready law book rows accepted = record { plant = plant_of law rows accepted; ranges = (book.consistent rows accepted).ranges }
