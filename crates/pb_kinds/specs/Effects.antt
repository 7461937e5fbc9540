-- Statement. The names that an effect has.
use Rattle.std.specs.Prelude.{ℕ, List, [], ◌∷◌}
use Rattle.pb_site.specs.declared.declared.Declared.{Declared}
use Rattle.pb_site.specs.declared.declared.Declared.TheVariants.{Version2, Boundary, Tank, Strap, Stream, CritGlobal, CritNodal, CritMeasure}
use Rattle.pb_facts.specs.declared.fact.Fact.{Fact}
use Rattle.pb_facts.specs.declared.fact.Fact.TheVariants.{Reading, Transfer, Dip}
use Rattle.pb_facts.specs.declared.assays.Assay.{Assay}
use Rattle.pb_kinds.specs.declared.rows.Effect.{Effect}
use Rattle.pb_kinds.specs.declared.rows.Effect.TheVariants.{Declares, Opens, Books, Edits, Closes, Assays}

-- the names in a declaration
abbrev pub declared_names : Declared → List (List ℕ)
declared_names Version2 = []
declared_names (Declared.Unit name) = name ∷ []
declared_names (Boundary name) = name ∷ []
declared_names (Tank name base service) = name ∷ []
declared_names (Strap tank mm ml) = tank ∷ []
declared_names (Stream name from to kind base service) = name ∷ from ∷ to ∷ []
declared_names (CritGlobal dof value) = []
declared_names (CritNodal value) = []
declared_names (CritMeasure value) = []

-- the names in a fact: its id, and its stream or tank
abbrev pub fact_names : Fact → List (List ℕ)
fact_names (Reading id stream day grams variance) = id ∷ stream ∷ []
fact_names (Transfer id stream first last grams variance) = id ∷ stream ∷ []
fact_names (Dip id tank day mm density variance) = id ∷ tank ∷ []

-- the names in an assay
abbrev pub assay_names : Assay → List (List ℕ)
assay_names assay = assay.component ∷ assay.stream ∷ assay.period ∷ []

-- The names in an effect.
abbrev pub effect_names : Effect → List (List ℕ)
effect_names (Declares declared) = declared_names declared
effect_names (Opens name first last) = name ∷ []
effect_names (Books fact late) = fact_names fact
effect_names (Edits id edit reason) = id ∷ []
effect_names (Closes name) = name ∷ []
effect_names (Assays assay) = assay_names assay
