-- Statement. Laws about what records ask for.
use Rattle.std.specs.Prelude.{◌≡◌, ℕ, List, All, Option, Ok, true}
use Rattle.std.specs.List.{list_all}
use Rattle.pb_rows.specs.Name.{is_name}
use Rattle.pb_form.specs.SessionRows.{session_schema}
use Rattle.pb_form.specs.Value.{Value}
use Rattle.pb_form.specs.Writing.{Writes}
use Rattle.pb_form.specs.declared.session.SessionKind.{SessionKind}
use Rattle.pb_site.specs.declared.declared.Version.{Version}
use Rattle.pb_kinds.specs.declared.costs.NamedCost.{NamedCost}
use Rattle.pb_kinds.specs.declared.rows.Effect.{Effect}
use Rattle.pb_kinds.specs.declared.rows.Request.TheVariants.{Advise, Store}
use Rattle.pb_kinds.specs.Costs.{IsMeterCost, named_costs}
use Rattle.pb_kinds.specs.Effects.{effect_names}
use Rattle.pb_kinds.specs.Ranges.{IsEffectInRange}
use Rattle.pb_kinds.specs.Requests.{request_in, request_of}
use Rattle.pb_kinds.specs.Versions.{has_kind, may_do}

-- The numbers and days of what a record asks to store lie in their ranges, its names have the form of names, and a row of a session
-- of the version may do it.
pub record StoredLaw : Type 0 where
  pub in_range : (version : Option Version) (fields : List (List ℕ)) (effect : Effect)
      → request_in version fields ≡ Ok (Store effect) → IsEffectInRange effect
  pub named : (version : Option Version) (fields : List (List ℕ)) (effect : Effect)
      → request_in version fields ≡ Ok (Store effect) → list_all is_name (effect_names effect) ≡ true
  pub of_version : (version : Option Version) (fields : List (List ℕ)) (effect : Effect)
      → request_in version fields ≡ Ok (Store effect) → may_do version effect ≡ true

-- If a record asks for advice, each cost that it names is a cost that a meter may have.
abbrev pub NamedCostsLaw : Type 0
NamedCostsLaw =
    (version : Option Version) (fields : List (List ℕ)) → request_in version fields ≡ Ok Advise
    → All (λ (named : NamedCost). IsMeterCost named.cost) (named_costs fields)

-- A record that writes values by the schema of a kind asks for what the values ask for in a row of this kind, in each session that
-- has rows of the kind.
abbrev pub AskingLaw : Type 0
AskingLaw =
    (version : Option Version) (kind : SessionKind) (values : List Value) (fields : List (List ℕ)) → has_kind version kind ≡ true
    → Writes (session_schema kind) values fields → request_in version fields ≡ Ok (request_of kind values)
