-- Statement. The nodes and the streams of a plant as C has them.
use Rattle.std.specs.Prelude.{◌≡◌, ℕ, ℤ, pos, List, Bool, true, false, Option, Some, None}
use Rattle.pb_site.specs.declared.declared.Arc.{Arc}
use Rattle.pb_site.specs.declared.declared.ArcKind.{ArcKind}
use Rattle.pb_site.specs.declared.declared.ArcKind.TheVariants.{Metered, Batch, Plain, Tank}
use Rattle.pb_site.specs.declared.declared.Declared.{Declared}
use Rattle.pb_site.specs.declared.declared.Service.{Service}
use Rattle.pb_site.specs.Site.{is_tank}
use Rattle.pb_shown.specs.Texts.{padded_name}
use Rattle.pb_shown.specs.Wide.{value_of}
use Rattle.pb_shown.specs.declared.plant.PlantbalNode.{PlantbalNode}
use Rattle.pb_shown.specs.declared.plant.PlantbalStream.{PlantbalStream}

-- the number of a kind
abbrev pub kind_number : ArcKind → ℕ
kind_number Metered = 0
kind_number Batch = 1
kind_number Plain = 2
kind_number Tank = 3

-- the struct says what the node of this name is
pub record ShowsNode (declared : List Declared) (name : List ℕ) (shown : PlantbalNode) : Type 0 where
  pub name_shown : shown.name ≡ padded_name name
  pub tank : shown.tank ≡ is_tank declared name

-- the days of service, if there are any, otherwise 0
abbrev pub ShowsService : Option Service → Bool → ℤ → ℤ → Type 0
ShowsService (Some service) served since until = (served ≡ true) × (since ≡ service.since) × (until ≡ service.until)
ShowsService None served since until = (served ≡ false) × (since ≡ pos 0) × (until ≡ pos 0)

-- the struct says what the stream is
pub record ShowsStream (arc : Arc) (shown : PlantbalStream) : Type 0 where
  pub name : shown.name ≡ padded_name arc.name
  pub kind : shown.kind ≡ kind_number arc.kind
  pub leads_from : shown.from ≡ arc.from
  pub leads_to : shown.to ≡ arc.to
  pub service : ShowsService arc.service shown.served shown.since shown.until
  pub base : value_of shown.base ≡ arc.base
