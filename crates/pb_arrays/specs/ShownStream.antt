-- Statement. The result of a stream, with its certificate, as C has it.
use Rattle.std.specs.Prelude.{◌≡◌, ℕ, pos, negsuc, Bool, true, false, List, Option, Some, None, length, map, slice_get, if◌then◌else◌}
use Rattle.std.specs.Option.{option_and_then, option_map}
use Rattle.pb_graph.specs.declared.records.Class.{Class}
use Rattle.pb_graph.specs.declared.records.Class.TheVariants as classes
use Rattle.pb_graph.specs.declared.records.Classified.{Classified}
use Rattle.pb_graph.specs.declared.records.Member.{Member}
use Rattle.pb_graph.specs.declared.records.Step.{Step}
use Rattle.pb_graph.specs.declared.records.Witness.{Witness}
use Rattle.pb_graph.specs.declared.records.Witness.TheVariants.{Cut, Cycle}
use Rattle.pb_study.specs.declared.results.Bounds.{Bounds}
use Rattle.pb_study.specs.declared.results.StreamResult.{StreamResult}
use Rattle.pb_study.specs.declared.results.Study.{Study}
use Rattle.pb_arrays.specs.Found.{result_in}
use Rattle.pb_arrays.specs.Wide.{wide_value}
use Rattle.pb_arrays.specs.declared.numbers.PlantbalWide.{PlantbalWide}
use Rattle.pb_arrays.specs.declared.streams.PlantbalMember.{PlantbalMember}
use Rattle.pb_arrays.specs.declared.streams.PlantbalResult.{PlantbalResult}

-- the number of a class
abbrev pub class_number : Class → ℕ
class_number classes.Observable = 0
class_number classes.Unobservable = 1
class_number classes.Redundant = 2
class_number classes.Nonredundant = 3

-- the numbers of the classes of some streams, in order
abbrev pub class_numbers : List Classified → List ℕ
class_numbers classes = map (λ (c : Classified). class_number c.class) classes

-- both ends of bounds, if there are any, otherwise 0
abbrev pub ShowsBounds : Option Bounds → Bool → PlantbalWide → PlantbalWide → Type 0
ShowsBounds (Some bounds) there lo hi = (there ≡ true) × (wide_value lo ≡ bounds.lo) × (wide_value hi ≡ bounds.hi)
ShowsBounds None there lo hi = (there ≡ false) × (wide_value lo ≡ pos 0) × (wide_value hi ≡ pos 0)

-- whether a certificate is a cycle or a cut, and how many streams it has
abbrev pub ShowsWitness : Witness → Bool → ℕ → Type 0
ShowsWitness (Cut side members) cycle count = (cycle ≡ false) × (count ≡ length members)
ShowsWitness (Cycle steps) cycle count = (cycle ≡ true) × (count ≡ length steps)

-- the struct says what the result is
pub record ShowsResult (stream : StreamResult) (shown : PlantbalResult) : Type 0 where
  pub class : shown.stream_class ≡ class_number stream.classified.class
  pub witness : ShowsWitness stream.classified.witness shown.cycle shown.members
  pub flow : wide_value shown.flow ≡ stream.flow
  pub bounds : ShowsBounds stream.bounds shown.bounded shown.lo shown.hi
  pub least : ShowsBounds stream.least shown.least_bounded shown.least_lo shown.least_hi

-- a stream of a cut with its sign
abbrev pub member_shown : Member → PlantbalMember
member_shown member = record { stream = member.stream; sign = member.sign }

-- a step of a cycle: 1 along the stream's arrow, and -1 against it
abbrev pub step_shown : Step → PlantbalMember
step_shown step = record { stream = step.stream; sign = if step.forward then pos 1 else negsuc 0 }

-- a stream of a certificate
abbrev pub certificate_member : ℕ → Witness → Option PlantbalMember
certificate_member place (Cut side members) = option_map member_shown (slice_get members place)
certificate_member place (Cycle steps) = option_map step_shown (slice_get steps place)

abbrev pub member_in : Study → ℕ → ℕ → ℕ → Option PlantbalMember
member_in study stage stream place =
    option_and_then (λ (r : StreamResult). certificate_member place r.classified.witness) (result_in study stage stream)

-- whether a node is inside a cut; a cycle has no inside
abbrev pub side_of : ℕ → Witness → Option Bool
side_of node (Cut side members) = slice_get side node
side_of node (Cycle steps) = None

abbrev pub side_in : Study → ℕ → ℕ → ℕ → Option Bool
side_in study stage stream node =
    option_and_then (λ (r : StreamResult). side_of node r.classified.witness) (result_in study stage stream)
