-- What a stream has by its class.
use Rattle.std.proofs.Common.{◌≡◌, ◌⊎◌, ◌↔◌, ◌∙◌, ◌&&◌, ℕ, Bool, Option, Some, None, is_some, slice_get, IsTrue, refl, sym, subst, inl, inr}
use Rattle.std.specs.Prelude.{IsSome}
use Rattle.pb_fixed.proofs.Lists.{some_same}
use Rattle.pb_graph.specs.declared.records.Class.{Class}
use Rattle.pb_graph.specs.declared.records.Class.TheVariants.{Observable, Unobservable, Redundant, Nonredundant}
use Rattle.pb_graph.specs.declared.records.Stream.{Stream}
use Rattle.pb_study.specs.declared.results.StreamResult.{StreamResult}
use Rattle.pb_study.specs.declared.results.Stage.{Stage}
use Rattle.pb_stage.specs.Printed.{have_least}
use Rattle.pb_check.specs.Asked.{HasClassAt}
use Rattle.pb_check.specs.Places.{AtStream, HasClassBits, is_bounded, is_of_measured}

measured_of : {A : Type 0} (class : Class) (o : Option A) → is_of_measured class ≡ is_some o → IsSome o ↔ ((class ≡ Redundant) ⊎ (class ≡ Nonredundant))
measured_of Redundant o is = ((λ some. inl refl), (λ either. sym is))
measured_of Nonredundant o is = ((λ some. inr refl), (λ either. sym is))
measured_of Observable o is = ((λ some. cc (is, some)), (λ either. elim either [ inl e ↦ cc e | inr e ↦ cc e ]))
measured_of Unobservable o is = ((λ some. cc (is, some)), (λ either. elim either [ inl e ↦ cc e | inr e ↦ cc e ]))

measured_bit : {A : Type 0} (class : Class) (o : Option A) → IsSome o ↔ ((class ≡ Redundant) ⊎ (class ≡ Nonredundant)) → is_of_measured class ≡ is_some o
measured_bit Redundant o is = sym (is.1 (inl refl))
measured_bit Nonredundant o is = sym (is.1 (inr refl))
measured_bit Observable None is = refl
measured_bit Observable (Some x) is = absurd (elim (is.0 refl) [ inl e ↦ cc e | inr e ↦ cc e ])
measured_bit Unobservable None is = refl
measured_bit Unobservable (Some x) is = absurd (elim (is.0 refl) [ inl e ↦ cc e | inr e ↦ cc e ])

bounded_of : {A : Type 0} (class : Class) (o : Option A) → is_some o ≡ is_bounded class → (o ≡ None) ↔ (class ≡ Unobservable)
bounded_of Unobservable None is = ((λ e. refl), (λ e. refl))
bounded_of Unobservable (Some x) is = cc is
bounded_of Observable None is = cc is
bounded_of Observable (Some x) is = ((λ e. cc e), (λ e. cc e))
bounded_of Redundant None is = cc is
bounded_of Redundant (Some x) is = ((λ e. cc e), (λ e. cc e))
bounded_of Nonredundant None is = cc is
bounded_of Nonredundant (Some x) is = ((λ e. cc e), (λ e. cc e))

bounded_bit : {A : Type 0} (class : Class) (o : Option A) → (o ≡ None) ↔ (class ≡ Unobservable) → is_some o ≡ is_bounded class
bounded_bit Unobservable None is = refl
bounded_bit Unobservable (Some x) is = let e = is.1 refl in cc e
bounded_bit Observable None is = let e = is.0 refl in cc e
bounded_bit Observable (Some x) is = refl
bounded_bit Redundant None is = let e = is.0 refl in cc e
bounded_bit Redundant (Some x) is = refl
bounded_bit Nonredundant None is = let e = is.0 refl in cc e
bounded_bit Nonredundant (Some x) is = refl

-- what `HasClassAt` asks of a stream and its result
abbrev pub HasClass : Bool → Stream → StreamResult → Type 0
HasClass b s r =
    (IsSome s.meas ↔ ((r.classified.class ≡ Redundant) ⊎ (r.classified.class ≡ Nonredundant)))
    × ((r.bounds ≡ None) ↔ (r.classified.class ≡ Unobservable)) × (is_some r.least ≡ (is_some r.bounds && b))

pub of_bits : (b : Bool) (s : Stream) (r : StreamResult) → HasClassBits b s r → HasClass b s r
of_bits b s r bits =
    (measured_of r.classified.class s.meas bits.measured, bounded_of r.classified.class r.bounds bits.bounded, bits.least_bounded)

pub bits_of : (b : Bool) (s : Stream) (r : StreamResult) → HasClass b s r → HasClassBits b s r
bits_of b s r has = record {
  measured = measured_bit r.classified.class s.meas has.0;
  bounded = bounded_bit r.classified.class r.bounds has.1;
  least_bounded = has.2;
}

-- from the stream and its result to the place, and back
pub class_of : (stage : Stage) (j : ℕ) (s : Stream) (r : StreamResult) → slice_get stage.graph.streams j ≡ Some s → HasClass (have_least stage.streams) s r → HasClassAt stage j r
class_of stage j s r here (measured, bounded, least_bounded) = (s, here, measured, bounded, least_bounded)

pub class_there : (stage : Stage) (j : ℕ) (s : Stream) (r : StreamResult) → slice_get stage.graph.streams j ≡ Some s → HasClassAt stage j r → HasClass (have_least stage.streams) s r
class_there stage j s r here (t, at, measured, bounded, least_bounded) =
    subst (λ (u : Stream). HasClass (have_least stage.streams) u r) (some_same (sym at ∙ here)) (measured, bounded, least_bounded)

-- a test of the stream at a place
pub class_at : (stage : Stage) (j : ℕ) (s : Stream) (r : StreamResult) (in_stage result : Bool) → in_stage ≡ have_least stage.streams → slice_get stage.graph.streams j ≡ Some s
    → slice_get stage.streams j ≡ Some r → IsTrue result ↔ HasClassBits in_stage s r → IsTrue result ↔ AtStream stage (HasClassAt stage) j
class_at stage j s r in_stage result is here there decides = (
  (λ yes_ other at.
      let bits = subst (λ (b : Bool). HasClassBits b s r) is (decides.0 yes_) in
      let has = class_of stage j s r here (of_bits (have_least stage.streams) s r bits) in
      subst (HasClassAt stage j) (some_same (sym there ∙ at)) has),
  (λ each.
      let own = class_there stage j s r here (each r there) in
      decides.1 (subst (λ (b : Bool). HasClassBits b s r) (sym is) (bits_of (have_least stage.streams) s r own))),
)
