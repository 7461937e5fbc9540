-- A record that writes values of a kind writes the effect that they ask to store.
use Rattle.std.specs.Prelude.{IfOk, None, Some, Result, Ok, Err}
use Rattle.std.proofs.Common.{◌≡◌, ◌∙◌, ◌≤◌, ℕ, ℤ, pos, true, List, [], ◌∷◌, length, FitsSigned, refl, ap, arith}
use Rattle.std.proofs.lemmas.Int.{ints, to_z-of_z}
use mir.Syntax.{w64, w128}
use mir.Val.{of_z, to_z}
use Rattle.pb_limits.specs.Limits.{most_freedom}
use Rattle.pb_rows.specs.Name.{is_name}
use Rattle.pb_site.specs.declared.declared.Declared.TheVariants.{Stream}
use Rattle.pb_site.specs.declared.declared.Kind.{Kind}
use Rattle.pb_site.specs.declared.declared.Kind.TheVariants.{Metered, Batch, Plain}
use Rattle.pb_site.specs.Row.{IsArcBase, arc_kind}
use Rattle.pb_site.specs.Service.{IsService}
use Rattle.pb_site.specs.declared.declared.Service.{Service}
use Rattle.pb_form.specs.Given.{value_as, values_as}
use Rattle.pb_form.specs.Holds as holds
use Rattle.pb_form.specs.Laws.{IsOfKind}
use Rattle.pb_form.specs.SessionRows.{session_columns, session_schema}
use Rattle.pb_form.specs.Value.{Value, Name}
use Rattle.pb_form.specs.Writing.{FitEach, Writes}
use Rattle.pb_form.specs.declared.fault.FormFault.{FormFault}
use Rattle.pb_form.specs.declared.session.SessionKind.{SessionKind}
use Rattle.pb_form.specs.declared.value.Value as coded
use Rattle.pb_form.specs.declared.value.Value.TheVariants as given
use Rattle.pb_kinds.specs.declared.rows.Effect.{Effect}
use Rattle.pb_kinds.specs.declared.rows.Effect.TheVariants.{Declares}
use Rattle.pb_kinds.specs.declared.rows.Request.{Request}
use Rattle.pb_kinds.specs.declared.rows.Request.TheVariants.{Store}
use Rattle.pb_kinds.specs.Requests.{request_of}
use Rattle.pb_kinds.specs.There.{WritesEffect, served_stream_kind, stream_kind}
use Rattle.pb_kinds.proofs.RequestLemmas.{asks_of}
use Rattle.pb_kinds.specs.Versions.{may_ask}
use Rattle.pb_kinds.proofs.VersionLemmas.{asks_what_it_may}

pub written : {E : Type 0} (result : Result (List (List ℕ)) E) (it : SessionKind) (values : List Value) (effect : Effect) → IfOk result (Writes (session_schema it) values)
    → IfOk result (IsOfKind it) → request_of it values ≡ Store effect → IfOk result (WritesEffect effect)
written (Ok fields) it values effect writes is asks =
    let ok : Request → Result Request FormFault = λ request. Ok request in
    record {
      asks = λ version may.
          asks_of version it values fields (asks_what_it_may version it values ∙ ap (may_ask version) asks ∙ may) is writes ∙ ap ok asks;
      filled = is.filled;
    }
written (Err error) it values effect writes is asks = tt

-- a number of 64 bits, and degrees of freedom, as they are handed on
pub handed_long : (x y : ℤ) → FitsSigned w64 x → y ≡ x → to_z w128 (of_z w128 y) ≡ x
handed_long x y fits same =
    let wide : FitsSigned w128 x = omega (arith, ints, fits) in
    rw same (to_z-of_z w128 x wide)

pub handed_dof : (n : ℕ) (y : ℤ) → n ≤ most_freedom → y ≡ pos n → to_z w128 (of_z w128 y) ≡ pos n
handed_dof n y most same =
    let wide : FitsSigned w128 (pos n) = omega (arith, ints, most) in
    rw same (to_z-of_z w128 (pos n) wide)

-- the values of a stream whose names are given as these
abbrev pub stream_given : coded.Value → coded.Value → coded.Value → ℤ → List coded.Value
stream_given a b c base = given.Word 0 ∷ (a ∷ (b ∷ (c ∷ (given.Word 0 ∷ (given.Number base ∷ [])))))

-- there are as many values as a stream of this kind has columns, they fit the columns, and they ask to store the stream
pub record StreamIsGiven (sort : Kind) (a b c : coded.Value) (name from to : List ℕ) (base : ℤ) : Type 0 where
  pub each : length (stream_given a b c base) ≡ length (session_columns (stream_kind sort))
  pub fit : FitEach (session_columns (stream_kind sort)) (values_as (session_columns (stream_kind sort)) (stream_given a b c base))
  pub asks : request_of (stream_kind sort) (values_as (session_columns (stream_kind sort)) (stream_given a b c base)) ≡ Store (Declares (Stream name from to sort base None))

pub stream_is_given : (sort : Kind) (a b c : coded.Value) (name from to : List ℕ) (base : ℤ) → value_as holds.Name a ≡ Name name → value_as holds.Name b ≡ Name from → value_as holds.Name c ≡ Name to
    → is_name name ≡ true → is_name from ≡ true → is_name to ≡ true → IsArcBase (arc_kind sort) base → StreamIsGiven sort a b c name from to base
stream_is_given Metered a b c name from to base x y z p q r range = record {
  each = refl;
  fit = rw (x, y, z) ((refl, refl), (p, (q, (r, ((refl, refl), (range, tt))))));
  asks = rw (x, y, z, p, q, r) refl;
}
stream_is_given Batch a b c name from to base x y z p q r range = record {
  each = refl;
  fit = rw (x, y, z) ((refl, refl), (p, (q, (r, ((refl, refl), (range, tt))))));
  asks = rw (x, y, z, p, q, r) refl;
}
stream_is_given Plain a b c name from to base x y z p q r range = record {
  each = refl;
  fit = rw (x, y, z) ((refl, refl), (p, (q, (r, ((refl, refl), ((omega (arith, ints, range), omega (arith, ints, range)), tt))))));
  asks = rw (x, y, z, p, q, r) refl;
}

-- the same of a stream with days of service
abbrev pub served_stream_given : coded.Value → coded.Value → coded.Value → ℤ → Service → List coded.Value
served_stream_given a b c base service =
    given.Word 0 ∷ (a ∷ (b ∷ (c ∷ (given.Word 0 ∷ (given.Number base ∷ (given.Day service.since ∷ (given.Day service.until ∷ [])))))))

pub record ServedStreamIsGiven (sort : Kind) (a b c : coded.Value) (name from to : List ℕ) (base : ℤ) (service : Service) : Type 0 where
  pub each : length (served_stream_given a b c base service) ≡ length (session_columns (served_stream_kind sort))
  pub fit : FitEach (session_columns (served_stream_kind sort)) (values_as (session_columns (served_stream_kind sort)) (served_stream_given a b c base service))
  pub asks : request_of (served_stream_kind sort) (values_as (session_columns (served_stream_kind sort)) (served_stream_given a b c base service))
      ≡ Store (Declares (Stream name from to sort base (Some service)))

pub served_stream_is_given : (sort : Kind) (a b c : coded.Value) (name from to : List ℕ) (base : ℤ) (service : Service) → value_as holds.Name a ≡ Name name
    → value_as holds.Name b ≡ Name from → value_as holds.Name c ≡ Name to → is_name name ≡ true → is_name from ≡ true → is_name to ≡ true → IsArcBase (arc_kind sort) base
    → IsService service → ServedStreamIsGiven sort a b c name from to base service
served_stream_is_given Metered a b c name from to base service x y z p q r range days = record {
  each = refl;
  fit = rw (x, y, z) ((refl, refl), (p, (q, (r, ((refl, refl), (range, (days.since, (days.until, tt))))))));
  asks = rw (x, y, z, p, q, r) refl;
}
served_stream_is_given Batch a b c name from to base service x y z p q r range days = record {
  each = refl;
  fit = rw (x, y, z) ((refl, refl), (p, (q, (r, ((refl, refl), (range, (days.since, (days.until, tt))))))));
  asks = rw (x, y, z, p, q, r) refl;
}
served_stream_is_given Plain a b c name from to base service x y z p q r range days = record {
  each = refl;
  fit = rw (x, y, z) ((refl, refl), (p, (q, (r, ((refl, refl), ((omega (arith, ints, range), omega (arith, ints, range)), (days.since, (days.until, tt))))))));
  asks = rw (x, y, z, p, q, r) refl;
}
