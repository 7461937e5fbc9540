-- What the written parts of a certificate read as: the members of a cut and the steps of a cycle.
use Rattle.std.specs.Prelude.{◌==◌, All, map}
use Rattle.std.specs.List.{list_any, list_all, AllByRecursion}
use Rattle.std.proofs.Common.{◌≡◌, ℕ, ℤ, zero, suc, ◌<◌, List, [], ◌∷◌, length, Bool, true, false, refl, ap, arith, inl, inr}
use Rattle.std.proofs.lemmas.Bool.{and_from, or_from}
use Rattle.std.proofs.lemmas.List.Elements.{recursion_from_All}
use Rattle.pb_rows.specs.Name.{is_name}
use Rattle.pb_graph.specs.declared.records.Member.{Member}
use Rattle.pb_graph.specs.declared.records.Step.{Step}
use Rattle.pb_graph.specs.ProcessGraph.{ProcessGraph}
use Rattle.pb_graph.specs.WellFormed.{IsMember, IsSign, IsStep}
use Rattle.pb_report.specs.Certificate.{spaced, member_text, step_text}
use Rattle.pb_report.specs.Names.{name_at}
use Rattle.pb_blocks.specs.Lists.{items, is_part, member_of, step_of}
use Rattle.pb_blocks.specs.Held.{names_no_stream}
use Rattle.pb_readback.proofs.WrittenFieldLemmas.{AreApart, among_at, place_at, some_byte}
use Rattle.pb_readback.proofs.WrittenListLemmas.{AreNamed, IsPiece, items_back, name_bytes, named_at}

-- what is known of the names of streams
pub record AreStreamNames (streams : List (List ℕ)) : Type 0 where
  pub forms : AreNamed streams
  pub apart : AreApart streams

-- a part is written with a sign that isn't a space, and reads back as what was written
pub record IsPartOf {A : Type 0} (read : List ℕ → A) (streams : List (List ℕ)) (text : List ℕ) (item : A) : Type 0 where
  pub piece : IsPiece text
  pub form : is_part text ≡ true
  pub known : names_no_stream streams text ≡ false
  pub value : read text ≡ item

signed_piece : (sign : ℕ) (name : List ℕ) → (sign == 32) ≡ false → is_name name ≡ true → IsPiece (sign ∷ name)
signed_piece sign name other form = record { whole = by; some = some_byte sign name }
  where
    by : All (λ (byte : ℕ). (byte == 32) ≡ false) (sign ∷ name)
    by zero d lt = other
    by (suc k) d lt = name_bytes name form k d (omega (arith, lt))

member_back : (streams : List (List ℕ)) → AreStreamNames streams → (stream : ℕ) (sign : ℤ) → stream < length streams → IsSign sign
    → IsPartOf (member_of streams) streams (member_text streams (record { stream = stream; sign = sign })) (record { stream = stream; sign = sign })
member_back streams names stream sign lt (inl e) =
    rw e (record {
      piece = signed_piece 43 (name_at streams stream) refl (named_at streams stream names.forms lt);
      form = named_at streams stream names.forms lt;
      known = rw (among_at streams stream lt) refl;
      value = rw (place_at streams stream names.apart lt) refl;
    })
member_back streams names stream sign lt (inr e) =
    rw e (record {
      piece = signed_piece 45 (name_at streams stream) refl (named_at streams stream names.forms lt);
      form = named_at streams stream names.forms lt;
      known = rw (among_at streams stream lt) refl;
      value = rw (place_at streams stream names.apart lt) refl;
    })

step_back : (streams : List (List ℕ)) → AreStreamNames streams → (stream : ℕ) (forward : Bool) → stream < length streams
    → IsPartOf (step_of streams) streams (step_text streams (record { stream = stream; forward = forward })) (record { stream = stream; forward = forward })
step_back streams names stream true lt = record {
  piece = signed_piece 43 (name_at streams stream) refl (named_at streams stream names.forms lt);
  form = named_at streams stream names.forms lt;
  known = rw (among_at streams stream lt) refl;
  value = rw (place_at streams stream names.apart lt) refl;
}
step_back streams names stream false lt = record {
  piece = signed_piece 45 (name_at streams stream) refl (named_at streams stream names.forms lt);
  form = named_at streams stream names.forms lt;
  known = rw (among_at streams stream lt) refl;
  value = rw (place_at streams stream names.apart lt) refl;
}

-- the items of a list of parts
pub record ArePartsOf {A : Type 0} (read : List ℕ → A) (streams : List (List ℕ)) (texts : List (List ℕ)) (things : List A) : Type 0 where
  pub forms : list_all is_part texts ≡ true
  pub known : list_any (names_no_stream streams) texts ≡ false
  pub value : map read texts ≡ things

parts_back : {A : Type 0} (read : List ℕ → A) (streams : List (List ℕ)) (text : A → List ℕ) (things : List A)
    → AllByRecursion (λ (item : A). IsPartOf read streams (text item) item) things → ArePartsOf read streams (map text things) things
parts_back read streams text [] parts = record { forms = refl; known = refl; value = refl }
parts_back read streams text (item ∷ things) parts =
    let rest = parts_back read streams text things parts.1 in
    record {
      forms = and_from (is_part (text item)) (list_all is_part (map text things)) parts.0.form rest.forms;
      known = or_from (names_no_stream streams (text item)) (list_any (names_no_stream streams) (map text things)) parts.0.known rest.known;
      value = rw (parts.0.value) (ap (λ (all : List _). item ∷ all) rest.value);
    }

all_pieces : {A : Type 0} (read : List ℕ → A) (streams : List (List ℕ)) (text : A → List ℕ) (things : List A)
    → AllByRecursion (λ (item : A). IsPartOf read streams (text item) item) things → AllByRecursion (λ (item : A). IsPiece (text item)) things
all_pieces read streams text [] parts = tt
all_pieces read streams text (item ∷ things) parts = (parts.0.piece, all_pieces read streams text things parts.1)

-- the parts of a list as it is written
pub list_back : {A : Type 0} (read : List ℕ → A) (streams : List (List ℕ)) (text : A → List ℕ) (things : List A)
    → AllByRecursion (λ (item : A). IsPartOf read streams (text item) item) things → ArePartsOf read streams (items (spaced text things)) things
list_back read streams text things parts = rw (items_back text things (all_pieces read streams text things parts)) (parts_back read streams text things parts)

members_are : (graph : ProcessGraph) (streams : List (List ℕ)) → AreStreamNames streams → length streams ≡ length graph.streams → (members : List Member)
    → AllByRecursion (IsMember graph) members → AllByRecursion (λ (member : Member). IsPartOf (member_of streams) streams (member_text streams member) member) members
members_are graph streams names long [] within = tt
members_are graph streams names long (member ∷ members) within =
    (member_back streams names member.stream member.sign (omega (arith, within.0.stream, long)) within.0.sign, members_are graph streams names long members within.1)

steps_are : (graph : ProcessGraph) (streams : List (List ℕ)) → AreStreamNames streams → length streams ≡ length graph.streams → (steps : List Step)
    → AllByRecursion (IsStep graph) steps → AllByRecursion (λ (step : Step). IsPartOf (step_of streams) streams (step_text streams step) step) steps
steps_are graph streams names long [] within = tt
steps_are graph streams names long (step ∷ steps) within =
    (step_back streams names step.stream step.forward (omega (arith, within.0, long)), steps_are graph streams names long steps within.1)

-- the members of a cut, as they are written
pub members_back : (graph : ProcessGraph) (streams : List (List ℕ)) → AreStreamNames streams → length streams ≡ length graph.streams → (members : List Member)
    → All (IsMember graph) members → ArePartsOf (member_of streams) streams (items (spaced (member_text streams) members)) members
members_back graph streams names long members within =
    list_back (member_of streams) streams (member_text streams) members (members_are graph streams names long members (recursion_from_All (IsMember graph) members within))

-- the steps of a cycle, as they are written
pub steps_back : (graph : ProcessGraph) (streams : List (List ℕ)) → AreStreamNames streams → length streams ≡ length graph.streams → (steps : List Step)
    → All (IsStep graph) steps → ArePartsOf (step_of streams) streams (items (spaced (step_text streams) steps)) steps
steps_back graph streams names long steps within =
    list_back (step_of streams) streams (step_text streams) steps (steps_are graph streams names long steps (recursion_from_All (IsStep graph) steps within))
