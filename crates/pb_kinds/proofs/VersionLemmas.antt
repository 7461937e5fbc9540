-- The kinds of the rows of a session of a version, and what these rows may do.
use Rattle.std.specs.Prelude.{Option, Some, None, Ok, cond, filter, slice_get}
use Rattle.std.specs.List.{find, position_or_len}
use Rattle.std.specs.Option.{ok_or}
use Rattle.std.proofs.Common.{◌≡◌, ◌∙◌, ◌⊎◌, ℕ, zero, suc, Bool, true, false, List, [], ◌∷◌, refl, sym, ap, inl, inr}
use Rattle.std.proofs.lemmas.List.Folds.{find_at}
use Rattle.pb_form.specs.SessionRows.{is_of_version_1, is_of_version_2, session_kinds, session_schema, session_told}
use Rattle.pb_form.specs.Telling.{is_of}
use Rattle.pb_form.specs.Value.{Value}
use Rattle.pb_form.specs.declared.fault.FormFault.{FormFault}
use Rattle.pb_form.specs.declared.session.SessionKind.{SessionKind}
use Rattle.pb_form.specs.declared.session.SessionKind.TheVariants as kind
use Rattle.pb_site.specs.declared.declared.Version.{Version}
use Rattle.pb_site.specs.declared.declared.Version.TheVariants.{One, Two}
use Rattle.pb_site.specs.declared.declared.Declared.{Declared}
use Rattle.pb_site.specs.declared.declared.Declared.TheVariants.{Version2}
use Rattle.pb_kinds.specs.declared.rows.Effect.{Effect}
use Rattle.pb_kinds.specs.declared.rows.Effect.TheVariants.{Declares}
use Rattle.pb_kinds.specs.declared.rows.Request.{Request}
use Rattle.pb_kinds.specs.declared.rows.Request.TheVariants.{Store}
use Rattle.pb_kinds.specs.Requests.{asked_by, asked_in, request_of}
use Rattle.pb_kinds.specs.There.{kinds_of}
use Rattle.pb_kinds.specs.Versions.{has_kind, may_ask, may_begin, may_declare, may_do}

-- ---- the kind that a record is identified as is one of the session's

pub kept_passes : {X : Type 0} (p : X → Bool) (xs : List X) (i : ℕ) (x : X) → slice_get (filter p xs) i ≡ Some x → p x ≡ true
kept_passes p [] i x at = cc at
kept_passes p (y ∷ xs) i x at = by (p y) refl (λ k rest. kept_passes p xs k x rest) i at
  where
    by : (b : Bool) → p y ≡ b → ((k : ℕ) → slice_get (filter p xs) k ≡ Some x → p x ≡ true) → (i : ℕ) → slice_get (cond b (y ∷ filter p xs) (filter p xs)) i ≡ Some x
        → p x ≡ true
    by true e later zero at =
        let same : y ≡ x = cc at in
        ap p (sym same) ∙ e
    by true e later (suc i) at = later i at
    by false e later i at = later i at

-- a kind that is given was found
pub kind_found : (found : Option SessionKind) (why : FormFault) (it : SessionKind) → ok_or found why ≡ Ok it → found ≡ Some it
kind_found (Some other) why it is = cc is
kind_found None why it is = cc is

pub told_among : (kinds : List SessionKind) (fields : List (List ℕ)) (it : SessionKind) → session_told kinds fields ≡ Ok it → (i : ℕ) × (slice_get kinds i ≡ Some it)
unfolding session_told
told_among kinds fields it told =
    let is_its : SessionKind → Bool = λ kind. is_of fields (session_schema kind) in
    (position_or_len is_its kinds, sym (find_at is_its kinds) ∙ kind_found (find is_its kinds) _ it told)

-- what a record asks for in a session of a version
pub asked_in_version : (version : Version) (fields : List (List ℕ)) → asked_in (Some version) fields ≡ asked_by (kinds_of version) fields
asked_in_version One fields = refl
asked_in_version Two fields = refl

-- ---- before a row is stored

pub begins : (it : SessionKind) → may_begin it ≡ true → (it ≡ kind.Version) ⊎ (is_of_version_1 it ≡ true)
begins kind.Version is = inl refl
begins it is = inr is

pub may_begin_so : (it : SessionKind) → is_of_version_1 it ≡ true → may_begin it ≡ true
may_begin_so kind.Version is = cc is
may_begin_so it is = is

-- ---- what a row of a kind asks for may be done exactly when the session has rows of the kind

pub asks_what_it_may : (version : Option Version) (it : SessionKind) (values : List Value) → has_kind version it ≡ may_ask version (request_of it values)
asks_what_it_may None kind.Version values = refl
asks_what_it_may None it values = refl
asks_what_it_may (Some One) kind.Version values = refl
asks_what_it_may (Some One) it values = refl
asks_what_it_may (Some Two) kind.Version values = refl
asks_what_it_may (Some Two) it values = refl

-- what a record asks for by the kind that it is identified as may be asked for in a session of the version
pub told_may : (version : Version) (fields : List (List ℕ)) (it : SessionKind) (values : List Value) → session_told (kinds_of version) fields ≡ Ok it
    → may_ask (Some version) (request_of it values) ≡ true
told_may One fields it values told =
    let at = told_among (kinds_of One) fields it told in
    sym (asks_what_it_may (Some One) it values) ∙ kept_passes is_of_version_1 session_kinds at.0 it at.1
told_may Two fields it values told =
    let at = told_among (kinds_of Two) fields it told in
    sym (asks_what_it_may (Some Two) it values) ∙ kept_passes is_of_version_2 session_kinds at.0 it at.1

-- what may be declared in version 1 may be declared before a row is stored
declares_first : (declared : Declared) → may_declare (Some One) declared ≡ true → may_declare None declared ≡ true
declares_first Version2 may = refl
declares_first declared may = may

does_first : (effect : Effect) → may_do (Some One) effect ≡ true → may_do None effect ≡ true
does_first (Declares declared) may = declares_first declared may
does_first effect may = refl

pub asks_first : (request : Request) → may_ask (Some One) request ≡ true → may_ask None request ≡ true
asks_first (Store effect) may = does_first effect may
asks_first request may = refl
