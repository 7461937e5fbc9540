-- Statement. What the rows of a session of a version may do, and which kinds they have.
use Rattle.std.specs.Prelude.{Bool, true, false, Option, Some, None, is_none}
use Rattle.pb_form.specs.SessionRows.{is_of_version_1, is_of_version_2}
use Rattle.pb_form.specs.declared.session.SessionKind.{SessionKind}
use Rattle.pb_form.specs.declared.session.SessionKind.TheVariants as kind
use Rattle.pb_site.specs.declared.declared.Declared.{Declared}
use Rattle.pb_site.specs.declared.declared.Declared.TheVariants.{Version2, Boundary, Tank, Stream}
use Rattle.pb_site.specs.declared.declared.Version.{Version}
use Rattle.pb_site.specs.declared.declared.Version.TheVariants.{One, Two}
use Rattle.pb_kinds.specs.declared.rows.Effect.{Effect}
use Rattle.pb_kinds.specs.declared.rows.Effect.TheVariants.{Declares}
use Rattle.pb_kinds.specs.declared.rows.Request.{Request}
use Rattle.pb_kinds.specs.declared.rows.Request.TheVariants.{Store}

-- before a row is stored the version may be stated; the rows are those of version 1 otherwise
abbrev pub may_begin : SessionKind → Bool
may_begin kind.Version = true
may_begin it = is_of_version_1 it

-- a session has rows of a kind, by its version; it has a version once a row is stored
abbrev pub has_kind : Option Version → SessionKind → Bool
has_kind None it = may_begin it
has_kind (Some One) it = is_of_version_1 it
has_kind (Some Two) it = is_of_version_2 it

-- the version is stated before any row is stored, and boundaries and days of service are declared only in version 2
abbrev pub may_declare : Option Version → Declared → Bool
may_declare None Version2 = true
may_declare (Some version) Version2 = false
may_declare (Some Two) declared = true
may_declare version (Boundary name) = false
may_declare version (Tank name base service) = is_none service
may_declare version (Stream name from to sort base service) = is_none service
may_declare version declared = true

-- a row of a session of a version may do this
abbrev pub may_do : Option Version → Effect → Bool
may_do version (Declares declared) = may_declare version declared
may_do version effect = true

-- A record of a session of a version may ask for this: a row of the session may do what the record asks to store.
abbrev pub may_ask : Option Version → Request → Bool
may_ask version (Store effect) = may_do version effect
may_ask version request = true
