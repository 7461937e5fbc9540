-- Statement. What is proved about the studies that a session keeps.
use Rattle.std.specs.Prelude.{◌≡◌, ℕ, ◌≤◌, List, length}
use Rattle.pb_study.specs.Options.{AreOptions}
use Rattle.pb_book.specs.Accepted.{AreAccepted}
use Rattle.pb_session.specs.Kept.{AreKept, Held, most_kept}
use Rattle.pb_session.specs.Session.{Adds, SessionState}

-- the records of a session determine which periods it keeps
abbrev pub OneKeptLaw : Type 0
OneKeptLaw =
    (state : SessionState) (kept : List ℕ) (at : ℕ) (records : List (List (List ℕ))) (one other : List ℕ) → AreAccepted state.rows
    → AreKept state kept at records one → AreKept state kept at records other → one ≡ other

-- for any records, there is a list of the periods that it keeps
abbrev pub SomeKeptLaw : Type 0
SomeKeptLaw =
    (state : SessionState) (kept : List ℕ) (at : ℕ) (records : List (List (List ℕ))) → AreOptions state.options → AreAccepted state.rows
    → (new : List ℕ) × AreKept state kept at records new

-- a session never keeps too many
abbrev pub FewKeptLaw : Type 0
FewKeptLaw =
    (state : SessionState) (kept : List ℕ) (at : ℕ) (records : List (List (List ℕ))) (new : List ℕ) → length kept ≤ most_kept
    → AreKept state kept at records new → length new ≤ most_kept

-- what a record adds to the output doesn't depend on what is kept: sessions in the same state add the same text
abbrev pub KeptTextLaw : Type 0
KeptTextLaw =
    (one other : Held) (at : ℕ) (fields : List (List ℕ)) (text other_text : List ℕ) → one.state ≡ other.state
    → Adds one.state at fields text → Adds other.state at fields other_text → text ≡ other_text
