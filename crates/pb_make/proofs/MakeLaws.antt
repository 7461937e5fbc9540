-- What crates above may cite of made sessions: that they read back and are accepted, what they store, and how many rows they have.
use Rattle.std.proofs.Common.{[], List, ℕ, sym, subst}
use Rattle.pb_rows.proofs.RowLaws.{rows_read_back}
use Rattle.pb_form.proofs.FormLaws.{text_law}
use Rattle.pb_kinds.proofs.KindLaws.{asking_law}
use Rattle.pb_make.specs.Laws.{Anything, AreTaken, NoneRefusedLaw, PeriodLaw, ReadsBackLaw}
use Rattle.pb_make.specs.Rows.{session_rows}
use Rattle.pb_make.proofs.RequestLemmas.{Asks, asks}
use Rattle.pb_make.proofs.SessionLemmas.{period_stored, session_taken, session_words}
pub use Rattle.pb_make.proofs.SessionLemmas.{row_count}

pub reads_back_law : ReadsBackLaw
reads_back_law number streams = rows_read_back (session_rows number streams) (session_words number streams)

made_asks : Asks
made_asks = asks asking_law text_law

pub accepted_law : NoneRefusedLaw
accepted_law number streams least most =
    subst (λ (records : List (List (List ℕ))). AreTaken Anything [] 1 records) (sym (reads_back_law number streams))
    (session_taken made_asks number streams least most)

pub period_law : PeriodLaw
period_law = period_stored made_asks
