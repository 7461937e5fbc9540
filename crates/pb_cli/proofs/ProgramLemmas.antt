-- The line of a status, and a run over words that the system doesn't give.
use Rattle.std.proofs.Common.{◌≡◌, ◌∙◌, ◌⊎◌, inl, inr, ℕ, ◌+◌, ◌<◌, ◌≤◌, List, [], ◌∷◌, ◌++◌, Result, Ok, Err, length, take, arith, ap, sym, subst, refl, length-append}
use Rattle.std.specs.Prelude.{IfErr, OnOk, OnErr}
use Rattle.std.proofs.KnownBytes.{Consumes-nil}
use Rattle.std.proofs.lemmas.List.{take_all, take-append-le}
use Rattle.std.proofs.Math.Seq.{take-append-add}
use Rattle.pb_io.specs.Counts.{Rose}
use Rattle.pb_io.specs.Source.{SourceSeen, TakesSuch}
use Rattle.pb_io.specs.Sink.{SinkSeen, Puts, PutsPrefix}
use Rattle.pb_io.proofs.PieceLemmas.{puts_more}
use Rattle.pb_limits.specs.Limits.{most_bytes}
use Rattle.pb_words.specs.declared.command.WordsRefused.{WordsRefused}
use Rattle.pb_words.specs.declared.command.WordsRefused.TheVariants as refused
use Rattle.pb_cli.specs.declared.status.Status.{Status}
use Rattle.pb_cli.specs.declared.status.Status.TheVariants.{Done, DoneRefused, Usage, ReadFault, WriteFault, TooLarge, NoMemory}
use Rattle.pb_cli.specs.Status.{status_name, status_number, status_of}
use Rattle.pb_cli.specs.Program.{PutsUnlessFault, Runs, RunsGiven, error_line, line_feed}

-- the line of a status that isn't a success
pub line_of_name : (status : Status) → 2 ≤ status_number status → error_line status ≡ status_name status ++ line_feed ∷ []
line_of_name Done le = absurd (omega arith)
line_of_name DoneRefused le = absurd (omega arith)
line_of_name Usage le = refl
line_of_name ReadFault le = refl
line_of_name WriteFault le = refl
line_of_name TooLarge le = refl
line_of_name NoMemory le = refl

-- and a success has no line
pub no_line : (status : Status) → status_number status < 2 → error_line status ≡ []
no_line Done lt = refl
no_line DoneRefused lt = refl
no_line Usage lt = absurd (omega arith)
no_line ReadFault lt = absurd (omega arith)
no_line WriteFault lt = absurd (omega arith)
no_line TooLarge lt = absurd (omega arith)
no_line NoMemory lt = absurd (omega arith)

-- a name was put, and then its line feed
pub name_and_feed : {E : Type 0} (r : Result (Unit {0}) E) (a b c : SinkSeen) (name feed : List ℕ) → Puts a b name → OnOk r (Puts b c feed) → OnOk r (Puts a c (name ++ feed))
name_and_feed (Ok x) a b c name feed first second = puts_more a b c name feed first second
name_and_feed (Err e) a b c name feed first second = tt

-- a name was cut short
pub name_cut : (a b : SinkSeen) (name bytes feed : List ℕ) → bytes ≡ name → PutsPrefix a b bytes → PutsPrefix a b (name ++ feed)
name_cut a b name bytes feed are prefix =
    let (n, lt, puts) = subst (λ (front : List ℕ). PutsPrefix a b front) are prefix in
    let within : n ≤ length name = omega arith in
    (n, omega (arith, length-append name feed), subst (λ (bytes : List ℕ). Puts a b bytes) (sym (take-append-le n name feed within)) puts)

-- a name was put, and its line feed was not
pub feed_cut : {E : Type 0} (r : Result (Unit {0}) E) (a b c : SinkSeen) (name feed : List ℕ) → Puts a b name → OnErr r (PutsPrefix b c feed) → OnErr r (PutsPrefix a c (name ++ feed))
feed_cut (Ok x) a b c name feed first cut = tt
feed_cut (Err e) a b c name feed first (n, lt, puts) = (
  length name + n,
  omega (arith, length-append name feed),
  subst (λ (bytes : List ℕ). Puts a c bytes) (sym (take-append-add name feed n)) (puts_more a b c name (take n feed) first puts),
)

-- what was put, if all was put or a fault was counted
pub put_unless_fault : {E : Type 0} (r : Result (Unit {0}) E) (old new : SinkSeen) (bytes : List ℕ) → OnOk r (Puts old new bytes) → OnErr r (PutsPrefix old new bytes)
    → OnErr r (Rose old.faults new.faults) → PutsUnlessFault old new bytes
put_unless_fault (Ok x) old new bytes whole cut cause = record {
  all = λ none. whole;
  beginning = (length bytes, subst (λ (b : List ℕ). Puts old new b) (sym (take_all (length bytes) bytes (omega arith))) whole);
}
put_unless_fault (Err e) old new bytes whole cut cause = record { all = λ none. absurd (none cause); beginning = (cut.0, cut.2) }

-- the run over words, if these are what the arguments give
pub ran : {R W : Type 0} (seen_read : R → SourceSeen) (seen_written : W → SinkSeen) (given : Result (List (List ℕ)) WordsRefused) (words : List (List ℕ)) (a b : R) (c d : W) (status : Status)
    → given ≡ Ok words → Runs seen_read seen_written words a b c d status → RunsGiven seen_read seen_written given a b c d status
ran seen_read seen_written given words a b c d status is runs = subst (λ g. RunsGiven seen_read seen_written g a b c d status) (sym is) runs

-- nothing was taken
none_taken : (a : SourceSeen) → TakesSuch (λ bytes. length bytes ≤ most_bytes) a a
none_taken a = ([], record { takes = record { front = Consumes-nil a.remaining; count = omega arith }; idle = omega arith; turns = omega arith }, omega arith)

-- nothing was read or written, since there was no memory for the words
nothing_done : {R W : Type 0} (seen_read : R → SourceSeen) (seen_written : W → SinkSeen) (words : List (List ℕ)) (a : R) (c : W) → Runs seen_read seen_written words a a c c NoMemory
nothing_done seen_read seen_written words a c = record {
  done = λ e. absurd (cc e);
  done_refused = λ e. absurd (cc e);
  usage = λ e. absurd (cc e);
  unaccepted = λ _. inr refl;
  unread = λ _. refl;
  unwritten = λ _. refl;
  read_fault = λ e. absurd (cc e);
  no_read_fault = λ _. refl;
  read_fault_unwritten = λ _. refl;
  write_fault = λ e. absurd (cc e);
  no_write_fault = λ _. refl;
  write_fault_cut = λ e. absurd (cc e);
  too_large = λ e. absurd (cc e);
  too_large_unwritten = λ _. refl;
  not_too_large = λ _. none_taken (seen_read a);
  no_memory = λ _. inl refl;
  complete = λ command input of told none. inr refl;
  make_unread = λ number streams summary gap sweeps made. refl;
  idle = refl;
  source_faults_stay = omega arith;
  sink_faults_stay = omega arith;
  stops = λ _. refl;
}

-- no run, if the arguments give no words or there was no memory for them
pub not_run : {R W T : Type 0} (seen_read : R → SourceSeen) (seen_written : W → SinkSeen) (given : Result (List (List ℕ)) WordsRefused) (result : Result T WordsRefused) (why : WordsRefused)
    (a : R) (c : W) (status : Status) → result ≡ Err why → IfErr given (λ e. result ≡ Err e) → IfErr result (λ e. (given ≡ Err e) ⊎ (e ≡ refused.NoMemory)) → status ≡ status_of why
    → RunsGiven seen_read seen_written given a a c c status
not_run seen_read seen_written (Err e) result why a c status is same cause ends =
    let there : why ≡ e = cc (is, same) in
    (ends ∙ ap status_of there, refl, refl)
not_run seen_read seen_written (Ok words) (Ok x) why a c status is same cause ends =
    let no : ⊥ = cc is in
    absurd no
not_run seen_read seen_written (Ok words) (Err e) why a c status is same (inl given) ends =
    let no : ⊥ = cc given in
    absurd no
not_run seen_read seen_written (Ok words) (Err e) why a c status is same (inr none) ends =
    let there : why ≡ e = cc is in
    let here : NoMemory ≡ status = sym (ends ∙ ap status_of (there ∙ none)) in
    subst (λ (s : Status). Runs seen_read seen_written words a a c c s) here (nothing_done seen_read seen_written words a c)
