-- The command that the words give, and how it ends.
use Rattle.std.proofs.Common.{◌≡◌, ◌⊎◌, inl, inr, ℕ, Bool, true, List, refl, sym, subst}
use Rattle.pb_io.specs.Source.{SourceSeen}
use Rattle.pb_words.specs.declared.command.Command.{Command}
use Rattle.pb_words.specs.declared.command.Command.TheVariants.{Make}
use Rattle.pb_words.specs.Command.{IsCommandOf}
use Rattle.pb_words.specs.Laws.{OneCommandLaw}
use Rattle.pb_cli.specs.declared.status.Status.{Status}
use Rattle.pb_cli.specs.declared.status.Status.TheVariants.{NoMemory}
use Rattle.pb_cli.specs.Run.{EndsAs, IsGiven, is_making}

-- if the bytes decide and no fault was counted, a command ends as they say, or else with NoMemory
abbrev pub Completes : List (List ℕ) → SourceSeen → SourceSeen → Type 0 → Status → Type 0
Completes words source_old source_new WriteFailed status =
    (command : Command) (input : List ℕ) → IsCommandOf words command → IsGiven command source_old source_new input → (WriteFailed → ⊥)
    → EndsAs command input status ⊎ (status ≡ NoMemory)

-- the command that the words give is the one that was done, since they give only one
pub completes : OneCommandLaw → (words : List (List ℕ)) (here : Command) (read : List ℕ) (source_old source_new : SourceSeen) (WriteFailed : Type 0) (status : Status)
    → IsCommandOf words here → ((input : List ℕ) → IsGiven here source_old source_new input → read ≡ input)
    → ((WriteFailed → ⊥) → EndsAs here read status ⊎ (status ≡ NoMemory)) → Completes words source_old source_new WriteFailed status
completes law words here read source_old source_new WriteFailed status is given ends command input of told none =
    let same : command ≡ here = law words command here of is in
    let at : IsGiven here source_old source_new input = subst (λ (c : Command). IsGiven c source_old source_new input) same told in
    subst (λ (c : Command). EndsAs c input status ⊎ (status ≡ NoMemory)) (sym same)
    (subst (λ (bytes : List ℕ). EndsAs here bytes status ⊎ (status ≡ NoMemory)) (given input at) (ends none))

-- it wasn't read
pub completes_unread : OneCommandLaw → (words : List (List ℕ)) (here : Command) (source_old source_new : SourceSeen) (WriteFailed : Type 0) (status : Status) → IsCommandOf words here
    → ((input : List ℕ) → IsGiven here source_old source_new input → status ≡ NoMemory) → Completes words source_old source_new WriteFailed status
completes_unread law words here source_old source_new WriteFailed status is given command input of told none =
    let same : command ≡ here = law words command here of is in
    inr (given input (subst (λ (c : Command). IsGiven c source_old source_new input) same told))

-- of three ways to end, the second with a fault that wasn't counted
pub unless_failed : (Ends Failed Wants Fault : Type 0) → Ends ⊎ (Failed ⊎ Wants) → (Failed → Fault) → (Fault → ⊥) → Ends ⊎ Wants
unless_failed Ends Failed Wants Fault (inl ends) cause none = inl ends
unless_failed Ends Failed Wants Fault (inr (inl failed)) cause none = absurd (none (cause failed))
unless_failed Ends Failed Wants Fault (inr (inr wants)) cause none = inr wants

-- the command that was read makes a session, if the words give a command that does
pub making_here : OneCommandLaw → (words : List (List ℕ)) (here : Command) → IsCommandOf words here
    → (number streams : ℕ) (summary : Bool) (gap sweeps : ℕ) → IsCommandOf words (Make number streams summary gap sweeps) → is_making here ≡ true
making_here law words here is number streams summary gap sweeps of =
    subst (λ (c : Command). is_making c ≡ true) (law words (Make number streams summary gap sweeps) here of is) refl
