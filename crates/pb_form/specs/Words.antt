-- Statement. The words of the columns of an output, each list in the order of the places that their values have.
use Rattle.std.specs.Prelude.{ℕ, List, [], ◌∷◌, codes}

-- the classes of a stream
abbrev pub class_words : List (List ℕ)
class_words = codes "observable" ∷ codes "unobservable" ∷ codes "redundant" ∷ codes "nonredundant" ∷ []

-- whether a stream is measured
abbrev pub measured_words : List (List ℕ)
measured_words = codes "yes" ∷ codes "no" ∷ []

-- the shapes of a certificate
abbrev pub shape_words : List (List ℕ)
shape_words = codes "cut" ∷ codes "cycle" ∷ []

-- whether the gap was met
abbrev pub state_words : List (List ℕ)
state_words = codes "converged" ∷ codes "unconverged" ∷ []

-- the verdicts of a test
abbrev pub verdict_words : List (List ℕ)
verdict_words = codes "reject" ∷ codes "accept" ∷ codes "undecided" ∷ codes "nocritical" ∷ codes "notest" ∷ []

-- why the elimination stops
abbrev pub stop_words : List (List ℕ)
stop_words = codes "accepted" ∷ codes "undecided" ∷ codes "nocritical" ∷ codes "notest" ∷ codes "nosuspect" ∷ codes "spent" ∷ []

-- whether a period is closed
abbrev pub period_words : List (List ℕ)
period_words = codes "closed" ∷ codes "open" ∷ []

-- the edits of a history
abbrev pub edit_words : List (List ℕ)
edit_words = codes "close" ∷ codes "late" ∷ codes "amend" ∷ codes "strike" ∷ []

-- why a record is refused, in the order of the codes
abbrev pub cause_words : List (List ℕ)
cause_words =
    codes "kind" ∷ codes "fields" ∷ codes "name" ∷ codes "number" ∷ codes "date" ∷ codes "unknown" ∷ codes "duplicate"
    ∷ codes "order" ∷ codes "mismatch" ∷ codes "sealed" ∷ codes "closed" ∷ codes "range" ∷ codes "full" ∷ []

-- what a check asks, in the order of the codes
abbrev pub test_words : List (List ℕ)
test_words =
    codes "class" ∷ codes "witness" ∷ codes "balance" ∷ codes "price" ∷ codes "box" ∷ codes "dof" ∷ codes "gap"
    ∷ codes "state" ∷ codes "bounds" ∷ codes "statistic" ∷ codes "nodal" ∷ codes "verdict" ∷ codes "least" ∷ []

-- why a record of a report can't be read, in the order of the codes
abbrev pub unread_words : List (List ℕ)
unread_words =
    codes "kind" ∷ codes "fields" ∷ codes "name" ∷ codes "number" ∷ codes "unknown" ∷ codes "duplicate" ∷ codes "word"
    ∷ codes "shape" ∷ codes "count" ∷ codes "env" ∷ codes "ended" ∷ []
