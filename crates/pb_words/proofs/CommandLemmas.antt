-- What the lines of parts and of `clap` say, and the command that it asks for.
use Rattle.std.specs.Prelude.{unsigned_abs, find}
use Rattle.std.proofs.Common.{inl, inr, ◌≡◌, ◌∙◌, ◌||◌, ◌&&◌, ◌≤◌, ◌≢◌, arith, All, IsTrue, ℕ, suc, ℤ, pos, negsuc, Bool, cond, true, false, refl, sym, ap, ap₂, subst, List, [], ◌∷◌, Option, Some, None, is_some, codes, leb-true, true≢false, int_le, unwrap_or, IfSome, ◌≤ℤ◌, option_map}
use Rattle.std.proofs.lemmas.Int.{ints}
use Rattle.std.specs.Str.{bytes_eq}
use Rattle.std.proofs.lemmas.Slice.Eq.{bytes_eq-Decides}
use Rattle.pb_rows.specs.Number.{number, within}
use Rattle.pb_study.specs.declared.results.Options.{Options}
use Rattle.pb_report.specs.declared.form.Form.{Form}
use Rattle.pb_words.specs.Parts.{Part, mode, flag, apart, joined, IsKnownPart, flag_names, is_one_of, name_of, option_names, said_by, text_of}
use Rattle.pb_words.specs.Given.{Given, given_by, given_of, is_true}
use Rattle.pb_limits.specs.Limits.{default_gap, default_number, default_streams, default_sweeps, most_gap, most_made_streams, most_rounds, most_sweeps}
use Rattle.pb_study.specs.Options.{AreOptions}
use Rattle.pb_make.specs.Plant.{least_streams}
use Rattle.pb_words.specs.Command.{Asks, AsksMake, AsksRun, IsCommandInRange, IsCommandOf, IsFormOf, greatest_number, number_or}
use Rattle.pb_words.specs.Line.{IsGivenByClap, flag_in, said_in}
use Rattle.pb_words.proofs.StepLemmas.{one_of}
use Rattle.pb_words.proofs.EndLemmas.{parts_of_taken, taken_of_parts}
use Rattle.pb_words.specs.declared.command.Command.{Command}
use Rattle.pb_words.specs.declared.command.Command.TheVariants.{Run, Check, Make}

abbrev some_in : {X : Type 0} → Option X → Bool
some_in None = false
some_in (Some x) = true

some≢none : {X : Type 0} (x : X) → Some x ≡ None → ⊥
some≢none x e = true≢false (ap some_in e)

same_some : {X : Type 0} (x y : X) → Some x ≡ Some y → x ≡ y
same_some x y e = ap (λ o. unwrap_or o x) e

-- a number in a range that begins at a natural number is a natural number too
pub natural_within : (least most : ℕ) (o : Option ℤ) (z : ℤ) → within (pos least) (pos most) o ≡ Some z → (n : ℕ) × (z ≡ pos n) × (n ≤ most)
natural_within least most None z e = absurd (some≢none z (sym e))
natural_within least most (Some (negsuc n)) z e = absurd (some≢none z (sym e))
natural_within least most (Some (pos n)) z e = go (int_le (pos least) (pos n)) (int_le (pos n) (pos most)) refl e
  where
    go : (a b : Bool) → int_le (pos n) (pos most) ≡ b → cond (a && b) (Some (pos n)) None ≡ Some z → (m : ℕ) × (z ≡ pos m) × (m ≤ most)
    go true true le is = (n, sym (same_some _ _ is), leb-true n most le)
    go true false le is = absurd (some≢none z (sym is))
    go false b le is = absurd (some≢none z (sym is))

-- a number that was read lies in its range
natural_range : (least most : ℕ) (o : Option ℤ) (n : ℕ) → option_map unsigned_abs (within (pos least) (pos most) o) ≡ Some n → (least ≤ n) × (n ≤ most)
natural_range least most None n e = absurd (some≢none n (sym e))
natural_range least most (Some (negsuc m)) n e = absurd (some≢none n (sym e))
natural_range least most (Some (pos m)) n e = go (int_le (pos least) (pos m)) refl (int_le (pos m) (pos most)) refl e
  where
    go : (a : Bool) → int_le (pos least) (pos m) ≡ a → (b : Bool) → int_le (pos m) (pos most) ≡ b → option_map unsigned_abs (cond (a && b) (Some (pos m)) None) ≡ Some n → (least ≤ n) × (n ≤ most)
    go true lo true hi is = rw (sym (same_some m n is)) (leb-true least m lo, leb-true m most hi)
    go true lo false hi is = absurd (some≢none n (sym is))
    go false lo b hi is = absurd (some≢none n (sym is))

or_true : (b : Bool) → (b || true) ≡ true
or_true true = refl
or_true false = refl

pub between_of : (least most : ℕ) (o r : Option ℤ) → r ≡ within (pos least) (pos most) o → IfSome r (λ z. (pos 0 ≤ℤ z) × (z ≤ℤ pos most))
between_of least most o None e = tt
between_of least most o (Some z) e =
    let n = natural_within least most o z (sym e) in
    rw n.1 (omega (arith, ints), omega (arith, ints))

run_or_make : codes "run" ≡ codes "make" → ⊥
run_or_make e = true≢false (ap (λ (t : List ℕ). bytes_eq t (codes "run")) e)

run_or_check : codes "run" ≡ codes "check" → ⊥
run_or_check e = true≢false (ap (λ (t : List ℕ). bytes_eq t (codes "run")) e)

check_or_make : codes "check" ≡ codes "make" → ⊥
check_or_make e = true≢false (ap (λ (t : List ℕ). bytes_eq t (codes "check")) e)

abbrev Said : Type 0
Said = List ℕ → Option (List ℕ)

-- if nothing asks for a command of a mode, nothing of that mode asks for any command
pub no_run : (said : Said) → said (codes "mode") ≡ Some (codes "run") → ((options : Options) (form : Form) → AsksRun said options form → ⊥)
    → (command : Command) → Asks said command → ⊥
no_run said named none (Run options form) asks = none options form asks
no_run said named none Check asks = run_or_check (same_some _ _ (sym named ∙ asks.0))
no_run said named none (Make number streams summary gap sweeps) asks = run_or_make (same_some _ _ (sym named ∙ asks.mode))

pub no_check : (said : Said) → said (codes "mode") ≡ Some (codes "check") → (Asks said Check → ⊥) → (command : Command) → Asks said command → ⊥
no_check said named none (Run options form) asks = run_or_check (same_some _ _ (sym asks.mode ∙ named))
no_check said named none Check asks = none asks
no_check said named none (Make number streams summary gap sweeps) asks = check_or_make (same_some _ _ (sym named ∙ asks.mode))

pub no_make : (said : Said) → said (codes "mode") ≡ Some (codes "make")
    → ((number streams : ℕ) (summary : Bool) (gap sweeps : ℕ) → AsksMake said number streams summary gap sweeps → ⊥)
    → (command : Command) → Asks said command → ⊥
no_make said named none (Run options form) asks = run_or_make (same_some _ _ (sym asks.mode ∙ named))
no_make said named none Check asks = check_or_make (same_some _ _ (sym asks.0 ∙ named))
no_make said named none (Make number streams summary gap sweeps) asks = none number streams summary gap sweeps asks

-- ---- at most one command

forms_apart : codes "csv" ≡ codes "json" → ⊥
forms_apart e = true≢false (ap (λ (t : List ℕ). bytes_eq t (codes "csv")) e)

one_form : (text : Option (List ℕ)) (a b : Form) → IsFormOf text a → IsFormOf text b → a ≡ b
one_form None a b x y = x ∙ sym y
one_form (Some text) a b (inl x) (inl y) = x.1 ∙ sym y.1
one_form (Some text) a b (inl x) (inr y) = absurd (forms_apart (sym x.0 ∙ y.0))
one_form (Some text) a b (inr x) (inl y) = absurd (forms_apart (sym y.0 ∙ x.0))
one_form (Some text) a b (inr x) (inr y) = x.1 ∙ sym y.1

one_run : (said : Said) (a b : Options) (f g : Form) → AsksRun said a f → AsksRun said b g → Run a f ≡ Run b g
one_run said a b f g x y =
    let gaps = same_some a.gap b.gap (sym x.gap ∙ y.gap) in
    let sweeps = same_some a.sweeps b.sweeps (sym x.sweeps ∙ y.sweeps) in
    let rounds = same_some a.eliminate b.eliminate (sym x.eliminate ∙ y.eliminate) in
    let tests = x.tests ∙ sym y.tests in
    let options : a ≡ b = λ i. record { gap = gaps i; sweeps = sweeps i; tests = tests i; eliminate = rounds i } in
    ap₂ (λ (o : Options) (form : Form). Run o form) options (one_form (said (codes "format")) f g x.form y.form)

one_make : (said : Said) (n m s t : ℕ) (p q : Bool) (g h k l : ℕ) → AsksMake said n s p g k → AsksMake said m t q h l → Make n s p g k ≡ Make m t q h l
one_make said n m s t p q g h k l x y =
    let numbers = same_some n m (sym x.number ∙ y.number) in
    let streams = same_some s t (sym x.streams ∙ y.streams) in
    let summaries = x.summary ∙ sym y.summary in
    let gaps = same_some g h (sym x.gap ∙ y.gap) in
    let sweeps = same_some k l (sym x.sweeps ∙ y.sweeps) in
    λ i. Make (numbers i) (streams i) (summaries i) (gaps i) (sweeps i)

pub one_asked : (said : Said) (a b : Command) → Asks said a → Asks said b → a ≡ b
one_asked said (Run o f) (Run p g) x y = one_run said o p f g x y
one_asked said (Run o f) Check x y = absurd (run_or_check (same_some _ _ (sym x.mode ∙ y.0)))
one_asked said (Run o f) (Make n s t g k) x y = absurd (run_or_make (same_some _ _ (sym x.mode ∙ y.mode)))
one_asked said Check (Run o f) x y = absurd (run_or_check (same_some _ _ (sym y.mode ∙ x.0)))
one_asked said Check Check x y = refl
one_asked said Check (Make n s t g k) x y = absurd (check_or_make (same_some _ _ (sym x.0 ∙ y.mode)))
one_asked said (Make n s t g k) (Run o f) x y = absurd (run_or_make (same_some _ _ (sym y.mode ∙ x.mode)))
one_asked said (Make n s t g k) Check x y = absurd (check_or_make (same_some _ _ (sym y.0 ∙ x.mode)))
one_asked said (Make n s p g k) (Make m t q h l) x y = one_make said n m s t p q g h k l x y

-- ---- what two lines say

-- the same is said in both, but for the texts of flags
record SameSaid (a b : Said) : Type 0 where
  mode : a (codes "mode") ≡ b (codes "mode")
  gap : a (codes "gap") ≡ b (codes "gap")
  sweeps : a (codes "sweeps") ≡ b (codes "sweeps")
  eliminate : a (codes "eliminate") ≡ b (codes "eliminate")
  format : a (codes "format") ≡ b (codes "format")
  number : a (codes "number") ≡ b (codes "number")
  streams : a (codes "streams") ≡ b (codes "streams")
  tests : is_some (a (codes "tests")) ≡ is_some (b (codes "tests"))
  summary : is_some (a (codes "summary")) ≡ is_some (b (codes "summary"))

said_back : (a b : Said) → SameSaid a b → SameSaid b a
said_back a b e = record {
  mode = sym e.mode;
  gap = sym e.gap;
  sweeps = sym e.sweeps;
  eliminate = sym e.eliminate;
  format = sym e.format;
  number = sym e.number;
  streams = sym e.streams;
  tests = sym e.tests;
  summary = sym e.summary;
}

either : (a b c d : Bool) → a ≡ b → c ≡ d → (a || c) ≡ (b || d)
either a b c d e f = ap₂ (λ p q. p || q) e f

there : (a b : Option (List ℕ)) → a ≡ b → is_some a ≡ is_some b
there a b e = ap is_some e

-- so both ask for the same
same_asked : (a b : Said) → SameSaid a b → (command : Command) → Asks a command → Asks b command
same_asked a b e (Run options form) x = record {
  mode = sym e.mode ∙ x.mode;
  gap = ap (number_or 1 most_gap default_gap) (sym e.gap) ∙ x.gap;
  sweeps = ap (number_or 0 most_sweeps default_sweeps) (sym e.sweeps) ∙ x.sweeps;
  eliminate = ap (number_or 1 most_rounds 0) (sym e.eliminate) ∙ x.eliminate;
  tests = x.tests ∙ either _ _ _ _ e.tests (there _ _ e.eliminate);
  form = subst (λ (text : Option (List ℕ)). IsFormOf text form) e.format x.form;
  others = either _ _ _ _ (there _ _ (sym e.number)) (either _ _ _ _ (there _ _ (sym e.streams)) (either _ _ _ _ (sym e.summary) refl)) ∙ x.others;
}
same_asked a b e Check x = (
  sym e.mode ∙ x.0,
  either _ _ _ _ (there _ _ (sym e.gap)) (either _ _ _ _ (there _ _ (sym e.sweeps)) (either _ _ _ _ (there _ _ (sym e.eliminate))
      (either _ _ _ _ (there _ _ (sym e.format)) (either _ _ _ _ (there _ _ (sym e.number)) (either _ _ _ _ (there _ _ (sym e.streams))
      (either _ _ _ _ (sym e.tests) (either _ _ _ _ (sym e.summary) refl))))))) ∙ x.1,
)
same_asked a b e (Make number streams summary gap sweeps) x = record {
  mode = sym e.mode ∙ x.mode;
  number = ap (number_or 0 greatest_number default_number) (sym e.number) ∙ x.number;
  streams = ap (number_or least_streams most_made_streams default_streams) (sym e.streams) ∙ x.streams;
  summary = x.summary ∙ e.summary;
  gap = ap (number_or 1 most_gap default_gap) (sym e.gap) ∙ x.gap;
  sweeps = ap (number_or 0 most_sweeps default_sweeps) (sym e.sweeps) ∙ x.sweeps;
  others = either _ _ _ _ (there _ _ (sym e.eliminate)) (either _ _ _ _ (there _ _ (sym e.format)) (either _ _ _ _ (sym e.tests) refl)) ∙ x.others;
}

-- a flag is in the line iff `clap` returns `true` for it
pub flag_there : (text : Option (List ℕ)) → is_some (flag_in text) ≡ is_true text
flag_there None = refl
flag_there (Some text) = go (bytes_eq text (codes "true"))
  where
    go : (b : Bool) → is_some (cond b (Some text) None) ≡ b
    go true = refl
    go false = refl

no_flag : (name : List ℕ) → IsTrue (is_one_of name option_names) → is_one_of name flag_names ≡ false
no_flag name among = one_of (λ n. is_one_of n flag_names ≡ false) option_names name (refl, (refl, (refl, (refl, (refl, (refl, tt)))))) among

-- what a known part says about a flag is that it is there
flag_part : (part : Part) → IsKnownPart part → IsTrue (is_one_of (name_of part) flag_names) → is_true (Some (text_of part)) ≡ true
flag_part (mode word) known among = absurd (true≢false (sym among))
flag_part (flag name) known among = refl
flag_part (apart name value) known among = absurd (true≢false (sym among ∙ no_flag name known.0))
flag_part (joined name value) known among = absurd (true≢false (sym among ∙ no_flag name known))

flag_said : (name : List ℕ) → IsTrue (is_one_of name flag_names) → (parts : List Part) → All IsKnownPart parts → is_true (said_by parts name) ≡ is_some (said_by parts name)
flag_said name among [] known = refl
flag_said name among (p ∷ rest) known = go (bytes_eq (name_of p) name) refl (flag_said name among rest (λ k d lt. known (suc k) d (omega arith)))
  where
    go : (b : Bool) → bytes_eq (name_of p) name ≡ b → is_true (said_by rest name) ≡ is_some (said_by rest name)
        → is_true (option_map text_of (cond b (Some p) (find (λ part. bytes_eq (name_of part) name) rest)))
        ≡ is_some (option_map text_of (cond b (Some p) (find (λ part. bytes_eq (name_of part) name) rest)))
    go true same later =
        flag_part p (known 0 p (omega arith)) (subst (λ (n : List ℕ). IsTrue (is_one_of n flag_names)) (sym ((bytes_eq-Decides (name_of p) name).0 same)) among)
    go false other later = later

-- what `clap` returns is what the parts say
said_same : (said : Said) (parts : List Part) → All IsKnownPart parts → given_of said ≡ given_by parts → SameSaid (said_in said) (said_by parts)
said_same said parts known e = record {
  mode = ap (λ (g : Given). g.mode) e;
  gap = ap (λ (g : Given). g.gap) e;
  sweeps = ap (λ (g : Given). g.sweeps) e;
  eliminate = ap (λ (g : Given). g.eliminate) e;
  format = ap (λ (g : Given). g.format) e;
  number = ap (λ (g : Given). g.number) e;
  streams = ap (λ (g : Given). g.streams) e;
  tests = flag_there (said (codes "tests")) ∙ (ap (λ (g : Given). g.tests) e ∙ flag_said (codes "tests") refl parts known);
  summary = flag_there (said (codes "summary")) ∙ (ap (λ (g : Given). g.summary) e ∙ flag_said (codes "summary") refl parts known);
}

-- ---- commands and clap

-- words that clap accepts give the command that is asked for
pub command_here : (words : List (List ℕ)) (said : Said) (command : Command) → IsGivenByClap words (given_of said) → Asks (said_in said) command → IsCommandOf words command
command_here words said command taken asks =
    let p = parts_of_taken words (given_of said) taken in
    record { parts = p.0; are = p.1.0; known = p.1.1; once = p.1.2; asks = same_asked (said_in said) (said_by p.0) (said_same said p.0 p.1.1 p.2) command asks }

-- and no other
pub asked_here : (words : List (List ℕ)) (said : Said) (command : Command) → IsGivenByClap words (given_of said) → IsCommandOf words command → Asks (said_in said) command
asked_here words said command taken of =
    let e : given_of said ≡ given_by of.parts = taken.is ∙ sym (taken_of_parts of.parts words (of.are, of.known, of.once)).is in
    same_asked (said_by of.parts) (said_in said) (said_back (said_in said) (said_by of.parts) (said_same said of.parts of.known e)) command of.asks

-- two lines of parts that give the same ask for the same
pub asked_by_both : (xs ys : List Part) → All IsKnownPart xs → All IsKnownPart ys → given_by xs ≡ given_by ys → (command : Command) → Asks (said_by xs) command → Asks (said_by ys) command
asked_by_both xs ys known_xs known_ys e command asks =
    let through = said_in (said_by xs) in
    same_asked through (said_by ys) (said_same (said_by xs) ys known_ys e) command
    (same_asked (said_by xs) through (said_back through (said_by xs) (said_same (said_by xs) xs known_xs refl)) command asks)

-- ---- commands are within their limits

-- a number that was given, or the usual one, lies in its range
number_range : (least most usual : ℕ) (text : Option (List ℕ)) (n : ℕ) → least ≤ usual → usual ≤ most → number_or least most usual text ≡ Some n → (least ≤ n) × (n ≤ most)
number_range least most usual None n lo hi e = rw (sym (same_some usual n e)) (lo, hi)
number_range least most usual (Some text) n lo hi e = natural_range least most (number text) n e

-- as many rounds as were given, and tests with them
rounds_range : (text : Option (List ℕ)) (n : ℕ) (asked tests : Bool) → number_or 1 most_rounds 0 text ≡ Some n → tests ≡ (asked || is_some text)
    → (n ≤ most_rounds) × (n ≢ 0 → tests ≡ true)
rounds_range None n asked tests e t =
    let none : 0 ≡ n = same_some 0 n e in
    (rw (sym none) (omega arith), λ some. absurd (some (sym none)))
rounds_range (Some text) n asked tests e t = ((natural_range 1 most_rounds (number text) n e).1, λ some. t ∙ or_true asked)

run_range : (said : Said) (options : Options) (form : Form) → AsksRun said options form → AreOptions options
run_range said options form a =
    let gap = number_range 1 most_gap default_gap (said (codes "gap")) options.gap (omega arith) (omega arith) a.gap in
    let sweeps = number_range 0 most_sweeps default_sweeps (said (codes "sweeps")) options.sweeps (omega arith) (omega arith) a.sweeps in
    let rounds = rounds_range (said (codes "eliminate")) options.eliminate (is_some (said (codes "tests"))) options.tests a.eliminate a.tests in
    record { some_gap = gap.0; greatest_gap = gap.1; greatest_sweeps = sweeps.1; greatest_rounds = rounds.0; rounds_by_tests = rounds.1 }

pub in_range : (said : Said) (command : Command) → Asks said command → IsCommandInRange command
in_range said (Run options form) a = run_range said options form a
in_range said Check a = tt
in_range said (Make from count summed gap sweeps) a = record {
  number = (number_range 0 greatest_number default_number (said (codes "number")) from (omega arith) (omega arith) a.number).1;
  least = (number_range least_streams most_made_streams default_streams (said (codes "streams")) count (omega arith) (omega arith) a.streams).0;
  most = (number_range least_streams most_made_streams default_streams (said (codes "streams")) count (omega arith) (omega arith) a.streams).1;
  some_gap = (number_range 1 most_gap default_gap (said (codes "gap")) gap (omega arith) (omega arith) a.gap).0;
  greatest_gap = (number_range 1 most_gap default_gap (said (codes "gap")) gap (omega arith) (omega arith) a.gap).1;
  greatest_sweeps = (number_range 0 most_sweeps default_sweeps (said (codes "sweeps")) sweeps (omega arith) (omega arith) a.sweeps).1;
}
