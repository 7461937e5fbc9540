-- The meters, one stream after another.
use Rattle.std.proofs.Common.{◌≡◌, ◌∙◌, ℕ, zero, suc, ◌+◌, ◌<◌, ◌≤◌, ℤ, pos, ◌+ℤ◌, Bool, true, false, List, [], ◌∷◌, ◌++◌, length, take, get_or, ap, ap₂, sym, refl, subst, arith}
use Rattle.std.specs.List.{AllByRecursion}
use Rattle.std.proofs.lemmas.Int.{ints}
use Rattle.std.proofs.lemmas.List.{take_more}
use Rattle.pb_fixed.specs.Sums.{item}
use Rattle.pb_graph.specs.declared.records.Step.{Step}
use Rattle.pb_graph.specs.ProcessGraph.{ProcessGraph}
use Rattle.pb_advise.specs.declared.advice.Meter.{Meter}
use Rattle.pb_advise.specs.declared.advice.Advice.{Advice}
use Rattle.pb_advise.specs.Choice.{AreCosts, cost_of}
use Rattle.pb_advise.specs.Advice.{streams_of, metered_streams, IsChosenCycle, IsMeter, IsAdvice, IsAdvisedChoice}
use Rattle.pb_advise.specs.Order.{marked_from, AreMetersBefore}
use Rattle.pb_advise.proofs.CostLemmas.{cost_none}

-- ---- one more mark
marked_on : (i : ℕ) (marks : List Bool) → marked_from i (marks ++ true ∷ []) ≡ marked_from i marks ++ (i + length marks) ∷ []
marked_on i [] = ap (λ (n : ℕ). n ∷ []) (omega arith)
marked_on i (true ∷ marks) = ap (λ (l : List ℕ). i ∷ l) (marked_on (i + 1) marks ∙ ap (λ (n : ℕ). marked_from (i + 1) marks ++ n ∷ []) (omega arith))
marked_on i (false ∷ marks) = marked_on (i + 1) marks ∙ ap (λ (n : ℕ). marked_from (i + 1) marks ++ n ∷ []) (omega arith)

marked_off : (i : ℕ) (marks : List Bool) → marked_from i (marks ++ false ∷ []) ≡ marked_from i marks
marked_off i [] = refl
marked_off i (true ∷ marks) = ap (λ (l : List ℕ). i ∷ l) (marked_off (i + 1) marks)
marked_off i (false ∷ marks) = marked_off (i + 1) marks

cost_on : (costs : List ℤ) (marks : List Bool) → cost_of costs (marks ++ true ∷ []) ≡ (cost_of costs marks +ℤ item costs (length marks))
cost_on [] marks = refl
cost_on (c ∷ costs) [] = let none = cost_none costs in omega (arith, ints, none)
cost_on (c ∷ costs) (true ∷ marks) = let h = cost_on costs marks in omega (arith, ints, h)
cost_on (c ∷ costs) (false ∷ marks) = let h = cost_on costs marks in omega (arith, ints, h)

cost_off : (costs : List ℤ) (marks : List Bool) → cost_of costs (marks ++ false ∷ []) ≡ cost_of costs marks
cost_off [] marks = refl
cost_off (c ∷ costs) [] = let none = cost_none costs in omega (arith, ints, none)
cost_off (c ∷ costs) (true ∷ marks) = let h = cost_off costs marks in omega (arith, ints, h)
cost_off (c ∷ costs) (false ∷ marks) = let h = cost_off costs marks in omega (arith, ints, h)

taken_length : (n : ℕ) (xs : List Bool) → n < length xs → length (take n xs) ≡ n
taken_length zero xs lt = refl
taken_length (suc n) [] lt = absurd (omega (arith, lt))
taken_length (suc n) (x ∷ xs) lt = let h = taken_length n xs (omega (arith, lt)) in omega (arith, h)

take_all : (n : ℕ) (xs : List Bool) → length xs ≤ n → take n xs ≡ xs
take_all zero [] le = refl
take_all zero (x ∷ xs) le = absurd (omega (arith, le))
take_all (suc n) [] le = refl
take_all (suc n) (x ∷ xs) le = ap (λ (l : List Bool). x ∷ l) (take_all n xs (omega (arith, le)))

-- ---- one more stream
pub meters_stay : (g : ProcessGraph) (costs : List ℤ) (chosen : List Bool) (j : ℕ) (advice : Advice) → j < length chosen
    → get_or chosen j false ≡ false → AreMetersBefore g costs chosen j advice → AreMetersBefore g costs chosen (j + 1) advice
meters_stay g costs chosen j advice lt off are =
    let next : take (j + 1) chosen ≡ take j chosen ++ false ∷ [] = take_more chosen j false lt ∙ ap (λ (b : Bool). take j chosen ++ b ∷ []) off in
    let most = are.most in
    record {
      named = are.named ∙ sym (ap streams_of next ∙ marked_off 0 (take j chosen));
      meters = are.meters;
      total = are.total ∙ sym (ap (cost_of costs) next ∙ cost_off costs (take j chosen));
      least = are.least;
      most = omega (arith, ints, most);
    }

all_push : {A : Type 0} (P : A → Type 0) (xs : List A) (x : A) → AllByRecursion P xs → P x → AllByRecursion P (xs ++ x ∷ [])
all_push P [] x all here = (here, tt)
all_push P (y ∷ xs) x all here = (all.0, all_push P xs x all.1 here)

streams_push : (xs : List Meter) (x : Meter) → metered_streams (xs ++ x ∷ []) ≡ metered_streams xs ++ x.stream ∷ []
streams_push [] x = refl
streams_push (y ∷ xs) x = ap (λ (l : List ℕ). y.stream ∷ l) (streams_push xs x)

pub meters_more : (g : ProcessGraph) (costs : List ℤ) (chosen : List Bool) (j : ℕ) (advice : Advice) (cost : ℤ) (steps : List Step) (list : List Meter) (total : ℤ)
    → j < length chosen → length chosen ≡ length g.streams → AreCosts g costs → get_or chosen j false ≡ true → IsChosenCycle g chosen j steps
    → list ≡ advice.meter ++ record { stream = j; cost = cost; steps = steps } ∷ [] → cost ≡ item costs j → total ≡ (advice.total +ℤ item costs j)
    → AreMetersBefore g costs chosen j advice → AreMetersBefore g costs chosen (j + 1) (record { meter = list; total = total })
meters_more g costs chosen j advice cost steps list total lt size prices on cycle list_is cost_is total_is are =
    let meter : Meter = record { stream = j; cost = cost; steps = steps } in
    let is : IsMeter g costs chosen meter = record { cost = cost_is; cycle = cycle } in
    let next : take (j + 1) chosen ≡ take j chosen ++ true ∷ [] = take_more chosen j false lt ∙ ap (λ (b : Bool). take j chosen ++ b ∷ []) on in
    let short : length (take j chosen) ≡ j = taken_length j chosen lt in
    let many = prices.each in
    let here = prices.within j (pos 0) (omega (arith, lt, size, many)) in
    let low = here.0 in
    let high = here.1 in
    let least = are.least in
    let most = are.most in
    record {
      named = ap metered_streams list_is ∙ streams_push advice.meter meter ∙ ap₂ (λ (l : List ℕ) (n : ℕ). l ++ n ∷ []) are.named (sym short)
          ∙ sym (ap streams_of next ∙ marked_on 0 (take j chosen) ∙ ap (λ (n : ℕ). streams_of (take j chosen) ++ n ∷ []) (omega arith));
      meters = subst (λ (l : List Meter). AllByRecursion (IsMeter g costs chosen) l) (sym list_is) (all_push (IsMeter g costs chosen) advice.meter meter are.meters is);
      total = total_is ∙ ap₂ (λ (a b : ℤ). a +ℤ b) are.total (ap (item costs) (sym short)) ∙ sym (ap (cost_of costs) next ∙ cost_on costs (take j chosen));
      least = omega (arith, ints, least, low, total_is);
      most = omega (arith, ints, most, high, total_is);
    }

pub no_meters : (g : ProcessGraph) (costs : List ℤ) (chosen : List Bool) → AreMetersBefore g costs chosen 0 (record { meter = []; total = pos 0 })
no_meters g costs chosen = record { named = refl; meters = tt; total = sym (cost_none costs); least = omega (arith, ints); most = omega (arith, ints) }

pub all_meters : (g : ProcessGraph) (costs : List ℤ) (chosen : List Bool) (n : ℕ) (advice : Advice) → length chosen ≤ n → IsAdvisedChoice g costs chosen
    → AreMetersBefore g costs chosen n advice → IsAdvice g costs advice
all_meters g costs chosen n advice end advised are =
    let whole : take n chosen ≡ chosen = take_all n chosen end in
    record {
      chosen = chosen;
      advised = advised;
      named = are.named ∙ ap streams_of whole;
      meters = are.meters;
      total = are.total ∙ ap (cost_of costs) whole;
    }
