-- The costs that an `advise` row names.
use Rattle.std.specs.Prelude.{◌||◌, All, IfSome, unwrap_or, if◌then◌else◌}
use Rattle.std.specs.List.{fold, list_any}
use Rattle.std.proofs.Common.{◌≡◌, ◌∙◌, ◌+◌, ◌≤◌, ℕ, ℤ, pos, zero, suc, Bool, true, false, List, [], ◌∷◌, ◌++◌, map, drop, length, slice_get, add-one, append_assoc, append-nil, Option, Some, None, Result, Ok, Err, refl, sym, ap, subst, arith}
use Rattle.std.proofs.lemmas.Int.{ints}
use Rattle.std.proofs.lemmas.List.{drop_all}
use Rattle.std.proofs.lemmas.List.Folds.{list_any-append}
use Rattle.std.proofs.lemmas.List.Elements.{All-cons, All-head, All-nil, All-tail}
use Rattle.pb_rows.specs.Name.{same_name}
use Rattle.pb_form.specs.declared.fault.FormFault.{FormFault}
use Rattle.pb_site.specs.declared.declared.Arc.{Arc}
use Rattle.pb_site.specs.declared.declared.ArcKind.{ArcKind}
use Rattle.pb_site.specs.declared.declared.ArcKind.TheVariants.{Metered, Batch, Plain, Tank}
use Rattle.pb_site.specs.Site.{arcs_of}
use Rattle.pb_kinds.specs.declared.costs.NamedCost.{NamedCost}
use Rattle.pb_kinds.specs.declared.rows.Request.{Request}
use Rattle.pb_kinds.specs.declared.rows.Request.TheVariants as asked
use Rattle.pb_kinds.specs.Costs.{IsMeterCost, named_costs}
use Rattle.pb_kinds.specs.Laws.{NamedCostsLaw}
use Rattle.pb_kinds.specs.Requests.{request_in}
use Rattle.pb_book.specs.declared.answer.Accepted.TheVariants.{Advise}
use Rattle.pb_kinds.specs.declared.rows.StoredRow.{StoredRow}
use Rattle.pb_book.specs.Answer.{Says, answer_if}
use Rattle.pb_book.specs.Costs.{cost_named, cost_of_arc, is_cost_of, names_twice}
use Rattle.pb_book.specs.Laws.{MeterCostsLaw}
use Rattle.pb_book.specs.Rows.{declared_of, version_at}
use Rattle.pb_book.proofs.AnswerLemmas.{AnswersTo, answers_to}
use Rattle.pb_site.specs.Row.{is_plain_kind}

-- ---- a record that is accepted as one that asks for advice asks for it

pub asks_advice : (rows : List StoredRow) (costs : List NamedCost) (request : Result Request FormFault) → answer_if rows costs request ≡ Says Advise
    → request ≡ (let asks : Result Request FormFault = Ok asked.Advise in asks)
asks_advice rows costs (Err fault) is = cc is
asks_advice rows costs (Ok request) is =
    ap (λ (r : Request). let asks : Result Request FormFault = Ok r in asks) (subst (AnswersTo rows request) is (answers_to rows costs request))

-- ---- what meters cost

-- what a meter on a stream costs, with one more cost named
abbrev pub cost_after : List ℕ → ℤ → NamedCost → ℤ
cost_after stream cost named = if is_cost_of stream named then named.cost else cost

abbrev IsCostInRange : NamedCost → Type 0
IsCostInRange named = IsMeterCost named.cost

cost_in_range : (costs : List NamedCost) (stream : List ℕ) (cost : ℤ) → All IsCostInRange costs → IsMeterCost cost → IsMeterCost (fold (cost_after stream) cost costs)
cost_in_range [] stream cost all is = is
cost_in_range (named ∷ costs) stream cost all is =
    cost_in_range costs stream (cost_after stream cost named) (All-tail IsCostInRange named costs all) (by (is_cost_of stream named))
  where
    by : (b : Bool) → IsMeterCost (if b then named.cost else cost)
    by true = All-head IsCostInRange named costs all
    by false = is

one_in_range : IsMeterCost (pos 1)
one_in_range = (omega (arith, ints), omega (arith, ints))

none_in_range : IsMeterCost (pos 0)
none_in_range = (omega (arith, ints), omega (arith, ints))

pub kind_in_range : (kind : ArcKind) (cost : ℤ) → IsMeterCost cost → IsMeterCost (if is_plain_kind kind then cost else pos 0)
kind_in_range Plain cost is = is
kind_in_range Metered cost is = none_in_range
kind_in_range Batch cost is = none_in_range
kind_in_range Tank cost is = none_in_range

all_costs_in_range : (costs : List NamedCost) (arcs : List Arc) → All IsCostInRange costs → All IsMeterCost (map (cost_of_arc costs) arcs)
all_costs_in_range costs [] all = All-nil IsMeterCost
all_costs_in_range costs (arc ∷ arcs) all =
    All-cons IsMeterCost (cost_of_arc costs arc) (map (cost_of_arc costs) arcs) (kind_in_range arc.kind _ (cost_in_range costs arc.name (pos 1) all one_in_range)) (all_costs_in_range costs arcs all)

pub meters_in_range : NamedCostsLaw → MeterCostsLaw
meters_in_range law rows fields is = all_costs_in_range (named_costs fields) (arcs_of (declared_of rows)) (law (version_at rows) fields (asks_advice rows (named_costs fields) (request_in (version_at rows) fields) is))

-- ---- the costs one by one

-- the item at a place and those after it
drop_next : {X : Type 0} (xs : List X) (i : ℕ) (x : X) → slice_get xs i ≡ Some x → drop i xs ≡ x ∷ drop (suc i) xs
drop_next [] i x at = cc at
drop_next (y ∷ xs) zero x at = cc
drop_next (y ∷ xs) (suc i) x at = drop_next xs i x at

drop_here : {X : Type 0} (xs : List X) (i : ℕ) (x : X) → slice_get xs i ≡ Some x → drop i xs ≡ x ∷ drop (i + 1) xs
drop_here xs i x at = drop_next xs i x at ∙ ap (λ (n : ℕ). x ∷ drop n xs) (sym (add-one i))

-- a test of one more
pub one_tested : (p : NamedCost → Bool) (costs : List NamedCost) (i : ℕ) (one : NamedCost) → slice_get costs i ≡ Some one
    → list_any p (drop i costs) ≡ (p one || list_any p (drop (i + 1) costs))
one_tested p costs i one at = ap (list_any p) (drop_here costs i one at)

-- it passes, so some cost does
pub one_passes : (p : NamedCost → Bool) (costs : List NamedCost) (i : ℕ) (one : NamedCost) → slice_get costs i ≡ Some one → list_any p (drop i costs) ≡ list_any p costs → p one ≡ true
    → true ≡ list_any p costs
one_passes p costs i one at so_far passes =
    let some : (p one || list_any p (drop (i + 1) costs)) ≡ true = rw passes refl in
    sym some ∙ sym (one_tested p costs i one at) ∙ so_far

-- it doesn't, so those after it remain
pub one_fails : (p : NamedCost → Bool) (costs : List NamedCost) (i : ℕ) (one : NamedCost) → slice_get costs i ≡ Some one → list_any p (drop i costs) ≡ list_any p costs → p one ≡ false
    → list_any p (drop (i + 1) costs) ≡ list_any p costs
one_fails p costs i one at so_far fails =
    let same : (p one || list_any p (drop (i + 1) costs)) ≡ list_any p (drop (i + 1) costs) = rw fails refl in
    sym same ∙ sym (one_tested p costs i one at) ∙ so_far

-- no cost remains
pub none_passes : (p : NamedCost → Bool) (costs : List NamedCost) (i : ℕ) → length costs ≤ i → list_any p (drop i costs) ≡ list_any p costs → false ≡ list_any p costs
none_passes p costs i ended so_far =
    let none : drop i costs ≡ [] = drop_all i costs ended in
    sym (ap (list_any p) none) ∙ so_far

-- ---- streams that are named twice

-- a stream that is named is among some names
abbrev pub is_seen : List (List ℕ) → NamedCost → Bool
is_seen names named = list_any (same_name named.stream) names

-- some of the costs are of streams with these names, or of the same stream
abbrev pub repeats : List (List ℕ) → List NamedCost → Bool
repeats names costs = list_any (is_seen names) costs || names_twice costs

pub none_seen : (costs : List NamedCost) → repeats [] costs ≡ names_twice costs
none_seen costs = ap (λ (b : Bool). b || names_twice costs) (by costs)
  where
    by : (costs : List NamedCost) → list_any (is_seen []) costs ≡ false
    by [] = refl
    by (named ∷ costs) = by costs

-- the names seen so far, with one more
seen_more : (names : List (List ℕ)) (name : List ℕ) (costs : List NamedCost)
    → list_any (is_seen (names ++ name ∷ [])) costs ≡ (list_any (is_seen names) costs || list_any (is_cost_of name) costs)
seen_more names name [] = refl
seen_more names name (named ∷ costs) =
    let one : is_seen (names ++ name ∷ []) named ≡ (is_seen names named || is_cost_of name named) =
    list_any-append (same_name named.stream) names (name ∷ []) ∙ ap (λ (b : Bool). is_seen names named || b) (alone (is_cost_of name named)) in
    rw (one, seen_more names name costs) (turned (is_seen names named) (is_cost_of name named) (list_any (is_seen names) costs) (list_any (is_cost_of name) costs))
  where
    alone : (b : Bool) → (b || false) ≡ b
    alone true = refl
    alone false = refl

    turned : (a b c d : Bool) → ((a || b) || (c || d)) ≡ ((a || c) || (b || d))
    turned true b c d = refl
    turned false true true d = refl
    turned false true false d = refl
    turned false false c d = refl

-- the next cost is of a stream that was named
pub one_repeats : (names : List (List ℕ)) (costs : List NamedCost) (i : ℕ) (one : NamedCost) → slice_get costs i ≡ Some one → repeats names (drop i costs) ≡ names_twice costs
    → is_seen names one ≡ true → true ≡ names_twice costs
one_repeats names costs i one at so_far seen =
    let here : repeats names (one ∷ drop (i + 1) costs) ≡ true = rw seen refl in
    sym here ∙ sym (ap (repeats names) (drop_here costs i one at)) ∙ so_far

-- it isn't
pub one_is_new : (names : List (List ℕ)) (costs : List NamedCost) (i : ℕ) (one : NamedCost) → slice_get costs i ≡ Some one → repeats names (drop i costs) ≡ names_twice costs
    → is_seen names one ≡ false → repeats (names ++ one.stream ∷ []) (drop (i + 1) costs) ≡ names_twice costs
one_is_new names costs i one at so_far new =
    let rest = drop (i + 1) costs in
    let here : repeats names (one ∷ rest) ≡ repeats (names ++ one.stream ∷ []) rest =
    rw (new, seen_more names one.stream rest) (joined (list_any (is_seen names) rest) (list_any (is_cost_of one.stream) rest) (names_twice rest)) in
    sym here ∙ sym (ap (repeats names) (drop_here costs i one at)) ∙ so_far
  where
    joined : (a b c : Bool) → (a || (b || c)) ≡ ((a || b) || c)
    joined true b c = refl
    joined false b c = refl

pub none_repeats : (names : List (List ℕ)) (costs : List NamedCost) (i : ℕ) → length costs ≤ i → repeats names (drop i costs) ≡ names_twice costs → false ≡ names_twice costs
none_repeats names costs i ended so_far = sym (ap (repeats names) (drop_all i costs ended)) ∙ so_far

-- ---- the costs by name

-- what was said about a stream, once one more cost is named
pub one_named : (costs : List NamedCost) (i : ℕ) (one : NamedCost) (stream : List ℕ) (before after : Option ℤ) → slice_get costs i ≡ Some one
    → fold (cost_after stream) (unwrap_or before (pos 1)) (drop i costs) ≡ cost_named costs stream
    → after ≡ (if is_cost_of stream one then Some one.cost else before)
    → fold (cost_after stream) (unwrap_or after (pos 1)) (drop (i + 1) costs) ≡ cost_named costs stream
one_named costs i one stream before after at so_far is =
    let here = ap (fold (cost_after stream) (unwrap_or before (pos 1))) (drop_here costs i one at) in
    ap (λ (o : Option ℤ). fold (cost_after stream) (unwrap_or o (pos 1)) (drop (i + 1) costs)) is ∙ ap (λ (z : ℤ). fold (cost_after stream) z (drop (i + 1) costs)) (by (is_cost_of stream one)) ∙ sym here ∙ so_far
  where
    by : (b : Bool) → unwrap_or (if b then Some one.cost else before) (pos 1) ≡ (if b then one.cost else unwrap_or before (pos 1))
    by true = refl
    by false = refl

pub one_within : (b : Bool) (cost : ℤ) (before : Option ℤ) → IsMeterCost cost → IfSome before IsMeterCost → IfSome (if b then Some cost else before) IsMeterCost
one_within true cost before is others = is
one_within false cost before is others = others

-- all are named
pub all_named : (costs : List NamedCost) (i : ℕ) (stream : List ℕ) (said : Option ℤ) → length costs ≤ i
    → fold (cost_after stream) (unwrap_or said (pos 1)) (drop i costs) ≡ cost_named costs stream → unwrap_or said (pos 1) ≡ cost_named costs stream
all_named costs i stream said ended so_far = sym (ap (fold (cost_after stream) (unwrap_or said (pos 1))) (drop_all i costs ended)) ∙ so_far

-- ---- the costs of the arcs

pub one_arc : (f : Arc → ℤ) (arcs : List Arc) (i : ℕ) (arc : Arc) (costs : List ℤ) (cost : ℤ) → slice_get arcs i ≡ Some arc → costs ++ map f (drop i arcs) ≡ map f arcs → cost ≡ f arc
    → (costs ++ cost ∷ []) ++ map f (drop (i + 1) arcs) ≡ map f arcs
one_arc f arcs i arc costs cost at so_far is =
    append_assoc costs (cost ∷ []) (map f (drop (i + 1) arcs)) ∙ ap (λ (z : ℤ). costs ++ z ∷ map f (drop (i + 1) arcs)) is
    ∙ sym (ap (λ (rest : List Arc). costs ++ map f rest) (drop_here arcs i arc at)) ∙ so_far

pub all_arcs : (f : Arc → ℤ) (arcs : List Arc) (i : ℕ) (costs : List ℤ) → length arcs ≤ i → costs ++ map f (drop i arcs) ≡ map f arcs → costs ≡ map f arcs
all_arcs f arcs i costs ended so_far = sym (append-nil costs) ∙ sym (ap (λ (rest : List Arc). costs ++ map f rest) (drop_all i arcs ended)) ∙ so_far

-- what was named for a stream, or 1, is a cost that a meter may have
pub said_in_range : (said : Option ℤ) → IfSome said IsMeterCost → IsMeterCost (unwrap_or said (pos 1))
said_in_range (Some cost) is = is
said_in_range None is = one_in_range
