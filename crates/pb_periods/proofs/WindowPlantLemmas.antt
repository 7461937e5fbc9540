-- The plant and the periods of a window.
use Rattle.std.specs.Prelude.{filter_map, find, if◌then◌else◌, int_lt, map, nat_lt, slice_get, All, IfSome}
use Rattle.std.specs.List.{cons_option}
use Rattle.std.proofs.Common.{◌≡◌, ◌∙◌, ◌+◌, ◌-◌, ◌<◌, ◌≤◌, ℕ, suc, ℤ, pos, Bool, true, false, List, [], ◌∷◌, ◌++◌, append_assoc, drop, length, get_or, Option, Some, None, Result, Ok, Err, refl, sym, ap, arith, inl, inr}
use Rattle.std.proofs.lemmas.Bool.{cases_Bool, ltb-false, ltb-true}
use Rattle.std.proofs.lemmas.List.{at_drop_more, length-map}
use Rattle.std.proofs.lemmas.List.Elements.{All-cons, All-head, All-map, All-nil, All-tail}
use Rattle.std.proofs.lemmas.Option.{get_or_from_slice_get, slice_get-get_or, slice_get_within}
use Rattle.pb_limits.specs.Limits.{most_periods_of_window}
use Rattle.pb_plan.specs.declared.plant.PlantArc.{PlantArc}
use Rattle.pb_plan.specs.declared.plant.Plant.{Plant}
use Rattle.pb_plan.specs.declared.plant.Span.{Span}
use Rattle.pb_plan.specs.declared.window.Window.{Window}
use Rattle.pb_plan.specs.declared.window.WindowFault.{WindowFault}
use Rattle.pb_plan.specs.declared.window.WindowFault.TheVariants.{TooGreat}
use Rattle.pb_plan.specs.Plant.{IsPlant, IsPlantArc}
use Rattle.pb_plan.specs.Window.{is_too_great, unless_too_great}
use Rattle.pb_site.specs.declared.declared.Arc.{Arc}
use Rattle.pb_site.specs.declared.declared.Declared.{Declared}
use Rattle.pb_site.specs.declared.declared.Declared.TheVariants.{Version2, Boundary, Tank, Strap, Stream, CritGlobal, CritNodal, CritMeasure}
use Rattle.pb_site.specs.declared.declared.Kind.{Kind}
use Rattle.pb_site.specs.declared.declared.Kind.TheVariants.{Metered, Batch, Plain}
use Rattle.pb_site.specs.declared.declared.Version.{Version}
use Rattle.pb_site.specs.declared.declared.Version.TheVariants.{One, Two}
use Rattle.pb_site.specs.Laws.{IsDeclaredPlant}
use Rattle.pb_site.specs.Row.{arc_in, arc_kind, is_inventory}
use Rattle.pb_site.specs.Site.{arcs_of, boundary_names, node_names, version_of}
use Rattle.pb_periods.specs.declared.period.Period.{Period}
use Rattle.pb_periods.specs.Windows.{begins_on, days_between, fault_between, fault_over, has_gap, keeps_idle_nodes, periods_between, span_of_period, window_arc, window_over, window_plant}
use Rattle.pb_periods.specs.declared.windows.BetweenFault.TheVariants as fault

-- ---- the plant, as a window uses it

-- the inventory of a tank leads to the environment
abbrev LeadsOut : Arc → Type 0
LeadsOut arc = is_inventory arc.kind ≡ true → arc.to ≡ 0

no_inventory : (kind : Kind) → is_inventory (arc_kind kind) ≡ true → ⊥
no_inventory Metered is = cc is
no_inventory Batch is = cc is
no_inventory Plain is = cc is

lead_out : (boundaries nodes : List (List ℕ)) (declared : List Declared) → All LeadsOut (filter_map (arc_in boundaries nodes) declared)
lead_out boundaries nodes [] = All-nil LeadsOut
lead_out boundaries nodes (row ∷ declared) = by row (lead_out boundaries nodes declared)
  where
    by : (row : Declared) → All LeadsOut (filter_map (arc_in boundaries nodes) declared)
        → All LeadsOut (cons_option (arc_in boundaries nodes row) (filter_map (arc_in boundaries nodes) declared))
    by (Tank name base service) rest = All-cons LeadsOut _ _ (λ is. refl) rest
    by (Stream name from to kind base service) rest = All-cons LeadsOut _ _ (λ is. absurd (no_inventory kind is)) rest
    by Version2 rest = rest
    by (Declared.Unit name) rest = rest
    by (Boundary name) rest = rest
    by (Strap tank mm ml) rest = rest
    by (CritGlobal dof value) rest = rest
    by (CritNodal value) rest = rest
    by (CritMeasure value) rest = rest

pub plant_is : (declared : List Declared) → IsDeclaredPlant declared → IsPlant (window_plant declared)
unfolding window_plant
plant_is declared right = record {
  few_nodes = omega (arith, right.few_nodes);
  few_arcs = omega (arith, right.few_arcs, length-map (arcs_of declared) (window_arc (version_of declared)));
  arcs = All-map (IsPlantArc (length (node_names declared) - 1)) (window_arc (version_of declared)) (arcs_of declared) each;
}
  where
    each : All (λ (arc : Arc). IsPlantArc (length (node_names declared) - 1) (window_arc (version_of declared) arc)) (arcs_of declared)
    each i d lt = record {
      from = omega (arith, (right.joined i d lt).begins);
      to = omega (arith, (right.joined i d lt).ends);
      apart = (right.joined i d lt).apart;
      tank = lead_out (boundary_names declared) (node_names declared) declared i d lt;
    }

-- ---- the periods at some places

-- the places of periods are places of the list
pub within_of : (periods : List Period) (places : List ℕ) (these : List Period) → map (slice_get periods) places ≡ map Some these → All (λ (place : ℕ). place < length periods) places
within_of periods [] these is = All-nil (λ (place : ℕ). place < length periods)
within_of periods (place ∷ places) [] is = cc is
within_of periods (place ∷ places) (one ∷ these) is =
    let here : slice_get periods place ≡ Some one = cc is in
    let rest : map (slice_get periods) places ≡ map Some these = cc is in
    All-cons (λ (place : ℕ). place < length periods) place places (slice_get_within periods place one here) (within_of periods places these rest)

pub periods_at : (periods : List Period) (places : List ℕ) (these : List Period) → map (slice_get periods) places ≡ map Some these → filter_map (slice_get periods) places ≡ these
periods_at periods [] [] is = refl
periods_at periods [] (one ∷ these) is = cc is
periods_at periods (place ∷ places) [] is = cc is
periods_at periods (place ∷ places) (one ∷ these) is =
    let here : slice_get periods place ≡ Some one = cc is in
    let rest : map (slice_get periods) places ≡ map Some these = cc is in
    rw here (ap (λ (found : List Period). one ∷ found) (periods_at periods places these rest))

pub as_many : (periods : List Period) (places : List ℕ) → All (λ (place : ℕ). place < length periods) places → length (filter_map (slice_get periods) places) ≡ length places
as_many periods [] all = refl
as_many periods (place ∷ places) all =
    let within = All-head (λ (place : ℕ). place < length periods) place places all in
    rw (slice_get-get_or periods place no_period within) (ap suc (as_many periods places (All-tail (λ (place : ℕ). place < length periods) place places all)))
  where
    no_period : Period
    no_period = record { name = []; first = pos 0; last = pos 0; closed = false }

-- what holds for each period holds for those between two
found_all : (P : Period → Type 0) (p : Period → Bool) (periods : List Period) → All P periods → IfSome (find p periods) P
found_all P p [] all = tt
found_all P p (period ∷ periods) all = elim (cases_Bool (p period)) [
  | inl passes ↦ rw passes (All-head P period periods all)
  | inr fails ↦ rw fails (found_all P p periods (All-tail P period periods all))
]

some_all : (P : Period → Type 0) (found : Option Period) (rest : List Period) → IfSome found P → All P rest → All P (cons_option found rest)
some_all P None rest is all = all
some_all P (Some period) rest is all = All-cons P period rest is all

begun_all : (P : Period → Type 0) (periods : List Period) (days : List ℤ) → All P periods → All P (filter_map (λ (day : ℤ). find (begins_on day) periods) days)
begun_all P periods [] all = All-nil P
begun_all P periods (day ∷ days) all =
    some_all P (find (begins_on day) periods) (filter_map (λ (day : ℤ). find (begins_on day) periods) days) (found_all P (begins_on day) periods all) (begun_all P periods days all)

pub between_all : (P : Period → Type 0) (periods : List Period) (first last : Period) → All P periods → All P (periods_between periods first last)
unfolding periods_between
between_all P periods first last all = begun_all P periods (days_between first.first last.first) all

-- ---- loops over arcs and places

-- one more item
pub mapped_next : {A B : Type 0} (f : A → B) (xs : List A) (i : ℕ) (x : A) (made new whole : List B) → slice_get xs i ≡ Some x → made ++ map f (drop i xs) ≡ whole → new ≡ made ++ f x ∷ []
    → new ++ map f (drop (i + 1) xs) ≡ whole
mapped_next {A} {B} f xs i x made new whole at so_far is =
    let here = get_or_from_slice_get xs i x x at in
    let next = at_drop_more (map f) xs i x (slice_get_within xs i x at) in
    ap (λ (l : List B). l ++ map f (drop (i + 1) xs)) is ∙ append_assoc made (f x ∷ []) (map f (drop (i + 1) xs))
    ∙ ap (λ (y : A). made ++ (f y ∷ map f (drop (i + 1) xs))) (sym here) ∙ ap (λ (l : List B). made ++ l) (sym next) ∙ so_far

-- the periods at some places, as a window uses them
abbrev pub spans_of : List Period → List ℕ → List Span
spans_of periods places = map span_of_period (filter_map (slice_get periods) places)

-- one more place
pub spans_next : (periods : List Period) (places : List ℕ) (i : ℕ) (period : Period) (made new whole : List Span) → i < length places → slice_get periods (get_or places i 0) ≡ Some period
    → made ++ spans_of periods (drop i places) ≡ whole → new ≡ made ++ span_of_period period ∷ [] → new ++ spans_of periods (drop (i + 1) places) ≡ whole
spans_next periods places i period made new whole lt at so_far is =
    let next = at_drop_more (spans_of periods) places i 0 lt in
    ap (λ (l : List Span). l ++ spans_of periods (drop (i + 1) places)) is ∙ append_assoc made (span_of_period period ∷ []) (spans_of periods (drop (i + 1) places))
    ∙ ap (λ (found : Option Period). made ++ map span_of_period (cons_option found (filter_map (slice_get periods) (drop (i + 1) places)))) (sym at)
    ∙ ap (λ (l : List Span). made ++ l) (sym next) ∙ so_far

-- ---- a window without a fault

-- it has none of the faults
pub record IsFineWindow (declared : List Declared) (periods : List Period) (first last : Period) : Type 0 where
  pub no_gap : has_gap periods first last ≡ false
  pub few : length (periods_between periods first last) ≤ most_periods_of_window
  pub fits : is_too_great (window_over declared (periods_between periods first last)) ≡ false

pub fine_window : (declared : List Declared) (periods : List Period) (first last : Period) → fault_between declared periods first last ≡ None → IsFineWindow declared periods first last
unfolding fault_between fault_over
fine_window declared periods first last none =
    by (int_lt last.first first.first) (has_gap periods first last) (nat_lt most_periods_of_window (length (periods_between periods first last)))
    (is_too_great (window_over declared (periods_between periods first last))) refl refl refl none
  where
    by : (a b c d : Bool) → has_gap periods first last ≡ b → nat_lt most_periods_of_window (length (periods_between periods first last)) ≡ c
        → is_too_great (window_over declared (periods_between periods first last)) ≡ d
        → (if a then Some fault.Order else if b then Some fault.Gap else if c then Some fault.TooLong else if d then Some fault.TooGreat else None) ≡ None → IsFineWindow declared periods first last
    by true b c d gap many great none = cc none
    by false true c d gap many great none = cc none
    by false false true d gap many great none = cc none
    by false false false true gap many great none = cc none
    by false false false false gap many great none =
        record { no_gap = gap; few = ltb-false most_periods_of_window (length (periods_between periods first last)) many; fits = great }

-- the faults one by one
pub over_range : (declared : List Declared) (these : List Period) → most_periods_of_window < length these → Some fault.TooLong ≡ fault_over declared these
unfolding fault_over
over_range declared these many = elim (cases_Bool (nat_lt most_periods_of_window (length these))) [
  | inl is ↦ rw is refl
  | inr few ↦ absurd (omega (arith, many, ltb-false most_periods_of_window (length these) few))
]

few_range : (these : List Period) → length these ≤ most_periods_of_window → nat_lt most_periods_of_window (length these) ≡ false
few_range these few = elim (cases_Bool (nat_lt most_periods_of_window (length these))) [
  | inl many ↦ absurd (omega (arith, few, ltb-true most_periods_of_window (length these) many))
  | inr is ↦ is
]

abbrev pub choice : Window → Bool → Result Window WindowFault
choice window great = if great then Err TooGreat else Ok window

pub over_fits : (declared : List Declared) (these : List Period) (window : Window) → length these ≤ most_periods_of_window → Ok window ≡ unless_too_great (window_over declared these)
    → None ≡ fault_over declared these
unfolding fault_over
over_fits declared these window few made = elim (cases_Bool (is_too_great (window_over declared these))) [
  | inl great ↦ absurd (let made_fault : Ok window ≡ choice (window_over declared these) true = made ∙ ap (choice (window_over declared these)) great in cc made_fault)
  | inr fits ↦ rw (few_range these few, fits) refl
]

pub over_great : (declared : List Declared) (these : List Period) → length these ≤ most_periods_of_window → Err TooGreat ≡ unless_too_great (window_over declared these)
    → Some fault.TooGreat ≡ fault_over declared these
unfolding fault_over
over_great declared these few made = elim (cases_Bool (is_too_great (window_over declared these))) [
  | inl great ↦ rw (few_range these few, great) refl
  | inr fits ↦ absurd (let made_fault : Err TooGreat ≡ choice (window_over declared these) false = made ∙ ap (choice (window_over declared these)) fits in cc made_fault)
]

pub between_order : (declared : List Declared) (periods : List Period) (first last : Period) → int_lt last.first first.first ≡ true → Some fault.Order ≡ fault_between declared periods first last
unfolding fault_between
between_order declared periods first last before = rw before refl

pub between_gap : (declared : List Declared) (periods : List Period) (first last : Period) → int_lt last.first first.first ≡ false → has_gap periods first last ≡ true
    → Some fault.Gap ≡ fault_between declared periods first last
unfolding fault_between
between_gap declared periods first last after gap = rw (after, gap) refl

pub between_over : (declared : List Declared) (periods : List Period) (first last : Period) → int_lt last.first first.first ≡ false → has_gap periods first last ≡ false
    → fault_over declared (periods_between periods first last) ≡ fault_between declared periods first last
unfolding fault_between
between_over declared periods first last after closed = rw (after, closed) refl

-- ---- what the plant is made of

abbrev pub plant_with : ℕ → List PlantArc → Bool → Plant
plant_with nodes arcs idle = record { nodes = nodes - 1; arcs = arcs; keeps_idle = idle }

pub plant_made : (declared : List Declared) (nodes : ℕ) (arcs : List PlantArc) (idle : Bool) → nodes ≡ length (node_names declared)
    → arcs ≡ map (window_arc (version_of declared)) (arcs_of declared) → idle ≡ keeps_idle_nodes (version_of declared) → plant_with nodes arcs idle ≡ window_plant declared
unfolding window_plant
plant_made declared nodes arcs idle nodes_are arcs_are idle_is = rw (nodes_are, arcs_are, idle_is) refl

pub idle_one : (version : Version) → version ≡ One → true ≡ keeps_idle_nodes version
idle_one One is = refl
idle_one Two is = cc is

pub idle_two : (version : Version) → (version ≡ One → ⊥) → false ≡ keeps_idle_nodes version
idle_two One other = absurd (other refl)
idle_two Two other = refl
