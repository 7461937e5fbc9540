-- The names of a window's nodes and streams are names, and no two are the same.
use Rattle.std.specs.Prelude.{IfSome, map, option_map}
use Rattle.std.specs.List.{AllByRecursion, AllPairs, enumerate_from, list_all, range_with_len}
use Rattle.std.proofs.Common.{◌≡◌, ◌≢◌, ◌∙◌, ◌⊎◌, ℕ, ◌+◌, ◌*◌, ◌<◌, ◌≤◌, ℤ, Bool, true, false, ◌&&◌, List, [], ◌∷◌, ◌++◌, length, Option, None, Some, Ok, inl, inr, refl, sym, ap, ap₂, subst, codes, arith}
use Rattle.std.specs.Prelude.{◌==◌}
use Rattle.std.proofs.lemmas.Bool.{cases_Bool, eqb-false, eqb-true}
use Rattle.std.proofs.lemmas.List.{map-append}
use Rattle.std.proofs.lemmas.List.Elements.{All-from_recursion}
use Rattle.std.proofs.lemmas.List.Folds.{list_all-append}
use Rattle.std.proofs.lemmas.List.Kept.{AllPairs-cons}
use Rattle.pb_limits.specs.Limits.{most_periods_of_window, most_streams}
use Rattle.pb_rows.specs.Name.{is_name, is_name_byte, same_name}
use Rattle.pb_plan.specs.declared.plant.Plant.{Plant}
use Rattle.pb_plan.specs.declared.plant.PlantArc.{PlantArc}
use Rattle.pb_plan.specs.declared.plant.Span.{Span}
use Rattle.pb_plan.specs.declared.window.Source.TheVariants.{Content}
use Rattle.pb_plan.specs.declared.window.Window.{Window}
use Rattle.pb_plan.specs.declared.window.WindowNode.{WindowNode}
use Rattle.pb_plan.specs.declared.window.WindowStream.{WindowStream}
use Rattle.pb_plan.specs.Plant.{IsPlant, NumberedArc, arcs_in}
use Rattle.pb_plan.specs.Window.{NumberedSpan, content_day, content_end, content_after, contents_of_arc, flow_of, flows_of_period, is_too_great, stay_of, unless_too_great, window_contents, window_flows, window_nodes, window_shape, window_streams}
use Rattle.pb_plan.specs.Codes.{AreDistinctNames, AreWindowNames, code_text, node_code, source_letter, stream_code}
use Rattle.pb_plan.specs.Laws.{WindowNamesLaw}
use Rattle.pb_plan.proofs.CodeLemmas.{coded_name, codes_apart}
use Rattle.pb_plan.proofs.ListLemmas.{all_flat, all_join, all_mapped}
use Rattle.pb_plan.proofs.RisingLemmas.{Rise, content_key, contents_rise, flow_key, flows_rise, node_key, nodes_rise, rise_within}

-- ---- lists of names

abbrev Differ : List ℕ → List ℕ → Type 0
Differ one other = same_name one other ≡ false

-- each name differs from those after it
abbrev AreApart : List (List ℕ) → Type 0
AreApart [] = Unit {0}
AreApart (name ∷ names) = AllByRecursion (Differ name) names × AreApart names

all_pairs : (names : List (List ℕ)) → AreApart names → AllPairs Differ names
all_pairs [] are = λ i j d lt within. absurd (omega (arith, lt, within))
all_pairs (name ∷ names) are = AllPairs-cons Differ name names (All-from_recursion (Differ name) names are.0) (all_pairs names are.1)

apart_join : (one other : List (List ℕ)) → AreApart one → AreApart other → AllByRecursion (λ (name : List ℕ). AllByRecursion (Differ name) other) one → AreApart (one ++ other)
apart_join [] other is also cross = also
apart_join (name ∷ one) other is also cross = (all_join (Differ name) one other is.0 cross.0, apart_join one other is.1 also cross.1)

-- ---- items with rising keys

-- items of different keys have different names
apart_rise : {A : Type 0} (code : A → List ℕ) (key : A → ℕ) (e : ℕ) → ((x y : A) → key x < key y → key y < e → Differ (code x) (code y))
    → (b : ℕ) (xs : List A) → Rise key b xs e → AreApart (map code xs)
apart_rise code key e differ b [] is = tt
apart_rise {A} code key e differ b (x ∷ xs) is = (after xs (rise_within key (key x + 1) (key x + 1) xs e (omega arith) is.1), apart_rise code key e differ (key x + 1) xs is.1)
  where
    after : (ys : List A) → AllByRecursion (λ (y : A). (key x + 1 ≤ key y) × (key y < e)) ys → AllByRecursion (Differ (code x)) (map code ys)
    after [] are = tt
    after (y ∷ ys) are = (differ x y (omega (arith, are.0.0)) are.0.1, after ys are.1)

-- each item has a name
forms_rise : {A : Type 0} (code : A → List ℕ) (key : A → ℕ) (e : ℕ) → ((x : A) → key x < e → is_name (code x) ≡ true)
    → (b : ℕ) (xs : List A) → Rise key b xs e → list_all is_name (map code xs) ≡ true
forms_rise {A} code key e forms b xs is = by xs (rise_within key b b xs e (omega arith) is)
  where
    by : (ys : List A) → AllByRecursion (λ (y : A). (b ≤ key y) × (key y < e)) ys → list_all is_name (map code ys) ≡ true
    by [] are = refl
    by (y ∷ ys) are = rw (forms y are.0.1) (by ys are.1)

-- ---- two numbers, by a key

-- two numbers by which keys differ aren't the same two
other_numbers : (t i u j : ℕ) → t * 65536 + i < u * 65536 + j → (t ≢ u) ⊎ (i ≢ j)
other_numbers t i u j lt = elim (cases_Bool (t == u)) [
  | inl same ↦
      let is = eqb-true t u same in
      inr (λ also. absurd (omega (arith, lt, is, also)))
  | inr differ ↦ inl (eqb-false t u differ)
]

differ_by : (letter t i u j e : ℕ) → e ≤ (most_streams + 1) * 65536 → t * 65536 + i < u * 65536 + j → u * 65536 + j < e → Differ (code_text letter t i) (code_text letter u j)
differ_by letter t i u j e most lt below =
    codes_apart letter t i u j (omega (arith, most, lt, below)) (omega (arith, most, lt, below)) (omega (arith, most, below)) (omega (arith, most, below)) (other_numbers t i u j lt)

-- the same with the place before the period
swapped : (t i u j : ℕ) → (t ≢ u) ⊎ (i ≢ j) → (i ≢ j) ⊎ (t ≢ u)
swapped t i u j other = elim other [ inl one ↦ inr one | inr one ↦ inl one ]

differ_by_place : (letter t i u j e : ℕ) → e ≤ (most_streams + 1) * 65536 → i * 65536 + t < j * 65536 + u → j * 65536 + u < e → Differ (code_text letter t i) (code_text letter u j)
differ_by_place letter t i u j e most lt below =
    codes_apart letter t i u j (omega (arith, most, lt, below)) (omega (arith, most, lt, below)) (omega (arith, most, below)) (omega (arith, most, below))
    (swapped i t j u (other_numbers i t j u lt))

name_by : (letter t i e : ℕ) → is_name_byte letter ≡ true → e ≤ (most_streams + 1) * 65536 → t * 65536 + i < e → is_name (code_text letter t i) ≡ true
name_by letter t i e good most below = coded_name letter t i good (omega (arith, most, below)) (omega (arith, most, below))

name_by_place : (letter t i e : ℕ) → is_name_byte letter ≡ true → e ≤ (most_streams + 1) * 65536 → i * 65536 + t < e → is_name (code_text letter t i) ≡ true
name_by_place letter t i e good most below = coded_name letter t i good (omega (arith, most, below)) (omega (arith, most, below))

-- ---- nodes

env_differs : (nodes : List WindowNode) → AllByRecursion (Differ (codes "env")) (map node_code nodes)
env_differs [] = tt
env_differs (node ∷ nodes) = (refl, env_differs nodes)

node_names : (plant : Plant) (spans : List Span) → IsPlant plant → length spans ≤ most_periods_of_window → AreDistinctNames (codes "env" ∷ map node_code (window_nodes plant spans))
node_names plant spans is few = record {
  forms = forms_rise node_code node_key end (λ node below. name_by 110 node.period node.place end refl most below) 65536 nodes rises;
  differ = all_pairs (codes "env" ∷ map node_code nodes) (
    env_differs nodes,
    apart_rise node_code node_key end (λ one other lt below. differ_by 110 one.period one.place other.period other.place end most lt below) 65536 nodes rises,
  );
}
  where
    nodes : List WindowNode
    nodes = window_nodes plant spans

    end : ℕ
    end = (1 + length spans) * 65536

    most : end ≤ (most_streams + 1) * 65536
    most = omega (arith, few)

    rises : Rise node_key 65536 nodes end
    rises = nodes_rise plant (omega (arith, is.few_nodes)) 1 spans

-- ---- streams

all_true : {A : Type 0} (xs : List A) → AllByRecursion (λ (x : A). Unit {0}) xs
all_true [] = tt
all_true (x ∷ xs) = (tt, all_true xs)

-- streams with one letter
abbrev HasLetter : ℕ → WindowStream → Type 0
HasLetter letter stream = source_letter stream.source ≡ letter

same_codes : (letter : ℕ) (streams : List WindowStream) → AllByRecursion (HasLetter letter) streams
    → map stream_code streams ≡ map (λ (s : WindowStream). code_text letter s.period s.place) streams
same_codes letter [] are = refl
same_codes letter (s ∷ streams) are =
    ap₂ (λ (l : ℕ) (rest : List (List ℕ)). code_text l s.period s.place ∷ rest) are.0 (same_codes letter streams are.1)

flow_letters : (arcs : List PlantArc) (nodes : List WindowNode) (spans : List Span) → AllByRecursion (HasLetter 115) (window_flows arcs nodes spans)
flow_letters arcs nodes spans = all_flat (λ (numbered : NumberedSpan). Unit {0}) (HasLetter 115) (flows_of_period arcs nodes) (λ numbered _. of_period numbered) (enumerate_from 1 spans) (all_true (enumerate_from 1 spans))
  where
    of_one : (period : ℕ) (placed : ℕ × NumberedArc) → IfSome (flow_of nodes period placed) (HasLetter 115)
    of_one period placed = elim (cases_Bool placed.1.1.is_tank) [ inl tank ↦ rw tank tt | inr flow ↦ rw flow refl ]

    of_period : (numbered : NumberedSpan) → AllByRecursion (HasLetter 115) (flows_of_period arcs nodes numbered)
    of_period numbered =
        let list = enumerate_from 0 (arcs_in arcs numbered.1) in
        all_mapped (λ (placed : ℕ × NumberedArc). Unit {0}) (HasLetter 115) (flow_of nodes numbered.0) (λ placed _. of_one numbered.0 placed) list (all_true list)

content_letters : (arcs : List PlantArc) (nodes : List WindowNode) (spans : List Span) → AllByRecursion (HasLetter 99) (window_contents arcs nodes spans)
content_letters arcs nodes spans =
    all_flat (λ (numbered : NumberedArc). Unit {0}) (HasLetter 99) (contents_of_arc nodes spans) (λ numbered _. of_arc numbered) (enumerate_from 0 arcs) (all_true (enumerate_from 0 arcs))
  where
    of_option : (make : ℤ → WindowStream) → ((day : ℤ) → HasLetter 99 (make day)) → (o : Option ℤ) → IfSome (option_map make o) (HasLetter 99)
    of_option make are None = tt
    of_option make are (Some day) = are day

    of_one : (numbered : NumberedArc) (period : ℕ) → IfSome (content_after nodes spans numbered period) (HasLetter 99)
    of_one numbered period =
        let arc = numbered.1 in
        let before = stay_of spans arc period in
        let after = stay_of spans arc (period + 1) in
        of_option (λ (day : ℤ). record {
          source = Content day;
          period = period;
          place = numbered.0;
          arc = numbered.0;
          from = content_end nodes period arc before;
          to = content_end nodes (period + 1) arc after;
        }) (λ day. refl) (content_day arc before after)

    of_arc : (numbered : NumberedArc) → AllByRecursion (HasLetter 99) (contents_of_arc nodes spans numbered)
    of_arc numbered = elim (cases_Bool numbered.1.is_tank) [
      | inl tank ↦
          let list = range_with_len 0 (length spans + 1) in
          rw tank (all_mapped (λ (period : ℕ). Unit {0}) (HasLetter 99) (content_after nodes spans numbered) (λ period _. of_one numbered period) list (all_true list))
      | inr flow ↦ rw flow tt
    ]

-- a flow has no content's name
letters_differ : (flows contents : List WindowStream) → AllByRecursion (HasLetter 115) flows → AllByRecursion (HasLetter 99) contents
    → AllByRecursion (λ (name : List ℕ). AllByRecursion (Differ name) (map stream_code contents)) (map stream_code flows)
letters_differ [] contents are also = tt
letters_differ (s ∷ flows) contents are also = (one contents also, letters_differ flows contents are.1 also)
  where
    one : (others : List WindowStream) → AllByRecursion (HasLetter 99) others → AllByRecursion (Differ (stream_code s)) (map stream_code others)
    one [] others = tt
    one (o ∷ rest) others = (rw (are.0, others.0) refl, one rest others.1)

stream_names : (plant : Plant) (spans : List Span) → IsPlant plant → length spans ≤ most_periods_of_window → AreDistinctNames (map stream_code (window_streams plant spans))
stream_names plant spans is few = subst AreDistinctNames (sym (map-append stream_code flows contents)) (record {
  forms = list_all-append is_name (map stream_code flows) (map stream_code contents) ∙ ap₂ (λ (a b : Bool). a && b) flow_forms content_forms;
  differ = all_pairs (map stream_code flows ++ map stream_code contents)
      (apart_join (map stream_code flows) (map stream_code contents) flows_apart contents_apart (letters_differ flows contents flow_is content_is));
})
  where
    nodes : List WindowNode
    nodes = window_nodes plant spans

    flows : List WindowStream
    flows = window_flows plant.arcs nodes spans

    contents : List WindowStream
    contents = window_contents plant.arcs nodes spans

    flow_is : AllByRecursion (HasLetter 115) flows
    flow_is = flow_letters plant.arcs nodes spans

    content_is : AllByRecursion (HasLetter 99) contents
    content_is = content_letters plant.arcs nodes spans

    flow_end : ℕ
    flow_end = (1 + length spans) * 65536

    flow_most : flow_end ≤ (most_streams + 1) * 65536
    flow_most = omega (arith, few)

    flow_rises : Rise flow_key 65536 flows flow_end
    flow_rises = flows_rise plant.arcs nodes (omega (arith, is.few_arcs)) 1 spans

    flow_forms : list_all is_name (map stream_code flows) ≡ true
    flow_forms = ap (list_all is_name) (same_codes 115 flows flow_is)
        ∙ forms_rise (λ (s : WindowStream). code_text 115 s.period s.place) flow_key flow_end (λ s below. name_by 115 s.period s.place flow_end refl flow_most below) 65536 flows flow_rises

    flows_apart : AreApart (map stream_code flows)
    flows_apart = subst AreApart (sym (same_codes 115 flows flow_is))
        (apart_rise (λ (s : WindowStream). code_text 115 s.period s.place) flow_key flow_end
        (λ one other lt below. differ_by 115 one.period one.place other.period other.place flow_end flow_most lt below) 65536 flows flow_rises)

    content_last : ℕ
    content_last = (0 + length plant.arcs) * 65536

    content_most : content_last ≤ (most_streams + 1) * 65536
    content_most = omega (arith, is.few_arcs)

    content_rises : Rise content_key 0 contents content_last
    content_rises = contents_rise nodes spans (omega (arith, few)) 0 plant.arcs

    content_forms : list_all is_name (map stream_code contents) ≡ true
    content_forms = ap (list_all is_name) (same_codes 99 contents content_is)
        ∙ forms_rise (λ (s : WindowStream). code_text 99 s.period s.place) content_key content_last (λ s below. name_by_place 99 s.period s.place content_last refl content_most below) 0 contents content_rises

    contents_apart : AreApart (map stream_code contents)
    contents_apart = subst AreApart (sym (same_codes 99 contents content_is))
        (apart_rise (λ (s : WindowStream). code_text 99 s.period s.place) content_key content_last
        (λ one other lt below. differ_by_place 99 one.period one.place other.period other.place content_last content_most lt below) 0 contents content_rises)

-- ---- the window

pub shape_in : (shape window : Window) → unless_too_great shape ≡ Ok window → shape ≡ window
shape_in shape window answer = elim (cases_Bool (is_too_great shape)) [ inl great ↦ cc (rw great at answer) | inr fits ↦ cc (rw fits at answer) ]

pub names_are : WindowNamesLaw
names_are plant spans window is few answer = subst AreWindowNames (shape_in (window_shape plant spans) window answer) (record {
  nodes = node_names plant spans is few;
  streams = stream_names plant spans is few;
})
