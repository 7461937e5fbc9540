-- The part of the plant that is in service on some days.
use Rattle.std.specs.Prelude.{◌||◌, codes, filter, filter_map, map}
use Rattle.std.specs.List.{AllByRecursion, AllPairs, list_any, range_with_len}
use Rattle.std.proofs.Common.{◌≡◌, ◌∙◌, Option, Some, None, slice_get, take, replicate, ℕ, zero, suc, ◌+◌, ◌-◌, ◌<◌, ◌≤◌, ◌==◌, ℤ, Bool, true, false, List, [], ◌∷◌, ◌++◌, length, get_or, All, refl, sym, ap, ap₂, subst, arith, length-append}
use Rattle.std.proofs.lemmas.Bool.{eq-eqb, ne_eqb}
use Rattle.std.proofs.lemmas.List.{append-nil, get_or-map, get_or-replicate, get_or_append_left, length-map, length-replicate, map-append, take_more}
use Rattle.std.proofs.lemmas.List.Elements.{All-filter, filter-append}
use Rattle.std.proofs.lemmas.List.Folds.{list_any-append, list_any_at}
use Rattle.std.proofs.lemmas.List.Kept.{AllPairs-filter}
use Rattle.std.proofs.lemmas.Option.{slice_get-get_or}
use Rattle.pb_rows.specs.Name.{same_name}
use Rattle.pb_site.specs.declared.declared.Arc.{Arc}
use Rattle.pb_site.specs.declared.declared.Declared.{Declared}
use Rattle.pb_site.specs.declared.declared.Declared.TheVariants.{Tank, Stream}
use Rattle.pb_site.specs.declared.declared.Version.TheVariants.{One, Two}
use Rattle.pb_site.specs.Row.{arc_in, node_name}
use Rattle.pb_site.specs.Site.{AreDistinct, IsArc, arcs_of, boundary_names, node_names}
use Rattle.pb_site.specs.OnDays.{arcs_on, declares_in_service, is_arc_in_service, is_end_of, name_at_node, nodes_on, places_of}
use Rattle.pb_limits.specs.Limits.{most_nodes}
use Rattle.pb_site.specs.Kept.{AreEnds, AreNodes, MarksEnds, MarksNodes, is_marked, marked_nodes}
use Rattle.pb_site.specs.Laws.{DaysLaw, JoinsPlaces, SamePartLaw}
use Rattle.pb_site.proofs.DaysLemmas.{all_kept, increasing, kept_few, kept_nodes, kept_rises, kept_there, kept_within, place_apart, ranges, same_kept}
use Rattle.pb_site.proofs.KeptLemmas.{growth_law}

-- ---- what is declared later and isn't in service doesn't change the part

none_pass : {A : Type 0} (p : A → Bool) (xs : List A) → AllByRecursion (λ x. p x ≡ false) xs → filter p xs ≡ []
none_pass p [] none = refl
none_pass p (x ∷ xs) (here, rest) = rw here (none_pass p xs rest)

arcs_stay : (declared other : List Declared) (more : List Arc) (first last : ℤ) → arcs_of other ≡ arcs_of declared ++ more
    → AllByRecursion (λ arc. is_arc_in_service first last arc ≡ false) more → arcs_on Two other first last ≡ arcs_on Two declared first last
arcs_stay declared other more first last grown away =
    let served = is_arc_in_service first last in
    ap (filter served) grown ∙ filter-append served (arcs_of declared) more
    ∙ ap (λ rest. filter served (arcs_of declared) ++ rest) (none_pass served more away) ∙ append-nil (filter served (arcs_of declared))

no_end : (arcs : List Arc) (n node : ℕ) → All (IsArc n) arcs → n ≤ node → is_end_of arcs node ≡ false
no_end [] n node joined past = refl
no_end (arc ∷ arcs) n node joined past =
    let right = joined 0 arc (omega arith) in
    let rest = no_end arcs n node (λ k d lt. joined (suc k) d (omega (arith, lt))) past in
    rw (ne_eqb arc.from node (λ e. absurd (omega (arith, e, right.begins, past))), ne_eqb arc.to node (λ e. absurd (omega (arith, e, right.ends, past)))) rest

ends_past : (arcs : List Arc) (n from count : ℕ) → All (IsArc n) arcs → n ≤ from → filter (is_end_of arcs) (range_with_len from count) ≡ []
ends_past arcs n from zero joined past = refl
ends_past arcs n from (suc count) joined past = rw (no_end arcs n from joined past) (ends_past arcs n (from + 1) count joined (omega (arith, past)))

nodes_stay : (declared other : List Declared) (first last : ℤ) (extra : ℕ) → arcs_on Two other first last ≡ arcs_on Two declared first last
    → All (IsArc (length (node_names declared))) (arcs_on Two declared first last) → length (node_names other) ≡ length (node_names declared) + extra
    → nodes_on Two other first last ≡ nodes_on Two declared first last
nodes_stay declared other first last extra arcs joined many =
    let on = arcs_on Two declared first last in
    let n = length (node_names declared) in
    let count : length (node_names other) - 1 ≡ (n - 1) + extra = omega (arith, many) in
    let seam : 1 + (n - 1) ≡ n = omega arith in
    let split : places_of other ≡ places_of declared ++ range_with_len n extra =
    ap (range_with_len 1) count ∙ ranges 1 (n - 1) extra ∙ ap (λ (m : ℕ). places_of declared ++ range_with_len m extra) seam in
    ap₂ (λ (arcs : List Arc) (ns : List ℕ). 0 ∷ filter (is_end_of arcs) ns) arcs split
    ∙ ap (λ rest. 0 ∷ rest) (filter-append (is_end_of on) (places_of declared) (range_with_len n extra)
    ∙ ap (λ rest. filter (is_end_of on) (places_of declared) ++ rest) (ends_past on n n extra joined (omega arith)) ∙ append-nil (filter (is_end_of on) (places_of declared)))

-- the names of nodes stay
names_stay : (declared other : List Declared) (more : List (List ℕ)) (nodes : List ℕ) → node_names other ≡ node_names declared ++ more
    → All (λ (node : ℕ). node < length (node_names declared)) nodes → map (name_at_node other) nodes ≡ map (name_at_node declared) nodes
names_stay declared other more [] grown within = refl
names_stay declared other more (node ∷ nodes) grown within =
    let here : name_at_node other node ≡ name_at_node declared node =
    ap (λ (names : List (List ℕ)). get_or names node (codes "env")) grown ∙ get_or_append_left (node_names declared) more (codes "env") node (within 0 node (omega arith)) in
    ap₂ (λ (name : List ℕ) (names : List (List ℕ)). name ∷ names) here (names_stay declared other more nodes grown (λ k d lt. within (suc k) d (omega (arith, lt))))

-- the arc of a declaration that isn't in service isn't in service
new_away : (boundaries nodes : List (List ℕ)) (row : Declared) (first last : ℤ) → declares_in_service first last row ≡ false
    → AllByRecursion (λ arc. is_arc_in_service first last arc ≡ false) (filter_map (arc_in boundaries nodes) (row ∷ []))
new_away boundaries nodes (Tank name base service) first last away = (away, tt)
new_away boundaries nodes (Stream name from to kind base service) first last away = (away, tt)
new_away boundaries nodes row first last away = tt

pub same_part_law : SamePartLaw
same_part_law declared row first last plant no_fault away =
    let other = declared ++ row ∷ [] in
    let grown = growth_law declared row plant no_fault in
    let more = filter_map node_name (row ∷ []) in
    let n = length (node_names declared) in
    let arcs = arcs_stay declared other (filter_map (arc_in (boundary_names other) (node_names other)) (row ∷ [])) first last grown.arcs (new_away (boundary_names other) (node_names other) row first last away) in
    let joined = All-filter (is_arc_in_service first last) (IsArc n) (arcs_of declared) plant.joined in
    let many = ap (λ (names : List (List ℕ)). length names) grown.nodes ∙ length-append (node_names declared) more in
    let nodes = nodes_stay declared other first last (length more) arcs joined many in
    let within = kept_within (is_end_of (arcs_on Two declared first last)) n (omega arith) in
    let names = ap (map (name_at_node other)) nodes ∙ names_stay declared other more (nodes_on Two declared first last) grown.nodes within in
    record {
      arcs = arcs;
      nodes = nodes;
      names = ap₂ (λ (nodes : List (List ℕ)) (arcs : List Arc). record { nodes = nodes; streams = map (λ (arc : Arc). arc.name) arcs }) names arcs;
    }

-- ---- the nodes, arcs and names of some days

-- the ends of an arc are ends of the arcs
end_from : (arcs : List Arc) (k : ℕ) (d : Arc) → k < length arcs → is_end_of arcs (get_or arcs k d).from ≡ true
end_from arcs k d within =
    let node = (get_or arcs k d).from in
    list_any_at (λ (arc : Arc). (arc.from == node) || (arc.to == node)) arcs k d within (rw (eq-eqb node node refl) refl)

end_to : (arcs : List Arc) (k : ℕ) (d : Arc) → k < length arcs → is_end_of arcs (get_or arcs k d).to ≡ true
end_to arcs k d within =
    let node = (get_or arcs k d).to in
    list_any_at (λ (arc : Arc). (arc.from == node) || (arc.to == node)) arcs k d within (rw (eq-eqb node node refl) (or_true ((get_or arcs k d).from == node)))
  where
    or_true : (b : Bool) → (b || true) ≡ true
    or_true true = refl
    or_true false = refl

-- arcs whose ends are kept join two of the kept nodes
joins : (p : ℕ → Bool) (n : ℕ) (arcs : List Arc) → All (IsArc n) arcs → ((k : ℕ) (d : Arc) → k < length arcs → (p (get_or arcs k d).from ≡ true) × (p (get_or arcs k d).to ≡ true))
    → All (JoinsPlaces (kept_nodes p n)) arcs
joins p n arcs joined ends k d within =
    let right = joined k d within in
    let kept = ends k d within in
    let begins = kept_there p n (get_or arcs k d).from right.begins kept.0 in
    let last = kept_there p n (get_or arcs k d).to right.ends kept.1 in
    record {
      begins = begins;
      ends = last;
      apart = λ same. right.apart (place_apart (kept_nodes p n) (get_or arcs k d).from (get_or arcs k d).to begins last same);
    }

-- names at different places are distinct
distinct_at : (names : List (List ℕ)) (nodes : List ℕ) → AreDistinct names → AllPairs (λ (a b : ℕ). a < b) nodes → All (λ (node : ℕ). node < length names) nodes
    → AreDistinct (map (λ (node : ℕ). get_or names node (codes "env")) nodes)
distinct_at names nodes apart rises within i j d before last =
    let name = λ (node : ℕ). get_or names node (codes "env") in
    let inside : j < length nodes = rw (length-map nodes name) at last in
    let first = get_or-map name nodes i 0 d (omega (arith, before, inside)) in
    let second = get_or-map name nodes j 0 d inside in
    let less = rises i j 0 before inside in
    rw (first, second) (apart (get_or nodes i 0) (get_or nodes j 0) (codes "env") less (within j 0 inside))

-- the names of some of the arcs are distinct
distinct_some : (arcs : List Arc) (p : Arc → Bool) → AreDistinct (map (λ (arc : Arc). arc.name) arcs) → AreDistinct (map (λ (arc : Arc). arc.name) (filter p arcs))
distinct_some arcs p apart i j d before last =
    let name = λ (arc : Arc). arc.name in
    let some = filter p arcs in
    let inside : j < length some = rw (length-map some name) at last in
    let pairs : AllPairs (λ (a b : Arc). same_name a.name b.name ≡ false) arcs = λ i j a before within.
    let long = length-map arcs name in
    let first = get_or-map name arcs i a a.name (omega (arith, before, within)) in
    let second = get_or-map name arcs j a a.name within in
    let here = apart i j a.name before (omega (arith, within, long)) in
    rw (first, second) at here in
    let kept = AllPairs-filter (λ (a b : Arc). same_name a.name b.name ≡ false) p arcs pairs in
    by some kept i j d before inside
  where
    by : (some : List Arc) → AllPairs (λ (a b : Arc). same_name a.name b.name ≡ false) some → (i j : ℕ) (d : List ℕ) → i < j → j < length some
        → same_name (get_or (map (λ (arc : Arc). arc.name) some) i d) (get_or (map (λ (arc : Arc). arc.name) some) j d) ≡ false
    by [] kept i j d before inside = absurd (omega (arith, inside))
    by (arc ∷ arcs) kept i j d before inside =
        let name = λ (arc : Arc). arc.name in
        let first = get_or-map name (arc ∷ arcs) i arc d (omega (arith, before, inside)) in
        let second = get_or-map name (arc ∷ arcs) j arc d inside in
        rw (first, second) (kept i j arc before inside)

pub days_law : DaysLaw
days_law One declared first last plant =
    let n = length (node_names declared) in
    let all = λ (node : ℕ). true in
    let same : kept_nodes all n ≡ nodes_on One declared first last = ap (λ ns. 0 ∷ ns) (all_kept all 1 (n - 1) (λ k low high. refl)) in
    record {
      few = subst (λ (ns : List ℕ). length ns ≤ n) same (kept_few all n (omega arith));
      within = subst (λ (ns : List ℕ). All (λ (node : ℕ). node < n) ns) same (kept_within all n (omega arith));
      order = increasing (nodes_on One declared first last) (subst (AllPairs (λ (a b : ℕ). a < b)) same (kept_rises all n));
      joined = subst (λ (ns : List ℕ). All (JoinsPlaces ns) (arcs_of declared)) same (joins all n (arcs_of declared) plant.joined (λ k d within. (refl, refl)));
      nodes = plant.distinct.nodes;
      streams = plant.distinct.arcs;
    }
days_law Two declared first last plant =
    let n = length (node_names declared) in
    let arcs = arcs_on Two declared first last in
    let is_end = is_end_of arcs in
    let joined = All-filter (is_arc_in_service first last) (IsArc n) (arcs_of declared) plant.joined in
    record {
      few = kept_few is_end n (omega arith);
      within = kept_within is_end n (omega arith);
      order = increasing (kept_nodes is_end n) (kept_rises is_end n);
      joined = joins is_end n arcs joined (λ k d within. (end_from arcs k d within, end_to arcs k d within));
      nodes = distinct_at (node_names declared) (kept_nodes is_end n) plant.distinct.nodes (kept_rises is_end n) (kept_within is_end n (omega arith));
      streams = distinct_some (arcs_of declared) (is_arc_in_service first last) plant.distinct.arcs;
    }

-- ---- what the code makes of them

-- the name of one more node
pub names_next : (declared : List Declared) (nodes : List ℕ) (i : ℕ) (name : List ℕ) → i < length nodes → get_or nodes i 0 < length (node_names declared)
    → slice_get (node_names declared) (get_or nodes i 0) ≡ Some name → map (name_at_node declared) (take (i + 1) nodes) ≡ map (name_at_node declared) (take i nodes) ++ name ∷ []
names_next declared nodes i name within inside at =
    let node = get_or nodes i 0 in
    let here : name_at_node declared node ≡ name = some_same (sym (slice_get-get_or (node_names declared) node (codes "env") inside) ∙ at) in
    ap (map (name_at_node declared)) (take_more nodes i 0 within) ∙ map-append (name_at_node declared) (take i nodes) (node ∷ [])
    ∙ ap (λ (last : List ℕ). map (name_at_node declared) (take i nodes) ++ last ∷ []) here
  where
    value : Option (List ℕ) → List ℕ
    value None = []
    value (Some name) = name

    some_same : {a b : List ℕ} → Some a ≡ Some b → a ≡ b
    some_same same = ap value same

take_next : (arcs : List Arc) (i : ℕ) (arc : Arc) → slice_get arcs i ≡ Some arc → take (i + 1) arcs ≡ take i arcs ++ arc ∷ []
take_next [] i arc at = cc at
take_next (first ∷ arcs) zero arc at = ap (λ (a : Arc). a ∷ []) (some_arc at)
  where
    value : Option Arc → Arc
    value None = first
    value (Some arc) = arc

    some_arc : Some first ≡ Some arc → first ≡ arc
    some_arc same = ap value same
take_next (first ∷ arcs) (suc i) arc at =
    let next : suc i + 1 ≡ suc (i + 1) = omega arith in
    ap (λ (n : ℕ). take n (first ∷ arcs)) next ∙ ap (λ (rest : List Arc). first ∷ rest) (take_next arcs i arc at)

-- the arcs in service among those up to one more
pub served_next : (served : Arc → Bool) (arcs : List Arc) (i : ℕ) (arc : Arc) → slice_get arcs i ≡ Some arc → served arc ≡ true
    → filter served (take (i + 1) arcs) ≡ filter served (take i arcs) ++ arc ∷ []
served_next served arcs i arc at passes =
    ap (filter served) (take_next arcs i arc at) ∙ filter-append served (take i arcs) (arc ∷ [])
    ∙ ap (λ (last : List Arc). filter served (take i arcs) ++ last) (rw passes refl)

pub served_same : (served : Arc → Bool) (arcs : List Arc) (i : ℕ) (arc : Arc) → slice_get arcs i ≡ Some arc → served arc ≡ false
    → filter served (take (i + 1) arcs) ≡ filter served (take i arcs)
served_same served arcs i arc at fails =
    ap (filter served) (take_next arcs i arc at) ∙ filter-append served (take i arcs) (arc ∷ [])
    ∙ ap (λ (last : List Arc). filter served (take i arcs) ++ last) (rw fails refl) ∙ append-nil (filter served (take i arcs))

-- ends stay marked
pub ends_next : (nodes : ℕ) (arcs : List Arc) (arc : Arc) (old new : List Bool) → AreEnds nodes arcs old → MarksEnds arc old new → AreEnds nodes (arcs ++ arc ∷ []) new
ends_next nodes arcs arc old new are marks = record {
  each = marks.each ∙ are.each;
  few = omega (arith, marks.each, are.few);
  marked = λ node within.
      let before = are.marked node within in
      let after = marks.marked node (omega (arith, within, are.each)) in
      let test = λ (arc : Arc). (arc.from == node) || (arc.to == node) in
      after ∙ ap (λ (b : Bool). b || ((arc.from == node) || (arc.to == node))) before
      ∙ sym (list_any-append test arcs (arc ∷ []) ∙ ap (λ (b : Bool). list_any test arcs || b) (or_false (test arc)));
}
  where
    or_false : (b : Bool) → (b || false) ≡ b
    or_false true = refl
    or_false false = refl

-- at first nothing is marked
pub no_ends : (nodes : ℕ) (ends : List Bool) → nodes ≤ most_nodes → ends ≡ replicate nodes false → AreEnds nodes [] ends
no_ends nodes ends few is = record {
  each = ap (λ (marks : List Bool). length marks) is ∙ length-replicate nodes false;
  few = let long = ap (λ (marks : List Bool). length marks) is ∙ length-replicate nodes false in omega (arith, long, few);
  marked = λ node within. ap (λ (marks : List Bool). get_or marks node false) is ∙ get_or-replicate nodes node false false within;
}

-- the nodes that are marked in version 1
pub all_nodes : (declared : List Declared) (first last : ℤ) (marks : List Bool) → length (node_names declared) ≤ most_nodes → marks ≡ replicate (length (node_names declared)) true
    → MarksNodes (length (node_names declared)) (nodes_on One declared first last) marks
all_nodes declared first last marks few is =
    let n = length (node_names declared) in
    let long : length marks ≡ n = ap (λ (ms : List Bool). length ms) is ∙ length-replicate n true in
    record {
      each = long;
      few = omega (arith, long, few);
      marked = ap (kept_nodes (is_marked marks)) long
          ∙ ap (λ (ns : List ℕ). 0 ∷ ns)
          (all_kept (is_marked marks) 1 (n - 1) (λ k low high. ap (λ (ms : List Bool). get_or ms k false) is ∙ get_or-replicate n k true false (omega (arith, high))));
    }

-- and in version 2
pub end_nodes : (declared : List Declared) (first last : ℤ) (marks : List Bool) → AreEnds (length (node_names declared)) (arcs_on Two declared first last) marks
    → MarksNodes (length (node_names declared)) (nodes_on Two declared first last) marks
end_nodes declared first last marks are =
    let n = length (node_names declared) in
    record {
      each = are.each;
      few = are.few;
      marked = ap (kept_nodes (is_marked marks)) are.each
          ∙ ap (λ (ns : List ℕ). 0 ∷ ns) (same_kept (is_marked marks) (is_end_of (arcs_on Two declared first last)) 1 (n - 1) (λ k low high. are.marked k (omega (arith, high))));
    }

-- the nodes that are marked are in order
pub marked_in_order : (marks : List Bool) → 0 < length marks → length marks ≤ most_nodes → AreNodes (marked_nodes marks)
marked_in_order marks some few =
    let many = kept_few (is_marked marks) (length marks) some in
    record { order = increasing (marked_nodes marks) (kept_rises (is_marked marks) (length marks)); few = omega (arith, many, few) }
