-- The path of the metered graph's forest between the ends of a chosen stream takes streams that stay unmeasured.
use Rattle.std.proofs.Common.{◌≡◌, ℕ, Bool, true, false, ◌==◌, List, subst}
use Rattle.std.specs.List.{list_any}
use Rattle.std.proofs.lemmas.Bool.{and_parts}
use Rattle.pb_graph.specs.declared.records.Stream.{Stream}
use Rattle.pb_graph.specs.declared.records.Step.{Step}
use Rattle.pb_graph.specs.Walk.{ends_of, unmeasured, Walks, Reaches}
use Rattle.pb_graph.specs.Cycle.{is_distinct, begin_of, first_or}
use Rattle.pb_graph.specs.Path.{IsPath, is_open}
use Rattle.pb_graph.proofs.WalkLemmas.{reach_more, walk_more}
use Rattle.pb_forest.specs.Forest.{IsForest}
use Rattle.pb_forest.specs.Laws.{held_unmeasured}
use Rattle.pb_forest.proofs.ForestLaws.{spans_law, acyclic_law, part_law}
use Rattle.pb_advise.specs.Choice.{with_meters, stays_unmeasured}
use Rattle.pb_advise.proofs.MeteredLemmas.{metered_ends_of, stays_from, stays_bare, walk_down, walk_up}

-- ---- a step begins at the same node as in the graph
begins : (nodes : ℕ) (chosen : List Bool) (ss : List Stream) → begin_of nodes (with_meters chosen ss) ≡ begin_of nodes ss
begins nodes chosen ss = λ i t. first_or nodes (metered_ends_of chosen ss t i)

-- ---- held unmeasured streams join what streams that stay unmeasured join
pub held_joins : (chosen held : List Bool) (ss : List Stream) (a b : ℕ) → IsForest (with_meters chosen ss) held
    → Reaches (ends_of (stays_unmeasured chosen) ss) a b → Reaches (ends_of (held_unmeasured held) (with_meters chosen ss)) a b
held_joins chosen held ss a b forest (steps, w) =
    (spans_law (with_meters chosen ss) held forest).bare a b (steps, walk_up (stays_unmeasured chosen) unmeasured chosen ss a b steps (stays_bare chosen) w)

pub forest_joins : (chosen held : List Bool) (ss : List Stream) (a b : ℕ) → IsForest (with_meters chosen ss) held
    → Reaches (ends_of (stays_unmeasured chosen) ss) a b → Reaches (ends_of (is_open held) (with_meters chosen ss)) a b
forest_joins chosen held ss a b forest r =
    reach_more (held_unmeasured held) (is_open held) (with_meters chosen ss) a b (λ k t here both. (and_parts (is_open held k t) (unmeasured k t) both).0)
    (held_joins chosen held ss a b forest r)

-- the path in the forest, if streams that stay unmeasured join its ends
pub path_stays : (nodes : ℕ) (chosen held : List Bool) (ss : List Stream) (a b : ℕ) (steps : List Step) → IsForest (with_meters chosen ss) held
    → Reaches (ends_of (stays_unmeasured chosen) ss) a b → IsPath (ends_of (is_open held) (with_meters chosen ss)) nodes (with_meters chosen ss) a steps b
    → IsPath (ends_of (stays_unmeasured chosen) ss) nodes ss a steps b
path_stays nodes chosen held ss a b steps forest r path =
    let mm = with_meters chosen ss in
    let part = part_law mm (is_open held) (held_unmeasured held) nodes a b steps (acyclic_law mm held forest)
    (λ k t at both. (and_parts (is_open held k t) (unmeasured k t) both).0) path (held_joins chosen held ss a b forest r) in
    let bare : Walks (ends_of unmeasured mm) a steps b =
    walk_more (held_unmeasured held) unmeasured mm a b steps (λ k t at both. (and_parts (is_open held k t) (unmeasured k t) both).1) part.walk in
    let same = begins nodes chosen ss in
    record {
      walk = walk_down unmeasured (stays_unmeasured chosen) chosen ss a b steps (stays_from chosen) bare;
      once = subst (λ (key : Step → ℕ). is_distinct key steps ≡ true) same part.once;
      last = subst (λ (key : Step → ℕ). list_any (λ (t : Step). key t == b) steps ≡ false) same part.last;
    }
