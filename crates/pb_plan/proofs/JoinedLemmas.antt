-- Nodes that arcs in service join, marked arc by arc.
use Rattle.std.specs.Prelude.{◌&&◌, ◌||◌}
use Rattle.std.specs.List.{list_any}
use Rattle.std.proofs.Common.{◌≡◌, ◌∙◌, ◌+◌, ◌<◌, ℕ, suc, Bool, true, false, List, [], ◌∷◌, ◌++◌, add-one, get_or, length, replicate, take, refl, sym, ap, arith}
use Rattle.std.proofs.lemmas.List.{get_or-replicate, length-replicate}
use Rattle.std.proofs.lemmas.List.Folds.{list_any-append}
use Rattle.std.proofs.Math.Seq.{take-suc}
use Rattle.pb_plan.specs.declared.plant.PlantArc.{PlantArc}
use Rattle.pb_plan.specs.declared.plant.Plant.{Plant}
use Rattle.pb_plan.specs.declared.plant.Span.{Span}
use Rattle.pb_plan.specs.Joined.{AreJoined, MarksEnds, is_joined, is_marked}
use Rattle.pb_plan.specs.Plant.{is_end, is_node_in, is_served}

or_false : (b : Bool) → (b || false) ≡ b
or_false true = refl
or_false false = refl

-- one more arc joins its ends, if it is in service
joined_next : (arcs : List PlantArc) (span : Span) (i : ℕ) (d : PlantArc) (node : ℕ) → i < length arcs
    → is_joined (take (i + 1) arcs) span node ≡ (is_joined (take i arcs) span node || (is_served span (get_or arcs i d) && is_end node (get_or arcs i d)))
joined_next arcs span i d node lt =
    let joins = λ (arc : PlantArc). is_served span arc && is_end node arc in
    ap (λ (n : ℕ). list_any joins (take n arcs)) (add-one i) ∙ ap (list_any joins) (take-suc arcs i d lt) ∙ list_any-append joins (take i arcs) (get_or arcs i d ∷ [])
    ∙ ap (λ (b : Bool). list_any joins (take i arcs) || b) (or_false (joins (get_or arcs i d)))

pub marked_next : (arcs : List PlantArc) (span : Span) (i nodes : ℕ) (d : PlantArc) (old new : List Bool) → i < length arcs → is_served span (get_or arcs i d) ≡ true
    → AreJoined (take i arcs) span nodes old → MarksEnds (get_or arcs i d) old new → AreJoined (take (i + 1) arcs) span nodes new
marked_next arcs span i nodes d old new lt served are marks = record {
  each = marks.each ∙ are.each;
  marked = λ node within.
      marks.marked node (omega (arith, within, are.each)) ∙ ap (λ (b : Bool). b || is_end node (get_or arcs i d)) (are.marked node within)
      ∙ sym (joined_next arcs span i d node lt ∙ ap (λ (b : Bool). is_joined (take i arcs) span node || (b && is_end node (get_or arcs i d))) served);
}

pub passed_next : (arcs : List PlantArc) (span : Span) (i nodes : ℕ) (d : PlantArc) (old : List Bool) → i < length arcs → is_served span (get_or arcs i d) ≡ false
    → AreJoined (take i arcs) span nodes old → AreJoined (take (i + 1) arcs) span nodes old
passed_next arcs span i nodes d old lt idle are = record {
  each = are.each;
  marked = λ node within.
      are.marked node within
      ∙ sym (joined_next arcs span i d node lt ∙ ap (λ (b : Bool). is_joined (take i arcs) span node || (b && is_end node (get_or arcs i d))) idle
      ∙ or_false (is_joined (take i arcs) span node));
}

-- at first nothing is marked
pub none_joined : (span : Span) (nodes : ℕ) (joined : List Bool) → joined ≡ replicate nodes false → AreJoined [] span nodes joined
none_joined span nodes joined is = record {
  each = ap (λ (marks : List Bool). length marks) is ∙ length-replicate nodes false;
  marked = λ node within. ap (λ (marks : List Bool). get_or marks node false) is ∙ get_or-replicate nodes node false false within;
}

-- a unit or tank that is marked, or kept although it is idle
pub kept_is : (plant : Plant) (span : Span) (nodes node : ℕ) (joined : List Bool) → AreJoined plant.arcs span nodes joined → node < nodes
    → (plant.keeps_idle || is_marked joined node) ≡ is_node_in plant span node
kept_is plant span nodes node joined are within = ap (λ (b : Bool). plant.keeps_idle || b) (are.marked node within)
