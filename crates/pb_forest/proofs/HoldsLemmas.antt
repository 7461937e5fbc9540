use Rattle.std.proofs.Common.{◌≡◌, ◌∙◌, ℕ, ◌<◌, Bool, true, false, None, List, length, Some, slice_get, get_or, ap, subst, sym, refl, arith}
use Rattle.std.proofs.lemmas.Option.{slice_get-get_or, same_Some}
use Rattle.pb_graph.specs.declared.records.Stream.{Stream}
use Rattle.pb_forest.specs.Forest.{IsHeld, IsDecided, IsForest}

-- the mark that is read is the mark of the stream
pub mark_is : (ss : List Stream) (held : List Bool) (j : ℕ) (b : Bool) → IsForest ss held → j < length ss → b ≡ get_or held j b → slice_get held j ≡ Some b
mark_is ss held j b forest lt is = slice_get-get_or held j b (omega (arith, lt, forest.each)) ∙ ap (λ (x : Bool). Some x) (sym is)

decided_exactly : (ss : List Stream) (j : ℕ) (s : Stream) (b : Bool) → slice_get ss j ≡ Some s → IsDecided ss j b → (b ≡ true → IsHeld ss j) × (IsHeld ss j → b ≡ true)
decided_exactly ss j s true at d = (d.apart, λ h. refl)
decided_exactly ss j s false at d = ((λ e. cc e), (λ h. absurd (h s at (d.tied refl s at))))

-- a mark is true exactly when the stream is held
pub held_exactly : (ss : List Stream) (held : List Bool) (j : ℕ) (b : Bool) → IsForest ss held → j < length ss → b ≡ get_or held j b
    → (b ≡ true → IsHeld ss j) × (IsHeld ss j → b ≡ true)
held_exactly ss held j b forest lt is =
    let some : Stream = record { from = 0; to = 0; meas = None } in
    let within : j < length held = omega (arith, lt, forest.each) in
    let mark : get_or held j false ≡ b = same_Some _ _ (sym (slice_get-get_or held j false within) ∙ mark_is ss held j b forest lt is) in
    decided_exactly ss j (get_or ss j some) b (slice_get-get_or ss j some lt) (subst (λ (x : Bool). IsDecided ss j x) mark (forest.decided j lt))
