-- A stream that leaves a set without a cycle can be replaced by one of any walk that joins its ends.
use Rattle.std.proofs.Common.{◌≡◌, ◌∙◌, ℕ, zero, suc, Bool, true, false, not, ◌==◌, List, [], ◌∷◌, Some, slice_get, get_or, set, ap, sym, refl, subst, inl, inr}
use Rattle.std.proofs.lemmas.Bool.{cases_Bool, cases_eq, and_parts, and_from, not_from_false, ne_eqb}
use Rattle.std.proofs.lemmas.List.{get_or-set_other}
use Rattle.pb_graph.specs.declared.records.Stream.{Stream}
use Rattle.pb_graph.specs.declared.records.Step.{Step}
use Rattle.pb_graph.specs.Walk.{ends_of, Walks, Reaches}
use Rattle.pb_graph.specs.Path.{is_open}
use Rattle.pb_graph.proofs.WalkLemmas.{ends_is, stream_of, reach_none, reach_one, reach_both, reach_more}
use Rattle.pb_graph.proofs.ReachLemmas.{IsPartBut, reach_decided}
use Rattle.pb_forest.specs.Laws.{except, IsAcyclic}
use Rattle.pb_forest.proofs.ForestLaws.{along_reach}
use Rattle.pb_advise.proofs.AcyclicLemmas.{acyclic_part, acyclic_more}

-- a step of a walk over some streams that leads out of what others reach
pub record LeavesReach (ss : List Stream) (may inner : ℕ → Stream → Bool) : Type 0 where
  pub k : ℕ
  pub stream : Stream
  pub at : slice_get ss k ≡ Some stream
  pub ok : may k stream ≡ true
  pub apart : Reaches (ends_of inner ss) stream.from stream.to → ⊥

-- a walk from a node that is reached to one that isn't has such a step
pub leaving : (ss : List Stream) (may inner : ℕ → Stream → Bool) (root a b : ℕ) (steps : List Step)
    → Reaches (ends_of inner ss) root a → (Reaches (ends_of inner ss) root b → ⊥) → Walks (ends_of may ss) a steps b → LeavesReach ss may inner
leaving ss may inner root a b [] here out w = absurd (out (subst (λ (n : ℕ). Reaches (ends_of inner ss) root n) w here))
leaving ss may inner root a b (t ∷ rest) here out (c, e, w) = elim (reach_decided ss inner root c) [
  | inl there ↦ leaving ss may inner root c b rest there out w
  | inr never ↦
      let (s, at, ok, goes) = stream_of may ss t (a, c) e in
      record {
        k = t.stream;
        stream = s;
        at = at;
        ok = ok;
        apart = λ r. never (reach_both (ends_of inner ss) root a c here (along_reach inner ss s t.forward a c goes r));
      }
]

-- marks without one, and with another in its place
abbrev pub less_at : List Bool → ℕ → List Bool
less_at marks f = set marks f false

abbrev pub swapped : List Bool → ℕ → ℕ → List Bool
swapped marks f e = set (set marks f false) e true

-- what is marked once one stream's mark is removed is what was marked, without that stream
less_part : (ss : List Stream) (marks : List Bool) (f k : ℕ) (t : Stream) → is_open (less_at marks f) k t ≡ true → except f (is_open marks) k t ≡ true
less_part ss marks f k t ok = elim (cases_eq k f) [
  | inl same ↦ cc_same (cases_size marks f) same
  | inr other ↦ and_from _ _ (sym (get_or-set_other marks f k false false other) ∙ ok) (not_from_false (k == f) (ne_eqb k f other))
]
  where
    cases_size : (marks : List Bool) (f : ℕ) → get_or (set marks f false) f false ≡ false
    cases_size [] f = refl
    cases_size (m ∷ ms) zero = refl
    cases_size (m ∷ ms) (suc f) = cases_size ms f

    cc_same : get_or (set marks f false) f false ≡ false → k ≡ f → except f (is_open marks) k t ≡ true
    cc_same gone same = cc (sym ok ∙ ap (λ (i : ℕ). get_or (set marks f false) i false) same ∙ gone)

-- The exchange: a marked stream f of a set without a cycle, and a walk over other streams that joins its ends. One stream of the walk
-- takes the place of f, and the set still has no cycle.
pub record Exchanged (ss : List Stream) (marks : List Bool) (may : ℕ → Stream → Bool) (f : ℕ) : Type 0 where
  pub e : ℕ
  pub stream : Stream
  pub at : slice_get ss e ≡ Some stream
  pub ok : may e stream ≡ true
  pub new : get_or (less_at marks f) e false ≡ false
  pub acyclic : IsAcyclic ss (is_open (swapped marks f e))

pub exchange : (ss : List Stream) (marks : List Bool) (may : ℕ → Stream → Bool) (f : ℕ) (s : Stream) → slice_get ss f ≡ Some s → get_or marks f false ≡ true
    → IsAcyclic ss (is_open marks) → Reaches (ends_of may ss) s.from s.to → Exchanged ss marks may f
exchange ss marks may f s at marked acyclic (steps, w) =
    let inner = is_open (less_at marks f) in
    let ends = ends_of inner ss in
    let gone : Reaches ends s.from s.to → ⊥ = λ r.
    acyclic f s at marked (reach_more inner (except f (is_open marks)) ss s.from s.to (λ k t here ok. less_part ss marks f k t ok) r) in
    let out = leaving ss may inner s.from s.from s.to steps (reach_none ends s.from) gone w in
    let e = out.k in
    let new : get_or (less_at marks f) e false ≡ false = elim (cases_Bool (get_or (less_at marks f) e false)) [
      | inr off ↦ off
      | inl on ↦ absurd (out.apart (reach_one ends out.stream.from out.stream.to (record { stream = e; forward = true }) (ends_is inner ss e out.stream true out.at on)))
    ] in
    let but : IsPartBut ss e (is_open (swapped marks f e)) inner = λ k t here ne ok. sym (get_or-set_other (less_at marks f) e k true false ne) ∙ ok in
    let less : IsAcyclic ss inner = acyclic_part ss inner (is_open marks) (λ k t here ok. (and_parts (is_open marks k t) (not (k == f)) (less_part ss marks f k t ok)).0) acyclic in
    record {
      e = e;
      stream = out.stream;
      at = out.at;
      ok = out.ok;
      new = new;
      acyclic = acyclic_more ss inner (is_open (swapped marks f e)) e out.stream out.at out.apart but less;
    }
