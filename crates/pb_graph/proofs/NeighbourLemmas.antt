-- One more stream in the incidence lists of its ends.
use Rattle.std.proofs.Common.{◌≡◌, ◌≢◌, ◌∙◌, ℕ, ◌+◌, ◌<◌, if◌then◌else◌, List, [], ◌∷◌, ◌++◌, length, get_or, set, take, ap, sym, refl, inl, inr, arith, append-nil}
use Rattle.std.proofs.lemmas.Bool.{cases_Bool, cases_eq, eq-eqb, ne_eqb}
use Rattle.std.proofs.lemmas.List.{take_more, length-take-le, get_or-set_same, get_or-set_other, length-set}
use Rattle.pb_graph.specs.declared.records.Stream.{Stream}
use Rattle.pb_graph.specs.ProcessGraph.{IsStream}
use Rattle.pb_graph.specs.Neighbours.{touches, touching_from, touching}

-- what the stream at place j adds to the list of node n
abbrev pub added : ℕ → ℕ → Stream → List ℕ
added n j s = if touches n s then j ∷ [] else []

touching-append : (n k j : ℕ) (xs : List Stream) (s : Stream) → j ≡ k + length xs → touching_from n k (xs ++ s ∷ []) ≡ touching_from n k xs ++ added n j s
touching-append n k j [] s is =
    let at : j ≡ k = omega (arith, is) in
    elim (cases_Bool (touches n s)) [
      | inl yes_touch ↦ rw (yes_touch, at) refl
      | inr no_touch ↦ rw no_touch refl
    ]
touching-append n k j (x ∷ xs) s is =
    let rest = touching-append n (k + 1) j xs s (omega (arith, is)) in
    elim (cases_Bool (touches n x)) [
      | inl here ↦ rw here (ap (λ (l : List ℕ). k ∷ l) rest)
      | inr away ↦ rw away rest
    ]

-- one more stream
pub touching_more : (n j : ℕ) (ss : List Stream) (s : Stream) → j < length ss → touching n (take (j + 1) ss) ≡ touching n (take j ss) ++ added n j (get_or ss j s)
touching_more n j ss s lt =
    ap (touching_from n 0) (take_more ss j s lt) ∙ touching-append n 0 j (take j ss) (get_or ss j s) (omega (arith, length-take-le j ss (omega (arith, lt))))

abbrev pub noted : List (List ℕ) → ℕ → ℕ → List (List ℕ)
noted lists node j = set lists node (get_or lists node [] ++ j ∷ [])

-- a stream noted at both its ends is added to each node's list
pub noted_twice : (lists : List (List ℕ)) (n j : ℕ) (s : Stream) → IsStream (length lists) s → n < length lists
    → get_or (noted (noted lists s.from j) s.to j) n [] ≡ get_or lists n [] ++ added n j s
noted_twice lists n j s is lt =
    let once = noted lists s.from j in
    let size : length once ≡ length lists = length-set lists s.from (get_or lists s.from [] ++ j ∷ []) in
    elim (cases_eq s.from n) [
      | inl from ↦
          let there : s.to ≢ n = λ e. is.apart (from ∙ sym e) in
          let other : get_or (noted once s.to j) n [] ≡ get_or once n [] = get_or-set_other once s.to n (get_or once s.to [] ++ j ∷ []) [] (λ e. there (sym e)) in
          let same : get_or once n [] ≡ get_or lists n [] ++ j ∷ [] =
          ap (λ (m : ℕ). get_or once m []) (sym from) ∙ get_or-set_same lists s.from (get_or lists s.from [] ++ j ∷ []) [] is.from ∙ ap (λ (m : ℕ). get_or lists m [] ++ j ∷ []) from in
          rw (eq-eqb s.from n from) (other ∙ same)
      | inr away ↦
          let first : (m : ℕ) → m ≢ s.from → get_or once m [] ≡ get_or lists m [] = λ m ne. get_or-set_other lists s.from m (get_or lists s.from [] ++ j ∷ []) [] ne in
          elim (cases_eq s.to n) [
            | inl to ↦
                let same : get_or (noted once s.to j) n [] ≡ get_or once n [] ++ j ∷ [] =
                ap (λ (m : ℕ). get_or (noted once s.to j) m []) (sym to) ∙ get_or-set_same once s.to (get_or once s.to [] ++ j ∷ []) [] (omega (arith, size, is.to)) ∙ ap (λ (m : ℕ). get_or once m [] ++ j ∷ []) to in
                rw (ne_eqb s.from n away, eq-eqb s.to n to) (same ∙ ap (λ (l : List ℕ). l ++ j ∷ []) (first n (λ e. away (sym e))))
            | inr far ↦
                let other : get_or (noted once s.to j) n [] ≡ get_or once n [] = get_or-set_other once s.to n (get_or once s.to [] ++ j ∷ []) [] (λ e. far (sym e)) in
                rw (ne_eqb s.from n away, ne_eqb s.to n far) (other ∙ first n (λ e. away (sym e)) ∙ sym (append-nil (get_or lists n [])))
          ]
    ]
