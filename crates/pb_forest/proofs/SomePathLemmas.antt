-- If a walk leads from one node to another, a path does too: what lies between two visits of a node is left out.
use Rattle.std.proofs.Common.{◌≡◌, ◌∙◌, ℕ, Bool, true, false, not, ◌==◌, List, [], ◌∷◌, Some, sym, refl, subst, inl, inr}
use Rattle.std.specs.List.{list_any}
use Rattle.std.proofs.lemmas.Bool.{cases_Bool, cases_eq, and_from, not_from_false, ne_eqb, eqb-true}
use Rattle.pb_graph.specs.declared.records.Stream.{Stream}
use Rattle.pb_graph.specs.declared.records.Step.{Step}
use Rattle.pb_graph.specs.Walk.{ends_of, Walks}
use Rattle.pb_graph.specs.Cycle.{is_distinct, begin_of}
use Rattle.pb_graph.specs.Path.{IsPath}
use Rattle.pb_forest.specs.Laws.{SomePathLaw}
use Rattle.pb_forest.proofs.PathLemmas.{begin_is, path_rest}

-- a path that begins a step at a node is a path from there on
path_from : (may : ℕ → Stream → Bool) (nodes : ℕ) (ss : List Stream) (a b c : ℕ) (steps : List Step) → IsPath (ends_of may ss) nodes ss c steps b
    → list_any (λ y. begin_of nodes ss y == a) steps ≡ true → (path : List Step) × IsPath (ends_of may ss) nodes ss a path b
path_from may nodes ss a b c [] path some = cc some
path_from may nodes ss a b c (t ∷ rest) path some =
    let (d, e, later) = path_rest (ends_of may ss) nodes ss c b t rest path in
    elim (cases_Bool (begin_of nodes ss t == a)) [
      | inl here ↦
          let same : c ≡ a = sym (begin_is may nodes ss t c d e) ∙ eqb-true (begin_of nodes ss t) a here in
          (t ∷ rest, subst (λ (n : ℕ). IsPath (ends_of may ss) nodes ss n (t ∷ rest) b) same path)
      | inr other ↦ path_from may nodes ss a b d rest later (rw other at some)
    ]

-- one step before a path
path_more : (may : ℕ → Stream → Bool) (nodes : ℕ) (ss : List Stream) (a b c : ℕ) (t : Step) (steps : List Step) → ends_of may ss t ≡ Some (a, c)
    → IsPath (ends_of may ss) nodes ss c steps b → (path : List Step) × IsPath (ends_of may ss) nodes ss a path b
path_more may nodes ss a b c t steps e path = elim (cases_eq a b) [
  | inl there ↦ ([], record { walk = there; once = refl; last = refl })
  | inr away ↦ elim (cases_Bool (list_any (λ y. begin_of nodes ss y == a) steps)) [
    | inl again ↦ path_from may nodes ss a b c steps path again
    | inr never ↦
        let begin : begin_of nodes ss t ≡ a = begin_is may nodes ss t a c e in
        let once : list_any (λ y. begin_of nodes ss y == begin_of nodes ss t) steps ≡ false =
        subst (λ (n : ℕ). list_any (λ y. begin_of nodes ss y == n) steps ≡ false) (sym begin) never in (
          t ∷ steps,
          record {
            walk = (c, e, path.walk);
            once = and_from (not (list_any (λ y. begin_of nodes ss y == begin_of nodes ss t) steps)) (is_distinct (begin_of nodes ss) steps)
                (not_from_false (list_any (λ y. begin_of nodes ss y == begin_of nodes ss t) steps) once) path.once;
            last = rw (ne_eqb (begin_of nodes ss t) b (λ z. away (sym begin ∙ z))) path.last;
          },
        )
  ]
]

path_of : (may : ℕ → Stream → Bool) (nodes : ℕ) (ss : List Stream) (a b : ℕ) (steps : List Step) → Walks (ends_of may ss) a steps b
    → (path : List Step) × IsPath (ends_of may ss) nodes ss a path b
path_of may nodes ss a b [] w = ([], record { walk = w; once = refl; last = refl })
path_of may nodes ss a b (t ∷ rest) (c, e, w) =
    let (steps, path) = path_of may nodes ss c b rest w in
    path_more may nodes ss a b c t steps e path

pub some_path_law : SomePathLaw
some_path_law streams may nodes a b (steps, w) = path_of may nodes streams a b steps w
