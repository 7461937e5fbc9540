-- Each list of streams has a spanning forest: for each stream it is decided whether streams before it join its ends.
use Rattle.std.proofs.Common.{◌≡◌, ◌∙◌, ℕ, zero, suc, ◌<◌, ◌≤◌, Bool, true, false, List, [], ◌∷◌, ◌++◌, length, Some, None, slice_get, get_or, sym, refl, subst, inl, inr, arith, length-append}
use Rattle.std.proofs.lemmas.Bool.{cases_eq}
use Rattle.std.proofs.lemmas.List.{get_or_append_left, get_or_push}
use Rattle.std.proofs.lemmas.Option.{slice_get-get_or}
use Rattle.pb_graph.specs.declared.records.Stream.{Stream}
use Rattle.pb_graph.specs.ProcessGraph.{is_measured}
use Rattle.pb_graph.specs.Walk.{ends_of, Reaches}
use Rattle.pb_graph.proofs.WalkLemmas.{some_same}
use Rattle.pb_forest.specs.Forest.{is_before, IsDecided}
use Rattle.pb_forest.specs.Laws.{SomeForestLaw}
use Rattle.pb_graph.proofs.ReachLemmas.{IsDecidable, reach_decided}

mark_by : (ss : List Stream) (j : ℕ) (s : Stream) → slice_get ss j ≡ Some s → IsDecidable (Reaches (ends_of (is_before (is_measured s) j) ss) s.from s.to)
    → (b : Bool) × IsDecided ss j b
mark_by ss j s at joined =
    let moved : (t : Stream) → slice_get ss j ≡ Some t → s ≡ t = λ t there. some_same (sym at ∙ there) in
    elim joined [
      | inl r ↦ (
        false,
        record {
          apart = λ e. cc e;
          tied = λ e t there. subst (λ (u : Stream). Reaches (ends_of (is_before (is_measured u) j) ss) u.from u.to) (moved t there) r;
        },
      )
      | inr apart ↦ (
        true,
        record {
          apart = λ e t there r. apart (subst (λ (u : Stream). Reaches (ends_of (is_before (is_measured u) j) ss) u.from u.to) (sym (moved t there)) r);
          tied = λ e. cc e;
        },
      )
    ]

-- the first n streams with their marks
record HasMarks (ss : List Stream) (n : ℕ) : Type 0 where
  held : List Bool
  each : length held ≡ n
  decided : (j : ℕ) → j < n → IsDecided ss j (get_or held j false)

some_marks : (ss : List Stream) (n : ℕ) → n ≤ length ss → HasMarks ss n
some_marks ss zero le = record { held = []; each = refl; decided = λ j lt. absurd (omega (arith, lt)) }
some_marks ss (suc n) le =
    let less = some_marks ss n (omega (arith, le)) in
    let s : Stream = get_or ss n (record { from = 0; to = 0; meas = None }) in
    let (b, mark) = mark_by ss n s (slice_get-get_or ss n _ (omega (arith, le))) (reach_decided ss (is_before (is_measured s) n) s.from s.to) in
    record {
      held = less.held ++ b ∷ [];
      each = omega (arith, length-append less.held (b ∷ []), less.each);
      decided = λ j lt. elim (cases_eq j n) [
        | inl e ↦ subst (λ (x : Bool). IsDecided ss j x) (sym (get_or_push less.held b false j (less.each ∙ sym e))) (subst (λ (i : ℕ). IsDecided ss i b) (sym e) mark)
        | inr ne ↦
            let within : j < n = omega (arith, lt, ne) in
            subst (λ (x : Bool). IsDecided ss j x) (sym (get_or_append_left less.held (b ∷ []) false j (omega (arith, within, less.each)))) (less.decided j within)
      ];
    }

pub some_forest_law : SomeForestLaw
some_forest_law streams =
    let made = some_marks streams (length streams) (omega arith) in
    (made.held, record { each = made.each; decided = made.decided })
