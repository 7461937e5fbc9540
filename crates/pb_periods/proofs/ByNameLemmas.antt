-- The period of a name, found as the first of that name.
use Rattle.std.specs.Prelude.{◌&&◌, position}
use Rattle.std.specs.List.{list_any}
use Rattle.std.proofs.Common.{◌≡◌, ◌∙◌, ℕ, List, get_or, Bool, true, false, Some, refl, sym, ap, inl, inr}
use Rattle.std.proofs.lemmas.Bool.{and_parts, cases_Bool}
use Rattle.std.proofs.lemmas.List.{get_or_default}
use Rattle.std.proofs.lemmas.List.Folds.{list_any_at, list_any_none}
use Rattle.pb_periods.specs.declared.period.Period.{Period}
use Rattle.pb_periods.specs.Apart.{AreApart, is_named}
use Rattle.pb_periods.proofs.PeriodLemmas.{fails_at, only_named, position_at_first}

-- whether the period of a name passes a test, by the first of that name
pub passes_by_name : (q : Period → Bool) (name : List ℕ) (periods : List Period) (i : ℕ) (d : Period) → AreApart periods → Some i ≡ position (is_named name) periods
    → q (get_or periods i d) ≡ list_any (λ (period : Period). is_named name period && q period) periods
passes_by_name q name periods i d apart is =
    let found = position_at_first (is_named name) periods i d is in
    elim (cases_Bool (q (get_or periods i d))) [
      | inl passes ↦ passes ∙ sym (list_any_at both periods i d found.0 (rw (found.1, passes) refl))
      | inr fails ↦ fails ∙ sym (list_any_none both periods (λ k e lt. elim (cases_Bool (both (get_or periods k e))) [
        | inl passes ↦
            let parts = and_parts (is_named name (get_or periods k e)) (q (get_or periods k e)) passes in
            let named_at : is_named name (get_or periods i e) ≡ true = rw (get_or_default periods i d e found.0) at found.1 in
            let same = only_named name periods i k e apart found.0 named_at lt parts.0 in
            let own : q (get_or periods i e) ≡ true = rw same at parts.1 in
            cc (sym fails ∙ ap q (get_or_default periods i d e found.0) ∙ own)
        | inr other ↦ other
      ]))
    ]
  where
    both : Period → Bool
    both period = is_named name period && q period

pub fails_by_name : (q : Period → Bool) (name : List ℕ) (periods : List Period) → list_any (is_named name) periods ≡ false
    → list_any (λ (period : Period). is_named name period && q period) periods ≡ false
fails_by_name q name periods none = list_any_none (λ (period : Period). is_named name period && q period) periods (λ k e lt. rw (fails_at (is_named name) periods k e none lt) refl)
