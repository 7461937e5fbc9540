-- Rows that were accepted, and one more.
use Rattle.std.specs.Prelude.{filter_map, All, take, is_none, not, option_and_then, is_some}
use Rattle.std.specs.List.{list_any}
use Rattle.std.proofs.Common.{◌≡◌, ◌≢◌, ◌⊎◌, ◌∙◌, ℕ, ◌<◌, true, List, [], ◌∷◌, ◌++◌, length, slice_get, Some, Result, Ok, Err, refl, sym, ap, subst, arith, inl, inr, length-append, append_assoc}
use Rattle.std.proofs.lemmas.Bool.{cases_lt}
use Rattle.std.proofs.lemmas.List.{append-nil, take-append-le}
use Rattle.std.proofs.lemmas.Option.{get_or_from_slice_get, slice_get-get_or, slice_get_within}
use Rattle.std.proofs.Math.ListN.{get_or-append}
use Rattle.std.proofs.Math.Seq.{get_or-append_seam, take-append_seam}
use Rattle.pb_form.specs.declared.fault.FormFault.{FormFault}
use Rattle.pb_kinds.specs.declared.rows.Request.{Request}
use Rattle.pb_kinds.specs.declared.rows.Request.TheVariants as asked
use Rattle.pb_book.specs.Accepted.{AreAccepted, IsAcceptable}
use Rattle.pb_book.specs.Answer.{Answer, after, after_answer, answer_if, answer_to, Stores}
use Rattle.pb_kinds.specs.Costs.{named_costs}
use Rattle.pb_kinds.specs.Laws.{StoredLaw}
use Rattle.pb_kinds.specs.Ranges.{IsRequestInRange}
use Rattle.pb_kinds.specs.Requests.{request_in}
use Rattle.pb_kinds.specs.Versions.{may_ask}
use Rattle.pb_kinds.specs.declared.costs.NamedCost.{NamedCost}
use Rattle.pb_book.specs.declared.answer.Accepted.{Accepted}
use Rattle.pb_book.specs.declared.answer.NotAccepted.{NotAccepted}
use Rattle.pb_book.specs.declared.answer.NotAccepted.TheVariants.{NoMemory}
use Rattle.pb_kinds.specs.declared.rows.StoredRow.{StoredRow}
use Rattle.pb_book.specs.Rows.{version_at}
use Rattle.pb_book.proofs.AnswerLemmas.{AnswersTo, answers_to}

the_same : {X : Type 0} (a b : X) → Some a ≡ Some b → a ≡ b
the_same a b is = ap (λ o. Rattle.std.specs.Prelude.unwrap_or o a) is

-- no row
pub none_accepted : AreAccepted []
none_accepted i stored is = cc is

-- one more row
pub accepted_more : (rows : List StoredRow) (stored : StoredRow) → AreAccepted rows → IsAcceptable rows stored.effect → AreAccepted (rows ++ stored ∷ [])
accepted_more rows stored right fine i row is = elim (cases_lt i (length rows)) [
  | inl before ↦
      let here : slice_get rows i ≡ Some row =
      slice_get-get_or rows i row before ∙ sym (ap Some (get_or-append rows (stored ∷ []) row i before)) ∙ ap Some (get_or_from_slice_get (rows ++ stored ∷ []) i row row is) in
      rw (take-append-le i rows (stored ∷ []) (omega (arith, before))) (right i row here)
  | inr past ↦
      let within : i < length (rows ++ stored ∷ []) = slice_get_within (rows ++ stored ∷ []) i row is in
      let last : i ≡ length rows = omega (arith, within, past, length-append rows (stored ∷ [])) in
      let last_is : slice_get (rows ++ stored ∷ []) (length rows) ≡ Some row = rw last at is in
      let row_is : stored ≡ row = sym (get_or-append_seam rows stored [] row) ∙ get_or_from_slice_get (rows ++ stored ∷ []) (length rows) row row last_is in
      rw (last, take-append_seam rows (stored ∷ []), ← row_is) fine
]

-- the rows after a request
accepted_to : (rows : List StoredRow) (at : ℕ) (costs : List NamedCost) (request : Request) → AreAccepted rows → IsRequestInRange request → may_ask (version_at rows) request ≡ true
    → AreAccepted (after_answer rows at (answer_to rows costs request))
accepted_to rows at costs request right range may = by (answer_to rows costs request) (answers_to rows costs request)
  where
    by : (answer : Answer) → AnswersTo rows request answer → AreAccepted (after_answer rows at answer)
    by (Stores effect) (is, none) =
        accepted_more rows (record { at = at; effect = effect }) right
        (record { no_cause = none; in_range = subst IsRequestInRange is range; may = subst (λ (r : Request). may_ask (version_at rows) r ≡ true) is may })
    by answer is = right

-- the rows after a record
pub accepted_after : StoredLaw → (rows : List StoredRow) (at : ℕ) (fields : List (List ℕ)) → AreAccepted rows → AreAccepted (after rows at fields)
accepted_after law rows at fields right = by (request_in (version_at rows) fields) refl
  where
    range : (request : Request) → request_in (version_at rows) fields ≡ Ok request → IsRequestInRange request
    range (asked.Store effect) is = law.in_range (version_at rows) fields effect is
    range request is = tt

    may : (request : Request) → request_in (version_at rows) fields ≡ Ok request → may_ask (version_at rows) request ≡ true
    may (asked.Store effect) is = law.of_version (version_at rows) fields effect is
    may request is = refl

    by : (request : Result Request FormFault) → request_in (version_at rows) fields ≡ request → AreAccepted (after_answer rows at (answer_if rows (named_costs fields) request))
    by (Err fault) is = right
    by (Ok request) is = accepted_to rows at (named_costs fields) request right (range request is) (may request is)

-- so are those of a book that is out of memory, which stay the same
memory : (result : Result Accepted NotAccepted) → (result ≡ Err NoMemory) ⊎ (result ≢ Err NoMemory)
memory (Ok accepted) = inr (λ is. cc is)
memory (Err (NotAccepted.Refused cause)) = inr (λ is. cc is)
memory (Err NoMemory) = inl refl

pub accepted_answer : (rows new : List StoredRow) (at : ℕ) (costs : List NamedCost) (request : Request) (result : Result Accepted NotAccepted) → AreAccepted rows
    → IsRequestInRange request → may_ask (version_at rows) request ≡ true → (result ≢ Err NoMemory → new ≡ after_answer rows at (answer_to rows costs request))
    → (result ≡ Err NoMemory → new ≡ rows) → AreAccepted new
accepted_answer rows new at costs request result right range may stored same = elim (memory result) [
  | inl none ↦ subst AreAccepted (sym (same none)) right
  | inr some ↦ subst AreAccepted (sym (stored some)) (accepted_to rows at costs request right range may)
]

-- all rows, one after the other: what holds for no rows and still holds if a row joins the others
grown : (P : List StoredRow → Type 0) → ((rows : List StoredRow) (stored : StoredRow) → P rows → IsAcceptable rows stored.effect → P (rows ++ stored ∷ []))
    → (before rest : List StoredRow) → P before → AreAccepted (before ++ rest) → P (before ++ rest)
grown P step before [] right accepted = subst P (sym (append-nil before)) right
grown P step before (stored ∷ rest) right accepted =
    let here = get_or-append_seam before stored rest stored in
    let own : IsAcceptable before stored.effect =
    rw (take-append_seam before (stored ∷ rest)) at (accepted (length before) stored (slice_get-get_or (before ++ stored ∷ rest) (length before) stored (omega (arith, length-append before (stored ∷ rest))) ∙ ap Some here)) in
    let split : (before ++ stored ∷ []) ++ rest ≡ before ++ stored ∷ rest = append_assoc before (stored ∷ []) rest in
    subst P split (grown P step (before ++ stored ∷ []) rest (step before stored right own) (subst AreAccepted (sym split) accepted))

pub by_accepted : (P : List StoredRow → Type 0) → P [] → ((rows : List StoredRow) (stored : StoredRow) → P rows → IsAcceptable rows stored.effect → P (rows ++ stored ∷ []))
    → (rows : List StoredRow) → AreAccepted rows → P rows
by_accepted P begin step rows accepted = grown P step [] rows begin accepted
