-- Rows that are taken one after another: what is stored after each.
use Rattle.std.proofs.Common.{◌≡◌, ◌<◌, ◌∙◌, ℕ, ◌++◌, ◌∷◌, [], List, false, ℤ, None, Ok, ap, ap₂, refl, sym, subst, arith, inl, inr, append-nil}
use Rattle.std.specs.Prelude.{nat_le}
use Rattle.std.proofs.lemmas.Bool.{cases_Bool, leb-true}
use Rattle.std.proofs.lemmas.List.Elements.{filter_map-append}
use Rattle.std.proofs.lemmas.List.Sums.{fold_push}
use Rattle.pb_site.specs.declared.declared.Declared.{Declared}
use Rattle.pb_site.specs.declared.declared.Declared.TheVariants.{Version2}
use Rattle.pb_site.specs.declared.declared.Version.{Version}
use Rattle.pb_site.specs.declared.declared.Version.TheVariants.{One}
use Rattle.pb_site.specs.Site.{version_of}
use Rattle.pb_facts.specs.declared.fact.Fact.{Fact}
use Rattle.pb_facts.specs.declared.facts.KeptFact.{KeptFact}
use Rattle.pb_facts.specs.declared.assays.Assay.{Assay}
use Rattle.pb_kinds.specs.declared.rows.Effect.{Effect}
use Rattle.pb_kinds.specs.declared.rows.Effect.TheVariants.{Declares, Opens, Books}
use Rattle.pb_kinds.specs.declared.rows.Request.TheVariants.{Store}
use Rattle.pb_kinds.specs.Costs.{named_costs}
use Rattle.pb_kinds.specs.Requests.{request_in}
use Rattle.pb_periods.specs.declared.period.Period.{Period}
use Rattle.pb_book.specs.Assays.{assay_by, assays_of}
use Rattle.pb_book.specs.Answer.{Stores, after, after_answer, answer_if, answer_of, is_refused, unless_refused}
use Rattle.pb_book.specs.Refusals.{is_book_full, is_closed, is_duplicate, is_mismatch, is_out_of_order, is_out_of_range, is_sealed, is_unknown, refusal_behind, refusal_of}
use Rattle.pb_kinds.specs.declared.rows.StoredRow.{StoredRow}
use Rattle.pb_book.specs.Rows.{declaration_in, declared_of, facts_after, facts_of, periods_after, periods_of, version_at}

-- what is stored so far
pub record IsAt (rows : List StoredRow) (declared : List Declared) (kept : List KeptFact) (periods : List Period) : Type 0 where
  pub version_is : version_of declared ≡ One
  pub declared_is : declared_of rows ≡ declared
  pub kept_is : facts_of rows ≡ kept
  pub periods_is : periods_of rows ≡ periods
  pub assays_is : assays_of rows ≡ []

pub none_stored : IsAt [] [] [] []
none_stored = record { version_is = refl; declared_is = refl; kept_is = refl; periods_is = refl; assays_is = refl }

-- no cause to refuse a row of a session of version 1
pub record HasNoCause (declared : List Declared) (kept : List KeptFact) (periods : List Period) (effect : Effect) : Type 0 where
  pub known : is_unknown declared kept periods effect ≡ false
  pub new : is_duplicate declared kept periods [] effect ≡ false
  pub ordered : is_out_of_order declared effect ≡ false
  pub matching : is_mismatch declared kept periods effect ≡ false
  pub unsealed : is_sealed One periods effect ≡ false
  pub still_open : is_closed One declared periods effect ≡ false
  pub in_range : is_out_of_range One declared kept periods effect ≡ false
  pub room : is_book_full One declared kept periods [] effect ≡ false

no_refusal : (declared : List Declared) (kept : List KeptFact) (periods : List Period) (effect : Effect) → HasNoCause declared kept periods effect → refusal_behind One declared kept periods [] effect ≡ None
no_refusal declared kept periods effect none = rw (none.known, none.new, none.ordered, none.matching, none.unsealed, none.still_open, none.in_range, none.room) refl

-- no cause to refuse it after the stored rows
none_behind : (rows : List StoredRow) (declared : List Declared) (kept : List KeptFact) (periods : List Period) (effect : Effect) → IsAt rows declared kept periods
    → HasNoCause declared kept periods effect → refusal_of rows effect ≡ None
none_behind rows declared kept periods effect is none =
    ap (λ (d : List Declared). refusal_behind (version_of d) d (facts_of rows) (periods_of rows) (assays_of rows) effect) is.declared_is
    ∙ ap (λ (v : Version). refusal_behind v declared (facts_of rows) (periods_of rows) (assays_of rows) effect) is.version_is
    ∙ ap (λ (k : List KeptFact). refusal_behind One declared k (periods_of rows) (assays_of rows) effect) is.kept_is
    ∙ ap (λ (p : List Period). refusal_behind One declared kept p (assays_of rows) effect) is.periods_is
    ∙ ap (λ (a : List Assay). refusal_behind One declared kept periods a effect) is.assays_is ∙ no_refusal declared kept periods effect none

-- a record that is taken, and what is stored after it
pub record IsTaken (rows : List StoredRow) (at : ℕ) (fields : List (List ℕ)) (declared : List Declared) (kept : List KeptFact) (periods : List Period) : Type 0 where
  pub fine : is_refused (answer_of rows fields) ≡ false
  pub next : IsAt (after rows at fields) declared kept periods

-- more declarations leave the version
version_stays : (declared more : List Declared) → version_of declared ≡ One → version_of more ≡ One → version_of (declared ++ more) ≡ One
version_stays [] more first rest = rest
version_stays (Version2 ∷ declared) more first rest = cc first
version_stays (row ∷ declared) more first rest = refl

-- what one more stored row adds
stored_is : (rows : List StoredRow) (at : ℕ) (effect : Effect) (declared more : List Declared) (kept : List KeptFact) (periods : List Period) → IsAt rows declared kept periods
    → declared_of (record { at = at; effect = effect } ∷ []) ≡ more → assays_of (record { at = at; effect = effect } ∷ []) ≡ [] → version_of more ≡ One
    → IsAt (rows ++ record { at = at; effect = effect } ∷ []) (declared ++ more) (facts_after kept effect) (periods_after periods effect)
stored_is rows at effect declared more kept periods is declared_is bare first =
    let stored : StoredRow = record { at = at; effect = effect } in
    record {
      version_is = version_stays declared more is.version_is first;
      declared_is = filter_map-append (λ (s : StoredRow). declaration_in s.effect) rows (stored ∷ []) ∙ ap₂ (λ (a b : List Declared). a ++ b) is.declared_is declared_is;
      kept_is = fold_push (λ (k : List KeptFact) (s : StoredRow). facts_after k s.effect) [] rows stored ∙ ap (λ (k : List KeptFact). facts_after k effect) is.kept_is;
      periods_is = fold_push (λ (p : List Period) (s : StoredRow). periods_after p s.effect) [] rows stored ∙ ap (λ (p : List Period). periods_after p effect) is.periods_is;
      assays_is = filter_map-append (λ (s : StoredRow). assay_by s.effect) rows (stored ∷ []) ∙ ap₂ (λ (a b : List Assay). a ++ b) is.assays_is bare;
    }

-- a record that asks to store a row which has no cause against it is taken
store : (rows : List StoredRow) (at : ℕ) (fields : List (List ℕ)) (effect : Effect) (declared more : List Declared) (kept : List KeptFact) (periods : List Period) → IsAt rows declared kept periods
    → request_in (version_at rows) fields ≡ Ok (Store effect) → HasNoCause declared kept periods effect → declared_of (record { at = at; effect = effect } ∷ []) ≡ more
    → assays_of (record { at = at; effect = effect } ∷ []) ≡ [] → version_of more ≡ One → IsTaken rows at fields (declared ++ more) (facts_after kept effect) (periods_after periods effect)
store rows at fields effect declared more kept periods is asks none declared_is bare first =
    let answer : answer_of rows fields ≡ Stores effect =
    ap (answer_if rows (named_costs fields)) asks ∙ ap (unless_refused (Stores effect)) (none_behind rows declared kept periods effect is none) in
    let joined : after rows at fields ≡ rows ++ record { at = at; effect = effect } ∷ [] = ap (after_answer rows at) answer in
    record {
      fine = ap is_refused answer;
      next = subst (λ (r : List StoredRow). IsAt r (declared ++ more) (facts_after kept effect) (periods_after periods effect)) (sym joined)
          (stored_is rows at effect declared more kept periods is declared_is bare first);
    }

-- with no more declarations
no_more : (rows : List StoredRow) (at : ℕ) (fields : List (List ℕ)) (declared : List Declared) (kept : List KeptFact) (periods : List Period)
    → IsTaken rows at fields (declared ++ []) kept periods → IsTaken rows at fields declared kept periods
no_more rows at fields declared kept periods taken = record {
  fine = taken.fine;
  next = record {
    version_is = subst (λ (d : List Declared). version_of d ≡ One) (append-nil declared) taken.next.version_is;
    declared_is = taken.next.declared_is ∙ append-nil declared;
    kept_is = taken.next.kept_is;
    periods_is = taken.next.periods_is;
    assays_is = taken.next.assays_is;
  };
}

-- a declaration
pub store_declaration : (rows : List StoredRow) (at : ℕ) (fields : List (List ℕ)) (row : Declared) (declared : List Declared) (kept : List KeptFact) (periods : List Period)
    → IsAt rows declared kept periods → request_in (version_at rows) fields ≡ Ok (Store (Declares row)) → HasNoCause declared kept periods (Declares row) → version_of (row ∷ []) ≡ One
    → IsTaken rows at fields (declared ++ row ∷ []) kept periods
store_declaration rows at fields row declared kept periods is asks none first =
    store rows at fields (Declares row) declared (row ∷ []) kept periods is asks none refl refl first

-- a period
pub store_period : (rows : List StoredRow) (at : ℕ) (fields : List (List ℕ)) (name : List ℕ) (first last : ℤ) (declared : List Declared) (kept : List KeptFact) (periods : List Period)
    → IsAt rows declared kept periods → request_in (version_at rows) fields ≡ Ok (Store (Opens name first last)) → HasNoCause declared kept periods (Opens name first last)
    → IsTaken rows at fields declared kept (periods ++ record { name = name; first = first; last = last; closed = false } ∷ [])
store_period rows at fields name first last declared kept periods is asks none =
    no_more rows at fields declared kept (periods ++ record { name = name; first = first; last = last; closed = false } ∷ [])
    (store rows at fields (Opens name first last) declared [] kept periods is asks none refl refl refl)

-- a fact
pub store_fact : (rows : List StoredRow) (at : ℕ) (fields : List (List ℕ)) (fact : Fact) (declared : List Declared) (kept : List KeptFact) (periods : List Period)
    → IsAt rows declared kept periods → request_in (version_at rows) fields ≡ Ok (Store (Books fact false)) → HasNoCause declared kept periods (Books fact false)
    → IsTaken rows at fields declared (kept ++ record { fact = fact; struck = false } ∷ []) periods
store_fact rows at fields fact declared kept periods is asks none =
    no_more rows at fields declared (kept ++ record { fact = fact; struck = false } ∷ []) periods
    (store rows at fields (Books fact false) declared [] kept periods is asks none refl refl refl)

-- fewer than there may be
pub fewer : (a b : ℕ) → b < a → nat_le a b ≡ false
fewer a b lt = elim (cases_Bool (nat_le a b)) [ inl passes ↦ absurd (omega (arith, leb-true a b passes)) | inr fails ↦ fails ]
