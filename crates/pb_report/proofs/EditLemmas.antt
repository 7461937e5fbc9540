-- The words of edits.
use Rattle.std.proofs.Common.{◌≡◌, ◌<◌, ℕ, zero, suc, true, false, List, [], ◌∷◌, refl, subst, arith}
use Rattle.std.specs.Prelude.{pos}
use Rattle.pb_form.specs.Value.{Value, Word}
use Rattle.pb_form.specs.Words.{edit_words}
use Rattle.pb_form.specs.Writing.{IsFirst}
use Rattle.pb_facts.specs.declared.fact.Change.TheVariants.{Amount}
use Rattle.pb_facts.specs.declared.fact.Fact.TheVariants.{Reading}
use Rattle.pb_kinds.specs.declared.rows.Edit.TheVariants.{Change, Strike}
use Rattle.pb_kinds.specs.declared.rows.Effect.{Effect}
use Rattle.pb_kinds.specs.declared.rows.Effect.TheVariants.{Declares, Opens, Books, Edits, Closes, Assays}
use Rattle.pb_report.specs.History.{EditWordsLaw, edit_values}

-- the place of a first value
at : (one other : ℕ) (rest others : List Value) → Word one ∷ rest ≡ Word other ∷ others → IsFirst edit_words one → IsFirst edit_words other
at one other rest others same is = let places : one ≡ other = cc same in subst (IsFirst edit_words) places is

word : (effect : Effect) (place : ℕ) (others : List Value) → edit_values effect ≡ Word place ∷ others → IsFirst edit_words place
word (Closes name) place others same = at 0 place _ others same refl
word (Books fact true) place others same = at 1 place _ others same refl
word (Books fact false) place others same = cc same
word (Edits id (Change change) reason) place others same = at 2 place _ others same refl
word (Edits id Strike reason) place others same = at 3 place _ others same refl
word (Declares declared) place others same = cc same
word (Opens name first last) place others same = cc same
word (Assays assay) place others same = cc same

each : (place : ℕ) → place < 4 → (effect : Effect) × (others : List Value) × (edit_values effect ≡ Word place ∷ others)
each zero lt = (Closes [], _, refl)
each (suc zero) lt = (Books (Reading [] [] (pos 0) (pos 0) (pos 0)) true, _, refl)
each (suc (suc zero)) lt = (Edits [] (Change (Amount (pos 0) (pos 0))) [], _, refl)
each (suc (suc (suc zero))) lt = (Edits [] Strike [], _, refl)
each (suc (suc (suc (suc place)))) lt = absurd (omega (arith, lt))

pub edit_words_stand : EditWordsLaw
edit_words_stand = record { word = word; each = each }
