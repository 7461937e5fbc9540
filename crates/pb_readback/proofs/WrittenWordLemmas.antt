-- Rows of any kinds begin with a word, and so do the rows of a study.
use Rattle.std.specs.Prelude.{map, slice_get}
use Rattle.std.specs.Option.{option_map, option_to_list}
use Rattle.std.specs.List.{list_all}
use Rattle.std.proofs.Common.{◌≡◌, ◌∙◌, ℕ, ◌+◌, All, List, [], ◌∷◌, ◌++◌, length, true, Option, None, Some, refl, ap}
use Rattle.std.proofs.lemmas.Bool.{and_from}
use Rattle.std.proofs.lemmas.List.{map-append}
use Rattle.std.proofs.lemmas.List.Elements.{All-head, All-tail}
use Rattle.std.proofs.lemmas.List.Folds.{list_all-append}
use Rattle.pb_form.specs.OutputRows.{output_columns}
use Rattle.pb_form.specs.TextLaws.{OutputWordLaw}
use Rattle.pb_form.specs.Texts.{texts_of}
use Rattle.pb_form.specs.Value.{Value, Word}
use Rattle.pb_rows.specs.declared.name.Names.{Names}
use Rattle.pb_rows.specs.Written.{begins_with_word}
use Rattle.pb_study.specs.declared.results.Options.{Options}
use Rattle.pb_study.specs.declared.results.Stage.{Stage}
use Rattle.pb_study.specs.declared.results.Stop.{Stop}
use Rattle.pb_study.specs.declared.results.Taken.{Taken}
use Rattle.pb_study.specs.declared.results.Tests.{Tests}
use Rattle.pb_report.specs.Block.{block_rows, end_row, node_row, result_row, solved_row}
use Rattle.pb_report.specs.Row.{OutputRow, fields_of}
use Rattle.pb_report.specs.Rows.{rows_with}
use Rattle.pb_report.specs.Study.{round_rows, stage_rows, stop_row}
use Rattle.pb_report.specs.Tests.{measure_row, nodal_row, tests_rows}
use Rattle.pb_readback.specs.Written.{BeginWithWords, HasKindWord, RowWordsLaw, records_in}

words_both : (front back : List OutputRow) → BeginWithWords front → BeginWithWords back → BeginWithWords (front ++ back)
words_both front back first second =
    ap (λ (rows : List (List (List ℕ))). list_all begins_with_word rows) (map-append fields_of front back)
    ∙ (list_all-append begins_with_word (records_in front) (records_in back) ∙ and_from (list_all begins_with_word (records_in front)) (list_all begins_with_word (records_in back)) first second)

-- rows of pairs, each of which begins with a word
words_with : {A B : Type 0} (row : ℕ → A → B → OutputRow) → ((i : ℕ) (x : A) (y : B) → begins_with_word (fields_of (row i x y)) ≡ true) → (i : ℕ) (xs : List A) (ys : List B)
    → BeginWithWords (rows_with row i xs ys)
words_with row each i [] ys = refl
words_with row each i (x ∷ xs) [] = refl
words_with row each i (x ∷ xs) (y ∷ ys) =
    and_from (begins_with_word (fields_of (row i x y))) (list_all begins_with_word (records_in (rows_with row (i + 1) xs ys))) (each i x y) (words_with row each (i + 1) xs ys)

words_of : {A : Type 0} (row : A → OutputRow) → ((x : A) → begins_with_word (fields_of (row x)) ≡ true) → (xs : List A) → BeginWithWords (map row xs)
words_of row each [] = refl
words_of row each (x ∷ xs) = and_from (begins_with_word (fields_of (row x))) (list_all begins_with_word (records_in (map row xs))) (each x) (words_of row each xs)

test_words : (names : Names) (tests : Option Tests) → BeginWithWords (tests_rows names tests)
test_words names None = refl
test_words names (Some tests) =
    words_both (map (nodal_row names) tests.nodal) (map (measure_row names) tests.measure) (words_of (nodal_row names) (λ test. refl) tests.nodal)
    (words_of (measure_row names) (λ test. refl) tests.measure)

block_words : (names : Names) (period : List ℕ) (options : Options) (round : ℕ) (stage : Stage) → BeginWithWords (block_rows names period options round stage)
block_words names period options round stage =
    let tail = words_both (tests_rows names stage.tests) (end_row period round ∷ []) (test_words names stage.tests) refl in
    words_both (rows_with (λ n name price. node_row name price) 0 names.nodes stage.prices) (rows_with (result_row names) 0 stage.graph.streams stage.streams ++ (solved_row stage ∷ (tests_rows names stage.tests ++ end_row period round ∷ [])))
    (words_with (λ n name price. node_row name price) (λ n name price. refl) 0 names.nodes stage.prices)
    (words_both (rows_with (result_row names) 0 stage.graph.streams stage.streams) (solved_row stage ∷ (tests_rows names stage.tests ++ end_row period round ∷ []))
    (words_with (result_row names) (λ i stream result. refl) 0 stage.graph.streams stage.streams) tail)

round_words : (names : Names) (period : List ℕ) (options : Options) (round : ℕ) (taken : List Taken) (stages : List Stage) → BeginWithWords (round_rows names period options round taken stages)
round_words names period options round [] stages = refl
round_words names period options round (suspect ∷ taken) [] = refl
round_words names period options round (suspect ∷ taken) (stage ∷ stages) =
    words_both (block_rows names period options round stage) (round_rows names period options (round + 1) taken stages) (block_words names period options round stage)
    (round_words names period options (round + 1) taken stages)

stage_words : (names : Names) (period : List ℕ) (options : Options) (taken : List Taken) (stages : List Stage) → BeginWithWords (stage_rows names period options taken stages)
stage_words names period options taken [] = refl
stage_words names period options taken (stage ∷ stages) =
    words_both (block_rows names period options 0 stage) (round_rows names period options 1 taken stages) (block_words names period options 0 stage)
    (round_words names period options 1 taken stages)

stop_words : (period : List ℕ) (rounds : ℕ) (stop : Option Stop) → BeginWithWords (option_to_list (option_map (stop_row period rounds) stop))
stop_words period rounds None = refl
stop_words period rounds (Some reason) = refl

-- rows that have the words of their kinds
kind_words : OutputWordLaw → (rows : List OutputRow) → All HasKindWord rows → BeginWithWords rows
kind_words law [] all = refl
kind_words law (row ∷ rows) all =
    and_from (begins_with_word (fields_of row)) (list_all begins_with_word (records_in rows)) (by row.values (All-head HasKindWord row rows all))
    (kind_words law rows (All-tail HasKindWord row rows all))
  where
    by : (values : List Value) → slice_get values 0 ≡ Some (Word 0) → begins_with_word (texts_of (output_columns row.kind) values) ≡ true
    by [] word = cc word
    by (first ∷ values) word =
        let same : first ≡ Word 0 = cc word in
        rw same (law row.kind values)

pub all_words : OutputWordLaw → RowWordsLaw
all_words law = record {
  rows = kind_words law;
  studies = λ names period options study.
      words_both (stage_rows names period options study.taken study.stages) (option_to_list (option_map (stop_row period (length study.taken)) study.stop))
      (stage_words names period options study.taken study.stages) (stop_words period (length study.taken) study.stop);
}
