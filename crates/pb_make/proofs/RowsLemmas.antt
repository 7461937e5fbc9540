-- Texts of rows, one more row at a time.
use Rattle.std.proofs.Common.{◌≡◌, ◌∙◌, ℕ, ◌+◌, ◌<◌, List, [], ◌∷◌, ◌++◌, ℤ, length, get_or, drop, sym, ap, append_assoc, append-nil}
use Rattle.std.specs.Prelude.{map}
use Rattle.std.specs.List.{range_with_len}
use Rattle.std.proofs.lemmas.Grind.{flat_map-append}
use Rattle.std.proofs.lemmas.List.FromFn.{map-range_with_len_more}
use Rattle.pb_fixed.proofs.Lists.{drop_next}
use Rattle.pb_rows.specs.Written.{AddsLine, line_of, text_of_rows}
use Rattle.pb_make.specs.declared.plant.MadeStream.{MadeStream}
use Rattle.pb_make.specs.Rows.{made_stream_row, reading_row, reading_row_at}
use Rattle.pb_make.specs.Readings.{stream_read, truth_at}
use Rattle.pb_make.proofs.Abbreviations.{reading_draw, stream_rows}

-- one more row at the end
pub row_more : (front text : List ℕ) (rows : List (List (List ℕ))) (row : List (List ℕ)) → text ≡ front ++ text_of_rows rows → text ++ line_of row ≡ front ++ text_of_rows (rows ++ row ∷ [])
row_more front text rows row so_far =
    ap (λ (t : List ℕ). t ++ line_of row) so_far ∙ append_assoc front (text_of_rows rows) (line_of row)
    ∙ ap (λ (t : List ℕ). front ++ t) (sym (flat_map-append line_of rows (row ∷ []) ∙ ap (λ (t : List ℕ). text_of_rows rows ++ t) (append-nil (line_of row))))

-- one more row of a list made by number
pub made_more : (f : ℕ → List (List ℕ)) (first n j : ℕ) (front old new : List ℕ) → first + n ≡ j → AddsLine old new (f j) → old ≡ front ++ text_of_rows (map f (range_with_len first n))
    → new ≡ front ++ text_of_rows (map f (range_with_len first (n + 1)))
made_more f first n j front old new at adds so_far =
    adds ∙ row_more front old (map f (range_with_len first n)) (f j) so_far
    ∙ ap (λ (rows : List (List (List ℕ))). front ++ text_of_rows rows) (sym (map-range_with_len_more f first n j at))

-- one remaining row fewer
pub stream_next : (front old new : List ℕ) (streams : List MadeStream) (k : ℕ) (d : MadeStream) → k < length streams → AddsLine old new (made_stream_row (k + 1) (get_or streams k d))
    → old ++ text_of_rows (stream_rows (k + 1) (drop k streams)) ≡ front
    → new ++ text_of_rows (stream_rows (k + 1 + 1) (drop (k + 1) streams)) ≡ front
stream_next front old new streams k d within adds so_far =
    let line = line_of (made_stream_row (k + 1) (get_or streams k d)) in
    let rest = text_of_rows (stream_rows (k + 1 + 1) (drop (k + 1) streams)) in
    ap (λ (t : List ℕ). t ++ rest) adds ∙ append_assoc old line rest
    ∙ ap (λ (left : List MadeStream). old ++ text_of_rows (stream_rows (k + 1) left)) (sym (drop_next streams k d within)) ∙ so_far

-- one more item of a list made by number
pub item_more : {X : Type 0} (f : ℕ → X) (first n j : ℕ) (xs ys : List X) (x : X) → ys ≡ xs ++ x ∷ [] → xs ≡ map f (range_with_len first n) → x ≡ f j → first + n ≡ j
    → ys ≡ map f (range_with_len first (n + 1))
item_more f first n j xs ys x pushed so_far is at =
    pushed ∙ ap (λ l. l ++ x ∷ []) so_far ∙ ap (λ y. map f (range_with_len first n) ++ y ∷ []) is ∙ sym (map-range_with_len_more f first n j at)

-- the row of a reading is that of its place
pub reading_is : (number sides place : ℕ) (truth : ℤ) (draw : ℕ) (plant : List MadeStream) (old new : List ℕ) → truth ≡ truth_at plant (stream_read place)
    → draw ≡ reading_draw number sides place → AddsLine old new (reading_row place truth draw) → AddsLine old new (reading_row_at number sides plant place)
reading_is number sides place truth draw plant old new truth_is draw_is adds =
    adds ∙ ap (λ (t : ℤ). old ++ line_of (reading_row place t draw)) truth_is
    ∙ ap (λ (d : ℕ). old ++ line_of (reading_row place (truth_at plant (stream_read place)) d)) draw_is

-- the parts of a session, one after another
pub joined : (units streams middle readings : List (List (List ℕ))) (last : List (List ℕ)) (a b c d e f : List ℕ) → a ≡ [] → b ≡ a ++ text_of_rows units → c ≡ b ++ text_of_rows streams
    → d ≡ c ++ text_of_rows middle → e ≡ d ++ text_of_rows readings → AddsLine e f last → f ≡ text_of_rows ((units ++ (streams ++ (middle ++ readings))) ++ last ∷ [])
joined units streams middle readings last a b c d e f a_is b_is c_is d_is e_is adds =
    let at_e : e ≡ [] ++ text_of_rows (units ++ (streams ++ (middle ++ readings))) = e_is
    ∙ ap (λ (t : List ℕ). t ++ text_of_rows readings) (d_is ∙ ap (λ (t : List ℕ). t ++ text_of_rows middle) (c_is ∙ ap (λ (t : List ℕ). t ++ text_of_rows streams) (b_is ∙ ap (λ (t : List ℕ). t ++ text_of_rows units) a_is)))
    ∙ regroup (text_of_rows units) (text_of_rows streams) (text_of_rows middle) (text_of_rows readings)
    ∙ sym (flat_map-append line_of units (streams ++ (middle ++ readings)) ∙ ap (λ (t : List ℕ). text_of_rows units ++ t) (flat_map-append line_of streams (middle ++ readings) ∙ ap (λ (t : List ℕ). text_of_rows streams ++ t) (flat_map-append line_of middle readings))) in
    adds ∙ row_more [] e (units ++ (streams ++ (middle ++ readings))) last at_e
  where
    regroup : (u s m r : List ℕ) → ((u ++ s) ++ m) ++ r ≡ u ++ (s ++ (m ++ r))
    regroup u s m r = simp append_assoc
