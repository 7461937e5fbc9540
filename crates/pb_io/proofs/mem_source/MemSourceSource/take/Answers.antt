use Rattle.std.proofs.Common.{◌≡◌, ◌∙◌, ◌+◌, ◌-◌, ◌++◌, ℕ, List, ap, sym, arith, length, take, drop, length-drop, take-append-drop}
use Rattle.std.proofs.lemmas.List.{drop-drop, take_all}
use Rattle.pb_io.proofs.mem_source.MemSourceSource.take.Goals as goal

-- what was copied from the place `at` stands in front of what remains from then on
copied_is_front : (xs copied : List ℕ) (at n : ℕ) → copied ≡ take n (drop at xs) → drop at xs ≡ copied ++ drop (at + n) xs
copied_is_front xs copied at n is =
    sym (take-append-drop n (drop at xs)) ∙ ap (λ front. front ++ drop n (drop at xs)) (sym is) ∙ ap (λ rest. copied ++ rest) (drop-drop n at xs)

pub returns-clause-bytes : goal.returns-clause-bytes
returns-clause-bytes c =
    let xs = c.deref-2.result.now in
    let at = c.self.inside.at in
    let n = c.copy_front-count.result in
    let all : take (length xs - at) (drop at xs) ≡ drop at xs = take_all _ _ (omega (arith, length-drop at xs)) in
    let front = copied_is_front xs (take n c.copy_front-count.new.to) at n (rw all at c.copy_front-count.ensures.copied) in
    ap (λ source. source.remaining) (sym c.self.view_is) ∙ rw c.deref-2.ensures.value at front
