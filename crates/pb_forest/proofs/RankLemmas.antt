use Rattle.std.proofs.Common.{◌≡◌, ◌∙◌, ℕ, suc, ◌+◌, ◌<◌, ◌≤◌, Bool, true, false, ◌&&◌, List, ◌∷◌, length, get_or, drop, cond, ap, ap₂, arith, drop-cons}
use mir.Val.{bool_byte}
use Rattle.pb_graph.specs.declared.records.Stream.{Stream}
use Rattle.pb_graph.specs.ProcessGraph.{is_measured}
use Rattle.pb_forest.specs.Forest.{degrees_of_freedom}

-- the rest of a list from a place on is the item there and the rest after it
drop_next : {A : Type 0} (xs : List A) (i : ℕ) (d : A) → i < length xs → drop i xs ≡ get_or xs i d ∷ drop (i + 1) xs
drop_next xs i d lt =
    let next : suc i ≡ i + 1 = omega arith in
    drop-cons xs i d lt ∙ ap (λ k. get_or xs i d ∷ drop k xs) next

-- the count of the streams from a place on is the count of the stream there and of those after it
pub degrees_next : (ss : List Stream) (held : List Bool) (j : ℕ) (s : Stream) (h : Bool) → j < length ss → length held ≡ length ss
    → degrees_of_freedom (drop j ss) (drop j held) ≡ cond (is_measured (get_or ss j s) && get_or held j h) 1 0 + degrees_of_freedom (drop (j + 1) ss) (drop (j + 1) held)
degrees_next ss held j s h lt each = ap₂ degrees_of_freedom (drop_next ss j s lt) (drop_next held j h (omega (arith, lt, each)))

-- a stream that counts makes the count one greater
pub count_next : (count byte rest whole j : ℕ) (b : Bool) → byte ≡ bool_byte b → count + (cond b 1 0 + rest) ≡ whole → count ≤ j
    → (count + byte + rest ≡ whole) × (count + byte ≤ j + 1)
count_next count byte rest whole j true is so_far small = (omega (arith, is, so_far), omega (arith, is, small))
count_next count byte rest whole j false is so_far small = (omega (arith, is, so_far), omega (arith, is, small))
