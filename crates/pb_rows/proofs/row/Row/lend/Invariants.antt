use Rattle.std.proofs.Common.{◌≡◌, Bor, ℕ, List, length, map, take}
use Rattle.pb_rows.proofs.row.Row.lend.Given as goal

abbrev pub invariant-loop-i : goal.invariant-loop-i
invariant-loop-i l = record {
  long : length l.places ≡ length l.fn.places;
  so_far : map (λ (field : Bor (List ℕ)). field.now) (take l.i l.places) ≡ take l.i l.self;
}
