use Rattle.std.proofs.Common.{◌≡◌, ℕ, ◌<◌, [], take, get_or, length}
use Rattle.pb_graph.specs.Neighbours.{touching}
use Rattle.pb_graph.proofs.neighbours.note_all.Given as goal

-- the lists are those of the streams so far
abbrev pub invariant-loop-j : goal.invariant-loop-j
invariant-loop-j l = record {
  each : length l.lists ≡ length l.fn.lists;
  so_far : (n : ℕ) → n < length l.fn.lists → get_or l.lists n [] ≡ touching n (take l.j l.streams);
}
