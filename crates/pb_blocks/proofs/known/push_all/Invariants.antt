use Rattle.std.proofs.Common.{◌≡◌, ◌++◌, drop}
use Rattle.pb_blocks.proofs.known.push_all.Given as goal

abbrev pub invariant-loop-name : goal.invariant-loop-name
invariant-loop-name l = l.fn.list ++ l.names ≡ l.list ++ drop l.name-index l.names
