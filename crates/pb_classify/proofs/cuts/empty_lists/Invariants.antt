use Rattle.std.proofs.Common.{◌≡◌, [], replicate}
use Rattle.pb_classify.proofs.cuts.empty_lists.Given as goal

-- as many empty lists as turns of the loop
abbrev pub invariant-loop-label : goal.invariant-loop-label
invariant-loop-label l = l.lists.items ≡ replicate l._label []
