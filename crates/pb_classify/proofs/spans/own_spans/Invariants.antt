use Rattle.std.proofs.Common.{◌≡◌, ℕ, ◌<◌, length}
use Rattle.pb_classify.specs.Tables.{span_at}
use Rattle.pb_classify.specs.Spans.{own_span}
use Rattle.pb_classify.proofs.spans.own_spans.Given as goal

-- the spans so far are those of single entries
abbrev pub invariant-loop-i : goal.invariant-loop-i
invariant-loop-i l = record {
  each : length l.spans.items ≡ l.i;
  own : (i : ℕ) → i < l.i → span_at l.spans.items i ≡ own_span i;
}
