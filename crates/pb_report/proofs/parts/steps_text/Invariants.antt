use Rattle.std.proofs.Common.{◌≡◌, ◌++◌, string_bytes, ◌==◌, drop}
use Rattle.pb_report.specs.Certificate.{spaced, step_text}
use Rattle.pb_report.proofs.PieceLemmas.{rest_of}
use Rattle.pb_report.proofs.parts.steps_text.Given as goal

abbrev pub invariant-loop-i : goal.invariant-loop-i
invariant-loop-i l = spaced (step_text l.streams) l.steps ≡ string_bytes l.text ++ rest_of (step_text l.streams) (l.i == 0) (drop l.i l.steps)
