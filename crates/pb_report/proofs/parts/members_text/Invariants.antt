use Rattle.std.proofs.Common.{◌≡◌, ◌++◌, string_bytes, ◌==◌, drop}
use Rattle.pb_report.specs.Certificate.{spaced, member_text}
use Rattle.pb_report.proofs.PieceLemmas.{rest_of}
use Rattle.pb_report.proofs.parts.members_text.Given as goal

abbrev pub invariant-loop-i : goal.invariant-loop-i
invariant-loop-i l = spaced (member_text l.streams) l.members ≡ string_bytes l.text ++ rest_of (member_text l.streams) (l.i == 0) (drop l.i l.members)
