use Rattle.std.proofs.Common.{◌≡◌, ◌++◌, string_bytes, drop}
use Rattle.pb_report.specs.Certificate.{spaced, names_in}
use Rattle.pb_report.proofs.PieceLemmas.{rest_of}
use Rattle.pb_report.proofs.parts.side_text.Given as goal

abbrev pub invariant-loop-node : goal.invariant-loop-node
invariant-loop-node l =
    spaced (λ name. name) (names_in l.side l.nodes) ≡ string_bytes l.text ++ rest_of (λ name. name) l.first (names_in (drop l.node l.side) (drop l.node l.nodes))
