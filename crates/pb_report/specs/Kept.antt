-- Inside. Certificates that are kept, at most one for each node.
use Rattle.std.specs.Prelude.{◌≡◌, List, Option, All, IfSome, length}
use Rattle.pb_rows.specs.declared.name.Names.{Names}
use Rattle.pb_graph.specs.declared.records.Witness.{Witness}
use Rattle.pb_report.specs.Certificate.{certificate_values}
use Rattle.pb_report.specs.Given.{given_certificate}
use Rattle.pb_report.specs.declared.certificate.Certificate.{Certificate}
use Rattle.pb_report.specs.declared.certificate.Kept.{Kept}

-- a certificate was made from a witness, with these names
abbrev pub IsOf : Names → Witness → Certificate → Type 0
IsOf names witness certificate = given_certificate certificate ≡ certificate_values names witness

-- each was made from its witness, and there is a place for each node
pub record AreKept (names : Names) (kept : List (Option Kept)) : Type 0 where
  pub places : length kept ≡ length names.nodes
  pub each : All (λ (place : Option Kept). IfSome place (λ (it : Kept). IsOf names it.witness.now it.certificate)) kept
