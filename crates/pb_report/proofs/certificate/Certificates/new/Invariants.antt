use Rattle.std.proofs.Common.{◌≡◌, length}
use Rattle.std.specs.Prelude.{All, IfSome, Option}
use Rattle.pb_report.specs.Kept.{IsOf}
use Rattle.pb_report.specs.declared.certificate.Kept.{Kept}
use Rattle.pb_report.proofs.certificate.Certificates.new.Given as goal

abbrev pub invariant-loop : goal.invariant-loop
invariant-loop l = record {
  places : length l.kept.items ≡ l.counter;
  each : All (λ (place : Option Kept). IfSome place (λ (it : Kept). IsOf l.names it.witness.now it.certificate)) l.kept.items;
}
