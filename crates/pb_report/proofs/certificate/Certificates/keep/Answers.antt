use Rattle.std.proofs.Common.{◌∙◌}
use Rattle.std.specs.Prelude.{IfSome, Option}
use Rattle.std.proofs.lemmas.List.{length-set}
use Rattle.std.proofs.lemmas.List.Elements.{All-set}
use Rattle.pb_report.specs.Kept.{IsOf}
use Rattle.pb_report.specs.declared.certificate.Kept.{Kept}
use Rattle.pb_report.proofs.certificate.Certificates.keep.Goals as goal

pub invariant_of-self : goal.invariant_of-self
invariant_of-self c =
    let kept = c.self.invariant in
    record {
      places = length-set c.self.inside.kept.items c.args.node _ ∙ kept.places;
      each =
          All-set (λ (place : Option Kept). IfSome place (λ (it : Kept). IsOf c.self.inside.names.now it.witness.now it.certificate))
          c.self.inside.kept.items c.args.node _ (rw (← c.self.view_is) at c.requires.certificate) kept.each;
    }
