-- What is found next, by what was read and judged.
use Rattle.std.proofs.Common.{◌≡◌, ℕ, ◌+◌, ◌-◌, List, [], ◌∷◌, ◌++◌, length, Some, ap, sym, refl, subst, arith}
use Rattle.pb_rows.specs.RecordsLeft.{RecordsLeft}
use Rattle.pb_readback.specs.declared.block.Block.{Block}
use Rattle.pb_blocks.specs.declared.fault.RowFault.{RowFault}
use Rattle.pb_readback.specs.Next.{AreCounted, Found, IsNext, Refused}
use Rattle.pb_check.specs.Verdict.{IsFirstFault}
use Rattle.pb_audit.specs.declared.judge.Judged.{Judged}
use Rattle.pb_audit.specs.declared.judge.Judged.TheVariants.{Passed, Failed, Unreadable}
use Rattle.pb_audit.specs.Judgement.{Finding, Finds, IsPassedBlock, failed, passed, unreadable}
use Rattle.pb_audit.specs.Judging.{AppendsVerdict, IsVerdictOn}
use Rattle.pb_audit.specs.Next.{AppendsFinding, GoesOn, TakesNoMore, judged_of, text_of_findings}
use Rattle.pb_check.proofs.CheckLaws.{sound}
use Rattle.pb_readback.proofs.ReadbackLaws.{formed_holds}
use Rattle.pb_audit.proofs.FindingLemmas.{fewer_behind, passed_sound}

goes_on : (old new : RecordsLeft) (judged : Judged) (finding : Finding) → judged ≡ judged_of finding → Finds old.taken old.left finding new.left
    → new.taken + length new.left ≡ old.taken + length old.left → GoesOn old new new.left judged
goes_on old new judged finding is found counted =
    let taken : new.taken ≡ old.taken + (length old.left - length new.left) = omega (arith, counted, fewer_behind old.taken old.left new.left finding found) in
    by judged (ap (λ (t : ℕ). record { taken = t; left = new.left }) taken)
  where
    by : (kind : Judged) → new ≡ record { taken = old.taken + (length old.left - length new.left); left = new.left } → GoesOn old new new.left kind
    by Passed same = same
    by Failed same = same
    by Unreadable same = tt

-- a block was read and judged
pub block_next : (old new : RecordsLeft) (block : Block) (judged : Judged) (before after : List ℕ) → IsNext old.taken old.left (Found block new.left)
    → new.taken + length new.left ≡ old.taken + length old.left → AppendsVerdict block judged before after → AppendsFinding old new (Some judged) before after
block_next old new block judged before after next counted verdict = by verdict.finding verdict.is verdict.on verdict.appended
  where
    with : (finding : Finding) → judged ≡ judged_of finding → Finds old.taken old.left finding new.left → TakesNoMore old new finding → after ≡ before ++ text_of_findings (finding ∷ [])
        → AppendsFinding old new (Some judged) before after
    with finding is found no_more appended = record {
      text = text_of_findings (finding ∷ []);
      tells = record {
        finding = finding;
        behind = new.left;
        found = found;
        is = is;
        text_is = refl;
        goes_on = goes_on old new judged finding is found counted;
        no_more = no_more;
      };
      appended = appended;
    }

    by : (finding : Finding) → judged ≡ judged_of finding → IsVerdictOn block finding → after ≡ before ++ text_of_findings (finding ∷ []) → AppendsFinding old new (Some judged) before after
    by (passed other) is (same, passes) appended =
        let found : IsNext old.taken old.left (Found other new.left) = subst (λ (b : Block). IsNext old.taken old.left (Found b new.left)) (sym same) next in
        let holds : IsPassedBlock other = subst (λ (b : Block). IsPassedBlock b) (sym same) passes in
        with (passed other) is (found, holds, passed_sound formed_holds sound old.taken old.left new.left other found holds) tt appended
    by (failed other test place stated found) is (same, first) appended =
        with (failed other test place stated found) is (
          subst (λ (b : Block). IsNext old.taken old.left (Found b new.left)) (sym same) next,
          subst (λ (b : Block). IsFirstFault b.stage b.gap b.sweeps test place stated found) (sym same) first,
        ) tt appended
    by (unreadable number fault) is on appended = absurd on

-- a row can't be read
pub row_next : (old new : RecordsLeft) (number : ℕ) (fault : RowFault) (before after : List ℕ) → IsNext old.taken old.left (Refused number fault new.left) → AreCounted old new
    → after ≡ before ++ text_of_findings (unreadable number fault ∷ []) → AppendsFinding old new (Some Unreadable) before after
row_next old new number fault before after next counted appended = record {
  text = text_of_findings (unreadable number fault ∷ []);
  tells = record {
    finding = unreadable number fault;
    behind = [];
    found = ((new.left, next), refl);
    is = refl;
    text_is = refl;
    goes_on = tt;
    no_more = (next, counted);
  };
  appended = appended;
}
