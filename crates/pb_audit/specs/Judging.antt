-- Inside. The verdict on one block, and the places that have names.
use Rattle.std.specs.Prelude.{◌≡◌, ◌<◌, ℕ, List, [], ◌∷◌, ◌++◌, length}
use Rattle.pb_rows.specs.declared.name.Names.{Names}
use Rattle.pb_readback.specs.declared.block.Block.{Block}
use Rattle.pb_check.specs.declared.faults.Place.{Place}
use Rattle.pb_check.specs.declared.faults.Place.TheVariants.{Node, Stream, Whole}
use Rattle.pb_check.specs.Verdict.{IsFirstFault}
use Rattle.pb_audit.specs.declared.judge.Judged.{Judged}
use Rattle.pb_audit.specs.Judgement.{Finding, IsPassedBlock, failed, passed, unreadable}
use Rattle.pb_audit.specs.Next.{judged_of, text_of_findings}

-- the node or stream at a place has a name
abbrev pub IsPlaceOf : Names → Place → Type 0
IsPlaceOf names (Node node) = node < length names.nodes
IsPlaceOf names (Stream stream) = stream < length names.streams
IsPlaceOf names Whole = Unit {0}

-- the finding is the verdict on a block
abbrev pub IsVerdictOn : Block → Finding → Type 0
IsVerdictOn block (passed other) = (other ≡ block) × IsPassedBlock block
IsVerdictOn block (failed other test place stated found) =
    (other ≡ block) × IsFirstFault block.stage block.gap block.sweeps test place stated found
IsVerdictOn block (unreadable number fault) = ⊥

-- A text gains the row of the verdict on a block.
pub record AppendsVerdict (block : Block) (judged : Judged) (before after : List ℕ) : Type 0 where
  pub finding : Finding
  pub is : judged ≡ judged_of finding
  pub on : IsVerdictOn block finding
  pub appended : after ≡ before ++ text_of_findings (finding ∷ [])
