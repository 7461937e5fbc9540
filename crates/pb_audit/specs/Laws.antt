-- Statement. Records have one judgement, each block that gets a yes is certified, and the program's own reports get nothing else.
use Rattle.std.specs.Prelude.{◌≡◌, ◌<◌, ℕ, Bool, List, [], length, map, All}
use Rattle.pb_readback.specs.declared.block.Block.{Block}
use Rattle.pb_readback.specs.Next.{AreBlocks}
use Rattle.pb_check.specs.Laws.{IsSound}
use Rattle.pb_audit.specs.Judgement.{AreFindings, Finding, Finds, FindsNothing, IsJudgement, IsPassedBlock, passed}

-- the judgement of records, whatever it finds
abbrev pub IsJudgementText : List (List (List ℕ)) → List ℕ → Type 0
IsJudgementText records text = (wrong : Bool) × IsJudgement wrong records text

-- the findings in records exist; there may be none
abbrev pub SomeFindingsLaw : Type 0
SomeFindingsLaw = (at : ℕ) (records : List (List (List ℕ))) → (findings : List Finding) × AreFindings at records findings

-- and they are unique
abbrev pub OneFindingsLaw : Type 0
OneFindingsLaw =
    (at : ℕ) (records : List (List (List ℕ))) (one other : List Finding)
    → AreFindings at records one → AreFindings at records other → one ≡ other

-- a block that passes is certified, and its state is converged exactly when its gap is met
abbrev pub IsCertifiedFinding : Finding → Type 0
IsCertifiedFinding (passed block) = IsSound block.stage block.gap
IsCertifiedFinding finding = Unit {0}

-- each block that passes is certified
abbrev pub CertifiedFindingsLaw : Type 0
CertifiedFindingsLaw =
    (at : ℕ) (records : List (List (List ℕ))) (findings : List Finding) → AreFindings at records findings
    → All IsCertifiedFinding findings

-- after a finding fewer records are left
abbrev pub FewerLaw : Type 0
FewerLaw =
    (at : ℕ) (records behind : List (List (List ℕ))) (finding : Finding) → Finds at records finding behind
    → length behind < length records

-- nothing is found if no record is left
abbrev pub NothingLaw : Type 0
NothingLaw = (at : ℕ) → FindsNothing at []

-- if records are blocks that pass, and rows between them, nothing else is found
abbrev pub PassedLaw : Type 0
PassedLaw =
    (at : ℕ) (records : List (List (List ℕ))) (blocks : List Block) → AreBlocks records blocks → All IsPassedBlock blocks
    → AreFindings at records (map (λ block. passed block) blocks)
