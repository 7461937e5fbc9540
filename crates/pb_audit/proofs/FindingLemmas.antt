-- What is found in records: something, and nothing else.
use Rattle.std.proofs.Common.{◌≡◌, ◌∙◌, ◌⊎◌, inl, inr, ℕ, ℤ, zero, suc, ◌+◌, ◌-◌, ◌<◌, ◌≤◌, List, [], ◌∷◌, ◌++◌, length, map, All, ap, ap₂, sym, refl, subst, arith, length-append}
use Rattle.std.proofs.lemmas.List.Elements.{All-cons, All-head, All-nil, All-tail}
use Rattle.pb_readback.specs.declared.block.Block.{Block}
use Rattle.pb_blocks.specs.declared.fault.RowFault.{RowFault}
use Rattle.pb_readback.specs.Laws.{FormedBlockLaw, NextLaw}
use Rattle.pb_readback.specs.Next.{AreBlocks, Found, IsFound, IsNext, Next, NoBlock, Refused}
use Rattle.pb_check.specs.declared.faults.Place.{Place}
use Rattle.pb_check.specs.declared.faults.Test.{Test}
use Rattle.pb_check.specs.Verdict.{IsFirstFault}
use Rattle.pb_check.specs.Laws.{IsSound, SoundLaw}
use Rattle.pb_check.specs.VerdictLaws.{HasFault, NotBothLaw, OneFaultLaw, SomeVerdictLaw}
use Rattle.pb_audit.specs.Judgement.{AreFindings, Finding, Finds, IsPassedBlock, failed, passed, unreadable}
use Rattle.pb_audit.specs.Laws.{IsCertifiedFinding}

abbrev Record : Type 0
Record = List (List ℕ)

-- ---- fewer records are left

fewer_found : (records rest : List Record) (block : Block) → IsFound records block rest → length rest < length records
fewer_found records rest block found =
    let whole = ap (λ (l : List Record). length l) found.split in
    omega (arith, whole, length-append found.passed (found.first ∷ (found.rows ++ rest)), length-append found.rows rest)

some_refused : (at : ℕ) (records left : List Record) (number : ℕ) (fault : RowFault) → IsNext at records (Refused number fault left) → 0 < length records
some_refused at records left number fault r =
    omega (arith, ap (λ (l : List Record). length l) r.split, length-append r.passed (r.first ∷ r.behind))

pub fewer_behind : (at : ℕ) (records behind : List Record) (finding : Finding) → Finds at records finding behind → length behind < length records
fewer_behind at records behind (passed block) found = fewer_found records behind block found.0
fewer_behind at records behind (failed block test place stated what) found = fewer_found records behind block found.0
fewer_behind at records behind (unreadable number fault) found =
    omega (arith, some_refused at records found.0.0 number fault found.0.1, ap (λ (l : List Record). length l) found.1)

-- ---- a block that passes is certified

pub passed_sound : FormedBlockLaw → SoundLaw → (at : ℕ) (records behind : List Record) (block : Block) → IsNext at records (Found block behind) → IsPassedBlock block → IsSound block.stage block.gap
passed_sound formed sound at records behind block found passes =
    let fine = formed records behind block found in
    sound block.stage block.gap block.sweeps fine.graph fine.formed passes

-- ---- something is found

-- what is found in the records after a block, and so with it
with_block : FormedBlockLaw → SoundLaw → (at : ℕ) (records rest : List Record) (block : Block) → IsFound records block rest → IsPassedBlock block ⊎ HasFault block.stage block.gap block.sweeps
    → (findings : List Finding) × AreFindings (at + (length records - length rest)) rest findings → (findings : List Finding) × AreFindings at records findings
with_block formed sound at records rest block found (inl passes) (findings, are) =
    (passed block ∷ findings, (rest, (found, passes, passed_sound formed sound at records rest block found passes), are))
with_block formed sound at records rest block found (inr fault) (findings, are) =
    (failed block fault.test fault.place fault.stated fault.found ∷ findings, (rest, (found, fault.is), are))

some_of : NextLaw → FormedBlockLaw → SoundLaw → SomeVerdictLaw → (n at : ℕ) (records : List Record) → length records ≤ n → (findings : List Finding) × AreFindings at records findings
some_of next formed sound verdict zero at [] le = ([], refl)
some_of next formed sound verdict zero at (r ∷ records) le = absurd (omega (arith, le))
some_of next formed sound verdict (suc n) at records le =
    by (next.some at records) (λ rest fewer. some_of next formed sound verdict n (at + (length records - length rest)) rest (omega (arith, le, fewer)))
  where
    by : (next : Next) × IsNext at records next
        → ((rest : List Record) → length rest < length records → (findings : List Finding) × AreFindings (at + (length records - length rest)) rest findings)
        → (findings : List Finding) × AreFindings at records findings
    by (NoBlock, is) behind = ([], is)
    by (Found block rest, is) behind =
        let fine = formed records rest block is in
        with_block formed sound at records rest block is (verdict block.stage block.gap block.sweeps fine.graph fine.formed) (behind rest (fewer_found records rest block is))
    by (Refused number fault left, is) behind = (unreadable number fault ∷ [], ([], ((left, is), refl), refl))

pub some_findings : NextLaw → FormedBlockLaw → SoundLaw → SomeVerdictLaw → (at : ℕ) (records : List Record) → (findings : List Finding) × AreFindings at records findings
some_findings next formed sound verdict at records = some_of next formed sound verdict (length records) at records (omega arith)

-- ---- nothing else is found

-- What the laws say of blocks, and of what comes next.
pub record AreSettled : Type 0 where
  pub next : NextLaw
  pub formed : FormedBlockLaw
  pub apart : NotBothLaw
  pub only : OneFaultLaw

abbrev fault_of : (block : Block) (test : Test) (place : Place) (stated found : ℤ) → IsFirstFault block.stage block.gap block.sweeps test place stated found
    → HasFault block.stage block.gap block.sweeps
fault_of block test place stated found is = record { test = test; place = place; stated = stated; found = found; is = is }

-- what is found first, and what is left after it
record Same (one other : Finding) (behind left : List Record) : Type 0 where
  finding : one ≡ other
  rest : behind ≡ left

same_found : AreSettled → (at : ℕ) (records : List Record) (one other : Finding) (behind left : List Record) → Finds at records one behind → Finds at records other left
    → Same one other behind left
same_found law at records (passed b) (passed c) behind left p q =
    let e = law.next.only at records (Found b behind) (Found c left) p.0 q.0 in
    let block : b ≡ c = cc e in
    record { finding = ap (λ (x : Block). passed x) block; rest = cc e }
same_found law at records (passed b) (failed c test place stated found) behind left p q =
    let e = law.next.only at records (Found b behind) (Found c left) p.0 q.0 in
    let block : b ≡ c = cc e in
    let fine = law.formed records left c q.0 in
    absurd
    (law.apart c.stage c.gap c.sweeps fine.graph fine.formed (subst (λ (x : Block). IsPassedBlock x) block p.1) (fault_of c test place stated found q.1))
same_found law at records (passed b) (unreadable number fault) behind left p q =
    let e = law.next.only at records (Found b behind) (Refused number fault q.0.0) p.0 q.0.1 in
    cc e
same_found law at records (failed b test place stated found) (passed c) behind left p q =
    let e = law.next.only at records (Found b behind) (Found c left) p.0 q.0 in
    let block : b ≡ c = cc e in
    let fine = law.formed records behind b p.0 in
    absurd
    (law.apart b.stage b.gap b.sweeps fine.graph fine.formed (subst (λ (x : Block). IsPassedBlock x) (sym block) q.1) (fault_of b test place stated found p.1))
same_found law at records (failed b test place stated found) (failed c other elsewhere given had) behind left p q =
    let e = law.next.only at records (Found b behind) (Found c left) p.0 q.0 in
    let block : b ≡ c = cc e in
    let here = subst (λ (x : Block). IsFirstFault x.stage x.gap x.sweeps other elsewhere given had) (sym block) q.1 in
    let fine = law.formed records behind b p.0 in
    let (tests, places, states, finds) =
    law.only b.stage b.gap b.sweeps (fault_of b test place stated found p.1) (fault_of b other elsewhere given had here) fine.graph fine.formed in
    record { finding = λ i. failed (block i) (tests i) (places i) (states i) (finds i); rest = cc e }
same_found law at records (failed b test place stated found) (unreadable number fault) behind left p q =
    let e = law.next.only at records (Found b behind) (Refused number fault q.0.0) p.0 q.0.1 in
    cc e
same_found law at records (unreadable number fault) (passed c) behind left p q =
    let e = law.next.only at records (Refused number fault p.0.0) (Found c left) p.0.1 q.0 in
    cc e
same_found law at records (unreadable number fault) (failed c test place stated found) behind left p q =
    let e = law.next.only at records (Refused number fault p.0.0) (Found c left) p.0.1 q.0 in
    cc e
same_found law at records (unreadable number fault) (unreadable another cause) behind left p q =
    let e = law.next.only at records (Refused number fault p.0.0) (Refused another cause q.0.0) p.0.1 q.0.1 in
    let numbers : number ≡ another = cc e in
    let faults : fault ≡ cause = cc e in
    record { finding = λ i. unreadable (numbers i) (faults i); rest = p.1 ∙ sym q.1 }

-- if nothing is to be found, nothing is found
none_found : NextLaw → (at : ℕ) (records : List Record) (finding : Finding) (behind : List Record) → IsNext at records NoBlock → Finds at records finding behind → ⊥
none_found next at records (passed block) behind none found = let e = next.only at records NoBlock (Found block behind) none found.0 in cc e
none_found next at records (failed block test place stated what) behind none found = let e = next.only at records NoBlock (Found block behind) none found.0 in cc e
none_found next at records (unreadable number fault) behind none found = let e = next.only at records NoBlock (Refused number fault found.0.0) none found.0.1 in cc e

pub one_findings : AreSettled → (at : ℕ) (records : List Record) (one other : List Finding) → AreFindings at records one → AreFindings at records other → one ≡ other
one_findings law at records [] [] p q = refl
one_findings law at records [] (g ∷ gs) p (left, has, rest) = absurd (none_found law.next at records g left p has)
one_findings law at records (f ∷ fs) [] (behind, is, more) q = absurd (none_found law.next at records f behind q is)
one_findings law at records (f ∷ fs) (g ∷ gs) (behind, is, more) (left, has, rest) =
    let same = same_found law at records f g behind left is has in
    let there = subst (λ (l : List Record). AreFindings (at + (length records - length l)) l gs) (sym same.rest) rest in
    ap₂ (λ (x : Finding) (xs : List Finding). x ∷ xs) same.finding
    (one_findings law (at + (length records - length behind)) behind fs gs more there)

-- ---- each block that passes is certified

pub certified_findings : (at : ℕ) (records : List Record) (findings : List Finding) → AreFindings at records findings → All IsCertifiedFinding findings
certified_findings at records [] are = All-nil IsCertifiedFinding
certified_findings at records (passed block ∷ findings) (behind, found, more) =
    All-cons IsCertifiedFinding (passed block) findings found.2 (certified_findings (at + (length records - length behind)) behind findings more)
certified_findings at records (failed block test place stated what ∷ findings) (behind, found, more) =
    All-cons IsCertifiedFinding (failed block test place stated what) findings tt (certified_findings (at + (length records - length behind)) behind findings more)
certified_findings at records (unreadable number fault ∷ findings) (behind, found, more) =
    All-cons IsCertifiedFinding (unreadable number fault) findings tt (certified_findings (at + (length records - length behind)) behind findings more)

-- ---- records that are blocks which pass

pub passed_findings : FormedBlockLaw → SoundLaw → (at : ℕ) (records : List Record) (blocks : List Block) → AreBlocks records blocks → All IsPassedBlock blocks
    → AreFindings at records (map (λ (block : Block). passed block) blocks)
passed_findings formed sound at records [] are pass = are
passed_findings formed sound at records (block ∷ blocks) (rest, found, more) pass =
    let passes = All-head IsPassedBlock block blocks pass in (
      rest,
      (found, passes, passed_sound formed sound at records rest block found passes),
      passed_findings formed sound (at + (length records - length rest)) rest blocks more (All-tail IsPassedBlock block blocks pass),
    )
