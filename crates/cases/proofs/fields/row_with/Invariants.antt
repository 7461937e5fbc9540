use Rattle.std.proofs.Common.{◌≡◌, ◌++◌, drop, map}
use Rattle.cases.proofs.fields.row_with.Given as goal

-- the fields so far, and then the rest
abbrev pub invariant-loop-field : goal.invariant-loop-field
invariant-loop-field l = l.row ++ map (λ field. field.now) (drop l.field-index l.fields) ≡ map (λ field. field.now) l.fields
