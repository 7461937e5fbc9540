use Rattle.std.proofs.Common.{◌≡◌, ◌∙◌, ℕ, List, Ok, ap₂, sym}
use Rattle.pb_form.specs.declared.output.OutputKind.{OutputKind}
use Rattle.pb_blocks.specs.Kinds.{kind_among}
use Rattle.pb_readback.specs.Drafts.{kinds_next}
use Rattle.pb_readback.proofs.ReadingLemmas.{may_come}
use Rattle.pb_readback.proofs.draft.Draft.read.Goals as goal

pub read_as-requires-clause-may : goal.read_as-requires-clause-may
read_as-requires-clause-may c =
    let told : kind_among (kinds_next c.args.self.now) c.args.row.now ≡ Ok c.in-Ok.kind =
    sym (c.kind_among.ensures ∙ ap₂ (λ (kinds : List OutputKind) (row : List (List ℕ)). kind_among kinds row) c.kinds_next.ensures c.all-fields.ensures) ∙ c.in-Ok.is in
    may_come c.args.self.now c.args.row.now c.in-Ok.kind told
