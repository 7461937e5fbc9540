use Rattle.std.proofs.Common.{◌∙◌}
use Rattle.pb_rows.specs.Name.{is_name}
use Rattle.pb_rows.proofs.NameLemmas.{same_padded}
use Rattle.pb_rows.proofs.name.NamePartialEq.eq.Goals as goal

pub returns-then-self-other : goal.returns-then-self-other
returns-then-self-other c =
    let one = c.self.inside in
    let other = c.other.inside in
    let same = same_padded is_name 32 one.len other.len one.bytes other.bytes c.self.invariant c.other.invariant c.if-self-other.true in
    rw (← c.self.view_is, ← c.other.view_is) (c.eq.ensures ∙ same)
