use Rattle.std.specs.Prelude.{Some}
use Rattle.std.proofs.Common.{◌≡◌, ◌∙◌, rules}
use Rattle.pb_kinds.proofs.there.name_there.Goals as goal

pub unwrap-requires : goal.unwrap-requires
unwrap-requires c =
    let some : c.name.result ≡ Some c.requires.name = c.name.ensures ∙ c.requires.is in
    rw some (search rules)
