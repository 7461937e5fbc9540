use Rattle.std.specs.Prelude.{Some}
use Rattle.std.proofs.Common.{◌≡◌, ◌∙◌, rules}
use Rattle.pb_kinds.proofs.there.reason_there.Goals as goal

pub unwrap-requires : goal.unwrap-requires
unwrap-requires c =
    let some : c.reason.result ≡ Some c.requires.reason = c.reason.ensures ∙ c.requires.is in
    rw some (search rules)
