use Rattle.std.proofs.Common.{◌≡◌, ◌∷◌, rules}
use Rattle.pb_rows.specs.Number.{decimal_text}
use Rattle.pb_rows.proofs.TextLaws.{numbered_name}
use Rattle.pb_make.proofs.NameLemmas.{is_read}
use Rattle.pb_make.proofs.rows.numbered.Goals as goal

pub unwrap-requires : goal.unwrap-requires
unwrap-requires c =
    let text : c.deref-2.result.now ≡ c.args.letter ∷ decimal_text c.args.number = search rules in
    is_read c.read.result c.deref-2.result.now (rw text (numbered_name c.args.letter c.args.number c.requires c.ranges.number.fits)) c.read.ensures
