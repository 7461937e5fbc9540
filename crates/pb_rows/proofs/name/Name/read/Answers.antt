use Rattle.std.proofs.Common.{◌≡◌, ◌∙◌, ap₂, arith, get_or, sym, true}
use Rattle.std.specs.Prelude.{◌&&◌}
use Rattle.std.proofs.lemmas.List.Folds.{list_all_more}
use Rattle.pb_rows.specs.Name.{is_name_byte}
use Rattle.pb_rows.proofs.NameLemmas.{copied_more, name_fits}
use Rattle.pb_rows.proofs.name.Name.read.Goals as goal

pub loop-i-preserved : goal.loop-i-preserved
loop-i-preserved c =
    let field = c.args.field.now in
    let fits = name_fits field (sym c.has_name_length.ensures ∙ c.if-not-has_name_length.false) in
    let byte : is_name_byte (get_or field c.loop-i.i 0) ≡ true = sym c.is_name_byte.ensures ∙ c.if-not-is_name_byte.false in
    record {
      copied = copied_more 32 c.loop-i.i c.loop-i.bytes field (omega (arith, fits, c.loop-i-test.true)) c.loop-i-test.true c.loop-i.invariant.copied;
      form = list_all_more is_name_byte field c.loop-i.i 0 c.loop-i-test.true ∙ ap₂ ◌&&◌ c.loop-i.invariant.form byte;
    }
