use Rattle.std.specs.Option.{option_map_or}
use Rattle.std.proofs.Common.{◌≡◌, ◌∙◌, Option, true, false, not, ap, sym}
use Rattle.pb_site.specs.declared.declared.ArcKind.{ArcKind}
use Rattle.pb_site.specs.Row.{is_plain_kind}
use Rattle.pb_book.specs.Costs.{names_measured}
use Rattle.pb_book.proofs.CostLemmas.{one_fails, one_passes}
use Rattle.pb_book.proofs.costs.some_measured.Goals as goal

pub returns-then-is_not_plain : goal.returns-then-is_not_plain
returns-then-is_not_plain c =
    let passes : names_measured c.args.site.now c.at.result ≡ true = sym (c.is_not_plain.ensures ∙ ap (λ (kind : Option ArcKind). not (option_map_or is_plain_kind kind false)) c.kind_of.ensures) ∙ c.if-is_not_plain.true in
    one_passes (names_measured c.args.site.now) c.args.named.now c.loop-i.i c.at.result c.at.ensures.value c.loop-i.invariant passes

pub loop-i-preserved : goal.loop-i-preserved
loop-i-preserved c =
    let fails : names_measured c.args.site.now c.at.result ≡ false = sym (c.is_not_plain.ensures ∙ ap (λ (kind : Option ArcKind). not (option_map_or is_plain_kind kind false)) c.kind_of.ensures) ∙ c.if-is_not_plain.false in
    one_fails (names_measured c.args.site.now) c.args.named.now c.loop-i.i c.at.result c.at.ensures.value c.loop-i.invariant fails
