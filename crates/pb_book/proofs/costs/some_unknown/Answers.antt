use Rattle.std.specs.Option.{option_map_or}
use Rattle.std.proofs.Common.{◌≡◌, ◌∙◌, Option, true, false, ap, sym}
use Rattle.pb_site.specs.declared.declared.ArcKind.{ArcKind}
use Rattle.pb_site.specs.Row.{is_inventory}
use Rattle.pb_book.specs.Costs.{names_unknown}
use Rattle.pb_book.proofs.CostLemmas.{one_fails, one_passes}
use Rattle.pb_book.proofs.costs.some_unknown.Goals as goal

pub returns-then-is_no_stream : goal.returns-then-is_no_stream
returns-then-is_no_stream c =
    let passes : names_unknown c.args.site.now c.at.result ≡ true = sym (c.is_no_stream.ensures ∙ ap (λ (kind : Option ArcKind). option_map_or is_inventory kind true) c.kind_of.ensures) ∙ c.if-is_no_stream.true in
    one_passes (names_unknown c.args.site.now) c.args.named.now c.loop-i.i c.at.result c.at.ensures.value c.loop-i.invariant passes

pub loop-i-preserved : goal.loop-i-preserved
loop-i-preserved c =
    let fails : names_unknown c.args.site.now c.at.result ≡ false = sym (c.is_no_stream.ensures ∙ ap (λ (kind : Option ArcKind). option_map_or is_inventory kind true) c.kind_of.ensures) ∙ c.if-is_no_stream.false in
    one_fails (names_unknown c.args.site.now) c.args.named.now c.loop-i.i c.at.result c.at.ensures.value c.loop-i.invariant fails
