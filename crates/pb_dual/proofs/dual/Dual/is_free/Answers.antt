use Rattle.std.proofs.Common.{◌≡◌, ◌∙◌, ◌==◌, ◌<◌, false, [], length, refl, ap, sym, arith}
use Rattle.std.specs.Prelude.{nat_lt}
use Rattle.std.proofs.lemmas.Bool.{ne_eqb}
use Rattle.std.proofs.lemmas.List.{get_or_default}
use Rattle.pb_graph.specs.Groups.{is_free_group, group_count}
use Rattle.pb_dual.specs.Border.{border_of}
use Rattle.pb_dual.specs.Priced.{Priced}
use Rattle.pb_dual.proofs.DualLaws.{free_by_border}
use Rattle.pb_dual.proofs.dual.Dual.is_free.Goals as goal

pub returns-then-group-ne0-clause-value : goal.returns-then-group-ne0-clause-value
returns-then-group-ne0-clause-value c =
    let k = c.args.group in
    let d : Priced = record { graph = c.self.inside.graph.now; group = c.self.inside.group.items; prices = c.self.inside.prices.items } in
    let border = c.self.inside.borders.items in
    let h = c.self.invariant in
    let view : d ≡ c.args.self.now = c.self.view_is in
    let lt : k < length border = omega (arith, h.around.each, c.requires, ap (λ (p : Priced). group_count p.group) view) in
    let size : c.len.result ≡ length (border_of d.group k d.graph.streams) =
    c.len.ensures ∙ ap length (c.index.ensures ∙ get_or_default border k c.index.result.now [] lt ∙ h.around.are k lt) in
    let apart : (0 == k) ≡ false = ne_eqb 0 k (λ e. c.if-group-ne0.true (sym e)) in
    let free : is_free_group d.group d.graph.streams k ≡ nat_lt 0 (length (border_of d.group k d.graph.streams)) = free_by_border d k h.priced ∙ rw apart refl in
    ap (nat_lt 0) size ∙ sym free ∙ ap (λ (p : Priced). is_free_group p.group p.graph.streams k) view
