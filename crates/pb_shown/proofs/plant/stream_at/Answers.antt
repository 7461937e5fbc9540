use Rattle.std.proofs.Common.{◌≡◌, ◌∙◌, List, Option, Some, ap, subst, sym}
use Rattle.std.specs.Prelude.{IsSomeAnd, slice_get}
use Rattle.pb_site.specs.Site.{arcs_of}
use Rattle.pb_site.specs.declared.declared.Arc.{Arc}
use Rattle.pb_site.specs.declared.declared.Declared.{Declared}
use Rattle.pb_book.specs.Rows.{declared_of}
use Rattle.pb_shown.specs.Plant.{ShowsStream}
use Rattle.pb_shown.proofs.plant.stream_at.Goals as goal

-- the stream that is shown is the one at the place
pub returns : goal.returns
returns c =
    let is : slice_get (arcs_of (declared_of c.args.book.now)) c.args.place ≡ Some c.arc.result =
    ap (λ (d : List Declared). slice_get (arcs_of d) c.args.place) (sym c.site-site.ensures.value) ∙ c.arc.ensures.value in
    subst (λ (o : Option Arc). IsSomeAnd o (λ (arc : Arc). ShowsStream arc c.shown_stream.result)) (sym is) c.shown_stream.ensures
