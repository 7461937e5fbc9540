use Rattle.std.proofs.Common.{◌≡◌, ◌∙◌, ◌<◌, ap, length, subst, sym}
use Rattle.pb_book.specs.Rows.{declared_of}
use Rattle.pb_site.specs.Site.{arcs_of}
use Rattle.plantbal_c.specs.Opened.{Opened}
use Rattle.plantbal_c.proofs.LookLemmas.{done_at}
use Rattle.plantbal_c.proofs.looks.plantbal_session_stream.Goals as goal

-- there is a stream at the place
pub returns-in-Some-clause-there : goal.returns-in-Some-clause-there
returns-in-Some-clause-there c =
    let held : c.in-Some.held.value ≡ c.args.session.now.value = rw c.replace.ensures.value at c.in-Some.ensures.1 in
    let rows : c.book.result.now ≡ c.args.session.now.value.state.rows = c.book.ensures ∙ ap (λ (o : Opened). o.state.rows) (c.deref.ensures ∙ held) in
    λ _ lt. done_at c.stream_at-shown.result c.write.result c.write.new.place (length (arcs_of (declared_of c.book.result.now))) c.args.place _ c.stream_at-shown.ensures c.write.ensures.found
    (subst (λ r. c.args.place < length (arcs_of (declared_of r))) (sym rows) lt)
