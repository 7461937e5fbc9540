use Rattle.std.proofs.Common.{◌≡◌, ◌∙◌, None, ap, position, subst}
use Rattle.pb_rows.specs.Name.{same_name}
use Rattle.pb_book.specs.Rows.{declared_of}
use Rattle.pb_site.specs.Site.{arc_names}
use Rattle.plantbal_c.specs.Opened.{Opened}
use Rattle.plantbal_c.proofs.LookLemmas.{done_named}
use Rattle.plantbal_c.proofs.looks.plantbal_session_stream_named.Goals as goal

-- a stream or a tank has the name
pub returns-in-Some-clause-there : goal.returns-in-Some-clause-there
returns-in-Some-clause-there c =
    let held : c.in-Some.held.value ≡ c.args.session.now.value = rw c.replace.ensures.value at c.in-Some.ensures.1 in
    let rows : c.book.result.now ≡ c.args.session.now.value.state.rows = c.book.ensures ∙ ap (λ (o : Opened). o.state.rows) (c.deref.ensures ∙ held) in
    λ _ named there. done_named c.stream_named-shown.result c.write.result c.write.new.place
    (λ none. there (subst (λ r. position (same_name c.args.name.now) (arc_names (declared_of r)) ≡ None) rows (c.stream_named-shown.ensures.none none named)))
    c.write.ensures.found
