use Rattle.std.proofs.Common.{◌≡◌, ◌∙◌, ℕ, List, Option, None, Some, ap, refl, subst, sym}
use Rattle.std.specs.Prelude.{IfSome, position}
use Rattle.pb_rows.specs.Name.{same_name}
use Rattle.pb_site.specs.Site.{arc_names}
use Rattle.pb_site.specs.declared.declared.Declared.{Declared}
use Rattle.pb_book.specs.Rows.{declared_of}
use Rattle.pb_shown.proofs.named.stream_named.Goals as goal

itself : (o : Option ℕ) → IfSome o (λ (place : ℕ). o ≡ Some place)
itself None = tt
itself (Some place) = refl

-- the place that is found is that of the text
pub returns-in-Some-clause-value : goal.returns-in-Some-clause-value
returns-in-Some-clause-value c =
    let place : Option ℕ = position (same_name c.args.text.now) (arc_names (declared_of c.args.book.now)) in
    let is : c.arc_of.result ≡ place =
    c.arc_of.ensures ∙ ap (λ (d : List Declared). position (same_name c.in-Some.name) (arc_names d)) c.site.ensures.value
    ∙ ap (λ (n : List ℕ). position (same_name n) (arc_names (declared_of c.args.book.now))) c.in-Some.ensures.1 in
    subst (λ (o : Option ℕ). IfSome o (λ (p : ℕ). place ≡ Some p)) (sym is) (itself place)

pub returns-in-Some-clause-none : goal.returns-in-Some-clause-none
returns-in-Some-clause-none c =
    let place : Option ℕ = position (same_name c.args.text.now) (arc_names (declared_of c.args.book.now)) in
    let is : c.arc_of.result ≡ place =
    c.arc_of.ensures ∙ ap (λ (d : List Declared). position (same_name c.in-Some.name) (arc_names d)) c.site.ensures.value
    ∙ ap (λ (n : List ℕ). position (same_name n) (arc_names (declared_of c.args.book.now))) c.in-Some.ensures.1 in
    λ none _. sym is ∙ none
