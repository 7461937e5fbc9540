use Rattle.std.proofs.Common.{◌∙◌, ◌↔◌, ℕ, Contains, IsSome, Option, Some, None, slice_get, ap, sym, subst}
use Rattle.pb_book.specs.Rows.{periods_of}
use Rattle.pb_session.specs.Keeping.{place_in}
use Rattle.pb_session.specs.Kept.{Held, IsKeptAt}
use Rattle.pb_session.specs.Session.{SessionState}
use Rattle.pb_session.proofs.KeepingLemmas.{kept_placed}
use Rattle.pb_session.proofs.KeptLemmas.{periods_in, place_contained}
use Rattle.pb_session.proofs.session.Session.kept.Goals as goal

pub returns-in-Some-clause-found : goal.returns-in-Some-clause-found
returns-in-Some-clause-found c =
    let placed = place_contained c.args.period c.self.inside.kept.items in
    let here : IsSome (Some c.in-Some.place) ↔ Contains (periods_in c.self.inside.kept.items) c.args.period = subst (λ (o : Option ℕ). IsSome o ↔ Contains (periods_in c.self.inside.kept.items) c.args.period) (ap (place_in c.args.period) (sym c.deref.ensures.value) ∙ sym c.place_of.ensures ∙ c.in-Some.is) placed in
    subst (λ (h : Held). IsSome (Some c.in-Some.place) ↔ Contains h.kept c.args.period) c.self.view_is here

pub returns-in-Some-clause-study : goal.returns-in-Some-clause-study
returns-in-Some-clause-study c =
    let state : SessionState = record { options = c.self.inside.options; form = c.self.inside.form; rows = c.self.inside.book } in
    let study = c.index.result.now.study in
    let here : IsKeptAt state (slice_get (periods_of state.rows) c.args.period) study =
    kept_placed state c.args.period c.self.inside.kept.items c.in-Some.place c.index.result.now (ap (place_in c.args.period) (sym c.deref.ensures.value) ∙ sym c.place_of.ensures ∙ c.in-Some.is) c.index.ensures c.self.invariant.studies in
    subst (λ (h : Held). IsKeptAt h.state (slice_get (periods_of h.state.rows) c.args.period) study) c.self.view_is here

pub returns-in-None-clause-found : goal.returns-in-None-clause-found
returns-in-None-clause-found c =
    let placed = place_contained c.args.period c.self.inside.kept.items in
    let none : Option ℕ = None in
    let here : IsSome none ↔ Contains (periods_in c.self.inside.kept.items) c.args.period = subst (λ (o : Option ℕ). IsSome o ↔ Contains (periods_in c.self.inside.kept.items) c.args.period) (ap (place_in c.args.period) (sym c.deref.ensures.value) ∙ sym c.place_of.ensures ∙ c.in-None.is) placed in
    subst (λ (h : Held). IsSome none ↔ Contains h.kept c.args.period) c.self.view_is here
