use Rattle.std.proofs.Common.{◌≡◌, ◌∙◌, ap, subst}
use Rattle.pb_study.specs.declared.results.Critical.{Critical}
use Rattle.pb_elim.specs.Stage.{IsStageOf}
use Rattle.pb_session.specs.Criticals.{critical_of, declared_critical}
use Rattle.pb_session.specs.FirstStage.{IsFirstStage}
use Rattle.pb_session.specs.Kept.{Held}
use Rattle.pb_session.specs.Session.{SessionState}
use Rattle.pb_session.proofs.session.Session.stage_of.Goals as goal

pub returns : goal.returns
returns c =
    let state : SessionState = record { options = c.self.inside.options; form = c.self.inside.form; rows = c.self.inside.book } in
    let graph = c.args.graph.now in
    let critical : Critical = c.in_ok-critical.critical in
    let same : critical ≡ critical_of state.rows = c.in_ok-critical.ensures.value ∙ ap declared_critical c.site.ensures.value in
    let stage = c.in_ok-stage.stage in
    let is : IsStageOf graph state.options critical stage = c.in_ok-stage.ensures.stage in
    let at_state : IsFirstStage state graph stage = record {
      limits = c.requires;
      is_stage = subst (λ (c : Critical). IsStageOf graph state.options c stage) same is;
    } in
    record { stage = subst (λ (h : Held). IsFirstStage h.state graph stage) c.self.view_is at_state; err = tt }
