-- Statement. Each printed flow is within its bounds, and within its least bounds, which are within its bounds.
use Rattle.std.specs.Prelude.{ℤ, ◌≤ℤ◌, IfSome}
use Rattle.pb_study.specs.declared.results.Bounds.{Bounds}
use Rattle.pb_study.specs.declared.results.Stage.{Stage}
use Rattle.pb_stage.specs.Printed.{EachStream}
use Rattle.pb_stage.specs.Certified.{IsCertifiedStage}

-- a flow in whole grams is within the bounds
pub record IsFlowWithin (flow : ℤ) (bounds : Bounds) : Type 0 where
  pub from : bounds.lo ≤ℤ flow
  pub to : flow ≤ℤ bounds.hi

-- each printed flow of a certified stage is within its bounds, if it has any
abbrev pub OwnBoundsLaw : Type 0
OwnBoundsLaw = (stage : Stage) → IsCertifiedStage stage
    → EachStream stage (λ j r. IfSome r.bounds (IsFlowWithin r.flow))

-- and within its least bounds, if it has any
abbrev pub OwnLeastBoundsLaw : Type 0
OwnLeastBoundsLaw = (stage : Stage) → IsCertifiedStage stage → EachStream stage (λ j r. IfSome r.least (IsFlowWithin r.flow))

-- bounds within other bounds
pub record LieWithin (inner outer : Bounds) : Type 0 where
  pub from : outer.lo ≤ℤ inner.lo
  pub to : inner.hi ≤ℤ outer.hi

-- the least bounds of each stream of a certified stage, if it has any, are within its bounds
abbrev pub NestedBoundsLaw : Type 0
NestedBoundsLaw =
    (stage : Stage) → IsCertifiedStage stage → EachStream stage (λ j r. IfSome r.least (λ least. IfSome r.bounds (LieWithin least)))
