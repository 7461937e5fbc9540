use Rattle.std.proofs.Common.{inl, inr, refl, subst, arith}
use Rattle.std.proofs.lemmas.Grind.{common_steps}
use Rattle.pb_io.specs.MemSink.{RefusesNext}
use Rattle.pb_io.proofs.mem_sink.MemSinkSink.put.Goals as goal
use Rattle.pb_io.proofs.mem_sink.MemSinkSink.put.Goals.{then-left-eq0-via-then-left-eq0, then-left-eq0-via-else-left-eq0+then-is_named}

-- if bytes were appended, the list doesn't name the call, and room was left
pub returns-clause-fails : goal.returns-clause-fails
returns-clause-fails c = (
  λ e. absurd (cc e),
  λ p. let q = rw (← c.self.view_is) at p.1 in
      elim q [
        | inl named ↦ absurd (cc (c.is_named.ensures.1 (rw (c.deref.ensures.value, c.saturating_count-self-inside.ensures) named), c.if-is_named.false))
        | inr full ↦ absurd (omega (arith, full))
      ],
)

-- if none were, no room was left, or the list names the call
pub returns-then-left-eq0-clause-fails : goal.returns-then-left-eq0-clause-fails
returns-then-left-eq0-clause-fails c = (
  λ _. (
    grind (arith, common_steps, c.is_empty.ensures, c.if-is_empty.false),
    subst RefusesNext c.self.view_is (elim c.then-left-eq0.branch [
      | then-left-eq0-via-then-left-eq0 w ↦ inr (omega arith)
      | then-left-eq0-via-else-left-eq0+then-is_named w ↦ inl (rw (w.deref.ensures.value, c.saturating_count-self-inside.ensures) at (w.is_named.ensures.0 w.if-is_named.true))
    ]),
  ),
  λ _. refl,
)
