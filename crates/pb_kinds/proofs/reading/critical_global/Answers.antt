use Rattle.std.proofs.Common.{refl}
use Rattle.pb_form.specs.SessionRows.{session_columns}
use Rattle.pb_form.specs.declared.session.SessionKind.TheVariants as kind
use Rattle.pb_kinds.proofs.ThereLemmas.{long_is, number_is}
use Rattle.pb_kinds.proofs.reading.critical_global.Goals as goal

pub dof_there-requires : goal.dof_there-requires
dof_there-requires c = number_is (session_columns kind.CriticalGlobal) c.args.values.now 0 2 2 _ _ _ c.requires refl refl

pub long_there-requires : goal.long_there-requires
long_there-requires c = long_is (session_columns kind.CriticalGlobal) c.args.values.now 0 3 3 _ _ _ c.requires refl refl refl
