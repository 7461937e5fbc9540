use Rattle.std.proofs.Common.{refl}
use Rattle.pb_form.specs.SessionRows.{session_columns}
use Rattle.pb_form.specs.declared.session.SessionKind.TheVariants as kind
use Rattle.pb_kinds.proofs.ThereLemmas.{long_is}
use Rattle.pb_kinds.proofs.reading.critical_measure.Goals as goal

pub long_there-requires : goal.long_there-requires
long_there-requires c = long_is (session_columns kind.CriticalMeasure) c.args.values.now 0 2 2 _ _ _ c.requires refl refl refl
