use Rattle.std.proofs.Common.{refl}
use Rattle.pb_form.specs.SessionRows.{session_columns}
use Rattle.pb_form.specs.declared.session.SessionKind.TheVariants as kind
use Rattle.pb_kinds.proofs.ThereLemmas.{name_is, reason_is}
use Rattle.pb_kinds.proofs.reading.strike.Goals as goal

pub name_there-requires : goal.name_there-requires
name_there-requires c = name_is (session_columns kind.Strike) c.args.values.now 0 1 1 _ c.requires refl refl

pub reason_there-requires : goal.reason_there-requires
reason_there-requires c = reason_is (session_columns kind.Strike) c.args.values.now 0 2 2 _ c.requires refl refl
