use Rattle.std.proofs.Common.{refl}
use Rattle.pb_form.specs.SessionRows.{session_columns}
use Rattle.pb_form.specs.declared.session.SessionKind.TheVariants as kind
use Rattle.pb_kinds.proofs.ThereLemmas.{long_is, name_is}
use Rattle.pb_kinds.proofs.reading.assay.Goals as goal

pub long_there-requires : goal.long_there-requires
long_there-requires c = long_is (session_columns kind.Assay) c.args.values.now 0 4 4 _ _ _ c.requires refl refl refl

pub long_there-requires-2 : goal.long_there-requires-2
long_there-requires-2 c = long_is (session_columns kind.Assay) c.args.values.now 0 5 5 _ _ _ c.requires refl refl refl

pub name_there-requires : goal.name_there-requires
name_there-requires c = name_is (session_columns kind.Assay) c.args.values.now 0 1 1 _ c.requires refl refl

pub name_there-requires-2 : goal.name_there-requires-2
name_there-requires-2 c = name_is (session_columns kind.Assay) c.args.values.now 0 2 2 _ c.requires refl refl

pub name_there-requires-3 : goal.name_there-requires-3
name_there-requires-3 c = name_is (session_columns kind.Assay) c.args.values.now 0 3 3 _ c.requires refl refl
