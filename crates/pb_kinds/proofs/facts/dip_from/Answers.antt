use Rattle.std.proofs.Common.{◌+◌, refl, arith}
use Rattle.pb_form.specs.SessionRows.{dip_columns}
use Rattle.pb_kinds.proofs.ThereLemmas.{long_is, name_is}
use Rattle.pb_kinds.proofs.facts.dip_from.Goals as goal

pub name_there-requires : goal.name_there-requires
name_there-requires c = name_is dip_columns c.args.values.now c.args.at 0 c.args.at _ c.requires.fit (omega arith) refl

pub name_there-requires-2 : goal.name_there-requires-2
name_there-requires-2 c = name_is dip_columns c.args.values.now c.args.at 1 (c.args.at + 1) _ c.requires.fit refl refl

pub long_there-requires : goal.long_there-requires
long_there-requires c = long_is dip_columns c.args.values.now c.args.at 3 (c.args.at + 3) _ _ _ c.requires.fit refl refl refl

pub long_there-requires-2 : goal.long_there-requires-2
long_there-requires-2 c = long_is dip_columns c.args.values.now c.args.at 4 (c.args.at + 4) _ _ _ c.requires.fit refl refl refl
