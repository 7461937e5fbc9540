-- Statement. The signs of the members of a cut.
use Rattle.std.specs.Prelude.{All}
use Rattle.pb_graph.specs.declared.records.Member.{Member}
use Rattle.pb_graph.specs.declared.records.Witness.{Witness}
use Rattle.pb_graph.specs.declared.records.Witness.TheVariants.{Cut, Cycle}
use Rattle.pb_graph.specs.WellFormed.{IsSign}

-- a member has a sign
abbrev pub HasSign : Member → Type 0
HasSign member = IsSign member.sign

-- the members of a cut have signs
abbrev pub AreWitnessSigns : Witness → Type 0
AreWitnessSigns (Cut side members) = All HasSign members
AreWitnessSigns (Cycle steps) = Unit {0}
