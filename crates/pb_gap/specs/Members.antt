-- Inside. Members within a list of streams.
use Rattle.std.specs.Prelude.{◌≡◌, ◌⊎◌, ◌<◌, pos, negsuc, List, All, length}
use Rattle.pb_graph.specs.declared.records.Stream.{Stream}
use Rattle.pb_graph.specs.declared.records.Member.{Member}

-- a stream of the list, with a sign
pub record IsMemberOf (streams : List Stream) (member : Member) : Type 0 where
  pub there : member.stream < length streams
  pub sign : (member.sign ≡ pos 1) ⊎ (member.sign ≡ negsuc 0)

abbrev pub AreMembers : List Stream → List Member → Type 0
AreMembers streams members = All (IsMemberOf streams) members
