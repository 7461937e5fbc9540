-- Statement. The boundary of a set of nodes, with its signs: a cut.
use Rattle.std.specs.Prelude.{◌≡◌, ℕ, ◌+◌, ℤ, pos, negsuc, Bool, List, [], ◌∷◌, length, Option, Some, None, if◌then◌else◌}
use Rattle.pb_graph.specs.declared.records.Stream.{Stream}
use Rattle.pb_graph.specs.declared.records.Member.{Member}
use Rattle.pb_graph.specs.ProcessGraph.{ProcessGraph}
use Rattle.pb_graph.specs.Walk.{is_in}

-- the sign of a stream at a side: 1 if it enters, -1 if it leaves, none if both ends are on the same side
abbrev pub sign_at : Bool → Bool → Option ℤ
sign_at from_in to_in = if to_in then (if from_in then None else Some (pos 1)) else (if from_in then Some (negsuc 0) else None)

-- a stream with a sign, if it has one
abbrev pub member_by : ℕ → Option ℤ → Option Member
member_by stream_id None = None
member_by stream_id (Some sign) = Some (record { stream = stream_id; sign = sign })

-- a stream as a member of the boundary of a side, if it has exactly one end in the side
abbrev pub member_at : List Bool → ℕ → Stream → Option Member
member_at side stream_id stream = member_by stream_id (sign_at (is_in side stream.from) (is_in side stream.to))

-- the rest, with a member before it if there is one
abbrev pub with_first : Option Member → List Member → List Member
with_first None rest = rest
with_first (Some member) rest = member ∷ rest

-- the members among streams that are numbered from this number on
abbrev pub members_from : List Bool → ℕ → List Stream → List Member
members_from side stream_id [] = []
members_from side stream_id (stream ∷ streams) = with_first (member_at side stream_id stream) (members_from side (stream_id + 1) streams)

-- The boundary of a set of nodes: every stream with exactly one end in it, in order, with its sign (graph theory's cut;
-- Narasimhan and Jordache call it a cutset).
abbrev pub boundary_of : List Bool → List Stream → List Member
boundary_of side streams = members_from side 0 streams

-- a side has one item for each node, and the members are its boundary
pub record IsCut (graph : ProcessGraph) (side : List Bool) (members : List Member) : Type 0 where
  pub each : length side ≡ graph.nodes
  pub boundary : members ≡ boundary_of side graph.streams
