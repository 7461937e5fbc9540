-- Walks of unmeasured streams.
use Rattle.std.proofs.Common.{◌≡◌, ℕ, true, false, not, List, Some, slice_get, ap, subst}
use Rattle.std.specs.List.{All}
use Rattle.std.proofs.lemmas.Option.{get_or_from_slice_get, slice_get_within}
use Rattle.pb_graph.specs.declared.records.Stream.{Stream}
use Rattle.pb_graph.specs.ProcessGraph.{is_measured}
use Rattle.pb_graph.specs.Walk.{ends_of, unmeasured}
use Rattle.pb_graph.specs.Groups.{SameGroup}
use Rattle.pb_graph.proofs.WalkLemmas.{ends_is, reach_one, reach_both, reach_back}

-- an unmeasured stream joins its ends
pub stream_joins : (ss : List Stream) (i : ℕ) (s : Stream) → slice_get ss i ≡ Some s → is_measured s ≡ false → SameGroup ss s.from s.to
stream_joins ss i s at plain =
    reach_one (ends_of unmeasured ss) s.from s.to (record { stream = i; forward = true }) (ends_is unmeasured ss i s true at (ap not plain))

pub same_trans : (ss : List Stream) (a b c : ℕ) → SameGroup ss a b → SameGroup ss b c → SameGroup ss a c
same_trans ss a b c = reach_both (ends_of unmeasured ss) a b c

pub same_sym : (ss : List Stream) (a b : ℕ) → SameGroup ss a b → SameGroup ss b a
same_sym ss a b = reach_back unmeasured ss a b

-- what holds of each stream holds of the stream at a place
pub all_at : {X : Type 0} (P : X → Type 0) (xs : List X) (i : ℕ) (x : X) → All P xs → slice_get xs i ≡ Some x → P x
all_at P xs i x h at = subst P (get_or_from_slice_get xs i x x at) (h i x (slice_get_within xs i x at))
