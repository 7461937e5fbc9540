-- The streams of a window's graph, one more at a time.
use Rattle.std.specs.Prelude.{All, take}
use Rattle.std.proofs.Common.{◌≡◌, ℕ, zero, suc, ◌+◌, ◌<◌, List, [], ◌∷◌, ◌++◌, length, get_or, slice_get, Option, Some, None, refl, ap, subst, arith}
use Rattle.std.proofs.lemmas.Option.{get_or_from_slice_get, same_Some, slice_get_within}
use Rattle.pb_graph.specs.declared.records.Meas.{Meas}
use Rattle.pb_graph.specs.declared.records.Stream.{Stream}
use Rattle.pb_graph.specs.ProcessGraph.{IsStream, IsWithinLimits}
use Rattle.pb_plan.specs.declared.window.WindowStream.{WindowStream}
use Rattle.pb_plan.specs.Window.{IsWindowStream}
use Rattle.pb_plan.specs.Graph.{graph_stream, graph_streams}

-- the stream at a place
pub stream_at : (ss : List WindowStream) (ms : List (Option Meas)) (j : ℕ) (s : WindowStream) → length ms ≡ length ss → slice_get ss j ≡ Some s
    → slice_get (graph_streams ss ms) j ≡ Some (graph_stream s (get_or ms j None))
stream_at [] ms j s each at = cc at
stream_at (x ∷ ss) [] j s each at = absurd (omega (arith, each))
stream_at (x ∷ ss) (m ∷ ms) zero s each at = ap (λ (y : WindowStream). Some (graph_stream y m)) (same_Some x s at)
stream_at (x ∷ ss) (m ∷ ms) (suc j) s each at = stream_at ss ms j s (omega (arith, each)) at

-- one more stream
pub one_more : {A : Type 0} (xs : List A) (j : ℕ) (x : A) → slice_get xs j ≡ Some x → take (j + 1) xs ≡ take j xs ++ x ∷ []
one_more [] j x at = cc at
one_more (y ∷ xs) zero x at = ap (λ z. z ∷ []) (same_Some y x at)
one_more (y ∷ xs) (suc j) x at =
    let later : suc j + 1 ≡ suc (j + 1) = omega arith in
    rw later (ap (λ rest. y ∷ rest) (one_more xs j x at))

pub streams_long : (ss : List WindowStream) (ms : List (Option Meas)) → length ms ≡ length ss → length (graph_streams ss ms) ≡ length ss
streams_long [] ms each = refl
streams_long (s ∷ ss) [] each = omega (arith, each)
streams_long (s ∷ ss) (m ∷ ms) each = let more = streams_long ss ms (omega (arith, each)) in omega (arith, more)

-- a stream among the first ones
pub among_first : {A : Type 0} (xs : List A) (j k : ℕ) (x : A) → k < j → slice_get xs k ≡ Some x → slice_get (take j xs) k ≡ Some x
among_first [] j k x lt at = cc at
among_first (y ∷ xs) zero k x lt at = absurd (omega (arith, lt))
among_first (y ∷ xs) (suc j) zero x lt at = at
among_first (y ∷ xs) (suc j) (suc k) x lt at = among_first xs j k x (omega (arith, lt)) at

-- a stream of a window joins nodes, whatever was measured of it
pub joins_at : (nodes : ℕ) (ss : List WindowStream) (j : ℕ) (s : WindowStream) (meas : Option Meas) → All (IsWindowStream nodes) ss → slice_get ss j ≡ Some s
    → IsStream nodes (graph_stream s meas)
joins_at nodes ss j s meas joins at =
    let is = subst (IsWindowStream nodes) (get_or_from_slice_get ss j s s at) (joins j s (slice_get_within ss j s at)) in
    record { from = is.from; to = is.to; apart = is.apart }

pub limits_at : (ss : List Stream) (k : ℕ) (s : Stream) → All IsWithinLimits ss → slice_get ss k ≡ Some s → IsWithinLimits s
limits_at ss k s within at = subst IsWithinLimits (get_or_from_slice_get ss k s s at) (within k s (slice_get_within ss k s at))
