-- Inside. The spans of entry numbers below each node, with the least and the greatest number that count there: how they are joined.
use Rattle.std.specs.Prelude.{◌≡◌, ◌⊎◌, ℕ, ◌+◌, ◌<◌, ◌≤◌, Bool, true, List, length, get_or, set, map, min, max}
use Rattle.pb_graph.specs.declared.records.Stream.{Stream}
use Rattle.pb_graph.specs.ProcessGraph.{some_stream}
use Rattle.pb_classify.specs.declared.spans.Span.{Span}
use Rattle.pb_classify.specs.Points.{NodePoints, unheld_unmeasured}
use Rattle.pb_classify.specs.Tables.{Entries, depth_at, tree_at, number_of, span_at}

-- the span of a single entry
abbrev pub own_span : ℕ → Span
own_span i = record { last = i; low = i; high = i }

-- a span, with one more number that counts for it
abbrev pub counted : Span → ℕ → Span
counted span number = record { last = span.last; low = min span.low number; high = max span.high number }

-- a span joined to the one after it
abbrev pub both : Span → Span → Span
both span next = record { last = next.last; low = min span.low next.low; high = max span.high next.high }

-- the spans, with one more number that counts for the span at a place
abbrev pub noted : List Span → ℕ → ℕ → List Span
noted spans i number = set spans i (counted (span_at spans i) number)

-- an unmeasured stream before place j that isn't held joins the entries i and x
pub record AreJoinedBefore (streams : List Stream) (held : List Bool) (w : Entries) (j i x : ℕ) : Type 0 where
  pub k : ℕ
  pub before : k < j
  pub unheld : unheld_unmeasured held k (get_or streams k some_stream) ≡ true
  pub ends :
      ((number_of w (get_or streams k some_stream).from ≡ i) × (number_of w (get_or streams k some_stream).to ≡ x))
      ⊎ ((number_of w (get_or streams k some_stream).to ≡ i) × (number_of w (get_or streams k some_stream).from ≡ x))

-- number x counts for one of the entries from lo to hi: it is the number of that entry, or a stream before place j joins it to that
-- entry
pub record CountsAmong (streams : List Stream) (held : List Bool) (w : Entries) (j lo hi x : ℕ) : Type 0 where
  pub entry : ℕ
  pub from : lo ≤ entry
  pub to : entry ≤ hi
  pub beside : (x ≡ entry) ⊎ AreJoinedBefore streams held w j entry x

-- a span has the least and the greatest of the numbers that count for the entries from lo to its last
pub record IsSpan (streams : List Stream) (held : List Bool) (w : Entries) (j lo : ℕ) (span : Span) : Type 0 where
  pub low : CountsAmong streams held w j lo span.last span.low
  pub least : (x : ℕ) → CountsAmong streams held w j lo span.last x → span.low ≤ x
  pub high : CountsAmong streams held w j lo span.last span.high
  pub greatest : (x : ℕ) → CountsAmong streams held w j lo span.last x → x ≤ span.high

-- each entry's own span, given the streams before place j
pub record AreOwn (streams : List Stream) (held : List Bool) (w : Entries) (j : ℕ) (spans : List Span) : Type 0 where
  pub each : length spans ≡ length w.list
  pub last : (i : ℕ) → i < length w.list → (span_at spans i).last ≡ i
  pub span : (i : ℕ) → i < length w.list → IsSpan streams held w j i (span_at spans i)

-- a span from entry i on, in which the other entries are deeper than entry i
pub record IsDeeper (streams : List Stream) (held : List Bool) (w : Entries) (i : ℕ) (span : Span) : Type 0 where
  pub within : span.last < length w.list
  pub from : i ≤ span.last
  pub over : (m : ℕ) → i < m → m ≤ span.last → depth_at w i < depth_at w m
  pub ends : IsSpan streams held w (length streams) i span

-- such a span, which is whole: the entry after it, if there is one, isn't deeper
pub record IsWholeSpan (streams : List Stream) (held : List Bool) (w : Entries) (i : ℕ) (span : Span) : Type 0 where
  pub deeper : IsDeeper streams held w i span
  pub end : span.last + 1 < length w.list → depth_at w (span.last + 1) ≤ depth_at w i

-- the spans from entry i on are whole, and each earlier one is the span of a single entry
pub record AreWholeFrom (streams : List Stream) (held : List Bool) (w : Entries) (i : ℕ) (spans : List Span) : Type 0 where
  pub each : length spans ≡ length w.list
  pub last : (n : ℕ) → n < i → (span_at spans n).last ≡ n
  pub own : (n : ℕ) → n < i → IsSpan streams held w (length streams) n (span_at spans n)
  pub whole : (n : ℕ) → i ≤ n → n < length w.list → IsWholeSpan streams held w n (span_at spans n)

-- A walk, its spans and its labels have as many items as nodes, and the labels are numbers of entries.
pub record AreKept (w : Entries) (labels : List ℕ) (spans : List Span) : Type 0 where
  pub list : length w.list ≡ length w.numbers
  pub each : length spans ≡ length w.numbers
  pub few : (n : ℕ) → n < length w.numbers → number_of w n < length w.numbers
  pub each_label : labels ≡ map (tree_at w) w.numbers
  pub few_labels : (n : ℕ) → n < length w.numbers → tree_at w (number_of w n) < length w.numbers

-- the entry number of node m is one of the entry numbers below node n
abbrev pub IsInSpan : NodePoints → ℕ → ℕ → Type 0
IsInSpan points n m = (points.number n ≤ points.number m) × (points.number m ≤ points.last n)
