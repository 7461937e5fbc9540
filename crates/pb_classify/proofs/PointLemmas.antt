-- What a walk and its spans show are the entry numbers and the points of a graph.
use Rattle.std.proofs.Common.{◌≡◌, ◌∙◌, ◌↔◌, ℕ, suc, ◌+◌, ◌<◌, ◌≤◌, Bool, true, false, List, [], ◌∷◌, length, Some, slice_get, get_or, map, refl, sym, ap, subst, inl, inr, arith}
use Rattle.std.proofs.lemmas.Bool.{cases_lt}
use Rattle.std.proofs.lemmas.List.{get_or_default}
use Rattle.std.proofs.lemmas.Option.{slice_get_within, get_or_from_slice_get}
use Rattle.pb_fixed.proofs.Lists.{all_each}
use Rattle.pb_graph.specs.declared.records.Stream.{Stream}
use Rattle.pb_graph.specs.ProcessGraph.{ProcessGraph, IsProcessGraph, IsStream, some_stream}
use Rattle.pb_graph.specs.Walk.{ends_of, Reaches}
use Rattle.pb_forest.specs.Forest.{IsForest}
use Rattle.pb_forest.proofs.ForestLaws.{end_cases}
use Rattle.pb_classify.specs.declared.spans.Span.{Span}
use Rattle.pb_classify.specs.Points.{NodePoints, branch_but, unheld_unmeasured, IsBelow, IsNumbering, Counts, IsCounted, HasPoints, ArePoints}
use Rattle.pb_classify.specs.Tables.{Entries, node_at, tree_at, up_at, number_of, span_at, points_of}
use Rattle.pb_classify.specs.Walk.{unentered, IsWalked}
use Rattle.pb_classify.specs.Spans.{CountsAmong, IsWholeSpan, AreWholeFrom, AreKept}
use Rattle.pb_classify.proofs.BridgeLemmas.{reach_within}
use Rattle.pb_classify.proofs.OverLemmas.{IsOver, number_there, over_reach, reach_over, label_least, each_hangs, labels_tell, stream_there}

-- ---- as many entries as nodes
none_left : (marks : List Bool) → ((n : ℕ) → n < length marks → get_or marks n false ≡ true) → unentered marks ≡ 0
none_left [] all = refl
none_left (true ∷ marks) all = none_left marks (λ n lt. all (suc n) (omega (arith, lt)))
none_left (false ∷ marks) all = let is = all 0 (omega arith) in cc is

pub as_many : (nodes : ℕ) (ss : List Stream) (held : List Bool) (w : Entries) → IsWalked nodes ss held w → length w.list ≡ nodes
as_many nodes ss held w walked =
    let left = none_left w.entered (λ n lt. walked.all n (omega (arith, lt, walked.entries.marks))) in
    omega (arith, left, walked.entries.room)

pub kept : (nodes : ℕ) (ss : List Stream) (held : List Bool) (w : Entries) (labels : List ℕ) (spans : List Span) → IsWalked nodes ss held w
    → labels ≡ map (tree_at w) w.numbers → AreWholeFrom ss held w 0 spans → AreKept w labels spans
kept nodes ss held w labels spans walked is whole =
    let many = as_many nodes ss held w walked in
    record {
      list = many ∙ sym walked.entries.numbers;
      each = whole.each ∙ many ∙ sym walked.entries.numbers;
      few = λ n lt. let less = walked.entries.few n (walked.all n (omega (arith, lt, walked.entries.numbers))) in omega (arith, less, many, walked.entries.numbers);
      each_label = is;
      few_labels = λ n lt.
          let less = walked.entries.few n (walked.all n (omega (arith, lt, walked.entries.numbers))) in
          let least = label_least nodes ss held w (number_of w n + 1) (number_of w n) walked.entries (omega arith) less in
          omega (arith, least, less, many, walked.entries.numbers);
    }

-- each node's number is the number of an entry
pub numbers_there : (nodes : ℕ) (ss : List Stream) (held : List Bool) (w : Entries) (n d : ℕ) → IsWalked nodes ss held w → n < length w.numbers
    → get_or w.numbers n d < length w.list
numbers_there nodes ss held w n d walked lt =
    let few = walked.entries.few n (walked.all n (omega (arith, lt, walked.entries.numbers))) in
    subst (λ (k : ℕ). k < length w.list) (get_or_default w.numbers n 0 d lt) few

-- ---- the entries below one have the numbers of its span
over_span : (ss : List Stream) (held : List Bool) (w : Entries) (k i : ℕ) (span : Span) → IsWholeSpan ss held w k span → i < length w.list
    → IsOver w k i ↔ ((k ≤ i) × (i ≤ span.last))
over_span ss held w k i span whole lt = (
  λ o. (
    o.from,
    elim (cases_lt span.last i) [
      | inr le ↦ le
      | inl past ↦
          let deeper = o.over (span.last + 1) (omega (arith, whole.deeper.from)) (omega (arith, past)) in
          let end = whole.end (omega (arith, past, lt)) in
          absurd (omega (arith, deeper, end))
    ],
  ),
  λ within. record { from = within.0; over = λ m after le. whole.deeper.over m after (omega (arith, le, within.1)) },
)

pub below_tells : (g : ProcessGraph) (held : List Bool) (w : Entries) (spans : List Span) (n m : ℕ) → IsProcessGraph g → IsForest g.streams held
    → IsWalked g.nodes g.streams held w → AreWholeFrom g.streams held w 0 spans → n < g.nodes → m < g.nodes
    → IsBelow g held (points_of (record { walk = w; spans = spans })) n m ↔ ((number_of w n ≤ number_of w m) × (number_of w m ≤ (span_at spans (number_of w n)).last))
below_tells g held w spans n m graph forest walked whole ln lm =
    let (n_lt, n_node) = number_there g.nodes g.streams held w n walked ln in
    let (m_lt, m_node) = number_there g.nodes g.streams held w m walked lm in
    let k = number_of w n in
    let i = number_of w m in
    let tells = over_span g.streams held w k i (span_at spans k) (whole.whole k (omega arith) n_lt) m_lt in
    let ends = ends_of (branch_but held (up_at w k)) g.streams in (
      λ r. tells.0 (reach_over g held w n m graph forest walked r),
      λ within.
          let r = over_reach g.nodes g.streams held w k i walked.entries m_lt (tells.1 within) in
          subst (Reaches ends n) m_node (subst (λ (a : ℕ). Reaches ends a (node_at w i)) n_node r),
    )

pub numbering : (g : ProcessGraph) (held : List Bool) (w : Entries) (spans : List Span) → IsProcessGraph g → IsForest g.streams held → IsWalked g.nodes g.streams held w
    → AreWholeFrom g.streams held w 0 spans → IsNumbering g held (points_of (record { walk = w; spans = spans }))
numbering g held w spans graph forest walked whole = record {
  few = λ n lt. let less = walked.entries.few n (walked.all n lt) in omega (arith, less, as_many g.nodes g.streams held w walked);
  own = λ m n lm ln same. sym (walked.entries.found m (walked.all m lm)) ∙ ap (node_at w) same ∙ walked.entries.found n (walked.all n ln);
  below = λ n m ln lm. below_tells g held w spans n m graph forest walked whole ln lm;
  up = λ n j ln up.
      let (lt, node) = number_there g.nodes g.streams held w n walked ln in
      let h = walked.entries.branch (number_of w n) j lt up in
      record {
        stream = get_or g.streams j some_stream;
        at = stream_there g.streams j h.there;
        branch = h.branch;
        touch = elim (end_cases (node_at w (number_of w n)) (get_or g.streams j some_stream) h.touch) [
          | inl (to, other) ↦ inr (to ∙ node)
          | inr (from, away, other) ↦ inl (from ∙ node)
        ];
      };
  each = λ j s at branch.
      let lower = each_hangs g held w j s graph forest walked at branch in
      record {
        node = node_at w lower.i;
        there = walked.entries.within lower.i lower.there;
        up = ap (up_at w) (walked.entries.placed lower.i lower.there) ∙ lower.up;
      };
  label = λ m n lm ln. labels_tell g held w m n graph forest walked lm ln;
}

-- ---- what counts for a node
-- a node below another is a node
below_within : (g : ProcessGraph) (held : List Bool) (points : NodePoints) (n m : ℕ) → IsProcessGraph g → n < g.nodes → IsBelow g held points n m → m < g.nodes
below_within g held points n m graph lt below = reach_within (branch_but held (points.up n)) g.nodes g.streams n m (all_each (IsStream g.nodes) g.streams graph.joins) lt below

-- the number of a node that counts
to_counts : (g : ProcessGraph) (held : List Bool) (w : Entries) (spans : List Span) (n m : ℕ) → IsProcessGraph g → IsForest g.streams held → IsWalked g.nodes g.streams held w
    → AreWholeFrom g.streams held w 0 spans → n < g.nodes → m < g.nodes → Counts g held (points_of (record { walk = w; spans = spans })) n m
    → CountsAmong g.streams held w (length g.streams) (number_of w n) (span_at spans (number_of w n)).last (number_of w m)
to_counts g held w spans n m graph forest walked whole ln lm counts = elim counts [
  | inl below ↦
      let within = (below_tells g held w spans n m graph forest walked whole ln lm).0 below in
      record { entry = number_of w m; from = within.0; to = within.1; beside = inl refl }
  | inr leap ↦
      let foot_lt : leap.foot < g.nodes = below_within g held (points_of (record { walk = w; spans = spans })) n leap.foot graph ln leap.below in
      let within = (below_tells g held w spans n leap.foot graph forest walked whole ln foot_lt).0 leap.below in
      let same : get_or g.streams leap.k some_stream ≡ leap.stream = get_or_from_slice_get g.streams leap.k leap.stream some_stream leap.at in
      let from : (get_or g.streams leap.k some_stream).from ≡ leap.stream.from = ap (λ (s : Stream). s.from) same in
      let to : (get_or g.streams leap.k some_stream).to ≡ leap.stream.to = ap (λ (s : Stream). s.to) same in
      record {
        entry = number_of w leap.foot;
        from = within.0;
        to = within.1;
        beside = inr (record {
          k = leap.k;
          before = slice_get_within g.streams leap.k leap.stream leap.at;
          unheld = ap (unheld_unmeasured held leap.k) same ∙ leap.unheld;
          ends = elim leap.joins [
            | inl (a, b) ↦ inl (ap (number_of w) (from ∙ a), ap (number_of w) (to ∙ b))
            | inr (a, b) ↦ inr (ap (number_of w) (to ∙ a), ap (number_of w) (from ∙ b))
          ];
        });
      }
]

-- a number that counts is the number of a node that counts
from_counts : (g : ProcessGraph) (held : List Bool) (w : Entries) (spans : List Span) (n x : ℕ) → IsProcessGraph g → IsForest g.streams held → IsWalked g.nodes g.streams held w
    → AreWholeFrom g.streams held w 0 spans → n < g.nodes → CountsAmong g.streams held w (length g.streams) (number_of w n) (span_at spans (number_of w n)).last x
    → IsCounted g held (points_of (record { walk = w; spans = spans })) n x
from_counts g held w spans n x graph forest walked whole ln c =
    let (n_lt, n_node) = number_there g.nodes g.streams held w n walked ln in
    let span = whole.whole (number_of w n) (omega arith) n_lt in
    let entry_lt : c.entry < length w.list = omega (arith, c.to, span.deeper.within) in
    let foot = node_at w c.entry in
    let foot_lt : foot < g.nodes = walked.entries.within c.entry entry_lt in
    let number : number_of w foot ≡ c.entry = walked.entries.placed c.entry entry_lt in
    let below : IsBelow g held (points_of (record { walk = w; spans = spans })) n foot =
    (below_tells g held w spans n foot graph forest walked whole ln foot_lt).1 (omega (arith, number, c.from), omega (arith, number, c.to)) in
    elim c.beside [
      | inl same ↦ (foot, foot_lt, inl below, number ∙ sym same)
      | inr joined ↦
          let s : Stream = get_or g.streams joined.k some_stream in
          let at : slice_get g.streams joined.k ≡ Some s = stream_there g.streams joined.k joined.before in
          let is : IsStream g.nodes s = all_each (IsStream g.nodes) g.streams graph.joins joined.k s at in
          let node_of : (a : ℕ) → a < g.nodes → number_of w a ≡ c.entry → a ≡ foot =
          λ a lt same. sym (walked.entries.found a (walked.all a lt)) ∙ ap (node_at w) same in
          elim joined.ends [
            | inl (a, b) ↦ (
              s.to,
              is.to,
              inr (record {
                foot = foot;
                below = below;
                k = joined.k;
                stream = s;
                at = at;
                unheld = joined.unheld;
                joins = inl (node_of s.from is.from a, refl);
              }),
              b,
            )
            | inr (a, b) ↦ (
              s.from,
              is.from,
              inr (record {
                foot = foot;
                below = below;
                k = joined.k;
                stream = s;
                at = at;
                unheld = joined.unheld;
                joins = inr (node_of s.to is.to a, refl);
              }),
              b,
            )
          ]
    ]

pub has_points : (g : ProcessGraph) (held : List Bool) (w : Entries) (spans : List Span) (n : ℕ) → IsProcessGraph g → IsForest g.streams held → IsWalked g.nodes g.streams held w
    → AreWholeFrom g.streams held w 0 spans → n < g.nodes → HasPoints g held (points_of (record { walk = w; spans = spans })) n
has_points g held w spans n graph forest walked whole ln =
    let (n_lt, n_node) = number_there g.nodes g.streams held w n walked ln in
    let span = (whole.whole (number_of w n) (omega arith) n_lt).deeper.ends in
    record {
      low = from_counts g held w spans n (span_at spans (number_of w n)).low graph forest walked whole ln span.low;
      least = λ m lm counts. span.least (number_of w m) (to_counts g held w spans n m graph forest walked whole ln lm counts);
      high = from_counts g held w spans n (span_at spans (number_of w n)).high graph forest walked whole ln span.high;
      greatest = λ m lm counts. span.greatest (number_of w m) (to_counts g held w spans n m graph forest walked whole ln lm counts);
    }

pub are_points : (g : ProcessGraph) (held : List Bool) (w : Entries) (spans : List Span) → IsProcessGraph g → IsForest g.streams held → IsWalked g.nodes g.streams held w
    → AreWholeFrom g.streams held w 0 spans → ArePoints g (points_of (record { walk = w; spans = spans }))
are_points g held w spans graph forest walked whole = record {
  limits = graph;
  nodes = walked.entries.numbers;
  held = held;
  forest = forest;
  numbering = numbering g held w spans graph forest walked whole;
  each = λ n lt. has_points g held w spans n graph forest walked whole lt;
}
