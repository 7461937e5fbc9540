-- Spans: one more number counts, and a span is joined to the one after it.
use Rattle.std.proofs.Common.{◌≡◌, ◌≢◌, ◌∙◌, ◌⊎◌, ℕ, ◌+◌, ◌<◌, ◌≤◌, Bool, true, false, List, length, get_or, set, min, max, refl, sym, ap, subst, inl, inr, arith}
use Rattle.std.proofs.lemmas.Bool.{cases_eq, cases_lt}
use Rattle.std.proofs.lemmas.List.{get_or-set_same, get_or-set_other, length-set}
use Rattle.pb_graph.specs.declared.records.Stream.{Stream}
use Rattle.pb_graph.specs.ProcessGraph.{some_stream}
use Rattle.pb_classify.specs.declared.spans.Span.{Span}
use Rattle.pb_classify.specs.Points.{unheld_unmeasured}
use Rattle.pb_classify.specs.Tables.{Entries, depth_at, number_of, some_span, span_at}
use Rattle.pb_classify.specs.Spans.{own_span, counted, both, noted, CountsAmong, IsSpan, AreOwn, IsDeeper, IsWholeSpan, AreWholeFrom}

-- ---- the span of one entry
-- before any stream is considered, only an entry's own number counts
own_alone : (ss : List Stream) (held : List Bool) (w : Entries) (i x : ℕ) → CountsAmong ss held w 0 i i x → x ≡ i
own_alone ss held w i x c = elim c.beside [
  | inl same ↦ omega (arith, same, c.from, c.to)
  | inr joined ↦ absurd (omega (arith, joined.before))
]

pub own_none : (ss : List Stream) (held : List Bool) (w : Entries) (spans : List Span) → length spans ≡ length w.list
    → ((i : ℕ) → i < length w.list → span_at spans i ≡ own_span i) → AreOwn ss held w 0 spans
own_none ss held w spans each own =
    let itself : (i : ℕ) → CountsAmong ss held w 0 i i i = λ i. record { entry = i; from = omega arith; to = omega arith; beside = inl refl } in
    record {
      each = each;
      last = λ i lt. ap (λ (s : Span). s.last) (own i lt);
      span = λ i lt. subst (IsSpan ss held w 0 i) (sym (own i lt)) (record {
        low = itself i;
        least = λ x c. let same = own_alone ss held w i x c in omega (arith, same);
        high = itself i;
        greatest = λ x c. let same = own_alone ss held w i x c in omega (arith, same);
      });
    }

-- ---- one more stream
counts_later : (ss : List Stream) (held : List Bool) (w : Entries) (j lo hi x : ℕ) → CountsAmong ss held w j lo hi x → CountsAmong ss held w (j + 1) lo hi x
counts_later ss held w j lo hi x c = record {
  entry = c.entry;
  from = c.from;
  to = c.to;
  beside = elim c.beside [
    | inl same ↦ inl same
    | inr joined ↦ inr (record { k = joined.k; before = omega (arith, joined.before); unheld = joined.unheld; ends = joined.ends })
  ];
}

-- the numbers of the ends of stream j
abbrev from_of : List Stream → Entries → ℕ → ℕ
from_of ss w j = number_of w (get_or ss j some_stream).from

abbrev to_of : List Stream → Entries → ℕ → ℕ
to_of ss w j = number_of w (get_or ss j some_stream).to

-- what counts for an entry with stream j either counts without it too, or is joined to the entry by stream j
counts_before : (ss : List Stream) (held : List Bool) (w : Entries) (j i x : ℕ) → CountsAmong ss held w (j + 1) i i x
    → CountsAmong ss held w j i i x
    ⊎ ((unheld_unmeasured held j (get_or ss j some_stream) ≡ true) × (((from_of ss w j ≡ i) × (to_of ss w j ≡ x)) ⊎ ((to_of ss w j ≡ i) × (from_of ss w j ≡ x))))
counts_before ss held w j i x c =
    let here : c.entry ≡ i = omega (arith, c.from, c.to) in
    elim c.beside [
      | inl same ↦ inl (record { entry = c.entry; from = c.from; to = c.to; beside = inl same })
      | inr joined ↦ elim (cases_eq joined.k j) [
        | inr ne ↦
            inl (record {
              entry = c.entry;
              from = c.from;
              to = c.to;
              beside = inr (record { k = joined.k; before = omega (arith, joined.before, ne); unheld = joined.unheld; ends = joined.ends });
            })
        | inl same ↦
            let unheld : unheld_unmeasured held j (get_or ss j some_stream) ≡ true =
            subst (λ (k : ℕ). unheld_unmeasured held k (get_or ss k some_stream) ≡ true) same joined.unheld in
            inr (
              unheld,
              elim joined.ends [
                | inl (a, b) ↦ inl (ap (from_of ss w) (sym same) ∙ a ∙ here, ap (to_of ss w) (sym same) ∙ b)
                | inr (a, b) ↦ inr (ap (to_of ss w) (sym same) ∙ a ∙ here, ap (from_of ss w) (sym same) ∙ b)
              ],
            )
      ]
    ]

-- a stream that is measured or held changes nothing
pub own_same : (ss : List Stream) (held : List Bool) (w : Entries) (j : ℕ) (spans : List Span) → unheld_unmeasured held j (get_or ss j some_stream) ≡ false
    → AreOwn ss held w j spans → AreOwn ss held w (j + 1) spans
own_same ss held w j spans out own = record {
  each = own.each;
  last = own.last;
  span = λ i lt.
      let span = span_at spans i in
      let was = own.span i lt in
      let at : span.last ≡ i = own.last i lt in
      let same : (x : ℕ) → CountsAmong ss held w (j + 1) i span.last x → CountsAmong ss held w j i span.last x = λ x c.
      elim (counts_before ss held w j i x (subst (λ (h : ℕ). CountsAmong ss held w (j + 1) i h x) at c)) [
        | inl before ↦ subst (λ (h : ℕ). CountsAmong ss held w j i h x) (sym at) before
        | inr new ↦ cc (sym new.0 ∙ out)
      ] in
      record {
        low = counts_later ss held w j i span.last span.low was.low;
        least = λ x c. was.least x (same x c);
        high = counts_later ss held w j i span.last span.high was.high;
        greatest = λ x c. was.greatest x (same x c);
      };
}

-- ---- the least and the greatest of a set of numbers
pub record AreEnds (has : ℕ → Type 0) (span : Span) : Type 0 where
  pub low : has span.low
  pub least : (x : ℕ) → has x → span.low ≤ x
  pub high : has span.high
  pub greatest : (x : ℕ) → has x → x ≤ span.high

ends_same : (has more : ℕ → Type 0) (span : Span) → ((x : ℕ) → has x → more x) → ((x : ℕ) → more x → has x) → AreEnds has span → AreEnds more span
ends_same has more span to back e = record {
  low = to span.low e.low;
  least = λ x m. e.least x (back x m);
  high = to span.high e.high;
  greatest = λ x m. e.greatest x (back x m);
}

min_cases : (a b : ℕ) → (min a b ≡ a) ⊎ (min a b ≡ b)
min_cases a b = elim (cases_lt a b) [ inl lt ↦ inl (omega (arith, lt)) | inr le ↦ inr (omega (arith, le)) ]

max_cases : (a b : ℕ) → (max a b ≡ a) ⊎ (max a b ≡ b)
max_cases a b = elim (cases_lt a b) [ inl lt ↦ inr (omega (arith, lt)) | inr le ↦ inl (omega (arith, le)) ]

-- the ends of two sets together
pub ends_both : (one other : ℕ → Type 0) (span next : Span) → AreEnds one span → AreEnds other next → AreEnds (λ x. one x ⊎ other x) (both span next)
ends_both one other span next a b = record {
  low = elim (min_cases span.low next.low) [
    | inl is ↦ inl (subst one (sym is) a.low)
    | inr is ↦ inr (subst other (sym is) b.low)
  ];
  least = λ x has. elim has [
    | inl h ↦ let l = a.least x h in omega (arith, l)
    | inr h ↦ let l = b.least x h in omega (arith, l)
  ];
  high = elim (max_cases span.high next.high) [
    | inl is ↦ inl (subst one (sym is) a.high)
    | inr is ↦ inr (subst other (sym is) b.high)
  ];
  greatest = λ x has. elim has [
    | inl h ↦ let l = a.greatest x h in omega (arith, l)
    | inr h ↦ let l = b.greatest x h in omega (arith, l)
  ];
}

-- one more number
ends_more : (has : ℕ → Type 0) (span : Span) (number : ℕ) → AreEnds has span → AreEnds (λ x. has x ⊎ (x ≡ number)) (counted span number)
ends_more has span number a = record {
  low = elim (min_cases span.low number) [
    | inl is ↦ inl (subst has (sym is) a.low)
    | inr is ↦ inr is
  ];
  least = λ x more. elim more [
    | inl h ↦ let l = a.least x h in omega (arith, l)
    | inr is ↦ omega (arith, is)
  ];
  high = elim (max_cases span.high number) [
    | inl is ↦ inl (subst has (sym is) a.high)
    | inr is ↦ inr is
  ];
  greatest = λ x more. elim more [
    | inl h ↦ let l = a.greatest x h in omega (arith, l)
    | inr is ↦ omega (arith, is)
  ];
}

-- ---- a stream that counts
noted_last : (spans : List Span) (n number i : ℕ) → i < length spans → (span_at (noted spans n number) i).last ≡ (span_at spans i).last
noted_last spans n number i lt = elim (cases_eq i n) [
  | inl same ↦
      ap (λ (k : ℕ). (span_at (noted spans n number) k).last) same ∙ ap (λ (s : Span). s.last) (get_or-set_same spans n (counted (span_at spans n) number) some_span (omega (arith, lt, same)))
      ∙ ap (λ (k : ℕ). (span_at spans k).last) (sym same)
  | inr ne ↦ ap (λ (s : Span). s.last) (get_or-set_other spans n i (counted (span_at spans n) number) some_span ne)
]

ends_noted : (has : ℕ → Type 0) (spans : List Span) (n number i : ℕ) → i < length spans → AreEnds has (span_at spans i)
    → AreEnds (λ x. has x ⊎ ((i ≡ n) × (x ≡ number))) (span_at (noted spans n number) i)
ends_noted has spans n number i lt e = elim (cases_eq i n) [
  | inl same ↦
      let here : span_at (noted spans n number) i ≡ counted (span_at spans i) number =
      ap (span_at (noted spans n number)) same ∙ get_or-set_same spans n (counted (span_at spans n) number) some_span (omega (arith, lt, same))
      ∙ ap (λ (k : ℕ). counted (span_at spans k) number) (sym same) in
      subst (AreEnds (λ x. has x ⊎ ((i ≡ n) × (x ≡ number)))) (sym here)
      (ends_same (λ x. has x ⊎ (x ≡ number)) (λ x. has x ⊎ ((i ≡ n) × (x ≡ number))) (counted (span_at spans i) number)
      (λ x h. elim h [ inl old ↦ inl old | inr is ↦ inr (same, is) ])
      (λ x h. elim h [ inl old ↦ inl old | inr is ↦ inr is.1 ])
      (ends_more has (span_at spans i) number e))
  | inr ne ↦
      let here : span_at (noted spans n number) i ≡ span_at spans i = get_or-set_other spans n i (counted (span_at spans n) number) some_span ne in
      subst (AreEnds (λ x. has x ⊎ ((i ≡ n) × (x ≡ number)))) (sym here)
      (ends_same has (λ x. has x ⊎ ((i ≡ n) × (x ≡ number))) (span_at spans i) (λ x h. inl h) (λ x h. elim h [ inl old ↦ old | inr is ↦ absurd (ne is.0) ]) e)
]

span_ends : (ss : List Stream) (held : List Bool) (w : Entries) (j i : ℕ) (span : Span) → span.last ≡ i → IsSpan ss held w j i span → AreEnds (CountsAmong ss held w j i i) span
span_ends ss held w j i span at s =
    subst (λ (h : ℕ). AreEnds (CountsAmong ss held w j i h) span) at (record { low = s.low; least = s.least; high = s.high; greatest = s.greatest })

ends_span : (ss : List Stream) (held : List Bool) (w : Entries) (j i : ℕ) (span : Span) → span.last ≡ i → AreEnds (CountsAmong ss held w j i i) span → IsSpan ss held w j i span
ends_span ss held w j i span at e =
    let f : AreEnds (CountsAmong ss held w j i span.last) span = subst (λ (h : ℕ). AreEnds (CountsAmong ss held w j i h) span) (sym at) e in
    record { low = f.low; least = f.least; high = f.high; greatest = f.greatest }

-- the ends of an unmeasured stream that isn't held count for each other
pub own_more : (ss : List Stream) (held : List Bool) (w : Entries) (j : ℕ) (spans : List Span) → unheld_unmeasured held j (get_or ss j some_stream) ≡ true
    → AreOwn ss held w j spans → AreOwn ss held w (j + 1) (noted (noted spans (from_of ss w j) (to_of ss w j)) (to_of ss w j) (from_of ss w j))
own_more ss held w j spans unheld own =
    let a = from_of ss w j in
    let b = to_of ss w j in
    let one = noted spans a b in
    let two = noted one b a in
    let each_one : length one ≡ length spans = length-set spans a (counted (span_at spans a) b) in
    let each_two : length two ≡ length one = length-set one b (counted (span_at one b) a) in
    let last : (i : ℕ) → i < length w.list → (span_at two i).last ≡ i =
    λ i lt. noted_last one b a i (omega (arith, lt, each_one, own.each)) ∙ noted_last spans a b i (omega (arith, lt, own.each)) ∙ own.last i lt in
    record {
      each = each_two ∙ each_one ∙ own.each;
      last = last;
      span = λ i lt.
          let before = CountsAmong ss held w j i i in
          let now = CountsAmong ss held w (j + 1) i i in
          let was : AreEnds before (span_at spans i) = span_ends ss held w j i (span_at spans i) (own.last i lt) (own.span i lt) in
          let with_one = ends_noted before spans a b i (omega (arith, lt, own.each)) was in
          let with_two = ends_noted (λ x. before x ⊎ ((i ≡ a) × (x ≡ b))) one b a i (omega (arith, lt, each_one, own.each)) with_one in
          ends_span ss held w (j + 1) i (span_at two i) (last i lt)
          (ends_same (λ x. (before x ⊎ ((i ≡ a) × (x ≡ b))) ⊎ ((i ≡ b) × (x ≡ a))) now (span_at two i)
          (λ x h. elim h [
            | inl more ↦ elim more [
              | inl c ↦ counts_later ss held w j i i x c
              | inr is ↦
                  record {
                    entry = i;
                    from = omega arith;
                    to = omega arith;
                    beside = inr (record { k = j; before = omega arith; unheld = unheld; ends = inl (sym is.0, sym is.1) });
                  }
            ]
            | inr is ↦
                record {
                  entry = i;
                  from = omega arith;
                  to = omega arith;
                  beside = inr (record { k = j; before = omega arith; unheld = unheld; ends = inr (sym is.0, sym is.1) });
                }
          ])
          (λ x c. elim (counts_before ss held w j i x c) [
            | inl old ↦ inl (inl old)
            | inr new ↦ elim new.1 [
              | inl is ↦ inl (inr (sym is.0, sym is.1))
              | inr is ↦ inr (sym is.0, sym is.1)
            ]
          ]) with_two);
    }

-- ---- spans joined
pub whole_none : (ss : List Stream) (held : List Bool) (w : Entries) (spans : List Span) → AreOwn ss held w (length ss) spans → AreWholeFrom ss held w (length w.list) spans
whole_none ss held w spans own = record {
  each = own.each;
  last = own.last;
  own = own.span;
  whole = λ n le lt. absurd (omega (arith, le, lt));
}

-- the span of a single entry
pub deeper_none : (ss : List Stream) (held : List Bool) (w : Entries) (i : ℕ) (spans : List Span) → i < length w.list → AreWholeFrom ss held w (i + 1) spans
    → IsDeeper ss held w i (span_at spans i)
deeper_none ss held w i spans lt behind =
    let at = behind.last i (omega arith) in
    record {
      within = omega (arith, at, lt);
      from = omega (arith, at);
      over = λ m after le. absurd (omega (arith, after, le, at));
      ends = behind.own i (omega arith);
    }

-- the span after it is deeper, and is joined
pub deeper_more : (ss : List Stream) (held : List Bool) (w : Entries) (i : ℕ) (span next : Span) → IsDeeper ss held w i span → depth_at w i < depth_at w (span.last + 1)
    → IsWholeSpan ss held w (span.last + 1) next → IsDeeper ss held w i (both span next)
deeper_more ss held w i span next a deep whole =
    let b = whole.deeper in
    let low = CountsAmong ss held w (length ss) i span.last in
    let high = CountsAmong ss held w (length ss) (span.last + 1) next.last in
    let all = CountsAmong ss held w (length ss) i next.last in
    let ends_a : AreEnds low span = record { low = a.ends.low; least = a.ends.least; high = a.ends.high; greatest = a.ends.greatest } in
    let ends_b : AreEnds high next = record { low = b.ends.low; least = b.ends.least; high = b.ends.high; greatest = b.ends.greatest } in
    let ends : AreEnds all (both span next) =
    ends_same (λ x. low x ⊎ high x) all (both span next)
    (λ x h. elim h [
      | inl c ↦ record { entry = c.entry; from = c.from; to = omega (arith, c.to, b.from); beside = c.beside }
      | inr c ↦ record { entry = c.entry; from = omega (arith, c.from, a.from); to = c.to; beside = c.beside }
    ])
    (λ x c. elim (cases_lt span.last c.entry) [
      | inl after ↦ inr (record { entry = c.entry; from = omega (arith, after); to = c.to; beside = c.beside })
      | inr before ↦ inl (record { entry = c.entry; from = c.from; to = before; beside = c.beside })
    ])
    (ends_both low high span next ends_a ends_b) in
    record {
      within = b.within;
      from = omega (arith, a.from, b.from);
      over = λ m after le. elim (cases_lt span.last m) [
        | inr early ↦ a.over m after early
        | inl late ↦ elim (cases_eq m (span.last + 1)) [
          | inl same ↦ let d = ap (depth_at w) same in omega (arith, d, deep)
          | inr ne ↦ let d = b.over m (omega (arith, late, ne)) le in omega (arith, d, deep)
        ]
      ];
      ends = record { low = ends.low; least = ends.least; high = ends.high; greatest = ends.greatest };
    }

-- one more whole span
pub whole_more : (ss : List Stream) (held : List Bool) (w : Entries) (i : ℕ) (spans more : List Span) (span : Span) → i < length w.list → AreWholeFrom ss held w (i + 1) spans
    → IsWholeSpan ss held w i span → more ≡ set spans i span → AreWholeFrom ss held w i more
whole_more ss held w i spans more span lt behind whole is =
    let other : (n : ℕ) → n ≢ i → span_at more n ≡ span_at spans n = λ n ne. ap (λ (l : List Span). span_at l n) is ∙ get_or-set_other spans i n span some_span ne in
    let here : span_at more i ≡ span = ap (λ (l : List Span). span_at l i) is ∙ get_or-set_same spans i span some_span (omega (arith, lt, behind.each)) in
    record {
      each = ap length is ∙ length-set spans i span ∙ behind.each;
      last = λ n less. ap (λ (s : Span). s.last) (other n (λ e. omega (arith, e, less))) ∙ behind.last n (omega (arith, less));
      own = λ n less. subst (IsSpan ss held w (length ss) n) (sym (other n (λ e. omega (arith, e, less)))) (behind.own n (omega (arith, less)));
      whole = λ n le within. elim (cases_eq n i) [
        | inl same ↦ subst (λ (k : ℕ). IsWholeSpan ss held w k (span_at more k)) (sym same) (subst (IsWholeSpan ss held w i) (sym here) whole)
        | inr ne ↦ subst (IsWholeSpan ss held w n) (sym (other n ne)) (behind.whole n (omega (arith, le, ne)) within)
      ];
    }
