-- One more node is entered: what was known about the entries stays.
use Rattle.std.proofs.Common.{◌≡◌, ◌≢◌, ◌∙◌, ◌⊎◌, ℕ, zero, suc, ◌+◌, ◌<◌, ◌≤◌, Bool, true, false, List, [], ◌∷◌, ◌++◌, length, Option, Some, None, get_or, set, refl, sym, ap, subst, inl, inr, arith}
use Rattle.std.proofs.lemmas.Bool.{cases_eq}
use Rattle.std.proofs.lemmas.List.{get_or-set_same, get_or-set_other, get_or_append_left, length-append, length-set}
use Rattle.std.proofs.Math.Seq.{get_or-append_seam}
use Rattle.pb_graph.specs.declared.records.Stream.{Stream}
use Rattle.pb_graph.specs.ProcessGraph.{some_stream}
use Rattle.pb_graph.specs.Neighbours.{touches}
use Rattle.pb_classify.specs.declared.walk.Entry.{Entry}
use Rattle.pb_classify.specs.Tables.{Entries, some_entry, entry_at, node_at, depth_at, tree_at, number_of, is_entered}
use Rattle.pb_classify.specs.Walk.{unentered, end_from, Hangs, AreEntries, Waits, IsFollowed, AreWaiting, IsWalking, IsNext, with_entry}

pub option_cases : (o : Option ℕ) → (o ≡ None) ⊎ ((k : ℕ) × (o ≡ Some k))
option_cases None = inl refl
option_cases (Some k) = inr (k, refl)

-- ---- the list and the numbers with one more node
pub size_more : (w : Entries) (e : Entry) → length (with_entry w e).list ≡ length w.list + 1
size_more w e = length-append w.list (e ∷ [])

pub entry_before : (w : Entries) (e : Entry) (i : ℕ) → i < length w.list → entry_at (with_entry w e) i ≡ entry_at w i
entry_before w e i lt = get_or_append_left w.list (e ∷ []) some_entry i lt

pub entry_last : (w : Entries) (e : Entry) → entry_at (with_entry w e) (length w.list) ≡ e
entry_last w e = get_or-append_seam w.list e [] some_entry

number_last : (w : Entries) (e : Entry) → e.node < length w.numbers → number_of (with_entry w e) e.node ≡ length w.list
number_last w e lt = get_or-set_same w.numbers e.node (length w.list) 0 lt

number_other : (w : Entries) (e : Entry) (n : ℕ) → n ≢ e.node → number_of (with_entry w e) n ≡ number_of w n
number_other w e n ne = get_or-set_other w.numbers e.node n (length w.list) 0 ne

pub entered_last : (w : Entries) (e : Entry) → e.node < length w.entered → is_entered (with_entry w e) e.node ≡ true
entered_last w e lt = get_or-set_same w.entered e.node true false lt

entered_other : (w : Entries) (e : Entry) (n : ℕ) → n ≢ e.node → is_entered (with_entry w e) n ≡ is_entered w n
entered_other w e n ne = get_or-set_other w.entered e.node n true false ne

pub entered_kept : (nodes : ℕ) (w : Entries) (e : Entry) (n : ℕ) → e.node < length w.entered → is_entered w n ≡ true → is_entered (with_entry w e) n ≡ true
entered_kept nodes w e n lt was = elim (cases_eq n e.node) [
  | inl same ↦ ap (is_entered (with_entry w e)) same ∙ entered_last w e lt
  | inr ne ↦ entered_other w e n ne ∙ was
]

-- the number of a node entered before stays
number_kept : (w : Entries) (e : Entry) (n : ℕ) → is_entered w e.node ≡ false → is_entered w n ≡ true → number_of (with_entry w e) n ≡ number_of w n
number_kept w e n new was = number_other w e n (λ same. cc (sym was ∙ ap (is_entered w) same ∙ new))

pub unentered_set : (marks : List Bool) (n : ℕ) → n < length marks → get_or marks n false ≡ false → unentered (set marks n true) + 1 ≡ unentered marks
unentered_set [] n lt none = absurd (omega (arith, lt))
unentered_set (false ∷ marks) zero lt none = omega arith
unentered_set (true ∷ marks) zero lt none = cc none
unentered_set (false ∷ marks) (suc n) lt none = let e = unentered_set marks n (omega (arith, lt)) none in omega (arith, e)
unentered_set (true ∷ marks) (suc n) lt none = unentered_set marks n (omega (arith, lt)) none

-- ---- what hangs still hangs
pub hangs_more : (ss : List Stream) (held : List Bool) (w : Entries) (e x : Entry) (i k : ℕ) → i ≤ length w.list → Hangs ss held w i x k → Hangs ss held (with_entry w e) i x k
hangs_more ss held w e x i k le h =
    let u = with_entry w e in
    let same : (m : ℕ) → m < i → entry_at u m ≡ entry_at w m = λ m lt. entry_before w e m (omega (arith, lt, le)) in
    let parent = same h.parent h.before in
    record {
      there = h.there;
      branch = h.branch;
      touch = h.touch;
      parent = h.parent;
      before = h.before;
      end = ap (λ (y : Entry). y.node) parent ∙ h.end;
      deeper = ap (λ (y : Entry). y.depth + 1) parent ∙ h.deeper;
      over = λ m from lt.
          let p : depth_at u h.parent ≡ depth_at w h.parent = ap (λ (y : Entry). y.depth) parent in
          let q : depth_at u m ≡ depth_at w m = ap (λ (y : Entry). y.depth) (same m lt) in
          let was = h.over m from lt in
          omega (arith, p, q, was);
      tree = ap (λ (y : Entry). y.tree) parent ∙ h.tree;
    }

-- the new entry is deeper than the parent of what waits
pub hangs_behind : (ss : List Stream) (held : List Bool) (w : Entries) (e x : Entry) (k : ℕ) → x.depth ≤ e.depth → Hangs ss held w (length w.list) x k
    → Hangs ss held (with_entry w e) (length (with_entry w e).list) x k
hangs_behind ss held w e x k deep h =
    let u = with_entry w e in
    let size = size_more w e in
    let more = hangs_more ss held w e x (length w.list) k (omega arith) h in
    record {
      there = more.there;
      branch = more.branch;
      touch = more.touch;
      parent = more.parent;
      before = omega (arith, more.before, size);
      end = more.end;
      deeper = more.deeper;
      over = λ m from lt. elim (cases_eq m (length w.list)) [
        | inl same ↦
            let last : depth_at u m ≡ e.depth = ap (depth_at u) same ∙ ap (λ (y : Entry). y.depth) (entry_last w e) in
            omega (arith, last, more.deeper, deep)
        | inr ne ↦ more.over m from (omega (arith, lt, ne, size))
      ];
      tree = more.tree;
    }

-- ---- the entries with one more node
pub entries_more : (nodes : ℕ) (ss : List Stream) (held : List Bool) (e : Entry) (stack : List Entry) (w : Entries) → IsNext nodes ss held e stack w
    → AreEntries nodes ss held (with_entry w e)
entries_more nodes ss held e stack w next =
    let was = next.entries in
    let u = with_entry w e in
    let size : length u.list ≡ length w.list + 1 = size_more w e in
    let in_numbers : e.node < length w.numbers = omega (arith, next.node, was.numbers) in
    let in_marks : e.node < length w.entered = omega (arith, next.node, was.marks) in
    let before : (i : ℕ) → i < length w.list → entry_at u i ≡ entry_at w i = entry_before w e in
    let last : entry_at u (length w.list) ≡ e = entry_last w e in
    let node_last : node_at u (length w.list) ≡ e.node = ap (λ (y : Entry). y.node) last in
    let node_before : (i : ℕ) → i < length w.list → node_at u i ≡ node_at w i = λ i lt. ap (λ (y : Entry). y.node) (before i lt) in
    record {
      numbers = length-set w.numbers e.node (length w.list) ∙ was.numbers;
      marks = length-set w.entered e.node true ∙ was.marks;
      room = let less = unentered_set w.entered e.node in_marks next.new in omega (arith, less, size, was.room);
      within = λ i lt. elim (cases_eq i (length w.list)) [
        | inl same ↦ let at : node_at u i ≡ e.node = ap (node_at u) same ∙ node_last in omega (arith, at, next.node)
        | inr ne ↦
            let old : i < length w.list = omega (arith, lt, ne, size) in
            let w_at = was.within i old in
            omega (arith, node_before i old, w_at)
      ];
      seen = λ i lt. elim (cases_eq i (length w.list)) [
        | inl same ↦ ap (λ (m : ℕ). is_entered u (node_at u m)) same ∙ ap (is_entered u) node_last ∙ entered_last w e in_marks
        | inr ne ↦
            let old : i < length w.list = omega (arith, lt, ne, size) in
            ap (is_entered u) (node_before i old) ∙ entered_kept nodes w e (node_at w i) in_marks (was.seen i old)
      ];
      placed = λ i lt. elim (cases_eq i (length w.list)) [
        | inl same ↦ ap (λ (m : ℕ). number_of u (node_at u m)) same ∙ ap (number_of u) node_last ∙ number_last w e in_numbers ∙ sym same
        | inr ne ↦
            let old : i < length w.list = omega (arith, lt, ne, size) in
            ap (number_of u) (node_before i old) ∙ number_kept w e (node_at w i) next.new (was.seen i old) ∙ was.placed i old
      ];
      few = λ n seen. elim (cases_eq n e.node) [
        | inl same ↦ let at : number_of u n ≡ length w.list = ap (number_of u) same ∙ number_last w e in_numbers in omega (arith, at, size)
        | inr ne ↦
            let lt = was.few n (sym (entered_other w e n ne) ∙ seen) in
            omega (arith, number_other w e n ne, lt, size)
      ];
      found = λ n seen. elim (cases_eq n e.node) [
        | inl same ↦ ap (node_at u) (ap (number_of u) same ∙ number_last w e in_numbers) ∙ node_last ∙ sym same
        | inr ne ↦
            let seen_w : is_entered w n ≡ true = sym (entered_other w e n ne) ∙ seen in
            ap (node_at u) (number_other w e n ne) ∙ node_before (number_of w n) (was.few n seen_w) ∙ was.found n seen_w
      ];
      shallow = λ i lt. elim (cases_eq i (length w.list)) [
        | inl same ↦
            let at : depth_at u i ≡ e.depth = ap (depth_at u) same ∙ ap (λ (y : Entry). y.depth) last in
            elim (option_cases e.up) [
              | inl none ↦ omega (arith, at, next.top none)
              | inr some ↦
                  let (k, up) = some in
                  let h = next.hangs k up in
                  let shallow = was.shallow h.parent h.before in
                  omega (arith, at, h.deeper, h.before, shallow, same)
            ]
        | inr ne ↦
            let old : i < length w.list = omega (arith, lt, ne, size) in
            let at : depth_at u i ≡ depth_at w i = ap (λ (y : Entry). y.depth) (before i old) in
            let shallow = was.shallow i old in
            omega (arith, at, shallow)
      ];
      top = λ i lt none. elim (cases_eq i (length w.list)) [
        | inl same ↦
            let at : entry_at u i ≡ e = ap (entry_at u) same ∙ last in
            ap (λ (y : Entry). y.depth) at ∙ next.top (sym (ap (λ (y : Entry). y.up) at) ∙ none)
        | inr ne ↦
            let old : i < length w.list = omega (arith, lt, ne, size) in
            ap (λ (y : Entry). y.depth) (before i old) ∙ was.top i old (sym (ap (λ (y : Entry). y.up) (before i old)) ∙ none)
      ];
      label = λ i lt none. elim (cases_eq i (length w.list)) [
        | inl same ↦
            let at : entry_at u i ≡ e = ap (entry_at u) same ∙ last in
            ap (λ (y : Entry). y.tree) at ∙ next.label (sym (ap (λ (y : Entry). y.up) at) ∙ none) ∙ sym same
        | inr ne ↦
            let old : i < length w.list = omega (arith, lt, ne, size) in
            ap (λ (y : Entry). y.tree) (before i old) ∙ was.label i old (sym (ap (λ (y : Entry). y.up) (before i old)) ∙ none)
      ];
      branch = λ i k lt up. elim (cases_eq i (length w.list)) [
        | inl same ↦
            let at : entry_at u i ≡ e = ap (entry_at u) same ∙ last in
            let h : Hangs ss held u (length w.list) e k = hangs_more ss held w e e (length w.list) k (omega arith) (next.hangs k (sym (ap (λ (y : Entry). y.up) at) ∙ up)) in
            subst (λ (y : Entry). Hangs ss held u i y k) (sym at) (subst (λ (m : ℕ). Hangs ss held u m e k) (sym same) h)
        | inr ne ↦
            let old : i < length w.list = omega (arith, lt, ne, size) in
            let at : entry_at u i ≡ entry_at w i = before i old in
            let h = was.branch i k old (sym (ap (λ (y : Entry). y.up) at) ∙ up) in
            subst (λ (y : Entry). Hangs ss held u i y k) (sym at) (hangs_more ss held w e (entry_at w i) i k (omega (arith, old)) h)
      ];
    }

-- ---- what waits with one more node
waits_more : (nodes : ℕ) (ss : List Stream) (held : List Bool) (e x : Entry) (stack : List Entry) (w : Entries) → IsNext nodes ss held e stack w → x.depth ≤ e.depth
    → Waits nodes ss held w e.tree x → Waits nodes ss held (with_entry w e) e.tree x
waits_more nodes ss held e x stack w next deep waits =
    let u = with_entry w e in
    let was = next.entries in
    record {
      node = waits.node;
      up = waits.up;
      is = waits.is;
      hangs = hangs_behind ss held w e x waits.up deep waits.hangs;
      label = waits.label;
      same = λ seen. elim (cases_eq x.node e.node) [
        | inl same ↦
            let at : number_of u x.node ≡ length w.list = ap (number_of u) same ∙ number_last w e (omega (arith, next.node, was.numbers)) in
            ap (tree_at u) at ∙ ap (λ (y : Entry). y.tree) (entry_last w e)
        | inr ne ↦
            let seen_w : is_entered w x.node ≡ true = sym (entered_other w e x.node ne) ∙ seen in
            ap (tree_at u) (number_other w e x.node ne) ∙ ap (λ (y : Entry). y.tree) (entry_before w e (number_of w x.node) (was.few x.node seen_w)) ∙ waits.same seen_w
      ];
    }

pub waiting_more : (nodes : ℕ) (ss : List Stream) (held : List Bool) (e : Entry) (stack : List Entry) (w : Entries) → IsNext nodes ss held e stack w
    → AreWaiting nodes ss held (with_entry w e) e.tree stack
waiting_more nodes ss held e stack w next = record {
  each = λ q lt. waits_more nodes ss held e (get_or stack q some_entry) stack w next (next.deepest q lt) (next.waiting.each q lt);
  sorted = next.waiting.sorted;
}

-- ---- what was followed with one more node
pub followed_more : (nodes : ℕ) (ss : List Stream) (held : List Bool) (e : Entry) (stack : List Entry) (w : Entries) (i k : ℕ) → IsNext nodes ss held e stack w
    → i < length w.list → IsFollowed ss w e.tree (stack ++ e ∷ []) i k → IsFollowed ss (with_entry w e) e.tree stack i k
followed_more nodes ss held e stack w i k next lt followed =
    let u = with_entry w e in
    let was = next.entries in
    let at : entry_at u i ≡ entry_at w i = entry_before w e i lt in
    let node : node_at u i ≡ node_at w i = ap (λ (y : Entry). y.node) at in
    let tree : tree_at u i ≡ tree_at w i = ap (λ (y : Entry). y.tree) at in
    let end : end_from ss (node_at u i) k ≡ end_from ss (node_at w i) k = ap (λ (n : ℕ). end_from ss n k) node in
    let other = end_from ss (node_at w i) k in
    elim followed [
      | inl here ↦
          let number : number_of u (end_from ss (node_at u i) k) ≡ number_of w other = ap (number_of u) end ∙ number_kept w e other next.new here.0 in
          inl (
            ap (is_entered u) end ∙ entered_kept nodes w e other (omega (arith, next.node, was.marks)) here.0,
            ap (tree_at u) number ∙ ap (λ (y : Entry). y.tree) (entry_before w e (number_of w other) (was.few other here.0)) ∙ here.1 ∙ sym tree,
          )
      | inr waits ↦
          let (q, less, is) = waits.1 in
          elim (cases_eq q (length stack)) [
            | inl same ↦
                let top : get_or (stack ++ e ∷ []) q some_entry ≡ e = ap (λ (m : ℕ). get_or (stack ++ e ∷ []) m some_entry) same ∙ get_or-append_seam stack e [] some_entry in
                let is_e : end_from ss (node_at u i) k ≡ e.node = end ∙ sym is ∙ ap (λ (y : Entry). y.node) top in
                inl (
                  ap (is_entered u) is_e ∙ entered_last w e (omega (arith, next.node, was.marks)),
                  ap (λ (n : ℕ). tree_at u (number_of u n)) is_e ∙ ap (tree_at u) (number_last w e (omega (arith, next.node, was.numbers))) ∙ ap (λ (y : Entry). y.tree) (entry_last w e)
                      ∙ sym waits.0 ∙ sym tree,
                )
            | inr ne ↦
                let old : q < length stack = omega (arith, less, ne, length-append stack (e ∷ [])) in
                inr (tree ∙ waits.0, (q, old, ap (λ (y : Entry). y.node) (sym (get_or_append_left stack (e ∷ []) some_entry q old)) ∙ is ∙ sym end))
          ]
    ]

-- a node is entered
pub enters : (nodes : ℕ) (ss : List Stream) (held : List Bool) (e : Entry) (stack : List Entry) (w : Entries) → IsNext nodes ss held e stack w
    → IsWalking nodes ss held e.tree (length w.list) stack (with_entry w e)
enters nodes ss held e stack w next =
    let u = with_entry w e in
    record {
      entries = entries_more nodes ss held e stack w next;
      waiting = waiting_more nodes ss held e stack w next;
      followed = λ i k lt there branch touch.
          let node : node_at u i ≡ node_at w i = ap (λ (y : Entry). y.node) (entry_before w e i lt) in
          let touch_w : touches (node_at w i) (get_or ss k some_stream) ≡ true = ap (λ (n : ℕ). touches n (get_or ss k some_stream)) (sym node) ∙ touch in
          followed_more nodes ss held e stack w i k next lt (next.followed i k lt there branch touch_w);
    }
