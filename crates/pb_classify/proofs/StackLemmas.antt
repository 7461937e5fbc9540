-- One more stream is followed from the last entry; an entry that waited is taken.
use Rattle.std.proofs.Common.{◌≡◌, ◌∙◌, ℕ, zero, suc, ◌+◌, ◌*◌, ◌<◌, ◌≤◌, Bool, true, false, List, [], ◌∷◌, ◌++◌, length, replicate, None, Result, Ok, Err, OnOk, get_or, refl, sym, ap, subst, inl, inr, arith}
use Rattle.std.proofs.lemmas.Bool.{cases_Bool, cases_eq}
use Rattle.std.proofs.lemmas.List.{get_or_append_left, length-append, length-replicate}
use Rattle.std.proofs.Math.Seq.{get_or-append_seam}
use Rattle.pb_graph.specs.declared.records.Stream.{Stream}
use Rattle.pb_graph.specs.ProcessGraph.{IsStream, some_stream, other_end}
use Rattle.pb_graph.specs.Neighbours.{touches, touching_from, touching}
use Rattle.pb_forest.proofs.ForestLaws.{other_touches, other_back, end_within, touching_place}
use Rattle.pb_classify.specs.declared.walk.Entry.{Entry}
use Rattle.pb_classify.specs.Tables.{Entries, some_entry, node_at, depth_at, tree_at, number_of, is_entered}
use Rattle.pb_classify.specs.Walk.{unentered, is_branch, end_from, Hangs, AreEntries, Waits, IsFollowed, AreWaiting, IsWalking, IsNext, hung, followed}

-- the first streams of a list were followed from the last entry, the i-th
pub record IsFollowing (nodes : ℕ) (ss : List Stream) (held : List Bool) (w : Entries) (i : ℕ) (list : List ℕ) (start p : ℕ) (stack : List Entry) : Type 0 where
  pub waiting : AreWaiting nodes ss held w (tree_at w i) stack
  pub top : (q : ℕ) → q < length stack → (get_or stack q some_entry).depth ≤ depth_at w i + 1
  pub before :
      (m k : ℕ) → m < i → k < length ss → is_branch ss held k ≡ true → touches (node_at w m) (get_or ss k some_stream) ≡ true → IsFollowed ss w (tree_at w i) stack m k
  pub here : (r : ℕ) → r < p → is_branch ss held (get_or list r 0) ≡ true → IsFollowed ss w (tree_at w i) stack i (get_or list r 0)
  pub few : length stack ≤ start + p

pub following_none : (nodes : ℕ) (ss : List Stream) (held : List Bool) (w : Entries) (i : ℕ) (list : List ℕ) (stack : List Entry)
    → IsWalking nodes ss held (tree_at w i) i stack w → ((q : ℕ) → q < length stack → (get_or stack q some_entry).depth ≤ depth_at w i)
    → IsFollowing nodes ss held w i list (length stack) 0 stack
following_none nodes ss held w i list stack walking deepest = record {
  waiting = walking.waiting;
  top = λ q lt. let d = deepest q lt in omega (arith, d);
  before = walking.followed;
  here = λ r lt branch. absurd (omega (arith, lt));
  few = omega arith;
}

-- what was followed stays so with more on the stack
followed_longer : (ss : List Stream) (w : Entries) (tree : ℕ) (stack : List Entry) (e : Entry) (i k : ℕ) → IsFollowed ss w tree stack i k → IsFollowed ss w tree (stack ++ e ∷ []) i k
followed_longer ss w tree stack e i k followed = elim followed [
  | inl here ↦ inl here
  | inr waits ↦
      let (q, lt, is) = waits.1 in
      inr (waits.0, (q, omega (arith, lt, length-append stack (e ∷ [])), ap (λ (y : Entry). y.node) (get_or_append_left stack (e ∷ []) some_entry q lt) ∙ is))
]

-- the new entry on the stack
waits_new : (nodes : ℕ) (ss : List Stream) (held : List Bool) (w : Entries) (i k : ℕ) → length w.list ≡ i + 1 → IsStream nodes (get_or ss k some_stream)
    → k < length ss → is_branch ss held k ≡ true → touches (node_at w i) (get_or ss k some_stream) ≡ true → is_entered w (end_from ss (node_at w i) k) ≡ false
    → Waits nodes ss held w (tree_at w i) (hung ss w i k)
waits_new nodes ss held w i k size is there branch touch new =
    let s : Stream = get_or ss k some_stream in
    record {
      node = end_within nodes (node_at w i) s is touch;
      up = k;
      is = refl;
      hangs = record {
        there = there;
        branch = branch;
        touch = other_touches (node_at w i) s touch;
        parent = i;
        before = omega (arith, size);
        end = sym (other_back nodes (node_at w i) s is touch);
        deeper = refl;
        over = λ m from lt. absurd (omega (arith, from, lt, size));
        tree = refl;
      };
      label = refl;
      same = λ seen. cc (sym seen ∙ new);
    }

following_new : (nodes : ℕ) (ss : List Stream) (held : List Bool) (w : Entries) (i : ℕ) (list : List ℕ) (start p k : ℕ) (stack : List Entry) → length w.list ≡ i + 1
    → IsStream nodes (get_or ss k some_stream) → k < length ss → touches (node_at w i) (get_or ss k some_stream) ≡ true → k ≡ get_or list p 0
    → is_branch ss held k ≡ true → is_entered w (end_from ss (node_at w i) k) ≡ false
    → IsFollowing nodes ss held w i list start p stack → IsFollowing nodes ss held w i list start (p + 1) (stack ++ hung ss w i k ∷ [])
following_new nodes ss held w i list start p k stack size is there touch at branch new f =
    let e = hung ss w i k in
    let more = stack ++ e ∷ [] in
    let longer : length more ≡ length stack + 1 = length-append stack (e ∷ []) in
    let last : get_or more (length stack) some_entry ≡ e = get_or-append_seam stack e [] some_entry in
    let old : (q : ℕ) → q < length stack → get_or more q some_entry ≡ get_or stack q some_entry = get_or_append_left stack (e ∷ []) some_entry in
    let depth_old : (q : ℕ) → q < length stack → (get_or more q some_entry).depth ≡ (get_or stack q some_entry).depth = λ q lt. ap (λ (y : Entry). y.depth) (old q lt) in
    let depth_last : (q : ℕ) → q ≡ length stack → (get_or more q some_entry).depth ≡ depth_at w i + 1 =
    λ q same. ap (λ (m : ℕ). (get_or more m some_entry).depth) same ∙ ap (λ (y : Entry). y.depth) last in
    record {
      waiting = record {
        each = λ q lt. elim (cases_eq q (length stack)) [
          | inl same ↦
              subst (Waits nodes ss held w (tree_at w i)) (sym (ap (λ (m : ℕ). get_or more m some_entry) same ∙ last)) (waits_new nodes ss held w i k size is there branch touch new)
          | inr ne ↦
              let less : q < length stack = omega (arith, lt, ne, longer) in
              subst (Waits nodes ss held w (tree_at w i)) (sym (old q less)) (f.waiting.each q less)
        ];
        sorted = λ q r le lt. elim (cases_eq r (length stack)) [
          | inl same ↦ elim (cases_eq q (length stack)) [
            | inl both ↦ omega (arith, depth_last q both, depth_last r same)
            | inr ne ↦
                let less : q < length stack = omega (arith, le, lt, ne, longer) in
                let t = f.top q less in
                omega (arith, depth_last r same, depth_old q less, t)
          ]
          | inr ne ↦
              let less : r < length stack = omega (arith, lt, ne, longer) in
              let less_q : q < length stack = omega (arith, le, less) in
              let s = f.waiting.sorted q r le less in
              omega (arith, depth_old q less_q, depth_old r less, s)
        ];
      };
      top = λ q lt. elim (cases_eq q (length stack)) [
        | inl same ↦ omega (arith, depth_last q same)
        | inr ne ↦
            let less : q < length stack = omega (arith, lt, ne, longer) in
            let t = f.top q less in
            omega (arith, depth_old q less, t)
      ];
      before = λ m j lt there_j branch_j touch_j. followed_longer ss w (tree_at w i) stack e m j (f.before m j lt there_j branch_j touch_j);
      here = λ r lt branch_r. elim (cases_eq r p) [
        | inl same ↦
            let is_k : get_or list r 0 ≡ k = ap (λ (m : ℕ). get_or list m 0) same ∙ sym at in
            subst (IsFollowed ss w (tree_at w i) more i) (sym is_k) (inr (refl, (length stack, omega (arith, longer), ap (λ (y : Entry). y.node) last)))
        | inr ne ↦ followed_longer ss w (tree_at w i) stack e i (get_or list r 0) (f.here r (omega (arith, lt, ne)) branch_r)
      ];
      few = omega (arith, longer, f.few);
    }

-- the other end was entered before: in the same tree
followed_already : (nodes : ℕ) (ss : List Stream) (held : List Bool) (w : Entries) (i : ℕ) (list : List ℕ) (start p k : ℕ) (stack : List Entry)
    → AreEntries nodes ss held w → length w.list ≡ i + 1 → IsStream nodes (get_or ss k some_stream) → k < length ss
    → touches (node_at w i) (get_or ss k some_stream) ≡ true → is_branch ss held k ≡ true → is_entered w (end_from ss (node_at w i) k) ≡ true
    → IsFollowing nodes ss held w i list start p stack → IsFollowed ss w (tree_at w i) stack i k
followed_already nodes ss held w i list start p k stack entries size is there touch branch seen f =
    let s : Stream = get_or ss k some_stream in
    let node = node_at w i in
    let other = other_end node s in
    let number = number_of w other in
    let few : number < length w.list = entries.few other seen in
    let at : node_at w number ≡ other = entries.found other seen in
    elim (cases_eq number i) [
      | inl same ↦ inl (seen, ap (tree_at w) same)
      | inr ne ↦
          let touch_m : touches (node_at w number) s ≡ true = ap (λ (n : ℕ). touches n s) at ∙ other_touches node s touch in
          let back : end_from ss (node_at w number) k ≡ node = ap (λ (n : ℕ). other_end n s) at ∙ other_back nodes node s is touch in
          elim (f.before number k (omega (arith, few, ne, size)) there branch touch_m) [
            | inl entered ↦
                let place : number_of w (end_from ss (node_at w number) k) ≡ i = ap (number_of w) back ∙ entries.placed i (omega (arith, size)) in
                inl (seen, sym entered.1 ∙ ap (tree_at w) place)
            | inr waits ↦ inl (seen, waits.0)
          ]
    ]

following_same : (nodes : ℕ) (ss : List Stream) (held : List Bool) (w : Entries) (i : ℕ) (list : List ℕ) (start p : ℕ) (stack : List Entry)
    → (is_branch ss held (get_or list p 0) ≡ true → IsFollowed ss w (tree_at w i) stack i (get_or list p 0))
    → IsFollowing nodes ss held w i list start p stack → IsFollowing nodes ss held w i list start (p + 1) stack
following_same nodes ss held w i list start p stack here f = record {
  waiting = f.waiting;
  top = f.top;
  before = f.before;
  here = λ r lt branch. elim (cases_eq r p) [
    | inl same ↦
        let is : get_or list r 0 ≡ get_or list p 0 = ap (λ (m : ℕ). get_or list m 0) same in
        subst (IsFollowed ss w (tree_at w i) stack i) (sym is) (here (ap (is_branch ss held) (sym is) ∙ branch))
    | inr ne ↦ f.here r (omega (arith, lt, ne)) branch
  ];
  few = omega (arith, f.few);
}

pub following_more : (nodes : ℕ) (ss : List Stream) (held : List Bool) (w : Entries) (i : ℕ) (list : List ℕ) (start p : ℕ) (stack more : List Entry)
    → AreEntries nodes ss held w → length w.list ≡ i + 1 → IsStream nodes (get_or ss (get_or list p 0) some_stream) → get_or list p 0 < length ss
    → touches (node_at w i) (get_or ss (get_or list p 0) some_stream) ≡ true → more ≡ followed ss held w i (get_or list p 0) stack
    → IsFollowing nodes ss held w i list start p stack → IsFollowing nodes ss held w i list start (p + 1) more
following_more nodes ss held w i list start p stack more entries size is there touch e f =
    let k = get_or list p 0 in
    elim (cases_Bool (is_branch ss held k)) [
      | inr out ↦
          let same : more ≡ stack = rw out at e in
          subst (IsFollowing nodes ss held w i list start (p + 1)) (sym same) (following_same nodes ss held w i list start p stack (λ branch. cc (sym branch ∙ out)) f)
      | inl branch ↦ elim (cases_Bool (is_entered w (end_from ss (node_at w i) k))) [
        | inl seen ↦
            let same : more ≡ stack = rw (branch, seen) at e in
            subst (IsFollowing nodes ss held w i list start (p + 1)) (sym same)
            (following_same nodes ss held w i list start p stack (λ b. followed_already nodes ss held w i list start p k stack entries size is there touch b seen f) f)
        | inr new ↦
            let longer : more ≡ stack ++ hung ss w i k ∷ [] = rw (branch, new) at e in
            subst (IsFollowing nodes ss held w i list start (p + 1)) (sym longer) (following_new nodes ss held w i list start p k stack size is there touch refl branch new f)
      ]
    ]

-- all streams at the last entry were followed
pub following_all : (nodes : ℕ) (ss : List Stream) (held : List Bool) (w : Entries) (i : ℕ) (list : List ℕ) (start : ℕ) (stack : List Entry)
    → AreEntries nodes ss held w → list ≡ touching (node_at w i) ss → IsFollowing nodes ss held w i list start (length list) stack
    → IsWalking nodes ss held (tree_at w i) (i + 1) stack w
following_all nodes ss held w i list start stack entries is f = record {
  entries = entries;
  waiting = f.waiting;
  followed = λ m k lt there branch touch. elim (cases_eq m i) [
    | inr ne ↦ f.before m k (omega (arith, lt, ne)) there branch touch
    | inl same ↦
        let touch_i : touches (node_at w i) (get_or ss k some_stream) ≡ true = ap (λ (j : ℕ). touches (node_at w j) (get_or ss k some_stream)) (sym same) ∙ touch in
        let (r, less, at) = touching_place (node_at w i) 0 ss k there touch_i in
        let at_r : get_or list r 0 ≡ k = ap (λ (l : List ℕ). get_or l r 0) is ∙ at ∙ omega arith in
        let in_list : r < length list = omega (arith, less, ap (λ (l : List ℕ). length l) is) in
        let here : IsFollowed ss w (tree_at w i) stack i k =
        subst (IsFollowed ss w (tree_at w i) stack i) at_r (f.here r in_list (ap (is_branch ss held) at_r ∙ branch)) in
        subst (λ (j : ℕ). IsFollowed ss w (tree_at w i) stack j k) (sym same) here
  ];
}

-- a list of streams at a node isn't longer than the list of all streams
from_few : (n k : ℕ) (ss : List Stream) → length (touching_from n k ss) ≤ length ss
from_few n k [] = omega arith
from_few n k (s ∷ ss) = elim (cases_Bool (touches n s)) [
  | inl here ↦ let less = from_few n (k + 1) ss in rw here (omega (arith, less))
  | inr away ↦ let less = from_few n (k + 1) ss in rw away (omega (arith, less))
]

pub touching_few : (n : ℕ) (ss : List Stream) → length (touching n ss) ≤ length ss
touching_few n ss = from_few n 0 ss

-- ---- an entry that waited is taken
pub waits_last : (nodes : ℕ) (ss : List Stream) (held : List Bool) (e : Entry) (tree done : ℕ) (stack : List Entry) (w : Entries)
    → IsWalking nodes ss held tree done (stack ++ e ∷ []) w → Waits nodes ss held w tree e
waits_last nodes ss held e tree done stack w walking =
    subst (Waits nodes ss held w tree) (get_or-append_seam stack e [] some_entry) (walking.waiting.each (length stack) (omega (arith, length-append stack (e ∷ []))))

waiting_less : (nodes : ℕ) (ss : List Stream) (held : List Bool) (e : Entry) (tree : ℕ) (stack : List Entry) (w : Entries)
    → AreWaiting nodes ss held w tree (stack ++ e ∷ []) → AreWaiting nodes ss held w tree stack
waiting_less nodes ss held e tree stack w waiting =
    let more = stack ++ e ∷ [] in
    let longer : length more ≡ length stack + 1 = length-append stack (e ∷ []) in
    let old : (q : ℕ) → q < length stack → get_or more q some_entry ≡ get_or stack q some_entry = get_or_append_left stack (e ∷ []) some_entry in
    record {
      each = λ q lt. subst (Waits nodes ss held w tree) (old q lt) (waiting.each q (omega (arith, lt, longer)));
      sorted = λ q r le lt.
          let s = waiting.sorted q r le (omega (arith, lt, longer)) in
          let x : (get_or more q some_entry).depth ≡ (get_or stack q some_entry).depth = ap (λ (y : Entry). y.depth) (old q (omega (arith, le, lt))) in
          let y : (get_or more r some_entry).depth ≡ (get_or stack r some_entry).depth = ap (λ (y : Entry). y.depth) (old r lt) in
          omega (arith, s, x, y);
    }

-- its node was entered in the meantime
pub takes_none : (nodes : ℕ) (ss : List Stream) (held : List Bool) (e : Entry) (done : ℕ) (stack : List Entry) (w : Entries)
    → IsWalking nodes ss held e.tree done (stack ++ e ∷ []) w → is_entered w e.node ≡ true → IsWalking nodes ss held e.tree done stack w
takes_none nodes ss held e done stack w walking seen =
    let more = stack ++ e ∷ [] in
    let top = waits_last nodes ss held e e.tree done stack w walking in
    record {
      entries = walking.entries;
      waiting = waiting_less nodes ss held e e.tree stack w walking.waiting;
      followed = λ i k lt there branch touch. elim (walking.followed i k lt there branch touch) [
        | inl here ↦ inl here
        | inr waits ↦
            let (q, less, is) = waits.1 in
            elim (cases_eq q (length stack)) [
              | inl same ↦
                  let at : get_or more q some_entry ≡ e = ap (λ (m : ℕ). get_or more m some_entry) same ∙ get_or-append_seam stack e [] some_entry in
                  let is_e : end_from ss (node_at w i) k ≡ e.node = sym is ∙ ap (λ (y : Entry). y.node) at in
                  inl (ap (is_entered w) is_e ∙ seen, ap (λ (n : ℕ). tree_at w (number_of w n)) is_e ∙ top.same seen ∙ sym waits.0)
              | inr ne ↦
                  let old : q < length stack = omega (arith, less, ne, length-append stack (e ∷ [])) in
                  inr (waits.0, (q, old, ap (λ (y : Entry). y.node) (sym (get_or_append_left stack (e ∷ []) some_entry q old)) ∙ is))
            ]
      ];
    }

-- its node is next
pub takes_next : (nodes : ℕ) (ss : List Stream) (held : List Bool) (e : Entry) (stack : List Entry) (w : Entries)
    → IsWalking nodes ss held e.tree (length w.list) (stack ++ e ∷ []) w → is_entered w e.node ≡ false → IsNext nodes ss held e stack w
takes_next nodes ss held e stack w walking new =
    let more = stack ++ e ∷ [] in
    let top = waits_last nodes ss held e e.tree (length w.list) stack w walking in
    let longer : length more ≡ length stack + 1 = length-append stack (e ∷ []) in
    record {
      entries = walking.entries;
      waiting = waiting_less nodes ss held e e.tree stack w walking.waiting;
      followed = walking.followed;
      node = top.node;
      new = new;
      hangs = λ k up. subst (Hangs ss held w (length w.list) e) (cc (sym top.is ∙ up)) top.hangs;
      top = λ none. cc (sym none ∙ top.is);
      label = λ none. cc (sym none ∙ top.is);
      deepest = λ q lt.
          let s = walking.waiting.sorted q (length stack) (omega (arith, lt)) (omega (arith, longer)) in
          let x : (get_or more q some_entry).depth ≡ (get_or stack q some_entry).depth = ap (λ (y : Entry). y.depth) (get_or_append_left stack (e ∷ []) some_entry q lt) in
          let y : (get_or more (length stack) some_entry).depth ≡ e.depth = ap (λ (y : Entry). y.depth) (get_or-append_seam stack e [] some_entry) in
          omega (arith, s, x, y);
    }

-- a tree begins
pub begins_next : (nodes : ℕ) (ss : List Stream) (held : List Bool) (e : Entry) (w : Entries) → IsWalking nodes ss held 0 (length w.list) [] w → e.node < nodes
    → is_entered w e.node ≡ false → e.up ≡ None → e.depth ≡ 0 → e.tree ≡ length w.list → IsNext nodes ss held e [] w
begins_next nodes ss held e w walking node new none top label = record {
  entries = walking.entries;
  waiting = record { each = λ q lt. absurd (omega (arith, lt)); sorted = λ q r le lt. absurd (omega (arith, lt)) };
  followed = λ i k lt there branch touch. elim (walking.followed i k lt there branch touch) [
    | inl here ↦ inl here
    | inr waits ↦ let (q, less, is) = waits.1 in absurd (omega (arith, less))
  ];
  node = node;
  new = new;
  hangs = λ k up. cc (sym none ∙ up);
  top = λ up. top;
  label = λ up. label;
  deepest = λ q lt. absurd (omega (arith, lt));
}

-- a tree is done
pub ends_tree : (nodes : ℕ) (ss : List Stream) (held : List Bool) (tree done : ℕ) (w : Entries) → IsWalking nodes ss held tree done [] w → IsWalking nodes ss held 0 done [] w
ends_tree nodes ss held tree done w walking = record {
  entries = walking.entries;
  waiting = record { each = λ q lt. absurd (omega (arith, lt)); sorted = λ q r le lt. absurd (omega (arith, lt)) };
  followed = λ i k lt there branch touch. elim (walking.followed i k lt there branch touch) [
    | inl here ↦ inl here
    | inr waits ↦ let (q, less, is) = waits.1 in absurd (omega (arith, less))
  ];
}

-- the measure of the walk falls
pub measure_falls : (u v m a b : ℕ) → u + 1 ≡ v → b ≤ a + m → u * (m + 1) + b ≤ v * (m + 1) + a
measure_falls u v m a b e le = rw (sym e) (omega (arith, le))

-- ---- nothing is entered
no_mark : (m n : ℕ) → get_or (replicate m false) n false ≡ false
no_mark zero n = refl
no_mark (suc m) zero = refl
no_mark (suc m) (suc n) = no_mark m n

all_left : (m : ℕ) → unentered (replicate m false) ≡ m
all_left zero = refl
all_left (suc m) = let e = all_left m in omega (arith, e)

pub walks_none : (nodes : ℕ) (ss : List Stream) (held : List Bool) (w : Entries) → w.numbers ≡ replicate nodes 0 → w.entered ≡ replicate nodes false → w.list ≡ []
    → IsWalking nodes ss held 0 (length w.list) [] w
walks_none nodes ss held w numbers marks list =
    let none : length w.list ≡ 0 = ap length list in
    let left : unentered w.entered ≡ nodes = ap unentered marks ∙ all_left nodes in
    let no : (n : ℕ) → is_entered w n ≡ false = λ n. ap (λ (l : List Bool). get_or l n false) marks ∙ no_mark nodes n in
    record {
      entries = record {
        numbers = ap length numbers ∙ length-replicate nodes 0;
        marks = ap length marks ∙ length-replicate nodes false;
        room = omega (arith, none, left);
        within = λ i lt. absurd (omega (arith, lt, none));
        seen = λ i lt. absurd (omega (arith, lt, none));
        placed = λ i lt. absurd (omega (arith, lt, none));
        few = λ n seen. cc (sym seen ∙ no n);
        found = λ n seen. cc (sym seen ∙ no n);
        shallow = λ i lt. absurd (omega (arith, lt, none));
        top = λ i lt up. absurd (omega (arith, lt, none));
        label = λ i lt up. absurd (omega (arith, lt, none));
        branch = λ i k lt up. absurd (omega (arith, lt, none));
      };
      waiting = record { each = λ q lt. absurd (omega (arith, lt)); sorted = λ q r le lt. absurd (omega (arith, lt)) };
      followed = λ i k lt there branch touch. absurd (omega (arith, lt, none));
    }

pub on_ok_both : {T E : Type 0} (r : Result T E) (P Q R : Type 0) → (P → Q → R) → OnOk r P → OnOk r Q → OnOk r R
on_ok_both (Ok x) P Q R f p q = f p q
on_ok_both (Err e) P Q R f p q = tt
