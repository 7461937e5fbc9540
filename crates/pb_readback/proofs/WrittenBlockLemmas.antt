-- The rows of a block, one after the other: what they say.
use Rattle.std.specs.Prelude.{◌&&◌, not, ◌==◌, codes, bytes_eq, if◌then◌else◌, slice_index_or}
use Rattle.std.specs.List.{list_all, AllByRecursion}
use Rattle.std.proofs.Common.{◌≡◌, ◌∙◌, ℕ, ℤ, ◌+◌, ◌<◌, ◌≤◌, List, [], ◌∷◌, ◌++◌, length, Bool, true, false, Option, None, refl, sym, ap, ap₂, subst, arith, append_assoc, length-append}
use Rattle.std.proofs.lemmas.Bool.{ne_eqb, lt-ltb, and_parts}
use Rattle.std.proofs.lemmas.List.{append-nil}
use Rattle.pb_limits.specs.Limits.{most_price}
use Rattle.pb_rows.specs.Name.{is_name}
use Rattle.pb_graph.specs.WellFormed.{IsPrice}
use Rattle.pb_report.specs.Block.{node_row}
use Rattle.pb_report.specs.Row.{fields_of}
use Rattle.pb_report.specs.Rows.{rows_with}
use Rattle.pb_form.specs.Value.{Value}
use Rattle.pb_form.specs.declared.output.OutputKind.{OutputKind}
use Rattle.pb_form.specs.declared.output.OutputKind.TheVariants.{Node}
use Rattle.pb_blocks.specs.Lists.{is_among}
use Rattle.pb_form.specs.Values.{number_at}
use Rattle.pb_readback.specs.declared.draft.Draft.{Draft}
use Rattle.pb_readback.specs.Drafts.{draft_with_row, with_rows}
use Rattle.pb_readback.specs.Faults.{fault_behind, first_unknown}
use Rattle.pb_readback.specs.Next.{AreSound}
use Rattle.pb_readback.specs.Written.{records_in}
use Rattle.pb_readback.proofs.WrittenFieldLemmas.{AreNew, AreWritten, abs_between}
use Rattle.pb_readback.proofs.WrittenListLemmas.{AreNamed}
use Rattle.pb_readback.proofs.WrittenRowLemmas.{IsSoundRow, node_beside, row_back, row_leaves, row_sound, told_node, values_back}

-- rows after a draft have no fault, and leave this draft
pub record Tells (draft : Draft) (rows : List (List (List ℕ))) (after : Draft) : Type 0 where
  pub sound : AreSound draft rows
  pub told : with_rows draft rows ≡ after

pub tells_none : (draft : Draft) → Tells draft [] draft
tells_none draft = record { sound = tt; told = refl }

pub tells_more : (draft next : Draft) (row : List (List ℕ)) (rows : List (List (List ℕ))) (after : Draft) → first_unknown draft ≡ None
    → fault_behind draft row ≡ None → draft_with_row draft row ≡ next → Tells next rows after → Tells draft (row ∷ rows) after
tells_more draft next row rows after unknown fault leaves rest =
    record {
      sound = (unknown, fault, subst (λ (d : Draft). AreSound d rows) (sym leaves) rest.sound);
      told = ap (λ (d : Draft). with_rows d rows) leaves ∙ rest.told;
    }

pub tells_append : (draft next : Draft) (front back : List (List (List ℕ))) (after : Draft) → Tells draft front next → Tells next back after → Tells draft (front ++ back) after
tells_append draft next [] back after first second = subst (λ (d : Draft). Tells d back after) (sym first.told) second
tells_append draft next (row ∷ front) back after first second =
    let inner : Tells (draft_with_row draft row) front next = record { sound = first.sound.2; told = first.told } in
    let rest = tells_append (draft_with_row draft row) next front back after inner second in
    record { sound = (first.sound.0, first.sound.1, rest.sound); told = rest.told }

pub tells_to : (draft one other : Draft) (rows : List (List (List ℕ))) → one ≡ other → Tells draft rows one → Tells draft rows other
tells_to draft one other rows same tells = subst (λ (d : Draft). Tells draft rows d) same tells

-- the kind of the last row after rows of a kind
abbrev pub last_of : {A : Type 0} → OutputKind → OutputKind → List A → OutputKind
last_of kind last [] = last
last_of kind last (x ∷ xs) = last_of kind kind xs

-- no part is unknown if no stream was read
pub unread : (draft : Draft) → draft.rows ≡ [] → first_unknown draft ≡ None
unread draft none = rw none (by (length draft.streams == draft.heading.streams) None refl)
  where
    by : (b : Bool) (o : Option ℕ) → o ≡ None → (if b then o else None) ≡ None
    by true o h = h
    by false o h = refl

-- ---- nodes

-- names of nodes after others: each is new, and the first of all is the environment
abbrev pub AreNodeNames : List (List ℕ) → List (List ℕ) → Type 0
AreNodeNames done [] = Unit {0}
AreNodeNames done (name ∷ names) =
    (is_name name ≡ true) × (is_among done name ≡ false) × (((length done == 0) && not (bytes_eq name (codes "env"))) ≡ false)
    × AreNodeNames (done ++ name ∷ []) names

-- the draft after the rows of nodes
abbrev pub behind_nodes : Draft → List (List ℕ) → List ℤ → Draft
behind_nodes draft names prices =
    record draft { last = last_of Node draft.last names; nodes = draft.nodes ++ names; prices = draft.prices ++ prices }

pub nodes_tell : AreWritten → (i : ℕ) (draft : Draft) (names : List (List ℕ)) (prices : List ℤ) → length names ≡ length prices → AreNodeNames draft.nodes names
    → AllByRecursion IsPrice prices → length draft.nodes + length names ≤ draft.heading.nodes → draft.rows ≡ []
    → Tells draft (records_in (rows_with (λ n name price. node_row name price) i names prices)) (behind_nodes draft names prices)
nodes_tell written i draft [] [] long fine ranges room empty =
    tells_to draft draft (behind_nodes draft [] []) []
    (ap₂ (λ (ns : List (List ℕ)) (ps : List ℤ). record draft { nodes = ns; prices = ps }) (sym (append-nil draft.nodes)) (sym (append-nil draft.prices))) (tells_none draft)
nodes_tell written i draft [] (price ∷ prices) long fine ranges room empty = absurd (omega (arith, long))
nodes_tell written i draft (name ∷ names) [] long fine ranges room empty = absurd (omega (arith, long))
nodes_tell written i draft (name ∷ names) (price ∷ prices) long fine ranges room empty =
    let next : Draft = record draft { last = Node; nodes = draft.nodes ++ name ∷ []; prices = draft.prices ++ price ∷ [] } in
    let more : length (draft.nodes ++ name ∷ []) ≡ length draft.nodes + 1 = length-append draft.nodes (name ∷ []) in
    let row = fields_of (node_row name price) in
    let values : List Value = (node_row name price).values in
    let sound : IsSoundRow draft Node row values = record {
      told = told_node draft row (lt-ltb (length draft.nodes) draft.heading.nodes (omega (arith, room))) refl;
      read = row_back written.texts (node_row name price) ((refl, refl), (fine.0, (abs_between most_price price ranges.0, tt)));
      beside = node_beside draft name price (record { new = fine.1; env = fine.2 });
    } in
    let leaves : draft_with_row draft row ≡ next =
    row_leaves draft Node row values sound
    ∙ ap (λ (said : List Value). record draft { last = Node; nodes = draft.nodes ++ name ∷ []; prices = draft.prices ++ number_at said 2 ∷ [] })
    (values_back Node row values sound.read) in
    let rest = nodes_tell written (i + 1) next names prices (omega (arith, long)) fine.3 ranges.1 (omega (arith, more, room)) empty in
    let same : behind_nodes next names prices ≡ behind_nodes draft (name ∷ names) (price ∷ prices) =
    ap₂ (λ (ns : List (List ℕ)) (ps : List ℤ). record draft { last = last_of Node Node names; nodes = ns; prices = ps })
    (append_assoc draft.nodes (name ∷ []) names) (append_assoc draft.prices (price ∷ []) prices) in
    tells_more draft next row (records_in (rows_with (λ n name price. node_row name price) (i + 1) names prices))
    (behind_nodes draft (name ∷ names) (price ∷ prices)) (unread draft empty) (row_sound draft Node row values sound) leaves
    (tells_to next (behind_nodes next names prices) (behind_nodes draft (name ∷ names) (price ∷ prices)) _ same rest)

-- different names are names of nodes, if some stand before them
more_nodes : (done names : List (List ℕ)) → AreNamed names → AreNew done names → 0 < length done → AreNodeNames done names
more_nodes done [] forms new some = tt
more_nodes done (name ∷ names) forms new some =
    let parts = and_parts (is_name name) (list_all is_name names) forms in
    let empty : (length done == 0) ≡ false = ne_eqb (length done) 0 (λ e. omega (arith, e, some)) in
    (parts.0, new.0, rw empty refl, more_nodes (done ++ name ∷ []) names parts.1 new.1 (rw (length-append done (name ∷ [])) (omega arith)))

-- and if the first is the environment
pub all_nodes : (names : List (List ℕ)) → AreNamed names → AreNew [] names → slice_index_or names 0 [] ≡ codes "env" → AreNodeNames [] names
all_nodes [] forms new env = tt
all_nodes (name ∷ names) forms new env =
    let parts = and_parts (is_name name) (list_all is_name names) forms in
    (parts.0, new.0, rw env refl, more_nodes (name ∷ []) names parts.1 new.1 (omega arith))
