-- The machine values of a `Handle`: it is taken apart, and made.
use mathlib.Core.Path.{◌≡◌, refl, ◌∙◌}
use mathlib.Core.Bool.{Bool, true, false, ◌&&◌}
use mathlib.Core.List.{List, [], ◌∷◌, ◌++◌}
use lib.Dec.{T, lit<}
use mir.Syntax.{ty_ptr}
use seplogic.Ra.Ura.{Ura}
use mir.Val.{Val, vbool, vstruct, vcons, vnil, of_list, has_ty, WT}
use types.Logic.{Logic}
use types.Kit.{Goal, Step, step, Seq, Item, ‵, ◌$◌, move, drop, fsplit, fjoin, fpick, fpack, feq_l, feq_i}
use denote.RattleType.{Valss}
use denote.Builtin.{bool}
use denote.RawPtr.{Ptr, RawPtr, ptr_val, block_ptr, null_ptr}
use denote.Steps.{nothing}
use denote.Struct.Struct.{within}
use denote.Struct.Owning.{shape, to}
use Rattle.std.proofs.alloc.Calls.{Fits, handle_tells}
use Rattle.std_heap.specs.contracts.Global as Heap
use Rattle.plantbal_study_c.specs.Owned.{study_handle_owns}
use Rattle.plantbal_study_c.specs.contracts.opened.OpenStudy as OpenStudy
use Rattle.plantbal_study_c.specs.contracts.handle.StudyHandle as Handle
use Rattle.plantbal_study_c.proofs.AsBox.{E}

-- the machine value of a `Handle`
abbrev pub held : Val → Bool → Val → Val
held p y h = vstruct (vcons p (vcons (vbool y) (vcons h vnil)))

module _ {M : Type 1} {𝓤 : Ura M} {𝓛 : Logic 𝓤} {K : Type 0} {Γ : List (Item 𝓤)} {G : Goal 𝓤 𝓛.H} where
  pub hold_in : K → (a : Heap.the_row.Denot) (y : Bool) (p : Ptr) (x : OpenStudy.the_row.Denot) (h : Val)
      → Step K 𝓛 (‵ (Handle.the_row.own_val (record { at = p; live = y; alloc = a; value = x }) (held (ptr_val p) y h ∷ [])) ∷ Γ) G (‵ (study_handle_owns y a p x) ∷ ‵ (Heap.the_row.own_val a (h ∷ [])) ∷ Γ) G
  hold_in t a y p x h = step (λ s. let w : Val = held (ptr_val p) y h in
      nothing t $ move t (2 ∷ 0 ∷ []) $ fjoin t $ feq_i t (List Val) (vbool y ∷ []) (vbool y ∷ []) refl $ fjoin t $ feq_i t (List Val) (ptr_val p ∷ []) (ptr_val p ∷ []) refl $ fjoin t $
      feq_i t (List Val) (w ∷ []) (w ∷ []) refl $ fjoin t $
      fpack t (Valss (RawPtr ∷ bool ∷ (Heap.the_field).row ∷ [])) (within (shape Handle.the_type) (to Handle.the_type (record { at = p; live = y; alloc = a; value = x })) (w ∷ [])) (ptr_val p ∷ [], (vbool y ∷ [], (h ∷ [], tt))) $ fjoin t $ s)

  pub hold_out : K → (d : Handle.the_row.Denot) (vs : List Val)
      → ((h : Val) → vs ≡ held (ptr_val d.at) d.live h ∷ [] → Fits E.al h → Seq K 𝓛 (‵ (study_handle_owns d.live d.alloc d.at d.value) ∷ ‵ (Heap.the_row.own_val d.alloc (h ∷ [])) ∷ Γ) G)
      → Seq K 𝓛 (‵ (Handle.the_row.own_val d vs) ∷ Γ) G
  hold_out t d vs k =
      fsplit t $ fpick t (λ vss. fsplit t $ feq_l t (λ ev. fsplit t $ feq_l t (λ ep. fsplit t $ feq_l t (λ eb. fsplit t $ handle_tells E.al t d.alloc vss.1.1.0 (λ h ea fits. move t (1 ∷ []) $ drop t $ move t (1 ∷ []) $
      k h (ev ∙ (λ j. vstruct (of_list (ep j ++ (eb j ++ (ea j ++ [])))) ∷ [])) fits)))))

pub good_ptr : (p : Ptr) → T (has_ty ty_ptr (ptr_val p)) × WT (ptr_val p)
good_ptr (block_ptr b o) = (tt, tt)
good_ptr null_ptr = (tt, record { fits = lit< tt })

pub and_true : (x y : Bool) → T x → T y → T (x && y)
and_true true y s t = t
and_true false y s t = absurd s
