use mathlib.Core.Path.{◌≡◌, refl, sym, subst}
use mathlib.Core.Bool.{Bool, true, false, ◌&&◌}
use mathlib.Core.List.{List, [], ◌∷◌, ◌++◌}
use lib.Dec.{lit<}
use seplogic.Ra.Ura.{Ura}
use mir.Raw.{raw as bare}
use mir.Syntax.{ty_ptr}
use mir.Val.{Val, vptr, vcons, vnil, has_ty}
use base.Logic.{SProp, ent, emp, id⊢, fst∗, never}
use base.Fml.{ftrue, fsep}
use prog.Memory.{Memory}
use prog.Routine.{Routine}
use prog.Wp.{WpFn, Tables}
use types.Logic.{Logic, sem}
use contract.Monad.{Fun}
use contract.Running.{tables, tables_of}
use sound.WpLaws.{WpFn-mono}
use types.Kit.{Item, ‵, raw, prop, at_ret, ◌⊛◌, ◌$◌, ◌∵◌, !, qed, by, move, drop, use0, use1, join, split, fsplit, fjoin, regoal, suffices, done}
use types.Match.{live}
use types.Part.{whole, sub, agg}
use types.Run.{stop, fld, no_more, and_then, of_opd, lit, first, branches, exec, returns, enter}
use types.ByLocal.{alloc_all, pass_all, free_all, look_at, get, get_in, sets, sets_last, env}
use denote.Exit.{yes}
use denote.RawPtr.{Ptr, block_ptr, null_ptr, ptr_val, in_a_block}
use denote.Signature.{type_at}
use denote.Param.{layout}
use Rattle.std.proofs.cell.Inside.{Good}
use denote.Steps.{nothing}
use denote.Triple.Spec.{triple_of}
use denote.Triple.Table.{entered}
use denote.Triple.Walked.{says, Stays, stay_dropped, walk_of, ends_at, Goes-dropped, walk_Meets}
use Rattle.std.proofs.alloc.Calls.{α, token, Fits}
use Rattle.std.proofs.option.Made.{Some-of, none_of}
use Rattle.std.specs.declared.option.Option.TheVariants.{None, Some}
use Rattle.std.specs.Box.Ownership.{box_owns}
use Rattle.std_alloc.proofs.ResultValues.{and_tt}
use Rattle.std_alloc.proofs.BoxSteps.Form.{D, R, τ, word, box_typed}
use Rattle.std_alloc.proofs.BoxSteps.Steps.{box_in}
use Rattle.std_heap.specs.contracts.Global as Heap
use Rattle.plantbal_study_c.specs.contracts.handle.StudyHandle as Handle
use Rattle.plantbal_study_c.specs.Owned.{study_handle_owns}
use Rattle.plantbal_study_c.proofs.AsBox.{E, PartsRow, FromHandle as From}
use Rattle.plantbal_study_c.proofs.HandleSteps.{and_true, good_ptr, held, hold_out}
use Rattle.plantbal_study_c.specs.contracts.handle.StudyHandle.into_parts as F
use Rattle.plantbal_study_c.specs.contracts.handle.StudyHandle.into_parts.Key.{name as #self}
use Rattle.plantbal_study_c.proofs.handle.StudyHandle.into_parts.Statement as stated
use Rattle.plantbal_study_c.proofs.handle.StudyHandle.into_parts.Code as code

abbrev stayed : Stays (F.ended).signature.params (F.ended).kept
stayed = (stay_dropped From yes, tt)

module _ {M : Type 1} {𝓤 : Ura M} (𝓛 : Logic 𝓤) (at_mem : Memory → SProp 𝓤) (run : Routine → Fun 𝓤) (𝓣 : Tables 𝓤 𝓛.H) where
  open 𝓛 use {H}

  module _ (z : (walk_of 𝓛 F.ended stayed (F.clauses 𝓛 at_mem run)).Ghost) (h : Val) (fits : Fits E.al h) where
    abbrev d : Handle.the_row.Denot
    d = z.0.3.0

    abbrev Post : Val → SProp 𝓤
    Post = (walk_of 𝓛 F.ended stayed (F.clauses 𝓛 at_mem run)).post z

    abbrev Run : Ptr → Bool → SProp 𝓤
    Run p y = WpFn 𝓤 H 𝓣.C 𝓣.Λ code.function (held (ptr_val p) y h ∷ []) Post

    abbrev Has : Bool → SProp 𝓤
    Has y = types.Kit.⋆ 𝓛 (‵ (study_handle_owns y d.alloc d.at d.value) ∷ ‵ (Heap.the_row.own_val d.alloc (h ∷ [])) ∷ [])

    full : d.live ≡ true → ent 𝓤 (Has true) (Run d.at true)
    full is =
        qed 𝓛 (‵ (study_handle_owns true d.alloc d.at d.value) ∷ ‵ (Heap.the_row.own_val d.alloc (h ∷ [])) ∷ []) ∵
        in_a_block ! d.at (λ p. box_owns (token E.al d.alloc) (R E) p d.value) (fst∗ 𝓤 (never 𝓤) (sem 𝓛 (token E.al d.alloc (bare (τ E)) null_ptr))) (λ b o e.
        regoal ! (λ p. prop (Run p true)) e refl $ fsplit ! $
        let Parts = PartsRow in let Out = type_at (F.signature).result tt in
        let v : D E = record { ptr = block_ptr b o; alloc = d.alloc; value = d.value } in
        let made : Parts.Denot = record { ptr = block_ptr b o; alloc = d.alloc; value = d.value } in
        let w = word E h b o in let out = live 1 (vcons w vnil) in let typed = box_typed E h b o fits in let good : Good (layout Out) out = (and_tt _ typed.0, (record { fits = lit< tt }, (typed.1, tt))) in
        box_in E ! v b o d.value refl refl $ use1 𝓛 (‵ (Parts.own_val made (w ∷ []))) (id⊢ 𝓤 _) $ use1 𝓛 (‵ ((type_at (F.signature).result tt).own_val (Some made) (out ∷ []))) (Some-of 𝓛 Parts made w) $
        enter ! 𝓣.C 𝓣.Λ code.function (held (vptr b o) true h ∷ []) _ $ alloc_all ! (λ ls. pass_all ! refl ((and_tt (has_ty (α E.al) h) fits.0, (tt, (tt, (fits.1, tt)))), tt) $ let Ev = env (code.function).locals ls in
        sets ! (of_opd ! (get_in ! (fld ! refl (stop !)) (sub ! 0 refl (whole !)))) refl (tt, tt) $ sets ! (of_opd ! (get_in ! (fld ! refl (stop !)) (sub ! 1 refl (whole !)))) refl (tt, tt) $
        sets ! (of_opd ! (get_in ! (fld ! refl (stop !)) (sub ! 2 refl (whole !)))) refl fits $ sets ! (of_opd ! (get ! refl)) refl (tt, tt) $ first ! $ branches ! (get ! refl)
        (λ _. sets ! (of_opd ! (get ! refl)) refl (tt, tt) $ sets ! (agg ! (and_then ! (get ! refl) (and_then ! (get ! refl) (no_more !)))) refl typed $
        sets_last ! (agg ! (and_then ! (lit ! tt) (and_then ! (get ! refl) (no_more !)))) refl good $ exec ! 𝓣.C 𝓣.Λ Ev code.Mir.t-6 (at_ret Ev Post) $ sets ! (of_opd ! (get ! refl)) refl good $
        returns ! (look_at ! 0 refl) $ free_all ! refl $
        suffices ! _ (ends_at 𝓛 F.ended stayed (F.clauses 𝓛 at_mem run) z out (Some made) (tt, tt) (tt, tt)) $ says ! (is, refl) $
        nothing ! $ nothing ! $ fjoin ! $ join ! $ nothing ! $ join ! $ done !)
        (λ wrong. absurd wrong)))

    bare_one : d.live ≡ false → ent 𝓤 (Has false) (Run d.at false)
    bare_one is =
        let out = live 0 vnil in let Out = type_at (F.signature).result tt in
        qed 𝓛 (‵ (study_handle_owns false d.alloc d.at d.value) ∷ ‵ (Heap.the_row.own_val d.alloc (h ∷ [])) ∷ []) ∵ drop ! $ drop ! $
        use0 𝓛 (‵ (Out.own_val None (out ∷ []))) (none_of 𝓛 PartsRow) $
        enter ! 𝓣.C 𝓣.Λ code.function (held (ptr_val d.at) false h ∷ []) _ $ alloc_all ! (λ ls. pass_all ! refl ((and_true (has_ty ty_ptr (ptr_val d.at)) (has_ty (α E.al) h && true) (good_ptr d.at).0 (and_tt (has_ty (α E.al) h) fits.0), ((good_ptr d.at).1, (tt, (fits.1, tt)))), tt) $ let Ev = env (code.function).locals ls in
        sets ! (of_opd ! (get_in ! (fld ! refl (stop !)) (sub ! 0 refl (whole !)))) refl (good_ptr d.at) $ sets ! (of_opd ! (get_in ! (fld ! refl (stop !)) (sub ! 1 refl (whole !)))) refl (tt, tt) $
        sets ! (of_opd ! (get_in ! (fld ! refl (stop !)) (sub ! 2 refl (whole !)))) refl fits $ sets ! (of_opd ! (get ! refl)) refl (tt, tt) $ first ! $ branches ! (get ! refl)
        (λ wrong. absurd wrong)
        (λ _. sets_last ! (agg ! (and_then ! (lit ! tt) (no_more !))) refl (tt, (record { fits = lit< tt }, tt)) $ exec ! 𝓣.C 𝓣.Λ Ev code.Mir.t-6 (at_ret Ev Post) $ sets ! (of_opd ! (get ! refl)) refl (tt, (record { fits = lit< tt }, tt)) $
        returns ! (look_at ! 0 refl) $ free_all ! refl $
        suffices ! _ (ends_at 𝓛 F.ended stayed (F.clauses 𝓛 at_mem run) z out None (tt, tt) (tt, tt)) $ says ! is $
        nothing ! $ nothing ! $ fjoin ! $ join ! $ nothing ! $ join ! $ done !))

    each : (y : Bool) → d.live ≡ y → ent 𝓤 (Has y) (Run d.at y)
    each true is = full is
    each false is = bare_one is

  walk : (z : (walk_of 𝓛 F.ended stayed (F.clauses 𝓛 at_mem run)).Ghost)
      → ent 𝓤 ((walk_of 𝓛 F.ended stayed (F.clauses 𝓛 at_mem run)).pre z) (WpFn 𝓤 H 𝓣.C 𝓣.Λ code.function (z.0.4.0 ++ []) ((walk_of 𝓛 F.ended stayed (F.clauses 𝓛 at_mem run)).post z))
  walk z =
      let d = z.0.3.0 in
      qed 𝓛 ((‵ ftrue ⊛ ‵ (fsep (Handle.the_row.own_val d z.0.4.0) ftrue)) ∷ raw (emp 𝓤) ∷ []) ∵ split ! $ drop ! $ fsplit ! $
      hold_out ! d z.0.4.0 (λ h ws fits. move ! (2 ∷ 3 ∷ []) $ drop ! $ drop ! $
      by ! (subst (λ (us : List Val). ent 𝓤 (Has z h fits d.live) (WpFn 𝓤 H 𝓣.C 𝓣.Λ code.function (us ++ []) (Post z h fits))) (sym ws) (each z h fits d.live refl)))

pub into_parts_spec : {M : Type 1} → stated.statement M
unfolding tables_of
into_parts_spec 𝓤 𝓛 𝓜 𝓡 wired =
    let 𝓣 : Tables 𝓤 𝓛.H = tables_of 𝓤 𝓛.H 𝓜 (tables 𝓤 𝓛.H 𝓜 𝓡 𝓡.env) in
    entered 𝓤 𝓛.H (triple_of 𝓛 F.signature (F.spec 𝓛 𝓜.mem 𝓡.returns)) 𝓣.C 𝓣.Λ #self code.function (code.unfolded 𝓤 𝓛.H 𝓜 𝓡 wired)
    (walk_Meets 𝓛 F.ended stayed (Goes-dropped 𝓛 0 From yes (λ κs x f. refl), tt) (F.clauses 𝓛 𝓜.mem 𝓡.returns) (WpFn 𝓤 𝓛.H 𝓣.C 𝓣.Λ code.function) (WpFn-mono 𝓤 𝓛.H 𝓛.laws 𝓣 code.function)
    (walk 𝓛 𝓜.mem 𝓡.returns 𝓣))
