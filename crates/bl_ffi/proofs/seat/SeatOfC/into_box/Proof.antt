-- `into_box` makes the box again, where there is one.
use Rattle.std.proofs.Common.{◌≡◌, List, [], ◌∷◌, ◌++◌, refl, sym, ap, ◌∙◌, subst, lit<}
use mir.Syntax.{impl, tcons, tnil, dnil}
use mir.Val.{Val, vptr, vnull, vcons, vnil}
use base.Logic.{SProp, ent, emp, id⊢}
use base.Fraction.{full_share}
use base.Fml.{ftrue, flft}
use prog.Wp.{WpFn}
use types.Kit.{at_ret, feq_i, ‵, raw, ◌⊛◌, some, later, ◌$◌, ◌∵◌, !, qed, by, move, keep, drop, split, join, fsplit, fjoin, pick, suffices, use0, use1, await, rewrite}
use types.Run.{stop, fld, lit, bin, first, branches, skips, blocks, exec, returns_within, of_opd, no_more, and_then, returns, enter}
use types.ByLocal.{get_in, lands_last, env, alloc_all, pass_all, free_all, look_at, get, sets}
use types.Part.{agg, sub, whole}
use contract.Monad.{fact, fact_i}
use contract.BorrowLft.{◌⊑◌}
use contract.Running.{tables}
use denote.Exit.{no, yes}
use denote.RattleType.{RattleType, owns}
use denote.Signature.{types_at, plain}
use denote.RawPtr.{tests_null, Ptr, block_ptr, ptr_val}
use denote.Steps.{nothing, only, heard}
use mir.Raw.{raw as bare}
use denote.Param.{arg, layout}
use denote.Param.Laws.{Laws, arg_laws}
use denote.Param.NoDrop as nodrop
use denote.Triple.Entry.{alive}
use denote.Triple.Spec.{triple_of}
use denote.Triple.Call.{calls_at_last}
use denote.Triple.Table.{framed}
use denote.Triple.Walked.{Stays, stay_dropped, walk_of, Goes-dropped}
use Rattle.std.specs.Prelude.{None, Some}
use Rattle.std.specs.contracts.option.Option as option
use types.Match.{live}
use Rattle.core.proofs.alloc.Calls.{handle_tells}
use Rattle.core.proofs.option.Made.{Some-of, none_of}
use Rattle.core.proofs.alloc.Shapes.{after}
use Rattle.std_alloc.proofs.ResultValues.{and_tt}
use Rattle.core.proofs.cell.Inside.{Good}
use Rattle.bl_ffi.specs.contracts.seat.SeatOfC as held
use denote.Triple.Clauses.{Lasts, lasts}
use Rattle.std_alloc.proofs.BoxSteps.Form as box
use Rattle.std_alloc.proofs.BoxSteps.Steps.{box_out, box_in}
use Rattle.std.proofs.raw_atomic.Walks.{proved_at, leaves}
use Rattle.std.specs.contracts.alloc.Global as heap
use Rattle.std.proofs.alloc.Global.TheLaws as heap_laws
use Rattle.std.specs.contracts.boxed.Box as boxed
use Rattle.std.specs.contracts.impls.GlobalAllocator.TheImpl.{ghosts, dict}
use Rattle.std.proofs.impls.GlobalAllocator.TheImpl.Met.{passed}
use Rattle.std.specs.contracts.boxed.Box.from_raw as callee
use Rattle.std.proofs.boxed.Box.from_raw.Met.{met}
use Rattle.bl_ffi.proofs.SeatSteps.{word, held_out, either}
use Rattle.bl_ffi_seats.specs.contracts.seat.Seat as seat
use Rattle.bl_ffi_seats.proofs.seat.Seat.TheLaws as seat_laws
use Rattle.bl_ffi_seats.specs.declared.seat.Seat.{Seat}
use Rattle.bl_ffi.specs.contracts.seat.SeatOfC.into_box as f
use Rattle.bl_ffi.proofs.seat.SeatOfC.into_box.Statement.{statement}
use Rattle.bl_ffi.proofs.seat.SeatOfC.into_box.Code as code

pub into_box_spec : {M : Type 1} → statement M
unfolding Rattle.bl_ffi.proofs.Destruct++none.drop.Code.code
into_box_spec {M} 𝓤 𝓛 𝓜 𝓡 wired =
    let H = 𝓛.H in let 𝓣 = tables 𝓤 H 𝓜 𝓡 𝓡.env in let c = f.clauses 𝓛 𝓜.mem 𝓡.returns in
    let T : RattleType = arg (bare (layout seat.the_row)) no seat.the_row in let L : Laws T = arg_laws (bare (layout seat.the_row)) no seat.the_row seat_laws.the_row_laws refl in
    let A : RattleType = arg (bare (layout heap.the_row)) no heap.the_row in let LA : Laws A = arg_laws (bare (layout heap.the_row)) no heap.the_row heap_laws.the_row_laws refl in
    let dd = impl ("bl_ffi::Destruct++none::drop" ∷ []) (tcons (layout A) tnil) dnil in
    let E : box.Bx = record { row = T; laws = L; al = record { row = A; laws = LA; g = ghosts; d = dict; drops = dd } } in
    let B : RattleType = boxed.the_row seat.the_row heap.the_row ghosts in let Out : RattleType = option.the_row B in
    let hs : Stays f.ended.signature.params f.ended.kept = (stay_dropped (plain (λ _. held.the_row)) yes, (stay_dropped (plain (λ _. heap.the_row)) yes, tt)) in
    proved_at 𝓛 f.ended hs c 𝓜 𝓡 (Goes-dropped 𝓛 0 (plain (λ _. held.the_row)) yes (λ κs x w. refl), (Goes-dropped 𝓛 0 (plain (λ _. heap.the_row)) yes (λ κs x w. refl), tt)) f.Key.name code.function (code.unfolded 𝓤 H 𝓜 𝓡 wired) (λ z are.
    let κs = z.0.0 in let qs = z.0.1 in let d = z.0.3.0 in let a = z.0.3.1.0 in let Post : Val → SProp 𝓤 = (walk_of 𝓛 f.ended hs c).post z in let Run : List Val → SProp 𝓤 = λ ws. WpFn 𝓤 H 𝓣.C 𝓣.Λ code.function ws Post in
    let toks = ‵ (flft [] full_share) ⊛ ‵ (flft [] full_share) ⊛ ‵ ftrue in
    qed 𝓛 ((raw (alive 𝓛 f.ended.signature κs qs) ⊛ ‵ (owns (types_at f.ended.signature.params κs) z.0.3 z.0.4)) ∷ raw ((c κs z.0.3).requires z.1) ∷ []) ∵ split ! $ move ! (1 ∷ []) $ fsplit ! $
    held_out ! d z.0.4.0 (λ ws. move ! (1 ∷ []) $ fsplit ! $ handle_tells E.al ! a z.0.4.1.0 (λ h ea fits. move ! (2 ∷ []) $
    -- [what it owns; the handle; the list's end; the tokens; the requires]
    either a ! d.at d.seat
    (λ none null. let w : Val = word vnull in
    suffices ! (Run (w ∷ h ∷ [])) (subst (λ (us : List Val). ent 𝓤 (Run (w ∷ h ∷ [])) (Run us)) (sym (λ i. (ws ∙ ap (λ (p : Ptr). word (ptr_val p) ∷ []) null) i ++ (ea i ++ []))) (id⊢ 𝓤 (Run (w ∷ h ∷ [])))) $
    enter ! 𝓣.C 𝓣.Λ code.function (w ∷ h ∷ []) Post $ alloc_all ! (λ l. pass_all ! refl ((tt, (record { fits = lit< tt }, tt)), (fits, tt)) $
    sets ! (of_opd ! (get_in ! (fld ! refl (stop !)) (sub ! 0 refl (whole !)))) refl (tt, record { fits = lit< tt }) $ sets ! (of_opd ! (get ! refl)) refl (tt, record { fits = lit< tt }) $ sets ! (bin ! (get ! refl) (lit ! tt) tt) refl (tt, tt) $ first ! $ branches ! (get ! refl)
    (λ _. sets ! (agg ! (and_then ! (lit ! tt) (no_more !))) refl (tt, (record { fits = lit< tt }, tt)) $ returns_within ! Post refl (look_at ! 0 refl) $ free_all ! refl $
    use0 𝓛 (raw (fact 𝓤 (d.seat ≡ None))) (fact_i 𝓤 _ (emp 𝓤) none) $ use0 𝓛 (‵ (Out.own_val None (live 0 vnil ∷ []))) (none_of 𝓛 B) $ nothing ! $ nothing ! $ fjoin ! $ nothing ! $ fjoin ! $
    keep ! (5 ∷ 0 ∷ 1 ∷ 2 ∷ []) $ by ! (leaves 𝓛 f.ended hs c z (live 0 vnil) None (tt, (tt, tt)) (tt, (tt, tt))))
    (λ wrong. absurd wrong)))
    (λ x b o is at_block t. let w : Val = word (vptr b o) in let k = triple_of 𝓛 (callee.signature T A ghosts dict dd) (callee.spec T A ghosts dict dd 𝓛 𝓜.mem 𝓡.returns) in
    let y : k.Ghost = ((([], ([], tt)), (full_share, (full_share, tt)), tt, (a, (block_ptr b o, tt)), (h ∷ [], (vptr b o ∷ [], tt))), x) in
    suffices ! (Run (w ∷ h ∷ [])) (subst (λ (us : List Val). ent 𝓤 (Run (w ∷ h ∷ [])) (Run us)) (sym (λ i. (ws ∙ ap (λ (p : Ptr). word (ptr_val p) ∷ []) at_block) i ++ (ea i ++ []))) (id⊢ 𝓤 (Run (w ∷ h ∷ [])))) $
    -- what is handed to `from_raw`
    move ! (1 ∷ []) $ nothing ! $ feq_i ! (List Val) (vptr b o ∷ []) (vptr b o ∷ []) refl $ fjoin ! $ move ! (1 ∷ 0 ∷ []) $ fjoin ! $
    nothing ! $ use0 𝓛 (‵ (flft [] full_share)) (𝓛.lfts.lft-nil full_share) $ join ! $ use0 𝓛 (‵ (flft [] full_share)) (𝓛.lfts.lft-nil full_share) $ join ! $ join ! $ move ! (1 ∷ []) $
    use0 𝓛 (raw (fact 𝓤 ([] ⊑ A.lives))) (fact_i 𝓤 _ (emp 𝓤) (heap_laws.the_within [])) $ join ! $
    use0 𝓛 (raw (fact 𝓤 ([] ⊑ T.lives))) (fact_i 𝓤 _ (emp 𝓤) (seat_laws.the_within [])) $ join ! $ move ! (1 ∷ 0 ∷ []) $ join ! $ use1 𝓛 (raw (k.pre y)) (id⊢ 𝓤 _) $
    enter ! 𝓣.C 𝓣.Λ code.function (w ∷ h ∷ []) Post $ alloc_all ! (λ l. pass_all ! refl ((tt, (tt, tt)), (fits, tt)) $ let Ev = env code.function.locals l in
    sets ! (of_opd ! (get_in ! (fld ! refl (stop !)) (sub ! 0 refl (whole !)))) refl (tt, tt) $ sets ! (of_opd ! (get ! refl)) refl (tt, tt) $ sets ! (bin ! (get ! refl) (lit ! tt) (tests_null (block_ptr b o) t)) refl (tt, tt) $ first ! $ branches ! (get ! refl)
    (λ wrong. absurd wrong)
    (λ _. skips ! $ exec ! 𝓣.C 𝓣.Λ Ev (after 4 code.function.body) (at_ret Ev Post) $ first ! $ blocks ! $ sets ! (of_opd ! (get ! refl)) refl fits $ sets ! (of_opd ! (get ! refl)) refl (tt, tt) $ sets ! (of_opd ! (get ! refl)) refl (tt, tt) $
    calls_at_last ! (framed 𝓤 H 𝓜 𝓣) k (met 𝓤 𝓛 𝓜 𝓡 (code.calls-std_alloc::boxed::Box::from_raw 𝓡.env wired) T A L LA ghosts dict dd
    (passed 𝓡.env (code.calls-std_heap::GlobalAllocator::allocate 𝓡.env wired) (code.calls-std_heap::GlobalAllocator::deallocate 𝓡.env wired) (code.calls-std_heap::GlobalAllocator::grow 𝓡.env wired) (code.calls-std_heap::GlobalAllocator::shrink 𝓡.env wired) M 𝓤 𝓛 𝓜 𝓡)
    (nodrop.glues "bl_ffi::Destruct++none::drop" 𝓡.env (code.calls-bl_ffi::Destruct++none::drop 𝓡.env wired) A LA M 𝓤 𝓛 𝓜 𝓡)) y (and_then ! (get ! refl) (and_then ! (get ! refl) (no_more !))) (λ u.
    use1 𝓛 (later (some (λ (r : B.Denot). (toks ⊛ ‵ (B.own_val r (u ∷ []))) ⊛ some (λ (ls : Lasts (callee.ended T A ghosts dict dd) y.0.0 y.0.3). ‵ (lasts (callee.ended T A ghosts dict dd) y.0.0 y.0.3 ls) ⊛ (raw (fact 𝓤 (r.value ≡ x)) ⊛ raw (fact 𝓤 (r.alloc ≡ a))))))) (id⊢ 𝓤 (k.post y u)) $
    await ! tt $ pick ! (λ r. split ! $ move ! (1 ∷ []) $ pick ! (λ _. split ! $ drop ! $ split ! $ heard ! (r.value ≡ x) (λ same. drop ! $ split ! $ drop ! $
    box_out E ! r (u ∷ []) (λ b' o' h' e' us fits'. box_in E ! r b' o' r.value e' refl $ rewrite ! 0 (λ (xs : List Val). ‵ (B.own_val r xs)) (sym us) refl $
    let good : Good (layout B) u = subst (Good (layout B)) (sym (ap only us)) (box.box_typed E h' b' o' fits') in let v₁ : Val = live 1 (vcons u vnil) in
    lands_last ! refl good $ exec ! 𝓣.C 𝓣.Λ Ev (after 5 code.function.body) (at_ret Ev Post) $ sets ! (of_opd ! (get ! refl)) refl good $
    let good₁ : Good (layout Out) v₁ = (and_tt _ good.0, (record { fits = lit< tt }, (good.1, tt))) in
    sets ! (agg ! (and_then ! (lit ! tt) (and_then ! (get ! refl) (no_more !)))) refl good₁ $ use1 𝓛 (‵ (Out.own_val (Some r) (v₁ ∷ []))) (Some-of 𝓛 B r u) $
    returns ! (look_at ! 0 refl) $ free_all ! refl $
    use0 𝓛 (raw (fact 𝓤 (d.seat ≡ Some r.value))) (fact_i 𝓤 _ (emp 𝓤) (is ∙ ap (λ (q : Seat). Some q) (sym same))) $ nothing ! $ nothing ! $ fjoin ! $ nothing ! $ fjoin ! $
    keep ! (4 ∷ 0 ∷ 2 ∷ 1 ∷ []) $ by ! (leaves 𝓛 f.ended hs c z v₁ (Some r) (tt, (tt, tt)) (tt, (tt, tt))))))))))))))
