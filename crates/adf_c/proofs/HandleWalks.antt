-- The three functions over a handle's pointer, as any handle has them. Assumes `Logic`.
use Rattle.std.proofs.Common.{◌≡◌, ℕ, List, [], ◌∷◌, ◌++◌, refl, sym, ap, subst, lit<}
use seplogic.Ra.Ura.{Ura}
use mathlib.Core.List.{map}
use mir.Syntax.{Ty, Fn, Body, Callee, local, value_local, seq, assign, place, aggregate, int, w8, w64, copy, return, rv_opd, field, op2, ptr_eq, cond, ty_ptr, ty_bool}
use mir.Val.{Val, vptr, vcons, vnil}
use base.Logic.{SProp, ent, emp, id⊢}
use base.Fml.{ftrue}
use prog.Model.{Model}
use prog.Wp.{WpFn, Closed}
use types.Logic.{Logic}
use types.Kit.{‵, raw, ◌⊛◌, at_ret, ◌$◌, ◌∵◌, !, qed, by, move, keep, split, fsplit, fjoin, fpack, suffices, use0, use1, rewrite}
use types.Run.{stop, fld, lit, of_opd, bin, no_more, and_then, first, branches, exec, returns, enter}
use types.ByLocal.{alloc_all, pass_all, free_all, look_at, get, get_in, sets, sets_last, env}
use types.Part.{agg, sub, whole}
use types.Match.{live}
use contract.Monad.{fact, fact_i}
use contract.Running.{Running, MachineTables, tables}
use denote.Exit.{yes}
use denote.RattleType.{RattleType, owns}
use denote.Signature.{types_at, plain}
use denote.RawPtr.{Ptr, block_ptr, null_ptr, ptr_val, tests_null}
use denote.Steps.{nothing}
use denote.Param.{layout}
use denote.Triple.Clauses.{Ended, Clauses, closing}
use denote.Triple.Entry.{alive}
use denote.Triple.Spec.{Meets}
use denote.Triple.Walked.{Stays, stay_dropped, walk_of, Goes-dropped}
use Rattle.core.proofs.alloc.Shapes.{after}
use Rattle.core.proofs.cell.Inside.{Good, one}
use Rattle.core.proofs.option.Made.{Some-of, none_of}
use Rattle.std.specs.Option.{MatchOption}
use Rattle.std.specs.declared.option.Option.{Option}
use Rattle.std.specs.declared.option.Option.TheVariants.{None, Some}
use Rattle.std.specs.contracts.option.Option as option
use Rattle.std.specs.contracts.impls.GlobalAllocator.TheImpl.{ghosts}
use Rattle.std.proofs.alloc.Global.TheLaws as heap_laws
use Rattle.std.proofs.raw_atomic.Walks.{proved_at, leaves}
use Rattle.std_alloc.proofs.ResultValues.{and_tt}
use Rattle.adf_c.proofs.LooseValues.{Loose, both, Z, loose_good, loose_in, loose_out, either_held}
use Rattle.adf_c.proofs.HandleValues.{Handle, Parts, row, handle_good, handle_in, handle_out}

abbrev steps : List Body → Body
steps [] = return
steps (s ∷ ss) = seq s (steps ss)

-- x := y;  x := y.f
abbrev takes : ℕ → ℕ → Body
takes x y = assign (place x []) (rv_opd (copy (place y [])))

abbrev takes_field : ℕ → ℕ → ℕ → Body
takes_field x y f = assign (place x []) (rv_opd (copy (place y (field f ∷ []))))

-- a function of one argument
abbrev function : List Ty → List Body → Fn
function τs ss = record { lifetimes = 0; outlives = []; ty_params = []; givens = 0; params = 1; locals = map (λ τ. local τ value_local) τs; body = steps ss }

abbrev ends : RattleType → RattleType → Ended
ends P Q = record { signature = record { lifetimes = 0; outlives = []; params = plain (λ κs. P) ∷ []; result = plain (λ κs. Q) }; kept = (yes, tt) }

abbrev says : {M : Type 1} (𝓤 : Ura M) (P Q : RattleType) → (P.Denot → Q.Denot → Type 0) → Clauses 𝓤 (ends P Q)
says 𝓤 P Q φ κs x = record { ghost = Unit {0}; requires = λ g. emp 𝓤; ensures = λ g r e. fact 𝓤 (φ x.0 r) }

module _ (H : Handle) where
  abbrev Hd : RattleType
  Hd = row H

  abbrev Lr : RattleType
  Lr = Loose H.R Z heap_laws.the_row_laws ghosts

  abbrev Out : RattleType
  Out = option.the_row Lr

  abbrev held : Hd.Denot → Option H.R.Denot
  held d = (H.parts d).1.1

  abbrev closed : Fn
  closed = function (layout Hd ∷ layout Z ∷ []) (assign (place 0 []) (aggregate (int w64 0 ∷ copy (place 1 []) ∷ [])) ∷ [])

  abbrev holding : Fn
  holding = function (layout Hd ∷ layout Lr ∷ ty_ptr ∷ layout Z ∷ ty_ptr ∷ [])
      (takes_field 2 1 0 ∷ takes_field 3 1 1 ∷ takes 4 2 ∷ assign (place 0 []) (aggregate (copy (place 4 []) ∷ copy (place 3 []) ∷ [])) ∷ [])

  abbrev into_loose : Fn
  into_loose = function (layout Out ∷ layout Hd ∷ ty_ptr ∷ layout Z ∷ ty_bool ∷ layout Out ∷ ty_ptr ∷ layout Lr ∷ [])
      (takes_field 2 1 0 ∷ takes_field 3 1 1 ∷ assign (place 4 []) (op2 ptr_eq (copy (place 2 [])) (int w64 0))
      ∷ cond (copy (place 4 [])) (assign (place 5 []) (aggregate (int w8 0 ∷ [])))
      (seq (takes 6 2) (seq (assign (place 7 []) (aggregate (copy (place 6 []) ∷ copy (place 3 []) ∷ []))) (assign (place 5 []) (aggregate (int w8 1 ∷ copy (place 7 []) ∷ [])))))
      ∷ takes 0 5 ∷ [])

  module _ {M : Type 1} {𝓤 : Ura M} (𝓛 : Logic 𝓤) (𝓜 : Model 𝓤 𝓛.H) (𝓡 : Running 𝓤 𝓛.H 𝓜) (k : Callee) where
    abbrev 𝓣 : MachineTables 𝓤 𝓛.H 𝓜
    𝓣 = tables 𝓤 𝓛.H 𝓜 𝓡 𝓡.env

    -- that the function k is f, and that it then does what is said of its argument and its result
    abbrev Does : Fn → (P Q : RattleType) → (P.Denot → Q.Denot → Type 0) → Type 2
    Does f P Q φ = Closed 𝓤 𝓛.H 𝓣.C 𝓣.Λ k f → Meets 𝓛 (ends P Q).signature (𝓡.run (𝓡.env k)) (closing 𝓛 (ends P Q) (says 𝓤 P Q φ))

    -- `closed` makes a handle of null and the allocator
    pub closes : Does closed Z Hd (λ x r. held r ≡ None)
    closes unfolds =
        let En = ends Z Hd in let c = says 𝓤 Z Hd (λ x r. held r ≡ None) in let hs : Stays En.signature.params En.kept = (stay_dropped (plain (λ _. Z)) yes, tt) in
        proved_at 𝓛 En hs c 𝓜 𝓡 (Goes-dropped 𝓛 0 (plain (λ _. Z)) yes (λ κs x f. refl), tt) k closed unfolds (λ z are.
        let κs = z.0.0 in let qs = z.0.1 in let Post : Val → SProp 𝓤 = (walk_of 𝓛 En hs c).post z in let Run : List Val → SProp 𝓤 = λ ws. WpFn 𝓤 𝓛.H 𝓣.C 𝓣.Λ closed ws Post in
        let a = z.0.3.0 in let h = one (layout Z) z.0.4.0 ((heap_laws.the_row_laws.lawful 𝓛).typed a z.0.4.0 are.0) in let w : Val = both (ptr_val null_ptr) h.0 in
        let d = H.make (null_ptr, (a, None)) in let is : held d ≡ None = ap (λ (t : Parts H.R). t.1.1) (H.made (null_ptr, (a, None))) in
        qed 𝓛 ((raw (alive 𝓛 En.signature κs qs) ⊛ ‵ (owns (types_at En.signature.params κs) z.0.3 z.0.4)) ∷ raw ((c κs z.0.3).requires z.1) ∷ []) ∵
        split ! $ move ! (1 ∷ []) $ fsplit ! $ rewrite ! 0 (λ (us : List Val). ‵ (Z.own_val a us)) h.1 refl $
        nothing ! $ fpack ! (null_ptr ≡ null_ptr) (λ _. ftrue) refl $ handle_in H ! null_ptr h.0 a None $
        suffices ! (Run (h.0 ∷ [])) (subst (λ (us : List Val). ent 𝓤 (Run (h.0 ∷ [])) (Run us)) (sym (λ i. h.1 i ++ [])) (id⊢ 𝓤 (Run (h.0 ∷ [])))) $
        enter ! 𝓣.C 𝓣.Λ closed (h.0 ∷ []) Post $ alloc_all ! (λ l. pass_all ! refl (h.2, tt) $
        sets ! (agg ! (and_then ! (lit ! tt) (and_then ! (get ! refl) (no_more !)))) refl (handle_good H null_ptr h.0 h.2) $
        use0 𝓛 (raw (fact 𝓤 (held d ≡ None))) (fact_i 𝓤 (held d ≡ None) (emp 𝓤) is) $ nothing ! $ nothing ! $ fjoin ! $
        returns ! (look_at ! 0 refl) $ free_all ! refl $ keep ! (4 ∷ 0 ∷ 2 ∷ 1 ∷ []) $ by ! (leaves 𝓛 En hs c z w d (tt, tt) (tt, tt))))

    -- `holding` passes the box on
    pub holds_it : Does holding Lr Hd (λ x r. held r ≡ Some x.value)
    holds_it unfolds =
        let En = ends Lr Hd in let c = says 𝓤 Lr Hd (λ x r. held r ≡ Some x.value) in let hs : Stays En.signature.params En.kept = (stay_dropped (plain (λ _. Lr)) yes, tt) in
        proved_at 𝓛 En hs c 𝓜 𝓡 (Goes-dropped 𝓛 0 (plain (λ _. Lr)) yes (λ κs x f. refl), tt) k holding unfolds (λ z are.
        let κs = z.0.0 in let qs = z.0.1 in let v = z.0.3.0 in let a = v.alloc in let Post : Val → SProp 𝓤 = (walk_of 𝓛 En hs c).post z in let Run : List Val → SProp 𝓤 = λ ws. WpFn 𝓤 𝓛.H 𝓣.C 𝓣.Λ holding ws Post in
        qed 𝓛 ((raw (alive 𝓛 En.signature κs qs) ⊛ ‵ (owns (types_at En.signature.params κs) z.0.3 z.0.4)) ∷ raw ((c κs z.0.3).requires z.1) ∷ []) ∵
        split ! $ move ! (1 ∷ []) $ fsplit ! $ loose_out H.R Z heap_laws.the_row_laws ghosts ! v z.0.4.0 (λ b o h e ws fits.
        let w : Val = both (vptr b o) h in let typed = loose_good H.R Z heap_laws.the_row_laws ghosts b o h fits in
        let d = H.make (block_ptr b o, (a, Some v.value)) in let is : held d ≡ Some v.value = ap (λ (t : Parts H.R). t.1.1) (H.made (block_ptr b o, (a, Some v.value))) in
        handle_in H ! (block_ptr b o) h a (Some v.value) $
        suffices ! (Run (w ∷ [])) (subst (λ (us : List Val). ent 𝓤 (Run (w ∷ [])) (Run us)) (sym (λ i. ws i ++ [])) (id⊢ 𝓤 (Run (w ∷ [])))) $
        enter ! 𝓣.C 𝓣.Λ holding (w ∷ []) Post $ alloc_all ! (λ l. pass_all ! refl (typed, tt) $
        sets ! (of_opd ! (get_in ! (fld ! refl (stop !)) (sub ! 0 refl (whole !)))) refl (tt, tt) $ sets ! (of_opd ! (get_in ! (fld ! refl (stop !)) (sub ! 1 refl (whole !)))) refl fits $
        sets ! (of_opd ! (get ! refl)) refl (tt, tt) $
        sets ! (agg ! (and_then ! (get ! refl) (and_then ! (get ! refl) (no_more !)))) refl (handle_good H (block_ptr b o) h fits) $
        use0 𝓛 (raw (fact 𝓤 (held d ≡ Some v.value))) (fact_i 𝓤 (held d ≡ Some v.value) (emp 𝓤) is) $ nothing ! $ nothing ! $ fjoin ! $
        returns ! (look_at ! 0 refl) $ free_all ! refl $ keep ! (4 ∷ 0 ∷ 2 ∷ 1 ∷ []) $ by ! (leaves 𝓛 En hs c z w d (tt, tt) (tt, tt)))))

    -- `into_loose` distinguishes a box from none by the pointer
    pub gives_it : Does into_loose Hd Out (λ x r. MatchOption r (held x ≡ None) (λ l. held x ≡ Some l.value))
    gives_it unfolds =
        let En = ends Hd Out in let c = says 𝓤 Hd Out (λ x r. MatchOption r (held x ≡ None) (λ l. held x ≡ Some l.value)) in let hs : Stays En.signature.params En.kept = (stay_dropped (plain (λ _. Hd)) yes, tt) in
        proved_at 𝓛 En hs c 𝓜 𝓡 (Goes-dropped 𝓛 0 (plain (λ _. Hd)) yes (λ κs x f. refl), tt) k into_loose unfolds (λ z are.
        let κs = z.0.0 in let qs = z.0.1 in let v = z.0.3.0 in let p = (H.parts v).0 in let a = (H.parts v).1.0 in let Post : Val → SProp 𝓤 = (walk_of 𝓛 En hs c).post z in let Run : List Val → SProp 𝓤 = λ ws. WpFn 𝓤 𝓛.H 𝓣.C 𝓣.Λ into_loose ws Post in
        qed 𝓛 ((raw (alive 𝓛 En.signature κs qs) ⊛ ‵ (owns (types_at En.signature.params κs) z.0.3 z.0.4)) ∷ raw ((c κs z.0.3).requires z.1) ∷ []) ∵
        split ! $ move ! (1 ∷ []) $ fsplit ! $ handle_out H ! v z.0.4.0 (λ h ws gh. either_held H.R ! a p (held v)
        (λ is none. let w : Val = both (ptr_val null_ptr) h in let ws' = subst (λ (q : Ptr). z.0.4.0 ≡ both (ptr_val q) h ∷ []) is ws in
        suffices ! (Run (w ∷ [])) (subst (λ (us : List Val). ent 𝓤 (Run (w ∷ [])) (Run us)) (sym (λ i. ws' i ++ [])) (id⊢ 𝓤 (Run (w ∷ [])))) $
        enter ! 𝓣.C 𝓣.Λ into_loose (w ∷ []) Post $ alloc_all ! (λ l. pass_all ! refl (handle_good H null_ptr h gh, tt) $ let Ev = env into_loose.locals l in
        sets ! (of_opd ! (get_in ! (fld ! refl (stop !)) (sub ! 0 refl (whole !)))) refl (tt, record { fits = lit< tt }) $ sets ! (of_opd ! (get_in ! (fld ! refl (stop !)) (sub ! 1 refl (whole !)))) refl gh $
        sets ! (bin ! (get ! refl) (lit ! tt) tt) refl (tt, tt) $ first ! $ branches ! (get ! refl)
        (λ _. sets_last ! (agg ! (and_then ! (lit ! tt) (no_more !))) refl (tt, (record { fits = lit< tt }, tt)) $ exec ! 𝓣.C 𝓣.Λ Ev (after 4 into_loose.body) (at_ret Ev Post) $ sets ! (of_opd ! (get ! refl)) refl (tt, (record { fits = lit< tt }, tt)) $
        use0 𝓛 (‵ (Out.own_val None (live 0 vnil ∷ []))) (none_of 𝓛 Lr) $ use0 𝓛 (raw (fact 𝓤 (held v ≡ None))) (fact_i 𝓤 (held v ≡ None) (emp 𝓤) none) $ nothing ! $ nothing ! $ fjoin ! $
        returns ! (look_at ! 0 refl) $ free_all ! refl $ keep ! (5 ∷ 0 ∷ 2 ∷ 1 ∷ []) $ by ! (leaves 𝓛 En hs c z (live 0 vnil) None (tt, tt) (tt, tt))) (λ wrong. absurd wrong)))
        (λ b o x is one t. let w : Val = both (vptr b o) h in let typed = loose_good H.R Z heap_laws.the_row_laws ghosts b o h gh in let v₁ : Val = live 1 (vcons w vnil) in let d : Lr.Denot = record { at = block_ptr b o; alloc = a; value = x } in
        let good : Good (layout Out) v₁ = (and_tt _ typed.0, (record { fits = lit< tt }, (typed.1, tt))) in let ws' = subst (λ (q : Ptr). z.0.4.0 ≡ both (ptr_val q) h ∷ []) is ws in
        suffices ! (Run (w ∷ [])) (subst (λ (us : List Val). ent 𝓤 (Run (w ∷ [])) (Run us)) (sym (λ i. ws' i ++ [])) (id⊢ 𝓤 (Run (w ∷ [])))) $
        enter ! 𝓣.C 𝓣.Λ into_loose (w ∷ []) Post $ alloc_all ! (λ l. pass_all ! refl (handle_good H (block_ptr b o) h gh, tt) $ let Ev = env into_loose.locals l in
        sets ! (of_opd ! (get_in ! (fld ! refl (stop !)) (sub ! 0 refl (whole !)))) refl (tt, tt) $ sets ! (of_opd ! (get_in ! (fld ! refl (stop !)) (sub ! 1 refl (whole !)))) refl gh $
        sets ! (bin ! (get ! refl) (lit ! tt) (tests_null (block_ptr b o) t)) refl (tt, tt) $ first ! $ branches ! (get ! refl) (λ wrong. absurd wrong) (λ _. sets ! (of_opd ! (get ! refl)) refl (tt, tt) $
        sets ! (agg ! (and_then ! (get ! refl) (and_then ! (get ! refl) (no_more !)))) refl typed $ sets_last ! (agg ! (and_then ! (lit ! tt) (and_then ! (get ! refl) (no_more !)))) refl good $
        exec ! 𝓣.C 𝓣.Λ Ev (after 4 into_loose.body) (at_ret Ev Post) $ sets ! (of_opd ! (get ! refl)) refl good $ loose_in H.R Z heap_laws.the_row_laws ghosts ! b o h a x $
        use1 𝓛 (‵ (Out.own_val (Some d) (v₁ ∷ []))) (Some-of 𝓛 Lr d w) $ use0 𝓛 (raw (fact 𝓤 (held v ≡ Some x))) (fact_i 𝓤 (held v ≡ Some x) (emp 𝓤) one) $ nothing ! $ nothing ! $ fjoin ! $
        returns ! (look_at ! 0 refl) $ free_all ! refl $ keep ! (4 ∷ 0 ∷ 2 ∷ 1 ∷ []) $ by ! (leaves 𝓛 En hs c z v₁ (Some d) (tt, tt) (tt, tt)))))))
