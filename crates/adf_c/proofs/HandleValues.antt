-- The machine values of a handle, and that it may go to another thread. Assumes `Logic`.
use Rattle.std.proofs.Common.{◌≡◌, List, [], ◌∷◌, ◌++◌, refl, sym, subst}
use lib.Dec.{lit<}
use seplogic.Ra.Ura.{Ura}
use mir.Val.{Val, vstruct, of_list, has_ty}
use mir.Raw.{raw}
use base.Shift.{Keyless}
use base.Fml.{Fml, fsep, fex}
use types.Logic.{Logic}
use types.Kit.{Item, Goal, Seq, Step, step, ‵, ◌$◌, move, drop, fsplit, fjoin, fpick, fpack, rewrite, feq_i, feq_l}
use denote.Exit.{under, hidden}
use denote.RattleType.{RattleType, Valss, Denots}
use denote.RawPtr.{Ptr, block_ptr, null_ptr, ptr_val}
use denote.Steps.{nothing}
use denote.Param.{layout}
use denote.Param.Send.{IsSend, owning_send, sendable}
use denote.Memory.{lone}
use denote.Struct.Field.{Field, RawPtr-field, rows}
use denote.Struct.Struct.{within, exits_of}
use denote.Struct.Owning as owning
use denote.Struct.Owning.{Owning, shape}
use Rattle.core.proofs.alloc.Calls.{handle_tells}
use Rattle.core.proofs.cell.Inside.{Good}
use Rattle.std.specs.declared.alloc.Global.{Global}
use Rattle.std.specs.declared.option.Option.{Option}
use Rattle.std.specs.declared.option.Option.TheVariants.{None, Some}
use Rattle.std.proofs.Crossing.{frees}
use Rattle.std_alloc.proofs.SendSync.{lies}
use Rattle.std.specs.contracts.alloc.Global as heap
use Rattle.std_alloc.proofs.ResultValues.{and_tt}
use Rattle.adf_c.specs.Holding.{holds}
use Rattle.adf_c.proofs.LooseValues.{both, Z, heap_al}

-- the pointer, the allocator and what is at the pointer
abbrev pub Parts : RattleType → Type 0
Parts R = Ptr × (Global × Option R.Denot)

-- a struct of C with these parts, which holds a value of `R`
pub record Handle : Type 2 where
  pub R : RattleType
  pub struct : Owning
  pub parts : struct.D → Parts R
  pub make : Parts R → struct.D
  pub made : (u : Parts R) → parts (make u) ≡ u

module _ (H : Handle) where
  abbrev fields : List Field
  fields = RawPtr-field ∷ heap.the_field ∷ []

  abbrev shown : Parts H.R → Denots (rows fields)
  shown u = (u.0, ((heap.the_field).into u.1.0, tt))

  abbrev has : Parts H.R → Fml
  has u = holds H.R u.1.0 u.0 u.1.1

  abbrev pub the_type : Owning
  the_type = record {
    name = H.struct.name;
    args = [];
    types = [];
    parts = fields;
    D = H.struct.D;
    as_values = λ d. ((H.parts d).0, ((H.parts d).1.0, tt));
    coded = H.struct.coded;
    heap = λ d. has (H.parts d);
    exit = λ k. hidden (under (λ d. shown (H.parts d)) (exits_of k (rows fields)));
    shr_at = H.struct.shr_at;
  }

  abbrev pub row : RattleType
  row = owning.row the_type

  abbrev owned : Parts H.R → List Val → Fml
  owned u vs = fsep (fex (Valss (rows fields)) (within (shape the_type) (shown u) vs)) (has u)

  pub handle_good : (p : Ptr) (h : Val) → Good (layout Z) h → Good (layout row) (both (ptr_val p) h)
  handle_good null_ptr h fits = (and_tt (has_ty (layout Z) h) fits.0, (record { fits = lit< tt }, (fits.1, tt)))
  handle_good (block_ptr b o) h fits = (and_tt (has_ty (layout Z) h) fits.0, (tt, (fits.1, tt)))

  module _ {M : Type 1} {𝓤 : Ura M} {𝓛 : Logic 𝓤} {K : Type 0} {Γ : List (Item 𝓤)} {G : Goal 𝓤 𝓛.H} where
    pub handle_out : K → (d : row.Denot) (vs : List Val)
        → ((h : Val) → vs ≡ both (ptr_val (H.parts d).0) h ∷ [] → Good (layout Z) h → Seq K 𝓛 (‵ (has (H.parts d)) ∷ ‵ (Z.own_val (H.parts d).1.0 (h ∷ [])) ∷ Γ) G)
        → Seq K 𝓛 (‵ (row.own_val d vs) ∷ Γ) G
    handle_out t d vs k =
        fsplit t $ fpick t (λ vss. fsplit t $ feq_l t (λ ev. fsplit t $ feq_l t (λ ep. fsplit t $ handle_tells heap_al t (H.parts d).1.0 vss.1.0 (λ h ea fits. move t (1 ∷ []) $ drop t $ move t (1 ∷ []) $ k h
        (subst (λ (ws : List Val). vs ≡ vstruct (of_list (ptr_val (H.parts d).0 ∷ (ws ++ []))) ∷ []) ea (subst (λ (ps : List Val). vs ≡ vstruct (of_list (ps ++ (vss.1.0 ++ []))) ∷ []) ep ev)) fits))))

    pub handle_in : K → (p : Ptr) (h : Val) (a : Global) (x : Option H.R.Denot)
        → Step K 𝓛 (‵ (row.own_val (H.make (p, (a, x))) (both (ptr_val p) h ∷ [])) ∷ Γ) G (‵ (has (p, (a, x))) ∷ ‵ (Z.own_val a (h ∷ [])) ∷ Γ) G
    handle_in t p h a x = step (λ s. let v : Val = both (ptr_val p) h in
        nothing t $ move t (2 ∷ 0 ∷ []) $ fjoin t $ feq_i t (List Val) (ptr_val p ∷ []) (ptr_val p ∷ []) refl $ fjoin t $ feq_i t (List Val) (v ∷ []) (v ∷ []) refl $ fjoin t $
        fpack t (Valss (rows fields)) (within (shape the_type) (shown (p, (a, x))) (v ∷ [])) (ptr_val p ∷ [], (h ∷ [], tt)) $ fjoin t $
        rewrite t 0 (λ (u : Parts H.R). ‵ (owned u (v ∷ []))) (sym (H.made (p, (a, x)))) refl $ s)

  keyless : IsSend H.R → (p : Ptr) (a : Global) (x : Option H.R.Denot) → Keyless (has (p, (a, x)))
  keyless s p a None = λ e. tt
  keyless s p a (Some x) = (lies H.R s p x, frees.frees a (raw (lone H.R.mir)) p)

  -- a handle may go to another thread, if its value may
  pub crosses : IsSend H.R → IsSend row
  crosses s = owning_send the_type (search sendable depth 20) (λ d. keyless s (H.parts d).0 (H.parts d).1.0 (H.parts d).1.1) (λ k d w. tt)
