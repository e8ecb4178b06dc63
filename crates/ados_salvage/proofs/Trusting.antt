-- Whether a bitmap can be trusted, by the faults of the image.
use Rattle.ados_salvage.proofs.KnownCommon.{◌≡◌, ℕ, ◌+◌, ◌-◌, ◌/◌, ◌<◌, inl, inr, Bool, true, false, MatchBool, List, [], get_or, All, Contains, Option, Some, refl, sym, ◌∙◌, subst, arith, InImage, IsReachedAndFree, PlaceNames, Reached, Shows, root_of, AreOfReached, IsDoubt, cases_order, long, IsImage, ShowsNoFault, AreTrustedPages, IsTrustedBitmap}
use Rattle.ados_check.specs.declared.mark.Mark.{Mark}
use Rattle.ados_check.specs.Marks.{mark_at}
use Rattle.ados_faults.specs.Listed.{AreMarks, ListsAll, fault_of, root_mark}
use Rattle.ados_faults.proofs.Insides.{reached_inside}
use Rattle.ados_map.specs.Pages.{LawfulPages, page_block, pages_of}
use Rattle.ados_model.specs.declared.fault.FaultKind.{FaultKind}
use Rattle.ados_model.specs.declared.fault.FaultKind.TheVariants.{BlockUsedTwice, MarkedFree}
use Rattle.ados_model.specs.declared.fault.VolumeFault.{VolumeFault}
use Rattle.ados_model.specs.declared.role.Role.TheVariants.{Page, Root}
use Rattle.ados_model.specs.Faults.IsPlace.{root_page}
use Rattle.ados_model.specs.Faults.IsUsedTwice.{root_named}
use Rattle.ados_model.specs.Faults.Reached.{named, start}
use Rattle.ados_model.specs.Rebuilt.{HasValidBitmap}

module _ (image : List ℕ) (pages : AreTrustedPages image) where
  used_once : (p q : ℕ) → p < pages_of image → q < pages_of image → page_block image p ≡ page_block image q → p ≡ q
  used_once p q l m e = elim (cases_order p q) [
    | inl same ↦ same
    | inr (inl below) ↦ absurd ((pages q m).apart p below e)
    | inr (inr above) ↦ absurd ((pages p l).apart q above (sym e))
  ]

  -- the block with the bit of a block is a bitmap block inside the image
  bit_inside : (block : ℕ) → InImage image block → InImage image (page_block image ((block - 2) / 4064))
  bit_inside block at =
      let page : (block - 2) / 4064 < pages_of image = omega (arith, at.0, at.1) in
      (pages ((block - 2) / 4064) page).inside

-- a trusted bitmap has lawful bitmap blocks: a root that is one of them would be used twice
pub trusted_pages : (image : List ℕ) → IsTrustedBitmap image → LawfulPages image
trusted_pages image t = record {
  inside = λ p l. (t.pages p l).inside;
  apart = used_once image t.pages;
  beside_root = λ p l e.
      let named : PlaceNames image (root_of image) (79 + p) (page_block image p) = record { role = Root; next = Page; reached = start; place = root_page l; names = refl } in
      t.root BlockUsedTwice (subst (Shows image BlockUsedTwice) e (root_named e named));
}

module _ (image : List ℕ) (faults : List VolumeFault) (shown : All (λ fault. Shows image fault.kind fault.block) faults) (lists : ListsAll image faults) where
  -- what holds of each of them holds of one that is there
  met : (P : VolumeFault → Type 0) → All P faults → (kind : FaultKind) (block : ℕ) → Contains faults (fault_of kind block) → P (fault_of kind block)
  met P all kind block there = subst P there.2 (all there.0 _ there.1)

  -- no doubt is left
  pub trusted_by : IsImage image → HasValidBitmap image → AreTrustedPages image → All (λ fault. ¬ IsDoubt image fault) faults → IsTrustedBitmap image
  trusted_by im valid pages none = record {
    root = λ kind bad. met (λ fault. ¬ IsDoubt image fault) none kind (root_of image) (lists kind (root_of image) bad) (inr refl);
    valid = valid;
    pages = pages;
    in_use = λ block role reached free.
        let bit : IsReachedAndFree image block = record { valid = valid; role = role; reached = reached; page = bit_inside image pages block (reached_inside image im reached); free = free } in
        met (λ fault. ¬ IsDoubt image fault) none MarkedFree block (lists MarkedFree block bit) (inl refl);
  }

  -- and a trusted bitmap leaves none
  trusted_none : IsTrustedBitmap image → All (λ fault. ¬ IsDoubt image fault) faults
  trusted_none t k d l doubt = elim doubt [
    | inl e ↦
        let free : IsReachedAndFree image (get_or faults k d).block = subst (λ (kind : FaultKind). Shows image kind (get_or faults k d).block) e (shown k d l) in
        t.in_use (get_or faults k d).block free.role free.reached free.free
    | inr e ↦ t.root (get_or faults k d).kind (subst (Shows image (get_or faults k d).kind) e (shown k d l))
  ]

  -- so the doubts decide
  pub trust_decided : IsImage image → HasValidBitmap image → AreTrustedPages image → (none : Bool) → MatchBool none (All (λ fault. ¬ IsDoubt image fault) faults) (¬ All (λ fault. ¬ IsDoubt image fault) faults) → MatchBool none (IsTrustedBitmap image) (¬ IsTrustedBitmap image)
  trust_decided im valid pages true all = trusted_by im valid pages all
  trust_decided im valid pages false some = λ t. some (trusted_none t)

-- an image without faults shows nothing that the empty list lacks
pub none_lists_all : (image : List ℕ) → ShowsNoFault image → ListsAll image []
none_lists_all image none kind block shown = absurd (none kind block shown)

-- a marked block inside the image is reached: it is the root, or the place in its mark names it
pub marks_reach : (image : List ℕ) (marks : List (Option Mark)) → AreMarks image marks → AreOfReached image marks
marks_reach image marks m block mark e inside = elim (m.named block mark e) [
  | inl is ↦
      let of_root : mark_at marks block ≡ Some root_mark = subst (λ (b : ℕ). mark_at marks b ≡ Some root_mark) (sym is) m.root in
      subst (λ (k : Mark). Reached image block k.role) (some_same (sym of_root ∙ e)) (subst (λ (b : ℕ). Reached image b Root) (sym is) start)
  | inr n ↦
      let there : InImage image (long image mark.holder mark.long) = subst (InImage image) (sym n.names) inside in
      subst (λ (b : ℕ). Reached image b mark.role) n.names (named n.reached n.place there)
]
  where
    some_same : {x y : Mark} → Some x ≡ Some y → x ≡ y
    some_same e = cc e
