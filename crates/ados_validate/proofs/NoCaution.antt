-- If all bitmap blocks are safe and no header is lost, nothing is lost.
use Rattle.ados_validate.proofs.Common.{◌≡◌, ℕ, Bool, true, false, List, Option, Some, None, MatchOption, refl, sym, ap, ◌∙◌, subst, arith, block_sum, has_free_bit, HasFreeBit, IsValidated, AreSafePages, HasNoLostHeader}
use Rattle.ados_validate.specs.declared.caution.Caution.{Caution}
use Rattle.ados_validate.specs.declared.caution.Caution.TheVariants.{Differs, LooksLike, LostHeader}
use Rattle.ados_validate.specs.Cautions.{HasLook, HasNoCaution, IsCaution, changed_bits}
use Rattle.ados_salvage.specs.Found.{IsLostBlock}

module _ (old new : List ℕ) (v : IsValidated old new) (safe : AreSafePages old new) where
  -- the new image marks a lost block free
  freed : (block : ℕ) → IsLostBlock old block → HasFreeBit new block
  freed block lost = go (has_free_bit new block) refl
    where
      go : (b : Bool) → has_free_bit new block ≡ b → HasFreeBit new block
      go true e = e
      go false e = absurd (let used = v.in_use block lost.inside (λ bit. (let no : false ≡ true = sym e ∙ bit in cc no)) in lost.unnamed used.0 used.1)

  no_caution : HasNoLostHeader old new → HasNoCaution old new
  no_caution none (LooksLike page look) (at, looks) = (safe at.0 at.1).no_look look (subst (λ (b : ℕ). HasLook old b look) (sym at.2) looks)
  no_caution none (Differs page bits) (at, wrong, counted, many) =
      let few = (safe at.0 at.1).few_bits (λ e. wrong (subst (λ (b : ℕ). block_sum old b ≡ 0) at.2 e)) in
      omega (arith, few, many, counted, ap (changed_bits old new) at.2)
  no_caution none (LostHeader block) (lost, sound) = none block lost.inside (freed block lost) lost.used sound

  pub first_of : (found : Option Caution) → MatchOption found (HasNoLostHeader old new) (IsCaution old new) → MatchOption found (HasNoCaution old new) (IsCaution old new)
  first_of None none = no_caution none
  first_of (Some caution) is = is
