-- Lost blocks of a volume by the owners of its blocks.
use Rattle.adf_record.proofs.Common.{◌≡◌, ℕ, ◌<◌, List, Option, None, Some, refl, sym, ap, ◌∙◌, subst, arith, block_count, count_same, Stands, Tree, slice_get}
use Rattle.std.proofs.lemmas.Option.{slice_get-get_or}
use Rattle.std.proofs.Common.{get_or, length}
use Rattle.ados_census.specs.declared.class.BlockKind.{BlockKind}
use Rattle.ados_model.specs.Stands.{Duty}
use Rattle.ados_volume.specs.Owners.{AreOwners, Owns}
use Rattle.ados_volume.specs.declared.owner.Owner.{Owner}
use Rattle.ados_volume.specs.declared.owner.Owner.TheVariants.{Lost}
use Rattle.adf_record.specs.Lost.{IsLostAs, IsNumberOf}
use Rattle.adf_record.specs.steps.Losing.{IsCounted}
use Rattle.adf_record.proofs.Numbering.{number_as}

module _ (image : List ℕ) (t : Tree) (s : Stands image t) (owners : List Owner) (are : AreOwners image t owners) where
  -- a lost block is one of the image
  inside : (block : ℕ) → Owns image t block Lost → block < block_count image
  inside block lost = omega (arith, (s.fits.inside block Duty.Lost lost).1, count_same image t s)

  -- it is lost by its owner
  lost_there : (block : ℕ) → Owns image t block Lost → slice_get owners block ≡ Some Lost
  lost_there block lost =
      let within : block < length owners = omega (arith, (s.fits.inside block Duty.Lost lost).1, are.count) in
      let there : slice_get owners block ≡ Some (get_or owners block Lost) = slice_get-get_or owners block Lost within in
      there ∙ ap (λ (o : Owner). Some o) (sym (are.alone block (get_or owners block Lost) Lost there lost))

  module _ (seen : List ℕ) (told : List Owner) (here : seen ≡ image) (owned : told ≡ owners) (n : ℕ) where
    -- the number of lost blocks
    pub lost_number : IsNumberOf (IsCounted seen told None) n → IsNumberOf (λ block. Owns image t block Lost) n
    lost_number h =
        number_as (IsCounted image owners None) (λ block. Owns image t block Lost)
        (λ block is. are.owned block Lost is.lost)
        (λ block lost. record { inside = inside block lost; lost = lost_there block lost; wanted = tt })
        n (subst (λ (os : List Owner). IsNumberOf (IsCounted image os None) n) owned (subst (λ (bytes : List ℕ). IsNumberOf (IsCounted bytes told None) n) here h))

    -- the number of those that are sound as a kind
    pub lost_as : (kind : BlockKind) → IsNumberOf (IsCounted seen told (Some kind)) n → IsNumberOf (IsLostAs image t kind) n
    lost_as kind h =
        number_as (IsCounted image owners (Some kind)) (IsLostAs image t kind)
        (λ block is. (are.owned block Lost is.lost, is.wanted))
        (λ block lost. record { inside = inside block lost.0; lost = lost_there block lost.0; wanted = lost.1 })
        n (subst (λ (os : List Owner). IsNumberOf (IsCounted image os (Some kind)) n) owned (subst (λ (bytes : List ℕ). IsNumberOf (IsCounted bytes told (Some kind)) n) here h))
