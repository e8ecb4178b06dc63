-- A lost block has no use in the tree, and every other used block is reached.
use Rattle.std.proofs.Common.{◌≡◌, ℕ, List, inl, inr, true, false, IsSome, sym, arith}
use Rattle.ados_name.specs.Name.{slot}
use Rattle.ados_model.specs.Faults.{Reached}
use Rattle.ados_model.specs.Stands.{Duty, HasDuty, Stands}
use Rattle.ados_model.specs.Tree.{Tree}
use Rattle.ados_model.specs.declared.role.Role.{Role}
use Rattle.ados_model.specs.declared.role.Role.TheVariants as roles
use Rattle.ados_model.proofs.Counting.{slice_get-back}
use Rattle.ados_model.proofs.Nodes.{root_or_parent, some_in}
use Rattle.ados_model.proofs.Standing.{count_same, duty_of, reached_stands, serves_at}
use Rattle.ados_change.proofs.Reaching.{entry_stands, stands_reached}
use Rattle.ados_change.proofs.SameLayout.{file_with}
use Rattle.ados_salvage.specs.Found.{IsLostBlock}
use Rattle.ados_volume.specs.Owners.{Owns}
use Rattle.ados_volume.specs.declared.owner.Owner.TheVariants.{Lost}
use Rattle.ados_salvage.specs.LostBlocks.{LostBlocksByOwner}

module _ (image : List ℕ) (t : Tree) (s : Stands image t) where
  -- a used block that is not reached has no use but to be lost
  unreached_lost : (block : ℕ) → ((role : Role) → ¬ Reached image block role) → (duty : Duty) → HasDuty t s.layout block duty → IsSome (t.lost block)
  unreached_lost block none (Duty.Page i) h =
      let at = slice_get-back s.layout.pages i block h in
      absurd (none roles.Page (stands_reached image t s roles.Page i block (record { within = at.0; here = at.1; holder = tt })))
  unreached_lost block none Duty.Key h =
      let n = some_in (t.nodes block) h in
      absurd (elim (root_or_parent t s.proper block n.0 n.1) [
        | inl is ↦ none roles.Root (stands_reached image t s roles.Root 0 block (record { within = omega arith; here = sym is; holder = tt }))
        | inr up ↦
            (let at = entry_stands image t s block up.0 n.0 n.1 up.1 in
            none (roles.Entry up.0 (slot n.0.name)) (stands_reached image t s (roles.Entry up.0 (slot n.0.name)) at.0 block at.1))
      ])
  unreached_lost block none (Duty.Data file i) h =
      let at = slice_get-back (s.layout.file_data file) i block h in
      absurd (none (roles.Data file) (stands_reached image t s (roles.Data file) i block (record { within = at.0; here = at.1; holder = file_with image t s true file i at.0 })))
  unreached_lost block none (Duty.Extension file i) h =
      let at = slice_get-back (s.layout.extensions file) i block h in
      absurd (none (roles.Extension file) (stands_reached image t s (roles.Extension file) i block (record { within = at.0; here = at.1; holder = file_with image t s false file i at.0 })))
  unreached_lost block none Duty.Lost h = h

  -- no role is to be lost
  not_lost : (role : Role) (k : ℕ) → Duty.Lost ≡ duty_of image t s role k → ⊥
  not_lost roles.Root k e = cc e
  not_lost roles.Page k e = cc e
  not_lost (roles.Entry dir r) k e = cc e
  not_lost (roles.Data file) k e = cc e
  not_lost (roles.Extension file) k e = cc e

  by_bytes : (block : ℕ) → IsLostBlock image block → Owns image t block Lost
  by_bytes block lost =
      let named = s.marked_used block (lost.inside.0, omega (arith, lost.inside.1, count_same image t s)) lost.used in
      unreached_lost block lost.unnamed named.0 named.1

  by_tree : (block : ℕ) → Owns image t block Lost → IsLostBlock image block
  by_tree block lost =
      let inside = s.fits.inside block Duty.Lost lost in
      record {
        inside = (inside.0, omega (arith, inside.1, count_same image t s));
        used = λ free. s.marked_free block inside free (Duty.Lost, lost);
        unnamed = λ role reached.
            let at = reached_stands image t s reached in
            not_lost role at.0 (s.fits.one_duty block Duty.Lost (duty_of image t s role at.0) lost (serves_at image t s role at.0 block at.1));
      }

pub by_owner : LostBlocksByOwner
by_owner image t block s = (by_bytes image t s block, by_tree image t s block)
