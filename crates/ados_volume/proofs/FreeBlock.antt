-- Free space for one more entry, and its key.
use Rattle.ados_volume.proofs.Common.{Bool, CanMake, Duty, IsDirectoryKey, IsLowestFree, IsName, List, None, NoneFree, Option, Some, Stands, Tree, ap, arith, block_count, child_of, cond, false, free_bits_count, has_free_bit, is_some, nat_lt, refl, sym, true, ℕ, ◌+◌, ◌-◌, ◌∙◌, ◌≡◌}
use Rattle.ados_model.proofs.Totals.{total-zero}
use Rattle.ados_change.proofs.Making.{unused}
use Rattle.ados_model.specs.Reads.{lacks}
use Rattle.ados_model.specs.Success.{IsNewKey}
use Rattle.ados_volume.proofs.Refusing.{no_child_new, none_there}

module _ (image : List ℕ) (t : Tree) (s : Stands image t) where
  -- if no block is marked free, there is no free space
  pub none_free_lacks : NoneFree image → lacks t 1 ≡ true
  none_free_lacks none =
      let each = total-zero (λ k. cond (has_free_bit image (k + 2)) 1 0) (block_count image - 2) (λ k l. ap {B = ℕ} (λ (b : Bool). cond b 1 0) (none (k + 2) (omega arith, omega (arith, l)))) in
      ap (λ (n : ℕ). nat_lt n 1) (sym (free_bits_count image t s) ∙ each)

  -- the lowest free block is a new key
  pub new_key : (key : ℕ) → IsLowestFree image key → IsNewKey t key
  new_key key low = ((unused image t s key low).inside, (unused image t s key low).no_node, go (t.lost key) refl)
    where
      go : (o : Option (List ℕ)) → t.lost key ≡ o → o ≡ None
      go None e = refl
      go (Some bytes) e = absurd (s.marked_free key (unused image t s key low).inside low.free (Duty.Lost, ap is_some e))

-- an entry can be made in a directory without a child of that name
pub can_make_new : (t : Tree) (dir : ℕ) (name : List ℕ) → IsDirectoryKey t dir → IsName name → is_some (child_of t dir name) ≡ false → CanMake t dir name
can_make_new t dir name directory valid none = record { directory = directory; valid = valid; new_name = no_child_new t dir name (none_there (child_of t dir name) none) }
