-- The form of the entries of directories, and that of data blocks and bitmap blocks.
use Rattle.std.proofs.Common.{◌≡◌, ℕ, inl, inr, Bool, true, false, List, MatchBool, refl, arith}
use Rattle.ados_model.specs.declared.role.Role.{Role}
use Rattle.ados_model.specs.declared.role.Role.TheVariants.{Root, Page, Entry, Data, Extension}
use Rattle.ados_model.specs.Faults.{IsEntry, Reached}
use Rattle.ados_census.specs.Reached.{IsLeaf}
use Rattle.ados_census.specs.steps.Reaching.{IsReachedIn, form}

module _ (image : List ℕ) (block : ℕ) where
  entry_in : (role : Role) → form role ≡ 1 → Reached image block role → IsEntry image block
  entry_in Root e reached = absurd (omega (arith, e))
  entry_in (Entry dir s) e reached = (dir, s, reached)
  entry_in (Extension file) e reached = absurd (omega (arith, e))
  entry_in (Data file) e reached = absurd (omega (arith, e))
  entry_in Page e reached = absurd (omega (arith, e))

  -- a block is an entry exactly if it is reached in their form
  pub entry_decided : (answer : Bool) → MatchBool answer (IsReachedIn image block 1) (¬ IsReachedIn image block 1) → MatchBool answer (IsEntry image block) (¬ IsEntry image block)
  entry_decided true is = entry_in is.role is.of_form is.reached
  entry_decided false none = λ entry. none (record { role = Entry entry.0 entry.1; of_form = refl; reached = entry.2 })

  leaf_in : (role : Role) → form role ≡ 3 → Reached image block role → IsLeaf image block
  leaf_in Root e reached = absurd (omega (arith, e))
  leaf_in (Entry dir s) e reached = absurd (omega (arith, e))
  leaf_in (Extension file) e reached = absurd (omega (arith, e))
  leaf_in (Data file) e reached = inl (file, reached)
  leaf_in Page e reached = inr reached

  -- a block is a data block or a bitmap block exactly if it is reached in their form
  pub leaf_decided : (answer : Bool) → MatchBool answer (IsReachedIn image block 3) (¬ IsReachedIn image block 3) → MatchBool answer (IsLeaf image block) (¬ IsLeaf image block)
  leaf_decided true is = leaf_in is.role is.of_form is.reached
  leaf_decided false none = λ leaf. elim leaf [
    | inl of_file ↦ none (record { role = Data of_file.0; of_form = refl; reached = of_file.1 })
    | inr page ↦ none (record { role = Page; of_form = refl; reached = page })
  ]
