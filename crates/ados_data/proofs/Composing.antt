-- Growths of a file: one in steps, and one after another.
use Rattle.ados_data.proofs.Common.{◌≡◌, ℕ, suc, ◌/◌, ◌≤◌, List, ◌∷◌, length, take, slice_index, sym, ap, ap₂, ◌∙◌, subst, arith, Format, IsInside, block_count, format_of, NoneFreeBelow, block_cost, LawfulFile, contents, data_blocks, extension_blocks, IsWritable, PaysFor, WritableFile, Gains, LeavesOthers, KeepsUnnamed, GrowsFile}
use Rattle.ados_data.proofs.Bounds.{below_stays}
use Rattle.ados_data.proofs.Grown.{Grown, front_both, grown_of, keeps_both}
use Rattle.ados_data.proofs.Leaving.{beside_gains, gains_both, leaves_both, summed_after}
use Rattle.ados_data.proofs.Skeleton.{skeleton_of}
use Rattle.ados_data.proofs.Spelled.{contents_are, data_blocks_are, extension_blocks_are}
use Rattle.ados_data.proofs.Standing.{writable_file}

-- the file has these blocks and bytes afterwards
pub grows_to : (old new : List ℕ) (file size : ℕ) (blocks extensions bytes : List ℕ) → IsWritable new file blocks extensions bytes → length bytes ≡ size → length (contents old file) ≤ size → format_of new ≡ format_of old → PaysFor old file size new → LeavesOthers old file new
    → Gains old file (data_blocks old file) (extension_blocks old file) new blocks extensions → take (length (data_blocks old file)) blocks ≡ data_blocks old file → take (length (extension_blocks old file)) extensions ≡ extension_blocks old file
    → KeepsUnnamed old file (data_blocks old file) (extension_blocks old file) new blocks extensions → GrowsFile old file size new
grows_to old new file size blocks extensions bytes w count longer format free leaves gains front front' keeps =
    let bl = data_blocks_are new file blocks extensions bytes w.lawful in
    let ex = extension_blocks_are new file blocks extensions bytes w.lawful in
    let there = writable_file new file blocks extensions bytes w in
    record {
      writable = there;
      format = format;
      longer = longer;
      sized = ap length (contents_are new file blocks extensions bytes w.lawful) ∙ count;
      free = free;
      leaves = leaves;
      gains =
          subst (λ (xs : List ℕ). Gains old file (data_blocks old file) (extension_blocks old file) new xs (extension_blocks new file)) (sym bl)
          (subst (λ (xs : List ℕ). Gains old file (data_blocks old file) (extension_blocks old file) new blocks xs) (sym ex) gains);
      blocks = ap (take (length (data_blocks old file))) bl ∙ front;
      extensions = ap (take (length (extension_blocks old file))) ex ∙ front';
      keeps =
          subst (λ (xs : List ℕ). KeepsUnnamed old file (data_blocks old file) (extension_blocks old file) new xs (extension_blocks new file)) (sym bl)
          (subst (λ (xs : List ℕ). KeepsUnnamed old file (data_blocks old file) (extension_blocks old file) new blocks xs) (sym ex) keeps);
      sums = summed_after old new file there leaves;
    }

-- the blocks before and after a growth
grown : (old new : List ℕ) (file size : ℕ) → LawfulFile old file → GrowsFile old file size new → Grown old file (data_blocks old file) (extension_blocks old file) new (data_blocks new file) (extension_blocks new file)
grown old new file size before g =
    grown_of old new (format_of old) (format_of new) file (data_blocks old file) (extension_blocks old file) (data_blocks new file) (extension_blocks new file) (length (contents old file)) (length (contents new file))
    (skeleton_of old (format_of old) file (data_blocks old file) (extension_blocks old file) (contents old file) before.holds)
    (skeleton_of new (format_of new) file (data_blocks new file) (extension_blocks new file) (contents new file) g.writable.lawful.holds)
    g.leaves.same_length g.leaves.pages g.format (omega (arith, g.longer, g.sized)) g.blocks g.extensions

-- one growth after another
pub grows_both : {old mid new : List ℕ} {file size size' : ℕ} → WritableFile old file → GrowsFile old file size mid → GrowsFile mid file size' new → GrowsFile old file size' new
grows_both {old} {mid} {new} {file} {size} {size'} w a b = record {
  writable = b.writable;
  format = b.format ∙ a.format;
  longer = omega (arith, a.longer, a.sized, b.longer);
  sized = b.sized;
  free = omega (arith, a.free, b.free, ap (λ (f : Format). block_cost f size') a.format, ap₂ block_cost a.format a.sized);
  leaves = left;
  gains = gains_both old mid new file (data_blocks old file) (extension_blocks old file) (data_blocks mid file) (extension_blocks mid file) (data_blocks new file) (extension_blocks new file) (ap (λ (n : ℕ). n / 512) a.leaves.same_length)
      (λ q l. subst (λ (n : ℕ). IsInside n (slice_index (file ∷ extension_blocks new file) q)) counts (b.writable.lawful.places.headers_inside q l))
      (λ i l. subst (λ (n : ℕ). IsInside n (slice_index (data_blocks new file) i)) counts (b.writable.lawful.places.data_inside i l))
      b.blocks b.extensions
      (λ i l. (a.writable.data_used i l).marked) (λ q l. (a.writable.headers_used (suc q) (omega (arith, l))).marked)
      (omega (arith, a.writable.lawful.extensions_fit)) (omega (arith, a.writable.lawful.extensions_fit))
      a.gains b.gains;
  blocks = front_both (data_blocks old file) (data_blocks mid file) (data_blocks new file) a.blocks b.blocks;
  extensions = front_both (extension_blocks old file) (extension_blocks mid file) (extension_blocks new file) a.extensions b.extensions;
  keeps = keeps_both old mid new file (data_blocks old file) (extension_blocks old file) (data_blocks mid file) (extension_blocks mid file) (data_blocks new file) (extension_blocks new file)
      (grown old mid file size w.lawful a) (grown mid new file size' a.writable.lawful b) a.keeps b.keeps;
  sums = summed_after old new file b.writable left;
}
  where
    left : LeavesOthers old file new
    left =
        leaves_both old mid new file (data_blocks old file) (extension_blocks old file) (data_blocks mid file) (extension_blocks mid file) a.leaves b.leaves
        (beside_gains old mid file (data_blocks old file) (extension_blocks old file) (data_blocks mid file) (extension_blocks mid file) a.gains)

    counts : block_count new ≡ block_count old
    counts = ap (λ (n : ℕ). n / 512) (b.leaves.same_length ∙ a.leaves.same_length)

-- a growth, then bytes overwritten
pub grows_over : {old mid new : List ℕ} {file size : ℕ} → WritableFile old file → GrowsFile old file size mid → GrowsFile mid file (length (contents mid file)) new → GrowsFile old file size new
grows_over {old} {new = new} {file = file} w a b = subst (λ (n : ℕ). GrowsFile old file n new) a.sized (grows_both w a b)

-- a growth frees no block
pub below_grown : {old new : List ℕ} {file size : ℕ} (from : ℕ) → GrowsFile old file size new → NoneFreeBelow old from → NoneFreeBelow new from
below_grown {old} {new} from g = below_stays old new from (ap (λ (n : ℕ). n / 512) g.leaves.same_length) g.gains.marks
