-- A bundle that is equal to that of a tree.
use Rattle.std.proofs.Common.{ℕ, List, sym, ◌∙◌, subst}
use Rattle.adf_import.proofs.Common.{Tree}
use Rattle.adf_record.specs.declared.bundle.Bundle.{Bundle}
use Rattle.adf_record.specs.Bundle.{AreBundleOf, AreEntriesOf, AreSame, IsHeadOf}

pub bundle_same : (image : List ℕ) (t : Tree) (one other : Bundle) → AreSame one other → AreBundleOf image t one → AreBundleOf image t other
bundle_same image t one other same b = record {
  head = subst (IsHeadOf t) same.head b.head;
  boot = sym same.boot ∙ b.boot;
  found = b.found;
  below = b.below;
  entries_told = subst (AreEntriesOf t b.found) same.entries b.entries_told;
}
