use Rattle.std.proofs.Common.{subst, sym}
use Rattle.adf_import.proofs.Common.{AreKeysBelow}
use Rattle.adf_import.proofs.prune.denied_entry.Goals as goal

pub first_denied-requires-clause-below : goal.first_denied-requires-clause-below
first_denied-requires-clause-below c = λ t s. subst (AreKeysBelow t c.args.key) (sym c.as_slice.ensures.value) (c.in_ok-below.ensures t s)
