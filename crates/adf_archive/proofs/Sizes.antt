-- For each fault of a size, some bytes have it.
use Rattle.std.proofs.Common.{ℕ, List, length, replicate, refl, sym, subst, lit<}
use Rattle.adf_archive.proofs.Common.{length-replicate, NotWholeBlocks, TooFewBlocks, TooManyBlocks}
use Rattle.adf_block.specs.Size.{IsSizeFault}
use Rattle.adf_block.specs.declared.volume_size.SizeFault.{SizeFault}

of_length : (n : ℕ) (fault : SizeFault) → IsSizeFault n fault → (bytes : List ℕ) × IsSizeFault (length bytes) fault
of_length n fault h = (replicate n 0, subst (λ (k : ℕ). IsSizeFault k fault) (sym (length-replicate n 0)) h)

pub size_shown : (fault : SizeFault) → (bytes : List ℕ) × IsSizeFault (length bytes) fault
size_shown NotWholeBlocks = of_length 1 NotWholeBlocks (λ e. cc e)
size_shown TooFewBlocks = of_length 0 TooFewBlocks (refl, lit< tt)
size_shown TooManyBlocks = of_length 52020736 TooManyBlocks (refl, lit< tt)
