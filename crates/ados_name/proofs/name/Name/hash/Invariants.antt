use Rattle.ados_name.proofs.Common.{◌≡◌, ◌<◌, ◌+◌, ◌*◌, ◌%◌, length, take, fold, upper}
use Rattle.ados_name.proofs.name.Name.hash.Given as goal

abbrev pub invariant-loop-byte : goal.invariant-loop-byte
invariant-loop-byte l = record {
  small : l.h < 2048;
  so_far : l.h ≡ fold (λ h c. (13 * h + upper c) % 2048) (length l.bytes) (take l.byte-index l.bytes);
}
