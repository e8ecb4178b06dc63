use Rattle.ados_check.proofs.Common.{◌≡◌, ◌<◌, ◌+◌, ◌*◌, ◌%◌, length, take, fold, upper}
use Rattle.ados_check.proofs.naming.hash_of.Given as goal

abbrev pub invariant-loop-byte : goal.invariant-loop-byte
invariant-loop-byte l = record {
  small : l.hash < 2048;
  so_far : l.hash ≡ fold (λ h c. (13 * h + upper c) % 2048) (length l.text) (take l.byte-index l.text);
}
