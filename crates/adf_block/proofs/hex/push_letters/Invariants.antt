use Rattle.adf_block.proofs.Common.{◌≡◌, ◌++◌, map, take, letter}
use Rattle.adf_block.proofs.hex.push_letters.Given as goal

abbrev pub invariant-loop-byte : goal.invariant-loop-byte
invariant-loop-byte l = l.text.items ≡ l.fn.text.items ++ map letter (take l.byte-index l.bytes)
