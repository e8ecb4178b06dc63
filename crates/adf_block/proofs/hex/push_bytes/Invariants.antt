use Rattle.adf_block.proofs.Common.{◌≡◌, ◌++◌, take, flat_map, spaced_byte}
use Rattle.adf_block.proofs.hex.push_bytes.Given as goal

abbrev pub invariant-loop-byte : goal.invariant-loop-byte
invariant-loop-byte l = l.text.items ≡ l.fn.text.items ++ flat_map spaced_byte (take l.byte-index l.bytes)
