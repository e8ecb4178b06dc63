use Rattle.adf_script.proofs.Common.{◌≡◌, ◌++◌, take, flat_map, hex_byte}
use Rattle.adf_script.proofs.hex.push_hex.Given as goal

abbrev pub invariant-loop-byte : goal.invariant-loop-byte
invariant-loop-byte l = l.text.items ≡ l.fn.text.items ++ flat_map hex_byte (take l.byte-index l.bytes)
