use Rattle.adf_text.proofs.Common.{◌≡◌, length, take, All, IsByte}
use Rattle.std.specs.Str.{chars}
use Rattle.adf_text.proofs.letters.letter_bytes.Given as goal

-- the letters so far are bytes
abbrev pub invariant-loop-letter : goal.invariant-loop-letter
invariant-loop-letter l = record {
  many : length l.bytes.items ≡ length l.yielded;
  front : l.bytes.items ≡ take (length l.yielded) (chars l.text);
  small : All IsByte l.bytes.items;
}
