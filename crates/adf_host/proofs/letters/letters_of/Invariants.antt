use Rattle.std.proofs.Common.{◌≡◌, ◌≤◌, length, All}
use Rattle.std.specs.String.{string_bytes}
use Rattle.adf_host.proofs.letters.letters_of.Given as goal

-- a letter for each byte so far
abbrev pub invariant-loop-byte : goal.invariant-loop-byte
invariant-loop-byte l = record {
  many : length (string_bytes l.text) ≡ l.byte-index;
  small : All (λ c. (97 ≤ c) × (c ≤ 122)) (string_bytes l.text);
}
