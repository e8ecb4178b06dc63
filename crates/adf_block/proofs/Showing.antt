-- The text of a boot block, line by line.
use Rattle.adf_block.proofs.Common.{◌≡◌, ℕ, ◌+◌, ◌*◌, ◌/◌, List, ◌++◌, take, drop, refl, ap, ap₂, ◌∙◌, add-one, append_assoc, arith, hex_line, hex_lines}
use Rattle.std.specs.Int.{div_ceil}

-- one more line
pub more_lines : (old mid new bytes : List ℕ) (n : ℕ) → mid ≡ old ++ hex_lines bytes n → new ≡ mid ++ hex_line (16 * n) (take 16 (drop (16 * n) bytes)) → new ≡ old ++ hex_lines bytes (n + 1)
more_lines old mid new bytes n before step =
    let line = hex_line (16 * n) (take 16 (drop (16 * n) bytes)) in
    step ∙ ap (λ (text : List ℕ). text ++ line) before ∙ append_assoc old (hex_lines bytes n) line ∙ ap (λ (lines : List ℕ). old ++ lines) (rw add-one refl)

-- the first line and those of the bytes
pub all_lines : (text mid first bytes whole : List ℕ) (n m : ℕ) → text ≡ mid ++ hex_lines bytes n → mid ≡ first → bytes ≡ whole → n ≡ m → text ≡ first ++ hex_lines whole m
all_lines text mid first bytes whole n m told front same count = told ∙ ap₂ (λ (a b : List ℕ). a ++ b) front (ap₂ hex_lines same count)

-- whole lines for n bytes
pub lines_of : (n : ℕ) → div_ceil n 16 ≡ (n + 15) / 16
lines_of n = omega arith
