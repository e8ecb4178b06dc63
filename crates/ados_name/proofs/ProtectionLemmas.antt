-- A mask of one bit tests and clears the bit of its number.
use Rattle.ados_name.proofs.Common.{◌≡◌, ℕ, ◌+◌, ◌-◌, ◌*◌, ◌<◌, ◌^◌, ◌==◌, lit<, ◌∙◌, arith, bit_and}
use Rattle.std.specs.Int.{bit_at}
use Rattle.std.proofs.lemmas.Nat.{and-not, and_comm, pow_pos}
use Rattle.std.proofs.lemmas.Nat.Bits.{and_pow, bit_at-lt}

one-or-zero : (b mask : ℕ) → b < 2 → 0 < mask → (b * mask == mask) ≡ (b == 1)
one-or-zero b mask small some = grind arith

pub mask-bit : (bits number : ℕ) → (bit_and bits (2 ^ number) == 2 ^ number) ≡ (bit_at bits number == 1)
mask-bit bits number = rw (and_pow bits number) (one-or-zero (bit_at bits number) (2 ^ number) (bit_at-lt bits number) (pow_pos number))

pub clear-archive : (bits : ℕ) → bits < 2 ^ 32 → bit_and bits (2 ^ 32 - 1 - 16) ≡ bits - 16 * bit_at bits 4
clear-archive bits fits =
    let parts : bit_and (2 ^ 32 - 1 - 16) bits + bit_and 16 bits ≡ bits = and-not 32 16 bits (lit< tt) fits in
    let turned : bit_and (2 ^ 32 - 1 - 16) bits ≡ bit_and bits (2 ^ 32 - 1 - 16) = and_comm _ _ in
    let mask : bit_and 16 bits ≡ bit_at bits 4 * 16 = and_comm 16 bits ∙ and_pow bits 4 in
    omega (arith, parts, turned, mask)
