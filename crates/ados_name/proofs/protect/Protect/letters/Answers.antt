use Rattle.ados_name.proofs.Common.{◌≡◌, ℕ, ◌==◌, ◌^◌, Bool, not, ◌∷◌, [], ap, ◌∙◌, bit_and}
use Rattle.std.specs.Prelude.{if◌then◌else◌}
use Rattle.ados_name.specs.Protection.{is_set, letter_or_dash}
use Rattle.ados_name.proofs.ProtectionLemmas.{mask-bit}
use Rattle.ados_name.proofs.protect.Protect.letters.Goals as goal

-- a letter shown for a set bit, and a letter shown for a clear bit
module _ (bits number letter shown : ℕ) (has : Bool) (found : has ≡ (bit_and bits (2 ^ number) == 2 ^ number)) where
  where_set : shown ≡ (if has then letter else 45) → shown ≡ letter_or_dash (is_set bits number) letter
  where_set is = is ∙ ap (λ b. if b then letter else 45) (found ∙ mask-bit bits number)

  where_clear : shown ≡ (if not has then letter else 45) → shown ≡ letter_or_dash (not (is_set bits number)) letter
  where_clear is = is ∙ ap (λ b. if not b then letter else 45) (found ∙ mask-bit bits number)

pub returns : goal.returns
returns c =
    let bits = c.args.self.0 in
    let script = where_set bits 6 115 c.letter_or_dash.result c.contains.result (c.contains.ensures tt) c.letter_or_dash.ensures in
    let pure = where_set bits 5 112 c.letter_or_dash-2.result c.contains-2.result (c.contains-2.ensures tt) c.letter_or_dash-2.ensures in
    let archive = where_set bits 4 97 c.letter_or_dash-3.result c.contains-3.result (c.contains-3.ensures tt) c.letter_or_dash-3.ensures in
    let read = where_clear bits 3 114 c.letter_or_dash-4.result c.contains-4.result (c.contains-4.ensures tt) c.letter_or_dash-4.ensures in
    let write = where_clear bits 2 119 c.letter_or_dash-5.result c.contains-5.result (c.contains-5.ensures tt) c.letter_or_dash-5.ensures in
    let execute = where_clear bits 1 101 c.letter_or_dash-6.result c.contains-6.result (c.contains-6.ensures tt) c.letter_or_dash-6.ensures in
    let delete = where_clear bits 0 100 c.letter_or_dash-7.result c.contains-7.result (c.contains-7.ensures tt) c.letter_or_dash-7.ensures in
    λ i. script i ∷ pure i ∷ archive i ∷ read i ∷ write i ∷ execute i ∷ delete i ∷ []
