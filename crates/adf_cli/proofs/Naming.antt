-- What is read of arguments that name blocks.
use Rattle.std.proofs.Common.{◌≡◌, ◌≢◌, ℕ, ◌<◌, ◌^◌, List, ◌∷◌, ◌++◌, length, get_or, drop, map, decimal, Bor, Option, MatchOption, refl, ap, arith}
use Rattle.std.proofs.lemmas.Fmt.{decimal_is_IsNumeral}
use Rattle.std.proofs.lemmas.List.{get_or-map, length-map}
use Rattle.std.proofs.lemmas.Str.Parse.{digit_at}
use Rattle.std.proofs.lemmas.Str.Pattern.{IsSplitOnceResult, split_after}
use Rattle.adf_cli.specs.Blocks.{HasLongs, TellsNoBlock, TellsNoBlocks, block_text}
use Rattle.adf_cli.specs.declared.block_word.BlockWord.{BlockWord}
use Rattle.adf_cli.specs.declared.block_word.BlockWord.TheVariants.{Number, Sector}
use Rattle.adf_cli.specs.declared.fault.WordsFault.{WordsFault}
use Rattle.adf_cli.specs.declared.fault.WordsFault.TheVariants.{Usage, Memory}

-- a number is written in digits
no_dot : (n : ℕ) → n < 2 ^ 32 → (i : ℕ) → i < length (decimal n) → get_or (decimal n) i 0 ≢ 46
no_dot n small i l e = omega (arith, digit_at (decimal n) i (decimal_is_IsNumeral n (omega arith)).0.1 l, e)

no_letter : (n : ℕ) (rest : List ℕ) → n < 2 ^ 32 → 99 ∷ rest ≢ decimal n
no_letter n rest small e =
    let numeral = (decimal_is_IsNumeral n (omega arith)).0 in
    omega (arith, digit_at (decimal n) 0 numeral.1 numeral.0, ap (λ (l : List ℕ). get_or l 0 0) e)

-- a text is cut at its first dot, which stands behind the number
pub before_dot : (text rest : List ℕ) (number : ℕ) (cut : Option (Bor (List ℕ) × Bor (List ℕ))) → IsSplitOnceResult 46 text cut → number < 2 ^ 32 → text ≡ decimal number ++ 46 ∷ rest
    → MatchOption cut ⊥ (λ x. (x.0.now ≡ decimal number) × (x.1.now ≡ rest))
before_dot text rest number cut h small is = split_after 46 text (decimal number) rest cut h (omega arith) is (no_dot number small)

-- what stands behind the `c` of a block
pub record IsSector (block : BlockWord) (place : List ℕ) : Type 0 where
  pub cylinder : ℕ
  pub head : ℕ
  pub sector : ℕ
  pub small : (cylinder < 2 ^ 32) × (head < 2 ^ 32) × (sector < 2 ^ 32)
  pub text : place ≡ decimal cylinder ++ 46 ∷ 104 ∷ (decimal head ++ 46 ∷ 115 ∷ decimal sector)
  pub is : Sector cylinder head sector ≡ block

-- only a block that is named by its place begins with a `c`
pub place_of : (block : BlockWord) (place : List ℕ) → HasLongs block → 99 ∷ place ≡ block_text block → IsSector block place
place_of (Number number) place longs is = absurd (no_letter number place longs is)
place_of (Sector cylinder head sector) place longs is = record { cylinder = cylinder; head = head; sector = sector; small = longs; text = ap (drop 1) is; is = refl }

-- only a block that is named by its number does not
pub number_of : (block : BlockWord) (word : List ℕ) → ((rest : List ℕ) → word ≢ 99 ∷ rest) → HasLongs block → word ≡ block_text block
    → (number : ℕ) × (number < 2 ^ 32) × (word ≡ decimal number) × (Number number ≡ block)
number_of (Number number) word no_c longs is = (number, longs, is, refl)
number_of (Sector cylinder head sector) word no_c longs is = absurd (no_c _ is)

-- one of the arguments is at fault
pub told_of_one : (words : List (Bor (List ℕ))) (k : ℕ) (d : Bor (List ℕ)) (fault : WordsFault) → k < length words → TellsNoBlock (get_or words k d).now fault → TellsNoBlocks (map (λ word. word.now) words) fault
told_of_one words k d (Usage told) inside none =
    (k, (get_or words k d).now, omega (arith, length-map words (λ (w : Bor (List ℕ)). w.now), inside), get_or-map (λ (w : Bor (List ℕ)). w.now) words k d (get_or words k d).now inside, none)
told_of_one words k d Memory inside none = tt
