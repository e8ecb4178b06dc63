-- The lines of a list of bad blocks, one after the other.
use Rattle.std.proofs.Common.{◌≡◌, ◌<◌, ℕ, ◌+◌, All, List, [], ◌∷◌, ◌++◌, ◌⊎◌, inr, length, MatchOption, Option, Some, None, refl, sym, ap, ◌∙◌, subst, arith}
use Rattle.std.specs.Prelude.{slice_get}
use Rattle.std.proofs.lemmas.List.{append-nil, length-append}
use Rattle.adf_script.specs.Lines.{lines_of}
use Rattle.adf_cli.specs.Blocks.{IsNamed, NamesNone, named}
use Rattle.adf_cli.specs.declared.block_word.BlockWord.{BlockWord}
use Rattle.adf_cli.specs.BadBlocks.{Adds, AreBad, IsBadFault, NamesNoBlock, Says}
use Rattle.adf_cli.specs.BadBlocks.AreBad.{none}
use Rattle.adf_cli.specs.declared.bad_list.BadFault.TheVariants.{Line}

-- one more line is counted
pub bad_more : (before : List (List ℕ)) (line : List ℕ) (number : ℕ) → number ≡ length before → number + 1 ≡ length (before ++ line ∷ [])
bad_more before line number is = omega (arith, is, length-append before (line ∷ []))

line_at : (before : List (List ℕ)) (line : List ℕ) (rest : List (List ℕ)) → slice_get (before ++ line ∷ rest) (length before) ≡ Some line
line_at [] line rest = refl
line_at (x ∷ before) line rest = line_at before line rest

-- a line that names no block is a fault of the list
pub bad_line : (blocks : ℕ) (lines before : List (List ℕ)) (line : List ℕ) (rest : List (List ℕ)) → lines ≡ before ++ line ∷ rest → (number : ℕ) → number ≡ length before → NamesNoBlock blocks line
    → IsBadFault blocks lines (Line (number + 1))
bad_line blocks lines before line rest all number is wrong =
    (line, (length before, omega (arith, is), ap (λ (them : List (List ℕ)). slice_get them (length before)) all ∙ line_at before line rest), wrong)

-- no line is left
pub bad_end : (blocks : ℕ) (before lines : List (List ℕ)) (rest found : List ℕ) → lines ≡ before ++ lines_of rest → length rest ≡ 0 → AreBad blocks before found → AreBad blocks lines found
bad_end blocks before lines [] found all nothing bad = subst (λ (them : List (List ℕ)). AreBad blocks them found) (sym (all ∙ append-nil before)) bad
bad_end blocks before lines (x ∷ rest) found all nothing bad = absurd (omega (arith, nothing))

-- no line was read
pub bad_start : (blocks : ℕ) (list found : List ℕ) → found ≡ [] → (before : List (List ℕ)) × (lines_of list ≡ before ++ lines_of list) × (0 ≡ length before) × AreBad blocks before found
bad_start blocks list found is = ([], refl, refl, subst (AreBad blocks []) (sym is) none)

pub none_inside : (blocks : ℕ) (found : List ℕ) → found ≡ [] → All (λ (block : ℕ). block < blocks) found
none_inside blocks found is = subst (All (λ (block : ℕ). block < blocks)) (sym is) (λ k d l. absurd (omega (arith, l)))

-- a line with a block adds it
pub adds_block : (blocks : ℕ) (line text word : List ℕ) (found : Option ℕ) (block : ℕ) (old new : List ℕ) → Says line text → word ≡ text → found ≡ Some block
    → MatchOption found (NamesNone word ⊎ ((one : BlockWord) × IsNamed word one × (named blocks one ≡ None))) (λ (b : ℕ). (one : BlockWord) × IsNamed word one × (named blocks one ≡ Some b))
    → new ≡ old ++ block ∷ [] → Adds blocks line old new
adds_block blocks line text word None block old new says same is names pushed = absurd (cc is)
adds_block blocks line text word (Some b) block old new says same is (one, is_named, some) pushed =
    inr (block, (text, says, (one, subst (λ (t : List ℕ). IsNamed t one) same is_named, some ∙ is)), pushed)
