-- The bit of a block in the bitmap, and the marks of entries.
use Rattle.std.proofs.Common.{◌≡◌, ℕ, ◌+◌, ◌-◌, ◌*◌, ◌/◌, ◌%◌, ◌^◌, ◌<◌, Bool, not, eqb, bit_and, List, [], ◌∷◌, ◌++◌, length, get_or, take, refl, sym, ap, ◌∙◌, subst, arith, MatchBool}
use Rattle.std.specs.List.{AllZip}
use Rattle.std.proofs.lemmas.List.{take_more}
use Rattle.std.proofs.lemmas.Nat.{pow_below}
use Rattle.std.proofs.lemmas.Slice.Zip.{all_zipped_more}
use Rattle.adf_block.specs.Image.{has_free_bit, long}
use Rattle.ados_salvage.specs.declared.salvaged.Salvaged.{Salvaged}
use Rattle.ados_salvage.specs.Salvaged.{Saved}
use Rattle.adf_rescue.specs.Untrusted.{WouldBeDeleted, page_for}

-- whether a block is marked free depends on one bit of one long
pub free_is : (image : List ℕ) (block : ℕ) → has_free_bit image block ≡ not (eqb (bit_and (long image (page_for image block) (1 + (block - 2) % 4064 / 32)) (2 ^ ((block - 2) % 32))) 0)
unfolding has_free_bit
free_is image block = refl

-- 1 shifted by fewer than 32 bits
pub shifted : (i : ℕ) → i < 32 → 1 * 2 ^ i % 4294967296 ≡ 2 ^ i
shifted i lt = omega (arith, pow_below i 32 lt)

abbrev pub IsMark : Saved → Salvaged → Bool → Type 0
IsMark saved entry mark = MatchBool mark (WouldBeDeleted saved entry) (¬ WouldBeDeleted saved entry)

-- the mark of one more entry
pub marks_more : (saved : Saved) (entries : List Salvaged) (i : ℕ) (marks : List Bool) (entry : Salvaged) (mark : Bool) → i < length entries → entry ≡ get_or entries i entry → AllZip (IsMark saved) (take i entries) marks
    → IsMark saved entry mark → AllZip (IsMark saved) (take (i + 1) entries) (marks ++ mark ∷ [])
marks_more saved entries i marks entry mark inside is so_far here =
    subst (λ (es : List Salvaged). AllZip (IsMark saved) es (marks ++ mark ∷ [])) (sym (take_more entries i entry inside ∙ ap (λ (e : Salvaged). take i entries ++ e ∷ []) (sym is)))
    (all_zipped_more (IsMark saved) (take i entries) marks entry mark so_far here)
