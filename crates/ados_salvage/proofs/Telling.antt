-- What is told of blocks, one after the other.
use Rattle.std.proofs.Common.{◌≡◌, ℕ, zero, suc, ◌+◌, ◌<◌, ◌≤◌, inl, inr, Bool, false, true, List, [], ◌∷◌, ◌++◌, length, map, get_or, All, sym, ap, ◌∙◌, append_assoc, arith}
use Rattle.std.specs.List.{range_with_len}
use Rattle.std.proofs.lemmas.List.FromFn.{map-range_with_len_more}
use Rattle.ados_salvage.proofs.InOrder.{ListsBelow}
use Rattle.ados_salvage.specs.Salvaged.{Saved}
use Rattle.ados_salvage.proofs.AccountCommon.{block_count, InImage, IsExtensionOf, Adds, HasNoMarks, IsMarked, IsOfDamaged, OfOne}
use Rattle.ados_salvage.specs.Account.HasExtensionBlock.{first, further}
use Rattle.ados_salvage.specs.Parts.{AreExtensions, ListsAll}
use Rattle.ados_salvage.specs.declared.account.part.Told.{Told}

-- one more of a range is told
pub told_more : (f : ℕ → Told) (before now new : List Told) (i : ℕ) (x : Told) → now ≡ before ++ map f (range_with_len 0 i) → new ≡ now ++ x ∷ [] → x ≡ f i → new ≡ before ++ map f (range_with_len 0 (i + 1))
told_more f before now new i x is grown at =
    grown ∙ ap (λ (l : List Told). l ++ x ∷ []) is ∙ append_assoc before (map f (range_with_len 0 i)) (x ∷ []) ∙ ap (λ (y : Told). before ++ (map f (range_with_len 0 i) ++ y ∷ [])) at
    ∙ ap (λ (l : List Told). before ++ l) (sym (map-range_with_len_more f 0 i i (omega arith)))

-- a marked block has a mark
marked_inside : (marks : List Bool) (block : ℕ) → IsMarked marks block → block < length marks
marked_inside [] block is = let both : false ≡ true = is in absurd (cc both)
marked_inside (mark ∷ marks) zero is = omega arith
marked_inside (mark ∷ marks) (suc block) is = let less = marked_inside marks block is in omega (arith, less)

-- all marked blocks, up to the last
pub lists_all : (marks : List Bool) (n : ℕ) (blocks : List ℕ) → length marks ≤ n → ListsBelow (IsMarked marks) n blocks → ListsAll (IsMarked marks) blocks
lists_all marks n blocks all h = record {
  in_order = h.in_order;
  each = h.each;
  all = λ block is. h.all block (omega (arith, marked_inside marks block is, all)) is;
}

-- an extension block is inside the image
extension_inside : (image : List ℕ) (file block : ℕ) → IsExtensionOf image file block → InImage image block
extension_inside image file block (inl (first inside next)) = next.inside
extension_inside image file block (inl (further before next)) = next.inside
extension_inside image file block (inr loose) = loose.inside

-- the marked blocks are exactly the extension blocks of the files that are not whole
pub are_extensions : (saved : Saved) (none marks : List Bool) (blocks : List ℕ) → HasNoMarks saved.image none → Adds (OfOne (IsOfDamaged saved.image) saved.entries) none marks
    → ListsAll (IsMarked marks) blocks → AreExtensions saved blocks
are_extensions saved none marks blocks start added h = record {
  in_order = h.in_order;
  each = λ k d l. elim (added.only (get_or blocks k d) (h.each k d l)) [
    | inl before ↦ absurd (start.none (get_or blocks k d) before)
    | inr is ↦ is
  ];
  all = λ block is. h.all block (added.added block (omega (arith, (extension_inside saved.image is.one.header block is.has.1).1, start.size)) is);
}

-- they are inside the image
pub extensions_inside : (saved : Saved) (blocks : List ℕ) → AreExtensions saved blocks → All (λ block. block < block_count saved.image) blocks
extensions_inside saved blocks h k d l = let is = h.each k d l in (extension_inside saved.image is.one.header (get_or blocks k d) is.has.1).1
