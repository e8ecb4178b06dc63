-- The blocks that a file names, data block by data block.
use Rattle.std.proofs.Common.{◌≡◌, ℕ, zero, suc, ◌+◌, ◌-◌, ◌*◌, ◌/◌, ◌%◌, ◌<◌, ◌≤◌, ◌⊎◌, inl, inr, Bool, List, ◌∷◌, length, Contains, sym, ap, ◌∙◌, subst, arith}
use Rattle.ados_salvage.proofs.AccountCommon.{cases_eq, get_or_default, Contains-append_cases, Contains-append_left, Contains-append_right, block_count, long, file_size, format_of, NEXT_EXTENSION, ReadableFile, data_block, data_blocks, extension_blocks, pointer_block, data_count, Names, Adds}
use Rattle.ados_data.proofs.Places.{data_counted, data_is, extensions_counted, header_is, holder_of, size_is}
use Rattle.ados_salvage.proofs.Marking.{adds_as, adds_both}

-- one of the first data blocks of a file, or the block with the pointer to it
pub record IsOfData (image : List ℕ) (file n block : ℕ) : Type 0 where
  pub k : ℕ
  pub below : k < n
  pub is : (block ≡ pointer_block image file (k / 72)) ⊎ (block ≡ data_block image file k)

-- the header, or one of these
abbrev pub IsOfFile : List ℕ → ℕ → ℕ → ℕ → Type 0
IsOfFile image file n block = (block ≡ file) ⊎ IsOfData image file n block

module _ (image : List ℕ) (file : ℕ) where
  pub needed_is : data_count (format_of image) (file_size image file) ≡ length (data_blocks image file)
  needed_is = ap (data_count (format_of image)) (size_is image file) ∙ sym (data_counted image file)

  of_holder : (b : ℕ) → Contains (file ∷ extension_blocks image file) b → IsOfFile image file (length (data_blocks image file)) b
  of_holder b (zero, l, e) = inl (sym e)
  of_holder b (suc q, l, e) =
      let few : suc q ≤ length (extension_blocks image file) = omega (arith, l) in
      let first : 72 * suc q / 72 ≡ suc q = omega arith in
      let is : b ≡ pointer_block image file (suc q) = sym e ∙ get_or_default (file ∷ extension_blocks image file) (suc q) b 0 l ∙ sym (header_is image file (suc q) few) in
      inr (record {
        k = 72 * suc q;
        below = omega (arith, few, extensions_counted image file);
        is = inl (is ∙ ap (pointer_block image file) (sym first));
      })

  of_data : (b : ℕ) → Contains (data_blocks image file) b → IsOfFile image file (length (data_blocks image file)) b
  of_data b (k, l, e) = inr (record { k = k; below = l; is = inr (sym e ∙ get_or_default (data_blocks image file) k b 0 l ∙ sym (data_is image file k l)) })

  pub named_of : (b : ℕ) → Names image file b → IsOfFile image file (length (data_blocks image file)) b
  named_of b names = elim (Contains-append_cases (file ∷ extension_blocks image file) (data_blocks image file) b names) [
    | inl holder ↦ of_holder b holder
    | inr block ↦ of_data b block
  ]

  pub of_named : (b : ℕ) → IsOfFile image file (length (data_blocks image file)) b → Names image file b
  of_named b (inl e) = Contains-append_left (file ∷ extension_blocks image file) (data_blocks image file) b (0, omega arith, sym e)
  of_named b (inr d) = elim d.is [
    | inl e ↦
        (let few = holder_of image file d.k d.below in
        let there : d.k / 72 < length (file ∷ extension_blocks image file) = omega (arith, few) in
        Contains-append_left (file ∷ extension_blocks image file) (data_blocks image file) b
        (d.k / 72, there, get_or_default (file ∷ extension_blocks image file) (d.k / 72) b 0 there ∙ sym (e ∙ header_is image file (d.k / 72) few)))
    | inr e ↦ Contains-append_right (file ∷ extension_blocks image file) (data_blocks image file) b
        (d.k, d.below, get_or_default (data_blocks image file) d.k b 0 d.below ∙ sym (e ∙ data_is image file d.k d.below))
  ]

  of_more : (i b : ℕ) → (IsOfFile image file i b ⊎ (b ≡ pointer_block image file (i / 72))) ⊎ (b ≡ data_block image file i) → IsOfFile image file (i + 1) b
  of_more i b (inl (inl (inl e))) = inl e
  of_more i b (inl (inl (inr d))) = inr (record { k = d.k; below = omega (arith, d.below); is = d.is })
  of_more i b (inl (inr e)) = inr (record { k = i; below = omega arith; is = inl e })
  of_more i b (inr e) = inr (record { k = i; below = omega arith; is = inr e })

  of_fewer : (i b : ℕ) → IsOfFile image file (i + 1) b → (IsOfFile image file i b ⊎ (b ≡ pointer_block image file (i / 72))) ⊎ (b ≡ data_block image file i)
  of_fewer i b (inl e) = inl (inl (inl e))
  of_fewer i b (inr d) = elim (cases_eq d.k i) [
    | inl same ↦ elim d.is [
      | inl e ↦ inl (inr (e ∙ ap (λ (k : ℕ). pointer_block image file (k / 72)) same))
      | inr e ↦ inr (e ∙ ap (data_block image file) same)
    ]
    | inr other ↦ inl (inl (inr (record { k = d.k; below = omega (arith, d.below, other); is = d.is })))
  ]

  -- one more data block is marked, and the block with its pointer
  pub file_more : (i : ℕ) (old mid between new : List Bool) (holder block : ℕ) → holder ≡ pointer_block image file (i / 72) → block ≡ data_block image file i
      → Adds (IsOfFile image file i) old mid → Adds (λ b. b ≡ holder) mid between → Adds (λ b. b ≡ block) between new → Adds (IsOfFile image file (i + 1)) old new
  file_more i old mid between new holder block h d a p q =
      adds_as (λ b. (IsOfFile image file i b ⊎ (b ≡ pointer_block image file (i / 72))) ⊎ (b ≡ data_block image file i)) (IsOfFile image file (i + 1)) old new (of_more i) (of_fewer i)
      (adds_both (λ b. IsOfFile image file i b ⊎ (b ≡ pointer_block image file (i / 72))) (λ b. b ≡ data_block image file i) old between new
      (adds_both (IsOfFile image file i) (λ b. b ≡ pointer_block image file (i / 72)) old mid between a (subst (λ (n : ℕ). Adds (λ b. b ≡ n) mid between) h p))
      (subst (λ (n : ℕ). Adds (λ b. b ≡ n) between new) d q))

  -- at last all blocks are
  pub file_all : (n : ℕ) (old new : List Bool) → n ≡ length (data_blocks image file) → Adds (IsOfFile image file n) old new → Adds (Names image file) old new
  file_all n old new e a =
      adds_as (IsOfFile image file (length (data_blocks image file))) (Names image file) old new of_named named_of (subst (λ (m : ℕ). Adds (IsOfFile image file m) old new) e a)

  -- a block with pointers is inside the image
  module _ (read : ReadableFile image file) (i : ℕ) (within : i < length (data_blocks image file)) where
    pub holder_inside : (holder : ℕ) → holder ≡ pointer_block image file (i / 72) → holder < block_count image
    holder_inside holder is = omega (arith, is, read.headers_inside (i / 72) (holder_of image file i within))

    pub before_inside : (before : ℕ) → before ≡ pointer_block image file ((i - 1) / 72) → before < block_count image
    before_inside before is = omega (arith, is, read.headers_inside ((i - 1) / 72) (holder_of image file (i - 1) (omega (arith, within))))

  pub holder_next : (i before next : ℕ) → 0 < i → i % 72 ≡ 0 → before ≡ pointer_block image file ((i - 1) / 72) → next ≡ long image before NEXT_EXTENSION → next ≡ pointer_block image file (i / 72)
  holder_next i before next some full is named =
      let on : suc ((i - 1) / 72) ≡ i / 72 = omega (arith, some, full) in
      named ∙ ap (λ (b : ℕ). long image b NEXT_EXTENSION) is ∙ ap (pointer_block image file) on
