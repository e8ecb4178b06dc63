-- The lists in a file's blocks are the lists that the file has.
use Rattle.ados_data.proofs.Common.{◌≡◌, ℕ, zero, suc, ◌+◌, ◌/◌, ◌%◌, ◌<◌, ◌≤◌, List, ◌∷◌, length, map, slice_index, refl, sym, ap, ◌∙◌, subst, arith, ext_get_or, length-map-range_with_len, get_or-map-range_with_len, long, pointer, file_size, format_of, NEXT_EXTENSION, data_count, extension_count, HasFile, file_byte, IsLawful, LawfulFile, pointer_block, data_block, data_blocks, extension_blocks, contents}
use Rattle.std.specs.List.{range_with_len}
use Rattle.ados_data.proofs.Chains.{next_of}

-- a list by its elements, as a function of their positions
pub listed_is : (f : ℕ → ℕ) (n : ℕ) (xs : List ℕ) → n ≡ length xs → ((i : ℕ) → i < length xs → f i ≡ slice_index xs i) → map f (range_with_len 0 n) ≡ xs
listed_is f n xs e h =
    ext_get_or 0 (map f (range_with_len 0 n)) xs (length-map-range_with_len f 0 n ∙ e)
    (λ i l.
    let m : i < n = omega (arith, l, length-map-range_with_len f 0 n) in
    get_or-map-range_with_len f 0 n i i 0 m (omega arith) ∙ h i (omega (arith, m, e)))

module _ (image : List ℕ) (file : ℕ) (blocks extensions bytes : List ℕ) where
  -- each pointer block is followed by the next one, or by 0
  pub link_of : HasFile image (format_of image) file blocks extensions bytes → (q : ℕ) → q ≤ length extensions → long image (slice_index (file ∷ extensions) q) NEXT_EXTENSION ≡ slice_index extensions q
  link_of h q l = next_of image NEXT_EXTENSION file (file ∷ extensions) (refl, h.chain) q (omega arith)

  pub pointer_block_is : HasFile image (format_of image) file blocks extensions bytes → (q : ℕ) → q ≤ length extensions → pointer_block image file q ≡ slice_index (file ∷ extensions) q
  pointer_block_is h zero l = refl
  pointer_block_is h (suc q) l = ap (λ (b : ℕ). long image b NEXT_EXTENSION) (pointer_block_is h q (omega arith)) ∙ link_of h q (omega arith)

  -- the pointer of each data block is in one of the pointer blocks
  pub holder_within : IsLawful image file blocks extensions bytes → (i : ℕ) → i < length blocks → i / 72 ≤ length extensions
  holder_within s i l = omega (arith, s.extensions_fit)

  pub data_block_is : IsLawful image file blocks extensions bytes → (i : ℕ) → i < length blocks → data_block image file i ≡ slice_index blocks i
  data_block_is s i l = ap (λ (b : ℕ). pointer image b (i % 72)) (pointer_block_is s.holds (i / 72) (holder_within s i l)) ∙ s.holds.pointers i l

  count_is : IsLawful image file blocks extensions bytes → data_count (format_of image) (file_size image file) ≡ length blocks
  count_is s = ap (data_count (format_of image)) s.holds.size ∙ sym s.data_fits

  pub data_blocks_are : IsLawful image file blocks extensions bytes → data_blocks image file ≡ blocks
  unfolding data_blocks
  data_blocks_are s = listed_is (data_block image file) (data_count (format_of image) (file_size image file)) blocks (count_is s) (data_block_is s)

  pub extension_blocks_are : IsLawful image file blocks extensions bytes → extension_blocks image file ≡ extensions
  unfolding extension_blocks
  extension_blocks_are s =
      listed_is (λ q. pointer_block image file (q + 1)) (extension_count (data_count (format_of image) (file_size image file))) extensions
      (ap extension_count (count_is s) ∙ sym s.extensions_fit)
      (λ q l. let next : q + 1 ≡ suc q = omega arith in ap (pointer_block image file) next ∙ pointer_block_is s.holds (suc q) (omega arith))

  pub contents_are : IsLawful image file blocks extensions bytes → contents image file ≡ bytes
  unfolding contents
  contents_are s =
      listed_is (file_byte (format_of image) image (data_blocks image file)) (file_size image file) bytes s.holds.size
      (λ k l. ap (λ (xs : List ℕ). file_byte (format_of image) image xs k) (data_blocks_are s) ∙ sym (s.holds.contents k l))

  pub lawful_file : IsLawful image file blocks extensions bytes → LawfulFile image file
  lawful_file s =
      subst (λ (xs : List ℕ). IsLawful image file xs (extension_blocks image file) (contents image file)) (sym (data_blocks_are s))
      (subst (λ (xs : List ℕ). IsLawful image file blocks xs (contents image file)) (sym (extension_blocks_are s))
      (subst (λ (xs : List ℕ). IsLawful image file blocks extensions xs) (sym (contents_are s)) s))
