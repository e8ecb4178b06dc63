-- The blocks and bytes of a file, as its size and pointers name them, and positions among its pointer blocks.
use Rattle.ados_data.proofs.Common.{◌≡◌, ℕ, zero, suc, ◌+◌, ◌/◌, ◌<◌, ◌≤◌, List, ◌∷◌, length, slice_index, refl, sym, ap, ◌∙◌, arith, take, length-map-range_with_len, get_or-map-range_with_len, file_size, format_of, data_size, data_count, extension_count, LawfulFile, ReadableFile, pointer_block, data_block, data_blocks, extension_blocks, contents, file_byte, length-take, Format}
use Rattle.ados_data.proofs.Sizes.{in_count}
use Rattle.ados_data.specs.declared.place.Place.{Place}
use Rattle.ados_data.specs.Place.{IsAmong, IsPlace}
use Rattle.ados_data.proofs.Lists.{head_taken}

module _ (image : List ℕ) (file : ℕ) where
  pub size_is : file_size image file ≡ length (contents image file)
  unfolding contents
  size_is = sym (length-map-range_with_len (file_byte (format_of image) image (data_blocks image file)) 0 (file_size image file))

  pub byte_is : (k : ℕ) → k < length (contents image file) → slice_index (contents image file) k ≡ file_byte (format_of image) image (data_blocks image file) k
  unfolding contents
  byte_is k l =
      get_or-map-range_with_len (file_byte (format_of image) image (data_blocks image file)) 0 (file_size image file) k k 0 (omega (arith, l, size_is)) (omega arith)

  data_listed : length (data_blocks image file) ≡ data_count (format_of image) (file_size image file)
  unfolding data_blocks
  data_listed = length-map-range_with_len (data_block image file) 0 (data_count (format_of image) (file_size image file))

  pub data_counted : length (data_blocks image file) ≡ data_count (format_of image) (length (contents image file))
  data_counted = data_listed ∙ ap (data_count (format_of image)) size_is

  pub extensions_counted : length (extension_blocks image file) ≡ extension_count (length (data_blocks image file))
  unfolding extension_blocks
  extensions_counted =
      length-map-range_with_len (λ q. pointer_block image file (q + 1)) 0 (extension_count (data_count (format_of image) (file_size image file)))
      ∙ ap extension_count (sym data_listed)

  pub data_is : (i : ℕ) → i < length (data_blocks image file) → data_block image file i ≡ slice_index (data_blocks image file) i
  unfolding data_blocks
  data_is i l =
      sym (get_or-map-range_with_len (data_block image file) 0 (data_count (format_of image) (file_size image file)) i i 0 (omega (arith, l, data_listed)) (omega arith))

  extension_is : (q : ℕ) → q < length (extension_blocks image file) → pointer_block image file (q + 1) ≡ slice_index (extension_blocks image file) q
  unfolding extension_blocks
  extension_is q l =
      let count = length-map-range_with_len (λ q. pointer_block image file (q + 1)) 0 (extension_count (data_count (format_of image) (file_size image file))) in
      sym (get_or-map-range_with_len (λ q. pointer_block image file (q + 1)) 0 (extension_count (data_count (format_of image) (file_size image file))) q q 0 (omega (arith, l, count)) (omega arith))

  pub header_is : (q : ℕ) → q ≤ length (extension_blocks image file) → pointer_block image file q ≡ slice_index (file ∷ extension_blocks image file) q
  header_is zero l = refl
  header_is (suc q) l = let next : suc q ≡ q + 1 = omega arith in ap (pointer_block image file) next ∙ extension_is q (omega arith)

  -- the data block of a byte, and its pointer block
  pub byte_within : (k : ℕ) → k < length (contents image file) → k / data_size (format_of image) < length (data_blocks image file)
  byte_within k l = omega (arith, in_count (format_of image) k (length (contents image file)) l, data_counted)

  pub holder_of : (i : ℕ) → i < length (data_blocks image file) → i / 72 ≤ length (extension_blocks image file)
  holder_of i l = omega (arith, extensions_counted)

  -- a lawful file can be read
  pub readable : LawfulFile image file → ReadableFile image file
  readable s = record {
    headers_inside = λ q l. omega (arith, header_is q l, s.places.headers_inside q l);
    data_inside = λ i l. omega (arith, data_is i l, s.places.data_inside i l);
  }

-- the pointer block of a place
pub placed : (image : List ℕ) (file : ℕ) (place : Place) → IsPlace image file place → place.block ≡ pointer_block image file place.index
placed image file place p = p.block_is ∙ sym (header_is image file place.index p.within)

-- the last pointer block
pub last_place : (image : List ℕ) (file : ℕ) (format : Format) (size count last : ℕ) → format ≡ format_of image → size ≡ file_size image file → count ≡ data_count format size → last ≡ extension_count count
    → last ≡ length (extension_blocks image file)
last_place image file format size count last f held counted is =
    let fits : count ≡ length (data_blocks image file) =
    counted ∙ ap (data_count format) (held ∙ size_is image file) ∙ ap (λ (x : Format). data_count x (length (contents image file))) f ∙ sym (data_counted image file) in
    is ∙ ap extension_count fits ∙ sym (extensions_counted image file)

-- a place stays valid if the list only grows at its end
pub among_more : {file : ℕ} {old new : List ℕ} {place : Place} → take (length old) new ≡ old → IsAmong file old place → IsAmong file new place
among_more {file} {old} {new} {place} e p = record {
  within = omega (arith, p.within, ap length e, length-take (length old) new);
  block_is = p.block_is ∙ ap (λ (xs : List ℕ). slice_index (file ∷ xs) place.index) (sym e) ∙ head_taken file new (length old) place.index p.within;
}
