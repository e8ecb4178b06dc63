-- The bytes outside all fields that a cut leaves untouched.
use Rattle.ados_data.proofs.Common.{◌≡◌, ◌≢◌, ℕ, suc, ◌-◌, ◌/◌, ◌<◌, ◌≤◌, ◌⊎◌, inl, inr, List, ◌∷◌, length, take, slice_index, sym, ap, ◌∙◌, arith, length-take-le, byte_at, long, block_count, pointer_count, file_size, format_of, POINTER_COUNT, FILE_SIZE, NEXT_EXTENSION, NEXT_DATA, Format, Ofs, pages_of, page_block, extension_count, AtFields, AreApart, IsCutField, AtEnd, IsPointerField, IsHeaderField, data_end, KeepsUnnamed, get_or-take}
use Rattle.ados_data.proofs.Lists.{head_taken}

-- the bytes that a cut to d data blocks writes outside the bitmap: in the last remaining data and pointer blocks, and
-- in the header
abbrev pub AtEnds : Format → ℕ → List ℕ → List ℕ → ℕ → ℕ → ℕ → Type 0
AtEnds format file blocks extensions d c k = AtEnd format d (slice_index blocks (d - 1)) c k ⊎ (AtFields (slice_index (file ∷ extensions) (extension_count d)) POINTER_COUNT NEXT_EXTENSION c k ⊎ AtFields file NEXT_DATA FILE_SIZE c k)

-- in OFS the data follow the fields
pub behind_fields : (format : Format) (size i k : ℕ) → format ≡ Ofs → data_end format size i ≤ k → 24 ≤ k
behind_fields format size i k e l = grind arith

-- a cut writes only these longs of the header
pub header_uncut : (file : ℕ) (blocks extensions : List ℕ) (d : ℕ) (old : List ℕ) → AreApart (block_count old) file blocks extensions → 0 < length blocks → d ≤ length blocks → (k : ℕ) → ¬ IsCutField (k / 4)
    → ¬ AtEnds (format_of old) file blocks extensions d file k
header_uncut file blocks extensions d old a some few k n (inl at) = a.apart 0 (d - 1) (omega arith) (omega (arith, at.1, few)) at.2.0
header_uncut file blocks extensions d old a some few k n (inr (inl (at, z))) = n (grind arith)
header_uncut file blocks extensions d old a some few k n (inr (inr (at, z))) = n (grind arith)

module _ (file : ℕ) (blocks extensions : List ℕ) (d : ℕ) (old new : List ℕ) (a : AreApart (block_count old) file blocks extensions) (some : 0 < length blocks) (few : d ≤ length blocks) (fewer : extension_count d ≤ length extensions)
    (untouched : (c k : ℕ) → k < 512 → ((p : ℕ) → p < pages_of old → c ≢ page_block old p) → ¬ AtEnds (format_of old) file blocks extensions d c k → byte_at new c k ≡ byte_at old c k)
    (beside_pages : (q p : ℕ) → q ≤ length extensions → p < pages_of old → slice_index (file ∷ extensions) q ≢ page_block old p) (data_beside_pages : (i p : ℕ) → i < length blocks → p < pages_of old → slice_index blocks i ≢ page_block old p)
    (no_first : d ≡ 0 → long new file 4 ≡ 0) (first : 0 < d → long new file 4 ≡ long old file 4) where
  dl : length (take d blocks) ≡ d
  dl = length-take-le d blocks few

  el : length (take (extension_count d) extensions) ≡ extension_count d
  el = length-take-le (extension_count d) extensions fewer

  -- a block that is no longer the file's
  no_end : (c k : ℕ) → ((q : ℕ) → q ≤ length (take (extension_count d) extensions) → c ≢ slice_index (file ∷ take (extension_count d) extensions) q) → ((i : ℕ) → i < length (take d blocks) → c ≢ slice_index (take d blocks) i) → ¬ AtEnds (format_of old) file blocks extensions d c k
  no_end c k h b (inl at) = b (d - 1) (omega (arith, dl, at.1)) (at.2.0 ∙ sym (get_or-take d blocks (d - 1) 0 (omega (arith, at.1))))
  no_end c k h b (inr (inl at)) = h (extension_count d) (omega (arith, el)) (at.0 ∙ sym (head_taken file extensions (extension_count d) (extension_count d) (omega arith)))
  no_end c k h b (inr (inr at)) = h 0 (omega arith) at.0

  header_end : (k n : ℕ) → ¬ IsHeaderField n (k / 4) → ¬ AtEnds (format_of old) file blocks extensions d file k
  header_end k n o (inl at) = a.apart 0 (d - 1) (omega arith) (omega (arith, at.1, few)) at.2.0
  header_end k n o (inr (inl (at, z))) = o (grind arith)
  header_end k n o (inr (inr (at, z))) = o (grind arith)

  extension_end : (q k n : ℕ) → q < length extensions → ¬ IsPointerField n (k / 4) → ¬ AtEnds (format_of old) file blocks extensions d (slice_index extensions q) k
  extension_end q k n l o (inl at) = a.apart (suc q) (d - 1) (omega arith) (omega (arith, at.1, few)) at.2.0
  extension_end q k n l o (inr (inl (at, z))) = o (grind arith)
  extension_end q k n l o (inr (inr at)) = a.headers_once 0 (suc q) (omega arith) (omega arith) (sym at.0)

  data_end_of : (i k size : ℕ) → i < d → data_end (format_of old) size i ≤ k → ¬ AtEnds (format_of old) file blocks extensions d (slice_index blocks i) k
  data_end_of i k size l m (inl (f, r, (at, z))) = let far = behind_fields (format_of old) size i k f m in omega (arith, z, far)
  data_end_of i k size l m (inr (inl at)) = a.apart (extension_count d) i fewer (omega arith) (sym at.0)
  data_end_of i k size l m (inr (inr at)) = a.apart 0 i (omega arith) (omega arith) (sym at.0)

  pub keeps_cut : KeepsUnnamed old file blocks extensions new (take d blocks) (take (extension_count d) extensions)
  keeps_cut = record {
    others = λ c k l o. untouched c k l o.beside_pages (no_end c k o.beside_headers o.beside_data);
    header = λ k l o. untouched file k l (λ p m. beside_pages 0 p (omega arith) m) (header_end k (pointer_count new file) o);
    extension = λ q k l m r o. kept_extension q k (omega (arith, m, el)) r o;
    slack = λ i k l m r o. kept_data i k (omega (arith, m, dl)) r o;
    new_extension = λ q k l m r o. absurd (omega (arith, l, m, el, fewer));
    new_data = λ i k l m r o. absurd (omega (arith, l, m, dl, few));
    first_taken = λ z l. absurd (omega (arith, z, some));
    first_given = λ l z. no_first (omega (arith, z, dl));
    first_kept = λ s. elim s [ inl z ↦ absurd (omega (arith, z.0, some)) | inr l ↦ first (omega (arith, l.1, dl)) ];
  }
    where
      kept_extension : (q k : ℕ) → q < extension_count d → k < 512 → ¬ IsPointerField (pointer_count new (slice_index (take (extension_count d) extensions) q)) (k / 4) → byte_at new (slice_index (take (extension_count d) extensions) q) k ≡ byte_at old (slice_index (take (extension_count d) extensions) q) k
      kept_extension q k l r o =
          let here : slice_index (take (extension_count d) extensions) q ≡ slice_index extensions q = get_or-take (extension_count d) extensions q 0 l in
          ap (λ (c : ℕ). byte_at new c k) here
          ∙ untouched (slice_index extensions q) k r (λ p m. beside_pages (suc q) p (omega (arith, l, fewer)) m) (extension_end q k (pointer_count new (slice_index (take (extension_count d) extensions) q)) (omega (arith, l, fewer)) o)
          ∙ ap (λ (c : ℕ). byte_at old c k) (sym here)

      kept_data : (i k : ℕ) → i < d → k < 512 → data_end (format_of old) (file_size new file) i ≤ k → byte_at new (slice_index (take d blocks) i) k ≡ byte_at old (slice_index (take d blocks) i) k
      kept_data i k l r o =
          let here : slice_index (take d blocks) i ≡ slice_index blocks i = get_or-take d blocks i 0 l in
          ap (λ (c : ℕ). byte_at new c k) here
          ∙ untouched (slice_index blocks i) k r (λ p m. data_beside_pages i p (omega (arith, l, few)) m) (data_end_of i k (file_size new file) l o)
          ∙ ap (λ (c : ℕ). byte_at old c k) (sym here)
