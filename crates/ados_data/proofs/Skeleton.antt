-- A file without its bytes, block by block, through the steps of a change.
use Rattle.ados_data.proofs.Common.{◌≡◌, ℕ, zero, suc, ◌+◌, ◌-◌, ◌*◌, ◌/◌, ◌%◌, ◌<◌, ◌≤◌, min, List, ◌∷◌, length, slice_index, refl, sym, ap, ap₂, ◌∙◌, arith, ◌≢◌, inl, inr, [], ◌++◌, take, subst, FIRST_POINTER, FILE_SIZE, NEXT_EXTENSION, SECONDARY_TYPE, PARENT, Format, Ofs, long, block_sum, HasExtension, HasOfsData, HasFile, file_byte, chain_head, cases_lt, cases_eq, length_push, length-take-le, get_or_append_left, get_or_push, get_or-take}
use Rattle.ados_data.proofs.Chains.{next_of, chained}
use Rattle.ados_data.proofs.Untouched.{Untouched, untouched_long, untouched_sum, extension_kept}
use Rattle.ados_data.proofs.Lists.{pushed_past, head_pushed_before, taken_past, head_taken}

-- pointer block q: its link, its pointers and their number, and in an extension block its other fields
pub record IsHolder (image : List ℕ) (file : ℕ) (blocks extensions : List ℕ) (q : ℕ) : Type 0 where
  pub next : long image (slice_index (file ∷ extensions) q) NEXT_EXTENSION ≡ slice_index extensions q
  pub count : long image (slice_index (file ∷ extensions) q) 2 ≡ min 72 (length blocks - 72 * q)
  pub pointers : (p : ℕ) → p < 72 → 72 * q + p < length blocks → long image (slice_index (file ∷ extensions) q) (FIRST_POINTER - p) ≡ slice_index blocks (72 * q + p)
  pub extension : 0 < q → HasExtension image file (slice_index (file ∷ extensions) q)

-- data block i of an OFS file: its link and its fields
pub record IsData (image : List ℕ) (file : ℕ) (blocks : List ℕ) (size i : ℕ) : Type 0 where
  pub next : long image (slice_index blocks i) 4 ≡ slice_index blocks (suc i)
  pub fields : HasOfsData image file size i (slice_index blocks i)

-- a file of this size, without the bytes in its data blocks
pub record Skeleton (image : List ℕ) (format : Format) (file : ℕ) (blocks extensions : List ℕ) (size : ℕ) : Type 0 where
  pub size_field : long image file FILE_SIZE ≡ size
  pub holders : (q : ℕ) → q ≤ length extensions → IsHolder image file blocks extensions q
  pub first : format ≡ Ofs → long image file 4 ≡ slice_index blocks 0
  pub datas : format ≡ Ofs → (i : ℕ) → i < length blocks → IsData image file blocks size i

pub skeleton_of : (image : List ℕ) (format : Format) (file : ℕ) (blocks extensions bytes : List ℕ) → HasFile image format file blocks extensions bytes → Skeleton image format file blocks extensions (length bytes)
skeleton_of image format file blocks extensions bytes h = record {
  size_field = h.size;
  holders = λ q l. record {
    next = next_of image NEXT_EXTENSION file (file ∷ extensions) (refl, h.chain) q (omega arith);
    count = h.counts q l;
    pointers = λ p m n.
        let quotient : (72 * q + p) / 72 ≡ q = omega arith in
        let remainder : (72 * q + p) % 72 ≡ p = omega arith in
        ap₂ (λ (a b : ℕ). long image (slice_index (file ∷ extensions) a) (FIRST_POINTER - b)) (sym quotient) (sym remainder) ∙ h.pointers (72 * q + p) n;
    extension = extension q l;
  };
  first = λ e. chain_head image 4 (long image file 4) blocks (h.ofs_chain e);
  datas = λ e i l. record { next = next_of image 4 (long image file 4) blocks (h.ofs_chain e) i l; fields = h.ofs_data e i l };
}
  where
    extension : (q : ℕ) → q ≤ length extensions → 0 < q → HasExtension image file (slice_index (file ∷ extensions) q)
    extension zero l m = absurd (omega arith)
    extension (suc q) l m = h.extension q (omega arith)

pub file_of : (image : List ℕ) (format : Format) (file : ℕ) (blocks extensions bytes : List ℕ) → length blocks ≤ 72 * suc (length extensions) → Skeleton image format file blocks extensions (length bytes) → ((k : ℕ) → k < length bytes → slice_index bytes k ≡ file_byte format image blocks k) → HasFile image format file blocks extensions bytes
file_of image format file blocks extensions bytes room s held = record {
  size = s.size_field;
  chain = chained image NEXT_EXTENSION (long image file NEXT_EXTENSION) extensions (s.holders 0 (omega arith)).next (λ i l. (s.holders (suc i) (omega arith)).next);
  extension = λ i l. (s.holders (suc i) (omega arith)).extension (omega arith);
  counts = λ q l. (s.holders q l).count;
  pointers = λ i l.
      let here : 72 * (i / 72) + i % 72 ≡ i = omega arith in
      (s.holders (i / 72) (omega arith)).pointers (i % 72) (omega arith) (omega arith) ∙ ap (slice_index blocks) here;
  contents = held;
  ofs_chain = λ e. chained image 4 (long image file 4) blocks (s.first e) (λ i l. (s.datas e i l).next);
  ofs_data = λ e i l. (s.datas e i l).fields;
}

-- a pointer block keeps its fields: all longs but the first data block, the checksum and the size
pub record KeepsHolder (old new : List ℕ) (h : ℕ) : Type 0 where
  pub longs : (j : ℕ) → j < 128 → j ≢ 4 → j ≢ 5 → j ≢ FILE_SIZE → long new h j ≡ long old h j
  pub sum : block_sum old h ≡ 0 → block_sum new h ≡ 0

-- a data block keeps its fields
pub record KeepsData (old new : List ℕ) (c : ℕ) : Type 0 where
  pub longs : (j : ℕ) → j < 5 → long new c j ≡ long old c j
  pub sum : block_sum old c ≡ 0 → block_sum new c ≡ 0

pub untouched_holder : (old new : List ℕ) (h : ℕ) → Untouched old new h → KeepsHolder old new h
untouched_holder old new h u = record { longs = λ j l a b d. untouched_long old new h u j l; sum = λ e. untouched_sum old new h u ∙ e }

pub untouched_data : (old new : List ℕ) (c : ℕ) → Untouched old new c → KeepsData old new c
untouched_data old new c u = record { longs = λ j l. untouched_long old new c u j (omega arith); sum = λ e. untouched_sum old new c u ∙ e }

module _ (old new : List ℕ) (format : Format) (file : ℕ) where
  -- a pointer block in other lists
  holder_kept : (blocks extensions blocks' extensions' : List ℕ) (q : ℕ) → slice_index (file ∷ extensions') q ≡ slice_index (file ∷ extensions) q → slice_index extensions' q ≡ slice_index extensions q → min 72 (length blocks' - 72 * q) ≡ min 72 (length blocks - 72 * q) →
      ((p : ℕ) → p < 72 → 72 * q + p < length blocks' → (72 * q + p < length blocks) × (slice_index blocks' (72 * q + p) ≡ slice_index blocks (72 * q + p))) →
      (0 < q → block_sum old (slice_index (file ∷ extensions) q) ≡ 0) → KeepsHolder old new (slice_index (file ∷ extensions) q) → IsHolder old file blocks extensions q → IsHolder new file blocks' extensions' q
  holder_kept blocks extensions blocks' extensions' q here following same pointed summed k h = record {
    next = ap (λ (b : ℕ). long new b NEXT_EXTENSION) here ∙ k.longs NEXT_EXTENSION (omega arith) (omega arith) (omega arith) (omega arith) ∙ h.next ∙ sym following;
    count = ap (λ (b : ℕ). long new b 2) here ∙ k.longs 2 (omega arith) (omega arith) (omega arith) (omega arith) ∙ h.count ∙ sym same;
    pointers = λ p l m. ap (λ (b : ℕ). long new b (FIRST_POINTER - p)) here ∙ k.longs (FIRST_POINTER - p) (omega arith) (omega arith) (omega arith) (omega arith) ∙ h.pointers p l (pointed p l m).0 ∙ sym (pointed p l m).1;
    extension = λ l. subst (HasExtension new file) (sym here) (extension_kept old new file (slice_index (file ∷ extensions) q)
        (k.longs 0 (omega arith) (omega arith) (omega arith) (omega arith)) (k.longs 1 (omega arith) (omega arith) (omega arith) (omega arith))
        (k.longs PARENT (omega arith) (omega arith) (omega arith) (omega arith)) (k.longs SECONDARY_TYPE (omega arith) (omega arith) (omega arith) (omega arith))
        (k.sum (summed l)) (h.extension l));
  }

  -- a data block in another list, in a file of another size
  data_kept : (blocks blocks' : List ℕ) (size size' i : ℕ) → slice_index blocks' i ≡ slice_index blocks i → slice_index blocks' (suc i) ≡ slice_index blocks (suc i) → min 488 (size' - 488 * i) ≡ min 488 (size - 488 * i) → KeepsData old new (slice_index blocks i) → IsData old file blocks size i → IsData new file blocks' size' i
  data_kept blocks blocks' size size' i here following same k d = record {
    next = ap (λ (b : ℕ). long new b 4) here ∙ k.longs 4 (omega arith) ∙ d.next ∙ sym following;
    fields = record {
      primary = ap (λ (b : ℕ). long new b 0) here ∙ k.longs 0 (omega arith) ∙ d.fields.primary;
      header = ap (λ (b : ℕ). long new b 1) here ∙ k.longs 1 (omega arith) ∙ d.fields.header;
      sequence = ap (λ (b : ℕ). long new b 2) here ∙ k.longs 2 (omega arith) ∙ d.fields.sequence;
      held = ap (λ (b : ℕ). long new b 3) here ∙ k.longs 3 (omega arith) ∙ d.fields.held ∙ sym same;
      sum = ap (block_sum new) here ∙ k.sum d.fields.sum;
    };
  }

  module _ (blocks extensions : List ℕ) (size : ℕ) (s : Skeleton old format file blocks extensions size) where
    -- the sums of extension blocks are 0
    holder_sum : (q : ℕ) → q ≤ length extensions → 0 < q → block_sum old (slice_index (file ∷ extensions) q) ≡ 0
    holder_sum q l m = ((s.holders q l).extension m).sum

    -- all fields are unchanged
    pub skeleton_kept : ((q : ℕ) → q ≤ length extensions → KeepsHolder old new (slice_index (file ∷ extensions) q)) → long new file FILE_SIZE ≡ long old file FILE_SIZE → long new file 4 ≡ long old file 4 → (format ≡ Ofs → (i : ℕ) → i < length blocks → KeepsData old new (slice_index blocks i)) → Skeleton new format file blocks extensions size
    skeleton_kept holders sized first datas = record {
      size_field = sized ∙ s.size_field;
      holders = λ q l. holder_kept blocks extensions blocks extensions q refl refl refl (λ p m n. (n, refl)) (holder_sum q l) (holders q l) (s.holders q l);
      first = λ e. first ∙ s.first e;
      datas = λ e i l. data_kept blocks blocks size size i refl refl refl (datas e i l) (s.datas e i l);
    }

    -- one more extension block, without pointers
    pub skeleton_extended : (e : ℕ) → length blocks ≡ 72 * suc (length extensions) →
        ((q : ℕ) → q < length extensions → KeepsHolder old new (slice_index (file ∷ extensions) q)) →
        ((j : ℕ) → j < 128 → j ≢ NEXT_EXTENSION → j ≢ 5 → long new (slice_index (file ∷ extensions) (length extensions)) j ≡ long old (slice_index (file ∷ extensions) (length extensions)) j) →
        long new (slice_index (file ∷ extensions) (length extensions)) NEXT_EXTENSION ≡ e → (block_sum old (slice_index (file ∷ extensions) (length extensions)) ≡ 0 → block_sum new (slice_index (file ∷ extensions) (length extensions)) ≡ 0) →
        long new file FILE_SIZE ≡ long old file FILE_SIZE → long new file 4 ≡ long old file 4 →
        (format ≡ Ofs → (i : ℕ) → i < length blocks → KeepsData old new (slice_index blocks i)) →
        HasExtension new file e → long new e 2 ≡ 0 → long new e NEXT_EXTENSION ≡ 0 → Skeleton new format file blocks (extensions ++ e ∷ []) size
    skeleton_extended e full before others link sum sized first datas fields count next = record {
      size_field = sized ∙ s.size_field;
      holders = λ q l. elim (cases_lt q (length extensions)) [
        | inl m ↦ holder_kept blocks extensions blocks (extensions ++ e ∷ []) q (head_pushed_before file extensions e q (omega arith)) (get_or_append_left extensions (e ∷ []) 0 q m) refl (λ p r t. (t, refl)) (holder_sum q (omega arith)) (before q m) (s.holders q (omega arith))
        | inr m ↦ elim (cases_lt (length extensions) q) [
          | inr r ↦ subst (IsHolder new file blocks (extensions ++ e ∷ [])) (omega arith) last_holder
          | inl r ↦ subst (IsHolder new file blocks (extensions ++ e ∷ [])) (omega (arith, length_push extensions e)) new_holder
        ]
      ];
      first = λ f. first ∙ s.first f;
      datas = λ f i l. data_kept blocks blocks size size i refl refl refl (datas f i l) (s.datas f i l);
    }
      where
        here : slice_index (file ∷ (extensions ++ e ∷ [])) (length extensions) ≡ slice_index (file ∷ extensions) (length extensions)
        here = head_pushed_before file extensions e (length extensions) (omega arith)

        there : slice_index (file ∷ (extensions ++ e ∷ [])) (suc (length extensions)) ≡ e
        there = get_or_push extensions e 0 (length extensions) refl

        old_holder : IsHolder old file blocks extensions (length extensions)
        old_holder = s.holders (length extensions) (omega arith)

        last_holder : IsHolder new file blocks (extensions ++ e ∷ []) (length extensions)
        last_holder = record {
          next = ap (λ (b : ℕ). long new b NEXT_EXTENSION) here ∙ link ∙ sym (get_or_push extensions e 0 (length extensions) refl);
          count = ap (λ (b : ℕ). long new b 2) here ∙ others 2 (omega arith) (omega arith) (omega arith) ∙ old_holder.count;
          pointers = λ p l m. ap (λ (b : ℕ). long new b (FIRST_POINTER - p)) here ∙ others (FIRST_POINTER - p) (omega arith) (omega arith) (omega arith) ∙ old_holder.pointers p l m;
          extension = λ l. subst (HasExtension new file) (sym here) (extension_kept old new file (slice_index (file ∷ extensions) (length extensions))
              (others 0 (omega arith) (omega arith) (omega arith)) (others 1 (omega arith) (omega arith) (omega arith)) (others PARENT (omega arith) (omega arith) (omega arith)) (others SECONDARY_TYPE (omega arith) (omega arith) (omega arith))
              (sum (old_holder.extension l).sum) (old_holder.extension l));
        }

        new_holder : IsHolder new file blocks (extensions ++ e ∷ []) (suc (length extensions))
        new_holder = record {
          next = ap (λ (b : ℕ). long new b NEXT_EXTENSION) there ∙ next ∙ sym (pushed_past extensions e (suc (length extensions)) (omega arith));
          count = ap (λ (b : ℕ). long new b 2) there ∙ count ∙ omega (arith, full);
          pointers = λ p l m. absurd (omega (arith, full, m));
          extension = λ l. subst (HasExtension new file) (sym there) fields;
        }

    -- one more data block, without data; its pointer is pointer p of the last pointer block
    pub skeleton_longer : (b p : ℕ) → length blocks ≡ 72 * length extensions + p → p < 72 →
        ((q : ℕ) → q < length extensions → KeepsHolder old new (slice_index (file ∷ extensions) q)) →
        ((j : ℕ) → j < 128 → j ≢ 2 → j ≢ FIRST_POINTER - p → j ≢ 4 → j ≢ 5 → long new (slice_index (file ∷ extensions) (length extensions)) j ≡ long old (slice_index (file ∷ extensions) (length extensions)) j) →
        long new (slice_index (file ∷ extensions) (length extensions)) (FIRST_POINTER - p) ≡ b → long new (slice_index (file ∷ extensions) (length extensions)) 2 ≡ p + 1 → (block_sum old (slice_index (file ∷ extensions) (length extensions)) ≡ 0 → block_sum new (slice_index (file ∷ extensions) (length extensions)) ≡ 0) →
        long new file FILE_SIZE ≡ long old file FILE_SIZE → (length blocks ≡ 0 → long new file 4 ≡ b) → (0 < length blocks → long new file 4 ≡ long old file 4) →
        (format ≡ Ofs → (i : ℕ) → suc i < length blocks → KeepsData old new (slice_index blocks i)) →
        (format ≡ Ofs → (i : ℕ) → suc i ≡ length blocks → ((j : ℕ) → j < 4 → long new (slice_index blocks i) j ≡ long old (slice_index blocks i) j) × (long new (slice_index blocks i) 4 ≡ b) × (block_sum old (slice_index blocks i) ≡ 0 → block_sum new (slice_index blocks i) ≡ 0)) →
        (format ≡ Ofs → HasOfsData new file size (length blocks) b × (long new b 4 ≡ 0)) → Skeleton new format file (blocks ++ b ∷ []) extensions size
    skeleton_longer b p placed small before others pointer count sum size_same first_new first_kept datas last new_data = record {
      size_field = size_same ∙ s.size_field;
      holders = λ q l. elim (cases_lt q (length extensions)) [
        | inl m ↦ holder_kept blocks extensions (blocks ++ b ∷ []) extensions q refl refl (omega (arith, m, placed, length_push blocks b))
            (λ r t u. (omega (arith, m, placed, t), get_or_append_left blocks (b ∷ []) 0 (72 * q + r) (omega (arith, m, placed, t)))) (holder_sum q l) (before q m) (s.holders q l)
        | inr m ↦ subst (IsHolder new file (blocks ++ b ∷ []) extensions) (omega arith) last_holder
      ];
      first = λ e. elim (cases_lt 0 (length blocks)) [
        | inl m ↦ first_kept m ∙ s.first e ∙ sym (get_or_append_left blocks (b ∷ []) 0 0 m)
        | inr m ↦ first_new (omega arith) ∙ sym (get_or_push blocks b 0 0 (omega arith))
      ];
      datas = λ e i l. elim (cases_lt (suc i) (length blocks)) [
        | inl m ↦ data_kept blocks (blocks ++ b ∷ []) size size i (get_or_append_left blocks (b ∷ []) 0 i (omega arith)) (get_or_append_left blocks (b ∷ []) 0 (suc i) m) refl (datas e i m) (s.datas e i (omega arith))
        | inr m ↦ elim (cases_lt i (length blocks)) [
          | inl r ↦ last_data e i (omega arith)
          | inr r ↦ subst (IsData new file (blocks ++ b ∷ []) size) (omega (arith, length_push blocks b)) (fresh_data e)
        ]
      ];
    }
      where
        old_holder : IsHolder old file blocks extensions (length extensions)
        old_holder = s.holders (length extensions) (omega arith)

        last_holder : IsHolder new file (blocks ++ b ∷ []) extensions (length extensions)
        last_holder = record {
          next = others NEXT_EXTENSION (omega arith) (omega arith) (omega arith) (omega arith) (omega arith) ∙ old_holder.next;
          count = count ∙ omega (arith, placed, small, length_push blocks b);
          pointers = λ r l m. elim (cases_eq r p) [
            | inl e ↦ ap (λ (n : ℕ). long new (slice_index (file ∷ extensions) (length extensions)) (FIRST_POINTER - n)) e ∙ pointer ∙ sym (get_or_push blocks b 0 (72 * length extensions + r) (omega (arith, placed, e)))
            | inr n ↦ others (FIRST_POINTER - r) (omega arith) (omega arith) (omega (arith, n, l, small)) (omega arith) (omega arith) ∙ old_holder.pointers r l (omega (arith, n, m, placed, length_push blocks b)) ∙ sym (get_or_append_left blocks (b ∷ []) 0 (72 * length extensions + r) (omega (arith, n, m, placed, length_push blocks b)))
          ];
          extension = λ l. extension_kept old new file (slice_index (file ∷ extensions) (length extensions))
              (others 0 (omega arith) (omega arith) (omega arith) (omega arith) (omega arith)) (others 1 (omega arith) (omega arith) (omega arith) (omega arith) (omega arith))
              (others PARENT (omega arith) (omega arith) (omega arith) (omega arith) (omega arith)) (others SECONDARY_TYPE (omega arith) (omega arith) (omega arith) (omega arith) (omega arith))
              (sum (old_holder.extension l).sum) (old_holder.extension l);
        }

        last_data : format ≡ Ofs → (i : ℕ) → suc i ≡ length blocks → IsData new file (blocks ++ b ∷ []) size i
        last_data e i m =
            let here : slice_index (blocks ++ b ∷ []) i ≡ slice_index blocks i = get_or_append_left blocks (b ∷ []) 0 i (omega arith) in
            let d = s.datas e i (omega arith) in
            let k = last e i m in
            record {
              next = ap (λ (c : ℕ). long new c 4) here ∙ k.1 ∙ sym (get_or_push blocks b 0 (suc i) (sym m));
              fields = record {
                primary = ap (λ (c : ℕ). long new c 0) here ∙ k.0 0 (omega arith) ∙ d.fields.primary;
                header = ap (λ (c : ℕ). long new c 1) here ∙ k.0 1 (omega arith) ∙ d.fields.header;
                sequence = ap (λ (c : ℕ). long new c 2) here ∙ k.0 2 (omega arith) ∙ d.fields.sequence;
                held = ap (λ (c : ℕ). long new c 3) here ∙ k.0 3 (omega arith) ∙ d.fields.held;
                sum = ap (block_sum new) here ∙ k.2 d.fields.sum;
              };
            }

        fresh_data : format ≡ Ofs → IsData new file (blocks ++ b ∷ []) size (length blocks)
        fresh_data e =
            let here : slice_index (blocks ++ b ∷ []) (length blocks) ≡ b = get_or_push blocks b 0 (length blocks) refl in
            record {
              next = ap (λ (c : ℕ). long new c 4) here ∙ (new_data e).1 ∙ sym (pushed_past blocks b (suc (length blocks)) (omega arith));
              fields = subst (HasOfsData new file size (length blocks)) (sym here) (new_data e).0;
            }

    -- another size, with at most as many blocks
    pub skeleton_resized : (d x size' : ℕ) → d ≤ length blocks → x ≤ length extensions → 72 * x ≤ d → (0 < x → 72 * x < d) → d ≤ 72 * suc x → (format ≡ Ofs → 488 * d ≤ size' + 487) → (format ≡ Ofs → 488 * (d - 1) ≤ size) →
        ((q : ℕ) → q < x → KeepsHolder old new (slice_index (file ∷ extensions) q)) →
        ((j : ℕ) → j < 128 → j ≢ 2 → j ≢ NEXT_EXTENSION → j ≢ 4 → j ≢ 5 → j ≢ FILE_SIZE → long new (slice_index (file ∷ extensions) x) j ≡ long old (slice_index (file ∷ extensions) x) j) →
        long new (slice_index (file ∷ extensions) x) 2 ≡ d - 72 * x → long new (slice_index (file ∷ extensions) x) NEXT_EXTENSION ≡ 0 → (block_sum old (slice_index (file ∷ extensions) x) ≡ 0 → block_sum new (slice_index (file ∷ extensions) x) ≡ 0) →
        long new file FILE_SIZE ≡ size' → (d ≡ 0 → long new file 4 ≡ 0) → (0 < d → long new file 4 ≡ long old file 4) →
        (format ≡ Ofs → (i : ℕ) → suc i < d → KeepsData old new (slice_index blocks i)) →
        (format ≡ Ofs → (i : ℕ) → suc i ≡ d → ((j : ℕ) → j < 3 → long new (slice_index blocks i) j ≡ long old (slice_index blocks i) j) × (long new (slice_index blocks i) 3 ≡ min 488 (size' - 488 * i)) × (long new (slice_index blocks i) 4 ≡ 0) × (block_sum old (slice_index blocks i) ≡ 0 → block_sum new (slice_index blocks i) ≡ 0)) →
        Skeleton new format file (take d blocks) (take x extensions) size'
    skeleton_resized d x size' few fewer least strict room reached full before others count next sum sized first_none first_kept datas last = record {
      size_field = sized;
      holders = λ q l. elim (cases_lt q x) [
        | inl m ↦ holder_kept blocks extensions (take d blocks) (take x extensions) q (head_taken file extensions x q (omega arith)) (get_or-take x extensions q 0 m) (omega (arith, m, least, strict, few, dl))
            (λ r t u. (omega (arith, u, dl, few), get_or-take d blocks (72 * q + r) 0 (omega (arith, u, dl)))) (holder_sum q (omega arith)) (before q m) (s.holders q (omega arith))
        | inr m ↦ subst (IsHolder new file (take d blocks) (take x extensions)) (omega (arith, xl)) last_holder
      ];
      first = λ e. elim (cases_lt 0 d) [
        | inl m ↦ first_kept m ∙ s.first e ∙ sym (get_or-take d blocks 0 0 m)
        | inr m ↦ first_none (omega arith) ∙ sym (taken_past blocks d 0 few m)
      ];
      datas = λ e i l. elim (cases_lt (suc i) d) [
        | inl m ↦ data_kept blocks (take d blocks) size size' i (get_or-take d blocks i 0 (omega arith)) (get_or-take d blocks (suc i) 0 m) (omega (arith, m, reached e, full e)) (datas e i m) (s.datas e i (omega arith))
        | inr m ↦ last_data e i (omega (arith, m, l, dl))
      ];
    }
      where
        dl : length (take d blocks) ≡ d
        dl = length-take-le d blocks few

        xl : length (take x extensions) ≡ x
        xl = length-take-le x extensions fewer

        old_holder : IsHolder old file blocks extensions x
        old_holder = s.holders x fewer

        here : slice_index (file ∷ take x extensions) x ≡ slice_index (file ∷ extensions) x
        here = head_taken file extensions x x (omega arith)

        last_holder : IsHolder new file (take d blocks) (take x extensions) x
        last_holder = record {
          next = ap (λ (b : ℕ). long new b NEXT_EXTENSION) here ∙ next ∙ sym (taken_past extensions x x fewer (omega arith));
          count = ap (λ (b : ℕ). long new b 2) here ∙ count ∙ omega (arith, dl, room);
          pointers = λ p l m.
              ap (λ (b : ℕ). long new b (FIRST_POINTER - p)) here ∙ others (FIRST_POINTER - p) (omega arith) (omega arith) (omega arith) (omega arith) (omega arith) (omega arith)
              ∙ old_holder.pointers p l (omega (arith, m, dl, few)) ∙ sym (get_or-take d blocks (72 * x + p) 0 (omega (arith, m, dl)));
          extension = λ l. subst (HasExtension new file) (sym here) (extension_kept old new file (slice_index (file ∷ extensions) x)
              (others 0 (omega arith) (omega arith) (omega arith) (omega arith) (omega arith) (omega arith)) (others 1 (omega arith) (omega arith) (omega arith) (omega arith) (omega arith) (omega arith))
              (others PARENT (omega arith) (omega arith) (omega arith) (omega arith) (omega arith) (omega arith)) (others SECONDARY_TYPE (omega arith) (omega arith) (omega arith) (omega arith) (omega arith) (omega arith))
              (sum (old_holder.extension l).sum) (old_holder.extension l));
        }

        last_data : format ≡ Ofs → (i : ℕ) → suc i ≡ d → IsData new file (take d blocks) size' i
        last_data e i m =
            let place : slice_index (take d blocks) i ≡ slice_index blocks i = get_or-take d blocks i 0 (omega arith) in
            let was = s.datas e i (omega arith) in
            let k = last e i m in
            record {
              next = ap (λ (c : ℕ). long new c 4) place ∙ k.2 ∙ sym (taken_past blocks d (suc i) few (omega arith));
              fields = record {
                primary = ap (λ (c : ℕ). long new c 0) place ∙ k.0 0 (omega arith) ∙ was.fields.primary;
                header = ap (λ (c : ℕ). long new c 1) place ∙ k.0 1 (omega arith) ∙ was.fields.header;
                sequence = ap (λ (c : ℕ). long new c 2) place ∙ k.0 2 (omega arith) ∙ was.fields.sequence;
                held = ap (λ (c : ℕ). long new c 3) place ∙ k.1;
                sum = ap (block_sum new) place ∙ k.3 was.fields.sum;
              };
            }
