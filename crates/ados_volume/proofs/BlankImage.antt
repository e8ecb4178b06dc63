-- An image of zeros with the kind, a blank root and its bitmap blocks is a blank image.
use Rattle.ados_volume.proofs.Common.{Bool, Date3, Format, HasBit, HasText, InBlock, IsBetweenFields, IsBlankRoot, IsInside, IsSize, List, NamesBlank, OnlyBlock, SameBut, Within, [], ap, arith, block_count, block_sum, byte_at, bytes_at, cases_lt, date_at, false, false≢true, format_byte, get_or-replicate, has_free_bit, inl, inr, length, long, page_block, page_count, pages_of, refl, replicate, root_key, same_bytes_at, same_count, same_long, same_sum, slice_index, sym, true, zero-add, ℕ, ◌*◌, ◌+◌, ◌-◌, ◌<◌, ◌∙◌, ◌∷◌, ◌≡◌, ◌≤◌, ◌⊎◌}
use Rattle.ados_map.specs.Bits.{is_unnamed}
use Rattle.ados_map.specs.Changes.{InPages, PagesRebuilt}
use Rattle.ados_model.specs.declared.role.Role.TheVariants.{Root}
use Rattle.ados_model.specs.Kept.{IsField}
use Rattle.ados_model.specs.Blank.{IsBlank}
use Rattle.ados_change.proofs.Texts.{bytes_put}

-- the bitmap blocks after a blank root are lawful
module _ (n : ℕ) (name : List ℕ) (moment : Date3) (image : List ℕ) (size : IsSize n) (count : block_count image ≡ n) (root : IsBlankRoot n name moment image) where
  pub blank_page : (p : ℕ) → p < page_count n → page_block image p ≡ root_key n + 1 + p
  blank_page p l = ap (λ (m : ℕ). long image (root_key m) (79 + p)) count ∙ root.pages p l

  pub blank_pages : pages_of image ≡ page_count n
  blank_pages = ap page_count count

-- byte i of the boot blocks, in the second block
byte_next : (image : List ℕ) (i : ℕ) → 512 ≤ i → byte_at image 0 i ≡ byte_at image 1 (i - 512)
unfolding byte_at
byte_next image i l = ap (slice_index image) (omega arith)

module _ (format : Format) (n : ℕ) (name : List ℕ) (moment : Date3) (named : List Bool) (z0 z1 z2 z3 : List ℕ)
    (size : IsSize n) (whole : length z0 ≡ 512 * n) (zero : (b i : ℕ) → byte_at z0 b i ≡ 0)
    (kind : bytes_at z1 0 0 4 ≡ 68 ∷ 79 ∷ 83 ∷ format_byte format ∷ []) (f1 : SameBut (Within 0 0 4) z0 z1)
    (root : IsBlankRoot n name moment z2) (f2 : OnlyBlock (root_key n) z1 z2)
    (short : length name ≤ 30) (marks : NamesBlank n named) (rebuilt : PagesRebuilt z2 named z3) where
  f3 : SameBut (InPages z2) z2 z3
  f3 = rebuilt.rest

  count2 : block_count z2 ≡ n
  count2 = omega (arith, f2.same_length, f1.same_length, whole)

  count3 : block_count z3 ≡ n
  count3 = same_count (InPages z2) z2 z3 f3 ∙ count2

  page_at : (p : ℕ) → p < page_count n → page_block z2 p ≡ root_key n + 1 + p
  page_at = blank_page n name moment z2 size count2 root

  pages : pages_of z2 ≡ page_count n
  pages = blank_pages n name moment z2 size count2 root

  not_page : (b k : ℕ) → (b ≤ root_key n) ⊎ (root_key n + page_count n < b) → ¬ InPages z2 b k
  not_page b k side at =
      let is = page_at at.0 (omega (arith, at.1, pages)) in
      let same = at.2 in
      elim side [ inl l ↦ omega (arith, is, same, l) | inr l ↦ omega (arith, is, same, l, at.1, pages) ]

  -- the root is unchanged
  root_long : (i : ℕ) → i < 128 → long z3 (root_key n) i ≡ long z2 (root_key n) i
  root_long i l = same_long (InPages z2) z2 z3 f3 (root_key n) i l (λ k e. not_page (root_key n) k (inl (omega arith)))

  root_byte : (i : ℕ) → i < 512 → byte_at z3 (root_key n) i ≡ byte_at z2 (root_key n) i
  root_byte i l = f3.same_byte (root_key n) i l (not_page (root_key n) i (inl (omega arith)))

  root_date : (i : ℕ) → i + 2 < 128 → date_at z2 (root_key n) i ≡ moment → date_at z3 (root_key n) i ≡ moment
  root_date i l date = (λ k. record { days = root_long i (omega arith) k; minutes = root_long (i + 1) (omega arith) k; ticks = root_long (i + 2) l k }) ∙ date

  root_name : HasText z3 (root_key n) 432 name
  root_name = record {
    counted = root_byte 432 (omega arith) ∙ root.root_name.counted;
    follows = same_bytes_at (InPages z2) z2 z3 f3 (root_key n) 433 (length name) (omega (arith, short)) (λ k l m. not_page (root_key n) k (inl (omega arith))) ∙ root.root_name.follows;
  }

  between : (i : ℕ) → i < 512 → ¬ IsField z3 (root_key n) Root i → IsBetweenFields (page_count n) (length name) i
  between i l none = record {
    primary = λ m. none (IsField.root_longs (0, (0, 0), omega arith, refl, (omega arith, omega (arith, m))));
    table_size = λ at. none (IsField.root_longs (1, (3, 3), omega arith, refl, (omega (arith, at.0), omega (arith, at.1))));
    sum = λ at. none (IsField.root_longs (2, (5, 78), omega arith, refl, (omega (arith, at.0), omega (arith, at.1))));
    pages = λ at. elim (cases_lt i 316) [
      | inl m ↦ none (IsField.root_longs (2, (5, 78), omega arith, refl, (omega (arith, at.0), omega (arith, m))))
      | inr m ↦ none (IsField.root_longs (3, (79, 78 + page_count (block_count z3)), omega arith, refl, (omega (arith, m), omega (arith, at.1, count3))))
    ];
    root_date = λ at. none (IsField.root_longs (4, (105, 107), omega arith, refl, (omega (arith, at.0), omega (arith, at.1))));
    name = λ at. none (IsField.root_name (at.0, omega (arith, at.1, root_name.counted)));
    dates = λ at. none (IsField.root_longs (5, (118, 123), omega arith, refl, (omega (arith, at.0), omega (arith, at.1))));
    secondary = λ m. none (IsField.root_longs (7, (127, 127), omega arith, refl, (omega (arith, m), omega (arith, l))));
  }

  -- a byte of any other block
  other_byte : (b i : ℕ) → i < 512 → (b < root_key n) ⊎ (root_key n + page_count n < b) → ¬ Within 0 0 4 b i → byte_at z3 b i ≡ 0
  other_byte b i l side outside =
      f3.same_byte b i l (not_page b i (elim side [ inl m ↦ inl (omega (arith, m)) | inr m ↦ inr m ]))
      ∙ f2.same_byte b i l (λ e. elim side [ inl m ↦ omega (arith, m, e) | inr m ↦ omega (arith, m, e) ])
      ∙ f1.same_byte b i l outside
      ∙ zero b i

  other_block : (b : ℕ) → IsInside n b → (b < root_key n) ⊎ (root_key n + page_count n < b) → bytes_at z3 b 0 512 ≡ replicate 512 0
  other_block b inside side =
      bytes_put z3 b 0 (replicate 512 0) (omega (arith, inside.1, count3)) (omega arith)
      (λ k l. ap (byte_at z3 b) (zero-add k) ∙ other_byte b k l side (λ at. omega (arith, at.0, inside.0)) ∙ sym (get_or-replicate 512 k 0 0 l))

  boot_zero : (i : ℕ) → 4 ≤ i → i < 1024 → byte_at z3 0 i ≡ 0
  boot_zero i l m = elim (cases_lt i 512) [
    | inl below ↦ other_byte 0 i below (inl (omega (arith, size.0))) (λ at. omega (arith, at.2, l))
    | inr above ↦ byte_next z3 i above ∙ other_byte 1 (i - 512) (omega arith) (inl (omega (arith, size.0))) (λ at. omega (arith, at.0))
  ]

  has_bit : (b : ℕ) → 2 ≤ b → b < 2 + 4064 * page_count n → HasBit z2 b
  has_bit b l m = (l, omega (arith, m, pages))

  free : (b : ℕ) → IsInside n b → (b < root_key n) ⊎ (root_key n + page_count n < b) → has_free_bit z3 b ≡ true
  free b inside side = rebuilt.marks b (has_bit b inside.0 (omega (arith, inside.1))) ∙ marks.free b inside.1 side

  taken : (b : ℕ) → HasBit z2 b → is_unnamed named b ≡ false → ¬ (has_free_bit z3 b ≡ true)
  taken b has used set = false≢true (sym used ∙ sym (rebuilt.marks b has) ∙ set)

  pub blank_is : IsBlank format n name moment z3
  blank_is = record {
    size = size;
    whole = f3.same_length ∙ f2.same_length ∙ f1.same_length ∙ whole;
    boot =
        same_bytes_at (InPages z2) z2 z3 f3 0 0 4 (omega arith) (λ k l m. not_page 0 k (inl (omega arith)))
        ∙ same_bytes_at (InBlock (root_key n)) z1 z2 f2 0 0 4 (omega arith) (λ k l m e. omega (arith, e, size.0)) ∙ kind;
    boot_zero = boot_zero;
    primary = root_long 0 (omega arith) ∙ root.primary;
    table_size = root_long 3 (omega arith) ∙ root.table_size;
    table = λ s l. root_long (6 + s) (omega arith) ∙ root.table s l;
    valid = root_long 78 (omega arith) ∙ root.valid;
    pages = λ i l. root_long (79 + i) (omega (arith, l, size.1)) ∙ root.pages i l;
    root_date = root_date 105 (omega arith) root.root_date;
    disk_date = root_date 118 (omega arith) root.disk_date;
    creation_date = root_date 121 (omega arith) root.creation_date;
    root_name = root_name;
    parent = root_long 125 (omega arith) ∙ root.parent;
    secondary = root_long 127 (omega arith) ∙ root.secondary;
    root_sum = same_sum (InPages z2) z2 z3 f3 (root_key n) (λ k l. not_page (root_key n) k (inl (omega arith))) ∙ root.sum;
    root_zero = λ i l none. root_byte i l ∙ root.zero i l (between i l none);
    page_sum = λ i l. ap (block_sum z3) (sym (page_at i l)) ∙ rebuilt.sums i (omega (arith, l, pages));
    free_below = λ b inside l. free b inside (inl l);
    used = λ b inside l m. taken b (has_bit b inside.0 (omega (arith, inside.1))) (marks.used b l m);
    free_above = λ b inside l. free b inside (inr l);
    past_end = λ b l m. taken b (has_bit b (omega (arith, l, size.0)) m) (marks.past b l);
    others_below = λ b inside l. other_block b inside (inl l);
    others_above = λ b inside l. other_block b inside (inr l);
  }
