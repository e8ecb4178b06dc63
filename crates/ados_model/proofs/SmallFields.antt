-- The fields in the blocks of the images.
use Rattle.ados_model.proofs.Common.{◌≡◌, ℕ, ◌+◌, ◌*◌, ◌<◌, Bool, true, cond, not, ◌==◌, List, [], ◌∷◌, length, slice_index, refl, sym, ap, ◌∙◌, subst, arith, codes, ◌%◌, ◌^◌, drop, agree_below, Format, Ofs, Ffs, has_free_bit, byte_at, bytes_at, long, block_sum, table_entry, TABLE_LONGS, FIRST_SLOT, NEXT_IN_CHAIN, long-bytes_at, total-same, slot, hash, HasFile, HasOfsData, HasNode, HasEntry, HasRoot, kind_bytes, small, letters, hello, tree, image}
use Rattle.std.specs.Option.{is_some}
use Rattle.ados_model.proofs.Blocks.{number}
use Rattle.ados_model.proofs.SmallBelow.{all_below, equal_below, equal_up_to}
use Rattle.ados_model.proofs.SmallDuties.{layout, duty_of}

-- a long and the sum of a block, from the bytes of the block alone: this form computes sooner
long_alone : (image : List ℕ) (b i : ℕ) → i < 128 → long (bytes_at image b 0 512) 0 i ≡ long image b i
unfolding long
long_alone image b i l = ap (λ (k : ℕ). number (drop k (bytes_at image b 0 512))) (omega arith) ∙ long-bytes_at image b i l

sum_by : (image : List ℕ) (b : ℕ) → block_sum (bytes_at image b 0 512) 0 ≡ 0 → block_sum image b ≡ 0
unfolding block_sum
sum_by image b e = sym (ap (λ (n : ℕ). n % 2 ^ 32) (total-same (long image b) (long (bytes_at image b 0 512) 0) 128 (λ i l. long_alone image b i l))) ∙ e

-- the hash table of a directory, by its bytes: a key in one slot, 0 in all others
abbrev one_slot : List ℕ → ℕ → ℕ → Bool
one_slot block slot key = all_below (λ s. table_entry block 0 s == cond (slot == s) key 0) 72

table_by : (image : List ℕ) (dir slot key : ℕ) → one_slot (bytes_at image dir 0 512) slot key ≡ true → (s : ℕ) → s < TABLE_LONGS → table_entry image dir s ≡ cond (slot == s) key 0
table_by image dir slot key e s l =
    sym (long_alone image dir (FIRST_SLOT + s) (omega arith)) ∙ equal_below (table_entry (bytes_at image dir 0 512) 0) (λ k. cond (slot == k) key 0) 72 e s l

-- blocks 2 to 15 are marked free exactly if they have no use
abbrev pub has_bits : List ℕ → Bool
has_bits image = agree_below (λ k. has_free_bit image (k + 2)) (λ k. not (is_some (duty_of (k + 2)))) 14

-- the fields of the image
pub record HasBlocks (format : Format) (image : List ℕ) : Type 0 where
  pub whole : length image ≡ 512 * 16
  pub boot : bytes_at image 0 0 4 ≡ kind_bytes format
  pub root : HasRoot image (tree format) layout
  pub small_node : HasNode image 8 small
  pub letters_node : HasNode image 2 letters
  pub hello_node : HasNode image 3 hello
  pub letters_entry : HasEntry image 2 letters 8
  pub hello_entry : HasEntry image 3 hello 2
  pub page : block_sum image 9 ≡ 0
  pub small_table : (s : ℕ) → s < TABLE_LONGS → table_entry image 8 s ≡ cond (slot letters.name == s) 2 0
  pub letters_table : (s : ℕ) → s < TABLE_LONGS → table_entry image 2 s ≡ cond (slot hello.name == s) 3 0
  pub small_links : long image 2 NEXT_IN_CHAIN ≡ 0
  pub letters_links : long image 3 NEXT_IN_CHAIN ≡ 0
  pub file : HasFile image format 3 (4 ∷ []) [] (codes "Hi Amiga")
  pub bits : has_bits image ≡ true

only_zero : (P : ℕ → Type 0) → P 0 → (i : ℕ) → i < 1 → P i
only_zero P h i l = let zero_is : 0 ≡ i = omega arith in subst P zero_is h

ofs : HasBlocks Ofs (image Ofs)
unfolding long byte_at bytes_at block_sum has_free_bit hash
ofs = record {
  whole = refl;
  boot = refl;
  root = record { table_size = refl; valid = refl; pages = equal_below _ _ 1 refl; disk_date = refl; creation_date = refl; parent = refl; secondary = refl };
  small_node = record { primary = refl; sum = sum_by (image Ofs) 8 refl; name = record { counted = refl; follows = refl }; date = refl };
  letters_node = record { primary = refl; sum = sum_by (image Ofs) 2 refl; name = record { counted = refl; follows = refl }; date = refl };
  hello_node = record { primary = refl; sum = sum_by (image Ofs) 3 refl; name = record { counted = refl; follows = refl }; date = refl };
  letters_entry = record { key_field = refl; protection_field = refl; comment = record { counted = refl; follows = refl }; parent = refl; secondary = refl };
  hello_entry = record { key_field = refl; protection_field = refl; comment = record { counted = refl; follows = refl }; parent = refl; secondary = refl };
  page = sum_by (image Ofs) 9 refl;
  small_table = table_by (image Ofs) 8 (slot letters.name) 2 refl;
  small_links = refl;
  letters_table = table_by (image Ofs) 2 (slot hello.name) 3 refl;
  letters_links = refl;
  file = record {
    size = refl;
    chain = refl;
    extension = λ i l. absurd (omega arith);
    counts = equal_up_to _ _ 0 refl;
    pointers = equal_below _ _ 1 refl;
    contents = equal_below _ _ 8 refl;
    ofs_chain = λ _. (refl, refl);
    ofs_data = λ _. only_zero (λ i. HasOfsData (image Ofs) 3 8 i (slice_index (4 ∷ []) i)) (record { primary = refl; header = refl; sequence = refl; held = refl; sum = sum_by (image Ofs) 4 refl });
  };
  bits = refl;
}

ffs : HasBlocks Ffs (image Ffs)
unfolding long byte_at bytes_at block_sum has_free_bit hash
ffs = record {
  whole = refl;
  boot = refl;
  root = record { table_size = refl; valid = refl; pages = equal_below _ _ 1 refl; disk_date = refl; creation_date = refl; parent = refl; secondary = refl };
  small_node = record { primary = refl; sum = sum_by (image Ffs) 8 refl; name = record { counted = refl; follows = refl }; date = refl };
  letters_node = record { primary = refl; sum = sum_by (image Ffs) 2 refl; name = record { counted = refl; follows = refl }; date = refl };
  hello_node = record { primary = refl; sum = sum_by (image Ffs) 3 refl; name = record { counted = refl; follows = refl }; date = refl };
  letters_entry = record { key_field = refl; protection_field = refl; comment = record { counted = refl; follows = refl }; parent = refl; secondary = refl };
  hello_entry = record { key_field = refl; protection_field = refl; comment = record { counted = refl; follows = refl }; parent = refl; secondary = refl };
  page = sum_by (image Ffs) 9 refl;
  small_table = table_by (image Ffs) 8 (slot letters.name) 2 refl;
  small_links = refl;
  letters_table = table_by (image Ffs) 2 (slot hello.name) 3 refl;
  letters_links = refl;
  file = record {
    size = refl;
    chain = refl;
    extension = λ i l. absurd (omega arith);
    counts = equal_up_to _ _ 0 refl;
    pointers = equal_below _ _ 1 refl;
    contents = equal_below _ _ 8 refl;
    ofs_chain = λ e. absurd (cc e);
    ofs_data = λ e. absurd (cc e);
  };
  bits = refl;
}

pub has_blocks : (format : Format) → HasBlocks format (image format)
has_blocks Ofs = ofs
has_blocks Ffs = ffs
