-- A blank FFS image of 1,760 blocks, block by block.
use Rattle.ados_model.proofs.Common.{◌≡◌, ◌≢◌, ℕ, suc, ◌+◌, ◌-◌, ◌*◌, ◌/◌, ◌%◌, ◌^◌, ◌<◌, ◌≤◌, ◌⊎◌, inl, inr, Bool, true, false, cond, not, ◌&&◌, ◌||◌, ◌==◌, nat_lt, nat_le, bit_and, List, [], ◌∷◌, ◌++◌, length, take, replicate, slice_index, codes, refl, sym, ap, ap₂, ◌∙◌, arith, eqb-true, ne_eqb, ltb-true, lt-ltb, le-leb, AllByRecursion, list_all, cases_lt, agree_below_at, and_parts, or_cases, false≢true, lt-leb, leb-true, get_or-replicate, IsInside, has_free_bit, block_count, root_key, page_count, byte_at, bytes_at, long, block_sum, HasText, HasFreeBit, NAME_BYTE, HasBlankImage, total-same}
use Rattle.std.proofs.lemmas.Bool.{le-ltb}
use Rattle.ados_model.specs.declared.role.Role.TheVariants.{Root}
use Rattle.ados_model.specs.Kept.{IsField}
use Rattle.ados_model.proofs.Lists.{joined}
use Rattle.ados_model.proofs.Blocks.{length-joined, byte-joined, byte-joined_next, bytes-joined, long-joined, of_longs, length-of_longs, long-of_longs}

abbrev root_longs : List ℕ
root_longs = 2 ∷ 0 ∷ 0 ∷ 72 ∷ 0 ∷ 0x90A88CD3 ∷ (replicate 72 0 ++ (0xFFFFFFFF ∷ 0x371 ∷ (replicate 28 0 ++ (0x04576F72 ∷ 0x6B000000 ∷ (replicate 17 0 ++ (1 ∷ []))))))

abbrev page_longs : List ℕ
page_longs = 0xC000C037 ∷ (replicate 27 0xFFFFFFFF ++ (0xFFFF3FFF ∷ (replicate 26 0xFFFFFFFF ++ (0x3FFFFFFF ∷ replicate 72 0))))

abbrev boot : List ℕ
boot = 68 ∷ 79 ∷ 83 ∷ 1 ∷ replicate 508 0

abbrev blocks : ℕ → List ℕ
blocks b = cond (b == 0) boot (cond (b == 880) (of_longs root_longs) (cond (b == 881) (of_longs page_longs) (replicate 512 0)))

full : (b : ℕ) → length (blocks b) ≡ 512
full b = go (b == 0) (b == 880) (b == 881)
  where
    go : (c d e : Bool) → length (cond c boot (cond d (of_longs root_longs) (cond e (of_longs page_longs) (replicate 512 0)))) ≡ 512
    go true d e = refl
    go false true e = length-of_longs root_longs
    go false false true = length-of_longs page_longs
    go false false false = refl

-- any other block is zeros
other : (b : ℕ) → b ≢ 0 → b ≢ 880 → b ≢ 881 → blocks b ≡ replicate 512 0
other b l m n = rw (ne_eqb b 0 l, ne_eqb b 880 m, ne_eqb b 881 n) refl

image : List ℕ
image = joined blocks 1760

all_small : (xs : List ℕ) → list_all (λ x. nat_lt x (2 ^ 32)) xs ≡ true → AllByRecursion (λ x. x < 2 ^ 32) xs
all_small [] h = tt
all_small (x ∷ xs) h = let both = and_parts (nat_lt x (2 ^ 32)) (list_all (λ x. nat_lt x (2 ^ 32)) xs) h in (ltb-true x (2 ^ 32) both.0, all_small xs both.1)

long_root : (i : ℕ) → i < 128 → long image 880 i ≡ slice_index root_longs i
unfolding image
long_root i l = long-joined blocks full 1760 880 i (omega arith) l ∙ long-of_longs root_longs i (all_small root_longs refl) l

long_page : (i : ℕ) → i < 128 → long image 881 i ≡ slice_index page_longs i
unfolding image
long_page i l = long-joined blocks full 1760 881 i (omega arith) l ∙ long-of_longs page_longs i (all_small page_longs refl) l

whole : length image ≡ 512 * 1760
unfolding image
whole = length-joined blocks full 1760

root_sum : block_sum image 880 ≡ 0
unfolding block_sum
root_sum = ap (λ (n : ℕ). n % 2 ^ 32) (total-same (slice_index root_longs) (long image 880) 128 long_root)

page_sum : block_sum image 881 ≡ 0
unfolding block_sum
page_sum = ap (λ (n : ℕ). n % 2 ^ 32) (total-same (slice_index page_longs) (long image 881) 128 long_page)

boot_is : bytes_at image 0 0 4 ≡ 68 ∷ 79 ∷ 83 ∷ 1 ∷ []
unfolding image
boot_is = bytes-joined blocks full 1760 0 0 4 (omega arith) (omega arith)

table : (s : ℕ) → s < 72 → long image 880 (6 + s) ≡ 0
table s l =
    long_root (6 + s) (omega arith)
    ∙ eqb-true (slice_index root_longs (6 + s)) 0 (agree_below_at (λ k. slice_index root_longs (6 + k) == 0) (λ k. true) 72 s refl l)

root_name : HasText image 880 NAME_BYTE (codes "Work")
unfolding image of_longs
root_name = record { counted = byte-joined blocks full 1760 880 432 (omega arith) (omega arith); follows = bytes-joined blocks full 1760 880 433 4 (omega arith) (omega arith) }

-- the bit of block k + 2 is set, except for the root, the bitmap block and blocks past the end
is_free : ℕ → Bool
is_free k = nat_lt k 878 || (nat_le 880 k && nat_lt k 1758)

abbrev bit_of : ℕ → ℕ
bit_of k = bit_and (slice_index page_longs (1 + k / 32)) (2 ^ (k % 32))

bits : (k : ℕ) → k < 4064 → (bit_of k == 0) ≡ not (is_free k)
unfolding is_free
bits k l = agree_below_at (λ j. bit_of j == 0) (λ j. not (is_free j)) 4064 k refl l

-- the bit for a block
bit_is : (b : ℕ) → 2 ≤ b → b < 4066 → bit_and (long image (long image (root_key (block_count image)) (79 + (b - 2) / 4064)) (1 + (b - 2) % 4064 / 32)) (2 ^ ((b - 2) % 32)) ≡ bit_of (b - 2)
bit_is b l m =
    let count : block_count image ≡ 1760 = omega (arith, whole) in
    let first : (b - 2) / 4064 ≡ 0 = omega arith in
    let same : (b - 2) % 4064 ≡ b - 2 = omega arith in
    let page : long image (root_key (block_count image)) (79 + (b - 2) / 4064) ≡ 881 =
    ap₂ (λ (n i : ℕ). long image (root_key n) (79 + i)) count first ∙ long_root 79 (omega arith) in
    let value : long image (long image (root_key (block_count image)) (79 + (b - 2) / 4064)) (1 + (b - 2) % 4064 / 32) ≡ slice_index page_longs (1 + (b - 2) / 32) =
    ap₂ (λ (p i : ℕ). long image p (1 + i / 32)) page same ∙ long_page (1 + (b - 2) / 32) (omega arith) in
    ap (λ (n : ℕ). bit_and n (2 ^ ((b - 2) % 32))) value

marked : (b : ℕ) → 2 ≤ b → b < 4066 → is_free (b - 2) ≡ true → HasFreeBit image b
unfolding has_free_bit
marked b l m free = ap (λ (n : ℕ). not (n == 0)) (bit_is b l m) ∙ ap not (bits (b - 2) (omega arith)) ∙ ap (λ (c : Bool). not (not c)) free

not_marked : (b : ℕ) → 2 ≤ b → b < 4066 → is_free (b - 2) ≡ false → HasFreeBit image b → ⊥
unfolding has_free_bit
not_marked b l m used set =
    false≢true (sym (ap (λ (n : ℕ). not (n == 0)) (bit_is b l m) ∙ ap not (bits (b - 2) (omega arith)) ∙ ap (λ (c : Bool). not (not c)) used) ∙ set)

free_low : (k : ℕ) → k < 878 → is_free k ≡ true
unfolding is_free
free_low k l = rw (lt-ltb k 878 l) refl

free_high : (k : ℕ) → 880 ≤ k → k < 1758 → is_free k ≡ true
unfolding is_free
free_high k l m = rw (le-leb 880 k l, lt-ltb k 1758 m, le-ltb k 878 (omega arith)) refl

used_middle : (k : ℕ) → 878 ≤ k → k < 880 → is_free k ≡ false
unfolding is_free
used_middle k l m = rw (le-ltb k 878 l, lt-leb 880 k m) refl

used_behind : (k : ℕ) → 1758 ≤ k → is_free k ≡ false
unfolding is_free
used_behind k l = rw (le-ltb k 878 (omega arith), le-ltb k 1758 l, le-leb 880 k (omega arith)) refl

-- the fields of the root that are not 0
is_field : ℕ → Bool
is_field i = nat_lt i 4 || (i / 4 == 3 || (i / 4 == 5 || (i / 4 == 78 || (i / 4 == 79 || ((nat_le 432 i && nat_le i 436) || i / 4 == 127)))))

field_or_zero : (i : ℕ) → i < 512 → (is_field i || (slice_index (of_longs root_longs) i == 0)) ≡ true
unfolding is_field of_longs
field_or_zero i l = agree_below_at (λ j. is_field j || (slice_index (of_longs root_longs) j == 0)) (λ j. true) 512 i refl l

name_length : byte_at image 880 432 ≡ 4
unfolding image of_longs
name_length = byte-joined blocks full 1760 880 432 (omega arith) (omega arith)

is_a_field : (i : ℕ) → is_field i ≡ true → IsField image 880 Root i
unfolding is_field
is_a_field i h =
    elim (or_cases (nat_lt i 4) _ h) [
      | inl e ↦ let l : i < 4 = ltb-true i 4 e in IsField.root_longs (0, (0, 0), omega arith, refl, (omega arith, omega (arith, l)))
      | inr h ↦ elim (or_cases (i / 4 == 3) _ h) [
        | inl e ↦ let q = eqb-true (i / 4) 3 e in IsField.root_longs (1, (3, 3), omega arith, refl, (omega (arith, q), omega (arith, q)))
        | inr h ↦ elim (or_cases (i / 4 == 5) _ h) [
          | inl e ↦ let q = eqb-true (i / 4) 5 e in IsField.root_longs (2, (5, 78), omega arith, refl, (omega (arith, q), omega (arith, q)))
          | inr h ↦ elim (or_cases (i / 4 == 78) _ h) [
            | inl e ↦ let q = eqb-true (i / 4) 78 e in IsField.root_longs (2, (5, 78), omega arith, refl, (omega (arith, q), omega (arith, q)))
            | inr h ↦ elim (or_cases (i / 4 == 79) _ h) [
              | inl e ↦ let q = eqb-true (i / 4) 79 e in IsField.root_longs (3, (79, 78 + page_count (block_count image)), omega arith, refl, (omega (arith, q), omega (arith, q, whole)))
              | inr h ↦ elim (or_cases (nat_le 432 i && nat_le i 436) _ h) [
                | inl e ↦
                    let both = and_parts (nat_le 432 i) (nat_le i 436) e in
                    let low : 432 ≤ i = leb-true 432 i both.0 in
                    let high : i ≤ 436 = leb-true i 436 both.1 in
                    IsField.root_name (low, omega (arith, high, name_length))
                | inr e ↦ let q = eqb-true (i / 4) 127 e in IsField.root_longs (7, (127, 127), omega arith, refl, (omega (arith, q), omega (arith, q)))
              ]
            ]
          ]
        ]
      ]
    ]

root_zero : (i : ℕ) → i < 512 → (IsField image 880 Root i → ⊥) → byte_at image 880 i ≡ 0
unfolding image
root_zero i l n =
    elim (or_cases (is_field i) (slice_index (of_longs root_longs) i == 0) (field_or_zero i l)) [
      | inl f ↦ absurd (n (is_a_field i f))
      | inr z ↦ byte-joined blocks full 1760 880 i (omega arith) l ∙ eqb-true (slice_index (of_longs root_longs) i) 0 z
    ]

boot_zero : (i : ℕ) → 4 ≤ i → i < 1024 → byte_at image 0 i ≡ 0
unfolding image
boot_zero i l m = go (cases_lt i 512)
  where
    go : (i < 512) ⊎ (512 ≤ i) → byte_at image 0 i ≡ 0
    go (inl h) =
        let behind : i ≡ suc (suc (suc (suc (i - 4)))) = omega arith in
        byte-joined blocks full 1760 0 i (omega arith) h ∙ ap (slice_index boot) behind ∙ get_or-replicate 508 (i - 4) 0 0 (omega arith)
    go (inr h) = byte-joined_next blocks full 1760 i (omega arith) h m ∙ get_or-replicate 512 (i - 512) 0 0 (omega arith)

zeros : (b : ℕ) → IsInside 1760 b → b ≢ 880 → b ≢ 881 → bytes_at image b 0 512 ≡ replicate 512 0
unfolding image
zeros b l m n =
    bytes-joined blocks full 1760 b 0 512 l.1 (omega arith)
    ∙ ap (λ (xs : List ℕ). take 512 xs) (other b (omega (arith, l.0)) m n)

pub has_blank_image : HasBlankImage
has_blank_image = (
  image,
  record {
    size = omega arith;
    whole = whole;
    boot = boot_is;
    boot_zero = boot_zero;
    primary = long_root 0 (omega arith);
    table_size = long_root 3 (omega arith);
    table = table;
    valid = long_root 78 (omega arith);
    pages = λ i l. let none : i ≡ 0 = omega (arith, l) in ap (λ (j : ℕ). long image 880 (79 + j)) none ∙ long_root 79 (omega arith) ∙ ap (λ (j : ℕ). 881 + j) (sym none);
    root_date = λ k. record { days = long_root 105 (omega arith) k; minutes = long_root 106 (omega arith) k; ticks = long_root 107 (omega arith) k };
    disk_date = λ k. record { days = long_root 118 (omega arith) k; minutes = long_root 119 (omega arith) k; ticks = long_root 120 (omega arith) k };
    creation_date = λ k. record { days = long_root 121 (omega arith) k; minutes = long_root 122 (omega arith) k; ticks = long_root 123 (omega arith) k };
    root_name = root_name;
    parent = long_root 125 (omega arith);
    secondary = long_root 127 (omega arith);
    root_sum = root_sum;
    root_zero = root_zero;
    page_sum = λ i l. let none : i ≡ 0 = omega (arith, l) in ap (λ (j : ℕ). block_sum image (881 + j)) none ∙ page_sum;
    free_below = λ b l m. marked b l.0 (omega (arith, l.1)) (free_low (b - 2) (omega arith));
    used = λ b l m n. not_marked b l.0 (omega (arith, l.1)) (used_middle (b - 2) (omega (arith, m)) (omega (arith, l.0, n)));
    free_above = λ b l m. marked b l.0 (omega (arith, l.1)) (free_high (b - 2) (omega (arith, m)) (omega (arith, l.1, l.0)));
    past_end = λ b l m. not_marked b (omega (arith, l)) (omega (arith, m)) (used_behind (b - 2) (omega (arith, l)));
    others_below = λ b l m. zeros b l (omega (arith, m)) (omega (arith, m));
    others_above = λ b l m. zeros b l (omega (arith, m)) (omega (arith, m));
  },
)
