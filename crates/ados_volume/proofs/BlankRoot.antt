-- The fields of a blank root, written one after the other.
use Rattle.ados_volume.proofs.Common.{AtLong, Date3, HasBlankFields, HasText, IsBetweenFields, IsBlankRoot, List, OnlyLong, SameBut, Within, ap, arith, block_sum, byte_at, cases_eq, cases_lt, date_at, inl, inr, length, long, page_count, refl, root_key, same_bytes_at, same_long, same_weaken, subst, sym, ℕ, ◌*◌, ◌+◌, ◌-◌, ◌/◌, ◌<◌, ◌^◌, ◌∙◌, ◌≡◌, ◌≢◌, ◌≤◌, ◌⊎◌}
use Rattle.adf_block.proofs.Longs.{long-bytes}

-- a long is four bytes
pub within_long : (b i : ℕ) (old new : List ℕ) → OnlyLong b i old new → SameBut (Within b (4 * i) (4 * i + 4)) old new
within_long b i old new h = same_weaken (AtLong b i) (Within b (4 * i) (4 * i + 4)) old new (λ c k at. (at.0, omega (arith, at.1), omega (arith, at.1))) h

-- a long outside the range
pub long_beside : (b low high : ℕ) (old new : List ℕ) → SameBut (Within b low high) old new → (i : ℕ) → i < 128 → (4 * i + 4 ≤ low) ⊎ (high ≤ 4 * i) → long new b i ≡ long old b i
long_beside b low high old new h i l side = same_long (Within b low high) old new h b i l (λ k e at. elim side [ inl m ↦ omega (arith, e, at.1, m) | inr m ↦ omega (arith, e, at.2, m) ])

-- a byte outside the range
byte_beside : (b low high : ℕ) (old new : List ℕ) → SameBut (Within b low high) old new → (i : ℕ) → i < 512 → ¬ ((low ≤ i) × (i < high)) → byte_at new b i ≡ byte_at old b i
byte_beside b low high old new h i l beside = h.same_byte b i l (λ at. beside (at.1, at.2))

-- a long of zeros is 0
zero_long : (image : List ℕ) (b i : ℕ) → ((k : ℕ) → k / 4 ≡ i → byte_at image b k ≡ 0) → long image b i ≡ 0
zero_long image b i zero =
    long-bytes image b i
    ∙ rw (zero (4 * i + 0) (omega arith), zero (4 * i + 1) (omega arith), zero (4 * i + 2) (omega arith), zero (4 * i + 3) (omega arith)) refl

-- the writes of a blank root in order, into a block r of zeros
module _ (n r : ℕ) (name : List ℕ) (moment : Date3) (r_is : r ≡ root_key n) (small : page_count n ≤ 25) (short : length name ≤ 30)
    (z0 z1 z2 z3 z4 z5 z6 z7 z8 z9 z10 : List ℕ)
    (zero : (i : ℕ) → i < 512 → byte_at z0 r i ≡ 0)
    (s1 : OnlyLong r 0 z0 z1) (s2 : OnlyLong r 3 z1 z2) (s3 : OnlyLong r 78 z2 z3)
    (f4 : SameBut (Within r 316 (316 + 4 * page_count n)) z3 z4) (f5 : SameBut (Within r 420 432) z4 z5)
    (f6 : SameBut (Within r 432 (433 + length name)) z5 z6) (f7 : SameBut (Within r 472 484) z6 z7)
    (f8 : SameBut (Within r 484 496) z7 z8) (s9 : OnlyLong r 127 z8 z9) (s10 : OnlyLong r 5 z9 z10) where
  f1 : SameBut (Within r 0 4) z0 z1
  f1 = within_long r 0 z0 z1 s1

  f2 : SameBut (Within r 12 16) z1 z2
  f2 = within_long r 3 z1 z2 s2

  f3 : SameBut (Within r 312 316) z2 z3
  f3 = within_long r 78 z2 z3 s3

  f9 : SameBut (Within r 508 512) z8 z9
  f9 = within_long r 127 z8 z9 s9

  f10 : SameBut (Within r 20 24) z9 z10
  f10 = within_long r 5 z9 z10 s10

  -- a long that later writes leave untouched
  kept9 : (i : ℕ) → i < 128 → i ≢ 5 → long z10 r i ≡ long z9 r i
  kept9 i l ne = long_beside r 20 24 z9 z10 f10 i l (grind arith)

  kept8 : (i : ℕ) → i < 127 → i ≢ 5 → long z10 r i ≡ long z8 r i
  kept8 i l ne = kept9 i (omega arith) ne ∙ long_beside r 508 512 z8 z9 f9 i (omega arith) (inl (omega arith))

  kept7 : (i : ℕ) → i < 121 → i ≢ 5 → long z10 r i ≡ long z7 r i
  kept7 i l ne = kept8 i (omega arith) ne ∙ long_beside r 484 496 z7 z8 f8 i (omega arith) (inl (omega arith))

  kept6 : (i : ℕ) → i < 118 → i ≢ 5 → long z10 r i ≡ long z6 r i
  kept6 i l ne = kept7 i (omega arith) ne ∙ long_beside r 472 484 z6 z7 f7 i (omega arith) (inl (omega arith))

  kept5 : (i : ℕ) → i < 108 → i ≢ 5 → long z10 r i ≡ long z5 r i
  kept5 i l ne = kept6 i (omega arith) ne ∙ long_beside r 432 (433 + length name) z5 z6 f6 i (omega arith) (inl (omega arith))

  kept4 : (i : ℕ) → i < 105 → i ≢ 5 → long z10 r i ≡ long z4 r i
  kept4 i l ne = kept5 i (omega arith) ne ∙ long_beside r 420 432 z4 z5 f5 i (omega arith) (inl (omega arith))

  kept3 : (i : ℕ) → i < 79 → i ≢ 5 → long z10 r i ≡ long z3 r i
  kept3 i l ne = kept4 i (omega arith) ne ∙ long_beside r 316 (316 + 4 * page_count n) z3 z4 f4 i (omega arith) (inl (omega arith))

  kept2 : (i : ℕ) → i < 78 → i ≢ 5 → long z10 r i ≡ long z2 r i
  kept2 i l ne = kept3 i (omega arith) ne ∙ long_beside r 312 316 z2 z3 f3 i (omega arith) (inl (omega arith))

  kept1 : (i : ℕ) → i < 3 → long z10 r i ≡ long z1 r i
  kept1 i l = kept2 i (omega arith) (omega arith) ∙ long_beside r 12 16 z1 z2 f2 i (omega arith) (inl (omega arith))

  -- a byte between the fields
  between : (i : ℕ) → i < 512 → IsBetweenFields (page_count n) (length name) i → byte_at z10 r i ≡ 0
  between i l h =
      byte_beside r 20 24 z9 z10 f10 i l h.sum
      ∙ byte_beside r 508 512 z8 z9 f9 i l (λ at. h.secondary at.0)
      ∙ byte_beside r 484 496 z7 z8 f8 i l (λ at. h.dates (omega (arith, at.0), at.1))
      ∙ byte_beside r 472 484 z6 z7 f7 i l (λ at. h.dates (at.0, omega (arith, at.1)))
      ∙ byte_beside r 432 (433 + length name) z5 z6 f6 i l h.name
      ∙ byte_beside r 420 432 z4 z5 f5 i l h.root_date
      ∙ byte_beside r 316 (316 + 4 * page_count n) z3 z4 f4 i l (λ at. h.pages (omega (arith, at.0), at.1))
      ∙ byte_beside r 312 316 z2 z3 f3 i l (λ at. h.pages (at.0, omega (arith, at.1)))
      ∙ byte_beside r 12 16 z1 z2 f2 i l h.table_size
      ∙ byte_beside r 0 4 z0 z1 f1 i l (λ at. h.primary at.1)
      ∙ zero i l

  between_slots : (i : ℕ) → 24 ≤ i → i < 312 → IsBetweenFields (page_count n) (length name) i
  between_slots i l m = record {
    primary = λ at. omega (arith, at, l);
    table_size = λ at. omega (arith, at.1, l);
    sum = λ at. omega (arith, at.1, l);
    pages = λ at. omega (arith, at.0, m);
    root_date = λ at. omega (arith, at.0, m);
    name = λ at. omega (arith, at.0, m);
    dates = λ at. omega (arith, at.0, m);
    secondary = λ at. omega (arith, at, m);
  }

  between_parent : (i : ℕ) → 500 ≤ i → i < 504 → IsBetweenFields (page_count n) (length name) i
  between_parent i l m = record {
    primary = λ at. omega (arith, at, l);
    table_size = λ at. omega (arith, at.1, l);
    sum = λ at. omega (arith, at.1, l);
    pages = λ at. omega (arith, at.1, l, small);
    root_date = λ at. omega (arith, at.1, l);
    name = λ at. omega (arith, at.1, l, short);
    dates = λ at. omega (arith, at.1, l);
    secondary = λ at. omega (arith, at, m);
  }

  zero_slot : (i : ℕ) → 6 ≤ i → i < 78 → long z10 r i ≡ 0
  zero_slot i l m = zero_long z10 r i (λ k e. between k (omega arith) (between_slots k (omega arith) (omega arith)))

  zero_parent : long z10 r 125 ≡ 0
  zero_parent = zero_long z10 r 125 (λ k e. between k (omega arith) (between_parent k (omega arith) (omega arith)))

  kept_date : (i : ℕ) (z : List ℕ) → ((j : ℕ) → i ≤ j → j < i + 3 → long z10 r j ≡ long z r j) → date_at z r i ≡ moment → date_at z10 r i ≡ moment
  kept_date i z same date = (λ k. record { days = same i (omega arith) (omega arith) k; minutes = same (i + 1) (omega arith) (omega arith) k; ticks = same (i + 2) (omega arith) (omega arith) k }) ∙ date

  -- the name is not overwritten
  behind_name : (i : ℕ) → 432 ≤ i → i < 472 → byte_at z10 r i ≡ byte_at z6 r i
  behind_name i l m =
      byte_beside r 20 24 z9 z10 f10 i (omega arith) (λ at. omega (arith, at.1, l))
      ∙ byte_beside r 508 512 z8 z9 f9 i (omega arith) (λ at. omega (arith, at.0, m))
      ∙ byte_beside r 484 496 z7 z8 f8 i (omega arith) (λ at. omega (arith, at.0, m))
      ∙ byte_beside r 472 484 z6 z7 f7 i (omega arith) (λ at. omega (arith, at.0, m))

  later : SameBut (λ c k. (c ≢ r) ⊎ ((k < 432) ⊎ (472 ≤ k))) z6 z10
  later = record {
    same_length = f10.same_length ∙ f9.same_length ∙ f8.same_length ∙ f7.same_length;
    same_byte = λ b i l un. elim (cases_eq b r) [
      | inr other ↦ absurd (un (inl other))
      | inl same ↦ elim (cases_lt i 432) [
        | inl low ↦ absurd (un (inr (inl low)))
        | inr from ↦ elim (cases_lt i 472) [
          | inl within ↦ ap (λ (c : ℕ). byte_at z10 c i) same ∙ behind_name i from within ∙ ap (λ (c : ℕ). byte_at z6 c i) (sym same)
          | inr behind ↦ absurd (un (inr (inr behind)))
        ]
      ]
    ];
  }

  kept_name : HasText z6 r 432 name → HasText z10 r 432 name
  kept_name h = record {
    counted = behind_name 432 (omega arith) (omega arith) ∙ h.counted;
    follows = same_bytes_at _ z6 z10 later r 433 (length name) (omega arith)
        (λ k l m at. elim at [ inl other ↦ other refl | inr side ↦ elim side [ inl low ↦ omega (arith, low, l) | inr high ↦ omega (arith, high, m, short) ] ]) ∙ h.follows;
  }

  pub blank_root_is : long z1 r 0 ≡ 2 → long z2 r 3 ≡ 72 → long z3 r 78 ≡ 2 ^ 32 - 1 → ((p : ℕ) → p < page_count n → long z4 r (79 + p) ≡ r + 1 + p)
      → date_at z5 r 105 ≡ moment → HasText z6 r 432 name → date_at z7 r 118 ≡ moment → date_at z8 r 121 ≡ moment → long z9 r 127 ≡ 1 → block_sum z10 r ≡ 0
      → IsBlankRoot n name moment z10
  blank_root_is primary size valid pages root_date text disk_date creation_date secondary sum =
      subst (λ (q : ℕ). HasBlankFields n q name moment z10) r_is (record {
        primary = kept1 0 (omega arith) ∙ primary;
        table_size = kept2 3 (omega arith) (omega arith) ∙ size;
        table = λ s l. zero_slot (6 + s) (omega arith) (omega arith);
        valid = kept3 78 (omega arith) (omega arith) ∙ valid;
        pages = λ i l. kept4 (79 + i) (omega (arith, l, small)) (omega arith) ∙ pages i l;
        root_date = kept_date 105 z5 (λ j l m. kept5 j (omega arith) (omega arith)) root_date;
        root_name = kept_name text;
        disk_date = kept_date 118 z7 (λ j l m. kept7 j (omega arith) (omega arith)) disk_date;
        creation_date = kept_date 121 z8 (λ j l m. kept8 j (omega arith) (omega arith)) creation_date;
        parent = zero_parent;
        secondary = kept9 127 (omega arith) (omega arith) ∙ secondary;
        sum = sum;
        zero = between;
      })
