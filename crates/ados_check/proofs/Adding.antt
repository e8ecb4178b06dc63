-- One more block at the end of an image.
use Rattle.ados_check.proofs.Common.{◌≡◌, ◌≢◌, ℕ, ◌+◌, ◌-◌, ◌*◌, ◌%◌, ◌^◌, ◌<◌, ◌≤◌, ◌++◌, ◌∷◌, [], ◌==◌, inl, inr, List, length, take, get_or, slice_index, Option, None, Some, MatchOption, if◌then◌else◌, arith, ap, sym, ◌∙◌, refl, subst, length-take, cases_lt, get_or-take, get_or_append_left, get_or-append_right, byte_at, long, block_sum, long-bytes, long-same, total-same, AreKept, StandsAt, kept_length, start_of, append-nil, length-append}
use Rattle.ados_check.proofs.Reading.{within}

-- a byte of the old blocks
old_byte : (image block : List ℕ) (b k : ℕ) → 512 * b + k < length image → byte_at (image ++ block) b k ≡ byte_at image b k
unfolding byte_at
old_byte image block b k lt = get_or_append_left image block 0 (512 * b + k) lt

-- a byte of the new block
new_byte : (image block : List ℕ) (n k : ℕ) → length image ≡ 512 * n → byte_at (image ++ block) n k ≡ byte_at block 0 k
unfolding byte_at
new_byte image block n k whole =
    get_or-append_right image block (512 * n) (512 * n + k) 0 whole (omega arith) ∙ ap (slice_index block) (omega arith)

old_long : (image block : List ℕ) (n b i : ℕ) → length image ≡ 512 * n → b < n → i < 128 → long (image ++ block) b i ≡ long image b i
old_long image block n b i whole lt small = long-same image (image ++ block) b i (λ k at. old_byte image block b k (omega (arith, at, whole, lt, small)))

new_long : (image block : List ℕ) (n i : ℕ) → length image ≡ 512 * n → long (image ++ block) n i ≡ long block 0 i
new_long image block n i whole =
    let byte = λ (k : ℕ). new_byte image block n k whole in
    long-bytes (image ++ block) n i ∙ rw (byte (4 * i + 0), byte (4 * i + 1), byte (4 * i + 2), byte (4 * i + 3)) (sym (long-bytes block 0 i))

old_sum : (image block : List ℕ) (n b : ℕ) → length image ≡ 512 * n → b < n → block_sum (image ++ block) b ≡ block_sum image b
unfolding block_sum
old_sum image block n b whole lt = ap (λ (t : ℕ). t % 2 ^ 32) (total-same (long image b) (long (image ++ block) b) 128 (λ j small. old_long image block n b j whole lt small))

new_sum : (image block : List ℕ) (n : ℕ) → length image ≡ 512 * n → block_sum (image ++ block) n ≡ block_sum block 0
unfolding block_sum
new_sum image block n whole = ap (λ (t : ℕ). t % 2 ^ 32) (total-same (long block 0) (long (image ++ block) n) 128 (λ j small. new_long image block n j whole))

-- blocks with the same type keep equally many bytes
same_length : (image other : List ℕ) (b c : ℕ) → long image b 0 ≡ long other c 0 → kept_length image b ≡ kept_length other c
same_length image other b c same = ap (λ (type : ℕ). if type == 8 then 24 else 512) same

-- an old block is at the same position
stands_still : (kept more image block : List ℕ) (n b start : ℕ) → length image ≡ 512 * n → b < n → StandsAt kept image b start → StandsAt (kept ++ more) (image ++ block) b start
stands_still kept more image block n b start whole lt stands =
    let same = same_length (image ++ block) image b b (old_long image block n b 0 whole lt (omega arith)) in
    record {
      sum = old_sum image block n b whole lt ∙ stands.sum;
      within = omega (arith, same, stands.within, length-append kept more);
      same = λ k below.
          let inside : k < kept_length image b = omega (arith, same, below) in
          let few : kept_length image b ≤ 512 = (within image b).1 in
          get_or_append_left kept more 0 (start + k) (omega (arith, stands.within, inside))
          ∙ stands.same k inside
          ∙ sym (old_byte image block b k (omega (arith, whole, lt, inside, few)));
    }

-- the last of some positions, and those before it
start_before : (starts : List (Option ℕ)) (start : Option ℕ) (b : ℕ) → b < length starts → start_of (starts ++ start ∷ []) b ≡ start_of starts b
start_before starts start b lt = get_or_append_left starts (start ∷ []) None b lt

start_last : (starts : List (Option ℕ)) (start : Option ℕ) (n : ℕ) → n ≡ length starts → start_of (starts ++ start ∷ []) n ≡ start
start_last starts start n at =
    let first : n - n ≡ 0 = omega arith in
    get_or-append_right starts (start ∷ []) n n None (sym at) (omega arith) ∙ ap (λ (k : ℕ). get_or (start ∷ []) k None) first

-- one more block is added
added : (starts : List (Option ℕ)) (kept more image block : List ℕ) (start : Option ℕ) → length block ≡ 512 → ((i : ℕ) → slice_index block i < 256) → length more ≤ 512
    → AreKept starts kept image
    → MatchOption start (block_sum (image ++ block) (length starts) ≢ 0) (StandsAt (kept ++ more) (image ++ block) (length starts))
    → AreKept (starts ++ start ∷ []) (kept ++ more) (image ++ block)
added starts kept more image block start size small few are new =
    let count : length (starts ++ start ∷ []) ≡ length starts + 1 = length-append starts (start ∷ []) in
    record {
      whole = omega (arith, are.whole, size, count, length-append image block);
      byte = λ i. elim (cases_lt i (length image)) [
        | inl before ↦ let P : ℕ → Type 0 = λ n. n < 256 in subst P (sym (get_or_append_left image block 0 i before)) (are.byte i)
        | inr behind ↦ let P : ℕ → Type 0 = λ n. n < 256 in subst P (sym (get_or-append_right image block (length image) i 0 refl behind)) (small (i - length image))
      ];
      noted = λ b lt. elim (cases_lt b (length starts)) [
        | inl before ↦
            subst (λ (o : Option ℕ). MatchOption o (block_sum (image ++ block) b ≢ 0) (StandsAt (kept ++ more) (image ++ block) b)) (sym (start_before starts start b before))
            (still (start_of starts b) b before (are.noted b before))
        | inr behind ↦
            let at : b ≡ length starts = omega (arith, lt, behind, count) in
            subst (λ (c : ℕ). MatchOption (start_of (starts ++ start ∷ []) c) (block_sum (image ++ block) c ≢ 0) (StandsAt (kept ++ more) (image ++ block) c)) (sym at)
            (subst (λ (o : Option ℕ). MatchOption o (block_sum (image ++ block) (length starts) ≢ 0) (StandsAt (kept ++ more) (image ++ block) (length starts))) (sym (start_last starts start (length starts) refl)) new)
      ];
      room = omega (arith, are.room, few, count, length-append kept more);
    }
  where
    still : (o : Option ℕ) (b : ℕ) → b < length starts → MatchOption o (block_sum image b ≢ 0) (StandsAt kept image b) → MatchOption o (block_sum (image ++ block) b ≢ 0) (StandsAt (kept ++ more) (image ++ block) b)
    still None b lt not = λ z. not (sym (old_sum image block (length starts) b are.whole lt) ∙ z)
    still (Some s) b lt stands = stands_still kept more image block (length starts) b s are.whole lt stands

-- a block with a wrong checksum
pub added_none : (starts : List (Option ℕ)) (kept image block : List ℕ) → length block ≡ 512 → ((i : ℕ) → slice_index block i < 256) → block_sum block 0 ≢ 0
    → AreKept starts kept image → AreKept (starts ++ None ∷ []) kept (image ++ block)
added_none starts kept image block size small not are =
    subst (λ (k : List ℕ). AreKept (starts ++ None ∷ []) k (image ++ block)) (append-nil kept)
    (added starts kept [] image block None size small (omega arith) are (λ z. not (sym (new_sum image block (length starts) are.whole) ∙ z)))

first_byte : (block : List ℕ) (k : ℕ) → byte_at block 0 k ≡ slice_index block k
unfolding byte_at
first_byte block k = ap (slice_index block) (omega arith)

-- a block with a right checksum, some of whose bytes are kept
pub added_some : (starts : List (Option ℕ)) (kept image block : List ℕ) → length block ≡ 512 → ((i : ℕ) → slice_index block i < 256) → block_sum block 0 ≡ 0
    → AreKept starts kept image → AreKept (starts ++ Some (length kept) ∷ []) (kept ++ take (kept_length block 0) block) (image ++ block)
added_some starts kept image block size small zero are =
    let n = length starts in
    let few = (within block 0).1 in
    let taken : length (take (kept_length block 0) block) ≡ kept_length block 0 = omega (arith, few, size, length-take (kept_length block 0) block) in
    let same = same_length (image ++ block) block n 0 (new_long image block n 0 are.whole) in
    added starts kept (take (kept_length block 0) block) image block (Some (length kept)) size small (omega (arith, few, taken)) are (record {
      sum = new_sum image block n are.whole ∙ zero;
      within = omega (arith, same, taken, length-append kept (take (kept_length block 0) block));
      same = λ k below.
          let inside : k < kept_length block 0 = omega (arith, same, below) in
          get_or-append_right kept (take (kept_length block 0) block) (length kept) (length kept + k) 0 refl (omega arith)
          ∙ ap (slice_index (take (kept_length block 0) block)) (omega arith)
          ∙ get_or-take (kept_length block 0) block k 0 inside
          ∙ sym (first_byte block k)
          ∙ sym (new_byte image block n k are.whole);
    })
