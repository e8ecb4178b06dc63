-- Facts about each number below another, found by computation.
use Rattle.ados_model.proofs.Common.{◌≡◌, ℕ, suc, ◌<◌, ◌≤◌, Bool, true, ◌&&◌, not, nat_lt, ◌==◌, List, length, slice_index, arith, eqb-true, ltb-true, agree_below, agree_below_at, nat_tests, All-from_get_or, IsName, IsNameByte, IsComment}

abbrev pub all_below : (ℕ → Bool) → ℕ → Bool
all_below test n = agree_below test (λ k. true) n

pub equal_below : (f g : ℕ → ℕ) (n : ℕ) → all_below (λ k. f k == g k) n ≡ true → (k : ℕ) → k < n → f k ≡ g k
equal_below f g n e k l = eqb-true (f k) (g k) (agree_below_at (λ j. f j == g j) (λ j. true) n k e l)

pub equal_up_to : (f g : ℕ → ℕ) (n : ℕ) → all_below (λ k. f k == g k) (suc n) ≡ true → (k : ℕ) → k ≤ n → f k ≡ g k
equal_up_to f g n e k l = equal_below f g (suc n) e k (omega arith)

abbrev is_name_byte : ℕ → Bool
is_name_byte c = nat_lt c 256 && (not (c == 47) && not (c == 58))

name_byte : (c : ℕ) → is_name_byte c ≡ true → IsNameByte c
name_byte c e = grind (arith, nat_tests)

pub a_name : (text : List ℕ) → 1 ≤ length text → length text ≤ 30 → all_below (λ k. is_name_byte (slice_index text k)) (length text) ≡ true → IsName text
a_name text low high e = record {
  not_empty = low;
  short = high;
  plain = All-from_get_or IsNameByte text 0 (λ k l. name_byte (slice_index text k) (agree_below_at (λ j. is_name_byte (slice_index text j)) (λ j. true) (length text) k e l));
}

pub a_comment : (text : List ℕ) → length text ≤ 79 → all_below (λ k. nat_lt (slice_index text k) 256) (length text) ≡ true → IsComment text
a_comment text high e = record {
  short = high;
  bytes = All-from_get_or (λ c. c < 256) text 0 (λ k l. ltb-true (slice_index text k) 256 (agree_below_at (λ j. nat_lt (slice_index text j) 256) (λ j. true) (length text) k e l));
}
