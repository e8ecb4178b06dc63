-- What is unchanged when bytes after a block's checksum change, and the checksum with them.
use Rattle.ados_change.proofs.Common.{◌≡◌, ℕ, ◌+◌, ◌*◌, ◌<◌, ◌≤◌, ◌⊎◌, inl, inr, List, length, ap, subst, arith, root_key, long, HasText, SameBut, AtLong, same_trans, same_weaken, same_count, same_long, date_at, root_of, Summed, Restamped}
use Rattle.ados_change.proofs.Unchanged.{text_kept, date_kept}

module _ (key low high : ℕ) (old new : List ℕ) (h : SameBut (Summed key low high) old new) where
  beside : (b i n k : ℕ) → 24 ≤ i → (i + n ≤ low) ⊎ (high ≤ i) → i ≤ k → k < i + n → ¬ Summed key low high b k
  beside b i n k behind side l m w = omega (arith, behind, side, l, m, w)

  pub text_beside : (b i : ℕ) (text : List ℕ) → 24 ≤ i → i + 1 + length text ≤ 512 → (i + (1 + length text) ≤ low) ⊎ (high ≤ i) → HasText old b i text → HasText new b i text
  text_beside b i text behind room side g = text_kept (Summed key low high) old new h b i text (omega (arith, room)) (λ k l m. beside b i (1 + length text) k behind side l (omega (arith, m))) g

  pub long_beside : (b i : ℕ) → i < 128 → 6 ≤ i → (4 * i + 4 ≤ low) ⊎ (high ≤ 4 * i) → long new b i ≡ long old b i
  long_beside b i l behind side = same_long (Summed key low high) old new h b i l (λ k e. beside b (4 * i) 4 k (omega arith) side (omega (arith, e)) (omega (arith, e)))

  pub date_beside : (b i : ℕ) → i + 2 < 128 → 6 ≤ i → (4 * i + 12 ≤ low) ⊎ (high ≤ 4 * i) → date_at new b i ≡ date_at old b i
  date_beside b i l behind side = date_kept (Summed key low high) old new h b i l (λ k m n. beside b (4 * i) 12 k (omega (arith, behind)) side (omega (arith, m)) (omega (arith, n)))

-- a change of the checksum keeps a text after it
pub text_settled : (b i : ℕ) (text old new : List ℕ) → 24 ≤ i → i + 1 + length text ≤ 512 → SameBut (AtLong b 5) old new → HasText old b i text → HasText new b i text
text_settled b i text old new behind room h g =
    text_beside b 20 24 old new (same_weaken (AtLong b 5) (Summed b 20 24) old new (λ c k w. inr w) h) b i text behind room (inr behind) g

-- first some bytes of a block, then the disk date
pub restamped : (key low high : ℕ) (old mid new : List ℕ) → SameBut (Summed key low high) old mid → SameBut (Summed (root_of mid) 472 484) mid new → SameBut (Restamped (root_of old) key low high) old new
restamped key low high old mid new first second =
    let root : root_of mid ≡ root_of old = ap root_key (same_count (Summed key low high) old mid first) in
    same_trans (Restamped (root_of old) key low high) old mid new
    (same_weaken (Summed key low high) (Restamped (root_of old) key low high) old mid (λ b i w. inl w) first)
    (same_weaken (Summed (root_of old) 472 484) (Restamped (root_of old) key low high) mid new (λ b i w. inr w) (subst (λ (r : ℕ). SameBut (Summed r 472 484) mid new) root second))
