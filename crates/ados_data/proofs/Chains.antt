-- A linked list of blocks, link by link.
use Rattle.ados_data.proofs.Common.{◌≡◌, ℕ, zero, suc, ◌<◌, List, [], ◌∷◌, length, slice_index, arith, long, Chained, chain_head}

-- each block is followed by the next one, or by 0
pub next_of : (image : List ℕ) (link first : ℕ) (xs : List ℕ) → Chained image link first xs → (i : ℕ) → i < length xs → long image (slice_index xs i) link ≡ slice_index xs (suc i)
next_of image link first [] c i l = absurd (omega arith)
next_of image link first (x ∷ xs) c zero l = chain_head image link (long image x link) xs c.1
next_of image link first (x ∷ xs) c (suc i) l = next_of image link (long image x link) xs c.1 i (omega arith)

pub chained : (image : List ℕ) (link first : ℕ) (xs : List ℕ) → first ≡ slice_index xs 0 → ((i : ℕ) → i < length xs → long image (slice_index xs i) link ≡ slice_index xs (suc i)) → Chained image link first xs
chained image link first [] f n = f
chained image link first (x ∷ xs) f n = (f, chained image link (long image x link) xs (n 0 (omega arith)) (λ i l. n (suc i) (omega arith)))
