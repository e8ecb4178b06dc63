-- Linked lists of blocks: the links of a list, of a prefix and of its rest, and the list after one link changed.
use Rattle.ados_chain.proofs.Common.{◌≡◌, ◌≢◌, ℕ, zero, suc, ◌<◌, ◌≤◌, ◌⊎◌, inl, cond, ◌==◌, List, [], ◌∷◌, ◌++◌, length, Contains, refl, sym, ap, ap₂, ◌∙◌, subst, arith, ne_eqb, long, Chained, NEXT_IN_CHAIN, CHECKSUM, link_block, link_long, Once, Once-tail, Once-head, Contains-here, Contains-later}

-- block 0 is not in the list; it ends it
abbrev pub NoneZero : List ℕ → Type 0
NoneZero keys = (key : ℕ) → Contains keys key → key ≢ 0

pub NoneZero-tail : (key : ℕ) (keys : List ℕ) → NoneZero (key ∷ keys) → NoneZero keys
NoneZero-tail key keys h k m = h k (Contains-later key keys k m)

-- links have one list
pub Chained-unique : (image : List ℕ) (link first : ℕ) (xs ys : List ℕ) → NoneZero xs → NoneZero ys → Chained image link first xs → Chained image link first ys → xs ≡ ys
Chained-unique image link first [] [] m n c d = refl
Chained-unique image link first [] (y ∷ ys) m n c d = absurd (n y (Contains-here y ys) (sym d.0 ∙ c))
Chained-unique image link first (x ∷ xs) [] m n c d = absurd (m x (Contains-here x xs) (sym c.0 ∙ d))
Chained-unique image link first (x ∷ xs) (y ∷ ys) m n c d =
    let same : y ≡ x = sym d.0 ∙ c.0 in
    let rest : Chained image link (long image x link) ys = subst (λ (z : ℕ). Chained image link (long image z link) ys) same d.1 in
    ap₂ (λ (z : ℕ) (zs : List ℕ). z ∷ zs) (sym same) (Chained-unique image link (long image x link) xs ys (NoneZero-tail x xs m) (NoneZero-tail y ys n) c.1 rest)

-- a list stays the same if its links do
pub Chained-kept : (old new : List ℕ) (link first : ℕ) (xs : List ℕ) → ((b : ℕ) → Contains xs b → long new b link ≡ long old b link) → Chained old link first xs → Chained new link first xs
Chained-kept old new link first [] same c = c
Chained-kept old new link first (x ∷ xs) same c =
    (c.0, Chained-kept old new link (long new x link) xs (λ b m. same b (Contains-later x xs b m)) (subst (λ (n : ℕ). Chained old link n xs) (sym (same x (Contains-here x xs))) c.1))

-- the link after the first entries of a list starts the rest
pub Chained-behind : (image : List ℕ) (block i : ℕ) (front rest : List ℕ) → Chained image NEXT_IN_CHAIN (long image block i) (front ++ rest) → Chained image NEXT_IN_CHAIN (long image (link_block block front) (link_long i front)) rest
Chained-behind image block i [] rest c = c
Chained-behind image block i (key ∷ keys) rest c = Chained-behind image key NEXT_IN_CHAIN keys rest c.1

-- the link after some entries is in the last of them
pub link_block-in : (key : ℕ) (keys : List ℕ) → Contains (key ∷ keys) (link_block key keys)
link_block-in key [] = Contains-here key []
link_block-in key (next ∷ keys) = Contains-later key (next ∷ keys) (link_block next keys) (link_block-in next keys)

pub link_long-entry : (keys : List ℕ) → link_long NEXT_IN_CHAIN keys ≡ NEXT_IN_CHAIN
link_long-entry [] = refl
link_long-entry (key ∷ keys) = link_long-entry keys

pub link_block-push : (block : ℕ) (keys : List ℕ) (key : ℕ) → link_block block (keys ++ key ∷ []) ≡ key
link_block-push block [] key = refl
link_block-push block (next ∷ keys) key = link_block-push next keys key

pub link_long-push : (i : ℕ) (keys : List ℕ) (key : ℕ) → link_long i (keys ++ key ∷ []) ≡ NEXT_IN_CHAIN
link_long-push i [] key = refl
link_long-push i (next ∷ keys) key = link_long-push NEXT_IN_CHAIN keys key

-- every long is unchanged, except long i of a block, the next-in-chain long of a key, and checksums
abbrev pub KeepsLongs : ℕ → ℕ → ℕ → List ℕ → List ℕ → Type 0
KeepsLongs block i key old new = (b j : ℕ) → j < 128 → j ≢ CHECKSUM → (b ≢ block) ⊎ (j ≢ i) → (b ≢ key) ⊎ (j ≢ NEXT_IN_CHAIN) → long new b j ≡ long old b j

-- a new rest after the link, and the same entries before it
pub Chained-relinked : (old new : List ℕ) (block i key : ℕ) (front rest rest' : List ℕ) → i < 128 → i ≢ CHECKSUM → ¬ Contains front block → Once front → key ≢ block → ¬ Contains front key
    → KeepsLongs (link_block block front) (link_long i front) key old new
    → Chained old NEXT_IN_CHAIN (long old block i) (front ++ rest)
    → Chained new NEXT_IN_CHAIN (long new (link_block block front) (link_long i front)) rest'
    → Chained new NEXT_IN_CHAIN (long new block i) (front ++ rest')
Chained-relinked old new block i key [] rest rest' l n h o m a kept c d = d
Chained-relinked old new block i key (k ∷ ks) rest rest' l n h o m a kept c d =
    let apart : block ≢ link_block k ks = λ e. h (subst (Contains (k ∷ ks)) (sym e) (link_block-in k ks)) in
    let same : long new block i ≡ long old block i = kept block i l n (inl apart) (inl (λ e. m (sym e))) in
    (same ∙ c.0, Chained-relinked old new k NEXT_IN_CHAIN key ks rest rest' (omega arith) (omega arith) (Once-head k ks o) (Once-tail k ks o) (λ e. a (subst (Contains (k ∷ ks)) (sym e) (Contains-here k ks))) (λ r. a (Contains-later k ks key r)) kept c.1 d)

-- the number of links from a first block to block 0, at most n: the measure of a walk
abbrev pub steps : List ℕ → ℕ → ℕ → ℕ
steps image zero first = 0
steps image (suc n) first = cond (first == 0) 0 (suc (steps image n (long image first NEXT_IN_CHAIN)))

pub steps-length : (image : List ℕ) (n first : ℕ) (keys : List ℕ) → NoneZero keys → length keys ≤ n → Chained image NEXT_IN_CHAIN first keys → steps image n first ≡ length keys
steps-length image zero first [] h l c = refl
steps-length image zero first (key ∷ keys) h l c = absurd (omega arith)
steps-length image (suc n) first [] h l c = rw c refl
steps-length image (suc n) first (key ∷ keys) h l c =
    rw (c.0, ne_eqb key 0 (h key (Contains-here key keys))) (ap suc (steps-length image n (long image key NEXT_IN_CHAIN) keys (NoneZero-tail key keys h) (omega arith) c.1))
