-- Linked lists of blocks, and their marks.
use Rattle.ados_check.proofs.Common.{◌≡◌, ◌≢◌, ℕ, zero, suc, ◌<◌, ◌⊎◌, inl, inr, ◌==◌, if◌then◌else◌, List, [], ◌∷◌, length, slice_index, Option, Some, refl, sym, ap, ◌∙◌, subst, arith, eq-eqb, ne_eqb, cases_eq, long, Chained, Role, Mark, mark_at, mark_of}
use Rattle.ados_check.proofs.Counting.{AreDifferent, different_few}

-- the list starts at the first block and follows the link; no block of it is 0
pub record IsPath (image : List ℕ) (link first : ℕ) (xs : List ℕ) : Type 0 where
  pub head : 0 < length xs → slice_index xs 0 ≡ first
  pub linked : (i : ℕ) → suc i < length xs → long image (slice_index xs i) link ≡ slice_index xs (suc i)
  pub not_zero : (i : ℕ) → i < length xs → slice_index xs i ≢ 0

-- the blocks along the link, at most n
unfoldable pub follow : ℕ → List ℕ → ℕ → ℕ → List ℕ
follow zero image link first = []
follow (suc n) image link first = if first == 0 then [] else first ∷ follow n image link (long image first link)

path-nil : (image : List ℕ) (link first : ℕ) → IsPath image link first []
path-nil image link first = record {
  head = λ l. absurd (omega (arith, l));
  linked = λ i l. absurd (omega (arith, l));
  not_zero = λ i l. absurd (omega (arith, l));
}

path-more : (image : List ℕ) (link first : ℕ) (xs : List ℕ) → first ≢ 0 → IsPath image link (long image first link) xs → IsPath image link first (first ∷ xs)
path-more image link first xs n p = record { head = λ l. refl; linked = linked; not_zero = not_zero }
  where
    linked : (i : ℕ) → suc i < length (first ∷ xs) → long image (slice_index (first ∷ xs) i) link ≡ slice_index (first ∷ xs) (suc i)
    linked zero l = sym (p.head (omega arith))
    linked (suc i) l = p.linked i (omega arith)

    not_zero : (i : ℕ) → i < length (first ∷ xs) → slice_index (first ∷ xs) i ≢ 0
    not_zero zero l = n
    not_zero (suc i) l = p.not_zero i (omega arith)

pub follow-path : (n : ℕ) (image : List ℕ) (link first : ℕ) → IsPath image link first (follow n image link first)
unfolding follow
follow-path zero image link first = path-nil image link first
follow-path (suc n) image link first = go (cases_eq first 0) (follow-path n image link (long image first link))
  where
    go : (first ≡ 0) ⊎ (first ≡ 0 → ⊥) → IsPath image link (long image first link) (follow n image link (long image first link)) → IsPath image link first (follow (suc n) image link first)
    go (inl z) rest = rw (eq-eqb first 0 z) (path-nil image link first)
    go (inr m) rest = rw (ne_eqb first 0 m) (path-more image link first _ m rest)

-- the list ends, or n blocks were followed
pub follow-ends : (n : ℕ) (image : List ℕ) (link first : ℕ) → Chained image link first (follow n image link first) ⊎ (length (follow n image link first) ≡ n)
unfolding follow
follow-ends zero image link first = inr refl
follow-ends (suc n) image link first = go (cases_eq first 0) (follow-ends n image link (long image first link))
  where
    go : (first ≡ 0) ⊎ (first ≡ 0 → ⊥) → Chained image link (long image first link) (follow n image link (long image first link)) ⊎ (length (follow n image link (long image first link)) ≡ n) → Chained image link first (follow (suc n) image link first) ⊎ (length (follow (suc n) image link first) ≡ suc n)
    go (inl z) rest = rw (eq-eqb first 0 z) (inl z)
    go (inr m) (inl c) = rw (ne_eqb first 0 m) (inl (refl, c))
    go (inr m) (inr e) = rw (ne_eqb first 0 m) (inr (omega (arith, e)))

-- a linked list without 0 is a path
pub chained_path : (image : List ℕ) (link first : ℕ) (xs : List ℕ) → Chained image link first xs → ((i : ℕ) → i < length xs → slice_index xs i ≢ 0) → IsPath image link first xs
chained_path image link first [] c n = path-nil image link first
chained_path image link first (x ∷ xs) c n =
    let rest = chained_path image link (long image x link) xs c.1 (λ i l. n (suc i) (omega arith)) in
    subst (λ (f : ℕ). IsPath image link f (x ∷ xs)) (sym c.0) (path-more image link x xs (n 0 (omega arith)) rest)

-- the block with the long that names position k of a path, and the index of that long
abbrev pub holder_along : ℕ → List ℕ → ℕ → ℕ
holder_along holder xs zero = holder
holder_along holder xs (suc k) = slice_index xs k

abbrev pub long_along : ℕ → ℕ → ℕ → ℕ
long_along at link zero = at
long_along at link (suc k) = link

-- the blocks along a link are marked with it
pub record AreMarkedAlong (image : List ℕ) (marks : List (Option Mark)) (role : Role) (link first holder at : ℕ) : Type 0 where
  pub begins : first ≢ 0 → mark_at marks first ≡ Some (mark_of role holder at)
  pub goes_on : (b h l : ℕ) → mark_at marks b ≡ Some (mark_of role h l) → long image b link ≢ 0 → mark_at marks (long image b link) ≡ Some (mark_of role b link)
  -- the long that names the first block is not a link of the path
  pub apart : (h l : ℕ) → mark_at marks holder ≡ Some (mark_of role h l) → at ≢ link

module _ (image : List ℕ) (marks : List (Option Mark)) (role : Role) (link first holder at : ℕ) (along : AreMarkedAlong image marks role link first holder at) (xs : List ℕ) (path : IsPath image link first xs) where
  -- each block of the path is marked with the long that names it
  pub marked_along : (k : ℕ) → k < length xs → mark_at marks (slice_index xs k) ≡ Some (mark_of role (holder_along holder xs k) (long_along at link k))
  marked_along zero l =
      let here = path.head l in
      ap (mark_at marks) here ∙ along.begins (λ z. path.not_zero 0 l (here ∙ z))
  marked_along (suc k) l =
      let next = path.linked k l in
      let before = marked_along k (omega arith) in
      ap (mark_at marks) (sym next) ∙ along.goes_on (slice_index xs k) (holder_along holder xs k) (long_along at link k) before (λ z. path.not_zero (suc k) l (sym next ∙ z))

  same_mark : (k j : ℕ) → k < length xs → j < length xs → slice_index xs k ≡ slice_index xs j → mark_of role (holder_along holder xs k) (long_along at link k) ≡ mark_of role (holder_along holder xs j) (long_along at link j)
  same_mark k j l m e =
      let one = marked_along k l in
      let other = marked_along j m in
      let blocks = ap (mark_at marks) e in
      cc (one, other, blocks)

  not_first : (j : ℕ) → suc j < length xs → 0 < length xs → slice_index xs 0 ≡ slice_index xs (suc j) → ⊥
  not_first j m l e =
      let same = same_mark 0 (suc j) l m e in
      let holders : holder ≡ slice_index xs j = ap (λ (m : Mark). m.holder) same in
      let longs : at ≡ link = ap (λ (m : Mark). m.long) same in
      along.apart (holder_along holder xs j) (long_along at link j) (ap (mark_at marks) holders ∙ marked_along j (omega arith)) longs

  -- no block occurs twice on the path
  pub once_along : AreDifferent xs
  once_along zero zero l m e = refl
  once_along zero (suc j) l m e = absurd (not_first j m l e)
  once_along (suc k) zero l m e = absurd (not_first k l m (sym e))
  once_along (suc k) (suc j) l m e =
      let same = same_mark (suc k) (suc j) l m e in
      let holders : slice_index xs k ≡ slice_index xs j = ap (λ (m : Mark). m.holder) same in
      ap (λ (n : ℕ). suc n) (once_along k j (omega arith) (omega arith) holders)

-- if the marked blocks are below n, n + 1 links reach the end
pub follow-chained : (image : List ℕ) (marks : List (Option Mark)) (role : Role) (link first holder at : ℕ) → AreMarkedAlong image marks role link first holder at
    → (n : ℕ) → ((b : ℕ) (m : Mark) → mark_at marks b ≡ Some m → b < n) → Chained image link first (follow (suc n) image link first)
follow-chained image marks role link first holder at along n below = go (follow-ends (suc n) image link first)
  where
    go : Chained image link first (follow (suc n) image link first) ⊎ (length (follow (suc n) image link first) ≡ suc n) → Chained image link first (follow (suc n) image link first)
    go (inl c) = c
    go (inr e) =
        let xs = follow (suc n) image link first in
        let path = follow-path (suc n) image link first in
        let few = different_few n (follow (suc n) image link first) (λ i l. below _ _ (marked_along image marks role link first holder at along (follow (suc n) image link first) path i l)) (once_along image marks role link first holder at along (follow (suc n) image link first) path) in
        absurd (omega (arith, few, e))
