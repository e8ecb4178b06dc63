-- Parts of a chain of header and extension blocks: from a later block on, and the first blocks with a chain after them.
use Rattle.ados_faults.proofs.Common.{◌≡◌, ℕ, zero, suc, ◌+◌, ◌-◌, ◌<◌, ◌≤◌, inl, inr, List, [], ◌∷◌, ◌++◌, length, take, drop, slice_index, sym, ap, ◌∙◌, subst, arith, Contains, cases_lt, append-nil, get_or-append-add, get_or_append_left, get_or_default, length-append, take_all, take_more, long, InImage, LinkedOnce, last_link, IsChain, block_count, length-once}
use Rattle.ados_faults.proofs.Linking.{chain_more, chain_whole}
use Rattle.std.proofs.lemmas.List.{append_assoc, get_or-drop, get_or-take, length-drop, length-take}

module _ (image : List ℕ) (link first : ℕ) (xs : List ℕ) (linked : LinkedOnce image link first xs) (ends : ¬ InImage image (last_link image link xs)) (k : ℕ) (l : k < length xs) where
  at : (i : ℕ) → slice_index (drop k xs) i ≡ slice_index xs (k + i)
  at i = get_or-drop k xs i 0

  size : length (drop k xs) ≡ length xs - k
  size = length-drop k xs

  pub last_same : last_link image link (drop k xs) ≡ last_link image link xs
  last_same =
      let e : k + (length (drop k xs) - 1) ≡ length xs - 1 = omega (arith, size, l) in
      ap (λ (b : ℕ). long image b link) (at (length (drop k xs) - 1) ∙ ap (slice_index xs) e)

  -- the chain from a later block on
  pub from_later : LinkedOnce image link (slice_index xs k) (drop k xs)
  from_later = record {
    not_empty = omega (arith, size, l);
    head = let e : k + 0 ≡ k = omega arith in at 0 ∙ ap (slice_index xs) e;
    linked = λ i m.
        let e : k + i + 1 ≡ k + (i + 1) = omega arith in
        ap (λ (b : ℕ). long image b link) (at i) ∙ linked.linked (k + i) (omega (arith, m, size)) ∙ ap (slice_index xs) e ∙ sym (at (i + 1));
    inside = λ i m.
        let e : k + i + 1 ≡ k + (i + 1) = omega arith in
        subst (InImage image) (ap (slice_index xs) e ∙ sym (at (i + 1))) (linked.inside (k + i) (omega (arith, m, size)));
    once = λ i j d less m e. linked.once (k + i) (k + j) d (omega (arith, less)) (omega (arith, m, size)) (sym (get_or-drop k xs i d) ∙ e ∙ get_or-drop k xs j d);
    whole = λ inside. absurd (ends (subst (InImage image) last_same inside));
  }

-- a chain that ends outside the image, after the first blocks of another one
module _ (image : List ℕ) (link : ℕ) (xs : List ℕ) (c : IsChain image link xs) (next : ℕ) (leads : last_link image link xs ≡ next) (ys : List ℕ) (linked : LinkedOnce image link next ys) (ends : ¬ InImage image (last_link image link ys)) (inside : InImage image next) where
  last_of : (i : ℕ) → i < length xs → length xs ≤ i + 1 → long image (slice_index xs i) link ≡ slice_index ys 0
  last_of i l end = let e : i ≡ length xs - 1 = omega (arith, l, end) in ap (λ (k : ℕ). long image (slice_index xs k) link) e ∙ leads ∙ sym linked.head

  -- both go on alike from a common block
  alike : (i j : ℕ) → slice_index xs i ≡ slice_index ys j → (m : ℕ) → i + m < length xs → j < length ys → (j + m < length ys) × (slice_index xs (i + m) ≡ slice_index ys (j + m))
  alike i j e zero l n = let z : i + 0 ≡ i = omega arith in let y : j ≡ j + 0 = omega arith in (omega (arith, n), ap (slice_index xs) z ∙ e ∙ ap (slice_index ys) y)
  alike i j e (suc m) l n =
      let before = alike i j e m (omega (arith, l)) n in
      let on : i + m + 1 ≡ i + suc m = omega arith in
      let to : j + m + 1 ≡ j + suc m = omega arith in
      let same : long image (slice_index ys (j + m)) link ≡ slice_index xs (i + suc m) =
      ap (λ (b : ℕ). long image b link) (sym before.1) ∙ c.linked (i + m) (omega (arith, l)) ∙ ap (slice_index xs) on in
      let there : InImage image (slice_index xs (i + suc m)) = c.inside (i + suc m) 0 l in
      elim (cases_lt (j + m + 1) (length ys)) [
        | inl more ↦ (omega (arith, more), sym same ∙ linked.linked (j + m) more ∙ ap (slice_index ys) to)
        | inr past ↦
            let end : j + m ≡ length ys - 1 = omega (arith, past, before.0) in
            absurd (ends (subst (InImage image) (sym same ∙ ap (λ (k : ℕ). long image (slice_index ys k) link) end) there))
      ]

  -- none of the first blocks is in it
  pub apart : (i j : ℕ) → i < length xs → j < length ys → slice_index xs i ≡ slice_index ys j → ⊥
  apart i j l n e =
      let m = length xs - 1 - i in
      let both = alike i j e m (omega (arith, l)) n in
      let here : length xs ≤ i + m + 1 = omega (arith, l) in
      let back : long image (slice_index ys (j + m)) link ≡ slice_index ys 0 = ap (λ (b : ℕ). long image b link) (sym both.1) ∙ last_of (i + m) (omega (arith, l)) here in
      let there : InImage image (slice_index ys 0) = subst (InImage image) (sym linked.head) inside in
      elim (cases_lt (j + m + 1) (length ys)) [
        | inl more ↦ linked.once 0 (j + m + 1) 0 (omega arith) more (sym back ∙ linked.linked (j + m) more)
        | inr past ↦
            let end : j + m ≡ length ys - 1 = omega (arith, past, both.0) in
            ends (subst (InImage image) (sym back ∙ ap (λ (k : ℕ). long image (slice_index ys k) link) end) there)
      ]

  -- the first blocks with some of those after them
  some_more : (k : ℕ) → k ≤ length ys → IsChain image link (xs ++ take k ys)
  some_more zero l = subst (IsChain image link) (sym (append-nil xs)) c
  some_more (suc k) l =
      let before = some_more k (omega (arith, l)) in
      let m : k < length ys = omega (arith, l) in
      let on : k + 1 ≡ suc k = omega arith in
      let so_far = xs ++ take k ys in
      let size : length so_far ≡ length xs + k = omega (arith, length-append xs (take k ys), length-take k ys, m) in
      subst (IsChain image link) (append_assoc xs (take k ys) (slice_index ys k ∷ []) ∙ ap (λ (zs : List ℕ). xs ++ zs) (sym (take_more ys k 0 m)) ∙ ap (λ (n : ℕ). xs ++ take n ys) on)
      (chain_more image link so_far before (slice_index ys k) (last_so_far k m size) (inside_at k m) (fresh k m size))
    where
      last_so_far : (k : ℕ) → k < length ys → length (xs ++ take k ys) ≡ length xs + k → last_link image link (xs ++ take k ys) ≡ slice_index ys k
      last_so_far zero m size =
          ap (last_link image link) (append-nil xs) ∙ leads ∙ sym linked.head
      last_so_far (suc k) m size =
          let e : length (xs ++ take (suc k) ys) - 1 ≡ length xs + k = omega (arith, size) in
          let on : k + 1 ≡ suc k = omega arith in
          ap (λ (n : ℕ). long image (slice_index (xs ++ take (suc k) ys) n) link) e
          ∙ ap (λ (b : ℕ). long image b link) (get_or-append-add xs (take (suc k) ys) k 0 ∙ get_or-take (suc k) ys k 0 (omega arith))
          ∙ linked.linked k (omega (arith, m)) ∙ ap (slice_index ys) on

      inside_at : (k : ℕ) → k < length ys → InImage image (slice_index ys k)
      inside_at zero m = subst (InImage image) (sym linked.head) inside
      inside_at (suc k) m = let on : k + 1 ≡ suc k = omega arith in subst (λ (n : ℕ). InImage image (slice_index ys n)) on (linked.inside k (omega (arith, m)))

      fresh : (k : ℕ) → k < length ys → length (xs ++ take k ys) ≡ length xs + k → ¬ Contains (xs ++ take k ys) (slice_index ys k)
      fresh k m size (i, l, e) = elim (cases_lt i (length xs)) [
        | inl low ↦ apart i k low m (sym (get_or_append_left xs (take k ys) 0 i low) ∙ get_or_default (xs ++ take k ys) i 0 (slice_index ys k) l ∙ e)
        | inr high ↦
            let j = i - length xs in
            let is : i ≡ length xs + j = omega (arith, high) in
            let less : j < k = omega (arith, is, l, size) in
            let there : slice_index (xs ++ take k ys) i ≡ slice_index ys j = ap (slice_index (xs ++ take k ys)) is ∙ get_or-append-add xs (take k ys) j 0 ∙ get_or-take k ys j 0 less in
            linked.once j k 0 less m (sym there ∙ get_or_default (xs ++ take k ys) i 0 (slice_index ys k) l ∙ e)
      ]

  pub last_joined : last_link image link (xs ++ ys) ≡ last_link image link ys
  last_joined =
      let e : length (xs ++ ys) - 1 ≡ length xs + (length ys - 1) = omega (arith, length-append xs ys, linked.not_empty) in
      ap (λ (n : ℕ). long image (slice_index (xs ++ ys) n) link) e ∙ ap (λ (b : ℕ). long image b link) (get_or-append-add xs ys (length ys - 1) 0)

  pub joined : LinkedOnce image link (slice_index xs 0) (xs ++ ys)
  joined =
      let all : IsChain image link (xs ++ ys) = subst (λ (zs : List ℕ). IsChain image link (xs ++ zs)) (take_all (length ys) ys (omega arith)) (some_more (length ys) (omega arith)) in
      subst (λ (b : ℕ). LinkedOnce image link b (xs ++ ys)) (get_or_append_left xs ys 0 0 c.not_empty)
      (chain_whole image link (xs ++ ys) all (last_link image link ys) last_joined (λ there. absurd (ends there)))

-- a chain from a block inside the image has no more blocks than the image
pub linked_few : (image : List ℕ) (link first : ℕ) (xs : List ℕ) → LinkedOnce image link first xs → InImage image first → length xs ≤ block_count image
linked_few image link first xs linked inside = length-once xs (block_count image) linked.once (λ x h. (subst (InImage image) (get_or_default xs h.0 0 x h.1 ∙ h.2) (each h.0 h.1)).1)
  where
    each : (k : ℕ) → k < length xs → InImage image (slice_index xs k)
    each zero l = subst (InImage image) (sym linked.head) inside
    each (suc k) l = let on : k + 1 ≡ suc k = omega arith in subst (λ (n : ℕ). InImage image (slice_index xs n)) on (linked.inside k (omega (arith, l)))
