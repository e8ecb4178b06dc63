-- Lists of outlets in which one outlet changes at a time.
use Rattle.std.proofs.Common.{◌≡◌, ◌≢◌, ℕ, zero, suc, ◌+◌, ◌<◌, ◌≤◌, ◌==◌, true, false, List, [], ◌∷◌, ◌++◌, length, set, take, length-append, Some, slice_get, sym, refl, ap, ◌∙◌, subst, arith, ⊎_elim, ◌⊎◌, inl, inr, append_assoc, append-nil}
use Rattle.std.proofs.lemmas.List.{length-set, take_more_set, take-append-drop}
use Rattle.std.proofs.lemmas.Option.{slice_get_within, slice_get-get_or, get_or_from_slice_get}
use Rattle.std.proofs.Math.ListN.{get_or}
use native.Mathlib.Decide.{ℕ_discrete}
use mathlib.Core.Logic.{dite}
use Rattle.std.proofs.lemmas.List.Sums.{sum_by-set, sum_by_push, sum_by-cons}
use Rattle.ados_port.specs.History.{packets_by}
use Rattle.ados_port.specs.steps.Rule.{total}
use Rattle.ados_port.specs.Rings.{OutView, Each, EachLooked, EachOffers, EachOffersFirst, EachStaysPosted, Offers, OffersFirst, StaysPosted, all_of, waiting_count}
use Rattle.ados_port.specs.steps.Sending.{EachGetsRoom, EachHasRoom, GetsRoom, SendsTo, UsesOne}
use Rattle.ados_port.proofs.Packets.{put_lists, same_number, other_number}

same_or_not : (k i : ℕ) → (k ≡ i) ⊎ (k ≢ i)
same_or_not k i = dite (ℕ_discrete k i) (λ e. inl e) (λ n. inr n)

module _ {A : Type 0} where
  pub get_set_same : (xs : List A) (i : ℕ) (y : A) → i < length xs → slice_get (set xs i y) i ≡ Some y
  get_set_same [] i y h = absurd (omega arith)
  get_set_same (x ∷ xs) zero y h = refl
  get_set_same (x ∷ xs) (suc i) y h = get_set_same xs i y (omega arith)

  pub get_set_other : (xs : List A) (i j : ℕ) (y : A) → j ≢ i → slice_get (set xs i y) j ≡ slice_get xs j
  get_set_other [] i j y n = refl
  get_set_other (x ∷ xs) zero zero y n = absurd (n refl)
  get_set_other (x ∷ xs) zero (suc j) y n = refl
  get_set_other (x ∷ xs) (suc i) zero y n = refl
  get_set_other (x ∷ xs) (suc i) (suc j) y n = get_set_other xs i j y (λ e. n (ap suc e))

module _ {T : Type 0} where
  pub each_refl : (R : ℕ → OutView T → OutView T → Type 0) → ((k : ℕ) (o : OutView T) → R k o o) → (xs : List (OutView T)) → Each R xs xs
  each_refl R r xs = (refl, λ k o e. (o, e, r k o))

  pub each_then : (R P Z : ℕ → OutView T → OutView T → Type 0) → ((k : ℕ) (a b c : OutView T) → R k a b → P k b c → Z k a c) → (xs ys zs : List (OutView T)) → Each R xs ys → Each P ys zs → Each Z xs zs
  each_then R P Z t xs ys zs h g = (g.0 ∙ h.0, λ k o e. let a = h.1 k o e in let b = g.1 k a.0 a.1 in (b.0, b.1, t k o a.0 b.0 a.2 b.2))

  -- one more change, at index i
  pub each_set : (R P : ℕ → OutView T → OutView T → Type 0) → ((k : ℕ) (a b c : OutView T) → R k a b → P k b c → R k a c) → (xs ys : List (OutView T)) (i : ℕ) (o p : OutView T)
      → Each R xs ys → i < length ys → o ≡ get_or ys i o → P i o p → Each R xs (set ys i p)
  each_set R P t xs ys i o p h within at step = (
    length-set ys i p ∙ h.0,
    λ k a e. let b = h.1 k a e in ⊎_elim
        (λ (here : k ≡ i).
        let same : b.0 ≡ o = sym (get_or_from_slice_get ys i b.0 o (subst (λ (j : ℕ). slice_get ys j ≡ Some b.0) here b.1)) ∙ sym at in
        let ra : R i a o = subst (λ (z : ℕ × OutView T). R z.0 a z.1) (λ l. (here l, same l)) b.2 in
        (p, subst (λ (j : ℕ). slice_get (set ys i p) j ≡ Some p) (sym here) (get_set_same ys i p within), subst (λ (j : ℕ). R j a p) (sym here) (t i a o p ra step)))
        (λ (other : k ≢ i). (b.0, get_set_other ys i k p other ∙ b.1, b.2))
        (same_or_not k i),
  )

  -- R relates the old and new outlets before index i; the others are unchanged
  abbrev pub DoneBelow : (OutView T → OutView T → Type 0) → ℕ → ℕ → OutView T → OutView T → Type 0
  DoneBelow R i k old new = (k < i → R old new) × (i ≤ k → new ≡ old)

  pub one_done : (R : OutView T → OutView T → Type 0) (xs ys : List (OutView T)) (i : ℕ) (o p : OutView T)
      → Each (DoneBelow R i) xs ys → i < length ys → o ≡ get_or ys i o → R o p → Each (DoneBelow R (i + 1)) xs (set ys i p)
  one_done R xs ys i o p h within at step = (
    length-set ys i p ∙ h.0,
    λ k a e. let b = h.1 k a e in ⊎_elim
        (λ (here : k ≡ i).
        let same : b.0 ≡ o = sym (get_or_from_slice_get ys i b.0 o (subst (λ (j : ℕ). slice_get ys j ≡ Some b.0) here b.1)) ∙ sym at in
        let was : o ≡ a = sym same ∙ b.2.1 (omega (arith, here)) in
        (p, subst (λ (j : ℕ). slice_get (set ys i p) j ≡ Some p) (sym here) (get_set_same ys i p within), (λ _. subst (λ (q : OutView T). R q p) was step, λ l. absurd (omega (arith, here, l)))))
        (λ (other : k ≢ i). (b.0, get_set_other ys i k p other ∙ b.1, (λ l. b.2.0 (omega (arith, other, l)), λ l. b.2.1 (omega (arith, l)))))
        (same_or_not k i),
  )

  -- the first waiting replies were posted, in order
  abbrev pub Posts : OutView T → OutView T → Type 0
  Posts old new = (xs : List T) × (old.waiting ≡ xs ++ new.waiting) × (new.posted ≡ old.posted ++ xs)

  abbrev pub EachPosts : List (OutView T) → List (OutView T) → Type 0
  EachPosts old new = Each (λ _ o p. (p.ring ≡ o.ring) × Posts o p) old new

  offers_posts : (a b : OutView T) → Offers a b → Posts a b
  offers_posts a b h =
      let n = h.1.0 in
      let f = h.1.1 in
      (take n a.waiting, sym (take-append-drop n a.waiting) ∙ ap (λ l. take n a.waiting ++ l) (sym f.2), f.1)

  gets_posts : (a b : OutView T) → GetsRoom a b → Posts a b
  gets_posts a b h = ([], sym (ap (λ v. v.waiting) h.0), ap (λ v. v.posted) h.0 ∙ sym (append-nil a.posted))

  pub each_offers_posts : (xs ys : List (OutView T)) → EachOffers xs ys → EachPosts xs ys
  each_offers_posts xs ys h = (h.0, λ k o e. let a = h.1 k o e in (a.0, a.1, (a.2.0, offers_posts o a.0 a.2)))

  gets_gets : (a b c : OutView T) → GetsRoom a b → GetsRoom b c → GetsRoom a c
  gets_gets a b c h g = (g.0 ∙ ap (λ (v : OutView T). record v { room = c.room }) h.0, omega (arith, h.1, g.1))

  -- one more outlet has room
  pub each_gets : (xs ys : List (OutView T)) (i : ℕ) (o p : OutView T) → EachGetsRoom xs ys → i < length ys → o ≡ get_or ys i o → GetsRoom o p → EachGetsRoom xs (set ys i p)
  each_gets xs ys i o p h within at step = each_set (λ _ o p. GetsRoom o p) (λ _ o p. GetsRoom o p) (λ _ a b c. gets_gets a b c) xs ys i o p h within at step

  pub room_more : (more i : ℕ) (ys : List (OutView T)) (p : OutView T) → i < length ys → ((k : ℕ) (o : OutView T) → k < i → slice_get ys k ≡ Some o → more ≤ o.room) → more ≤ p.room
      → (k : ℕ) (o : OutView T) → k < i + 1 → slice_get (set ys i p) k ≡ Some o → more ≤ o.room
  room_more more i ys p within was here k o less at = ⊎_elim
      (λ (same : k ≡ i).
      let there = get_set_same ys i p within in
      let one : p ≡ o = cc in
      subst (λ (v : OutView T). more ≤ v.room) one here)
      (λ (other : k ≢ i). was k o (omega (arith, other, less)) (sym (get_set_other ys i k p other) ∙ at))
      (same_or_not k i)

  pub each_gets_posts : (xs ys : List (OutView T)) → EachGetsRoom xs ys → EachPosts xs ys
  each_gets_posts xs ys h = (h.0, λ k o e. let a = h.1 k o e in (a.0, a.1, (ap (λ v. v.ring) a.2.0, gets_posts o a.0 a.2)))

  offers_room : (a b c : OutView T) → Offers a b → GetsRoom b c → Offers a c
  offers_room a b c h g =
      let f = h.1.1 in
      (ap (λ v. v.ring) g.0 ∙ h.0, (h.1.0, (ap (λ v. v.looks) g.0 ∙ f.0, ap (λ v. v.posted) g.0 ∙ f.1, ap (λ v. v.waiting) g.0 ∙ f.2)), omega (arith, h.2, g.1))

  -- a reply that was offered to its ring stays offered if the room grows
  pub each_offers_room : (xs ys zs : List (OutView T)) → EachOffers xs ys → EachGetsRoom ys zs → EachOffers xs zs
  each_offers_room xs ys zs h g = each_then (λ _ o p. Offers o p) (λ _ o p. GetsRoom o p) (λ _ o p. Offers o p) (λ _ a b c. offers_room a b c) xs ys zs h g

  -- replies that are offered come before everything that is sent later
  pub offers_first : (xs ys : List (OutView T)) → EachOffers xs ys → EachOffersFirst xs ys
  offers_first xs ys h = (h.0, λ k o e. let a = h.1 k o e in let f = a.2.1.1 in (a.0, a.1, (a.2.1.0, [], f.0, f.1 ∙ sym (append-nil (o.posted ++ take a.2.1.0 o.waiting)))))

  pub first_sends : (client : ℕ) (x : T) (xs ys zs : List (OutView T)) → EachOffersFirst xs ys → Each (SendsTo client x) ys zs → EachOffersFirst xs zs
  first_sends client x xs ys zs h s =
      each_then (λ _ o p. OffersFirst o p) (λ k o p. SendsTo client x k o p) (λ _ o p. OffersFirst o p)
      (λ k a b c f g. (f.0, f.1 ++ g.0.1.0, g.3 ∙ f.2, g.0.1.1 ∙ (ap (λ l. l ++ g.0.1.0) f.3 ∙ append_assoc (a.posted ++ take f.0 a.waiting) f.1 g.0.1.0))) xs ys zs h s

  pub looked_none : (xs : List (OutView T)) → EachLooked 0 xs xs
  looked_none xs = each_refl (λ _ o p. length o.looks + 0 ≤ length p.looks) (λ _ o. omega arith) xs

  -- one more look
  pub looked_more : (times : ℕ) (xs ys zs : List (OutView T)) → EachLooked times xs ys → EachOffersFirst ys zs → EachLooked (times + 1) xs zs
  looked_more times xs ys zs = each_then (λ _ o p. length o.looks + times ≤ length p.looks) (λ _ o p. OffersFirst o p) (λ _ o p. length o.looks + (times + 1) ≤ length p.looks)
      (λ k a b c l f. let e = ap (λ l. length l) f.2 ∙ length-append b.looks (f.0 ∷ []) in omega (arith, l, e)) xs ys zs

  pub looked_less : (few times : ℕ) (xs ys : List (OutView T)) → few ≤ times → EachLooked times xs ys → EachLooked few xs ys
  looked_less few times xs ys l h = (h.0, λ k o e. let b = h.1 k o e in (b.0, b.1, omega (arith, l, b.2)))

  posts_all : (a b : OutView T) → Posts a b → all_of b ≡ all_of a
  posts_all a b h = rw h.2 (append_assoc a.posted h.0 b.waiting) ∙ ap (λ l. a.posted ++ l) (sym h.1)

  posts_fewer : (a b : OutView T) → Posts a b → length b.waiting ≤ length a.waiting
  posts_fewer a b h = let e = ap (λ l. length l) h.1 in let l = length-append h.0 b.waiting in omega arith

  pub stays_refl : (o : OutView T) → StaysPosted o o
  stays_refl o = (refl, ([], sym (append-nil o.posted)))

  pub stays_stays : (a b c : OutView T) → StaysPosted a b → StaysPosted b c → StaysPosted a c
  stays_stays a b c h g = (g.0 ∙ h.0, (h.1.0 ++ g.1.0, g.1.1 ∙ (ap (λ l. l ++ g.1.0) h.1.1 ∙ append_assoc a.posted h.1.0 g.1.0)))

  pub each_posts_stays : (xs ys : List (OutView T)) → EachPosts xs ys → EachStaysPosted xs ys
  each_posts_stays xs ys h = (h.0, λ k o e. let a = h.1 k o e in let posts = a.2.1 in (a.0, a.1, (a.2.0, (posts.0, posts.2))))

  pub each_stays_refl : (xs : List (OutView T)) → EachStaysPosted xs xs
  each_stays_refl xs = each_refl (λ _ o p. StaysPosted o p) (λ _ o. stays_refl o) xs

  pub each_stays : (xs ys zs : List (OutView T)) → EachStaysPosted xs ys → EachStaysPosted ys zs → EachStaysPosted xs zs
  each_stays xs ys zs h g = each_then (λ _ o p. StaysPosted o p) (λ _ o p. StaysPosted o p) (λ _ o p. StaysPosted o p) (λ _ a b c. stays_stays a b c) xs ys zs h g

  -- the old outlet at this index
  pub before : (xs ys : List (OutView T)) (k : ℕ) (p : OutView T) → length ys ≡ length xs → slice_get ys k ≡ Some p → (o : OutView T) × (slice_get xs k ≡ Some o)
  before xs ys k p len at = let within = slice_get_within ys k p at in (get_or xs k p, slice_get-get_or xs k p (omega arith))

  -- a statement on everything sent to each client also holds of what was posted
  pub posts_said : (f : ℕ → List T) (xs ys : List (OutView T)) → EachPosts xs ys
      → ((k : ℕ) (o : OutView T) → slice_get xs k ≡ Some o → all_of o ≡ f k) → (k : ℕ) (p : OutView T) → slice_get ys k ≡ Some p → all_of p ≡ f k
  posts_said f xs ys h was k p at =
      let o = before xs ys k p h.0 at in
      let g = h.1 k o.0 o.1 in
      let same : g.0 ≡ p = let e = g.1 in cc in
      posts_all o.0 p (subst (λ (q : OutView T). Posts o.0 q) same g.2.1) ∙ was k o.0 o.1

  -- one client was sent a reply
  pub each_send : (xs : List (OutView T)) (client i : ℕ) (x : T) (o p : OutView T) → client ≡ i + 1 → i < length xs → o ≡ get_or xs i o
      → StaysPosted o p → all_of p ≡ all_of o ++ x ∷ [] → o.room ≤ p.room + 1 → p.looks ≡ o.looks → Each (SendsTo client x) xs (set xs i p)
  each_send xs client i x o p is within at stays sent room looks = (
    length-set xs i p,
    λ k a e. ⊎_elim
        (λ (here : k ≡ i).
        let same : o ≡ a = at ∙ get_or_from_slice_get xs i a o (subst (λ (j : ℕ). slice_get xs j ≡ Some a) here e) in
        let test : (client == k + 1) ≡ true = same_number client (k + 1) (is ∙ ap (λ (j : ℕ). j + 1) (sym here)) in
        (p, subst (λ (j : ℕ). slice_get (set xs i p) j ≡ Some p) (sym here) (get_set_same xs i p within), rw test (subst (λ (b : OutView T). StaysPosted b p × (all_of p ≡ all_of b ++ x ∷ []) × (b.room ≤ p.room + 1) × (p.looks ≡ b.looks)) same (stays, sent, room, looks))))
        (λ (other : k ≢ i).
        let test : (client == k + 1) ≡ false = other_number client (k + 1) (λ same. other (omega arith)) in
        (a, get_set_other xs i k p other ∙ e, rw test (stays_refl a, refl, omega arith, refl)))
        (same_or_not k i),
  )

  pub sends_stays : (client : ℕ) (x : T) (xs ys : List (OutView T)) → Each (SendsTo client x) xs ys → EachStaysPosted xs ys
  sends_stays client x xs ys h = (h.0, λ k o e. let a = h.1 k o e in (a.0, a.1, a.2.0))

  pub sends_one : (client : ℕ) (x : T) (xs ys : List (OutView T)) → Each (SendsTo client x) xs ys → UsesOne xs ys
  sends_one client x xs ys h = (h.0, λ k o e. let a = h.1 k o e in (a.0, a.1, a.2.2))

  pub room_step : (n m : ℕ) (xs ys : List (OutView T)) → m + 1 ≤ n → UsesOne xs ys → EachHasRoom n xs → EachHasRoom m ys
  room_step n m xs ys less h room k p at =
      let o = before xs ys k p h.0 at in
      let g = h.1 k o.0 o.1 in
      let same : g.0 ≡ p = let e = g.1 in cc in
      let s = subst (λ (q : OutView T). o.0.room ≤ q.room + 1) same g.2 in
      let r = room k o.0 o.1 in
      omega arith

  pub has_room_less : (n m : ℕ) (xs : List (OutView T)) → m ≤ n → EachHasRoom n xs → EachHasRoom m xs
  has_room_less n m xs less room k o at = let r = room k o at in omega arith

  -- one more outlet posted what fits: the number of waiting replies so far, and in all
  pub waiting_step : (xs : List (OutView T)) (i n most : ℕ) (o p : OutView T) → n ≡ waiting_count (take i xs) → waiting_count xs ≤ most → i < length xs → o ≡ get_or xs i o → Offers o p
      → (n + length p.waiting ≡ waiting_count (take (i + 1) (set xs i p))) × (waiting_count (set xs i p) ≤ most)
  waiting_step xs i n most o p was few within at h =
      let f : OutView T → ℕ = λ x. length x.waiting in
      let s = sum_by-set f xs i p o within in
      let fewer = posts_fewer o p (offers_posts o p h) in
      let same = ap f at in (
        ap (λ (k : ℕ). k + length p.waiting) was ∙ (sym (sum_by_push f (take i xs) p) ∙ ap (λ l. waiting_count l) (sym (take_more_set xs i p within))),
        omega arith,
      )

  -- no more replies wait than were sent
  pub waiting_few : (m : ℕ) (os : List (OutView T)) (sent : List (ℕ × T)) → ((k : ℕ) (o : OutView T) → slice_get os k ≡ Some o → all_of o ≡ packets_by (m + k + 1) sent)
      → waiting_count os ≤ total (put_lists (length os) m sent)
  waiting_few m [] sent each = omega arith
  waiting_few m (o ∷ os) sent each =
      let first = ap (λ l. length l) (each 0 o refl) in
      let l = length-append o.posted o.waiting in
      let rest = waiting_few (m + 1) os sent (λ k p e. subst (λ (j : ℕ). all_of p ≡ packets_by (j + 1) sent) (let z : m + suc k ≡ m + 1 + k = omega arith in z) (each (suc k) p e)) in
      let c = sum_by-cons (λ (x : OutView T). length x.waiting) o os in
      let z = ap (λ (j : ℕ). length (packets_by (j + 1) sent)) (let z : m + 0 ≡ m = omega arith in z) in
      omega arith
