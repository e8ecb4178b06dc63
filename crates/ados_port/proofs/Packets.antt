-- The packets of one client.
use Rattle.std.proofs.Common.{◌≡◌, ◌≢◌, ℕ, zero, suc, ◌+◌, ◌<◌, ◌≤◌, ◌==◌, true, false, List, [], ◌∷◌, ◌++◌, map, filter, length, Some, slice_get, sym, refl, ap, ◌∙◌, subst, arith}
use Rattle.std.proofs.lemmas.Bool.Decides.{nat_tests}
use Rattle.std.proofs.lemmas.List.{map-append}
use Rattle.std.proofs.lemmas.List.Elements.{filter-append}
use Rattle.ados_port.specs.History.{packets_by}
use Rattle.ados_port.specs.steps.Rule.{ArePutLists, total}
use Rattle.ados_port.specs.Ends.{OfClients}
use native.Mathlib.Decide.{ℕ_discrete}
use mathlib.Core.Logic.{dite}

pub same_number : (j k : ℕ) → j ≡ k → (j == k) ≡ true
same_number j k e = grind (arith, nat_tests)

pub other_number : (j k : ℕ) → j ≢ k → (j == k) ≡ false
other_number j k n = grind (arith, nat_tests)

module _ {Q : Type 0} where
  pub packets_by_append : (k : ℕ) (xs ys : List (ℕ × Q)) → packets_by k (xs ++ ys) ≡ packets_by k xs ++ packets_by k ys
  packets_by_append k xs ys = ap (λ l. map (λ (p : ℕ × Q). p.1) l) (filter-append (λ (p : ℕ × Q). p.0 == k) xs ys) ∙ map-append (λ (p : ℕ × Q). p.1) (filter (λ (p : ℕ × Q). p.0 == k) xs) (filter (λ (p : ℕ × Q). p.0 == k) ys)

  pub packets_by_here : (x : ℕ × Q) (k : ℕ) (xs : List (ℕ × Q)) → x.0 ≡ k → packets_by k (x ∷ xs) ≡ x.1 ∷ packets_by k xs
  packets_by_here x k xs e = let t = same_number x.0 k e in grind (arith, nat_tests, t)

  pub packets_by_past : (x : ℕ × Q) (k : ℕ) (xs : List (ℕ × Q)) → x.0 ≢ k → packets_by k (x ∷ xs) ≡ packets_by k xs
  packets_by_past x k xs n = let t = other_number x.0 k n in grind (arith, nat_tests, t)

  pub packets_by_same : (k : ℕ) (xs : List (ℕ × Q)) (q : Q) → packets_by k (xs ++ (k, q) ∷ []) ≡ packets_by k xs ++ q ∷ []
  packets_by_same k xs q = packets_by_append k xs ((k, q) ∷ []) ∙ ap (λ l. packets_by k xs ++ l) (packets_by_here (k, q) k [] refl)

  pub packets_by_other : (k j : ℕ) (xs : List (ℕ × Q)) (q : Q) → j ≢ k → packets_by j (xs ++ (k, q) ∷ []) ≡ packets_by j xs
  packets_by_other k j xs q n = packets_by_append j xs ((k, q) ∷ []) ∙ (ap (λ l. packets_by j xs ++ l) (packets_by_past (k, q) j [] (λ e. n (sym e))) ∙ append_none (packets_by j xs))
    where
      append_none : (l : List Q) → l ++ [] ≡ l
      append_none [] = refl
      append_none (y ∷ ys) = ap (λ z. y ∷ z) (append_none ys)

  pub packets_by_beyond : (n k : ℕ) (xs : List (ℕ × Q)) → n < k → OfClients n xs → packets_by k xs ≡ []
  packets_by_beyond n k [] a h = refl
  packets_by_beyond n k (x ∷ xs) a h = packets_by_past x k xs (λ e. let b = h.1 in omega arith) ∙ packets_by_beyond n k xs a h.2

  pub of_clients_snoc : (n k : ℕ) (xs : List (ℕ × Q)) (q : Q) → 1 ≤ k → k ≤ n → OfClients n xs → OfClients n (xs ++ (k, q) ∷ [])
  of_clients_snoc n k [] q a b h = (a, b, tt)
  of_clients_snoc n k (x ∷ xs) q a b h = (h.0, h.1, of_clients_snoc n k xs q a b h.2)

  pub of_clients_more : (n : ℕ) (xs : List (ℕ × Q)) → OfClients n xs → OfClients (n + 1) xs
  of_clients_more n [] h = tt
  of_clients_more n (x ∷ xs) h = (h.0, omega (arith, h.1), of_clients_more n xs h.2)

  -- the first packet of xs, after ys, belongs to a client
  pub of_clients_at : (n : ℕ) (ys : List (ℕ × Q)) (x : ℕ × Q) (xs : List (ℕ × Q)) → OfClients n (ys ++ x ∷ xs) → (1 ≤ x.0) × (x.0 ≤ n)
  of_clients_at n [] x xs h = (h.0, h.1)
  of_clients_at n (y ∷ ys) x xs h = of_clients_at n ys x xs h.2

  pub of_clients_place : (n : ℕ) (xs : List (ℕ × Q)) → OfClients n xs → (place : ℕ) (packet : ℕ × Q) → slice_get xs place ≡ Some packet → (1 ≤ packet.0) × (packet.0 ≤ n)
  of_clients_place n [] h place packet e = cc
  of_clients_place n (x ∷ xs) h zero packet e = subst (λ (y : ℕ × Q). (1 ≤ y.0) × (y.0 ≤ n)) (let s : x ≡ packet = cc in s) (h.0, h.1)
  of_clients_place n (x ∷ xs) h (suc place) packet e = of_clients_place n xs h.2 place packet e

  -- the put lists of clients m + 1 to m + n
  abbrev pub put_lists : ℕ → ℕ → List (ℕ × Q) → List (List Q)
  put_lists zero m xs = []
  put_lists (suc n) m xs = packets_by (m + 1) xs ∷ put_lists n (m + 1) xs

  is_put_lists : (n m : ℕ) (xs : List (ℕ × Q)) (known : List (List Q)) → length known ≡ n → ((k : ℕ) (put : List Q) → slice_get known k ≡ Some put → put ≡ packets_by (m + k + 1) xs) → known ≡ put_lists n m xs
  is_put_lists zero m xs [] len each = refl
  is_put_lists zero m xs (p ∷ ps) len each = absurd (omega arith)
  is_put_lists (suc n) m xs [] len each = absurd (omega arith)
  is_put_lists (suc n) m xs (p ∷ ps) len each =
      let head : p ≡ packets_by (m + 1) xs = subst (λ (j : ℕ). p ≡ packets_by (j + 1) xs) (let z : m + 0 ≡ m = omega arith in z) (each 0 p refl) in
      let tail : ps ≡ put_lists n (m + 1) xs = is_put_lists n (m + 1) xs ps (omega arith) (λ k put e. subst (λ (j : ℕ). put ≡ packets_by (j + 1) xs) (let z : m + suc k ≡ m + 1 + k = omega arith in z) (each (suc k) put e)) in
      λ i. head i ∷ tail i

  lists_skip : (n m : ℕ) (x : ℕ × Q) (xs : List (ℕ × Q)) → x.0 ≤ m → total (put_lists n m (x ∷ xs)) ≡ total (put_lists n m xs)
  lists_skip zero m x xs h = refl
  lists_skip (suc n) m x xs h =
      let rest = lists_skip n (m + 1) x xs (omega arith) in
      let head : packets_by (m + 1) (x ∷ xs) ≡ packets_by (m + 1) xs = packets_by_past x (m + 1) xs (λ e. omega arith) in
      let l = ap (λ (z : List Q). length z) head in
      omega arith

  lists_add : (n m : ℕ) (x : ℕ × Q) (xs : List (ℕ × Q)) → m < x.0 → x.0 ≤ m + n → total (put_lists n m (x ∷ xs)) ≡ total (put_lists n m xs) + 1
  lists_add zero m x xs a b = absurd (omega arith)
  lists_add (suc n) m x xs a b = dite (ℕ_discrete x.0 (m + 1))
      (λ (e : x.0 ≡ m + 1). let l = ap (λ (z : List Q). length z) (packets_by_here x (m + 1) xs e) in let r = lists_skip n (m + 1) x xs (omega arith) in omega arith)
      (λ (e : x.0 ≢ m + 1). let l = ap (λ (z : List Q). length z) (packets_by_past x (m + 1) xs e) in let r = lists_add n (m + 1) x xs (omega arith) (omega arith) in omega arith)

  pub lists_total : (n : ℕ) (xs : List (ℕ × Q)) → OfClients n xs → total (put_lists n 0 xs) ≡ length xs
  lists_total n [] h = lists_none n 0
    where
      lists_none : (n m : ℕ) → total (put_lists n m []) ≡ 0
      lists_none zero m = refl
      lists_none (suc n) m = let r = lists_none n (m + 1) in omega arith
  lists_total n (x ∷ xs) h = let ih = lists_total n xs h.2 in let a = h.0 in let b = h.1 in let add = lists_add n 0 x xs a (omega arith) in omega arith

  -- all put lists together have the length of the list of all packets
  pub total_all : (n : ℕ) (xs : List (ℕ × Q)) (known : List (List Q)) → OfClients n xs → length known ≡ n → ArePutLists known xs → length xs ≡ total known
  total_all n xs known h len each =
      let same : known ≡ put_lists n 0 xs = is_put_lists n 0 xs known len (λ k put e. subst (λ (j : ℕ). put ≡ packets_by (j + 1) xs) (let z : k ≡ 0 + k = omega arith in z) (each k put e)) in
      sym (lists_total n xs h) ∙ ap (λ (l : List (List Q)). total l) (sym same)
