-- Each move keeps the rule of the port.
use Rattle.std.proofs.Common.{◌≡◌, ◌≢◌, ℕ, zero, suc, ◌+◌, ◌<◌, ◌≤◌, true, false, true≢false, List, [], ◌∷◌, ◌++◌, length, sym, refl, ap, ◌∙◌, subst, ⊎_elim, ◌⊎◌, inl, inr, append_assoc, arith, Some, slice_get, length-append}
use Rattle.std.proofs.lemmas.List.{length-set}
use Rattle.std.proofs.lemmas.Option.{slice_get_within}
use mathlib.Core.Option.{some, some-injective, some-ne-none}
use lib.ListN.{get_elem?}
use Rattle.crossbeam_queue.specs.Fifo.{Pushes, Pops, Forks, Merges, Learns}
use Rattle.crossbeam_queue.proofs.Lists.{at_set}
use Rattle.ados_port.specs.declared.seat.Seat.{Seat}
use Rattle.ados_port.specs.History.{packets_by}
use Rattle.ados_port.specs.steps.Rule.{ArePutLists, total, handler, client, FitsClient, PortRule}
use Rattle.ados_port.specs.Ends.{OfClients}
use Rattle.ados_port.proofs.Packets.{packets_by_same, packets_by_other, packets_by_beyond, of_clients_snoc, of_clients_more, of_clients_at, total_all}

pub get_end : {A : Type 0} (l : List A) (a u : A) (j : ℕ) → slice_get (l ++ a ∷ []) j ≡ Some u → (slice_get l j ≡ Some u) ⊎ ((j ≡ length l) × (a ≡ u))
get_end [] a u zero e = inr (refl, (cc))
get_end [] a u (suc j) e = cc
get_end (x ∷ xs) a u zero e = inl e
get_end {A} (x ∷ xs) a u (suc j) e = ⊎_elim (λ (y : slice_get xs j ≡ Some u). inl y) (λ (y : (j ≡ length xs) × (a ≡ u)). inr (ap suc y.0, y.1)) (get_end xs a u j e)

module _ {Q : Type 0} where
  at_within : (l : List (Seat Q)) (j : ℕ) (u : Seat Q) → get_elem? l j ≡ some u → j < length l
  at_within [] j u e = absurd (some-ne-none u (sym e))
  at_within (x ∷ xs) zero u e = omega arith
  at_within (x ∷ xs) (suc j) u e = let ih = at_within xs j u e in omega arith

  at_end : (l : List (Seat Q)) (a u : Seat Q) (j : ℕ) → get_elem? (l ++ a ∷ []) j ≡ some u → (get_elem? l j ≡ some u) ⊎ ((j ≡ length l) × (a ≡ u))
  at_end [] a u zero e = inr (refl, some-injective a u e)
  at_end [] a u (suc j) e = absurd (some-ne-none u (sym e))
  at_end (x ∷ xs) a u zero e = inl e
  at_end (x ∷ xs) a u (suc j) e = ⊎_elim (λ (y : get_elem? xs j ≡ some u). inl y) (λ (y : (j ≡ length xs) × (a ≡ u)). inr (ap suc y.0, y.1)) (at_end xs a u j e)

  pub pushes : (n port : ℕ) (v : Seat Q) (k : ℕ) (q : Q) → v.handles ≡ false → v.number ≡ k → 0 < k → Pushes PortRule n port v (k, q) (λ w. w ≡ client v.number (v.put ++ q ∷ []))
  pushes n port v k q is num pos items [] room h at = absurd h
  pushes n zero v k q is num pos items (b ∷ cs) room h at = absurd (true≢false (sym h.0 ∙ (ap (λ (u : Seat Q). u.handles) (some-injective b v at) ∙ is)))
  pushes n (suc p) v k q is num pos items (b ∷ cs) room h at =
      let w : Seat Q = client v.number (v.put ++ q ∷ []) in
      let mine = (h.4 p v at).1 (subst (λ (m : ℕ). 0 < m) (sym num) pos) in
      let here : p + 1 ≡ k = sym mine.0 ∙ num in
      let all : b.taken ++ (items ++ (k, q) ∷ []) ≡ (b.taken ++ items) ++ (k, q) ∷ [] = sym (append_assoc b.taken items ((k, q) ∷ [])) in
      let before = b.taken ++ items in
      let inside : p < length cs = at_within cs p v at in (
        w,
        (
          h.0,
          length-set cs p w ∙ h.1,
          h.2,
          rw all (of_clients_snoc b.number k before q pos (let l = h.1 in omega arith) h.3),
          (λ j u e. rw all (⊎_elim
              (λ (x : (j ≡ p) × (w ≡ u)). subst (λ (y : ℕ × Seat Q). FitsClient (before ++ (k, q) ∷ []) (length b.known) (y.0 + 1) y.1) (λ i. (sym x.0 i, x.1 i))
              (refl, (λ _. (mine.0, mine.1, ap (λ l. l ++ q ∷ []) mine.2 ∙ (rw here (sym (packets_by_same k before q))))), λ none. absurd (let z = num in omega arith)))
              (λ (x : (j ≢ p) × (get_elem? cs j ≡ some u)). let o = h.4 j u x.1 in let apart = x.0 in (o.0, (λ live. let f = o.1 live in (f.0, f.1, f.2 ∙ sym (packets_by_other k (j + 1) before q (λ e. apart (omega arith))))), o.2))
              (at_set cs p j w u e))),
          (λ j put e. rw all (h.5 j put e ∙ sym (packets_by_other k (j + 1) before q (λ e'. let f = mine.1 in let within = slice_get_within b.known j put e in absurd (omega arith))))),
        ),
        refl,
      )

  pub learns : (port : ℕ) (v : Seat Q) → v.handles ≡ true → Learns PortRule port v (λ items. OfClients v.number (v.taken ++ items) × ArePutLists v.known (v.taken ++ items))
  learns port v is items [] h at = absurd h
  learns (suc p) v is items (b ∷ cs) h at = absurd (true≢false (sym is ∙ (h.4 p v at).0))
  learns zero v is items (b ∷ cs) h at = let e : b ≡ v = some-injective b v at in
      subst (λ (u : Seat Q). OfClients u.number (u.taken ++ items) × ArePutLists u.known (u.taken ++ items)) e (h.3, h.5)

  pub pops : (port : ℕ) (v : Seat Q) → v.handles ≡ true → Pops PortRule port v (λ x w. (w ≡ handler v.number (v.taken ++ x ∷ []) v.known) × (1 ≤ x.0) × (x.0 ≤ v.number) × (length v.known ≡ v.number → length w.taken ≤ total v.known))
  pops port v is x items [] h at = absurd h
  pops (suc p) v is x items (b ∷ cs) h at = absurd (true≢false (sym is ∙ (h.4 p v at).0))
  pops zero v is x items (b ∷ cs) h at =
      let e : b ≡ v = some-injective b v at in
      let k : PortRule (x ∷ items) (v ∷ cs) = subst (λ (u : Seat Q). PortRule (x ∷ items) (u ∷ cs)) e h in
      let all : v.taken ++ x ∷ [] ++ items ≡ v.taken ++ (x ∷ items) = append_assoc v.taken (x ∷ []) items in
      let w : Seat Q = handler v.number (v.taken ++ x ∷ []) v.known in
      let first = of_clients_at v.number v.taken x items k.3 in (
        w,
        (refl, k.1, k.2, rw all k.3, (λ j u at'. rw all (k.4 j u at')), (λ j put at'. rw all (k.5 j put at'))),
        (
          refl,
          first.0,
          first.1,
          λ whole.
              let t : length (v.taken ++ (x ∷ items)) ≡ total v.known = total_all v.number (v.taken ++ (x ∷ items)) v.known k.3 whole k.5 in
              let a = length-append v.taken (x ∷ items) in
              let b = length-append v.taken (x ∷ []) in
              omega arith,
        ),
      )

  pub forks : (port : ℕ) (v : Seat Q) → v.handles ≡ true → Forks PortRule port v (handler (v.number + 1) v.taken v.known) (client (v.number + 1) [])
  forks port v is items [] h at = absurd h
  forks (suc p) v is items (b ∷ cs) h at = absurd (true≢false (sym is ∙ (h.4 p v at).0))
  forks zero v is items (b ∷ cs) h at =
      let e : b ≡ v = some-injective b v at in
      let k : PortRule items (v ∷ cs) = subst (λ (u : Seat Q). PortRule items (u ∷ cs)) e h in
      let all : List (ℕ × Q) = v.taken ++ items in
      let new : Seat Q = client (v.number + 1) [] in
      let count = k.1 in
      let few = k.2 in (
        refl,
        length-append cs (new ∷ []) ∙ ap (λ (n : ℕ). n + 1) k.1,
        omega arith,
        of_clients_more v.number all k.3,
        (λ j u e. ⊎_elim (λ (x : get_elem? cs j ≡ some u). k.4 j u x)
            (λ (x : (j ≡ length cs) × (new ≡ u)). let here = x.0 in
            subst (λ (y : Seat Q). FitsClient all (length v.known) (j + 1) y) x.1 (refl, (λ _. (omega arith, omega arith, sym (packets_by_beyond v.number (j + 1) all (omega arith) k.3))), λ none. absurd (omega arith)))
            (at_end cs new u j e)),
        k.5,
      )

  pub merges : (port : ℕ) (v : Seat Q) (other : ℕ) (u : Seat Q) → v.handles ≡ true → u.number ≡ length v.known + 1
      → Merges PortRule port v other u (handler v.number v.taken (v.known ++ u.put ∷ [])) (client 0 [])
  merges port v other u is num items [] h at apart at' = absurd h
  merges (suc p) v other u is num items (b ∷ cs) h at apart at' = absurd (true≢false (sym is ∙ (h.4 p v at).0))
  merges zero v zero u is num items (b ∷ cs) h at apart at' = absurd (apart refl)
  merges zero v (suc o) u is num items (b ∷ cs) h at apart at' =
      let e : b ≡ v = some-injective b v at in
      let k : PortRule items (v ∷ cs) = subst (λ (u : Seat Q). PortRule items (u ∷ cs)) e h in
      let all : List (ℕ × Q) = v.taken ++ items in
      let spent : Seat Q = client 0 [] in
      let mine = (k.4 o u at').1 (omega arith) in
      let here : o ≡ length v.known = let m = mine.0 in omega arith in
      let inside : o < length cs = at_within cs o u at' in
      let more : length (v.known ++ u.put ∷ []) ≡ length v.known + 1 = length-append v.known (u.put ∷ []) in
      let count = k.1 in (
        refl,
        length-set cs o spent ∙ k.1,
        omega arith,
        k.3,
        (λ j x e'. ⊎_elim
            (λ (y : (j ≡ o) × (spent ≡ x)). subst (λ (z : Seat Q). FitsClient all (length (v.known ++ u.put ∷ [])) (j + 1) z) y.1 (refl, (λ live. absurd (omega arith)), λ none. omega arith))
            (λ (y : (j ≢ o) × (get_elem? cs j ≡ some x)). let f = k.4 j x y.1 in let n = y.0 in (f.0, (λ live. let g = f.1 live in (g.0, (let l = g.1 in omega arith), g.2)), λ none. let l = f.2 none in omega arith))
            (at_set cs o j spent x e')),
        (λ j put e'. ⊎_elim
            (λ (y : slice_get v.known j ≡ Some put). k.5 j put y)
            (λ (y : (j ≡ length v.known) × (u.put ≡ put)). sym y.1 ∙ (mine.2 ∙ ap (λ (i : ℕ). packets_by (i + 1) all) (here ∙ sym y.0)))
            (get_end v.known u.put put j e')),
      )
