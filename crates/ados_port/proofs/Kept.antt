-- Lemmas on the clients and the waiting packets.
use Rattle.std.proofs.Common.{◌≡◌, ◌≢◌, ◌⊎◌, ℕ, suc, ◌+◌, ◌-◌, ◌<◌, ◌≤◌, List, [], ◌∷◌, ◌++◌, length, slice_get, slice_set, nat_eq, Some, get_or, refl, subst, sym, ap, ◌∙◌, inl, inr, arith, cond, add-zero, zero-add}
use Rattle.std.specs.Prelude.{count_by}
use Rattle.std.proofs.lemmas.List.Sums.{sum_by-append}
use Rattle.std.proofs.lemmas.List.{length-set}
use Rattle.std.proofs.lemmas.Option.{same_Some, slice_get_read, slice_get_within}
use Rattle.std.proofs.lemmas.Bool.Decides.{eqb_tells}
use Rattle.std.proofs.lemmas.Bool.{eq-eqb, ne_eqb}
use Rattle.ados_port.proofs.Eachs.{get_set_same, get_set_other}
use Rattle.ados_port.specs.View.{IsKept}
use Rattle.ados_port.proofs.Histories.{slice_get-push_at}
use Rattle.ados_port.specs.declared.counts.Client.{Client}
use Rattle.ados_port.specs.declared.exchange.Waiting.{Waiting}

-- an element of a list after a write is the written one, or an old one at another index
slice_get-set_cases : {A : Type 0} (xs : List A) (p : ℕ) (y : A) (i : ℕ) (x : A) → slice_get (slice_set xs p y) i ≡ Some x
    → ((i ≡ p) × (x ≡ y)) ⊎ ((i ≢ p) × (slice_get xs i ≡ Some x))
slice_get-set_cases xs p y i x h = elim (eqb_tells i p) [
  | inl w ↦
      let within : p < length xs = omega (arith, slice_get_within (slice_set xs p y) i x h, length-set xs p y, w.1)
      in inl (w.1, same_Some x y (sym h ∙ ap (slice_get (slice_set xs p y)) w.1 ∙ get_set_same xs p y within))
  | inr w ↦ inr (w.1, sym (get_set_other xs p i y w.1) ∙ h)
]

-- one more packet at the end, and one less at the start
pub count-push : {Q : Type 0} (ws : List (Waiting Q)) (w : Waiting Q) (n : ℕ) → count_by (λ v. nat_eq v.client n) (ws ++ w ∷ []) ≡ count_by (λ v. nat_eq v.client n) ws + cond (nat_eq w.client n) 1 0
count-push ws w n = sum_by-append _ ws (w ∷ []) ∙ ap (λ k. count_by (λ v. nat_eq v.client n) ws + k) (zero-add _)

pub count-cons : {Q : Type 0} (ws : List (Waiting Q)) (w : Waiting Q) (n : ℕ) → count_by (λ v. nat_eq v.client n) (w ∷ ws) ≡ cond (nat_eq w.client n) 1 0 + count_by (λ v. nat_eq v.client n) ws
count-cons ws w n = sum_by-append _ (w ∷ []) ws ∙ ap (λ k. k + count_by (λ v. nat_eq v.client n) ws) (zero-add _)

module _ {Q A : Type 0} (clients : List (Client A)) (waiting : List (Waiting Q)) (kept : IsKept clients waiting) where
  -- a client with unchanged counts
  pub kept_same : (p : ℕ) (old new : Client A) → slice_get clients p ≡ Some old → new.waiting ≡ old.waiting → IsKept (slice_set clients p new) waiting
  kept_same p old new at_p same = record {
    counted = λ i c h. elim (slice_get-set_cases clients p new i c h) [
      | inl e ↦ ap (λ k. k.waiting) e.1 ∙ same ∙ kept.counted p old at_p ∙ ap (λ k. count_by (λ w. nat_eq w.client (k + 1)) waiting) (sym e.0)
      | inr e ↦ kept.counted i c e.1
    ];
    known = λ i w h. rw length-set (kept.known i w h);
  }

  -- a client whose packet came to the port
  pub kept_put : (p : ℕ) (old new : Client A) (w : Waiting Q) → slice_get clients p ≡ Some old → new.waiting ≡ old.waiting + 1 → w.client ≡ p + 1
      → IsKept (slice_set clients p new) (waiting ++ w ∷ [])
  kept_put p old new w at_p more is_client = record {
    counted = λ i c h. elim (slice_get-set_cases clients p new i c h) [
      | inl e ↦
          ap (λ k. k.waiting) e.1 ∙ more ∙ ap (λ n. n + 1) (kept.counted p old at_p) ∙ ap (λ k. count_by (λ w. nat_eq w.client (k + 1)) waiting + 1) (sym e.0)
          ∙ ap (λ b. count_by (λ w. nat_eq w.client (i + 1)) waiting + cond b 1 0) (sym (eq-eqb w.client (i + 1) (is_client ∙ ap (λ n. n + 1) (sym e.0))))
          ∙ sym (count-push waiting w (i + 1))
      | inr e ↦
          kept.counted i c e.1 ∙ sym (add-zero _)
          ∙ ap (λ b. count_by (λ w. nat_eq w.client (i + 1)) waiting + cond b 1 0) (sym (ne_eqb w.client (i + 1) (λ q. e.0 (omega (arith, q, is_client)))))
          ∙ sym (count-push waiting w (i + 1))
    ];
    known = λ i v h. rw length-set (elim (slice_get-push_at waiting w i v h) [
      | inl e ↦ kept.known i v e.1
      | inr e ↦ let short : p < length clients = slice_get_within clients p old at_p in rw e.1 (omega (arith, is_client))
    ]);
  }

-- a client has a waiting packet if the first one is the client's
pub waits_first : {Q A : Type 0} (clients : List (Client A)) (w : Waiting Q) (rest : List (Waiting Q)) (p : ℕ) (c : Client A) → IsKept clients (w ∷ rest) → slice_get clients p ≡ Some c → w.client ≡ p + 1 → 0 < c.waiting
waits_first clients w rest p c kept at_p is_client =
    let e : c.waiting ≡ 1 + count_by (λ v. nat_eq v.client (p + 1)) rest =
    kept.counted p c at_p ∙ count-cons rest w (p + 1) ∙ ap (λ b. cond b 1 0 + count_by (λ v. nat_eq v.client (p + 1)) rest) (eq-eqb w.client (p + 1) is_client)
    in omega (arith, e)

-- a client whose packet was served
pub kept_served : {Q A : Type 0} (clients : List (Client A)) (w : Waiting Q) (rest : List (Waiting Q)) (p : ℕ) (old new : Client A)
    → IsKept clients (w ∷ rest) → slice_get clients p ≡ Some old → new.waiting + 1 ≡ old.waiting → w.client ≡ p + 1 → IsKept (slice_set clients p new) rest
kept_served clients w rest p old new kept at_p less is_client = record {
  counted = λ i c h. elim (slice_get-set_cases clients p new i c h) [
    | inl e ↦
        let d : old.waiting ≡ 1 + count_by (λ v. nat_eq v.client (p + 1)) rest =
        kept.counted p old at_p ∙ count-cons rest w (p + 1) ∙ ap (λ b. cond b 1 0 + count_by (λ v. nat_eq v.client (p + 1)) rest) (eq-eqb w.client (p + 1) is_client)
        in let f : new.waiting ≡ count_by (λ v. nat_eq v.client (p + 1)) rest = omega (arith, d, less)
        in ap (λ k. k.waiting) e.1 ∙ f ∙ ap (λ k. count_by (λ v. nat_eq v.client (k + 1)) rest) (sym e.0)
    | inr e ↦
        kept.counted i c e.1 ∙ count-cons rest w (i + 1)
        ∙ ap (λ b. cond b 1 0 + count_by (λ v. nat_eq v.client (i + 1)) rest) (ne_eqb w.client (i + 1) (λ q. e.0 (omega (arith, q, is_client))))
        ∙ zero-add _
  ];
  known = λ i v h. rw length-set (kept.known (suc i) v h);
}

-- the first waiting packet belongs to a client
pub first_known : {Q A : Type 0} (clients : List (Client A)) (waiting : List (Waiting Q)) (w : Waiting Q) (rest : List (Waiting Q)) → IsKept clients waiting → waiting ≡ w ∷ rest → (1 ≤ w.client) × (w.client ≤ length clients)
first_known clients waiting w rest kept e = kept.known 0 w (ap (λ ws. slice_get ws 0) e)

-- and that client is in its place
pub first_found : {Q A : Type 0} (clients : List (Client A)) (waiting : List (Waiting Q)) (w : Waiting Q) (rest : List (Waiting Q)) (c : Client A) → IsKept clients waiting → waiting ≡ w ∷ rest
    → c ≡ get_or clients (w.client - 1) c → (w.client ≡ w.client - 1 + 1) × (slice_get clients (w.client - 1) ≡ Some c) × IsKept clients (w ∷ rest)
first_found clients waiting w rest c kept e at =
    let known = first_known clients waiting w rest kept e in
    (omega (arith, known.0), slice_get_read clients (length clients) (w.client - 1) c refl (omega (arith, known.0, known.1)) at, subst (IsKept clients) e kept)
