-- Histories: of no steps, and what every one has.
use Rattle.std.proofs.Common.{◌≡◌, ◌⊎◌, ℕ, zero, suc, ◌+◌, ◌<◌, Bool, List, [], ◌∷◌, ◌++◌, length, drop, slice_get, Some, None, refl, sym, ap, ◌∙◌, inl, inr, arith, MatchOption, add-zero}
use Rattle.std.specs.Prelude.{Option}
use Rattle.std.specs.Option.{option_map}
use Rattle.std.proofs.lemmas.List.{append-nil, take-append-drop, length-map}
use Rattle.std.proofs.lemmas.Option.{none-some, same_Some}
use Rattle.ados_port.proofs.Serving.{run-length}
use Rattle.ados_port.specs.History.{ClientState, PortState, Event, events_of, served_count, client_state, queue, client_now, PortHistory}
use Rattle.ados_port.specs.Lawful.{packets_of}
use Rattle.ados_port.specs.declared.step.Step.{Step}
use Rattle.ados_port.specs.declared.step.Outcome.{Outcome}

-- an element of a list after a push, with its index
pub slice_get-push_at : {A : Type 0} (xs : List A) (y : A) (i : ℕ) (x : A) → slice_get (xs ++ y ∷ []) i ≡ Some x
    → ((i < length xs) × (slice_get xs i ≡ Some x)) ⊎ ((i ≡ length xs) × (x ≡ y))
slice_get-push_at [] y zero x h = inr (refl, sym (same_Some y x h))
slice_get-push_at [] y (suc i) x h = absurd (none-some x h)
slice_get-push_at (z ∷ zs) y zero x h = inl (omega arith, h)
slice_get-push_at (z ∷ zs) y (suc i) x h = elim (slice_get-push_at zs y i x h) [
  | inl c ↦ inl (omega (arith, c.0), c.1)
  | inr c ↦ inr (ap suc c.0, c.1)
]

pub MatchOption-weaken : {A : Type 0} (o : Option A) (P R : Type 0) (Q T : A → Type 0) → (P → R) → ((x : A) → o ≡ Some x → Q x → T x) → MatchOption o P Q → MatchOption o R T
MatchOption-weaken None P R Q T f g h = f h
MatchOption-weaken (Some x) P R Q T f g h = g x refl h

pub MatchOption-map : {A B : Type 0} (f : A → B) (o : Option A) (P : Type 0) (Q : B → Type 0) → MatchOption (option_map f o) P Q → MatchOption o P (λ c. Q (f c))
MatchOption-map f None P Q h = h
MatchOption-map f (Some x) P Q h = h

pub option_map-same : {A : Type 0} (f : A → A) → ((x : A) → f x ≡ x) → (o : Option A) → option_map f o ≡ o
option_map-same f h None = refl
option_map-same f h (Some x) = ap Some (h x)

pub option_map-both : {A B C : Type 0} (f : B → C) (g : A → B) (k : A → C) (o : Option A) → ((x : A) → o ≡ Some x → f (g x) ≡ k x) → option_map f (option_map g o) ≡ option_map k o
option_map-both f g k None h = refl
option_map-both f g k (Some x) h = ap Some (h x refl)

-- a client before any event
pub client_still : (Q M : Type 0) {A : Type 0} (number : ℕ) (c : ClientState A) → client_now {Q = Q} {M = M} [] [] number c ≡ c
client_still Q M number c = simp (add-zero, append-nil)

module _ {S Q M A : Type 0} (gives : S → Q → M → S → A → Type 0) (has_died : S → Bool) where
  -- no steps
  pub history_nil : (p : PortState S Q A) → PortHistory {M = M} gives has_died p [] [] p
  history_nil p = record {
    served = [];
    servers = [];
    meaning = tt;
    in_order = refl;
    moments = refl;
    as_long = refl;
    fits = λ i e h. absurd (none-some e h);
    closing_server = refl;
    closing_waiting = sym (append-nil p.waiting);
    closing_clients = λ number. sym (option_map-same (client_now {Q = Q} {M = M} [] [] number) (client_still Q M number) (client_state p.clients number));
  }

  module _ (opening : PortState S Q A) (steps : List (Step Q M)) (outcomes : List (Outcome Q A)) (mid : PortState S Q A) (h : PortHistory gives has_died opening steps outcomes mid) where
    abbrev es : List (Event Q M A)
    es = events_of steps outcomes

    pub served_length : length h.served ≡ served_count es
    served_length = sym (length-map h.served _) ∙ ap length h.moments

    pub servers_length : length h.servers ≡ length h.served
    servers_length = run-length gives opening.server h.served h.servers h.meaning

    pub queue_is : queue opening es ≡ packets_of h.served ++ mid.waiting
    queue_is = sym (take-append-drop (length h.served) (queue opening es)) ∙ ap (λ l. l ++ drop (length h.served) (queue opening es)) (sym h.in_order) ∙ ap (λ l. packets_of h.served ++ l) (sym h.closing_waiting)
