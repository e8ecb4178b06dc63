-- An end that knows of the close proves that the server has died.
use Rattle.std.proofs.Common.{◌≡◌, ◌≢◌, ◌⊎◌, ◌||◌, ℕ, ◌+◌, ◌<◌, ◌≤◌, Bool, true, false, true≢false, List, [], ◌∷◌, map, length, get_or, Some, None, slice_get, inl, inr, sym, refl, ap, ◌∙◌, subst, ⊎_elim, arith}
use Rattle.std.specs.Prelude.{Vec}
use Rattle.std.specs.List.{list_any}
use Rattle.std.specs.declared.alloc.Global.{Global}
use Rattle.std.proofs.lemmas.List.Folds.{list_any-append}
use Rattle.std.proofs.lemmas.Option.{slice_get_within, slice_get_cases}
use native.Mathlib.Decide.{ℕ_discrete}
use mathlib.Core.Logic.{dite}
use Rattle.ados_port.specs.declared.step.Reply.{Reply}
use Rattle.ados_port.specs.History.{Serving, Run, last_server}
use Rattle.ados_port.specs.Lawful.{MeaningRun}
use Rattle.ados_port.proofs.Closing.{run-dead}
use Rattle.ados_port.specs.Ends.{ClientView, CloseMeansDeath, replies_to}
use Rattle.ados_port.specs.steps.HandlerEnds.{AllHeard}
use Rattle.ados_port.specs.steps.Rooms.{Left}
use Rattle.ados_port.proofs.Gathers.{one_of}
use Rattle.ados_port.proofs.Packets.{packets_by_here, packets_by_past}

pub one_or_other : (a b : Bool) → (a || b) ≡ true → (a ≡ true) ⊎ (b ≡ true)
one_or_other true b e = inl refl
one_or_other false b e = inr e

-- a property of the first k elements extends to the next, if the k-th element has it
pub each_to : {X : Type 0} (P : X → Type 0) (xs : List X) (k : ℕ) (x : X) → slice_get xs k ≡ Some x → P x
    → ((j : ℕ) (y : X) → j < k → slice_get xs j ≡ Some y → P y) → (j : ℕ) (y : X) → j < k + 1 → slice_get xs j ≡ Some y → P y
each_to P xs k x at here was j y less aty = dite (ℕ_discrete j k)
    (λ (e : j ≡ k). subst P (one_of xs k x y at (subst (λ (i : ℕ). slice_get xs i ≡ Some y) e aty)) here)
    (λ (n : j ≢ k). was j y (omega arith) aty)

module _ {S Q M A : Type 0} (gives : S → Q → M → S → A → Type 0) (has_died : S → Bool) (is_closing : A → Bool)
    (stays_dead : (old new : S) (packet : Q) (moment : M) (answer : A) → gives old packet moment new answer → has_died old ≡ true → has_died new ≡ true)
    (closes_dead : (old new : S) (packet : Q) (moment : M) (answer : A) → gives old packet moment new answer → is_closing answer ≡ true → has_died new ≡ true) where
  abbrev closes : M × A → Bool
  closes x = is_closing x.1

  -- a server that gave a closing reply has died
  reply_kills : (k : ℕ) (old : S) (served : List (Serving Q M A)) (servers : List S) → Run gives old served servers
      → list_any closes (replies_to k served) ≡ true → has_died (last_server old servers) ≡ true
  reply_kills k old [] servers run any = absurd (true≢false (sym any))
  reply_kills k old (s ∷ served) [] run any = absurd run
  reply_kills k old (s ∷ served) (new ∷ servers) run any =
      let sent : List (ℕ × (M × A)) = map (λ (x : Serving Q M A). (x.client, (x.moment, x.answer))) served in
      dite (ℕ_discrete s.client k)
      (λ (e : s.client ≡ k). ⊎_elim
      (λ (first : is_closing s.answer ≡ true). run-dead gives has_died stays_dead new served servers run.1 (closes_dead old new s.packet s.moment s.answer run.0 first))
      (λ (later : list_any closes (replies_to k served) ≡ true). reply_kills k new served servers run.1 later)
      (one_or_other (is_closing s.answer) (list_any closes (replies_to k served)) (ap (λ l. list_any closes l) (sym (packets_by_here (s.client, (s.moment, s.answer)) k sent e)) ∙ any)))
      (λ (n : s.client ≢ k). reply_kills k new served servers run.1 (ap (λ l. list_any closes l) (sym (packets_by_past (s.client, (s.moment, s.answer)) k sent n)) ∙ any))

  -- the ends know of the close only if the server has died, provided that they took replies sent to them
  pub close_means_death : (opening closing : S) (served : List (Serving Q M A)) (cs : List (ClientView Q M A)) (us : List (Vec (Reply A) Global))
      → MeaningRun gives opening served closing → length us ≡ length cs → AllHeard is_closing (has_died closing) cs
      → ((k : ℕ) (c : ClientView Q M A) (u : Vec (Reply A) Global) → slice_get cs k ≡ Some c → slice_get us k ≡ Some u → Left c (replies_to (k + 1) served) u.items)
      → CloseMeansDeath cs (has_died closing)
  close_means_death opening closing served cs us run long heard left k c at knows =
      let within = slice_get_within cs k c at in
      ⊎_elim (λ (dead : has_died closing ≡ true). dead)
      (λ (closed : list_any closes c.taken ≡ true). ⊎_elim
      (λ (e : (u : Vec (Reply A) Global) × (k < length us) × (slice_get us k ≡ Some u) × (get_or us k u ≡ u)).
      let l = left k c e.0 at e.2 in
      let any : list_any closes (replies_to (k + 1) served) ≡ true = ap (λ z. list_any closes z) l.1 ∙ (list_any-append closes c.taken l.0 ∙ ap (λ (b : Bool). b || list_any closes l.0) closed) in
      subst (λ (s : S). has_died s ≡ true) run.2 (reply_kills (k + 1) opening served run.0 run.1 any))
      (λ (e : (length us ≤ k) × (slice_get us k ≡ None)). let far = e.0 in absurd (omega (arith, within, far, long)))
      (slice_get_cases us k).1)
      (heard k c at knows)
