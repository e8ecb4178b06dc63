-- Runs of a server, one after another.
use Rattle.std.proofs.Common.{◌≡◌, Bool, true, false, List, [], ◌∷◌, ◌++◌, sym, refl, subst, ap, ◌∙◌}
use Rattle.std.proofs.lemmas.List.{map-append}
use Rattle.ados_port.specs.declared.desk.Entry.{Entry}
use Rattle.ados_port.specs.History.{Serving, Run, last_server}
use Rattle.ados_port.specs.Lawful.{MeaningRun, AllAt}
use Rattle.ados_port.specs.steps.Entries.{served_of}
use Rattle.ados_port.proofs.Serving.{last_server-append}

-- a server that is alive later was alive before
pub still_alive : (a b : Bool) → (a ≡ true → b ≡ true) → b ≡ false → a ≡ b
still_alive true b h e = sym (h refl)
still_alive false b h e = sym e

module _ {S Q M A : Type 0} (gives : S → Q → M → S → A → Type 0) where
  run_append : (s : S) (xs ys : List (Serving Q M A)) (ts us : List S) → Run gives s xs ts → Run gives (last_server s ts) ys us → Run gives s (xs ++ ys) (ts ++ us)
  run_append s [] ys [] us h g = g
  run_append s [] ys (t ∷ ts) us h g = absurd h
  run_append s (x ∷ xs) ys [] us h g = absurd h
  run_append s (x ∷ xs) ys (t ∷ ts) us h g = (h.0, run_append t xs ys ts us h.1 g)

  pub meaning_none : (s : S) → MeaningRun gives s [] s
  meaning_none s = ([], tt, refl)

  pub meaning_one : (s t : S) (x : Serving Q M A) → gives s x.packet x.moment t x.answer → MeaningRun gives s (x ∷ []) t
  meaning_one s t x h = (t ∷ [], (h, tt), refl)

  pub meaning_append : (s t u : S) (xs ys : List (Serving Q M A)) → MeaningRun gives s xs t → MeaningRun gives t ys u → MeaningRun gives s (xs ++ ys) u
  meaning_append s t u xs ys h g = (
    h.0 ++ g.0,
    run_append s xs ys h.0 g.0 h.1 (subst (λ (v : S). Run gives v ys g.0) (sym h.2) g.1),
    last_server-append s h.0 g.0 ∙ (ap (λ (v : S). last_server v g.0) h.2 ∙ g.2),
  )

  pub desk_step : (past past' : List (Entry S Q A M)) (e : Entry S Q A M) (s t u : S) → past' ≡ past ++ e ∷ [] → MeaningRun gives s (served_of past) t
      → gives t e.packet.value e.moment u e.answer.value → MeaningRun gives s (served_of past') u
  desk_step past past' e s t u same h m =
      let x : Serving Q M A = record { client = e.client; packet = e.packet.value; moment = e.moment; answer = e.answer.value } in
      let shown : served_of past' ≡ served_of past ++ x ∷ [] = ap served_of same ∙ map-append (λ (y : Entry S Q A M). record { client = y.client; packet = y.packet.value; moment = y.moment; answer = y.answer.value }) past (e ∷ []) in
      subst (λ (l : List (Serving Q M A)). MeaningRun gives s l u) (sym shown) (meaning_append s t u (served_of past) (x ∷ []) h (meaning_one t u x m))

pub all_at_append : {Q M A : Type 0} (m : M) (xs ys : List (Serving Q M A)) → AllAt m xs → AllAt m ys → AllAt m (xs ++ ys)
all_at_append m [] ys a b = b
all_at_append m (x ∷ xs) ys a b = (a.0, all_at_append m xs ys a.1 b)
