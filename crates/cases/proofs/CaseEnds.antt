-- After a change of one end of a port, it is still an end of the same client.
use Rattle.std.proofs.Common.{◌≡◌, ◌≢◌, ℕ, ◌<◌, List, length, set, Some, slice_get, sym, refl, ap, ◌∙◌, subst}
use Rattle.std.proofs.lemmas.List.{length-set}
use Rattle.std.proofs.lemmas.Option.{slice_get_read}
use Rattle.std.proofs.Math.ListN.{get_or}
use native.Mathlib.Decide.{ℕ_discrete}
use mathlib.Core.Logic.{dite}
use Rattle.ados_port.proofs.Eachs.{get_set_same, get_set_other}
use Rattle.ados_port.specs.Ends.{ClientView, HandlerView, IsEndOf, AreEnds}

module _ {S Q M A : Type 0} where
  ends_set : (h : HandlerView S Q M A) (cs : List (ClientView Q M A)) (k : ℕ) (o n : ClientView Q M A) → AreEnds h cs → k < length cs → o ≡ get_or cs k o
      → n.port ≡ o.port → n.mark ≡ o.mark → n.number ≡ o.number → n.ring ≡ o.ring → AreEnds h (set cs k n)
  ends_set h cs k o n ends within at port mark number ring = (
    length-set cs k n ∙ ends.0,
    λ j c here. dite (ℕ_discrete j k)
        (λ (e : j ≡ k).
        let was = ends.1 k o (slice_get_read cs (length cs) k o refl within at) in
        let there : slice_get (set cs k n) j ≡ Some n = subst (λ (i : ℕ). slice_get (set cs k n) i ≡ Some n) (sym e) (get_set_same cs k n within) in
        let same : n ≡ c = cc in
        subst (λ (z : ℕ × ClientView Q M A). IsEndOf h z.0 z.1) (λ i. (sym e i, same i))
        (port ∙ was.0, mark ∙ was.1, number ∙ was.2, λ x place. was.3 x place ∙ sym ring))
        (λ (other : j ≢ k). ends.1 j c (sym (get_set_other cs k j n other) ∙ here)),
  )

  -- after a put
  pub ends_put : (h : HandlerView S Q M A) (cs : List (ClientView Q M A)) (k : ℕ) (o n : ClientView Q M A) → AreEnds h cs → k < length cs → o ≡ get_or cs k o
      → n ≡ record o { put = n.put; knows = n.knows; full = n.full } → AreEnds h (set cs k n)
  ends_put h cs k o n ends within at same = ends_set h cs k o n ends within at (ap (λ (v : ClientView Q M A). v.port) same) (ap (λ (v : ClientView Q M A). v.mark) same) (ap (λ (v : ClientView Q M A). v.number) same) (ap (λ (v : ClientView Q M A). v.ring) same)

  -- after a take
  pub ends_take : (h : HandlerView S Q M A) (cs : List (ClientView Q M A)) (k : ℕ) (o n : ClientView Q M A) → AreEnds h cs → k < length cs → o ≡ get_or cs k o
      → n ≡ record o { taken = n.taken; knows = n.knows } → AreEnds h (set cs k n)
  ends_take h cs k o n ends within at same = ends_set h cs k o n ends within at (ap (λ (v : ClientView Q M A). v.port) same) (ap (λ (v : ClientView Q M A). v.mark) same) (ap (λ (v : ClientView Q M A). v.number) same) (ap (λ (v : ClientView Q M A). v.ring) same)
