-- Ends that grow.
use Rattle.std.proofs.Common.{◌≡◌, ℕ, List, [], ◌++◌, length, Some, slice_get, sym, ap, subst, ◌∙◌, append_assoc, arith}
use Rattle.std.proofs.lemmas.Option.{slice_get_within, slice_get-get_or}
use Rattle.std.proofs.Math.ListN.{get_or}
use Rattle.ados_port.specs.History.{Serving}
use Rattle.ados_port.specs.Rings.{OutView}
use Rattle.ados_port.specs.Ends.{ClientView, HandlerView, AreEnds, Serves}
use Rattle.ados_port.specs.Batches.{ServesSome, ServesSoMany, OnlyOffers}
use Rattle.ados_port.proofs.Handling.{serves_more, serves_offers}
use Rattle.ados_port.specs.Grown.{Grown}

module _ {Q M A : Type 0} where
  pub grown_more : (a b c : ClientView Q M A) → Grown a b → Grown b c → Grown a c
  grown_more a b c h g = record {
    port = g.port ∙ h.port;
    mark = g.mark ∙ h.mark;
    ring = g.ring ∙ h.ring;
    number = g.number ∙ h.number;
    put = (h.put.0 ++ g.put.0, g.put.1 ∙ (ap (λ l. l ++ g.put.0) h.put.1 ∙ append_assoc a.put h.put.0 g.put.0));
    taken = (h.taken.0 ++ g.taken.0, g.taken.1 ∙ (ap (λ l. l ++ g.taken.0) h.taken.1 ∙ append_assoc a.taken h.taken.0 g.taken.0));
    knows = λ k. g.knows (h.knows k);
  }

module _ {S Q M A : Type 0} where
  -- one more batch, and one that ran out of memory
  pub some_more : (gives : S → Q → M → S → A → Type 0) (m : M) (a b c : HandlerView S Q M A) (n : ℕ) → ServesSome gives m a b → ServesSoMany gives m b n c → ServesSome gives m a c
  some_more gives m a b c n h g = (h.0 ++ g.0, serves_more gives m a b c h.0 g.0 h.1 g.2)

  pub some_offers : (gives : S → Q → M → S → A → Type 0) (m : M) (a b c : HandlerView S Q M A) → ServesSome gives m a b → OnlyOffers b c → ServesSome gives m a c
  some_offers gives m a b c h g = (h.0 ++ [], serves_more gives m a b c h.0 [] h.1 (serves_offers gives m b c c.outlets g.0 g.1))

  -- grown ends are still the ends of that port
  pub ends_after : (gives : S → Q → M → S → A → Type 0) (m : M) (h h' : HandlerView S Q M A) (xs : List (Serving Q M A)) (cs cs' : List (ClientView Q M A))
      → AreEnds h cs → Serves gives m h xs h' → length cs' ≡ length cs → ((k : ℕ) (o : ClientView Q M A) → slice_get cs k ≡ Some o → (n : ClientView Q M A) × (slice_get cs' k ≡ Some n) × Grown o n) → AreEnds h' cs'
  ends_after gives m h h' xs cs cs' ends serves len grown = (
    len ∙ (ends.0 ∙ sym serves.rings.0),
    λ k c at.
        let within = slice_get_within cs' k c at in
        let o : ClientView Q M A = get_or cs k c in
        let old : slice_get cs k ≡ Some o = slice_get-get_or cs k c (omega arith) in
        let g = grown k o old in
        let same : g.0 ≡ c = let e = g.1 in cc in
        let w = subst (λ (x : ClientView Q M A). Grown o x) same g.2 in
        let e = ends.1 k o old in (
          w.port ∙ (e.0 ∙ sym serves.port),
          w.mark ∙ (e.1 ∙ sym serves.mark),
          w.number ∙ e.2,
          λ p here.
              let inside = slice_get_within h'.outlets k p here in
              let q : OutView (M × A) = get_or h.outlets k p in
              let before : slice_get h.outlets k ≡ Some q = slice_get-get_or h.outlets k p (let r = serves.rings.0 in omega arith) in
              let r = serves.rings.1 k q before in
              let is : r.0 ≡ p = let z = r.1 in cc in
              ap (λ (x : OutView (M × A)). x.ring) (sym is) ∙ (r.2.0 ∙ (e.3 q before ∙ sym w.ring)),
        ),
  )
