-- The handler's takes from the port's queue: those that found a packet, and those that found nothing.
use Rattle.std.proofs.Common.{◌≡◌, ◌⊎◌, ℕ, ◌+◌, ◌<◌, List, [], ◌∷◌, ◌++◌, map, length, replicate, Some, None, sym, refl, ap, ◌∙◌, ⊎_elim, inl, inr, arith, append_assoc, append-nil, length-append}
use Rattle.std.specs.Prelude.{Option}
use Rattle.std.proofs.lemmas.List.{map-append, length-map, replicate-append-replicate}
use Rattle.ados_port.specs.History.{Serving}
use Rattle.ados_port.specs.Lawful.{packets_of}
use Rattle.ados_port.specs.Ends.{HandlerView}
use Rattle.ados_port.specs.Batches.{TakesUpTo, LastFoundNothing}
use Rattle.ados_port.specs.steps.QueueEnds.{TakeView}

module _ {Q M A : Type 0} where
  -- after these served packets and takes, as many takes as counted each found a packet, which was served
  abbrev pub FoundEach : List (Serving Q M A) → List (Option (ℕ × Q)) → ℕ → List (Serving Q M A) → List (Option (ℕ × Q)) → Type 0
  FoundEach was before count served takes =
      (packets : List (ℕ × Q)) × (length packets ≡ count) × (packets_of served ≡ packets_of was ++ packets) × (takes ≡ before ++ map Some packets)

  pub found_none : (served : List (Serving Q M A)) (takes : List (Option (ℕ × Q))) → FoundEach served takes 0 served takes
  found_none served takes = ([], refl, sym (append-nil (packets_of served)), sym (append-nil takes))

  pub found_more : (was served served' : List (Serving Q M A)) (before takes takes' : List (Option (ℕ × Q))) (count : ℕ) (x : Serving Q M A)
      → FoundEach was before count served takes → served' ≡ served ++ x ∷ [] → takes' ≡ takes ++ Some (x.client, x.packet) ∷ [] → FoundEach was before (count + 1) served' takes'
  found_more was served served' before takes takes' count x h more found =
      let p : ℕ × Q = (x.client, x.packet) in (
        h.0 ++ p ∷ [],
        length-append h.0 (p ∷ []) ∙ ap (λ (n : ℕ). n + 1) h.1,
        ap packets_of more ∙ (map-append (λ (s : Serving Q M A). (s.client, s.packet)) served (x ∷ []) ∙ (ap (λ l. l ++ p ∷ []) h.2 ∙ append_assoc (packets_of was) h.0 (p ∷ []))),
        found ∙ (ap (λ l. l ++ Some p ∷ []) h.3 ∙ (append_assoc before (map Some h.0) (Some p ∷ []) ∙ ap (λ l. before ++ l) (sym (map-append Some h.0 (p ∷ []))))),
      )

none_found : {X : Type 0} (xs : List X) → length xs ≡ 0 → xs ≡ []
none_found [] h = refl
none_found (x ∷ xs) h = absurd (omega arith)

module _ {S Q M A : Type 0} where
  -- a batch of as many packets as the limit allows, or at the last count of served packets
  pub takes_some : (limit count : ℕ) (a b : HandlerView S Q M A) → FoundEach a.served a.takes count b.served b.takes → (count ≡ limit) ⊎ (length b.served ≡ 18446744073709551615) → TakesUpTo limit a count b
  takes_some limit count a b h full = (h.0, h.1, h.2, inl (h.3, full))

  -- a batch whose last take found nothing
  pub takes_nothing : (limit count : ℕ) (a b c : HandlerView S Q M A) → FoundEach a.served a.takes count b.served b.takes → c ≡ record b { takes = b.takes ++ None ∷ [] } → TakesUpTo limit a count c
  takes_nothing limit count a b c h is = (
    h.0,
    h.1,
    ap (λ (v : HandlerView S Q M A). packets_of v.served) is ∙ h.2,
    inr (ap (λ (v : HandlerView S Q M A). v.takes) is ∙ (ap (λ l. l ++ None ∷ []) h.3 ∙ append_assoc a.takes (map Some h.0) (None ∷ []))),
  )

  same_count : (a b : HandlerView S Q M A) (packets : List (ℕ × Q)) → packets ≡ [] → packets_of b.served ≡ packets_of a.served ++ packets → length b.served ≡ length a.served
  same_count a b packets none is =
      sym (length-map b.served (λ (s : Serving Q M A). (s.client, s.packet)))
      ∙ (ap length (is ∙ (ap (λ l. packets_of a.served ++ l) none ∙ append-nil (packets_of a.served))) ∙ length-map a.served (λ (s : Serving Q M A). (s.client, s.packet)))

  -- one more empty batch
  pub nothing_more : (limit times : ℕ) (a b : HandlerView S Q M A) → 0 < limit → LastFoundNothing times a → TakesUpTo limit a 0 b → LastFoundNothing (times + 1) b
  nothing_more limit times a b some h g =
      let none = none_found g.0 g.1 in
      let count = same_count a b g.0 none g.2 in
      ⊎_elim
      (λ (w : (b.takes ≡ a.takes ++ map Some g.0) × ((0 ≡ limit) ⊎ (length b.served ≡ 18446744073709551615))).
      inr (⊎_elim (λ (e : 0 ≡ limit). absurd (omega (arith, e, some))) (λ (e : length b.served ≡ 18446744073709551615). e) w.1))
      (λ (w : b.takes ≡ a.takes ++ (map Some g.0 ++ None ∷ [])).
      ⊎_elim
      (λ (l : (before : List (Option (ℕ × Q))) × (a.takes ≡ before ++ replicate times None)).
      inl (
        l.0,
        w ∙ (ap (λ ps. a.takes ++ (map Some ps ++ None ∷ [])) none ∙ (ap (λ ts. ts ++ None ∷ []) l.1
            ∙ (append_assoc l.0 (replicate times None) (None ∷ []) ∙ ap (λ ts. l.0 ++ ts) (replicate-append-replicate times 1 None)))),
      ))
      (λ (e : length a.served ≡ 18446744073709551615). inr (count ∙ e)) h)
      g.3

  pub nothing_yet : (h : HandlerView S Q M A) → LastFoundNothing 0 h
  nothing_yet h = inl (h.takes, sym (append-nil h.takes))

  -- the last of these takes found nothing
  pub nothing_last : (limit : ℕ) (a b : HandlerView S Q M A) → 0 < limit → TakesUpTo limit a 0 b → LastFoundNothing 1 b
  nothing_last limit a b some g = nothing_more limit 0 a b some (nothing_yet a) g

module _ {Q : Type 0} where
  -- one more take of what remains found this packet
  pub rest_more : (q₀ q q' : TakeView Q) (rest rest' : List (ℕ × Q)) (x : ℕ × Q) → q ≡ record q₀ { taken = q₀.taken ++ rest; takes = q₀.takes ++ map Some rest }
      → q' ≡ record q { taken = q.taken ++ x ∷ []; takes = q.takes ++ Some x ∷ [] } → rest' ≡ rest ++ x ∷ []
      → q' ≡ record q₀ { taken = q₀.taken ++ rest'; takes = q₀.takes ++ map Some rest' }
  rest_more q₀ q q' rest rest' x was took more =
      took ∙ (ap (λ (v : TakeView Q). record v { taken = v.taken ++ x ∷ []; takes = v.takes ++ Some x ∷ [] }) was
      ∙ (λ i. record q₀ {
        taken = (append_assoc q₀.taken rest (x ∷ []) ∙ ap (λ l. q₀.taken ++ l) (sym more)) i;
        takes = (append_assoc q₀.takes (map Some rest) (Some x ∷ []) ∙ (ap (λ l. q₀.takes ++ l) (sym (map-append Some rest (x ∷ [])) ∙ ap (map Some) (sym more)))) i;
      }))

  -- the last take of what remains found nothing
  pub rest_ends : (q₀ q q' : TakeView Q) (rest : List (ℕ × Q)) → q ≡ record q₀ { taken = q₀.taken ++ rest; takes = q₀.takes ++ map Some rest }
      → q' ≡ record q { takes = q.takes ++ None ∷ [] } → q' ≡ record q₀ { taken = q₀.taken ++ rest; takes = q₀.takes ++ (map Some rest ++ None ∷ []) }
  rest_ends q₀ q q' rest was last =
      last ∙ (ap (λ (v : TakeView Q). record v { takes = v.takes ++ None ∷ [] }) was
      ∙ (λ i. record q₀ { taken = q₀.taken ++ rest; takes = append_assoc q₀.takes (map Some rest) (None ∷ []) i }))
