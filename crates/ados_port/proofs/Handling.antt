-- The lists of the handler stay consistent when one more packet is served.
use Rattle.std.proofs.Common.{◌≡◌, ◌≢◌, ℕ, ◌+◌, ◌≤◌, ◌==◌, if◌then◌else◌, List, [], ◌∷◌, ◌++◌, map, length, Some, None, slice_get, sym, refl, ap, ◌∙◌, subst, ⊎_elim, arith, append_assoc, append-nil, length-append}
use Rattle.std.proofs.lemmas.List.{map-append, length-map}
use Rattle.std.proofs.lemmas.List.Elements.{filter_map-append}
use Rattle.std.specs.Prelude.{Option}
use Rattle.std.proofs.lemmas.Option.{slice_get_within}
use native.Mathlib.Decide.{ℕ_discrete}
use mathlib.Core.Logic.{dite}
use Rattle.ados_port.specs.History.{Serving, packets_by}
use Rattle.ados_port.specs.Lawful.{packets_of}
use Rattle.ados_port.proofs.Moves.{get_end}
use Rattle.ados_port.proofs.Packets.{packets_by_append, packets_by_here, packets_by_past, same_number, other_number, lists_total, put_lists, of_clients_snoc}
use Rattle.ados_port.proofs.Runs.{meaning_none, meaning_one, meaning_append, all_at_append}
use Rattle.ados_port.proofs.Eachs.{before, sends_stays, each_stays, each_stays_refl, each_posts_stays, each_offers_posts, EachPosts, waiting_few}
use Rattle.ados_port.specs.Rings.{OutView, Each, EachOffers, all_of, waiting_count}
use Rattle.ados_port.specs.steps.Sending.{SendsTo}
use Rattle.ados_port.specs.steps.Desks.{DeskView}
use Rattle.ados_port.specs.Ends.{OfClients}
use Rattle.ados_port.specs.steps.Rule.{total}
use Rattle.ados_port.specs.Ends.{replies_to, HandlerView, ClientView, IsEndOf, AreEnds, Serves, found_in}
use Rattle.ados_port.specs.steps.QueueEnds.{TakeView}
use Rattle.ados_port.specs.steps.QueueCalls.{TakesPacket}
use Rattle.ados_port.specs.steps.Views.{Agree, handler_view}

module _ {Q M A : Type 0} where
  replies_snoc : (k : ℕ) (xs : List (Serving Q M A)) (x : Serving Q M A)
      → replies_to k (xs ++ x ∷ []) ≡ (if x.client == k then replies_to k xs ++ (x.moment, x.answer) ∷ [] else replies_to k xs)
  replies_snoc k xs x =
      let sent : List (Serving Q M A) → List (ℕ × (M × A)) = λ l. map (λ (s : Serving Q M A). (s.client, (s.moment, s.answer))) l in
      let all : replies_to k (xs ++ x ∷ []) ≡ replies_to k xs ++ replies_to k (x ∷ []) =
      ap (λ l. packets_by k l) (map-append (λ (s : Serving Q M A). (s.client, (s.moment, s.answer))) xs (x ∷ [])) ∙ packets_by_append k (sent xs) (sent (x ∷ [])) in
      dite (ℕ_discrete x.client k)
      (λ (e : x.client ≡ k). rw (same_number x.client k e) (all ∙ ap (λ l. replies_to k xs ++ l) (packets_by_here (x.client, (x.moment, x.answer)) k [] e)))
      (λ (n : x.client ≢ k). rw (other_number x.client k n) (all ∙ (ap (λ l. replies_to k xs ++ l) (packets_by_past (x.client, (x.moment, x.answer)) k [] n) ∙ append-nil (replies_to k xs))))

  replies_step : (served served' : List (Serving Q M A)) (x : Serving Q M A) (os os' : List (OutView (M × A)))
      → served' ≡ served ++ x ∷ []
      → Each (SendsTo x.client (x.moment, x.answer)) os os'
      → ((k : ℕ) (o : OutView (M × A)) → slice_get os k ≡ Some o → all_of o ≡ replies_to (k + 1) served)
      → (k : ℕ) (p : OutView (M × A)) → slice_get os' k ≡ Some p → all_of p ≡ replies_to (k + 1) served'
  replies_step served served' x os os' longer each was k p at =
      let o = before os os' k p each.0 at in
      let sent = each.1 k o.0 o.1 in
      let same : sent.0 ≡ p = let e = sent.1 in cc in
      let so = subst (λ (q : OutView (M × A)). SendsTo x.client (x.moment, x.answer) k o.0 q) same sent.2 in
      so.1 ∙ (rw (was k o.0 o.1) (sym (replies_snoc (k + 1) served x)) ∙ ap (λ l. replies_to (k + 1) l) (sym longer))

  abbrev sent_of : List (Serving Q M A) → List (ℕ × (M × A))
  sent_of served = map (λ (s : Serving Q M A). (s.client, (s.moment, s.answer))) served

  sent_clients : (n : ℕ) (served : List (Serving Q M A)) → OfClients n (packets_of served) → OfClients {Q = M × A} n (sent_of served)
  sent_clients n [] h = tt
  sent_clients n (x ∷ xs) h = (h.0, h.1, sent_clients n xs h.2)

  -- no more replies wait than packets were served
  pub waiting_served : (os : List (OutView (M × A))) (served : List (Serving Q M A)) → OfClients (length os) (packets_of served)
      → ((k : ℕ) (o : OutView (M × A)) → slice_get os k ≡ Some o → all_of o ≡ replies_to (k + 1) served)
      → waiting_count os ≤ length served
  waiting_served os served clients each =
      let few : waiting_count os ≤ total (put_lists (length os) 0 (sent_of served)) = waiting_few 0 os (sent_of served) (λ k o e. subst (λ (j : ℕ). all_of o ≡ packets_by (j + 1) (sent_of served)) (let z : k ≡ 0 + k = omega arith in z) (each k o e)) in
      let whole : total (put_lists (length os) 0 (sent_of served)) ≡ length (sent_of served) = lists_total (length os) (sent_of served) (sent_clients (length os) served clients) in
      let long : length (sent_of served) ≡ length served = length-map served (λ (s : Serving Q M A). (s.client, (s.moment, s.answer))) in
      subst (λ (n : ℕ). waiting_count os ≤ n) (whole ∙ long) few

  -- a new client's outlet is empty, and no packet of it was served
  pub fresh_step : (served : List (Serving Q M A)) (os os' : List (OutView (M × A))) (o : OutView (M × A)) → served ≡ [] → os' ≡ os ++ o ∷ [] → o.posted ≡ [] → o.waiting ≡ []
      → ((k : ℕ) (p : OutView (M × A)) → slice_get os k ≡ Some p → all_of p ≡ replies_to (k + 1) served)
      → (k : ℕ) (p : OutView (M × A)) → slice_get os' k ≡ Some p → all_of p ≡ replies_to (k + 1) served
  fresh_step served os os' o none longer p w was k x at =
      ⊎_elim (λ (e : slice_get os k ≡ Some x). was k x e)
      (λ (e : (k ≡ length os) × (o ≡ x)). ap all_of (sym e.1) ∙ ((λ i. p i ++ w i) ∙ ap (λ l. replies_to (k + 1) l) (sym none)))
      (get_end os o x k (subst (λ (l : List (OutView (M × A))). slice_get l k ≡ Some x) longer at))

module _ {T : Type 0} where
  -- the ring of the last outlet
  pub last_ring : (os os' : List (OutView T)) (o p : OutView T) → os' ≡ os ++ o ∷ [] → slice_get os' (length os) ≡ Some p → o ≡ p
  last_ring os os' o p longer at =
      ⊎_elim (λ (e : slice_get os (length os) ≡ Some p). let within = slice_get_within os (length os) p e in absurd (omega arith))
      (λ (e : (length os ≡ length os) × (o ≡ p)). e.1)
      (get_end os o p (length os) (subst (λ (l : List (OutView T)). slice_get l (length os) ≡ Some p) longer at))

module _ {X : Type 0} where
  pub found_append : (xs ys : List (Option X)) → found_in (xs ++ ys) ≡ found_in xs ++ found_in ys
  found_append xs ys = filter_map-append (λ found. found) xs ys

  -- some takes, and then some more
  takes_more : (a b c : List (Option X)) (ps qs rs : List X) → rs ≡ ps ++ qs → ((xs : List (Option X)) × (b ≡ a ++ xs) × (found_in xs ≡ ps))
      → ((ys : List (Option X)) × (c ≡ b ++ ys) × (found_in ys ≡ qs)) → (zs : List (Option X)) × (c ≡ a ++ zs) × (found_in zs ≡ rs)
  takes_more a b c ps qs rs both h g = (h.0 ++ g.0, g.1 ∙ (ap (λ l. l ++ g.0) h.1 ∙ append_assoc a h.0 g.0), found_append h.0 g.0 ∙ ((λ i. h.2 i ++ g.2 i) ∙ sym both))

module _ {Q : Type 0} where
  -- a take that found this packet
  found_step : (q q' : TakeView Q) (x : ℕ × Q) → q' ≡ record q { taken = q.taken ++ x ∷ []; takes = q.takes ++ Some x ∷ [] } → found_in q.takes ≡ q.taken → found_in q'.takes ≡ q'.taken
  found_step q q' x is h =
      subst (λ (v : TakeView Q). found_in v.takes ≡ v.taken) (sym is) (found_append q.takes (Some x ∷ []) ∙ ap (λ l. l ++ x ∷ []) h)

module _ {S Q M A : Type 0} where
  pub serves_none : (gives : S → Q → M → S → A → Type 0) (m : M) (h : HandlerView S Q M A) → Serves gives m h [] h
  serves_none gives m h = record { port = refl; mark = refl; opening = refl; served_more = sym (append-nil h.served); moments = tt; run = meaning_none gives h.server; rings = each_stays_refl h.outlets; takes = ([], sym (append-nil h.takes), refl) }

  pub serves_more : (gives : S → Q → M → S → A → Type 0) (m : M) (a b c : HandlerView S Q M A) (xs ys : List (Serving Q M A)) → Serves gives m a xs b → Serves gives m b ys c → Serves gives m a (xs ++ ys) c
  serves_more gives m a b c xs ys h g = record {
    port = g.port ∙ h.port;
    mark = g.mark ∙ h.mark;
    opening = g.opening ∙ h.opening;
    served_more = g.served_more ∙ (ap (λ l. l ++ ys) h.served_more ∙ append_assoc a.served xs ys);
    moments = all_at_append m xs ys h.moments g.moments;
    run = meaning_append gives a.server b.server c.server xs ys h.run g.run;
    rings = each_stays a.outlets b.outlets c.outlets h.rings g.rings;
    takes = takes_more a.takes b.takes c.takes (packets_of xs) (packets_of ys) (packets_of (xs ++ ys)) (map-append (λ (s : Serving Q M A). (s.client, s.packet)) xs ys) h.takes g.takes;
  }

  -- replies were posted, and nothing else changed
  pub serves_posts : (gives : S → Q → M → S → A → Type 0) (m : M) (a b : HandlerView S Q M A) (os : List (OutView (M × A))) → b ≡ record a { outlets = os } → EachPosts a.outlets os → Serves gives m a [] b
  serves_posts gives m a b os is posts =
      let p : HandlerView S Q M A = record a { outlets = os } in
      subst (λ (v : HandlerView S Q M A). Serves gives m a [] v) (sym is)
      (record { port = refl; mark = refl; opening = refl; served_more = sym (append-nil a.served); moments = tt; run = meaning_none gives a.server; rings = each_posts_stays a.outlets os posts; takes = ([], sym (append-nil a.takes), refl) })

  -- waiting replies were offered to their rings, and nothing else changed
  pub serves_offers : (gives : S → Q → M → S → A → Type 0) (m : M) (a b : HandlerView S Q M A) (os : List (OutView (M × A))) → b ≡ record a { outlets = os } → EachOffers a.outlets os → Serves gives m a [] b
  serves_offers gives m a b os is offers = serves_posts gives m a b os is (each_offers_posts a.outlets os offers)

  pub only_outlets : (a b c : HandlerView S Q M A) → b ≡ record a { outlets = b.outlets } → c ≡ record b { outlets = c.outlets } → c ≡ record a { outlets = c.outlets }
  only_outlets a b c f g = g ∙ ap (λ (v : HandlerView S Q M A). record v { outlets = c.outlets }) f

  -- one packet was served, and its reply was sent
  pub serves_one : (gives : S → Q → M → S → A → Type 0) (q q' : TakeView Q) (d d' : DeskView S Q M A) (os os' : List (OutView (M × A))) (x : Serving Q M A)
      → q'.port ≡ q.port → q'.takes ≡ q.takes ++ Some (x.client, x.packet) ∷ [] → d'.opening ≡ d.opening → d'.mark ≡ d.mark → d'.served ≡ d.served ++ x ∷ [] → gives d.server x.packet x.moment d'.server x.answer
      → Each (SendsTo x.client (x.moment, x.answer)) os os' → Serves gives x.moment (handler_view q d os) (x ∷ []) (handler_view q' d' os')
  serves_one gives q q' d d' os os' x port takes opening mark served meaning sends = record {
    port = port;
    mark = mark;
    opening = opening;
    served_more = served;
    moments = (refl, tt);
    run = meaning_one gives d.server d'.server x meaning;
    rings = sends_stays x.client (x.moment, x.answer) os os' sends;
    takes = (Some (x.client, x.packet) ∷ [], takes, refl);
  }

  -- the parts still belong together after a packet was taken and served, and its reply was sent
  pub agree_step : (q q' : TakeView Q) (d d' : DeskView S Q M A) (os os' : List (OutView (M × A))) (x : Serving Q M A)
      → TakesPacket q q' (x.client, x.packet) → d'.served ≡ d.served ++ x ∷ [] → Each (SendsTo x.client (x.moment, x.answer)) os os' → Agree q d os → Agree q' d' os'
  agree_step q q' d d' os os' x took served sends h = (
    ap packets_of served
        ∙ (map-append (λ (y : Serving Q M A). (y.client, y.packet)) d.served (x ∷ []) ∙ (ap (λ l. l ++ (x.client, x.packet) ∷ []) h.0 ∙ sym (ap (λ (v : TakeView Q). v.taken) took.0))),
    ap (λ (v : TakeView Q). v.known) took.0 ∙ h.1,
    sends.0 ∙ (h.2 ∙ sym (ap (λ (v : TakeView Q). v.clients) took.0)),
    replies_step d.served d'.served x os os' served sends h.3,
    subst (λ (v : TakeView Q). OfClients v.clients v.taken) (sym took.0) (of_clients_snoc q.clients x.client q.taken x.packet took.1 took.2 h.4),
    found_step q q' (x.client, x.packet) took.0 h.5,
  )

  -- a take found nothing, and nothing else changed
  pub agree_none : (q q' : TakeView Q) (d : DeskView S Q M A) (os : List (OutView (M × A))) → q' ≡ record q { takes = q.takes ++ None ∷ [] } → Agree q d os → Agree q' d os
  agree_none q q' d os is h =
      subst (λ (v : TakeView Q). Agree v d os) (sym is)
      (h.0, h.1, h.2, h.3, h.4, found_append q.takes (None ∷ []) ∙ (append-nil (found_in q.takes) ∙ h.5))

  pub serves_nothing : (gives : S → Q → M → S → A → Type 0) (m : M) (a b c : HandlerView S Q M A) (xs : List (Serving Q M A)) → Serves gives m a xs b → c ≡ record b { takes = b.takes ++ None ∷ [] } → Serves gives m a xs c
  serves_nothing gives m a b c xs h is =
      let last : HandlerView S Q M A = record b { takes = b.takes ++ None ∷ [] } in
      let one : Serves gives m b [] last = record { port = refl; mark = refl; opening = refl; served_more = sym (append-nil b.served); moments = tt; run = meaning_none gives b.server; rings = each_stays_refl b.outlets; takes = (None ∷ [], refl, refl) } in
      subst (λ (v : HandlerView S Q M A). Serves gives m a xs v) (sym is) (subst (λ ys. Serves gives m a ys last) (append-nil xs) (serves_more gives m a b last xs [] h one))

  pub added_view : (q q' : TakeView Q) (d : DeskView S Q M A) (os os' : List (OutView (M × A))) (o : OutView (M × A)) (h : HandlerView S Q M A)
      → handler_view q d os ≡ h → q' ≡ record q { clients = q.clients + 1 } → os' ≡ os ++ o ∷ [] → handler_view q' d os' ≡ record h { outlets = h.outlets ++ o ∷ [] }
  added_view q q' d os os' o h is eq eos =
      subst (λ (x : HandlerView S Q M A). handler_view q' d os' ≡ record x { outlets = x.outlets ++ o ∷ [] }) is
      (λ i. record { port = (eq i).port; mark = d.mark; opening = d.opening; served = d.served; server = d.server; outlets = eos i; knows = d.knows; takes = (eq i).takes })

  pub added_end : (q q' : TakeView Q) (d : DeskView S Q M A) (os os' : List (OutView (M × A))) (o : OutView (M × A)) (h : HandlerView S Q M A) (e : ClientView Q M A)
      → handler_view q d os ≡ h → q' ≡ record q { clients = q.clients + 1 } → os' ≡ os ++ o ∷ [] → length os ≡ q.clients
      → e.port ≡ q.port → e.mark ≡ d.mark → e.number ≡ q.clients + 1 → e.ring ≡ o.ring
      → IsEndOf (handler_view q' d os') (length h.outlets) e
  added_end q q' d os os' o h e is eq eos count p m n r =
      let len : length os ≡ length h.outlets = ap (λ (x : HandlerView S Q M A). length x.outlets) is in (
        p ∙ sym (ap (λ (x : TakeView Q). x.port) eq),
        m,
        n ∙ ap (λ (k : ℕ). k + 1) (sym count ∙ len),
        λ x at. sym (ap (λ (y : OutView (M × A)). y.ring) (last_ring os os' o x eos (subst (λ (k : ℕ). slice_get os' k ≡ Some x) (sym len) at))) ∙ sym r,
      )

  -- one more client's end
  pub ends_more : (h h' : HandlerView S Q M A) (o : OutView (M × A)) (cs : List (ClientView Q M A)) (e : ClientView Q M A)
      → h' ≡ record h { outlets = h.outlets ++ o ∷ [] } → AreEnds h cs → IsEndOf h' (length h.outlets) e → AreEnds h' (cs ++ e ∷ [])
  ends_more h h' o cs e is ends new = (
    length-append cs (e ∷ []) ∙ (ap (λ (n : ℕ). n + 1) ends.0 ∙ (sym (length-append h.outlets (o ∷ [])) ∙ sym (ap (λ (x : HandlerView S Q M A). length x.outlets) is))),
    λ k c at. ⊎_elim
        (λ (was : slice_get cs k ≡ Some c). let w = ends.1 k c was in let within = slice_get_within cs k c was in let count = ends.0 in (
          w.0 ∙ sym (ap (λ (x : HandlerView S Q M A). x.port) is),
          w.1 ∙ sym (ap (λ (x : HandlerView S Q M A). x.mark) is),
          w.2,
          λ p here. w.3 p (⊎_elim (λ (y : slice_get h.outlets k ≡ Some p). y) (λ (y : (k ≡ length h.outlets) × (o ≡ p)). let z = y.0 in absurd (omega arith))
              (get_end h.outlets o p k (subst (λ (x : HandlerView S Q M A). slice_get x.outlets k ≡ Some p) is here))),
        ))
        (λ (y : (k ≡ length cs) × (e ≡ c)). subst (λ (z : ℕ × ClientView Q M A). IsEndOf h' z.0 z.1) (λ i. (sym (y.0 ∙ ends.0) i, y.1 i)) new)
        (get_end cs e c k at),
  )

module _ {X : Type 0} where
  -- a property of each of xs, and of x after them
  pub each_more : (P : X → Type 0) (xs xs' : List X) (x : X) → xs' ≡ xs ++ x ∷ [] → ((k : ℕ) (y : X) → slice_get xs k ≡ Some y → P y) → P x → (k : ℕ) (y : X) → slice_get xs' k ≡ Some y → P y
  each_more P xs xs' x is was here k y at =
      ⊎_elim (λ (e : slice_get xs k ≡ Some y). was k y e) (λ (e : (k ≡ length xs) × (x ≡ y)). subst P e.1 here) (get_end xs x y k (subst (λ (l : List X). slice_get l k ≡ Some y) is at))
