-- Lists that change at one place, and the lists of untaken replies.
use Rattle.std.proofs.Common.{◌≡◌, ◌≢◌, ℕ, zero, suc, ◌+◌, ◌<◌, ◌≤◌, List, [], ◌∷◌, ◌++◌, length, set, Some, None, slice_get, sym, refl, ap, ◌∙◌, subst, arith, length-append, map, take, add-one, ⊎_elim}
use Rattle.std.proofs.lemmas.List.{length-set, map-append, set-get_or}
use Rattle.std.proofs.lemmas.Option.{slice_get_within, slice_get_read, slice_get_cases}
use Rattle.std.proofs.Math.ListN.{get_or}
use native.Mathlib.Decide.{ℕ_discrete}
use mathlib.Core.Logic.{dite}
use Rattle.ados_port.proofs.Eachs.{get_set_other}
use Rattle.std.specs.declared.alloc.Global.{Global}
use Rattle.std.specs.Prelude.{Vec}
use Rattle.ados_port.specs.declared.step.Reply.{Reply}
use Rattle.ados_port.specs.Rings.{OutView, all_of}
use Rattle.ados_port.specs.History.{Serving, packets_by}
use Rattle.ados_port.specs.Lawful.{packets_of, answers_to, ClientLists, Lawful, MeaningRun, numbered}
use Rattle.ados_port.specs.steps.Rooms.{OnlyElement, SameFrom, Left}
use Rattle.ados_port.specs.Gathering.{answers, lists_of, all_lists}
use Rattle.ados_port.proofs.Moves.{get_end}
use Rattle.ados_port.specs.steps.Rule.{total}
use Rattle.ados_port.specs.Ends.{OfClients, ClientView, replies_to}
use Rattle.ados_port.proofs.Packets.{of_clients_place, packets_by_append, packets_by_here, packets_by_past}
use Rattle.ados_port.proofs.Drains.{numbered_answers}
use Rattle.ados_port.specs.steps.QueueEnds.{TakeView}

module _ {X : Type 0} where
  pub at_place : (xs : List X) (k : ℕ) (x : X) → k < length xs → x ≡ get_or xs k x → slice_get xs k ≡ Some x
  at_place xs k x within at = slice_get_read xs (length xs) k x refl within at

  pub same_but_set : (xs : List X) (k : ℕ) (x : X) → OnlyElement k xs (set xs k x)
  same_but_set xs k x = (length-set xs k x, λ j other. get_set_other xs k j x other)

  pub one_of : (xs : List X) (k : ℕ) (x y : X) → slice_get xs k ≡ Some x → slice_get xs k ≡ Some y → x ≡ y
  one_of xs k x y e f = cc

  -- the element after xs
  pub get_mid : (xs ys : List X) (x : X) → slice_get (xs ++ x ∷ ys) (length xs) ≡ Some x
  get_mid [] ys x = refl
  get_mid (z ∷ xs) ys x = get_mid xs ys x

  pub from_but : (k : ℕ) (first old new : List X) → SameFrom k first old → OnlyElement k old new → SameFrom (k + 1) first new
  from_but k first old new h g = (g.0 ∙ h.0, λ j less. g.1 j (λ e. omega arith) ∙ h.1 j (omega arith))

  -- the next element of a loop over cs
  pub place : (ys rest rest' cs : List X) (x : X) → ys ++ rest ≡ cs → rest ≡ x ∷ rest' → slice_get cs (length ys) ≡ Some x
  place ys rest rest' cs x whole first = subst (λ (l : List X). slice_get l (length ys) ≡ Some x) (ap (λ l. ys ++ l) (sym first) ∙ whole) (get_mid ys rest' x)

  pub nothing_left : (ys rest cs : List X) → ys ++ rest ≡ cs → length rest ≡ 0 → length ys ≡ length cs
  nothing_left ys rest cs whole none = let a = length-append ys rest in let b = ap (λ l. length l) whole in omega arith

module _ {C O R : Type 0} where
  -- a property of the first clients and their lists, and of one more client
  pub done_more : (P : C → O → R → Type 0) (k : ℕ) (cs : List C) (os os' : List O) (rs rs' : List R) (x : C) → slice_get cs k ≡ Some x → SameFrom k os os' → OnlyElement k rs rs'
      → ((j : ℕ) (c : C) (o : O) → j < k → slice_get cs j ≡ Some c → slice_get os j ≡ Some o → (r : R) × (slice_get rs j ≡ Some r) × P c o r)
      → ((o : O) → slice_get os' k ≡ Some o → (r : R) × (slice_get rs' k ≡ Some r) × P x o r)
      → (j : ℕ) (c : C) (o : O) → j < k + 1 → slice_get cs j ≡ Some c → slice_get os j ≡ Some o → (r : R) × (slice_get rs' j ≡ Some r) × P c o r
  done_more P k cs os os' rs rs' x at from but was now j c o less atc ato = dite (ℕ_discrete j k)
      (λ (here : j ≡ k).
      let n = now o (from.1 k (omega arith) ∙ subst (λ (i : ℕ). slice_get os i ≡ Some o) here ato) in
      let same : x ≡ c = one_of cs k x c at (subst (λ (i : ℕ). slice_get cs i ≡ Some c) here atc) in
      (n.0, subst (λ (i : ℕ). slice_get rs' i ≡ Some n.0) (sym here) n.1, subst (λ (y : C). P y o n.0) same n.2))
      (λ (other : j ≢ k). let w = was j c o (omega arith) atc ato in (w.0, but.1 j other ∙ w.1, w.2))

module _ {Q M A : Type 0} where
  -- one more put list is known
  pub queue_more : (q q₁ q₂ : TakeView Q) (ys : List (ClientView Q M A)) (c : ClientView Q M A) → q₁ ≡ record q { known = map (λ (x : ClientView Q M A). x.put) ys } → q₂ ≡ record q₁ { known = q₁.known ++ c.put ∷ [] }
      → q₂ ≡ record q { known = map (λ (x : ClientView Q M A). x.put) (ys ++ c ∷ []) }
  queue_more q q₁ q₂ ys c was now =
      let f : TakeView Q → TakeView Q = λ p. record p { known = p.known ++ c.put ∷ [] } in
      let g : List (List Q) → TakeView Q = λ l. record q { known = l } in
      now ∙ (ap f was ∙ ap g (sym (map-append (λ (x : ClientView Q M A). x.put) ys (c ∷ []))))

  pub total_take : (xs : List (ClientView Q M A)) (k : ℕ) (x : ClientView Q M A) → slice_get xs k ≡ Some x
      → total (map (λ (c : ClientView Q M A). c.put) (take (k + 1) xs)) ≡ total (map (λ (c : ClientView Q M A). c.put) (take k xs)) + length x.put
  total_take xs k x at = rw add-one (taken xs k x at)
    where
      taken : (ys : List (ClientView Q M A)) (j : ℕ) (y : ClientView Q M A) → slice_get ys j ≡ Some y
          → total (map (λ (c : ClientView Q M A). c.put) (take (suc j) ys)) ≡ total (map (λ (c : ClientView Q M A). c.put) (take j ys)) + length y.put
      taken [] j y e = cc
      taken (z ∷ ys) zero y e = let s : z ≡ y = cc in let l = ap (λ (c : ClientView Q M A). length c.put) s in omega arith
      taken (z ∷ ys) (suc j) y e = let ih = taken ys j y e in omega arith

module _ {X : Type 0} where
  pub set_same : (xs : List X) (k : ℕ) (x y : X) → x ≡ get_or xs k x → y ≡ x → set xs k y ≡ xs
  set_same xs k x y at same = ap (λ z. set xs k z) (same ∙ at) ∙ set-get_or xs k x

module _ {C O R : Type 0} where
  pub fit_more : (P : C → O → R → Type 0) (cs : List C) (os : List O) (rs rs' : List R) (x : C) (r : R) (k : ℕ) → rs' ≡ rs ++ r ∷ [] → length rs ≡ k → slice_get cs k ≡ Some x
      → ((o : O) → slice_get os k ≡ Some o → P x o r)
      → ((j : ℕ) (c : C) (o : O) (q : R) → slice_get cs j ≡ Some c → slice_get os j ≡ Some o → slice_get rs j ≡ Some q → P c o q)
      → (j : ℕ) (c : C) (o : O) (q : R) → slice_get cs j ≡ Some c → slice_get os j ≡ Some o → slice_get rs' j ≡ Some q → P c o q
  fit_more P cs os rs rs' x r k longer len at now was j c o q atc ato atr =
      ⊎_elim (λ (e : slice_get rs j ≡ Some q). was j c o q atc ato e)
      (λ (e : (j ≡ length rs) × (r ≡ q)).
      let here : j ≡ k = e.0 ∙ len in
      let same : x ≡ c = one_of cs k x c at (subst (λ (i : ℕ). slice_get cs i ≡ Some c) here atc) in
      subst (λ (y : C × R). P y.0 o y.1) (λ i. (same i, e.1 i)) (now o (subst (λ (i : ℕ). slice_get os i ≡ Some o) here ato)))
      (get_end rs r q j (subst (λ (l : List R). slice_get l j ≡ Some q) longer atr))

module _ {X Y : Type 0} where
  pub get_map : (f : X → Y) (xs : List X) (k : ℕ) (x : X) → slice_get xs k ≡ Some x → slice_get (map f xs) k ≡ Some (f x)
  get_map f [] k x e = cc
  get_map f (y ∷ ys) zero x e = ap (λ z. Some (f z)) (let s : y ≡ x = cc in s)
  get_map f (y ∷ ys) (suc k) x e = get_map f ys k x e

module _ {Q M A : Type 0} where
  pub replies_few : (k : ℕ) (xs : List (Serving Q M A)) → length (replies_to k xs) ≤ length xs
  replies_few k [] = omega arith
  replies_few k (x ∷ xs) =
      let ih = replies_few k xs in
      let sent : List (ℕ × (M × A)) = map (λ (s : Serving Q M A). (s.client, (s.moment, s.answer))) xs in
      dite (ℕ_discrete x.client k)
      (λ (e : x.client ≡ k). let l = ap (λ z. length z) (packets_by_here (x.client, (x.moment, x.answer)) k sent e) in omega arith)
      (λ (n : x.client ≢ k). let l = ap (λ z. length z) (packets_by_past (x.client, (x.moment, x.answer)) k sent n) in omega arith)

  -- a client has no more untaken replies than there are served packets
  pub untaken_few : (k : ℕ) (o : OutView (M × A)) (served : List (Serving Q M A)) (taken rest : List (M × A)) → all_of o ≡ replies_to k served → o.posted ≡ taken ++ rest → length rest + length o.waiting ≤ length served
  untaken_few k o served taken rest sent posted =
      let few = replies_few k served in
      let a = ap (λ l. length l) sent in
      let b = length-append o.posted o.waiting in
      let c = ap (λ l. length l) posted in
      let d = length-append taken rest in
      omega arith

  -- the answers in a client's replies
  answers_replies : (k : ℕ) (xs : List (Serving Q M A)) → answers (replies_to k xs) ≡ answers_to k xs
  answers_replies k [] = refl
  answers_replies k (x ∷ xs) =
      let sent : List (ℕ × (M × A)) = map (λ (s : Serving Q M A). (s.client, (s.moment, s.answer))) xs in
      let plain : List (ℕ × A) = map (λ (s : Serving Q M A). (s.client, s.answer)) xs in
      let ih = answers_replies k xs in
      dite (ℕ_discrete x.client k)
      (λ (e : x.client ≡ k). ap answers (packets_by_here (x.client, (x.moment, x.answer)) k sent e) ∙ (ap (λ l. x.answer ∷ l) ih ∙ sym (packets_by_here (x.client, x.answer) k plain e)))
      (λ (n : x.client ≢ k). ap answers (packets_by_past (x.client, (x.moment, x.answer)) k sent n) ∙ (ih ∙ sym (packets_by_past (x.client, x.answer) k plain n)))

  -- the taken replies, then the untaken ones, are the answers to the served packets, numbered from 1
  pub left_numbered : (k : ℕ) (c : ClientView Q M A) (served : List (Serving Q M A)) (untaken : List (Reply A)) → Left c (replies_to k served) untaken
      → numbered 1 (answers c.taken) ++ untaken ≡ numbered 1 (answers_to k served)
  left_numbered k c served untaken h =
      let place : length c.taken + 1 ≡ 1 + length c.taken = omega arith in
      ap (λ l. numbered 1 (answers c.taken) ++ l) (h.2 ∙ ap (λ (n : ℕ). numbered n (answers h.0)) place)
      ∙ (sym (numbered_answers 1 c.taken h.0) ∙ ap (λ l. numbered 1 l) (ap answers (sym h.1) ∙ answers_replies k served))

  pub lawful_replies : (cs : List (ClientView Q M A)) (os os' : List (OutView (M × A))) (rs : List (Vec (Reply A) Global)) (served : List (Serving Q M A))
      → length cs ≡ length os → os' ≡ os
      → ((k : ℕ) (o : OutView (M × A)) → slice_get os k ≡ Some o → all_of o ≡ replies_to (k + 1) served)
      → ((k : ℕ) (c : ClientView Q M A) (o : OutView (M × A)) → slice_get cs k ≡ Some c → slice_get os' k ≡ Some o → (r : Vec (Reply A) Global) × (slice_get rs k ≡ Some r) × Left c (all_of o) r.items)
      → (k : ℕ) (c : ClientView Q M A) (us : Vec (Reply A) Global) → slice_get cs k ≡ Some c → slice_get rs k ≡ Some us → Left c (replies_to (k + 1) served) us.items
  lawful_replies cs os os' rs served len same sent left k c us atc atu =
      let within = slice_get_within cs k c atc in
      ⊎_elim
      (λ (e : (o : OutView (M × A)) × (k < length os) × (slice_get os k ≡ Some o) × (get_or os k o ≡ o)).
      let r = left k c e.0 atc (subst (λ (l : List (OutView (M × A))). slice_get l k ≡ Some e.0) (sym same) e.2) in
      let u : r.0 ≡ us = one_of rs k r.0 us r.1 atu in
      let s = sent k e.0 e.2 in
      subst (λ (z : List (M × A) × Vec (Reply A) Global). Left c z.0 z.1.items) (λ i. (s i, u i)) r.2)
      (λ (e : (length os ≤ k) × (slice_get os k ≡ None)). let far = e.0 in absurd (omega arith))
      (slice_get_cases os k).1

  -- the lists at an index are those of the client there
  lists_at : (cs : List (ClientView Q M A)) (us : List (Vec (Reply A) Global)) (place : ℕ) (lists : ClientLists Q A) → slice_get (all_lists cs us) place ≡ Some lists
      → (c : ClientView Q M A) × (u : Vec (Reply A) Global) × (slice_get cs place ≡ Some c) × (slice_get us place ≡ Some u) × (lists_of c u ≡ lists)
  lists_at [] us place lists e = cc
  lists_at (c ∷ cs) [] place lists e = cc
  lists_at (c ∷ cs) (u ∷ us) zero lists e = (c, u, refl, refl, (let s : lists_of c u ≡ lists = cc in s))
  lists_at (c ∷ cs) (u ∷ us) (suc place) lists e = lists_at cs us place lists e

  length-all_lists : (cs : List (ClientView Q M A)) (us : List (Vec (Reply A) Global)) → length us ≡ length cs → length (all_lists cs us) ≡ length cs
  length-all_lists [] us h = refl
  length-all_lists (c ∷ cs) [] h = absurd (omega arith)
  length-all_lists (c ∷ cs) (u ∷ us) h = ap suc (length-all_lists cs us (omega arith))

  pub is_lawful : {S : Type 0} (gives : S → Q → M → S → A → Type 0) (opening closing : S) (served : List (Serving Q M A)) (unanswered : List (ℕ × Q)) (cs : List (ClientView Q M A)) (us : List (Vec (Reply A) Global))
      → MeaningRun gives opening served closing → length us ≡ length cs
      → ((k : ℕ) (c : ClientView Q M A) → slice_get cs k ≡ Some c → c.put ≡ packets_by (k + 1) (packets_of served ++ unanswered))
      → ((k : ℕ) (c : ClientView Q M A) (u : Vec (Reply A) Global) → slice_get cs k ≡ Some c → slice_get us k ≡ Some u → Left c (replies_to (k + 1) served) u.items)
      → OfClients (length cs) (packets_of served ++ unanswered)
      → Lawful gives opening (all_lists cs us) served unanswered closing
  is_lawful gives opening closing served unanswered cs us run long puts left clients = record {
    meaning = run;
    each_put = λ place lists at. let l = lists_at cs us place lists at in
        sym (packets_by_append (place + 1) (packets_of served) unanswered) ∙ (sym (puts place l.0 l.2) ∙ ap (λ (x : ClientLists Q A). x.put) l.4);
    each_reply = λ place lists at. let l = lists_at cs us place lists at in
        ap (λ (x : ClientLists Q A). x.taken ++ x.untaken) (sym l.4) ∙ left_numbered (place + 1) l.0 served l.1.items (left place l.0 l.1 l.2 l.3);
    known = λ place packet at. let k = of_clients_place (length cs) (packets_of served ++ unanswered) clients place packet at in
        let n = length-all_lists cs us long in (k.0, omega (arith, k.1, n));
  }
