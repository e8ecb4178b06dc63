-- One packet through a port where none waits.
use Rattle.adf_script.proofs.Common.{◌≡◌, ◌≢◌, ◌⊎◌, inl, inr, ℕ, ◌+◌, ◌-◌, Bool, true, false, List, [], ◌∷◌, ◌++◌, sym, ap, subst, ◌∙◌, slice_set, MatchBool, Packet, Answer, ClientState, PortState, client_state, PutGives, ServeGives, TakeGives, Closed, NoRoom, Reply, Accepted, Refused, Served, Taken, quiet_port, IsQuiet, Calls}
use Rattle.std.specs.Prelude.{Some}
use Rattle.ados_port.specs.declared.step.Outcome.{Outcome}

module _ {S : Type 0} where
  -- the packet waits
  abbrev put_port : S → ℕ → Packet → PortState S Packet Answer
  put_port server count packet = record { server = server; clients = record { accepted = count + 1; taken = count; untaken = [] } ∷ []; waiting = (1, packet) ∷ [] }

  -- its reply is ready
  abbrev served_port : S → ℕ → Answer → PortState S Packet Answer
  served_port server count answer = record { server = server; clients = record { accepted = count + 1; taken = count; untaken = answer ∷ [] } ∷ []; waiting = [] }

module _ {S M : Type 0} (gives : S → Packet → M → S → Answer → Type 0) (has_died : S → Bool) where
  pub put_accepted : (server : S) (count number : ℕ) (packet : Packet) (new : PortState S Packet Answer) → PutGives has_died (quiet_port server count) 1 packet (Accepted number) new
      → (number ≡ count + 1) × (new ≡ put_port server count packet)
  put_accepted server count number packet new w = by (has_died server) w
    where
      by : (b : Bool) → MatchBool b
          ((◌≡◌ {A = Outcome Packet Answer} (Accepted number) (Refused (Closed packet))) × (new ≡ quiet_port server count))
          (((◌≡◌ {A = Outcome Packet Answer} (Accepted number) (Accepted (count + 1))) × (new ≡ put_port server count packet)) ⊎ ((◌≡◌ {A = Outcome Packet Answer} (Accepted number) (Refused (NoRoom packet))) × (new ≡ quiet_port server count)))
          → (number ≡ count + 1) × (new ≡ put_port server count packet)
      by true v = let e = v.0 in cc
      by false (inl v) = let e = v.0 in (cc, v.1)
      by false (inr v) = let e = v.0 in cc

  pub put_closed : (server : S) (count : ℕ) (packet other : Packet) (new : PortState S Packet Answer) → PutGives has_died (quiet_port server count) 1 packet (Refused (Closed other)) new
      → other ≡ packet
  put_closed server count packet other new w = by (has_died server) w
    where
      by : (b : Bool) → MatchBool b
          ((◌≡◌ {A = Outcome Packet Answer} (Refused (Closed other)) (Refused (Closed packet))) × (new ≡ quiet_port server count))
          (((◌≡◌ {A = Outcome Packet Answer} (Refused (Closed other)) (Accepted (count + 1))) × (new ≡ put_port server count packet)) ⊎ ((◌≡◌ {A = Outcome Packet Answer} (Refused (Closed other)) (Refused (NoRoom packet))) × (new ≡ quiet_port server count)))
          → other ≡ packet
      by true v = let e = v.0 in cc
      by false (inl v) = let e = v.0 in cc
      by false (inr v) = let e = v.0 in cc

  pub serve_first : (server : S) (count : ℕ) (packet : Packet) (moment : M) (outcome : Outcome Packet Answer) (new : PortState S Packet Answer)
      → ServeGives gives (put_port server count packet) moment outcome new
      → (after : S) × (answer : Answer) × (outcome ≡ Served) × (new ≡ served_port after count answer)
  serve_first server count packet moment outcome new (inl w) = let e = w.0 in cc
  serve_first server count packet moment outcome new (inr w) =
      let F : ℕ × Packet → List (ℕ × Packet) → ClientState Answer → PortState S Packet Answer =
      λ first rest c. record { server = w.6; clients = slice_set (put_port server count packet).clients (first.0 - 1) (record c { untaken = c.untaken ++ w.7 ∷ [] }); waiting = rest }
      in let split : (1, packet) ∷ [] ≡ w.0 ∷ w.1 = w.2
      in let is_first : (1, packet) ≡ w.0 = cc
      in let is_rest : [] ≡ w.1 = cc
      in let c : ClientState Answer = record { accepted = count + 1; taken = count; untaken = [] }
      in let found : Some c ≡ Some w.4 = ap (λ f. client_state (put_port server count packet).clients f.0) is_first ∙ w.5
      in let is_c : c ≡ w.4 = cc
      in (w.6, w.7, w.3, w.9 ∙ sym (λ i. F (is_first i) (is_rest i) (is_c i)))

  pub take_first : (server : S) (count : ℕ) (answer : Answer) (reply : Reply Answer) (new : PortState S Packet Answer)
      → TakeGives (served_port server count answer) 1 (Taken reply) new
      → (reply.number ≡ count + 1) × (new ≡ quiet_port server (count + 1))
  take_first server count answer reply new (inl w) = let e = w.0 in cc
  take_first server count answer reply new (inr w) =
      let split : answer ∷ [] ≡ w.0 ∷ w.1 = w.2
      in let is_rest : w.1 ≡ [] = cc
      in let is_reply : reply ≡ record { number = count + 1; answer = w.0 } = let e = w.3 in cc
      in (ap (λ r. r.number) is_reply, w.4 ∙ ap (λ l. record { server = server; clients = record { accepted = count + 1; taken = count + 1; untaken = l } ∷ []; waiting = [] }) is_rest)

  -- a packet that was put and served has a reply
  pub reply_is_there : (old : PortState S Packet Answer) (count : ℕ) → IsQuiet old count → (packet : Packet) (moment : M) (number : ℕ) (put served new : PortState S Packet Answer) (outcome last : Outcome Packet Answer)
      → PutGives has_died old 1 packet (Accepted number) put → ServeGives gives put moment outcome served → TakeGives served 1 last new
      → ((reply : Reply Answer) → last ≢ Taken reply) → ⊥
  reply_is_there old count quiet packet moment number put served new outcome last a b c none =
      let first = put_accepted old.server count number packet put (subst (λ o. PutGives has_died o 1 packet (Accepted number) put) quiet a)
      in let second = serve_first old.server count packet moment outcome served (subst (λ o. ServeGives gives o moment outcome served) first.1 b)
      in by second.1 (subst (λ o. TakeGives o 1 last new) second.3 c)
    where
      by : {after : S} (answer : Answer) → TakeGives (served_port after count answer) 1 last new → ⊥
      by answer (inl w) = let e = w.0 in cc
      by answer (inr w) = none (record { number = count + 1; answer = w.0 }) w.3

  -- a packet goes through
  pub called : (old : PortState S Packet Answer) (count : ℕ) → IsQuiet old count → (packet : Packet) (moment : M) (number : ℕ) (put served new : PortState S Packet Answer) (outcome : Outcome Packet Answer) (reply : Reply Answer)
      → PutGives has_died old 1 packet (Accepted number) put → ServeGives gives put moment outcome served → TakeGives served 1 (Taken reply) new
      → (reply.number ≡ count + 1) × IsQuiet new (count + 1) × Calls gives has_died moment old packet reply new
  called old count quiet packet moment number put served new outcome reply a b c =
      let first = put_accepted old.server count number packet put (subst (λ o. PutGives has_died o 1 packet (Accepted number) put) quiet a)
      in let second = serve_first old.server count packet moment outcome served (subst (λ o. ServeGives gives o moment outcome served) first.1 b)
      in let third = take_first second.0 count second.1 reply new (subst (λ o. TakeGives o 1 (Taken reply) new) second.3 c)
      in (
        third.0,
        third.1 ∙ ap (λ s. quiet_port s (count + 1)) (sym (ap (λ p. p.server) third.1)),
        record {
          put = put;
          served = served;
          puts = subst (λ n. PutGives has_died old 1 packet (Accepted n) put) (first.0 ∙ sym third.0) a;
          serves = subst (λ o. ServeGives gives put moment o served) second.2 b;
          takes = c;
        },
      )
