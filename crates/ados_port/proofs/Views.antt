-- Lemmas on the visible state of an exchange.
use Rattle.std.proofs.Common.{◌≡◌, ◌≢◌, ℕ, zero, suc, ◌+◌, ◌-◌, ◌≤◌, Bool, false, cond, List, [], ◌∷◌, ◌++◌, slice_get, slice_set, Some, None, refl, sym, ap, ◌∙◌, inl, inr, arith, subst, MatchOption}
use Rattle.std.specs.Prelude.{Option}
use Rattle.std.specs.Bool.{MatchBool}
use Rattle.std.specs.Option.{option_map}
use Rattle.std.proofs.lemmas.List.{map-set, map-append}
use Rattle.std.proofs.lemmas.Option.{slice_get-map, same_Some}
use Rattle.ados_port.specs.History.{ClientState, PortState, client_state}
use Rattle.ados_port.specs.View.{clients_view, waiting_view}
use Rattle.ados_port.specs.Gives.{PutGives, ServeGives, TakeGives}
use Rattle.ados_port.specs.declared.counts.Client.{Client}
use Rattle.ados_port.specs.declared.exchange.Waiting.{Waiting}
use Rattle.ados_port.specs.declared.step.PutRefused.TheVariants.{NoRoom}
use Rattle.ados_port.specs.declared.step.Outcome.TheVariants.{Accepted, Refused, Served, Taken, Nothing}
use Rattle.std.proofs.lemmas.Bool.{ne_eqb}

-- the visible state of a client, and of an exchange
abbrev pub client_view : {A : Type 0} → Client A → ClientState A
client_view c = record { accepted = c.accepted; taken = c.taken; untaken = c.replies.items }

abbrev pub port_view : {S Q A : Type 0} → S → List (Client A) → List (Waiting Q) → PortState S Q A
port_view server clients waiting = record { server = server; clients = clients_view clients; waiting = waiting_view waiting }

-- a client with a number from 1 is found
pub client_state-found : {A : Type 0} (cs : List (Client A)) (client : ℕ) (c : Client A) → client ≢ 0 → slice_get cs (client - 1) ≡ Some c
    → client_state (clients_view cs) client ≡ Some (client_view c)
client_state-found cs client c not_zero found =
    ap (λ b. cond b None (slice_get (clients_view cs) (client - 1))) (ne_eqb client 0 not_zero)
    ∙ slice_get-map client_view cs (client - 1) ∙ ap (option_map client_view) found

-- a client whose visible state is unchanged
pub view_same : {A : Type 0} (cs : List (Client A)) (p : ℕ) (old new : Client A) → slice_get cs p ≡ Some old → client_view new ≡ client_view old → clients_view (slice_set cs p new) ≡ clients_view cs
view_same [] p old new found same = refl
view_same (c ∷ cs) zero old new found same = ap (λ v. v ∷ clients_view cs) (same ∙ ap client_view (sym (same_Some c old found)))
view_same (c ∷ cs) (suc p) old new found same = ap (λ l. client_view c ∷ l) (view_same cs p old new found same)

-- a client whose visible state changed
pub view_changed : {A : Type 0} (cs : List (Client A)) (p : ℕ) (new : Client A) (v : ClientState A) → client_view new ≡ v → clients_view (slice_set cs p new) ≡ slice_set (clients_view cs) p v
view_changed cs p new v same = map-set client_view cs p new ∙ ap (slice_set (clients_view cs) p) same

pub view_pushed : {Q : Type 0} (ws : List (Waiting Q)) (w : Waiting Q) → waiting_view (ws ++ w ∷ []) ≡ waiting_view ws ++ (w.client, w.packet) ∷ []
view_pushed ws w = map-append _ ws (w ∷ [])

pub MatchOption-some : {A : Type 0} (o : Option A) (x : A) (P : Type 0) (Q : A → Type 0) → o ≡ Some x → Q x → MatchOption o P Q
MatchOption-some o x P Q e q = subst (λ v. MatchOption v P Q) (sym e) q

pub MatchBool-at : (b c : Bool) (P Q : Type 0) → b ≡ c → MatchBool c P Q → MatchBool b P Q
MatchBool-at b c P Q e h = subst (λ v. MatchBool v P Q) (sym e) h

module _ {S Q A : Type 0} (has_died : S → Bool) (server : S) (cs : List (Client A)) (ws : List (Waiting Q)) (client : ℕ) (packet : Q) where
  -- there is no room, and the client's visible state is unchanged
  pub put_no_room : (c new : Client A) → client ≢ 0 → slice_get cs (client - 1) ≡ Some c → has_died server ≡ false → client_view new ≡ client_view c
      → PutGives has_died (port_view server cs ws) client packet (Refused (NoRoom packet)) (port_view server (slice_set cs (client - 1) new) ws)
  put_no_room c new not_zero found alive same = MatchOption-some (client_state (clients_view cs) client) (client_view c) _ _ (client_state-found cs client c not_zero found)
      (MatchBool-at (has_died server) false _ _ alive (inr (refl, ap (λ l. record { server = server; clients = l; waiting = waiting_view ws }) (view_same cs (client - 1) c new found same))))

  -- the packet is accepted
  pub put_accepted : (c new : Client A) (number : ℕ) → client ≢ 0 → slice_get cs (client - 1) ≡ Some c → has_died server ≡ false
      → number ≡ c.accepted + 1 → new.accepted ≡ number → new.taken ≡ c.taken → new.replies.items ≡ c.replies.items
      → PutGives has_died (port_view server cs ws) client packet (Accepted number) (port_view server (slice_set cs (client - 1) new) (ws ++ (record { client = client; packet = packet }) ∷ []))
  put_accepted c new number not_zero found alive next counted taken replies = MatchOption-some (client_state (clients_view cs) client) (client_view c) _ _ (client_state-found cs client c not_zero found)
      (MatchBool-at (has_died server) false _ _ alive (inl (
        ap Accepted next,
        λ i. record {
          server = server;
          clients = view_changed cs (client - 1) new (record { accepted = c.accepted + 1; taken = c.taken; untaken = c.replies.items })
              (λ j. record { accepted = (counted ∙ next) j; taken = taken j; untaken = replies j }) i;
          waiting = view_pushed ws (record { client = client; packet = packet }) i;
        },
      )))

-- the first waiting packet is served
pub serve_first : {S Q M A : Type 0} (gives : S → Q → M → S → A → Type 0) (server new_server : S) (cs : List (Client A)) (ws rest : List (Waiting Q)) (w : Waiting Q) (moment : M) (answer : A) (c new : Client A)
    → ws ≡ w ∷ rest → 1 ≤ w.client → slice_get cs (w.client - 1) ≡ Some c → gives server w.packet moment new_server answer
    → new.accepted ≡ c.accepted → new.taken ≡ c.taken → new.replies.items ≡ c.replies.items ++ answer ∷ []
    → ServeGives gives (port_view server cs ws) moment Served (port_view new_server (slice_set cs (w.client - 1) new) rest)
serve_first gives server new_server cs ws rest w moment answer c new split from_one found gave accepted taken replies =
    inr (
      (w.client, w.packet),
      waiting_view rest,
      ap waiting_view split,
      refl,
      client_view c,
      client_state-found cs w.client c (λ e. absurd (omega (arith, e, from_one))) found,
      new_server,
      answer,
      gave,
      λ i. record {
        server = new_server;
        clients = view_changed cs (w.client - 1) new (record { accepted = c.accepted; taken = c.taken; untaken = c.replies.items ++ answer ∷ [] })
            (λ j. record { accepted = accepted j; taken = taken j; untaken = replies j }) i;
        waiting = waiting_view rest;
      },
    )

module _ {S Q A : Type 0} (server : S) (cs : List (Client A)) (ws : List (Waiting Q)) (client : ℕ) where
  -- there is no reply, and the client's visible state is unchanged
  pub take_nothing : (c new : Client A) → client ≢ 0 → slice_get cs (client - 1) ≡ Some c → c.replies.items ≡ [] → new.replies.items ≡ [] → new.accepted ≡ c.accepted → new.taken ≡ c.taken
      → TakeGives (port_view server cs ws) client Nothing (port_view server (slice_set cs (client - 1) new) ws)
  take_nothing c new not_zero found none still_none accepted taken =
      let replies : new.replies.items ≡ c.replies.items = still_none ∙ sym none
      in let same : client_view new ≡ client_view c = λ i. record { accepted = accepted i; taken = taken i; untaken = replies i }
      in MatchOption-some (client_state (clients_view cs) client) (client_view c) _ _ (client_state-found cs client c not_zero found)
      (inl (none, refl, ap (λ l. record { server = server; clients = l; waiting = waiting_view ws }) (view_same cs (client - 1) c new found same)))

  -- the first reply is taken
  pub take_first : (c new : Client A) (answer : A) (number : ℕ) → client ≢ 0 → slice_get cs (client - 1) ≡ Some c → c.replies.items ≡ answer ∷ new.replies.items
      → number ≡ c.taken + 1 → new.accepted ≡ c.accepted → new.taken ≡ c.taken + 1
      → TakeGives (port_view server cs ws) client (Taken (record { number = number; answer = answer })) (port_view server (slice_set cs (client - 1) new) ws)
  take_first c new answer number not_zero found split next accepted taken = MatchOption-some (client_state (clients_view cs) client) (client_view c) _ _ (client_state-found cs client c not_zero found)
      (inr (
        answer,
        new.replies.items,
        split,
        ap (λ n. Taken (record { number = n; answer = answer })) next,
        λ i. record {
          server = server;
          clients = view_changed cs (client - 1) new (record { accepted = c.accepted; taken = c.taken + 1; untaken = new.replies.items })
              (λ j. record { accepted = accepted j; taken = taken j; untaken = new.replies.items }) i;
          waiting = waiting_view ws;
        },
      ))
