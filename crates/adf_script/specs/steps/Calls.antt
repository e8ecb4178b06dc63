-- A port with one client, between two of its packets.
use Rattle.std.specs.Prelude.{◌≡◌, ℕ, ◌+◌, Bool, [], ◌∷◌, Result, MatchResult}
use Rattle.ados_model.specs.declared.packet.Packet.{Packet}
use Rattle.ados_model.specs.declared.answer.Answer.{Answer}
use Rattle.ados_port.specs.History.{PortState, ServerMeaning}
use Rattle.ados_port.specs.Gives.{StepGives}
use Rattle.ados_port.specs.declared.step.Step.TheVariants.{Put, Serve, Take}
use Rattle.ados_port.specs.declared.step.Outcome.TheVariants.{Accepted, Refused, Served, Taken}
use Rattle.ados_port.specs.declared.step.PutRefused.{PutRefused}
use Rattle.ados_port.specs.declared.step.Reply.{Reply}

-- a port with one client, which has taken a reply for each accepted packet
abbrev pub quiet_port : {S : Type 0} → S → ℕ → PortState S Packet Answer
quiet_port server count = record { server = server; clients = record { accepted = count; taken = count; untaken = [] } ∷ []; waiting = [] }

abbrev pub IsQuiet : {S : Type 0} → PortState S Packet Answer → ℕ → Type 0
IsQuiet port count = port ≡ quiet_port port.server count

-- a port of such a server, with this time stamp
module _ {S M : Type 0} (gives : ServerMeaning S Packet M Answer) (has_died : S → Bool) (moment : M) where
  -- client 1 puts a packet, it is served, and its reply is taken
  pub record Calls (old : PortState S Packet Answer) (packet : Packet) (reply : Reply Answer) (new : PortState S Packet Answer) : Type 0 where
    pub put : PortState S Packet Answer
    pub served : PortState S Packet Answer
    pub puts : StepGives gives has_died old (Put 1 packet) (Accepted reply.number) put
    pub serves : StepGives gives has_died put (Serve moment) Served served
    pub takes : StepGives gives has_died served (Take 1) (Taken reply) new

  -- the same with the next reply, and the port is quiet again
  abbrev pub CallsNext : PortState S Packet Answer → ℕ → Packet → Reply Answer → PortState S Packet Answer → Type 0
  CallsNext old count packet reply new = (reply.number ≡ count + 1) × IsQuiet new (count + 1) × Calls old packet reply new

  -- the packet gets the next reply, or its put is refused
  abbrev pub CallGives : PortState S Packet Answer → ℕ → Packet → Result (Reply Answer) (PutRefused Packet) → PortState S Packet Answer → Type 0
  CallGives old count packet result new =
      MatchResult result
      (λ reply. CallsNext old count packet reply new)
      (λ refused. StepGives gives has_died old (Put 1 packet) (Refused refused) new)
