-- The output of clients' scripts at a running port.
use Rattle.std.specs.Prelude.{◌≡◌, ℕ, List, Vec, [], length, map, Some, slice_get}
use Rattle.std.specs.declared.alloc.Global.{Global}
use Rattle.ados_model.specs.declared.packet.Packet.{Packet}
use Rattle.ados_model.specs.declared.answer.Answer.{Answer}
use Rattle.ados_port.specs.Lawful.{numbered}
use Rattle.ados_port.specs.Ends.{ClientView}
use Rattle.ados_port.specs.Gathering.{answers}
use Rattle.ados_port.specs.Grown.{Grown}
use Rattle.adf_script.specs.declared.ending.ClientEnding.{ClientEnding}
use Rattle.adf_script.specs.Spoken.{Spoken}
use Rattle.ados_run.specs.declared.scripts.ClientDone.{ClientDone}

module _ {Q M A : Type 0} where
  -- nothing was put or taken
  abbrev pub IsUnused : ClientView Q M A → Type 0
  IsUnused end = (end.put ≡ []) × (end.taken ≡ [])

  -- the same for all clients
  abbrev pub AreUnused : List (ClientView Q M A) → Type 0
  AreUnused ends = (k : ℕ) (end : ClientView Q M A) → slice_get ends k ≡ Some end → IsUnused end

module _ {M : Type 0} where
  -- a client's text is the output of its script, by what its end put and took
  abbrev pub Tells : List ℕ → ClientView Packet M Answer → List ℕ → ClientEnding → Type 0
  Tells script end text ending = Spoken end.number script end.put (numbered 1 (answers end.taken)) end.knows text ending

  -- the clients' ends, each with its script
  abbrev pub given_to : {G : Type 0} → List (ClientView Packet M Answer × Vec ℕ Global × G) → List (ClientView Packet M Answer × List ℕ)
  given_to clients = map (λ c. (c.0, c.1.items)) clients

  -- the clients' ends that came back, each with its text and how the client ended
  abbrev pub told_by : {S : Type 0} → List (ClientDone S Packet Answer M) → List (ClientView Packet M Answer × (List ℕ × ClientEnding))
  told_by done = map (λ d. (d.client, (d.text.items, d.end))) done

  -- for each end with its script, in order: the end that came back has grown from it, and its text is the output of
  -- the script
  abbrev pub EachTells : List (ClientView Packet M Answer × List ℕ) → List (ClientView Packet M Answer × (List ℕ × ClientEnding)) → Type 0
  EachTells given done = (length done ≡ length given)
      × ((k : ℕ) (c : ClientView Packet M Answer × List ℕ) → slice_get given k ≡ Some c
      → (d : ClientView Packet M Answer × (List ℕ × ClientEnding)) × (slice_get done k ≡ Some d) × Grown c.0 d.0 × Tells c.1 d.0 d.1.0 d.1.1)
