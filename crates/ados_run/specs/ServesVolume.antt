-- The result of scripts run as clients of a handler over a volume.
use Rattle.std.specs.Prelude.{◌≡◌, ℕ, ◌+◌, Bool, List, Vec, length, map, Some, slice_get}
use Rattle.std.specs.declared.alloc.Global.{Global}
use Rattle.ados_name.specs.declared.stamp.Date3.{Date3}
use Rattle.ados_model.specs.Tree.{Tree}
use Rattle.ados_model.specs.Stands.{Stands}
use Rattle.ados_port.specs.History.{ServerMeaning}
use Rattle.ados_port.specs.Lawful.{ClientLists, AllAt}
use Rattle.ados_port.specs.Lists.{HasHistory}
use Rattle.ados_model.specs.declared.packet.Packet.{Packet}
use Rattle.ados_model.specs.declared.answer.Answer.{Answer}
use Rattle.ados_model.specs.Session.{opening_session}
use Rattle.ados_handler.specs.HandlerState.{HandlerState, no_places}
use Rattle.adf_script.specs.declared.ending.ClientEnding.{ClientEnding}
use Rattle.adf_script.specs.Spoken.{Spoken}
use Rattle.ados_run.specs.TreeLists.{PacketLists, ListsFollowTree, ServedPackets, beside, handlers_of, both_died}
use Rattle.ados_run.specs.TreeLists.{handler_died}
use Rattle.ados_run.specs.Runs.{BothSides, MeansBoth, RestsOnceDead}

-- a handler over this image, alive, without locks and handles and without places for them
abbrev pub handler_over : List ℕ → Bool → HandlerState
handler_over image was_validated =
    record { image = image; was_validated = was_validated; session = opening_session; places = no_places }

-- the bytes of each script
abbrev pub scripts_of : {G : Type 0} → List (Vec ℕ Global × G) → List (List ℕ)
scripts_of scripts = map (λ s. s.0.items) scripts

-- the bytes of each text, and how its client ended
abbrev pub texts_of : List (Vec ℕ Global × ClientEnding) → List (List ℕ × ClientEnding)
texts_of texts = map (λ t. (t.0.items, t.1)) texts

-- there is a client for each script, and its text is the output of that script by what the client put and took; it
-- says that the port was closed only if the handler has died
abbrev pub EachSpeaks : List (List ℕ) → PacketLists → Bool → List (List ℕ × ClientEnding) → Type 0
EachSpeaks scripts clients died told =
    (length clients ≡ length scripts) × (length told ≡ length scripts)
    × ((place : ℕ) (script : List ℕ) → slice_get scripts place ≡ Some script
    → (lists : ClientLists Packet Answer) × (end : List ℕ × ClientEnding) × (slice_get clients place ≡ Some lists)
    × (slice_get told place ≡ Some end)
    × Spoken (place + 1) script lists.put lists.taken died end.0 end.1)

-- The volume's image represents exactly one tree. Each client's text is the output of its script. What all clients put
-- and took is one history from that tree; each packet was served with this time stamp, and image and tree changed
-- together in this way. Some sequence of steps has that history. After the handler's death each packet was refused,
-- and no byte changed.
pub record ServesWith (together : ServerMeaning BothSides Packet Date3 Answer) (image : List ℕ) (was_validated : Bool)
    (scripts : List (List ℕ)) (moment : Date3)
    (told : List (List ℕ × ClientEnding)) (closing : HandlerState) : Type 0 where
  pub tree : Tree
  pub stands : Stands image tree
  pub only : (other : Tree) → Stands image other → other ≡ tree
  pub clients : PacketLists
  pub served : ServedPackets
  pub unanswered : List (ℕ × Packet)
  pub speaks : EachSpeaks scripts clients (handler_died closing) told
  pub moments : AllAt moment served
  pub follows : ListsFollowTree together tree (handler_over image was_validated) clients served unanswered closing
  pub history : HasHistory together both_died (beside tree (handler_over image was_validated)) clients served unanswered
      (beside follows.last_tree closing)
  pub rests : RestsOnceDead (handler_over image was_validated) served (handlers_of follows.lawful.meaning.0)

-- each packet was answered according to its meaning for the tree, and the tree changed accordingly
abbrev pub ServesVolume : List ℕ → Bool → List (List ℕ) → Date3 → List (List ℕ × ClientEnding) → HandlerState → Type 0
ServesVolume = ServesWith MeansBoth
