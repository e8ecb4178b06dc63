-- The meaning of a packet: it is refused with the first refusal that holds, and served if none holds.
use Rattle.std.specs.Prelude.{◌≡◌, ◌⊎◌, ℕ, ℤ, pos, negsuc, Bool, true, false, not, ◌&&◌, ◌||◌, ◌==◌, is_some, IsTrue}
use Rattle.std.specs.Prelude.{MatchOption}
use Rattle.ados_model.specs.Tree.{Date3, Tree, parent_of}
use Rattle.ados_model.specs.Packet.{NO_LOCK, Packet, LocateObject, CopyDir, CreateDir, Parent, FindUpdate, FindInput}
use Rattle.ados_model.specs.Packet.{FindOutput, Answer, DosError, DeviceNotMounted, NoFreeStore, error_number}
use Rattle.ados_model.specs.Packet.{action_of, refused_answer}
use Rattle.ados_model.specs.Session.{Session}
use Rattle.ados_model.specs.Objects.{lock_key}
use Rattle.ados_model.specs.Refusals.{refusal}
use Rattle.ados_model.specs.Success.{after, Success}

-- the packet, if not refused, makes a lock or a handle; there may be no memory or number for it
abbrev pub makes_hold : Tree → Session → Packet → Bool
makes_hold t s (LocateObject lock path mode) = true
makes_hold t s (CopyDir lock) = not (lock == NO_LOCK)
makes_hold t s (Parent lock) = is_some (parent_of t (lock_key t s lock))
makes_hold t s (CreateDir lock path) = true
makes_hold t s (FindInput lock path) = true
makes_hold t s (FindOutput lock path) = true
makes_hold t s (FindUpdate lock path) = true
makes_hold t s _ = false

-- the packet is refused with this error, and nothing changes
pub record IsRefused (t : Tree) (s : Session) (packet : Packet) (error : DosError) (new_tree : Tree)
    (new_session : Session) (answer : Answer) : Type 0 where
  pub tree : new_tree ≡ t
  pub session : new_session ≡ s
  pub answered : answer ≡ refused_answer packet error

-- the packet is served
pub record IsServed (t : Tree) (s : Session) (packet : Packet) (now : Date3) (new_tree : Tree) (new_session : Session)
    (answer : Answer) : Type 0 where
  pub success : Success t s packet now (after new_tree new_session answer.res1 answer.body)
  pub action : answer.action ≡ action_of packet
  pub res2 : answer.res2 ≡ pos 0

-- what a packet does at a time stamp: the first refusal, or else it is served, or gets no memory for a lock or a handle
abbrev pub Meaning : Tree → Session → Packet → Date3 → Tree → Session → Answer → Type 0
Meaning t s packet now new_tree new_session answer =
    MatchOption (refusal t s packet)
    (IsServed t s packet now new_tree new_session answer
    ⊎ (IsTrue (makes_hold t s packet) × IsRefused t s packet NoFreeStore new_tree new_session answer))
    (λ error. IsRefused t s packet error new_tree new_session answer)

-- tests of a result: it is this number, and it is DOSTRUE
abbrev pub is_number : ℕ → ℤ → Bool
is_number k (pos n) = n == k
is_number k (negsuc n) = false

abbrev pub is_dos_true : ℤ → Bool
is_dos_true (pos n) = false
is_dos_true (negsuc n) = n == 0

-- the value of `closes` for a reply: it has the error `DeviceNotMounted`, or answers a DIE (action 5) with success
abbrev pub is_closing : Answer → Bool
is_closing answer =
    is_number (error_number DeviceNotMounted) answer.res2 || (is_number 5 answer.action && is_dos_true answer.res1)
