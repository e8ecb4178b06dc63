-- The result of each call. Contracts see a handle as its desk, or as none.
use Rattle.std.specs.Prelude.{◌≡◌, ◌≢◌, ◌⊎◌, ⊤, ℕ, ℤ, pos, List, length, Bool, false, Option, Some, None, Result, MatchResult}
use Rattle.adf_block.specs.Whole.{IsImage, IsSize}
use Rattle.adf_block.specs.declared.layout.Format.{Format}
use Rattle.adf_block.specs.declared.layout.Format.TheVariants.{Ofs, Ffs}
use Rattle.ados_name.specs.declared.stamp.Date3.{Date3}
use Rattle.ados_name.specs.Name.{IsName}
use Rattle.ados_name.specs.Path.{IsPathText}
use Rattle.ados_model.specs.declared.action.Action.{Action}
use Rattle.ados_model.specs.declared.answer.Answer.{Answer}
use Rattle.ados_model.specs.declared.packet.Packet.{Packet}
use Rattle.ados_model.specs.Accepted.{Accepts}
use Rattle.ados_model.specs.Blank.{IsBlank}
use Rattle.ados_model.specs.Session.{opening_session}
use Rattle.adf_c.specs.Desk.{ServesPacket}
use Rattle.adf_c.specs.Faults.{IsFaultOf}
use Rattle.adf_c.specs.Dates.{date_of}
use Rattle.adf_c.specs.Ends.{Comes, ComesTo}
use Rattle.adf_c.specs.Spelling.{Spells, carried}
use Rattle.adf_c.specs.Answers.{told_of, buffer_after}
use Rattle.adf_c.specs.declared.values.answer.JipAnswer.{JipAnswer}
use Rattle.adf_c.specs.declared.desk.Desk.{Desk}
use Rattle.adf_c.specs.declared.values.faults.JipFault.{JipFault}
use Rattle.adf_c.specs.declared.packet.JipPacket.{JipPacket}
use Rattle.adf_c.specs.declared.values.refusal.Refusal.{Refusal}
use Rattle.adf_c.specs.declared.values.refusal.Refusal.TheVariants.{NotAnImage, NoMemory, WrongArgument}

-- the handle is open already
abbrev pub IsOpen : Option Desk → Type 0
IsOpen held = (desk : Desk) × (held ≡ Some desk)

-- a new desk over an image: without locks and handles, with count 0, and read-only or not
abbrev pub IsNewDesk : Bool → List ℕ → Bool → Desk → Type 0
IsNewDesk read_only image was_validated desk =
    (desk.handler.image ≡ image) × (desk.handler.was_validated ≡ was_validated) × (desk.handler.session ≡ opening_session) × (desk.changes ≡ 0)
    × (desk.read_only ≡ read_only)

-- the handle has a new desk over the image
abbrev pub Seats : Bool → List ℕ → Bool → Option Desk → Type 0
Seats read_only image was_validated new = (desk : Desk) × (new ≡ Some desk) × IsNewDesk read_only image was_validated desk

-- a closed handle is opened on bytes of an image that the check accepts
abbrev pub Opens : Bool → List ℕ → Option Desk → Option Desk → Type 0
Opens read_only bytes old new =
    (old ≡ None) × IsImage bytes
    × ((image : List ℕ) × (was_validated : Bool) × Accepts bytes was_validated image × Seats read_only image was_validated new)

-- why a handle is not opened on bytes; it is unchanged, and so is the fault unless the bytes are at fault
abbrev pub RefusesOpen : List ℕ → Option Desk → Option Desk → JipFault → JipFault → Refusal → Type 0
RefusesOpen bytes old new fault_before fault NotAnImage = (new ≡ old) × (old ≡ None) × IsFaultOf bytes fault
RefusesOpen bytes old new fault_before fault NoMemory = (new ≡ old) × (old ≡ None) × (fault ≡ fault_before)
RefusesOpen bytes old new fault_before fault WrongArgument = (new ≡ old) × IsOpen old × (fault ≡ fault_before)

-- the result of opening a handle, and the same by the status
abbrev pub OpenComes : Bool → List ℕ → Option Desk → Option Desk → JipFault → JipFault → Result (Unit {0}) Refusal → Type 0
OpenComes read_only bytes old new fault_before fault =
    Comes (Opens read_only bytes old new × (fault ≡ fault_before)) (RefusesOpen bytes old new fault_before fault)

abbrev pub OpenEnds : Bool → List ℕ → Option Desk → Option Desk → JipFault → JipFault → ℤ → Type 0
OpenEnds read_only bytes old new fault_before fault =
    ComesTo (Opens read_only bytes old new × (fault ≡ fault_before)) (RefusesOpen bytes old new fault_before fault)

-- the number of a format
abbrev pub format_number : Format → ℕ
format_number Ofs = 0
format_number Ffs = 1

-- a closed handle is opened on a blank volume
pub record Blanks (number : ℤ) (blocks : ℕ) (name : List ℕ) (moment : Date3) (old new : Option Desk) : Type 0 where
  pub format : Format
  pub image : List ℕ
  pub numbered : number ≡ pos (format_number format)
  pub size : IsSize blocks
  pub named : IsName name
  pub closed : old ≡ None
  pub blank : IsBlank format blocks name moment image
  pub seated : Seats false image false new

-- why a handle is not opened on a blank volume; it is unchanged
abbrev pub RefusesBlank : ℤ → ℕ → List ℕ → Option Desk → Option Desk → Refusal → Type 0
RefusesBlank number blocks name old new NotAnImage = ⊥
RefusesBlank number blocks name old new NoMemory = (new ≡ old) × (old ≡ None)
RefusesBlank number blocks name old new WrongArgument =
    (new ≡ old) × (((number ≢ pos 0) × (number ≢ pos 1)) ⊎ (¬ IsName name) ⊎ (¬ IsSize blocks) ⊎ IsOpen old)

-- the result of opening a blank volume, and the same by the status
abbrev pub BlankComes : ℤ → ℕ → List ℕ → Date3 → Option Desk → Option Desk → Result (Unit {0}) Refusal → Type 0
BlankComes number blocks name moment old new = Comes (Blanks number blocks name moment old new) (RefusesBlank number blocks name old new)

abbrev pub BlankEnds : ℤ → ℕ → List ℕ → Date3 → Option Desk → Option Desk → ℤ → Type 0
BlankEnds number blocks name moment old new = ComesTo (Blanks number blocks name moment old new) (RefusesBlank number blocks name old new)

-- the handle has a desk over an image; without memory it is unchanged
abbrev pub SeatComes : Bool → List ℕ → Bool → Option Desk → Option Desk → Result (Unit {0}) Refusal → Type 0
SeatComes read_only image was_validated old new = Comes (Seats read_only image was_validated new) (λ refusal. (refusal ≡ NoMemory) × (new ≡ old))

-- a desk serves a packet, and the caller gets the answer with the bytes of a READ
abbrev pub ServedBy : Desk → Desk → Packet → Date3 → List ℕ → List ℕ → JipAnswer → Type 0
ServedBy old new packet now before after told =
    (answer : Answer) × ServesPacket old packet now new answer × (told ≡ told_of answer) × (after ≡ buffer_after packet before answer.body)

-- a struct, two texts, bytes and a buffer stand for a packet
abbrev pub SpellsFitting : JipPacket → List ℕ → List ℕ → List ℕ → List ℕ → Packet → Type 0
SpellsFitting c path text bytes buffer packet = IsPathText path × IsPathText text × Spells c path text bytes buffer packet

-- the desk of a handle serves the packet of the struct
pub record Serves (old new : Option Desk) (c : JipPacket) (path text bytes before after : List ℕ) (told : JipAnswer) : Type 0 where
  pub old_desk : Desk
  pub new_desk : Desk
  pub packet : Packet
  pub was : old ≡ Some old_desk
  pub is : new ≡ Some new_desk
  pub spelled : SpellsFitting c path text bytes before packet
  pub served : ServedBy old_desk new_desk packet (date_of c.moment) before after told

-- why a packet is not served; handle and buffer are unchanged
abbrev pub RefusesServe : Option Desk → Option Desk → List ℕ → List ℕ → List ℕ → List ℕ → Refusal → Type 0
RefusesServe old new path text before after NotAnImage = ⊥
RefusesServe old new path text before after NoMemory = (new ≡ old) × (after ≡ before)
RefusesServe old new path text before after WrongArgument =
    (new ≡ old) × (after ≡ before) × ((¬ IsPathText path) ⊎ (¬ IsPathText text) ⊎ (old ≡ None))

-- how serving a packet ends, by the status; if the packet is not served, the answer is unchanged
abbrev pub ServeEnds : Option Desk → Option Desk → JipPacket → List ℕ → List ℕ → List ℕ → List ℕ → List ℕ → JipAnswer → JipAnswer → ℤ → Type 0
ServeEnds old new c path text bytes before after answer_before answer =
    ComesTo (Serves old new c path text bytes before after answer)
    (λ refusal. RefusesServe old new path text before after refusal × (answer ≡ answer_before))

-- bytes are copied into a buffer of the same length
abbrev pub CopiesBytes : List ℕ → List ℕ → List ℕ → Type 0
CopiesBytes bytes before after = (length before ≡ length bytes) × (after ≡ bytes)

-- they are not copied, because the buffer has another length
abbrev pub RefusesBytes : List ℕ → List ℕ → List ℕ → Refusal → Type 0
RefusesBytes bytes before after refusal = (refusal ≡ WrongArgument) × (after ≡ before) × (length bytes ≢ length before)

-- the bytes of the handle's image are copied
abbrev pub CopiesImage : Option Desk → List ℕ → List ℕ → Type 0
CopiesImage held before after = (desk : Desk) × (held ≡ Some desk) × CopiesBytes desk.handler.image before after

-- why they are not copied: the handle is closed, or the buffer has another length
abbrev pub RefusesCopy : Option Desk → List ℕ → List ℕ → Refusal → Type 0
RefusesCopy held before after refusal =
    ((refusal ≡ WrongArgument) × (after ≡ before) × (held ≡ None))
    ⊎ ((desk : Desk) × (held ≡ Some desk) × RefusesBytes desk.handler.image before after refusal)

-- the result of copying the image, and the same by the status
abbrev pub CopyComes : Option Desk → List ℕ → List ℕ → Result (Unit {0}) Refusal → Type 0
CopyComes held before after = Comes (CopiesImage held before after) (RefusesCopy held before after)

abbrev pub CopyEnds : Option Desk → List ℕ → List ℕ → ℤ → Type 0
CopyEnds held before after = ComesTo (CopiesImage held before after) (RefusesCopy held before after)

-- why there is no packet: a text is too long, or memory ran out for its bytes
abbrev pub SpellsNone : List ℕ → List ℕ → Refusal → Type 0
SpellsNone path text NotAnImage = ⊥
SpellsNone path text NoMemory = ⊤
SpellsNone path text WrongArgument = (¬ IsPathText path) ⊎ (¬ IsPathText text)

-- the texts of a packet are checked, and its bytes are copied
abbrev pub LoadComes : Action → List ℕ → List ℕ → List ℕ → List ℕ → Result (List ℕ) Refusal → Type 0
LoadComes action path text bytes buffer result =
    MatchResult result (λ load. IsPathText path × IsPathText text × (load ≡ carried action bytes buffer)) (λ refusal. SpellsNone path text refusal)
