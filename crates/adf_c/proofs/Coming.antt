-- The result of a call, by the results of its parts.
use Rattle.std.proofs.Common.{◌≡◌, ℕ, ℤ, pos, Bool, true, false, List, Option, Some, None, Result, Ok, Err, inr, refl, sym, ap, ◌∙◌, subst}
use Rattle.std.proofs.lemmas.Bool.{false≢true, true≢false}
use Rattle.std.specs.Prelude.{is_some}
use Rattle.adf_block.specs.Whole.{IsImage, IsSize}
use Rattle.adf_block.specs.declared.layout.Format.{Format}
use Rattle.ados_name.specs.declared.stamp.Date3.{Date3}
use Rattle.ados_name.specs.Name.{IsName}
use Rattle.ados_model.specs.declared.packet.Packet.{Packet}
use Rattle.ados_model.specs.Accepted.{Accepts}
use Rattle.ados_model.specs.Blank.{IsBlank}
use Rattle.ados_model.specs.Session.{opening_session}
use Rattle.ados_handler.specs.HandlerState.{HandlerState}
use Rattle.adf_c.specs.Calls.{IsOpen, Seats, Opens, RefusesOpen, Blanks, RefusesBlank, format_number, SpellsFitting, ServedBy, Serves, CopiesBytes, RefusesBytes, CopiesImage, RefusesCopy}
use Rattle.adf_c.specs.Dates.{date_of}
use Rattle.adf_c.specs.Ends.{Comes}
use Rattle.adf_c.specs.declared.values.answer.JipAnswer.{JipAnswer}
use Rattle.adf_c.specs.declared.desk.Desk.{Desk}
use Rattle.adf_c.specs.declared.values.faults.JipFault.{JipFault}
use Rattle.adf_c.specs.declared.packet.JipPacket.{JipPacket}
use Rattle.adf_c.specs.declared.values.refusal.Refusal.{Refusal}
use Rattle.adf_c.specs.declared.values.refusal.Refusal.TheVariants.{NoMemory}

-- a handle is open if it has a desk
pub some_is_open : (held : Option Desk) → is_some held ≡ true → IsOpen held
some_is_open (Some desk) t = (desk, refl)
some_is_open None t = absurd (false≢true t)

pub none_is_closed : (held : Option Desk) → is_some held ≡ false → held ≡ None
none_is_closed (Some desk) t = absurd (true≢false t)
none_is_closed None t = refl

-- a new desk is in the handle
pub seats : (new : Option Desk) (desk : Desk) (handler : HandlerState) (read_only : Bool) (image : List ℕ) (validated : Bool) → new ≡ Some desk → desk ≡ record { handler = handler; changes = 0; read_only = read_only }
    → handler.image ≡ image → handler.was_validated ≡ validated → handler.session ≡ opening_session → Seats read_only image validated new
seats new desk handler read_only image validated is made i v s = (record { handler = handler; changes = 0; read_only = read_only }, is ∙ ap Some made, (i, v, s, refl, refl))

-- the result if there was no memory for the desk
abbrev Unseated : Option Desk → Option Desk → Refusal → Type 0
Unseated same new refusal = (refusal ≡ NoMemory) × (new ≡ same)

-- a handle is opened on bytes that were checked
pub opens : (r : Result (Unit {0}) Refusal) (read_only : Bool) (bytes got image : List ℕ) (validated : Bool) (old same new : Option Desk) (fault : JipFault) → old ≡ None → same ≡ old → got ≡ bytes → IsImage got
    → Accepts got validated image → Comes (Seats read_only image validated new) (Unseated same new) r → Comes (Opens read_only bytes old new × (fault ≡ fault)) (RefusesOpen bytes old new fault fault) r
opens (Ok x) read_only bytes got image validated old same new fault closed kept is whole accepted seated =
    ((closed, subst IsImage is whole, (image, validated, subst (λ b. Accepts b validated image) is accepted, seated)), refl)
opens (Err refusal) read_only bytes got image validated old same new fault closed kept is whole accepted why =
    subst (RefusesOpen bytes old new fault fault) (sym why.0) (why.1 ∙ kept, closed, refl)

-- a handle is opened on a blank volume
pub blanks : (r : Result (Unit {0}) Refusal) (format : Format) (number : ℤ) (blocks : ℕ) (name given : List ℕ) (moment : Date3) (image : List ℕ) (validated : Bool) (old same new : Option Desk)
    → number ≡ pos (format_number format) → IsSize blocks → IsName name → given ≡ name → old ≡ None → same ≡ old → IsBlank format blocks given moment image → validated ≡ false
    → Comes (Seats false image validated new) (Unseated same new) r → Comes (Blanks number blocks name moment old new) (RefusesBlank number blocks name old new) r
blanks (Ok x) format number blocks name given moment image validated old same new n size named is closed kept blank v seated = record {
  format = format;
  image = image;
  numbered = n;
  size = size;
  named = named;
  closed = closed;
  blank = subst (λ g. IsBlank format blocks g moment image) is blank;
  seated = subst (λ w. Seats false image w new) v seated;
}
blanks (Err refusal) format number blocks name given moment image validated old same new n size named is closed kept blank v why =
    subst (RefusesBlank number blocks name old new) (sym why.0) (why.1 ∙ kept, closed)

-- the desk of the handle serves the packet of the struct
pub serves : (held new : Option Desk) (c : JipPacket) (path text bytes before after : List ℕ) (told : JipAnswer) (was lent is : Desk) (packet : Packet) (now : Date3) → held ≡ Some was → lent ≡ was
    → new ≡ Some is → now ≡ date_of c.moment → SpellsFitting c path text bytes before packet → ServedBy lent is packet now before after told → Serves held new c path text bytes before after told
serves held new c path text bytes before after told was lent is packet now holds lends keeps moment spelled served = record {
  old_desk = was;
  new_desk = is;
  packet = packet;
  was = holds;
  is = keeps;
  spelled = spelled;
  served = subst (λ m. ServedBy was is packet m before after told) moment (subst (λ d. ServedBy d is packet now before after told) lends served);
}

-- the copied bytes are those of the handle's image
pub copies : (r : Result (Unit {0}) Refusal) (held : Option Desk) (desk : Desk) (bytes before after : List ℕ) → held ≡ Some desk → bytes ≡ desk.handler.image
    → Comes (CopiesBytes bytes before after) (RefusesBytes bytes before after) r → Comes (CopiesImage held before after) (RefusesCopy held before after) r
copies (Ok x) held desk bytes before after holds is copied = (desk, holds, subst (λ b. CopiesBytes b before after) is copied)
copies (Err refusal) held desk bytes before after holds is why = inr (desk, holds, subst (λ b. RefusesBytes b before after refusal) is why)
