-- A packet that would not change the disk leaves the image unchanged.
use Rattle.std.proofs.Common.{◌≡◌, ℕ, ◌<◌, pos, Bool, true, false, Option, Some, None, MatchOption, inl, inr, arith, refl, sym, ap, ◌∙◌, subst}
use Rattle.std.specs.Prelude.{◌&&◌, MatchBool}
use Rattle.std.proofs.lemmas.Bool.{true≢false}
use Rattle.ados_name.specs.declared.stamp.Date3.{Date3}
use Rattle.ados_model.specs.Tree.{Tree}
use Rattle.ados_model.specs.Stands.{Stands}
use Rattle.ados_model.specs.DiskDate.{sets_disk_date}
use Rattle.ados_model.specs.Meaning.{IsRefused}
use Rattle.ados_model.specs.Phrases.{ServedOrNoMemory}
use Rattle.ados_model.specs.Packet.{error_number}
use Rattle.ados_model.specs.Refusals.{refusal}
use Rattle.ados_handler.specs.HandlerState.{HandlerState}
use Rattle.ados_model.specs.declared.answer.Answer.{Answer}
use Rattle.ados_model.specs.declared.dos_error.DosError.{DosError}
use Rattle.ados_model.specs.declared.dos_error.DosError.TheVariants.{NoFreeStore, ObjectInUse, ObjectExists, DirectoryNotFound, ObjectNotFound, ActionNotKnown, InvalidComponentName, InvalidLock, ObjectWrongType, DirectoryNotEmpty, DeviceNotMounted, SeekError, CommentTooBig, DiskFull, DeleteProtected, WriteProtected, ReadProtected, NotADosDisk, NoMoreEntries}
use Rattle.ados_model.specs.declared.packet.Packet.{Packet}
use Rattle.ados_handler.specs.Gives.{HandlerGives}
use Rattle.ados_handler.specs.Writes.{lacks_space_at_most, would_write}
use Rattle.adf_c.specs.ReadOnly.{AnswersAsHandler, GivesReadOnly, IsProtected, of_protected_disk, protected_answer}

-- no error has the number of success
has_number : (error : DosError) → 0 < error_number error
has_number NoFreeStore = omega arith
has_number ObjectInUse = omega arith
has_number ObjectExists = omega arith
has_number DirectoryNotFound = omega arith
has_number ObjectNotFound = omega arith
has_number ActionNotKnown = omega arith
has_number InvalidComponentName = omega arith
has_number InvalidLock = omega arith
has_number ObjectWrongType = omega arith
has_number DirectoryNotEmpty = omega arith
has_number DeviceNotMounted = omega arith
has_number SeekError = omega arith
has_number CommentTooBig = omega arith
has_number DiskFull = omega arith
has_number DeleteProtected = omega arith
has_number WriteProtected = omega arith
has_number ReadProtected = omega arith
has_number NotADosDisk = omega arith
has_number NoMoreEntries = omega arith

pos_is : (m n : ℕ) → pos m ≡ pos n → m ≡ n
pos_is m n e = cc e

image_stays : (old new : HandlerState) (packet : Packet) (now : Date3) (answer : Answer) (gives : HandlerGives old packet now new answer)
    → would_write gives.old_tree old.session packet ≡ false → new.image ≡ old.image
image_stays old new packet now answer gives none =
    go (sets_disk_date gives.old_tree old.session packet) (refusal gives.old_tree old.session packet) refl none gives.means
  where
    go : (d : Bool) (o : Option DosError) → sets_disk_date gives.old_tree old.session packet ≡ d → d && lacks_space_at_most o ≡ false
        → MatchOption o (ServedOrNoMemory gives.old_tree old.session packet now gives.new_tree new.session answer) (λ error. IsRefused gives.old_tree old.session packet error gives.new_tree new.session answer)
        → new.image ≡ old.image
    go false o sets none means = gives.leaves.rest (inr sets)
    go true None sets none means = absurd (true≢false none)
    go true (Some error) sets none refused =
        gives.leaves.rest (inl (λ zero.
        let number = pos_is (error_number error) 0 (sym (ap (λ (a : Answer). a.res2) refused.answered) ∙ zero) in
        let some = has_number error in
        omega (arith, some, number)))

-- the handler serves a packet that would not change the disk
pub as_handler : (old lent new : HandlerState) (packet : Packet) (now : Date3) (given told : Answer) → lent ≡ old
    → ((t : Tree) → Stands old.image t → false ≡ would_write t old.session packet) → HandlerGives lent packet now new given → told ≡ of_protected_disk given
    → GivesReadOnly old packet now new told
as_handler old lent new packet now given told same none lends is =
    let gives = subst (λ (h : HandlerState). HandlerGives h packet now new given) same lends in
    let stays = sym (none gives.old_tree gives.stood) in
    record {
      tree = gives.old_tree;
      stood = gives.stood;
      answers = subst (λ (b : Bool). MatchBool b (IsProtected old packet new told) (AnswersAsHandler old packet now new told)) (sym stays) (record { given = given; gives = gives; answered = is });
      image = image_stays old new packet now given gives stays;
    }

-- the write protection refuses a packet that would change it
pub protects : (old new : HandlerState) (packet : Packet) (now : Date3) (told : Answer) (t : Tree) → Stands old.image t → true ≡ would_write t old.session packet → new ≡ old → told ≡ protected_answer packet
    → GivesReadOnly old packet now new told
protects old new packet now told t stood would same is = record {
  tree = t;
  stood = stood;
  answers = subst (λ (b : Bool). MatchBool b (IsProtected old packet new told) (AnswersAsHandler old packet now new told)) would (record { same = same; answered = is });
  image = ap (λ (h : HandlerState). h.image) same;
}
