-- A dead handler stays dead, and only a dead handler gives a reply that closes.
use Rattle.std.proofs.Common.{◌≡◌, ℤ, Bool, true, false, ◌∷◌, nat_eq, Some, None, refl, sym, ap, ◌∙◌, inl, inr, MatchOption}
use Rattle.std.specs.Prelude.{Option, ◌&&◌}
use Rattle.std.proofs.lemmas.Bool.{and_parts, and_right, both_ways, or_cases, true≢false}
use Rattle.ados_name.specs.declared.stamp.Date3.{Date3}
use Rattle.ados_model.specs.Tree.{Tree}
use Rattle.ados_model.specs.declared.dos_error.DosError.{DosError}
use Rattle.ados_model.specs.declared.dos_error.DosError.TheVariants.{DeviceNotMounted, NoFreeStore}
use Rattle.ados_model.specs.Packet.{error_number, action_of, failure_of}
use Rattle.ados_model.specs.declared.packet.Packet.{Packet}
use Rattle.ados_model.specs.declared.packet.Packet.TheVariants.{Die, Read, Write, Seek, Other}
use Rattle.ados_model.specs.declared.answer.Answer.{Answer}
use Rattle.ados_model.specs.declared.answer.Body.{Body}
use Rattle.ados_model.specs.Session.{Session}
use Rattle.ados_handler.specs.HandlerState.{HandlerState}
use Rattle.ados_handler.specs.steps.NoRow.{only_dead}
use Rattle.ados_model.specs.Refusals.{refuse, first_refusal, refusal, refusals}
use Rattle.ados_model.specs.Success.{after, Success}
use Rattle.ados_model.specs.Meaning.{IsRefused, is_closing, is_number, is_dos_true}
use Rattle.ados_model.specs.Phrases.{ServedOrNoMemory}
use Rattle.ados_handler.specs.Closing.{ClosingIsDead, DeadStays}
use Rattle.ados_handler.specs.Gives.{HandlerGives}

-- no other error has the number of a dead handler's
by_number : (error : DosError) → nat_eq (error_number error) (error_number DeviceNotMounted) ≡ true → error ≡ DeviceNotMounted
by_number DeviceNotMounted h = refl
by_number _ h = absurd (true≢false (sym h))

-- a refusal does not look like a successful DIE
refused_quiet : (packet : Packet) → is_number 5 (action_of packet) && is_dos_true (failure_of packet) ≡ false
refused_quiet (Read handle buffer) = refl
refused_quiet (Write handle bytes) = refl
refused_quiet (Seek handle offset mode) = refl
refused_quiet (Other action) = and_right (is_number 5 action) false refl
refused_quiet _ = refl

-- of all served packets, only DIE has its action
served_dies : (t : Tree) (s : Session) (packet : Packet) (now : Date3) (new_tree : Tree) (new_session : Session) (res1 : ℤ) (body : Body)
    → is_number 5 (action_of packet) ≡ true → Success t s packet now (after new_tree new_session res1 body) → new_session.died ≡ true
served_dies t s Die now new_tree new_session res1 body h w = ap (λ r. r.session.died) w
served_dies t s (Other action) now new_tree new_session res1 body h w = elim w [ ]
served_dies t s _ now new_tree new_session res1 body h w = absurd (true≢false (sym h))

pub closing_is_dead : ClosingIsDead
closing_is_dead t new_tree s new_session packet now answer meaning closing = go (refusal t s packet) refl meaning
  where
    refused : (error : DosError) → (error ≡ DeviceNotMounted → s.died ≡ true) → IsRefused t s packet error new_tree new_session answer → new_session.died ≡ true
    refused error dead w =
        let same = nat_eq (error_number error) (error_number DeviceNotMounted)
        in let told : same ≡ true = elim (or_cases same _ (ap is_closing (sym w.answered) ∙ closing)) [ inl is ↦ is | inr dies ↦ absurd (both_ways _ (refused_quiet packet) dies) ]
        in ap (λ u. u.died) w.session ∙ dead (by_number error told)

    go : (o : Option DosError) → refusal t s packet ≡ o
        → MatchOption o (ServedOrNoMemory t s packet now new_tree new_session answer) (λ error. IsRefused t s packet error new_tree new_session answer)
        → new_session.died ≡ true
    go (Some error) e w = refused error (λ q. only_dead t s packet (e ∙ ap Some q)) w
    go None e (inr w) = refused NoFreeStore (λ q. absurd (cc q)) w.1
    go None e (inl w) =
        let alive : is_number (error_number DeviceNotMounted) answer.res2 ≡ false = ap (λ z. is_number (error_number DeviceNotMounted) z) w.res2
        in let dies = is_number 5 answer.action && is_dos_true answer.res1
        in let shown : dies ≡ true = elim (or_cases _ dies closing) [ inl dead ↦ absurd (both_ways _ alive dead) | inr is ↦ is ]
        in served_dies t s packet now new_tree new_session answer.res1 answer.body (ap (λ z. is_number 5 z) (sym w.action) ∙ (and_parts _ _ shown).0) w.success

-- a dead handler refuses each packet, and so stays dead
pub dead_stays : DeadStays
dead_stays t new_tree s new_session packet now answer meaning dead = go s.died dead meaning
  where
    go : (b : Bool) → b ≡ true
        → MatchOption (first_refusal (refuse DeviceNotMounted b ∷ refusals t s packet))
        (ServedOrNoMemory t s packet now new_tree new_session answer)
        (λ error. IsRefused t s packet error new_tree new_session answer)
        → new_session.died ≡ true
    go true e refused = ap (λ (v : Session). v.died) refused.session ∙ dead
    go false e meaning = absurd (true≢false (sym e))

module _ (old new : HandlerState) (packet : Packet) (now : Date3) (answer : Answer) (given : HandlerGives old packet now new answer) where
  pub serves_dead : old.session.died ≡ true → new.session.died ≡ true
  serves_dead dead = dead_stays given.old_tree given.new_tree old.session new.session packet now answer given.means dead

  pub serves_closing : is_closing answer ≡ true → new.session.died ≡ true
  serves_closing closing = closing_is_dead given.old_tree given.new_tree old.session new.session packet now answer given.means closing
