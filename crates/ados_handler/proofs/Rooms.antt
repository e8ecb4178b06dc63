-- The room for locks and handles: from what a packet's method does to the places to what the handler tells.
use Rattle.std.proofs.Common.{◌≡◌, ◌≢◌, ℕ, pos, Bool, true, false, cond, Option, Some, None, MatchOption, inl, inr, refl, sym, ap, ◌∙◌, subst, nat_eq, eq-eqb}
use Rattle.ados_handler.proofs.Common.{none-some, same_Some, true≢false, Date3, Tree, DosError, NoFreeStore, error_number, Packet, CopyDir, CreateDir, End, FindInput, FindOutput, FindUpdate, FreeLock, LocateObject, Parent, Results, Session, HandlerState, refusal, IsRefused, Meaning, ServedOrNoMemory, HandlerGives, MethodGives, MethodMeans, Places, ServedOrFull, answer_to, has_place, room_for}
use Rattle.ados_model.specs.Meaning.{is_number}
use Rattle.ados_model.specs.declared.packet.TheConstants.{NO_LOCK}
use Rattle.ados_model.specs.declared.answer.Answer.{Answer}
use Rattle.ados_handler.specs.Room.{HoldKind, TellsRoom}
use Rattle.ados_handler.specs.Room.HoldKind.{OneHandle, OneLock}
use Rattle.ados_handler.specs.steps.NoRow.{none_lacks}
use Rattle.ados_handler.specs.steps.Places.{FreesHandle, FreesLock, MayTakeHandle, MayTakeLock, MethodRoom}

module _ (places : Places) (t u : Tree) (s new : Session) (packet : Packet) (now : Date3) (results : Results) where
  -- what a method means is what the packet means
  pub means_of : MethodMeans places t s packet now u new results → Meaning t s packet now u new (answer_to packet results)
  means_of means = go (refusal t s packet) means
    where
      go : (o : Option DosError) → MatchOption o (ServedOrFull places t s packet now u new (answer_to packet results)) (λ error. IsRefused t s packet error u new (answer_to packet results))
          → MatchOption o (ServedOrNoMemory t s packet now u new (answer_to packet results)) (λ error. IsRefused t s packet error u new (answer_to packet results))
      go (Some error) refused = refused
      go None (inl served) = inl served
      go None (inr w) = inr (w.0, w.2)

  -- a lack of memory is the result only without a place
  full_of : MethodMeans places t s packet now u new results → results.res2 ≡ pos (error_number NoFreeStore) → room_for places packet ≡ false
  full_of means lacks = go (refusal t s packet) refl means
    where
      by_number : (error : DosError) → nat_eq (error_number error) (error_number NoFreeStore) ≡ true → error ≡ NoFreeStore
      by_number NoFreeStore e = refl
      by_number _ e = absurd (true≢false (sym e))

      go : (o : Option DosError) → refusal t s packet ≡ o → MatchOption o (ServedOrFull places t s packet now u new (answer_to packet results)) (λ error. IsRefused t s packet error u new (answer_to packet results))
          → room_for places packet ≡ false
      go (Some error) e refused =
          let same = ap (λ z. is_number (error_number NoFreeStore) z) (sym (ap (λ (a : Answer). a.res2) refused.answered) ∙ lacks) in
          absurd (none_lacks t s packet (e ∙ ap Some (by_number error same)))
      go None e (inl served) = absurd (true≢false (sym (ap (λ z. is_number (error_number NoFreeStore) z) (sym served.res2 ∙ lacks))))
      go None e (inr w) = w.1

module _ (before after : Places) (results : Results) where
  abbrev Full : Packet → Type 0
  Full packet = results.res2 ≡ pos (error_number NoFreeStore) → room_for before packet ≡ false

  lock_stays : MayTakeLock before after results → (kind : HoldKind) → (Some OneLock ≡ Some kind → results.res2 ≢ pos 0) → has_place before kind ≡ true → has_place after kind ≡ true
  lock_stays takes OneLock none place = takes.stays (none refl) place
  lock_stays takes OneHandle none place = takes.handle ∙ place

  handle_stays : MayTakeHandle before after results → (kind : HoldKind) → (Some OneHandle ≡ Some kind → results.res2 ≢ pos 0) → has_place before kind ≡ true → has_place after kind ≡ true
  handle_stays takes OneLock none place = takes.lock ∙ place
  handle_stays takes OneHandle none place = takes.stays (none refl) place

  lock_freed : (lock : ℕ) → FreesLock before after results lock → results.res2 ≡ pos 0 → (b : Bool) → (nat_eq lock NO_LOCK) ≡ b → (kind : HoldKind) → cond b None (Some OneLock) ≡ Some kind → has_place after kind ≡ true
  lock_freed lock frees served true is kind e = absurd (none-some kind e)
  lock_freed lock frees served false is kind e =
      subst (λ (k : HoldKind). has_place after k ≡ true) (same_Some OneLock kind e)
      (frees.freed served (λ same. true≢false (sym (eq-eqb lock NO_LOCK same) ∙ is)))

  lock_kept : (lock : ℕ) → FreesLock before after results lock → (kind : HoldKind) → has_place before kind ≡ true → has_place after kind ≡ true
  lock_kept lock frees OneLock place = frees.stays place
  lock_kept lock frees OneHandle place = frees.handle ∙ place

  handle_kept : FreesHandle before after results → (kind : HoldKind) → has_place before kind ≡ true → has_place after kind ≡ true
  handle_kept frees OneLock place = frees.lock ∙ place
  handle_kept frees OneHandle place = frees.stays place

  -- what the method does is what the handler tells
  pub room_of : (packet : Packet) → MethodRoom before after results packet → Full packet → TellsRoom before after packet (answer_to packet results)
  room_of (LocateObject lock path mode) room full = record { full = full; freed = λ served kind e. absurd (none-some kind e); stays = lock_stays room }
  room_of (CopyDir lock) room full = record { full = full; freed = λ served kind e. absurd (none-some kind e); stays = lock_stays room }
  room_of (Parent lock) room full = record { full = full; freed = λ served kind e. absurd (none-some kind e); stays = lock_stays room }
  room_of (CreateDir lock path) room full = record { full = full; freed = λ served kind e. absurd (none-some kind e); stays = lock_stays room }
  room_of (FindUpdate lock path) room full = record { full = full; freed = λ served kind e. absurd (none-some kind e); stays = handle_stays room }
  room_of (FindInput lock path) room full = record { full = full; freed = λ served kind e. absurd (none-some kind e); stays = handle_stays room }
  room_of (FindOutput lock path) room full = record { full = full; freed = λ served kind e. absurd (none-some kind e); stays = handle_stays room }
  room_of (FreeLock lock) room full = record { full = full; freed = λ served kind e. lock_freed lock room served (nat_eq lock NO_LOCK) refl kind e; stays = λ kind none place. lock_kept lock room kind place }
  room_of (End handle) room full = record {
    full = full;
    freed = λ served kind e. subst (λ (k : HoldKind). has_place after k ≡ true) (same_Some OneHandle kind e) (room.freed served);
    stays = λ kind none place. handle_kept room kind place;
  }
  room_of _ room full = record { full = full; freed = λ served kind e. absurd (none-some kind e); stays = λ kind none place. ap (λ (p : Places). has_place p kind) room ∙ place }

-- so the method's results are the handler's answer
pub answers_give : (old new : HandlerState) (packet : Packet) (now : Date3) (results : Results) → MethodGives old packet now new results → MethodRoom old.places new.places results packet → HandlerGives old packet now new (answer_to packet results)
answers_give old new packet now results gives room = record {
  old_tree = gives.old_tree;
  new_tree = gives.new_tree;
  stood = gives.stood;
  stands = gives.stands;
  means = means_of old.places gives.old_tree gives.new_tree old.session new.session packet now results gives.means;
  leaves = gives.leaves;
  validated = gives.validated;
  room = room_of old.places new.places results packet room (full_of old.places gives.old_tree gives.new_tree old.session new.session packet now results gives.means);
}
