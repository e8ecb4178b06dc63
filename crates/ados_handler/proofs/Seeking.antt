-- The meaning of SEEK if it is not refused.
use Rattle.std.proofs.Common.{◌≡◌, ℕ, ℤ, pos, Bool, false, [], ◌∷◌, Option, Some, None, refl, sym, ap, ap₂, ◌∙◌, subst}
use Rattle.std.specs.FinMap.{get}
use Rattle.ados_handler.proofs.Common.{nat_cmp, FinMap, Date3, Tree, size_of, Stands, SeekError, Packet, Seek, Results, Empty, Session, at_position, handle_key, HandlerState, HandleHold, handle_target, is_bad_target, target_number, seek_target, first_refusal, refuse, refusal, after, MethodGives, MethodMeans, Places}
use Rattle.ados_handler.proofs.HandleFiles.{key_is, position_is, opened_on, gives_moved}
use Rattle.ados_handler.proofs.Meant.{counted, served_means}

module _ (old given : HandlerState) (same : old ≡ given) (t : Tree) (stood : Stands old.image t) (handle : ℕ) (offset mode : ℤ) (hold : HandleHold) (at : get given.session.handles handle ≡ Some hold)
    (size : ℕ) (is : (u : Tree) → Stands given.image u → size ≡ size_of u hold.key) where
  abbrev target : Option ℤ
  target = seek_target hold.position size offset mode

  pub seek_gives : (position : ℕ) (handles : FinMap nat_cmp HandleHold) (places : Places) (results : Results) → old.session.died ≡ false → is_bad_target size target ≡ false → position ≡ target_number target
      → handles ≡ (at_position handle position old.session).handles → results ≡ counted hold.position Empty
      → (now : Date3) → MethodGives given (Seek handle offset mode) now (record old { session = record old.session { handles = handles }; places = places }) results
  seek_gives position handles places results alive good there moved told now =
      let s : Session = old.session in
      let new : Session = record s { handles = handles } in
      let packet : Packet = Seek handle offset mode in
      let held = ap (λ (h : HandlerState). get h.session.handles handle) same ∙ at in
      let stands = position_is s handle hold held in
      let sized : size_of t (handle_key s handle) ≡ size = ap (size_of t) (key_is s handle hold held) ∙ sym (is t (subst (λ (h : HandlerState). Stands h.image t) same stood)) in
      let leads : handle_target t s handle offset mode ≡ target = ap₂ (λ (p z : ℕ). seek_target p z offset mode) stands sized in
      let none : refusal t s packet ≡ None =
      opened_on s handle hold held alive (refuse SeekError (is_bad_target (size_of t (handle_key s handle)) (handle_target t s handle offset mode)) ∷ [])
      ∙ ap (λ (b : Bool). first_refusal (refuse SeekError b ∷ [])) (ap₂ is_bad_target sized leads ∙ good) in
      let arrives : position ≡ target_number (handle_target t s handle offset mode) = there ∙ sym (ap target_number leads) in
      let moves : new ≡ at_position handle position s = λ i. record s { handles = moved i } in
      let reached = moves ∙ ap (λ (p : ℕ). at_position handle p s) arrives in
      gives_moved old given same handles places packet results t stood now
      (subst (λ (r : Results). MethodMeans old.places t s packet now t new r) (sym told)
      (served_means old.places t t s new packet now (counted hold.position Empty) none (record { success = λ i. after t (reached i) (pos (sym stands i)) Empty; action = refl; res2 = refl })))
