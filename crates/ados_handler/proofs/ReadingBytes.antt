-- The meaning of READ if it is not refused.
use Rattle.std.proofs.Common.{◌≡◌, ℕ, ◌+◌, ◌-◌, ◌≤◌, min, pos, Bool, false, List, [], ◌∷◌, ◌++◌, length, take, drop, Some, None, refl, sym, ap, ap₂, ◌∙◌, subst, arith, length-append, length-take, length-drop}
use Rattle.std.specs.FinMap.{get}
use Rattle.ados_handler.proofs.Common.{nat_cmp, FinMap, take_min, Date3, denies_read, Tree, bytes_of, content_at, size_of, Stands, ReadProtected, Read, Results, Buffer, Shown, Session, at_position, handle_key, HandlerState, HandleHold, protection_of, bytes_read, first_refusal, refuse, refusal, after, MethodGives, MethodMeans, Places}
use Rattle.ados_handler.proofs.HandleFiles.{key_is, position_is, opened_on, gives_moved}
use Rattle.ados_handler.proofs.Reading.{size_is}
use Rattle.ados_handler.proofs.Sizes.{size_small}
use Rattle.ados_handler.proofs.Meant.{counted as answers, served_means}

module _ (t : Tree) (s : Session) (handle : ℕ) (buffer : List ℕ) (hold : HandleHold) (at : get s.handles handle ≡ Some hold)
    (count : ℕ) (counted : count ≡ min (length buffer) (length (bytes_of t hold.key) - hold.position)) where
  read_is : bytes_read t s handle buffer ≡ take count (drop hold.position (bytes_of t hold.key))
  read_is =
      let left : List ℕ = drop hold.position (bytes_of t hold.key) in
      let most : count ≡ min (length buffer) (length left) = counted ∙ ap (min (length buffer)) (sym (length-drop hold.position (bytes_of t hold.key))) in
      ap₂ (λ (p key : ℕ). take (length buffer) (drop p (bytes_of t key))) (position_is s handle hold at) (key_is s handle hold at)
      ∙ sym (take_min (length buffer) left) ∙ ap (λ (n : ℕ). take n left) (sym most)

  count_is : length (bytes_read t s handle buffer) ≡ count
  count_is = ap length read_is ∙ omega (arith, counted, length-take count (drop hold.position (bytes_of t hold.key)), length-drop hold.position (bytes_of t hold.key))

  pub read_means : (places : Places) (new : Session) (now : Date3) (filled : List ℕ) → s.died ≡ false → denies_read (protection_of t hold.key) ≡ false
      → filled ≡ take count (drop hold.position (bytes_of t hold.key)) ++ drop count buffer → new ≡ at_position handle (hold.position + count) s
      → MethodMeans places t s (Read handle buffer) now t new (answers count (Buffer filled))
  read_means places new now filled alive readable bytes moved =
      let denied = ap (λ (key : ℕ). denies_read (protection_of t key)) (key_is s handle hold at) ∙ readable in
      let none : refusal t s (Read handle buffer) ≡ None =
      opened_on s handle hold at alive (refuse ReadProtected (denies_read (protection_of t (handle_key s handle))) ∷ [])
      ∙ ap (λ (b : Bool). first_refusal (refuse ReadProtected b ∷ [])) denied in
      let moves = moved ∙ ap₂ (λ (p n : ℕ). at_position handle (p + n) s) (sym (position_is s handle hold at)) (sym count_is) in
      let given = bytes ∙ ap₂ (λ (xs : List ℕ) (n : ℕ). xs ++ drop n buffer) (sym read_is) (sym count_is) in
      served_means places t t s new (Read handle buffer) now (answers count (Buffer filled)) none
      (record { success = λ i. after t (moves i) (pos (sym count_is i)) (Buffer (given i)); action = refl; res2 = refl })

module _ (old given : HandlerState) (same : old ≡ given) (t : Tree) (stood : Stands old.image t) (handle : ℕ) (buffer : List ℕ) (hold : HandleHold) (at : get given.session.handles handle ≡ Some hold)
    (count : ℕ) (counted : count ≡ min (length buffer) (length (bytes_of t hold.key) - hold.position)) where
  -- cached places in files change nothing that contracts see
  pub read_gives : (volume : Shown) → volume ≡ record { image = old.image; was_validated = old.was_validated } → (filled : List ℕ) (handles : FinMap nat_cmp HandleHold) (places : Places) (results : Results) → old.session.died ≡ false → denies_read (protection_of t hold.key) ≡ false
      → filled ≡ take count (drop hold.position (bytes_of t hold.key)) ++ drop count buffer
      → handles ≡ (at_position handle (hold.position + count) old.session).handles → results ≡ answers count (Buffer filled)
      → (now : Date3) → MethodGives given (Read handle buffer) now (record { image = volume.image; was_validated = volume.was_validated; session = record old.session { handles = handles }; places = places }) results
  read_gives volume stays filled handles places results alive readable bytes moved told now =
      let new : Session = record old.session { handles = handles } in
      let held = ap (λ (h : HandlerState). get h.session.handles handle) same ∙ at in
      subst (λ (v : Shown). MethodGives given (Read handle buffer) now (record { image = v.image; was_validated = v.was_validated; session = new; places = places }) results) (sym stays)
      (gives_moved old given same handles places (Read handle buffer) results t stood now
      (subst (λ (r : Results). MethodMeans old.places t old.session (Read handle buffer) now t new r) (sym told)
      (read_means t old.session handle buffer hold held count counted old.places new now filled alive readable bytes (λ i. record old.session { handles = moved i }))))

-- the bytes that were read end at most at the file's end
pub read_ends : (image : List ℕ) (t : Tree) → Stands image t → (key start room count : ℕ) → start ≤ size_of t key → count ≡ min room (length (bytes_of t key) - start) → start + count ≤ 52020224
read_ends image t stands key start room count within counted =
    omega (arith, within, counted, size_small image t stands key, size_is (content_at t key))

-- a buffer keeps its length
pub filled_length : (xs buffer filled : List ℕ) (start count : ℕ) → count ≡ min (length buffer) (length xs - start) → filled ≡ take count (drop start xs) ++ drop count buffer → length filled ≡ length buffer
filled_length xs buffer filled start count counted is =
    let whole = ap length is ∙ length-append (take count (drop start xs)) (drop count buffer) in
    omega (arith, counted, whole, length-take count (drop start xs), length-drop start xs, length-drop count buffer)
