-- The meaning of WRITE if it is not refused.
use Rattle.std.proofs.Common.{◌≡◌, ℕ, ◌+◌, ◌≤◌, pos, Bool, true, false, List, [], ◌∷◌, ◌++◌, length, take, drop, Some, None, inl, inr, refl, sym, ap, ap₂, ◌∙◌, subst, arith, length-take, length-append, ltb-false}
use Rattle.std.specs.FinMap.{get}
use Rattle.ados_handler.proofs.Common.{max, nat_cmp, FinMap, false_from_ne_true, nil_from_length, Tree, Proper, bytes_of, content_at, size_of, needs_more, Date3, denies_write, KeepsRest, Stands, is_file, written, overlaid, DiskFull, WriteProtected, Write, Results, Buffer, Session, at_position, handle_key, handle_position, HandlerState, HandleHold, protection_of, first_refusal, refuse, refusal, after, LeavesImage, MethodGives, MethodMeans, Places, answer_to}
use Rattle.ados_change.specs.Renewed.{NeedsMore}
use Rattle.ados_handler.proofs.Reading.{size_is}
use Rattle.ados_handler.proofs.Rewriting.{file_node, rewritten_size}
use Rattle.ados_handler.proofs.HandleFiles.{key_is, position_is, opened_on}
use Rattle.ados_handler.proofs.Sizes.{size_small}
use Rattle.ados_handler.proofs.Meant.{counted as answers, served_means}

module _ (t : Tree) (s : Session) (handle : ℕ) (bytes : List ℕ) (hold : HandleHold) (at : get s.handles handle ≡ Some hold) where
  pub write_means : (places : Places) (new : Session) (now : Date3) (count : ℕ) → s.died ≡ false → denies_write (protection_of t hold.key) ≡ false
      → ¬ NeedsMore t hold.key (max (size_of t hold.key) (hold.position + length bytes)) → count ≡ length bytes → new ≡ at_position handle (hold.position + length bytes) s
      → MethodMeans places t s (Write handle bytes) now (written now hold.key hold.position bytes t) new (answers count (Buffer bytes))
  write_means places new now count alive writable room counted moved =
      let key = key_is s handle hold at in
      let position = position_is s handle hold at in
      let denied = ap (λ (k : ℕ). denies_write (protection_of t k)) key ∙ writable in
      let more = ap₂ (λ (k p : ℕ). needs_more t k (max (size_of t k) (p + length bytes))) key position ∙ false_from_ne_true _ room in
      let none : refusal t s (Write handle bytes) ≡ None =
      opened_on s handle hold at alive (refuse WriteProtected (denies_write (protection_of t (handle_key s handle))) ∷ refuse DiskFull (needs_more t (handle_key s handle) (max (size_of t (handle_key s handle)) (handle_position s handle + length bytes))) ∷ [])
      ∙ ap₂ (λ (b c : Bool). first_refusal (refuse WriteProtected b ∷ refuse DiskFull c ∷ [])) denied more in
      let moves = moved ∙ ap (λ (p : ℕ). at_position handle (p + length bytes) s) (sym position) in
      served_means places t (written now hold.key hold.position bytes t) s new (Write handle bytes) now (answers count (Buffer bytes)) none
      (record { success = λ i. after (written now (sym key i) (sym position i) bytes t) (moves i) (pos (counted i)) (Buffer bytes); action = refl; res2 = refl })

-- what a served WRITE leaves untouched in the image
written_leaves : (t : Tree) (old new : HandlerState) (handle : ℕ) (bytes : List ℕ) (results : Results) → results.res2 ≡ pos 0 → KeepsRest old.image new.image → (bytes ≡ [] → new.image ≡ old.image)
    → LeavesImage t old (Write handle bytes) new (answer_to (Write handle bytes) results)
written_leaves t old new handle bytes results served keeps empty = record {
  keeps = inr keeps;
  rest = λ why. elim why [
    | inl refused ↦ absurd (refused served)
    | inr none ↦ empty (nil_from_length bytes (omega (arith, ltb-false 0 (length bytes) none)))
  ];
}

module _ (old given : HandlerState) (same : old ≡ given) (t : Tree) (stood : Stands old.image t) (handle : ℕ) (hold : HandleHold) (at : get given.session.handles handle ≡ Some hold) (now : Date3)
    (bytes shown : List ℕ) (is : shown ≡ bytes) where
  pub write_gives : (image : List ℕ) (validated : Bool) (handles : FinMap nat_cmp HandleHold) (places : Places) (results : Results) → old.session.died ≡ false → denies_write (protection_of t hold.key) ≡ false
      → (¬ NeedsMore t hold.key (max (size_of t hold.key) (hold.position + length shown))) × Stands image (written now hold.key hold.position shown t)
      → KeepsRest old.image image → (shown ≡ [] → image ≡ old.image) → validated ≡ old.was_validated
      → handles ≡ (at_position handle (hold.position + length shown) old.session).handles → results ≡ answers (length shown) (Buffer bytes)
      → MethodGives given (Write handle bytes) now (record { image = image; was_validated = validated; session = record old.session { handles = handles }; places = places }) results
  write_gives image validated handles places results alive writable done keeps empty kept moved told =
      let s : Session = old.session in
      let new : HandlerState = record { image = image; was_validated = validated; session = record s { handles = handles }; places = places } in
      let count : length shown ≡ length bytes = ap length is in
      let held = ap (λ (h : HandlerState). get h.session.handles handle) same ∙ at in
      let wrote = subst (λ (xs : List ℕ). (¬ NeedsMore t hold.key (max (size_of t hold.key) (hold.position + length xs))) × Stands image (written now hold.key hold.position xs t)) is done in
      let moves : record s { handles = handles } ≡ at_position handle (hold.position + length shown) s = λ i. record s { handles = moved i } in
      let means = write_means t s handle bytes hold held old.places (record s { handles = handles }) now (length shown) alive writable wrote.0 count (moves ∙ ap (λ (n : ℕ). at_position handle (hold.position + n) s) count) in
      subst (λ (h : HandlerState). MethodGives h (Write handle bytes) now new results) same (record {
        old_tree = t;
        new_tree = written now hold.key hold.position bytes t;
        stood = stood;
        stands = wrote.1;
        means = subst (λ (r : Results). MethodMeans old.places t s (Write handle bytes) now (written now hold.key hold.position bytes t) (record s { handles = handles }) r) (sym told) means;
        leaves = written_leaves t old new handle bytes results (ap (λ (r : Results). r.res2) told) keeps (λ e. empty (is ∙ e));
        validated = kept;
      })

-- the file does not end before its new bytes
written_reaches : (t : Tree) → Proper t → (now : Date3) (key start : ℕ) → is_file t key ≡ true → start ≤ size_of t key → (bytes : List ℕ) → start + length bytes ≤ size_of (written now key start bytes t) key
written_reaches t proper now key start file within [] = omega (arith, within)
written_reaches t proper now key start file within (c ∷ cs) =
    let new : List ℕ = c ∷ cs in
    let old : List ℕ = bytes_of t key in
    let size = rewritten_size t proper key (file_node t key file) (overlaid old start new) now in
    let whole = length-append (take start old ++ new) (drop (start + length new) old) in
    let front = length-append (take start old) new in
    omega (arith, size, whole, front, length-take start old, size_is (content_at t key), within)

-- the bytes end at most at the largest size of a file
pub written_end : (new : List ℕ) (t : Tree) → Proper t → (now : Date3) (key start : ℕ) → is_file t key ≡ true → start ≤ size_of t key → (bytes : List ℕ) → Stands new (written now key start bytes t) → start + length bytes ≤ 52020224
written_end new t proper now key start file within bytes stands =
    let reaches = written_reaches t proper now key start file within bytes in
    omega (arith, reaches, size_small new (written now key start bytes t) stands key)
