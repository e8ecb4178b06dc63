-- The meaning of a packet if none of its refusals holds, and soundness of the handler after it.
use Rattle.std.proofs.Common.{◌≡◌, ◌≢◌, ℕ, pos, Bool, true, false, cond, not, ◌==◌, List, [], ◌∷◌, Option, Some, None, Result, Ok, Err, MatchOption, option_map, inl, inr, refl, sym, ap, ◌∙◌, subst}
use Rattle.ados_handler.proofs.Common.{result_err, result_unwrap_or, IsTrue, length, le-leb, ne_eqb, Date3, IsComment, Tree, root, with_comment, with_date, with_protection, WalkFault, one_tree, DosError, CommentTooBig, DeviceNotMounted, InvalidLock, NoFreeStore, ObjectWrongType, dos_true, error_number, failure_of, handed_back, Packet, SetComment, SetDate, SetProtect, Results, Body, Empty, Session, is_lock, HandlerState, found, object, walk_error, walk_result, walked, first_refusal, refusal, refusals, refuse, is_comment, Success, after, sets_disk_date, Stands, IsRefused, IsServed, makes_hold, IsProperSession, KeepsProper, KeepsRest, Shown, IsSoundHandler, MethodGives, MethodMeans, Places, ServedOrFull, room_for, answer_to}
use Rattle.ados_handler.proofs.Leaving.{leaves_all, leaves_rest}
use Rattle.ados_handler.proofs.Rooms.{means_of}

-- the results of success, and of success with a number
abbrev pub done : Body → Results
done body = record { res1 = dos_true; res2 = pos 0; body = body }

abbrev pub counted : ℕ → Body → Results
counted count body = record { res1 = pos count; res2 = pos 0; body = body }

-- a sound handler is still sound after it did what a packet means
pub sound_on : {old opened new : HandlerState} {packet : Packet} {now : Date3} {results : Results} → opened ≡ old → MethodGives old packet now new results → KeepsProper packet → IsSoundHandler opened.image opened.session → IsSoundHandler new.image new.session
sound_on {old} {opened} {new} {packet} {now} {results} same gives keeps opened_sound =
    let sound : IsSoundHandler old.image old.session = subst (λ (h : HandlerState). IsSoundHandler h.image h.session) same opened_sound in
    let one = one_tree old.image sound.tree gives.old_tree sound.stands gives.stood in
    let means = means_of old.places gives.old_tree gives.new_tree old.session new.session packet now results gives.means in
    let kept = keeps gives.old_tree gives.new_tree old.session new.session now (answer_to packet results) gives.stood.proper (subst (λ (t : Tree). IsProperSession t old.session) one sound.holds) means in
    record { tree = gives.new_tree; stands = gives.stands; holds = kept.1 }

-- a walk to an object is not refused
pub walked_on : (t : Tree) (s : Session) (lock : ℕ) (path : List ℕ) (key : ℕ) (more : List (Option DosError)) → walked t s lock path ≡ Ok key
    → (first_refusal (refuse InvalidLock (not (is_lock s lock)) ∷ option_map walk_error (result_err (found t s lock path)) ∷ more) ≡ first_refusal more) × (object t s lock path ≡ key)
walked_on t s lock path key more = go (is_lock s lock) (found t s lock path)
  where
    go : (b : Bool) (r : Result ℕ WalkFault) → cond b (walk_result r) (Err InvalidLock) ≡ Ok key
        → (first_refusal (refuse InvalidLock (not b) ∷ option_map walk_error (result_err r) ∷ more) ≡ first_refusal more) × (result_unwrap_or r 0 ≡ key)
    go true (Ok k) e = (refl, cc e)
    go true (Err fault) e = absurd (cc e)
    go false r e = absurd (cc e)

-- a packet refused only by the walk and for the root, with another object
pub marked_on : (t : Tree) (s : Session) (lock : ℕ) (path : List ℕ) (key : ℕ) → s.died ≡ false → walked t s lock path ≡ Ok key → key ≢ root t
    → (first_refusal (refuse DeviceNotMounted s.died ∷ refuse InvalidLock (not (is_lock s lock)) ∷ option_map walk_error (result_err (found t s lock path)) ∷ refuse ObjectWrongType (object t s lock path == root t) ∷ []) ≡ None) × (object t s lock path ≡ key)
marked_on t s lock path key alive walk other =
    let row : List (Option DosError) = refuse InvalidLock (not (is_lock s lock)) ∷ option_map walk_error (result_err (found t s lock path)) ∷ refuse ObjectWrongType (object t s lock path == root t) ∷ [] in
    let w = walked_on t s lock path key (refuse ObjectWrongType (object t s lock path == root t) ∷ []) walk in
    let not_root : (object t s lock path == root t) ≡ false = ap (λ (k : ℕ). k == root t) w.1 ∙ ne_eqb key (root t) other in
    (ap (λ (b : Bool). first_refusal (refuse DeviceNotMounted b ∷ row)) alive ∙ w.0 ∙ ap (λ (b : Bool). first_refusal (refuse ObjectWrongType b ∷ [])) not_root, w.1)

-- the meaning of a packet by its first refusal
pub meaning_by : (places : Places) (t u : Tree) (s new : Session) (packet : Packet) (now : Date3) (results : Results) (o : Option DosError) → refusal t s packet ≡ o
    → MatchOption o (ServedOrFull places t s packet now u new (answer_to packet results)) (λ error. IsRefused t s packet error u new (answer_to packet results)) → MethodMeans places t s packet now u new results
meaning_by places t u s new packet now results o is means =
    subst (λ (o : Option DosError). MatchOption o (ServedOrFull places t s packet now u new (answer_to packet results)) (λ error. IsRefused t s packet error u new (answer_to packet results))) (sym is) means

-- a packet that no refusal excludes means what it does when served
pub served_means : (places : Places) (t u : Tree) (s new : Session) (packet : Packet) (now : Date3) (results : Results) → refusal t s packet ≡ None → IsServed t s packet now u new (answer_to packet results) → MethodMeans places t s packet now u new results
served_means places t u s new packet now results none served = meaning_by places t u s new packet now results None none (inl served)

-- ---- packets that change nothing

module _ (old new : HandlerState) (packet : Packet) (now : Date3) (results : Results) (t : Tree) where
  pub stays_gives : Stands old.image t → new.image ≡ old.image → new.was_validated ≡ old.was_validated → MethodMeans old.places t old.session packet now t new.session results → MethodGives old packet now new results
  stays_gives stood image validated means = record {
    old_tree = t;
    new_tree = t;
    stood = stood;
    stands = subst (λ (xs : List ℕ). Stands xs t) (sym image) stood;
    means = means;
    leaves = leaves_all t old packet new results image;
    validated = validated;
  }

  tells : (error : DosError) → new.session ≡ old.session → results ≡ record { res1 = failure_of packet; res2 = pos (error_number error); body = handed_back packet } → IsRefused t old.session packet error t new.session (answer_to packet results)
  tells error same told = record { tree = refl; session = same; answered = ap (answer_to packet) told }

  -- a packet that is refused returns the error
  pub refused_gives : (error : DosError) → Stands old.image t → new ≡ old → refusal t old.session packet ≡ Some error
      → results ≡ record { res1 = failure_of packet; res2 = pos (error_number error); body = handed_back packet } → MethodGives old packet now new results
  refused_gives error stood same is told =
      stays_gives stood (ap (λ (h : HandlerState). h.image) same) (ap (λ (h : HandlerState). h.was_validated) same)
      (meaning_by old.places t t old.session new.session packet now results (Some error) is (tells error (ap (λ (h : HandlerState). h.session) same) told))

  -- so does a packet without a place for its lock or handle
  pub no_place_gives : Stands old.image t → new.image ≡ old.image → new.was_validated ≡ old.was_validated → new.session ≡ old.session → refusal t old.session packet ≡ None → IsTrue (makes_hold t old.session packet) → room_for old.places packet ≡ false
      → results ≡ record { res1 = failure_of packet; res2 = pos (error_number NoFreeStore); body = handed_back packet } → MethodGives old packet now new results
  no_place_gives stood image validated session none makes full told =
      stays_gives stood image validated (meaning_by old.places t t old.session new.session packet now results None none (inr (makes, full, tells NoFreeStore session told)))

-- ---- packets that change the tree and no hold, and return no number and no body

-- no refusal excludes it, and this is the new tree
pub record IsEdit (t u : Tree) (s : Session) (packet : Packet) (now : Date3) : Type 0 where
  pub none : refusal t s packet ≡ None
  pub success : Success t s packet now (after u s dos_true Empty)

-- the volume made the change
pub edit_gives : (old opened : HandlerState) → opened ≡ old → {t u : Tree} {packet : Packet} {now : Date3} → IsEdit t u old.session packet now → sets_disk_date t old.session packet ≡ true
    → Stands opened.image t → (new : Shown) → Stands new.image u → KeepsRest opened.image new.image → new.was_validated ≡ opened.was_validated → (results : Results) → results ≡ done Empty
    → MethodGives old packet now (record opened { image = new.image; was_validated = new.was_validated }) results
edit_gives old opened same {t} {u} {packet} {now} edit sets stood new stands keeps validated results told =
    let end : HandlerState → HandlerState = λ h. record h { image = new.image; was_validated = new.was_validated } in
    let given : MethodGives old packet now (end old) (done Empty) = record {
      old_tree = t;
      new_tree = u;
      stood = subst (λ (h : HandlerState). Stands h.image t) same stood;
      stands = stands;
      means = served_means old.places t u old.session old.session packet now (done Empty) edit.none (record { success = edit.success; action = refl; res2 = refl });
      leaves = leaves_rest t old packet (end old) (done Empty) (subst (λ (h : HandlerState). KeepsRest h.image new.image) same keeps) refl sets;
      validated = validated ∙ ap (λ (h : HandlerState). h.was_validated) same;
    } in
    subst (λ (r : Results). MethodGives old packet now (end opened) r) (sym told) (subst (λ (h : HandlerState). MethodGives old packet now (end h) (done Empty)) (sym same) given)

module _ (t : Tree) (s : Session) (lock : ℕ) (path : List ℕ) (now : Date3) (key : ℕ) (alive : s.died ≡ false) (walk : walked t s lock path ≡ Ok key) (other : key ≢ root t) where
  pub set_protect_edits : (bits : ℕ) → IsEdit t (with_protection now key bits t) s (SetProtect lock path bits) now
  set_protect_edits bits =
      let m = marked_on t s lock path key alive walk other in
      record { none = m.0; success = ap (λ (k : ℕ). after (with_protection now k bits t) s dos_true Empty) (sym m.1) }

  pub set_date_edits : (date : Date3) → IsEdit t (with_date now key date t) s (SetDate lock path date) now
  set_date_edits date =
      let m = marked_on t s lock path key alive walk other in
      record { none = m.0; success = ap (λ (k : ℕ). after (with_date now k date t) s dos_true Empty) (sym m.1) }

  pub set_comment_edits : (comment : List ℕ) → IsComment comment → IsEdit t (with_comment now key comment t) s (SetComment lock path comment) now
  set_comment_edits comment is =
      let last : List (Option DosError) = refuse ObjectWrongType (object t s lock path == root t) ∷ [] in
      let w = walked_on t s lock path key (refuse CommentTooBig (not (is_comment comment)) ∷ last) walk in
      let away : (object t s lock path == root t) ≡ false = ap (λ (k : ℕ). k == root t) w.1 ∙ ne_eqb key (root t) other in
      let fits : is_comment comment ≡ true = le-leb (length comment) 79 is.short in
      record {
        none = ap (λ (d : Bool). first_refusal (refuse DeviceNotMounted d ∷ refusals t s (SetComment lock path comment))) alive ∙ w.0
            ∙ ap (λ (c : Bool). first_refusal (refuse CommentTooBig (not c) ∷ last)) fits ∙ ap (λ (b : Bool). first_refusal (refuse ObjectWrongType b ∷ [])) away;
        success = ap (λ (k : ℕ). after (with_comment now k comment t) s dos_true Empty) (sym w.1);
      }
