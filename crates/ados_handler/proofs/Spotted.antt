-- FINDUPDATE and FINDOUTPUT at the place of their path.
use Rattle.std.proofs.Common.{◌≡◌, ℕ, Bool, true, false, not, List, [], ◌∷◌, ◌++◌, Option, Some, None, Ok, MatchOption, option_map, refl, sym, ap, ◌∙◌, subst}
use Rattle.ados_handler.proofs.Common.{is_none, result_err, true≢false, Date3, Tree, Stands, rewritten, child_of, denies_delete, denies_write, DosError, DeleteProtected, DeviceNotMounted, DiskFull, InvalidLock, ObjectInUse, ObjectWrongType, WriteProtected, FindOutput, FindUpdate, Results, Session, is_in_use, is_lock, HandlerState, place_error, placed, protection_of, spot_directory, spot_name, standing, spot, placed_at, first_refusal, has_no_room, is_directory_there, is_some_and, refuse, After, GivesHandle, MakesFile, MethodGives, Places, Opens, empty_refusals, make_refusals, open_refusals, Shown}
use Rattle.ados_handler.proofs.Opening.{opening_gives}
use Rattle.ados_handler.proofs.Placed.{placed_on}

-- a refusal after all others that does not hold
behind_none : (rows : List (Option DosError)) → first_refusal (rows ++ (None ∷ [])) ≡ first_refusal rows
behind_none (None ∷ rows) = behind_none rows
behind_none rows = refl

-- the refusals that depend on the entry there
update_rows : Tree → Session → Option ℕ → List (Option DosError)
update_rows t s o =
    refuse ObjectWrongType (is_directory_there t o)
    ∷ refuse ObjectInUse (is_some_and (λ key. is_in_use s key false) o)
    ∷ refuse DiskFull (has_no_room t o)
    ∷ []

output_rows : Tree → Session → Option ℕ → List (Option DosError)
output_rows t s o =
    refuse ObjectWrongType (is_directory_there t o)
    ∷ refuse ObjectInUse (is_some_and (λ key. is_in_use s key true) o)
    ∷ refuse DeleteProtected (is_some_and (λ key. denies_delete (protection_of t key)) o)
    ∷ refuse WriteProtected (is_some_and (λ key. denies_write (protection_of t key)) o)
    ∷ refuse DiskFull (has_no_room t o)
    ∷ []

module _ (old : HandlerState) (lock : ℕ) (path : List ℕ) (now : Date3) (there : ℕ × List ℕ) (alive : old.session.died ≡ false) (place : (t : Tree) → Stands old.image t → placed_at t old.session lock path ≡ Ok there) where
  abbrev s : Session
  s = old.session

  -- the place of the path, and the entry there
  record IsSpotWith (t : Tree) (o : Option ℕ) : Type 0 where
    spot_is : spot t s lock path ≡ there
    standing_is : standing t s lock path ≡ o
    row : (rest : Option ℕ → List (Option DosError)) → first_refusal (refuse DeviceNotMounted s.died ∷ refuse InvalidLock (not (is_lock s lock)) ∷ option_map place_error (result_err (placed t s lock path)) ∷ rest (standing t s lock path)) ≡ first_refusal (rest o)

  spot_with : (t : Tree) (o : Option ℕ) → Stands old.image t → child_of t there.0 there.1 ≡ o → IsSpotWith t o
  spot_with t o stood child =
      let no_rows : List (Option DosError) = [] in
      let led = (placed_on t s lock path there no_rows (place t stood)).1 in
      let at : standing t s lock path ≡ o = ap (λ (p : ℕ × List ℕ). child_of t p.0 p.1) led ∙ child in
      record {
        spot_is = led;
        standing_is = at;
        row = λ rest.
            ap (λ (b : Bool). first_refusal (refuse DeviceNotMounted b ∷ refuse InvalidLock (not (is_lock s lock)) ∷ option_map place_error (result_err (placed t s lock path)) ∷ rest (standing t s lock path))) alive
            ∙ (placed_on t s lock path there (rest (standing t s lock path)) (place t stood)).0 ∙ ap (λ (k : Option ℕ). first_refusal (rest k)) at;
      }

  -- a new file at the place is a file at the path's place
  makes_at : (t : Tree) (exclusive : Bool) (left : After) → spot t s lock path ≡ there → MakesFile t s there.0 there.1 exclusive now left → MakesFile t s (spot_directory t s lock path) (spot_name t s lock path) exclusive now left
  makes_at t exclusive left led w = subst (λ (p : ℕ × List ℕ). MakesFile t s p.0 p.1 exclusive now left) (sym led) w

  -- the volume found the entry there, and the handler continued with it
  module _ (shown found : Shown) (session : Session) (places : Places) (same : found ≡ shown) (view : record { image = shown.image; was_validated = shown.was_validated; session = session; places = places } ≡ old) (new : HandlerState) (results : Results) where
    abbrev HasChild : Option ℕ → Type 0
    HasChild o = (t : Tree) → Stands shown.image t → child_of t there.0 there.1 ≡ o

    abbrev at : HandlerState
    at = record { image = found.image; was_validated = found.was_validated; session = session; places = places }

    at_old : at ≡ old
    at_old = ap (λ (v : Shown). record { image = v.image; was_validated = v.was_validated; session = session; places = places }) same ∙ view

    spotted : (o : Option ℕ) → HasChild o → (t : Tree) → Stands old.image t → IsSpotWith t o
    spotted o child t stood = spot_with t o stood (child t (subst (λ (h : HandlerState). Stands h.image t) (sym view) stood))

    pub update_opens : (key : ℕ) → HasChild (Some key)
        → Opens (open_refusals at.session key) (λ t left. GivesHandle t at.session key false left) at new results → new.image ≡ at.image → MethodGives old (FindUpdate lock path) now new results
    unfolding update_rows
    update_opens key child opens image =
        let o = subst (λ (h : HandlerState). Opens (open_refusals h.session key) (λ t left. GivesHandle t h.session key false left) h new results) at_old opens in
        let w = spotted (Some key) child o.tree o.stood in
        opening_gives (FindUpdate lock path) now _ _ old new results o (record {
          fails = refl;
          back = refl;
          makes = refl;
          takes = refl;
          row = w.row (update_rows o.tree s) ∙ behind_none (open_refusals s key o.tree);
          serves = λ left m. subst (λ (k : Option ℕ). MatchOption k (MakesFile o.tree s (spot_directory o.tree s lock path) (spot_name o.tree s lock path) false now left) (λ key. GivesHandle o.tree s key false left)) (sym w.standing_is) m;
          quiet = λ _. image ∙ ap (λ (h : HandlerState). h.image) at_old;
        })

    pub update_makes : HasChild None
        → Opens make_refusals (λ t left. MakesFile t at.session there.0 there.1 false now left) at new results → MethodGives old (FindUpdate lock path) now new results
    unfolding update_rows
    update_makes child opens =
        let o = subst (λ (h : HandlerState). Opens make_refusals (λ t left. MakesFile t h.session there.0 there.1 false now left) h new results) at_old opens in
        let w = spotted None child o.tree o.stood in
        opening_gives (FindUpdate lock path) now _ _ old new results o (record {
          fails = refl;
          back = refl;
          makes = refl;
          takes = refl;
          row = w.row (update_rows o.tree s);
          serves = λ left m. subst (λ (k : Option ℕ). MatchOption k (MakesFile o.tree s (spot_directory o.tree s lock path) (spot_name o.tree s lock path) false now left) (λ key. GivesHandle o.tree s key false left)) (sym w.standing_is)
              (makes_at o.tree false left w.spot_is m);
          quiet = λ e. absurd (true≢false (sym (ap is_none w.standing_is) ∙ e));
        })

    pub output_empties : (key : ℕ) → HasChild (Some key)
        → Opens (empty_refusals at.session key) (λ t left. GivesHandle (rewritten now key [] t) at.session key true left) at new results → MethodGives old (FindOutput lock path) now new results
    unfolding output_rows
    output_empties key child opens =
        let o = subst (λ (h : HandlerState). Opens (empty_refusals h.session key) (λ t left. GivesHandle (rewritten now key [] t) h.session key true left) h new results) at_old opens in
        let w = spotted (Some key) child o.tree o.stood in
        opening_gives (FindOutput lock path) now _ _ old new results o (record {
          fails = refl;
          back = refl;
          makes = refl;
          takes = refl;
          row = w.row (output_rows o.tree s) ∙ behind_none (empty_refusals s key o.tree);
          serves = λ left m. subst (λ (k : Option ℕ). MatchOption k (MakesFile o.tree s (spot_directory o.tree s lock path) (spot_name o.tree s lock path) true now left) (λ key. GivesHandle (rewritten now key [] o.tree) s key true left)) (sym w.standing_is) m;
          quiet = λ e. absurd (true≢false e);
        })

    pub output_makes : HasChild None
        → Opens make_refusals (λ t left. MakesFile t at.session there.0 there.1 true now left) at new results → MethodGives old (FindOutput lock path) now new results
    unfolding output_rows
    output_makes child opens =
        let o = subst (λ (h : HandlerState). Opens make_refusals (λ t left. MakesFile t h.session there.0 there.1 true now left) h new results) at_old opens in
        let w = spotted None child o.tree o.stood in
        opening_gives (FindOutput lock path) now _ _ old new results o (record {
          fails = refl;
          back = refl;
          makes = refl;
          takes = refl;
          row = w.row (output_rows o.tree s);
          serves = λ left m. subst (λ (k : Option ℕ). MatchOption k (MakesFile o.tree s (spot_directory o.tree s lock path) (spot_name o.tree s lock path) true now left) (λ key. GivesHandle (rewritten now key [] o.tree) s key true left)) (sym w.standing_is)
              (makes_at o.tree true left w.spot_is m);
          quiet = λ e. absurd (true≢false e);
        })
