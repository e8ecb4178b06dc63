-- A file emptied for a handle.
use Rattle.std.proofs.Common.{◌≡◌, ◌≢◌, ℕ, Bool, true, false, not, List, [], ◌∷◌, Some, None, is_some, inr, refl, ap, ◌∙◌, subst}
use Rattle.ados_handler.proofs.Common.{nat_cmp, FinMap, Date3, denies_delete, denies_write, Tree, Proper, Stands, KeepsRest, is_file, rewritten, shortened, DeleteProtected, ObjectInUse, ObjectWrongType, WriteProtected, Results, HandleHold, Session, is_in_use, HandlerState, protection_of, first_refusal, refuse, GivesHandle, HoldNumber, hold_at, IsProperSession, IsSoundHandler, Places, BringsHandle, Opens, empty_refusals}
use Rattle.ados_handler.proofs.Holding.{not_held}
use Rattle.ados_handler.proofs.Carrying.{carried_session}
use Rattle.ados_handler.proofs.Rewriting.{file_node, rewritten_here, rewritten_is_file, rewritten_other}
use Rattle.ados_handler.proofs.Opening.{done_opens, gives_handle, proper_opened}

-- a file cut to 0 bytes has none
cut_is_emptied : (now : Date3) (key : ℕ) (t : Tree) → shortened now key 0 t ≡ rewritten now key [] t
cut_is_emptied now key t = refl

-- no refusal of an exclusive handle on a file holds
no_refusal : (s : Session) (key : ℕ) (t : Tree) (bits : ℕ) → is_file t key ≡ true → is_in_use s key true ≡ false → protection_of t key ≡ bits → denies_delete bits ≡ false → denies_write bits ≡ false → first_refusal (empty_refusals s key t) ≡ None
no_refusal s key t bits file free told delete write =
    let named : first_refusal (empty_refusals s key t) ≡ first_refusal (refuse DeleteProtected (denies_delete bits) ∷ refuse WriteProtected (denies_write bits) ∷ []) =
    λ i. first_refusal (refuse ObjectWrongType (not (file i)) ∷ refuse ObjectInUse (free i) ∷ refuse DeleteProtected (denies_delete (told i)) ∷ refuse WriteProtected (denies_write (told i)) ∷ []) in
    named ∙ (λ i. first_refusal (refuse DeleteProtected (delete i) ∷ refuse WriteProtected (write i) ∷ []))

-- no other object changes
emptied_session : (t : Tree) → Proper t → (s : Session) → IsProperSession t s → (key : ℕ) → is_file t key ≡ true → is_in_use s key true ≡ false → (now : Date3) → IsProperSession (rewritten now key [] t) s
emptied_session t proper s session key file free now =
    carried_session t (rewritten now key [] t) s session (λ hold k e h. rewritten_other t proper key (file_node t key file) [] now k (other hold k e h))
  where
    other : (hold : HoldNumber) (k : ℕ) (e : Bool) → hold_at s hold ≡ Some (k, e) → k ≢ key
    other hold k e h same = not_held s key free hold e (subst (λ (i : ℕ). hold_at s hold ≡ Some (i, e)) same h)

-- the file without bytes, and a handle on it
module _ (was : List ℕ) (s : Session) (key : ℕ) (now : Date3) (image : List ℕ) (stands : (t : Tree) → Stands was t → Stands image (shortened now key 0 t))
    (ready held : FinMap nat_cmp HandleHold) (results : Results) (a : BringsHandle key true ready held results) (same : ready ≡ s.handles) where
  pub emptied_sound : (sound : IsSoundHandler was s) → is_file sound.tree key ≡ true → is_in_use s key true ≡ false → IsSoundHandler image (record s { handles = held })
  emptied_sound sound file free =
      let t = sound.tree in
      let proper = sound.stands.proper in
      let u = rewritten now key [] t in
      let f = file_node t key file in
      record {
        tree = u;
        stands = subst (Stands image) (cut_is_emptied now key t) (stands t sound.stands);
        holds = proper_opened key true s ready held results a same u (emptied_session t proper s sound.holds key file free now)
            (ap is_some (rewritten_here t proper key f [] now)) (rewritten_is_file t proper key f [] now) free;
      }

  pub emptied_opens : (old : HandlerState) (was_validated : Bool) (before after : Places) → record { image = was; was_validated = was_validated; session = s; places = before } ≡ old → (t : Tree) → Stands was t → is_file t key ≡ true → is_in_use s key true ≡ false
      → (bits : ℕ) → protection_of t key ≡ bits → denies_delete bits ≡ false → denies_write bits ≡ false → KeepsRest was image → (validated : Bool) → validated ≡ was_validated
      → Opens (empty_refusals old.session key) (λ t left. GivesHandle (rewritten now key [] t) old.session key true left) old (record { image = image; was_validated = validated; session = record s { handles = held }; places = after }) results
  emptied_opens old was_validated before after view t stood file free bits told delete write keeps validated checked =
      let new : HandlerState = record { image = image; was_validated = validated; session = record s { handles = held }; places = after } in
      let u = rewritten now key [] t in
      let opens = done_opens (empty_refusals s key) (λ t left. GivesHandle (rewritten now key [] t) s key true left) (record { image = was; was_validated = was_validated; session = s; places = before }) new results t stood (no_refusal s key t bits file free told delete write) (record {
        tree = u;
        stands = subst (Stands image) (cut_is_emptied now key t) (stands t stood);
        success = gives_handle key true s ready held results a same u;
        res2 = ap (λ (r : Results). r.res2) a.told;
        keeps = inr keeps;
        validated = checked;
      }) in
      subst (λ (h : HandlerState). Opens (empty_refusals h.session key) (λ t left. GivesHandle (rewritten now key [] t) h.session key true left) h new results) view opens
