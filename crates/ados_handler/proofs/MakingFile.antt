-- A file made for a handle, if a block is free.
use Rattle.std.proofs.Common.{◌≡◌, ℕ, Bool, false, List, [], ◌∷◌, inr, refl, ap, subst}
use Rattle.ados_handler.proofs.Common.{nat_cmp, FinMap, Date3, made, KeepsRest, Stands, Tree, File, CanMake, DiskFull, Results, HandleHold, Session, HandlerState, lacks, first_refusal, refuse, MakesFile, new_key, IsSoundHandler, Places, BringsHandle, Opens, make_refusals}
use Rattle.ados_map.specs.Pages.{IsLowestFree}
use Rattle.ados_handler.proofs.Making.{made_handle}
use Rattle.ados_handler.proofs.Opening.{done_opens, gives_handle}

-- the file with the lowest free key, and a handle on it
module _ (was : List ℕ) (s : Session) (dir : ℕ) (name : List ℕ) (now : Date3) (key : ℕ) (low : IsLowestFree was key) (image : List ℕ) (stands : (t : Tree) → Stands was t → Stands image (made now dir key name (File []) t))
    (exclusive : Bool) (ready held : FinMap nat_cmp HandleHold) (results : Results) (a : BringsHandle key exclusive ready held results) (same : ready ≡ s.handles) where
  pub made_sound : IsSoundHandler was s → ((t : Tree) → Stands was t → CanMake t dir name) → IsSoundHandler image (record s { handles = held })
  made_sound sound can =
      let t = sound.tree in
      let u = made now dir key name (File []) t in
      let gives = gives_handle key exclusive s ready held results a same u in
      record {
        tree = u;
        stands = stands t sound.stands;
        holds = (made_handle t s sound.stands.proper sound.holds now dir key name (File []) (can t sound.stands) (new_key was t sound.stands key low) refl exclusive _ refl gives).1;
      }

  pub made_opens : (old : HandlerState) (was_validated : Bool) (before after : Places) → record { image = was; was_validated = was_validated; session = s; places = before } ≡ old → (t : Tree) → Stands was t → lacks t 1 ≡ false → KeepsRest was image → (validated : Bool) → validated ≡ was_validated
      → Opens make_refusals (λ t left. MakesFile t old.session dir name exclusive now left) old (record { image = image; was_validated = validated; session = record s { handles = held }; places = after }) results
  made_opens old was_validated before after view t stood room keeps validated checked =
      let new : HandlerState = record { image = image; was_validated = validated; session = record s { handles = held }; places = after } in
      let u = made now dir key name (File []) t in
      let opens = done_opens make_refusals (λ t left. MakesFile t s dir name exclusive now left) (record { image = was; was_validated = was_validated; session = s; places = before }) new results t stood (ap (λ (b : Bool). first_refusal (refuse DiskFull b ∷ [])) room) (record {
        tree = u;
        stands = stands t stood;
        success = (key, new_key was t stood key low, gives_handle key exclusive s ready held results a same u);
        res2 = ap (λ (r : Results). r.res2) a.told;
        keeps = inr keeps;
        validated = checked;
      }) in
      subst (λ (h : HandlerState). Opens make_refusals (λ t left. MakesFile t h.session dir name exclusive now left) h new results) view opens
