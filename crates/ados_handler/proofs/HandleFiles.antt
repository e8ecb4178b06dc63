-- The file of a handle.
use Rattle.std.proofs.Common.{◌≡◌, ℕ, ◌≤◌, Bool, true, false, not, List, ◌∷◌, Option, Some, None, is_some, option_map, refl, sym, ap, ap₂, ◌∙◌, subst}
use Rattle.std.specs.FinMap.{get}
use Rattle.ados_handler.proofs.Common.{option_map_or, IfSome, nat_cmp, FinMap, Date3, Content, Node, Tree, size_of, size_in, File, Stands, is_file, HasFileKey, HasKey, one_tree, content_in, some_in, DosError, DeviceNotMounted, InvalidLock, Packet, Results, Shown, Session, handle_key, handle_position, HandlerState, is_handle, HandleHold, HasPathTexts, IsSoundHandler, MethodGives, MethodMeans, Places, first_refusal, refuse}
use Rattle.ados_handler.proofs.Rewriting.{file_node}
use Rattle.ados_handler.proofs.ImageKept.{meaning_keeps_proper}
use Rattle.ados_handler.proofs.Leaving.{leaves_all}
use Rattle.ados_handler.proofs.Meant.{sound_on}

module _ (s : Session) (handle : ℕ) (hold : HandleHold) (at : get s.handles handle ≡ Some hold) where
  pub key_is : handle_key s handle ≡ hold.key
  key_is = ap (λ (o : Option HandleHold). option_map_or (λ h. h.key) o 0) at

  pub position_is : handle_position s handle ≡ hold.position
  position_is = ap (λ (o : Option HandleHold). option_map_or (λ h. h.position) o 0) at

  -- a packet with such a handle is refused neither for death nor for its handle
  pub opened_on : s.died ≡ false → (more : List (Option DosError)) → first_refusal (refuse DeviceNotMounted s.died ∷ refuse InvalidLock (not (is_handle s handle)) ∷ more) ≡ first_refusal more
  opened_on alive more =
      let held : is_handle s handle ≡ true = ap is_some at in
      ap₂ (λ (d h : Bool). first_refusal (refuse DeviceNotMounted d ∷ refuse InvalidLock (not h) ∷ more)) alive held

-- the handle of a sound handler is on a file, and its position is in it
module _ (image : List ℕ) (s : Session) (sound : IsSoundHandler image s) (handle : ℕ) where
  opened_file : (hold : HandleHold) → get s.handles handle ≡ Some hold → HasFileKey image hold.key
  opened_file hold at t stands =
      let same = one_tree image sound.tree t sound.stands stands in
      let f = file_node t hold.key (subst (λ (u : Tree). is_file u hold.key ≡ true) same (sound.holds.on_files handle hold at).0) in
      (f.bytes, ap (option_map (λ (node : Node). node.content)) f.at ∙ ap (λ (c : Content). Some c) f.content)

  opened_within : (hold : HandleHold) → get s.handles handle ≡ Some hold → (t : Tree) → Stands image t → hold.position ≤ size_of t hold.key
  opened_within hold at t stands = subst (λ (u : Tree). hold.position ≤ size_of u hold.key) (one_tree image sound.tree t sound.stands stands) (sound.holds.on_files handle hold at).1

  pub file_of : (o : Option HandleHold) → o ≡ get s.handles handle → IfSome o (λ hold. HasFileKey image hold.key)
  file_of None is = tt
  file_of (Some hold) is = opened_file hold (sym is)

  pub within_of : (o : Option HandleHold) → o ≡ get s.handles handle → IfSome o (λ hold. (t : Tree) → Stands image t → hold.position ≤ size_of t hold.key)
  within_of None is = tt
  within_of (Some hold) is = opened_within hold (sym is)

-- facts about a file
module _ (image : List ℕ) (key : ℕ) (file : HasFileKey image key) where
  pub file_is_key : HasKey image key
  file_is_key t stands =
      let bytes = file t stands in
      ap is_some (content_in (t.nodes key) (File bytes.0) bytes.1).1

  pub size_told : (size : ℕ) → ((t : Tree) (node : Node) → Stands image t → t.nodes key ≡ Some node → size ≡ size_in (Some node.content)) → (t : Tree) → Stands image t → size ≡ size_of t key
  size_told size told t stands =
      let n = some_in (t.nodes key) (file_is_key t stands) in
      told t n.0 stands n.1 ∙ ap (λ (o : Option Node). size_in (option_map (λ node. node.content) o)) (sym n.1)

-- a packet without a time stamp that changes only the handles
module _ (old given : HandlerState) (same : old ≡ given) (handles : FinMap nat_cmp HandleHold) (places : Places) (packet : Packet) (results : Results) where
  pub gives_moved : (t : Tree) → Stands old.image t → (now : Date3) → MethodMeans old.places t old.session packet now t (record old.session { handles = handles }) results
      → MethodGives given packet now (record old { session = record old.session { handles = handles }; places = places }) results
  gives_moved t stood now means =
      let new : HandlerState = record old { session = record old.session { handles = handles }; places = places } in
      subst (λ (h : HandlerState). MethodGives h packet now new results) same
      (record { old_tree = t; new_tree = t; stood = stood; stands = stood; means = means; leaves = leaves_all t old packet new results refl; validated = refl })

  pub sound_moved : HasPathTexts packet → IsSoundHandler old.image old.session
      → ((now : Date3) → MethodGives given packet now (record old { session = record old.session { handles = handles }; places = places }) results)
      → IsSoundHandler old.image (record old.session { handles = handles })
  sound_moved texts sound gives =
      let moment : Date3 = record { days = 0; minutes = 0; ticks = 0 } in
      sound_on {new = record old { session = record old.session { handles = handles }; places = places }} same (gives moment) (meaning_keeps_proper packet texts) sound

  -- the same if the volume caches another place in a file
  pub sound_read : (volume : Shown) → volume ≡ record { image = old.image; was_validated = old.was_validated } → HasPathTexts packet → IsSoundHandler old.image old.session
      → ((now : Date3) → MethodGives given packet now (record { image = volume.image; was_validated = volume.was_validated; session = record old.session { handles = handles }; places = places }) results)
      → IsSoundHandler volume.image (record old.session { handles = handles })
  sound_read volume stays texts sound gives =
      let new : Session = record old.session { handles = handles } in
      subst (λ (v : Shown). IsSoundHandler v.image new) (sym stays)
      (sound_moved texts sound (λ now. subst (λ (v : Shown). MethodGives given packet now (record { image = v.image; was_validated = v.was_validated; session = new; places = places }) results) stays (gives now)))
