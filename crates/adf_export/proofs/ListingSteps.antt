-- The result of one step of a listing.
use Rattle.adf_export.proofs.Common.{◌≡◌, ℕ, ◌<◌, true, List, [], ◌∷◌, ◌++◌, Some, append-nil, refl, sym, ◌∙◌, subst, Node, Tree, file_info, Listing, Located, ListForm, ListOrder, IsEntry, IsSoFar, entry_at, work, GoesOn}
use Rattle.adf_export.proofs.Left.{Lists}
use Rattle.adf_export.proofs.InOrder.{entry_alone}

module _ (t : Tree) (order : ListOrder) (dir : ℕ) (s : ListForm) (old new : Listing) (first left : List Located) where
  -- one entry was listed
  pub goes_to_entry : (own line : List ℕ) (key : ℕ) (node : Node) → t.nodes key ≡ Some node → IsEntry s (file_info t.format key node) own line → new.text.items ≡ old.text.items ++ line
      → Lists t order dir old.levels.items new.levels.items new.path.items first left own key → GoesOn t order dir s old new first left true
  goes_to_entry own line key node is is_line text l =
      (entry_at own key ∷ [], l.rest, line, l.split, entry_alone t s own key node line is is_line, text, l.so_far, l.less)

  -- the current directory has no more entries
  pub goes_up : new.text.items ≡ old.text.items → IsSoFar t order dir new.levels.items new.path.items first left × (work new.levels.items left < work old.levels.items left) → GoesOn t order dir s old new first left true
  goes_up text ended = (
    [],
    left,
    [],
    refl,
    refl,
    text ∙ sym (append-nil old.text.items),
    subst (λ (ls : List Located). IsSoFar t order dir new.levels.items new.path.items ls left) (sym (append-nil first)) ended.0,
    ended.1,
  )
