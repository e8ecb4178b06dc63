-- The entries of a bundle, one after the other.
use Rattle.adf_record.proofs.Common.{◌≡◌, ℕ, ◌+◌, ◌<◌, None, List, [], ◌∷◌, ◌++◌, length, get_or, take, All, sym, ap, ◌∙◌, take_more, all_zipped_more, Stands, Tree, entries, root, Below, AreBelow, there_below, BundleEntry, AreEntriesOf, IsEntryOf}
use Rattle.ados_model.specs.Keys.{HasKey}

-- one more entry
pub told_more : (t : Tree) (found : List Below) (i : ℕ) (e : Below) → i < length found → e ≡ get_or found i e → (old new : List BundleEntry) (x : BundleEntry)
    → AreEntriesOf t (take i found) old → new ≡ old ++ x ∷ [] → IsEntryOf t e x → AreEntriesOf t (take (i + 1) found) new
told_more t found i e inside is old new x a grown own =
    let last : take (i + 1) found ≡ take i found ++ e ∷ [] = take_more found i e inside ∙ ap (λ (f : Below). take i found ++ f ∷ []) (sym is) in
    rw (last, grown) (all_zipped_more (IsEntryOf t) (take i found) old e x a own)

-- all entries below the root of an image are in it
pub all_there : (image : List ℕ) (found : List Below) → ((t : Tree) → Stands image t → AreBelow t None 0 (entries t (root t)) found) → All (λ e. HasKey image e.key) found
all_there image found below = λ k d inside t s. there_below t s.proper (root t) found (below t s) k d inside
