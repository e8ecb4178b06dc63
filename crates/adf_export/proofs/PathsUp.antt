-- The path before the names in a directory, found on the way up.
use Rattle.adf_export.proofs.Common.{◌≡◌, ℕ, zero, suc, List, [], ◌∷◌, ◌++◌, Some, None, append_assoc, append-nil, refl, sym, ap, ◌∙◌, Tree, name_of, parent_of, front, names_down}

-- the name of the directory above comes before all names so far
pub names_pushed : (t : Tree) (keys : List ℕ) (key : ℕ) → names_down t (keys ++ key ∷ []) ≡ (name_of t key ++ 47 ∷ []) ++ names_down t keys
names_pushed t [] key = sym (append-nil (name_of t key ++ 47 ∷ []))
names_pushed t (k ∷ keys) key =
    ap (λ (l : List ℕ). l ++ (name_of t k ++ 47 ∷ [])) (names_pushed t keys key)
    ∙ append_assoc (name_of t key ++ 47 ∷ []) (names_down t keys) (name_of t k ++ 47 ∷ [])

-- one step up
pub climbs : (t : Tree) (depth key above : ℕ) (keys : List ℕ) → parent_of t key ≡ Some above
    → front t depth above ++ names_down t (keys ++ key ∷ []) ≡ front t (suc depth) key ++ names_down t keys
unfolding front
climbs t depth key above keys up =
    rw up (simp (names_pushed t keys key, append_assoc))

-- the path before the names in the root is empty
pub nothing_above : (t : Tree) (depth key : ℕ) → parent_of t key ≡ None → front t depth key ≡ []
unfolding front
nothing_above t zero key none = refl
nothing_above t (suc depth) key none = rw none refl

-- it is empty if no directory is left
pub nothing_deeper : (t : Tree) (depth key : ℕ) → depth ≡ 0 → front t depth key ≡ []
unfolding front
nothing_deeper t depth key none = rw none refl

-- the last of the keys is the first of the names
pub names_popped : (t : Tree) (keys : List ℕ) (key : ℕ) (text : List ℕ)
    → text ++ names_down t (keys ++ key ∷ []) ≡ text ++ name_of t key ++ 47 ∷ [] ++ names_down t keys
names_popped t keys key text = simp (names_pushed t keys key, append_assoc)
