-- The path of a directory or file, from its end.
use Rattle.std.proofs.Common.{◌≡◌, ◌≢◌, ℕ, ◌<◌, List, [], ◌∷◌, ◌++◌, length, Some, sym, ap, ◌∙◌, subst, append_assoc, length-append, arith}
use Rattle.adf_archive.proofs.Common.{Tree, name_of, parent_of, root, HasFront, HasPath}
use Rattle.adf_archive.specs.Paths.HasFront.{at_root, below}

-- the path of the key is the path before the names in the directory of `top`, and these bytes
pub record EndsPath (t : Tree) (key top : ℕ) (path : List ℕ) : Type 0 where
  pub to : (dir : ℕ) (front : List ℕ) → parent_of t top ≡ Some dir → HasFront t dir front → HasPath t key (front ++ path)
  pub from : (whole : List ℕ) → HasPath t key whole → (dir : ℕ) × (front : List ℕ) × (parent_of t top ≡ Some dir) × HasFront t dir front × (whole ≡ front ++ path)

some_same : {a b : ℕ} → Some a ≡ Some b → a ≡ b
some_same e = cc e

module _ (t : Tree) (key : ℕ) where
  module _ (top above : ℕ) (path : List ℕ) (up : parent_of t top ≡ Some above) (ends : EndsPath t key top path) where
    -- at the root it is the whole path
    pub ends_at_root : above ≡ root t → HasPath t key path
    ends_at_root is = ends.to above [] up (at_root is)

    fits : (front : List ℕ) → (front ++ (name_of t above ++ 47 ∷ [])) ++ path ≡ front ++ (name_of t above ++ 47 ∷ path)
    fits front = append_assoc front (name_of t above ++ 47 ∷ []) path ∙ ap (λ (l : List ℕ). front ++ l) (append_assoc (name_of t above) (47 ∷ []) path)

    Left : List ℕ → Type 0
    Left front = (d : ℕ) × (f : List ℕ) × (parent_of t above ≡ Some d) × HasFront t d f × (front ≡ f ++ (name_of t above ++ 47 ∷ []))

    -- what is before the names in a directory other than the root
    taken : (dir : ℕ) (front : List ℕ) → dir ≡ above → above ≢ root t → HasFront t dir front → Left front
    unfolding Left
    taken dir front same other (at_root is) = absurd (other (sym same ∙ is))
    taken dir front same other (below {above = d} {front = f} p h) =
        (d, f, subst (λ (k : ℕ). parent_of t k ≡ Some d) same p, h, ap (λ (k : ℕ). f ++ (name_of t k ++ 47 ∷ [])) same)

    -- one directory more
    pub ends_more : above ≢ root t → (longer : List ℕ) → longer ≡ name_of t above ++ 47 ∷ path → EndsPath t key above longer
    unfolding Left
    ends_more other longer is = record {
      to = λ dir front p before.
          subst (HasPath t key) (fits front ∙ ap (λ (l : List ℕ). front ++ l) (sym is))
          (ends.to above (front ++ (name_of t above ++ 47 ∷ [])) up (below p before));
      from = λ whole has.
          let old = ends.from whole has in
          let left = taken old.0 old.1 (some_same (sym old.2 ∙ up)) other old.3 in
          (left.0, left.1, left.2, left.3, old.4 ∙ ap (λ (l : List ℕ). l ++ path) left.4 ∙ fits left.1 ∙ ap (λ (l : List ℕ). left.1 ++ l) (sym is));
    }

  module _ (top : ℕ) (path : List ℕ) (ends : EndsPath t key top path) where
    -- the whole path is no shorter
    pub no_shorter : (n : ℕ) → n < length path → (whole : List ℕ) → HasPath t key whole → n < length whole
    no_shorter n long whole has =
        let old = ends.from whole has in
        omega (arith, long, ap length old.4, length-append old.1 path)
