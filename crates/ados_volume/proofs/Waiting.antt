-- The walk over waiting entries visits exactly everything below.
use Rattle.ados_volume.proofs.Common.{AreBelow, Below, List, Option, Some, Tree, [], ap, append_assoc, arith, entries, length, length-append, map, placed, refl, subst, suc, sym, zero, ℕ, ◌++◌, ◌+◌, ◌∙◌, ◌∷◌, ◌≡◌, ◌≤◌}
use Rattle.ados_volume.specs.Below.AreBelow.{none, entry}

-- the entries of an entry at a position
abbrev pub inside : Tree → ℕ → Below → List Below
inside t at e = map (placed (Some at)) (entries t e.key)

-- the entries visited from these waiting ones, from a position on: the first, then those from its contents and the others
pub data Following (t : Tree) : ℕ → List Below → List Below → Type 0 where
  done : {at : ℕ} → Following t at [] []
  next : {at : ℕ} {first : Below} {rest more : List Below} → Following t (suc at) (inside t at first ++ rest) more → Following t at (first ∷ rest) (first ∷ more)

-- the first waiting entry is visited first
first_follows : (t : Tree) (at : ℕ) (first : Below) (rest more : List Below) → Following t at (first ∷ rest) more → (left : List Below) × (more ≡ first ∷ left) × Following t (suc at) (inside t at first ++ rest) left
first_follows t at first rest more (next {more = left} f) = (left, refl, f)

-- the entries visited from those of a directory, before the others
pub record Parted (t : Tree) (above : Option ℕ) (at : ℕ) (keys : List ℕ) (rest more : List Below) : Type 0 where
  pub below : List Below
  pub others : List Below
  pub whole : more ≡ below ++ others
  pub are_below : AreBelow t above at keys below
  pub follow : Following t (length below + at) rest others

pub parted : (t : Tree) (n : ℕ) (above : Option ℕ) (at : ℕ) (keys : List ℕ) (rest more : List Below) → length more ≤ n → Following t at (map (placed above) keys ++ rest) more → Parted t above at keys rest more
parted t n above at [] rest more short f =
    let same : at ≡ 0 + at = omega arith in
    record { below = []; others = more; whole = refl; are_below = none; follow = subst (λ (k : ℕ). Following t k rest more) same f }
parted t zero above at (key ∷ keys) rest more short f =
    let first = first_follows t at (placed above key) (map (placed above) keys ++ rest) more f in
    absurd (omega (arith, short, ap length first.1))
parted t (suc n) above at (key ∷ keys) rest more short f =
    let head = placed above key in
    let first = first_follows t at head (map (placed above) keys ++ rest) more f in
    let in_it = parted t n (Some at) (suc at) (entries t key) (map (placed above) keys ++ rest) first.0 (omega (arith, short, ap length first.1)) first.2 in
    let after = parted t n above (length in_it.below + suc at) keys rest in_it.others (omega (arith, short, ap length first.1, ap length in_it.whole, length-append in_it.below in_it.others)) in_it.follow in
    let place : length after.below + (length in_it.below + suc at) ≡ length (head ∷ (in_it.below ++ after.below)) + at = omega (arith, length-append in_it.below after.below) in
    record {
      below = head ∷ (in_it.below ++ after.below);
      others = after.others;
      whole = first.1 ∙ ap (λ (xs : List Below). head ∷ xs) (in_it.whole ∙ ap (λ (xs : List Below). in_it.below ++ xs) after.whole ∙ sym (append_assoc in_it.below after.below after.others));
      are_below = entry in_it.are_below after.are_below;
      follow = subst (λ (k : ℕ). Following t k rest after.others) place after.follow;
    }
