-- Paths that are too long, and that entries below many directories have such paths.
use Rattle.adf_where.proofs.Common.{◌≡◌, ℕ, zero, suc, ◌+◌, ◌<◌, ◌≤◌, Bool, List, [], ◌∷◌, ◌++◌, length, Option, Some, None, refl, sym, ap, subst, arith, if◌then◌else◌, length-append, Tree}
use Rattle.std.proofs.lemmas.Bool.{lt-ltb}
use Rattle.ados_model.specs.Tree.{name_of, parent_of}
unfoldable use Rattle.adf_export.specs.Listing.{front}
use Rattle.adf_export.specs.Listing.{path_of}
use Rattle.adf_text.specs.Letters.{letters}
use Rattle.adf_where.specs.Where.{short_path}
use Rattle.adf_where.specs.declared.short_path.TheConstants.{LONGEST_PATH}

-- ---- a path that is not told

abbrev unless_long : List ℕ → Bool → Option (List ℕ)
unless_long path long = if long then None else Some (letters path)

pub long_path : (path : List ℕ) → LONGEST_PATH < length path → None ≡ short_path path
long_path path l = ap (unless_long path) (sym (lt-ltb LONGEST_PATH (length path) l))

-- ---- many directories

-- so many directories up from one object is another
unfoldable pub Climbs : Tree → ℕ → ℕ → ℕ → Type 0
Climbs t zero key top = key ≡ top
Climbs t (suc n) key top = (above : ℕ) × (parent_of t key ≡ Some above) × Climbs t n above top

pub climbs_none : (t : Tree) (key : ℕ) → Climbs t 0 key key
unfolding Climbs
climbs_none t key = refl

climbs_next : (t : Tree) (n key top above : ℕ) → Climbs t n key top → parent_of t top ≡ Some above → Climbs t (suc n) key above
unfolding Climbs
climbs_next t zero key top above same up = (above, subst (λ (k : ℕ). parent_of t k ≡ Some above) (sym same) up, refl)
climbs_next t (suc n) key top above (next, first, rest) up = (next, first, climbs_next t n next top above rest up)

pub climbs_on : (t : Tree) (n key top above : ℕ) → Climbs t n key top → parent_of t top ≡ Some above → Climbs t (n + 1) key above
climbs_on t n key top above c up =
    let e : suc n ≡ n + 1 = omega arith in
    subst (λ (m : ℕ). Climbs t m key above) e (climbs_next t n key top above c up)

-- the path before the names in a directory has a slash for each directory on the way
long_front : (t : Tree) (depth n dir top : ℕ) → Climbs t n dir top → n ≤ depth → n ≤ length (front t depth dir)
unfolding front Climbs
long_front t depth zero dir top c le = omega arith
long_front t zero (suc n) dir top c le = absurd (omega (arith, le))
long_front t (suc depth) (suc n) dir top (above, up, rest) le =
    let before : n ≤ length (front t depth above) = long_front t depth n above top rest (omega (arith, le)) in
    rw up (omega (arith, before, length-append (front t depth above) (name_of t dir ++ 47 ∷ []), length-append (name_of t dir) (47 ∷ [])))

pub deep_path : (t : Tree) (n key top : ℕ) → Climbs t n key top → n ≤ t.blocks → n ≤ length (path_of t key) + 1
unfolding Climbs
deep_path t zero key top c le = omega arith
deep_path t (suc n) key top (above, up, rest) le =
    let before : n ≤ length (front t t.blocks above) = long_front t t.blocks n above top rest (omega (arith, le)) in
    rw up (omega (arith, before, length-append (front t t.blocks above) (name_of t key)))
