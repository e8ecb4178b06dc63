-- Keys in an order: the same keys, each once.
use Rattle.adf_export.proofs.Common.{◌≡◌, ℕ, ◌⊎◌, inl, inr, Bool, true, false, List, [], ◌∷◌, All, Contains, get_or, refl, sym, ap, ◌∙◌, subst, arith, if◌then◌else◌, fold, Once, Once-head, Once-tail, Once-cons, Contains-here, Contains-later, Contains-cases, Contains-nil, Contains-get_or, entry_node, HasKey, Stands, Tree, entries, ListOrder, comes_before, ordered, sorted, Disk, Name, Size, Date, placed}

module _ (before : ℕ → ℕ → Bool) where
  has_go : (key k x : ℕ) (ks rest : List ℕ) (b : Bool) → (Contains rest x → (key ≡ x) ⊎ Contains ks x) → Contains (if b then key ∷ k ∷ ks else k ∷ rest) x → (key ≡ x) ⊎ Contains (k ∷ ks) x
  has_go key k x ks rest true behind c = Contains-cases key (k ∷ ks) x c
  has_go key k x ks rest false behind c = elim (Contains-cases k rest x c) [
    | inl same ↦ inr (subst (Contains (k ∷ ks)) same (Contains-here k ks))
    | inr later ↦ elim (behind later) [ inl same ↦ inl same | inr m ↦ inr (Contains-later k ks x m) ]
  ]

  -- a key among others is there, and they are
  placed_has : (key : ℕ) (ks : List ℕ) (x : ℕ) → Contains (placed before key ks) x → (key ≡ x) ⊎ Contains ks x
  unfolding placed
  placed_has key [] x m = Contains-cases key [] x m
  placed_has key (k ∷ ks) x m = has_go key k x ks (placed before key ks) (before key k) (placed_has key ks x) m

  once_go : (key k : ℕ) (ks rest : List ℕ) (b : Bool) → ¬ Contains (k ∷ ks) key → Once (k ∷ ks) → ((x : ℕ) → Contains rest x → (key ≡ x) ⊎ Contains ks x) → Once rest
      → Once (if b then key ∷ k ∷ ks else k ∷ rest)
  once_go key k ks rest true absent once has later = Once-cons key (k ∷ ks) absent once
  once_go key k ks rest false absent once has later =
      Once-cons k rest
      (λ c. elim (has k c) [ inl same ↦ absent (subst (Contains (k ∷ ks)) (sym same) (Contains-here k ks)) | inr m ↦ Once-head k ks once m ])
      later

  placed_once : (key : ℕ) (ks : List ℕ) → ¬ Contains ks key → Once ks → Once (placed before key ks)
  unfolding placed
  placed_once key [] absent once = Once-cons key [] absent once
  placed_once key (k ∷ ks) absent once =
      once_go key k ks (placed before key ks) (before key k) absent once (placed_has key ks)
      (placed_once key ks (λ m. absent (Contains-later k ks key m)) (Once-tail k ks once))

  -- keys placed one after the other
  abbrev all_placed : List ℕ → List ℕ → List ℕ
  all_placed done keys = fold (λ ks key. placed before key ks) done keys

  all_has : (done keys : List ℕ) (x : ℕ) → Contains (all_placed done keys) x → Contains done x ⊎ Contains keys x
  all_has done [] x m = inl m
  all_has done (k ∷ ks) x m = elim (all_has (placed before k done) ks x m) [
    | inl c ↦ elim (placed_has k done x c) [ inl same ↦ inr (subst (Contains (k ∷ ks)) same (Contains-here k ks)) | inr d ↦ inl d ]
    | inr later ↦ inr (Contains-later k ks x later)
  ]

  all_once : (done keys : List ℕ) → Once done → Once keys → ((x : ℕ) → Contains done x → ¬ Contains keys x) → Once (all_placed done keys)
  all_once done [] once other apart = once
  all_once done (k ∷ ks) once other apart =
      all_once (placed before k done) ks
      (placed_once k done (λ m. apart k m (Contains-here k ks)) once)
      (Once-tail k ks other)
      (λ x c later. elim (placed_has k done x c) [
        | inl same ↦ Once-head k ks other (subst (Contains ks) (sym same) later)
        | inr d ↦ apart x d (Contains-later k ks x later)
      ])

  pub sorted_has : (keys : List ℕ) (x : ℕ) → Contains (sorted before keys) x → Contains keys x
  unfolding sorted
  sorted_has keys x m = elim (all_has [] keys x m) [ inl none ↦ absurd (Contains-nil x none) | inr c ↦ c ]

  sorted_once : (keys : List ℕ) → Once keys → Once (sorted before keys)
  unfolding sorted
  sorted_once keys once = all_once [] keys (λ i j d h m same. omega (arith, m)) once (λ x none c. Contains-nil x none)

  sorted_none : sorted before [] ≡ []
  unfolding sorted
  sorted_none = refl

-- the keys of a directory in an order are its entries, each once
module _ (t : Tree) where
  by_order : (P : List ℕ → Type 0) (order : ListOrder) (dir : ℕ) → P (entries t dir) → ((before : ℕ → ℕ → Bool) → P (sorted before (entries t dir))) → P (ordered t order dir)
  unfolding ordered
  by_order P Disk dir same other = same
  by_order P Name dir same other = other (comes_before t Name)
  by_order P Size dir same other = other (comes_before t Size)
  by_order P Date dir same other = other (comes_before t Date)

  pub ordered_has : (order : ListOrder) (dir x : ℕ) → Contains (ordered t order dir) x → Contains (entries t dir) x
  ordered_has order dir x = by_order (λ (keys : List ℕ). Contains keys x → Contains (entries t dir) x) order dir (λ m. m) (λ before m. sorted_has before (entries t dir) x m)

  pub ordered_once : (order : ListOrder) (dir : ℕ) → Once (entries t dir) → Once (ordered t order dir)
  ordered_once order dir once = by_order Once order dir once (λ before. sorted_once before (entries t dir) once)

  pub ordered_none : (order : ListOrder) (dir : ℕ) → entries t dir ≡ [] → ordered t order dir ≡ []
  ordered_none order dir none = by_order (λ (keys : List ℕ). keys ≡ []) order dir none (λ before. ap (sorted before) none ∙ sorted_none before)

  -- as in the directory, and sorted
  pub ordered_disk : (order : ListOrder) (dir : ℕ) → order ≡ Disk → ordered t order dir ≡ entries t dir
  unfolding ordered
  ordered_disk order dir is = ap (λ (o : ListOrder). ordered t o dir) is

  pub ordered_other : (order : ListOrder) (dir : ℕ) → ¬ (order ≡ Disk) → ordered t order dir ≡ sorted (comes_before t order) (entries t dir)
  unfolding ordered
  ordered_other Disk dir other = absurd (other refl)
  ordered_other Name dir other = refl
  ordered_other Size dir other = refl
  ordered_other Date dir other = refl

-- the keys of a directory in an order are keys of the tree
pub keys_there : (image : List ℕ) (order : ListOrder) (dir : ℕ) (keys : List ℕ) → ((t : Tree) → Stands image t → keys ≡ ordered t order dir) → All (HasKey image) keys
keys_there image order dir keys are = λ k d inside t s.
    let key = get_or keys k d in
    let m = ordered_has t order dir key (subst (λ (ks : List ℕ). Contains ks key) (are t s) (Contains-get_or keys k d inside)) in
    let n = entry_node t s.proper dir key m in
    rw n.1 refl
