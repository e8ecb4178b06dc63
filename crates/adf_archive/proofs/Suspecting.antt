-- The suspect blocks of an image, in the order of the blocks.
use Rattle.std.proofs.Common.{◌≡◌, ◌↔◌, ℕ, ◌+◌, ◌<◌, ◌≤◌, ◌⊎◌, inl, inr, Bool, true, false, IsTrue, MatchBool, List, [], ◌∷◌, ◌++◌, length, slice_get, All, AllPairs, Contains, Some, IfSome, IsSome, is_some, refl, sym, ap, ◌∙◌, subst, arith}
use Rattle.adf_archive.proofs.Common.{cases_lt, get_or_past, map-append, All-push, Contains-append_left, Contains-push, Content, Tree, content_at, Duty, Stands, HasKey, content_in, Owns, Owner, Boot, Root, Page, Directory, File, Data, Extension, Lost, Free, Suspect, AreSuspects, IsDoubted, IsSuspect, IsSuspectAt, TellsSuspect, blocks_of, entry_of}
use Rattle.std.proofs.lemmas.List.Quantifiers.{all_pairs_push}
use Rattle.ados_change.proofs.Writable.{data_is}
use Rattle.adf_cli.specs.BadBlocks.{IsMarked}

-- these are the suspect blocks before block `n`
pub record AreSuspectsBelow (filler : Bool) (marks : List Bool) (image : List ℕ) (t : Tree) (n : ℕ) (suspects : List Suspect) : Type 0 where
  pub told : All (TellsSuspect filler marks image t) suspects
  pub every : (block : ℕ) (owner : Owner) → block < n → IsSuspect filler marks image t block owner → Contains (blocks_of suspects) block
  pub within : All (λ block. block < n) (blocks_of suspects)
  pub rising : AllPairs (λ a b. a < b) (blocks_of suspects)

pushed : (suspects : List Suspect) (suspect : Suspect) (block : ℕ) → suspect.block ≡ block → blocks_of (suspects ++ suspect ∷ []) ≡ blocks_of suspects ++ block ∷ []
pushed suspects suspect block at = map-append (λ (s : Suspect). s.block) suspects (suspect ∷ []) ∙ ap (λ (b : ℕ). blocks_of suspects ++ b ∷ []) at

wider : (n : ℕ) (blocks : List ℕ) → All (λ block. block < n) blocks → All (λ block. block < n + 1) blocks
wider n blocks all = λ i d l. omega (arith, all i d l)

-- an entry with a content is a node
node_at : (t : Tree) (entry : ℕ) (content : Content) → content_at t entry ≡ Some content → IsSome (t.nodes entry)
node_at t entry content at = ap is_some (content_in (t.nodes entry) content at).1

-- the entry that a block belongs to is one of the volume
pub entry_key : (image : List ℕ) (block : ℕ) (owner : Owner) → ((t : Tree) → Stands image t → Owns image t block owner) → IfSome (entry_of block owner) (HasKey image)
entry_key image block Boot owns = tt
entry_key image block Root owns = tt
entry_key image block (Page i) owns = tt
entry_key image block Directory owns = λ t s. node_at t block (Content.Directory (owns t s).1.0) (owns t s).1.1
entry_key image block File owns = λ t s. node_at t block (Content.File (owns t s).0) (owns t s).1
entry_key image block (Data file k) owns = λ t s. node_at t file (Content.File (owns t s).0.0) (owns t s).0.1
entry_key image block (Extension file k) owns = λ t s. node_at t file (Content.File (owns t s).0.0) (owns t s).0.1
entry_key image block Lost owns = tt
entry_key image block Free owns = tt

-- whether a block has a mark
pub mark_decides : (answer mark : Bool) → answer ≡ mark → MatchBool answer (mark ≡ true) (¬ (mark ≡ true))
mark_decides true mark is = sym is
mark_decides false mark is = λ marked. absurd (cc (is, marked))

-- whether a data block has a mark or holds a filler
pub filler_decides : (answer : Bool) (A B : Type 0) → ¬ A → MatchBool answer B (¬ B) → MatchBool answer (A ⊎ B) (¬ (A ⊎ B))
filler_decides true A B none decided = inr decided
filler_decides false A B none decided = λ either. elim either [
  | inl a ↦ none a
  | inr b ↦ decided b
]

-- whether it holds a filler that is asked for
pub asked_decides : (answer filler : Bool) (A : Type 0) → filler ≡ true → (IsTrue answer ↔ A) → MatchBool answer ((filler ≡ true) × A) (¬ ((filler ≡ true) × A))
asked_decides true filler A asked same = (asked, same.0 refl)
asked_decides false filler A asked same = λ holds. absurd (cc (same.1 holds.1))

module _ (filler : Bool) (marks : List Bool) (image : List ℕ) (t : Tree) where
  module _ (n : ℕ) (owner : Owner) (alone : (other : Owner) → Owns image t n other → other ≡ owner) (suspects : List Suspect) (old : AreSuspectsBelow filler marks image t n suspects) where
    -- block `n` is not suspect
    pub suspects_same : ¬ IsDoubted filler marks image n owner → AreSuspectsBelow filler marks image t (n + 1) suspects
    suspects_same none = record {
      told = old.told;
      every = λ block other l is. go block other l is (cases_lt block n);
      within = wider n (blocks_of suspects) old.within;
      rising = old.rising;
    }
      where
        go : (block : ℕ) (other : Owner) → block < n + 1 → IsSuspect filler marks image t block other → (block < n) ⊎ (n ≤ block) → Contains (blocks_of suspects) block
        go block other l is (inl before) = old.every block other before is
        go block other l is (inr here) =
            let same : block ≡ n = omega (arith, l, here) in
            let at : IsSuspect filler marks image t n other = subst (λ (b : ℕ). IsSuspect filler marks image t b other) same is in
            absurd (none (subst (IsDoubted filler marks image n) (alone other at.owned) at.doubted))

    -- block `n` is suspect
    pub suspects_more : (suspect : Suspect) → IsSuspectAt filler marks image t n suspect → AreSuspectsBelow filler marks image t (n + 1) (suspects ++ suspect ∷ [])
    suspects_more suspect is = record {
      told = All-push (TellsSuspect filler marks image t) suspects suspect old.told is.told;
      every = λ block other l one. subst (λ (bs : List ℕ). Contains bs block) (sym blocks) (go block other l one (cases_lt block n));
      within = subst (All (λ block. block < n + 1)) (sym blocks) (All-push (λ block. block < n + 1) (blocks_of suspects) n (wider n (blocks_of suspects) old.within) (omega arith));
      rising = subst (AllPairs (λ a b. a < b)) (sym blocks) (all_pairs_push (λ a b. a < b) (blocks_of suspects) n old.rising (λ k d l. old.within k d l));
    }
      where
        blocks : blocks_of (suspects ++ suspect ∷ []) ≡ blocks_of suspects ++ n ∷ []
        blocks = pushed suspects suspect n is.at

        go : (block : ℕ) (other : Owner) → block < n + 1 → IsSuspect filler marks image t block other → (block < n) ⊎ (n ≤ block) → Contains (blocks_of suspects ++ n ∷ []) block
        go block other l one (inl before) = Contains-append_left (blocks_of suspects) (n ∷ []) block (old.every block other before one)
        go block other l one (inr here) =
            let same : n ≡ block = omega (arith, l, here) in
            subst (λ (b : ℕ). Contains (blocks_of suspects ++ n ∷ []) b) same (Contains-push (blocks_of suspects) n)

  -- a marked block is one of the volume
  marked_inside : length marks ≤ t.blocks → (block : ℕ) → IsMarked marks block → block < t.blocks
  marked_inside few block marked = elim (cases_lt block (length marks)) [
    | inl here ↦ omega (arith, here, few)
    | inr past ↦ absurd (cc (get_or_past marks block false past, marked))
  ]

  -- so is a data block of a file
  data_inside : (s : Stands image t) (block file place : ℕ) → Owns image t block (Data file place) → block < t.blocks
  data_inside s block file place owned =
      let bytes = owned.0.0 in
      let n = content_in (t.nodes file) (Content.File bytes) owned.0.1 in
      let held : slice_get (s.layout.file_data file) place ≡ Some block =
      subst (λ (xs : List ℕ). slice_get xs place ≡ Some block) (data_is image t s file n.0 bytes n.1 n.2) owned.1 in
      (s.fits.inside block (Duty.Data file place) held).1

  -- a suspect block is one of the volume
  pub inside : (s : Stands image t) → length marks ≤ t.blocks → (block : ℕ) (owner : Owner) → IsSuspect filler marks image t block owner → block < t.blocks
  inside s few block Boot is = marked_inside few block is.doubted
  inside s few block Root is = marked_inside few block is.doubted
  inside s few block (Page i) is = marked_inside few block is.doubted
  inside s few block Directory is = marked_inside few block is.doubted
  inside s few block File is = marked_inside few block is.doubted
  inside s few block (Data file place) is = data_inside s block file place is.owned
  inside s few block (Extension file k) is = marked_inside few block is.doubted
  inside s few block Lost is = marked_inside few block is.doubted
  inside s few block Free is = absurd is.doubted

  -- all blocks were looked at
  pub suspects_all : (n : ℕ) (suspects : List Suspect) → ((block : ℕ) (owner : Owner) → IsSuspect filler marks image t block owner → block < n) → AreSuspectsBelow filler marks image t n suspects → AreSuspects filler marks image t suspects
  suspects_all n suspects inside old = record {
    told = old.told;
    every = λ block owner is. old.every block owner (inside block owner is) is;
    rising = old.rising;
  }
