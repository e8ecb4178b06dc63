-- How much of a deleted file can be recovered, by its blocks and the headers that name them.
use Rattle.ados_salvage.proofs.KnownCommon.{◌≡◌, ◌≢◌, ℕ, zero, suc, ◌+◌, ◌-◌, ◌/◌, ◌%◌, ◌<◌, ◌≤◌, ◌⊎◌, inl, inr, Bool, true, false, cond, MatchBool, count_by, List, [], length, get_or, slice_index, min, All, refl, sym, ap, ◌∙◌, subst, arith, cases_lt, InImage, HasFileType, is_several, cases_eq, get_or_default, get_or_past, block_count, has_free_bit, HasFreeBit, pointer_count, pointer_block, data_block, in_extensions, Claim, Free, One, Several, AreAllFree, AreNoneShared, HasClaim, HasCount, HasHolders, HeaderNames, FilePointsTo, IsHolderOf, IsNextExtension, IsShared, IsSoundHeader, IsUsed, IsClaimant, IsIntact, Names, own_blocks, data_needed, extensions_needed, AreAllClaims, IsClaim, claim_at}
use Rattle.std.proofs.lemmas.List.Sums.{get_or-le-sum_by}
use Rattle.ados_salvage.proofs.Claiming.{alone_claims}
use Rattle.ados_salvage.proofs.Leaving.{none_contained}
use Rattle.ados_salvage.proofs.FileBlocks.{own_inside}
use Rattle.ados_salvage.proofs.SoundParts.{data-at, header-is, lawful_data_blocks, lawful_holders, length-own, own-data, own-header}
use Rattle.ados_salvage.specs.Holders.HasExtensionBlock.{first, further}

-- where none is counted, none passes
none_counted : (p : ℕ → Bool) (xs : List ℕ) → count_by p xs ≡ 0 → (k d : ℕ) → k < length xs → p (get_or xs k d) ≡ false
none_counted p xs none k d l = go (p (get_or xs k d)) refl
  where
    go : (b : Bool) → p (get_or xs k d) ≡ b → p (get_or xs k d) ≡ false
    go false e = e
    go true e = absurd (omega (arith, none, get_or-le-sum_by (λ x. cond (p x) 1 0) xs k d l, ap {B = ℕ} (λ (b : Bool). cond b 1 0) e))

free_by : (image : List ℕ) (block : ℕ) → InImage image block → ¬ IsUsed image block → (free : Bool) → has_free_bit image block ≡ free → HasFreeBit image block
free_by image block inside unused true e = e
free_by image block inside unused false e = absurd (unused (inside, λ h. absurd (cc (h, e))))

-- where nothing is left out, each sound file claims its blocks
claimant_of : (image : List ℕ) (file : ℕ) → IsIntact image file → IsClaimant [] image file
claimant_of image file i = record { intact = i; told = none_contained file }

-- all blocks of a sound file are inside the volume, so those that are not used are free
pub all_free : (image : List ℕ) (file : ℕ) → IsIntact image file → (xs : List ℕ) → xs ≡ own_blocks image file → All (λ block. ¬ IsUsed image block) xs → AreAllFree image file
all_free image file i xs e unused = λ k d l.
    let inside : InImage image (get_or (own_blocks image file) k d) =
    subst (InImage image) (get_or_default (own_blocks image file) k 0 d l) (own_inside image file (lawful_holders image file i.lawful) (lawful_data_blocks image file i.lawful) k l) in
    let none = subst (All (λ block. ¬ IsUsed image block)) e unused in
    free_by image (get_or (own_blocks image file) k d) inside (none k d l) (has_free_bit image (get_or (own_blocks image file) k d)) refl

-- a file whose blocks are known points to each of them but its header
module _ (image : List ℕ) (file : ℕ) (is_file : HasFileType image file) (h : HasHolders image file) where
  reached : (q : ℕ) → q ≤ extensions_needed image file → IsHolderOf image file (pointer_block image file q)
  reached zero l = inl refl
  reached (suc q) l = inr (elim (reached q (omega (arith, l))) [
    | inl e ↦ first (h.holder 0 (omega arith)).inside (subst (λ (b : ℕ). IsNextExtension image file b (pointer_block image file (suc q))) e next)
    | inr before ↦ further before next
  ])
    where
      next : IsNextExtension image file (pointer_block image file q) (pointer_block image file (suc q))
      next =
          let sound = h.holder (suc q) l in
          let fields = sound.fields (omega arith) in
          record { named = refl; inside = sound.inside; looks = record { primary = fields.primary; secondary = fields.secondary; of_file = fields.parent; key_field = fields.key_field } }

  holder_named : (q : ℕ) → q ≤ extensions_needed image file → (pointer_block image file q ≡ file) ⊎ FilePointsTo image file (pointer_block image file q)
  holder_named zero l = inl refl
  holder_named (suc q) l = inr (record { is_file = is_file; holder = pointer_block image file q; of_file = reached q (omega (arith, l)); points = inr refl })

  data_named : (i : ℕ) → i < data_needed image file → FilePointsTo image file (data_block image file i)
  data_named i l =
      let within = in_extensions i (data_needed image file) l in
      let used : i % 72 < min 72 (pointer_count image (pointer_block image file (i / 72))) = omega (arith, (h.holder (i / 72) within).counted, l) in
      record { is_file = is_file; holder = pointer_block image file (i / 72); of_file = reached (i / 72) within; points = inl (i % 72, used, refl) }

  named_at : (k : ℕ) → k < length (own_blocks image file) → (slice_index (own_blocks image file) k ≡ file) ⊎ FilePointsTo image file (slice_index (own_blocks image file) k)
  named_at k l = elim (cases_lt k (suc (extensions_needed image file))) [
    | inl a ↦
        (let is : slice_index (own_blocks image file) k ≡ pointer_block image file k = own-header image file k (omega (arith, a)) ∙ header-is image file k (omega (arith, a)) in
        subst (λ (b : ℕ). (b ≡ file) ⊎ FilePointsTo image file b) (sym is) (holder_named k (omega (arith, a))))
    | inr a ↦
        (let place : suc (extensions_needed image file) + (k - suc (extensions_needed image file)) ≡ k = omega (arith, a) in
        let below : k - suc (extensions_needed image file) < data_needed image file = omega (arith, a, l, length-own image file) in
        let is : slice_index (own_blocks image file) k ≡ data_block image file (k - suc (extensions_needed image file)) =
        ap (slice_index (own_blocks image file)) (sym place) ∙ own-data image file (k - suc (extensions_needed image file)) ∙ data-at image file (k - suc (extensions_needed image file)) below in
        inr (subst (FilePointsTo image file) (sym is) (data_named (k - suc (extensions_needed image file)) below)))
  ]

  pub names_own : IsSoundHeader image file → (block : ℕ) → Names image file block → InImage image block → HeaderNames image file block
  names_own sound block m inside =
      let is : slice_index (own_blocks image file) m.0 ≡ block = get_or_default (own_blocks image file) m.0 0 block m.1 ∙ m.2 in
      record { sound = sound; inside = inside; names = subst (λ (b : ℕ). (b ≡ file) ⊎ FilePointsTo image file b) is (named_at m.0 m.1) }

-- a sound file names its blocks
intact_names : (image : List ℕ) (file block : ℕ) → IsIntact image file → Names image file block → InImage image block → HeaderNames image file block
intact_names image file block i = names_own image file i.is_file (lawful_holders image file i.lawful) i.header block

module _ (image : List ℕ) (file : ℕ) (sound : IsSoundHeader image file) (is_file : HasFileType image file) (h : HasHolders image file) (named : List Claim) (right : AreAllClaims (HeaderNames image) (block_count image) named) where
  -- the headers that name a block of the file say whether another one does
  shared_by : (block : ℕ) → (InImage image block → HeaderNames image file block) → (c : Claim) → IsClaim (HeaderNames image) (block_count image) block c → MatchBool (is_several c) (IsShared image file block) (¬ IsShared image file block)
  shared_by block own Free told = λ s. told s.0 s.2.sound.inside.1 s.2
  shared_by block own (One one) told = λ s. s.1 (told.2 s.0 s.2.sound.inside.1 s.2 ∙ sym (told.2 file sound.inside.1 (own s.2.inside)))
  shared_by block own Several told = elim (cases_eq told.0 file) [
    | inl e ↦ (told.1, λ z. told.2 (e ∙ sym z), told.4)
    | inr n ↦ (told.0, n, told.3)
  ]

  shared_at : (block : ℕ) → Names image file block → MatchBool (is_several (claim_at named block)) (IsShared image file block) (¬ IsShared image file block)
  shared_at block m = elim (cases_lt block (block_count image)) [
    | inl within ↦ shared_by block (names_own image file is_file h sound block m) (claim_at named block) (right.right block within)
    | inr past ↦
        (let none : claim_at named block ≡ Free = get_or_past named block Free (omega (arith, past, right.size)) in
        subst (λ (c : Claim). MatchBool (is_several c) (IsShared image file block) (¬ IsShared image file block)) (sym none) (λ s. omega (arith, s.2.inside.1, past)))
  ]

  pub counts_shared : (xs : List ℕ) (count : ℕ) → xs ≡ own_blocks image file → count ≡ count_by (λ block. is_several (claim_at named block)) xs → HasCount (IsShared image file) (own_blocks image file) count
  counts_shared xs count e is = record {
    marks = λ block. is_several (claim_at named block);
    decided = shared_at;
    counted = is ∙ ap (count_by (λ block. is_several (claim_at named block))) e;
  }

  pub none_shared : (xs : List ℕ) → xs ≡ own_blocks image file → count_by (λ block. is_several (claim_at named block)) xs ≡ 0 → AreNoneShared image file
  none_shared xs e none k d l =
      let one : is_several (claim_at named (get_or (own_blocks image file) k d)) ≡ false =
      none_counted (λ b. is_several (claim_at named b)) (own_blocks image file) (ap (count_by (λ b. is_several (claim_at named b))) (sym e) ∙ none) k d l in
      subst (λ (several : Bool). MatchBool several (IsShared image file (get_or (own_blocks image file) k d)) (¬ IsShared image file (get_or (own_blocks image file) k d))) one
      (shared_at (get_or (own_blocks image file) k d) (k, l, get_or_default (own_blocks image file) k (get_or (own_blocks image file) k d) d l))

-- a file of which no other header names a block is sound exactly if it alone claims its header
module _ (image : List ℕ) (file : ℕ) (inside : InImage image file) (claims : List Claim) (right : AreAllClaims (HasClaim [] image) (block_count image) claims) where
  pub intact_by : claim_at claims file ≡ One file → IsIntact image file
  intact_by alone = (alone_claims [] image claims file right.right inside.1 alone).intact

  pub not_intact_by : AreNoneShared image file → ¬ (claim_at claims file ≡ One file) → ¬ IsIntact image file
  not_intact_by none other i = go (claim_at claims file) refl (right.right file inside.1)
    where
      here : Names image file file
      here = (0, omega arith, refl)

      mine : HasClaim [] image file file
      mine = (claimant_of image file i, here)

      shared : (one : ℕ) → one ≢ file → HasClaim [] image one file → ⊥
      shared one two has = none 0 0 (omega arith) (one, two, intact_names image one file has.0.intact has.1 inside)

      go : (c : Claim) → claim_at claims file ≡ c → IsClaim (HasClaim [] image) (block_count image) file c → ⊥
      go Free e told = told file inside.1 mine
      go (One one) e told = other (e ∙ ap One (sym (told.2 file inside.1 mine)))
      go Several e told = elim (cases_eq told.0 file) [
        | inl same ↦ shared told.1 (λ z. told.2 (same ∙ sym z)) told.4
        | inr two ↦ shared told.0 two told.3
      ]
