-- The claims of the blocks, in terms of the sound files.
use Rattle.ados_salvage.proofs.KnownCommon.{◌≡◌, ◌≢◌, ne_eqb, ℕ, ◌+◌, ◌<◌, ◌==◌, inl, inr, Bool, true, false, MatchBool, All, List, [], ◌∷◌, ◌++◌, length, take, drop, get_or, Contains, refl, sym, ap, ◌∙◌, subst, arith, cases_lt, cases_eq, ◌↔◌, eq-eqb, drop_of_length-le, append-nil, get_or_default, Contains-append_cases, Contains-append_left, Contains-append_right, block_count, Claim, Free, One, Several, HasClaim, IsClaimant, IsHole, IsIntact, IsWhole, Names, own_blocks, AreClaims, IsClaim, IsNoted, claim_at, with_claim}
use Rattle.std.proofs.Math.Seq.{take-length}
use Rattle.ados_salvage.proofs.SoundParts.{lawful_holders, lawful_data_blocks}
use Rattle.ados_salvage.proofs.Leaving.{only_one}
use Rattle.ados_salvage.proofs.FileBlocks.{own_inside}

module _ (Has : ℕ → ℕ → Type 0) (n block : ℕ) where
  -- one more header has the block
  claim_more : (c : Claim) → IsClaim Has n block c → Has n block → IsClaim Has (n + 1) block (with_claim n c)
  claim_more Free h has = (
    omega arith,
    has,
    λ header l m. elim (cases_lt header n) [
      | inl below ↦ absurd (h header below m)
      | inr above ↦ omega (arith, l, above)
    ],
  )
  claim_more (One one) h has =
      let two : one ≢ n = λ z. omega (arith, z, h.0) in
      rw (ne_eqb one n two) (one, n, two, h.1, has)
  claim_more Several h has = h

  -- the next header does not have it
  claim_same : (c : Claim) → IsClaim Has n block c → ¬ Has n block → IsClaim Has (n + 1) block c
  claim_same Free h none = λ header l m. elim (cases_lt header n) [
    | inl below ↦ h header below m
    | inr above ↦ (let here : header ≡ n = omega (arith, l, above) in none (subst (λ (k : ℕ). Has k block) here m))
  ]
  claim_same (One one) h none = (
    omega (arith, h.0),
    h.1,
    λ header l m. elim (cases_lt header n) [
      | inl below ↦ h.2 header below m
      | inr above ↦ (let here : header ≡ n = omega (arith, l, above) in absurd (none (subst (λ (k : ℕ). Has k block) here m)))
    ],
  )
  claim_same Several h none = h

-- noting a file twice is noting it once
with_twice : (file : ℕ) (c : Claim) → with_claim file (with_claim file c) ≡ with_claim file c
with_twice file Free = rw (eq-eqb file file refl) refl
with_twice file (One other) = elim (cases_eq other file) [
  | inl e ↦ (let same : (other == file) ≡ true = eq-eqb other file e in rw same (rw (eq-eqb file file refl) refl))
  | inr e ↦ rw (ne_eqb other file e) refl
]
with_twice file Several = refl

pub noted_more : (file x block : ℕ) (xs : List ℕ) (old new new' : List Claim) → IsNoted file xs old new block → (block ≡ x → claim_at new' block ≡ with_claim file (claim_at new block))
    → (block ≢ x → claim_at new' block ≡ claim_at new block) → IsNoted file (xs ++ x ∷ []) old new' block
noted_more file x block xs old new new' h here there = elim (cases_eq block x) [
  | inl e ↦
      (let last : Contains (xs ++ x ∷ []) block = Contains-append_right xs (x ∷ []) block (0, omega arith, sym e) in
      elim h [
        | inl a ↦ inl (last, here e ∙ ap (with_claim file) a.1 ∙ with_twice file (claim_at old block))
        | inr a ↦ inl (last, here e ∙ ap (with_claim file) a.1)
      ])
  | inr e ↦ elim h [
    | inl a ↦ inl (Contains-append_left xs (x ∷ []) block a.0, there e ∙ a.1)
    | inr a ↦ inr (
      λ m. elim (Contains-append_cases xs (x ∷ []) block m) [
        | inl b ↦ a.0 b
        | inr b ↦ e (only_one x block b)
      ],
      there e ∙ a.1,
    )
  ]
]

module _ (Has : ℕ → ℕ → Type 0) (count n : ℕ) (old : List Claim) (h : AreClaims Has count n old) where
  -- the claims are right for one more header, which has exactly the blocks of a list
  pub claims_more : (blocks : List ℕ) (new : List Claim) → ((block : ℕ) → block < count → Contains blocks block ↔ Has n block) → ((block : ℕ) → block < count → IsNoted n blocks old new block)
      → AreClaims Has count (n + 1) new
  claims_more blocks new named noted block l = elim (noted block l) [
    | inl a ↦ subst (IsClaim Has (n + 1) block) (sym a.1) (claim_more Has n block (claim_at old block) (h block l) ((named block l).0 a.0))
    | inr a ↦ subst (IsClaim Has (n + 1) block) (sym a.1) (claim_same Has n block (claim_at old block) (h block l) (λ has. a.0 ((named block l).1 has)))
  ]

  -- or for one that has none
  pub claims_same : ((block : ℕ) → ¬ Has n block) → AreClaims Has count (n + 1) old
  claims_same none block l = claim_same Has n block (claim_at old block) (h block l) (none block)

-- the blocks of a sound file are inside the image
pub own_within : (image : List ℕ) (file : ℕ) → IsIntact image file → (block : ℕ) → Names image file block → block < block_count image
own_within image file i block m =
    let here = own_inside image file (lawful_holders image file i.lawful) (lawful_data_blocks image file i.lawful) m.0 m.1 in
    omega (arith, here.1, get_or_default (own_blocks image file) m.0 0 block m.1, m.2)

module _ (out image : List ℕ) (claims : List Claim) (h : AreClaims (HasClaim out image) (block_count image) (block_count image) claims) (file : ℕ) (i : IsClaimant out image file) where
  -- a sound file is whole if only it names its blocks, and none is a hole
  pub is_whole : (holes : List Bool) → All (λ (block : ℕ). ¬ IsHole holes block) (own_blocks image file) → All (λ (block : ℕ). claim_at claims block ≡ One file) (own_blocks image file) → IsWhole out holes image file
  is_whole holes there all = record {
    claimant = i;
    there = λ block m. subst (λ (b : ℕ). ¬ IsHole holes b) m.2 (there m.0 block m.1);
    alone = λ other block j m k.
        let noted : claim_at claims block ≡ One file =
        ap (claim_at claims) (sym m.2) ∙ all m.0 block m.1 in
        let told : IsClaim (HasClaim out image) (block_count image) block (One file) = subst (IsClaim (HasClaim out image) (block_count image) block) noted (h block (own_within image file i.intact block m)) in
        told.2 other j.intact.header.inside.1 (j, k);
  }

  -- each block of a whole file has its claim
  pub whole_noted : (holes : List Bool) → IsWhole out holes image file → All (λ (block : ℕ). claim_at claims block ≡ One file) (own_blocks image file)
  whole_noted holes w = λ k d l.
      let block = get_or (own_blocks image file) k d in
      let named : Names image file (get_or (own_blocks image file) k d) = (k, l, get_or_default (own_blocks image file) k (get_or (own_blocks image file) k d) d l) in
      go (get_or (own_blocks image file) k d) (claim_at claims (get_or (own_blocks image file) k d)) named (h (get_or (own_blocks image file) k d) (own_within image file i.intact (get_or (own_blocks image file) k d) named))
    where
      go : (block : ℕ) (c : Claim) → Names image file block → IsClaim (HasClaim out image) (block_count image) block c → c ≡ One file
      go block Free m told = absurd (told file i.intact.header.inside.1 (i, m))
      go block (One one) m told = ap One (w.alone one block told.1.0 m told.1.1)
      go block Several m told =
          absurd (told.2 (w.alone told.0 block told.3.0 m told.3.1 ∙ sym (w.alone told.1 block told.4.0 m told.4.1)))

-- a file that alone claims its header claims its blocks
pub alone_claims : (out image : List ℕ) (claims : List Claim) (file : ℕ) → AreClaims (HasClaim out image) (block_count image) (block_count image) claims → file < block_count image → claim_at claims file ≡ One file → IsClaimant out image file
alone_claims out image claims file h l alone = (subst (IsClaim (HasClaim out image) (block_count image) file) alone (h file l)).1.0

-- and a whole file alone claims its header
pub claimed_whole : (out : List ℕ) (holes : List Bool) (image : List ℕ) (claims : List Claim) (file : ℕ) → AreClaims (HasClaim out image) (block_count image) (block_count image) claims → IsWhole out holes image file → claim_at claims file ≡ One file
claimed_whole out holes image claims file h w = whole_noted out image claims h file w.claimant holes w 0 0 (omega arith)

-- no block of a whole file is a hole
pub whole_there : (out : List ℕ) (holes : List Bool) (image : List ℕ) (file : ℕ) (xs : List ℕ) → xs ≡ own_blocks image file → IsWhole out holes image file → All (λ (block : ℕ). ¬ IsHole holes block) xs
whole_there out holes image file xs e w = subst (All (λ (block : ℕ). ¬ IsHole holes block)) (sym e)
    (λ k d l. w.there (get_or (own_blocks image file) k d) (k, l, get_or_default (own_blocks image file) k (get_or (own_blocks image file) k d) d l))

-- the blocks of a sound file are indices of a list with an element for each block
pub all_within : (image : List ℕ) (file : ℕ) → IsIntact image file → (xs : List ℕ) (n : ℕ) → xs ≡ own_blocks image file → n ≡ block_count image → All (λ (block : ℕ). block < n) xs
all_within image file i xs n e size = subst (λ (ys : List ℕ). All (λ (block : ℕ). block < n) ys) (sym e)
    (λ k d l. omega (arith, size, own_within image file i (get_or (own_blocks image file) k d) (k, l, get_or_default (own_blocks image file) k (get_or (own_blocks image file) k d) d l)))

-- where none of its blocks is a hole, their claims decide whether a sound file is whole
pub whole_decided : (out : List ℕ) (holes : List Bool) (image : List ℕ) (claims : List Claim) (file : ℕ) (xs : List ℕ) (answer : Bool) → AreClaims (HasClaim out image) (block_count image) (block_count image) claims → IsClaimant out image file → xs ≡ own_blocks image file
    → All (λ (block : ℕ). ¬ IsHole holes block) xs
    → MatchBool answer (All (λ (block : ℕ). claim_at claims block ≡ One file) xs) (¬ All (λ (block : ℕ). claim_at claims block ≡ One file) xs) → MatchBool answer (IsWhole out holes image file) (¬ IsWhole out holes image file)
whole_decided out holes image claims file xs true h i e there all = is_whole out image claims h file i holes (subst (All (λ (block : ℕ). ¬ IsHole holes block)) e there)
    (subst (λ (ys : List ℕ). All (λ (block : ℕ). claim_at claims block ≡ One file) ys) e all)
whole_decided out holes image claims file xs false h i e there none = λ w.
    none (subst (λ (ys : List ℕ). All (λ (block : ℕ). claim_at claims block ≡ One file) ys) (sym e) (whole_noted out image claims h file i holes w))

-- a list overwritten by one of the same length
pub refilled : {X : Type 0} (new old : List X) (len : ℕ) → length new ≡ length old → len ≡ length old → take len (new ++ drop (length new) old) ≡ new
refilled new old len room count =
    let none : drop (length new) old ≡ [] = drop_of_length-le old (omega (arith, room)) in
    let whole : len ≡ length new = count ∙ sym room in
    ap (λ xs. take len (new ++ xs)) none ∙ ap (λ xs. take len xs) (append-nil new) ∙ ap (λ (m : ℕ). take m new) whole ∙ take-length new
