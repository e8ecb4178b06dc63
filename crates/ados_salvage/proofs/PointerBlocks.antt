-- The pointer blocks of a file while they are followed, one after the other.
use Rattle.ados_salvage.proofs.KnownCommon.{◌≡◌, ℕ, ◌+◌, ◌<◌, ◌⊎◌, ◌↔◌, inl, inr, true, Bool, List, [], ◌∷◌, ◌++◌, length, length-set, set, Contains, Contains-append_left, Contains-push, Contains-push_cases, refl, sym, ap, ◌∙◌, subst, arith, block_count, long, parent_key, NEXT_EXTENSION, InImage, HasFileType, AreMarkedAfter, ArePassed, HasExtensionBlock, IsHolderOf, IsNewAfter, IsNextExtension}
use Rattle.ados_census.proofs.Marking.{marked_before}
use Rattle.ados_census.specs.steps.Marks.{IsMarked}
use Rattle.ados_salvage.proofs.Leaving.{only_one}
use Rattle.ados_salvage.specs.Holders.HasExtensionBlock.{first, further}

-- the extension block after this one, if there is one, is listed
abbrev pub AreListedAfter : List ℕ → ℕ → List ℕ → ℕ → Type 0
AreListedAfter image file holders block = (next : ℕ) → IsNextExtension image file block next → Contains holders next

-- these pointer blocks were followed up to this one: after each other one the next is listed
pub record Follows (image : List ℕ) (file : ℕ) (passed : List Bool) (holders : List ℕ) (holder : ℕ) : Type 0 where
  pub size : length passed ≡ block_count image
  pub inside : holder < block_count image
  pub before : (block : ℕ) → IsMarked passed block → (parent_key image block < file) ⊎ ((parent_key image block ≡ file) × Contains holders block)
  pub each : (block : ℕ) → Contains holders block → IsHolderOf image file block
  pub header : Contains holders file
  pub here : Contains holders holder
  pub closed : (block : ℕ) → Contains holders block → (block ≡ holder) ⊎ AreListedAfter image file holders block

-- the header alone
pub follows_header : (image : List ℕ) (file : ℕ) (passed : List Bool) (holders : List ℕ) → InImage image file → ArePassed image file passed → holders ≡ file ∷ [] → Follows image file passed holders file
follows_header image file passed holders inside p e = subst (λ (xs : List ℕ). Follows image file passed xs file) (sym e) (record {
  size = p.size;
  inside = inside.1;
  before = λ block is. inl (p.before block is);
  each = λ block m. inl (only_one file block m);
  header = (0, omega arith, refl);
  here = (0, omega arith, refl);
  closed = λ block m. inl (only_one file block m);
})

module _ (image : List ℕ) (file : ℕ) (passed : List Bool) (holders : List ℕ) (holder : ℕ) (f : Follows image file passed holders holder) where
  -- one more extension block
  module _ (inside : InImage image file) (next : ℕ) (new : IsNewAfter image passed file holder next) where
    within : next < length passed
    within = omega (arith, new.next.inside.1, f.size)

    found : HasExtensionBlock image file next
    found = elim (f.each holder f.here) [
      | inl e ↦ first inside (subst (λ (h : ℕ). IsNextExtension image file h next) e new.next)
      | inr h ↦ further h new.next
    ]

    after : (block : ℕ) → (block ≡ holder) ⊎ AreListedAfter image file holders block → AreListedAfter image file (holders ++ next ∷ []) block
    after block (inl e) n is =
        let same : next ≡ n = sym new.next.named ∙ ap (λ (h : ℕ). long image h NEXT_EXTENSION) (sym e) ∙ is.named in
        subst (Contains (holders ++ next ∷ [])) same (Contains-push holders next)
    after block (inr was) n is = Contains-append_left holders (next ∷ []) n (was n is)

    pub follows_more : (more : List ℕ) → more ≡ holders ++ next ∷ [] → Follows image file (set passed next true) more next
    follows_more more e = subst (λ (xs : List ℕ). Follows image file (set passed next true) xs next) (sym e) (record {
      size = length-set passed next true ∙ f.size;
      inside = new.next.inside.1;
      before = λ block is. elim (marked_before passed next within block is) [
        | inl was ↦ elim (f.before block was) [
          | inl less ↦ inl less
          | inr (same, m) ↦ inr (same, Contains-append_left holders (next ∷ []) block m)
        ]
        | inr at ↦ inr (ap (parent_key image) at ∙ new.next.looks.of_file, subst (Contains (holders ++ next ∷ [])) (sym at) (Contains-push holders next))
      ];
      each = λ block m. elim (Contains-push_cases holders next block m) [
        | inl was ↦ f.each block was
        | inr at ↦ inr (subst (HasExtensionBlock image file) at found)
      ];
      header = Contains-append_left holders (next ∷ []) file f.header;
      here = Contains-push holders next;
      closed = λ block m. elim (Contains-push_cases holders next block m) [
        | inl was ↦ inr (after block (f.closed block was))
        | inr at ↦ inl (sym at)
      ];
    })

  -- none is left
  module _ (last : AreMarkedAfter image passed file holder) where
    listed_after : (block : ℕ) → Contains holders block → AreListedAfter image file holders block
    listed_after block m n is = elim (f.closed block m) [
      | inl e ↦ elim (f.before n (last n (subst (λ (h : ℕ). IsNextExtension image file h n) e is))) [
        | inl less ↦ absurd (omega (arith, less, is.looks.of_file))
        | inr (same, there) ↦ there
      ]
      | inr was ↦ was n is
    ]

    listed : {block : ℕ} → HasExtensionBlock image file block → Contains holders block
    listed (first i n) = listed_after file f.header _ n
    listed (further {holder} h n) = listed_after holder (listed h) _ n

    pub are_holders : HasFileType image file → (block : ℕ) → Contains holders block ↔ (HasFileType image file × IsHolderOf image file block)
    are_holders is_file block = (
      λ m. (is_file, f.each block m),
      λ h. elim h.1 [
        | inl e ↦ subst (Contains holders) (sym e) f.header
        | inr extension ↦ listed extension
      ],
    )

    pub passed_more : ArePassed image (file + 1) passed
    passed_more = record {
      size = f.size;
      before = λ block is. elim (f.before block is) [
        | inl less ↦ omega (arith, less)
        | inr (same, there) ↦ omega (arith, same)
      ];
    }

-- a pointer block is inside the image
pub holder_inside : (image : List ℕ) (file block : ℕ) → InImage image file → IsHolderOf image file block → InImage image block
holder_inside image file block inside (inl e) = subst (InImage image) (sym e) inside
holder_inside image file block inside (inr (first i n)) = n.inside
holder_inside image file block inside (inr (further h n)) = n.inside
