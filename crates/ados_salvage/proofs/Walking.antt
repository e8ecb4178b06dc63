-- The extension blocks of a file while they are marked, one by one.
use Rattle.std.proofs.Common.{◌≡◌, ℕ, ◌<◌, ◌⊎◌, inl, inr, Bool, true, List, length, length-set, sym, ap, ◌∙◌, subst, arith}
use Rattle.std.proofs.Math.ListN.{set}
use Rattle.ados_salvage.proofs.AccountCommon.{block_count, parent_key, InImage, HasExtensionBlock, IsNextExtension, Adds, AreClosed, AreMarkedAfter, IsDamagedFile, IsMarked, IsLinkedOf, IsNewAfter, mark_at}
use Rattle.ados_salvage.specs.declared.salvaged.Salvaged.{Salvaged}
use Rattle.ados_salvage.specs.Account.HasExtensionBlock.{first, further}
use Rattle.ados_salvage.proofs.Marking.{adds_none}
use Rattle.ados_census.proofs.Marking.{marked_before, now_marked, still_marked}

-- the walk along the extension blocks of a file has come to this holder: all before it are marked, and marks are closed but for the next one
pub record Walks (image : List ℕ) (file : ℕ) (old marks : List Bool) (holder : ℕ) : Type 0 where
  pub size : length marks ≡ block_count image
  pub inside : holder < block_count image
  pub kept : (block : ℕ) → IsMarked old block → IsMarked marks block
  pub only : (block : ℕ) → IsMarked marks block → IsMarked old block ⊎ HasExtensionBlock image file block
  pub here : (holder ≡ file) ⊎ HasExtensionBlock image file holder
  pub head : (holder ≡ file) ⊎ AreMarkedAfter image marks file file
  pub closed : (block : ℕ) → IsMarked marks block → ((block ≡ holder) × (parent_key image block ≡ file)) ⊎ AreMarkedAfter image marks (parent_key image block) block

module _ (image : List ℕ) (file : ℕ) (inside : InImage image file) (old marks : List Bool) (holder : ℕ) (w : Walks image file old marks holder) where
  -- one step
  module _ (next : ℕ) (new : IsNewAfter image marks file holder next) where
    within : next < length marks
    within = omega (arith, new.next.inside.1, w.size)

    -- what is marked after a block is still, and the next one of the holder is now
    after_kept : (f block : ℕ) → AreMarkedAfter image marks f block → AreMarkedAfter image (set marks next true) f block
    after_kept f block after b is = still_marked marks next within b (after b is)

    after_holder : AreMarkedAfter image (set marks next true) file holder
    after_holder b is =
        let same : b ≡ next = sym is.named ∙ new.next.named in
        ap (mark_at (set marks next true)) same ∙ now_marked marks next within

    found : HasExtensionBlock image file next
    found = elim w.here [
      | inl e ↦ first inside (subst (λ (h : ℕ). IsNextExtension image file h next) e new.next)
      | inr h ↦ further h new.next
    ]

    step_closed : (block : ℕ) → IsMarked marks block → ((block ≡ next) × (parent_key image block ≡ file)) ⊎ AreMarkedAfter image (set marks next true) (parent_key image block) block
    step_closed block is = elim (w.closed block is) [
      | inl at ↦ inr (subst (λ (h : ℕ). AreMarkedAfter image (set marks next true) (parent_key image block) h) (sym at.0)
          (subst (λ (f : ℕ). AreMarkedAfter image (set marks next true) f holder) (sym at.1) after_holder))
      | inr after ↦ inr (after_kept (parent_key image block) block after)
    ]

    pub walk_goes_on : Walks image file old (set marks next true) next
    walk_goes_on = record {
      size = length-set marks next true ∙ w.size;
      inside = new.next.inside.1;
      kept = λ block is. still_marked marks next within block (w.kept block is);
      only = λ block is. elim (marked_before marks next within block is) [
        | inl before ↦ w.only block before
        | inr e ↦ inr (subst (HasExtensionBlock image file) (sym e) found)
      ];
      here = inr found;
      head = elim w.head [
        | inl e ↦ inr (subst (λ (h : ℕ). AreMarkedAfter image (set marks next true) file h) e after_holder)
        | inr after ↦ inr (after_kept file file after)
      ];
      closed = λ block is. elim (marked_before marks next within block is) [
        | inl before ↦ step_closed block before
        | inr e ↦ inl (e, ap (parent_key image) e ∙ new.next.looks.of_file)
      ];
    }

  -- no step is left
  module _ (last : AreMarkedAfter image marks file holder) where
    pub walk_closes : AreClosed image marks
    walk_closes = record {
      size = w.size;
      next = λ block is. elim (w.closed block is) [
        | inl at ↦ subst (λ (h : ℕ). AreMarkedAfter image marks (parent_key image block) h) (sym at.0) (subst (λ (f : ℕ). AreMarkedAfter image marks f holder) (sym at.1) last)
        | inr after ↦ after
      ];
    }

    after_header : AreMarkedAfter image marks file file
    after_header = elim w.head [
      | inl e ↦ subst (λ (h : ℕ). AreMarkedAfter image marks file h) e last
      | inr after ↦ after
    ]

    -- so all extension blocks of the file are marked
    all_marked : {block : ℕ} → HasExtensionBlock image file block → IsMarked marks block × (parent_key image block ≡ file)
    all_marked (first i n) = (after_header _ n, n.looks.of_file)
    all_marked (further {holder} {block} h n) =
        let before = all_marked h in
        (walk_closes.next holder before.0 block (subst (λ (f : ℕ). IsNextExtension image f holder block) (sym before.1) n), n.looks.of_file)

    pub walk_adds : length old ≡ block_count image → Adds (HasExtensionBlock image file) old marks
    walk_adds size = record {
      size = w.size ∙ sym size;
      kept = w.kept;
      added = λ block l h. (all_marked h).0;
      only = w.only;
    }

-- only a file whose header is inside the image has extension blocks
has_inside : {image : List ℕ} {file block : ℕ} → HasExtensionBlock image file block → InImage image file
has_inside (first i n) = i
has_inside (further h n) = has_inside h

-- an entry to whose extension blocks no link leads
pub adds_no_extension : (image : List ℕ) (entry : Salvaged) (marks : List Bool) → (¬ IsDamagedFile entry.state) ⊎ (¬ InImage image entry.header) → Adds (IsLinkedOf image entry) marks marks
adds_no_extension image entry marks (inl whole) = adds_none (IsLinkedOf image entry) marks (λ b l h. whole h.0)
adds_no_extension image entry marks (inr outside) = adds_none (IsLinkedOf image entry) marks (λ b l h. outside (has_inside h.1))
