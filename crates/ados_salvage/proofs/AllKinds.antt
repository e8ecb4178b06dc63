-- The marks of all kinds of blocks together: exactly those that are accounted for.
use Rattle.std.proofs.Common.{◌≡◌, ℕ, ◌<◌, ◌⊎◌, inl, inr, Bool, true, false, MatchBool, List, length, refl, sym, ◌∙◌, subst, arith}
use Rattle.ados_salvage.proofs.AccountCommon.{block_count, root_of, BelongsTo, IsAccounted, IsExtensionOf, IsPage, Adds, AreAccounted, HasNoMarks, IsDamagedFile, IsMarked, IsOfDamaged, IsOwn, IsOwnIn, IsPieceBlock, OfOne, mark_at}
use Rattle.ados_salvage.specs.declared.salvaged.State.{State}
use Rattle.ados_salvage.specs.declared.salvaged.State.TheVariants.{Broken, Directory, Doubtful, DoubtfulDirectory, Lost, Whole}
use Rattle.ados_salvage.specs.Salvaged.{Saved}
use Rattle.ados_salvage.specs.Account.IsAccounted.{of_bitmap, of_entry, of_piece, of_root}

-- a block belongs to an entry by its own blocks, or by the extension blocks of a file that is not whole
own_belongs : (image : List ℕ) (header block : ℕ) (state : State) → IsOwnIn image header state block → BelongsTo image header state block
own_belongs image header block Directory own = own
own_belongs image header block DoubtfulDirectory own = own
own_belongs image header block Whole own = own
own_belongs image header block (Doubtful heading length) own = inl own
own_belongs image header block Lost own = own
own_belongs image header block (Broken missing cut length) own = inl own

extension_belongs : (image : List ℕ) (header block : ℕ) (state : State) → IsDamagedFile state → IsExtensionOf image header block → BelongsTo image header state block
extension_belongs image header block Directory damaged extension = absurd damaged
extension_belongs image header block DoubtfulDirectory damaged extension = absurd damaged
extension_belongs image header block Whole damaged extension = absurd damaged
extension_belongs image header block (Doubtful heading length) damaged extension = inr extension
extension_belongs image header block Lost damaged extension = absurd damaged
extension_belongs image header block (Broken missing cut length) damaged extension = inr extension

belongs_by : (image : List ℕ) (header block : ℕ) (state : State) → BelongsTo image header state block → IsOwnIn image header state block ⊎ (IsDamagedFile state × IsExtensionOf image header block)
belongs_by image header block Directory own = inl own
belongs_by image header block DoubtfulDirectory own = inl own
belongs_by image header block Whole own = inl own
belongs_by image header block (Doubtful heading length) (inl own) = inl own
belongs_by image header block (Doubtful heading length) (inr extension) = inr (_, extension)
belongs_by image header block Lost own = inl own
belongs_by image header block (Broken missing cut length) (inl own) = inl own
belongs_by image header block (Broken missing cut length) (inr extension) = inr (_, extension)

module _ (saved : Saved) (none extensions own pieces all : List Bool) (start : HasNoMarks saved.image none) (a : Adds (OfOne (IsOfDamaged saved.image) saved.entries) none extensions)
    (b : Adds (OfOne (IsOwn saved.image) saved.entries) extensions own) (c : Adds (OfOne IsPieceBlock saved.given) own pieces)
    (d : Adds (λ (block : ℕ). (block ≡ root_of saved.image) ⊎ IsPage saved.image block) pieces all) where
  right : (block : ℕ) → IsMarked all block → IsAccounted saved block
  right block is = elim (d.only block is) [
    | inr (inl root) ↦ of_root root
    | inr (inr page) ↦ of_bitmap page
    | inl is ↦ elim (c.only block is) [
      | inr piece ↦ of_piece piece.listed piece.has
      | inl is ↦ elim (b.only block is) [
        | inr entry ↦ of_entry entry.listed (own_belongs saved.image entry.one.header block entry.one.state entry.has)
        | inl is ↦ elim (a.only block is) [
          | inr entry ↦ of_entry entry.listed (extension_belongs saved.image entry.one.header block entry.one.state entry.has.0 entry.has.1)
          | inl is ↦ absurd (start.none block is)
        ]
      ]
    ]
  ]

  size : length all ≡ block_count saved.image
  size = d.size ∙ c.size ∙ b.size ∙ a.size ∙ start.size

  complete : (block : ℕ) → block < block_count saved.image → IsAccounted saved block → IsMarked all block
  complete block l (of_root root) = d.added block (omega (arith, l, c.size, b.size, a.size, start.size)) (inl root)
  complete block l (of_bitmap page) = d.added block (omega (arith, l, c.size, b.size, a.size, start.size)) (inr page)
  complete block l (of_entry {entry} listed belongs) = elim (belongs_by saved.image entry.header block entry.state belongs) [
    | inl is ↦ d.kept block (c.kept block (b.added block (omega (arith, l, a.size, start.size)) (record { one = entry; listed = listed; has = is })))
    | inr is ↦ d.kept block (c.kept block (b.kept block (a.added block (omega (arith, l, start.size)) (record { one = entry; listed = listed; has = is }))))
  ]
  complete block l (of_piece {piece} listed is) = d.kept block (c.added block (omega (arith, l, b.size, a.size, start.size)) (record { one = piece; listed = listed; has = is }))

  decided : (mark : Bool) (block : ℕ) → mark_at all block ≡ mark → block < block_count saved.image → MatchBool mark (IsAccounted saved block) (¬ IsAccounted saved block)
  decided true block is l = right block is
  decided false block is l = λ accounted. let both : true ≡ false = sym (complete block l accounted) ∙ is in absurd (cc both)

  pub all_accounted : AreAccounted saved all
  all_accounted = record { size = size; decided = λ block l. decided (mark_at all block) block refl l }

-- a marked block is accounted for
pub accounted_if : (saved : Saved) (marks : List Bool) → AreAccounted saved marks → (block : ℕ) → block < block_count saved.image → IsMarked marks block → IsAccounted saved block
accounted_if saved marks a block l is = subst (λ (mark : Bool). MatchBool mark (IsAccounted saved block) (¬ IsAccounted saved block)) is (a.decided block l)
