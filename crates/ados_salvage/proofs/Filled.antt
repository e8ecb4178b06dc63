-- The bytes of a broken file, block by block.
use Rattle.ados_salvage.proofs.Common.{◌≡◌, ℕ, ◌<◌, inl, inr, List, length, replicate, slice_index, Contains, sym, ap, ◌∙◌, subst, arith, get_or-replicate, length-replicate, Piece, IsPutAt}
use Rattle.ados_salvage.specs.Saved.{IsOfGiven, IsPieced}

module _ (image : List ℕ) (given : List Piece) (place count : ℕ) where
  pub pieced_none : (bytes : List ℕ) → bytes ≡ replicate count 0 → IsPieced image given place count bytes
  pieced_none bytes e = record {
    size = ap length e ∙ length-replicate {A = ℕ} count 0;
    parts = λ k l. inl (ap (λ (xs : List ℕ). slice_index xs k) e ∙ get_or-replicate count k 0 0 l);
  }

  -- one more block of the file is put
  pub pieced_more : (old new : List ℕ) (piece : Piece) → Contains given piece → piece.place ≡ place → IsPieced image given place count old → length new ≡ length old
      → ((k : ℕ) → k < length old → IsPutAt image piece.block old new k) → IsPieced image given place count new
  pieced_more old new piece there is so_far long put = record {
    size = long ∙ so_far.size;
    parts = λ k l. elim (put k (omega (arith, l, so_far.size))) [
      | inl same ↦ subst (IsOfGiven image given place) (sym same) (so_far.parts k l)
      | inr byte ↦ inr (piece, there, is, byte)
    ];
  }
