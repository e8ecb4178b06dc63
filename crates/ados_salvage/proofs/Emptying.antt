-- Holes are emptied one after the other.
use Rattle.ados_salvage.proofs.Common.{◌≡◌, ℕ, ◌+◌, ◌<◌, inl, inr, Bool, true, false, ◌==◌, ap, get_or-set_same, get_or-set_other, mark_at, set, List, [], ◌∷◌, length, sym, ◌∙◌, subst, arith, cases_eq, IsHole}
use Rattle.std.proofs.lemmas.Bool.{eqb-true}
use Rattle.std.proofs.lemmas.List.{get_or_past}
use Rattle.adf_block.specs.Frame.{InBlock, OnlyBlock, SameBut, Within}
use Rattle.adf_block.specs.Image.{byte_at}
use Rattle.adf_block.proofs.Frames.{same_trans, same_weaken}
use Rattle.ados_salvage.specs.Holes.{IsEmpty}

module _ (b : ℕ) (old mid new : List ℕ) (cleared : OnlyBlock b old mid) (zeros : (k : ℕ) → k < 512 → byte_at mid b k ≡ 0) (rest : SameBut (Within b 3 4) mid new) (one : byte_at new b 3 ≡ 1) where
  pub now_empty : IsEmpty new b
  now_empty = record {
    one = one;
    zeros = λ at l other. rest.same_byte b at l (λ within. other (omega (arith, within.1, within.2))) ∙ zeros at l;
  }

  pub only_there : OnlyBlock b old new
  only_there = same_trans (InBlock b) old mid new cleared (same_weaken (Within b 3 4) (InBlock b) mid new (λ c k within. within.0) rest)

-- without marks there is no hole
pub hole_none : (holes : List Bool) → (length holes == 0) ≡ true → (block : ℕ) → ¬ IsHole holes block
hole_none [] none block hole =
    let both : false ≡ true = sym (get_or_past [] block false (omega arith)) ∙ hole in
    absurd (cc both)
hole_none (x ∷ xs) none block hole = absurd (omega (arith, eqb-true (length (x ∷ xs)) 0 none))

-- the holes before a block are marked
abbrev pub AreMarkedBelow : List Bool → List Bool → ℕ → Type 0
AreMarkedBelow holes given n = (block : ℕ) → block < n → IsHole holes block → mark_at given block ≡ true

module _ (holes given : List Bool) (b : ℕ) (before : AreMarkedBelow holes given b) where
  pub marked_more : b < length given → AreMarkedBelow holes (set given b true) (b + 1)
  marked_more inside block l hole = elim (cases_eq block b) [
    | inl is ↦ ap (mark_at (set given b true)) is ∙ get_or-set_same given b true false inside
    | inr other ↦ get_or-set_other given b block true false other ∙ before block (omega (arith, l, other)) hole
  ]

  pub none_marked : mark_at holes b ≡ false → AreMarkedBelow holes given (b + 1)
  none_marked free block l hole = elim (cases_eq block b) [
    | inl is ↦ absurd (cc (sym hole ∙ ap (mark_at holes) is ∙ free))
    | inr other ↦ before block (omega (arith, l, other)) hole
  ]

-- the holes before a block are empty
abbrev pub AreEmptyBelow : List Bool → List ℕ → ℕ → Type 0
AreEmptyBelow holes image n = (block : ℕ) → block < n → IsHole holes block → IsEmpty image block

module _ (holes : List Bool) (b : ℕ) (first old new : List ℕ) (before : AreEmptyBelow holes old b) where
  -- the block is one of them
  pub emptied_more : IsHole holes b → SameBut (λ block at. IsHole holes block) first old → IsEmpty new b → OnlyBlock b old new
      → SameBut (λ block at. IsHole holes block) first new × AreEmptyBelow holes new (b + 1)
  emptied_more hole same now only = (
    same_trans (λ block at. IsHole holes block) first old new same (same_weaken (InBlock b) (λ block at. IsHole holes block) old new (λ c k is. subst (IsHole holes) (sym is) hole) only),
    λ block l h. elim (cases_eq block b) [
      | inl is ↦ subst (IsEmpty new) (sym is) now
      | inr other ↦
          (let was = before block (omega (arith, l, other)) h in
          record { one = only.same_byte block 3 (omega arith) other ∙ was.one; zeros = λ at m three. only.same_byte block at m other ∙ was.zeros at m three })
    ],
  )

  -- or it is none
  pub none_emptied : ¬ IsHole holes b → AreEmptyBelow holes old (b + 1)
  none_emptied free block l h = elim (cases_eq block b) [
    | inl is ↦ absurd (free (subst (IsHole holes) is h))
    | inr other ↦ before block (omega (arith, l, other)) h
  ]
