-- What a broken rule of a data block shows, and what the fields of a block are that breaks none.
use Rattle.ados_check.proofs.Common.{◌≡◌, ◌≢◌, ℕ, ◌+◌, ◌<◌, ◌≤◌, inl, inr, List, Option, Some, None, length, slice_index, All, sym, ap, ◌∙◌, arith, unwrap_or, cases_lt, slice_get_past, unwrap_or-slice_get, long, held_count, sequence_number, NEXT_DATA, InImage, IsDataAt, IsOfs, Shows, held_none, held_not_full, held_over, further_data, BreaksRule, IsPlaced, kind_of_data, DataRule, Sequence, TooFew, TooMany, Link, Place, DATA_RULES, KeepsRules}
use Rattle.ados_check.proofs.Ruling.{stable}

-- each rule stands in the list
pub each_rule : (P : DataRule → Type 0) → All P DATA_RULES → (rule : DataRule) → P rule
each_rule P all Sequence = all 0 Sequence (omega arith)
each_rule P all TooFew = all 1 Sequence (omega arith)
each_rule P all TooMany = all 2 Sequence (omega arith)
each_rule P all Link = all 3 Sequence (omega arith)

module _ (image : List ℕ) (place : Place) where
  module _ (p : IsPlaced image place) where
    next_within : place.next ≢ None → place.position + 1 < length p.blocks
    next_within some = elim (cases_lt (place.position + 1) (length p.blocks)) [
      | inl l ↦ l
      | inr past ↦ absurd (some (sym p.next ∙ slice_get_past p.blocks (place.position + 1) past))
    ]

    next_index : unwrap_or place.next 0 ≡ slice_index p.blocks (place.position + 1)
    next_index = ap (λ (o : Option ℕ). unwrap_or o 0) (sym p.next) ∙ unwrap_or-slice_get p.blocks (place.position + 1) 0

    module _ (ofs : IsOfs image) (inside : InImage image place.block) where
      here : IsDataAt image p.file p.blocks place.position place.block
      here = record { of_file = p.of_file; within = p.within; here = p.here; inside = inside }

      pub data_shows : (rule : DataRule) → BreaksRule image place rule → Shows image (kind_of_data rule) place.block
      data_shows Sequence n = record { file = p.file; i = place.position; blocks = p.blocks; ofs = ofs; at = here; wrong = n }
      data_shows TooFew (inl none) = held_none ofs here none
      data_shows TooFew (inr other) = held_not_full ofs (record { file = p.file; i = place.position; blocks = p.blocks; at = here; followed = next_within other.1 }) other.0
      data_shows TooMany n = held_over ofs here n
      data_shows Link n = further_data ofs here (λ e. n (e ∙ sym next_index))

  module _ (kept : KeepsRules image place) where
    pub right_sequence : sequence_number image place.block ≡ place.position + 1
    right_sequence = stable _ _ (kept Sequence)

    pub some_held : 0 < held_count image place.block
    some_held =
        let none : held_count image place.block ≢ 0 = λ z. kept TooFew (inl z) in
        omega (arith, none)

    pub few_held : held_count image place.block ≤ 488
    few_held =
        let over : ¬ (488 < held_count image place.block) = kept TooMany in
        omega (arith, over)

    pub full_held : (next : ℕ) → place.next ≡ Some next → held_count image place.block ≡ 488
    full_held next is = stable _ _ (λ n. kept TooFew (inr (n, λ z. let e = sym is ∙ z in cc e)))

    pub right_link : long image place.block NEXT_DATA ≡ unwrap_or place.next 0
    right_link = stable _ _ (kept Link)
