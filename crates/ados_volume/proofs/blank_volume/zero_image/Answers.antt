use Rattle.ados_volume.proofs.Common.{List, ap, arith, byte_at, cases_lt, get_or-replicate, get_or_past, inl, inr, length-replicate, replicate, slice_index, ℕ, ◌*◌, ◌+◌, ◌∙◌, ◌≡◌}
use Rattle.ados_volume.proofs.blank_volume.zero_image.Goals as goal

zero_at : (n k : ℕ) → slice_index (replicate n 0) k ≡ 0
zero_at n k = elim (cases_lt k n) [ inl l ↦ get_or-replicate n k 0 0 l | inr m ↦ get_or_past (replicate n 0) k 0 (omega (arith, length-replicate {A = ℕ} n 0, m)) ]

pub returns-clause-zero : goal.returns-clause-zero
unfolding byte_at
returns-clause-zero c = λ b i. ap (λ (xs : List ℕ). slice_index xs (512 * b + i)) (c.in-Ok.ensures.ok.0 ∙ c.in_ok-bytes.ensures.items_if_clones_equal (λ y e. e)) ∙ zero_at (512 * c.args.blocks) (512 * b + i)
