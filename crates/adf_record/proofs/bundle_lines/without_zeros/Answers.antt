use Rattle.adf_record.proofs.Common.{◌≡◌, ℕ, List, [], ◌∷◌, ◌++◌, Some, refl, ap, ◌∙◌, append_assoc, strip_suffix_is}
use Rattle.std.proofs.lemmas.Bool.Decides.{Decides-eqb}
use Rattle.std.proofs.lemmas.List.Elements.{All-cons}
use Rattle.adf_record.proofs.bundle_lines.without_zeros.Goals as goal

-- one more zero
zero_more : (bytes kept front zeros : List ℕ) → bytes ≡ kept ++ zeros → kept ≡ front ++ 0 ∷ [] → bytes ≡ front ++ 0 ∷ zeros
zero_more bytes kept front zeros whole ends = whole ∙ ap (λ (k : List ℕ). k ++ zeros) ends ∙ append_assoc front (0 ∷ []) zeros

pub loop-front-preserved : goal.loop-front-preserved
loop-front-preserved c =
    let zeros = c.loop-front.invariant in
    let ends = strip_suffix_is Decides-eqb c.loop-front.kept.now c.as_slice.result.now (Some c.in-Some.front) c.in-Some.ensures.cases in (
      0 ∷ zeros.0,
      zero_more c.args.bytes.now c.loop-front.kept.now c.in-Some.front.now zeros.0 zeros.1 (ends ∙ ap (λ (z : List ℕ). c.in-Some.front.now ++ z) c.as_slice.ensures),
      All-cons (λ b. b ≡ 0) 0 zeros.0 refl zeros.2,
    )
