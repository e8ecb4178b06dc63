-- Cached children after a change of a file's bytes, and what contracts see of it.
use Rattle.ados_volume.proofs.Common.{Bool, Date3, Err, File, IsErrAnd, List, MatchResult, Node, Ok, Result, Shown, Some, Stands, Tree, Writes, [], ap, arith, block_cost, bytes_of, content_at, entries_in, length, ltb-true, max, option_map, overlaid, refl, rewritten, size_of, sym, without_archive, written, ℕ, ◌+◌, ◌∙◌, ◌∷◌, ◌≡◌, ◌≤◌}
use Rattle.ados_volume.proofs.Children.{HaveSame, changed_same}

module _ (t : Tree) (key : ℕ) (file : (bytes : List ℕ) × (content_at t key ≡ Some (File bytes))) (moment : Date3) where
  pub rewritten_same : (bytes : List ℕ) → HaveSame t (rewritten moment key bytes t)
  rewritten_same bytes = changed_same t key (λ node. record node { content = File bytes; date = moment; protection = without_archive node.protection }) lists (λ dir a m e. refl)
    where
      lists : (a : Node) → t.nodes key ≡ Some a → entries_in (Some (File bytes)) ≡ entries_in (Some a.content)
      lists a e = sym (ap entries_in (sym (ap (option_map (λ (node : Node). node.content)) e) ∙ file.1))

  pub written_same : (pos : ℕ) (bytes : List ℕ) → HaveSame t (written moment key pos bytes t)
  written_same pos [] = (λ dir k c. (c, refl), λ dir k c. (c, refl))
  written_same pos (b ∷ bs) = rewritten_same (overlaid (bytes_of t key) pos (b ∷ bs))

-- no bytes need no free blocks, and change no tree
pub written_none : (image : List ℕ) (moment : Date3) (key pos : ℕ) → ((t : Tree) → Stands image t → pos ≤ size_of t key) → (bytes : List ℕ) → length bytes ≡ 0 → Writes moment key pos bytes image image
written_none image moment key pos start [] none t s =
    let same : max (size_of t key) (pos + 0) ≡ size_of t key = omega (arith, start t s) in
    (λ more. omega (arith, ltb-true _ _ more, ap (block_cost t.format) same), s)
written_none image moment key pos start (c ∷ cs) none t s = absurd (omega (arith, none))

-- an unchanged image is seen unchanged
pub still_shown : (old new : List ℕ) (validated : Bool) (shown : Shown) → record { image = old; was_validated = validated } ≡ shown → new ≡ old → record { image = new; was_validated = validated } ≡ shown
still_shown old new validated shown v same = (λ i. record { image = same i; was_validated = validated }) ∙ v

-- an error is a refusal
pub refuses : {T E : Type 0} (Done : T → Type 0) (Refused : Type 0) (r : Result T E) (fault : E) → IsErrAnd r (λ told. told ≡ fault) → Refused → MatchResult r Done (λ _. Refused)
refuses Done Refused (Ok x) fault is why = absurd is
refuses Done Refused (Err told) fault is why = why
