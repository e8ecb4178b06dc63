-- The evidence of a fault in the role of a mark, and its values.
use Rattle.ados_faults.proofs.Common.{◌≡◌, ℕ, ◌<◌, List, Option, Some, None, sym, ◌∙◌, subst, same_Some, block_count, mark_at, Mark, Evidence, FaultKind, Marks, AreValues, HasFields, IsEvidenceOf, IsTheEvidence, NoneShows, ShowsDisk}
use Rattle.std.specs.Prelude.{MatchOption}

-- what is known of a block with a mark, that is no disk of another kind, is known of its fault
module _ (image : List ℕ) (marks : Marks) (kind : FaultKind) (block : ℕ) (mark : Mark) (disk : ¬ ShowsDisk image kind block) (at : mark_at marks block ≡ Some mark) where
  pub by_mark : (found : Option Evidence) → block < block_count image → HasFields image mark mark.role → IsTheEvidence (IsEvidenceOf image marks mark kind block) found
      → MatchOption found (NoneShows image marks kind block) (AreValues image marks kind block)
  by_mark None inside fields none = go
    where
      go : NoneShows image marks kind block
      go values (AreValues.of_disk shows is) = disk shows
      go values (AreValues.of_mark {mark = m} within there have is) =
          none values (subst (λ (x : Mark). IsEvidenceOf image marks x kind block values) (same_Some m mark (sym there ∙ at)) is)
  by_mark (Some values) inside fields is = AreValues.of_mark inside at fields is
