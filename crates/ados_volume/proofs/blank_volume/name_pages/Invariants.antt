use Rattle.ados_volume.proofs.Common.{SameBut, Within, long, ℕ, ◌*◌, ◌+◌, ◌<◌, ◌≡◌}
use Rattle.ados_volume.proofs.blank_volume.name_pages.Given as goal

abbrev pub invariant-loop-p : goal.invariant-loop-p
invariant-loop-p l = record {
  named : (i : ℕ) → i < l.p → long l.image l.root (79 + i) ≡ l.root + 1 + i;
  rest : SameBut (Within l.root 316 (316 + 4 * l.p)) l.initial.image l.image;
}
