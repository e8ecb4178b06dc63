use Rattle.ados_check.proofs.Common.{◌≡◌, ◌≢◌, ℕ, suc, ◌<◌, pointer_count, pointer_block, Extension}
use Rattle.ados_check.proofs.counts.count_blocks.Given as goal

abbrev pub invariant-loop-passed : goal.invariant-loop-passed
invariant-loop-passed l = record {
  holder : l.holder ≡ pointer_block l.source.bytes l.file l.passed;
  first : l.passed ≡ 0 → l.role ≡ l.fn.entry;
  further : 0 < l.passed → l.role ≡ Extension l.file;
  goes_on : (p : ℕ) → p < l.passed → pointer_block l.source.bytes l.file (suc p) ≢ 0;
  full : (p : ℕ) → p < l.passed → pointer_count l.source.bytes (pointer_block l.source.bytes l.file p) ≡ 72;
}
