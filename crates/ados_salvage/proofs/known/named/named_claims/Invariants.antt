use Rattle.ados_salvage.proofs.KnownCommon.{◌≡◌, length, block_count, AreClaims, ArePassed, HeaderNames}
use Rattle.ados_salvage.proofs.known.named.named_claims.Given as goal

abbrev pub invariant-loop-header : goal.invariant-loop-header
invariant-loop-header l = record {
  size : length l.claims.items ≡ block_count l.image;
  claims : AreClaims (HeaderNames l.image) (block_count l.image) l.header l.claims.items;
  passed : ArePassed l.image l.header l.passed.items;
}
