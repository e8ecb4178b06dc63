use Rattle.ados_salvage.proofs.KnownCommon.{◌≡◌, length, block_count, AreClaims, HasClaim, AreUsersBelow}
use Rattle.ados_salvage.proofs.known.claims.claims.Given as goal

abbrev pub invariant-loop-file : goal.invariant-loop-file
invariant-loop-file l = record {
  size : length l.claims.items ≡ block_count l.image;
  claims : AreClaims (HasClaim l.left_out l.image) (block_count l.image) l.file l.claims.items;
  users : AreUsersBelow l.image l.file l.users.items;
}
