use Rattle.ados_salvage.proofs.KnownCommon.{◌≡◌, All, map, take, HasRecovery}
use Rattle.ados_salvage.proofs.known.deleted.all_deleted.Given as goal

abbrev pub invariant-loop-header : goal.invariant-loop-header
invariant-loop-header l = record {
  same : map (λ entry. entry.header) l.found.items ≡ take l.header-index l.headers;
  told : All (λ entry. HasRecovery l.known.image entry.header entry.recovery) l.found.items;
}
