use Rattle.std.proofs.Common.{◌+◌, ℕ, refl, sym, subst, take}
use Rattle.std.specs.BTreeSet.{BTreeSet}
use Rattle.ados_salvage.specs.Account.{OfOne}
use Rattle.ados_salvage.specs.steps.Accounting.{HasExactly, IsDamagedHeader}
use Rattle.ados_salvage.proofs.DamagedHeaders.{has_more, has_none, has_same}
use Rattle.ados_salvage.proofs.account.extensions.damaged_headers.Goals as goal
use Rattle.ados_salvage.proofs.account.extensions.damaged_headers.Goals.{then-is_damaged_file+in_ok-insert, else-is_damaged_file}

pub loop-entry-init : goal.loop-entry-init
loop-entry-init c = has_none c.args.entries.now 0 _ refl c.new-headers.ensures.empty

pub loop-entry-preserved : goal.loop-entry-preserved
loop-entry-preserved c =
    let entries = c.args.entries.now in
    let i = c.loop-entry.entry-index in
    let entry = c.entry-item.result in
    elim c.if-is_damaged_file.branch [
      | then-is_damaged_file+in_ok-insert w ↦
          subst (λ (headers : BTreeSet ℕ). HasExactly (OfOne IsDamagedHeader (take (i + 1) entries)) headers) (sym w.headers-is)
          (has_more entries i entry c.loop-entry-test.true c.entry-item.is c.loop-entry.headers c.loop-entry.invariant w.insert.new.self (rw w.if-is_damaged_file.true at c.is_damaged_file.ensures) w.in_ok-insert.ensures.updates)
      | else-is_damaged_file w ↦
          subst (λ (headers : BTreeSet ℕ). HasExactly (OfOne IsDamagedHeader (take (i + 1) entries)) headers) (sym w.headers-is)
          (has_same entries i entry c.loop-entry-test.true c.entry-item.is c.loop-entry.headers c.loop-entry.invariant (rw w.if-is_damaged_file.false at c.is_damaged_file.ensures))
    ]
