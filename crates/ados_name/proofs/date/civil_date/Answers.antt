use Rattle.ados_name.proofs.Common.{◌≤◌, ℕ, pos, ◌+ℤ◌, arith, w64, ◌∙◌, Date, epoch_day, IsEpochDay, IsYmd, signed_arith, date_add-days, can_add-days}
use Rattle.std.proofs.lemmas.Int.{to_z_pos}
use Rattle.ados_name.proofs.DateLemmas.{epoch_day-1978}
use Rattle.ados_name.proofs.date.civil_date.Goals as goal

in_range : (epoch : Date) (days : ℕ) → IsYmd (pos 1978) (pos 1) (pos 1) epoch → days ≤ 2929974 → IsEpochDay (epoch_day epoch +ℤ pos days)
in_range epoch days is few = rw (epoch_day-1978 epoch is) (omega (arith, signed_arith))

pub unwrap-requires : goal.unwrap-requires
unwrap-requires c =
    let epoch = c.date.result in
    let days = c.args.days in
    let only = rw (to_z_pos w64 days (omega arith)) at c.days.ensures in
    let can = can_add-days epoch (pos days) c.days.result only in
    c.checked_add.ensures.succeeds.1 (can.1 (in_range epoch days c.date.ensures c.requires))

pub returns : goal.returns
returns c =
    let only = rw (to_z_pos w64 c.args.days (omega arith)) at c.days.ensures in
    let added = rw c.unwrap.ensures at c.checked_add.ensures.value in
    record {
      epoch = c.date.result;
      epoch_is = c.date.ensures;
      number = added ∙ date_add-days c.date.result (pos c.args.days) c.days.result only;
    }
