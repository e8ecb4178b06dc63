use Rattle.adf_block.proofs.Common.{◌≡◌, ◌≢◌, ℕ, List, ◌/◌, ◌%◌, arith, ap, ◌∙◌, refl, total, long, boot_long}
use Rattle.std.proofs.lemmas.Bool.Decides.{nat_tests}
use Rattle.adf_block.proofs.Totals.{total-more}
use Rattle.adf_block.proofs.floppy.Image.boot_total.Goals.{then-k-ne-BOOT_CHECKSUM, else-k-ne-BOOT_CHECKSUM}
use Rattle.adf_block.proofs.floppy.Image.boot_total.Goals as goal

-- the checksum's own long counts as 0
own : (image : List ℕ) (k : ℕ) → k ≡ 1 → boot_long image k ≡ 0
unfolding boot_long
own image k e = rw e refl

-- any other long counts as it is
other : (image : List ℕ) (k : ℕ) → k ≢ 1 → boot_long image k ≡ long image (k / 128) (k % 128)
unfolding boot_long
other image k ne = grind (arith, nat_tests)

pub loop-k-preserved : goal.loop-k-preserved
loop-k-preserved c =
    let image = c.args.self.now in
    let more = total-more (boot_long image) c.loop-k.k in
    elim c.if-k-ne-BOOT_CHECKSUM.branch [
      | then-k-ne-BOOT_CHECKSUM w ↦
          let here = other image c.loop-k.k w.if-k-ne-BOOT_CHECKSUM.true in
          record { sum = omega (arith, more, here); bound = omega arith }
      | else-k-ne-BOOT_CHECKSUM w ↦
          let here = own image c.loop-k.k w.if-k-ne-BOOT_CHECKSUM.false in
          record { sum = omega (arith, more, here); bound = omega arith }
    ]

pub returns-clause-total : goal.returns-clause-total
returns-clause-total c =
    let end : c.loop-k.k ≡ 256 = omega arith in
    c.loop-k.invariant.sum ∙ ap (total (boot_long c.args.self.now)) end
