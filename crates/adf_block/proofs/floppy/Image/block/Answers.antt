use Rattle.adf_block.proofs.Common.{◌≡◌, ℕ, ◌+◌, ◌-◌, ◌*◌, ap, ap₂, ◌∙◌, take, drop, List, arith, bytes_at}
use Rattle.adf_block.proofs.floppy.Image.block.Goals as goal

pub returns-clause-bytes : goal.returns-clause-bytes
unfolding bytes_at
returns-clause-bytes c =
    let n : c.args.b * 512 + 512 - c.args.b * 512 ≡ 512 = omega arith in
    let at : c.args.b * 512 ≡ 512 * c.args.b + 0 = omega arith in
    let bytes : c.deref.result.now ≡ c.args.self.now = c.deref.ensures.value ∙ c.self.view_is in
    ap₂ (λ (m k : ℕ). take m (drop k c.deref.result.now)) n at ∙ ap (λ (xs : List ℕ). take 512 (drop (512 * c.args.b + 0) xs)) bytes
