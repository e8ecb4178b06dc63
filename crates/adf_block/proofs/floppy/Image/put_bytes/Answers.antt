use Rattle.adf_block.proofs.Common.{◌≡◌, ◌-◌, ◌+◌, ℕ, List, length, sym, ap, ◌∙◌, arith, subst, put_mid, byte_at, with_block, SameBut, Within}
use Rattle.adf_block.proofs.Putting.{written_byte, only_written}
use Rattle.adf_block.proofs.floppy.Image.put_bytes.Goals as goal

pub returns-clause-put : goal.returns-clause-put
returns-clause-put c = λ k l.
    let n_is : c.args.at + length c.args.bytes.now - c.args.at ≡ length c.args.bytes.now = omega arith in
    ap (λ (ys : List ℕ). byte_at (with_block c.args.self.now c.args.b (put_mid c.args.at (c.args.at + length c.args.bytes.now - c.args.at) c.block_mut-block.result.now ys)) c.args.b (c.args.at + k)) c.copy_from_slice.ensures.after
    ∙ written_byte c.args.self.now c.args.b c.args.at (c.args.at + length c.args.bytes.now - c.args.at) c.block_mut-block.result.now c.args.bytes.now c.requires.inside c.block_mut-block.ensures.bytes c.block_mut-block.ensures.length c.requires.room n_is k l

pub returns-clause-rest : goal.returns-clause-rest
returns-clause-rest c =
    let n_is : c.args.at + length c.args.bytes.now - c.args.at ≡ length c.args.bytes.now = omega arith in
    subst (λ (ys : List ℕ). SameBut (Within c.args.b c.args.at (c.args.at + length c.args.bytes.now)) c.args.self.now (with_block c.args.self.now c.args.b (put_mid c.args.at (c.args.at + length c.args.bytes.now - c.args.at) c.block_mut-block.result.now ys))) (sym c.copy_from_slice.ensures.after)
    (only_written c.args.self.now c.args.b c.args.at (c.args.at + length c.args.bytes.now - c.args.at) c.block_mut-block.result.now c.args.bytes.now c.requires.inside c.block_mut-block.ensures.bytes c.block_mut-block.ensures.length c.requires.room n_is)
