use Rattle.ados_salvage.proofs.KnownCommon.{◌≡◌, ℕ, ◌<◌, List, length, take, slice_index, get_or-set_same, get_or-set_other, length-set, sym, ap, ◌∙◌, subst, arith, set, get_or_default, take_all, take_more, Free, IsNoted, claim_at, with_claim}
use Rattle.ados_salvage.proofs.Claiming.{noted_more}
use Rattle.ados_salvage.proofs.known.claims.note.Goals as goal

pub loop-block-preserved : goal.loop-block-preserved
loop-block-preserved c =
    let x = slice_index c.args.blocks.now c.loop-block.block-index in
    let inside : slice_index c.args.blocks.now c.loop-block.block-index < length c.loop-block.claims = omega (arith, c.requires c.loop-block.block-index 0 c.loop-block-test.true, c.loop-block.invariant.size) in
    let told : c.with.result ≡ with_claim c.args.file (claim_at c.loop-block.claims (slice_index c.args.blocks.now c.loop-block.block-index)) =
    c.with.ensures ∙ ap (with_claim c.args.file) (get_or_default c.loop-block.claims (slice_index c.args.blocks.now c.loop-block.block-index) _ Free inside) in
    record {
      size = length-set c.loop-block.claims (slice_index c.args.blocks.now c.loop-block.block-index) c.with.result ∙ c.loop-block.invariant.size;
      noted = λ block l.
          subst (λ (xs : List ℕ). IsNoted c.args.file xs c.args.claims.now (set c.loop-block.claims (slice_index c.args.blocks.now c.loop-block.block-index) c.with.result) block)
          (sym (take_more c.args.blocks.now c.loop-block.block-index 0 c.loop-block-test.true))
          (noted_more c.args.file (slice_index c.args.blocks.now c.loop-block.block-index) block (take c.loop-block.block-index c.args.blocks.now) c.args.claims.now c.loop-block.claims
          (set c.loop-block.claims (slice_index c.args.blocks.now c.loop-block.block-index) c.with.result)
          (c.loop-block.invariant.noted block l)
          (λ e.
          ap (claim_at (set c.loop-block.claims (slice_index c.args.blocks.now c.loop-block.block-index) c.with.result)) e
          ∙ get_or-set_same c.loop-block.claims (slice_index c.args.blocks.now c.loop-block.block-index) c.with.result Free inside ∙ told
          ∙ ap (λ (b : ℕ). with_claim c.args.file (claim_at c.loop-block.claims b)) (sym e))
          (λ n. get_or-set_other c.loop-block.claims (slice_index c.args.blocks.now c.loop-block.block-index) block c.with.result Free n));
    }

pub returns-clause-noted : goal.returns-clause-noted
returns-clause-noted c = λ block l.
    subst (λ (xs : List ℕ). IsNoted c.args.file xs c.args.claims.now c.loop-block.claims block) (take_all c.loop-block.block-index c.args.blocks.now c.loop-block-test.false) (c.loop-block.invariant.noted block l)
