use Rattle.ados_chain.proofs.Common.{◌<◌, inl, inr, ◌∙◌, arith, NEXT_IN_CHAIN, CHECKSUM, AtLong, same_trans, same_weaken, other_block_sum, block_from_long, AtLinks}
use Rattle.ados_chain.proofs.Found.{IsLink-small}
use Rattle.ados_chain.proofs.link.relink.Goals as goal

pub returns-clause-relinks : goal.returns-clause-relinks
returns-clause-relinks c =
    let at = AtLinks c.args.link.block c.args.link.long c.args.key in
    let old = c.args.image.now in
    let one = c.set_long.new.self in
    let two = c.settle.new.self in
    let three = c.set_long-2.new.self in
    let four = c.settle-2.new.self in
    let small : c.args.link.long < 128 = IsLink-small c.args.link.long c.requires.long in
    record {
      rest =
          same_trans at old two four
          (same_trans at old one two
          (same_weaken (AtLong c.args.link.block c.args.link.long) at old one (λ b i e. inl (inl e)) c.set_long.ensures.rest)
          (same_weaken (AtLong c.args.link.block CHECKSUM) at one two (λ b i e. inl (inr e)) c.settle.ensures.rest))
          (same_trans at two three four
          (same_weaken (AtLong c.args.key NEXT_IN_CHAIN) at two three (λ b i e. inr (inl e)) c.set_long-2.ensures.rest)
          (same_weaken (AtLong c.args.key CHECKSUM) at three four (λ b i e. inr (inr e)) c.settle-2.ensures.rest));
      link =
          c.settle-2.ensures.others c.args.link.block c.args.link.long small (inl c.requires.apart)
          ∙ c.set_long-2.ensures.others c.args.link.block c.args.link.long small (inl c.requires.apart)
          ∙ c.settle.ensures.others c.args.link.block c.args.link.long small (inr (elim c.requires.long [ inl t ↦ λ e. absurd (omega (arith, t.0, e)) | inr t ↦ λ e. absurd (omega (arith, t, e)) ]))
          ∙ c.set_long.ensures.long;
      link_sum =
          other_block_sum c.args.key three four (block_from_long c.args.key CHECKSUM three four c.settle-2.ensures.rest) c.args.link.block c.requires.apart
          ∙ other_block_sum c.args.key two three (block_from_long c.args.key NEXT_IN_CHAIN two three c.set_long-2.ensures.rest) c.args.link.block c.requires.apart
          ∙ c.settle.ensures.sum;
      key_link = c.settle-2.ensures.others c.args.key NEXT_IN_CHAIN (omega arith) (inr (omega arith)) ∙ c.set_long-2.ensures.long;
      key_sum = c.settle-2.ensures.sum;
    }
