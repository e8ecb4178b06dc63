use Rattle.ados_salvage.proofs.Common.{arith, below_more, header_inside, refl}
use Rattle.std.proofs.Common.{rules}
use Rattle.ados_salvage.proofs.Finding.{adds_none, adds_then}
use Rattle.ados_salvage.proofs.unreached.add_unreached.Goals as goal

pub loop-block-init : goal.loop-block-init
loop-block-init c = record {
  gathered = c.in_ok-take_asides.ensures.gathered;
  climbed = search rules;
  all = λ b l. absurd (omega (arith, l));
  found = adds_none c.args.known.now c.take_asides.new.gathered c.take_asides.new.gathered refl;
}

pub loop-block-preserved : goal.loop-block-preserved
loop-block-preserved c =
    let more = c.in_ok-add_new.ensures.more in
    record {
      gathered = more.0;
      climbed = c.in_ok-add_new.ensures.climbed;
      all = below_more _ _ (λ b l is. more.1 b (c.loop-block.invariant.all b l is)) c.in_ok-add_new.ensures.met;
      found = adds_then c.args.known.now c.take_asides.new.gathered c.loop-block.gathered _ c.loop-block.invariant.found c.in_ok-add_new.ensures.found;
    }

pub returns-clause-all : goal.returns-clause-all
returns-clause-all c = λ block header.
    c.loop-block.invariant.all block (omega (arith, header_inside c.args.known.now.left_out c.args.known.now.image block header, c.loop-block-test.false, c.blocks-count.ensures.count)) header

pub returns-clause-found : goal.returns-clause-found
returns-clause-found c =
    adds_then c.args.known.now c.args.gathered.now c.take_asides.new.gathered c.loop-block.gathered (adds_none c.args.known.now c.args.gathered.now c.take_asides.new.gathered c.in_ok-take_asides.ensures.same)
    c.loop-block.invariant.found
