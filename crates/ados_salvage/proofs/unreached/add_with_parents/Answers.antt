use Rattle.ados_salvage.proofs.Common.{refl, on_ok_weaker}
use Rattle.ados_salvage.proofs.Finding.{adds_none, adds_then}
use Rattle.ados_salvage.proofs.unreached.add_with_parents.Goals as goal

pub loop-dir-init : goal.loop-dir-init
loop-dir-init c = record { more = (c.requires.gathered, λ block some. some); found = adds_none c.args.known.now c.args.gathered.now c.args.gathered.now refl }

pub loop-dir-preserved : goal.loop-dir-preserved
loop-dir-preserved c =
    let more = c.in_ok-add_found.ensures.more in
    record {
      more = (more.0, λ block some. more.1 block (c.loop-dir.invariant.more.1 block some));
      found = adds_then c.args.known.now c.args.gathered.now c.loop-dir.gathered _ c.loop-dir.invariant.found c.in_ok-add_found.ensures.found;
    }

pub returns-clause-more : goal.returns-clause-more
returns-clause-more c = on_ok_weaker c.add_found-2.result (λ more. (more.0, λ block some. more.1 block (c.loop-dir.invariant.more.1 block some))) c.add_found-2.ensures.more

pub returns-clause-found : goal.returns-clause-found
returns-clause-found c = on_ok_weaker c.add_found-2.result (λ found. adds_then c.args.known.now c.args.gathered.now c.loop-dir.gathered _ c.loop-dir.invariant.found found) c.add_found-2.ensures.found
