use Rattle.adf_where.proofs.Common.{◌≤◌, sym, ap, ◌∙◌, arith, count_same}
use Rattle.adf_block.specs.Image.{block_count}
use Rattle.adf_where.proofs.Deep.{climbs_none, climbs_on, deep_path}
use Rattle.adf_where.proofs.short_path.is_deep.Goals as goal

pub loop-level-init : goal.loop-level-init
loop-level-init c = record { key = c.requires; climbs = λ t s. climbs_none t c.args.key }

pub loop-level-preserved : goal.loop-level-preserved
loop-level-preserved c = record {
  key = c.in-Some.ensures.key;
  climbs = λ t s. climbs_on t c.loop-level._level c.args.key c.loop-level.above c.in-Some.dir (c.loop-level.invariant.climbs t s) (sym (c.parent.ensures.parent t s) ∙ c.in-Some.is);
}

pub returns : goal.returns
returns c = λ deep t s.
    let count = c.blocks-2.ensures.count ∙ ap block_count c.image.ensures.same ∙ count_same c.args.volume.now.image t s in
    let within : c.loop-level._level ≤ t.blocks = omega (arith, count) in
    let long = deep_path t c.loop-level._level c.args.key c.loop-level.above (c.loop-level.invariant.climbs t s) within in
    omega (arith, long)
