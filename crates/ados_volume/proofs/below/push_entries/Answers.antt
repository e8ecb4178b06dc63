use Rattle.ados_volume.proofs.Common.{entries, placed, refl, ◌∷◌}
use Rattle.ados_volume.proofs.Taking.{pushed_more, taken_more}
use Rattle.ados_volume.proofs.below.push_entries.Goals as goal

pub loop-key-preserved : goal.loop-key-preserved
loop-key-preserved c = λ t s.
    let left = c.loop-key.invariant t s in (
      c.in-Some.key ∷ left.0,
      taken_more (entries t c.args.dir) c.loop-key.keys.items c.pop.new.self.items left.0 c.in-Some.key left.1 c.in-Some.ensures.items,
      pushed_more (placed c.args.above) c.push.new.self.items c.loop-key.waiting.items c.args.waiting.now.items c.in-Some.key left.0 (placed c.args.above c.in-Some.key) left.2 c.in_ok-push.ensures.items refl,
    )
