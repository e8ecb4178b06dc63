use Rattle.std.proofs.Common.{refl, sym, arith}
use Rattle.ados_salvage.proofs.lost.follow_long.Goals as goal

pub add_lost-requires-clause-lost : goal.add_lost-requires-clause-lost
add_lost-requires-clause-lost c = record {
  inside = (c.if-named-lt-BOOT_BLOCKS.false, omega (arith, c.if-named-blocks.false, c.blocks-else-named-lt-BOOT_BLOCKS.ensures.count));
  named = (_, record { holder = c.args.block; at = c.args.at; accepted = c.requires.accepted; place = (c.in-Some.ensures _).1 refl; named = sym c.long-named.ensures });
  untold = λ header. absurd (cc (c.has.ensures.1 (c.requires.headers c.long-named.result header), c.if-has.false));
  kept = rw c.if-has-2.false at c.has-2.ensures;
}

pub returns-in_default-clause-followed : goal.returns-in_default-clause-followed
returns-in_default-clause-followed c = λ dir named place. absurd (cc ((c.in_default.ensures dir).0 place))
