use Rattle.std.proofs.Common.{◌≡◌, [], ◌∷◌, arith, rules}
use Rattle.ados_census.proofs.Marking.{fewer_unmarked}
use Rattle.ados_salvage.proofs.PointerBlocks.{are_holders, follows_header, follows_more, passed_more}
use Rattle.ados_salvage.proofs.known.holders.holders_of.Goals as goal

pub loop-next-init : goal.loop-next-init
loop-next-init c =
    let alone : c.push.new.self.items ≡ c.args.file ∷ [] = search rules in
    follows_header c.args.image.now c.args.file c.args.passed.now.items c.push.new.self.items c.requires.inside c.requires.passed alone

pub loop-next-smaller : goal.loop-next-smaller
loop-next-smaller c = fewer_unmarked c.loop-next.passed.items c.in-Some.next (omega (arith, c.in-Some.ensures.next.inside.1, c.loop-next.invariant.size)) c.in-Some.ensures.free

pub loop-next-preserved : goal.loop-next-preserved
loop-next-preserved c =
    follows_more c.args.image.now c.args.file c.loop-next.passed.items c.loop-next.holders.items c.loop-next.holder c.loop-next.invariant c.requires.inside c.in-Some.next c.in-Some.ensures
    c.push-in-Some.new.self.items c.in_ok-push-2.ensures.items

pub returns-clause-passed : goal.returns-clause-passed
returns-clause-passed c = passed_more c.args.image.now c.args.file c.loop-next.passed.items c.loop-next.holders.items c.loop-next.holder c.loop-next.invariant c.in_default.ensures

pub returns-clause-holders : goal.returns-clause-holders
returns-clause-holders c =
    are_holders c.args.image.now c.args.file c.loop-next.passed.items c.loop-next.holders.items c.loop-next.holder c.loop-next.invariant c.in_default.ensures (c.is_file.ensures.0 c.if-not-is_file.false)
