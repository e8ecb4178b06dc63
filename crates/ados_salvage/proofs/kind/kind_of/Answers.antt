use Rattle.ados_salvage.proofs.Voting.{entries_inside}
use Rattle.ados_salvage.proofs.kind.kind_of.Goals as goal

pub votes_of-reached-requires : goal.votes_of-reached-requires
votes_of-reached-requires c = entries_inside c.args.image.now c.blocks-2.ensures.image c.in_ok-entries.entries.items c.deref.result.now c.in_ok-entries.ensures c.deref.ensures.value
