use Rattle.ados_salvage.proofs.KnownCommon.{ℕ, ◌<◌, All, List, MatchBool, sym, subst, ◌∙◌, block_count}
use Rattle.ados_census.specs.Fillers.{HoldsFiller}
use Rattle.ados_salvage.proofs.FileBlocks.{data_within, intact_known}
use Rattle.ados_salvage.proofs.known.whole.has_no_filler.Goals as goal

pub named_blocks-requires : goal.named_blocks-requires
named_blocks-requires c = c.requires.header.inside.1

pub returns-in_default : goal.returns-in_default
returns-in_default c = absurd ((rw c.in_default.is at c.in_ok-blocks.ensures) (intact_known c.args.image.now c.args.file c.requires))

pub data_among-requires-clause-blocks : goal.data_among-requires-clause-blocks
data_among-requires-clause-blocks c = c.deref.ensures.value ∙ (rw c.in-Some.is at c.in_ok-blocks.ensures).1

pub hold_no_filler-requires : goal.hold_no_filler-requires
hold_no_filler-requires c =
    subst (All (λ (block : ℕ). block < block_count c.args.image.now)) (sym c.data_among.ensures) (data_within c.args.image.now c.args.file c.requires.lawful)

pub returns : goal.returns
returns c =
    subst (λ (blocks : List ℕ). MatchBool c.hold_no_filler.result (All (λ (block : ℕ). ¬ HoldsFiller c.args.image.now block) blocks) (¬ All (λ (block : ℕ). ¬ HoldsFiller c.args.image.now block) blocks))
    c.data_among.ensures c.hold_no_filler.ensures
