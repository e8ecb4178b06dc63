use Rattle.std.proofs.Common.{inr, sym, subst, ◌∙◌, refl}
use Rattle.ados_salvage.specs.Missing.{TellsMissing}
use Rattle.ados_salvage.proofs.Growing.{gathers_more, lost_takes_none, lost_told}
use Rattle.ados_salvage.proofs.MissingBlocks.{gives_none}
use Rattle.ados_salvage.proofs.gathered.Gathered.add_lost.Goals as goal

pub returns-clause-more : goal.returns-clause-more
returns-clause-more c =
    (gathers_more c.args.known.now c.args.self.now _ c.requires.gathered c.told_by_name-entry.result c.args.block
    (inr (lost_told c.args.known.now.left_out c.args.known.now.image c.args.block c.told_by_name-entry.result c.requires.lost c.told_by_name-entry.ensures.header c.in_ok-name.name c.told_by_name-entry.ensures.name c.in_ok-name.ensures c.told_by_name-entry.ensures.state))
    c.told_by_name-entry.ensures.header c.requires.lost.inside.1 c.requires.free c.len-place.result c.in_ok-push.ensures.items refl (c.len-place.ensures ∙ c.args.self.now.entries.ok.0) c.requires.gathered.so_far.giving
    (lost_takes_none c.told_by_name-entry.result c.args.self.now.giving.left c.told_by_name-entry.ensures.state)
    (gives_none c.args.known.now.image c.args.block c.len-place.result c.args.self.now.giving.pieces.items c.args.self.now.giving.pieces.items refl)
    (λ none. subst (TellsMissing c.args.known.now.image c.args.self.now.giving.pieces.items c.len-place.result c.told_by_name-entry.result.header) (sym c.told_by_name-entry.ensures.state) tt)).0
