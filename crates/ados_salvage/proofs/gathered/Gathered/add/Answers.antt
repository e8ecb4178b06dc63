use Rattle.ados_salvage.proofs.Common.{inl, ℕ, refl, sym, subst, ◌∙◌, ◌+◌, ap, header_inside, header_looks, broken_length, State}
use Rattle.ados_salvage.specs.Missing.{TellsMissing}
use Rattle.ados_salvage.proofs.Growing.{gathers_more}
use Rattle.ados_salvage.proofs.gathered.Gathered.add.Goals as goal

pub entry_of-entry-requires : goal.entry_of-entry-requires
entry_of-entry-requires c = header_looks c.args.known.now.left_out c.args.known.now.image c.args.block c.requires.met.0

pub returns-clause-more : goal.returns-clause-more
returns-clause-more c =
    (gathers_more c.args.known.now c.args.self.now _ c.requires.gathered c.entry_of-entry.result c.args.block
    (inl (c.entry_of-entry.ensures.told c.args.known.now.left_out c.args.known.now.holes.items c.args.known.now.fillers c.requires.met.0 c.in_ok-state.ensures.state)) c.entry_of-entry.ensures.header (header_inside c.args.known.now.left_out c.args.known.now.image c.args.block c.requires.met.0) c.requires.met.1 c.len-place.result
    c.in_ok-push.ensures.items refl (c.len-place.ensures ∙ c.args.self.now.entries.ok.0) c.in_ok-state.ensures.giving
    (ap (λ (state : State). broken_length state + c.state_of.new.giving.left) c.entry_of-entry.ensures.state ∙ c.in_ok-state.ensures.left) c.in_ok-state.ensures.more
    (λ none. subst (λ (state : State). TellsMissing c.args.known.now.image c.state_of.new.giving.pieces.items c.len-place.result c.entry_of-entry.result.header state) (sym c.entry_of-entry.ensures.state)
    (subst (λ (header : ℕ). TellsMissing c.args.known.now.image c.state_of.new.giving.pieces.items c.len-place.result header c.in_ok-state.state) (sym c.entry_of-entry.ensures.header) (c.in_ok-state.ensures.missing none)))).0

pub returns-clause-added : goal.returns-clause-added
returns-clause-added c = record {
  entry = c.entry_of-entry.result;
  salvaged = c.entry_of-entry.ensures.told c.args.known.now.left_out c.args.known.now.holes.items c.args.known.now.fillers c.requires.met.0 c.in_ok-state.ensures.state;
  as_found = c.entry_of-entry.ensures.found;
  added = c.in_ok-push.ensures.items;
}
