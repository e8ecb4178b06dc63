use Rattle.ados_chain.proofs.Common.{◌≡◌, ◌<◌, ℕ, List, sym, subst, block_count, slot, LawfulChains, IsEntryBlock}
use Rattle.ados_chain.proofs.Spelling.{steps}
use Rattle.ados_chain.proofs.Changes.{slot-small}
use Rattle.ados_chain.proofs.Walks.{SearchedOn, key_in, steps_fall, searched_more, searched_all, found_here}
use Rattle.ados_chain.proofs.read.find.Goals as goal

-- the key at the walk's position is an entry
entry_of : (image : List ℕ) (dir : ℕ) (name : List ℕ) (key : ℕ) (chains : ℕ → List ℕ) → LawfulChains image dir chains → SearchedOn image name (chains (slot name)) key → (key ≡ 0 → ⊥) → IsEntryBlock image dir key
entry_of image dir name key chains h w n = h.entry (slot name) key (slot-small name) (key_in image dir chains h (slot name) (slot-small name) key w.front w.rest w.stands n)

pub has_name-requires-clause-inside : goal.has_name-requires-clause-inside
has_name-requires-clause-inside c =
    (entry_of c.args.image.now c.args.dir c.args.name.now c.loop-key.key c.requires.0 c.requires.1 (c.loop-key.invariant c.requires.0 c.requires.1) c.loop-key-test.true).inside.1

pub has_name-requires-clause-name : goal.has_name-requires-clause-name
has_name-requires-clause-name c =
    (entry_of c.args.image.now c.args.dir c.args.name.now c.loop-key.key c.requires.0 c.requires.1 (c.loop-key.invariant c.requires.0 c.requires.1) c.loop-key-test.true).name

pub returns-then-has_name : goal.returns-then-has_name
returns-then-has_name c =
    λ chains h.
    found_here c.args.image.now c.args.dir chains h (slot c.args.name.now) (slot-small c.args.name.now) c.args.name.now c.loop-key.key (c.loop-key.invariant chains h) c.loop-key-test.true (c.has_name.ensures.0 c.if-has_name.true)

pub long-key-requires-in-loop-key-clause-block : goal.long-key-requires-in-loop-key-clause-block
long-key-requires-in-loop-key-clause-block c =
    (entry_of c.args.image.now c.args.dir c.args.name.now c.loop-key.key c.requires.0 c.requires.1 (c.loop-key.invariant c.requires.0 c.requires.1) c.loop-key-test.true).inside.1

pub loop-key-smaller : goal.loop-key-smaller
loop-key-smaller c =
    let h = c.requires.1 in
    let w = c.loop-key.invariant c.requires.0 h in
    subst (λ (n : ℕ). steps c.args.image.now (block_count c.args.image.now) n < steps c.args.image.now (block_count c.args.image.now) c.loop-key.key)
    (sym c.long-key-in-loop-key.ensures)
    (steps_fall c.args.image.now c.args.dir c.requires.0 h (slot c.args.name.now) (slot-small c.args.name.now) c.loop-key.key w.front w.rest w.stands c.loop-key-test.true)

pub loop-key-preserved : goal.loop-key-preserved
loop-key-preserved c =
    λ chains h.
    searched_more c.args.image.now c.args.dir chains h (slot c.args.name.now) (slot-small c.args.name.now) c.args.name.now c.loop-key.key (c.loop-key.invariant chains h) c.loop-key-test.true
    (λ same. cc (c.has_name.ensures.1 same, c.if-has_name.false)) c.long-key-in-loop-key.result c.long-key-in-loop-key.ensures

pub returns : goal.returns
returns c =
    λ chains h.
    searched_all c.args.image.now c.args.dir chains h (slot c.args.name.now) (slot-small c.args.name.now) c.args.name.now
    (subst (λ (k : ℕ). SearchedOn c.args.image.now c.args.name.now (chains (slot c.args.name.now)) k) c.loop-key-test.false (c.loop-key.invariant chains h))
