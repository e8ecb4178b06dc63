use Rattle.ados_volume.proofs.Common.{Stands, Tree, ap, ap₂, inr, is_some, name_in, entries, name_of, slot, sym, ℕ, ◌==◌, ◌∙◌, ◌≡◌, eq-eqb}
use Rattle.ados_change.proofs.Entering.{Contains-passes}
use Rattle.ados_model.proofs.Nodes.{entry_node}
use Rattle.ados_volume.proofs.entries.near.Goals as goal

pub name_in-requires-clause-key : goal.name_in-requires-clause-key
name_in-requires-clause-key c = λ t s. ap is_some (entry_node t s.proper c.args.dir c.in-Some.last (c.requires.listed c.args.dir c.in-Some.last c.in-Some.ensures t s)).1

pub returns-then-slot : goal.returns-then-slot
returns-then-slot c = λ t s.
    let there = c.requires.listed c.args.dir c.in-Some.last c.in-Some.ensures t s in
    let a = entry_node t s.proper c.args.dir c.in-Some.last there in
    let own : c.name_in.result ≡ name_of t c.in-Some.last = c.name_in.ensures t a.0 s a.1 ∙ sym (ap name_in a.1) in
    let same : slot (name_of t c.in-Some.last) ≡ slot c.args.name.now = sym (ap slot own) ∙ sym c.slot.ensures.value ∙ c.if-slot.true ∙ c.slot-2.ensures.value in
    inr (Contains-passes (λ j. slot (name_of t j) == slot c.args.name.now) (entries t c.args.dir) c.in-Some.last there (eq-eqb (slot (name_of t c.in-Some.last)) (slot c.args.name.now) same))
