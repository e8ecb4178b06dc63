use Rattle.ados_faults.proofs.Common.{inl, inr, sym, subst, ◌∙◌, Reached, IsOfType, only_root}
use Rattle.ados_faults.proofs.Enumerated.{grown_all}
use Rattle.ados_faults.proofs.typed.add_step.Goals as goal
use Rattle.ados_faults.proofs.typed.add_step.Goals.{in-Root, in-Entry}

pub returns-clause-typed : goal.returns-clause-typed
returns-clause-typed c = λ all.
    let image = c.args.image.now in
    let block = c.args.step.block in
    let typed : IsOfType image c.args.kind block = elim c.match-step.branch [
      | in-Root w ↦ inl (only_root c.requires.step.reached w.in-Root.is, w.if-kind-eq-DIRECTORY_TYPE.true)
      | in-Entry w ↦ inr (w.in-Entry.field-0, w.in-Entry.field-1, subst (Reached image block) w.in-Entry.is c.requires.step.reached, sym w.long.ensures ∙ w.if-long-kind.true)
    ] in
    grown_all image block c.args.blocks.now.list.items c.add.new.self.list.items c.in_ok-add.ensures.grown (IsOfType image c.args.kind) all (λ _. typed)
