use Rattle.ados_salvage.proofs.Common.{inl, inr, List, ℕ, subst, IfOk-weaker, Stands, Tree, AreOfTree, IsReadAs, SavesRest, SavesTree}
use Rattle.ados_model.proofs.NoFaults.{faults_have_no_tree}
use Rattle.ados_salvage.proofs.Answering.{same_tree, saves_beside}
use Rattle.ados_salvage.proofs.salvaging.salvage_of.Goals as goal

pub returns-in-Ok-clause-salvages : goal.returns-in-Ok-clause-salvages
returns-in-Ok-clause-salvages c =
    saves_beside c.volume_entries.result c.args.holes.items c.args.listed c.args.image (SavesTree c.args.listed c.args.image) (λ saved all. inl all) (c.volume_entries.ensures.saves c.args.image c.in-Ok.ensures)
    c.volume_entries.ensures.holes

pub returns-in-Ok-clause-tree : goal.returns-in-Ok-clause-tree
returns-in-Ok-clause-tree c =
    IfOk-weaker c.volume_entries.result (SavesTree c.args.listed c.args.image) (λ saved. (t : Tree) → Stands c.args.image t → AreOfTree t saved)
    (λ saved all t s. all.tree t (same_tree c.args.image saved.image all.validated all.accepts t s)) (c.volume_entries.ensures.saves c.args.image c.in-Ok.ensures)

pub returns-in_ok-image-in_default : goal.returns-in_ok-image-in_default
returns-in_ok-image-in_default c =
    let read = subst (λ (xs : List ℕ). IsReadAs xs c.in_ok-image-in_default.image) c.in-Err.ensures.0 c.in_ok-image-in_default.ensures in
    record {
      salvages = saves_beside c.told_headers.result c.args.holes.items c.args.listed c.args.image (SavesRest c.args.image) (λ saved rest. inr rest) (c.told_headers.ensures.saves c.args.image read) c.told_headers.ensures.holes;
      tree = IfOk-weaker c.told_headers.result (SavesRest c.args.image) (λ saved. (t : Tree) → Stands c.args.image t → AreOfTree t saved)
          (λ saved rest t s. elim c.in-Err.ensures.1 [
            | inl shown ↦ absurd (faults_have_no_tree c.args.image t c.in-Err.rejected.fault.kind c.in-Err.rejected.fault.block shown s)
            | inr memory ↦ absurd (c.in_default.not-NoMemory memory.0)
          ]) (c.told_headers.ensures.saves c.args.image read);
    }
