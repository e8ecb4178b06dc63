use Rattle.std.proofs.Common.{ℕ, Bool, List, ap, sym, subst, ◌∙◌}
use Rattle.adf_archive.proofs.Common.{block_count, name_of, some_in}
use Rattle.adf_block.specs.Boot.{HasKind}
use Rattle.ados_model.specs.Accepted.{Accepts}
use Rattle.ados_model.specs.Parts.{name_in}
use Rattle.ados_model.specs.declared.answer.FileInfo.{FileInfo}
use Rattle.adf_archive.proofs.checking.accepted.Goals as goal
use Rattle.adf_archive.proofs.checking.accepted.Goals.{then-detail+in_ok-counts_of, else-detail, then-wants_suspects+in_ok-suspects_of, else-wants_suspects}

pub returns : goal.returns
returns c = λ old a marks. record {
  is = record {
    checked = c.args.volume.now.image;
    accepts = subst (λ (b : Bool). Accepts old b c.args.volume.now.image) (sym c.was_validated.ensures) a;
    kind = subst (λ (image : List ℕ). HasKind image c.boot_kind.result) c.image-image.ensures.same c.boot_kind.ensures;
    blocks = c.blocks-2.ensures.count ∙ ap block_count c.image-image.ensures.same;
    asked = elim c.if-detail.branch [
      | then-detail+in_ok-counts_of w ↦ rw w.contents-is (sym w.if-detail.true)
      | else-detail w ↦ rw w.contents-is (sym w.if-detail.false)
    ];
    contents = elim c.if-detail.branch [
      | then-detail+in_ok-counts_of w ↦
          rw w.contents-is (λ t s.
          let n = some_in (t.nodes w.root.result) (w.root.ensures.key t s) in
          record {
            name = ap (λ (info : FileInfo). info.name) (w.examine.ensures t n.0 s n.1) ∙ sym (ap name_in n.1) ∙ ap (name_of t) (w.root.ensures.root t s);
            counts = w.in_ok-counts_of.ensures t s;
            free = w.free_blocks.ensures t s;
          })
      | else-detail w ↦ rw w.contents-is tt
    ];
    wanted = elim c.if-wants_suspects.branch [
      | then-wants_suspects+in_ok-suspects_of w ↦ rw w.suspects-is (sym w.if-wants_suspects.true ∙ c.wants_suspects.ensures)
      | else-wants_suspects w ↦ rw w.suspects-is (sym w.if-wants_suspects.false ∙ c.wants_suspects.ensures)
    ];
    suspects = elim c.if-wants_suspects.branch [
      | then-wants_suspects+in_ok-suspects_of w ↦ rw w.suspects-is (c.args.marks.now, marks, w.in_ok-suspects_of.ensures)
      | else-wants_suspects w ↦ rw w.suspects-is tt
    ];
  };
  each = λ wanted. tt;
  one = λ first. tt;
}
