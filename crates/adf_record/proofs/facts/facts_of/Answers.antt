use Rattle.adf_record.proofs.Common.{◌≡◌, ℕ, List, ap, sym, ◌∙◌, subst, format_of, block_count, FileInfo, name_of, root, some_in, count_same, format_is}
use Rattle.ados_model.specs.declared.answer.DiskInfo.{DiskInfo}
use Rattle.ados_model.specs.Parts.{name_in}
use Rattle.adf_block.specs.BootCode.{IsBootCode}
use Rattle.adf_record.proofs.facts.facts_of.Goals as goal

pub returns : goal.returns
returns c = λ t s.
    let image = c.args.volume.now.image in
    let same = c.image-image.ensures.same in
    let root_is : c.root.result ≡ root t = c.root.ensures.root t s in
    let n = some_in (t.nodes c.root.result) (c.root.ensures.key t s) in
    record {
      label = ap (λ (info : FileInfo). info.name) (c.examine.ensures t n.0 s n.1) ∙ sym (ap name_in n.1) ∙ ap (name_of t) root_is;
      format = c.format.ensures ∙ ap format_of same ∙ format_is image t s;
      blocks = c.blocks-2.ensures.count ∙ ap block_count same ∙ count_same image t s;
      bitmap = c.was_validated.ensures;
      counts = c.in_ok-counts.ensures t s;
      used = ap (λ (info : DiskInfo). info.used) (c.info.ensures t s);
      unused = c.free_blocks.ensures t s;
      created = c.root_date.ensures t s ∙ s.root_fields.creation_date;
      changed = c.root_date-2.ensures t s ∙ s.root_fields.disk_date;
      boot = subst (λ (bytes : List ℕ). IsBootCode bytes c.boot_code.result) same c.boot_code.ensures;
      lost = c.in_ok-lost.ensures t s;
    }
