use Rattle.ados_census.specs.declared.class.BlockKind.TheVariants.{DirectoryHeader, FileHeader}
use Rattle.adf_record.proofs.Losing.{lost_as, lost_number}
use Rattle.adf_record.proofs.lost.lost_blocks.Goals as goal

pub returns : goal.returns
returns c = λ t s.
    let image = c.args.volume.now.image in
    let owners = c.in_ok-owners.owners.items in
    let are = c.in_ok-owners.ensures t s in
    let here = c.image-image.ensures.same in
    record {
      blocks = lost_number image t s owners are _ _ here c.deref.ensures.value _ c.count_lost.ensures;
      files = lost_as image t s owners are _ _ here c.deref-2.ensures.value _ FileHeader c.count_lost-2.ensures;
      directories = lost_as image t s owners are _ _ here c.deref-3.ensures.value _ DirectoryHeader c.count_lost-3.ensures;
    }
