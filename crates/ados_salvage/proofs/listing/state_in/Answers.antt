use Rattle.ados_change.proofs.Renewed.{file_inside, file_writable}
use Rattle.ados_salvage.proofs.Holding.{holds_directory, holds_whole, key_inside}
use Rattle.ados_salvage.proofs.listing.state_in.Goals as goal

pub returns-then-is_file-clause-state : goal.returns-then-is_file-clause-state
returns-then-is_file-clause-state c = λ t node s at. holds_whole c.args.volume.now.image t s c.args.key node at (c.is_file.ensures.file_key c.if-is_file.true)

pub returns-then-is_file-clause-readable : goal.returns-then-is_file-clause-readable
returns-then-is_file-clause-readable c =
    let tree = c.image.ensures.stands in
    let file = c.is_file.ensures.file_key c.if-is_file.true in
    record { inside = file_inside c.args.volume.now.image c.args.key tree file; lawful = (file_writable c.args.volume.now.image c.args.key tree file).lawful }

pub returns-else-is_file-clause-state : goal.returns-else-is_file-clause-state
returns-else-is_file-clause-state c = λ t node s at. holds_directory c.args.volume.now.image t s c.args.key node at (c.is_file.ensures.directory c.if-is_file.false)

pub returns-then-is_file-clause-inside : goal.returns-then-is_file-clause-inside
returns-then-is_file-clause-inside c =
    let tree = c.image.ensures.stands in
    key_inside c.args.volume.now.image tree.0 tree.1 c.args.key (c.requires tree.0 tree.1)

pub returns-else-is_file-clause-inside : goal.returns-else-is_file-clause-inside
returns-else-is_file-clause-inside c =
    let tree = c.image.ensures.stands in
    key_inside c.args.volume.now.image tree.0 tree.1 c.args.key (c.requires tree.0 tree.1)
