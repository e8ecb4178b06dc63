use Rattle.std.proofs.Common.{◌∙◌, sym}
use Rattle.ados_volume.proofs.Examining.{entry_of, file_is, file_type_is, directory_type_is}
use Rattle.ados_volume.proofs.examine.entry_type_in.Goals as goal

pub returns-then-is_file_in : goal.returns-then-is_file_in
returns-then-is_file_in c = λ t node s e.
    let entry = entry_of c.args.image.now t s c.args.key node e (λ r. c.if-key-root.false (r ∙ sym c.root.ensures)) in
    file_type_is node.parent entry.0 node.content entry.1 (c.if-is_file_in.ensures t s ∙ file_is c.args.image.now t s c.args.key node e)

pub returns-else-is_file_in : goal.returns-else-is_file_in
returns-else-is_file_in c = λ t node s e.
    let entry = entry_of c.args.image.now t s c.args.key node e (λ r. c.if-key-root.false (r ∙ sym c.root.ensures)) in
    directory_type_is node.parent entry.0 node.content entry.1 (c.if-is_file_in.ensures t s ∙ file_is c.args.image.now t s c.args.key node e)
