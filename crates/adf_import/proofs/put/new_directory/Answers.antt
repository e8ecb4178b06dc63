use Rattle.adf_import.proofs.Putting.{made_directory, made_entry, made_has_room, made_keeps}
use Rattle.adf_import.proofs.put.new_directory.Goals as goal

pub returns-in-Ok-clause-directory : goal.returns-in-Ok-clause-directory
returns-in-Ok-clause-directory c =
    made_directory c.args.moment c.args.dir c.in-Ok.key c.args.name c.args.volume.now.image c.make_directory.new.volume.image c.image.ensures.stands c.requires.directory (λ t s. (c.in-Ok.ensures.made.0 t s).1) c.in-Ok.ensures.unused

pub returns-in-Ok-clause-entry : goal.returns-in-Ok-clause-entry
returns-in-Ok-clause-entry c =
    made_entry c.args.moment c.args.dir c.in-Ok.key c.args.name c.args.volume.now.image c.make_directory.new.volume.image c.image.ensures.stands c.requires.directory (λ t s. (c.in-Ok.ensures.made.0 t s).1) c.in-Ok.ensures.unused

pub returns-in-Ok-clause-keeps : goal.returns-in-Ok-clause-keeps
returns-in-Ok-clause-keeps c =
    made_keeps c.args.moment c.args.dir c.in-Ok.key c.args.name c.args.volume.now.image c.make_directory.new.volume.image c.image.ensures.stands c.requires.directory (λ t s. (c.in-Ok.ensures.made.0 t s).1) c.in-Ok.ensures.unused

pub returns-in-Ok-clause-made : goal.returns-in-Ok-clause-made
returns-in-Ok-clause-made c = (λ t s. let h = c.in-Ok.ensures.made.0 t s in (made_has_room t c.args.dir c.args.name (c.requires.free t s) h.0, h.1), c.in-Ok.ensures.made.1)
