use Rattle.adf_io.proofs.load.load_front.Goals as goal

pub returns-clause-err : goal.returns-clause-err
returns-clause-err g c = c.split_file.ensures.err _ _
