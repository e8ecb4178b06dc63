use Rattle.adf_io.proofs.load.load_filled.Goals as goal

pub returns-clause-err : goal.returns-clause-err
returns-clause-err g c = c.fill_file.ensures.err _ _
