use Rattle.adf_script.proofs.fields.read_field.Goals as goal

pub returns-in-Number : goal.returns-in-Number
returns-in-Number c = rw c.in-Number.is c.read_number.ensures

pub returns-in-Text : goal.returns-in-Text
returns-in-Text c = rw c.in-Text.is (c.read_text.ensures c.args.values.now)
