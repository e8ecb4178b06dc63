use Rattle.ados_change.proofs.Summing.{text_settled}
use Rattle.ados_change.proofs.settled.settle_text.Goals as goal

pub returns-clause-text : goal.returns-clause-text
returns-clause-text c =
    text_settled c.args.b c.args.at c.args.text.now c.put_text.new.image c.settle.new.self c.requires.place c.requires.room c.settle.ensures.rest c.put_text.ensures.text
