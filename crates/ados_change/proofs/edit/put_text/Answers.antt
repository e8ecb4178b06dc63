use Rattle.ados_change.proofs.Common.{arith}
use Rattle.ados_change.proofs.Texts.{text_put}
use Rattle.ados_change.proofs.edit.put_text.Goals as goal

pub returns-clause-text : goal.returns-clause-text
returns-clause-text c = text_put c.args.image.now c.put_bytes.new.self c.put_bytes-2.new.self c.args.b c.args.at c.args.text.now
    c.requires.inside c.requires.room (c.put_bytes.ensures.put 0 (omega arith)) c.put_bytes.ensures.rest c.put_bytes-2.ensures.put c.put_bytes-2.ensures.rest
