use Rattle.std.proofs.Common.{map, get_or, arith}
use Rattle.adf_import.proofs.Turning.{among_words, foreign_in, no_text, text_of}
use Rattle.adf_import.proofs.words.words_of.Goals as goal

pub returns-in-Err-clause-fault : goal.returns-in-Err-clause-fault
returns-in-Err-clause-fault c =
    foreign_in (map text_of c.args.texts.now) (text_of (get_or c.args.texts.now c.loop-text.text-index no_text)) c.in-Err.fault (among_words text_of c.args.texts.now c.loop-text.text-index no_text (omega arith)) c.in-Err.ensures.fault
