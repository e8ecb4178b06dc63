use Rattle.adf_text.proofs.LettersLemmas.{chars-letters}
use Rattle.adf_text.proofs.letters.letters_come_back.Goals as goal

pub returns : goal.returns
returns c = chars-letters
