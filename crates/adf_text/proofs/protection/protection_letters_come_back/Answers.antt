use Rattle.adf_text.proofs.ProtectionLettersLemmas.{AreLetters-letters, protection_of-letters}
use Rattle.adf_text.proofs.protection.protection_letters_come_back.Goals as goal

pub returns : goal.returns
returns c = λ bits. (AreLetters-letters bits, protection_of-letters bits)
