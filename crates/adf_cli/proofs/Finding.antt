-- Dates and numbers that are found of a text, and what is told of one that has none.
use Rattle.std.proofs.Common.{◌≡◌, ◌∙◌, ℕ, List, Ok, Option, Result, Some, None, subst, sym}
use Rattle.std.specs.Prelude.{MatchOption}
use Rattle.ados_name.specs.declared.stamp.Date3.{Date3}
use Rattle.adf_text.specs.Written.{HasNoWritten, IsWritten}
use Rattle.adf_cli.specs.Given.{TellsOf}
use Rattle.adf_cli.specs.declared.fault.WordsFault.{WordsFault}
use Rattle.adf_cli.specs.declared.fault.WordsFault.TheVariants.{Usage, Memory}

-- what is found of the text
abbrev pub IsFound : List ℕ → Option Date3 → Type 0
IsFound text found = MatchOption found (HasNoWritten text) (λ date. IsWritten date text)

-- the date of a text is that of the same argument
pub date_found : (text word : List ℕ) (found : Option Date3) (date : Date3) → text ≡ word → found ≡ Some date → IsFound text found → IsWritten date word
date_found text word found date same is h = subst (λ (t : List ℕ). IsWritten date t) same (subst (IsFound text) is h)

-- a text without a date is an argument without one
pub none_found : (text word : List ℕ) (found : Option Date3) → text ≡ word → found ≡ None → IsFound text found → HasNoWritten word
none_found text word found same is h = subst HasNoWritten same (subst (IsFound text) is h)

-- a result has one number
pub same_number : {E : Type 0} (found : Result ℕ E) (number n : ℕ) → found ≡ Ok number → found ≡ Ok n → number ≡ n
same_number found number n one other = cc (sym one ∙ other)

-- whatever fault it is, what holds may be told
pub told : (why : Type 0) (fault : WordsFault) → why → TellsOf why fault
told why (Usage text) holds = holds
told why Memory holds = tt
