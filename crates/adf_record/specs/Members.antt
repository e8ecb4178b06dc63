-- The values of members, as tokens.
use Rattle.std.specs.Prelude.{ℕ, List, decimal, Option, Some, None}
use Rattle.json.specs.Token.{Token, string, number, null}

-- a text, or null
abbrev pub string_token : Option (List ℕ) → Token
string_token (Some text) = string text
string_token None = null

-- a number, or null
abbrev pub number_token : Option ℕ → Token
number_token (Some n) = number (decimal n)
number_token None = null
