-- A deleted entry as a JSON object.
use Rattle.std.specs.Prelude.{ℕ, List, [], ◌∷◌, ◌++◌, drop, codes, decimal, Option, Some, None, option_map}
use Rattle.json.specs.Token.{Token, begin_object, end_object, key, number, string}
use Rattle.ados_salvage.specs.declared.known.deleted.Deleted.{Deleted}
use Rattle.ados_salvage.specs.declared.known.deleted.Recovery.{Recovery}
use Rattle.ados_salvage.specs.declared.known.deleted.Recovery.TheVariants.{Directory, Free, Used, Shared, NotIntact}
use Rattle.adf_text.specs.Letters.{letters}
use Rattle.adf_record.specs.Members.{number_token, string_token}

-- how much of an entry can be recovered, as one word
abbrev pub recovery_word : Recovery → List ℕ
recovery_word Directory = codes "directory"
recovery_word (Free all) = codes "free"
recovery_word (Used used all by) = codes "used"
recovery_word (Shared shared all) = codes "shared"
recovery_word NotIntact = codes "damaged"

-- the number of its blocks, where it is known
abbrev pub blocks_of : Recovery → Option ℕ
blocks_of (Free all) = Some all
blocks_of (Used used all by) = Some all
blocks_of (Shared shared all) = Some all
blocks_of recovery = None

-- the number of them that another entry has
abbrev pub taken_of : Recovery → Option ℕ
taken_of (Free all) = Some 0
taken_of (Used used all by) = Some used
taken_of (Shared shared all) = Some shared
taken_of recovery = None

-- the header of an entry that has some of its blocks now, where one is known
abbrev pub user_of : Recovery → Option ℕ
user_of (Used used all by) = by
user_of recovery = None

-- the members for how much of it can be recovered
abbrev pub recovery_tokens : Recovery → List Token
recovery_tokens recovery =
    key (codes "recovery") ∷ string (recovery_word recovery) ∷ key (codes "blocks") ∷ number_token (blocks_of recovery)
    ∷ key (codes "taken") ∷ number_token (taken_of recovery) ∷ key (codes "by") ∷ number_token (user_of recovery) ∷ []

-- the object of a deleted entry: its path in letters, or null if it has none; its header, and how much of it can be recovered
abbrev pub deleted_tokens : Option (List ℕ) → Deleted → List Token
deleted_tokens path deleted =
    begin_object ∷ key (codes "path") ∷ string_token (option_map (λ path. letters (drop 1 path)) path)
    ∷ key (codes "header") ∷ number (decimal deleted.header) ∷ recovery_tokens deleted.recovery ++ end_object ∷ []
