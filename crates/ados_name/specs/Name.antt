-- Names and comments, as lists of bytes; the steps of a path, its last name and the prefix before it; protection bits.
use Rattle.std.specs.Prelude.{◌≡◌, ◌≢◌, ℕ, ◌+◌, ◌-◌, ◌*◌, ◌%◌, ◌<◌, ◌≤◌, ◌==◌, ◌&&◌, ◌||◌, Bool, nat_le}
use Rattle.std.specs.Prelude.{if◌then◌else◌, List, map, length, fold, All, [], ◌∷◌, take}
use Rattle.std.specs.List.{list_any, after_first, after_last, slice_split}
use Rattle.std.specs.Int.{bit_at}

-- the byte `/`, which ends a component of a path
abbrev pub is_slash : ℕ → Bool
is_slash c = c == 47

-- the byte `:`, which ends the volume's name in a path
abbrev pub is_colon : ℕ → Bool
is_colon c = c == 58

-- a byte that no name contains
abbrev pub is_separator : ℕ → Bool
is_separator c = is_slash c || is_colon c

-- a to z in upper case, every other byte unchanged
abbrev pub upper : ℕ → ℕ
upper c = if nat_le 97 c && nat_le c 122 then c - 32 else c

-- two names are the same if they are equal in upper case
abbrev pub Same : List ℕ → List ℕ → Type 0
Same name other = map upper name ≡ map upper other

-- the hash of a name: its length, then each byte in upper case
unfoldable pub hash : List ℕ → ℕ
hash name = fold (λ h c. (13 * h + upper c) % 2048) (length name) name

-- the slot of the hash table whose hash chain holds the name
abbrev pub slot : List ℕ → ℕ
slot name = hash name % 72

-- a byte of a name: not `/` and not `:`
pub record IsNameByte (c : ℕ) : Type 0 where
  pub byte : c < 256
  pub no_slash : c ≢ 47
  pub no_colon : c ≢ 58

-- a name has 1 to 30 bytes
pub record IsName (name : List ℕ) : Type 0 where
  pub not_empty : 1 ≤ length name
  pub short : length name ≤ 30
  pub plain : All IsNameByte name

-- a comment has at most 79 bytes
pub record IsComment (comment : List ℕ) : Type 0 where
  pub short : length comment ≤ 79
  pub bytes : All (λ c. c < 256) comment

-- a set bit of 0 to 3 denies
abbrev pub denies_delete : ℕ → Bool
denies_delete bits = bit_at bits 0 == 1

abbrev pub denies_write : ℕ → Bool
denies_write bits = bit_at bits 2 == 1

abbrev pub denies_read : ℕ → Bool
denies_read bits = bit_at bits 3 == 1

-- the bits with bit 4 clear
abbrev pub without_archive : ℕ → ℕ
without_archive bits = bits - 16 * bit_at bits 4

-- one step of a walk: to the parent, or to the child with a name
pub data Step : Type 0 where
  ToParent : Step
  ToChild : List ℕ → Step

-- a path with a `:` starts at the root
abbrev pub is_from_root : List ℕ → Bool
is_from_root path = list_any is_colon path

-- parts between slashes: one that is not empty is a step to a child, an empty one to the parent, an empty last one none
abbrev pub steps_of_parts : List (List ℕ) → List Step
steps_of_parts [] = []
steps_of_parts ([] ∷ []) = []
steps_of_parts ([] ∷ part ∷ rest) = ToParent ∷ steps_of_parts (part ∷ rest)
steps_of_parts ((c ∷ cs) ∷ rest) = ToChild (c ∷ cs) ∷ steps_of_parts rest

-- the steps of a text without a volume's name
unfoldable pub steps_along : List ℕ → List Step
steps_along walked = steps_of_parts (slice_split is_slash walked)

-- the steps of a path: those after the first `:`, or of the whole path if it has none
unfoldable pub steps : List ℕ → List Step
steps path = steps_along (if is_from_root path then after_first is_colon path else path)

-- the longest suffix without `/` and `:`
unfoldable pub last_name : List ℕ → List ℕ
last_name path = after_last is_separator path

-- the prefix before the last name
unfoldable pub front : List ℕ → List ℕ
front path = take (length path - length (last_name path)) path
