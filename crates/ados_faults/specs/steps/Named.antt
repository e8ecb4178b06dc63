-- The names of entries, and the entries that share one.
use Rattle.std.specs.Prelude.{◌≡◌, ◌≢◌, ℕ, ◌<◌, List, Bool, Option, Some, MatchOption, option_and_then, length, slice_get, Contains}
use Rattle.std.specs.declared.cmp.Ordering.{Ordering}
use Rattle.std.specs.Ordering.{nat_cmp}
use Rattle.std.specs.Cmp.Lexicographic.{slice_cmp}
use Rattle.std.specs.BTreeMap.{BTreeMap, get}
use Rattle.adf_block.specs.Image.{block_count}
use Rattle.ados_model.specs.declared.fault.FaultKind.TheVariants.{DuplicateName}
use Rattle.ados_model.specs.declared.role.Role.TheVariants.{Entry}
use Rattle.ados_model.specs.Faults.{HasShortName, Reached}
use Rattle.ados_check.specs.Entries.{upper_name}
use Rattle.ados_faults.specs.declared.names.Named.{Named}
use Rattle.ados_faults.specs.steps.Blocks.{AreNextMet, IsEntryIn}
use Rattle.ados_faults.specs.steps.Noted.{IsNoted, cell_of}

-- the order of names, by their bytes
abbrev pub name_cmp : List ℕ → List ℕ → Ordering
name_cmp x y = slice_cmp nat_cmp x y

-- each name in the map is that of the block that it leads to
pub record AreKnown (image : List ℕ) (known : BTreeMap (List ℕ) ℕ) : Type 0 where
  pub leads : (name : List ℕ) (block : ℕ) → get name_cmp known name ≡ Some block → (block < block_count image) × (upper_name image block ≡ name)

-- each name leads to the same block as before
pub record AreStillKnown (known later : BTreeMap (List ℕ) ℕ) : Type 0 where
  pub stay : (name : List ℕ) (block : ℕ) → get name_cmp known name ≡ Some block → get name_cmp later name ≡ Some block

-- the map leads from the name of the block to this one, if the name is short; else there is none
abbrev pub IsFirstName : List ℕ → BTreeMap (List ℕ) ℕ → ℕ → Option ℕ → Type 0
IsFirstName image known block first = MatchOption first (¬ HasShortName image block) (λ name. HasShortName image block × (get name_cmp known (upper_name image block) ≡ Some name))

-- the list has for each block what its name leads to in one map
pub record AreFirstNames (image : List ℕ) (first : List (Option ℕ)) : Type 0 where
  pub known : BTreeMap (List ℕ) ℕ
  pub are_known : AreKnown image known
  pub size : length first ≡ block_count image
  pub each : (block : ℕ) (name : Option ℕ) → slice_get first block ≡ Some name → IsFirstName image known block name

-- the block has the same name as another one
pub record HasNameOf (image : List ℕ) (block other : ℕ) : Type 0 where
  pub short : HasShortName image block
  pub within : other < block_count image
  pub same : upper_name image block ≡ upper_name image other

-- the entry that was met with a name, if one was
abbrev pub named_in : List (Option Named) → ℕ → Option Named
named_in met name = option_and_then (λ named. named) (slice_get met name)

-- each entry that was met with a name has it
pub record AreNamesMet (image : List ℕ) (met : List (Option Named)) : Type 0 where
  pub size : length met ≡ block_count image
  pub entry : (name : ℕ) (named : Named) → named_in met name ≡ Some named → IsEntryIn image named.dir named.block
  pub named : (name : ℕ) (named : Named) → named_in met name ≡ Some named → HasNameOf image named.block name

-- an entry of the directory
abbrev pub named_of : ℕ → ℕ → Named
named_of dir block = record { dir = dir; block = block }

-- the entries that were met in the directory stay
pub record AreNamesKept (dir : ℕ) (met later : List (Option Named)) : Type 0 where
  pub stay : (name block : ℕ) → named_in met name ≡ Some (named_of dir block) → named_in later name ≡ Some (named_of dir block)

-- an entry with the name was met in the directory. If that is another block than this one, both are noted
pub record IsNameMet (cells : List Bool) (met : List (Option Named)) (dir block name : ℕ) : Type 0 where
  pub other : ℕ
  pub found : named_in met name ≡ Some (named_of dir other)
  pub here : block ≢ other → IsNoted cells (cell_of DuplicateName block)
  pub there : block ≢ other → IsNoted cells (cell_of DuplicateName other)

-- each of the first n blocks in a list was met with its name in the directory, if that is short
pub record AreFirstMet (cells : List Bool) (met : List (Option Named)) (first : List (Option ℕ)) (dir : ℕ) (blocks : List ℕ) (n : ℕ) : Type 0 where
  pub each : (k block name : ℕ) → k < n → slice_get blocks k ≡ Some block → slice_get first block ≡ Some (Some name) → IsNameMet cells met dir block name

-- each entry of the directory with the name of another one there is noted
pub record AreNamesNoted (image : List ℕ) (cells : List Bool) (dir : ℕ) : Type 0 where
  pub noted : (block other s t : ℕ) → Reached image block (Entry dir s) → Reached image other (Entry dir t) → HasShortName image block → HasShortName image other
      → upper_name image block ≡ upper_name image other → block ≢ other → IsNoted cells (cell_of DuplicateName block)

-- the next entry of each block in the list is in it, and each of them with the name of another one there is noted
pub record AreListedNoted (image : List ℕ) (cells : List Bool) (blocks : List ℕ) : Type 0 where
  pub closed : AreNextMet image blocks (length blocks)
  pub noted : (block other : ℕ) → Contains blocks block → Contains blocks other → HasShortName image block → HasShortName image other
      → upper_name image block ≡ upper_name image other → block ≢ other → IsNoted cells (cell_of DuplicateName block)

-- each entry of each directory with the name of another one there is noted
pub record AreDuplicatesNoted (image : List ℕ) (cells : List Bool) : Type 0 where
  pub noted : (dir : ℕ) → AreNamesNoted image cells dir
