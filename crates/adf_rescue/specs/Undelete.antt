-- Deleted entries of an image: their paths, the arguments that choose them, the lines about them, and what of them is written.
use Rattle.std.specs.Prelude.{◌≡◌, ⊤, ℕ, ◌∷◌, ◌++◌, ◌||◌, ◌-◌, ◌==◌, nat_le, Bool, true, false, if◌then◌else◌, List, [], map, flat_map, length, take, drop, slice_get, codes, decimal, Option, Some, None, option_map}
use Rattle.std.specs.List.{list_any}
use Rattle.std.specs.Option.{option_map_or}
use Rattle.std.specs.Str.{bytes_eq, chars}
use Rattle.ados_name.specs.Name.{Step, steps, upper}
use Rattle.ados_name.specs.Name.Step.{ToParent, ToChild}
use Rattle.adf_text.specs.Letters.{letters}
use Rattle.adf_text.specs.Plain.{plain}
use Rattle.ados_salvage.specs.Deleted.{IsTrustedBitmap}
use Rattle.ados_salvage.specs.Salvaged.{ended}
use Rattle.ados_salvage.specs.Undeleted.{IsRead, IsUndeleted}
use Rattle.ados_salvage.specs.declared.known.deleted.Deleted.{Deleted}
use Rattle.ados_salvage.specs.declared.known.deleted.Recovery.{Recovery}
use Rattle.ados_salvage.specs.declared.known.deleted.Recovery.TheVariants.{Directory, Free, Used, Shared, NotIntact}
use Rattle.ados_salvage.specs.declared.salvaged.Salvaged.{Salvaged}
use Rattle.ados_salvage.specs.declared.undeleted.Undeleted.{Undeleted}
use Rattle.json.specs.Print.{print}
use Rattle.adf_rescue.specs.Paths.{ArePathsApart}
use Rattle.adf_rescue.specs.DeletedObject.{deleted_tokens, user_of}
use Rattle.adf_rescue.specs.declared.chosen.Chosen.{Chosen}
use Rattle.adf_rescue.specs.declared.placing.Placed.{Placed}
use Rattle.adf_rescue.specs.declared.placing.TheConstants.{MOST_PATH_BYTES}
use Rattle.adf_rescue.specs.declared.sourced.Source.{Source}
use Rattle.adf_rescue.specs.declared.sourced.Source.TheVariants as sources
use Rattle.adf_rescue.specs.declared.undeleting.Undeletion.{Undeletion}
use Rattle.adf_rescue.specs.declared.undelete_fault.UndeleteFault.{UndeleteFault}
use Rattle.adf_rescue.specs.declared.undelete_fault.UndeleteFault.TheVariants.{NoTrustedBitmap, NothingDeleted, Host, Memory}

-- an entry below the root: its path, a slash before each name, if that is not too long; and whether an argument chooses it
pub record Place : Type 0 where
  pub path : Option (List ℕ)
  pub asked : Bool

-- what is known of an entry in memory
abbrev pub seen_place : Placed → Place
seen_place placed = record { path = option_map (λ path. path.items) placed.path; asked = placed.asked }

-- the names from the root that steps lead along; there is nothing above the root
abbrev pub names_along : List (List ℕ) → List Step → List (List ℕ)
names_along names [] = names
names_along names (ToParent ∷ rest) = names_along (take (length names - 1) names) rest
names_along names (ToChild name ∷ rest) = names_along (names ++ name ∷ []) rest

-- a slash before each name
abbrev pub slashed : List (List ℕ) → List ℕ
slashed names = flat_map (λ name. 47 ∷ name) names

-- a path in upper case, in letters
abbrev pub key_text : List ℕ → List ℕ
key_text path = letters (map upper path)

-- the path that an argument names
abbrev pub key_of : List ℕ → List ℕ
key_of word = key_text (slashed (names_along [] (steps (chars word))))

-- the arguments name this path
abbrev pub is_named : List (List ℕ) → List ℕ → Bool
is_named keys path = list_any (λ key. bytes_eq key (key_text path)) keys

-- everything in the root is chosen: there is no argument, or one that names the root
abbrev pub takes_root : List (List ℕ) → Bool
takes_root keys = length keys == 0 || is_named keys []

-- what is known of the directory of an entry: the root, one of the entries before, or nothing
abbrev pub above_in : List (List ℕ) → List Place → Option ℕ → Option Place
above_in keys before None = Some (record { path = Some []; asked = takes_root keys })
above_in keys before (Some dir) = slice_get before dir

-- a path, unless it is too long
abbrev pub if_short : List ℕ → Option (List ℕ)
if_short path = if nat_le (length path) MOST_PATH_BYTES then Some path else None

-- the path of an entry in a directory of which this is known
abbrev pub path_in : Option Place → List ℕ → Option (List ℕ)
path_in None name = None
path_in (Some dir) name = option_map_or (λ path. if_short (path ++ 47 ∷ name)) dir.path None

-- an entry is chosen if its directory is, or if an argument names it
abbrev pub asked_in : List (List ℕ) → Option Place → Option (List ℕ) → Bool
asked_in keys dir path = option_map_or (λ dir. dir.asked) dir false || option_map_or (is_named keys) path false

-- what is known of an entry with this name in a directory
abbrev pub place_in : List (List ℕ) → Option Place → List ℕ → Place
place_in keys dir name = record { path = path_in dir name; asked = asked_in keys dir (path_in dir name) }

-- what is known of an entry after those before it
abbrev pub place_after : List (List ℕ) → List Place → Salvaged → Place
place_after keys before entry = place_in keys (above_in keys before entry.above) (ended entry.name entry.header entry.endings)

-- what is known of entries, each in a directory before it
abbrev pub places_from : List (List ℕ) → List Place → List Salvaged → List Place
places_from keys before [] = before
places_from keys before (entry ∷ entries) = places_from keys (before ++ place_after keys before entry ∷ []) entries

abbrev pub places_of : List (List ℕ) → List Salvaged → List Place
places_of keys entries = places_from keys [] entries

-- the position of the entry with this header
abbrev pub position_of : List (Option ℕ) → ℕ → Option ℕ
position_of positions header = option_map_or (λ position. position) (slice_get positions header) None

-- the deleted entry at this position, if it is chosen
abbrev pub chosen_at : List Place → Deleted → Option ℕ → List Chosen
chosen_at places deleted None = []
chosen_at places deleted (Some position) =
    if option_map_or (λ place. place.asked) (slice_get places position) false then record { deleted = deleted; position = position } ∷ [] else []

-- the deleted entries that are chosen, in their order
abbrev pub chosen_of : List (Option ℕ) → List Place → List Deleted → List Chosen
chosen_of positions places deleted = flat_map (λ entry. chosen_at places entry (position_of positions entry.header)) deleted

-- the path of the entry with this header
abbrev pub path_of : List (Option ℕ) → List Place → ℕ → Option (List ℕ)
path_of positions places header =
    option_map_or (λ position. option_map_or (λ place. place.path) (slice_get places position) None) (position_of positions header) None

-- an entry in a text: its path, with escapes for control characters, or its block if it has no path
abbrev pub label_of : Option (List ℕ) → ℕ → List ℕ
label_of (Some path) header = plain false (letters (drop 1 path))
label_of None header = codes "the entry at block " ++ decimal header

-- the entry with this header in a text
abbrev pub label_in : List (Option ℕ) → List Place → ℕ → List ℕ
label_in positions places header = label_of (path_of positions places header) header

-- how much of an entry can be recovered
abbrev pub recovery_words : Recovery → List ℕ
recovery_words Directory = codes "/: a directory"
recovery_words (Free all) = codes ": all " ++ (decimal all ++ codes " blocks are free")
recovery_words (Used used all by) = codes ": " ++ (decimal used ++ (codes " of " ++ (decimal all ++ codes " blocks are used")))
recovery_words (Shared shared all) = codes ": " ++ (decimal shared ++ (codes " of " ++ (decimal all ++ codes " are in another deleted file")))
recovery_words NotIntact = codes ": the blocks are damaged"

-- the header of an entry that has some of the blocks now, in a text
abbrev pub user_text : (ℕ → List ℕ) → Option ℕ → List ℕ
user_text label None = []
user_text label (Some header) = codes " by " ++ label header

-- the line of a deleted entry
abbrev pub deleted_line : (ℕ → List ℕ) → Chosen → List ℕ
deleted_line label chosen =
    label chosen.deleted.header ++ (recovery_words chosen.deleted.recovery ++ (user_text label (user_of chosen.deleted.recovery) ++ codes "\n"))

-- what is told of a deleted entry in one of the forms: its object on a line of its own, or its line
abbrev pub told_deleted : Bool → List (Option ℕ) → List Place → Chosen → List ℕ
told_deleted json positions places chosen =
    if json then print (deleted_tokens (path_of positions places chosen.deleted.header) chosen.deleted) ++ codes "\n"
    else deleted_line (label_in positions places) chosen

-- what is told of deleted entries
abbrev pub deleted_text : Bool → List (Option ℕ) → List Place → List Chosen → List ℕ
deleted_text json positions places chosen = flat_map (told_deleted json positions places) chosen

-- a deleted file is written: all its blocks are free, or it is forced
abbrev pub is_file_saved : Bool → Recovery → Bool
is_file_saved force Directory = false
is_file_saved force (Free all) = true
is_file_saved force recovery = force

-- the position of a file that is written
abbrev pub file_saved : Bool → Chosen → List ℕ
file_saved force one = if is_file_saved force one.deleted.recovery then one.position ∷ [] else []

-- the positions of the files that are written
abbrev pub files_saved : Bool → List Chosen → List ℕ
files_saved force chosen = flat_map (file_saved force) chosen

-- the position of the entry whose bytes an item has
abbrev pub file_in : Source → List ℕ
file_in (sources.File position) = position ∷ []
file_in source = []

-- the entries that arguments with these paths choose among the deleted ones, and those of them that are written as files, no two of them
-- to one path, with what is told of them
pub record IsUndeletion (image : List ℕ) (keys : List (List ℕ)) (force json : Bool) (done : Undeletion) : Type 0 where
  pub read : List ℕ
  pub is_read : IsRead image read
  pub trusted : IsTrustedBitmap read
  pub found : IsUndeleted read done.found
  pub chosen : done.chosen.items ≡ chosen_of done.found.places.items (places_of keys done.found.salvage.entries) done.found.deleted.items
  pub text : done.text.items ≡ deleted_text json done.found.places.items (places_of keys done.found.salvage.entries) done.chosen.items
  pub files : flat_map file_in done.plan.out.sources.items ≡ files_saved force done.chosen.items
  pub paths : ArePathsApart done.plan.out.items.items

-- what is told of the deleted entries of an image that arguments with these paths choose
pub record IsUndeleteText (json : Bool) (image : List ℕ) (keys : List (List ℕ)) (text : List ℕ) : Type 0 where
  pub read : List ℕ
  pub is_read : IsRead image read
  pub trusted : IsTrustedBitmap read
  pub found : Undeleted
  pub undeleted : IsUndeleted read found
  pub chosen : List Chosen
  pub are_chosen : chosen ≡ chosen_of found.places.items (places_of keys found.salvage.entries) found.deleted.items
  pub text_is : text ≡ deleted_text json found.places.items (places_of keys found.salvage.entries) chosen

-- why nothing is told: the bitmap is not trusted, or a path argument chooses nothing;
-- host files cannot be written, or memory ran out
abbrev pub IsUndeleteFault : List ℕ → UndeleteFault → Type 0
IsUndeleteFault image NoTrustedBitmap = (read : List ℕ) × IsRead image read × ¬ IsTrustedBitmap read
IsUndeleteFault image (NothingDeleted word) = ⊤
IsUndeleteFault image (Host fault) = ⊤
IsUndeleteFault image Memory = ⊤
