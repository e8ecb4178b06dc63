-- The changes, and the jobs for a boot block, that arguments ask for.
use Rattle.std.specs.Prelude.{◌≡◌, ◌≢◌, ◌<◌, ◌≤◌, ◌^◌, ◌∷◌, ⊤, ℕ, Bool, true, false, List, [], Option, Some, None, IsSome, is_some, All, AllPairs, option_map, codes, decimal, length, map}
use Rattle.std.specs.Borrow.{Bor}
use Rattle.std.specs.Option.{option_map_or}
use Rattle.clap.specs.Matches.{first_value, matched_of, one_text, raw_values}
use Rattle.clap.specs.declared.parser.matches.Found.{Found}
use Rattle.adf_block.specs.declared.layout.TheConstants.{FEWEST_BLOCKS, MOST_BLOCKS}
use Rattle.adf_text.specs.ProtectWords.{protect_word}
use Rattle.adf_cli.specs.Blocks.{IsOnFloppy, block_text}
use Rattle.adf_cli.specs.Lists.{IsFlag}
use Rattle.adf_cli.specs.Maps.{IsMapFormOf}
use Rattle.adf_cli.specs.When.{IsWhen}
use Rattle.adf_cli.specs.declared.boot.BootBlock.{BootBlock}
use Rattle.adf_cli.specs.declared.boot.BootBlock.TheVariants.{Empty, Standard, File}
use Rattle.adf_cli.specs.declared.image_file.ImageFile.{ImageFile}
use Rattle.adf_cli.specs.declared.job.ImageJob.{ImageJob}
use Rattle.adf_cli.specs.declared.job.ImageJob.TheVariants.{Boot, Check, Extract, ExtractBundle, Info, Map, Salvage, SaveBoot, Show, ShowBoot, Undelete, Validate, Where, WherePath}
use Rattle.adf_cli.specs.declared.name_list.NameList.{NameList}
use Rattle.adf_cli.specs.declared.change.Change.{Change}
use Rattle.adf_cli.specs.declared.change.Change.TheVariants.{Add, AddAs, Date, Protect}
use Rattle.adf_cli.specs.declared.change.Rewrite.{Rewrite}
use Rattle.adf_cli.specs.declared.change.Source.{Source}
use Rattle.adf_cli.specs.declared.change.Source.TheVariants.{File as HostFile, StandardInput}

-- `protect`: the path and the word for protection bits are these arguments
abbrev pub IsProtectOf : Found → Change → Type 0
IsProtectOf found (Protect path letters) =
    (first_value found (codes "PATH") ≡ Some path.now) × (first_value found (codes "LETTERS") ≡ Some letters.now) × IsSome (protect_word letters.now)
IsProtectOf found _ = ⊥

-- `date`: the path is this argument, and the date that of another
abbrev pub IsDateOf : Found → Change → Type 0
IsDateOf found (Date path date) =
    (first_value found (codes "PATH") ≡ Some path.now) × ((text : List ℕ) × (first_value found (codes "WHEN") ≡ Some text) × IsWhen text date)
IsDateOf found _ = ⊥

-- an option without a value is among the arguments, or it is not
abbrev pub IsGiven : Found → List ℕ → Type 0
IsGiven found id = (one_text found id ≢ None) × (one_text found id ≢ Some (codes "false"))

abbrev pub IsLeftOut : Found → List ℕ → Type 0
IsLeftOut found id = one_text found id ≢ Some (codes "true")

-- the number of an option in this range, as it says in decimal digits; none without the option
abbrev pub IsNumberOf : Found → List ℕ → ℕ → ℕ → Option ℕ → Type 0
IsNumberOf found id least most None = first_value found id ≡ None
IsNumberOf found id least most (Some number) =
    (least ≤ number) × (number ≤ most) × (first_value found id ≢ None) × ((n : ℕ) → n < 2 ^ 64 → first_value found id ≡ Some (decimal n) → number ≡ n)

-- without the option the whole file is the image; with it, as many of its first blocks as the option says
abbrev pub AreFirstBlocks : Found → Option ℕ → Type 0
AreFirstBlocks found = IsNumberOf found (codes "blocks") FEWEST_BLOCKS MOST_BLOCKS

-- the path of the image file is this argument, and its first blocks are the image, if the option says how many
pub record IsFileOf (found : Found) (file : ImageFile) : Type 0 where
  pub path : first_value found (codes "IMAGE") ≡ Some file.path.now
  pub blocks : AreFirstBlocks found file.blocks

-- at most one of these arguments is `-`, standard input
abbrev pub AreReadOnce : List (Bor (List ℕ)) → Type 0
AreReadOnce words = AllPairs (λ one other. one.now ≡ codes "-" → other.now ≢ codes "-") words

-- the image to change is this argument, which is not `-`, standard input; the file for the changed one is that of the option
pub record IsTargetOf (found : Found) (target : Rewrite) : Type 0 where
  pub image : IsFileOf found target.image
  pub changes_file : target.image.path.now ≢ codes "-"
  pub out : first_value found (codes "out") ≡ option_map (λ word. word.now) target.out
  pub over : (given : Bool) → IsFlag found (codes "over") given → target.over ≡ given

-- `info`: the image is this argument, and the form as the option says
abbrev pub IsInfoOf : Found → ImageJob → Type 0
IsInfoOf found (Info file json) =
    (first_value found (codes "FILE") ≡ Some file.path.now) × AreFirstBlocks found file.blocks
    × ((given : Bool) → IsFlag found (codes "json") given → json ≡ given)
IsInfoOf found _ = ⊥

-- `show`: the image is this argument, and the form as the option says
abbrev pub IsShowOf : Found → ImageJob → Type 0
IsShowOf found (Show image json) =
    IsFileOf found image × ((given : Bool) → IsFlag found (codes "json") given → json ≡ given)
IsShowOf found _ = ⊥

-- `map`: the image is this argument, the form as the options say, and the list of blocks that could not be read that of the option
abbrev pub IsMapOf : Found → ImageJob → Type 0
IsMapOf found (Map job) =
    IsFileOf found job.image × IsMapFormOf found job.form × (first_value found (codes "bad") ≡ option_map (λ word. word.now) job.bad)
IsMapOf found _ = ⊥

-- the values of an argument that can have many
abbrev pub all_values : Found → List ℕ → List (List ℕ)
all_values found id = option_map_or raw_values (matched_of found id) []

-- the list of names is that of the option, and its names end as the other option says; without the option there is none
abbrev pub IsNameListOf : Found → Option NameList → Type 0
IsNameListOf found None = first_value found (codes "from") ≡ None
IsNameListOf found (Some list) =
    (first_value found (codes "from") ≡ Some list.file.now) × ((given : Bool) → IsFlag found (codes "null") given → list.null ≡ given)

-- if the list is standard input, none of these arguments is
abbrev pub IsOtherInput : Option NameList → List (Bor (List ℕ)) → Type 0
IsOtherInput None words = ⊤
IsOtherInput (Some list) words = list.file.now ≡ codes "-" → All (λ word. word.now ≢ codes "-") words

-- a list of blocks is that of one image: beside it there are no list of names and no second file
abbrev pub IsForOne : Option (Bor (List ℕ)) → Option NameList → List (Bor (List ℕ)) → Type 0
IsForOne bad from files = is_some bad ≡ true → (is_some from ≡ false) × (length files ≤ 1)

-- `check`: the files are these arguments, and the lists, the numbers and the rest are as the options say; standard input is read only
-- once, and a list of blocks is that of one image
abbrev pub IsCheckOf : Found → ImageJob → Type 0
IsCheckOf found (Check job) =
    (map (λ word. word.now) job.files.items ≡ all_values found (codes "FILE")) × IsNameListOf found job.from
    × AreReadOnce job.files.items × IsOtherInput job.from job.files.items
    × AreFirstBlocks found job.blocks × IsNumberOf found (codes "jobs") 1 4294967295 job.jobs
    × ((given : Bool) → IsFlag found (codes "all") given → job.all ≡ given) × ((given : Bool) → IsFlag found (codes "json") given → job.json ≡ given)
    × ((given : Bool) → IsFlag found (codes "filler") given → job.filler ≡ given)
    × (first_value found (codes "bad") ≡ option_map (λ word. word.now) job.bad) × IsForOne job.bad job.from job.files.items
IsCheckOf found _ = ⊥

-- `where`: with `--path` the path is this argument, else the blocks are those that the arguments name, and the list of those that could
-- not be read is that of the option; the image is this argument, and the form as the option says
abbrev pub IsWhereOf : Found → ImageJob → Type 0
IsWhereOf found (WherePath image path json) =
    IsFileOf found image × (first_value found (codes "path") ≡ Some path.now)
    × ((given : Bool) → IsFlag found (codes "json") given → json ≡ given)
IsWhereOf found (Where job) =
    IsFileOf found job.image × (first_value found (codes "path") ≡ None)
    × (map block_text job.blocks.items ≡ all_values found (codes "BLOCK")) × All IsOnFloppy job.blocks.items
    × ((given : Bool) → IsFlag found (codes "json") given → job.json ≡ given)
    × (first_value found (codes "bad") ≡ option_map (λ word. word.now) job.bad)
IsWhereOf found _ = ⊥

-- the directory to write to is this argument, the current directory without one
abbrev pub IsInto : Found → List ℕ → Type 0
IsInto found to = to ≡ option_map_or (λ word. word) (first_value found (codes "to")) (codes ".")

-- `extract`: with `--bundle` everything goes to this new directory, else with `--damaged` it is a rescue, else the paths are taken out;
-- the image, the paths, the directory and the file for a new image are these arguments, and each option is as given; that file is not
-- standard output
abbrev pub IsExtractOf : Found → ImageJob → Type 0
IsExtractOf found (ExtractBundle image to) = IsFileOf found image × (first_value found (codes "bundle") ≡ Some to.now)
IsExtractOf found (Salvage job) =
    IsFileOf found job.image × (first_value found (codes "bundle") ≡ None) × IsGiven found (codes "damaged") × IsInto found job.to.now
    × ((given : Bool) → IsFlag found (codes "list") given → job.list ≡ given) × ((given : Bool) → IsFlag found (codes "json") given → job.json ≡ given)
    × ((given : Bool) → IsFlag found (codes "meta") given → job.meta ≡ given)
    × (first_value found (codes "bad") ≡ option_map (λ word. word.now) job.bad)
    × (first_value found (codes "out") ≡ option_map (λ word. word.now) job.out) × (first_value found (codes "out") ≢ Some (codes "-"))
    × ((given : Bool) → IsFlag found (codes "over") given → job.over ≡ given)
    × ((given : Bool) → IsFlag found (codes "unaccounted") given → job.unaccounted ≡ given)
IsExtractOf found (Extract job) =
    IsFileOf found job.image × (first_value found (codes "bundle") ≡ None) × IsLeftOut found (codes "damaged") × IsInto found job.to.now
    × (map (λ word. word.now) job.paths.items ≡ all_values found (codes "PATH"))
    × ((given : Bool) → IsFlag found (codes "meta") given → job.meta ≡ given) × ((given : Bool) → IsFlag found (codes "force") given → job.force ≡ given)
IsExtractOf found _ = ⊥

-- `undelete`: the image, the paths and the directory are these arguments, the current directory without one, and each option is as given
abbrev pub IsUndeleteOf : Found → ImageJob → Type 0
IsUndeleteOf found (Undelete job) =
    IsFileOf found job.image × (map (λ word. word.now) job.paths.items ≡ all_values found (codes "PATH"))
    × IsInto found job.to.now × ((given : Bool) → IsFlag found (codes "list") given → job.list ≡ given)
    × ((given : Bool) → IsFlag found (codes "json") given → job.json ≡ given)
    × ((given : Bool) → IsFlag found (codes "meta") given → job.meta ≡ given) × ((given : Bool) → IsFlag found (codes "force") given → job.force ≡ given)
IsUndeleteOf found _ = ⊥

-- `validate`: the image is this argument, the changed one goes to a file, it is forced if the option is given, and the form is as the
-- option says
abbrev pub IsValidateOf : Found → ImageJob → Type 0
IsValidateOf found (Validate target force json) =
    IsTargetOf found target × (first_value found (codes "out") ≢ Some (codes "-")) × ((given : Bool) → IsFlag found (codes "force") given → force ≡ given)
    × ((given : Bool) → IsFlag found (codes "json") given → json ≡ given)
IsValidateOf found _ = ⊥

-- the boot block to install: the standard one with `--install`, else the bytes of this file, or none without it
abbrev pub IsBlockOf : Found → BootBlock → Type 0
IsBlockOf found Standard = IsGiven found (codes "install")
IsBlockOf found (File file) = IsLeftOut found (codes "install") × (first_value found (codes "FILE") ≡ Some file.now)
IsBlockOf found Empty = IsLeftOut found (codes "install") × (first_value found (codes "FILE") ≡ None)

-- `boot`: with `--show` the block is shown, in the form that the option says, else with `--save` written to this file, else installed; the image is this argument
abbrev pub IsBootOf : Found → ImageJob → Type 0
IsBootOf found (ShowBoot image json) =
    IsGiven found (codes "show") × IsFileOf found image × ((given : Bool) → IsFlag found (codes "json") given → json ≡ given)
IsBootOf found (SaveBoot image file) =
    IsLeftOut found (codes "show") × IsFileOf found image × (first_value found (codes "save") ≡ Some file.now)
IsBootOf found (Boot target block) =
    IsLeftOut found (codes "show") × (first_value found (codes "save") ≡ None) × IsTargetOf found target × IsBlockOf found block
IsBootOf found _ = ⊥

-- the file of an argument; standard input if it is `-`
abbrev pub IsSource : List ℕ → Source → Type 0
IsSource word (HostFile path) = (path.now ≡ word) × (word ≢ codes "-")
IsSource word StandardInput = word ≡ codes "-"

-- `add` without `--as`: these files, of which none is standard input
abbrev pub IsAddOf : List (Bor (List ℕ)) → List ℕ → Bool → Change → Type 0
IsAddOf words into over (Add files to force) =
    (files.items ≡ words) × All (λ word. word.now ≢ codes "-") words × (to.now ≡ into) × (force ≡ over)
IsAddOf words into over _ = ⊥

-- `add --as`: the only one of these files, under this name, in this directory
abbrev pub IsAddAs : List (Bor (List ℕ)) → List ℕ → List ℕ → Bool → Change → Type 0
IsAddAs words called into over (AddAs source name to force) =
    ((word : List ℕ) × (map (λ word. word.now) words ≡ word ∷ []) × IsSource word source) × (name.now ≡ called) × (to.now ≡ into) × (force ≡ over)
IsAddAs words called into over _ = ⊥
