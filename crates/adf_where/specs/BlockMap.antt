-- The map of a disk: a letter for each block, as text and as a JSON object.
use Rattle.std.specs.Prelude.{◌≡◌, ℕ, ◌+◌, ◌*◌, ◌%◌, ◌==◌, ◌||◌, Bool, true, false, if◌then◌else◌, List, [], ◌∷◌, ◌++◌, length, map, flat_map, count_by, slice_index, codes, Option, Some, None}
use Rattle.std.specs.Option.{option_map_or}
use Rattle.std.specs.List.{enumerate_from, range_with_len}
use Rattle.json.specs.Token.{Token, begin_array, begin_object, end_array, end_object, key, string}
use Rattle.json.specs.Print.{print}
use Rattle.ados_model.specs.Tree.{Tree}
use Rattle.ados_volume.specs.declared.owner.Owner.{Owner}
use Rattle.ados_volume.specs.declared.owner.Owner.TheVariants as owners
use Rattle.ados_volume.specs.Owners.{AreOwners}
use Rattle.adf_text.specs.Letters.{letters}
use Rattle.adf_record.specs.Members.{number_token}
use Rattle.adf_record.specs.Shown.{grouped}
use Rattle.adf_cli.specs.declared.floppy.TheConstants.{CYLINDERS, DOUBLE_DENSITY, DOUBLE_TRACK, HEADS, HIGH_DENSITY, HIGH_TRACK}
use Rattle.adf_cli.specs.declared.map_form.MapForm.{MapForm}
use Rattle.adf_cli.specs.declared.map_form.MapForm.TheVariants.{Tracks, Json}
use Rattle.adf_where.specs.declared.block_mark.BlockMark.{BlockMark}
use Rattle.adf_where.specs.declared.block_mark.BlockMark.TheVariants.{Boot, Root, Bitmap, Directory, File, Extension, Data, Lost, Free, Faulty, Twice, Unread}
use Rattle.adf_where.specs.Unread.{is_unread}

-- what a block is in a map, by its owner
abbrev pub mark_of : Owner → BlockMark
mark_of owners.Boot = Boot
mark_of owners.Root = Root
mark_of (owners.Page i) = Bitmap
mark_of owners.Directory = Directory
mark_of owners.File = File
mark_of (owners.Extension file k) = Extension
mark_of (owners.Data file k) = Data
mark_of owners.Lost = Lost
mark_of owners.Free = Free

-- its letter: B, R, M, D, F, X, #, L or a dot; of a refused disk also ! and ?; U if it could not be read
abbrev pub letter : BlockMark → ℕ
letter Boot = 66
letter Root = 82
letter Bitmap = 77
letter Directory = 68
letter File = 70
letter Extension = 88
letter Data = 35
letter Lost = 76
letter Free = 46
letter Faulty = 33
letter Twice = 63
letter Unread = 85

-- the letter of a block that is this: another one if it could not be read
abbrev pub shown_letter : List Bool → ℕ → BlockMark → ℕ
shown_letter unread block mark = if is_unread unread block then letter Unread else letter mark

-- the letters of the blocks, in order, of which some could not be read
abbrev pub owner_letter : List Bool → ℕ × Owner → List ℕ
owner_letter unread (block, owner) = shown_letter unread block (mark_of owner) ∷ []

abbrev pub owner_letters : List Bool → List Owner → List ℕ
owner_letters unread owners = flat_map (owner_letter unread) (enumerate_from 0 owners)

-- a letter and its meaning
abbrev pub meaning : BlockMark → List ℕ
meaning Boot = codes "B boot"
meaning Root = codes "R root"
meaning Bitmap = codes "M bitmap"
meaning Directory = codes "D directories"
meaning File = codes "F file headers"
meaning Extension = codes "X extensions"
meaning Data = codes "# data"
meaning Lost = codes "L lost"
meaning Free = codes ". free"
meaning Faulty = codes "! faulty"
meaning Twice = codes "? shared"
meaning Unread = codes "U unread"

-- what blocks are in a map, in the order in which their letters are explained; the last two only in that of a refused disk
abbrev pub sound_kinds : List BlockMark
sound_kinds = Boot ∷ Root ∷ Bitmap ∷ Directory ∷ File ∷ Extension ∷ Data ∷ Lost ∷ Free ∷ []

abbrev pub kinds : Bool → List BlockMark
kinds refused = if refused then sound_kinds ++ Faulty ∷ Twice ∷ [] else sound_kinds

-- what more there is if it is said which blocks could not be read
abbrev pub listed_kinds : List Bool → List BlockMark
listed_kinds unread = if length unread == 0 then [] else Unread ∷ []

-- the number of blocks with a letter
abbrev pub count_of : List ℕ → BlockMark → List ℕ
count_of marks kind = grouped (count_by (λ mark. mark == letter kind) marks)

-- ---- By tracks: the blocks in a line, one after the other

-- the blocks in a line: a track of a floppy. Other sizes have lines as long as those of a high-density floppy
abbrev pub line_blocks : ℕ → ℕ
line_blocks blocks = if blocks == DOUBLE_DENSITY then DOUBLE_TRACK else HIGH_TRACK

-- a line feed after so many of the blocks if a line is full, and after the last block
abbrev pub line_end : ℕ → ℕ → List ℕ
line_end count blocks = if count % line_blocks blocks == 0 || count == blocks then codes "\n" else []

-- the letter at a place, and the end of its line
abbrev pub cell : ℕ → ℕ × ℕ → List ℕ
cell blocks (place, letter) = letter ∷ line_end (place + 1) blocks

-- the letters in lines
abbrev pub track_lines : List ℕ → List ℕ
track_lines marks = flat_map (cell (length marks)) (enumerate_from 0 marks)

-- a letter, its meaning, and the number of blocks that have it, on a line
abbrev pub meaning_line : List ℕ → BlockMark → List ℕ
meaning_line marks kind = meaning kind ++ (codes ": " ++ (count_of marks kind ++ codes "\n"))

-- the letters in lines, an empty line, and a line for each letter
abbrev pub track_page : Bool → List Bool → List ℕ → List ℕ
track_page refused unread marks =
    track_lines marks ++ (codes "\n" ++ (flat_map (meaning_line marks) (kinds refused) ++ flat_map (meaning_line marks) (listed_kinds unread)))

-- ---- By cylinders: each cylinder in a column, first the sectors of head 0 and then those of head 1

-- the blocks of a cylinder, if a disk with so many blocks is a floppy
abbrev pub cylinder_blocks : ℕ → Option ℕ
cylinder_blocks blocks =
    if blocks == DOUBLE_DENSITY then Some (HEADS * DOUBLE_TRACK)
    else (if blocks == HIGH_DENSITY then Some (HEADS * HIGH_TRACK) else None)

-- the letters of one block of each cylinder, which has so many blocks
abbrev pub cylinder_line : List ℕ → ℕ → ℕ → List ℕ
cylinder_line marks size at = map (λ cylinder. slice_index marks (size * cylinder + at)) (range_with_len 0 CYLINDERS) ++ codes "\n"

-- what is behind the count of a letter: a line ends at that of the file headers, at the last one, and at that of the unread blocks
abbrev pub legend_end : Bool → BlockMark → List ℕ
legend_end refused File = codes "\n"
legend_end false Free = codes "\n"
legend_end true Twice = codes "\n"
legend_end refused Unread = codes "\n"
legend_end refused kind = codes "  "

abbrev pub legend_part : Bool → List ℕ → BlockMark → List ℕ
legend_part refused marks kind = meaning kind ++ (codes " " ++ (count_of marks kind ++ legend_end refused kind))

-- a line for each block of a cylinder, two that explain the letters, and another one for that of unread blocks
abbrev pub cylinder_page : Bool → List Bool → List ℕ → ℕ → List ℕ
cylinder_page refused unread marks size =
    flat_map (cylinder_line marks size) (range_with_len 0 size)
    ++ (flat_map (legend_part refused marks) (kinds refused) ++ flat_map (legend_part refused marks) (listed_kinds unread))

-- ---- The whole

-- the map as text: by cylinders if the disk is a floppy, else by tracks; always by tracks in that form
abbrev pub map_page : MapForm → Bool → List Bool → List ℕ → List ℕ
map_page Tracks refused unread marks = track_page refused unread marks
map_page form refused unread marks =
    option_map_or (cylinder_page refused unread marks) (cylinder_blocks (length marks)) (track_page refused unread marks)

-- the header of a block's owner: that of its file; a directory, the header of a file and the root are their own
abbrev pub header : ℕ → Owner → Option ℕ
header block owners.Root = Some block
header block owners.Directory = Some block
header block owners.File = Some block
header block (owners.Extension file k) = Some file
header block (owners.Data file k) = Some file
header block owner = None

abbrev pub header_tokens : ℕ × Owner → List Token
header_tokens (block, owner) = number_token (header block owner) ∷ []

-- the object: all letters as one text, and for each block the header of its owner, or null
abbrev pub object_tokens : List ℕ → List Owner → List Token
object_tokens marks owners =
    begin_object ∷ key (codes "map") ∷ string marks ∷ key (codes "headers") ∷ begin_array
    ∷ flat_map header_tokens (enumerate_from 0 owners) ++ end_array ∷ end_object ∷ []

-- the map of an accepted disk whose blocks have these letters and these owners, in one of its forms
abbrev pub map_of : MapForm → List Bool → List ℕ → List Owner → List ℕ
map_of Json unread marks owners = print (object_tokens (letters marks) owners) ++ codes "\n"
map_of form unread marks owners = map_page form false unread marks

-- the text is the map of the volume with this image and this tree, of which some blocks could not be read
abbrev pub IsMap : MapForm → List Bool → List ℕ → Tree → List ℕ → Type 0
IsMap form unread image t text =
    (owners : List Owner) × AreOwners image t owners × (text ≡ map_of form unread (owner_letters unread owners) owners)
