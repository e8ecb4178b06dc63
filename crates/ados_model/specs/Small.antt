-- A volume of 16 blocks with a directory, which has a file with bytes and a comment: its tree, and its image in both
-- formats.
use Rattle.std.specs.Prelude.{◌≡◌, ℕ, ◌+◌, ◌==◌, if◌then◌else◌, List, [], ◌∷◌, codes, Option, Some, None, Ok}
use Rattle.adf_block.specs.declared.layout.Format.{Format}
use Rattle.adf_block.specs.declared.layout.Format.TheVariants.{Ofs, Ffs}
use Rattle.adf_block.specs.declared.layout.TheConstants.{PRIMARY_TYPE, OWN_KEY, SECONDARY_TYPE, HEADER_TYPE, DATA_TYPE, ROOT_TYPE, DIRECTORY_TYPE, FILE_TYPE, TABLE_LONGS, TABLE_SIZE, FIRST_SLOT, POINTER_COUNT, FIRST_POINTER, BITMAP_FLAG, BITMAP_VALID, FIRST_PAGE, DISK_DATE, CREATION_DATE, PROTECTION, FILE_SIZE, COMMENT_BYTE, DATE, NAME_BYTE, PARENT, SEQUENCE, HELD, NEXT_DATA, OFS_DATA_BYTE, FIRST_MAP_LONG}
use Rattle.adf_block.specs.declared.beside.TheConstants.{CHECKSUM, PAGE_CHECKSUM}
use Rattle.ados_name.specs.declared.stamp.Date3.{Date3}
use Rattle.ados_model.specs.Tree.{Node, Tree, root, bytes_of}
use Rattle.ados_model.specs.Tree.Content.{Directory, File}
use Rattle.ados_model.specs.Change.{walk}
use Rattle.ados_model.specs.Phrases.{kind_bytes}
use Rattle.ados_model.specs.Written.{Field, image_of}
use Rattle.ados_model.specs.Written.Field.{Long, Bytes, Text, Date}

-- the date of creation: 1 January 1991
abbrev pub made_at : Date3
made_at = record { days = 4748; minutes = 0; ticks = 0 }

-- all other dates: 10 September 1991, 10:00:01
abbrev pub moment : Date3
moment = record { days = 5000; minutes = 600; ticks = 50 }

-- the root, with the volume's name
abbrev pub small : Node
small = record { name = codes "Small"; parent = None; protection = 0; date = moment; comment = []; content = Directory (2 ∷ []) }

-- a directory in the root
abbrev pub letters : Node
letters = record { name = codes "Letters"; parent = Some 8; protection = 0; date = moment; comment = []; content = Directory (3 ∷ []) }

-- a file in that directory, protected against deletion
abbrev pub hello : Node
hello = record { name = codes "hello"; parent = Some 2; protection = 1; date = moment; comment = codes "A greeting"; content = File (codes "Hi Amiga") }

-- the three nodes by their keys
abbrev pub nodes : ℕ → Option Node
nodes key = if key == 8 then Some small else if key == 2 then Some letters else if key == 3 then Some hello else None

-- the volume
abbrev pub tree : Format → Tree
tree format = record { blocks = 16; format = format; disk_date = moment; creation_date = made_at; nodes = nodes; lost = λ block. None }

-- a path leads to the file, upper and lower case mixed, and the file has its bytes
abbrev pub HasHello : Tree → Type 0
HasHello t = (walk t (root t) (codes "letters/HELLO") ≡ Ok 3) × (bytes_of t 3 ≡ codes "Hi Amiga")

-- block 0
abbrev pub boot : Format → List Field
boot format = Bytes 0 (kind_bytes format) ∷ []

-- block 2, the directory: the name of its entry has slot 1
abbrev pub letters_block : List Field
letters_block =
    Long PRIMARY_TYPE HEADER_TYPE ∷ Long OWN_KEY 2 ∷ Long CHECKSUM 0x844E11F6 ∷ Long (FIRST_SLOT + 1) 3
    ∷ Date DATE moment ∷ Text NAME_BYTE (codes "Letters") ∷ Long PARENT 8 ∷ Long SECONDARY_TYPE DIRECTORY_TYPE ∷ []

-- block 3, the file header: its only data block is block 4
abbrev pub hello_block : List Field
hello_block =
    Long PRIMARY_TYPE HEADER_TYPE ∷ Long OWN_KEY 3 ∷ Long POINTER_COUNT 1 ∷ Long NEXT_DATA 4 ∷ Long CHECKSUM 0xA8139791
    ∷ Long FIRST_POINTER 4 ∷ Long PROTECTION 1 ∷ Long FILE_SIZE 8 ∷ Text COMMENT_BYTE (codes "A greeting")
    ∷ Date DATE moment ∷ Text NAME_BYTE (codes "hello") ∷ Long PARENT 2 ∷ Long SECONDARY_TYPE FILE_TYPE ∷ []

-- block 4, the data: in OFS after fields of its own
abbrev pub data_block : Format → List Field
data_block Ofs =
    Long PRIMARY_TYPE DATA_TYPE ∷ Long OWN_KEY 3 ∷ Long SEQUENCE 1 ∷ Long HELD 8 ∷ Long CHECKSUM 0x4A2D784A
    ∷ Bytes OFS_DATA_BYTE (codes "Hi Amiga") ∷ []
data_block Ffs = Bytes 0 (codes "Hi Amiga") ∷ []

-- block 8, the root: the name of its entry has slot 10, and the bitmap block is block 9
abbrev pub root_block : List Field
root_block =
    Long PRIMARY_TYPE HEADER_TYPE ∷ Long TABLE_SIZE TABLE_LONGS ∷ Long CHECKSUM 0x8E40539A ∷ Long (FIRST_SLOT + 10) 2
    ∷ Long BITMAP_FLAG BITMAP_VALID ∷ Long FIRST_PAGE 9 ∷ Date DATE moment ∷ Text NAME_BYTE (codes "Small")
    ∷ Date DISK_DATE moment ∷ Date CREATION_DATE made_at ∷ Long SECONDARY_TYPE ROOT_TYPE ∷ []

-- block 9, the bitmap block: blocks 5 to 7 and 10 to 15 are free, with bits 3 to 5 and 8 to 13
abbrev pub page_block : List Field
page_block = Long PAGE_CHECKSUM 0xFFFFC0C8 ∷ Long FIRST_MAP_LONG 0x3F38 ∷ []

-- the image of the volume
abbrev pub image : Format → List ℕ
image format =
    image_of (boot format ∷ [] ∷ letters_block ∷ hello_block ∷ data_block format ∷ [] ∷ [] ∷ []
    ∷ root_block ∷ page_block ∷ [] ∷ [] ∷ [] ∷ [] ∷ [] ∷ [] ∷ [])
