-- What a block of a volume is, in words, and the entry that it belongs to.
use Rattle.std.specs.Prelude.{ℕ, List, [], ◌++◌, codes, decimal, Option, Some, None}
use Rattle.ados_volume.specs.declared.owner.Owner.{Owner}
use Rattle.ados_volume.specs.declared.owner.Owner.TheVariants.{Boot, Root, Page, Directory, File, Data, Extension, Lost, Free}

-- the entry that a block with this owner belongs to, if it belongs to one
abbrev pub entry_of : ℕ → Owner → Option ℕ
entry_of block Directory = Some block
entry_of block File = Some block
entry_of block (Data file k) = Some file
entry_of block (Extension file k) = Some file
entry_of block owner = None

-- what the block is, up to the path of its entry
abbrev pub owner_text : Owner → List ℕ
owner_text Boot = codes "boot block"
owner_text Root = codes "root"
owner_text (Page i) = codes "bitmap block " ++ decimal i
owner_text Directory = codes "header of "
owner_text File = codes "header of "
owner_text (Data file k) = codes "data " ++ (decimal k ++ codes " of ")
owner_text (Extension file k) = codes "extension " ++ (decimal k ++ codes " of ")
owner_text Lost = codes "lost"
owner_text Free = codes "free"

-- the slash behind the path of a directory
abbrev pub slash : Owner → List ℕ
slash Directory = codes "/"
slash owner = []

-- what the block is, as one word
abbrev pub owner_word : Owner → List ℕ
owner_word Boot = codes "boot"
owner_word Root = codes "root"
owner_word (Page i) = codes "bitmap"
owner_word Directory = codes "directory"
owner_word File = codes "file"
owner_word (Data file k) = codes "data"
owner_word (Extension file k) = codes "extension"
owner_word Lost = codes "lost"
owner_word Free = codes "free"

-- the position of the block among those of its kind, from 0
abbrev pub position_of : Owner → Option ℕ
position_of (Page i) = Some i
position_of (Data file k) = Some k
position_of (Extension file k) = Some k
position_of owner = None
