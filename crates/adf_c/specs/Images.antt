-- Which bytes are an image, and the label of its volume.
use Rattle.std.specs.Prelude.{◌≡◌, ⊤, ℕ, List, length}
use Rattle.adf_block.specs.Size.{IsSizeFault}
use Rattle.adf_block.specs.Whole.{text_at}
use Rattle.adf_block.specs.declared.layout.TheConstants.{NAME_BYTE}
use Rattle.adf_block.specs.declared.volume_size.SizeFault.{SizeFault}
use Rattle.ados_model.specs.Faults.{root_of}
use Rattle.ados_name.specs.Name.{IsName}
use Rattle.adf_c.specs.declared.values.refusal.Refusal.{Refusal}
use Rattle.adf_c.specs.declared.values.refusal.Refusal.TheVariants.{NotAnImage, NoMemory, WrongArgument}

-- why there is no image: no image has so many bytes, or memory ran out
abbrev pub RefusesImage : List ℕ → Refusal → Type 0
RefusesImage bytes NotAnImage = (size : SizeFault) × IsSizeFault (length bytes) size
RefusesImage bytes NoMemory = ⊤
RefusesImage bytes WrongArgument = ⊥

-- the text in the place of the label, in the root
abbrev pub text_of_root : List ℕ → List ℕ
text_of_root image = text_at image (root_of image) NAME_BYTE

-- the label of the image: the text there, which is a name
abbrev pub IsLabel : List ℕ → List ℕ → Type 0
IsLabel image label = (label ≡ text_of_root image) × IsName (text_of_root image)

-- why there is no label: no image has so many bytes, memory ran out, or the text is not a name
abbrev pub RefusesLabel : List ℕ → Refusal → Type 0
RefusesLabel bytes NotAnImage = (size : SizeFault) × IsSizeFault (length bytes) size
RefusesLabel bytes NoMemory = ⊤
RefusesLabel bytes WrongArgument = ¬ IsName (text_of_root bytes)
