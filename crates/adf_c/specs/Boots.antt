-- The boot block of an image, for C.
use Rattle.std.specs.Prelude.{◌≡◌, ℕ, List}
use Rattle.adf_block.specs.Boot.{HasKind, boot_sum}
use Rattle.adf_block.specs.BootCode.{IsBootCode}
use Rattle.adf_block.specs.Image.{long}
use Rattle.adf_block.specs.declared.beside.TheConstants.{BOOT_CHECKSUM}
use Rattle.adf_block.specs.declared.boot.BootKind.{BootKind}
use Rattle.adf_block.specs.declared.boot.BootKind.TheVariants.{Ofs, Ffs, OtherDos, NotDos}
use Rattle.adf_block.specs.declared.code.BootCode.{BootCode}
use Rattle.adf_block.specs.declared.code.BootCode.TheVariants.{Empty, Wrong, Standard, Custom}
use Rattle.adf_c.specs.declared.values.boots.JipBoot.{JipBoot}

-- the number of a DOS type
abbrev pub kind_number : BootKind → ℕ
kind_number Ofs = 0
kind_number Ffs = 1
kind_number (OtherDos number) = number
kind_number NotDos = 256

-- the number of what a boot block is
abbrev pub code_number : BootCode → ℕ
code_number Empty = 0
code_number Wrong = 1
code_number Standard = 2
code_number Custom = 3

-- the DOS type of the image, what its boot block is, the checksum there, and the one that belongs there
pub record TellsBoot (image : List ℕ) (told : JipBoot) : Type 0 where
  pub kind : BootKind
  pub has_kind : HasKind image kind
  pub kind_is : told.kind ≡ kind_number kind
  pub code : BootCode
  pub is_code : IsBootCode image code
  pub code_is : told.code ≡ code_number code
  pub sum_is : told.sum ≡ long image 0 BOOT_CHECKSUM
  pub right_is : told.right_sum ≡ boot_sum image
