-- The result of DISK_INFO as a JSON object.
use Rattle.std.specs.Prelude.{Bool, List, [], ◌∷◌, ◌++◌, codes, decimal}
use Rattle.json.specs.Token.{Token, begin_object, end_object, boolean, key, number}
use Rattle.ados_model.specs.declared.answer.Answer.{Answer}
use Rattle.ados_model.specs.declared.answer.Body.{Body}
use Rattle.ados_model.specs.declared.answer.Body.TheVariants.{Disk}
use Rattle.ados_model.specs.declared.answer.DiskInfo.{DiskInfo}

-- the members for the description of a volume
abbrev pub disk_members : DiskInfo → List Token
disk_members info =
    key (codes "state") ∷ number (decimal info.state) ∷ key (codes "blocks") ∷ number (decimal info.blocks)
    ∷ key (codes "used") ∷ number (decimal info.used) ∷ key (codes "bytes_per_block") ∷ number (decimal info.bytes_per_block)
    ∷ key (codes "disk_type") ∷ number (decimal info.disk_type) ∷ []

-- the members for the data of an answer; none but for the description of a volume
abbrev pub body_members : Body → List Token
body_members (Disk info) = disk_members info
body_members body = []

-- the object for an answer, and for whether the disk is bootable
abbrev pub info_tokens : Answer → Bool → List Token
info_tokens answer bootable = begin_object ∷ body_members answer.body ++ key (codes "bootable") ∷ boolean bootable ∷ end_object ∷ []
