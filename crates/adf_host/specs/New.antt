-- The contents of new files.
use Rattle.std.specs.Prelude.{ℕ, List, ◌++◌}
use Rattle.adf_host.specs.declared.new_bytes.NewBytes.{NewBytes}
use Rattle.adf_host.specs.declared.new_bytes.NewBytes.TheVariants.{Image, Bytes}

-- the bytes of the file: those of the image and then those behind it, or the given ones
abbrev pub new_bytes : NewBytes → List ℕ
new_bytes (Image image behind) = image.now ++ behind.now
new_bytes (Bytes bytes) = bytes.now
