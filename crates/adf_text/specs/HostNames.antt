-- Names of entries as names of host files.
use Rattle.std.specs.Prelude.{◌≡◌, ◌≢◌, ℕ, ◌≤◌, if◌then◌else◌, List, length, All, codes}
use Rattle.std.specs.Str.{bytes_eq, chars}
use Rattle.ados_name.specs.Name.{IsName}
use Rattle.adf_text.specs.declared.escapes.Place.TheVariants.{HostName}
use Rattle.adf_text.specs.Letters.{IsByte, letters}
use Rattle.adf_text.specs.Escapes.{escaped, unescaped}

-- the letters of the host's name; `.` and `..` are directories on a host, so their first dot is escaped
abbrev pub host_letters : List ℕ → List ℕ
host_letters name =
    if bytes_eq name (codes ".") then codes "%2E"
    else if bytes_eq name (codes "..") then codes "%2E."
    else escaped HostName name

-- the name of the host file for an entry with this name
abbrev pub host_name : List ℕ → List ℕ
host_name name = letters (host_letters name)

-- a host file can have this name: it is not empty, not `.` or `..`, and has no NUL and no `/`
pub record IsHostName (text : List ℕ) : Type 0 where
  pub not_empty : 1 ≤ length text
  pub not_dot : text ≢ codes "."
  pub not_dots : text ≢ codes ".."
  pub plain : All (λ c. (c ≢ 0) × (c ≢ 47)) text

-- Law: all letters of a host's name are bytes, and it is read back as the entry's name.
abbrev pub HostNamesComeBack : Type 0
HostNamesComeBack = (name : List ℕ) → IsName name → All IsByte (chars (host_name name)) × (unescaped (host_name name) ≡ name)
