-- A path that is gone through once: the object to which a part of it leads.
use Rattle.std.specs.Prelude.{◌≡◌, ◌+◌, ◌<◌, ◌≤◌, ◌∷◌, ◌++◌, ℕ, false, List, [], Ok, Err, length, slice_index, take, ⊤}
use Rattle.std.specs.List.{list_any}
use Rattle.ados_name.specs.Name.{Step, Step.ToChild, is_colon, is_slash, steps, steps_along}
use Rattle.ados_model.specs.declared.dos_error.DosError.{DosError}
use Rattle.ados_model.specs.declared.dos_error.WalkFault.TheVariants.{ObjectNotFound}
use Rattle.ados_model.specs.Tree.{Tree, root}
use Rattle.ados_model.specs.Change.{walk_steps}
use Rattle.ados_model.specs.Keys.{HasDirectory, HasKey}
use Rattle.ados_model.specs.Stands.{Stands}
use Rattle.adf_import.specs.Paths.{object_at, place_at}
use Rattle.adf_import.specs.Ways.{ends_front, fronts_before}
use Rattle.adf_import.specs.declared.ways.Found.{Found}
use Rattle.adf_import.specs.declared.ways.Found.TheVariants.{Missing, There, Unknown}
use Rattle.adf_import.specs.declared.ways.Reached.{Reached}

-- the steps of a text behind this one are made after its own
abbrev pub IsClosed : List ℕ → Type 0
IsClosed text = (more : List ℕ) → list_any is_colon more ≡ false → steps (text ++ more) ≡ steps text ++ steps_along more

-- the object to which these steps lead from the root
abbrev pub Leads : List ℕ → List Step → ℕ → Type 0
Leads image walked key = (t : Tree) → Stands image t → walk_steps t (root t) walked ObjectNotFound ≡ Ok key

-- no path of a directory on the way ends before this byte, and from it on each `/` ends one
pub record IsBegin (path : List ℕ) (begin : ℕ) : Type 0 where
  pub within : begin ≤ length path
  pub none : fronts_before path begin ≡ []
  pub slashes : (i : ℕ) → begin ≤ i → i < length path → ends_front path i ≡ is_slash (slice_index path i)
  pub closed : IsClosed (take begin path)
  pub no_steps : steps (take begin path) ≡ []

-- the object to which a part of a path leads that ends at a byte or before
pub record IsReached (image path : List ℕ) (at : ℕ) (reached : Reached) : Type 0 where
  pub within : reached.len ≤ at
  pub key : HasKey image reached.key
  pub closed : IsClosed (take reached.len path)
  pub leads : Leads image (steps (take reached.len path)) reached.key

-- there is no object at the path that ends before a `/`, and this is its place
pub record IsMissing (image path : List ℕ) (at dir : ℕ) (name : List ℕ) : Type 0 where
  pub directory : HasDirectory image dir
  pub missing : (t : Tree) → Stands image t → (error : DosError) × (object_at (take at path) t ≡ Err error)
  pub place : (t : Tree) → Stands image t → place_at (take at path) t ≡ Ok (dir, name)
  pub closed : IsClosed (take (at + 1) path)
  pub before : List Step
  pub walked : steps (take (at + 1) path) ≡ before ++ ToChild name ∷ []
  pub leads : Leads image before dir

-- what is found at the path that ends before a `/`
abbrev pub IsFound : List ℕ → List ℕ → ℕ → Found → Type 0
IsFound image path at (There next) = IsReached image path (at + 1) next × ((t : Tree) → Stands image t → (key : ℕ) × (object_at (take at path) t ≡ Ok key))
IsFound image path at (Missing dir name) = IsMissing image path at dir name
IsFound image path at Unknown = ⊤
