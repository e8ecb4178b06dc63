-- The owners of blocks for C, one after the other; and what the blocks of an image are.
use Rattle.std.proofs.Common.{◌≡◌, ℕ, ◌+◌, ◌<◌, ◌≤◌, List, [], ◌∷◌, ◌++◌, Result, Ok, Err, IfOk, length, map, drop, get_or, append_assoc, append-nil, sym, ap, ◌∙◌}
use Rattle.std.proofs.lemmas.List.{at_drop_all, at_drop_more}
use Rattle.ados_model.specs.Stands.{Stands}
use Rattle.ados_model.specs.Tree.{Tree}
use Rattle.ados_volume.specs.Owners.{AreOwners}
use Rattle.ados_volume.specs.declared.owner.Owner.{Owner}
use Rattle.ados_salvage.specs.Parts.{TellsBlocks}
use Rattle.ados_salvage.specs.declared.account.part.Told.{Told}
use Rattle.ados_salvage.specs.Salvaged.{Saved}
use Rattle.adf_c.specs.Blocks.{TellsAll, told_block}
use Rattle.adf_c.specs.declared.values.blocks.JipTold.{JipTold}
use Rattle.adf_c.specs.Owners.{MapsOwners, told_owner, told_owners}
use Rattle.adf_c.specs.declared.values.owners.JipOwner.{JipOwner}

first_and_rest : (k : ℕ) (owner : Owner) (rest : List Owner) → told_owners k (owner ∷ rest) ≡ told_owner k owner ∷ told_owners (k + 1) rest
unfolding told_owners
first_and_rest k owner rest = λ i. told_owner k owner ∷ told_owners (k + 1) rest

of_none : (k : ℕ) → told_owners k [] ≡ []
unfolding told_owners
of_none k = λ i. []

-- one more owner is told
pub one_more : (told new total : List JipOwner) (k : ℕ) (owners : List Owner) (owner : Owner) (made : JipOwner) → told ++ told_owners k (drop k owners) ≡ total → k < length owners
    → owner ≡ get_or owners k owner → made ≡ told_owner k owner → new ≡ told ++ made ∷ [] → new ++ told_owners (k + 1) (drop (k + 1) owners) ≡ total
one_more told new total k owners owner made so_far within read is put =
    let rest = told_owners (k + 1) (drop (k + 1) owners) in
    let first = at_drop_more (told_owners k) owners k owner within ∙ first_and_rest k (get_or owners k owner) (drop (k + 1) owners) in
    ap (λ (l : List JipOwner). l ++ rest) put ∙ append_assoc told (made ∷ []) rest
    ∙ ap (λ (m : JipOwner). told ++ m ∷ rest) (is ∙ ap (told_owner k) read) ∙ ap (λ (l : List JipOwner). told ++ l) (sym first) ∙ so_far

-- all owners are told
pub all_told : (told total : List JipOwner) (k : ℕ) (owners : List Owner) → told ++ told_owners k (drop k owners) ≡ total → length owners ≤ k → told ≡ total
all_told told total k owners so_far past =
    sym (append-nil told) ∙ ap (λ (l : List JipOwner). told ++ l) (sym (at_drop_all (told_owners k) owners k past ∙ of_none k)) ∙ so_far

-- the told owners are those of the image's blocks
pub mapped : {A E : Type 0} (r : Result A E) (items : A → List JipOwner) (image : List ℕ) (owners given : List Owner) → ((t : Tree) → Stands image t → AreOwners image t owners) → given ≡ owners
    → IfOk r (λ told. items told ≡ told_owners 0 given) → IfOk r (λ told. MapsOwners image (items told))
mapped (Ok told) items image owners given are same is = record { owners = owners; are = are; told_are = is ∙ ap (told_owners 0) same }
mapped (Err fault) items image owners given are same is = tt

-- the told blocks are those of the salvage
pub all_tell : {A E : Type 0} (r : Result A E) (items : A → List JipTold) (saved : Saved) (blocks given : List Told) → TellsBlocks saved blocks → given ≡ blocks
    → IfOk r (λ told. items told ≡ map told_block given) → IfOk r (λ told. TellsAll saved (items told))
all_tell (Ok told) items saved blocks given tells same is = record { blocks = blocks; tells = tells; told_are = is ∙ ap (map told_block) same }
all_tell (Err fault) items saved blocks given tells same is = tt
