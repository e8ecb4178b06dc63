use Rattle.adf_where.proofs.Common.{◌<◌, ℕ, List, All, sym, subst}
use Rattle.adf_block.specs.Image.{block_count}
use Rattle.adf_where.specs.steps.Asked.{AreAllPlacesOfEach}
use Rattle.adf_where.proofs.faulty.AskedBlocks.of.Goals as goal

pub lists_of_places-requires : goal.lists_of_places-requires
lists_of_places-requires c =
    subst (λ (asked : List ℕ). All (λ (block : ℕ). block < block_count c.args.image.now) asked) (sym c.deref.ensures.value) (c.in_ok-asked.ensures.inside (block_count c.args.image.now) c.requires)

pub returns : goal.returns
returns c = record {
  increasing = c.in_ok-asked.ensures.increasing;
  all = c.in_ok-asked.ensures.all;
  places = subst (λ (asked : List ℕ). AreAllPlacesOfEach c.args.image.now asked c.in_ok-lists.lists) c.deref.ensures.value c.in_ok-lists.ensures;
}
