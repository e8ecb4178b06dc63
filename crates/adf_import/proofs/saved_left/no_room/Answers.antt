use Rattle.std.proofs.Common.{ℕ, ◌+◌, refl, ap, ◌∙◌, arith}
use Rattle.std.proofs.lemmas.Option.{get_or_from_slice_get}
use Rattle.adf_import.proofs.Common.{block_cost}
use Rattle.adf_import.proofs.saved_left.no_room.Goals as goal

pub returns : goal.returns
returns c = λ t entry s at. (
  c.new_file_blocks-needed.result,
  c.free_blocks-free.result,
  record {
    needs =
        c.new_file_blocks-needed.ensures t s
        ∙ ap (λ (size : ℕ). 1 + block_cost t.format size) (c.size_of.ensures entry (get_or_from_slice_get c.args.salvage.now.entries c.args.place entry entry at));
    has = c.free_blocks-free.ensures t s;
    less = omega arith;
  },
  refl,
)
