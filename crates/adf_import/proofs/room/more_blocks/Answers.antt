use Rattle.std.proofs.Common.{◌≡◌, ℕ, ◌-◌, ap, ap₂, ◌∙◌}
use Rattle.adf_import.proofs.Common.{Format, block_cost, size_of, format_of, some_in, format_is}
use Rattle.adf_import.proofs.Rooms.{size_told}
use Rattle.adf_import.proofs.room.more_blocks.Goals as goal

pub returns : goal.returns
returns c = λ t s.
    let n = some_in (t.nodes c.args.key) (c.requires t s) in
    let format : c.format-format.result ≡ t.format = c.format-format.ensures ∙ ap format_of c.image.ensures.same ∙ format_is c.args.volume.now.image t s in
    let size : c.examine.result.size ≡ size_of t c.args.key = size_told t c.args.key n.0 c.examine.result n.1 (c.examine.ensures t n.0 s n.1) in
    let has : c.blocks_of-has.result ≡ block_cost t.format (size_of t c.args.key) = c.blocks_of-has.ensures ∙ ap₂ block_cost format size in
    let whole : c.blocks_of.result ≡ block_cost t.format c.args.size = c.blocks_of.ensures ∙ ap (λ (f : Format). block_cost f c.args.size) format in
    c.saturating_sub.ensures ∙ ap₂ (λ (m n : ℕ). m - n) whole has
