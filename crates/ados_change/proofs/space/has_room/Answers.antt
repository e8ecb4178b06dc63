use Rattle.ados_change.proofs.Common.{◌≡◌, Bool, true, false, MatchBool, length, sym, ap, ap₂, ◌∙◌, arith, block_cost, format_of, contents}
use Rattle.ados_change.proofs.Writable.{lawful_pages}
use Rattle.ados_change.proofs.Renewed.{size_in}
use Rattle.ados_change.proofs.space.has_room.Goals as goal

pub has_free-requires-clause-pages : goal.has_free-requires-clause-pages
has_free-requires-clause-pages c = lawful_pages c.args.image.now c.requires.tree.0 c.requires.tree.1

-- a test of one fact is a test of an equivalent one
told : (b : Bool) (P Q : Type 0) → MatchBool b P (¬ P) → (P → Q) → (Q → P) → MatchBool b Q (¬ Q)
told true P Q h on back = on h
told false P Q h on back = λ q. h (back q)

pub returns : goal.returns
returns c =
    let same = c.size_of.ensures c.requires.tree.0 c.requires.tree.1 ∙ sym (size_in c.args.image.now c.requires.tree.0 c.requires.tree.1 c.args.file c.requires.file) in
    let need : c.blocks_of.result ≡ block_cost (format_of c.args.image.now) c.args.size = c.blocks_of.ensures ∙ ap (λ f. block_cost f c.args.size) c.format-format.ensures in
    let held : c.blocks_of-held.result ≡ block_cost (format_of c.args.image.now) (length (contents c.args.image.now c.args.file)) = c.blocks_of-held.ensures ∙ ap₂ block_cost c.format-format.ensures same in
    told c.has_free.result _ _ c.has_free.ensures (λ l. omega (arith, l, need, held, c.saturating_sub.ensures)) (λ l. omega (arith, l, need, held, c.saturating_sub.ensures))
