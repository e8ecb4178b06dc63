use Rattle.ados_volume.proofs.Common.{[], ap, arith, format_byte, same_count, sym, ℕ, ◌∙◌, ◌∷◌}
use Rattle.ados_change.proofs.Texts.{bytes_put}
use Rattle.ados_volume.proofs.blank_volume.put_kind.Goals as goal
use Rattle.ados_volume.proofs.blank_volume.put_kind.Goals.{in-Ofs, in-Ffs}

pub returns-clause-kind : goal.returns-clause-kind
returns-clause-kind c =
    bytes_put c.put_bytes.new.self 0 0 (68 ∷ 79 ∷ 83 ∷ c.match-format.kind ∷ [])
    (omega (arith, same_count _ c.args.image.now c.put_bytes.new.self c.put_bytes.ensures.rest, c.blocks-2.ensures.size.0, c.blocks-2.ensures.count)) (omega arith) c.put_bytes.ensures.put
    ∙ ap (λ (k : ℕ). 68 ∷ 79 ∷ 83 ∷ k ∷ []) (elim c.match-format.branch [ in-Ofs w ↦ w.kind-is ∙ sym (ap format_byte w.in-Ofs.is) | in-Ffs w ↦ w.kind-is ∙ sym (ap format_byte w.in-Ffs.is) ])
