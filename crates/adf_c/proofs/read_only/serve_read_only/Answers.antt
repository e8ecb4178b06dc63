use Rattle.std.proofs.Common.{sym, ◌∙◌}
use Rattle.adf_c.proofs.Guarding.{as_handler, protects}
use Rattle.adf_c.proofs.read_only.serve_read_only.Goals as goal

pub returns-then-would_write : goal.returns-then-would_write
returns-then-would_write c =
    let t = c.would_write.ensures.tree in
    protects _ _ _ _ _ t.0 t.1 (sym c.if-would_write.true ∙ c.would_write.ensures.writes t.0 t.1) c.would_write.ensures.same c.refused.ensures

pub returns : goal.returns
returns c =
    as_handler _ _ _ _ _ _ _ c.would_write.ensures.same (λ t stands. sym c.if-would_write.false ∙ c.would_write.ensures.writes t stands) c.serve.ensures c.with_protected_disk.ensures
