use Rattle.ados_salvage.proofs.Common.{ℕ, ◌≡◌, List, Bool, true, subst, sym, IfOk-weaker, Known, mark_at}
use Rattle.std.proofs.Common.{◌↔◌}
use Rattle.ados_salvage.specs.PutRight.{ArePutRight, MayBePutRight}
use Rattle.ados_salvage.proofs.Mending.{put_as}
use Rattle.ados_salvage.proofs.mended.put_right.Goals as goal

pub returns-clause-read : goal.returns-clause-read
returns-clause-read c =
    let image = c.args.known.image in
    let May : ℕ → Type 0 = MayBePutRight c.args.known.left_out image in
    let put = put_as (λ b. mark_at c.deref-2.result.now b ≡ true) May image c.with_right_fields.result
    (λ b l. subst (λ (marks : List Bool). (mark_at marks b ≡ true) ↔ May b) (sym c.deref-2.ensures.value) (c.in_ok-lost.ensures.decided b l)) c.with_right_fields.ensures in
    IfOk-weaker c.without_deleted.result (λ (new : Known). new.image ≡ c.with_right_fields.result) (λ (new : Known). ArePutRight May image new.image)
    (λ new is. subst (ArePutRight May image) (sym is) put) c.without_deleted.ensures.image
