use Rattle.std.proofs.Common.{Bool, List, ℕ, length, nat_eq, sym, ap, ◌∙◌}
use Rattle.std.specs.Prelude.{◌&&◌}
use Rattle.ados_handler.specs.HandlerState.{HandlerState}
use Rattle.ados_handler.specs.Writes.{would_write}
use Rattle.ados_handler.specs.steps.Allowed.{can_make, can_move, can_output, can_write, removes}
use Rattle.ados_handler.proofs.WouldWrite.{deleted_by, made_by, moved_by, output_by, sized_by, some_bytes, updated_by, written_by}
use Rattle.ados_handler.proofs.handler.Handler.would_write.Goals as goal

pub returns-in-DeleteObject-clause-writes : goal.returns-in-DeleteObject-clause-writes
returns-in-DeleteObject-clause-writes c t s =
    let held = c.args.self.now.session in
    let alive = sym (ap (λ (h : HandlerState). h.session.died) c.self.view_is) ∙ c.if-self.false in
    c.removes.ensures.removes t s ∙ ap (removes t held c.in-DeleteObject.lock) c.path-in-DeleteObject.ensures
    ∙ deleted_by t held alive c.in-DeleteObject.lock c.in-DeleteObject.path ∙ ap (would_write t held) (sym c.in-DeleteObject.is)

pub returns-in-RenameObject-clause-writes : goal.returns-in-RenameObject-clause-writes
returns-in-RenameObject-clause-writes c t s =
    let held = c.args.self.now.session in
    let alive = sym (ap (λ (h : HandlerState). h.session.died) c.self.view_is) ∙ c.if-self.false in
    c.can_move.ensures.moves t s ∙ (λ i. can_move t held c.in-RenameObject.from_lock (c.path-in-RenameObject.ensures i) c.in-RenameObject.to_lock (c.path-in-RenameObject-2.ensures i))
    ∙ moved_by t held alive c.in-RenameObject.from_lock c.in-RenameObject.from c.in-RenameObject.to_lock c.in-RenameObject.to ∙ ap (would_write t held) (sym c.in-RenameObject.is)

pub returns-in-CreateDir-clause-writes : goal.returns-in-CreateDir-clause-writes
returns-in-CreateDir-clause-writes c t s =
    let held = c.args.self.now.session in
    let alive = sym (ap (λ (h : HandlerState). h.session.died) c.self.view_is) ∙ c.if-self.false in
    c.can_make.ensures.makes t s ∙ ap (can_make t held c.in-CreateDir.lock) c.path-in-CreateDir.ensures
    ∙ made_by t held alive c.in-CreateDir.lock c.in-CreateDir.path ∙ ap (would_write t held) (sym c.in-CreateDir.is)

pub returns-in-FindUpdate-clause-writes : goal.returns-in-FindUpdate-clause-writes
returns-in-FindUpdate-clause-writes c t s =
    let held = c.args.self.now.session in
    let alive = sym (ap (λ (h : HandlerState). h.session.died) c.self.view_is) ∙ c.if-self.false in
    c.can_make-in-FindUpdate.ensures.makes t s ∙ ap (can_make t held c.in-FindUpdate.lock) c.path-in-FindUpdate.ensures
    ∙ updated_by t held alive c.in-FindUpdate.lock c.in-FindUpdate.path ∙ ap (would_write t held) (sym c.in-FindUpdate.is)

pub returns-in-FindOutput-clause-writes : goal.returns-in-FindOutput-clause-writes
returns-in-FindOutput-clause-writes c t s =
    let held = c.args.self.now.session in
    let alive = sym (ap (λ (h : HandlerState). h.session.died) c.self.view_is) ∙ c.if-self.false in
    c.can_output.ensures.outputs t s ∙ ap (can_output t held c.in-FindOutput.lock) c.path-in-FindOutput.ensures
    ∙ output_by t held alive c.in-FindOutput.lock c.in-FindOutput.path ∙ ap (would_write t held) (sym c.in-FindOutput.is)

pub returns-then-not-is_empty-clause-writes : goal.returns-then-not-is_empty-clause-writes
returns-then-not-is_empty-clause-writes c t s =
    let held = c.args.self.now.session in
    let alive = sym (ap (λ (h : HandlerState). h.session.died) c.self.view_is) ∙ c.if-self.false in
    let some = some_bytes c.in-Write.bytes (ap (λ (bytes : List ℕ). nat_eq (length bytes) 0) (sym c.bytes.ensures) ∙ sym c.is_empty.ensures ∙ c.if-not-is_empty.true) in
    c.can_write.ensures t s ∙ ap (λ (b : Bool). b && can_write t held c.in-Write.handle) (sym some)
    ∙ written_by t held alive c.in-Write.handle c.in-Write.bytes ∙ ap (would_write t held) (sym c.in-Write.is)

pub returns-in-SetFileSize-clause-writes : goal.returns-in-SetFileSize-clause-writes
returns-in-SetFileSize-clause-writes c t s =
    let held = c.args.self.now.session in
    let alive = sym (ap (λ (h : HandlerState). h.session.died) c.self.view_is) ∙ c.if-self.false in
    c.can_resize.ensures t s ∙ sized_by t held alive c.in-SetFileSize.handle c.in-SetFileSize.offset c.in-SetFileSize.mode
    ∙ ap (would_write t held) (sym c.in-SetFileSize.is)
