use Rattle.std.proofs.Common.{◌≡◌, ℕ, refl, sym, ap, ◌∙◌, subst, false}
use Rattle.adf_import.proofs.Common.{removed, with_comment, Changes}
use Rattle.ados_model.specs.Edits.{with_date}
use Rattle.adf_text.specs.ProtectWords.{bits_after}
use Rattle.adf_import.specs.declared.paths.EntryChange.{EntryChange}
use Rattle.adf_import.specs.declared.paths.EntryChange.TheVariants.{Delete}
use Rattle.adf_import.specs.Changes.{protected, reprotected}
use Rattle.adf_import.specs.Commands.{ChangesEntry}
use Rattle.adf_import.specs.Refusals.{delete_refusal, root_refusal}
use Rattle.adf_import.specs.Paths.{comment_refusal}
use Rattle.adf_import.proofs.Finding.{object_changed, same_changes}
use Rattle.adf_import.proofs.paths.change_at.Goals as goal

pub returns-else-all : goal.returns-else-all
returns-else-all c =
    let after = c.delete.new.volume in
    let is : c.args.change ≡ Delete false c.in-Delete.force = c.in-Delete.is ∙ ap (λ all. Delete all c.in-Delete.force) c.if-all.false in
    subst (λ (change : EntryChange). ChangesEntry c.args.moment change c.args.path.now c.args.volume.now after c.delete.result) (sym is)
    (object_changed (λ key. Changes (delete_refusal key c.in-Delete.force) (λ _ t. removed c.args.moment key t)) c.args.path.now c.in_ok-key.key c.args.volume.now c.object_at.new.volume after c.delete.result
    (λ t s. sym c.in_ok-key.was ∙ c.object_at.ensures.object t s) c.object_at.ensures.same c.delete.ensures.done)

pub returns-in-Protect : goal.returns-in-Protect
returns-in-Protect c =
    let after = c.protect.new.volume in
    let key = c.in_ok-key.key in
    let form = c.in-Protect.word.form in
    let letters = c.in-Protect.word.letters.now in
    subst (λ (change : EntryChange). ChangesEntry c.args.moment change c.args.path.now c.args.volume.now after c.protect.result) (sym c.in-Protect.is)
    (object_changed (λ key. Changes (root_refusal key) (λ _ t. reprotected c.args.moment key (form, letters) t)) c.args.path.now key c.args.volume.now c.object_at.new.volume after c.protect.result
    (λ t s. sym c.in_ok-key.was ∙ c.object_at.ensures.object t s) c.object_at.ensures.same
    (same_changes (root_refusal key) (root_refusal key) (λ _ t. protected c.args.moment key c.after-bits.result.0 t) (λ _ t. reprotected c.args.moment key (form, letters) t) c.object_at.new.volume after c.protect.result
    (λ _ _. refl)
    (λ _ t s. ap (λ (b : ℕ). protected c.args.moment key b t) (sym (c.after-bits.ensures ∙ ap (bits_after form letters) (c.protection.ensures t s))))
    c.protect.ensures.done))

pub returns-in-Date : goal.returns-in-Date
returns-in-Date c =
    let after = c.redate.new.volume in
    subst (λ (change : EntryChange). ChangesEntry c.args.moment change c.args.path.now c.args.volume.now after c.redate.result) (sym c.in-Date.is)
    (object_changed (λ key. Changes (root_refusal key) (λ _ t. with_date c.args.moment key c.in-Date.date t)) c.args.path.now c.in_ok-key.key c.args.volume.now c.object_at.new.volume after c.redate.result
    (λ t s. sym c.in_ok-key.was ∙ c.object_at.ensures.object t s) c.object_at.ensures.same c.redate.ensures.done)

pub returns-in-Comment : goal.returns-in-Comment
returns-in-Comment c =
    let after = c.comment.new.volume in
    subst (λ (change : EntryChange). ChangesEntry c.args.moment change c.args.path.now c.args.volume.now after c.comment.result) (sym c.in-Comment.is)
    (object_changed (λ key. Changes (comment_refusal key c.in-Comment.text.now) (λ _ t. with_comment c.args.moment key c.in-Comment.text.now t)) c.args.path.now c.in_ok-key.key c.args.volume.now c.object_at.new.volume after c.comment.result
    (λ t s. sym c.in_ok-key.was ∙ c.object_at.ensures.object t s) c.object_at.ensures.same c.comment.ensures.done)
