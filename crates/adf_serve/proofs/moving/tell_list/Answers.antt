use Rattle.std.proofs.Common.{ℕ, List, option_map, Bor, sym, subst}
use Rattle.ados_model.specs.Keys.{HasKey}
use Rattle.ados_model.specs.Stands.{Stands}
use Rattle.ados_volume.specs.Shown.{Shown}
use Rattle.adf_serve.specs.Texts.{BeginsListOf, IsListOf}
use Rattle.adf_serve.proofs.Printing.{front_asked, leaves_front, list_asked, list_front, list_text, tells_unlisted}
use Rattle.adf_serve.proofs.moving.tell_list.Goals as goal

pub write_list-requires : goal.write_list-requires
write_list-requires g c = subst (λ (v : Shown). HasKey v.image c.in_ok-key.key) (sym c.in_ok-key.ensures.same) c.in_ok-key.ensures.key

pub returns-in_err-key : goal.returns-in_err-key
returns-in_err-key g c =
    tells_unlisted (IsListOf c.args.styled c.args.job.now) (BeginsListOf c.args.styled c.args.job.now) c.args.image _ c.in_err-key.field-0.0 _
    c.in_err-key.ensures.fault c.from_residual-in_err-key.ensures.1

pub returns-in-Ok : goal.returns-in-Ok
returns-in-Ok g c =
    let path = option_map (λ (word : Bor (List ℕ)). word.now) c.args.job.now.path in
    let told = list_text c.args.image _ _ c.in_ok-volume.ensures path c.shown_form-form.result c.args.job.now.order c.in_ok-key.key _ _ c.in_ok-key.ensures.listed
    (λ t s. c.in-Ok.ensures.ok t (subst (λ (v : Shown). Stands v.image t) (sym c.in_ok-key.ensures.same) s)) in
    list_asked c.args.image c.args.job.now c.args.styled c.shown_form-form.result c.shown_form-form.ensures _ _ told

pub returns : goal.returns
returns g c =
    let path = option_map (λ (word : Bor (List ℕ)). word.now) c.args.job.now.path in
    let front = list_front c.args.image _ _ c.in_ok-volume.ensures path c.shown_form-form.result c.args.job.now.order c.in_ok-key.key _ _ c.in_ok-key.ensures.listed
    (λ t s. c.in-Err.ensures.front t (subst (λ (v : Shown). Stands v.image t) (sym c.in_ok-key.ensures.same) s)) in
    let asked = front_asked c.args.image c.args.job.now c.args.styled c.shown_form-form.result c.shown_form-form.ensures _ _ front in
    leaves_front (BeginsListOf c.args.styled c.args.job.now c.args.image) c.args.image _ _ c.from.result asked c.from.ensures
