use Rattle.std.proofs.Common.{sym, ◌∙◌, subst}
use Rattle.adf_import.proofs.Common.{HasKey, Shown, Stands}
use Rattle.adf_import.proofs.Putting.{child_key}
use Rattle.adf_import.proofs.saved_look.child_at.Goals as goal

pub is_saved-requires : goal.is_saved-requires
is_saved-requires c =
    subst (λ (v : Shown). HasKey v.image c.in-Some.key) (sym c.child.ensures.same)
    (child_key c.args.volume.now.image c.args.dir c.args.item.now.name c.in-Some.key (λ t s. sym (c.child.ensures.child t s) ∙ c.in-Some.is))

pub returns-in_ok-saved-in-Some-clause-there : goal.returns-in_ok-saved-in-Some-clause-there
returns-in_ok-saved-in-Some-clause-there c = record {
  known = child_key c.args.volume.now.image c.args.dir c.args.item.now.name c.in-Some.key (λ t s. sym (c.child.ensures.child t s) ∙ c.in-Some.is);
  child = λ t s. sym (c.child.ensures.child t s) ∙ c.in-Some.is;
  same = λ t s yes. c.in_ok-saved-in-Some.ensures t (subst (λ (v : Shown). Stands v.image t) (sym c.child.ensures.same) s) yes;
}

pub returns-in-None-clause-there : goal.returns-in-None-clause-there
returns-in-None-clause-there c = λ t s. sym (c.child.ensures.child t s) ∙ c.in-None.is
