use Rattle.std.proofs.Common.{[], is_some, rules, sym, ap, ◌∙◌, subst}
use Rattle.adf_import.proofs.Common.{IsName, DiskFull, ObjectExists, Stands, child_of, Shown, lacks, none_free_lacks, can_make_in, none_there, passed}
use Rattle.ados_volume.proofs.Refusing.{stops}
use Rattle.adf_import.proofs.SomeFree.{lowest_free_room}
use Rattle.adf_import.proofs.Turns.{kept_looked, kept_same}
use Rattle.adf_import.proofs.entries.make_directory.Goals as goal

pub create-requires : goal.create-requires
create-requires c =
    let valid : IsName c.args.name = search rules in
    can_make_in c.args.volume.now.image c.args.dir c.args.name c.requires valid
    (λ t s. none_there (child_of t c.args.dir c.args.name) (ap is_some (sym (c.child.ensures.child t s)) ∙ sym c.is_some.ensures ∙ c.if-is_some.false))
    c.child.new.self.image (ap (λ (v : Shown). v.image) c.child.ensures.same)

pub returns-in-Ok-clause-made : goal.returns-in-Ok-clause-made
returns-in-Ok-clause-made c = (
  λ t s.
      let there = subst (λ (v : Shown). Stands v.image t) (sym c.child.ensures.same) s in
      let absent = ap is_some (sym (c.child.ensures.child t s)) ∙ sym c.is_some.ensures ∙ c.if-is_some.false in (
        passed ObjectExists (is_some (child_of t c.args.dir c.args.name)) _ absent ∙ passed DiskFull (lacks t 1) [] (lowest_free_room c.child.new.self.image t there c.in-Ok.key c.in-Ok.ensures.done.0),
        c.in-Ok.ensures.done.1 t there,
      ),
  kept_looked c.args.volume.now c.child.new.self c.create.new.self c.child.ensures.same c.create.ensures.keeps,
)

pub returns-in-Err-clause-made : goal.returns-in-Err-clause-made
returns-in-Err-clause-made c = (
  (
    c.in-Err.ensures.done.1 ∙ c.child.ensures.same,
    λ t s.
        let there = subst (λ (v : Shown). Stands v.image t) (sym c.child.ensures.same) s in
        let absent = ap is_some (sym (c.child.ensures.child t s)) ∙ sym c.is_some.ensures ∙ c.if-is_some.false in
        passed ObjectExists (is_some (child_of t c.args.dir c.args.name)) _ absent ∙ stops DiskFull (lacks t 1) [] (none_free_lacks c.child.new.self.image t there c.in-Err.ensures.done.0),
  ),
  kept_looked c.args.volume.now c.child.new.self c.create.new.self c.child.ensures.same c.create.ensures.keeps,
)

pub returns-then-is_some-clause-made : goal.returns-then-is_some-clause-made
returns-then-is_some-clause-made c = (
  (c.child.ensures.same, λ t s. stops ObjectExists (is_some (child_of t c.args.dir c.args.name)) _ (ap is_some (sym (c.child.ensures.child t s)) ∙ sym c.is_some.ensures ∙ c.if-is_some.true)),
  kept_same c.args.volume.now c.child.new.self c.child.ensures.same,
)
