use Rattle.std.proofs.Common.{◌≡◌, [], Some, None, rules, sym, ◌∙◌, subst}
use Rattle.adf_import.proofs.Common.{HasKey, Stands, made, child_of, Tree, Directory, Shown, enter_refusal, entered, new_refusal}
use Rattle.adf_import.specs.declared.put.Entered.{Entered}
use Rattle.adf_import.proofs.Finding.{changed_from, same_changes}
use Rattle.adf_import.proofs.Putting.{child_key, enter_new, enter_new_tree, enter_there, enter_there_tree}
use Rattle.adf_import.proofs.Turns.{kept_same}
use Rattle.adf_import.proofs.put.enter_directory.Goals as goal

pub is_file-requires : goal.is_file-requires
is_file-requires c =
    let there : (t : Tree) → Stands c.args.volume.now.image t → child_of t c.args.dir c.args.name ≡ Some c.in-Some.key = λ t s. sym (c.child.ensures.child t s) ∙ c.in-Some.is in
    subst (λ (v : Shown). HasKey v.image c.in-Some.key) (sym c.child.ensures.same) (child_key c.args.volume.now.image c.args.dir c.args.name c.in-Some.key there)

pub returns-in-None-clause-entered : goal.returns-in-None-clause-entered
returns-in-None-clause-entered c =
    let none : (t : Tree) → Stands c.args.volume.now.image t → child_of t c.args.dir c.args.name ≡ None = λ t s. sym (c.child.ensures.child t s) ∙ c.in-None.is in
    same_changes new_refusal (enter_refusal c.args.dir c.args.name c.args.force) (λ (e : Entered) t. made c.args.moment c.args.dir e.key c.args.name (Directory []) t) (λ e t. entered c.args.moment c.args.dir c.args.name e.key t)
    c.args.volume.now c.new_directory.new.volume c.new_directory.result (λ t s. enter_new t c.args.dir c.args.name (none t s) c.args.force) (λ e t s. enter_new_tree t c.args.dir c.args.name (none t s) c.args.moment e.key)
    (changed_from new_refusal (λ (e : Entered) t. made c.args.moment c.args.dir e.key c.args.name (Directory []) t) c.args.volume.now c.child.new.self c.new_directory.new.volume c.new_directory.result c.child.ensures.same c.new_directory.ensures.made)

pub returns-then-not-is_file-clause-entered : goal.returns-then-not-is_file-clause-entered
returns-then-not-is_file-clause-entered c = (
  λ t s.
      let is : child_of t c.args.dir c.args.name ≡ Some c.in-Some.key = sym (c.child.ensures.child t s) ∙ c.in-Some.is in
      let after = subst (λ (v : Shown). Stands v.image t) (sym c.child.ensures.same) s in (
        enter_there t c.args.dir c.args.name c.in-Some.key is c.args.force (sym (c.is_file.ensures.file t after) ∙ c.if-not-is_file.true),
        subst (Stands c.child.new.self.image) (sym (enter_there_tree t c.args.dir c.args.name c.in-Some.key is c.args.moment c.in-Some.key)) after,
      ),
  kept_same c.args.volume.now c.child.new.self c.child.ensures.same,
)

pub returns-then-force-clause-entered : goal.returns-then-force-clause-entered
returns-then-force-clause-entered c = (search rules, kept_same c.args.volume.now c.child.new.self c.child.ensures.same)

pub returns-else-force-clause-entered : goal.returns-else-force-clause-entered
returns-else-force-clause-entered c = (search rules, kept_same c.args.volume.now c.child.new.self c.child.ensures.same)
