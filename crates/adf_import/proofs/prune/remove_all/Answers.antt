use Rattle.std.proofs.Common.{◌≡◌, ℕ, List, [], Some, refl, ◌∙◌, subst, arith}
use Rattle.adf_import.proofs.Common.{common_steps, Tree, Proper, parent_of, Stands, HasEntryKey, some_in}
use Rattle.ados_volume.proofs.Refusing.{parent_there}
use Rattle.adf_import.proofs.Pruning.{IsPruning, can_remove_next, can_remove_top, next_removed, none_removed, pruning_ends, pruning_goes_on, pruning_starts, top_removed}
use Rattle.adf_import.proofs.prune.remove_all.Goals as goal

pub loop-entry-init : goal.loop-entry-init
loop-entry-init c = record { pruning = λ t s. pruning_starts t c.args.key c.args.below.items c.args.volume.now.image s; removed = none_removed c.args.moment c.args.below.items c.args.volume.now.image; validated = refl }

pub remove-requires : goal.remove-requires
remove-requires c = λ u r.
    let t = c.image.ensures.stands.0 in
    let s = c.image.ensures.stands.1 in
    can_remove_next t c.args.moment c.args.key s.proper c.args.below.items (c.requires.below t s) c.loop-entry.volume.image
    c.loop-entry.below.items c.pop.new.self.items c.in-Some.entry c.in-Some.ensures.items (c.loop-entry.invariant.pruning t s) u r

pub loop-entry-preserved : goal.loop-entry-preserved
loop-entry-preserved c =
    let t = c.image.ensures.stands.0 in
    let now = c.loop-entry.invariant.pruning t c.image.ensures.stands.1 in
    record {
      pruning = λ t s.
          pruning_goes_on t c.args.moment c.args.key s.proper c.args.below.items (c.requires.below t s) c.loop-entry.volume.image
          c.loop-entry.below.items c.pop.new.self.items c.in-Some.entry c.in-Some.ensures.items (c.loop-entry.invariant.pruning t s) c.remove.new.self.image
          c.remove.ensures.stands;
      removed =
          next_removed c.args.moment c.in-Some.entry c.args.volume.now.image c.loop-entry.volume.image c.remove.new.self.image c.remove.ensures.stands c.remove.ensures.keeps
          (_, c.remove.ensures.stands now.now now.stands) c.args.below.items c.loop-entry.below.items c.pop.new.self.items c.in-Some.ensures.items c.loop-entry.invariant.removed;
      validated = c.remove.ensures.validated ∙ c.loop-entry.invariant.validated;
    }

-- the directory of the entry
own_directory : (t : Tree) → Proper t → (image : List ℕ) (key : ℕ) → HasEntryKey image key → Stands image t → (dir : ℕ) × (parent_of t key ≡ Some dir)
own_directory t proper image key entry s =
    let e = entry t s in
    let n = some_in (t.nodes key) e.0 in
    parent_there t proper key n.0 n.1 e.1

pub remove-requires-2 : goal.remove-requires-2
remove-requires-2 c = λ u r.
    let t = c.image.ensures.stands.0 in
    let s = c.image.ensures.stands.1 in
    let none : c.loop-entry.below.items ≡ [] = grind (arith, common_steps) in
    let d = own_directory t s.proper c.args.volume.now.image c.args.key c.requires.entry s in
    can_remove_top t c.args.moment c.args.key s.proper c.args.below.items (c.requires.below t s) c.loop-entry.volume.image d.0 d.1
    (subst (IsPruning t c.args.key c.args.below.items c.loop-entry.volume.image) none (c.loop-entry.invariant.pruning t s)) u r

pub returns-clause-stands : goal.returns-clause-stands
returns-clause-stands c = λ t s.
    let none : c.loop-entry.below.items ≡ [] = grind (arith, common_steps) in
    let d = own_directory t s.proper c.args.volume.now.image c.args.key c.requires.entry s in
    pruning_ends t c.args.moment c.args.key s.proper c.args.below.items (c.requires.below t s) c.loop-entry.volume.image d.0 d.1
    (subst (IsPruning t c.args.key c.args.below.items c.loop-entry.volume.image) none (c.loop-entry.invariant.pruning t s))
    c.remove-2.new.self.image c.remove-2.ensures.stands

pub returns-clause-goes : goal.returns-clause-goes
returns-clause-goes c =
    let left : c.loop-entry.below.items ≡ [] = grind (arith, common_steps) in
    top_removed c.args.moment c.args.key c.args.volume.now.image c.loop-entry.volume.image c.remove-2.new.self.image c.remove-2.ensures.stands c.remove-2.ensures.keeps
    (_, returns-clause-stands c c.image.ensures.stands.0 c.image.ensures.stands.1) c.args.below.items c.loop-entry.below.items left c.loop-entry.invariant.removed c.requires.below
