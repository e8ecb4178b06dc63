use Rattle.std.proofs.Common.{◌≡◌, ◌+◌, ◌≤◌, ℕ, Option, List, [], ◌∷◌, length, is_some, rules, Some, None, false, sym, ap, ◌∙◌, subst, le-ltb}
use Rattle.adf_import.proofs.Common.{true≢false, HasKey, HasTree, block_cost, free as free_of, Tree, IsName, DosError, ObjectExists, File, Stands, made, child_of, Shown, none_free_lacks, can_make_in, none_there, passed, GoesThrough, KeepsKeys, filling, more_blocks, none, one_more, or_no_room}
use Rattle.ados_change.proofs.Making.{unused}
use Rattle.adf_import.proofs.Filling.{IsFileKey, after_change}
use Rattle.adf_import.proofs.Putting.{add_keeps, child_key, put_new, put_new_steps, put_new_tree, put_over, put_over_steps, put_over_tree, replace_keeps}
use Rattle.adf_import.proofs.Rooms.{as_told, has_room, new_is_empty, no_room, room_in_new, some_room}
use Rattle.adf_import.proofs.Turns.{goes_both, kept_looked}
use Rattle.adf_import.proofs.new_file.put_file.Goals as goal

-- ---- in place of the file with the name

pub replace_file-requires : goal.replace_file-requires
replace_file-requires c =
    let there : (t : Tree) → Stands c.args.volume.now.image t → child_of t c.args.dir c.args.name ≡ Some c.in-Some.key = λ t s. sym (c.child.ensures.child t s) ∙ c.in-Some.is in
    subst (λ (v : Shown). HasKey v.image c.in-Some.key) (sym c.child.ensures.same) (child_key c.args.volume.now.image c.args.dir c.args.name c.in-Some.key there)

pub returns-in-Ok-clause-put : goal.returns-in-Ok-clause-put
returns-in-Ok-clause-put c = λ t s.
    let size : ℕ = length c.args.file.now.bytes.now in
    let is : child_of t c.args.dir c.args.name ≡ Some c.in-Some.key = sym (c.child.ensures.child t s) ∙ c.in-Some.is in
    let after = subst (λ (v : Shown). Stands v.image t) (sym c.child.ensures.same) s in
    let done = c.in-Ok.ensures.done t after in (
      put_over t c.args.dir c.args.name c.in-Some.key is size c.args.force c.if-not-force.false ∙ done.0,
      subst (Stands c.replace_file.new.volume.image) (sym (put_over_tree t c.args.dir c.args.name c.in-Some.key is c.args.moment c.args.file.now c.in-Some.key)) done.1,
    )

pub returns-in-Ok-clause-keys : goal.returns-in-Ok-clause-keys
returns-in-Ok-clause-keys c =
    let size : ℕ = length c.args.file.now.bytes.now in
    subst (λ (v : Shown). KeepsKeys v.image c.replace_file.new.volume.image) c.child.ensures.same
    (replace_keeps c.args.moment c.in-Some.key size false c.args.file.now c.child.new.self.image c.replace_file.new.volume.image (subst (λ (v : Shown). HasTree v.image) (sym c.child.ensures.same) c.image.ensures.stands) c.in-Ok.ensures.done)

pub returns-in-Ok-clause-unused : goal.returns-in-Ok-clause-unused
returns-in-Ok-clause-unused c = λ t s none.
    let is : child_of t c.args.dir c.args.name ≡ Some c.in-Some.key = sym (c.child.ensures.child t s) ∙ c.in-Some.is in
    absurd (cc (is, none))

pub returns-in-Ok-clause-goes : goal.returns-in-Ok-clause-goes
returns-in-Ok-clause-goes c = λ t s.
    let is : child_of t c.args.dir c.args.name ≡ Some c.in-Some.key = sym (c.child.ensures.child t s) ∙ c.in-Some.is in
    subst (λ (steps : List (Tree → Tree)). GoesThrough steps c.args.volume.now.image c.replace_file.new.volume.image) (sym (put_over_steps t c.args.dir c.args.name c.in-Some.key is c.args.moment c.args.file.now c.in-Some.key))
    (subst (λ (v : Shown). GoesThrough (filling c.args.moment c.in-Some.key c.args.file.now) v.image c.replace_file.new.volume.image) c.child.ensures.same c.in-Ok.ensures.goes)

-- ---- a new file

pub create-requires : goal.create-requires
create-requires c =
    let valid : IsName c.args.name = search rules in
    can_make_in c.args.volume.now.image c.args.dir c.args.name c.requires valid
    (λ t s. none_there (child_of t c.args.dir c.args.name) (ap is_some (sym (c.child.ensures.child t s) ∙ c.in_default.is)))
    c.child.new.self.image (ap (λ (v : Shown). v.image) c.child.ensures.same)

pub unreachable-requires : goal.unreachable-requires
unreachable-requires c =
    let t = c.image.ensures.stands.0 in
    let s = subst (λ (v : Shown). Stands v.image t) (sym c.child.ensures.same) c.image.ensures.stands.1 in
    let enough = some_room c.new_file_blocks-needed.result (block_cost t.format (length c.args.file.now.bytes.now)) (free_of t) (c.new_file_blocks-needed.ensures t s) (c.in_default-need_free.ensures t s) in
    true≢false (sym (none_free_lacks c.child.new.self.image t s c.in_default-create.ensures.done.0) ∙ le-ltb (free_of t) 1 enough)

pub fill-requires-clause-key : goal.fill-requires-clause-key
fill-requires-clause-key c =
    let t = c.image.ensures.stands.0 in
    let s = c.image.ensures.stands.1 in
    let there = subst (λ (v : Shown). Stands v.image t) (sym c.child.ensures.same) s in
    let fresh = unused c.child.new.self.image t there c.in-Ok-create.key c.in-Ok-create.ensures.done.0 in
    after_change (IsFileKey c.in-Ok-create.key) (made c.args.moment c.args.dir c.in-Ok-create.key c.args.name (File [])) c.child.new.self.image c.create.new.self.image t there c.in-Ok-create.ensures.done.1
    ([], new_is_empty t c.args.moment c.args.dir c.in-Ok-create.key c.args.name (c.requires t s) fresh)

pub fill-requires-clause-room : goal.fill-requires-clause-room
fill-requires-clause-room c =
    let t = c.image.ensures.stands.0 in
    let s = c.image.ensures.stands.1 in
    let there = subst (λ (v : Shown). Stands v.image t) (sym c.child.ensures.same) s in
    let fresh = unused c.child.new.self.image t there c.in-Ok-create.key c.in-Ok-create.ensures.done.0 in
    let size : ℕ = length c.args.file.now.bytes.now in
    let enough = as_told c.new_file_blocks-needed.result (1 + block_cost t.format size) (free_of t) (c.new_file_blocks-needed.ensures t there) (c.in_default-need_free.ensures t there) in
    after_change (λ (v : Tree). more_blocks v c.in-Ok-create.key size ≤ free_of v) (made c.args.moment c.args.dir c.in-Ok-create.key c.args.name (File [])) c.child.new.self.image c.create.new.self.image t there c.in-Ok-create.ensures.done.1
    (room_in_new t c.args.moment c.args.dir c.in-Ok-create.key c.args.name (c.requires t s) fresh size enough)

pub returns-in-Err-need_free-clause-put : goal.returns-in-Err-need_free-clause-put
returns-in-Err-need_free-clause-put c = (
  c.child.ensures.same,
  λ t s.
      let size : ℕ = length c.args.file.now.bytes.now in
      let there = subst (λ (v : Shown). Stands v.image t) (sym c.child.ensures.same) s in
      let none : child_of t c.args.dir c.args.name ≡ None = sym (c.child.ensures.child t s) ∙ c.in_default.is in
      let needed : ℕ = 1 + block_cost t.format size in
      let few = c.in-Err-need_free.ensures t there in
      put_new t c.args.dir c.args.name none size c.args.force
      ∙ ap (λ (o : Option DosError). or_no_room o needed (free_of t)) (passed ObjectExists (is_some (child_of t c.args.dir c.args.name)) [] (ap is_some none))
      ∙ no_room needed (free_of t) c.new_file_blocks-needed.result c.in-Err-need_free.refused (c.new_file_blocks-needed.ensures t there) few.0 few.1,
)

pub returns-clause-put : goal.returns-clause-put
returns-clause-put c = λ t s.
    let size : ℕ = length c.args.file.now.bytes.now in
    let there = subst (λ (v : Shown). Stands v.image t) (sym c.child.ensures.same) s in
    let none : child_of t c.args.dir c.args.name ≡ None = sym (c.child.ensures.child t s) ∙ c.in_default.is in
    let needed : ℕ = 1 + block_cost t.format size in (
      put_new t c.args.dir c.args.name none size c.args.force
          ∙ ap (λ (o : Option DosError). or_no_room o needed (free_of t)) (passed ObjectExists (is_some (child_of t c.args.dir c.args.name)) [] (ap is_some none))
          ∙ has_room needed (free_of t) c.new_file_blocks-needed.result (c.new_file_blocks-needed.ensures t there) (c.in_default-need_free.ensures t there),
      subst (Stands c.fill.new.volume.image) (sym (put_new_tree t c.args.dir c.args.name none c.args.moment c.args.file.now c.in-Ok-create.key)) (c.fill.ensures.stands _ (c.in-Ok-create.ensures.done.1 t there)),
    )

pub returns-clause-unused : goal.returns-clause-unused
returns-clause-unused c = λ t s none.
    unused c.child.new.self.image t (subst (λ (v : Shown). Stands v.image t) (sym c.child.ensures.same) s) c.in-Ok-create.key c.in-Ok-create.ensures.done.0

pub returns-clause-keys : goal.returns-clause-keys
returns-clause-keys c =
    let there : (t : Tree) → Stands c.args.volume.now.image t → Stands c.child.new.self.image t = λ t s. subst (λ (v : Shown). Stands v.image t) (sym c.child.ensures.same) s in
    add_keeps c.args.moment c.args.dir c.in-Ok-create.key c.args.name c.args.file.now c.args.volume.now.image c.fill.new.volume.image c.image.ensures.stands c.requires
    (λ t s. c.fill.ensures.stands _ (c.in-Ok-create.ensures.done.1 t (there t s)))
    (λ t s. unused c.child.new.self.image t (there t s) c.in-Ok-create.key c.in-Ok-create.ensures.done.0)

pub returns-clause-goes : goal.returns-clause-goes
returns-clause-goes c = λ t s.
    let absent : child_of t c.args.dir c.args.name ≡ None = sym (c.child.ensures.child t s) ∙ c.in_default.is in
    let stands : (u : Tree) → Stands c.args.volume.now.image u → Stands c.create.new.self.image (made c.args.moment c.args.dir c.in-Ok-create.key c.args.name (File []) u) =
    λ u r. c.in-Ok-create.ensures.done.1 u (subst (λ (v : Shown). Stands v.image u) (sym c.child.ensures.same) r) in
    let made_keeps = kept_looked c.args.volume.now c.child.new.self c.create.new.self c.child.ensures.same c.create.ensures.keeps in
    let make = made c.args.moment c.args.dir c.in-Ok-create.key c.args.name (File []) in
    subst (λ (steps : List (Tree → Tree)). GoesThrough steps c.args.volume.now.image c.fill.new.volume.image) (sym (put_new_steps t c.args.dir c.args.name absent c.args.moment c.args.file.now c.in-Ok-create.key))
    (goes_both c.args.volume.now.image c.create.new.self.image c.fill.new.volume.image (make ∷ []) (filling c.args.moment c.in-Ok-create.key c.args.file.now)
    (one_more [] make none stands made_keeps (_, stands t s)) c.fill.ensures.goes)
