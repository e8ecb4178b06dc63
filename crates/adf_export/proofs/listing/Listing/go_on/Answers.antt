use Rattle.adf_export.proofs.Common.{ℕ, ◌+◌, ◌++◌, List, [], ◌∷◌, drop, refl, sym, ap, ap₂, ◌∙◌, subst, arith, false≢true, HasKey, FileInfo, name_in, Level, Listing, IsEntry}
use Rattle.adf_export.proofs.Directories.{entry_in, told_file}
use Rattle.adf_export.proofs.ListingSteps.{goes_to_entry, goes_up}
use Rattle.adf_export.proofs.Left.{Takes, ends, next_inside, lists_file, lists_directory}
use Rattle.adf_export.proofs.Levels.{last_is, others_are, pushed_are}
use Rattle.adf_export.proofs.Sorting.{ordered_none}
use Rattle.adf_export.proofs.listing.Listing.go_on.Goals as goal

pub describe-info-requires : goal.describe-info-requires
describe-info-requires c =
    let image = c.args.volume.now.image in
    let level = c.in-Some.level in
    let own = last_is image _ _ c.pop.result level c.pop.ensures.items c.in-Some.is c.requires in
    subst (HasKey image) c.in-Some-next_key.ensures.here (own level.next 0 c.in-Some-next_key.ensures.inside)

pub returns-in_default-next_key-clause-keys : goal.returns-in_default-next_key-clause-keys
returns-in_default-next_key-clause-keys c = others_are c.args.volume.now.image _ _ c.pop.result c.pop.ensures.items c.requires

pub returns-in_ok-push-3-clause-keys : goal.returns-in_ok-push-3-clause-keys
returns-in_ok-push-3-clause-keys c =
    let image = c.args.volume.now.image in
    let rest = others_are image _ _ c.pop.result c.pop.ensures.items c.requires in
    let own = last_is image _ _ c.pop.result c.in-Some.level c.pop.ensures.items c.in-Some.is c.requires in
    let first = pushed_are image _ _ _ c.in_ok-push.ensures.items rest own in
    pushed_are image _ _ _ c.in_ok-push-3.ensures.items first c.in_ok-keys.ensures.keys

pub returns-else-is_directory-clause-keys : goal.returns-else-is_directory-clause-keys
returns-else-is_directory-clause-keys c =
    let image = c.args.volume.now.image in
    let rest = others_are image _ _ c.pop.result c.pop.ensures.items c.requires in
    let own = last_is image _ _ c.pop.result c.in-Some.level c.pop.ensures.items c.in-Some.is c.requires in
    pushed_are image _ _ _ c.in_ok-push.ensures.items rest own

pub returns-in_default-next_key-clause-goes : goal.returns-in_default-next_key-clause-goes
returns-in_default-next_key-clause-goes c = λ t dir s first left so.
    let new : Listing = record { levels = c.pop.new.self; path = c.args.self.now.path; text = c.args.self.now.text } in
    goes_up t c.args.order dir c.args.form c.args.self.now new first left refl
    (ends t c.args.order s.proper dir c.args.self.now.levels.items c.pop.new.self.items c.in-Some.level c.args.self.now.path.items first left c.in-Some.ensures.items c.in_default-next_key.ensures.none so)

pub returns-in_ok-push-3-clause-goes : goal.returns-in_ok-push-3-clause-goes
returns-in_ok-push-3-clause-goes c = λ t dir s first left so.
    let order = c.args.order in
    let key = c.in-Some-next_key.key in
    let level = c.in-Some.level in
    let keys = drop (level.next + 1) level.keys.items in
    let after : Level = record { keys = level.keys; next = level.next + 1; path = level.path } in
    let takes : Takes level after key keys = record { next = c.in-Some-next_key.ensures.next; after = refl; place = refl } in
    let up = next_inside t order s.proper dir c.args.self.now.levels.items c.pop.new.self.items level c.args.self.now.path.items first left key keys c.in-Some.ensures.items c.in-Some-next_key.ensures.next so in
    let n = entry_in t up.0 key up.1 in
    let info = c.describe-info.ensures.info t n.0 s n.1 in
    let own = c.extend_from_slice.new.self.items in
    let own_is = c.in_ok-extend_from_slice.ensures.items
    ∙ ap₂ (λ (a b : List ℕ). a ++ b) c.truncate.ensures.items (c.bytes.ensures.value ∙ ap (λ (i : FileInfo). i.name) info ∙ sym (ap name_in n.1)) in
    let line = c.in_ok-push_entry.ensures in
    let is_line = subst (λ (i : FileInfo). IsEntry c.args.form i own line.0) info (subst (λ (p : List ℕ). IsEntry c.args.form c.describe-info.result p line.0) c.as_slice.ensures.value line.1) in
    let child : Level = record { keys = c.in_ok-keys.keys; next = 0; path = c.len.result } in
    let new : Listing = record { levels = c.push-then-is_directory-2.new.self; path = c.push-then-is_directory.new.self; text = c.push_entry.new.text } in
    goes_to_entry t order dir c.args.form c.args.self.now new first left own line.0 key n.0 n.1 is_line line.2
    (lists_directory t order s.proper dir c.args.self.now.levels.items c.pop.new.self.items c.push-then-is_directory-2.new.self.items level after child
    c.args.self.now.path.items own c.push-then-is_directory.new.self.items first left key keys c.in-Some.ensures.items takes so own_is c.in_ok-push-2.ensures.items (c.in_ok-keys.ensures.order t s)
    (omega (arith, c.len.ensures, c.push-then-is_directory.new.self.ok.0))
    (c.in_ok-push-3.ensures.items ∙ ap (λ (l : List Level). l ++ child ∷ []) c.in_ok-push.ensures.items))

pub returns-else-is_directory-clause-goes : goal.returns-else-is_directory-clause-goes
returns-else-is_directory-clause-goes c = λ t dir s first left so.
    let order = c.args.order in
    let key = c.in-Some-next_key.key in
    let level = c.in-Some.level in
    let keys = drop (level.next + 1) level.keys.items in
    let after : Level = record { keys = level.keys; next = level.next + 1; path = level.path } in
    let takes : Takes level after key keys = record { next = c.in-Some-next_key.ensures.next; after = refl; place = refl } in
    let up = next_inside t order s.proper dir c.args.self.now.levels.items c.pop.new.self.items level c.args.self.now.path.items first left key keys c.in-Some.ensures.items c.in-Some-next_key.ensures.next so in
    let n = entry_in t up.0 key up.1 in
    let info = c.describe-info.ensures.info t n.0 s n.1 in
    let own = c.extend_from_slice.new.self.items in
    let own_is = c.in_ok-extend_from_slice.ensures.items
    ∙ ap₂ (λ (a b : List ℕ). a ++ b) c.truncate.ensures.items (c.bytes.ensures.value ∙ ap (λ (i : FileInfo). i.name) info ∙ sym (ap name_in n.1)) in
    let line = c.in_ok-push_entry.ensures in
    let is_line = subst (λ (i : FileInfo). IsEntry c.args.form i own line.0) info (subst (λ (p : List ℕ). IsEntry c.args.form c.describe-info.result p line.0) c.as_slice.ensures.value line.1) in
    let new : Listing = record { levels = c.push.new.self; path = c.extend_from_slice.new.self; text = c.push_entry.new.text } in
    let no_entries = ordered_none t order key (told_file t key up.0 n.0 n.1 n.2
    (λ is. false≢true (sym c.if-is_directory.false ∙ c.is_directory.ensures.1 (ap (λ (i : FileInfo). i.entry_type) info ∙ is)))) in
    goes_to_entry t order dir c.args.form c.args.self.now new first left own line.0 key n.0 n.1 is_line line.2
    (lists_file t order s.proper dir c.args.self.now.levels.items c.pop.new.self.items c.push.new.self.items level after
    c.args.self.now.path.items own first left key keys c.in-Some.ensures.items takes no_entries so own_is c.in_ok-push.ensures.items)
