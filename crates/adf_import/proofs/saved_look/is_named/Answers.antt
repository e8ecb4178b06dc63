use Rattle.std.proofs.Common.{rules, length, refl}
use Rattle.std.proofs.lemmas.Option.{slice_get_read}
use Rattle.adf_import.proofs.SavedPlaces.{named_entry}
use Rattle.adf_import.proofs.saved_look.is_named.Goals as goal

pub returns-in-Some : goal.returns-in-Some
returns-in-Some c = λ same.
    let known = c.in-Some-get.ensures.lookup in
    named_entry c.args.entries.now c.args.own.now c.args.item.now.spot c.in-Some.place c.in-Some-get.entry.now c.args.item.now.name (search rules)
    (slice_get_read c.args.entries.now (length c.args.entries.now) c.in-Some.place c.in-Some-get.entry.now refl known.3.0 known.1) (search rules)
