use Rattle.ados_faults.proofs.Common.{refl, sym, subst, Role, Page, Entry, Data, Extension, Bitmap, Directory, Slot, DataFile, ExtensionFile, AreCoveredBy, IsListed, step_of}
use Rattle.ados_faults.proofs.Covering.{data_covered, extension_covered, number_here, page_covered, root_covered}
use Rattle.ados_faults.proofs.roles.Roles.take.Goals as goal

pub returns-in-Root-clause-covered : goal.returns-in-Root-clause-covered
returns-in-Root-clause-covered c = λ e steps back. subst (AreCoveredBy steps c.args.block) (sym c.in-Root.is) (root_covered steps c.args.block)

pub returns-in-Page-clause-covered : goal.returns-in-Page-clause-covered
returns-in-Page-clause-covered c = λ e steps back. subst (AreCoveredBy steps c.args.block) (sym c.in-Page.is) (page_covered steps c.args.block (c.take_number.ensures.covered e steps back))

pub returns-in-Page-clause-backed : goal.returns-in-Page-clause-backed
returns-in-Page-clause-backed c = λ steps back at.
    c.take_number.ensures.backed steps back (number_here steps c.args.block Page Bitmap 0 (subst (λ (r : Role). IsListed steps (step_of c.args.block r)) c.in-Page.is at) refl)

pub returns-then-in_dir-clause-backed : goal.returns-then-in_dir-clause-backed
returns-then-in_dir-clause-backed c = λ steps back at.
    let here = subst (λ (r : Role). IsListed steps (step_of c.args.block r)) c.in-Entry.is at in
    c.take_number-in_slot.ensures.backed steps (c.take_number-in_dir.ensures.backed steps back (number_here steps c.args.block (Entry c.in-Entry.dir c.in-Entry.slot) Directory c.in-Entry.dir here refl))
    (number_here steps c.args.block (Entry c.in-Entry.dir c.in-Entry.slot) Slot c.in-Entry.slot here refl)

pub returns-else-in_dir-clause-backed : goal.returns-else-in_dir-clause-backed
returns-else-in_dir-clause-backed c = λ steps back at.
    let here = subst (λ (r : Role). IsListed steps (step_of c.args.block r)) c.in-Entry.is at in
    c.take_number-in_slot.ensures.backed steps (c.take_number-in_dir.ensures.backed steps back (number_here steps c.args.block (Entry c.in-Entry.dir c.in-Entry.slot) Directory c.in-Entry.dir here refl))
    (number_here steps c.args.block (Entry c.in-Entry.dir c.in-Entry.slot) Slot c.in-Entry.slot here refl)

pub returns-in-Data-clause-covered : goal.returns-in-Data-clause-covered
returns-in-Data-clause-covered c = λ e steps back.
    subst (AreCoveredBy steps c.args.block) (sym c.in-Data.is) (data_covered steps c.args.block c.in-Data.file (c.take_number-in-Data.ensures.covered e steps back))

pub returns-in-Data-clause-backed : goal.returns-in-Data-clause-backed
returns-in-Data-clause-backed c = λ steps back at.
    c.take_number-in-Data.ensures.backed steps back
    (number_here steps c.args.block (Data c.in-Data.file) DataFile c.in-Data.file (subst (λ (r : Role). IsListed steps (step_of c.args.block r)) c.in-Data.is at) refl)

pub returns-in-Extension-clause-covered : goal.returns-in-Extension-clause-covered
returns-in-Extension-clause-covered c = λ e steps back.
    subst (AreCoveredBy steps c.args.block) (sym c.in-Extension.is) (extension_covered steps c.args.block c.in-Extension.file (c.take_number-in-Extension.ensures.covered e steps back))

pub returns-in-Extension-clause-backed : goal.returns-in-Extension-clause-backed
returns-in-Extension-clause-backed c = λ steps back at.
    c.take_number-in-Extension.ensures.backed steps back
    (number_here steps c.args.block (Extension c.in-Extension.file) ExtensionFile c.in-Extension.file (subst (λ (r : Role). IsListed steps (step_of c.args.block r)) c.in-Extension.is at) refl)
