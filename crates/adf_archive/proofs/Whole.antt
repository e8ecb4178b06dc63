-- The output for an archive, whole or in part.
use Rattle.std.proofs.Common.{◌≡◌, ℕ, zero, suc, ◌+◌, ◌<◌, ◌≤◌, Bool, true, false, Bor, List, [], length, get_or, All, Option, Some, None, option_map, is_some, Result, Ok, Err, IsErrAnd, refl, sym, ap, subst, length-append, map, arith}
use Rattle.adf_archive.proofs.Common.{length-map, nat_lt, All-nil, Shared, FnReturns, Appends, WritesFront, writes_nothing, ImageReport, Form, Tally, Archive, IsDetailOf, TellsArchive, told_in, GivesFrom, told_from, IsReportOfSome, Detail, IsBroken, IsTally, ends, ends_over}
use Rattle.std.proofs.lemmas.List.Elements.{length_all_zip}
use Rattle.adf_cli.specs.declared.query.CheckJob.{CheckJob}
use Rattle.adf_archive.specs.NameLists.{AreOwn, IsCalled}
use Rattle.adf_archive.specs.declared.fault.ArchiveFault.{ArchiveFault}
use Rattle.adf_archive.specs.declared.fault.ArchiveFault.TheVariants.{Refused, NotChecked, OneImage, Output, Memory}

-- the function's report for each position is the check's result for some bytes
pub checked_all : {F : Type 0} (g : Shared F (ℕ × Unit {0}) ImageReport) (f : F) (detail : Detail) (count : ℕ) (reports : List ImageReport)
    → GivesFrom g f 0 count reports → ((i : ℕ) (r : ImageReport) → FnReturns g f (i, tt) r → IsReportOfSome detail r) → All (IsReportOfSome detail) reports
checked_all g f detail count reports gives each = λ i d l. each (0 + i) (get_or reports i d) (gives.1 i d (omega (arith, l, gives.0)))

-- the status of images never ends a command as broken
not_broken : (a b : Bool) (fault : ArchiveFault) → IsBroken fault → Err fault ≡ ends a b → ⊥
not_broken true b Output broken e = cc e
not_broken true b Memory broken e = cc e
not_broken false true Output broken e = cc e
not_broken false true Memory broken e = cc e
not_broken false false fault broken e = cc e
not_broken a b Refused broken e = broken
not_broken a b NotChecked broken e = broken
not_broken a b OneImage broken e = broken

not_broken_over : (n : ℕ) (tally : Tally) (fault : ArchiveFault) → IsBroken fault → Err fault ≡ ends_over n tally → ⊥
not_broken_over zero tally Output broken e = cc e
not_broken_over zero tally Memory broken e = cc e
not_broken_over zero tally Refused broken e = broken
not_broken_over zero tally NotChecked broken e = broken
not_broken_over zero tally OneImage broken e = broken
not_broken_over (suc n) tally fault broken e = not_broken (nat_lt 0 tally.not_checked) (nat_lt 0 tally.refused) fault broken e

-- nor as one with a list
not_alone : (a b : Bool) → Err OneImage ≡ ends a b → ⊥
not_alone true b e = cc e
not_alone false true e = cc e
not_alone false false e = cc e

not_alone_over : (n : ℕ) (tally : Tally) → Err OneImage ≡ ends_over n tally → ⊥
not_alone_over zero tally e = cc e
not_alone_over (suc n) tally e = not_alone (nat_lt 0 tally.not_checked) (nat_lt 0 tally.refused) e

-- a list is there, or its bytes are
pub some_bytes : (list : Option (Bor (List ℕ))) → is_some (option_map (λ (b : Bor (List ℕ)). b.now) list) ≡ is_some list
some_bytes None = refl
some_bytes (Some list) = refl

-- the bytes of a list, in memory
in_memory : (list : Option (List ℕ)) → (bytes : Option (Bor (List ℕ))) × (option_map (λ (b : Bor (List ℕ)). b.now) bytes ≡ list)
in_memory None = (None, refl)
in_memory (Some list) = (Some (record { ref_ptr = (0, 0); now = list }), refl)

-- the path is left out only for a single image
pub only_one : (job : CheckJob) (names : List (List ℕ)) (in_directory : Bool) (paths : List (List ℕ)) → (in_directory ≡ false → AreOwn (map (λ word. word.now) job.files.items) names paths) → in_directory ≡ false
    → length job.files.items ≤ 1 → length names ≡ 0 → length paths ≤ 1
only_one job names in_directory paths own none few unnamed =
    let are = own none in
    omega (arith, few, unnamed, ap length are.2, length-append (map (λ word. word.now) job.files.items) are.0, length-map job.files.items (λ word. word.now), length_all_zip IsCalled names are.0 are.1)

module _ (job : CheckJob) (names : List (List ℕ)) (list : Option (List ℕ)) where
  -- all that the command may report
  everything : Detail
  everything = record { all = job.all; contents = job.json; filler = job.filler; bad = (in_memory list).0 }

  -- no image was reported
  nothing : Archive job names list
  unfolding everything
  nothing = record {
    paths = [];
    reports = [];
    detail = everything;
    wanted = record { all = refl; filler = refl; bad = (in_memory list).1; contents = refl };
    form = record { json = job.json; paths = true };
    within = omega arith;
    checked = All-nil (IsReportOfSome everything);
    json = refl;
    in_directory = true;
    own = λ e. absurd (cc e);
    alone = λ e. absurd (cc e);
    several = λ l. refl;
    named = λ l. refl;
    listed = λ is. omega arith;
  }

  pub none_told : (w : Option (List ℕ)) (fault : ArchiveFault) → fault ≡ Memory → TellsArchive job names list w w (Err fault)
  none_told w fault e = subst (λ (f : ArchiveFault). TellsArchive job names list w w (Err f)) (sym e) (nothing, writes_nothing w (told_in nothing))

  -- the search for images failed
  pub none_told_at : (w : Option (List ℕ)) (result : Result (Unit {0}) ArchiveFault) → IsErrAnd result (λ f. f ≡ Memory) → TellsArchive job names list w w result
  none_told_at w (Ok x) e = absurd e
  none_told_at w (Err fault) e = none_told w fault e

  module _ (form : Form) (paths : List (List ℕ)) (json : form.json ≡ job.json) (in_directory : Bool) (own : in_directory ≡ false → AreOwn (map (λ word. word.now) job.files.items) names paths)
      (alone : form.paths ≡ false → length paths ≤ 1) (several : 1 < length job.files.items → form.paths ≡ true) (named : 0 < length names → form.paths ≡ true) (listed : is_some list ≡ true → form.paths ≡ false) (old new : Option (List ℕ)) (reports : List ImageReport) (detail : Detail) (wanted : IsDetailOf job list detail) (checked : All (IsReportOfSome detail) reports) where
    archive : length reports ≤ length paths → Archive job names list
    archive within = record { paths = paths; reports = reports; form = form; within = within; detail = detail; wanted = wanted; checked = checked; json = json; in_directory = in_directory; own = own; alone = alone; several = several; named = named; listed = λ is. omega (arith, within, alone (listed is)) }

    pub left_off : length reports ≤ length paths → (fault : ArchiveFault) → IsBroken fault → WritesFront old new (told_from form paths 0 reports) → TellsArchive job names list old new (Err fault)
    unfolding archive
    left_off within Output broken front = (archive within, front)
    left_off within Memory broken front = (archive within, front)
    left_off within fault broken front = absurd broken

    pub left_off_at : length reports ≤ length paths → (fault : ArchiveFault) → IsBroken fault → WritesFront old new (told_from form paths 0 reports)
        → (result : Result (Unit {0}) ArchiveFault) → IsErrAnd result (λ f. f ≡ fault) → TellsArchive job names list old new result
    left_off_at within fault broken front (Ok x) e = absurd e
    left_off_at within fault broken front (Err f) e = left_off within f (subst IsBroken (sym e) broken) front

    pub told_all : length reports ≡ length paths → (tally : Tally) → IsTally reports tally → Appends old new (told_from form paths 0 reports)
        → (result : Result (Unit {0}) ArchiveFault) → result ≡ ends_over (length reports) tally → TellsArchive job names list old new result
    unfolding archive
    told_all all tally is told (Err Output) e = absurd (not_broken_over (length reports) tally Output tt e)
    told_all all tally is told (Err Memory) e = absurd (not_broken_over (length reports) tally Memory tt e)
    told_all all tally is told (Err OneImage) e = absurd (not_alone_over (length reports) tally e)
    told_all all tally is told result e = (archive (omega (arith, all)), told, (all, (tally, is, e)))
