-- The output for an image, whole or in part.
use Rattle.std.proofs.Common.{◌≡◌, ◌≢◌, ◌↔◌, ℕ, Bor, ◌⊎◌, IsTrue, IsFalse, codes, inl, inr, Bool, true, false, List, [], ◌++◌, Option, Some, None, MatchOption, option_map, Ok, Err, IfErr, OnErr, OnOk, IsErrAnd, refl, sym, ap, ap₂, ◌∙◌, subst}
use Rattle.std.specs.Io.KnownBytes.{Appends, Keeps}
use Rattle.std.proofs.KnownBytes.{Keeps-refl}
use Rattle.std.specs.Prelude.{⊤}
use Rattle.ados_salvage.specs.Salvaged.{Saved}
use Rattle.adf_cli.specs.declared.query.SalvageJob.{SalvageJob}
use Rattle.ados_model.specs.Accepted.{Accepts, HandsBack, IsRefusal}
use Rattle.ados_model.specs.Faults.{Shows}
use Rattle.ados_model.specs.Stands.{Stands}
use Rattle.ados_model.specs.Tree.{Tree, bytes_of}
use Rattle.ados_model.specs.declared.fault.FaultKind.{FaultKind}
use Rattle.ados_model.specs.declared.fault.FaultKind.TheVariants.{NoMemory, NotADosDisk, UnsupportedKind}
use Rattle.ados_model.specs.declared.answer.Answer.{Answer}
use Rattle.ados_model.specs.declared.fault.VolumeFault.{VolumeFault}
use Rattle.adf_io.specs.Prefix.{Writes, WritesFront, WritesFrontOf}
use Rattle.adf_export.specs.Info.{info_text}
use Rattle.adf_export.specs.Listing.{BeginsList, IsList}
use Rattle.adf_cli.specs.declared.job.ImageJob.{ImageJob}
use Rattle.adf_export.specs.declared.fault.OutFault.{OutFault}
use Rattle.adf_export.specs.declared.fault.OutFault.TheVariants as out
use Rattle.adf_export.specs.Printing.{IsPrinted, IsPrintFault}
use Rattle.adf_io.proofs.Prefixes.{writes_first}
use Rattle.adf_serve.specs.declared.fault.CommandFault.{CommandFault}
use Rattle.adf_serve.specs.declared.fault.CommandFault.TheVariants.{Dos, Extracted, ImagesRefused, LeftOut, Memory, NotChecked, NotWhole, OneImage, Output, Refused}
use Rattle.adf_serve.specs.declared.refusal.Refusal.{Refusal}
use Rattle.adf_serve.specs.declared.refusal.DosRefusal.{DosRefusal}
use Rattle.adf_serve.specs.Asked.{AnswersDisk}
use Rattle.adf_serve.specs.Texts.{AreEntryBlocks, BeginsJobText, BeginsListOf, BeginsListText, IsJobText, IsListed, IsListOf, IsListText, shown_form, IsLook, IsLookText, IsInfoText, IsPrintText}
use Rattle.adf_serve.specs.Faults.{IsBlankFault, IsNoImage, IsNoImageRefusal, IsNoRefusal, IsRefusedFor, IsToldAs, IsToldOut, IsUnread}
use Rattle.adf_serve.specs.Commands.{Does, DoesJob, Ending, EndsJob, EndsOff, LeavesOff, Prints, prints, prints_json, Tells, TellsFault, TellsMade, TellsJob, TellsOf, TellsSome}
use Rattle.adf_serve.specs.Commands.Prints.{OnlyFaults, OfMade, OfBlocks, OfBytes, OfClients, OfDeleted, OfImages, OfMap, OfRescue}
use Rattle.adf_serve.specs.NewImages.{IsMade, IsNew, IsUnmade, Made, PutsMade, WritesMade}
use Rattle.adf_serve.specs.NewImages.Made.{ABlank, ABooted, ABootBlock, ABundled, AChanged}
use Rattle.std.proofs.lemmas.List.{append-nil}
use Rattle.adf_archive.specs.Archive.{told_in}
use Rattle.adf_archive.specs.declared.fault.ArchiveFault.{ArchiveFault}
use Rattle.adf_archive.specs.declared.fault.ArchiveFault.TheVariants as archive
use Rattle.adf_archive.specs.Words.{kind_word}
use Rattle.adf_cli.specs.declared.query.CheckJob.{CheckJob}
use Rattle.adf_cli.specs.declared.query.ListForm.{ListForm}
use Rattle.adf_cli.specs.declared.query.ListJob.{ListJob}
use Rattle.adf_cli.specs.declared.query.ListOrder.{ListOrder}
use Rattle.adf_cli.specs.declared.query.MapJob.{MapJob}
use Rattle.adf_cli.specs.declared.query.WhereJob.{WhereJob}
use Rattle.adf_block.specs.Image.{block_count}
use Rattle.adf_block.specs.Whole.{IsImage}
use Rattle.adf_where.specs.Faulty.{IsFaultyWhere}
use Rattle.adf_where.specs.Own.{IsWhereOf}
use Rattle.adf_where.specs.Where.{IsWhere, IsWhereFault, LeavesWhere}
use Rattle.adf_where.specs.declared.asking.Asking.{Asking}
use Rattle.adf_where.specs.declared.where_fault.WhereFault.{WhereFault}
use Rattle.adf_where.specs.declared.where_fault.WhereFault.TheVariants as places
use Rattle.adf_cli.specs.declared.block_word.BlockWord.{BlockWord}
use Rattle.adf_export.specs.Words.{LeadsTo}
use Rattle.adf_serve.specs.Archives.{EndsArchive, IsListFault, IsToldArchive, IsUnlisted, TellsListed}
use Rattle.adf_serve.specs.Deleted.{IsDeletedText, IsUndeleteEnd}
use Rattle.adf_serve.specs.Mapped.{IsBareMap, IsKindRefusal, IsMapReport}
use Rattle.adf_where.specs.FaultyMap.{IsFaultyMap}
use Rattle.ados_faults.specs.Listed.{IsOtherKind}
use Rattle.adf_serve.specs.Placed.{DoesWhere, IsBareRefusal, IsPlacedIn, IsUnasked, IsWhereText, LeavesPlaced, MayEnd}
use Rattle.adf_serve.specs.Reports.{DoesReport, IsSomeText, TellsReport}
use Rattle.adf_serve.proofs.Clients.{serve_failed, serve_unsaid}
use Rattle.adf_serve.specs.Rescues.{IsHostEnd, IsMendedAs, IsMendedFor, IsRescueText, IsSomeSize, told_all}
use Rattle.adf_serve.specs.Unread.{AreMarksOf}
use Rattle.adf_serve.specs.Refusals.{dos_text, IsDosText, IsImageRefusal, IsRefusalText, IsSizeRefusal, refusal_text, told_line}

-- an image is refused, as the fault says
pub refused_for : (image : List ℕ) (fault : VolumeFault) (told : CommandFault) → IsRefusal image fault → IsToldAs fault told → IsRefusedFor image told
refused_for image fault (Refused refusal) refused (no_want, kind, block) = (fault.kind, subst (Shows image fault.kind) (sym block) (shown refused), kind)
  where
    shown : IsRefusal image fault → Shows image fault.kind fault.block
    shown (inl shows) = shows
    shown (inr want) = absurd (no_want want.0)
refused_for image fault told refused t = t.0

-- nothing is written for a refused image
pub leaves_refused : (IsText : List ℕ → Type 0) (image : List ℕ) (w : Option (List ℕ)) (fault : CommandFault) → IsRefusedFor image fault → LeavesOff IsText image w w fault
leaves_refused IsText image w (Refused refusal) h = (inr h, Keeps-refl w)
leaves_refused IsText image w (Dos refusal) h = Keeps-refl w
leaves_refused IsText image w fault h = inl (Keeps-refl w)

-- a prefix of a text is written
pub leaves_front : (IsText : List ℕ → Type 0) (image : List ℕ) (old new : Option (List ℕ)) (fault : CommandFault) → WritesFrontOf old new IsText → IsNoRefusal fault → LeavesOff IsText image old new fault
leaves_front IsText image old new (Refused refusal) front plain = absurd (cc plain)
leaves_front IsText image old new (Dos refusal) front plain = absurd (cc plain)
leaves_front IsText image old new fault front plain = inr front

-- a text is written, whole or as far as the writer accepts it
pub told_text : (IsText : List ℕ → List ℕ → Type 0) (image : List ℕ) (old new : Option (List ℕ)) (text : List ℕ) (done : Ending) → IsText image text → OnOk done (Appends old new text)
    → OnErr done (WritesFront old new text) → IfErr done IsNoRefusal → TellsOf IsText IsText image old new done
told_text IsText image old new text (Ok x) is told front plain = (text, told, is)
told_text IsText image old new text (Err fault) is told front plain = leaves_front (IsText image) image old new fault (text, is, front) plain

-- nothing is written
pub leaves_nothing : (IsText : List ℕ → Type 0) (image : List ℕ) (w : Option (List ℕ)) (fault : CommandFault) → IsNoRefusal fault → LeavesOff IsText image w w fault
leaves_nothing IsText image w (Refused refusal) plain = absurd (cc plain)
leaves_nothing IsText image w (Dos refusal) plain = Keeps-refl w
leaves_nothing IsText image w fault plain = inl (Keeps-refl w)

-- a fault other than a refused image leaves the output so far
pub leaves_kept : (IsText : List ℕ → Type 0) (image : List ℕ) (old new : Option (List ℕ)) (fault : CommandFault) → IsNoImageRefusal fault → Keeps old new → LeavesOff IsText image old new fault
leaves_kept IsText image old new (Refused refusal) plain keeps = absurd plain
leaves_kept IsText image old new (Dos refusal) plain keeps = keeps
leaves_kept IsText image old new fault plain keeps = inl keeps

-- nothing is written for a path that leads nowhere
pub tells_unlisted : (IsText BeginsText : List ℕ → List ℕ → Type 0) (image : List ℕ) (w : Option (List ℕ)) (fault : CommandFault) (done : Ending) → IsNoImageRefusal fault
    → IsErrAnd done (λ told. told ≡ fault) → TellsOf IsText BeginsText image w w done
tells_unlisted IsText BeginsText image w fault (Ok x) plain same = absurd same
tells_unlisted IsText BeginsText image w fault (Err told) plain same = leaves_kept (BeginsText image) image w w told (subst IsNoImageRefusal (sym same) plain) (Keeps-refl w)

-- nothing is written if no image was read
no_image : (BeginsText : List ℕ → List ℕ → Type 0) (w : Option (List ℕ)) (fault : CommandFault) → IsNoImage fault → (bytes : List ℕ) × LeavesOff (BeginsText bytes) bytes w w fault
no_image BeginsText w (Refused refusal) (bytes, is) = (bytes, (inl is, Keeps-refl w))
no_image BeginsText w (Dos refusal) is = absurd is
no_image BeginsText w fault is = ([], inl (Keeps-refl w))

pub tells_no_image : (IsText BeginsText : List ℕ → List ℕ → Type 0) (w : Option (List ℕ)) (fault : CommandFault) (done : Ending) → IsNoImage fault
    → IsErrAnd done (λ told. told ≡ fault) → TellsSome IsText BeginsText w w done
tells_no_image IsText BeginsText w fault (Ok x) is same = absurd same
tells_no_image IsText BeginsText w fault (Err told) is same = no_image BeginsText w told (subst IsNoImage (sym same) is)

-- a blank image that is not made is not a refused one
blank_plain : (s : Bool) (blocks : ℕ) (word : List ℕ) (fault : CommandFault) → IsBlankFault s blocks word fault → IsNoRefusal fault
blank_plain s blocks word (Refused refusal) e = absurd (cc e)
blank_plain s blocks word (Dos refusal) e = absurd (cc e)
blank_plain s blocks word fault e = refl

pub accepted_tree : (image : List ℕ) (was_validated : Bool) (checked : List ℕ) → Accepts image was_validated checked → (t : Tree) × Stands checked t
accepted_tree image false checked a = (a.3.0, a.3.1)
accepted_tree image true checked a = (a.2.0, a.2.1)

-- the answer of DISK_INFO for the tree of the image, printed
pub info_told : (json : Bool) (image : List ℕ) (answer : Answer) (last shown : List ℕ) → AnswersDisk image answer last → shown ≡ last → IsInfoText json image (info_text json answer shown)
info_told json image answer last shown (was_validated, checked, t, accepted, stands, (same, is)) shown_is =
    (was_validated, checked, t, accepted, stands, ap₂ (info_text json) is (shown_is ∙ same))

-- the list that a job asks for, and the beginning of one
module _ (image : List ℕ) (job : ListJob) (styled : Bool) (form : ListForm) (same : form ≡ shown_form styled job.form) (old new : Option (List ℕ)) where
  abbrev asked_path : Option (List ℕ)
  asked_path = option_map (λ (word : Bor (List ℕ)). word.now) job.path

  pub list_asked : Writes old new (IsListText asked_path form job.order image) → Writes old new (IsListOf styled job image)
  list_asked = subst (λ (f : ListForm). Writes old new (IsListText asked_path f job.order image)) same

  pub front_asked : WritesFrontOf old new (BeginsListText asked_path form job.order image) → WritesFrontOf old new (BeginsListOf styled job image)
  front_asked = subst (λ (f : ListForm). WritesFrontOf old new (BeginsListText asked_path f job.order image)) same

-- for an accepted image
module _ (image : List ℕ) (was_validated : Bool) (checked : List ℕ) (a : Accepts image was_validated checked) where
  pub list_text : (path : Option (List ℕ)) (form : ListForm) (order : ListOrder) (key : ℕ) (old new : Option (List ℕ)) → ((t : Tree) → Stands checked t → IsListed t path key)
      → ((t : Tree) → Stands checked t → Writes old new (IsList t order key form)) → Writes old new (IsListText path form order image)
  list_text path form order key old new listed h =
      let s = accepted_tree image was_validated checked a in
      let w = h s.0 s.1 in (w.0, w.1, (was_validated, checked, s.0, a, s.1, (key, listed s.0 s.1, w.2)))

  pub list_front : (path : Option (List ℕ)) (form : ListForm) (order : ListOrder) (key : ℕ) (old new : Option (List ℕ)) → ((t : Tree) → Stands checked t → IsListed t path key)
      → ((t : Tree) → Stands checked t → WritesFrontOf old new (BeginsList t order key form)) → WritesFrontOf old new (BeginsListText path form order image)
  list_front path form order key old new listed h =
      let s = accepted_tree image was_validated checked a in
      let w = h s.0 s.1 in (w.0, (was_validated, checked, s.0, a, s.1, (key, listed s.0 s.1, w.1)), w.2)

  pub print_text : (word : List ℕ) (old new : Option (List ℕ)) → ((t : Tree) → Stands checked t → IsPrinted t word old new) → Writes old new (IsPrintText word image)
  print_text word old new h =
      let s = accepted_tree image was_validated checked a in
      let w = h s.0 s.1 in (bytes_of s.0 w.0, w.3, (was_validated, checked, s.0, a, s.1, (w.0, w.1, w.2, refl)))

  pub looked : (styled json : Bool) (text : List ℕ) → ((t : Tree) → Stands checked t → IsLook styled json was_validated checked t text) → IsLookText styled json image text
  looked styled json text is =
      let s = accepted_tree image was_validated checked a in (was_validated, checked, s.0, a, s.1, is s.0 s.1)

  -- the owners of blocks, written whole, or as far as the writer accepts them
  module _ (job : WhereJob) (asking : Asking) (asked : asking.words.now ≡ job.blocks.items) (of_json : asking.json ≡ job.json) (marks : AreMarksOf job.bad (block_count image) [] asking.unread.now) (old new : Option (List ℕ)) where
    abbrev Owned : Tree → List ℕ → Type 0
    Owned t = IsWhere asking.json asking.unread.now checked t asking.words.now

    owned : (t : Tree) → Stands checked t → (text : List ℕ) → Owned t text → IsWhereText job true text
    owned t s text is =
        let told = subst (λ (blocks : List BlockWord). IsWhere asking.json asking.unread.now checked t blocks text) asked is in
        (image, (asking.unread.now, marks, (was_validated, checked, t, a, s, subst (λ (json : Bool). IsWhere json asking.unread.now checked t job.blocks.items text) of_json told)))

    pub owners_written : ((t : Tree) → Stands checked t → Writes old new (Owned t)) → Writes old new (IsWhereText job true)
    owners_written told =
        let s = accepted_tree image was_validated checked a in
        let w = told s.0 s.1 in (w.0, w.1, owned s.0 s.1 w.0 w.2)

    pub owners_left : (fault : WhereFault) → ((t : Tree) → Stands checked t → LeavesWhere (Owned t) old new fault)
        → Keeps old new ⊎ WritesFrontOf old new (IsSomeText (IsWhereText job))
    owners_left fault told =
        let s = accepted_tree image was_validated checked a in
        go fault (told s.0 s.1)
      where
        some : (t : Tree) → Stands checked t → Keeps old new ⊎ WritesFrontOf old new (Owned t) → Keeps old new ⊎ WritesFrontOf old new (IsSomeText (IsWhereText job))
        some t s (inl keeps) = inl keeps
        some t s (inr (text, is, written)) = inr (text, (true, owned t s text is), written)

        go : (fault : WhereFault) → LeavesWhere (Owned (accepted_tree image was_validated checked a).0) old new fault
            → Keeps old new ⊎ WritesFrontOf old new (IsSomeText (IsWhereText job))
        go (places.NoBlock word) keeps = inl keeps
        go places.Memory left = some (accepted_tree image was_validated checked a).0 (accepted_tree image was_validated checked a).1 left
        go places.Output left = some (accepted_tree image was_validated checked a).0 (accepted_tree image was_validated checked a).1 left

  pub entry_told : (json : Bool) (word : List ℕ) (key : ℕ) (text : List ℕ) → ((t : Tree) → Stands checked t → LeadsTo t word key) → ((t : Tree) → Stands checked t → IsWhereOf json checked t key text)
      → AreEntryBlocks json word image text
  entry_told json word key text leads is =
      let s = accepted_tree image was_validated checked a in (was_validated, checked, s.0, a, s.1, (key, leads s.0 s.1, is s.0 s.1))

  pub print_fault : (word : List ℕ) (old new : Option (List ℕ)) (fault : OutFault) (told : CommandFault) → ((t : Tree) → Stands checked t → IsPrintFault t word old new fault)
      → IsToldOut fault told → LeavesOff (IsPrintText word image) image old new told
  print_fault word old new out.Output told h same =
      let s = accepted_tree image was_validated checked a in
      let w = h s.0 s.1 in
      let bytes = bytes_of s.0 w.0 in
      subst (λ (f : CommandFault). LeavesOff (IsPrintText word image) image old new f) (sym same)
      (inr (bytes, (was_validated, checked, s.0, a, s.1, (w.0, w.1, w.2, refl)), writes_first old new w.3.0 bytes w.3.1))
  print_fault word old new fault told h plain =
      let s = accepted_tree image was_validated checked a in
      leaves_kept (IsPrintText word image) image old new told plain (h s.0 s.1).0

-- output after no output
kept_appends : (a b c : Option (List ℕ)) (bytes : List ℕ) → Keeps a b → Appends b c bytes → Appends a c bytes
kept_appends None b c bytes k w = tt
kept_appends (Some x) None c bytes k w = absurd k
kept_appends (Some x) (Some y) None bytes k w = absurd w
kept_appends (Some x) (Some y) (Some z) bytes k w = w ∙ ap (λ (l : List ℕ). l ++ bytes) k

-- why nothing is made: no image was read, it is refused, or the fault has no text
pub unread_unmade : (made : Made) (fault : CommandFault) → IsUnread fault → IsUnmade made fault
unread_unmade made (Refused refusal) is = is
unread_unmade made (Dos refusal) is = absurd is
unread_unmade made fault is = tt

pub size_unread : (fault : CommandFault) → IsNoImage fault → IsUnread fault
size_unread (Refused refusal) is = (is.0, inl is.1)
size_unread fault is = is

pub refused_unread : (image : List ℕ) (fault : CommandFault) → IsRefusedFor image fault → IsUnread fault
refused_unread image (Refused refusal) is = (image, inr is)
refused_unread image (Dos refusal) is = absurd (cc is)
refused_unread image fault is = subst IsUnread (sym is) tt

pub plain_unmade : (made : Made) (fault : CommandFault) → IsNoRefusal fault → IsUnmade made fault
plain_unmade made (Refused refusal) plain = absurd (cc plain)
plain_unmade made (Dos refusal) plain = absurd (cc plain)
plain_unmade made fault plain = tt

-- a fault before any output
none_put : (made : Made) (w : Option (List ℕ)) (fault : CommandFault) → WritesMade made w w (Err fault)
none_put made w (Refused refusal) = Keeps-refl w
none_put made w (Dos refusal) = Keeps-refl w
none_put made w fault = inl (Keeps-refl w)

pub made_not_put : (made : Made) (file w : Option (List ℕ)) (fault : CommandFault) → IsUnmade made fault → PutsMade made file w w (Err fault)
made_not_put made file w fault why = record { output = λ is. none_put made w fault; other = λ other. Keeps-refl w; why = why }

pub unput : (made : Made) (w : Option (List ℕ)) (fault : CommandFault) (done : Ending) → IsErrAnd done (λ told. told ≡ fault) → WritesMade made w w done
unput made w fault (Ok x) same = absurd same
unput made w fault (Err told) same = none_put made w told

pub not_put : (made : Made) (file w : Option (List ℕ)) (fault : CommandFault) (done : Ending) → IsUnmade made fault → IsErrAnd done (λ told. told ≡ fault) → PutsMade made file w w done
not_put made file w fault (Ok x) why same = absurd same
not_put made file w fault (Err told) why same = made_not_put made file w told (subst (IsUnmade made) (sym same) why)

-- what is made is put; it fails without a text
module _ (made : Made) (old new : Option (List ℕ)) (done : Ending) (plain : IfErr done IsNoRefusal) where
  put_why : IfErr done (IsUnmade made)
  put_why = go done plain
    where
      go : (done : Ending) → IfErr done IsNoRefusal → IfErr done (IsUnmade made)
      go (Ok x) plain = tt
      go (Err fault) plain = plain_unmade made fault plain

  -- the file of the image is standard output
  pub put_output : (file : List ℕ) (is_output : Bool) → (IsTrue is_output ↔ (file ≡ codes "-")) → IsTrue is_output → WritesMade made old new done → PutsMade made (Some file) old new done
  put_output file is_output same is_so put = record { output = λ is. put; other = λ other. absurd (other (ap Some (same.0 is_so))); why = put_why }

  -- it is another
  pub put_file : (file : List ℕ) (is_output : Bool) → (IsTrue is_output ↔ (file ≡ codes "-")) → IsFalse is_output → Keeps old new → PutsMade made (Some file) old new done
  put_file file is_output same is_not keeps =
      record { output = λ is. absurd (let is_so = same.1 (cc is) in cc (sym is_not ∙ is_so)); other = λ other. keeps; why = put_why }

  -- it is one of these
  pub put_work : (file : Option (List ℕ)) (image : List ℕ) (to_output : Bool) → IsNew made image → (IsTrue to_output ↔ (file ≡ Some (codes "-")))
      → (IsTrue to_output → (m : Made) → IsNew m image → WritesMade m old new done) → (IsFalse to_output → Keeps old new) → PutsMade made file old new done
  put_work file image true is same put keeps = record { output = λ so. put refl made is; other = λ other. absurd (other (same.0 refl)); why = put_why }
  put_work file image false is same put keeps = record { output = λ so. absurd (cc (same.1 so)); other = λ other. keeps refl; why = put_why }

pub blank_unmade : (made : Made) (s : Bool) (blocks : ℕ) (word : List ℕ) (fault : CommandFault) → IsBlankFault s blocks word fault → IsUnmade made fault
blank_unmade made s blocks word fault is = plain_unmade made fault (blank_plain s blocks word fault is)

-- a refusal by AmigaDOS may be the reason that nothing is made of a directory
pub bundle_unmade : (fault : CommandFault) → IsNoImageRefusal fault → IsUnmade ABundled fault
bundle_unmade (Refused refusal) is = absurd is
bundle_unmade (Dos refusal) is = tt
bundle_unmade fault is = tt

-- an image is what is made, with what is after it in its file
pub begins_made : (made : Made) (image rest : List ℕ) → IsNew made image → IsImage image → IsMade made (image ++ rest)
begins_made (ABlank blank) image rest is whole = (image, rest, whole, is, refl)
begins_made (AChanged job) image rest is whole = (image, rest, whole, is, refl)
begins_made ABundled image rest is whole = (image, rest, whole, is, refl)
begins_made (ABooted block) image rest is whole = (image, rest, whole, is, refl)
begins_made ABootBlock image rest is whole = absurd is

-- what is put as far as the writer accepts it
made_front : (made : Made) (old new : Option (List ℕ)) (text : List ℕ) (fault : CommandFault) → IsMade made text → IsNoRefusal fault → WritesFront old new text → WritesMade made old new (Err fault)
made_front made old new text (Refused refusal) is plain front = absurd (cc plain)
made_front made old new text (Dos refusal) is plain front = absurd (cc plain)
made_front made old new text fault is plain front = inr (text, is, front)

pub made_put : (made : Made) (old new : Option (List ℕ)) (text : List ℕ) (done : Ending) → IsMade made text → OnOk done (Appends old new text) → OnErr done (WritesFront old new text) → IfErr done IsNoRefusal
    → WritesMade made old new done
made_put made old new text (Ok x) is all front plain = (text, all, is)
made_put made old new text (Err fault) is all front plain = made_front made old new text fault is plain front

-- the fault of a job that puts something
made_failed : (json : Bool) (made : Made) (old new : Option (List ℕ)) (fault : CommandFault) → WritesMade made old new (Err fault) → IsNoRefusal fault → TellsMade json made old new (Err fault)
made_failed json made old new (Refused refusal) h plain = absurd (cc plain)
made_failed json made old new (Dos refusal) h plain = absurd (cc plain)
made_failed json made old new fault (inl keeps) plain = inl keeps
made_failed json made old new fault (inr (text, is, front)) plain = inr (text, inl is, front)

made_unsaid : (json : Bool) (made : Made) (old new : Option (List ℕ)) (fault : CommandFault) → WritesMade made old new (Err fault) → TellsMade json made old new (Err Memory)
made_unsaid json made old new (Refused refusal) keeps = inl keeps
made_unsaid json made old new (Dos refusal) keeps = inl keeps
made_unsaid json made old new fault (inl keeps) = inl keeps
made_unsaid json made old new fault (inr (text, is, front)) = inr (text, inl is, front)

-- an option without a value, and one with a value
pub none_told : {A : Type 0} (f : A → List ℕ) (o : Option A) (told : Option (List ℕ)) → option_map f o ≡ told → o ≡ None → told ≡ None
none_told f o told e is = sym e ∙ ap (option_map f) is

pub some_told : {A : Type 0} (f : A → List ℕ) (o : Option A) (x : A) (told : Option (List ℕ)) → option_map f o ≡ told → o ≡ Some x → told ≡ Some (f x)
some_told f o x told e is = sym e ∙ ap (option_map f) is

-- a text is a prefix of itself
told_front : (old new : Option (List ℕ)) (text : List ℕ) → Appends old new text → WritesFront old new text
told_front old new text told = (text, told, ([], sym (append-nil text)))

-- the fault of a check of images, as that of the command
pub archive_ends : (job : CheckJob) (old new : Option (List ℕ)) (fault : ArchiveFault) (told : CommandFault) → TellsListed job old new (Err fault) → IsToldArchive fault told → EndsArchive job old new (Err told)
archive_ends job old new archive.Refused told h same = subst (λ (f : CommandFault). EndsArchive job old new (Err f)) (sym same) h
archive_ends job old new archive.NotChecked told h same = subst (λ (f : CommandFault). EndsArchive job old new (Err f)) (sym same) h
archive_ends job old new archive.OneImage told h same = subst (λ (f : CommandFault). EndsArchive job old new (Err f)) (sym same) h
archive_ends job old new archive.Output told h same = subst (λ (f : CommandFault). EndsArchive job old new (Err f)) (sym same) h
archive_ends job old new archive.Memory told h same = subst (λ (f : CommandFault). EndsArchive job old new (Err f)) (sym same) (inr h)

-- a list without names
list_ends : (job : CheckJob) (w : Option (List ℕ)) (fault : CommandFault) → IsListFault job.from fault → EndsArchive job w w (Err fault)
list_ends job w Memory is = inl (Keeps-refl w)
list_ends job w ImagesRefused (list, given, none) = absurd none
list_ends job w NotChecked (list, given, none) = absurd none
list_ends job w OneImage (list, given, none) = absurd none
list_ends job w Output (list, given, none) = absurd none
list_ends job w (Refused refusal) (list, given, none) = absurd none
list_ends job w (Dos refusal) (list, given, none) = absurd none
list_ends job w fault is = (inl is, Keeps-refl w)

pub list_failed : (job : CheckJob) (w : Option (List ℕ)) (fault : CommandFault) (done : Ending) → IsListFault job.from fault → IsErrAnd done (λ told. told ≡ fault) → EndsArchive job w w done
list_failed job w fault (Ok x) is same = absurd same
list_failed job w fault (Err told) is same = list_ends job w told (subst (IsListFault job.from) (sym same) is)

-- what is known of a list of blocks that was not read
of_list : (list : Option (Bor (List ℕ))) (A : Type 0) → MatchOption list ⊥ (λ file. A) → A
of_list None A none = absurd none
of_list (Some file) A is = is

-- a list of blocks that was not read
module _ (job : CheckJob) (w : Option (List ℕ)) where
  unlisted : (fault : CommandFault) → IsUnlisted job fault → EndsArchive job w w (Err fault)
  unlisted Memory is = inl (Keeps-refl w)
  unlisted ImagesRefused is = absurd (cc (of_list job.bad (ImagesRefused ≡ Memory) is))
  unlisted NotChecked is = absurd (cc (of_list job.bad (NotChecked ≡ Memory) is))
  unlisted OneImage is = absurd (cc (of_list job.bad (OneImage ≡ Memory) is))
  unlisted Output is = absurd (cc (of_list job.bad (Output ≡ Memory) is))
  unlisted (Refused refusal) is = absurd (cc (of_list job.bad (Refused refusal ≡ Memory) is))
  unlisted (Dos refusal) is = absurd (cc (of_list job.bad (Dos refusal ≡ Memory) is))
  unlisted fault is = (inr is, Keeps-refl w)

  pub unlisted_ends : (fault : CommandFault) (done : Ending) → IsUnlisted job fault → IsErrAnd done (λ told. told ≡ fault) → EndsArchive job w w done
  unlisted_ends fault (Ok x) is same = absurd same
  unlisted_ends fault (Err told) is same = unlisted told (subst (IsUnlisted job) (sym same) is)

-- a check of images that ran out of memory
archive_unsaid : (job : CheckJob) (old new : Option (List ℕ)) (fault : CommandFault) → EndsArchive job old new (Err fault) → EndsArchive job old new (Err Memory)
archive_unsaid job old new ImagesRefused (names, listed, (list, has, (archive, told, whole))) = inr (names, listed, (list, has, (archive, told_front old new (told_in archive) told)))
archive_unsaid job old new NotChecked (names, listed, (list, has, (archive, told, whole))) = inr (names, listed, (list, has, (archive, told_front old new (told_in archive) told)))
archive_unsaid job old new OneImage (names, listed, (list, has, (some, keeps))) = inl keeps
archive_unsaid job old new Output front = inr front
archive_unsaid job old new Memory front = front
archive_unsaid job old new (Refused refusal) none = absurd none
archive_unsaid job old new (Dos refusal) none = absurd none
archive_unsaid job old new fault is = inl is.1

-- a fault without a text has none in any form
none_in : (json : Bool) (fault : CommandFault) → IsNoRefusal fault → told_line json fault ≡ None
none_in json (Refused refusal) plain = absurd (cc plain)
none_in json (Dos refusal) plain = absurd (cc plain)
none_in json fault plain = refl

pub plain : (json : Bool) (fault : CommandFault) → told_line json fault ≡ None → IsNoRefusal fault
plain json (Refused refusal) none = absurd (cc none)
plain json (Dos refusal) none = absurd (cc none)
plain json fault none = refl

-- a report on an image
module _ (json : Bool) (IsText : Bool → List ℕ → Type 0) (IsPlain : Refusal → Type 0) (MayEnd : CommandFault → Type 0) where
  -- the fault has no text, or no memory for it
  report_failed : (old new : Option (List ℕ)) (fault : CommandFault) → DoesReport IsText IsPlain MayEnd old new (Err fault) → IsNoRefusal fault → TellsReport json IsText IsPlain MayEnd old new (Err fault)
  report_failed old new NotWhole told plain = told
  report_failed old new LeftOut told plain = told
  report_failed old new (Refused refusal) d plain = absurd (cc plain)
  report_failed old new (Dos refusal) d plain = absurd (cc plain)
  report_failed old new fault (may, inl keeps) plain = (may, inl keeps)
  report_failed old new fault (may, inr (text, is, front)) plain = (may, inr (text, inl is, front))

  report_unsaid : (old new : Option (List ℕ)) (fault : CommandFault) → MayEnd Memory → DoesReport IsText IsPlain MayEnd old new (Err fault) → TellsReport json IsText IsPlain MayEnd old new (Err Memory)
  report_unsaid old new NotWhole may d = (may, inr (d.0, inl (false, d.2), told_front old new d.0 d.1))
  report_unsaid old new LeftOut may d = (may, inr (d.0, inl (true, d.2), told_front old new d.0 d.1))
  report_unsaid old new (Refused refusal) may d = (may, inl d.0)
  report_unsaid old new (Dos refusal) may keeps = (may, inl keeps)
  report_unsaid old new fault may (ends, inl keeps) = (may, inl keeps)
  report_unsaid old new fault may (ends, inr (text, is, front)) = (may, inr (text, inl is, front))

-- a report that was not made
module _ (IsText : Bool → List ℕ → Type 0) (IsPlain : Refusal → Type 0) (MayEnd : CommandFault → Type 0) where
  -- nothing is written, or a prefix of a report, at a fault without a text
  pub report_left : (old new : Option (List ℕ)) (fault : CommandFault) → IsNoRefusal fault → fault ≢ NotWhole → fault ≢ LeftOut → MayEnd fault → Keeps old new ⊎ WritesFrontOf old new (IsSomeText IsText)
      → DoesReport IsText IsPlain MayEnd old new (Err fault)
  report_left old new NotWhole plain other all may left = absurd (other refl)
  report_left old new LeftOut plain other all may left = absurd (all refl)
  report_left old new (Refused refusal) plain other all may left = absurd (cc plain)
  report_left old new (Dos refusal) plain other all may left = absurd (cc plain)
  report_left old new fault plain other all may left = (may, left)

  -- nothing is written if no image was read
  no_image_reported : (w : Option (List ℕ)) (fault : CommandFault) → ((bytes : List ℕ) (refusal : Refusal) → IsSizeRefusal bytes refusal → IsPlain refusal) → (IsNoImage fault → MayEnd fault) → IsNoImage fault
      → DoesReport IsText IsPlain MayEnd w w (Err fault)
  no_image_reported w NotWhole plain may is = absurd is
  no_image_reported w LeftOut plain may is = absurd is
  no_image_reported w (Refused refusal) plain may is = (Keeps-refl w, plain is.0 refusal is.1)
  no_image_reported w (Dos refusal) plain may is = absurd is
  no_image_reported w fault plain may is = (may is, inl (Keeps-refl w))

  pub reports_no_image : (w : Option (List ℕ)) (fault : CommandFault) (done : Ending) → ((bytes : List ℕ) (refusal : Refusal) → IsSizeRefusal bytes refusal → IsPlain refusal)
      → ((told : CommandFault) → IsNoImage told → MayEnd told) → IsNoImage fault → IsErrAnd done (λ told. told ≡ fault) → DoesReport IsText IsPlain MayEnd w w done
  reports_no_image w fault (Ok x) plain may is same = absurd same
  reports_no_image w fault (Err told) plain may is same = no_image_reported w told plain (may told) (subst IsNoImage (sym same) is)

-- a rescue ends for the host only if it writes
pub host_ends : (list : Bool) (fault : CommandFault) → IsNoImage fault → IsHostEnd fault list
host_ends list (Extracted why) is = absurd is
host_ends list fault is = tt

-- a report that may end by any fault
module _ (IsText : Bool → List ℕ → Type 0) (IsPlain : Refusal → Type 0) where
  -- it is written as far as the writer accepts it
  pub report_front : (whole : Bool) (text : List ℕ) (old new : Option (List ℕ)) (fault : CommandFault) → IsText whole text → WritesFront old new text → fault ≡ Output
      → DoesReport IsText IsPlain MayEnd old new (Err fault)
  report_front whole text old new fault is front same =
      subst (λ (f : CommandFault). DoesReport IsText IsPlain MayEnd old new (Err f)) (sym same) (tt, inr (text, (whole, is), front))

  -- that on an accepted image is written whole, or as far as that
  pub report_told : (text : List ℕ) (old new : Option (List ℕ)) (done : Ending) → IsText true text → OnOk done (Appends old new text) → OnErr done (WritesFront old new text)
      → IfErr done (λ fault. fault ≡ Output) → DoesReport IsText IsPlain MayEnd old new done
  report_told text old new (Ok x) is told front output = (text, told, is)
  report_told text old new (Err fault) is told front output = report_front true text old new fault is front output

  -- memory ran out before it
  pub report_unmade : (w : Option (List ℕ)) (done : Ending) → IsErrAnd done (λ fault. fault ≡ Memory) → DoesReport IsText IsPlain MayEnd w w done
  report_unmade w (Ok x) same = absurd same
  report_unmade w (Err fault) same = subst (λ (f : CommandFault). DoesReport IsText IsPlain MayEnd w w (Err f)) (sym same) (tt, inl (Keeps-refl w))

  -- the same two of a report that depends on what is known
  module _ (Known : Type 0) where
    pub known_front : (whole : Bool) (text : List ℕ) (old new : Option (List ℕ)) (done : Ending) → (Known → IsText whole text) → OnErr done (WritesFront old new text) → IfErr done (λ fault. fault ≡ Output)
        → IfErr done (λ fault. Known → DoesReport IsText IsPlain MayEnd old new (Err fault))
    known_front whole text old new (Ok x) is front output = tt
    known_front whole text old new (Err fault) is front output = λ known. report_front whole text old new fault (is known) front output

    pub known_unmade : (w : Option (List ℕ)) (done : Ending) → IsErrAnd done (λ fault. fault ≡ Memory) → IfErr done (λ fault. Known → DoesReport IsText IsPlain MayEnd w w (Err fault))
    known_unmade w (Ok x) same = tt
    known_unmade w (Err fault) same = λ known. report_unmade w (Err fault) same

  -- it ends with the fault that it was given
  pub report_ends : (old new : Option (List ℕ)) (fault : CommandFault) (done : Ending) → DoesReport IsText IsPlain MayEnd old new (Err fault) → IsErrAnd done (λ told. told ≡ fault)
      → DoesReport IsText IsPlain MayEnd old new done
  report_ends old new fault (Ok x) is same = absurd same
  report_ends old new fault (Err told) is same = subst (λ (f : CommandFault). DoesReport IsText IsPlain MayEnd old new (Err f)) (sym same) is

-- the map of a refused image, as a report
module _ (job : MapJob) (unread : List Bool) (image : List ℕ) (marks : AreMarksOf job.bad (block_count image) [] unread) (refusal : Refusal) (kind : List ℕ) (at : ℕ) (of_kind : kind ≡ refusal.kind.now)
    (of_block : at ≡ refusal.block) (text : List ℕ) (is : IsFaultyMap job.form unread image kind at text) where
  pub mapped : IsImageRefusal image refusal → IsMapReport job false text
  mapped refused = (
    image,
    record {
      refusal = refusal;
      refused = refused;
      unread = unread;
      listed = marks;
      mapped =
          subst (λ (k : List ℕ). IsFaultyMap job.form unread image k refusal.block text) of_kind (subst (λ (b : ℕ). IsFaultyMap job.form unread image kind b text) of_block is);
    },
  )

-- the fault that a refusal of an image that is handed back names
module _ (image old : List ℕ) (fault : VolumeFault) (refusal : Refusal) (handed : HandsBack old image fault) (kind : refusal.kind.now ≡ kind_word fault.kind) (block : refusal.block ≡ fault.block) where
  is_refused : IsRefusal image fault
  is_refused = subst (λ (i : List ℕ). IsRefusal i fault) (sym handed.0) handed.1

  pub refusal_shown : fault.kind ≢ NoMemory → IsImageRefusal image refusal
  refusal_shown memory = refused_for image fault (Refused refusal) is_refused (memory, kind, block)

  -- it is that the disk is of another kind
  at_boot : IsOtherKind image fault.kind → fault.block ≡ 0 → IsKindRefusal image refusal
  at_boot other at = (fault.kind, other, kind, block ∙ at)

  pub kind_shown : (fault.kind ≡ NotADosDisk) ⊎ (fault.kind ≡ UnsupportedKind) → IsKindRefusal image refusal
  kind_shown of = go is_refused of
    where
      go : IsRefusal image fault → (fault.kind ≡ NotADosDisk) ⊎ (fault.kind ≡ UnsupportedKind) → IsKindRefusal image refusal
      go (inl shows) (inl e) =
          let at : fault.block ≡ 0 = (subst (λ (k : FaultKind). Shows image k fault.block) e shows).1 in
          at_boot (record { of_boot = inl e; shown = subst (Shows image fault.kind) at shows }) at
      go (inl shows) (inr e) =
          let at : fault.block ≡ 0 = (subst (λ (k : FaultKind). Shows image k fault.block) e shows).2 in
          at_boot (record { of_boot = inr e; shown = subst (Shows image fault.kind) at shows }) at
      go (inr want) (inl e) = absurd (cc (want.0, e))
      go (inr want) (inr e) = absurd (cc (want.0, e))

-- the report on a refused image, or why there is none
module _ (job : WhereJob) (image : List ℕ) where
  -- the refusal and the places, as the output for the refused image
  module _ (refusal : Refusal) (kind : List ℕ) (at : ℕ) (asking : Asking) (of_kind : kind ≡ refusal.kind.now) (of_block : at ≡ refusal.block) (asked : asking.words.now ≡ job.blocks.items)
      (of_json : asking.json ≡ job.json) (marks : AreMarksOf job.bad (block_count image) [] asking.unread.now) (refused : IsImageRefusal image refusal) (old new : Option (List ℕ)) where
    abbrev Placed : List ℕ → Type 0
    Placed = IsFaultyWhere asking.json asking.unread.now image kind at asking.words.now

    is_placed : (text : List ℕ) → Placed text → IsPlacedIn job image text
    is_placed text told = record {
      refusal = refusal;
      refused = refused;
      unread = asking.unread.now;
      listed = marks;
      placed =
          subst (λ (k : List ℕ). IsFaultyWhere job.json asking.unread.now image k refusal.block job.blocks.items text) of_kind
          (subst (λ (b : ℕ). IsFaultyWhere job.json asking.unread.now image kind b job.blocks.items text) of_block
          (subst (λ (blocks : List BlockWord). IsFaultyWhere job.json asking.unread.now image kind at blocks text) asked
          (subst (λ (json : Bool). IsFaultyWhere json asking.unread.now image kind at asking.words.now text) of_json told)));
    }

    pub placed_written : Writes old new Placed → Writes old new (IsPlacedIn job image)
    placed_written (text, written, told) = (text, written, is_placed text told)

    some_placed : Keeps old new ⊎ WritesFrontOf old new Placed → Keeps old new ⊎ WritesFrontOf old new (IsPlacedIn job image)
    some_placed (inl keeps) = inl keeps
    some_placed (inr (text, told, front)) = inr (text, is_placed text told, front)

    pub placed_left : (fault : WhereFault) → LeavesWhere Placed old new fault → Keeps old new ⊎ WritesFrontOf old new (IsPlacedIn job image)
    placed_left (places.NoBlock word) keeps = inl keeps
    placed_left places.Memory left = some_placed left
    placed_left places.Output left = some_placed left

    -- nothing, if an argument names no block
    pub placed_none : (fault : WhereFault) (word : BlockWord) → fault ≡ places.NoBlock word → LeavesWhere Placed old new fault
        → IsWhereFault (block_count image) asking.words.now fault → Keeps old new × IsUnasked job image refusal
    placed_none fault word is left none = (
      subst (LeavesWhere Placed old new) is left,
      (
        refused,
        (
          word,
          subst (λ (blocks : List BlockWord). IsWhereFault (block_count image) blocks (places.NoBlock word)) asked (subst (IsWhereFault (block_count image) asking.words.now) is none),
        ),
      ),
    )

  -- what a fault leaves of it, as the end of the command
  module _ (old new : Option (List ℕ)) where
    some_report : Keeps old new ⊎ WritesFrontOf old new (IsPlacedIn job image) → Keeps old new ⊎ WritesFrontOf old new (IsSomeText (IsWhereText job))
    some_report (inl keeps) = inl keeps
    some_report (inr (text, is, front)) = inr (text, (false, (image, is)), front)

    left_ends : (fault : CommandFault) → LeavesPlaced job image old new fault → DoesWhere job old new (Err fault)
    left_ends NotWhole (is, left) = absurd (cc is)
    left_ends LeftOut (is, left) = absurd (cc is)
    left_ends (Refused refusal) (keeps, is) = (keeps, (image, inr is))
    left_ends (Dos refusal) (is, left) = absurd (cc is)
    left_ends Memory left = (tt, some_report left)
    left_ends fault (is, left) = (tt, some_report left)

    pub placed_ends : (fault : CommandFault) (done : Ending) → LeavesPlaced job image old new fault → IsErrAnd done (λ told. told ≡ fault) → DoesWhere job old new done
    placed_ends fault (Ok x) left same = absurd same
    placed_ends fault (Err told) left same = left_ends told (subst (LeavesPlaced job image old new) (sym same) left)

-- a report on a rescue that does not say whether all is in the new image
module _ (job : SalvageJob) (all : Option Bool) where
  less_mended : (saved : Saved) (all : Option Bool) → IsMendedAs saved all → IsMendedAs saved None
  less_mended saved (Some whole) mended = (whole, mended)
  less_mended saved None mended = mended

  pub less_asked : (saved : Saved) → IsMendedFor job saved all → IsMendedFor job saved None
  less_asked saved mended = go job.out mended
    where
      go : {Path : Type 0} (out : Option Path) → MatchOption out ⊤ (λ file. IsMendedAs saved all) → MatchOption out ⊤ (λ file. IsMendedAs saved None)
      go None mended = tt
      go (Some file) mended = less_mended saved all mended

  pub less_told : (accepted : Bool) (text : List ℕ) → IsRescueText job all accepted text → IsRescueText job None accepted text
  less_told accepted text (holes, image, are, report, mended) = (holes, image, are, report, less_asked report.rescue.salvage mended)

-- a report on a rescue without memory for its text
rescue_unsaid : (json : Bool) (job : SalvageJob) (all : Option Bool) (old new : Option (List ℕ))
    → TellsReport json (IsRescueText job all) IsSomeSize (λ (fault : CommandFault). IsHostEnd fault job.list) old new (Err Memory)
    → TellsReport json (IsRescueText job None) IsSomeSize (λ (fault : CommandFault). IsHostEnd fault job.list) old new (Err Memory)
rescue_unsaid json job all old new (may, inl keeps) = (may, inl keeps)
rescue_unsaid json job all old new (may, inr (text, inl (accepted, is), front)) = (may, inr (text, inl (accepted, less_told job all accepted text is), front))
rescue_unsaid json job all old new (may, inr (text, inr told, front)) = (may, inr (text, inr told, front))

-- for jobs with such texts for bytes
module _ (json : Bool) (IsText BeginsText : List ℕ → List ℕ → Type 0) where
  -- a job succeeds
  done : (p : Prints) (old new : Option (List ℕ)) (x : Unit {0}) → Does p IsText BeginsText old new (Ok x) → Tells json p IsText BeginsText old new (Ok x)
  done OnlyFaults old new x h = h
  done (OfMade made file) old new x h = (h.output, λ other. h.other other, tt)
  done OfBytes old new x h = h
  done (OfImages job) old new x h = h
  done (OfRescue job) old new x h = h
  done (OfDeleted job) old new x h = h
  done (OfBlocks job) old new x h = h
  done (OfMap form) old new x h = h
  done (OfClients job) old new x h = h

  -- a job whose fault has no text
  failed : (p : Prints) (old new : Option (List ℕ)) (fault : CommandFault) → Does p IsText BeginsText old new (Err fault) → IsNoRefusal fault
      → Tells json p IsText BeginsText old new (Err fault)
  failed OnlyFaults old new fault keeps plain = rw (none_in json fault plain) (inl keeps)
  failed (OfMade made file) old new fault h plain = (λ is. made_failed json made old new fault (h.output is) plain, λ other. rw (none_in json fault plain) (inl (h.other other)), h.why)
  failed (OfClients job) old new fault h plain = serve_failed job old new json fault h plain
  failed (OfImages job) old new fault h plain = h
  failed (OfRescue job) old new fault h plain = report_failed json (IsRescueText job (told_all (Err fault))) IsSomeSize (λ (fault : CommandFault). IsHostEnd fault job.list) old new fault h plain
  failed (OfDeleted job) old new fault h plain = report_failed json (IsDeletedText job) IsSomeSize IsUndeleteEnd old new fault h plain
  failed (OfBlocks job) old new fault h plain = report_failed json (IsWhereText job) (IsBareRefusal job) MayEnd old new fault h plain
  failed (OfMap job) old new fault h plain = report_failed json (IsMapReport job) IsBareMap MayEnd old new fault h plain
  failed OfBytes old new (Refused refusal) h plain = absurd (cc plain)
  failed OfBytes old new (Dos refusal) h plain = absurd (cc plain)
  failed OfBytes old new fault (bytes, inl keeps) plain = (bytes, inl keeps)
  failed OfBytes old new fault (bytes, inr (text, is, front)) plain = (bytes, inr (text, inl is, front))

  -- a job without memory for its text
  unsaid : (p : Prints) (old new : Option (List ℕ)) (fault : CommandFault) → Does p IsText BeginsText old new (Err fault) → Tells json p IsText BeginsText old new (Err Memory)
  unsaid OnlyFaults old new fault keeps = inl keeps
  unsaid (OfMade made file) old new fault h = (λ is. made_unsaid json made old new fault (h.output is), λ other. inl (h.other other), tt)
  unsaid (OfClients job) old new fault h = serve_unsaid job old new json fault h
  unsaid (OfImages job) old new fault h = archive_unsaid job old new fault h
  unsaid (OfRescue job) old new fault h =
      let all = told_all (Err fault) in
      rescue_unsaid json job all old new (report_unsaid json (IsRescueText job all) IsSomeSize (λ (fault : CommandFault). IsHostEnd fault job.list) old new fault tt h)
  unsaid (OfDeleted job) old new fault h = report_unsaid json (IsDeletedText job) IsSomeSize IsUndeleteEnd old new fault tt h
  unsaid (OfBlocks job) old new fault h = report_unsaid json (IsWhereText job) (IsBareRefusal job) MayEnd old new fault tt h
  unsaid (OfMap job) old new fault h = report_unsaid json (IsMapReport job) IsBareMap MayEnd old new fault tt h
  unsaid OfBytes old new (Refused refusal) d = (d.0, inl d.1.1)
  unsaid OfBytes old new (Dos refusal) d = (d.0, inl d.1)
  unsaid OfBytes old new fault (bytes, inl keeps) = (bytes, inl keeps)
  unsaid OfBytes old new fault (bytes, inr (text, is, front)) = (bytes, inr (text, inl is, front))

  module _ (old mid new : Option (List ℕ)) where
    -- a refused image is reported
    told_refused : (p : Prints) (refusal : Refusal) → Does p IsText BeginsText old mid (Err (Refused refusal)) → Appends mid new (refusal_text json refusal)
        → Tells json p IsText BeginsText old new (Err (Refused refusal))
    told_refused OnlyFaults refusal keeps w = (refusal_text json refusal, kept_appends old mid new (refusal_text json refusal) keeps w, refl)
    told_refused (OfMade made file) refusal h w = (
      λ is. (refusal_text json refusal, kept_appends old mid new (refusal_text json refusal) (h.output is) w, refl),
      λ other. (refusal_text json refusal, kept_appends old mid new (refusal_text json refusal) (h.other other) w, refl),
      h.why,
    )
    told_refused (OfClients job) refusal (is, keeps) w = (is, (refusal_text json refusal, kept_appends old mid new (refusal_text json refusal) keeps w, refl))
    told_refused (OfImages job) refusal d w = absurd d
    told_refused (OfRescue job) refusal (keeps, is) w = (is, (refusal_text json refusal, kept_appends old mid new (refusal_text json refusal) keeps w, refl))
    told_refused (OfDeleted job) refusal (keeps, is) w = (is, (refusal_text json refusal, kept_appends old mid new (refusal_text json refusal) keeps w, refl))
    told_refused (OfBlocks job) refusal (keeps, is) w = (is, (refusal_text json refusal, kept_appends old mid new (refusal_text json refusal) keeps w, refl))
    told_refused (OfMap form) refusal (keeps, is) w = (is, (refusal_text json refusal, kept_appends old mid new (refusal_text json refusal) keeps w, refl))
    told_refused OfBytes refusal (bytes, (is, keeps)) w = (bytes, (is, (refusal_text json refusal, kept_appends old mid new (refusal_text json refusal) keeps w, refl)))

    -- a refusal by AmigaDOS is reported
    told_dos : (p : Prints) (refusal : DosRefusal) → Does p IsText BeginsText old mid (Err (Dos refusal)) → Appends mid new (dos_text json refusal)
        → Tells json p IsText BeginsText old new (Err (Dos refusal))
    told_dos OnlyFaults refusal keeps w = (dos_text json refusal, kept_appends old mid new (dos_text json refusal) keeps w, refl)
    told_dos (OfMade made file) refusal h w = (
      λ is. (dos_text json refusal, kept_appends old mid new (dos_text json refusal) (h.output is) w, refl),
      λ other. (dos_text json refusal, kept_appends old mid new (dos_text json refusal) (h.other other) w, refl),
      h.why,
    )
    told_dos (OfClients job) refusal d w = absurd d
    told_dos (OfImages job) refusal d w = absurd d
    told_dos (OfRescue job) refusal keeps w = (dos_text json refusal, kept_appends old mid new (dos_text json refusal) keeps w, refl)
    told_dos (OfDeleted job) refusal keeps w = (dos_text json refusal, kept_appends old mid new (dos_text json refusal) keeps w, refl)
    told_dos (OfBlocks job) refusal keeps w = (dos_text json refusal, kept_appends old mid new (dos_text json refusal) keeps w, refl)
    told_dos (OfMap form) refusal keeps w = (dos_text json refusal, kept_appends old mid new (dos_text json refusal) keeps w, refl)
    told_dos OfBytes refusal (bytes, keeps) w = (bytes, (dos_text json refusal, kept_appends old mid new (dos_text json refusal) keeps w, refl))

    -- a prefix of the output after no output
    kept_front : (text : List ℕ) → Keeps old mid → WritesFront mid new text → WritesFront old new text
    kept_front text keeps (written, appends, rest) = (written, kept_appends old mid new written keeps appends, rest)

    -- a job without output, whose line is written as far as the writer accepts it
    broken_quiet : (fault last : CommandFault) (line : List ℕ) → told_line json fault ≡ Some line → IsNoRefusal last → Keeps old mid → WritesFront mid new line → TellsFault json old new (Err last)
    broken_quiet fault last line tells plain keeps front = rw (none_in json last plain) (inr (line, (fault, tells), kept_front line keeps front))

    -- a line for refused bytes, as far as the writer accepts it
    ends_front : (bytes : List ℕ) (last : CommandFault) → IsNoRefusal last → WritesFrontOf old new (λ text. BeginsText bytes text ⊎ (IsRefusalText json bytes text ⊎ IsDosText json text))
        → EndsOff json (BeginsText bytes) bytes old new last
    ends_front bytes (Refused r) plain front = absurd (cc plain)
    ends_front bytes (Dos r) plain front = absurd (cc plain)
    ends_front bytes last plain front = inr front

    broken_refused : (p : Prints) (refusal : Refusal) → Does p IsText BeginsText old mid (Err (Refused refusal))
        → WritesFront mid new (refusal_text json refusal) → Tells json p IsText BeginsText old new (Err Output)
    broken_refused OnlyFaults refusal keeps front = broken_quiet (Refused refusal) Output (refusal_text json refusal) refl refl keeps front
    broken_refused (OfMade made file) refusal h front = (
      λ is. inr (refusal_text json refusal, inr (Refused refusal, refl), kept_front (refusal_text json refusal) (h.output is) front),
      λ other. broken_quiet (Refused refusal) Output (refusal_text json refusal) refl refl (h.other other) front,
      tt,
    )
    broken_refused (OfClients job) refusal (is, keeps) front = inr (Refused refusal, refusal_text json refusal, refl, kept_front (refusal_text json refusal) keeps front)
    broken_refused (OfImages job) refusal d front = absurd d
    broken_refused (OfRescue job) refusal (keeps, is) front = (tt, inr (refusal_text json refusal, inr (Refused refusal, refl), kept_front (refusal_text json refusal) keeps front))
    broken_refused (OfDeleted job) refusal (keeps, is) front = (tt, inr (refusal_text json refusal, inr (Refused refusal, refl), kept_front (refusal_text json refusal) keeps front))
    broken_refused (OfBlocks job) refusal (keeps, is) front = (tt, inr (refusal_text json refusal, inr (Refused refusal, refl), kept_front (refusal_text json refusal) keeps front))
    broken_refused (OfMap form) refusal (keeps, is) front = (tt, inr (refusal_text json refusal, inr (Refused refusal, refl), kept_front (refusal_text json refusal) keeps front))
    broken_refused OfBytes refusal (bytes, (is, keeps)) front =
        (bytes, ends_front bytes Output refl (refusal_text json refusal, inr (inl (refusal, is, refl)), kept_front (refusal_text json refusal) keeps front))

    broken_dos : (p : Prints) (refusal : DosRefusal) → Does p IsText BeginsText old mid (Err (Dos refusal))
        → WritesFront mid new (dos_text json refusal) → Tells json p IsText BeginsText old new (Err Output)
    broken_dos OnlyFaults refusal keeps front = broken_quiet (Dos refusal) Output (dos_text json refusal) refl refl keeps front
    broken_dos (OfMade made file) refusal h front = (
      λ is. inr (dos_text json refusal, inr (Dos refusal, refl), kept_front (dos_text json refusal) (h.output is) front),
      λ other. broken_quiet (Dos refusal) Output (dos_text json refusal) refl refl (h.other other) front,
      tt,
    )
    broken_dos (OfClients job) refusal d front = absurd d
    broken_dos (OfImages job) refusal d front = absurd d
    broken_dos (OfRescue job) refusal keeps front = (tt, inr (dos_text json refusal, inr (Dos refusal, refl), kept_front (dos_text json refusal) keeps front))
    broken_dos (OfDeleted job) refusal keeps front = (tt, inr (dos_text json refusal, inr (Dos refusal, refl), kept_front (dos_text json refusal) keeps front))
    broken_dos (OfBlocks job) refusal keeps front = (tt, inr (dos_text json refusal, inr (Dos refusal, refl), kept_front (dos_text json refusal) keeps front))
    broken_dos (OfMap form) refusal keeps front = (tt, inr (dos_text json refusal, inr (Dos refusal, refl), kept_front (dos_text json refusal) keeps front))
    broken_dos OfBytes refusal (bytes, keeps) front =
        (bytes, ends_front bytes Output refl (dos_text json refusal, inr (inr (refusal, refl)), kept_front (dos_text json refusal) keeps front))

-- the fault of a job with this text
module _ (styled : Bool) (job : ImageJob) (old mid new : Option (List ℕ)) (line : List ℕ) where
  abbrev json : Bool
  json = prints_json job

  -- the line is written
  pub job_told : (fault : CommandFault) → told_line json fault ≡ Some line → DoesJob styled job old mid (Err fault) → Appends mid new line → TellsJob styled job old new (Err fault)
  job_told (Refused refusal) tells h w =
      let same : line ≡ refusal_text json refusal = cc tells in
      told_refused json (IsJobText styled job) (BeginsJobText styled job) old mid new (prints job) refusal h (subst (λ (l : List ℕ). Appends mid new l) same w)
  job_told (Dos refusal) tells h w =
      let same : line ≡ dos_text json refusal = cc tells in
      told_dos json (IsJobText styled job) (BeginsJobText styled job) old mid new (prints job) refusal h (subst (λ (l : List ℕ). Appends mid new l) same w)
  job_told fault tells h w = absurd (cc tells)

  -- the line is written as far as the writer accepts it
  broken : (fault : CommandFault) → told_line json fault ≡ Some line → DoesJob styled job old mid (Err fault) → WritesFront mid new line → TellsJob styled job old new (Err Output)
  broken (Refused refusal) tells h front =
      let same : line ≡ refusal_text json refusal = cc tells in
      broken_refused json (IsJobText styled job) (BeginsJobText styled job) old mid new (prints job) refusal h (subst (λ (l : List ℕ). WritesFront mid new l) same front)
  broken (Dos refusal) tells h front =
      let same : line ≡ dos_text json refusal = cc tells in
      broken_dos json (IsJobText styled job) (BeginsJobText styled job) old mid new (prints job) refusal h (subst (λ (l : List ℕ). WritesFront mid new l) same front)
  broken fault tells h front = absurd (cc tells)

  pub job_broken : (fault last : CommandFault) → told_line json fault ≡ Some line → DoesJob styled job old mid (Err fault) → WritesFront mid new line → last ≡ Output → TellsJob styled job old new (Err last)
  job_broken fault last tells h front output = subst (λ (f : CommandFault). TellsJob styled job old new (Err f)) (sym output) (broken fault tells h front)

-- a job whose fault has no text
pub job_failed : (styled : Bool) (job : ImageJob) (old new : Option (List ℕ)) (fault : CommandFault) → DoesJob styled job old new (Err fault) → IsNoRefusal fault → TellsJob styled job old new (Err fault)
job_failed styled job old new fault h plain = failed (prints_json job) (IsJobText styled job) (BeginsJobText styled job) (prints job) old new fault h plain

-- a job without memory for its text
pub job_unsaid : (styled : Bool) (job : ImageJob) (old new : Option (List ℕ)) (fault last : CommandFault) → DoesJob styled job old new (Err fault) → last ≡ Memory → TellsJob styled job old new (Err last)
job_unsaid styled job old new fault last h same =
    subst (λ (f : CommandFault). TellsJob styled job old new (Err f)) (sym same) (unsaid (prints_json job) (IsJobText styled job) (BeginsJobText styled job) (prints job) old new fault h)

-- a job that succeeds
pub job_done : (styled : Bool) (job : ImageJob) (old new : Option (List ℕ)) (x : Unit {0}) → DoesJob styled job old new (Ok x) → EndsJob styled job old new 0
job_done styled job old new x h = (Ok x, done (prints_json job) (IsJobText styled job) (BeginsJobText styled job) (prints job) old new x h, refl)
