-- The output of commands for an image, by its bytes.
use Rattle.std.specs.Prelude.{◌≡◌, ℕ, pos, Bool, true, false, List, [], Option, Some, None, map, option_map}
use Rattle.ados_model.specs.Packet.{dos_true}
use Rattle.ados_model.specs.Actions.{action_number}
use Rattle.ados_model.specs.declared.action.Action.TheVariants.{DiskInfo}
use Rattle.ados_model.specs.declared.answer.Answer.{Answer}
use Rattle.ados_model.specs.declared.answer.Body.TheVariants.{Disk}
use Rattle.ados_model.specs.Accepted.{Accepts}
use Rattle.ados_model.specs.Stands.{Stands}
use Rattle.ados_model.specs.Tree.{Tree, bytes_of, root}
use Rattle.ados_model.specs.Change.{is_file}
use Rattle.ados_model.specs.Objects.{disk_info}
use Rattle.adf_block.specs.BootText.{IsBootText}
use Rattle.adf_block.specs.Image.{block_count}
use Rattle.adf_export.specs.Info.{info_text}
use Rattle.adf_export.specs.Listing.{BeginsList, IsList}
use Rattle.adf_record.specs.BootObject.{IsBootObject}
use Rattle.adf_record.specs.declared.facts_form.FactsForm.{FactsForm}
use Rattle.adf_record.specs.declared.facts_form.FactsForm.TheVariants.{Json, Plain}
use Rattle.adf_record.specs.declared.facts_form.FactsForm.TheVariants as forms
use Rattle.adf_record.specs.Forms.{IsVolumeText}
use Rattle.adf_cli.specs.declared.job.ImageJob.{ImageJob}
use Rattle.adf_cli.specs.declared.job.ImageJob.TheVariants.{Info, List as ListOf, Print, Show, ShowBoot, Validate, WherePath}
use Rattle.adf_cli.specs.declared.query.ListForm.{ListForm}
use Rattle.adf_cli.specs.declared.query.ListForm.TheVariants.{Bold, Long}
use Rattle.adf_cli.specs.declared.query.ListJob.{ListJob}
use Rattle.adf_cli.specs.declared.query.ListOrder.{ListOrder}
use Rattle.adf_cli.specs.declared.query.UndeleteJob.{UndeleteJob}
use Rattle.adf_cli.specs.declared.query.WhereJob.{WhereJob}
use Rattle.adf_rescue.specs.Undelete.{IsUndeleteText, key_of}
use Rattle.adf_where.specs.Own.{IsWhereOf}
use Rattle.adf_where.specs.Where.{IsWhere}
use Rattle.adf_export.specs.Words.{LeadsTo}
use Rattle.adf_serve.specs.declared.query.Query.{Query}
use Rattle.adf_serve.specs.declared.query.Query.TheVariants as queries
use Rattle.adf_serve.specs.Unread.{AreMarksOf}
use Rattle.ados_validate.specs.Said.{validated_text}
use Rattle.ados_validate.specs.Validated.{IsValidated, free_only_in}

-- a text for an accepted image: by whether its bitmap was rebuilt, by the checked image, and by its tree
abbrev pub OfAccepted : (Bool → List ℕ → Tree → List ℕ → Type 0) → List ℕ → List ℕ → Type 0
OfAccepted IsText image text =
    (was_validated : Bool) × (checked : List ℕ) × (t : Tree)
    × Accepts image was_validated checked × Stands checked t × IsText was_validated checked t text

-- the answer of DISK_INFO for a tree
abbrev pub disk_answer : Tree → Answer
disk_answer t = record { action = action_number DiskInfo; res1 = dos_true; res2 = pos 0; body = Disk (disk_info t) }

-- that answer, and whether the image is bootable, in one of the forms
abbrev pub IsInfoText : Bool → List ℕ → List ℕ → Type 0
IsInfoText json = OfAccepted (λ was_validated checked t text. text ≡ info_text json (disk_answer t) checked)

-- the object to list: the root, or the file or directory at a path
abbrev pub IsListed : Tree → Option (List ℕ) → ℕ → Type 0
IsListed t None key = key ≡ root t
IsListed t (Some word) key = LeadsTo t word key

-- the list of that object in this form and this order, and the beginning of one
abbrev pub IsListText : Option (List ℕ) → ListForm → ListOrder → List ℕ → List ℕ → Type 0
IsListText path form order = OfAccepted (λ was_validated checked t text. (key : ℕ) × IsListed t path key × IsList t order key form text)

abbrev pub BeginsListText : Option (List ℕ) → ListForm → ListOrder → List ℕ → List ℕ → Type 0
BeginsListText path form order = OfAccepted (λ was_validated checked t text. (key : ℕ) × IsListed t path key × BeginsList t order key form text)

-- the form of the output for a requested form: if `styled`, the names of directories in a list for people are bold
abbrev pub shown_form : Bool → ListForm → ListForm
shown_form false form = form
shown_form true Long = Bold
shown_form true form = form

-- the requested list, and the beginning of one
abbrev pub IsListOf : (styled : Bool) → ListJob → List ℕ → List ℕ → Type 0
IsListOf styled job = IsListText (option_map (λ word. word.now) job.path) (shown_form styled job.form) job.order

abbrev pub BeginsListOf : (styled : Bool) → ListJob → List ℕ → List ℕ → Type 0
BeginsListOf styled job = BeginsListText (option_map (λ word. word.now) job.path) (shown_form styled job.form) job.order

-- the bytes of the file at a path
abbrev pub IsPrintText : List ℕ → List ℕ → List ℕ → Type 0
IsPrintText word = OfAccepted (λ was_validated checked t text. (key : ℕ) × LeadsTo t word key × (is_file t key ≡ true) × (text ≡ bytes_of t key))

-- how many bits of the bitmap changed, of an image with a new one
abbrev pub IsCountText : Bool → List ℕ → List ℕ → Type 0
IsCountText json image text = (new : List ℕ) × IsValidated image new × (text ≡ validated_text json (free_only_in image new) (free_only_in new image))

-- the form of the facts of a volume: a JSON object, or for people, with bold letters if `styled`
abbrev pub facts_form : (styled json : Bool) → FactsForm
facts_form styled true = Json
facts_form true false = forms.Bold
facts_form false false = Plain

-- a text about an accepted image, by whether its bitmap was rebuilt, the checked image and its tree: the facts of the volume in
-- that form
abbrev pub IsLook : (styled json : Bool) → Bool → List ℕ → Tree → List ℕ → Type 0
IsLook styled json was_validated checked = IsVolumeText (facts_form styled json) checked was_validated

abbrev pub IsLookText : (styled json : Bool) → List ℕ → List ℕ → Type 0
IsLookText styled json = OfAccepted (IsLook styled json)

-- who owns the blocks that a job asks for, and which of them its list names: a line for each, or a JSON array
abbrev pub AreOwnedBlocks : WhereJob → List ℕ → List ℕ → Type 0
AreOwnedBlocks job image text =
    (unread : List Bool) × AreMarksOf job.bad (block_count image) [] unread
    × OfAccepted (λ was_validated checked t told. IsWhere job.json unread checked t job.blocks.items told) image text

-- the blocks of the file or directory at a path, in one of the forms
abbrev pub AreEntryBlocks : Bool → List ℕ → List ℕ → List ℕ → Type 0
AreEntryBlocks json word = OfAccepted (λ was_validated checked t text. (key : ℕ) × LeadsTo t word key × IsWhereOf json checked t key text)

-- what is told of each deleted entry that the job's paths choose; the image may be accepted or refused
abbrev pub AreDeletedLines : UndeleteJob → List ℕ → List ℕ → Type 0
AreDeletedLines job image text = IsUndeleteText job.json image (map (λ word. key_of word.now) job.paths.items) text

-- what is printed of an image, with bold letters if `styled`, and its beginning
abbrev pub IsQueryText : (styled : Bool) → Query → List ℕ → List ℕ → Type 0
IsQueryText styled (queries.Disk json) = IsInfoText json
IsQueryText styled (queries.List job) = IsListOf styled job.now
IsQueryText styled (queries.Bytes path) = IsPrintText path.now
IsQueryText styled (queries.Look json) = IsLookText styled json
IsQueryText styled (queries.Entry path json) = AreEntryBlocks json path.now

abbrev pub BeginsQueryText : (styled : Bool) → Query → List ℕ → List ℕ → Type 0
BeginsQueryText styled (queries.List job) = BeginsListOf styled job.now
BeginsQueryText styled query = IsQueryText styled query

-- what a boot block is, and its bytes: as a JSON object, or as text
abbrev pub IsBootForm : Bool → List ℕ → List ℕ → Type 0
IsBootForm true = IsBootObject
IsBootForm false = IsBootText

-- the output of a command for the bytes that it reads, with bold letters for people if `styled`, and its beginning. `boot --show` reads
-- the two boot blocks of a file, whatever follows them
abbrev pub IsJobText : (styled : Bool) → ImageJob → List ℕ → List ℕ → Type 0
IsJobText styled (Info file json) = IsInfoText json
IsJobText styled (ListOf job) = IsListOf styled job
IsJobText styled (Print image path) = IsPrintText path.now
IsJobText styled (ShowBoot image json) = IsBootForm json
IsJobText styled (Validate target force json) = IsCountText json
IsJobText styled (Show image json) = IsLookText styled json
IsJobText styled (WherePath image path json) = AreEntryBlocks json path.now
IsJobText styled job = λ bytes text. text ≡ []

abbrev pub BeginsJobText : (styled : Bool) → ImageJob → List ℕ → List ℕ → Type 0
BeginsJobText styled (ListOf job) = BeginsListOf styled job
BeginsJobText styled job = IsJobText styled job
