use Rattle.adf_export.proofs.Common.{◌≡◌, ℕ, ◌≤◌, inl, inr, Option, None, Some, List, length, Vec, Result, Ok, Err, IfOk, IfSome, slice_get, refl, sym, ap, ◌∙◌, subst, arith, Stands, Tree, IfOk-weaker, Source, Note, AreBytesOf, Entry}
use Rattle.std.specs.declared.alloc.Global.{Global}
use Rattle.std.proofs.lemmas.Option.{slice_get_cases, slice_get_read}
use Rattle.adf_export.specs.Bytes.{BytesView}
use Rattle.adf_export.proofs.bytes.VolumeBytesContents.bytes_of.Goals.{in-Some-Entry, in-Some-Note, in-None}
use Rattle.adf_export.proofs.bytes.VolumeBytesContents.bytes_of.Goals as goal

-- the bytes of the source at a place, seen through the view
module _ {V E : Type 0} (bytes : V → List ℕ) (image : List ℕ) (sources : List Source) (place : ℕ) (view : BytesView) (is : record { image = image; sources = sources } ≡ view) (r s : Result V E) (same : r ≡ s) where
  IsAnswer : BytesView → Type 0
  IsAnswer v = IfOk r (λ b. (t : Tree) → Stands v.image t → IfSome (slice_get v.sources place) (λ source. AreBytesOf t source (bytes b)))

  found : (source : Source) → slice_get sources place ≡ Some source → IfOk s (λ b. (t : Tree) → Stands image t → AreBytesOf t source (bytes b)) → IsAnswer view
  unfolding IsAnswer
  found source at h =
      subst IsAnswer is
      (IfOk-weaker r
      (λ b. (t : Tree) → Stands image t → AreBytesOf t source (bytes b))
      (λ b. (t : Tree) → Stands image t → IfSome (slice_get sources place) (λ source. AreBytesOf t source (bytes b)))
      (λ b own t st. subst (λ (o : Option Source). IfSome o (λ source. AreBytesOf t source (bytes b))) (sym at) (own t st))
      (subst (λ (x : Result V E). IfOk x (λ b. (t : Tree) → Stands image t → AreBytesOf t source (bytes b))) (sym same) h))

module _ {V E : Type 0} (bytes : V → List ℕ) (image : List ℕ) (sources : List Source) (place : ℕ) (view : BytesView) (is : record { image = image; sources = sources } ≡ view) (at : slice_get sources place ≡ None) where
  missing : (r : Result V E) → IsAnswer bytes image sources place view is r r refl view
  unfolding IsAnswer
  missing (Ok b) =
      subst (λ (v : BytesView). (t : Tree) → Stands v.image t → IfSome (slice_get v.sources place) (λ source. AreBytesOf t source (bytes b))) is
      (λ t s. subst (λ (o : Option Source). IfSome o (λ source. AreBytesOf t source (bytes b))) (sym at) tt)
  missing (Err e) = tt

none_there : (sources : List Source) (place : ℕ) → length sources ≤ place → slice_get sources place ≡ None
none_there sources place past = elim (slice_get_cases sources place).1 [
  | inl here ↦ absurd (omega (arith, past, here.1))
  | inr none ↦ none.1
]

pub returns-clause-bytes : goal.returns-clause-bytes
unfolding IsAnswer
returns-clause-bytes c = elim c.match-get.branch [
  | in-Some-Entry w ↦
      let known = w.in-Some-Entry.ensures.lookup in
      let at = slice_get_read c.self.inside.sources.now (length c.self.inside.sources.now) c.args.place w.in-Some-Entry.field-0.now refl known.3.0 known.1 ∙ ap Some w.in-Some-Entry.field-0-is in
      found (λ (b : Vec ℕ Global). b.items) c.self.inside.volume.now.image c.self.inside.sources.now c.args.place c.args.self.now c.self.view_is
      c.match-get.result w.read_file.result w.result-is (Entry w.in-Some-Entry.key) at w.read_file.ensures
  | in-Some-Note w ↦
      let known = w.in-Some-Note.ensures.lookup in
      let at = slice_get_read c.self.inside.sources.now (length c.self.inside.sources.now) c.args.place w.in-Some-Note.field-0.now refl known.3.0 known.1 ∙ ap Some w.in-Some-Note.field-0-is in
      found (λ (b : Vec ℕ Global). b.items) c.self.inside.volume.now.image c.self.inside.sources.now c.args.place c.args.self.now c.self.view_is
      c.match-get.result w.note_bytes.result w.result-is (Note w.in-Some-Note.key) at w.note_bytes.ensures
  | in-None w ↦
      missing (λ (b : Vec ℕ Global). b.items) c.self.inside.volume.now.image c.self.inside.sources.now c.args.place c.args.self.now c.self.view_is
      (none_there c.self.inside.sources.now c.args.place w.in-None.ensures.lookup.3) c.match-get.result
]
