use Rattle.ados_faults.proofs.Common.{◌≢◌, ℕ, Bool, List, refl, sym, ◌∙◌, subst, flat_map, SourceView, AreDataBlocks, IsFile, count_of_size, pointers_of, IsHeaderList}
use Rattle.ados_faults.specs.declared.header_list.HeaderList.{HeaderList}
use Rattle.ados_model.specs.Faults.HasBadCount.{wrong_size, wrong_sum}
use Rattle.ados_faults.proofs.ByHeaders.{all_seen_on}
use Rattle.ados_faults.proofs.Cells.{noted_on}
use Rattle.ados_faults.proofs.FileNotes.{places_on}
use Rattle.ados_faults.proofs.TailNotes.{all_tails_on}
use Rattle.ados_faults.proofs.files.look_at_file.Goals as goal

-- the data blocks of the file
of_file : {image : List ℕ} {cells : List Bool} {file : ℕ} {listed : List ℕ} {list : HeaderList} → IsFile image file → (f : IsHeaderList image cells file listed list) → AreDataBlocks image file (flat_map (pointers_of image) f.headers)
of_file is_file f = record { is_file = is_file; headers = f.headers; linked = f.linked; pointed = refl }

pub note_if-requires-clause-shown : goal.note_if-requires-clause-shown
note_if-requires-clause-shown c = λ w.
    let blocks = of_file c.requires.file c.requires.list in
    wrong_size blocks (λ e. subst (λ (s : SourceView). c.look_along-summary.result.count ≢ count_of_size s.bytes c.args.file) c.whole-source.ensures (c.needs_other_count-wrong.ensures.0 w) ((c.look_along-summary.ensures.summary _ blocks).count ∙ e))

pub note_if-requires-2-clause-shown : goal.note_if-requires-2-clause-shown
note_if-requires-2-clause-shown c = λ w.
    let blocks = of_file c.requires.file c.requires.list in
    let ofs = sym c.byte.ensures ∙ c.if-byte-ne0.false in
    let h = (c.holds_other_size-other.ensures _ ((c.look_along-summary.ensures.summary _ blocks).held ofs)).0 w in
    wrong_sum ofs (record { blocks = flat_map (pointers_of c.args.image.now) c.requires.list.headers; of_file = blocks; inside = h.0; wrong = h.1 })

pub returns-then-byte-ne0-clause-seen : goal.returns-then-byte-ne0-clause-seen
returns-then-byte-ne0-clause-seen c = all_seen_on c.args.image.now c.look_along-summary.new.notes.cells.items c.note_if.new.self.cells.items c.note_if.ensures.stays c.look_along-summary.new.known.seen.items c.look_along-summary.ensures.seen

pub returns-then-byte-ne0-clause-tails : goal.returns-then-byte-ne0-clause-tails
returns-then-byte-ne0-clause-tails c = all_tails_on c.args.image.now c.look_along-summary.new.notes.cells.items c.note_if.new.self.cells.items c.note_if.ensures.stays c.look_along-summary.new.known.tails.items c.look_along-summary.ensures.tails

pub returns-then-byte-ne0-clause-whole : goal.returns-then-byte-ne0-clause-whole
returns-then-byte-ne0-clause-whole c = record {
  noted = λ blocks d. record {
    count = λ n. c.note_if.ensures.set (c.needs_other_count-wrong.ensures.1 (subst (λ (s : SourceView). c.look_along-summary.result.count ≢ count_of_size s.bytes c.args.file) (sym c.whole-source.ensures) (λ e. n (sym (c.look_along-summary.ensures.summary blocks d).count ∙ e))));
    places = λ ofs. absurd (c.if-byte-ne0.true (c.byte.ensures ∙ ofs));
    sum = λ ofs h. absurd (c.if-byte-ne0.true (c.byte.ensures ∙ ofs));
  };
}

pub returns-clause-seen : goal.returns-clause-seen
returns-clause-seen c = all_seen_on c.args.image.now c.look_along-summary.new.notes.cells.items c.note_if-2.new.self.cells.items (noted_on c.note_if.ensures.stays c.note_if-2.ensures.stays) c.look_along-summary.new.known.seen.items c.look_along-summary.ensures.seen

pub returns-clause-tails : goal.returns-clause-tails
returns-clause-tails c = all_tails_on c.args.image.now c.look_along-summary.new.notes.cells.items c.note_if-2.new.self.cells.items (noted_on c.note_if.ensures.stays c.note_if-2.ensures.stays) c.look_along-summary.new.known.tails.items c.look_along-summary.ensures.tails

pub returns-clause-whole : goal.returns-clause-whole
returns-clause-whole c = record {
  noted = λ blocks d.
      let summary = c.look_along-summary.ensures.summary blocks d in
      record {
        count = λ n. c.note_if-2.ensures.stays.stay _ (c.note_if.ensures.set (c.needs_other_count-wrong.ensures.1 (subst (λ (s : SourceView). c.look_along-summary.result.count ≢ count_of_size s.bytes c.args.file) (sym c.whole-source.ensures) (λ e. n (sym summary.count ∙ e)))));
        places = λ ofs. places_on c.args.image.now c.look_along-summary.new.notes.cells.items c.note_if-2.new.self.cells.items (noted_on c.note_if.ensures.stays c.note_if-2.ensures.stays) blocks 0 (c.look_along-summary.ensures.places ofs blocks d);
        sum = λ ofs h. c.note_if-2.ensures.set ((c.holds_other_size-other.ensures blocks (summary.held ofs)).1 h);
      };
}
