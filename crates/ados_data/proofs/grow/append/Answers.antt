use Rattle.ados_data.proofs.Common.{◌≢◌, ◌<◌, ◌-◌, ◌/◌, ◌%◌, inl, inr, ℕ, length, refl, sym, ap, ◌∙◌, subst, arith, FIRST_POINTER, block_count, IsSize, contents, data_blocks, extension_blocks, same_long, same_sum, AtDataFields, AtLink, IsLengthened}
use Rattle.ados_data.proofs.Appending.{Roomy, appended_call, room_of, file_inside, last_apart, new_apart}
use Rattle.ados_data.proofs.Bounds.{below_stays}
use Rattle.ados_data.proofs.Untouched.{beside_field, sum_field, sum_settled, empty_long, wider_field}
use Rattle.ados_data.proofs.grow.append.Goals as goal
use Rattle.ados_data.proofs.grow.append.Goals.{After-pointer_room-holder, After-set_summed-2, After-set_settled, then-end-eq0, else-end-eq0}

-- the file with room for a pointer
room : (c : After-pointer_room-holder) → Roomy c.args.image.now c.args.format c.args.file (data_blocks c.args.image.now c.args.file) (extension_blocks c.args.image.now c.args.file) (length (contents c.args.image.now c.args.file)) c.pointer_room-holder.result c.pointer_room-holder.new.image
room c = room_of c.requires.writable (subst IsSize c.blocks-2.ensures.count c.blocks-2.ensures.size) c.requires.format c.requires.end c.pointer_room-holder.ensures

-- the new block is attached
lengthened : (c : After-set_settled) → IsLengthened c.new_block-last.new.image c.args.format c.args.file c.pointer_room-holder.result c.args.end.last c.args.end.count c.new_block-last.result c.set_settled.new.image
lengthened c =
    let r = room_of c.requires.writable (subst IsSize c.blocks-2.ensures.count c.blocks-2.ensures.size) c.requires.format c.requires.end c.pointer_room-holder.ensures in
    let start = c.new_block-last.new.image in
    let holder = c.pointer_room-holder.result in
    let b = c.new_block-last.result in
    let apart = new_apart r c.new_block-last.ensures in
    let last_apart_here = last_apart r c.new_block-last.ensures c.requires.end.counted c.requires.end.last_is in
    let p = FIRST_POINTER - c.args.end.count % 72 in
    -- the longs and sums of blocks beside the pointer block and the header, since the link was set
    let later = λ (x n : ℕ) (l : n < 128) (a : x ≢ holder) (f : x ≢ c.args.file).
    beside_field c.args.file 4 c.set_settled.ensures.rest x n l (λ e. absurd (f e))
    ∙ beside_field holder 2 c.set_summed-2.ensures.rest x n l (λ e. absurd (a e))
    ∙ beside_field holder p c.set_summed.ensures.rest x n l (λ e. absurd (a e)) in
    -- the sums before the checksum of the header was made anew
    let sums = λ (x : ℕ).
    sum_field holder 2 c.set_summed-2.ensures.rest c.set_summed-2.ensures.sum x
    ∙ sum_field holder p c.set_summed.ensures.rest c.set_summed.ensures.sum x in
    -- the sums before
    let before = λ (x : ℕ) (ne : x ≢ b) (free : 0 < c.args.end.count → c.args.end.last ≢ x).
    same_sum (AtLink c.args.format c.args.end.count c.args.end.last) c.make_data.new.image c.link_data.new.image c.link_data.ensures.rest x (λ k l at. free at.1 (sym at.2.0))
    ∙ same_sum (AtDataFields c.args.format b) start c.make_data.new.image c.make_data.ensures.rest x (λ k l at. ne at.1) in
    -- the new block, with its fields set
    let other = λ (n : ℕ) (l : n < 128).
    later b n l apart.0 apart.1
    ∙ same_long (AtLink c.args.format c.args.end.count c.args.end.last) c.make_data.new.image c.link_data.new.image c.link_data.ensures.rest b n l (λ k e at. (last_apart_here at.1).2 (sym at.2.0)) in
    record {
      pointer = beside_field c.args.file 4 c.set_settled.ensures.rest holder p (omega arith) (λ z. (omega arith, omega arith)) ∙ beside_field holder 2 c.set_summed-2.ensures.rest holder p (omega arith) (λ z. (omega arith, omega arith)) ∙ c.set_summed.ensures.long;
      counted = beside_field c.args.file 4 c.set_settled.ensures.rest holder 2 (omega arith) (λ z. (omega arith, omega arith)) ∙ c.set_summed-2.ensures.long;
      holder_sum = λ z. sum_settled c.args.file 4 c.set_settled.ensures.rest c.set_settled.ensures.sum holder (λ ne. sums holder ∙ before holder (λ e. apart.0 (sym e)) (λ l. (last_apart_here l).0) ∙ z);
      new_first = λ z. elim c.if-end-eq0.branch [
        | then-end-eq0 w ↦ c.set_settled.ensures.long ∙ w.first-is
        | else-end-eq0 w ↦ absurd (w.if-end-eq0.false z)
      ];
      first = λ l. elim c.if-end-eq0.branch [
        | then-end-eq0 w ↦ absurd (omega (arith, l, w.if-end-eq0.true))
        | else-end-eq0 w ↦ c.set_settled.ensures.long ∙ w.first-is ∙ w.long-first.ensures
            ∙ beside_field holder 2 c.set_summed-2.ensures.rest c.args.file 4 (omega arith) (λ e. (omega arith, omega arith))
            ∙ beside_field holder p c.set_summed.ensures.rest c.args.file 4 (omega arith) (λ e. (omega arith, omega arith))
            ∙ same_long (AtLink c.args.format c.args.end.count c.args.end.last) c.make_data.new.image c.link_data.new.image c.link_data.ensures.rest c.args.file 4 (omega arith) (λ k e at. (last_apart_here l).1 (sym at.2.0))
            ∙ same_long (AtDataFields c.args.format b) start c.make_data.new.image c.make_data.ensures.rest c.args.file 4 (omega arith) (λ k e at. apart.1 (sym at.1))
      ];
      file_sum = c.set_settled.ensures.sum;
      link = λ f l. later c.args.end.last 4 (omega arith) (last_apart_here l).0 (last_apart_here l).1 ∙ c.link_data.ensures.link f l;
      last_sum = λ f l z. sum_settled c.args.file 4 c.set_settled.ensures.rest c.set_settled.ensures.sum c.args.end.last (λ ne.
          sums c.args.end.last
          ∙ c.link_data.ensures.sum f l (same_sum (AtDataFields c.args.format b) start c.make_data.new.image c.make_data.ensures.rest c.args.end.last (λ k m at. (last_apart_here l).2 at.1) ∙ z));
      primary = λ f. other 0 (omega arith) ∙ c.make_data.ensures.primary f;
      header = λ f. other 1 (omega arith) ∙ c.make_data.ensures.header f;
      sequence = λ f. other 2 (omega arith) ∙ c.make_data.ensures.sequence f;
      held = other 3 (omega arith) ∙ c.make_data.ensures.held ∙ empty_long start b c.new_block-last.ensures.empty 3 (omega arith);
      next = other 4 (omega arith) ∙ c.make_data.ensures.next ∙ empty_long start b c.new_block-last.ensures.empty 4 (omega arith);
      sum = λ f. sum_settled c.args.file 4 c.set_settled.ensures.rest c.set_settled.ensures.sum b (λ ne.
          sums b
          ∙ same_sum (AtLink c.args.format c.args.end.count c.args.end.last) c.make_data.new.image c.link_data.new.image c.link_data.ensures.rest b (λ k l at. (last_apart_here at.1).2 (sym at.2.0))
          ∙ c.make_data.ensures.sum f);
      rest = record {
        same_length = c.set_settled.ensures.rest.same_length ∙ c.set_summed-2.ensures.rest.same_length ∙ c.set_summed.ensures.rest.same_length ∙ c.link_data.ensures.rest.same_length ∙ c.make_data.ensures.rest.same_length;
        same_byte = λ b k l un. c.set_settled.ensures.rest.same_byte b k l (λ x. un (inr (inr (inr x)))) ∙ c.set_summed-2.ensures.rest.same_byte b k l (λ x. un (inr (inr (inl (x.0, inr x.1)))))
            ∙ c.set_summed.ensures.rest.same_byte b k l (λ x. un (inr (inr (inl (x.0, wider_field x.1))))) ∙ c.link_data.ensures.rest.same_byte b k l (λ x. un (inr (inl x))) ∙ c.make_data.ensures.rest.same_byte b k l (λ x. un (inl x));
      };
    }

pub new_block-last-requires-clause-map : goal.new_block-last-requires-clause-map
new_block-last-requires-clause-map c =
    (room (goal.at.new_block-last-requires-clause-map c).After-pointer_room-holder).stands.map

pub new_block-last-requires-clause-below : goal.new_block-last-requires-clause-below
new_block-last-requires-clause-below c =
    let room = room (goal.at.new_block-last-requires-clause-below c).After-pointer_room-holder in
    below_stays c.args.image.now c.pointer_room-holder.new.image c.args.from (ap (λ (n : ℕ). n / 512) room.leaves.same_length) room.gains.marks c.requires.below

pub new_block-last-requires-clause-free : goal.new_block-last-requires-clause-free
new_block-last-requires-clause-free c =
    omega (arith, (room (goal.at.new_block-last-requires-clause-free c).After-pointer_room-holder).count, c.requires.free, c.requires.end.counted)

-- the header is inside the volume
file_here : (c : After-set_summed-2) → c.args.file < block_count c.set_summed-2.new.self
file_here c =
    let r = room_of c.requires.writable (subst IsSize c.blocks-2.ensures.count c.blocks-2.ensures.size) c.requires.format c.requires.end c.pointer_room-holder.ensures in
    omega (arith, file_inside r c.new_block-last.ensures, ap (λ (n : ℕ). n / 512) (c.set_summed-2.ensures.rest.same_length ∙ c.set_summed.ensures.rest.same_length ∙ c.link_data.ensures.rest.same_length ∙ c.make_data.ensures.rest.same_length))

pub long-first-requires-clause-block : goal.long-first-requires-clause-block
long-first-requires-clause-block c = file_here (goal.at.long-first-requires-clause-block c).After-set_summed-2

pub set_settled-requires-clause-block : goal.set_settled-requires-clause-block
set_settled-requires-clause-block c = file_here (goal.at.set_settled-requires-clause-block c).After-set_summed-2

pub resize-requires-clause-file : goal.resize-requires-clause-file
resize-requires-clause-file c =
    omega (arith, ap (λ (n : ℕ). n / 512) (lengthened (goal.at.resize-requires-clause-file c).After-set_settled).rest.same_length, file_inside (room (goal.at.resize-requires-clause-file c).After-pointer_room-holder) c.new_block-last.ensures)

pub resize-requires-clause-apart : goal.resize-requires-clause-apart
resize-requires-clause-apart c = λ l.
    new_apart (room (goal.at.resize-requires-clause-apart c).After-pointer_room-holder) c.new_block-last.ensures

pub returns : goal.returns
returns c =
    let all = appended_call c.requires.writable (subst IsSize c.blocks-2.ensures.count c.blocks-2.ensures.size) c.requires.format c.requires.end
    c.pointer_room-holder.ensures c.new_block-last.ensures (lengthened (goal.at.returns c).After-set_settled) c.resize.ensures c.requires.full c.requires.over c.requires.within in
    record { grown = all.grown; end = all.end_is; count = refl; bytes = all.bytes }
