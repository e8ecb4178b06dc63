use Rattle.ados_faults.proofs.Common.{◌≡◌, ◌<◌, ℕ, Bool, List, None, Option, Some, get_or, length, sym, ap, arith, ◌∙◌, slice_get, slice_get-get_or, FIRST_POINTER, AreAllSeen, AreLongs, IsPiece, Piece, first_in}
use Rattle.ados_faults.specs.declared.pieces.Seen.{Seen}
use Rattle.ados_faults.proofs.ByHeaders.{all_seen_more, all_seen_on, first_pointer, known_piece, none_first, seen_now, settled_piece}
use Rattle.ados_faults.proofs.pieces.look_at_piece.Goals as goal

pub returns-then-piece-eq0-clause-piece : goal.returns-then-piece-eq0-clause-piece
returns-then-piece-eq0-clause-piece c = λ _. record { placed = λ i l. absurd (omega (arith, l, c.if-piece-eq0.true)) }

pub returns-then-piece-eq0-clause-first : goal.returns-then-piece-eq0-clause-first
returns-then-piece-eq0-clause-first c = λ _. sym (none_first c.args.image.now c.args.piece c.if-piece-eq0.true)

-- the first pointer of a piece that has one
first : (image firsts : List ℕ) (piece : Piece) → AreLongs image FIRST_POINTER firsts → IsPiece image piece → 0 < piece.count → Some (get_or firsts piece.header 0) ≡ first_in image piece
first image firsts piece a p some = ap (λ (x : ℕ). Some x) (a.each piece.header p.inside.1) ∙ sym (first_pointer image piece p some)

-- what is known of its header
seen_at : (image : List ℕ) (cells : List Bool) (seen : List (Option Seen)) (piece : Piece) → AreAllSeen image cells seen → IsPiece image piece → slice_get seen piece.header ≡ Some (get_or seen piece.header None)
seen_at image cells seen piece a p = slice_get-get_or seen piece.header None (omega (arith, p.inside.1, a.size))

pub returns-then-not-is_known-clause-seen : goal.returns-then-not-is_known-clause-seen
returns-then-not-is_known-clause-seen c =
    let image = c.args.image.now in
    let seen = c.args.seen.now in
    let piece = c.args.piece in
    let cells = c.args.notes.now.cells.items in
    let later = c.look_at_all_in.new.notes.cells.items in
    let within : piece.header < length seen = omega (arith, c.requires.inside.1, c.requires.seen.size) in
    all_seen_more image cells later c.look_at_all_in.ensures.stays seen piece.header _ c.requires.seen within
    (seen_now image cells later piece seen (get_or seen piece.header None) c.is_some.result c.look_at_all_in.ensures.stays (c.requires.piece (sym c.byte.ensures ∙ c.if-byte-ne0.false)) c.requires.seen (seen_at image cells seen piece c.requires.seen (c.requires.piece (sym c.byte.ensures ∙ c.if-byte-ne0.false)))
    (sym c.is_known.ensures ∙ c.if-not-is_known.true) c.is_some.ensures c.look_at_all_in.ensures.piece)

pub returns-then-not-is_known-clause-first : goal.returns-then-not-is_known-clause-first
returns-then-not-is_known-clause-first c = λ _. first c.args.image.now c.args.firsts.now c.args.piece c.requires.firsts (c.requires.piece (sym c.byte.ensures ∙ c.if-byte-ne0.false)) (omega (arith, c.if-piece-eq0.false))

pub returns-then-has_next-clause-piece : goal.returns-then-has_next-clause-piece
returns-then-has_next-clause-piece c = λ _.
    let image = c.args.image.now in
    let seen = c.args.seen.now in
    let piece = c.args.piece in
    let cells = c.args.notes.now.cells.items in
    settled_piece image cells piece seen (get_or seen piece.header None) (c.requires.piece (sym c.byte.ensures ∙ c.if-byte-ne0.false)) c.requires.seen (seen_at image cells seen piece c.requires.seen (c.requires.piece (sym c.byte.ensures ∙ c.if-byte-ne0.false)))
    (sym c.is_known.ensures ∙ c.if-not-is_known.false) (c.has_next.ensures c.if-has_next.true)

pub returns-then-has_next-clause-first : goal.returns-then-has_next-clause-first
returns-then-has_next-clause-first c = λ _. first c.args.image.now c.args.firsts.now c.args.piece c.requires.firsts (c.requires.piece (sym c.byte.ensures ∙ c.if-byte-ne0.false)) (omega (arith, c.if-piece-eq0.false))

pub returns-clause-seen : goal.returns-clause-seen
returns-clause-seen c = all_seen_on c.args.image.now c.args.notes.now.cells.items c.look_at_one.new.notes.cells.items c.look_at_one.ensures.stays c.args.seen.now c.requires.seen

pub returns-clause-piece : goal.returns-clause-piece
returns-clause-piece c = λ _.
    let image = c.args.image.now in
    let seen = c.args.seen.now in
    let piece = c.args.piece in
    let cells = c.args.notes.now.cells.items in
    known_piece image cells c.look_at_one.new.notes.cells.items piece seen (get_or seen piece.header None) c.look_at_one.ensures.stays (c.requires.piece (sym c.byte.ensures ∙ c.if-byte-ne0.false)) (omega (arith, c.if-piece-eq0.false)) c.requires.seen
    (seen_at image cells seen piece c.requires.seen (c.requires.piece (sym c.byte.ensures ∙ c.if-byte-ne0.false))) (sym c.is_known.ensures ∙ c.if-not-is_known.false) c.look_at_one.ensures.place

pub returns-clause-first : goal.returns-clause-first
returns-clause-first c = λ _. first c.args.image.now c.args.firsts.now c.args.piece c.requires.firsts (c.requires.piece (sym c.byte.ensures ∙ c.if-byte-ne0.false)) (omega (arith, c.if-piece-eq0.false))
