use Rattle.ados_salvage.proofs.KnownCommon.{◌≡◌, ℕ, ◌+◌, Bool, List, Vec, Global, length, get_or, Contains, Contains-get_or, sym, ap, ◌∙◌, subst, arith, block_count, Claim, AreClaims, ArePassed, HeaderNames, IsNoted}
use Rattle.ados_salvage.proofs.Claiming.{claims_more, claims_same, refilled}
use Rattle.ados_salvage.proofs.known.named.named_claims.Goals as goal
use Rattle.ados_salvage.proofs.known.named.named_claims.Goals.{then-is_sound+in_ok-blocks, else-is_sound}

pub note-requires : goal.note-requires
note-requires c = λ k d l.
    let there = subst (λ (xs : List ℕ). Contains xs (get_or c.deref.result.now k d)) c.deref.ensures.value (Contains-get_or c.deref.result.now k d l) in
    omega (arith, ((c.in_ok-blocks.ensures.named (get_or c.deref.result.now k d)).0 there).inside.1, c.loop-header.invariant.size, ap length c.deref_mut.ensures.value)

pub loop-header-preserved : goal.loop-header-preserved
loop-header-preserved c = elim c.if-is_sound.branch [
  | then-is_sound+in_ok-blocks w ↦
      (let count : length w.note.new.claims ≡ length c.loop-header.claims.items = w.note.ensures.count ∙ ap length w.deref_mut.ensures.value in
      let items : c.if-is_sound.claims.items ≡ w.note.new.claims =
      ap (λ (v : Vec Claim Global). v.items) w.claims-is ∙ refilled w.note.new.claims c.loop-header.claims.items c.loop-header.claims.len count c.loop-header.claims.ok.0 in
      record {
        size = ap length items ∙ count ∙ c.loop-header.invariant.size;
        claims = subst (λ (xs : List Claim). AreClaims (HeaderNames c.args.image.now) (block_count c.args.image.now) (c.loop-header.header + 1) xs) (sym items)
            (claims_more (HeaderNames c.args.image.now) (block_count c.args.image.now) c.loop-header.header c.loop-header.claims.items c.loop-header.invariant.claims w.in_ok-blocks.blocks.items w.note.new.claims
            (λ block l. w.in_ok-blocks.ensures.named block)
            (λ block l.
            subst (λ (old : List Claim). IsNoted c.loop-header.header w.in_ok-blocks.blocks.items old w.note.new.claims block) w.deref_mut.ensures.value
            (subst (λ (xs : List ℕ). IsNoted c.loop-header.header xs w.deref_mut.result.now w.note.new.claims block) w.deref.ensures.value
            (w.note.ensures.noted block (omega (arith, l, ap length w.deref_mut.ensures.value, c.loop-header.invariant.size))))));
        passed = subst (λ (v : Vec Bool Global). ArePassed c.args.image.now (c.loop-header.header + 1) v.items) (sym w.passed-is) w.in_ok-blocks.ensures.passed;
      })
  | else-is_sound w ↦ record {
    size = ap (λ (v : Vec Claim Global). length v.items) w.claims-is ∙ c.loop-header.invariant.size;
    claims = subst (λ (v : Vec Claim Global). AreClaims (HeaderNames c.args.image.now) (block_count c.args.image.now) (c.loop-header.header + 1) v.items) (sym w.claims-is)
        (claims_same (HeaderNames c.args.image.now) (block_count c.args.image.now) c.loop-header.header c.loop-header.claims.items c.loop-header.invariant.claims
        (λ block names. absurd (cc ((c.requires.decided c.loop-header.header (omega arith)).1 names.sound, c.is_sound.ensures, w.if-is_sound.false))));
    passed = subst (λ (v : Vec Bool Global). ArePassed c.args.image.now (c.loop-header.header + 1) v.items) (sym w.passed-is)
        (record { size = c.loop-header.invariant.passed.size; before = λ block is. omega (arith, c.loop-header.invariant.passed.before block is) });
  }
]
