use Rattle.ados_salvage.proofs.KnownCommon.{◌≡◌, ℕ, ◌+◌, List, Vec, Global, length, sym, ap, ◌∙◌, subst, arith, block_count, Claim, own_blocks, AreClaims, HasClaim, IsNoted}
use Rattle.ados_salvage.proofs.Claiming.{claims_more, claims_same, all_within, refilled}
use Rattle.ados_salvage.proofs.known.claims.claims.Goals as goal
use Rattle.ados_salvage.proofs.known.claims.claims.Goals.{in-Some, in_default}

pub note-requires : goal.note-requires
note-requires c =
    let own = rw c.in-Some.is at c.in_ok-blocks.ensures.own in
    all_within c.args.image.now c.loop-file.file own.0.intact c.deref.result.now (length c.deref_mut.result.now) (c.deref.ensures.value ∙ own.1)
    (ap length c.deref_mut.ensures.value ∙ c.loop-file.invariant.size)

pub loop-file-preserved : goal.loop-file-preserved
loop-file-preserved c = elim c.match-branch-4.branch [
  | in-Some w ↦
      (let own = rw w.in-Some.is at c.in_ok-blocks.ensures.own in
      let count : length w.note.new.claims ≡ length c.loop-file.claims.items = w.note.ensures.count ∙ ap length w.deref_mut.ensures.value in
      let items : c.match-branch-4.claims.items ≡ w.note.new.claims =
      ap (λ (v : Vec Claim Global). v.items) w.claims-is ∙ refilled w.note.new.claims c.loop-file.claims.items c.loop-file.claims.len count c.loop-file.claims.ok.0 in
      record {
        size = ap length items ∙ count ∙ c.loop-file.invariant.size;
        claims = subst (λ (xs : List Claim). AreClaims (HasClaim c.args.left_out.now c.args.image.now) (block_count c.args.image.now) (c.loop-file.file + 1) xs) (sym items)
            (claims_more (HasClaim c.args.left_out.now c.args.image.now) (block_count c.args.image.now) c.loop-file.file c.loop-file.claims.items c.loop-file.invariant.claims (own_blocks c.args.image.now c.loop-file.file) w.note.new.claims
            (λ block l. (λ m. (own.0, m), λ has. has.1))
            (λ block l.
            subst (λ (old : List Claim). IsNoted c.loop-file.file (own_blocks c.args.image.now c.loop-file.file) old w.note.new.claims block) w.deref_mut.ensures.value
            (subst (λ (xs : List ℕ). IsNoted c.loop-file.file xs w.deref_mut.result.now w.note.new.claims block) (w.deref.ensures.value ∙ own.1)
            (w.note.ensures.noted block (omega (arith, l, ap length w.deref_mut.ensures.value, c.loop-file.invariant.size))))));
        users = c.in_ok-blocks.ensures.users;
      })
  | in_default w ↦ record {
    size = ap (λ (v : Vec Claim Global). length v.items) w.claims-is ∙ c.loop-file.invariant.size;
    claims = subst (λ (v : Vec Claim Global). AreClaims (HasClaim c.args.left_out.now c.args.image.now) (block_count c.args.image.now) (c.loop-file.file + 1) v.items) (sym w.claims-is)
        (claims_same (HasClaim c.args.left_out.now c.args.image.now) (block_count c.args.image.now) c.loop-file.file c.loop-file.claims.items c.loop-file.invariant.claims
        (λ block has. (rw w.in_default.is at c.in_ok-blocks.ensures.own) has.0));
    users = c.in_ok-blocks.ensures.users;
  }
]

pub returns : goal.returns
returns c =
    let all : c.loop-file.file ≡ block_count c.args.image.now = omega arith in
    record {
      size = c.loop-file.invariant.size;
      right = subst (λ (n : ℕ). AreClaims (HasClaim c.args.left_out.now c.args.image.now) (block_count c.args.image.now) n c.loop-file.claims.items) all c.loop-file.invariant.claims;
    }
