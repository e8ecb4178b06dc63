-- Headers are put right one after the other.
use Rattle.std.proofs.Common.{◌≡◌, ◌≢◌, ◌↔◌, ℕ, ◌+◌, ◌%◌, ◌^◌, ◌<◌, ◌≤◌, inl, inr, List, ap, arith, refl, subst, sym, ◌∙◌}
use Rattle.std.proofs.lemmas.Bool.{cases_eq}
use Rattle.adf_block.specs.Frame.{AtTwoLongs, SameBut}
use Rattle.adf_block.specs.Image.{block_count, block_sum, byte_at, bytes_at, long}
use Rattle.adf_block.specs.Whole.{text_at}
use Rattle.adf_block.specs.declared.beside.TheConstants.{CHECKSUM}
use Rattle.adf_block.specs.declared.layout.TheConstants.{NAME_BYTE}
use Rattle.adf_block.proofs.Frames.{same_bytes_at, same_count, same_long, same_sum, same_trans, same_weaken}
use Rattle.ados_chain.proofs.Framing.{name-short}
use Rattle.ados_name.specs.Name.{IsName}
use Rattle.ados_salvage.specs.PutRight.{ArePutRight, CanHave, IsChanged, IsFixed, IsOnlyWrong, IsPutRight}

pub fixed_below : (at : ℕ) → IsFixed at → at < 128
fixed_below at (inl e) = omega (arith, e)
fixed_below at (inr (inl e)) = omega (arith, e)
fixed_below at (inr (inr e)) = omega (arith, e)

pub no_checksum : (at : ℕ) → IsFixed at → at ≢ CHECKSUM
no_checksum at (inl e) is = absurd (omega (arith, e, is))
no_checksum at (inr (inl e)) is = absurd (omega (arith, e, is))
no_checksum at (inr (inr e)) is = absurd (omega (arith, e, is))

-- a value of a field is a long
value_fits : (b at due : ℕ) → b < 2 ^ 32 → CanHave b at due → due < 2 ^ 32
value_fits b at due l (inl e) = omega (arith, e.1)
value_fits b at due l (inr (inl e)) = omega (arith, e.1, l)
value_fits b at due l (inr (inr (at_end, inl e))) = omega (arith, e)
value_fits b at due l (inr (inr (at_end, inr e))) = omega (arith, e)

equal_values : (s x due other : ℕ) → due < 2 ^ 32 → other < 2 ^ 32 → (s + due) % 2 ^ 32 ≡ x → (s + other) % 2 ^ 32 ≡ x → other ≡ due
equal_values s x due other l m e f = omega arith

-- one field of a block at most is put right, to one value
pub one_field : (image : List ℕ) (b at other : ℕ) → IsOnlyWrong image b at → IsOnlyWrong image b other → other ≡ at
one_field image b at other p q = elim (cases_eq other at) [
  | inl is ↦ is
  | inr ne ↦ absurd (q.wrong (p.others other q.fixed ne))
]

pub one_value : (image : List ℕ) (b at due other : ℕ) → b < 2 ^ 32 → IsPutRight image b at due → IsPutRight image b at other → other ≡ due
one_value image b at due other l p q =
    equal_values (block_sum image b) (long image b at) due other (value_fits b at due l p.value) (value_fits b at other l q.value) p.sum q.sum

-- a change seen the other way round
flipped : (changed : ℕ → ℕ → Type 0) (old new : List ℕ) → SameBut changed old new → SameBut changed new old
flipped changed old new h = record { same_length = sym h.same_length; same_byte = λ c k l un. sym (h.same_byte c k l un) }

module _ (changed : ℕ → ℕ → Type 0) (old new : List ℕ) (h : SameBut changed old new) (b : ℕ) (un : (k : ℕ) → ¬ changed b k) where
  long_stays : (at : ℕ) → IsFixed at → long new b at ≡ long old b at
  long_stays at fixed = same_long changed old new h b at (fixed_below at fixed) (λ k e. un k)

  name_stays : b < block_count old → IsName (text_at old b NAME_BYTE) → text_at new b NAME_BYTE ≡ text_at old b NAME_BYTE
  name_stays l name =
      let counted : byte_at new b NAME_BYTE ≡ byte_at old b NAME_BYTE = h.same_byte b NAME_BYTE (omega arith) (un NAME_BYTE) in
      let short = name-short old b l name in
      ap (λ (n : ℕ). bytes_at new b 433 n) counted
      ∙ same_bytes_at changed old new h b 433 (byte_at old b NAME_BYTE) (omega arith) (λ k m n. un k)

  -- of a block that does not change, the same field is put right
  stays_put : (at due : ℕ) → IsPutRight old b at due → IsPutRight new b at due
  stays_put at due p = record {
    inside = (p.inside.0, omega (arith, p.inside.1, same_count changed old new h));
    only = record {
      fixed = p.only.fixed;
      wrong = λ right. p.only.wrong (subst (CanHave b at) (long_stays at p.only.fixed) right);
      others = λ other fixed ne. subst (CanHave b other) (sym (long_stays other fixed)) (p.only.others other fixed ne);
    };
    name = subst IsName (sym (name_stays p.inside.1 p.name)) p.name;
    value = p.value;
    sum = ap (λ (s : ℕ). (s + due) % 2 ^ 32) (same_sum changed old new h b (λ k l. un k)) ∙ p.sum ∙ sym (long_stays at p.only.fixed);
  }

-- the headers before a block are put right
pub record ArePutBelow (May : ℕ → Type 0) (image : List ℕ) (b : ℕ) (now : List ℕ) : Type 0 where
  pub rest : SameBut (IsChanged May image) image now
  pub ahead : SameBut (λ c k. c < b) image now
  pub right : (block at due : ℕ) → block < b → May block → IsPutRight image block at due → long now block at ≡ due
  pub sums : (block : ℕ) → block_sum now block ≡ block_sum image block

pub none_put : (May : ℕ → Type 0) (image : List ℕ) → ArePutBelow May image 2 image
none_put May image = record {
  rest = record { same_length = refl; same_byte = λ c k l un. refl };
  ahead = record { same_length = refl; same_byte = λ c k l un. refl };
  right = λ block at due l may p. absurd (omega (arith, l, p.inside.0));
  sums = λ block. refl;
}

module _ (May : ℕ → Type 0) (image now : List ℕ) (b : ℕ) (below : ArePutBelow May image b now) where
  not_yet : (k : ℕ) → ¬ (b < b)
  not_yet k l = absurd (omega (arith, l))

  given : (at due : ℕ) → IsPutRight now b at due → IsPutRight image b at due
  given = stays_put (λ c k. c < b) now image (flipped (λ c k. c < b) image now below.ahead) b not_yet

  still : (at due : ℕ) → IsPutRight image b at due → IsPutRight now b at due
  still = stays_put (λ c k. c < b) image now below.ahead b not_yet

  -- the next block has no such field
  pub put_none : ((at due : ℕ) → May b → ¬ IsPutRight now b at due) → ArePutBelow May image (b + 1) now
  put_none none = record {
    rest = below.rest;
    ahead = same_weaken (λ c k. c < b) (λ c k. c < b + 1) image now (λ c k l. omega (arith, l)) below.ahead;
    right = λ block at due l may p. elim (cases_eq block b) [
      | inl is ↦ absurd (none at due (subst May is may) (still at due (subst (λ (c : ℕ). IsPutRight image c at due) is p)))
      | inr ne ↦ below.right block at due (omega (arith, l, ne)) may p
    ];
    sums = below.sums;
  }

  -- or it has one
  module _ (new : List ℕ) (at due : ℕ) (here : May b) (p : IsPutRight now b at due) (fits : b < 2 ^ 32) (only : SameBut (AtTwoLongs b at CHECKSUM) now new) (stands : long new b at ≡ due) (same : block_sum new b ≡ block_sum now b) where
    is_changed : (c k : ℕ) → AtTwoLongs b at CHECKSUM c k → IsChanged May image c k
    is_changed c k h = (subst May (sym h.0) here, (at, due, subst (λ (block : ℕ). IsPutRight image block at due) (sym h.0) (given at due p), h.1))

    stands_right : (other value : ℕ) → IsPutRight image b other value → long new b other ≡ value
    stands_right other value q =
        let is : other ≡ at = one_field now b at other p.only (still other value q).only in
        let as_well : IsPutRight now b at value = subst (λ (i : ℕ). IsPutRight now b i value) is (still other value q) in
        ap (long new b) is ∙ stands ∙ sym (one_value now b at due value fits p as_well)

    pub put_more : ArePutBelow May image (b + 1) new
    put_more = record {
      rest = same_trans (IsChanged May image) image now new below.rest (same_weaken (AtTwoLongs b at CHECKSUM) (IsChanged May image) now new is_changed only);
      ahead = same_trans (λ c k. c < b + 1) image now new (same_weaken (λ c k. c < b) (λ c k. c < b + 1) image now (λ c k l. omega (arith, l)) below.ahead)
          (same_weaken (AtTwoLongs b at CHECKSUM) (λ c k. c < b + 1) now new (λ c k h. omega (arith, h.0)) only);
      right = λ block other value l may q. elim (cases_eq block b) [
        | inl is ↦ ap (λ (c : ℕ). long new c other) is ∙ stands_right other value (subst (λ (c : ℕ). IsPutRight image c other value) is q)
        | inr ne ↦
            same_long (AtTwoLongs b at CHECKSUM) now new only block other (fixed_below other q.only.fixed) (λ k e h. ne h.0)
            ∙ below.right block other value (omega (arith, l, ne)) may q
      ];
      sums = λ block. elim (cases_eq block b) [
        | inl is ↦ ap (block_sum new) is ∙ same ∙ sym (ap (block_sum now) is) ∙ below.sums block
        | inr ne ↦ same_sum (AtTwoLongs b at CHECKSUM) now new only block (λ k l h. ne h.0) ∙ below.sums block
      ];
    }

-- all headers are put right
pub all_put : (May : ℕ → Type 0) (image now : List ℕ) (b : ℕ) → block_count image ≤ b → ArePutBelow May image b now → ArePutRight May image now
all_put May image now b end below = record {
  rest = below.rest;
  right = λ block at due may p. below.right block at due (omega (arith, end, p.inside.1)) may p;
  sums = below.sums;
}

-- nothing is to be put right
pub nothing_put : (May : ℕ → Type 0) (image : List ℕ) → ((block at due : ℕ) → May block → ¬ IsPutRight image block at due) → ArePutRight May image image
nothing_put May image none = record {
  rest = record { same_length = refl; same_byte = λ c k l un. refl };
  right = λ block at due may p. absurd (none block at due may p);
  sums = λ block. refl;
}

-- the same blocks under another name
pub put_as : (May Can : ℕ → Type 0) (image read : List ℕ) → ((block : ℕ) → block < block_count image → May block ↔ Can block) → ArePutRight May image read → ArePutRight Can image read
put_as May Can image read same h = record {
  rest = same_weaken (IsChanged May image) (IsChanged Can image) image read (λ c k is. ((same c is.1.2.inside.1).0 is.0, is.1)) h.rest;
  right = λ block at due can p. h.right block at due ((same block p.inside.1).1 can) p;
  sums = h.sums;
}
