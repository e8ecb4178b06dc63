-- The blocks in use in a blank volume.
use Rattle.ados_volume.proofs.Common.{Bool, List, NamesBlank, ap, arith, false, get_or_past, inl, inr, le-leb, le-ltb, length, lt-leb, lt-ltb, nat_le, nat_lt, not, page_count, refl, root_key, slice_index_or, true, ℕ, ◌&&◌, ◌+◌, ◌<◌, ◌∙◌, ◌≡◌, ◌≤◌}
use Rattle.ados_map.specs.Bits.{is_unnamed}

pub names_blank : (n last : ℕ) (named : List Bool) → 16 ≤ n → last ≡ root_key n + 1 + page_count n → length named ≡ n
    → ((k : ℕ) → k < n → slice_index_or named k true ≡ (nat_le (root_key n) k && nat_lt k last)) → NamesBlank n named
unfolding is_unnamed
names_blank n last named size last_is count marks = record {
  count = count;
  used = λ k l m.
      let low : nat_le (root_key n) k ≡ true = le-leb (root_key n) k l in
      let high : nat_lt k last ≡ true = lt-ltb k last (omega (arith, m, last_is)) in
      let both : (nat_le (root_key n) k && nat_lt k last) ≡ true = rw (low, high) refl in
      ap not (marks k (omega (arith, m, size)) ∙ both);
  free = λ k l side. elim side [
    | inl below ↦ let low : nat_le (root_key n) k ≡ false = lt-leb (root_key n) k below in
        let both : (nat_le (root_key n) k && nat_lt k last) ≡ false = rw low refl in
        ap not (marks k l ∙ both)
    | inr above ↦
        let low : nat_le (root_key n) k ≡ true = le-leb (root_key n) k (omega (arith, above)) in
        let high : nat_lt k last ≡ false = le-ltb k last (omega (arith, above, last_is)) in
        let both : (nat_le (root_key n) k && nat_lt k last) ≡ false = rw (low, high) refl in
        ap not (marks k l ∙ both)
  ];
  past = λ k l. ap not (get_or_past named k true (omega (arith, l, count)));
}
