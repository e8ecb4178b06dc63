-- The deleted entries, each with what can be recovered of it.
use Rattle.ados_salvage.proofs.KnownCommon.{◌≡◌, ℕ, ◌<◌, List, length, map, get_or, All, subst, arith, get_or-map, length-map, Deleted, HasRecovery, IsDeleted, ListsDeleted, AreDeleted}

-- entries with these headers in their order, and what can be recovered of each
pub lists_all : (image : List ℕ) (entries : List Deleted) → AreDeleted image (map (λ entry. entry.header) entries) → All (λ entry. HasRecovery image entry.header entry.recovery) entries → ListsDeleted image entries
lists_all image entries h told = record {
  told = λ k d l. (subst (IsDeleted image) (at k d l) (h.deleted k d.header (omega (arith, l, count))), told k d l);
  in_order = λ i j d l m.
      let before = h.in_order i j d.header l (omega (arith, m, count)) in
      omega (arith, before, at i d (omega (arith, l, m)), at j d m);
  all = h.all;
}
  where
    count : length (map (λ (entry : Deleted). entry.header) entries) ≡ length entries
    count = length-map entries (λ (entry : Deleted). entry.header)

    at : (k : ℕ) (d : Deleted) → k < length entries → get_or (map (λ (entry : Deleted). entry.header) entries) k d.header ≡ (get_or entries k d).header
    at k d l = get_or-map (λ (entry : Deleted). entry.header) entries k d d.header l
