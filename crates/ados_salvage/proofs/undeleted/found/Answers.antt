use Rattle.ados_salvage.proofs.Common.{ℕ, List, All, Contains, map, None, IsSome, slice_index_or, refl, subst, All-map, Deleted}
use Rattle.ados_salvage.proofs.undeleted.found.Goals as goal

-- what is so of the headers of all entries is so of a block that is one of them
met_by : (P : ℕ → Type 0) (xs : List Deleted) → All (λ (entry : Deleted). P entry.header) xs → (block : ℕ) → Contains (map (λ (entry : Deleted). entry.header) xs) block → P block
met_by P xs all block there = subst P there.2 (All-map P (λ (entry : Deleted). entry.header) xs all there.0 _ there.1)

pub returns : goal.returns
returns c =
    let all = c.requires.gathered in (
      c.requires.trusted,
      record {
        same = refl;
        deleted = c.requires.deleted;
        told = all.told;
        places = record { placed = λ i l. all.placed i l; among = all.met };
        there = λ block d.
            met_by (λ (header : ℕ). IsSome (slice_index_or c.args.gathered.places.items header None)) c.args.deleted.items c.requires.each block (c.requires.deleted.all block d);
      },
    )
