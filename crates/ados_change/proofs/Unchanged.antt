-- What is unchanged when only some bytes or longs of an image change.
use Rattle.ados_change.proofs.Common.{◌≡◌, ℕ, ◌+◌, ◌*◌, ◌/◌, ◌<◌, ◌≤◌, ◌⊎◌, inl, inr, List, length, ◌∙◌, subst, arith, block_count, root_key, same_count, Tree, root, HasText, bytes_at, long, block_sum, CHECKSUM, SameBut, same_long, same_bytes_at, same_sum, same_weaken, date_at, Date3, Summed, Dated, ◌≢◌, Option, refl, ap, sym, cases_eq, byte_at, long-same, COMMENT_BYTE, NAME_BYTE, IsName, IsComment, HasNode, HasEntry, HasRoot, Layout, Node, zero, suc, ◌-◌, ◌%◌, ◌∷◌, slice_index, Format, data_size, data_start, data_count, HasFile, HasExtension, HasOfsData, next_of, chained, chain_head}
use Rattle.ados_data.proofs.Sizes.{in_count, in_block}

-- a text is unchanged if none of its bytes changes
pub text_kept : (At : ℕ → ℕ → Type 0) (old new : List ℕ) → SameBut At old new → (b i : ℕ) (text : List ℕ) → i + length text < 512 → ((k : ℕ) → i ≤ k → k < i + 1 + length text → ¬ At b k) → HasText old b i text → HasText new b i text
text_kept At old new h b i text room n g = record {
  counted = h.same_byte b i (omega arith) (n i (omega arith) (omega arith)) ∙ g.counted;
  follows = same_bytes_at At old new h b (i + 1) (length text) (omega arith) (λ k l m. n k (omega arith) (omega arith)) ∙ g.follows;
}

-- a date is unchanged if none of its longs changes
pub date_kept : (At : ℕ → ℕ → Type 0) (old new : List ℕ) → SameBut At old new → (b i : ℕ) → i + 2 < 128 → ((k : ℕ) → i ≤ k / 4 → k / 4 < i + 3 → ¬ At b k) → date_at new b i ≡ date_at old b i
date_kept At old new h b i room n = λ k. record { days = one i (omega arith) (omega arith) k; minutes = one (i + 1) (omega arith) (omega arith) k; ticks = one (i + 2) (omega arith) (omega arith) k }
  where
    one : (j : ℕ) → i ≤ j → j < i + 3 → long new b j ≡ long old b j
    one j l m = same_long At old new h b j (omega arith) (λ k e. n k (omega (arith, e)) (omega (arith, e)))

-- ---- changes of longs

-- the bytes of these longs
abbrev pub AtLongs : (ℕ → ℕ → Type 0) → ℕ → ℕ → Type 0
AtLongs At b i = At b (i / 4)

-- the three longs of a date from long i of a block, and the block's checksum
abbrev pub AtDate : ℕ → ℕ → ℕ → ℕ → Type 0
AtDate block i b j = (b ≡ block) × ((j ≡ CHECKSUM) ⊎ ((i ≤ j) × (j < i + 3)))

pub dated_longs : (block i : ℕ) (moment : Date3) (old new : List ℕ) → Dated block i moment old new → SameBut (AtLongs (AtDate block i)) old new
dated_longs block i moment old new r =
    same_weaken (Summed block (4 * i) (4 * i + 12)) (AtLongs (AtDate block i)) old new (λ b k w. elim w [ inl x ↦ (x.0, inr (omega (arith, x.1), omega (arith, x.2))) | inr x ↦ (x.0, inl x.1) ]) r.rest

pub dated_count : (block i : ℕ) (moment : Date3) (old new : List ℕ) → Dated block i moment old new → block_count new ≡ block_count old
dated_count block i moment old new h = same_count (Summed block (4 * i) (4 * i + 12)) old new h.rest

-- the disk date is written into the root
pub at_root : (old new : List ℕ) (t : Tree) (moment : Date3) → block_count old ≡ t.blocks → Dated (root_key (block_count old)) 118 moment old new → Dated (root t) 118 moment old new
at_root old new t moment count h = subst (λ (n : ℕ). Dated (root_key n) 118 moment old new) count h

module _ (At : ℕ → ℕ → Type 0) (old new : List ℕ) (change : SameBut (AtLongs At) old new) where
  pub long-kept : (b i : ℕ) → i < 128 → ¬ At b i → long new b i ≡ long old b i
  long-kept b i l n = same_long (AtLongs At) old new change b i l (λ k e w. n (subst (At b) e w))

  pub bytes-kept : (b i m : ℕ) → i + m ≤ 512 → ((j : ℕ) → i ≤ j → j < i + m → ¬ At b (j / 4)) → bytes_at new b i m ≡ bytes_at old b i m
  bytes-kept b i m l n = same_bytes_at (AtLongs At) old new change b i m l n

  pub sum-kept : (b : ℕ) → ((i : ℕ) → i < 128 → ¬ At b i) → block_sum new b ≡ block_sum old b
  sum-kept b n = same_sum (AtLongs At) old new change b (λ k l w. n (k / 4) (omega arith) w)

-- ---- what is unchanged in a block some of whose bytes are

-- the bytes of a block are unchanged, except in some longs
pub record StaysBut (changed : ℕ → Type 0) (old new : List ℕ) (block : ℕ) : Type 0 where
  pub size : length new ≡ length old
  pub bytes : (k : ℕ) → k < 512 → ¬ changed (k / 4) → byte_at new block k ≡ byte_at old block k

-- all bytes of a block are unchanged
abbrev pub Stays : List ℕ → List ℕ → ℕ → Type 0
Stays old new block = StaysBut (λ j. ⊥) old new block

-- the bytes of all other blocks, and of these longs
abbrev Else : (ℕ → Type 0) → ℕ → ℕ → ℕ → Type 0
Else changed block b k = (b ≢ block) ⊎ changed (k / 4)

module _ (changed : ℕ → Type 0) (old new : List ℕ) (block : ℕ) (h : StaysBut changed old new block) where
  same_else : SameBut (Else changed block) old new
  same_else = record {
    same_length = h.size;
    same_byte = λ b k m un. elim (cases_eq b block) [
      | inl e ↦ ap (λ (c : ℕ). byte_at new c k) e ∙ h.bytes k m (λ c. un (inr c)) ∙ ap (λ (c : ℕ). byte_at old c k) (sym e)
      | inr ne ↦ absurd (un (inl ne))
    ];
  }

  pub long_stays : (j : ℕ) → j < 128 → ¬ changed j → long new block j ≡ long old block j
  long_stays j l n = long-same old new block j (λ k e. h.bytes k (omega (arith, e)) (λ c. n (subst changed e c)))

  pub text_stays : (i : ℕ) (text : List ℕ) → i + length text < 512 → ((j : ℕ) → i / 4 ≤ j → j ≤ (i + 1 + length text) / 4 → ¬ changed j) → HasText old block i text → HasText new block i text
  text_stays i text l free = text_kept (Else changed block) old new same_else block i text l (λ k from below w. elim w [ inl ne ↦ ne refl | inr c ↦ free (k / 4) (omega (arith, from)) (omega (arith, below)) c ])

  pub date_stays : (i : ℕ) → i + 2 < 128 → ((j : ℕ) → i ≤ j → j ≤ i + 2 → ¬ changed j) → date_at new block i ≡ date_at old block i
  date_stays i l free = date_kept (Else changed block) old new same_else block i l (λ k from below w. elim w [ inl ne ↦ ne refl | inr c ↦ free (k / 4) from (omega (arith, below)) c ])

module _ (old new : List ℕ) (block : ℕ) (h : Stays old new block) where
  abbrev same_others : SameBut (Else (λ j. ⊥) block) old new
  same_others = same_else (λ j. ⊥) old new block h

  pub sum_stays : block_sum new block ≡ block_sum old block
  sum_stays = same_sum (Else (λ j. ⊥) block) old new same_others block (λ k l w. elim w [ inl ne ↦ ne refl | inr c ↦ c ])

  -- any long of the block
  pub long_as : (j : ℕ) → j < 128 → long new block j ≡ long old block j
  long_as j l = long_stays (λ j. ⊥) old new block h j l (λ c. c)

  pub bytes_as : (i n : ℕ) → i + n ≤ 512 → bytes_at new block i n ≡ bytes_at old block i n
  bytes_as i n l = same_bytes_at (Else (λ j. ⊥) block) old new same_others block i n l (λ k from below w. elim w [ inl ne ↦ ne refl | inr c ↦ c ])

  text_as : (i : ℕ) (text : List ℕ) → i + length text < 512 → HasText old block i text → HasText new block i text
  text_as i text l = text_stays (λ j. ⊥) old new block h i text l (λ j from below c. c)

  pub date_as : (i : ℕ) → i + 2 < 128 → date_at new block i ≡ date_at old block i
  date_as i l = date_stays (λ j. ⊥) old new block h i l (λ j from below c. c)

  pub node_as : (a : Node) → IsName a.name → HasNode old block a → HasNode new block a
  node_as a name n = record {
    primary = long_as 0 (omega arith) ∙ n.primary;
    sum = sum_stays ∙ n.sum;
    name = let short = name.short in text_as NAME_BYTE a.name (omega (arith, short)) n.name;
    date = date_as 105 (omega arith) ∙ n.date;
  }

  pub entry_as : (a : Node) (d : ℕ) → IsComment a.comment → HasEntry old block a d → HasEntry new block a d
  entry_as a d comment n = record {
    key_field = long_as 1 (omega arith) ∙ n.key_field;
    protection_field = long_as 80 (omega arith) ∙ n.protection_field;
    comment = let short = comment.short in text_as COMMENT_BYTE a.comment (omega (arith, short)) n.comment;
    parent = long_as 125 (omega arith) ∙ n.parent;
    secondary = long_as 127 (omega arith) ∙ n.secondary;
  }

-- an unchanged root is the root of a tree with other nodes, in a layout with the same bitmap blocks
pub root_as : (old new : List ℕ) (t : Tree) (l : Layout) (nodes : ℕ → Option Node) (blocks lists : ℕ → List ℕ) → length l.pages ≤ 25 → Stays old new (root t) → HasRoot old t l
    → HasRoot new (record t { nodes = nodes }) (record { pages = l.pages; file_data = blocks; extensions = lists })
root_as old new t l nodes blocks lists few stays r = record {
  table_size = long_as old new (root t) stays 3 (omega arith) ∙ r.table_size;
  valid = long_as old new (root t) stays 78 (omega arith) ∙ r.valid;
  pages = λ i m. long_as old new (root t) stays (79 + i) (omega (arith, m, few)) ∙ r.pages i m;
  disk_date = date_as old new (root t) stays 118 (omega arith) ∙ r.disk_date;
  creation_date = date_as old new (root t) stays 121 (omega arith) ∙ r.creation_date;
  parent = long_as old new (root t) stays 125 (omega arith) ∙ r.parent;
  secondary = long_as old new (root t) stays 127 (omega arith) ∙ r.secondary;
}

-- ---- a file with unchanged blocks is the same file

-- the longs of a header that lead to the file's data
abbrev pub IsFileLong : ℕ → Type 0
IsFileLong j = (j < 5) ⊎ (((6 ≤ j) × (j < 78)) ⊎ ((j ≡ 81) ⊎ (j ≡ 126)))

module _ (old new : List ℕ) (format : Format) (file : ℕ) (blocks extensions bytes : List ℕ)
    (header : (j : ℕ) → IsFileLong j → long new file j ≡ long old file j) (extension : (q : ℕ) → q < length extensions → Stays old new (slice_index extensions q)) (datas : (i : ℕ) → i < length blocks → Stays old new (slice_index blocks i))
    (room : length blocks ≤ 72 * suc (length extensions)) (fits : length blocks ≡ data_count format (length bytes)) where
  -- the number of pointers or a pointer
  pointer_long : (q j : ℕ) → q ≤ length extensions → (j ≡ 2) ⊎ ((6 ≤ j) × (j < 78)) → long new (slice_index (file ∷ extensions) q) j ≡ long old (slice_index (file ∷ extensions) q) j
  pointer_long zero j l o = header j (elim o [ inl e ↦ inl (omega (arith, e)) | inr m ↦ inr (inl m) ])
  pointer_long (suc q) j l o = long_as old new (slice_index extensions q) (extension q (omega arith)) j (omega (arith, o))

  extension_stays : (block : ℕ) → Stays old new block → HasExtension old file block → HasExtension new file block
  extension_stays block stays e = record {
    primary = long_as old new block stays 0 (omega arith) ∙ e.primary;
    key_field = long_as old new block stays 1 (omega arith) ∙ e.key_field;
    sum = sum_stays old new block stays ∙ e.sum;
    parent = long_as old new block stays 125 (omega arith) ∙ e.parent;
    secondary = long_as old new block stays 127 (omega arith) ∙ e.secondary;
  }

  data_stays : (i block : ℕ) → Stays old new block → HasOfsData old file (length bytes) i block → HasOfsData new file (length bytes) i block
  data_stays i block stays e = record {
    primary = long_as old new block stays 0 (omega arith) ∙ e.primary;
    header = long_as old new block stays 1 (omega arith) ∙ e.header;
    sequence = long_as old new block stays 2 (omega arith) ∙ e.sequence;
    held = long_as old new block stays 3 (omega arith) ∙ e.held;
    sum = sum_stays old new block stays ∙ e.sum;
  }

  pub file_stays : HasFile old format file blocks extensions bytes → HasFile new format file blocks extensions bytes
  file_stays h = record {
    size = header 81 (inr (inr (inl refl))) ∙ h.size;
    chain = chained new 126 _ extensions (header 126 (inr (inr (inr refl))) ∙ chain_head old 126 _ extensions h.chain)
        (λ q l. long_as old new _ (extension q l) 126 (omega arith) ∙ next_of old 126 _ extensions h.chain q l);
    extension = λ q l. extension_stays _ (extension q l) (h.extension q l);
    counts = λ q l. pointer_long q 2 l (inl refl) ∙ h.counts q l;
    pointers = λ i l. pointer_long (i / 72) (77 - i % 72) (omega (arith, l, room)) (inr (omega arith, omega arith)) ∙ h.pointers i l;
    contents = λ k l. h.contents k l ∙ sym ((datas (k / data_size format) (omega (arith, in_count format k (length bytes) l, fits))).bytes (data_start format + k % data_size format) (in_block format k) (λ z. z));
    ofs_chain = λ o. chained new 4 _ blocks (header 4 (inl (omega arith)) ∙ chain_head old 4 _ blocks (h.ofs_chain o))
        (λ i l. long_as old new _ (datas i l) 4 (omega arith) ∙ next_of old 4 _ blocks (h.ofs_chain o) i l);
    ofs_data = λ o i l. data_stays i _ (datas i l) (h.ofs_data o i l);
  }
