-- Files that stay in their blocks, and what two changes together leave untouched in them.
use Rattle.ados_change.proofs.Common.{◌≡◌, ℕ, zero, suc, ◌<◌, List, length, slice_index, Some, refl, sym, ap, ◌∙◌, subst, arith, block_count, byte_at, format_of, pages_of, data_count, Tree, Duty, HasDuty, Stands, data_blocks, extension_blocks, File, slice_get-index, ◌+◌, ◌-◌, ◌/◌, ◌%◌, map, ap₂, range_with_len, page_count, long, file_size, extension_count, content_at, pointer_block, data_block, listed_is, HasFileKey, HasData, HasFileBytes, KeepsData, KeepsFileEnd, KeepsPastEnd, KeepsUntold, data_at, content_in, one_tree, IsFileNode}
use Rattle.std.proofs.lemmas.List.FromFn.{length-map-range_with_len, get_or-map-range_with_len}
use Rattle.ados_change.proofs.Writable.{data_is, extensions_is}

-- ---- lists whose links are unchanged

module _ (old new : List ℕ) (links : (b : ℕ) → long new b 126 ≡ long old b 126) (pointers : (b i : ℕ) → i < 72 → long new b (77 - i) ≡ long old b (77 - i))
    (format : format_of new ≡ format_of old) (file : ℕ) (size : file_size new file ≡ file_size old file) where
  holder_stays : (q : ℕ) → pointer_block new file q ≡ pointer_block old file q
  holder_stays zero = refl
  holder_stays (suc q) = links (pointer_block new file q) ∙ ap (λ (b : ℕ). long old b 126) (holder_stays q)

  same_list : (f g : ℕ → ℕ) (n m : ℕ) → n ≡ m → ((i : ℕ) → f i ≡ g i) → map f (range_with_len 0 n) ≡ map g (range_with_len 0 m)
  same_list f g n m e h =
      listed_is f n (map g (range_with_len 0 m)) (e ∙ sym (length-map-range_with_len g 0 m))
      (λ i l. h i ∙ sym (get_or-map-range_with_len g 0 m i i 0 (omega (arith, l, length-map-range_with_len g 0 m)) (omega arith)))

  pub data_blocks_stay : data_blocks new file ≡ data_blocks old file
  unfolding data_blocks
  data_blocks_stay = same_list (data_block new file) (data_block old file) _ _ (ap₂ data_count format size) (λ i. pointers (pointer_block new file (i / 72)) (i % 72) (omega arith) ∙ ap (λ (b : ℕ). long old b (77 - i % 72)) (holder_stays (i / 72)))

  pub extension_blocks_stay : extension_blocks new file ≡ extension_blocks old file
  unfolding extension_blocks
  extension_blocks_stay = same_list (λ q. pointer_block new file (q + 1)) (λ q. pointer_block old file (q + 1)) _ _ (ap extension_count (ap₂ data_count format size)) (λ q. holder_stays (q + 1))

-- ---- files of an image that represents a tree

module _ (image : List ℕ) (t : Tree) (s : Stands image t) (file : ℕ) where
  pub has_bytes : (bytes : List ℕ) → content_at t file ≡ Some (File bytes) → HasFileBytes image file bytes
  has_bytes bytes e u r = subst (λ (v : Tree). content_at v file ≡ Some (File bytes)) (one_tree image t u s r) e

  pub file_of_key : HasFileKey image file → IsFileNode image t s file
  file_of_key key =
      let c = key t s in
      let n = content_in (t.nodes file) (File c.0) c.1 in
      record { node = n.0; bytes = c.0; at = n.1; content = n.2 }

  -- a data block has the use of a data block
  pub data_serves : IsFileNode image t s file → (q : ℕ) → HasData image file q → HasDuty t s.layout (data_at image file q) (Duty.Data file q)
  data_serves f q l =
      let lists = data_is image t s file f.node f.bytes f.at f.content in
      slice_get-index (s.layout.file_data file) q (subst (λ (xs : List ℕ). q < length xs) lists l) ∙ ap (λ (xs : List ℕ). Some (slice_index xs q)) (sym lists)

  pub extension_serves : IsFileNode image t s file → (q : ℕ) → q < length (extension_blocks image file) → HasDuty t s.layout (slice_index (extension_blocks image file) q) (Duty.Extension file q)
  extension_serves f q l =
      let lists = extensions_is image t s file f.node f.bytes f.at f.content in
      slice_get-index (s.layout.extensions file) q (subst (λ (xs : List ℕ). q < length xs) lists l) ∙ ap (λ (xs : List ℕ). Some (slice_index xs q)) (sym lists)

-- ---- one change

-- a file with unchanged data keeps the bytes after its end
pub end_of_data : (old new : List ℕ) (file : ℕ) → KeepsData old new file → KeepsFileEnd old new file
end_of_data old new file k = record {
  blocks = λ q l m. ap (λ (xs : List ℕ). slice_index xs q) k.blocks;
  extensions = λ q l m. ap (λ (xs : List ℕ). slice_index xs q) k.extensions;
  stays = λ q i was is. ap (λ (xs : List ℕ). byte_at new (slice_index xs q) i) k.blocks ∙ k.bytes q i was is.byte;
  zero = λ q i none is. absurd (none (subst (λ (xs : List ℕ). q < length xs) k.blocks is.block));
}

-- each file that exists before and after keeps its data
pub files_stay : (old new : List ℕ) → KeepsPastEnd old new → ((file : ℕ) → HasFileKey old file → HasFileKey new file → KeepsData old new file) → KeepsUntold old new
files_stay old new past each = record {
  past_end = past;
  other_data = λ file bytes was is. each file (λ t s. (bytes, was t s)) (λ t s. (bytes, is t s));
  file_ends = λ file was is. end_of_data old new file (each file was is);
}

-- nothing changes
pub same_untold : (image : List ℕ) → KeepsUntold image image
same_untold image =
    files_stay image image (record { pages = λ p l. refl; bits = λ k has past. refl })
    (λ file was is. record { blocks = refl; extensions = refl; bytes = λ q i l m. refl })

-- ---- one change after the other

pub past_end_trans : (old mid new : List ℕ) → block_count mid ≡ block_count old → KeepsPastEnd old mid → KeepsPastEnd mid new → KeepsPastEnd old new
past_end_trans old mid new count first second =
    let pages : pages_of mid ≡ pages_of old = ap page_count count in
    record {
      pages = λ p l. second.pages p (omega (arith, l, pages)) ∙ first.pages p l;
      bits = λ k has past. second.bits k (has.0, omega (arith, has.1, pages)) (omega (arith, past, count)) ∙ first.bits k has past;
    }

module _ (old mid new : List ℕ) (t : Tree) (s : Stands old t) (count : block_count mid ≡ block_count old)
    (same : (file : ℕ) (bytes : List ℕ) → HasFileKey new file → HasFileBytes old file bytes → HasFileBytes mid file bytes) (first : KeepsUntold old mid) (second : KeepsUntold mid new) where
  data_after : (file : ℕ) (bytes : List ℕ) → HasFileBytes old file bytes → HasFileBytes new file bytes → KeepsData old new file
  data_after file bytes was is =
      let between = same file bytes (λ t s. (bytes, is t s)) was in
      let a = first.other_data file bytes was between in
      let b = second.other_data file bytes between is in
      record {
        blocks = b.blocks ∙ a.blocks;
        extensions = b.extensions ∙ a.extensions;
        bytes = λ q i l m.
            let at = ap (λ (xs : List ℕ). slice_index xs q) a.blocks in
            ap (λ (c : ℕ). byte_at new c i) (sym at) ∙ b.bytes q i (subst (λ (xs : List ℕ). q < length xs) (sym a.blocks) l) m ∙ ap (λ (c : ℕ). byte_at mid c i) at ∙ a.bytes q i l m;
      }

  end_after : (file : ℕ) → HasFileKey old file → HasFileKey new file → KeepsFileEnd old new file
  end_after file was is =
      let bytes = (was t s).0 in
      let before = has_bytes old t s file bytes (was t s).1 in
      let between = same file bytes is before in
      let a = first.other_data file bytes before between in
      let b = second.file_ends file (λ v h. (bytes, between v h)) is in
      let here : (q : ℕ) → HasData old file q → HasData mid file q = λ q l. subst (λ (xs : List ℕ). q < length xs) (sym a.blocks) l in
      record {
        blocks = λ q l m. b.blocks q (here q l) m ∙ ap (λ (xs : List ℕ). slice_index xs q) a.blocks;
        extensions = λ q l m. b.extensions q (subst (λ (xs : List ℕ). q < length xs) (sym a.extensions) l) m ∙ ap (λ (xs : List ℕ). slice_index xs q) a.extensions;
        stays = λ q i x y.
            b.stays q i (here q x) y
            ∙ ap (λ (xs : List ℕ). byte_at mid (slice_index xs q) i) a.blocks
            ∙ a.bytes q i x y.byte;
        zero = λ q i none y. b.zero q i (λ l. none (subst (λ (xs : List ℕ). q < length xs) a.blocks l)) y;
      }

  -- the first change leaves each file untouched that exists after the second
  pub untold_trans : KeepsUntold old new
  untold_trans = record {
    past_end = past_end_trans old mid new count first.past_end second.past_end;
    other_data = data_after;
    file_ends = end_after;
  }
