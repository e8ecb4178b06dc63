-- A file that can be changed, through the steps of a change, and a block that is allocated.
use Rattle.ados_data.proofs.Common.{◌≡◌, ◌≢◌, ℕ, ◌<◌, ◌≤◌, ◌⊎◌, inl, inr, false, cond, eqb, List, ◌∷◌, length, slice_index, refl, sym, ap, ◌∙◌, subst, arith, false≢true, FILE_SIZE, Format, Ofs, Ffs, long, block_count, root_key, has_free_bit, IsInside, byte_at, IsSize, free_bit_count, format_of, SameBut, InBlock, OnlyBlock, same_long, same_count, other_block_sum, pages_of, page_block, page_of, HasBit, LawfulPages, IsLowestFree, MapPlace, BitChanged, data_count, extension_count, HasFile, file_byte, AreApart, extension_blocks, contents, IsInUse, LawfulMap, IsWritable, WritableFile, IsNewBlock, bit_of_inside}
use Rattle.ados_data.proofs.Spelled.{data_blocks_are, extension_blocks_are, contents_are}
use Rattle.ados_data.proofs.Untouched.{Untouched}
use Rattle.ados_data.proofs.Skeleton.{Skeleton, skeleton_of, file_of, untouched_holder, untouched_data, skeleton_kept}
use Rattle.ados_data.proofs.Marks.{as_many, page_kept, in_use_kept, mark_kept, map_after, map_kept, lawful_pages_kept, one_less}

-- a file without its bytes; the bitmap is lawful and all blocks of the file are in use
pub record Standing (image : List ℕ) (format : Format) (file : ℕ) (blocks extensions : List ℕ) (size : ℕ) : Type 0 where
  pub format_is : format_of image ≡ format
  pub size_ok : IsSize (block_count image)
  pub skeleton : Skeleton image format file blocks extensions size
  pub places : AreApart (block_count image) file blocks extensions
  pub map : LawfulMap image
  pub headers_used : (q : ℕ) → q ≤ length extensions → IsInUse image (slice_index (file ∷ extensions) q)
  pub data_used : (i : ℕ) → i < length blocks → IsInUse image (slice_index blocks i)

pub standing_of : (image : List ℕ) (file : ℕ) (blocks extensions bytes : List ℕ) → IsSize (block_count image) → IsWritable image file blocks extensions bytes → Standing image (format_of image) file blocks extensions (length bytes)
standing_of image file blocks extensions bytes ok w = record {
  format_is = refl;
  size_ok = ok;
  skeleton = skeleton_of image (format_of image) file blocks extensions bytes w.lawful.holds;
  places = w.lawful.places;
  map = w.map;
  headers_used = w.headers_used;
  data_used = w.data_used;
}

pub writable_of : (image : List ℕ) (format : Format) (file : ℕ) (blocks extensions bytes : List ℕ) → Standing image format file blocks extensions (length bytes) → length blocks ≡ data_count format (length bytes) → length extensions ≡ extension_count (length blocks) → ((k : ℕ) → k < length bytes → slice_index bytes k ≡ file_byte format image blocks k) → IsWritable image file blocks extensions bytes
writable_of image format file blocks extensions bytes s data_fits extensions_fit held =
    record {
      lawful = record {
        holds = subst (λ (f : Format). HasFile image f file blocks extensions bytes) (sym s.format_is) (file_of image format file blocks extensions bytes (omega (arith, extensions_fit)) s.skeleton held);
        data_fits = data_fits ∙ ap (λ (f : Format). data_count f (length bytes)) (sym s.format_is);
        extensions_fit = extensions_fit;
        places = s.places;
      };
      map = s.map;
      headers_used = s.headers_used;
      data_used = s.data_used;
    }

-- the lists in the image are these lists
pub writable_file : (image : List ℕ) (file : ℕ) (blocks extensions bytes : List ℕ) → IsWritable image file blocks extensions bytes → WritableFile image file
writable_file image file blocks extensions bytes w =
    subst (λ (xs : List ℕ). IsWritable image file xs (extension_blocks image file) (contents image file)) (sym (data_blocks_are image file blocks extensions bytes w.lawful))
    (subst (λ (xs : List ℕ). IsWritable image file blocks xs (contents image file)) (sym (extension_blocks_are image file blocks extensions bytes w.lawful))
    (subst (λ (xs : List ℕ). IsWritable image file blocks extensions xs) (sym (contents_are image file blocks extensions bytes w.lawful)) w))

-- ---- changes of blocks in use

-- only bytes of blocks in use change
pub record Owned (changed : ℕ → ℕ → Type 0) (old new : List ℕ) : Type 0 where
  pub same : SameBut changed old new
  pub size : IsSize (block_count old)
  pub owner : (c k : ℕ) → changed c k → IsInUse old c × IsInside (block_count old) c

module _ {changed : ℕ → ℕ → Type 0} {old new : List ℕ} (o : Owned changed old new) where
  pub blocks_stay : block_count new ≡ block_count old
  blocks_stay = same_count changed old new o.same

  pub format_kept : format_of new ≡ format_of old
  format_kept = ap (λ (v : ℕ). cond (eqb v 0) Ofs Ffs) (o.same.same_byte 0 3 (omega arith) (λ at. omega (arith, (o.owner 0 3 at).1)))

  root_free : (k : ℕ) → ¬ changed (root_key (block_count old)) k
  root_free k at = (o.owner (root_key (block_count old)) k at).0.beside_root refl

  pub pages_free : (p k : ℕ) → p < pages_of old → ¬ changed (page_block old p) k
  pages_free p k l at = (o.owner (page_block old p) k at).0.beside_pages p l refl

  pub pages_stay : (p : ℕ) → p < pages_of old → page_block new p ≡ page_block old p
  pages_stay = page_kept changed old new o.same o.size.1 root_free

  pub marks_stay : (c : ℕ) → HasBit old c → has_free_bit new c ≡ has_free_bit old c
  marks_stay = mark_kept changed old new o.same o.size.1 root_free pages_free

  pub count_stays : free_bit_count new ≡ free_bit_count old
  count_stays = as_many old new blocks_stay (λ j inside. marks_stay j (bit_of_inside old j inside))

  pub map_stays : LawfulMap old → LawfulMap new
  map_stays = map_kept changed old new o.same o.size.1 root_free pages_free o.size.0

  pub use_stays : (c : ℕ) → IsInside (block_count old) c → IsInUse old c → IsInUse new c
  use_stays c inside u = in_use_kept changed old new o.same o.size.1 root_free c (marks_stay c (bit_of_inside old c inside)) u

-- ---- a new block

module _ (old : List ℕ) (b : ℕ) (new : List ℕ) (n : IsNewBlock old b new) (ok : IsSize (block_count old)) (m : LawfulMap old) where
  page_within : page_of b < pages_of old
  page_within = omega (arith, n.lowest.inside.0, n.lowest.inside.1)

  -- a block that is marked used is not the new one
  pub beside_new : (c : ℕ) → has_free_bit old c ≡ false → c ≢ b
  beside_new c u e = false≢true (sym u ∙ ap (has_free_bit old) e ∙ n.lowest.free)

  pub untaken : (c k : ℕ) → IsInUse old c → ¬ (MapPlace old b c k ⊎ (c ≡ b))
  untaken c k u (inl p) = u.beside_pages (page_of b) page_within p.0
  untaken c k u (inr e) = beside_new c u.marked e

  root_untaken : (k : ℕ) → ¬ (MapPlace old b (root_key (block_count old)) k ⊎ (root_key (block_count old) ≡ b))
  root_untaken k (inl p) = m.pages.beside_root (page_of b) page_within (sym p.0)
  root_untaken k (inr e) = beside_new (root_key (block_count old)) m.root_marked e

  pub new_inside : IsInside (block_count old) b
  new_inside = n.lowest.inside

  pub same_blocks : block_count new ≡ block_count old
  same_blocks = same_count (λ c k. MapPlace old b c k ⊎ (c ≡ b)) old new n.rest

  pub new_format : format_of new ≡ format_of old
  new_format = ap (λ (v : ℕ). cond (eqb v 0) Ofs Ffs) (n.rest.same_byte 0 3 (omega arith) no)
    where
      no : ¬ (MapPlace old b 0 3 ⊎ (0 ≡ b))
      no (inl p) = omega (arith, p.0, (m.pages.inside (page_of b) page_within).0)
      no (inr e) = omega (arith, e, n.lowest.inside.0)

  pub still_in_use : (c : ℕ) → IsInside (block_count old) c → IsInUse old c → IsInUse new c
  still_in_use c inside u = in_use_kept (λ c k. MapPlace old b c k ⊎ (c ≡ b)) old new n.rest ok.1 root_untaken c (n.others c (bit_of_inside old c inside) (beside_new c u.marked)) u

  pub pages_same : (p : ℕ) → p < pages_of old → page_block new p ≡ page_block old p
  pages_same = page_kept (λ c k. MapPlace old b c k ⊎ (c ≡ b)) old new n.rest ok.1 root_untaken

  pub new_in_use : IsInUse new b
  new_in_use = record {
    marked = n.marked;
    beside_root = λ e. beside_new (root_key (block_count old)) m.root_marked (ap root_key (sym same_blocks) ∙ sym e);
    beside_pages = λ p l e. let a : p < pages_of old = omega (arith, same_blocks, l) in beside_new (page_block old p) (m.pages_marked p a) (sym (pages_same p a) ∙ sym e);
  }

  pub new_map : LawfulMap new
  new_map =
      map_after (λ c k. MapPlace old b c k ⊎ (c ≡ b)) old new n.rest ok.1 root_untaken n.pages
      (n.others (root_key (block_count old)) (bit_of_inside old (root_key (block_count old)) (omega (arith, ok.0), omega (arith, ok.0))) (beside_new (root_key (block_count old)) m.root_marked))
      (λ p l. n.others (page_block old p) (bit_of_inside old (page_block old p) (m.pages.inside p l)) (beside_new (page_block old p) (m.pages_marked p l))) m

  pub untouched_new : (c : ℕ) → IsInUse old c → Untouched old new c
  untouched_new c u = λ k l. n.rest.same_byte c k l (untaken c k u)

  module _ (format : Format) (file : ℕ) (blocks extensions : List ℕ) (size : ℕ) (s : Standing old format file blocks extensions size) where
    pub stands_beside_new : Standing new format file blocks extensions size
    stands_beside_new = record {
      format_is = new_format ∙ s.format_is;
      size_ok = subst IsSize (sym same_blocks) ok;
      skeleton = skeleton_kept old new format file blocks extensions size s.skeleton
          (λ q l. untouched_holder old new (slice_index (file ∷ extensions) q) (untouched_new (slice_index (file ∷ extensions) q) (s.headers_used q l)))
          (file_long FILE_SIZE (omega arith)) (file_long 4 (omega arith))
          (λ e i l. untouched_data old new (slice_index blocks i) (untouched_new (slice_index blocks i) (s.data_used i l)));
      places = subst (λ (x : ℕ). AreApart x file blocks extensions) (sym same_blocks) s.places;
      map = new_map;
      headers_used = λ q l. still_in_use (slice_index (file ∷ extensions) q) (s.places.headers_inside q l) (s.headers_used q l);
      data_used = λ i l. still_in_use (slice_index blocks i) (s.places.data_inside i l) (s.data_used i l);
    }
      where
        file_long : (j : ℕ) → j < 128 → long new file j ≡ long old file j
        file_long j l = same_long (λ c k. MapPlace old b c k ⊎ (c ≡ b)) old new n.rest file j l (λ k e. untaken file k (s.headers_used 0 (omega arith)))

    pub header_beside_new : (q : ℕ) → q ≤ length extensions → slice_index (file ∷ extensions) q ≢ b
    header_beside_new q l = beside_new (slice_index (file ∷ extensions) q) (s.headers_used q l).marked

    pub data_beside_new : (i : ℕ) → i < length blocks → slice_index blocks i ≢ b
    data_beside_new i l = beside_new (slice_index blocks i) (s.data_used i l).marked

module _ (old : List ℕ) (b : ℕ) (mid new : List ℕ) (ok : IsSize (block_count old)) (m : LawfulMap old) (low : IsLowestFree old b) (taken : BitChanged old b false mid) (pages : LawfulPages mid) (cleared : OnlyBlock b mid new) where
  another : (c : ℕ) → has_free_bit old c ≡ false → c ≢ b
  another c u e = false≢true (sym u ∙ ap (has_free_bit old) e ∙ low.free)

  within : page_of b < pages_of old
  within = omega (arith, low.inside.0, low.inside.1)

  count_mid : block_count mid ≡ block_count old
  count_mid = same_count (MapPlace old b) old mid taken.rest

  count_new : block_count new ≡ block_count mid
  count_new = same_count (InBlock b) mid new cleared

  page_mid : (p : ℕ) → p < pages_of old → page_block mid p ≡ page_block old p
  page_mid = page_kept (MapPlace old b) old mid taken.rest ok.1 (λ k at. m.pages.beside_root (page_of b) within (sym at.0))

  root_untouched : (k : ℕ) → ¬ InBlock b (root_key (block_count mid)) k
  root_untouched k at = another (root_key (block_count old)) m.root_marked (ap root_key (sym count_mid) ∙ at)

  page_free : (p k : ℕ) → p < pages_of mid → ¬ InBlock b (page_block mid p) k
  page_free p k l at = let a : p < pages_of old = omega (arith, count_mid, l) in another (page_block old p) (m.pages_marked p a) (sym (page_mid p a) ∙ at)

  small : block_count mid ≤ 101602
  small = omega (arith, count_mid, ok.1)

  mark_new : (c : ℕ) → HasBit mid c → has_free_bit new c ≡ has_free_bit mid c
  mark_new = mark_kept (InBlock b) mid new cleared small root_untouched page_free

  bit_mid : (c : ℕ) → HasBit old c → HasBit mid c
  bit_mid c h = (h.0, omega (arith, count_mid, h.1))

  others : (j : ℕ) → HasBit old j → j ≢ b → has_free_bit new j ≡ has_free_bit old j
  others j h ne = mark_new j (bit_mid j h) ∙ taken.others j h ne

  marked : has_free_bit new b ≡ false
  marked = mark_new b (bit_mid b (bit_of_inside old b low.inside)) ∙ taken.bit

  pub new_block_taken : ((k : ℕ) → k < 512 → byte_at new b k ≡ 0) → IsNewBlock old b new
  new_block_taken empty = record {
    lowest = low;
    marked = marked;
    others = others;
    count = one_less old new b low.inside (count_new ∙ count_mid) (λ j i ne. others j (bit_of_inside old j i) ne) low.free marked;
    page_sum = other_block_sum b mid new cleared (page_block old (page_of b)) (another (page_block old (page_of b)) (m.pages_marked (page_of b) within)) ∙ taken.sum;
    pages = lawful_pages_kept (InBlock b) mid new cleared small root_untouched page_free pages;
    empty = empty;
    rest = record {
      same_length = cleared.same_length ∙ taken.rest.same_length;
      same_byte = λ c k l un. cleared.same_byte c k l (λ e. un (inr e)) ∙ taken.rest.same_byte c k l (λ e. un (inl e));
    };
  }
