-- A file cut short, while the blocks after its new end are freed.
use Rattle.ados_data.proofs.Common.{inl, inr, ◌≡◌, ◌≢◌, ℕ, ◌+◌, ◌<◌, ◌≤◌, true, cond, eqb, List, ◌∷◌, length, slice_index, sym, ap, ◌∙◌, subst, arith, suc, ◌-◌, ◌/◌, ◌%◌, ◌⊎◌, take, refl, FILE_SIZE, FIRST_POINTER, NEXT_EXTENSION, Format, Ofs, Ffs, long, block_count, root_key, IsInside, block_sum, byte_at, has_free_bit, IsSize, free_bit_count, format_of, same_count, LawfulPages, pages_of, page_block, page_of, MapPlace, BitChanged, AreApart, data_blocks, extension_blocks, contents, pointer_block, IsInUse, LawfulMap, WritableFile, cases_eq, cases_lt, IsOther, Leaves, LeavesOthers, bit_of_inside, get_or-take, length-take-le, data_count, extension_count, block_cost, data_size, data_start, IsResized, KeepsUnnamed, CutsHeader}
use Rattle.ados_data.proofs.Untouched.{Untouched, untouched_long}
use Rattle.ados_data.proofs.Skeleton.{untouched_holder, untouched_data, skeleton_kept}
use Rattle.ados_data.proofs.Marks.{page_kept, in_use_kept, map_after, one_more}
use Rattle.ados_data.proofs.Standing.{Standing, standing_of, writable_of, writable_file, Owned, blocks_stay, pages_stay, count_stays, marks_stay, use_stays}
use Rattle.ados_data.proofs.Lists.{head_taken}
use Rattle.ados_data.specs.steps.Giving.{IsEntered}
use Rattle.ados_data.proofs.Leaving.{leaves_both, leaves_resized}
use Rattle.ados_data.proofs.CutKeeping.{AtEnds, header_uncut, keeps_cut}
use Rattle.ados_data.proofs.Sizes.{fewer_blocks, some_blocks, ofs_count, in_block, behind_start, in_count}
use Rattle.ados_data.proofs.Spelled.{link_of, data_blocks_are, extension_blocks_are, contents_are}
use Rattle.ados_data.proofs.Places.{header_is, data_is, holder_of}
use Rattle.ados_data.proofs.Growing.{Resized, resized_owned, stands_resized, resized_byte, resized_long, later_long}

module _ (old : List ℕ) (b : ℕ) (new : List ℕ) (m : BitChanged old b true new) (pages : LawfulPages new) (ok : IsSize (block_count old)) (map : LawfulMap old) (inside : IsInside (block_count old) b) (used : IsInUse old b) where
  page_within : page_of b < pages_of old
  page_within = omega (arith, inside.0, inside.1)

  pub given_count : block_count new ≡ block_count old
  given_count = same_count (MapPlace old b) old new m.rest

  root_kept : (k : ℕ) → ¬ MapPlace old b (root_key (block_count old)) k
  root_kept k at = map.pages.beside_root (page_of b) page_within (sym at.0)

  pub given_page : (p : ℕ) → p < pages_of old → page_block new p ≡ page_block old p
  given_page = page_kept (MapPlace old b) old new m.rest ok.1 root_kept

  -- a block that is not a bitmap block
  pub untouched_given : (c : ℕ) → ((p : ℕ) → p < pages_of old → c ≢ page_block old p) → Untouched old new c
  untouched_given c beside k l = m.rest.same_byte c k l (λ at. beside (page_of b) page_within at.0)

  pub given_long : (c : ℕ) → ((p : ℕ) → p < pages_of old → c ≢ page_block old p) → (j : ℕ) → j < 128 → long new c j ≡ long old c j
  given_long c beside j l = untouched_long old new c (untouched_given c beside) j l

  pub given_use : (c : ℕ) → IsInside (block_count old) c → IsInUse old c → c ≢ b → IsInUse new c
  given_use c i u ne = in_use_kept (MapPlace old b) old new m.rest ok.1 root_kept c (m.others c (bit_of_inside old c i) ne) u

  given_format : format_of new ≡ format_of old
  given_format = ap (λ (v : ℕ). cond (eqb v 0) Ofs Ffs) (m.rest.same_byte 0 3 (omega arith) (λ at. omega (arith, at.0, (map.pages.inside (page_of b) page_within).0)))

  pub given_map : LawfulMap new
  given_map =
      map_after (MapPlace old b) old new m.rest ok.1 root_kept pages
      (m.others (root_key (block_count old)) (bit_of_inside old (root_key (block_count old)) (omega (arith, ok.0), omega (arith, ok.0))) (λ e. used.beside_root (sym e)))
      (λ p l. m.others (page_block old p) (bit_of_inside old (page_block old p) (map.pages.inside p l)) (λ e. used.beside_pages p l (sym e))) map

  pub given_total : free_bit_count new ≡ free_bit_count old + 1
  given_total = one_more old new b inside given_count (λ j i ne. m.others j (bit_of_inside old j i) ne) used.marked m.bit

  pub stands_given : (format : Format) (file : ℕ) (blocks extensions : List ℕ) (size : ℕ) → Standing old format file blocks extensions size → ((q : ℕ) → q ≤ length extensions → slice_index (file ∷ extensions) q ≢ b) → ((i : ℕ) → i < length blocks → slice_index blocks i ≢ b) → Standing new format file blocks extensions size
  stands_given format file blocks extensions size s headers datas = record {
    format_is = given_format ∙ s.format_is;
    size_ok = subst IsSize (sym given_count) ok;
    skeleton = skeleton_kept old new format file blocks extensions size s.skeleton
        (λ q l. untouched_holder old new (slice_index (file ∷ extensions) q) (untouched_given (slice_index (file ∷ extensions) q) (s.headers_used q l).beside_pages))
        (given_long file (s.headers_used 0 (omega arith)).beside_pages FILE_SIZE (omega arith)) (given_long file (s.headers_used 0 (omega arith)).beside_pages 4 (omega arith))
        (λ e i l. untouched_data old new (slice_index blocks i) (untouched_given (slice_index blocks i) (s.data_used i l).beside_pages));
    places = subst (λ (x : ℕ). AreApart x file blocks extensions) (sym given_count) s.places;
    map = given_map;
    headers_used = λ q l. given_use (slice_index (file ∷ extensions) q) (s.places.headers_inside q l) (s.headers_used q l) (headers q l);
    data_used = λ i l. given_use (slice_index blocks i) (s.places.data_inside i l) (s.data_used i l) (datas i l);
  }

  pub leaves_given : (file : ℕ) (blocks extensions : List ℕ) → ((p : ℕ) → p < pages_of old → file ≢ page_block old p) → ((c : ℕ) → IsOther old file blocks extensions c → c ≢ b) → Leaves old file blocks extensions new
  leaves_given file blocks extensions header_beside another = record {
    same_length = m.rest.same_length;
    pages = given_page;
    others = λ c k l o. untouched_given c o.beside_pages k l;
    used = λ c i o. m.others c (bit_of_inside old c i) (another c o) ∙ o.used i.0;
    past_end = λ j h l. m.others j h (λ e. omega (arith, e, l, inside.1));
    header = λ k l f. untouched_given file header_beside k l;
    header_sum = inl (untouched_given file header_beside);
    page_sums = λ p l. elim (cases_eq p (page_of b)) [
      | inl same ↦ inr (ap (λ (x : ℕ). block_sum new (page_block old x)) same ∙ m.sum)
      | inr ne ↦ inl (λ k r. m.rest.same_byte (page_block old p) k r (λ at. ne (map.pages.apart p (page_of b) l page_within at.0)))
    ];
  }

-- a file cut to d data blocks, with blocks still to be freed: data blocks from i, and extension blocks after number r;
-- `holder` is pointer block r and `next` the one after it
pub record Cutting (blocks extensions : List ℕ) (format : Format) (file d size i r holder next : ℕ) (old image : List ℕ) : Type 0 where
  pub stands : Standing image format file (take d blocks) (take (extension_count d) extensions) size
  pub same_blocks : block_count image ≡ block_count old
  pub holder_is : holder ≡ slice_index (file ∷ extensions) r
  pub next_is : next ≡ slice_index extensions r
  pub beside_pages : (q p : ℕ) → q ≤ length extensions → p < pages_of image → slice_index (file ∷ extensions) q ≢ page_block image p
  pub pointers : (j : ℕ) → i ≤ j → j < length blocks → long image (slice_index (file ∷ extensions) (j / 72)) (FIRST_POINTER - j % 72) ≡ slice_index blocks j
  pub links : (q : ℕ) → r < q → q ≤ length extensions → long image (slice_index (file ∷ extensions) q) NEXT_EXTENSION ≡ slice_index extensions q
  pub data_used : (j : ℕ) → i ≤ j → j < length blocks → IsInUse image (slice_index blocks j)
  pub headers_used : (q : ℕ) → r < q → q ≤ length extensions → IsInUse image (slice_index (file ∷ extensions) q)
  pub bytes : (j k : ℕ) → j < d → k < 512 → (format ≡ Ofs → 24 ≤ k) → byte_at image (slice_index blocks j) k ≡ byte_at old (slice_index blocks j) k
  pub count : free_bit_count image ≡ free_bit_count old + (i - d) + (r - extension_count d)
  pub leaves : Leaves old file blocks extensions image
  pub freed_data : (j : ℕ) → d ≤ j → j < i → has_free_bit image (slice_index blocks j) ≡ true
  pub freed_headers : (q : ℕ) → extension_count d < q → q ≤ r → has_free_bit image (slice_index (file ∷ extensions) q) ≡ true
  pub untouched : (c k : ℕ) → k < 512 → ((p : ℕ) → p < pages_of old → c ≢ page_block old p) → ¬ AtEnds format file blocks extensions d c k → byte_at image c k ≡ byte_at old c k
  pub free_stays : (c : ℕ) → IsInside (block_count old) c → has_free_bit old c ≡ true → has_free_bit image c ≡ true
  pub no_first : d ≡ 0 → long image file 4 ≡ 0
  pub first : 0 < d → long image file 4 ≡ long old file 4

-- the result of a cut
pub record IsCut (old : List ℕ) (file size : ℕ) (new : List ℕ) : Type 0 where
  pub writable : WritableFile new file
  pub same_format : format_of new ≡ format_of old
  pub bytes : contents new file ≡ take size (contents old file)
  pub count : free_bit_count new + block_cost (format_of old) size ≡ free_bit_count old + block_cost (format_of old) (length (contents old file))
  pub leaves : LeavesOthers old file new
  pub blocks_are : data_blocks new file ≡ take (data_count (format_of old) size) (data_blocks old file)
  pub extensions_are : extension_blocks new file ≡ take (extension_count (data_count (format_of old) size)) (extension_blocks old file)
  pub freed_data : (j : ℕ) → data_count (format_of old) size ≤ j → j < length (data_blocks old file) → has_free_bit new (slice_index (data_blocks old file) j) ≡ true
  pub freed_extensions : (q : ℕ) → extension_count (data_count (format_of old) size) ≤ q → q < length (extension_blocks old file) → has_free_bit new (slice_index (extension_blocks old file) q) ≡ true
  pub keeps : KeepsUnnamed old file (data_blocks old file) (extension_blocks old file) new (data_blocks new file) (extension_blocks new file)
  pub free_stays : (c : ℕ) → IsInside (block_count old) c → has_free_bit old c ≡ true → has_free_bit new c ≡ true
  pub header : CutsHeader old file new
  pub data_stays : (i k : ℕ) → i < data_count (format_of old) size → k < 512 → (format_of old ≡ Ofs → 24 ≤ k) → byte_at new (slice_index (data_blocks old file) i) k ≡ byte_at old (slice_index (data_blocks old file) i) k

-- a file cut to fewer bytes, in d data blocks
pub record IsCuttable (old : List ℕ) (file size d : ℕ) : Type 0 where
  pub writable : WritableFile old file
  pub size_ok : IsSize (block_count old)
  pub shorter : size < length (contents old file)
  pub count : d ≡ data_count (format_of old) size

module _ {old : List ℕ} {file size d : ℕ} (w : IsCuttable old file size d) where
  abbrev blocks : List ℕ
  blocks = data_blocks old file

  abbrev extensions : List ℕ
  extensions = extension_blocks old file

  abbrev format : Format
  format = format_of old

  pub few : d ≤ length blocks
  few = omega (arith, w.count, w.writable.lawful.data_fits, fewer_blocks (format_of old) size (length (contents old file)) (omega (arith, w.shorter)))

  pub some : 0 < length blocks
  some = omega (arith, w.writable.lawful.data_fits, some_blocks (format_of old) (length (contents old file)) (omega (arith, w.shorter)))

  pub fewer : extension_count d ≤ length extensions
  fewer = omega (arith, few, w.writable.lawful.extensions_fit)

  pub rows : (j : ℕ) → j < length blocks → j / 72 ≤ length extensions
  rows = holder_of old file

  s0 : Standing old format file blocks extensions (length (contents old file))
  s0 = standing_of old file blocks extensions (contents old file) w.size_ok w.writable

  -- ---- the steps

  module _ {i r holder next : ℕ} {image : List ℕ} (c : Cutting blocks extensions format file d size i r holder next old image) (behind : d ≤ i) (further : extension_count d ≤ r) where
    dl : length (take d blocks) ≡ d
    dl = length-take-le d blocks few

    el : length (take (extension_count d) extensions) ≡ extension_count d
    el = length-take-le (extension_count d) extensions fewer

    inside_of : (b : ℕ) → IsInside (block_count old) b → IsInside (block_count image) b
    inside_of b h = subst (λ (n : ℕ). IsInside n b) (sym c.same_blocks) h

    -- not a bitmap block
    no_page : (b : ℕ) → ((p : ℕ) → p < pages_of old → b ≢ page_block old p) → (p : ℕ) → p < pages_of image → b ≢ page_block image p
    no_page b h p l e = let m : p < pages_of old = omega (arith, l, c.same_blocks) in h p m (e ∙ c.leaves.pages p m)

    -- a remaining data block
    kept_data : (j : ℕ) → j < d → (p : ℕ) → p < pages_of image → slice_index blocks j ≢ page_block image p
    kept_data j l p m e = (c.stands.data_used j (omega (arith, l, dl))).beside_pages p m (get_or-take d blocks j 0 l ∙ e)

    pub holder_in : r ≤ length extensions → holder < block_count image
    holder_in l = omega (arith, c.holder_is, c.same_blocks, w.writable.lawful.places.headers_inside r l)

    -- the next extension block is freed and becomes the current one
    pub next_header : next ≡ slice_index (file ∷ extensions) (suc r)
    next_header = c.next_is

    module _ {new : List ℕ} (bound : i ≤ length blocks) (more : r < length extensions) (m : BitChanged image next true new) (pages : LawfulPages new) where
      used : IsInUse image next
      used = subst (IsInUse image) (sym next_header) (c.headers_used (suc r) (omega arith) (omega arith))

      inside : IsInside (block_count image) next
      inside = subst (IsInside (block_count image)) (sym next_header) (inside_of (slice_index (file ∷ extensions) (suc r)) (w.writable.lawful.places.headers_inside (suc r) (omega arith)))

      pub entered : Cutting blocks extensions format file d size i (suc r) next (long image next NEXT_EXTENSION) old new
      entered = record {
        stands = stands_given image next new m pages c.stands.size_ok c.stands.map inside used format file (take d blocks) (take (extension_count d) extensions) size c.stands
            (λ q l e. w.writable.lawful.places.headers_once q (suc r) (omega (arith, l, el, further)) (omega arith) (sym (head_taken file extensions (extension_count d) q (omega (arith, l, el))) ∙ e ∙ next_header))
            (λ j l e. w.writable.lawful.places.apart (suc r) j (omega arith) (omega (arith, l, dl, few)) (sym next_header ∙ sym e ∙ get_or-take d blocks j 0 (omega (arith, l, dl))));
        same_blocks = given_count image next new m pages c.stands.size_ok c.stands.map inside used ∙ c.same_blocks;
        holder_is = next_header;
        next_is = ap (λ (b : ℕ). long image b NEXT_EXTENSION) next_header ∙ c.links (suc r) (omega arith) (omega arith);
        beside_pages = λ q p l k e. let n : p < pages_of image = omega (arith, k, given_count image next new m pages c.stands.size_ok c.stands.map inside used) in
            c.beside_pages q p l n (e ∙ given_page image next new m pages c.stands.size_ok c.stands.map inside used p n);
        pointers = λ j l k. given_long image next new m pages c.stands.size_ok c.stands.map inside used (slice_index (file ∷ extensions) (j / 72)) (λ p n. c.beside_pages (j / 72) p (rows j k) n) (FIRST_POINTER - j % 72) (omega arith) ∙ c.pointers j l k;
        links = λ q l k. given_long image next new m pages c.stands.size_ok c.stands.map inside used (slice_index (file ∷ extensions) q) (λ p n. c.beside_pages q p k n) NEXT_EXTENSION (omega arith) ∙ c.links q (omega arith) k;
        data_used = λ j l k. given_use image next new m pages c.stands.size_ok c.stands.map inside used (slice_index blocks j) (inside_of (slice_index blocks j) (w.writable.lawful.places.data_inside j k)) (c.data_used j l k) (λ e. w.writable.lawful.places.apart (suc r) j (omega arith) k (sym next_header ∙ sym e));
        headers_used = λ q l k. given_use image next new m pages c.stands.size_ok c.stands.map inside used (slice_index (file ∷ extensions) q) (inside_of (slice_index (file ∷ extensions) q) (w.writable.lawful.places.headers_inside q k)) (c.headers_used q (omega arith) k) (λ e. w.writable.lawful.places.headers_once (suc r) q (omega arith) k (sym (e ∙ next_header)));
        bytes = λ j k l n o. untouched_given image next new m pages c.stands.size_ok c.stands.map inside used (slice_index blocks j) (kept_data j l) k n ∙ c.bytes j k l n o;
        count = given_total image next new m pages c.stands.size_ok c.stands.map inside used ∙ omega (arith, c.count, further);
        leaves = leaves_both old image new file blocks extensions blocks extensions c.leaves (leaves_given image next new m pages c.stands.size_ok c.stands.map inside used file blocks extensions (λ p n. c.beside_pages 0 p (omega arith) n) (λ x o e. o.beside_headers (suc r) (omega arith) (e ∙ next_header))) (λ x o. (o.beside_headers, o.beside_data));
        freed_data = λ j l k. m.others (slice_index blocks j) (bit_of_inside image (slice_index blocks j) (inside_of (slice_index blocks j) (w.writable.lawful.places.data_inside j (omega arith)))) (λ e. w.writable.lawful.places.apart (suc r) j (omega arith) (omega arith) (sym next_header ∙ sym e)) ∙ c.freed_data j l k;
        freed_headers = λ q l k. elim (cases_lt q (suc r)) [
          | inl n ↦ m.others (slice_index (file ∷ extensions) q) (bit_of_inside image (slice_index (file ∷ extensions) q) (inside_of (slice_index (file ∷ extensions) q) (w.writable.lawful.places.headers_inside q (omega arith)))) (λ e. w.writable.lawful.places.headers_once q (suc r) n (omega arith) (e ∙ next_header)) ∙ c.freed_headers q l (omega arith)
          | inr n ↦ let here : q ≡ suc r = omega arith in ap (λ (x : ℕ). has_free_bit new (slice_index (file ∷ extensions) x)) here ∙ ap (has_free_bit new) (sym next_header) ∙ m.bit
        ];
        untouched = λ x k l n o. untouched_given image next new m pages c.stands.size_ok c.stands.map inside used x (no_page x n) k l ∙ c.untouched x k l n o;
        free_stays = λ x o f. elim (cases_eq x next) [
          | inl e ↦ ap (has_free_bit new) e ∙ m.bit
          | inr n ↦ m.others x (bit_of_inside image x (inside_of x o)) n ∙ c.free_stays x o f
        ];
        no_first = λ z. given_long image next new m pages c.stands.size_ok c.stands.map inside used file (λ p n. c.beside_pages 0 p (omega arith) n) 4 (omega arith) ∙ c.no_first z;
        first = λ l. given_long image next new m pages c.stands.size_ok c.stands.map inside used file (λ p n. c.beside_pages 0 p (omega arith) n) 4 (omega arith) ∙ c.first l;
      }

    pub block_inside : {b : ℕ} → i < length blocks → i / 72 ≡ r → b ≡ long image holder (FIRST_POINTER - i % 72) → IsInside (block_count image) b
    block_inside {b} more row b_is =
        let is : b ≡ slice_index blocks i = b_is ∙ ap (λ (h : ℕ). long image h (FIRST_POINTER - i % 72)) (c.holder_is ∙ ap (slice_index (file ∷ extensions)) (sym row)) ∙ c.pointers i (omega arith) more in
        subst (IsInside (block_count image)) (sym is) (inside_of (slice_index blocks i) (w.writable.lawful.places.data_inside i more))

    -- the next data block is freed
    module _ {new : List ℕ} {b : ℕ} (more : i < length blocks) (row : i / 72 ≡ r) (within : r ≤ length extensions) (b_is : b ≡ long image holder (FIRST_POINTER - i % 72)) (m : BitChanged image b true new) (pages : LawfulPages new) where
      block_is : b ≡ slice_index blocks i
      block_is = b_is ∙ ap (λ (h : ℕ). long image h (FIRST_POINTER - i % 72)) (c.holder_is ∙ ap (slice_index (file ∷ extensions)) (sym row)) ∙ c.pointers i (omega arith) more

      data_in_use : IsInUse image b
      data_in_use = subst (IsInUse image) (sym block_is) (c.data_used i (omega arith) more)

      data_inside : IsInside (block_count image) b
      data_inside = subst (IsInside (block_count image)) (sym block_is) (inside_of (slice_index blocks i) (w.writable.lawful.places.data_inside i more))

      pub dropped : Cutting blocks extensions format file d size (i + 1) r holder next old new
      dropped = record {
        stands = stands_given image b new m pages c.stands.size_ok c.stands.map data_inside data_in_use format file (take d blocks) (take (extension_count d) extensions) size c.stands
            (λ q l e. w.writable.lawful.places.apart q i (omega (arith, l, el, fewer)) more (sym (head_taken file extensions (extension_count d) q (omega (arith, l, el))) ∙ e ∙ block_is))
            (λ j l e. w.writable.lawful.places.data_once j i (omega (arith, l, dl, behind)) more (sym (get_or-take d blocks j 0 (omega (arith, l, dl))) ∙ e ∙ block_is));
        same_blocks = given_count image b new m pages c.stands.size_ok c.stands.map data_inside data_in_use ∙ c.same_blocks;
        holder_is = c.holder_is;
        next_is = c.next_is;
        beside_pages = λ q p l k e. let n : p < pages_of image = omega (arith, k, given_count image b new m pages c.stands.size_ok c.stands.map data_inside data_in_use) in
            c.beside_pages q p l n (e ∙ given_page image b new m pages c.stands.size_ok c.stands.map data_inside data_in_use p n);
        pointers = λ j l k. given_long image b new m pages c.stands.size_ok c.stands.map data_inside data_in_use (slice_index (file ∷ extensions) (j / 72)) (λ p n. c.beside_pages (j / 72) p (rows j k) n) (FIRST_POINTER - j % 72) (omega arith) ∙ c.pointers j (omega arith) k;
        links = λ q l k. given_long image b new m pages c.stands.size_ok c.stands.map data_inside data_in_use (slice_index (file ∷ extensions) q) (λ p n. c.beside_pages q p k n) NEXT_EXTENSION (omega arith) ∙ c.links q l k;
        data_used = λ j l k. given_use image b new m pages c.stands.size_ok c.stands.map data_inside data_in_use (slice_index blocks j) (inside_of (slice_index blocks j) (w.writable.lawful.places.data_inside j k)) (c.data_used j (omega arith) k) (λ e. w.writable.lawful.places.data_once i j (omega arith) k (sym (e ∙ block_is)));
        headers_used = λ q l k. given_use image b new m pages c.stands.size_ok c.stands.map data_inside data_in_use (slice_index (file ∷ extensions) q) (inside_of (slice_index (file ∷ extensions) q) (w.writable.lawful.places.headers_inside q k)) (c.headers_used q l k) (λ e. w.writable.lawful.places.apart q i k more (e ∙ block_is));
        bytes = λ j k l n o. untouched_given image b new m pages c.stands.size_ok c.stands.map data_inside data_in_use (slice_index blocks j) (kept_data j l) k n ∙ c.bytes j k l n o;
        count = given_total image b new m pages c.stands.size_ok c.stands.map data_inside data_in_use ∙ omega (arith, c.count, behind);
        leaves = leaves_both old image new file blocks extensions blocks extensions c.leaves (leaves_given image b new m pages c.stands.size_ok c.stands.map data_inside data_in_use file blocks extensions (λ p n. c.beside_pages 0 p (omega arith) n) (λ x o e. o.beside_data i more (e ∙ block_is))) (λ x o. (o.beside_headers, o.beside_data));
        freed_data = λ j l k. elim (cases_lt j i) [
          | inl n ↦ m.others (slice_index blocks j) (bit_of_inside image (slice_index blocks j) (inside_of (slice_index blocks j) (w.writable.lawful.places.data_inside j (omega arith)))) (λ e. w.writable.lawful.places.data_once j i n more (e ∙ block_is)) ∙ c.freed_data j l n
          | inr n ↦ let here : j ≡ i = omega arith in ap (λ (x : ℕ). has_free_bit new (slice_index blocks x)) here ∙ ap (has_free_bit new) (sym block_is) ∙ m.bit
        ];
        freed_headers = λ q l k. m.others (slice_index (file ∷ extensions) q) (bit_of_inside image (slice_index (file ∷ extensions) q) (inside_of (slice_index (file ∷ extensions) q) (w.writable.lawful.places.headers_inside q (omega arith)))) (λ e. w.writable.lawful.places.apart q i (omega arith) more (e ∙ block_is)) ∙ c.freed_headers q l k;
        untouched = λ x k l n o. untouched_given image b new m pages c.stands.size_ok c.stands.map data_inside data_in_use x (no_page x n) k l ∙ c.untouched x k l n o;
        free_stays = λ x o f. elim (cases_eq x b) [
          | inl e ↦ ap (has_free_bit new) e ∙ m.bit
          | inr n ↦ m.others x (bit_of_inside image x (inside_of x o)) n ∙ c.free_stays x o f
        ];
        no_first = λ z. given_long image b new m pages c.stands.size_ok c.stands.map data_inside data_in_use file (λ p n. c.beside_pages 0 p (omega arith) n) 4 (omega arith) ∙ c.no_first z;
        first = λ l. given_long image b new m pages c.stands.size_ok c.stands.map data_inside data_in_use file (λ p n. c.beside_pages 0 p (omega arith) n) 4 (omega arith) ∙ c.first l;
      }

  -- the pointer block of the next pointer is the current one
  pub entered_row : {i holder next holder' next' : ℕ} {image new : List ℕ} → Cutting blocks extensions format file d size i ((i - 1) / 72) holder next old image → d ≤ i → i < length blocks →
      IsEntered image holder next i holder' next' new → Cutting blocks extensions format file d size i (i / 72) holder' next' old new
  entered_row {i} {holder} {next} {holder'} {next'} {image} {new} c behind more e = elim (cases_eq i 0) [
    | inl z ↦ kept (inl z) (omega (arith, z))
    | inr n ↦ elim (cases_eq (i % 72) 0) [
      | inr m ↦ kept (inr m) (omega (arith, m))
      | inl z ↦
          let all = e.entered (omega (arith, n)) z in
          let row : suc ((i - 1) / 72) ≡ i / 72 = omega (arith, n, z) in
          let step = entered c behind (omega (arith, behind, n)) (omega arith) (omega (arith, row, rows i more)) all.2 all.3 in
          subst (λ (r : ℕ). Cutting blocks extensions format file d size i r holder' next' old new) row
          (subst (λ (h : ℕ). Cutting blocks extensions format file d size i (suc ((i - 1) / 72)) h next' old new) (sym all.0)
          (subst (λ (h : ℕ). Cutting blocks extensions format file d size i (suc ((i - 1) / 72)) next h old new) (sym all.1) step))
    ]
  ]
    where
      kept : (i ≡ 0) ⊎ (i % 72 ≢ 0) → (i - 1) / 72 ≡ i / 72 → Cutting blocks extensions format file d size i (i / 72) holder' next' old new
      kept side row =
          let all = e.kept side in
          subst (λ (r : ℕ). Cutting blocks extensions format file d size i r holder' next' old new) row
          (subst (λ (h : ℕ). Cutting blocks extensions format file d size i ((i - 1) / 72) h next' old new) (sym all.1)
          (subst (λ (h : ℕ). Cutting blocks extensions format file d size i ((i - 1) / 72) holder h old new) (sym all.2)
          (subst (λ (m : List ℕ). Cutting blocks extensions format file d size i ((i - 1) / 72) holder next old m) (sym all.0) c)))

  -- ---- the start and the end

  module _ {holder last next : ℕ} (holder_here : holder ≡ pointer_block old file (extension_count d)) (last_here : last ≡ long old holder (FIRST_POINTER - (d - 1) % 72)) (next_here : next ≡ long old holder NEXT_EXTENSION) where
    pub holder_header : holder ≡ slice_index (file ∷ extensions) (extension_count d)
    holder_header = holder_here ∙ header_is old file (extension_count d) fewer

    pub holder_is_inside : holder < block_count old
    holder_is_inside = omega (arith, holder_header, w.writable.lawful.places.headers_inside (extension_count d) fewer)

    pub last_data : last ≡ slice_index blocks (d - 1)
    last_data =
        let row : extension_count d ≡ (d - 1) / 72 = omega arith in
        last_here ∙ ap (λ (b : ℕ). long old b (FIRST_POINTER - (d - 1) % 72)) (holder_here ∙ ap (pointer_block old file) row) ∙ data_is old file (d - 1) (omega (arith, few, some))

    pub last_inside : last < block_count old
    last_inside = omega (arith, last_data, w.writable.lawful.places.data_inside (d - 1) (omega (arith, few, some)))

    pub last_apart : (last ≢ holder) × (last ≢ file)
    last_apart = (
      (λ z. w.writable.lawful.places.apart (extension_count d) (d - 1) fewer (omega (arith, few, some)) (sym holder_header ∙ sym z ∙ last_data)),
      (λ z. w.writable.lawful.places.apart 0 (d - 1) (omega arith) (omega (arith, few, some)) (sym z ∙ last_data)),
    )

    module _ {new : List ℕ} (y : IsResized old (format_of old) file holder last d size new) where
      y' : IsResized old (format_of old) file (slice_index (file ∷ extensions) (extension_count d)) (slice_index blocks (d - 1)) d size new
      y' = subst (λ (h : ℕ). IsResized old (format_of old) file h (slice_index blocks (d - 1)) d size new) holder_header (subst (λ (c : ℕ). IsResized old (format_of old) file holder c d size new) last_data y)

      owned : Owned (Resized old new format file blocks extensions (length (contents old file)) d (extension_count d) size s0 y' few fewer) old new
      owned = resized_owned old new format file blocks extensions (length (contents old file)) d (extension_count d) size s0 y' few fewer

      same : block_count new ≡ block_count old
      same = blocks_stay owned

      pub cutting_begun : Cutting blocks extensions (format_of old) file d size d ((d - 1) / 72) holder next old new
      cutting_begun =
          let row : extension_count d ≡ (d - 1) / 72 = omega arith in
          subst (λ (r : ℕ). Cutting blocks extensions (format_of old) file d size d r holder next old new) row (record {
            stands = stands_resized old new format file blocks extensions (length (contents old file)) d (extension_count d) size s0 y' few fewer refl (λ t. (ofs_count format d size w.count t).0) (λ t. omega (arith, (ofs_count format d size w.count t).1, w.shorter));
            same_blocks = same;
            holder_is = holder_header;
            next_is = next_here ∙ ap (λ (b : ℕ). long old b NEXT_EXTENSION) holder_header ∙ link_of old file blocks extensions (contents old file) w.writable.lawful.holds (extension_count d) fewer;
            beside_pages = λ q p l k e. let n : p < pages_of old = omega (arith, k, same) in
                (w.writable.headers_used q l).beside_pages p n (e ∙ pages_stay owned p n);
            pointers = λ j l k. pointer_kept j l k ∙ w.writable.lawful.holds.pointers j k;
            links = λ q l k. later_long old new format file blocks extensions (length (contents old file)) d (extension_count d) size s0 y' few fewer q NEXT_EXTENSION (omega arith) l k ∙ link_of old file blocks extensions (contents old file) w.writable.lawful.holds q k;
            data_used = λ j l k. use_stays owned (slice_index blocks j) (w.writable.lawful.places.data_inside j k) (w.writable.data_used j k);
            headers_used = λ q l k. use_stays owned (slice_index (file ∷ extensions) q) (w.writable.lawful.places.headers_inside q k) (w.writable.headers_used q k);
            bytes = resized_byte old new format file blocks extensions (length (contents old file)) d (extension_count d) size s0 y' few fewer;
            count = count_stays owned ∙ omega arith;
            leaves = leaves_resized old new format file blocks extensions (length (contents old file)) d (extension_count d) size s0 y' few fewer;
            freed_data = λ j l k. absurd (omega arith);
            freed_headers = λ q l k. absurd (omega arith);
            untouched = λ x k l n o. y'.rest.same_byte x k l o;
            free_stays = λ x o f. marks_stay owned x (bit_of_inside old x o) ∙ f;
            no_first = y'.no_first;
            first = y'.first;
          })
        where
          pointer_kept : (j : ℕ) → d ≤ j → j < length blocks → long new (slice_index (file ∷ extensions) (j / 72)) (FIRST_POINTER - j % 72) ≡ long old (slice_index (file ∷ extensions) (j / 72)) (FIRST_POINTER - j % 72)
          pointer_kept j l k = elim (cases_lt (extension_count d) (j / 72)) [
            | inl m ↦ later_long old new format file blocks extensions (length (contents old file)) d (extension_count d) size s0 y' few fewer (j / 72) (FIRST_POINTER - j % 72) (omega arith) m (rows j k)
            | inr m ↦ resized_long old new format file blocks extensions (length (contents old file)) d (extension_count d) size s0 y' few fewer (j / 72) (FIRST_POINTER - j % 72) (omega arith) m (λ z. (omega arith, omega arith)) (omega arith) (omega arith) (omega arith)
          ]

  -- all blocks are freed
  pub is_cut : {r holder next : ℕ} {new : List ℕ} → r ≡ (length blocks - 1) / 72 → Cutting blocks extensions (format_of old) file d size (length blocks) r holder next old new → IsCut old file size new
  is_cut {new = new} row c =
      let dl : length (take d blocks) ≡ d = length-take-le d blocks few in
      let el : length (take (extension_count d) extensions) ≡ extension_count d = length-take-le (extension_count d) extensions fewer in
      let bl : length (take size (contents old file)) ≡ size = length-take-le size (contents old file) (omega (arith, w.shorter)) in
      let written = writable_of new (format_of old) file (take d blocks) (take (extension_count d) extensions) (take size (contents old file))
      (subst (Standing new (format_of old) file (take d blocks) (take (extension_count d) extensions)) (sym bl) c.stands)
      (dl ∙ w.count ∙ ap (data_count (format_of old)) (sym bl)) (el ∙ ap extension_count (sym dl))
      (λ k l.
      let small : k < size = omega (arith, l, bl) in
      let place : k / data_size (format_of old) < d = omega (arith, w.count, in_count (format_of old) k size small) in
      get_or-take size (contents old file) k 0 small
      ∙ w.writable.lawful.holds.contents k (omega (arith, small, w.shorter))
      ∙ sym (c.bytes (k / data_size (format_of old)) (data_start (format_of old) + k % data_size (format_of old)) place (in_block (format_of old) k) (behind_start (format_of old) k))
      ∙ ap (λ (b : ℕ). byte_at new b (data_start (format_of old) + k % data_size (format_of old))) (sym (get_or-take d blocks (k / data_size (format_of old)) 0 place))) in
      record {
        writable = writable_file new file (take d blocks) (take (extension_count d) extensions) (take size (contents old file)) written;
        same_format = c.stands.format_is;
        bytes = contents_are new file (take d blocks) (take (extension_count d) extensions) (take size (contents old file)) written.lawful;
        count = omega (arith, c.count, row, few, w.writable.lawful.extensions_fit, ap extension_count w.writable.lawful.data_fits, ap extension_count w.count, fewer, w.writable.lawful.data_fits, w.count, some);
        leaves = c.leaves;
        blocks_are = data_blocks_are new file (take d blocks) (take (extension_count d) extensions) (take size (contents old file)) written.lawful ∙ ap (λ (n : ℕ). take n blocks) w.count;
        extensions_are = extension_blocks_are new file (take d blocks) (take (extension_count d) extensions) (take size (contents old file)) written.lawful ∙ ap (λ (n : ℕ). take (extension_count n) extensions) w.count;
        freed_data = λ j l k. c.freed_data j (omega (arith, l, w.count)) k;
        freed_extensions = λ q l k. c.freed_headers (suc q) (omega (arith, l, ap extension_count w.count)) (omega (arith, k, row, w.writable.lawful.extensions_fit, some));
        keeps =
            subst (λ (xs : List ℕ). KeepsUnnamed old file blocks extensions new xs (extension_blocks new file)) (sym (data_blocks_are new file (take d blocks) (take (extension_count d) extensions) (take size (contents old file)) written.lawful))
            (subst (λ (xs : List ℕ). KeepsUnnamed old file blocks extensions new (take d blocks) xs) (sym (extension_blocks_are new file (take d blocks) (take (extension_count d) extensions) (take size (contents old file)) written.lawful))
            (keeps_cut file blocks extensions d old new w.writable.lawful.places some few fewer c.untouched (λ q p l m. (w.writable.headers_used q l).beside_pages p m) (λ i p l m. (w.writable.data_used i l).beside_pages p m) c.no_first c.first));
        free_stays = c.free_stays;
        header = λ k l n. c.untouched file k l (λ p m. (w.writable.headers_used 0 (omega arith)).beside_pages p m) (header_uncut file blocks extensions d old w.writable.lawful.places some few k n);
        data_stays = λ i k l m n. c.bytes i k (omega (arith, l, w.count)) m n;
      }
