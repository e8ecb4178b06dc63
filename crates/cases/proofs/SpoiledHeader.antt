-- A file whose header has another checksum can be changed as before.
use Rattle.ados_data.proofs.Common.{◌≡◌, ◌≢◌, ℕ, ◌+◌, ◌-◌, ◌/◌, ◌%◌, ◌<◌, ◌≤◌, List, ◌∷◌, length, slice_index, sym, ◌∙◌, subst, arith, FILE_SIZE, FIRST_POINTER, NEXT_EXTENSION, SECONDARY_TYPE, PARENT, Ofs, long, block_sum, block_count, IsInside, IsSize, OnlyLong, same_long, same_sum, format_of, data_size, data_start, contents, data_blocks, extension_blocks, file_byte, AreApart, HasExtension, IsInUse, WritableFile}
use Rattle.adf_block.specs.Frame.{AtLong}
use Rattle.ados_data.proofs.Untouched.{extension_kept}
use Rattle.ados_data.proofs.Sizes.{in_block, in_count}
use Rattle.ados_data.proofs.Skeleton.{IsHolder, IsData}
use Rattle.ados_data.proofs.Standing.{Standing, Owned, standing_of, writable_of, writable_file, blocks_stay, format_kept, map_stays, use_stays}

module _ (old new : List ℕ) (file : ℕ) (w : WritableFile old file) (ok : IsSize (block_count old)) (h : OnlyLong file 5 old new) where
  abbrev blocks : List ℕ
  blocks = data_blocks old file

  abbrev extensions : List ℕ
  extensions = extension_blocks old file

  abbrev size : ℕ
  size = length (contents old file)

  s : Standing old (format_of old) file blocks extensions size
  s = standing_of old file blocks extensions (contents old file) ok w

  owned : Owned (AtLong file 5) old new
  owned = record { same = h; size = ok; owner = λ c k at. (subst (IsInUse old) (sym at.0) (s.headers_used 0 (omega arith)), subst (IsInside (block_count old)) (sym at.0) (s.places.headers_inside 0 (omega arith))) }

  other : (c j : ℕ) → j < 128 → j ≢ 5 → long new c j ≡ long old c j
  other c j l ne = same_long (AtLong file 5) old new h c j l (λ k e at. ne (sym e ∙ at.1))

  other_sum : (c : ℕ) → file ≢ c → block_sum new c ≡ block_sum old c
  other_sum c ne = same_sum (AtLong file 5) old new h c (λ k l at. ne (sym at.0))

  extension : (q : ℕ) → q ≤ length extensions → 0 < q → HasExtension new file (slice_index (file ∷ extensions) q)
  extension q l m =
      let e = slice_index (file ∷ extensions) q in
      let was = (s.skeleton.holders q l).extension m in
      extension_kept old new file e (other e 0 (omega arith) (omega arith)) (other e 1 (omega arith) (omega arith)) (other e PARENT (omega arith) (omega arith)) (other e SECONDARY_TYPE (omega arith) (omega arith))
      (other_sum e (s.places.headers_once 0 q m l) ∙ was.sum) was

  holder : (q : ℕ) → q ≤ length extensions → IsHolder new file blocks extensions q
  holder q l =
      let b = slice_index (file ∷ extensions) q in
      let was = s.skeleton.holders q l in
      record {
        next = other b NEXT_EXTENSION (omega arith) (omega arith) ∙ was.next;
        count = other b 2 (omega arith) (omega arith) ∙ was.count;
        pointers = λ p m n. other b (FIRST_POINTER - p) (omega arith) (omega arith) ∙ was.pointers p m n;
        extension = extension q l;
      }

  data_of : format_of old ≡ Ofs → (i : ℕ) → i < length blocks → IsData new file blocks size i
  data_of ofs i l =
      let b = slice_index blocks i in
      let was = s.skeleton.datas ofs i l in
      record {
        next = other b 4 (omega arith) (omega arith) ∙ was.next;
        fields = record {
          primary = other b 0 (omega arith) (omega arith) ∙ was.fields.primary;
          header = other b 1 (omega arith) (omega arith) ∙ was.fields.header;
          sequence = other b 2 (omega arith) (omega arith) ∙ was.fields.sequence;
          held = other b 3 (omega arith) (omega arith) ∙ was.fields.held;
          sum = other_sum b (s.places.apart 0 i (omega arith) l) ∙ was.fields.sum;
        };
      }

  stands : Standing new (format_of old) file blocks extensions size
  stands = record {
    format_is = format_kept owned;
    size_ok = subst IsSize (sym (blocks_stay owned)) ok;
    skeleton = record {
      size_field = other file FILE_SIZE (omega arith) (omega arith) ∙ s.skeleton.size_field;
      holders = holder;
      first = λ ofs. other file 4 (omega arith) (omega arith) ∙ s.skeleton.first ofs;
      datas = data_of;
    };
    places = subst (λ (n : ℕ). AreApart n file blocks extensions) (sym (blocks_stay owned)) s.places;
    map = map_stays owned s.map;
    headers_used = λ q l. use_stays owned (slice_index (file ∷ extensions) q) (s.places.headers_inside q l) (s.headers_used q l);
    data_used = λ i l. use_stays owned (slice_index blocks i) (s.places.data_inside i l) (s.data_used i l);
  }

  -- the data are in other blocks
  held : (k : ℕ) → k < size → slice_index (contents old file) k ≡ file_byte (format_of old) new blocks k
  held k l = w.lawful.holds.contents k l ∙ sym (h.same_byte (slice_index blocks (k / data_size (format_of old))) (data_start (format_of old) + k % data_size (format_of old)) (in_block (format_of old) k) (λ at. s.places.apart 0 (k / data_size (format_of old)) (omega arith) (omega (arith, w.lawful.data_fits, in_count (format_of old) k size l)) (sym at.0)))

  pub spoiled : WritableFile new file
  spoiled = writable_file new file blocks extensions (contents old file) (writable_of new (format_of old) file blocks extensions (contents old file) stands w.lawful.data_fits w.lawful.extensions_fit held)
