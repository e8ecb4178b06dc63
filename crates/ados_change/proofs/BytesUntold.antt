-- A rewritten file leaves untouched what no tree determines.
use Rattle.ados_change.proofs.Common.{◌≡◌, ◌≢◌, ℕ, ◌+◌, ◌*◌, ◌/◌, ◌%◌, ◌^◌, ◌<◌, inl, inr, List, sym, ap, ◌∙◌, arith, cases_eq, IsImage, byte_at, long, block_sum, total, byte_at-below, long-below, long-bytes, total-one, zero, suc, ◌-◌, ◌≤◌, length, slice_index, Some, option_map, refl, ap₂, subst, cases_lt, ext_get_or, Format, Ofs, Ffs, file_size, format_of, long-same, data_size, data_start, data_count, extension_count, Node, Tree, content_at, HasFile, HasOfsData, Layout, Stands, file_byte, IsLawful, data_blocks, KeepsUnnamed, data_end, next_of, data_blocks_are, extension_blocks_are, File, HasFileKey, AgreeInFront, HasFileBytes, IsBehindEnd, KeepsData, KeepsFileEnd, KeepsUntold, ne_eqb}
use Rattle.ados_change.proofs.Writable.{data_is, extensions_is, is_lawful}
use Rattle.ados_change.proofs.FilesStay.{end_of_data, file_of_key}
use Rattle.ados_change.proofs.Contents.{refilled, here, there}
use Rattle.ados_change.proofs.Relaid.{ComesFrom, IsRewritten}
use Rattle.ados_change.proofs.Refilled.{data_stays, layout_after, stands_after}

-- ---- a block with a right checksum before and after has the same bytes if its other longs are the same

-- two right sums that differ in one long only do not differ
same_rest : (t u x y : ℕ) → u + x ≡ t + y → t % 2 ^ 32 ≡ 0 → u % 2 ^ 32 ≡ 0 → x < 2 ^ 32 → y < 2 ^ 32 → y ≡ x
same_rest t u x y e f g l m = omega (arith, e, f, g, l, m)

-- the long of four bytes
abbrev four : ℕ → ℕ → ℕ → ℕ → ℕ
four a b c d = a * 256 ^ 3 + (b * 256 ^ 2 + (c * 256 ^ 1 + (d * 256 ^ 0 + 0)))

same_four : (a b c d a' b' c' d' : ℕ) → a < 256 → b < 256 → c < 256 → d < 256 → a' < 256 → b' < 256 → c' < 256 → d' < 256 → four a b c d ≡ four a' b' c' d' → (a ≡ a') × (b ≡ b') × (c ≡ c') × (d ≡ d')
same_four a b c d a' b' c' d' la lb lc ld la' lb' lc' ld' e =
    let x : a ≡ a' = omega (arith, e, la, lb, lc, ld, la', lb', lc', ld') in
    let y : b ≡ b' = omega (arith, e, x, lb, lc, ld, lb', lc', ld') in
    let z : c ≡ c' = omega (arith, e, x, y, lc, ld, lc', ld') in
    (x, y, z, omega (arith, e, x, y, z))

-- equal longs of images have equal bytes
module _ (old new : List ℕ) (was : IsImage old) (is : IsImage new) (b : ℕ) where
  pub byte_of_long : (k : ℕ) → long new b (k / 4) ≡ long old b (k / 4) → byte_at new b k ≡ byte_at old b k
  byte_of_long k longs =
      let now : (i : ℕ) → byte_at new b i < 256 = λ i. byte_at-below new b i is in
      let then : (i : ℕ) → byte_at old b i < 256 = λ i. byte_at-below old b i was in
      let all =
      same_four (byte_at new b (4 * (k / 4) + 0)) (byte_at new b (4 * (k / 4) + 1)) (byte_at new b (4 * (k / 4) + 2)) (byte_at new b (4 * (k / 4) + 3))
      (byte_at old b (4 * (k / 4) + 0)) (byte_at old b (4 * (k / 4) + 1)) (byte_at old b (4 * (k / 4) + 2)) (byte_at old b (4 * (k / 4) + 3))
      (now _) (now _) (now _) (now _) (then _) (then _) (then _) (then _)
      (sym (long-bytes new b (k / 4)) ∙ longs ∙ long-bytes old b (k / 4)) in
      let at : (r : ℕ) → k % 4 ≡ r → byte_at new b (4 * (k / 4) + r) ≡ byte_at old b (4 * (k / 4) + r) → byte_at new b k ≡ byte_at old b k =
      λ r e same. let here : k ≡ 4 * (k / 4) + r = omega (arith, e) in ap (byte_at new b) here ∙ same ∙ ap (byte_at old b) (sym here) in
      elim (cases_eq (k % 4) 0) [
        | inl e ↦ at 0 e all.0
        | inr n ↦ elim (cases_eq (k % 4) 1) [
          | inl e ↦ at 1 e all.1
          | inr o ↦ elim (cases_eq (k % 4) 2) [
            | inl e ↦ at 2 e all.2
            | inr p ↦ at 3 (omega (arith, n, o, p)) all.3
          ]
        ]
      ]

module _ (old new : List ℕ) (was : IsImage old) (is : IsImage new) (b c : ℕ) (low : c < 128) (settled : block_sum old b ≡ 0) (still : block_sum new b ≡ 0)
    (others : (j : ℕ) → j < 128 → j ≢ c → long new b j ≡ long old b j) where
  sum_same : long new b c ≡ long old b c
  unfolding block_sum
  sum_same =
      let one = total-one (long old b) (long new b) c 128 low others in
      same_rest (total (long old b) 128) (total (long new b) 128) (long old b c) (long new b c) one settled still (long-below old b c was) (long-below new b c is)

  long_same : (j : ℕ) → j < 128 → long new b j ≡ long old b j
  long_same j l = elim (cases_eq j c) [ inl e ↦ ap (long new b) e ∙ sum_same ∙ ap (long old b) (sym e) | inr n ↦ others j l n ]

  pub bytes_same : (k : ℕ) → k < 512 → byte_at new b k ≡ byte_at old b k
  bytes_same k l = byte_of_long old new was is b k (long_same (k / 4) (omega (arith, l)))

-- a byte of the file's block that is after the file's bytes is after their end in that block
end_here : (f : Format) (a q i : ℕ) → q < data_count f a → a + data_start f ≤ data_size f * q + i → data_end f a q ≤ i
end_here Ofs a q i l x = omega (arith, l, x)
end_here Ffs a q i l x = omega (arith, l, x)

-- lists of equal length that agree at each common position are equal
agreed : (xs ys : List ℕ) → AgreeInFront xs ys → length ys ≡ length xs → ys ≡ xs
agreed xs ys h e = ext_get_or 0 ys xs e (λ q l. h q (omega (arith, l, e)) l)

-- a list that comes from another agrees with it
front_agrees : (old xs ys : List ℕ) → ((q : ℕ) → q < length ys → ComesFrom old xs ys q) → AgreeInFront xs ys
front_agrees old xs ys h q l m = elim (h q m) [ inl was ↦ was.1 | inr free ↦ absurd (omega (arith, l, free.0)) ]

module _ (old new : List ℕ) (t : Tree) (s : Stands old t) (file : ℕ) (node : Node) (bytes : List ℕ) (found : t.nodes file ≡ Some node) (is_file : node.content ≡ File bytes)
    (blocks' extensions' bytes' : List ℕ) (h : IsRewritten old file (s.layout.file_data file) (s.layout.extensions file) new blocks' extensions' bytes')
    (keeps : KeepsUnnamed old file (s.layout.file_data file) (s.layout.extensions file) new blocks' extensions') where
  abbrev v : Tree
  v = refilled file bytes' t

  abbrev after : Stands new v
  after = stands_after old new t s file node bytes found is_file blocks' extensions' bytes' h

  abbrev blocks : List ℕ
  blocks = s.layout.file_data file

  abbrev extensions : List ℕ
  extensions = s.layout.extensions file

  before : IsLawful old file blocks extensions bytes
  before = is_lawful old t s file node bytes found is_file

  -- ---- the lists of the file in the images

  old_blocks : data_blocks old file ≡ blocks
  old_blocks = data_is old t s file node bytes found is_file

  new_blocks : data_blocks new file ≡ blocks'
  new_blocks = data_blocks_are new file blocks' extensions' bytes' h.writable.lawful

  blocks_front : AgreeInFront (data_blocks old file) (data_blocks new file)
  blocks_front = rw (old_blocks, new_blocks) (front_agrees old blocks blocks' h.data_from)

  -- ---- after the file's end

  behind_end : (q i : ℕ) → q < length blocks' → IsBehindEnd new file q i → data_end (format_of old) (file_size new file) q ≤ i
  behind_end q i m y =
      let place : q < data_count (format_of old) (file_size new file) = omega (arith, m, h.writable.lawful.data_fits ∙ ap₂ data_count h.format (sym h.writable.lawful.holds.size)) in
      end_here (format_of old) (file_size new file) q i place (subst (λ (f : Format). file_size new file + data_start f ≤ data_size f * q + i) h.format y.behind)

  pub file_end : KeepsFileEnd old new file
  file_end = record {
    blocks = blocks_front;
    extensions = rw (extensions_is old t s file node bytes found is_file, extension_blocks_are new file blocks' extensions' bytes' h.writable.lawful) (front_agrees old extensions extensions' h.extensions_from);
    stays = λ q i x y.
        let l : q < length blocks = subst (λ (xs : List ℕ). q < length xs) old_blocks x in
        let m : q < length blocks' = subst (λ (xs : List ℕ). q < length xs) new_blocks y.block in
        ap (λ (xs : List ℕ). byte_at new (slice_index xs q) i) new_blocks
        ∙ keeps.slack q i l m y.byte (behind_end q i m y)
        ∙ ap (λ (c : ℕ). byte_at old c i) (ap (λ (xs : List ℕ). slice_index xs q) (sym new_blocks) ∙ blocks_front q x y.block);
    zero = λ q i none y.
        let m : q < length blocks' = subst (λ (xs : List ℕ). q < length xs) new_blocks y.block in
        let over : length blocks ≤ q = elim (cases_lt q (length blocks)) [ inl l ↦ absurd (none (subst (λ (xs : List ℕ). q < length xs) (sym old_blocks) l)) | inr l ↦ l ] in
        ap (λ (xs : List ℕ). byte_at new (slice_index xs q) i) new_blocks
        ∙ keeps.new_data q i over m y.byte (behind_end q i m y);
  }

  -- ---- other files

  other_data : (f : ℕ) → f ≢ file → HasFileKey old f → KeepsData old new f
  other_data f n key =
      let a = file_of_key old t s f key in
      let at : v.nodes f ≡ Some a.node = there t file node bytes bytes' found is_file f n ∙ a.at in
      let lay = layout_after old new t s file node bytes found is_file blocks' extensions' bytes' h in
      let olds = data_is old t s f a.node a.bytes a.at a.content in
      record {
        blocks = data_is new v after f a.node a.bytes at a.content ∙ ap (λ (l : Layout). l.file_data f) lay ∙ rw (ne_eqb f file n) refl ∙ sym olds;
        extensions =
            extensions_is new v after f a.node a.bytes at a.content ∙ ap (λ (l : Layout). l.extensions f) lay ∙ rw (ne_eqb f file n) refl
            ∙ sym (extensions_is old t s f a.node a.bytes a.at a.content);
        bytes = λ q i l m.
            let within : q < length (s.layout.file_data f) = subst (λ (xs : List ℕ). q < length xs) olds l in
            let place = ap (λ (xs : List ℕ). slice_index xs q) olds in
            ap (λ (c : ℕ). byte_at new c i) place
            ∙ (data_stays old new t s file node bytes found is_file blocks' extensions' bytes' h f q n within).bytes i m (λ z. z)
            ∙ ap (λ (c : ℕ). byte_at old c i) (sym place);
      }

  -- ---- the file, if it has the same bytes as before

  module _ (same : bytes' ≡ bytes) (was : IsImage old) (is : IsImage new) where
    same_blocks : blocks' ≡ blocks
    same_blocks = agreed blocks blocks' (front_agrees old blocks blocks' h.data_from) (h.writable.lawful.data_fits ∙ ap₂ data_count h.format (ap length same) ∙ sym before.data_fits)

    same_extensions : extensions' ≡ extensions
    same_extensions =
        agreed extensions extensions' (front_agrees old extensions extensions' h.extensions_from)
        (h.writable.lawful.extensions_fit ∙ ap (λ (xs : List ℕ). extension_count (length xs)) same_blocks ∙ sym before.extensions_fit)

    same_file : HasFile new (format_of old) file blocks extensions bytes
    same_file = rw (← h.format, ← same_blocks, ← same_extensions, ← same) h.writable.lawful.holds

    file_byte_same : (f : Format) → format_of old ≡ f → (k : ℕ) → k < length bytes → file_byte f new blocks k ≡ file_byte f old blocks k
    file_byte_same f e k l = subst (λ (g : Format). file_byte g new blocks k ≡ file_byte g old blocks k) e (sym (same_file.contents k l) ∙ before.holds.contents k l)

    slack_same : (f : Format) → format_of old ≡ f → (q i : ℕ) → q < length blocks → i < 512 → data_end f (length bytes) q ≤ i → byte_at new (slice_index blocks q) i ≡ byte_at old (slice_index blocks q) i
    slack_same f e q i l m end =
        let behind : data_end (format_of old) (file_size new file) q ≤ i = subst (λ (n : ℕ). data_end (format_of old) n q ≤ i) (sym same_file.size) (subst (λ (g : Format). data_end g (length bytes) q ≤ i) (sym e) end) in
        let within : q < length blocks' = subst (λ (xs : List ℕ). q < length xs) (sym same_blocks) l in
        subst (λ (xs : List ℕ). byte_at new (slice_index xs q) i ≡ byte_at old (slice_index xs q) i) same_blocks (keeps.slack q i l within m behind)

    -- a byte after the fields of a data block
    data_same : (f : Format) → format_of old ≡ f → (q i : ℕ) → q < length blocks → i < 512 → data_start f ≤ i → byte_at new (slice_index blocks q) i ≡ byte_at old (slice_index blocks q) i
    data_same Ffs e q i l m n = elim (cases_lt (512 * q + i) (length bytes)) [
      | inl k ↦
          let quotient : (512 * q + i) / 512 ≡ q = omega (arith, m) in
          let remainder : 0 + (512 * q + i) % 512 ≡ i = omega (arith, m) in
          ap₂ (λ (a b : ℕ). byte_at new (slice_index blocks a) b) (sym quotient) (sym remainder)
          ∙ file_byte_same Ffs e (512 * q + i) k
          ∙ ap₂ (λ (a b : ℕ). byte_at old (slice_index blocks a) b) quotient remainder
      | inr k ↦ slack_same Ffs e q i l m (omega (arith, k))
    ]
    data_same Ofs e q i l m n = elim (cases_lt (488 * q + (i - 24)) (length bytes)) [
      | inl k ↦
          let quotient : (488 * q + (i - 24)) / 488 ≡ q = omega (arith, m, n) in
          let remainder : 24 + (488 * q + (i - 24)) % 488 ≡ i = omega (arith, m, n) in
          ap₂ (λ (a b : ℕ). byte_at new (slice_index blocks a) b) (sym quotient) (sym remainder)
          ∙ file_byte_same Ofs e (488 * q + (i - 24)) k
          ∙ ap₂ (λ (a b : ℕ). byte_at old (slice_index blocks a) b) quotient remainder
      | inr k ↦ slack_same Ofs e q i l m (omega (arith, k, n))
    ]

    -- the fields of an OFS data block before its checksum
    front_same : format_of old ≡ Ofs → (q : ℕ) → q < length blocks → (j : ℕ) → j < 5 → long new (slice_index blocks q) j ≡ long old (slice_index blocks q) j
    front_same e q l j m = go j m
      where
        a : HasOfsData old file (length bytes) q (slice_index blocks q)
        a = before.holds.ofs_data e q l

        b : HasOfsData new file (length bytes) q (slice_index blocks q)
        b = same_file.ofs_data e q l

        go : (j : ℕ) → j < 5 → long new (slice_index blocks q) j ≡ long old (slice_index blocks q) j
        go zero m = b.primary ∙ sym a.primary
        go (suc zero) m = b.header ∙ sym a.header
        go (suc (suc zero)) m = b.sequence ∙ sym a.sequence
        go (suc (suc (suc zero))) m = b.held ∙ sym a.held
        go (suc (suc (suc (suc zero)))) m = next_of new 4 _ blocks (same_file.ofs_chain e) q l ∙ sym (next_of old 4 _ blocks (before.holds.ofs_chain e) q l)
        go (suc (suc (suc (suc (suc j))))) m = absurd (omega (arith, m))

    block_same : (f : Format) → format_of old ≡ f → (q i : ℕ) → q < length blocks → i < 512 → byte_at new (slice_index blocks q) i ≡ byte_at old (slice_index blocks q) i
    block_same Ffs e q i l m = data_same Ffs e q i l m (omega arith)
    block_same Ofs e q i l m =
        bytes_same old new was is (slice_index blocks q) 5 (omega arith) (before.holds.ofs_data e q l).sum (same_file.ofs_data e q l).sum
        (λ j n o. elim (cases_lt j 5) [
          | inl x ↦ front_same e q l j x
          | inr x ↦ long-same old new (slice_index blocks q) j (λ k y. data_same Ofs e q k l (omega (arith, n, y)) (omega (arith, x, o, y)))
        ])
        i m

    same_data : KeepsData old new file
    same_data = record {
      blocks = new_blocks ∙ same_blocks ∙ sym old_blocks;
      extensions = extension_blocks_are new file blocks' extensions' bytes' h.writable.lawful ∙ same_extensions ∙ sym (extensions_is old t s file node bytes found is_file);
      bytes = λ q i l m.
          let place = ap (λ (xs : List ℕ). slice_index xs q) old_blocks in
          ap (λ (c : ℕ). byte_at new c i) place
          ∙ block_same (format_of old) refl q i (subst (λ (xs : List ℕ). q < length xs) old_blocks l) m
          ∙ ap (λ (c : ℕ). byte_at old c i) (sym place);
    }

  -- ---- all files

  -- two images that have the file with the same bytes
  same_content : (f : ℕ) (bs : List ℕ) → f ≡ file → HasFileBytes old f bs → HasFileBytes new f bs → bytes' ≡ bytes
  same_content f bs e was is =
      let before : content_at t file ≡ Some (File bytes) = ap (option_map (λ (a : Node). a.content)) found ∙ ap Some is_file in
      let now : content_at v file ≡ Some (File bytes') = ap (option_map (λ (a : Node). a.content)) (here t file node bytes bytes' found is_file) in
      let one : Some (File bytes') ≡ Some (File bytes) = sym now ∙ ap (content_at v) (sym e) ∙ is v after ∙ sym (was t s) ∙ ap (content_at t) e ∙ before in
      cc one

  pub untold_kept : (bytes' ≡ bytes → IsImage old × IsImage new) → KeepsUntold old new
  untold_kept images = record {
    past_end = record { pages = h.leaves.pages; bits = h.leaves.past_end };
    other_data = λ f bs was is. elim (cases_eq f file) [
      | inl e ↦
          let same = same_content f bs e was is in
          let both = images same in
          subst (KeepsData old new) (sym e) (same_data same both.0 both.1)
      | inr n ↦ other_data f n (λ u r. (bs, was u r))
    ];
    file_ends = λ f was is. elim (cases_eq f file) [
      | inl e ↦ subst (KeepsFileEnd old new) (sym e) file_end
      | inr n ↦ end_of_data old new f (other_data f n was)
    ];
  }
