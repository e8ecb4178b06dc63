-- Names in upper case, and the marked entries with these names.
use Rattle.ados_check.proofs.Common.{◌≡◌, ◌≢◌, ℕ, zero, suc, ◌+◌, ◌-◌, ◌<◌, ◌≤◌, ◌⊎◌, inl, inr, List, ◌∷◌, ◌++◌, length, take, drop, map, replicate, slice_index, Option, sym, ap, ap₂, ◌∙◌, subst, arith, cases_lt, ext_get_or, get_or_append_left, get_or-append_right, get_or-map, get_or-replicate, length-replicate, length-map, take_at, IsImage, text_at, block_count, byte_at, NAME_BYTE, byte-bytes_at, Same, upper, HasDuplicateName, Reached, Mark, AreReached, HasValidName, IsMarkedEntry, IsSound, IsSoundEntry, upper_name, Entry, length-append, secondary_type, FILE_TYPE}
use Rattle.ados_check.proofs.Texts.{length-bytes_at}
use Rattle.ados_check.proofs.MarkLemmas.{marked_within}
use Rattle.ados_check.proofs.Roles.{IsMarkedFile}

length-text : (image : List ℕ) (block : ℕ) → IsImage image → block < block_count image → byte_at image block NAME_BYTE ≤ 30 → length (map upper (text_at image block NAME_BYTE)) ≡ byte_at image block NAME_BYTE
length-text image block im l short = length-map (text_at image block NAME_BYTE) upper ∙ length-bytes_at image block (NAME_BYTE + 1) (byte_at image block NAME_BYTE) im l (omega arith)

pub length-upper_name : (image : List ℕ) (block : ℕ) → IsImage image → block < block_count image → byte_at image block NAME_BYTE ≤ 30 → length (upper_name image block) ≡ 31
unfolding upper_name
length-upper_name image block im l short =
    let text = length-text image block im l short in
    omega (arith, text, short, length-append (map upper (text_at image block NAME_BYTE)) (replicate (30 - byte_at image block NAME_BYTE) 0), length-replicate {A = ℕ} (30 - byte_at image block NAME_BYTE) 0)

-- 31 bytes: the length, the text and zeros
pub name_is : (image : List ℕ) (block : ℕ) (name : List ℕ) → IsImage image → block < block_count image → byte_at image block NAME_BYTE ≤ 30 → length name ≡ 31
    → slice_index name 0 ≡ byte_at image block NAME_BYTE
    → ((k : ℕ) → k < byte_at image block NAME_BYTE → slice_index name (k + 1) ≡ upper (byte_at image block (433 + k)))
    → ((k : ℕ) → byte_at image block NAME_BYTE < k → slice_index name k ≡ 0)
    → name ≡ upper_name image block
unfolding upper_name
name_is image block name im l short size first text rest = ext_get_or 0 name (byte_at image block NAME_BYTE ∷ (map upper (text_at image block NAME_BYTE) ++ replicate (30 - byte_at image block NAME_BYTE) 0)) (size ∙ sym (length-upper_name image block im l short)) at
  where
    behind : (k : ℕ) → (k < byte_at image block NAME_BYTE) ⊎ (byte_at image block NAME_BYTE ≤ k) → suc k < 31 → slice_index name (suc k) ≡ slice_index (map upper (text_at image block NAME_BYTE) ++ replicate (30 - byte_at image block NAME_BYTE) 0) k
    behind k (inl m) n =
        let next : suc k ≡ k + 1 = omega arith in
        let long = length-bytes_at image block (NAME_BYTE + 1) (byte_at image block NAME_BYTE) im l (omega arith) in
        ap (slice_index name) next ∙ text k m
        ∙ ap upper (sym (byte-bytes_at image block (NAME_BYTE + 1) (byte_at image block NAME_BYTE) k m))
        ∙ sym (get_or-map upper (text_at image block NAME_BYTE) k 0 0 (omega (arith, long, m)))
        ∙ sym (get_or_append_left (map upper (text_at image block NAME_BYTE)) (replicate (30 - byte_at image block NAME_BYTE) 0) 0 k (omega (arith, length-text image block im l short, m)))
    behind k (inr m) n =
        rest (suc k) (omega arith)
        ∙ sym (get_or-append_right (map upper (text_at image block NAME_BYTE)) (replicate (30 - byte_at image block NAME_BYTE) 0) (byte_at image block NAME_BYTE) k 0 (length-text image block im l short) m
        ∙ get_or-replicate (30 - byte_at image block NAME_BYTE) (k - byte_at image block NAME_BYTE) 0 0 (omega (arith, m, n, short)))

    at : (i : ℕ) → i < length name → slice_index name i ≡ slice_index (byte_at image block NAME_BYTE ∷ (map upper (text_at image block NAME_BYTE) ++ replicate (30 - byte_at image block NAME_BYTE) 0)) i
    at zero m = first
    at (suc k) m = behind k (cases_lt k (byte_at image block NAME_BYTE)) (omega (arith, m, size))

-- ---- the same names

pub short_name : (image : List ℕ) (block : ℕ) → HasValidName image block → byte_at image block NAME_BYTE ≤ 30
short_name image block v = let few = v.valid.short in omega (arith, v.text.counted, few)

pub upper_names_equal : (image : List ℕ) (block other : ℕ) → byte_at image block NAME_BYTE ≡ length (text_at image block NAME_BYTE) → byte_at image other NAME_BYTE ≡ length (text_at image other NAME_BYTE)
    → Same (text_at image block NAME_BYTE) (text_at image other NAME_BYTE) → upper_name image block ≡ upper_name image other
unfolding upper_name
upper_names_equal image block other v w e =
    let sizes : byte_at image block NAME_BYTE ≡ byte_at image other NAME_BYTE =
    v ∙ sym (length-map (text_at image block NAME_BYTE) upper) ∙ ap length e ∙ length-map (text_at image other NAME_BYTE) upper ∙ sym w in
    ap₂ (λ (n : ℕ) (text : List ℕ). n ∷ (text ++ replicate (30 - n) 0)) sizes e

pub names_same : (image : List ℕ) (block other : ℕ) → byte_at image block NAME_BYTE ≡ length (text_at image block NAME_BYTE) → byte_at image other NAME_BYTE ≡ length (text_at image other NAME_BYTE)
    → upper_name image block ≡ upper_name image other → Same (text_at image block NAME_BYTE) (text_at image other NAME_BYTE)
unfolding upper_name
names_same image block other v w e =
    let sizes : byte_at image block NAME_BYTE ≡ byte_at image other NAME_BYTE = ap (λ (xs : List ℕ). slice_index xs 0) e in
    let tails = ap (λ (xs : List ℕ). take (byte_at image other NAME_BYTE) (drop 1 xs)) e in
    let one : length (map upper (text_at image block NAME_BYTE)) ≡ byte_at image other NAME_BYTE = length-map (text_at image block NAME_BYTE) upper ∙ sym v ∙ sizes in
    let two : length (map upper (text_at image other NAME_BYTE)) ≡ byte_at image other NAME_BYTE = length-map (text_at image other NAME_BYTE) upper ∙ sym w in
    sym (take_at (map upper (text_at image block NAME_BYTE)) (replicate (30 - byte_at image block NAME_BYTE) 0) (byte_at image other NAME_BYTE) one)
    ∙ tails
    ∙ take_at (map upper (text_at image other NAME_BYTE)) (replicate (30 - byte_at image other NAME_BYTE) 0) (byte_at image other NAME_BYTE) two

-- ---- marked entries

module _ (marks : List (Option Mark)) where
  -- it has one directory
  pub one_directory : (block dir other : ℕ) → IsMarkedEntry marks block dir → IsMarkedEntry marks block other → dir ≡ other
  one_directory block dir other m n =
      let same : m.0 ≡ n.0 = cc (m.2, n.2) in
      let roles : Entry dir m.1 ≡ Entry other n.1 = sym m.3 ∙ ap (λ (x : Mark). x.role) same ∙ n.3 in
      cc roles

  -- its number is below that of the marks
  pub entry_below : (block dir : ℕ) → IsMarkedEntry marks block dir → block < length marks
  entry_below block dir m = marked_within marks block m.0 m.2

  pub marked_file : (image : List ℕ) (block dir : ℕ) → IsMarkedEntry marks block dir → secondary_type image block ≡ FILE_TYPE → IsMarkedFile image marks block
  marked_file image block dir m e = record { mark = m.0; dir = dir; slot_of_chain = m.1; marked = m.2; role = m.3; secondary = e }

module _ (image : List ℕ) (marks : List (Option Mark)) (c : AreReached image marks) where
  pub entry_sound : (block dir : ℕ) (m : IsMarkedEntry marks block dir) → IsSoundEntry image block dir m.1
  entry_sound block dir m = subst (IsSound image block) m.3 (c.sound block m.0 m.2)

  pub entry_reached : (block dir : ℕ) (m : IsMarkedEntry marks block dir) → Reached image block (Entry dir m.1)
  entry_reached block dir m = subst (Reached image block) m.3 (c.reached block m.0 m.2)

  -- two marked entries of a directory with the same name
  pub duplicate_shown : (block other dir : ℕ) → IsMarkedEntry marks block dir → IsMarkedEntry marks other dir → block ≢ other → upper_name image block ≡ upper_name image other → HasDuplicateName image block
  duplicate_shown block other dir m n ne e =
      let v = (entry_sound block dir m).name in
      let w = (entry_sound other dir n).name in
      record {
        other = other;
        dir = dir;
        slot_of_chain = m.1;
        other_slot = n.1;
        reached = entry_reached block dir m;
        other_reached = entry_reached other dir n;
        two = ne;
        short = short_name image block v;
        other_short = short_name image other w;
        same = names_same image block other v.text.counted w.text.counted e;
      }
