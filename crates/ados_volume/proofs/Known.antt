-- Cached places in files after a change.
use Rattle.ados_volume.proofs.Common.{AreKnown, Contains, Contains-nil, Content, Date3, Drops, Ffs, File, Format, HasFileKey, IsAmong, IsKnown, KeepsRest, LawfulFile, List, Node, None, Ofs, Option, Place, Some, Stands, Tree, [], ap, ap₂, arith, bytes_in, bytes_of, cases_eq, changed, content_at, data_count, drop, eq-eqb, extension_blocks, extension_count, file_writable, format_is, grown, inl, inr, length, length-append, length-drop, length-take, ne_eqb, one_tree, option_map, overlaid, refl, replicate, rewritten, size_in, size_of, slice_index, subst, suc, sym, take, without_archive, written, zero, ℕ, ◌++◌, ◌+◌, ◌-◌, ◌∙◌, ◌∷◌, ◌≡◌, ◌≢◌, ◌≤◌}
use Rattle.ados_model.specs.Tree.{bytes_in as bytes_held}
use Rattle.ados_change.specs.Untold.{AgreeInFront}

-- a file with at least as many bytes has at least as many extension blocks
more_extensions : (format : Format) (m n : ℕ) → m ≤ n → extension_count (data_count format m) ≤ extension_count (data_count format n)
more_extensions Ofs m n l = omega (arith, l)
more_extensions Ffs m n l = omega (arith, l)

-- the number of extension blocks of a file
extensions_in : (image : List ℕ) (t : Tree) (s : Stands image t) (file : ℕ) (bytes : List ℕ) → HasFileKey image file → content_at t file ≡ Some (File bytes) → length (extension_blocks image file) ≡ extension_count (data_count t.format (length bytes))
extensions_in image t s file bytes key e =
    let lawful : LawfulFile image file = (file_writable image file (t, s) key).lawful in
    let size = ap length (bytes_in image t s file key) ∙ ap (λ (o : Option Content). length (bytes_held o)) e in
    lawful.extensions_fit ∙ ap extension_count (lawful.data_fits ∙ ap₂ data_count (format_is image t s) size)

-- a list that agrees with another and is not shorter has its places
among_agreed : (file : ℕ) (old new : List ℕ) (place : Place) → AgreeInFront old new → length old ≤ length new → IsAmong file old place → IsAmong file new place
among_agreed file old new place agree longer p = record { within = omega (arith, p.within, longer); block_is = p.block_is ∙ go place.index p.within }
  where
    go : (q : ℕ) → q ≤ length old → slice_index (file ∷ old) q ≡ slice_index (file ∷ new) q
    go zero l = refl
    go (suc q) l = sym (agree q (omega (arith, l)) (omega (arith, l, longer)))

-- a file of one tree is a file of the other, with at least as many bytes
abbrev pub Lasts : Tree → Tree → ℕ → Type 0
Lasts t u file = (bytes : List ℕ) → content_at t file ≡ Some (File bytes) → (more : List ℕ) × (content_at u file ≡ Some (File more)) × (length bytes ≤ length more)

lasts_same : (t u : Tree) (file : ℕ) → content_at u file ≡ content_at t file → Lasts t u file
lasts_same t u file same bytes e = (bytes, same ∙ e, omega arith)

-- ---- the changes

other_content : (t : Tree) (key : ℕ) (f : Node → Node) (file : ℕ) → file ≢ key → content_at (changed key f t) file ≡ content_at t file
other_content t key f file n = rw (ne_eqb file key n) refl

-- a node changes, but not its content
pub changed_last : (t : Tree) (key : ℕ) (f : Node → Node) → ((a : Node) → (f a).content ≡ a.content) → (file : ℕ) → Lasts t (changed key f t) file
changed_last t key f same file = lasts_same t (changed key f t) file (elim (cases_eq file key) [
  | inl e ↦ ap (content_at (changed key f t)) e ∙ here ∙ ap (content_at t) (sym e)
  | inr n ↦ other_content t key f file n
])
  where
    go : (o : Option Node) → option_map (λ (node : Node). node.content) (option_map f o) ≡ option_map (λ (node : Node). node.content) o
    go None = refl
    go (Some a) = ap Some (same a)

    here : content_at (changed key f t) key ≡ content_at t key
    here = rw (eq-eqb key key refl) (go (t.nodes key))

abbrev rewrite : Date3 → List ℕ → Node → Node
rewrite moment bytes node = record node { content = File bytes; date = moment; protection = without_archive node.protection }

-- a file gets other bytes: all other files last
pub others_last : (t : Tree) (moment : Date3) (key : ℕ) (bytes : List ℕ) (file : ℕ) → file ≢ key → Lasts t (rewritten moment key bytes t) file
others_last t moment key bytes file n = lasts_same t (rewritten moment key bytes t) file (other_content t key (rewrite moment bytes) file n)

-- that file lasts too if it has at least as many bytes as before
pub rewritten_lasts : (t : Tree) (moment : Date3) (key : ℕ) (bytes : List ℕ) → ((was : List ℕ) → content_at t key ≡ Some (File was) → length was ≤ length bytes) → (file : ℕ) → Lasts t (rewritten moment key bytes t) file
rewritten_lasts t moment key bytes l file = elim (cases_eq file key) [
  | inl e ↦ subst (λ (k : ℕ). Lasts t (rewritten moment key bytes t) k) (sym e) here
  | inr n ↦ others_last t moment key bytes file n
]
  where
    go : (o : Option Node) (was : List ℕ) → option_map (λ (node : Node). node.content) o ≡ Some (File was) → option_map (λ (node : Node). node.content) (option_map (rewrite moment bytes) o) ≡ Some (File bytes)
    go None was e = absurd (cc e)
    go (Some a) was e = refl

    here : Lasts t (rewritten moment key bytes t) key
    here was e = (bytes, rw (eq-eqb key key refl) (go (t.nodes key) was e), l was e)

overlaid_longer : (xs : List ℕ) (pos : ℕ) (ys : List ℕ) → pos ≤ length xs → length xs ≤ length (overlaid xs pos ys)
overlaid_longer xs pos ys l =
    omega (arith, l, length-append (take pos xs ++ ys) (drop (pos + length ys) xs), length-append (take pos xs) ys, length-take pos xs, length-drop (pos + length ys) xs)

pub written_lasts : (t : Tree) (moment : Date3) (key pos : ℕ) (bytes : List ℕ) → pos ≤ size_of t key → (file : ℕ) → Lasts t (written moment key pos bytes t) file
written_lasts t moment key pos [] l file = lasts_same t t file refl
written_lasts t moment key pos (b ∷ bs) l file =
    rewritten_lasts t moment key (overlaid (bytes_of t key) pos (b ∷ bs))
    (λ was e.
    let held = ap (λ (o : Option Content). length (bytes_held o)) e in
    let longer = overlaid_longer (bytes_of t key) pos (b ∷ bs) (omega (arith, l, ap size_in e, held)) in
    omega (arith, longer, held))
    file

pub written_format : (t : Tree) (moment : Date3) (key pos : ℕ) (bytes : List ℕ) → (written moment key pos bytes t).format ≡ t.format
written_format t moment key pos [] = refl
written_format t moment key pos (b ∷ bs) = refl

pub grown_lasts : (t : Tree) (moment : Date3) (key size : ℕ) (file : ℕ) → Lasts t (grown moment key size t) file
grown_lasts t moment key size file =
    let zeros : List ℕ = replicate (size - length (bytes_of t key)) 0 in
    rewritten_lasts t moment key (bytes_of t key ++ zeros)
    (λ was e. omega (arith, length-append (bytes_of t key) zeros, ap (λ (o : Option Content). length (bytes_held o)) e)) file

-- ---- the places

pub none_known : (image : List ℕ) (pairs : List (ℕ × Place)) → pairs ≡ [] → AreKnown image pairs
none_known image pairs e file place c = absurd (Contains-nil (file, place) (subst (λ (xs : List (ℕ × Place)). Contains xs (file, place)) e c))

module _ (old new : List ℕ) (keeps : KeepsRest old new) (t u : Tree) (s : Stands old t) (r : Stands new u) (format : u.format ≡ t.format) where
  known_stays : (file : ℕ) (place : Place) → Lasts t u file → IsKnown old file place → IsKnown new file place
  known_stays file place lasts k =
      let was = k.is_file t s in
      let more = lasts was.0 was.1 in
      let key : HasFileKey new file = λ v w. (more.0, ap (λ (x : Tree). content_at x file) (one_tree new v u w r) ∙ more.1) in
      let before = extensions_in old t s file was.0 k.is_file was.1 in
      let after = extensions_in new u r file more.0 key more.1 ∙ ap (λ (f : Format). extension_count (data_count f (length more.0))) format in
      let longer : length (extension_blocks old file) ≤ length (extension_blocks new file) =
      subst (λ (n : ℕ). length (extension_blocks old file) ≤ n) (sym after)
      (subst (λ (n : ℕ). n ≤ extension_count (data_count t.format (length more.0))) (sym before) (more_extensions t.format (length was.0) (length more.0) more.2)) in
      record { is_file = key; place_is = among_agreed file (extension_blocks old file) (extension_blocks new file) place (keeps.untold.file_ends file k.is_file key).extensions longer k.place_is }

  -- if each file lasts, so does each place
  pub known_carried : (pairs : List (ℕ × Place)) → AreKnown old pairs → ((file : ℕ) → Lasts t u file) → AreKnown new pairs
  known_carried pairs h lasts file place c = known_stays file place (lasts file) (h file place c)

  -- if each file but one lasts, so do the places in the others
  pub known_dropped : (pairs left : List (ℕ × Place)) (key : ℕ) → AreKnown old pairs → Drops pairs key left → ((file : ℕ) → file ≢ key → Lasts t u file) → AreKnown new left
  known_dropped pairs left key h drops lasts file place c = let d = drops file place c in known_stays file place (lasts file d.1) (h file place d.0)
