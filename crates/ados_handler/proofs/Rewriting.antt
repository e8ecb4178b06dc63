-- Packets that change the bytes of a file keep tree and session proper.
use Rattle.std.proofs.Common.{◌≡◌, ◌≢◌, ℕ, ◌+◌, ◌-◌, ◌≤◌, inl, inr, Bool, true, false, cond, nat_eq, nat_lt, List, [], ◌∷◌, ◌++◌, length, take, drop, replicate, map, Option, Some, None, IsSome, is_some, option_map, refl, sym, ap, ◌∙◌, subst, arith, eq-eqb, length-append, length-take, length-drop, ltb-false, ltb-true, eqb-true}
use Rattle.std.specs.Prelude.{◌&&◌}
use Rattle.std.specs.FinMap.{get, entries}
use Rattle.ados_handler.proofs.Common.{ℤ, nat_cmp, eq_by_cmp, nat_cmp_total, option_map_or, find, get-entries, get-from_entries, length-replicate, cases_eq, false≢true, true≢false, not-false, Date3, Content, Node, Tree, Proper, root, bytes_in, bytes_of, size_of, size_in, Directory, File, is_file, holds_file, rewritten, written, grown, overlaid, shortened, without_archive, nodes_other, DeviceNotMounted, InvalidLock, Write, SetFileSize, Session, at_position, handle_key, handle_position, positions_within, is_handle, within, HandleHold, handle_target, target_number, refuse, refusals, After, resized, none_refuses, not_refused, HoldNumber, hold_at, IsProperSession, ByLock, ByHandle, KeepsProper}
use Rattle.ados_change.proofs.Cases.{changed_node}
use Rattle.ados_change.specs.Stamps.{touched}
use Rattle.ados_change.proofs.Contents.{file_not_root, proper_after as refilled_proper}
use Rattle.ados_change.proofs.Renewed.{is_rewritten}
use Rattle.ados_handler.proofs.Holding.{option_map_some}
use Rattle.ados_handler.proofs.Reading.{same_after, by_success, moved, size_is}
use Rattle.ados_handler.proofs.Carrying.{Carried, carried_changed, carried_same, carried_session}
use Rattle.ados_handler.proofs.Telling.{told_proper}

-- the node of a file
pub record IsFileNode (t : Tree) (key : ℕ) : Type 0 where
  pub node : Node
  pub bytes : List ℕ
  pub at : t.nodes key ≡ Some node
  pub content : node.content ≡ File bytes

pub file_node : (t : Tree) (key : ℕ) → is_file t key ≡ true → IsFileNode t key
file_node t key = go (t.nodes key) refl
  where
    go : (o : Option Node) → t.nodes key ≡ o → holds_file (option_map (λ node. node.content) o) ≡ true → IsFileNode t key
    go None at h = absurd (false≢true h)
    go (Some a) at h = by_content a.content refl h
      where
        by_content : (c : Content) → a.content ≡ c → holds_file (Some c) ≡ true → IsFileNode t key
        by_content (Directory keys) e h = absurd (false≢true h)
        by_content (File bytes) e h = record { node = a; bytes = bytes; at = at; content = e }

-- a file with other bytes
module _ (t : Tree) (proper : Proper t) (key : ℕ) (f : IsFileNode t key) (bytes : List ℕ) (now : Date3) where
  stamp : Node → Node
  stamp node = record node { date = now; protection = without_archive node.protection }

  pub refill : Node → Node
  refill node = record node { content = File bytes; date = now; protection = without_archive node.protection }

  abbrev pub rewrite : Tree
  rewrite = rewritten now key bytes t

  not_root : key ≢ root t
  not_root = file_not_root t key f.node f.bytes bytes f.at f.content proper

  touched_proper : Proper (touched now key t)
  unfolding stamp
  touched_proper = told_proper t proper key f.node f.at stamp (record {
    at = f.at;
    parent = refl;
    content = refl;
    name = proper.name key f.node f.at;
    comment = proper.comment key f.node f.at;
    same_name = λ _. refl;
    same_disk = λ _. refl;
    no_protection = λ e. absurd (not_root e);
    no_comment = λ e. absurd (not_root e);
  }) now

  pub rewritten_proper : Proper rewrite
  unfolding stamp
  rewritten_proper =
      subst Proper (is_rewritten now bytes key t)
      (refilled_proper (touched now key t) key (stamp f.node) f.bytes bytes (changed_node t key f.node f.at stamp) f.content touched_proper)

  pub rewritten_here : rewrite.nodes key ≡ Some (refill f.node)
  unfolding refill
  rewritten_here = changed_node t key f.node f.at refill

  pub rewritten_size : size_of rewrite key ≡ length bytes
  unfolding refill
  rewritten_size = ap (λ (o : Option Node). size_in (option_map (λ node. node.content) o)) rewritten_here

  pub rewritten_is_file : is_file rewrite key ≡ true
  unfolding refill
  rewritten_is_file = ap (λ (o : Option Node). holds_file (option_map (λ node. node.content) o)) rewritten_here

  pub rewritten_other : (k : ℕ) → k ≢ key → Carried (t.nodes k) (rewrite.nodes k)
  unfolding refill
  rewritten_other k n = carried_same (t.nodes k) (rewrite.nodes k) (nodes_other key (option_map refill (t.nodes key)) t k n)

  -- each object is carried if the file does not get shorter
  pub rewritten_carried : length f.bytes ≤ length bytes → (k : ℕ) → Carried (t.nodes k) (rewrite.nodes k)
  unfolding refill
  rewritten_carried longer = carried_changed t key refill (λ a at.
      let same : f.node ≡ a = cc (f.at, at) in
      let was : size_in (Some a.content) ≡ length f.bytes = ap (λ (b : Node). size_in (Some b.content)) (sym same) ∙ ap (λ (c : Content). size_in (Some c)) f.content in
      record { node = λ h. h; file = λ h. refl; size = omega (arith, was, longer) })

-- ---- the handle of a packet

held_handle : (s : Session) (handle : ℕ) → is_handle s handle ≡ true → (h : HandleHold) × (get s.handles handle ≡ Some h)
held_handle s handle = go (get s.handles handle)
  where
    go : (o : Option HandleHold) → is_some o ≡ true → (h : HandleHold) × (o ≡ Some h)
    go None e = absurd (false≢true e)
    go (Some h) e = (h, refl)

-- a handle is on a file, and its position is in it
pub record IsOnFile (t : Tree) (s : Session) (handle : ℕ) : Type 0 where
  pub file : IsFileNode t (handle_key s handle)
  pub within : handle_position s handle ≤ size_of t (handle_key s handle)

pub on_file : (t : Tree) (s : Session) → IsProperSession t s → (handle : ℕ) → is_handle s handle ≡ true → IsOnFile t s handle
on_file t s session handle held =
    let h = held_handle s handle held in
    let was = session.on_files handle h.0 h.1 in
    let key : handle_key s handle ≡ h.0.key = ap (λ o. option_map_or (λ (x : HandleHold). x.key) o 0) h.1 in
    let position : handle_position s handle ≡ h.0.position = ap (λ o. option_map_or (λ (x : HandleHold). x.position) o 0) h.1 in
    let size = ap (size_of t) key in
    record { file = file_node t (handle_key s handle) (ap (is_file t) key ∙ was.0); within = omega (arith, position, size, was.1) }

bytes_are : (t : Tree) (key : ℕ) (f : IsFileNode t key) → bytes_of t key ≡ f.bytes
bytes_are t key f = ap (λ (o : Option Node). bytes_in (option_map (λ node. node.content) o)) f.at ∙ ap (λ (c : Content). bytes_in (Some c)) f.content

-- ---- WRITE

length-overlaid : (pos : ℕ) (new old : List ℕ) → pos ≤ length old → (length old ≤ length (overlaid old pos new)) × (pos + length new ≤ length (overlaid old pos new))
length-overlaid pos new old fits =
    let outer : length (overlaid old pos new) ≡ length (take pos old ++ new) + length (drop (pos + length new) old) = length-append (take pos old ++ new) (drop (pos + length new) old) in
    let inner = length-append (take pos old) new in
    let front = length-take pos old in
    let back = length-drop (pos + length new) old in
    (omega (arith, outer, inner, front, back, fits), omega (arith, outer, inner, front, back, fits))

pub write_keeps : (handle : ℕ) (bytes : List ℕ) → KeepsProper (Write handle bytes)
write_keeps handle bytes = by_success (Write handle bytes) (λ t s now result proper session none w.
    let no = none_refuses (refuse DeviceNotMounted s.died ∷ refusals t s (Write handle bytes)) none in
    let on = on_file t s session handle (not-false (is_handle s handle) (not_refused InvalidLock _ no.1.0)) in
    same_after result _ w (go t s now result proper session on bytes))
  where
    go : (t : Tree) (s : Session) (now : Date3) (result : After) → Proper t → IsProperSession t s → IsOnFile t s handle → (new : List ℕ)
        → Proper (written now (handle_key s handle) (handle_position s handle) new t) × IsProperSession (written now (handle_key s handle) (handle_position s handle) new t) (at_position handle (handle_position s handle + length new) s)
    go t s now result proper session on [] = (proper, moved t s now result proper session handle (handle_position s handle + 0) (omega (arith, on.within)))
    go t s now result proper session on (c ∷ cs) =
        let key = handle_key s handle in
        let pos = handle_position s handle in
        let new : List ℕ = overlaid (bytes_of t key) pos (c ∷ cs) in
        let u = rewrite t proper key on.file new now in
        let good = rewritten_proper t proper key on.file new now in
        let size = size_is (option_map (λ (node : Node). node.content) (t.nodes key)) in
        let old = ap length (bytes_are t key on.file) in
        let grows = length-overlaid pos (c ∷ cs) (bytes_of t key) (omega (arith, on.within, size)) in
        let holds = carried_session t u s session (λ hold k e h. rewritten_carried t proper key on.file new now (omega (arith, grows.0, old)) k) in
        let end = rewritten_size t proper key on.file new now in
        (good, moved u s now result good holds handle (pos + length (c ∷ cs)) (omega (arith, grows.1, end)))

-- ---- SET_FILE_SIZE

find_map : {X Y : Type 0} (g : X → Y) (q : ℕ) (es : List (ℕ × X)) → find nat_cmp q (map (λ e. (e.0, g e.1)) es) ≡ option_map g (find nat_cmp q es)
find_map g q [] = refl
find_map {X} {Y} g q (e ∷ es) = go (eq_by_cmp nat_cmp q e.0) (find nat_cmp q (map (λ e. (e.0, g e.1)) es)) (find nat_cmp q es) (find_map g q es)
  where
    go : (b : Bool) (p : Option Y) (o : Option X) → p ≡ option_map g o → cond b (Some (g e.1)) p ≡ option_map g (cond b (Some e.1) o)
    go true p o h = refl
    go false p o h = h

module _ (key size : ℕ) (s : Session) where
  abbrev drawn : Session
  drawn = positions_within key size s

  got_within : (q : ℕ) → get drawn.handles q ≡ option_map (within key size) (get s.handles q)
  got_within q =
      get-from_entries nat_cmp_total (map (λ e. (e.0, within key size e.1)) (entries s.handles)) q
      ∙ find_map (within key size) q (entries s.handles) ∙ ap (option_map (within key size)) (sym (get-entries s.handles q))

  abbrev hold_of : HandleHold → ℕ × Bool
  hold_of h = (h.key, h.exclusive)

  -- the holds are on the same objects as before
  same_holds : (hold : HoldNumber) → hold_at drawn hold ≡ hold_at s hold
  same_holds (ByLock n) = refl
  same_holds (ByHandle n) = ap (option_map hold_of) (got_within n) ∙ go (get s.handles n)
    where
      pair : (h : HandleHold) (b : Bool) → Some (hold_of (cond b (record h { position = size }) h)) ≡ Some (hold_of h)
      pair h true = refl
      pair h false = refl

      go : (o : Option HandleHold) → option_map hold_of (option_map (within key size) o) ≡ option_map hold_of o
      go None = refl
      go (Some h) = pair h (nat_eq h.key key && nat_lt size h.position)

-- a handle of the file is within its size, and any other handle is unchanged
record IsWithin (key size : ℕ) (old new : HandleHold) : Type 0 where
  same_key : new.key ≡ old.key
  here : old.key ≡ key → new.position ≤ size
  other : old.key ≢ key → new.position ≡ old.position

is_within : (key size : ℕ) (h : HandleHold) → IsWithin key size h (within key size h)
is_within key size h = go (nat_eq h.key key) refl (nat_lt size h.position) refl
  where
    go : (b : Bool) → nat_eq h.key key ≡ b → (c : Bool) → nat_lt size h.position ≡ c → IsWithin key size h (cond (b && c) (record h { position = size }) h)
    go true e true l = record { same_key = refl; here = λ _. omega arith; other = λ n. absurd (n (eqb-true h.key key e)) }
    go true e false l = record { same_key = refl; here = λ _. ltb-false size h.position l; other = λ _. refl }
    go false e c l = record { same_key = refl; here = λ d. absurd (true≢false (sym (eq-eqb h.key key d) ∙ e)); other = λ _. refl }

-- if a file gets another size and each other object is carried, the holds stay proper
pub drawn_session : (t u : Tree) (s : Session) → IsProperSession t s → (key size : ℕ) → IsSome (u.nodes key) → is_file u key ≡ true → size_of u key ≡ size
    → ((k : ℕ) → k ≢ key → Carried (t.nodes k) (u.nodes k)) → IsProperSession u (positions_within key size s)
drawn_session t u s session key size there file is carried = record {
  on_keys = λ hold k e h. elim (cases_eq k key) [
    | inl same ↦ ap (λ (i : ℕ). is_some (u.nodes i)) same ∙ there
    | inr other ↦ (carried k other).node (session.on_keys hold k e (sym (same_holds key size s hold) ∙ h))
  ];
  on_files = λ number h at.
      let old = option_map_some (within key size) (get s.handles number) h (sym (got_within key size s number) ∙ at) in
      let w = subst (IsWithin key size old.0) old.2 (is_within key size old.0) in
      let was = session.on_files number old.0 old.1 in
      elim (cases_eq old.0.key key) [
        | inl same ↦
            let at_key : h.key ≡ key = w.same_key ∙ same in
            let ends = ap (size_of u) at_key in
            (ap (is_file u) at_key ∙ file, omega (arith, w.here same, ends, is))
        | inr other ↦
            let c = carried old.0.key other in
            let same_size = ap (size_of u) w.same_key in
            (ap (is_file u) w.same_key ∙ c.file was.0, omega (arith, w.other other, was.1, c.size, same_size))
      ];
  alone = λ a b k e h g. session.alone a b k e (sym (same_holds key size s a) ∙ h) (sym (same_holds key size s b) ∙ g);
}

pub set_file_size_keeps : (handle : ℕ) (offset mode : ℤ) → KeepsProper (SetFileSize handle offset mode)
set_file_size_keeps handle offset mode = by_success (SetFileSize handle offset mode) (λ t s now result proper session none w.
    let no = none_refuses (refuse DeviceNotMounted s.died ∷ refusals t s (SetFileSize handle offset mode)) none in
    let on = on_file t s session handle (not-false (is_handle s handle) (not_refused InvalidLock _ no.1.0)) in
    let key = handle_key s handle in
    same_after result _ w (resized_keeps t s now proper session key (target_number (handle_target t s handle offset mode)) on.file))
  where
    resized_keeps : (t : Tree) (s : Session) (now : Date3) → Proper t → IsProperSession t s → (key size : ℕ) → IsFileNode t key → Proper (resized now key size t) × IsProperSession (resized now key size t) (positions_within key size s)
    resized_keeps t s now proper session key size f = go (nat_eq size (size_of t key)) refl (nat_lt size (size_of t key)) refl
      where
        rewrites : (bytes : List ℕ) → length bytes ≡ size → Proper (rewritten now key bytes t) × IsProperSession (rewritten now key bytes t) (positions_within key size s)
        rewrites bytes is = (
          rewritten_proper t proper key f bytes now,
          drawn_session t (rewritten now key bytes t) s session key size (ap is_some (rewritten_here t proper key f bytes now)) (rewritten_is_file t proper key f bytes now)
              (rewritten_size t proper key f bytes now ∙ is) (rewritten_other t proper key f bytes now),
        )

        count : length (bytes_of t key) ≡ size_of t key
        count = size_is (option_map (λ (node : Node). node.content) (t.nodes key))

        go : (b : Bool) → nat_eq size (size_of t key) ≡ b → (c : Bool) → nat_lt size (size_of t key) ≡ c
            → Proper (cond b t (cond c (shortened now key size t) (grown now key size t))) × IsProperSession (cond b t (cond c (shortened now key size t) (grown now key size t))) (positions_within key size s)
        go true e c l = (
          proper,
          drawn_session t t s session key size (ap is_some f.at) (ap (λ (o : Option Node). holds_file (option_map (λ node. node.content) o)) f.at ∙ ap (λ (x : Content). holds_file (Some x)) f.content)
              (sym (eqb-true size (size_of t key) e)) (λ k n. carried_same (t.nodes k) (t.nodes k) refl),
        )
        go false e true l =
            let few = length-take size (bytes_of t key) in
            let less = ltb-true size (size_of t key) l in
            rewrites (take size (bytes_of t key)) (omega (arith, few, less, count))
        go false e false l =
            let zeros = size - length (bytes_of t key) in
            let tail : List ℕ = replicate zeros 0 in
            let more = length-append (bytes_of t key) tail in
            let filled : length tail ≡ zeros = length-replicate zeros 0 in
            let least = ltb-false size (size_of t key) l in
            rewrites (bytes_of t key ++ tail) (omega (arith, more, filled, least, count))
