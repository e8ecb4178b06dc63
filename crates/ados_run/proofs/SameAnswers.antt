-- The answer to a packet determines the handler after it, byte for byte.
use Rattle.std.proofs.Common.{◌≡◌, ◌⊎◌, ◌==◌, IsTrue, ◌-◌, ◌++◌, ◌∷◌, nat_lt, if◌then◌else◌, length, take, replicate, ℕ, ℤ, pos, Bool, true, false, List, [], Option, None, Some, MatchOption, MatchBool, is_some, inl, inr, refl, sym, ap, ◌∙◌, subst, arith}
use Rattle.std.proofs.lemmas.Bool.{cases_eq}
use Rattle.ados_model.specs.Tree.{Content, Date3, Node, Tree, name_of, entries, root, bytes_of, parent_of, size_of, Content.Directory, Content.File}
use Rattle.ados_model.specs.Stands.{Stands}
use Rattle.ados_model.specs.Change.{changed, enter, made, removed, renamed, rewritten, stamped, with_node, written}
use Rattle.ados_model.specs.declared.packet.TheConstants.{NO_LOCK}
use Rattle.ados_model.specs.declared.packet.Packet.{Packet}
use Rattle.ados_model.specs.declared.answer.Answer.{Answer}
use Rattle.ados_model.specs.declared.dos_error.DosError.{DosError}
use Rattle.ados_model.specs.declared.dos_error.DosError.TheVariants.{NoFreeStore}
use Rattle.ados_model.specs.declared.packet.Packet.TheVariants as packets
use Rattle.ados_model.specs.declared.answer.Body.{Body, TheVariants.Empty, TheVariants.Handle}
use Rattle.ados_model.specs.Parts.{size_in}
use Rattle.ados_model.specs.Session.{Session, handle_key, handle_position, with_handle, with_lock}
use Rattle.ados_model.specs.Objects.{handle_target, is_exclusive_mode, lock_key, object, spot_directory, spot_name, standing, target_number}
use Rattle.ados_model.specs.Refusals.{refusal}
use Rattle.ados_model.specs.Meaning.{IsRefused, IsServed, Meaning, makes_hold}
use Rattle.ados_model.specs.Success.{After, Examines, GivesHandle, GivesLock, IsNewKey, MakesFile, Success, after, resized}
use Rattle.ados_model.proofs.OneTree.{one_tree}
use Rattle.ados_name.specs.Name.{slot}
use Rattle.ados_change.specs.Laws.{OneGrows}
use Rattle.ados_change.specs.NewBlocks.{KeepsRest}
use Rattle.ados_change.proofs.Changed.{changed_keeps, each_keeps, made_here, nodes_here, nodes_other, relisted}
use Rattle.ados_change.proofs.Keeping.{same_keeps}
use Rattle.ados_change.proofs.SameBytes.{same_rest_same_bytes}
use Rattle.ados_change.proofs.SameLayout.{IsOneNewKey, new_key_same}
use Rattle.ados_handler.specs.Gives.{HandlerGives}
use Rattle.ados_handler.specs.HandlerState.{HandlerState}
use Rattle.ados_run.specs.Replays.{SameAnswerSameHandler}
use Rattle.ados_run.proofs.SameTrees.{kept_size, listed_size, made_size, node_size, none_grows, one_grows, removed_size, renamed_size, rewritten_size}

-- two results of a match over one option, or over one truth value
match_option : {X : Type 0} (o : Option X) (A A' C : Type 0) (B B' : X → Type 0) → (A → A' → C) → ((x : X) → B x → B' x → C) → MatchOption o A B → MatchOption o A' B' → C
match_option None A A' C B B' f g m n = f m n
match_option (Some x) A A' C B B' f g m n = g x m n

match_bool : (b : Bool) (A A' B B' C : Type 0) → (A → A' → C) → (B → B' → C) → MatchBool b A B → MatchBool b A' B' → C
match_bool true A A' B B' C f g m n = f m n
match_bool false A A' B B' C f g m n = g m n

-- a new entry, which is an empty file or directory
made_is_new : (moment : Date3) (dir key : ℕ) (name : List ℕ) (content : Content) (t : Tree) → IsNewKey t key → size_in (Some content) ≡ 0 → IsOneNewKey t (made moment dir key name content t) key
made_is_new moment dir key name content t new empty = record {
  not_before = new.1;
  no_loss = new.2;
  now = made_here moment dir key name content t;
  others = λ k n m. sym (changed_keeps is_some (relisted moment keys) dir begun (each_keeps is_some (relisted moment keys) (λ a. refl)) k ∙ ap is_some (nodes_other key (Some node) t k n)) ∙ m;
  lost = λ b. refl;
  sizes = λ file. elim (cases_eq file key) [
    | inr n ↦ made_size moment dir key name content t file n
    | inl e ↦ omega (arith, ap (size_of (made moment dir key name content t)) e, listed_size moment dir keys begun key, ap node_size (nodes_here key (Some node) t), empty)
  ];
}
  where
    node : Node
    node = record { name = name; parent = Some dir; protection = 0; date = moment; comment = []; content = content }

    begun : Tree
    begun = with_node key (Some node) t

    keys : List ℕ
    keys = enter (λ j. slot (name_of begun j)) key (entries begun dir)

module _ (t : Tree) (s : Session) (now : Date3) (u v : Tree) (p q : Session) (res1 : ℤ) (body : Body) where
  -- the packet determines tree and holds, and at most one file is longer
  record IsDetermined : Type 0 where
    trees : v ≡ u
    sessions : q ≡ p
    grows : OneGrows t u

  abbrev one : After
  one = after u p res1 body

  abbrev two : After
  two = after v q res1 body

  -- if the same key is new in both, whatever the directory and the content
  abbrev SameKey : Type 0
  SameKey = (key other : ℕ) → IsOneNewKey t u key → IsOneNewKey t v other → other ≡ key

  -- a result without a choice
  plain : (w : Tree) (r : Session) (x : ℤ) (b : Body) → OneGrows t w → after u p res1 body ≡ after w r x b → after v q res1 body ≡ after w r x b → IsDetermined
  plain w r x b g e f =
      record { trees = ap (λ (a : After). a.tree) f ∙ sym (ap (λ (a : After). a.tree) e); sessions = ap (λ (a : After). a.session) f ∙ sym (ap (λ (a : After). a.session) e); grows = subst (OneGrows t) (sym (ap (λ (a : After). a.tree) e)) g }

  unchanged : OneGrows t t
  unchanged = none_grows t t (λ f. omega arith)

  -- a new lock or handle
  lock : (w : Tree) (key : ℕ) (exclusive : Bool) → OneGrows t w → GivesLock w s key exclusive one → GivesLock w s key exclusive two → IsDetermined
  lock w key exclusive g (n, free, e) (m, free', f) =
      let number : m ≡ n = let one : pos m ≡ pos n = sym (ap (λ (a : After). a.res1) f) ∙ ap (λ (a : After). a.res1) e in cc one in
      record {
        trees = ap (λ (a : After). a.tree) f ∙ sym (ap (λ (a : After). a.tree) e);
        sessions = ap (λ (a : After). a.session) f ∙ ap (λ (k : ℕ). with_lock k key exclusive s) number ∙ sym (ap (λ (a : After). a.session) e);
        grows = subst (OneGrows t) (sym (ap (λ (a : After). a.tree) e)) g;
      }

  handle : (w : Tree) (key : ℕ) (exclusive : Bool) → OneGrows t w → GivesHandle w s key exclusive one → GivesHandle w s key exclusive two → IsDetermined
  handle w key exclusive g (n, free, e) (m, free', f) =
      let number : m ≡ n = let one : Handle m ≡ Handle n = sym (ap (λ (a : After). a.body) f) ∙ ap (λ (a : After). a.body) e in cc one in
      record {
        trees = ap (λ (a : After). a.tree) f ∙ sym (ap (λ (a : After). a.tree) e);
        sessions = ap (λ (a : After). a.session) f ∙ ap (λ (k : ℕ). with_handle k key exclusive s) number ∙ sym (ap (λ (a : After). a.session) e);
        grows = subst (OneGrows t) (sym (ap (λ (a : After). a.tree) e)) g;
      }

  -- an object's description
  examines : (key : ℕ) → Examines t s key one → Examines t s key two → IsDetermined
  examines key (node, at, e) (node', at', f) = record {
    trees = ap (λ (a : After). a.tree) f ∙ sym (ap (λ (a : After). a.tree) e);
    sessions = ap (λ (a : After). a.session) f ∙ sym (ap (λ (a : After). a.session) e);
    grows = subst (OneGrows t) (sym (ap (λ (a : After). a.tree) e)) unchanged;
  }

  -- a new entry, empty, has the same key in both
  one_key : SameKey → (dir : ℕ) (name : List ℕ) (content : Content) → size_in (Some content) ≡ 0 → (k j : ℕ) → IsNewKey t k → IsNewKey t j → u ≡ made now dir k name content t → v ≡ made now dir j name content t → j ≡ k
  one_key same dir name content empty k j new new' e f =
      same k j (subst (λ (w : Tree). IsOneNewKey t w k) (sym e) (made_is_new now dir k name content t new empty)) (subst (λ (w : Tree). IsOneNewKey t w j) (sym f) (made_is_new now dir j name content t new' empty))

  made_grows : (dir key : ℕ) (name : List ℕ) (content : Content) → OneGrows t (made now dir key name content t)
  made_grows dir key name content = one_grows key t (made now dir key name content t) (made_size now dir key name content t)

  new_file : SameKey → (dir : ℕ) (name : List ℕ) (exclusive : Bool) → MakesFile t s dir name exclusive now one → MakesFile t s dir name exclusive now two → IsDetermined
  new_file same dir name exclusive (k, new, g) (j, new', h) =
      let key = one_key same dir name (File []) refl k j new new' (ap (λ (a : After). a.tree) g.2) (ap (λ (a : After). a.tree) h.2) in
      handle (made now dir k name (File []) t) k exclusive (made_grows dir k name (File [])) g (subst (λ (i : ℕ). GivesHandle (made now dir i name (File []) t) s i exclusive two) key h)

  -- a changed node, with the same content
  changed_grows : (key : ℕ) (f : Node → Node) → ((a : Node) → (f a).content ≡ a.content) → OneGrows t (stamped now (changed key f t))
  changed_grows key f same = none_grows t (stamped now (changed key f t)) (kept_size key f t same)

  written_grows : (key position : ℕ) (bytes : List ℕ) → OneGrows t (written now key position bytes t)
  written_grows key position [] = unchanged
  written_grows key position (c ∷ cs) = one_grows key t (written now key position (c ∷ cs) t) (λ file n. rewritten_size now key _ t file n)

  resized_grows : (key size : ℕ) → OneGrows t (resized now key size t)
  resized_grows key size = go (size == size_of t key) (nat_lt size (size_of t key))
    where
      go : (same less : Bool) → OneGrows t (if same then t else if less then rewritten now key (take size (bytes_of t key)) t else rewritten now key (bytes_of t key ++ replicate (size - length (bytes_of t key)) 0) t)
      go true less = unchanged
      go false true = one_grows key t (rewritten now key (take size (bytes_of t key)) t) (rewritten_size now key (take size (bytes_of t key)) t)
      go false false = one_grows key t (rewritten now key (bytes_of t key ++ replicate (size - length (bytes_of t key)) 0) t) (rewritten_size now key (bytes_of t key ++ replicate (size - length (bytes_of t key)) 0) t)

  -- ---- one row for each packet

  served : SameKey → (packet : Packet) → Success t s packet now one → Success t s packet now two → IsDetermined
  served same packets.Die e f = plain t (record s { died = true }) _ _ unchanged e f
  served same (packets.LocateObject l path mode) e f = lock t (object t s l path) (is_exclusive_mode mode) unchanged e f
  served same (packets.RenameDisk name) e f = plain _ s _ _ (changed_grows (root t) (λ node. record node { name = name }) (λ a. refl)) e f
  served same (packets.FreeLock l) e f = plain t _ _ _ unchanged e f
  served same (packets.DeleteObject l path) e f = plain _ s _ _ (one_grows (object t s l path) t (removed now (object t s l path) t) (removed_size now (object t s l path) t)) e f
  served same (packets.RenameObject l from m to) e f =
      plain _ s _ _ (none_grows t (renamed now (object t s l from) (spot_directory t s m to) (spot_name t s m to) t) (renamed_size now (object t s l from) (spot_directory t s m to) (spot_name t s m to) t)) e f
  served same (packets.CopyDir l) e f = match_bool (l == NO_LOCK) (one ≡ after t s (pos NO_LOCK) Empty) (two ≡ after t s (pos NO_LOCK) Empty) (GivesLock t s (lock_key t s l) false one) (GivesLock t s (lock_key t s l) false two) IsDetermined (λ m n. plain t s _ _ unchanged m n) (λ m n. lock t (lock_key t s l) false unchanged m n) e f
  served same (packets.SetProtect l path bits) e f = plain _ s _ _ (changed_grows (object t s l path) (λ node. record node { protection = bits }) (λ a. refl)) e f
  served same (packets.CreateDir l path) (k, new, g) (j, new', h) =
      let dir = spot_directory t s l path in
      let name = spot_name t s l path in
      let key = one_key same dir name (Directory []) refl k j new new' (ap (λ (a : After). a.tree) g.2) (ap (λ (a : After). a.tree) h.2) in
      lock (made now dir k name (Directory []) t) k true (made_grows dir k name (Directory [])) g (subst (λ (i : ℕ). GivesLock (made now dir i name (Directory []) t) s i true two) key h)
  served same (packets.ExamineObject l) e f = examines (lock_key t s l) e f
  served same (packets.ExamineNext l key) (next, rest, is, e) (next', rest', is', f) =
      let one : Some (next ∷ rest) ≡ Some (next' ∷ rest') = sym is ∙ is' in
      let here : next ≡ next' = cc one in
      examines next e (subst (λ (k : ℕ). Examines t s k two) (sym here) f)
  served same packets.DiskInfo e f = plain t s _ _ unchanged e f
  served same (packets.Info l) e f = plain t s _ _ unchanged e f
  served same (packets.SetComment l path comment) e f = plain _ s _ _ (changed_grows (object t s l path) (λ node. record node { comment = comment }) (λ a. refl)) e f
  served same (packets.Parent l) e f = match_option (parent_of t (lock_key t s l)) (one ≡ after t s (pos NO_LOCK) Empty) (two ≡ after t s (pos NO_LOCK) Empty) IsDetermined (λ dir. GivesLock t s dir false one) (λ dir. GivesLock t s dir false two) (λ m n. plain t s _ _ unchanged m n) (λ dir m n. lock t dir false unchanged m n) e f
  served same (packets.SetDate l path date) e f = plain _ s _ _ (changed_grows (object t s l path) (λ node. record node { date = date }) (λ a. refl)) e f
  served same (packets.SameLock l m) e f = plain t s _ _ unchanged e f
  served same (packets.Read h buffer) e f = plain t _ _ _ unchanged e f
  served same (packets.Write h bytes) e f = plain _ _ _ _ (written_grows (handle_key s h) (handle_position s h) bytes) e f
  served same (packets.FindUpdate l path) e f =
      match_option (standing t s l path) (MakesFile t s (spot_directory t s l path) (spot_name t s l path) false now one) (MakesFile t s (spot_directory t s l path) (spot_name t s l path) false now two) IsDetermined
      (λ key. GivesHandle t s key false one) (λ key. GivesHandle t s key false two)
      (λ m n. new_file same (spot_directory t s l path) (spot_name t s l path) false m n) (λ key m n. handle t key false unchanged m n) e f
  served same (packets.FindInput l path) e f = handle t (object t s l path) false unchanged e f
  served same (packets.FindOutput l path) e f =
      match_option (standing t s l path) (MakesFile t s (spot_directory t s l path) (spot_name t s l path) true now one) (MakesFile t s (spot_directory t s l path) (spot_name t s l path) true now two) IsDetermined
      (λ key. GivesHandle (rewritten now key [] t) s key true one) (λ key. GivesHandle (rewritten now key [] t) s key true two)
      (λ m n. new_file same (spot_directory t s l path) (spot_name t s l path) true m n)
      (λ key m n. handle (rewritten now key [] t) key true (one_grows key t (rewritten now key [] t) (rewritten_size now key [] t)) m n) e f
  served same (packets.End h) e f = plain t _ _ _ unchanged e f
  served same (packets.Seek h offset mode) e f = plain t _ _ _ unchanged e f
  served same (packets.SetFileSize h offset mode) e f = plain _ _ _ _ (resized_grows (handle_key s h) (target_number (handle_target t s h offset mode))) e f
  served same (packets.Other action) e f = absurd e

-- ---- the meaning of a packet

module _ (t : Tree) (s : Session) (packet : Packet) (now : Date3) (u v : Tree) (p q : Session) (answer : Answer) where
  refused : (error : DosError) → IsRefused t s packet error u p answer → IsRefused t s packet error v q answer → IsDetermined t s now u v p q answer.res1 answer.body
  refused error m n = record { trees = n.tree ∙ sym m.tree; sessions = n.session ∙ sym m.session; grows = subst (OneGrows t) (sym m.tree) (none_grows t t (λ f. omega arith)) }

  -- an answer is that of a service or of a refusal
  not_both : {w : Tree} {r : Session} {w' : Tree} {r' : Session} → IsServed t s packet now w r answer → IsRefused t s packet NoFreeStore w' r' answer → ⊥
  not_both m n = let one : pos 103 ≡ pos 0 = sym (ap (λ (a : Answer). a.res2) n.answered) ∙ m.res2 in cc one

  means_once : SameKey t s now u v p q answer.res1 answer.body → Meaning t s packet now u p answer → Meaning t s packet now v q answer → IsDetermined t s now u v p q answer.res1 answer.body
  means_once same = match_option (refusal t s packet) (IsServed t s packet now u p answer ⊎ (IsTrue (makes_hold t s packet) × IsRefused t s packet NoFreeStore u p answer)) (IsServed t s packet now v q answer ⊎ (IsTrue (makes_hold t s packet) × IsRefused t s packet NoFreeStore v q answer))
      (IsDetermined t s now u v p q answer.res1 answer.body) (λ error. IsRefused t s packet error u p answer) (λ error. IsRefused t s packet error v q answer) (λ m n. elim m [
        | inl x ↦ elim n [ inl y ↦ served t s now u v p q answer.res1 answer.body same packet x.success y.success | inr y ↦ absurd (not_both x y.1) ]
        | inr x ↦ elim n [ inl y ↦ absurd (not_both y x.1) | inr y ↦ refused NoFreeStore x.1 y.1 ]
      ]) (λ error m n. refused error m n)

-- what a packet leaves as it is, also where it changes no byte
pub kept_rest : (old new : HandlerState) (packet : Packet) (now : Date3) (answer : Answer) → HandlerGives old packet now new answer → KeepsRest old.image new.image
kept_rest old new packet now answer gives = elim gives.leaves.keeps [ inl same ↦ subst (KeepsRest old.image) (sym same) (same_keeps old.image) | inr rest ↦ rest ]

-- the answer determines the handler
pub same_answer_same_handler : SameAnswerSameHandler
same_answer_same_handler old again new other packet now answer same bytes g h = record { images = images; validated = h.validated ∙ same.validated ∙ sym g.validated; sessions = once.sessions }
  where
    stood : Stands old.image h.old_tree
    stood = subst (λ (image : List ℕ). Stands image h.old_tree) same.images h.stood

    trees : h.old_tree ≡ g.old_tree
    trees = one_tree old.image h.old_tree g.old_tree stood g.stood

    keeps : KeepsRest old.image other.image
    keeps = subst (λ (image : List ℕ). KeepsRest image other.image) same.images (kept_rest again other packet now answer h)

    means : Meaning g.old_tree old.session packet now h.new_tree other.session answer
    means = subst (λ (w : Tree). Meaning w old.session packet now h.new_tree other.session answer) trees (subst (λ (s : Session). Meaning h.old_tree s packet now h.new_tree other.session answer) same.sessions h.means)

    one_key_made : SameKey g.old_tree old.session now g.new_tree h.new_tree new.session other.session answer.res1 answer.body
    one_key_made key key' x y = new_key_same old.image new.image other.image g.old_tree g.new_tree h.new_tree g.stood g.stands h.stands (kept_rest old new packet now answer g) keeps key key' x y

    once : IsDetermined g.old_tree old.session now g.new_tree h.new_tree new.session other.session answer.res1 answer.body
    once = means_once g.old_tree old.session packet now g.new_tree h.new_tree new.session other.session answer one_key_made g.means means

    images : other.image ≡ new.image
    images = same_rest_same_bytes g.old_tree g.new_tree old.image new.image other.image g.stood once.grows bytes g.stands (subst (Stands other.image) once.trees h.stands) (kept_rest old new packet now answer g) keeps
