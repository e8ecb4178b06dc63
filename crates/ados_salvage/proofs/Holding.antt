-- What an entry of an accepted image holds.
use Rattle.ados_salvage.proofs.Common.{◌≡◌, ◌≢◌, ℕ, ◌<◌, Bool, true, false, MatchBool, All, AllPairs, List, [], ◌∷◌, ◌++◌, append-nil, append_assoc, map, None, Some, IsSome, refl, sym, ap, ◌∙◌, subst, arith, All-map, All-nil, AreBelow, Below, block_count, Accepts, AreDeleted, Stands, Content, Node, Tree, bytes_of, entries, root, Salvaged, AreOfTree, FindsLost, FindsNone, HoldsAll, IsOfTree, Saved, SavesTree, broken_total, headers_of, located_of}
use Rattle.std.proofs.lemmas.List.Elements.{All-append}
use Rattle.ados_salvage.specs.Deleted.{TellsTrust}
use Rattle.ados_salvage.specs.steps.Finding.{AddsLost, AreOfOneTree}
use Rattle.ados_model.specs.Keys.{HasDirectory, HasFileKey}
use Rattle.ados_model.specs.Tree.Content.{Directory, File}
use Rattle.ados_model.proofs.Nodes.{content_in}
use Rattle.ados_model.proofs.Standing.{count_same}
use Rattle.ados_model.specs.Stands.{Duty}
use Rattle.ados_change.proofs.Renewed.{bytes_in}
use Rattle.ados_salvage.specs.declared.salvaged.State.TheVariants as states

module _ (image : List ℕ) (t : Tree) (s : Stands image t) (key : ℕ) (node : Node) (at : t.nodes key ≡ Some node) where
  -- the node's content is the one that was found
  content_is : (content : Content) → (a : Node) × (t.nodes key ≡ Some a) × (a.content ≡ content) → node.content ≡ content
  content_is content (a, found, is) =
      let same : Some node ≡ Some a = sym at ∙ found in
      let one : node ≡ a = cc same in
      ap (λ (n : Node). n.content) one ∙ is

  pub holds_whole : HasFileKey image key → HoldsAll image key node.content states.Whole
  holds_whole file =
      let c = file t s in
      let content : node.content ≡ File c.0 = content_is (File c.0) (content_in (t.nodes key) (File c.0) c.1) in
      let bytes : bytes_of t key ≡ c.0 = rw c.1 refl in
      subst (λ (held : Content). HoldsAll image key held states.Whole) (sym content) (bytes_in image t s key file ∙ bytes)

  pub holds_directory : HasDirectory image key → HoldsAll image key node.content states.Directory
  holds_directory dir =
      let c = dir t s in
      let content : node.content ≡ Directory c.0 = content_is (Directory c.0) (content_in (t.nodes key) (Directory c.0) c.1) in
      subst (λ (held : Content). HoldsAll image key held states.Directory) (sym content) tt

-- the entries of a walk over all of a tree, in this image
pub of_tree : (t : Tree) (saved : Saved) (image : List ℕ) (found : List Salvaged) (below : List Below) (top : ℕ) → saved.image ≡ image → saved.entries ≡ found → map located_of found ≡ below → top ≡ root t
    → AreBelow t None 0 (entries t top) below → All (IsOfTree image t) found → AreOfTree t saved
of_tree t saved image found below top same are located is walk told = record {
  tree = saved.entries;
  found = [];
  all = sym (append-nil saved.entries);
  below = subst (λ (k : ℕ). AreBelow t None 0 (entries t k) (map located_of saved.entries)) is
      (subst (AreBelow t None 0 (entries t top)) (sym (ap (map located_of) are ∙ located)) walk);
  told = subst (λ (xs : List ℕ). All (IsOfTree xs t) saved.entries) (sym same) (subst (All (IsOfTree image t)) (sym are) told);
  besides = All-nil (λ (entry : Salvaged). entry.found ≡ true);
}

-- the same tree, with what is found behind it
pub with_found : (t : Tree) (old new : Saved) → AreOfTree t old → AddsLost old new → AreOfTree t new
with_found t old new are adds = record {
  tree = are.tree;
  found = are.found ++ adds.found;
  all = adds.added ∙ ap (λ xs. xs ++ adds.found) are.all ∙ append_assoc are.tree are.found adds.found;
  below = are.below;
  told = subst (λ (xs : List ℕ). All (IsOfTree xs t) are.tree) (sym adds.image) are.told;
  besides = All-append (λ (entry : Salvaged). entry.found ≡ true) are.found adds.found are.besides adds.besides;
}

module _ (given : List ℕ) (validated listed : Bool) (old : Saved) (accepted : old.accepted ≡ true) (counted : old.fillers ≡ listed) (accepts : Accepts given validated old.image) (tree : (t : Tree) → Stands old.image t → AreOfTree t old)
    (trust : TellsTrust given old.trusted) (deleted : AreDeleted given old.deleted) where
  -- the bitmap is not trusted, and nothing is found
  pub saves_alone : old.trusted ≡ false → FindsNone old → SavesTree listed given old
  saves_alone e none = record {
    accepted = accepted;
    counted = counted;
    validated = validated;
    accepts = accepts;
    tree = tree;
    beside = subst (λ (b : Bool). MatchBool b (FindsLost old) (FindsNone old)) (sym e) none;
    trust = trust;
    deleted = deleted;
  }

  -- it is trusted, and the sound headers among the lost blocks are found
  pub saves_beside : old.trusted ≡ true → (new : Saved) → AddsLost old new → SavesTree listed given new
  saves_beside e new adds = record {
    accepted = adds.accepted ∙ accepted;
    counted = adds.fillers ∙ counted;
    validated = validated;
    accepts = subst (Accepts given validated) (sym adds.image) accepts;
    tree = λ t s. with_found t old new (tree t (subst (λ (image : List ℕ). Stands image t) adds.image s)) adds;
    beside = subst (λ (b : Bool). MatchBool b (FindsLost new) (FindsNone new)) (sym (adds.trusted ∙ e)) adds.finds;
    trust = subst (TellsTrust given) (sym adds.trusted) trust;
    deleted = subst (AreDeleted given) (sym adds.deleted) deleted;
  }

-- the headers of the entries of a walk are its keys
pub keys_are : (found : List Salvaged) → map (λ (below : Below). below.key) (map located_of found) ≡ headers_of found
keys_are [] = refl
keys_are (e ∷ found) = ap (λ (keys : List ℕ). e.header ∷ keys) (keys_are found)

-- they are entries of one tree
pub one_tree : (image : List ℕ) (found : List Salvaged) (below : List Below) → map located_of found ≡ below → AllPairs (λ j k. j ≢ k) (map (λ (b : Below). b.key) below)
    → All (λ entry. entry.header < block_count image) found → All (λ entry. entry.found ≡ false) found → broken_total found ≡ 0 → AreOfOneTree image found
one_tree image found below located once inside reached whole = record {
  once = subst (AllPairs (λ j k. j ≢ k)) (ap (map (λ (b : Below). b.key)) (sym located) ∙ keys_are found) once;
  inside = All-map (λ (header : ℕ). header < block_count image) (λ (entry : Salvaged). entry.header) found inside;
  reached = reached;
  whole = whole;
}

-- a key is a block of the image
pub key_inside : (image : List ℕ) (t : Tree) → Stands image t → (key : ℕ) → IsSome (t.nodes key) → key < block_count image
key_inside image t s key some = omega (arith, count_same image t s, (s.fits.inside key Duty.Key some).1)
