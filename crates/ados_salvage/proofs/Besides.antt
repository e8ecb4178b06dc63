-- The sound headers among the lost blocks of an accepted image are found.
use Rattle.ados_salvage.proofs.Common.{◌≡◌, ◌≢◌, ℕ, ◌<◌, ◌≤◌, inl, inr, Bool, true, false, length, All, AllPairs, Contains, List, ◌++◌, sym, ap, ◌∙◌, subst, arith, get_or, AreAllHeaders, AreApart, AreGathered, AreGatheredBy, FindsLost, Gathered, IsHole, IsReadable, Known, Piece, Salvaged, Saved, broken_total, headers_of}
use Rattle.std.proofs.lemmas.List.Elements.{All-append}
use Rattle.ados_salvage.specs.Found.{AreHidden, IsLostHeader}
use Rattle.ados_salvage.specs.Known.{AreKnown}
use Rattle.std.proofs.lemmas.Bool.{cases_lt}
use Rattle.std.proofs.lemmas.List.{get_or_append_left}
use Rattle.ados_salvage.specs.Due.{IsDue}
use Rattle.ados_salvage.specs.Missing.{TellsMissing}
use Rattle.ados_salvage.specs.Salvaged.{AreDue, IsSalvaged}
use Rattle.ados_salvage.specs.Saved.{IsAt}
use Rattle.ados_salvage.specs.steps.Finding.{AddsLost}
use Rattle.ados_salvage.specs.steps.Gathering.{AddsFound}
use Rattle.ados_salvage.proofs.Reading.{salvaged_readable}
use Rattle.ados_salvage.proofs.Saving.{headers_once}

-- the entries of a tree are gathered by what is known, where as many are told before
pub gathered_tree : (known : Known) (gathered : Gathered) (count : ℕ) → AreKnown known → known.before ≡ count → AreGathered count known.left_out known.holes.items known.fillers known.image gathered → AreGatheredBy known gathered
gathered_tree known gathered count sure before g = record {
  sure = sure;
  so_far = subst (λ (n : ℕ). AreGathered n known.left_out known.holes.items known.fillers known.image gathered) (sym before) g;
}

module _ (known : Known) (old new : Gathered) (by : AreGatheredBy known new) (all : AreAllHeaders known new.places.items) (adds : AddsFound known old new) (hidden : AreHidden known.image known.left_out)
    (reached : All (λ (entry : Salvaged). entry.found ≡ false) old.entries.items) (many : known.before ≡ length old.entries.items) where
  -- an entry that is found has the fields of its header
  told_found : All (λ (entry : Salvaged). entry.found ≡ true → IsSalvaged known.left_out known.holes.items known.fillers known.image entry) new.entries.items
  told_found = subst (All (λ (entry : Salvaged). entry.found ≡ true → IsSalvaged known.left_out known.holes.items known.fillers known.image entry)) (sym adds.added)
      (All-append (λ (entry : Salvaged). entry.found ≡ true → IsSalvaged known.left_out known.holes.items known.fillers known.image entry) old.entries.items adds.found
      (λ k d l is. let never : true ≡ false = sym is ∙ reached k d l in absurd (cc never)) (λ k d l is. (adds.each k d l).1))

  -- a sound header among the lost blocks is told
  lost_told : (block : ℕ) → IsLostHeader known.image block → Contains (headers_of new.entries.items) block
  lost_told block lost = by.so_far.met block (all block (inl (record { sound = lost.1; told = λ there. (hidden.only there.0 block there.1).not_lost (subst (IsLostHeader known.image) (sym there.2) lost) })))

  -- what is found of them, in this image and with these holes, where fillers count or not
  entry_of : (image : List ℕ) (holes : List Bool) (fillers : Bool) (found : List Salvaged) → image ≡ known.image → holes ≡ known.holes.items → fillers ≡ known.fillers → found ≡ new.entries.items
      → All (λ (entry : Salvaged). entry.found ≡ true → IsSalvaged known.left_out holes fillers image entry) found
  entry_of image holes fillers found i h f e =
      subst (λ (xs : List ℕ). All (λ (entry : Salvaged). entry.found ≡ true → IsSalvaged known.left_out holes fillers xs entry) found) (sym i)
      (subst (λ (marks : List Bool). All (λ (entry : Salvaged). entry.found ≡ true → IsSalvaged known.left_out marks fillers known.image entry) found) (sym h)
      (subst (λ (counted : Bool). All (λ (entry : Salvaged). entry.found ≡ true → IsSalvaged known.left_out known.holes.items counted known.image entry) found) (sym f)
      (subst (All (λ (entry : Salvaged). entry.found ≡ true → IsSalvaged known.left_out known.holes.items known.fillers known.image entry)) (sym e) told_found)))

  -- a found entry is behind those of the tree, and says how many of its blocks are missing
  found_behind : (place : ℕ) (entry : Salvaged) → place < length new.entries.items → IsAt new.entries.items place entry → entry.found ≡ true → known.before ≤ place
  found_behind place entry inside at is = elim (cases_lt place (length old.entries.items)) [
    | inl l ↦
        (let same : get_or old.entries.items place entry ≡ entry =
        sym (get_or_append_left old.entries.items adds.found entry place l) ∙ ap (λ (xs : List Salvaged). get_or xs place entry) (sym adds.added) ∙ at in
        let never : true ≡ false = sym is ∙ ap (λ (x : Salvaged). x.found) (sym same) ∙ reached place entry l in
        absurd (cc never))
    | inr l ↦ omega (arith, l, many)
  ]

  due_in : (s : Saved) → s.image ≡ known.image → s.entries ≡ new.entries.items → s.given ≡ new.giving.pieces.items → AreDue s
  due_in s i e p = record {
    within = λ k d l.
        subst (λ (found : List Salvaged). (get_or s.given k d).place < length found) (sym e)
        (subst (λ (given : List Piece). (get_or given k d).place < length new.entries.items) (sym p) (by.so_far.counted.within k d (subst (λ (given : List Piece). k < length given) p l)));
    due = λ k d l entry at.
        subst (λ (image : List ℕ). IsDue image entry.header (get_or s.given k d).at (get_or s.given k d).block) (sym i)
        (subst (λ (given : List Piece). IsDue known.image entry.header (get_or given k d).at (get_or given k d).block) (sym p)
        (by.so_far.counted.due k d (subst (λ (given : List Piece). k < length given) p l) entry
        (subst (λ (given : List Piece). IsAt new.entries.items (get_or given k d).place entry) p (subst (λ (found : List Salvaged). IsAt found (get_or s.given k d).place entry) e at))));
  }

  missing_in_found : (s : Saved) → s.image ≡ known.image → s.entries ≡ new.entries.items → s.given ≡ new.giving.pieces.items → (place : ℕ) (entry : Salvaged) → place < length s.entries → IsAt s.entries place entry
      → entry.found ≡ true → TellsMissing s.image s.given place entry.header entry.state
  missing_in_found s i e p place entry inside at is =
      let there : place < length new.entries.items = omega (arith, inside, ap length e) in
      let same : IsAt new.entries.items place entry = subst (λ (xs : List Salvaged). IsAt xs place entry) e at in
      let told : IsSalvaged known.left_out known.holes.items known.fillers known.image entry =
      subst (λ (x : Salvaged). IsSalvaged known.left_out known.holes.items known.fillers known.image x) same (told_found place entry there (ap (λ (x : Salvaged). x.found) same ∙ is)) in
      subst (λ (image : List ℕ). TellsMissing image s.given place entry.header entry.state) (sym i)
      (subst (λ (given : List Piece). TellsMissing known.image given place entry.header entry.state) (sym p)
      (by.so_far.counted.counted place entry (found_behind place entry there same is) there same told.header))

  pub finds_lost : (s : Saved) → s.image ≡ known.image → s.entries ≡ new.entries.items → s.given ≡ new.giving.pieces.items → s.holes ≡ known.holes.items → s.fillers ≡ known.fillers → FindsLost s
  finds_lost s i e p h f = record {
    out = known.left_out;
    hidden = subst (λ (image : List ℕ). AreHidden image known.left_out) (sym i) hidden;
    told = entry_of s.image s.holes s.fillers s.entries i h f e;
    once = subst (λ (found : List Salvaged). AllPairs (λ a b. a ≢ b) (headers_of found)) (sym e) (headers_once known.before known.left_out known.holes.items known.fillers known.image new by.so_far);
    all = λ block lost. subst (λ (found : List Salvaged). Contains (headers_of found) block) (sym e) (lost_told block (subst (λ (image : List ℕ). IsLostHeader image block) i lost));
    apart = subst AreApart (sym p) by.so_far.giving.once;
    there = subst (All (λ (piece : Piece). ¬ IsHole s.holes piece.block)) (sym p) (subst (λ (holes : List Bool). All (λ (piece : Piece). ¬ IsHole holes piece.block) new.giving.pieces.items) (sym h) by.so_far.giving.there);
    bounded = omega (arith, by.so_far.bounded, ap broken_total e, ap length i);
    missing = λ place entry inside at is. missing_in_found s i e p place entry inside at is;
    due = due_in s i e p;
  }

  -- the salvage of the tree, with what is found behind its entries
  pub adds_lost : (tree s : Saved) → old.entries.items ≡ tree.entries → known.image ≡ tree.image → known.holes.items ≡ tree.holes → known.fillers ≡ tree.fillers → s.accepted ≡ tree.accepted → s.trusted ≡ tree.trusted → s.deleted ≡ tree.deleted
      → s.image ≡ known.image → s.entries ≡ new.entries.items → s.given ≡ new.giving.pieces.items → s.holes ≡ known.holes.items → s.fillers ≡ known.fillers → AddsLost tree s
  adds_lost tree s entries image holes fillers accepted trusted deleted i e p h f = record {
    found = adds.found;
    added = e ∙ adds.added ∙ ap (λ xs. xs ++ adds.found) entries;
    besides = λ k d l. (adds.each k d l).0;
    finds = finds_lost s i e p h f;
    accepted = accepted;
    image = i ∙ image;
    trusted = trusted;
    deleted = deleted;
    holes = h ∙ holes;
    fillers = f ∙ fillers;
  }

  -- the whole files of the tree and those that are found can be read
  pub found_readable : All (IsReadable known.image) old.entries.items → All (IsReadable known.image) new.entries.items
  found_readable tree = subst (All (IsReadable known.image)) (sym adds.added)
      (All-append (IsReadable known.image) old.entries.items adds.found tree
      (λ k d l. salvaged_readable known.left_out known.holes.items known.fillers known.image (get_or adds.found k d) (adds.each k d l).1))
