-- Items whose names in a directory differ, and the files among them.
use Rattle.std.proofs.Common.{◌≡◌, ◌≢◌, ℕ, ◌+◌, ◌<◌, ◌≤◌, inl, inr, Bool, true, false, cond, List, [], ◌∷◌, ◌++◌, length, All, AllPairs, get_or, take, Option, None, Some, refl, sym, ap, ap₂, subst, ◌∙◌, arith}
use Rattle.std.specs.Prelude.{codes, decimal}
use Rattle.std.specs.BTreeSet.{contains_text}
use Rattle.std.specs.Str.{bytes_eq}
use Rattle.std.proofs.lemmas.Bool.{cases_eq, cases_lt, cond-true, cond-false, false_from_ne_true, true≢false}
use Rattle.std.proofs.lemmas.List.{append-nil, append_assoc, append_cancel_left, get_or_default, length-append, length-take-le, same_from_push, take_more}
use Rattle.std.proofs.lemmas.List.Elements.{All-cons, All-nil, All-push}
use Rattle.std.proofs.lemmas.List.Quantifiers.{all_pairs_push}
use Rattle.std.proofs.lemmas.Slice.Eq.{bytes_eq-Decides}
use Rattle.adf_host.specs.Notes.{note_of}
use Rattle.adf_host.specs.declared.trees.items.HostItem.{HostItem}
unfoldable use Rattle.adf_rescue.specs.Paths.{files_from}
use Rattle.adf_rescue.specs.Paths.{ArePathsApart, HasPath, IsItem, file_at}
use Rattle.adf_rescue.specs.Paths.HasPath.{at_top, below}
use Rattle.ados_salvage.specs.declared.salvaged.Salvaged.{Salvaged}
use Rattle.adf_rescue.specs.declared.sourced.SourcedItems.{SourcedItems}
use Rattle.adf_rescue.specs.steps.Sourcing.{AreApart, AreNamedApart, IsFree, IsFreeName, IsInUse, place_text}

-- a name is shorter than its text
longer_place : (above : Option ℕ) (name : List ℕ) → length name + 1 ≤ length (place_text above name)
longer_place None name = omega (arith, length-append (codes "/") name)
longer_place (Some dir) name =
    let parts : length (place_text (Some dir) name) ≡ length (decimal dir ++ codes "/") + length name = length-append (decimal dir ++ codes "/") name in
    let front : length (decimal dir ++ codes "/") ≡ length (decimal dir) + 1 = length-append (decimal dir) (codes "/") in
    omega (arith, parts, front)

-- a text that is not equal to a name's
not_same : (key text : List ℕ) → key ≢ text → bytes_eq key text ≡ false
not_same key text differ = false_from_ne_true (bytes_eq key text) (λ is. differ ((bytes_eq-Decides key text).0 is))

-- nothing longer than all names is in use
pub free_if_long : (out : SourcedItems) → AreApart out → (above : Option ℕ) (name : List ℕ) → out.longest ≤ length name → IsFreeName out above name
free_if_long out a above name long = record {
  own = false_from_ne_true (contains_text out.taken (place_text above name)) (λ is. omega (arith, a.short (place_text above name) is, longer_place above name, long));
  note = λ _. false_from_ne_true (contains_text out.taken (place_text above (note_of name)))
      (λ is. omega (arith, a.short (place_text above (note_of name)) is, longer_place above (note_of name), length-append name (codes ".uaem"), long));
}

pub plain_ending : All (λ c. (c ≢ 0) × (c ≢ 47)) (codes "~2")
plain_ending =
    All-cons (λ (c : ℕ). (c ≢ 0) × (c ≢ 47)) 126 (50 ∷ []) (λ e. omega (arith, e), λ e. omega (arith, e))
    (All-cons (λ (c : ℕ). (c ≢ 0) × (c ≢ 47)) 50 [] (λ e. omega (arith, e), λ e. omega (arith, e)) (All-nil (λ (c : ℕ). (c ≢ 0) × (c ≢ 47))))

-- the text of a note's name is not that of the name
other_note : (front name : List ℕ) → front ++ name ≢ front ++ note_of name
other_note front name same =
    let longer : length (note_of name) ≡ length name + 5 = length-append name (codes ".uaem") in
    let both : length name ≡ length (note_of name) = ap length (append_cancel_left front name (note_of name) same) in
    omega (arith, both, longer)

place_of_note : (above : Option ℕ) (name : List ℕ) → place_text above name ≢ place_text above (note_of name)
place_of_note None name same = other_note (codes "/") name same
place_of_note (Some dir) name same = other_note (decimal dir ++ codes "/") name same

or_before : (b c : Bool) → c ≡ true → cond b true c ≡ true
or_before true c is = refl
or_before false c is = is

module _ (old new : SourcedItems) (item : HostItem) (a : AreApart old) (free : IsFree old item.above item.name)
    (taken : (text : List ℕ) → contains_text new.taken text ≡ cond (bytes_eq (place_text item.above item.name) text) true (contains_text old.taken text)) where
  still : (text : List ℕ) → contains_text old.taken text ≡ true → contains_text new.taken text ≡ true
  still text is = taken text ∙ or_before (bytes_eq (place_text item.above item.name) text) (contains_text old.taken text) is

  now_used : IsInUse new item.above item.name
  now_used =
      let key = place_text item.above item.name in
      taken key ∙ cond-true (bytes_eq key key) true (contains_text old.taken key) ((bytes_eq-Decides key key).1 refl)

  other : (one : HostItem) → IsInUse old one.above one.name → AreNamedApart one item
  other one used above name = true≢false (sym used ∙ ap (contains_text old.taken) (ap₂ place_text above name) ∙ free)

  short : old.longest ≤ new.longest → length (place_text item.above item.name) ≤ new.longest → (text : List ℕ) → contains_text new.taken text ≡ true → length text ≤ new.longest
  short longer fits text is = within (bytes_eq (place_text item.above item.name) text) refl
    where
      within : (b : Bool) → bytes_eq (place_text item.above item.name) text ≡ b → length text ≤ new.longest
      within true same = omega (arith, fits, ap length ((bytes_eq-Decides (place_text item.above item.name) text).0 same))
      within false differ =
          omega (arith, longer, a.short text (sym (cond-false (bytes_eq (place_text item.above item.name) text) true (contains_text old.taken text) differ) ∙ sym (taken text) ∙ is))

  -- one more item, whose name was free
  pub apart_more : old.longest ≤ new.longest → length (place_text item.above item.name) ≤ new.longest → new.items.items ≡ old.items.items ++ item ∷ [] → AreApart new
  apart_more longer fits more = record {
    apart = subst (AllPairs AreNamedApart) (sym more)
        (all_pairs_push AreNamedApart old.items.items item a.apart (λ k d l. other (get_or old.items.items k d) (a.used k d l)));
    used = subst (All (λ (one : HostItem). IsInUse new one.above one.name)) (sym more)
        (All-push (λ (one : HostItem). IsInUse new one.above one.name) old.items.items item
        (λ k d l. still (place_text (get_or old.items.items k d).above (get_or old.items.items k d).name) (a.used k d l)) now_used);
    short = short longer fits;
  }

-- the name of a note is still free behind that of its item
pub note_still_free : (old new : SourcedItems) (above : Option ℕ) (name note : List ℕ) → note ≡ note_of name → IsFree old above (note_of name)
    → ((text : List ℕ) → contains_text new.taken text ≡ cond (bytes_eq (place_text above name) text) true (contains_text old.taken text)) → IsFree new above note
note_still_free old new above name note is free taken =
    subst (IsFree new above) (sym is)
    (taken (place_text above (note_of name))
    ∙ cond-false (bytes_eq (place_text above name) (place_text above (note_of name))) true (contains_text old.taken (place_text above (note_of name)))
    (not_same (place_text above name) (place_text above (note_of name)) (place_of_note above name))
    ∙ free)

-- a path has a name
not_empty : (items : List HostItem) (place : ℕ) (path : List (List ℕ)) → HasPath items place path → path ≢ []
not_empty items place path (at_top _ _ item at above is) e = absurd (cc (sym is ∙ e))
not_empty items place path (below _ _ item dir front at above up is) e =
    omega (arith, ap length (sym is ∙ e), length-append front (item.name ∷ []))

module _ (items : List HostItem) (apart : AllPairs AreNamedApart items) where
  -- two items of one directory with one name are one
  same_place : (one other : ℕ) (a b : HostItem) → IsItem items one a → IsItem items other b → a.above ≡ b.above → a.name ≡ b.name → one ≡ other
  same_place one other a b at_one at_other above name = elim (cases_eq one other) [
    | inl same ↦ same
    | inr differ ↦ (elim (cases_lt one other) [
      | inl before ↦ absurd (apart one other a before at_other.inside (ap (λ (i : HostItem). i.above) at_one.at ∙ above ∙ ap (λ (i : HostItem). i.above) (sym (read other b a at_other)))
          (ap (λ (i : HostItem). i.name) at_one.at ∙ name ∙ ap (λ (i : HostItem). i.name) (sym (read other b a at_other))))
      | inr after ↦ absurd (apart other one b (omega (arith, after, differ)) at_one.inside (ap (λ (i : HostItem). i.above) at_other.at ∙ sym above ∙ ap (λ (i : HostItem). i.above) (sym (read one a b at_one)))
          (ap (λ (i : HostItem). i.name) at_other.at ∙ sym name ∙ ap (λ (i : HostItem). i.name) (sym (read one a b at_one))))
    ])
  ]
    where
      read : (place : ℕ) (item d : HostItem) → IsItem items place item → get_or items place d ≡ item
      read place item d at = get_or_default items place d item at.inside ∙ at.at

  -- so two items with one path are one
  pub same_item : (one other : ℕ) (path : List (List ℕ)) → HasPath items one path → HasPath items other path → one ≡ other
  same_item one other path (at_top _ _ a at_one above is) (at_top _ _ b at_other above_other is_other) =
      let names : a.name ∷ [] ≡ b.name ∷ [] = sym is ∙ is_other in
      same_place one other a b at_one at_other (above ∙ sym above_other) (cc names)
  same_item one other path (at_top _ _ a at_one above is) (below _ _ b dir front at_other above_other up is_other) =
      absurd (not_empty items dir front up (sym (same_from_push [] front a.name b.name (sym is ∙ is_other)).0))
  same_item one other path (below _ _ a dir front at_one above up is) (at_top _ _ b at_other above_other is_other) =
      absurd (not_empty items dir front up (same_from_push front [] a.name b.name (sym is ∙ is_other)).0)
  same_item one other path (below _ _ a dir front at_one above up is) (below _ _ b dir_other front_other at_other above_other up_other is_other) =
      let split = same_from_push front front_other a.name b.name (sym is ∙ is_other) in
      let dirs : dir ≡ dir_other = same_item dir dir_other front up (subst (HasPath items dir_other) (sym split.0) up_other) in
      same_place one other a b at_one at_other (above ∙ ap Some dirs ∙ sym above_other) split.1

pub paths_apart : (out : SourcedItems) → AreApart out → ArePathsApart out.items.items
paths_apart out a = same_item out.items.items a.apart

pub no_files : (place : ℕ) → files_from place [] ≡ []
unfolding files_from
no_files place = refl

files_push : (place : ℕ) (xs : List Salvaged) (e : Salvaged) → files_from place (xs ++ e ∷ []) ≡ files_from place xs ++ file_at (place + length xs) e.state
unfolding files_from
files_push place [] e = append-nil (file_at place e.state) ∙ ap (λ (n : ℕ). file_at n e.state) (omega arith)
files_push place (x ∷ xs) e =
    let next : place + 1 + length xs ≡ place + length (x ∷ xs) = omega arith in
    ap (λ (l : List ℕ). file_at place x.state ++ l) (files_push (place + 1) xs e ∙ ap (λ (n : ℕ). files_from (place + 1) xs ++ file_at n e.state) next)
    ∙ sym (append_assoc (file_at place x.state) (files_from (place + 1) xs) (file_at (place + length (x ∷ xs)) e.state))

-- the files, with those of one more entry
pub files_more : (entries : List Salvaged) (place : ℕ) (entry : Salvaged) → place < length entries → get_or entries place entry ≡ entry
    → files_from 0 (take (place + 1) entries) ≡ files_from 0 (take place entries) ++ file_at place entry.state
files_more entries place entry inside at =
    let all : take (place + 1) entries ≡ take place entries ++ entry ∷ [] = take_more entries place entry inside ∙ ap (λ (e : Salvaged). take place entries ++ e ∷ []) at in
    let count : 0 + length (take place entries) ≡ place = omega (arith, length-take-le place entries (omega arith)) in
    ap (files_from 0) all ∙ files_push 0 (take place entries) entry ∙ ap (λ (n : ℕ). files_from 0 (take place entries) ++ file_at n entry.state) count
