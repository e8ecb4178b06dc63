-- What is told of blocks with their owners, while it is written.
use Rattle.adf_where.proofs.Common.{◌≡◌, ℕ, suc, ◌+◌, ◌<◌, ◌≤◌, ◌==◌, Bool, true, All, List, [], ◌∷◌, ◌++◌, length, get_or, take, map, Option, Some, option_map, refl, sym, ap, ap₂, ◌∙◌, subst, arith, take_all, get_or-map, slice_get-get_or, All-head, All-tail, Stands, Tree, count_same, Owner, Boot, AreNamed, AreOwners, AreTold, Told, told_at, told_of, told_tokens, where_line, where_of}
use Rattle.std.specs.Io.KnownBytes.{Appends}
use Rattle.adf_block.specs.Image.{block_count}
use Rattle.adf_io.specs.Prefix.{IsPrefixOf, Passes, Writes, WritesFront, WritesFrontOf}
use Rattle.adf_cli.specs.declared.block_word.BlockWord.{BlockWord}
use Rattle.adf_where.specs.Where.{IsWhere}
use Rattle.adf_where.specs.steps.Parts.{IsTextOf, closing, opening, part}
use Rattle.adf_where.proofs.Objects.{told_objects}
use Rattle.adf_where.proofs.Parts.{parts, parts_more, parts_prefix, told_whole}
use Rattle.adf_where.proofs.Passing.{passes_more}

-- what is told of these blocks
abbrev pub told_list : Tree → List Bool → List Owner → List ℕ → List Told
told_list t unread owners blocks = map (λ block. told_of t unread block (get_or owners block Boot)) blocks

told_length : (t : Tree) (unread : List Bool) (owners : List Owner) (blocks : List ℕ) → length (told_list t unread owners blocks) ≡ length blocks
told_length t unread owners [] = refl
told_length t unread owners (b ∷ bs) = ap suc (told_length t unread owners bs)

pub are_told : (t : Tree) (unread : List Bool) (owners : List Owner) (blocks : List ℕ) → All (λ block. block < length owners) blocks → AreTold t unread owners blocks (told_list t unread owners blocks)
are_told t unread owners [] inside = refl
are_told t unread owners (b ∷ bs) inside =
    ap₂ (λ (x : Option Told) (xs : List (Option Told)). x ∷ xs)
    (ap (option_map (told_of t unread b)) (slice_get-get_or owners b Boot (All-head (λ block. block < length owners) b bs inside)))
    (are_told t unread owners bs (All-tail (λ block. block < length owners) b bs inside))

-- what is told of a block by its owner
told_here : (t : Tree) (unread : List Bool) (owners : List Owner) (block : ℕ) (one : Told) → block < length owners → told_at t unread owners block ≡ Some one → told_of t unread block (get_or owners block Boot) ≡ one
told_here t unread owners block one inside is =
    let e : Some (told_of t unread block (get_or owners block Boot)) ≡ Some one = sym (ap (option_map (told_of t unread block)) (slice_get-get_or owners block Boot inside)) ∙ is in
    cc e

module _ (json : Bool) (unread : List Bool) (t : Tree) (owners : List Owner) (blocks : List ℕ) where
  abbrev whole : List ℕ
  whole = where_of json t.blocks (told_list t unread owners blocks)

  -- the text up to one of the blocks
  abbrev pub owned_to : ℕ → List ℕ
  owned_to n = opening json ++ parts (told_tokens t.blocks) (where_line t.blocks) json true (take n (told_list t unread owners blocks))

  pub owned_front : (n : ℕ) → IsPrefixOf whole (owned_to n)
  owned_front n =
      parts_prefix (told_tokens t.blocks) (where_line t.blocks) json (opening json) (closing json) (told_list t unread owners blocks) n whole
      (told_whole (told_tokens t.blocks) (where_line t.blocks) (told_objects t.blocks) json (told_list t unread owners blocks))

  -- one more block
  pub owned_more : (old mid : Option (List ℕ)) (text longer : List ℕ) (n count block : ℕ) (one : Told) → Passes old mid (owned_to n) text → count ≡ t.blocks → n < length blocks
      → block ≡ get_or blocks n 0 → block < length owners → told_at t unread owners block ≡ Some one → longer ≡ text ++ part json (n == 0) (told_tokens count) (where_line count) one
      → Passes old mid (owned_to (n + 1)) longer
  owned_more old mid text longer n count block one so_far of_count inside is within at pushed =
      let f = λ (b : ℕ). told_of t unread b (get_or owners b Boot) in
      let here : get_or (told_list t unread owners blocks) n one ≡ one = get_or-map f blocks n 0 one inside ∙ ap f (sym is) ∙ told_here t unread owners block one within at in
      let listed : n < length (told_list t unread owners blocks) = omega (arith, inside, told_length t unread owners blocks) in
      let next = part json (n == 0) (told_tokens t.blocks) (where_line t.blocks) one in
      subst (λ (l : List ℕ). Passes old mid l longer)
      (parts_more (told_tokens t.blocks) (where_line t.blocks) json (opening json) (told_list t unread owners blocks) n one listed here)
      (passes_more old mid (owned_to n) text so_far next longer (pushed ∙ ap (λ (m : ℕ). text ++ part json (n == 0) (told_tokens m) (where_line m) one) of_count))

  -- the end
  pub owned_end : (old mid : Option (List ℕ)) (text longer : List ℕ) (n : ℕ) → Passes old mid (owned_to n) text → length blocks ≤ n → longer ≡ text ++ closing json → Passes old mid whole longer
  owned_end old mid text longer n so_far over pushed =
      let all : length (told_list t unread owners blocks) ≤ n = omega (arith, over, told_length t unread owners blocks) in
      subst (λ (l : List ℕ). Passes old mid l longer)
      (ap (λ (l : List Told). (opening json ++ parts (told_tokens t.blocks) (where_line t.blocks) json true l) ++ closing json) (take_all n (told_list t unread owners blocks) all)
      ∙ sym (told_whole (told_tokens t.blocks) (where_line t.blocks) (told_objects t.blocks) json (told_list t unread owners blocks)))
      (passes_more old mid (owned_to n) text so_far (closing json) longer pushed)

-- the whole text tells of the blocks
owned_text : (image : List ℕ) (t : Tree) → Stands image t → (owners : List Owner) → AreOwners image t owners → (blocks : List ℕ) → All (λ block. block < block_count image) blocks → (json : Bool) (unread : List Bool)
    → IsTextOf json unread t owners blocks (where_of json t.blocks (told_list t unread owners blocks))
owned_text image t s owners are blocks inside json unread = record {
  told = told_list t unread owners blocks;
  are_told = are_told t unread owners blocks (λ k d l. omega (arith, inside k d l, are.count, count_same image t s));
  text_is = refl;
}

module _ (image : List ℕ) (owners : List Owner) (are : (t : Tree) → Stands image t → AreOwners image t owners) (blocks : List ℕ) (inside : All (λ block. block < block_count image) blocks) (json : Bool) (unread : List Bool)
    (old new : Option (List ℕ)) where
  pub owned_fronts : ((t : Tree) → Stands image t → WritesFront old new (where_of json t.blocks (told_list t unread owners blocks))) → (t : Tree) → Stands image t → WritesFrontOf old new (IsTextOf json unread t owners blocks)
  owned_fronts front t s = (where_of json t.blocks (told_list t unread owners blocks), owned_text image t s owners (are t s) blocks inside json unread, front t s)

  pub owned_written : ((t : Tree) → Stands image t → Appends old new (where_of json t.blocks (told_list t unread owners blocks))) → (t : Tree) → Stands image t → Writes old new (IsTextOf json unread t owners blocks)
  owned_written appended t s = (where_of json t.blocks (told_list t unread owners blocks), appended t s, owned_text image t s owners (are t s) blocks inside json unread)

-- these are the blocks that the arguments name, and the owners are those of the volume
module _ (json : Bool) (unread : List Bool) (image : List ℕ) (t : Tree) (words : List BlockWord) (blocks : List ℕ) (owners : List Owner) (named : AreNamed t.blocks words blocks) (are : AreOwners image t owners) where
  is_where : (text : List ℕ) → IsTextOf json unread t owners blocks text → IsWhere json unread image t words text
  is_where text told = record { blocks = blocks; named = named; owners = owners; owned = are; told = told.told; are_told = told.are_told; text_is = told.text_is }

  pub writes_where : (old new : Option (List ℕ)) → Writes old new (IsTextOf json unread t owners blocks) → Writes old new (IsWhere json unread image t words)
  writes_where old new (text, appended, told) = (text, appended, is_where text told)

  pub front_where : (old new : Option (List ℕ)) → WritesFrontOf old new (IsTextOf json unread t owners blocks) → WritesFrontOf old new (IsWhere json unread image t words)
  front_where old new (text, told, front) = (text, is_where text told, front)
