-- What is told of blocks of a refused image, while it is written.
use Rattle.adf_where.proofs.Common.{◌≡◌, ℕ, ◌+◌, ◌<◌, ◌≤◌, ◌==◌, Bool, true, false, List, [], ◌∷◌, ◌++◌, codes, length, get_or, get_or_default, take, Option, refl, sym, ap, ap₂, ◌∙◌, subst, append_assoc, array_of, take_all, AllZip, AreNamed, FaultyBlock, IsFaultyBlock, Place, place_object}
use Rattle.adf_io.specs.Prefix.{IsPrefixOf, Passes}
use Rattle.adf_block.specs.Image.{block_count}
use Rattle.adf_cli.specs.declared.block_word.BlockWord.{BlockWord}
use Rattle.json.specs.Token.{end_object}
use Rattle.json.specs.Print.{print, print_from}
use Rattle.json.proofs.Printed.Tokens.{print_from-append}
use Rattle.adf_where.specs.Faulty.{IsFaultyWhere, block_lines, faulty_of, faulty_tokens}
use Rattle.adf_where.specs.steps.Parts.{before_blocks, block_part, blocks_text, comma, head_part, object_end, opening, place_part, refused_front, tail_part}
use Rattle.adf_where.proofs.Objects.{block_whole, faulty_objects, place_line}
use Rattle.adf_where.proofs.Parts.{after_value, array_whole, parts, parts_more, parts_prefix, told_whole}
use Rattle.adf_where.proofs.Passing.{passes_more}

-- what is told of blocks in parts
blocks_whole : (json : Bool) (blocks : ℕ) (told : List FaultyBlock)
    → blocks_text json blocks told ≡ (opening json ++ parts (faulty_tokens blocks) (block_lines blocks) json true told) ++ object_end json
blocks_whole false blocks told = told_whole (faulty_tokens blocks) (block_lines blocks) (faulty_objects blocks) false told
blocks_whole true blocks told = array_whole (faulty_tokens blocks) (block_lines blocks) (faulty_objects blocks) (codes "}\n") told

-- what is before the blocks, and the blocks
module _ (json : Bool) (line : List ℕ) (blocks : ℕ) (told : List FaultyBlock) where
  abbrev whole : List ℕ
  whole = line ++ blocks_text json blocks told

  -- the text up to one of the blocks
  abbrev pub faulty_to : ℕ → List ℕ
  faulty_to n = (line ++ opening json) ++ parts (faulty_tokens blocks) (block_lines blocks) json true (take n told)

  in_parts : whole ≡ ((line ++ opening json) ++ parts (faulty_tokens blocks) (block_lines blocks) json true told) ++ object_end json
  in_parts =
      let them = parts (faulty_tokens blocks) (block_lines blocks) json true told in
      ap (λ (l : List ℕ). line ++ l) (blocks_whole json blocks told)
      ∙ sym (append_assoc line (opening json ++ them) (object_end json))
      ∙ ap (λ (l : List ℕ). l ++ object_end json) (sym (append_assoc line (opening json) them))

  pub faulty_front : (n : ℕ) → IsPrefixOf whole (faulty_to n)
  faulty_front n = parts_prefix (faulty_tokens blocks) (block_lines blocks) json (line ++ opening json) (object_end json) told n whole in_parts

  -- one more block waits, behind its comma
  pub faulty_more : (old mid : Option (List ℕ)) (text longer : List ℕ) (n : ℕ) (d : FaultyBlock) → Passes old mid (faulty_to n) text → longer ≡ text ++ comma json (n == 0) → n < length told
      → Passes old mid (faulty_to (n + 1)) (longer ++ block_part json blocks (get_or told n d))
  faulty_more old mid text longer n d so_far pushed inside =
      let one = get_or told n d in
      let is : get_or told n one ≡ one = sym (get_or_default told n d one inside) in
      let behind = passes_more old mid (faulty_to n) text so_far (comma json (n == 0)) longer pushed in
      subst (λ (l : List ℕ). Passes old mid l (longer ++ block_part json blocks one))
      (append_assoc (faulty_to n) (comma json (n == 0)) (block_part json blocks one)
      ∙ parts_more (faulty_tokens blocks) (block_lines blocks) json (line ++ opening json) told n one inside is)
      (passes_more old mid (faulty_to n ++ comma json (n == 0)) longer behind (block_part json blocks one) (longer ++ block_part json blocks one) refl)

  -- the end
  pub faulty_end : (old mid : Option (List ℕ)) (text longer : List ℕ) (n : ℕ) → Passes old mid (faulty_to n) text → length told ≤ n → longer ≡ text ++ object_end json → Passes old mid whole longer
  faulty_end old mid text longer n so_far over pushed =
      subst (λ (l : List ℕ). Passes old mid l longer)
      (ap (λ (l : List FaultyBlock). ((line ++ opening json) ++ parts (faulty_tokens blocks) (block_lines blocks) json true l) ++ object_end json) (take_all n told over) ∙ sym in_parts)
      (passes_more old mid (faulty_to n) text so_far (object_end json) longer pushed)

-- one block, behind what is kept
module _ (json : Bool) (kept : List ℕ) (blocks : ℕ) (told : FaultyBlock) where
  -- the text up to one of its places
  abbrev pub block_to : ℕ → List ℕ
  block_to n = (kept ++ head_part json blocks told) ++ parts place_object (place_line blocks told.block) json true (take n told.places.now)

  pub block_front : (n : ℕ) → IsPrefixOf (kept ++ block_part json blocks told) (block_to n)
  block_front n =
      parts_prefix place_object (place_line blocks told.block) json (kept ++ head_part json blocks told) (tail_part json told) told.places.now n (kept ++ block_part json blocks told)
      (block_whole json kept blocks told)

  -- one more place
  pub block_more : (old mid : Option (List ℕ)) (text longer : List ℕ) (n : ℕ) (d : Place) → Passes old mid (block_to n) text → n < length told.places.now
      → longer ≡ text ++ place_part json (n == 0) blocks told.block (get_or told.places.now n d) → Passes old mid (block_to (n + 1)) longer
  block_more old mid text longer n d so_far inside pushed =
      let one = get_or told.places.now n d in
      let is : get_or told.places.now n one ≡ one = sym (get_or_default told.places.now n d one inside) in
      subst (λ (l : List ℕ). Passes old mid l longer)
      (parts_more place_object (place_line blocks told.block) json (kept ++ head_part json blocks told) told.places.now n one inside is)
      (passes_more old mid (block_to n) text so_far (place_part json (n == 0) blocks told.block one) longer pushed)

  -- the end
  pub block_end : (old mid : Option (List ℕ)) (text longer : List ℕ) (n : ℕ) → Passes old mid (block_to n) text → length told.places.now ≤ n → longer ≡ text ++ tail_part json told
      → Passes old mid (kept ++ block_part json blocks told) longer
  block_end old mid text longer n so_far over pushed =
      subst (λ (l : List ℕ). Passes old mid l longer)
      (ap (λ (l : List Place). ((kept ++ head_part json blocks told) ++ parts place_object (place_line blocks told.block) json true l) ++ tail_part json told) (take_all n told.places.now over)
      ∙ sym (block_whole json kept blocks told))
      (passes_more old mid (block_to n) text so_far (tail_part json told) longer pushed)

-- no comma is printed before the bracket that closes an object
object_closed : (after : Bool) → print_from after (end_object ∷ []) ≡ codes "}"
unfolding print_from
object_closed true = refl
object_closed false = refl

-- what is before the blocks, and the blocks, are the whole text
front_whole : (json : Bool) (kind : List ℕ) (at blocks : ℕ) (told : List FaultyBlock) → refused_front json kind at ++ blocks_text json blocks told ≡ faulty_of json kind at blocks told
front_whole false kind at blocks told = refl
front_whole true kind at blocks told =
    let front = before_blocks kind at in
    let array = array_of (faulty_tokens blocks) told in
    sym
    (ap (λ (l : List ℕ). l ++ codes "\n")
    (print_from-append false front (array ++ end_object ∷ [])
    ∙ ap (λ (l : List ℕ). print front ++ l) (print_from-append false array (end_object ∷ []) ∙ ap (λ (l : List ℕ). print array ++ l) (object_closed (after_value false array))))
    ∙ append_assoc (print front) (print array ++ codes "}") (codes "\n")
    ∙ ap (λ (l : List ℕ). print front ++ l) (append_assoc (print array) (codes "}") (codes "\n")))

-- the text tells of the blocks that the arguments name
pub faulty_text : (json : Bool) (unread : List Bool) (image kind : List ℕ) (at : ℕ) (words : List BlockWord) (count : ℕ) (blocks : List ℕ) (told now : List FaultyBlock) (front : List ℕ) → count ≡ block_count image
    → AreNamed count words blocks → AllZip (IsFaultyBlock image unread) blocks told → now ≡ told → front ≡ refused_front json kind at
    → IsFaultyWhere json unread image kind at words (front ++ blocks_text json count now)
faulty_text json unread image kind at words count blocks told now front of_count named are same is = record {
  blocks = blocks;
  named = subst (λ (n : ℕ). AreNamed n words blocks) of_count named;
  told = told;
  are_told = are;
  text_is =
      ap₂ (λ (f : List ℕ) (them : List FaultyBlock). f ++ blocks_text json count them) is same
      ∙ ap (λ (n : ℕ). refused_front json kind at ++ blocks_text json n told) of_count
      ∙ front_whole json kind at (block_count image) told;
}
