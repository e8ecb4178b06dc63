-- The parts of what is told of a block.
use Rattle.adf_where.proofs.Common.{◌≡◌, ℕ, Bool, true, false, List, [], ◌∷◌, ◌++◌, codes, refl, sym, ap, ap₂, ◌∙◌, append_assoc, flat_map, FaultyBlock, Option, Some, None, Place, block_line, fault_word, place_object, place_words, told_tokens}
use Rattle.std.proofs.lemmas.List.Sums.{fold-append}
use Rattle.json.specs.Token.{Token, boolean, end_array, end_object, key}
use Rattle.json.specs.Print.{ends, print}
use Rattle.json.proofs.Printed.Tokens.{print_from-append}
use Rattle.adf_where.specs.Faulty.{behind_lines, faults_tokens, faulty_tokens, first_line}
use Rattle.adf_where.specs.Where.{unread_tokens}
use Rattle.adf_where.specs.steps.Parts.{block_part, head_part, head_tokens, tail_part}
use Rattle.adf_where.proofs.Parts.{AreObjects, after_value, behind_comma, no_comma, parts, parts_lines, parts_objects}

-- an object ends behind its last member, if that is there
object_ends : (before : Bool) (unread : Option Bool) → after_value before (unread_tokens unread ++ end_object ∷ []) ≡ true
object_ends before (Some unread) = refl
object_ends before None = refl

pub told_objects : (blocks : ℕ) → AreObjects (told_tokens blocks)
told_objects blocks = record { begins = λ first one. behind_comma first _; whole = λ before one. object_ends _ one.unread }

pub place_objects : AreObjects place_object
place_objects = record { begins = λ first one. behind_comma first _; whole = λ before one. refl }

-- the members behind the faults
abbrev last_tokens : FaultyBlock → List Token
last_tokens told = key (codes "more") ∷ boolean false ∷ (unread_tokens told.unread ++ end_object ∷ [])

pub faulty_objects : (blocks : ℕ) → AreObjects (faulty_tokens blocks)
faulty_objects blocks = record {
  begins = λ first one. behind_comma first _;
  whole = λ before one.
      fold-append (λ _ (t : Token). ends t) false (flat_map place_object one.places.now ++ end_array ∷ []) (faults_tokens one.faults.now ++ last_tokens one)
      ∙ fold-append (λ _ (t : Token). ends t) false (flat_map fault_word one.faults.now ++ end_array ∷ []) (last_tokens one)
      ∙ object_ends true one.unread;
}

-- the line of a place
abbrev pub place_line : ℕ → ℕ → Place → List ℕ
place_line blocks block place = block_line blocks block (place_words place)

abbrev places_in : Bool → ℕ → FaultyBlock → List ℕ
places_in json blocks told = parts place_object (place_line blocks told.block) json true told.places.now

-- what is told of a block is what is before its places, what is told of each place, and what is behind them
pub block_whole : (json : Bool) (kept : List ℕ) (blocks : ℕ) (told : FaultyBlock)
    → kept ++ block_part json blocks told ≡ ((kept ++ head_part json blocks told) ++ parts place_object (place_line blocks told.block) json true told.places.now) ++ tail_part json told
block_whole json kept blocks told =
    ap (λ (l : List ℕ). kept ++ l) (go json)
    ∙ sym (append_assoc kept (head_part json blocks told) (places_in json blocks told ++ tail_part json told))
    ∙ sym (append_assoc (kept ++ head_part json blocks told) (places_in json blocks told) (tail_part json told))
  where
    go : (json : Bool) → block_part json blocks told ≡ head_part json blocks told ++ (places_in json blocks told ++ tail_part json told)
    go false =
        ap (λ (l : List ℕ). first_line blocks told ++ (l ++ behind_lines told))
        (sym (parts_lines place_object (place_line blocks told.block) true told.places.now))
    go true =
        let head = head_tokens blocks told.block in
        let places = flat_map place_object told.places.now in
        let rest = faults_tokens told.faults.now ++ last_tokens told in
        ap (λ (l : List Token). print (head ++ l)) (append_assoc places (end_array ∷ []) rest)
        ∙ print_from-append false head (places ++ end_array ∷ rest)
        ∙ ap (λ (l : List ℕ). print head ++ l)
        (print_from-append false places (end_array ∷ rest)
        ∙ ap₂ (λ (a b : List ℕ). a ++ b) (sym (parts_objects place_object (place_line blocks told.block) place_objects true told.places.now)) (no_comma (after_value false places) rest))
