-- The report on a rescue, entry by entry: as lines or as an object.
use Rattle.std.proofs.Common.{◌≡◌, ℕ, Bool, true, false, ◌||◌, List, [], ◌∷◌, ◌++◌, length, take, drop, take-append-drop, append_assoc, append-nil, codes, refl, sym, ap, ◌∙◌, subst}
use Rattle.std.specs.Prelude.{if◌then◌else◌, fold, flat_map, Option}
use Rattle.std.specs.List.{list_any}
use Rattle.std.proofs.lemmas.List.Sums.{fold-append}
use Rattle.std.proofs.lemmas.List.Folds.{list_any-append}
use Rattle.json.specs.Token.{Token, end_array, end_object}
use Rattle.json.specs.Print.{ends, escape_byte, print, print_from}
use Rattle.json.proofs.Printed.Tokens.{print_from-append}
use Rattle.ados_salvage.specs.declared.salvaged.Salvaged.{Salvaged}
use Rattle.ados_salvage.specs.Marks.{mark_at}
use Rattle.adf_rescue.specs.declared.damaged.Rescue.{Rescue}
use Rattle.adf_rescue.specs.declared.doubt.Doubt.{Doubt}
use Rattle.adf_rescue.specs.declared.missing.Run.{Run}
use Rattle.adf_rescue.specs.Missing.{values_at}
use Rattle.adf_rescue.specs.Reasons.{doubt_at, reason_by}
use Rattle.adf_rescue.specs.Rescue.{AreSomeRescued, IsTold, rescue_line}
use Rattle.adf_rescue.specs.Rescue.AreLines.{none as no_lines, one as one_line}
use Rattle.adf_rescue.specs.RescueObject.{AreObjects, IsReportObject, entry_tokens, hole_tokens, is_summed, is_told, object_tokens, path_end, rest_tokens}
use Rattle.adf_rescue.specs.RescueObject.AreObjects.{none, one}
use Rattle.adf_rescue.specs.steps.Reporting.{AreParts, ArePrinted, IsNextObject, IsPart, front_of, front_tokens, rest_of}

-- whether some entry is told
abbrev pub are_told : List Salvaged → Bool
are_told entries = list_any (λ e. is_told e.state e.found) entries

-- whether a value just ended behind these tokens
abbrev after_value : Bool → List Token → Bool
after_value b tokens = fold (λ _ t. ends t) b tokens

-- a value ended behind the object of an entry
entry_ends : (image : List ℕ) (entry : Salvaged) (reason : Option (List ℕ)) (deleted : Bool) (runs : List Run) (path : List ℕ) (before : Bool) → after_value before (entry_tokens image entry reason deleted runs path) ≡ true
entry_ends image entry reason deleted runs path before =
    fold-append (λ _ t. ends t) false (flat_map (hole_tokens image entry.header) runs ++ end_array ∷ []) (end_object ∷ [])

module _ (rescue : Rescue) where
  -- the object of an entry
  abbrev object_of : ℕ → Salvaged → List ℕ → List ℕ → List Token
  object_of place e other path = if is_told e.state e.found then object_tokens rescue place e other (path ++ path_end e.state) else []

  after_object : (told : Bool) (place : ℕ) (entry : Salvaged) (other path : List ℕ) (before : Bool) → after_value before (if told then object_tokens rescue place entry other path else []) ≡ (before || told)
  after_object true place entry other path true =
      entry_ends rescue.salvage.image entry (reason_by other (doubt_at rescue.doubts.items place)) (mark_at rescue.untrusted.items place) (values_at rescue.missing.items place) path true
  after_object true place entry other path false =
      entry_ends rescue.salvage.image entry (reason_by other (doubt_at rescue.doubts.items place)) (mark_at rescue.untrusted.items place) (values_at rescue.missing.items place) path false
  after_object false place entry other path true = refl
  after_object false place entry other path false = refl

  -- an object just ended if some entry was told
  after_objects : (entries : List Salvaged) (objects : List Token) → AreObjects rescue entries objects → after_value false objects ≡ are_told entries
  after_objects [] [] none = refl
  after_objects _ _ (one entries entry objects object are (other, path, is)) =
      fold-append (λ _ t. ends t) false objects object
      ∙ ap (after_value (after_value false objects)) is
      ∙ after_object (is_told entry.state entry.found) (length entries) entry other (path ++ path_end entry.state) (after_value false objects)
      ∙ ap (λ b. b || is_told entry.state entry.found) (after_objects entries objects are)
      ∙ or_more (are_told entries) (is_told entry.state entry.found)
      ∙ sym (list_any-append (λ e. is_told e.state e.found) entries (entry ∷ []))
    where
      or_more : (a b : Bool) → (a || b) ≡ (a || (b || false))
      or_more true b = refl
      or_more false true = refl
      or_more false false = refl

  -- nothing is told yet
  pub no_parts : (json : Bool) → AreParts json rescue [] (front_of json)
  unfolding print_from escape_byte
  no_parts true = record { objects = []; are = none; printed = refl }
  no_parts false = no_lines

-- an object behind a comma, if it is not the first
pub object_printed : (after : Bool) (image : List ℕ) (entry : Salvaged) (reason : Option (List ℕ)) (deleted : Bool) (runs : List Run) (path : List ℕ)
    → (if after then codes "," else []) ++ print (entry_tokens image entry reason deleted runs path) ≡ print_from after (entry_tokens image entry reason deleted runs path)
unfolding print_from
object_printed true image entry reason deleted runs path = refl
object_printed false image entry reason deleted runs path = refl

-- one more object is printed
print_more : (objects object : List Token) (after : Bool) → after_value false objects ≡ after → print (front_tokens (objects ++ object)) ≡ print (front_tokens objects) ++ print_from after object
print_more objects object after is = print_from-append false (front_tokens objects) object ∙ ap (λ b. print (front_tokens objects) ++ print_from b object) is

-- the printed object of an entry, if it is told
if_printed : (told after : Bool) (tokens : List Token) → (if told then print_from after tokens else []) ≡ print_from after (if told then tokens else [])
unfolding print_from
if_printed true after tokens = refl
if_printed false after tokens = refl

module _ (rescue : Rescue) (entries : List Salvaged) (entry : Salvaged) (text : List ℕ) (printed : ArePrinted rescue entries text) where
  printed_more : (after : Bool) (part : List ℕ) → after ≡ are_told entries → IsNextObject rescue after (length entries) entry part → ArePrinted rescue (entries ++ entry ∷ []) (text ++ part)
  printed_more after part is (other, path, next) = record {
    objects = printed.objects ++ object_of rescue (length entries) entry other path;
    are = one entries entry printed.objects (object_of rescue (length entries) entry other path) printed.are (other, path, refl);
    printed =
        ap (λ t. t ++ part) printed.printed
        ∙ ap (λ p. print (front_tokens printed.objects) ++ p) (next ∙ if_printed (is_told entry.state entry.found) after (object_tokens rescue (length entries) entry other (path ++ path_end entry.state)))
        ∙ sym (print_more printed.objects (object_of rescue (length entries) entry other path) after (after_objects rescue entries printed.objects printed.are ∙ sym is));
  }

-- what is behind the objects has no comma before it
no_comma : (after : Bool) (deleted : ℕ) (unaccounted : List ℕ) (summed : Bool) → print_from after (rest_tokens deleted unaccounted summed) ≡ print (rest_tokens deleted unaccounted summed)
unfolding print_from
no_comma true deleted unaccounted summed = refl
no_comma false deleted unaccounted summed = refl

-- the end of the object completes it
object_whole : (rescue : Rescue) (text : List ℕ) → ArePrinted rescue rescue.salvage.entries text → IsReportObject rescue (text ++ rest_of true rescue)
object_whole rescue text printed =
    let deleted = length rescue.salvage.deleted in
    let unaccounted = rescue.unaccounted.items in
    let summed = is_summed rescue.salvage in
    let rest = rest_tokens deleted unaccounted summed in (
      printed.objects,
      printed.are,
      sym (append_assoc text (print rest) (codes "\n"))
          ∙ ap (λ t. t ++ codes "\n")
          (ap (λ t. t ++ print rest) printed.printed
          ∙ ap (λ p. print (front_tokens printed.objects) ++ p) (sym (no_comma (after_value false printed.objects) deleted unaccounted summed))
          ∙ sym (print_from-append false (front_tokens printed.objects) rest)),
    )

-- ---- in each of the forms

-- one more entry is told
pub parts_more : (json : Bool) (rescue : Rescue) (entries : List Salvaged) (entry : Salvaged) (text : List ℕ) → AreParts json rescue entries text → (after : Bool) (part : List ℕ) → after ≡ are_told entries
    → IsPart json rescue after (length entries) entry part → AreParts json rescue (entries ++ entry ∷ []) (text ++ part)
parts_more true rescue entries entry text told after part is next = printed_more rescue entries entry text told after part is next
parts_more false rescue entries entry text told after part is line = one_line entries entry text part told line

-- the object of an entry, by what is told of it
object_is : (image other : List ℕ) (e entry : Salvaged) (reason why : Option (List ℕ)) (here there : Bool) (runs others : List Run) (path : List ℕ) → image ≡ other → e ≡ entry → reason ≡ why → here ≡ there → runs ≡ others
    → entry_tokens image e reason here runs (path ++ path_end e.state) ≡ entry_tokens other entry why there others (path ++ path_end entry.state)
object_is image other e entry reason why here there runs others path alike same said deleted missing =
    ap (λ (x : List ℕ). entry_tokens x e reason here runs (path ++ path_end e.state)) alike ∙ ap (λ (x : Salvaged). entry_tokens other x reason here runs (path ++ path_end x.state)) same
    ∙ ap (λ (x : Option (List ℕ)). entry_tokens other entry x here runs (path ++ path_end entry.state)) said
    ∙ ap (λ (x : Bool). entry_tokens other entry why x runs (path ++ path_end entry.state)) deleted ∙ ap (λ (x : List Run). entry_tokens other entry why there x (path ++ path_end entry.state)) missing

-- an object is what is told of its entry
pub object_told : (json : Bool) (rescue : Rescue) (after : Bool) (place : ℕ) (entry : Salvaged) (image : List ℕ) (e : Salvaged) (doubt : Option Doubt) (other : List ℕ) (deleted : Bool) (runs : List Run) (path text : List ℕ) → json ≡ true
    → is_told entry.state entry.found ≡ true → image ≡ rescue.salvage.image → e ≡ entry → doubt ≡ doubt_at rescue.doubts.items place → deleted ≡ mark_at rescue.untrusted.items place → runs ≡ values_at rescue.missing.items place
    → text ≡ print_from after (entry_tokens image e (reason_by other doubt) deleted runs (path ++ path_end e.state)) → IsPart json rescue after place entry text
object_told json rescue after place entry image e doubt other deleted runs path text as_json told of_image same why marked missing is =
    let tokens =
    object_is image rescue.salvage.image e entry (reason_by other doubt) (reason_by other (doubt_at rescue.doubts.items place)) deleted (mark_at rescue.untrusted.items place) runs (values_at rescue.missing.items place) path of_image same
    (ap (reason_by other) why) marked missing
    in
    let printed : text ≡ print_from after (object_tokens rescue place entry other (path ++ path_end entry.state)) = is ∙ ap (print_from after) tokens in
    subst (λ (form : Bool). IsPart form rescue after place entry text) (sym as_json)
    (other, path, printed ∙ sym (ap (λ (b : Bool). if b then print_from after (object_tokens rescue place entry other (path ++ path_end entry.state)) else []) told))

-- something is told of each entry
some_part : (json : Bool) (rescue : Rescue) (after : Bool) (place : ℕ) (e : Salvaged) → (part : List ℕ) × IsPart json rescue after place e part
some_part true rescue after place e = (if is_told e.state e.found then print_from after (object_tokens rescue place e [] ([] ++ path_end e.state)) else [], ([], [], refl))
some_part false rescue after place e = (rescue_line e.found e.state [], ([], refl))

-- the report on some entries goes on to one on all
parts_on : (json : Bool) (rescue : Rescue) (first rest : List Salvaged) (text : List ℕ) → AreParts json rescue first text → (more : List ℕ) × AreParts json rescue (first ++ rest) (text ++ more)
parts_on json rescue first [] text told = ([], subst (λ (es : List Salvaged). AreParts json rescue es (text ++ [])) (sym (append-nil first)) (subst (AreParts json rescue first) (sym (append-nil text)) told))
parts_on json rescue first (e ∷ rest) text told =
    let part = some_part json rescue (are_told first) (length first) e in
    let r = parts_on json rescue (first ++ e ∷ []) rest (text ++ part.0) (parts_more json rescue first e text told (are_told first) part.0 refl part.1) in (
      part.0 ++ r.0,
      subst (λ (es : List Salvaged). AreParts json rescue es (text ++ (part.0 ++ r.0))) (append_assoc first (e ∷ []) rest)
          (subst (AreParts json rescue ((first ++ e ∷ []) ++ rest)) (append_assoc text part.0 r.0) r.1),
    )

-- what is behind the entries completes the report
pub parts_whole : (json : Bool) (rescue : Rescue) (text : List ℕ) → AreParts json rescue rescue.salvage.entries text → IsTold json rescue (text ++ rest_of json rescue)
parts_whole true rescue text told = object_whole rescue text told
parts_whole false rescue text told = (text, told, refl)

-- a whole report is one on an image that was accepted or not
pub told_of : (json : Bool) (rescue : Rescue) (text : List ℕ) → IsTold json rescue text → (more : List ℕ) × AreSomeRescued json rescue (text ++ more)
told_of json rescue text told = ([], (rescue.salvage.accepted, record { accepts = refl; told = subst (IsTold json rescue) (sym (append-nil text)) told }))

-- the report on the first entries goes on to a whole one
pub parts_told : (json : Bool) (rescue : Rescue) (place : ℕ) (text : List ℕ) → AreParts json rescue (take place rescue.salvage.entries) text → (more : List ℕ) × AreSomeRescued json rescue (text ++ more)
parts_told json rescue place text told =
    let entries = rescue.salvage.entries in
    let all = parts_on json rescue (take place entries) (drop place entries) text told in
    let rest = rest_of json rescue in
    let parts = subst (λ (es : List Salvaged). AreParts json rescue es (text ++ all.0)) (take-append-drop place entries) all.1 in (
      all.0 ++ rest,
      (rescue.salvage.accepted, record { accepts = refl; told = subst (IsTold json rescue) (append_assoc text all.0 rest) (parts_whole json rescue (text ++ all.0) parts) }),
    )
