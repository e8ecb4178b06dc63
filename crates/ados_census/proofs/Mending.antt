-- A block with one long changed: its sum, and of which kinds it is.
use Rattle.std.proofs.Common.{◌≡◌, ◌≢◌, ℕ, ◌+◌, ◌-◌, ◌%◌, ◌^◌, ◌<◌, ◌==◌, if◌then◌else◌, List, [], ◌∷◌, ◌++◌, length, take, drop, get_or, refl, sym, ap, ◌∙◌, subst, arith, rules, ap₂, slice_index, Bool, Option, Some, None}
use Rattle.std.specs.Prelude.{All}
use Rattle.std.proofs.lemmas.Bool.{eq-eqb, ne_eqb}
use Rattle.std.proofs.lemmas.List.{drop_more, take-append-drop}
use Rattle.std.proofs.lemmas.List.Elements.{All-from_recursion, All-head, All-more, All-tail}
use Rattle.adf_block.proofs.Totals.{total-one}
use Rattle.adf_block.specs.Image.{block_count, long, total}
unfoldable use Rattle.adf_block.specs.Image.{block_sum}
use Rattle.ados_census.specs.declared.class.BlockKind.{BlockKind}
use Rattle.ados_census.specs.declared.class.BlockKind.TheVariants.{FileHeader, DirectoryHeader, Extension, OfsData, Bitmap}
use Rattle.ados_census.specs.declared.class.TheConstants.{BLOCK_KINDS}
use Rattle.ados_census.specs.declared.class.WrongLong.{WrongLong}
unfoldable use Rattle.ados_census.specs.Classes.{sum_of}
use Rattle.ados_census.specs.Classes.{AllBefore, HasFields, IsKind, IsMendedBy, IsSoundBut, longs_of, mended}

-- x replaces y and balances the other numbers
to_zero : (t u x y : ℕ) → u + y ≡ t + x → x ≡ (y + (2 ^ 32 - t % 2 ^ 32)) % 2 ^ 32 → u % 2 ^ 32 ≡ 0
to_zero t u x y moved balanced = omega arith

from_zero : (t u x y : ℕ) → u + y ≡ t + x → u % 2 ^ 32 ≡ 0 → x < 2 ^ 32 → x ≡ (y + (2 ^ 32 - t % 2 ^ 32)) % 2 ^ 32
from_zero t u x y moved zero fits = omega arith

-- the value of long i with which the longs of the block sum to 0
abbrev pub balance : List ℕ → ℕ → ℕ → ℕ
balance image block i = (long image block i + (2 ^ 32 - block_sum image block)) % 2 ^ 32

-- the longs of each kind are in a block
pub small_longs : (kind : BlockKind) → All (λ (i : ℕ). i < 128) (longs_of kind)
small_longs FileHeader = All-from_recursion (λ (i : ℕ). i < 128) (longs_of FileHeader) (search rules)
small_longs DirectoryHeader = All-from_recursion (λ (i : ℕ). i < 128) (longs_of DirectoryHeader) (search rules)
small_longs Extension = All-from_recursion (λ (i : ℕ). i < 128) (longs_of Extension) (search rules)
small_longs OfsData = All-from_recursion (λ (i : ℕ). i < 128) (longs_of OfsData) (search rules)
small_longs Bitmap = All-from_recursion (λ (i : ℕ). i < 128) (longs_of Bitmap) (search rules)

-- a long of a kind is in a block
pub small_at : (kind : BlockKind) (xs : List ℕ) (k : ℕ) → xs ≡ longs_of kind → k < length xs → slice_index xs k < 128
small_at kind xs k same l =
    subst (λ (ys : List ℕ). slice_index ys k < 128) (sym same) (small_longs kind k 0 (subst (λ (ys : List ℕ). k < length ys) same l))

-- each kind is in the list
pub each_kind : (P : BlockKind → Type 0) → All P BLOCK_KINDS → (kind : BlockKind) → P kind
each_kind P all FileHeader = all 0 FileHeader (omega arith)
each_kind P all DirectoryHeader = all 1 FileHeader (omega arith)
each_kind P all Extension = all 2 FileHeader (omega arith)
each_kind P all OfsData = all 3 FileHeader (omega arith)
each_kind P all Bitmap = all 4 FileHeader (omega arith)

module _ {A : Type 0} (P : A → Type 0) where
  -- an element at an index, after such ones
  pub before_at : (list : List A) (i : ℕ) (d : A) → i < length list → All P (take i list) → AllBefore P list (get_or list i d)
  before_at list i d l all = record {
    before = take i list;
    after = drop (i + 1) list;
    here = sym (take-append-drop i list) ∙ ap (λ (rest : List A). take i list ++ rest) (drop_more list i d l);
    each = all;
  }

  at_split : (before after : List A) (x : A) → All P (before ++ x ∷ after) → P x
  at_split [] after x all = All-head P x after all
  at_split (b ∷ before) after x all = at_split before after x (All-tail P b (before ++ x ∷ after) all)

  -- an element after others is in the list
  pub at_before : (Q : A → Type 0) (list : List A) (x : A) → AllBefore Q list x → All P list → P x
  at_before Q list x first all = at_split first.before first.after x (subst (All P) first.here all)

module _ (image : List ℕ) (block : ℕ) where
  moved : (wrong : WrongLong) → wrong.long < 128
      → total (mended image block (Some wrong)) 128 + long image block wrong.long ≡ total (long image block) 128 + wrong.wanted
  moved wrong small =
      total-one (long image block) (mended image block (Some wrong)) wrong.long 128 small (λ j l other. ap (λ (b : Bool). if b then wrong.wanted else long image block j) (ne_eqb j wrong.long other))
      ∙ ap (λ (b : Bool). total (long image block) 128 + (if b then wrong.wanted else long image block wrong.long)) (eq-eqb wrong.long wrong.long refl)

  -- a long that balances the others
  pub sums_to_zero : (wrong : WrongLong) → wrong.long < 128 → wrong.wanted ≡ balance image block wrong.long → sum_of (mended image block (Some wrong)) ≡ 0
  unfolding block_sum sum_of
  sums_to_zero wrong small balanced =
      to_zero (total (long image block) 128) (total (mended image block (Some wrong)) 128) wrong.wanted (long image block wrong.long) (moved wrong small) balanced

  -- no other value makes the sum right
  pub wanted_is : (wrong : WrongLong) → wrong.long < 128 → sum_of (mended image block (Some wrong)) ≡ 0 → wrong.wanted < 2 ^ 32 → wrong.wanted ≡ balance image block wrong.long
  unfolding block_sum sum_of
  wanted_is wrong small zero fits =
      from_zero (total (long image block) 128) (total (mended image block (Some wrong)) 128) wrong.wanted (long image block wrong.long) (moved wrong small) zero fits

  module _ (kind : BlockKind) where
    -- a block with right fields and a right sum
    pub sound_now : block_sum image block ≡ 0 → HasFields kind (block_count image) block (mended image block None) → IsKind image block kind None
    sound_now zero fields = record { fields = fields; sum = zero }

    -- a block with a right sum is sound, or of another kind
    pub other_now : block_sum image block ≡ 0 → ¬ HasFields kind (block_count image) block (mended image block None) → (wrong : Option WrongLong) → ¬ IsKind image block kind wrong
    other_now zero bad None = λ sound. bad sound.fields
    other_now zero bad (Some wrong) = λ but. but.bad_sum zero

    -- a block with a wrong sum that no long makes sound is of another kind
    pub other_mended : block_sum image block ≢ 0 → All (λ (i : ℕ). ¬ IsMendedBy image block kind i) (longs_of kind) → (wrong : Option WrongLong) → ¬ IsKind image block kind wrong
    other_mended bad none None = λ sound. bad sound.sum
    other_mended bad none (Some wrong) = λ but.
        at_before (λ (i : ℕ). ¬ IsMendedBy image block kind i) (λ (i : ℕ). ¬ IsMendedBy image block kind i) (longs_of kind) wrong.long but.first none
        (record { wrong = wrong; here = refl; fits = but.fits; sound = but.sound })

    module _ (wrong : WrongLong) (small : wrong.long < 128) (balanced : wrong.wanted ≡ balance image block wrong.long) where
      -- the first long that makes the block sound
      pub sound_but : block_sum image block ≢ 0 → wrong.found ≡ long image block wrong.long
          → HasFields kind (block_count image) block (mended image block (Some wrong))
          → AllBefore (λ (i : ℕ). ¬ IsMendedBy image block kind i) (longs_of kind) wrong.long → IsSoundBut image block kind wrong
      sound_but bad found fields first = record {
        bad_sum = bad;
        found = found;
        fits = omega (arith, balanced);
        sound = record { fields = fields; sum = sums_to_zero wrong small balanced };
        first = first;
      }

      -- a long that makes the fields not right does not make the block sound
      pub not_mended : ¬ HasFields kind (block_count image) block (mended image block (Some wrong)) → ¬ IsMendedBy image block kind wrong.long
      not_mended bad = λ m.
          let within : m.wrong.long < 128 = omega (arith, m.here, small) in
          let same : m.wrong.wanted ≡ wrong.wanted = wanted_is m.wrong within m.sound.sum m.fits ∙ ap (balance image block) m.here ∙ sym balanced in
          bad (subst (λ (w : ℕ). HasFields kind (block_count image) block (λ (i : ℕ). if i == wrong.long then w else long image block i)) same
          (subst (λ (l : ℕ). HasFields kind (block_count image) block (λ (i : ℕ). if i == l then m.wrong.wanted else long image block i)) m.here m.sound.fields))

    -- at a place of the list: the block is sound but for the long there, or one place more makes it not sound
    module _ (s w : ℕ) (bad : block_sum image block ≢ 0) (was : s ≡ block_sum image block) (xs : List ℕ) (same : xs ≡ longs_of kind) (k : ℕ) (l : k < length xs)
        (f : ℕ) (found : f ≡ long image block (slice_index xs k)) (wanted : w ≡ (f + (2 ^ 32 - s)) % 2 ^ 32)
        (none : All (λ (i : ℕ). ¬ IsMendedBy image block kind i) (take k (longs_of kind))) where
      abbrev here : WrongLong
      here = record { long = slice_index xs k; found = f; wanted = w }

      within : k < length (longs_of kind)
      within = subst (λ (ys : List ℕ). k < length ys) same l

      small : slice_index xs k < 128
      small = small_at kind xs k same l

      balanced : w ≡ balance image block (slice_index xs k)
      balanced = wanted ∙ ap₂ (λ (x y : ℕ). (x + (2 ^ 32 - y)) % 2 ^ 32) found was

      pub sound_at : HasFields kind (block_count image) block (mended image block (Some (record { long = slice_index xs k; found = f; wanted = w })))
          → IsSoundBut image block kind (record { long = slice_index xs k; found = f; wanted = w })
      sound_at fields = sound_but here small balanced bad found fields
          (subst (λ (ys : List ℕ). AllBefore (λ (i : ℕ). ¬ IsMendedBy image block kind i) (longs_of kind) (slice_index ys k)) (sym same)
          (before_at (λ (i : ℕ). ¬ IsMendedBy image block kind i) (longs_of kind) k 0 within none))

      pub passed_at : ¬ HasFields kind (block_count image) block (mended image block (Some (record { long = slice_index xs k; found = f; wanted = w })))
          → All (λ (i : ℕ). ¬ IsMendedBy image block kind i) (take (k + 1) (longs_of kind))
      passed_at other = All-more (λ (i : ℕ). ¬ IsMendedBy image block kind i) (longs_of kind) k 0 within none
          (subst (λ (ys : List ℕ). ¬ IsMendedBy image block kind (slice_index ys k)) same (not_mended here small balanced other))
