-- Blocks that are due to a file.
use Rattle.std.proofs.Common.{◌≡◌, ℕ, ◌+◌, ◌<◌, inl, inr, Bool, cond, List, refl, sym, ap₂, subst}
use Rattle.std.proofs.lemmas.Bool.{eq-eqb}
use Rattle.adf_block.specs.Fields.{format_of, own_key, parent_key, pointer, pointer_count, primary_type, secondary_type}
use Rattle.adf_block.specs.declared.layout.Format.{Format}
use Rattle.adf_block.specs.declared.layout.Format.TheVariants.{Ffs, Ofs}
use Rattle.adf_block.specs.declared.layout.TheConstants.{FILE_TYPE, LIST_TYPE, TABLE_LONGS}
use Rattle.ados_salvage.specs.Doubtful.{IsOwnData, LooksLikeExtension}
use Rattle.ados_salvage.specs.Due.{CountsAsExtension, IsDue, IsDueIn, IsPointedTo, IsPointerBlock}
use Rattle.ados_salvage.specs.Loose.{IsLooseExtension}

module _ (image : List ℕ) (file i block : ℕ) where
  -- a pointer of the file names the block, and in OFS it is its data
  pub due_pointed : (holder k : ℕ) → IsPointerBlock image file holder → k < TABLE_LONGS → k < pointer_count image holder → pointer image holder k ≡ block → (format_of image ≡ Ofs → IsOwnData image file i block)
      → IsDue image file i block
  due_pointed holder k holds small counted names own = by_format (format_of image) refl
    where
      by_format : (f : Format) → format_of image ≡ f → IsDueIn f image file i block
      by_format Ofs e = own e
      by_format Ffs e = record { holder = holder; holds = holds; i = k; small = small; counted = counted; names = names }

  pub due_own : format_of image ≡ Ofs → IsOwnData image file i block → IsDue image file i block
  due_own e own = subst (λ (f : Format). IsDueIn f image file i block) (sym e) own

  pub due_ffs : format_of image ≡ Ffs → IsPointedTo image file block → IsDue image file i block
  due_ffs e pointed = subst (λ (f : Format). IsDueIn f image file i block) (sym e) pointed

-- an extension block with the right fields counts as one
counts_looks : (image : List ℕ) (file block : ℕ) → LooksLikeExtension image file block → CountsAsExtension image file block
counts_looks image file block looks =
    let one : Bool → ℕ = λ b. cond b 1 0 in
    inl (ap₂ (λ (a : ℕ) (b : ℕ). a + b)
    (ap₂ (λ (a : Bool) (b : Bool). one a + one b) (eq-eqb (primary_type image block) LIST_TYPE looks.primary) (eq-eqb (secondary_type image block) FILE_TYPE looks.secondary))
    (ap₂ (λ (a : Bool) (b : Bool). one a + one b) (eq-eqb (own_key image block) block looks.key_field) (eq-eqb (parent_key image block) file looks.of_file)))

-- a block that an extension block of a file without a header names
pub due_listed : (image : List ℕ) (header extension i k block : ℕ) → IsLooseExtension image header extension → k < TABLE_LONGS → k < pointer_count image extension → pointer image extension k ≡ block → IsDue image header i block
due_listed image header extension i k block loose small counted names =
    due_ffs image header i block loose.kind (record { holder = extension; holds = inr (counts_looks image header extension loose.looks); i = k; small = small; counted = counted; names = names })
