-- What a change of a link leaves the same: other longs, and the names of entries.
use Rattle.ados_chain.proofs.Common.{◌≡◌, ℕ, ◌+◌, ◌-◌, ◌*◌, ◌/◌, ◌<◌, ◌≤◌, inl, inr, List, [], ◌∷◌, length, take, drop, min, slice_index, sym, ap, ap₂, ◌∙◌, arith, ◌↔◌, Option, Result, Ok, Err, refl, subst, FIRST_SLOT, NAME_BYTE, byte_at, block_count, SameBut, same_long, same_bytes_at, IsName, name_at, AtLinks, link_long, IsLink}
use Rattle.std.proofs.lemmas.List.{drop-take, take-take, drop-drop, length-take, length-drop}
use Rattle.adf_block.specs.Image.{bytes_at}
use Rattle.adf_block.proofs.Blocks.{byte-bytes_at}
use Rattle.ados_chain.proofs.Spelling.{KeepsLongs, link_long-entry}
use Rattle.std.specs.Prelude.{MatchOption, IfOk, IsOk}
use Rattle.std.specs.Result.{result_ok}
use Rattle.ados_name.specs.declared.name.Name.{Name}
use Rattle.ados_name.specs.declared.NameFault.{NameFault}

-- the 512 bytes of a block are inside the image
pub block-within : (image : List ℕ) (b : ℕ) → b < block_count image → 512 * b + 512 ≤ length image
block-within image b l = omega arith

-- the length of the text in a block's name field
pub length-name_at : (image : List ℕ) (key : ℕ) → key < block_count image → min (byte_at image key NAME_BYTE) 79 ≤ length (name_at image key)
unfolding bytes_at
length-name_at image key l =
    omega (arith, length-take (byte_at image key NAME_BYTE) (drop (512 * key + 433) image), length-drop (512 * key + 433) image, block-within image key l)

-- a valid name is inside its block
pub name-short : (image : List ℕ) (key : ℕ) → key < block_count image → IsName (name_at image key) → byte_at image key NAME_BYTE ≤ 30
name-short image key l h = omega (arith, length-name_at image key l, h.short)

-- the length byte of a name, read from the bytes of its block
pub name_byte-read : (image block : List ℕ) (key : ℕ) → block ≡ bytes_at image key 0 512 → slice_index block NAME_BYTE ≡ byte_at image key NAME_BYTE
name_byte-read image block key e = ap (λ (xs : List ℕ). slice_index xs NAME_BYTE) e ∙ byte-bytes_at image key 0 512 NAME_BYTE (omega arith)

-- a name, read from the bytes of its block
pub name-read : (image block : List ℕ) (key n : ℕ) → block ≡ bytes_at image key 0 512 → n ≡ byte_at image key NAME_BYTE → n ≤ 30 → take (433 + n - 433) (drop 433 block) ≡ name_at image key
unfolding bytes_at
name-read image block key n e counted l =
    let m : 433 + n - 433 ≡ n = omega arith in
    let at : 433 + 512 * key ≡ 512 * key + 433 = omega arith in
    ap₂ (λ (k : ℕ) (xs : List ℕ). take k (drop 433 xs)) m e
    ∙ ap (take n) (drop-take 433 79 (drop (512 * key + 0) image))
    ∙ take-take n 79 (drop 433 (drop (512 * key + 0) image)) (omega arith)
    ∙ ap (take n) (drop-drop 433 (512 * key + 0) image ∙ ap (λ (k : ℕ). drop k image) (omega arith))
    ∙ ap (λ (k : ℕ). take k (drop (512 * key + 433) image)) counted

-- the link after some entries of a slot is a link
pub link_long-is : (s : ℕ) (keys : List ℕ) → s < 72 → IsLink (link_long (FIRST_SLOT + s) keys)
link_long-is s [] l = inl (omega arith, omega arith)
link_long-is s (key ∷ keys) l = inr (link_long-entry keys)

module _ (block i key : ℕ) (old new : List ℕ) (at : IsLink i) (h : SameBut (AtLinks block i key) old new) where
  -- bytes outside all links and checksums
  pub bytes_apart : (b j : ℕ) → 312 ≤ j → j < 496 → ¬ AtLinks block i key b j
  bytes_apart b j l m (inl (inl e)) = elim at [ inl t ↦ absurd (omega (arith, e.1, t.0, t.1)) | inr t ↦ absurd (omega (arith, e.1, t)) ]
  bytes_apart b j l m (inl (inr e)) = absurd (omega (arith, e.1))
  bytes_apart b j l m (inr (inl e)) = absurd (omega (arith, e.1))
  bytes_apart b j l m (inr (inr e)) = absurd (omega (arith, e.1))

  pub name-kept : (b : ℕ) → b < block_count old → IsName (name_at old b) → name_at new b ≡ name_at old b
  name-kept b l name =
      let counted : byte_at new b NAME_BYTE ≡ byte_at old b NAME_BYTE = h.same_byte b NAME_BYTE (omega arith) (bytes_apart b NAME_BYTE (omega arith) (omega arith)) in
      let short = name-short old b l name in
      ap (λ (n : ℕ). bytes_at new b 433 n) counted
      ∙ same_bytes_at (AtLinks block i key) old new h b 433 (byte_at old b NAME_BYTE) (omega arith) (λ j m n. bytes_apart b j (omega arith) (omega arith))

  pub longs-kept : KeepsLongs block i key old new
  longs-kept b j l n apart apart' =
      same_long (AtLinks block i key) old new h b j l (λ k e. not_at k e)
    where
      not_at : (k : ℕ) → k / 4 ≡ j → ¬ AtLinks block i key b k
      not_at k e (inl (inl m)) = elim apart [ inl x ↦ x m.0 | inr x ↦ x (sym e ∙ m.1) ]
      not_at k e (inl (inr m)) = n (sym e ∙ m.1)
      not_at k e (inr (inl m)) = elim apart' [ inl x ↦ x m.0 | inr x ↦ x (sym e ∙ m.1) ]
      not_at k e (inr (inr m)) = n (sym e ∙ m.1)

-- a name made from a text is the text; a text that is not a name makes none
pub name-made : (r : Result Name NameFault) (o : Option Name) (text name : List ℕ) → o ≡ result_ok r → text ≡ name → IfOk r (λ n. n ≡ text) → IsOk r ↔ IsName text → MatchOption o (¬ IsName name) (λ n. n ≡ name × IsName name)
name-made r o text name e same ok valid = subst (λ (p : Option Name). MatchOption p (¬ IsName name) (λ n. n ≡ name × IsName name)) (sym e) (go r ok valid)
  where
    go : (q : Result Name NameFault) → IfOk q (λ n. n ≡ text) → IsOk q ↔ IsName text → MatchOption (result_ok q) (¬ IsName name) (λ n. n ≡ name × IsName name)
    go (Ok n) is v = (is ∙ same, subst IsName same (v.0 refl))
    go (Err f) is v = λ h. absurd (cc (v.1 (subst IsName (sym same) h)))
