-- The images represent the tree.
use Rattle.ados_model.proofs.Common.{◌≡◌, ℕ, ◌+◌, ◌-◌, ◌<◌, Bool, true, false, cond, not, ◌==◌, List, [], ◌∷◌, Option, Some, None, refl, sym, ap, ◌∙◌, subst, arith, agree_below_at, false≢true, Format, IsInside, has_free_bit, long, block_sum, Chained, HasFreeBit, table_entry, TABLE_LONGS, NEXT_IN_CHAIN, slot, HasFile, Duty, Named, Stands, HasNode, HasEntry, in_slot, Node, Tree, Directory, File, letters, hello, nodes, tree, image}
use Rattle.std.specs.Option.{is_some}
use Rattle.ados_model.proofs.SmallNodes.{each, only, proper}
use Rattle.ados_model.proofs.SmallFields.{HasBlocks, has_blocks}
use Rattle.ados_model.proofs.SmallDuties.{layout, duty_of, has_duty, duty_is, fits}

-- the hash chain with the only entry, and the empty hash chains
one_entry : (image : List ℕ) (first key : ℕ) (here : Bool) → first ≡ cond here key 0 → long image key NEXT_IN_CHAIN ≡ 0 → Chained image NEXT_IN_CHAIN first (cond here (key ∷ []) [])
one_entry image first key true e last = (e, last)
one_entry image first key false e last = e

module _ (format : Format) where
  abbrev t : Tree
  t = tree format

  abbrev h : HasBlocks format (image format)
  h = has_blocks format

  chains : (dir : ℕ) (node : Node) → nodes dir ≡ Some node → (keys : List ℕ) (s : ℕ) → node.content ≡ Directory keys → s < TABLE_LONGS → Chained (image format) NEXT_IN_CHAIN (table_entry (image format) dir s) (in_slot t dir s)
  chains = each (λ dir node. (keys : List ℕ) (s : ℕ) → node.content ≡ Directory keys → s < TABLE_LONGS → Chained (image format) NEXT_IN_CHAIN (table_entry (image format) dir s) (in_slot t dir s))
      (λ keys s e l. one_entry (image format) (table_entry (image format) 8 s) 2 (slot letters.name == s) (h.small_table s l) h.small_links)
      (λ keys s e l. one_entry (image format) (table_entry (image format) 2 s) 3 (slot hello.name == s) (h.letters_table s l) h.letters_links)
      (λ keys s e l. absurd (cc e))

  entries : (key : ℕ) (node : Node) → nodes key ≡ Some node → (dir : ℕ) → node.parent ≡ Some dir → HasEntry (image format) key node dir
  entries = each (λ key node. (dir : ℕ) → node.parent ≡ Some dir → HasEntry (image format) key node dir)
      (λ dir e. absurd (cc e))
      (λ dir e. subst (HasEntry (image format) 2 letters) (cc e) h.letters_entry)
      (λ dir e. subst (HasEntry (image format) 3 hello) (cc e) h.hello_entry)

  files : (file : ℕ) (node : Node) → nodes file ≡ Some node → (bytes : List ℕ) → node.content ≡ File bytes → HasFile (image format) format file (layout.file_data file) [] bytes
  files = each (λ file node. (bytes : List ℕ) → node.content ≡ File bytes → HasFile (image format) format file (layout.file_data file) [] bytes)
      (λ bytes e. absurd (cc e))
      (λ bytes e. absurd (cc e))
      (λ bytes e. subst (HasFile (image format) format 3 (4 ∷ []) []) (cc e) h.file)

  bit_is : (b : ℕ) → IsInside 16 b → has_free_bit (image format) b ≡ not (is_some (duty_of b))
  bit_is b inside =
      let same : b - 2 + 2 ≡ b = omega (arith, inside.0) in
      subst (λ (k : ℕ). has_free_bit (image format) k ≡ not (is_some (duty_of k))) same
      (agree_below_at (λ k. has_free_bit (image format) (k + 2)) (λ k. not (is_some (duty_of (k + 2)))) 14 (b - 2) h.bits (omega (arith, inside.1)))

  named : (b : ℕ) → (HasFreeBit (image format) b → ⊥) → (o : Option Duty) → duty_of b ≡ o → has_free_bit (image format) b ≡ not (is_some o) → Named t layout b
  named b m (Some duty) e is = (duty, has_duty format b duty e)
  named b m None e is = absurd (m is)

  pub stands : Stands (image format) t
  stands = record {
    proper = proper format;
    layout = layout;
    fits = fits format;
    whole = h.whole;
    boot = h.boot;
    root_fields = h.root;
    nodes = each (HasNode (image format)) h.small_node h.letters_node h.hello_node;
    entries = λ key dir node e p. entries key node e dir p;
    pages = λ page m. ap (block_sum (image format)) (only 9 page m) ∙ h.page;
    lost = λ b bytes e. absurd (cc e);
    chains = λ dir node keys s e c l. chains dir node e keys s c l;
    files = λ file node bytes e c. files file node e bytes c;
    marked_free = λ b inside free named. false≢true (sym (bit_is b inside ∙ ap (λ (o : Option Duty). not (is_some o)) (duty_is format b named.0 named.1)) ∙ free);
    marked_used = λ b inside m. named b m (duty_of b) refl (bit_is b inside);
  }
