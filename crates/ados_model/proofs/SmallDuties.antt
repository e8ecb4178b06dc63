-- The use of each block: the three nodes, the bitmap block and the file's data block.
use Rattle.ados_model.proofs.Common.{◌≡◌, ℕ, zero, suc, List, [], ◌∷◌, length, slice_get, Option, Some, IsSome, refl, option_map, subst, arith, false≢true, Format, Ofs, Ffs, IsInside, data_count, extension_count, Content, Tree, size_of, File, Layout, Fits, Duty, HasDuty, nodes, tree}
use Rattle.ados_model.proofs.SmallNodes.{by_key}
use Rattle.ados_model.proofs.SmallRows.{at_key, each_row}

-- the data blocks of a node's content: the only file has block 4
abbrev blocks_in : Option Content → List ℕ
blocks_in (Some (File bytes)) = 4 ∷ []
blocks_in _ = []

abbrev pub layout : Layout
layout = record { pages = 9 ∷ []; file_data = λ file. blocks_in (option_map (λ node. node.content) (nodes file)); extensions = λ file. [] }

-- each block with a use
abbrev duties : List (ℕ × Duty)
duties = (2, Duty.Key) ∷ (3, Duty.Key) ∷ (4, Duty.Data 3 0) ∷ (8, Duty.Key) ∷ (9, Duty.Page 0) ∷ []

abbrev pub duty_of : ℕ → Option Duty
duty_of = at_key duties

counts : (format : Format) (file : ℕ) → length (layout.file_data file) ≡ data_count format (size_of (tree format) file)
counts Ofs = by_key (λ file. length (layout.file_data file) ≡ data_count Ofs (size_of (tree Ofs) file)) refl refl refl (λ key none. rw none refl)
counts Ffs = by_key (λ file. length (layout.file_data file) ≡ data_count Ffs (size_of (tree Ffs) file)) refl refl refl (λ key none. rw none refl)

module _ (format : Format) where
  abbrev t : Tree
  t = tree format

  pub has_duty : (b : ℕ) (duty : Duty) → duty_of b ≡ Some duty → HasDuty t layout b duty
  has_duty = each_row (HasDuty t layout) duties (refl, (refl, (refl, (refl, (refl, tt)))))

  data_duty : (i b : ℕ) → slice_get (4 ∷ []) i ≡ Some b → duty_of b ≡ Some (Duty.Data 3 i)
  data_duty zero b e = let same : 4 ≡ b = cc e in subst (λ (k : ℕ). duty_of k ≡ Some (Duty.Data 3 0)) same refl
  data_duty (suc i) b e = absurd (cc e)

  pub duty_is : (b : ℕ) (duty : Duty) → HasDuty t layout b duty → duty_of b ≡ Some duty
  duty_is b (Duty.Page zero) h = let same : 9 ≡ b = cc h in subst (λ (k : ℕ). duty_of k ≡ Some (Duty.Page 0)) same refl
  duty_is b (Duty.Page (suc i)) h = absurd (cc h)
  duty_is b Duty.Key h =
      by_key (λ k. IsSome (nodes k) → duty_of k ≡ Some Duty.Key) (λ _. refl) (λ _. refl) (λ _. refl)
      (λ k none some. absurd (false≢true (rw none at some))) b h
  duty_is b (Duty.Data file i) h =
      by_key (λ k. slice_get (layout.file_data k) i ≡ Some b → duty_of b ≡ Some (Duty.Data k i)) (λ e. absurd (cc e)) (λ e. absurd (cc e)) (data_duty i b)
      (λ k none e. absurd (cc (rw none at e))) file h
  duty_is b (Duty.Extension file i) h = absurd (cc h)
  duty_is b Duty.Lost h = absurd (false≢true h)

  pub fits : Fits t layout
  fits = record {
    pages = refl;
    file_data = counts format;
    extensions = by_key (λ file. 0 ≡ extension_count (length (layout.file_data file))) refl refl refl (λ key none. rw none refl);
    inside = λ b duty h. each_row (λ k d. IsInside 16 k) duties (omega arith, (omega arith, (omega arith, (omega arith, (omega arith, tt))))) b duty (duty_is b duty h);
    lost = λ b bytes e. absurd (cc e);
    one_duty = λ b duty other h m. cc (duty_is b duty h, duty_is b other m);
  }
