-- SET_FILE_SIZE.
use Rattle.std.proofs.Common.{◌≡◌, ℕ, ◌+◌, ◌-◌, ◌/◌, ◌<◌, ◌≤◌, ℤ, pos, Bool, true, false, cond, List, [], ◌∷◌, Option, Some, Result, Ok, Err, MatchResult, inl, inr, refl, sym, ap, ap₂, ◌∙◌, subst, arith, nat_lt, eq-eqb}
use Rattle.std.specs.FinMap.{get}
use Rattle.ados_handler.proofs.Common.{eqb-true, false_from_ne_true, le-ltb, lt-ltb, ne_eqb, not-false, Ofs, Ffs, block_cost, Tree, free, size_of, needs_more, Date3, denies_write, Stands, KeepsRest, grown, shortened, DosError, DiskFull, SeekError, WriteProtected, error_number, dos_true, Packet, SetFileSize, Results, Empty, HandleHold, handle_key, positions_within, HandlerState, handle_target, is_bad_target, protection_of, target_number, seek_target, first_refusal, refusal, refuse, after, resized, MethodGives}
use Rattle.adf_block.specs.declared.layout.Format.{Format}
use Rattle.ados_change.specs.Renewed.{NeedsMore}
use Rattle.ados_handler.proofs.Meant.{done, refused_gives, served_means}
use Rattle.ados_handler.proofs.HandleFiles.{key_is, opened_on, position_is}

-- a smaller size needs at most as many blocks
cost_below : (format : Format) (a b : ℕ) → a ≤ b → block_cost format a ≤ block_cost format b
cost_below Ofs a b h = let d : (a + 488 - 1) / 488 ≤ (b + 488 - 1) / 488 = omega arith in omega arith
cost_below Ffs a b h = let d : (a + 512 - 1) / 512 ≤ (b + 512 - 1) / 512 = omega arith in omega arith

pub needs_no_more : (t : Tree) (key size : ℕ) → size ≤ size_of t key → needs_more t key size ≡ false
needs_no_more t key size h =
    le-ltb (free t + block_cost t.format (size_of t key)) (block_cost t.format size) (omega (arith, cost_below t.format size (size_of t key) h))

-- the three ways to a new size
module _ (now : Date3) (key size : ℕ) (t : Tree) where
  pub resized_same : size ≡ size_of t key → resized now key size t ≡ t
  resized_same e = ap (λ (b : Bool). cond b t (cond (nat_lt size (size_of t key)) (shortened now key size t) (grown now key size t))) (eq-eqb size (size_of t key) e)

  pub resized_shorter : size < size_of t key → resized now key size t ≡ shortened now key size t
  resized_shorter h =
      ap (λ (b : Bool). cond b t (cond (nat_lt size (size_of t key)) (shortened now key size t) (grown now key size t))) (ne_eqb size (size_of t key) (λ e. omega (arith, h, e)))
      ∙ ap (λ (b : Bool). cond b (shortened now key size t) (grown now key size t)) (lt-ltb size (size_of t key) h)

  pub resized_longer : size_of t key < size → resized now key size t ≡ grown now key size t
  resized_longer h =
      ap (λ (b : Bool). cond b t (cond (nat_lt size (size_of t key)) (shortened now key size t) (grown now key size t))) (ne_eqb size (size_of t key) (λ e. omega (arith, h, e)))
      ∙ ap (λ (b : Bool). cond b (shortened now key size t) (grown now key size t)) (le-ltb size (size_of t key) (omega (arith, h)))

-- the size after a growth, by its result
pub full_or_grown : {A E : Type 0} (now : Date3) (key size : ℕ) (old new : List ℕ) (r : Result A E) (Same : Type 0)
    → ((t : Tree) → Stands old t → size_of t key < size)
    → MatchResult r (λ _. (t : Tree) → Stands old t → (¬ NeedsMore t key size) × Stands new (grown now key size t)) (λ _. Same × ((t : Tree) → Stands old t → NeedsMore t key size))
    → MatchResult r (λ _. (t : Tree) → Stands old t → (needs_more t key size ≡ false) × Stands new (resized now key size t)) (λ _. Same × ((t : Tree) → Stands old t → needs_more t key size ≡ true))
full_or_grown now key size old new (Ok x) Same longer done = λ t stands.
    let d = done t stands in (
      false_from_ne_true (needs_more t key size) d.0,
      subst (Stands new) (sym (resized_longer now key size t (longer t stands))) d.1,
    )
full_or_grown now key size old new (Err x) Same longer done =
    done

-- SET_FILE_SIZE with a valid handle on a writable file, for a living handler
module _ (old given : HandlerState) (same : old ≡ given) (t : Tree) (stood : Stands old.image t) (handle : ℕ) (offset mode : ℤ) (now : Date3) (hold : HandleHold) (at : get given.session.handles handle ≡ Some hold)
    (alive : old.session.died ≡ false) (free : denies_write (protection_of t hold.key) ≡ false) (held : ℕ) (is : held ≡ size_of t hold.key) where
  abbrev packet : Packet
  packet = SetFileSize handle offset mode

  abbrev target : Option ℤ
  target = seek_target hold.position held offset mode

  by_handle : get old.session.handles handle ≡ Some hold
  by_handle = ap (λ (h : HandlerState). get h.session.handles handle) same ∙ at

  file_is : handle_key old.session handle ≡ hold.key
  file_is = key_is old.session handle hold by_handle

  target_is : handle_target t old.session handle offset mode ≡ target
  target_is = ap₂ (λ (p z : ℕ). seek_target p z offset mode) (position_is old.session handle hold by_handle) (ap (size_of t) file_is ∙ sym is)

  row : (bad more : Bool) → is_bad_target 2147483647 target ≡ bad → needs_more t hold.key (target_number target) ≡ more → refusal t old.session packet ≡ first_refusal (refuse SeekError bad ∷ refuse DiskFull more ∷ [])
  row bad more b m =
      let denied = ap (λ (k : ℕ). denies_write (protection_of t k)) file_is ∙ free in
      let is_bad = ap (is_bad_target 2147483647) target_is ∙ b in
      let needs = ap₂ (needs_more t) file_is (ap target_number target_is) ∙ m in
      opened_on old.session handle hold by_handle alive
      (refuse WriteProtected (denies_write (protection_of t (handle_key old.session handle))) ∷ refuse SeekError (is_bad_target 2147483647 (handle_target t old.session handle offset mode))
      ∷ refuse DiskFull (needs_more t (handle_key old.session handle) (target_number (handle_target t old.session handle offset mode))) ∷ [])
      ∙ (λ i. first_refusal (refuse WriteProtected (denied i) ∷ refuse SeekError (is_bad i) ∷ refuse DiskFull (needs i) ∷ []))

  refused : (new : HandlerState) (results : Results) (code : DosError) → refusal t old.session packet ≡ Some code → new ≡ old → results ≡ record { res1 = pos 0; res2 = pos (error_number code); body = Empty } → MethodGives given packet now new results
  refused new results code first stays told = subst (λ (h : HandlerState). MethodGives h packet now new results) same (refused_gives old new packet now results t code stood stays first told)

  -- the target is not a size
  pub bad_gives : (results : Results) → is_bad_target 2147483647 target ≡ true → results ≡ record { res1 = pos 0; res2 = pos (error_number SeekError); body = Empty } → MethodGives given packet now given results
  bad_gives results bad told = subst (λ (h : HandlerState). MethodGives given packet now h results) same (refused old results SeekError (row true _ bad refl) refl told)

  module _ (size : ℕ) (good : is_bad_target 2147483647 target ≡ false) (there : size ≡ target_number target) (new : HandlerState) (results : Results) where
    size_is : target_number (handle_target t old.session handle offset mode) ≡ size
    size_is = ap target_number target_is ∙ sym there

    -- too few blocks are free for it
    pub full_gives : needs_more t hold.key size ≡ true → new ≡ old → results ≡ record { res1 = pos 0; res2 = pos (error_number DiskFull); body = Empty } → MethodGives given packet now new results
    full_gives more stays told = refused new results DiskFull (row false true good (ap (needs_more t hold.key) (sym there) ∙ more)) stays told

    -- the file now has it
    pub sized_gives : needs_more t hold.key size ≡ false → Stands new.image (resized now hold.key size t) → KeepsRest old.image new.image
        → (size ≡ size_of t hold.key → new.image ≡ old.image) → new.was_validated ≡ old.was_validated → new.session ≡ positions_within hold.key size old.session
        → results ≡ done Empty → MethodGives given packet now new results
    sized_gives room stands keeps stays validated holds told =
        let u = resized now hold.key size t in
        subst (λ (h : HandlerState). MethodGives h packet now new results) same (record {
          old_tree = t;
          new_tree = u;
          stood = stood;
          stands = stands;
          means = served_means old.places t u old.session new.session packet now results (row false false good (ap (needs_more t hold.key) (sym there) ∙ room)) (record {
            success = (λ i. after u (holds i) (told i).res1 (told i).body)
                ∙ (λ i. after (resized now (sym file_is i) (sym size_is i) t) (positions_within (sym file_is i) (sym size_is i) old.session) dos_true Empty);
            action = refl;
            res2 = ap (λ (r : Results). r.res2) told;
          });
          leaves = record {
            keeps = inr keeps;
            rest = λ why. elim why [
              | inl failed ↦ absurd (failed (ap (λ (r : Results). r.res2) told))
              | inr none ↦ stays (sym size_is ∙ eqb-true _ _ (not-false _ none) ∙ ap (size_of t) file_is)
            ];
          };
          validated = validated;
        })
