-- A handle of the table gets another position.
use Rattle.std.proofs.Common.{◌≡◌, ◌≢◌, ℕ, ◌+◌, ◌-◌, Option, Some, None, is_some, sym, ap, ◌∙◌, arith}
use Rattle.std.specs.FinMap as numbered
use Rattle.ados_handler.proofs.Common.{option_map_or, nat_cmp, Slab, with_value, HandleHold, numbered_from_one}
use Rattle.slab.specs.Slab.{get}
use Rattle.slab.proofs.SlabLemmas.{Updates-with_value}
use Rattle.ados_handler.proofs.Tables.{get_suc, update_inserts}

-- the handles with the one under this number, if any, moved to this position
abbrev moved_in : ℕ → ℕ → numbered.FinMap nat_cmp HandleHold → Option HandleHold → numbered.FinMap nat_cmp HandleHold
moved_in number position held found = option_map_or (λ hold. numbered.insert held number (record hold { position = position })) found held

module _ (s : Slab HandleHold) (held : numbered.FinMap nat_cmp HandleHold) (is : numbered_from_one s ≡ held) (number position : ℕ) where
  pub moved_there : number ≢ 0 → (hold : HandleHold) → get s (number - 1) ≡ Some hold → (new : Slab HandleHold) → new ≡ with_value s (number - 1) (record hold { position = position })
      → numbered_from_one new ≡ moved_in number position held (numbered.get held number)
  moved_there other hold at new written =
      let moved : HandleHold = record hold { position = position } in
      let same : number - 1 + 1 ≡ number = omega (arith, other) in
      let found : numbered.get held number ≡ Some hold = ap (λ m. numbered.get m number) (sym is) ∙ get_suc s number other ∙ at in
      ap numbered_from_one written
      ∙ update_inserts s (with_value s (number - 1) moved) (number - 1) moved (Updates-with_value s (number - 1) moved (ap is_some at))
      ∙ ap (λ (n : ℕ). numbered.insert (numbered_from_one s) n moved) same
      ∙ ap (λ m. numbered.insert m number moved) is
      ∙ sym (ap (moved_in number position held) found)

  pub moved_nothing : numbered.get (numbered_from_one s) number ≡ None → (new : Slab HandleHold) → new ≡ s → numbered_from_one new ≡ moved_in number position held (numbered.get held number)
  moved_nothing none new same =
      ap numbered_from_one same ∙ is ∙ sym (ap (moved_in number position held) (ap (λ m. numbered.get m number) (sym is) ∙ none))
