-- The held objects, by locks and by handles.
use Rattle.std.proofs.Common.{◌≡◌, ℕ, Bool, true, false, List, [], ◌∷◌, map, refl, sym, ap, ◌∙◌}
use Rattle.std.specs.Prelude.{◌||◌}
use Rattle.std.specs.FinMap as numbered
use Rattle.std.proofs.lemmas.List.Folds.{list_any-append}
use Rattle.ados_handler.proofs.Common.{list_any, Session, holds}

any_map : {X Y : Type 0} (f : X → Y) (passes : Y → Bool) (xs : List X) → list_any passes (map f xs) ≡ list_any (λ x. passes (f x)) xs
any_map f passes [] = refl
any_map f passes (x ∷ xs) = ap (λ (b : Bool). passes (f x) || b) (any_map f passes xs)

module _ (passes : ℕ × Bool → Bool) (s : Session) where
  -- a test of all holds is a test of the locks and one of the handles
  apart : list_any passes (holds s) ≡ (list_any (λ l. passes (l.key, l.exclusive)) (numbered.values s.locks) || list_any (λ h. passes (h.key, h.exclusive)) (numbered.values s.handles))
  apart =
      list_any-append passes (map (λ l. (l.key, l.exclusive)) (numbered.values s.locks)) (map (λ h. (h.key, h.exclusive)) (numbered.values s.handles))
      ∙ ap (λ (b : Bool). b || list_any passes (map (λ h. (h.key, h.exclusive)) (numbered.values s.handles))) (any_map (λ l. (l.key, l.exclusive)) passes (numbered.values s.locks))
      ∙ ap (λ (b : Bool). list_any (λ l. passes (l.key, l.exclusive)) (numbered.values s.locks) || b) (any_map (λ h. (h.key, h.exclusive)) passes (numbered.values s.handles))

  -- a lock passes the test
  pub by_lock : (found : Bool) → found ≡ list_any (λ l. passes (l.key, l.exclusive)) (numbered.values s.locks) → found ≡ true → found ≡ list_any passes (holds s)
  by_lock found is one = one ∙ ap (λ (b : Bool). b || list_any (λ h. passes (h.key, h.exclusive)) (numbered.values s.handles)) (sym one ∙ is) ∙ sym apart

  -- no lock passes the test
  pub by_handle : (found in_handles : Bool) → found ≡ list_any (λ l. passes (l.key, l.exclusive)) (numbered.values s.locks) → found ≡ false
      → in_handles ≡ list_any (λ h. passes (h.key, h.exclusive)) (numbered.values s.handles) → in_handles ≡ list_any passes (holds s)
  by_handle found in_handles is none handles = handles ∙ ap (λ (b : Bool). b || list_any (λ h. passes (h.key, h.exclusive)) (numbered.values s.handles)) (sym none ∙ is) ∙ sym apart
