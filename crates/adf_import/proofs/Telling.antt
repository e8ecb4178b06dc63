-- The faults of refused moves and protections.
use Rattle.std.proofs.Common.{◌≡◌, ℕ, Option, None, Some, Result, Err, List, [], ◌∷◌, refl, sym, subst}
use Rattle.adf_import.proofs.Common.{chars, Date3, Form, protect_word, Shown, EndsProtect, EndsAt, ReadsFirst, InFault, MoveFault}
use Rattle.std.specs.Prelude.{MatchOption, ⊤}
use Rattle.adf_import.specs.Commands.{EndsMove, EndsWithoutBits, IsMoveRefusal, Moves, Protects}
use Rattle.adf_import.specs.Words.{IsBitsFault}
use Rattle.adf_import.specs.declared.fault.InFault.TheVariants.{Bits, Memory}
use Rattle.adf_import.specs.declared.paths.MoveFault.TheVariants.{New, Old}
use Rattle.adf_import.proofs.Turning.{told_apart, was_read}

-- a move that is refused
pub move_refused : (moment : Date3) (from to : List ℕ) (old new : Shown) (fault : MoveFault) (told : InFault) → IsMoveRefusal from to fault told → Moves moment (chars from) (chars to) old new (Err fault)
    → ReadsFirst (from ∷ to ∷ []) (EndsMove moment from to) old new (Err told)
move_refused moment from to old new (Old error) told is h = told_apart (λ (f : InFault). ReadsFirst (from ∷ to ∷ []) (EndsMove moment from to) old new (Err f)) error from told is (λ told is. (Old error, h, is)) tt
move_refused moment from to old new (New error) told is h = told_apart (λ (f : InFault). ReadsFirst (from ∷ to ∷ []) (EndsMove moment from to) old new (Err f)) error to told is (λ told is. (New error, h, is)) tt

nothing_else : {X : Type 0} (o : Option X) → MatchOption o ⊥ (λ _. ⊥) → ⊥
nothing_else None h = h
nothing_else (Some x) h = h

module _ (moment : Date3) (path bits : List ℕ) (old new : Shown) where
  -- an argument with these protection bits decides how it ends
  word_ends : (word : Form × List ℕ) (r : Result Unit InFault) → protect_word (chars bits) ≡ Some word → EndsAt (Protects moment (chars path) word) path old new r → EndsProtect moment path bits old new r
  word_ends word r is h =
      subst (λ (o : Option (Form × List ℕ)). MatchOption o (EndsWithoutBits bits old new r) (λ w. EndsAt (Protects moment (chars path) w) path old new r)) (sym is) h

  -- after both arguments are read
  pub bits_read : (word : Form × List ℕ) (r : Result Unit InFault) → protect_word (chars bits) ≡ Some word → EndsAt (Protects moment (chars path) word) path old new r
      → ReadsFirst (path ∷ bits ∷ []) (EndsProtect moment path bits) old new r
  bits_read word r is h = was_read (path ∷ bits ∷ []) (EndsProtect moment path bits) old new r (λ text. nothing_else (protect_word (chars bits))) (word_ends word r is h)

-- an end without memory says nothing
pub nothing_said : {X : Type 0} (o : Option X) → MatchOption o ⊤ (λ _. ⊤)
nothing_said None = tt
nothing_said (Some x) = tt

-- an argument without protection bits
pub no_bits : (moment : Date3) (path bits : List ℕ) (volume : Shown) (fault : InFault) → IsBitsFault bits fault → ReadsFirst (path ∷ bits ∷ []) (EndsProtect moment path bits) volume volume (Err fault)
no_bits moment path bits volume (Bits text) is =
    subst (λ (o : Option (Form × List ℕ)). MatchOption o (EndsWithoutBits bits volume volume (Err (Bits text))) (λ w. EndsAt (Protects moment (chars path) w) path volume volume (Err (Bits text)))) (sym is.1) (refl, is.0)
no_bits moment path bits volume Memory is = nothing_said (protect_word (chars bits))
no_bits moment path bits volume fault is = absurd is
