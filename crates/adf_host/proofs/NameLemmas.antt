-- Names of host files with endings.
use Rattle.std.proofs.Common.{◌≡◌, ◌≢◌, ℕ, ◌≤◌, List, [], ◌∷◌, ◌++◌, length, All, ap, sym, subst, length-append, arith}
use Rattle.std.specs.Prelude.{codes}
use Rattle.std.proofs.lemmas.List.Elements.{All-append, All-cons, All-nil}
use Rattle.adf_text.specs.HostNames.{IsHostName}
use Rattle.adf_host.specs.Notes.{note_of}
use Rattle.adf_text.proofs.HostLemmas.{IsPlain}

ending_plain : All IsPlain (codes ".uaem")
ending_plain =
    All-cons IsPlain 46 (117 ∷ 97 ∷ 101 ∷ 109 ∷ []) (λ e. omega (arith, e), λ e. omega (arith, e))
    (All-cons IsPlain 117 (97 ∷ 101 ∷ 109 ∷ []) (λ e. omega (arith, e), λ e. omega (arith, e))
    (All-cons IsPlain 97 (101 ∷ 109 ∷ []) (λ e. omega (arith, e), λ e. omega (arith, e))
    (All-cons IsPlain 101 (109 ∷ []) (λ e. omega (arith, e), λ e. omega (arith, e))
    (All-cons IsPlain 109 [] (λ e. omega (arith, e), λ e. omega (arith, e)) (All-nil IsPlain)))))

-- a text differs from a shorter one
not_short : (name ending short : List ℕ) → length short ≤ 2 → 1 ≤ length name → 2 ≤ length ending → name ++ ending ≢ short
not_short name ending short fits some long same = omega (arith, fits, some, long, ap length same, length-append name ending)

IsHostName-ended : (name ending : List ℕ) → 2 ≤ length ending → All IsPlain ending → IsHostName name → IsHostName (name ++ ending)
IsHostName-ended name ending long plain is = record {
  not_empty = omega (arith, is.not_empty, length-append name ending);
  not_dot = not_short name ending (codes ".") (omega arith) is.not_empty long;
  not_dots = not_short name ending (codes "..") (omega arith) is.not_empty long;
  plain = All-append IsPlain name ending is.plain plain;
}

-- a text of this form is a name
pub IsHostName-longer : (name ending text : List ℕ) → 2 ≤ length ending → All IsPlain ending → IsHostName name → text ≡ name ++ ending
    → IsHostName text
IsHostName-longer name ending text long plain is spelled =
    subst IsHostName (sym spelled) (IsHostName-ended name ending long plain is)

pub IsHostName-noted : (name text : List ℕ) → IsHostName name → text ≡ note_of name → IsHostName text
IsHostName-noted name text is spelled = subst IsHostName (sym spelled) (IsHostName-ended name (codes ".uaem") (omega arith) ending_plain is)
