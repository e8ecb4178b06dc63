-- Lemmas about runs, and about a client's values in a list.
use Rattle.std.proofs.Common.{◌≡◌, ◌≢◌, ℕ, suc, cond, List, [], ◌∷◌, ◌++◌, map, length, sym, ap, ◌∙◌, refl}
use Rattle.std.proofs.lemmas.List.{map-append}
use Rattle.std.proofs.lemmas.List.Elements.{filter-append}
use Rattle.ados_port.specs.History.{Serving, packets_by, Run, last_server}
use Rattle.ados_port.specs.Lawful.{answers_to}
use Rattle.ados_port.proofs.Numbers.{eq_true, eq_false}

pub run-length : {S Q M A : Type 0} (gives : S → Q → M → S → A → Type 0) (old : S) (served : List (Serving Q M A)) (servers : List S) → Run gives old served servers → length servers ≡ length served
run-length gives old [] [] r = refl
run-length gives old [] (n ∷ ns) r = elim r [ ]
run-length gives old (s ∷ ss) [] r = elim r [ ]
run-length gives old (s ∷ ss) (n ∷ ns) r = ap suc (run-length gives n ss ns r.1)

pub run-append : {S Q M A : Type 0} (gives : S → Q → M → S → A → Type 0) (old : S) (served more : List (Serving Q M A)) (servers after : List S)
    → Run gives old served servers → Run gives (last_server old servers) more after → Run gives old (served ++ more) (servers ++ after)
run-append gives old [] more [] after r q = q
run-append gives old [] more (n ∷ ns) after r q = elim r [ ]
run-append gives old (s ∷ ss) more [] after r q = elim r [ ]
run-append gives old (s ∷ ss) more (n ∷ ns) after r q = (r.0, run-append gives n ss more ns after r.1 q)

pub last_server-append : {S : Type 0} (old : S) (servers after : List S) → last_server old (servers ++ after) ≡ last_server (last_server old servers) after
last_server-append old [] after = refl
last_server-append old (n ∷ ns) after = last_server-append n ns after

pub packets_by-append : {Q : Type 0} (n : ℕ) (xs ys : List (ℕ × Q)) → packets_by n (xs ++ ys) ≡ packets_by n xs ++ packets_by n ys
packets_by-append n xs ys = ap (map _) (filter-append _ xs ys) ∙ map-append _ _ _

pub answers_to-append : {Q M A : Type 0} (n : ℕ) (xs ys : List (Serving Q M A)) → answers_to n (xs ++ ys) ≡ answers_to n xs ++ answers_to n ys
answers_to-append n xs ys = ap (packets_by n) (map-append _ xs ys) ∙ packets_by-append n _ _

-- a list of one packet has it for its own client, and for no other
pub packets_by-own : {Q : Type 0} (n number : ℕ) (x : Q) → number ≡ n → packets_by number ((n, x) ∷ []) ≡ x ∷ []
packets_by-own {Q} n number x e = ap (λ b. map (λ (p : ℕ × Q). p.1) (cond b ((n, x) ∷ []) [])) (eq_true n number (sym e))

pub packets_by-other : {Q : Type 0} (n number : ℕ) (x : Q) → number ≢ n → packets_by number ((n, x) ∷ []) ≡ []
packets_by-other {Q} n number x h = ap (λ b. map (λ (p : ℕ × Q). p.1) (cond b ((n, x) ∷ []) [])) (eq_false n number (λ e. h (sym e)))
