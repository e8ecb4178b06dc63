-- Bytes of which a writer accepted the first ones.
use Rattle.std.proofs.Common.{◌≡◌, ◌≤◌, ◌+◌, ℕ, List, ◌++◌, take, drop, length, sym, ap, subst, ◌∙◌, arith, Option, take_all, append-nil}
use Rattle.std.specs.Io.KnownBytes.{Appends, Keeps}
use Rattle.std.proofs.KnownBytes.{Appends-nil, Appends-trans, Appends-kept}
use Rattle.std.proofs.lemmas.List.{length-drop}
use Rattle.std.proofs.Math.Seq.{take-add}

-- the writer accepted this many bytes
pub record Took (old new : Option (List ℕ)) (bytes : List ℕ) (written : ℕ) : Type 0 where
  pub within : written ≤ length bytes
  pub appended : Appends old new (take written bytes)

pub took_nothing : (a : Option (List ℕ)) (bytes : List ℕ) → Took a a bytes 0
took_nothing a bytes = record { within = omega arith; appended = Appends-nil a }

pub took_more : (a b c : Option (List ℕ)) (bytes part : List ℕ) (w n : ℕ) → Took a b bytes w → part ≡ drop w bytes → n ≤ length part → Appends b c (take n part) → Took a c bytes (w + n)
took_more a b c bytes part w n before rest fits more = record {
  within = omega (arith, before.within, fits, ap length rest ∙ length-drop w bytes);
  appended = subst (Appends a c) (ap (λ (l : List ℕ). take w bytes ++ take n l) rest ∙ sym (take-add w n bytes)) (Appends-trans a b c (take w bytes) (take n part) before.appended more);
}

pub took_none : (a b c : Option (List ℕ)) (bytes part : List ℕ) (w n : ℕ) → Took a b bytes w → n ≡ 0 → Appends b c (take n part) → Took a c bytes w
took_none a b c bytes part w n before none more = record {
  within = before.within;
  appended = subst (Appends a c) (ap (λ (m : ℕ). take w bytes ++ take m part) none ∙ append-nil (take w bytes)) (Appends-trans a b c (take w bytes) (take n part) before.appended more);
}

pub took_no_more : (a b c : Option (List ℕ)) (bytes : List ℕ) (w : ℕ) → Took a b bytes w → Keeps b c → Took a c bytes w
took_no_more a b c bytes w before same = record { within = before.within; appended = Appends-kept a b c (take w bytes) before.appended same }

pub took_all : (a b : Option (List ℕ)) (bytes : List ℕ) (w : ℕ) → Took a b bytes w → length bytes ≤ w → Appends a b bytes
took_all a b bytes w before end = subst (Appends a b) (take_all w bytes (omega (arith, end, before.within))) before.appended
