-- What the joined threads hand back, client by client.
use Rattle.std.proofs.Common.{◌≡◌, ℕ, zero, suc, Result, Ok, Err, OnOk, List, [], ◌∷◌, ◌++◌, map, length, Some, slice_get, sym, refl, ap, ◌∙◌, subst, arith, append-nil, length-append, inl, inr}
use Rattle.std.specs.Result.{result_and}
use Rattle.std.proofs.lemmas.List.{length-map, map-append}
use Rattle.std.proofs.lemmas.Option.{none-some}
use Rattle.ados_port.specs.Ends.{ClientView}
use Rattle.ados_port.proofs.Moves.{get_end}
use Rattle.ados_port.specs.Grown.{Did, EachDid}

pub nil_of : {X : Type 0} (xs : List X) → length xs ≡ 0 → xs ≡ []
nil_of [] e = refl
nil_of (x ∷ xs) e = absurd (omega arith)

-- the loop has reached the end of the list
pub none_left : {X : Type 0} (ys rest all : List X) → ys ++ rest ≡ all → length rest ≡ 0 → ys ≡ all
none_left ys rest all whole none = sym (append-nil ys) ∙ (ap (λ l. ys ++ l) (sym (nil_of rest none)) ∙ whole)

module _ {H J V : Type 0} where
  -- each job was started if each end was handed out
  pub jobs_started : (endv : H → V) (jobv : H → J) (hs : List H) (ys rest all : List V) (jobs given : List J)
      → ys ++ rest ≡ all → length rest ≡ 0 → map endv hs ≡ ys → map jobv hs ++ jobs ≡ given → length given ≡ length all → map jobv hs ≡ given
  jobs_started endv jobv hs ys rest all jobs given whole none is_ends parts len =
      let a = length-append ys rest in
      let b = ap (λ (l : List V). length l) whole in
      let c = ap (λ (l : List V). length l) is_ends in
      let d = length-map hs endv in
      let e = length-map hs jobv in
      let f = length-append (map jobv hs) jobs in
      let g = ap (λ (l : List J). length l) parts in
      let r : jobs ≡ [] = nil_of jobs (omega arith) in
      sym (append-nil (map jobv hs)) ∙ (ap (λ (l : List J). map jobv hs ++ l) (sym r) ∙ parts)

module _ {X : Type 0} where
  -- an element keeps its index in a longer list
  get_front : (xs ys : List X) (k : ℕ) (x : X) → slice_get xs k ≡ Some x → slice_get (xs ++ ys) k ≡ Some x
  get_front [] ys k x e = absurd (none-some x e)
  get_front (z ∷ zs) ys zero x e = e
  get_front (z ∷ zs) ys (suc k) x e = get_front zs ys k x e

  -- the last element
  get_last : (xs : List X) (x : X) (k : ℕ) → k ≡ length xs → slice_get (xs ++ x ∷ []) k ≡ Some x
  get_last xs x k e = ap (slice_get (xs ++ x ∷ [])) e ∙ at xs
    where
      at : (zs : List X) → slice_get (zs ++ x ∷ []) (length zs) ≡ Some x
      at [] = refl
      at (z ∷ zs) = at zs

module _ {Q M A J T : Type 0} (does : J → ClientView Q M A → ClientView Q M A → T → Type 0) where
  -- one more client did its job
  pub each_did_more : (jobs : List J) (old new : List (ClientView Q M A)) (reports : List T) (job : J) (o n : ClientView Q M A) (report : T)
      → length jobs ≡ length old → EachDid does jobs old new reports → Did does job o n report
      → EachDid does (jobs ++ job ∷ []) (old ++ o ∷ []) (new ++ n ∷ []) (reports ++ report ∷ [])
  each_did_more jobs old new reports job o n report as_long each did = (
    (let a = length-append new (n ∷ []) in let b = length-append old (o ∷ []) in let e = each.0 in omega arith),
    (let a = length-append reports (report ∷ []) in let b = length-append old (o ∷ []) in let e = each.1 in omega arith),
    λ k x at. elim (get_end old o x k at) [
      | inl w ↦
          let d = each.2 k x w in
          (d.0, d.1, d.2, get_front jobs (job ∷ []) k d.0 d.3, get_front new (n ∷ []) k d.1 d.4, get_front reports (report ∷ []) k d.2 d.5, d.6)
      | inr w ↦ (
        job,
        n,
        report,
        get_last jobs job k (w.0 ∙ sym as_long),
        get_last new n k (w.0 ∙ sym each.0),
        get_last reports report k (w.0 ∙ sym each.1),
        subst (λ (z : ClientView Q M A). Did does job z n report) w.1 did,
      )
    ],
  )

  -- the same for equal lists
  pub did_alike : (jobs jobs' : List J) (old old' new : List (ClientView Q M A)) (reports : List T) → jobs ≡ jobs' → old ≡ old' → EachDid does jobs old new reports → EachDid does jobs' old' new reports
  did_alike jobs jobs' old old' new reports same_jobs same_old did =
      subst (λ (l : List J). EachDid does l old' new reports) same_jobs (subst (λ (l : List (ClientView Q M A)). EachDid does jobs l new reports) same_old did)

  -- one more thread was joined
  pub joined_more : {H : Type 0} (jobv : H → J) (endv : H → ClientView Q M A) (hs : List H) (h : H) (new new' : List (ClientView Q M A)) (reports reports' : List T) (n : ClientView Q M A) (report : T)
      → EachDid does (map jobv hs) (map endv hs) new reports → Did does (jobv h) (endv h) n report → new' ≡ new ++ n ∷ [] → reports' ≡ reports ++ report ∷ []
      → EachDid does (map jobv (hs ++ h ∷ [])) (map endv (hs ++ h ∷ [])) new' reports'
  joined_more jobv endv hs h new new' reports reports' n report each did is_new is_reports =
      rw (map-append jobv hs (h ∷ []), map-append endv hs (h ∷ []), is_new, is_reports)
      (each_did_more (map jobv hs) (map endv hs) new reports (jobv h) (endv h) n report (length-map hs jobv ∙ sym (length-map hs endv)) each did)

-- a property that follows from the success of the first result follows from the success of both
pub first_ok : {F : Type 0} (P : Type 0) (first second : Result (Unit {0}) F) (done : Unit {0}) → result_and first second ≡ Ok done → OnOk first P → P
first_ok P (Ok x) second done both p = p
first_ok P (Err f) second done both p = absurd (cc both)

-- and one that follows from the success of the second
pub second_ok : {F : Type 0} (P : Type 0) (first second : Result (Unit {0}) F) (done : Unit {0}) → result_and first second ≡ Ok done → OnOk second P → P
second_ok P (Ok x) (Ok y) done both p = p
second_ok P (Ok x) (Err f) done both p = absurd (cc both)
second_ok P (Err f) second done both p = absurd (cc both)
