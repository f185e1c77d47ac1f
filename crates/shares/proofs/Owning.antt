-- What the first reading tells of a command: how many lines its processes have.
use Rattle.std.proofs.Common.{◌≡◌, ◌≢◌, ℕ, ◌+◌, ◌<◌, ◌≤◌, Bool, true, false, List, [], ◌∷◌, ◌++◌, length, get_or, set, replicate, refl, sym, ap, subst, ◌∙◌, Option, Some, None, inl, inr, arith, length-append}
use Prim.Native.Nat.{zero, suc}
use Rattle.std.specs.Prelude.{◌==◌, if◌then◌else◌}
use Rattle.std.proofs.lemmas.Bool.{false≢true}
use Rattle.std.proofs.lemmas.Bool.Decides.{eqb_tells}
use Rattle.std.proofs.lemmas.List.{get_or-set_other, get_or_append_left}
use Rattle.std.proofs.Math.Seq.{get_or-append_seam}
use Rattle.shares.specs.declared.families.Families.{Families}
use Rattle.shares.specs.declared.owners.Owned.{Owned}
use Rattle.shares.specs.declared.processes.Process.{Process}
use Rattle.shares.specs.Processes.{is_fine}
use Rattle.shares.specs.Owners.{counted, more_left, no_left, nobody, none_owned, owned_all, owned_more, owner_at, owner_in}
use Rattle.shares.specs.Sharing.{owned_by}
use Rattle.shares.specs.Whole.{AllFine, is_of}
use Rattle.shares.proofs.Counting.{counts, sum_of}

-- what was set is what is found there
set_found : (xs : List (Option ℕ)) (i : ℕ) (v : Option ℕ) (m : ℕ) → get_or (set xs i v) i no_left ≡ Some m → v ≡ Some m
set_found [] i v m is = absurd (cc)
set_found (x ∷ xs) zero v m is = is
set_found (x ∷ xs) (suc i) v m is = set_found xs i v m is

more_some : (p : Process) (left : Option ℕ) (n : ℕ) → more_left p left ≡ Some n → (m : ℕ) × (left ≡ Some m) × (n ≡ m + p.lines) × (is_fine p ≡ true)
more_some p None n is = absurd (cc)
more_some p (Some m) n is = by (is_fine p) refl is
  where
    by : (b : Bool) → is_fine p ≡ b → (if b then Some (m + p.lines) else None) ≡ Some n → (k : ℕ) × (Some m ≡ Some k) × (n ≡ k + p.lines) × (is_fine p ≡ true)
    by true fine is = (m, refl, cc, fine)
    by false fine is = absurd (cc)

-- the lines of this process are counted, if it is the command's
counted_left : (c : ℕ) (p : Process) (owner : Option ℕ) (left : List (Option ℕ)) (n : ℕ) → get_or (counted p owner left) c no_left ≡ Some n
    → (m : ℕ) × (get_or left c no_left ≡ Some m) × (n ≡ m + counts c owner p.lines) × (is_of c owner ≡ true → is_fine p ≡ true)
counted_left c p None left n is = (n, is, omega arith, λ own. absurd (false≢true own))
counted_left c p (Some d) left n is = elim (eqb_tells d c) [
  | inl same ↦
      let at : get_or (set left c (more_left p (get_or left c no_left))) c no_left ≡ Some n =
      subst (λ (k : ℕ). get_or (set left k (more_left p (get_or left k no_left))) c no_left ≡ Some n) same.1 is in
      let found = more_some p (get_or left c no_left) n (set_found left c (more_left p (get_or left c no_left)) n at) in
      (found.0, found.1, rw same.0 found.2, λ own. found.3)
  | inr differ ↦
      let other : c ≢ d = λ e. differ.1 (sym e) in
      (n, sym (get_or-set_other left d c (more_left p (get_or left d no_left)) no_left other) ∙ is, rw differ.0 (omega arith), λ own. absurd (false≢true (sym differ.0 ∙ own)))
]

-- it stays known whose a process is
owners_kept : (ps : List Process) (owned : Owned) (i : ℕ) → i < length owned.owners → owner_at i (owned_all ps owned).owners ≡ owner_at i owned.owners
owners_kept [] owned i within = refl
owners_kept (p ∷ ps) owned i within =
    owners_kept ps (owned_more p owned) i (omega (arith, within, length-append owned.owners (owner_in owned.owners p ∷ [])))
    ∙ get_or_append_left owned.owners (owner_in owned.owners p ∷ []) nobody i within

left_is : (c : ℕ) (ps : List Process) (owned : Owned) (n : ℕ) → get_or (owned_all ps owned).left c no_left ≡ Some n
    → (m : ℕ) × (get_or owned.left c no_left ≡ Some m) × (n ≡ m + sum_of c (owned_all ps owned).owners (length owned.owners) ps)
left_is c [] owned n is = (n, is, omega arith)
left_is c (p ∷ ps) owned n is =
    let owner = owner_in owned.owners p in
    let next = owned_more p owned in
    let final = (owned_all ps next).owners in
    let i = length owned.owners in
    let size : length (owned.owners ++ owner ∷ []) ≡ suc i = omega (arith, length-append owned.owners (owner ∷ [])) in
    let later = left_is c ps next n is in
    let first = counted_left c p owner owned.left later.0 later.1 in
    let at : owner_at i final ≡ owner = owners_kept ps next i (omega (arith, size)) ∙ get_or-append_seam owned.owners owner [] nobody in
    let rest : sum_of c final (length (owned.owners ++ owner ∷ [])) ps ≡ sum_of c final (suc i) ps = ap (λ (k : ℕ). sum_of c final k ps) size in
    let here : counts c (owner_at i final) p.lines ≡ counts c owner p.lines = ap (λ (o : Option ℕ). counts c o p.lines) at in
    (first.0, first.1, omega (arith, later.2, first.2, rest, here))

none_left : (k c m : ℕ) → get_or (replicate k (Some 0)) c no_left ≡ Some m → m ≡ 0
none_left zero c m is = absurd (cc)
none_left (suc k) zero m is = cc
none_left (suc k) (suc c) m is = none_left k c m is

-- of a command that has lines left these are the lines of its processes
pub left_total : (c : ℕ) (families : Families) (n : ℕ) → get_or (owned_by families).left c no_left ≡ Some n → n ≡ sum_of c (owned_by families).owners 0 families.processes
left_total c families n is =
    let commands = if families.is_clear then length families.commands else 0 in
    let found = left_is c families.processes (none_owned commands) n is in
    let none = none_left commands c found.0 found.1 in
    omega (arith, found.2, none)

fine_is : (c : ℕ) (ps : List Process) (owned : Owned) (n : ℕ) → get_or (owned_all ps owned).left c no_left ≡ Some n → AllFine c (owned_all ps owned).owners (length owned.owners) ps
fine_is c [] owned n is = tt
fine_is c (p ∷ ps) owned n is =
    let owner = owner_in owned.owners p in
    let next = owned_more p owned in
    let final = (owned_all ps next).owners in
    let i = length owned.owners in
    let size : length (owned.owners ++ owner ∷ []) ≡ i + 1 = omega (arith, length-append owned.owners (owner ∷ [])) in
    let later = left_is c ps next n is in
    let first = counted_left c p owner owned.left later.0 later.1 in
    let at : owner_at i final ≡ owner = owners_kept ps next i (omega (arith, size)) ∙ get_or-append_seam owned.owners owner [] nobody in
    (λ own. first.3 (sym (ap (is_of c) at) ∙ own), subst (λ (k : ℕ). AllFine c final k ps) size (fine_is c ps next n is))

-- of a command that has lines left each process is known whole
pub all_fine : (c : ℕ) (families : Families) (n : ℕ) → get_or (owned_by families).left c no_left ≡ Some n → AllFine c (owned_by families).owners 0 families.processes
all_fine c families n is = fine_is c families.processes (none_owned (if families.is_clear then length families.commands else 0)) n is
