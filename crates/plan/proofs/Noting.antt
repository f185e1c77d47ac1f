-- Flags that are handed in for paths.
use Rattle.std.proofs.Common.{◌≡◌, ◌≢◌, ◌⊎◌, inl, inr, ℕ, zero, suc, ◌<◌, ◌≤◌, ◌==◌, cond, Bool, true, false, List, [], ◌∷◌, length, get_or, refl, sym, ◌∙◌, ap, subst, arith}
use Rattle.std.proofs.Math.ListN.{set}
use Rattle.std.proofs.lemmas.List.{length-set, get_or-set_same, get_or-set_other}
use Rattle.std.proofs.lemmas.Bool.{or_left, or_right, eq-eqb}
use Rattle.model.specs.Graph.{has_number}
use Rattle.plan.specs.Flags.{has}
use Rattle.graph.specs.Held.{times, StandOnce}
use Rattle.plan.specs.declared.step.Changed.{Changed}
use Rattle.plan.specs.Changed.{AreFlagged, AreNoted}

-- the flags once each is noted for its path
abbrev pub noted : List Bool → List ℕ → List Bool → List Bool
noted flags [] marks = flags
noted flags (p ∷ paths) [] = flags
noted flags (p ∷ paths) (mark ∷ marks) = noted (set flags p mark) paths marks

pub all_noted : (flags : List Bool) (paths : List ℕ) (marks : List Bool) → (length paths ≡ 0) ⊎ (length marks ≡ 0) → noted flags paths marks ≡ flags
all_noted flags [] marks none = refl
all_noted flags (p ∷ paths) [] none = refl
all_noted flags (p ∷ paths) (mark ∷ marks) (inl none) = absurd (omega (arith, none))
all_noted flags (p ∷ paths) (mark ∷ marks) (inr none) = absurd (omega (arith, none))

one_of : (b : Bool) (n : ℕ) → n ≤ cond b (suc n) n
one_of true n = omega arith
one_of false n = omega arith

times_at : (paths : List ℕ) (k p : ℕ) → k < length paths → get_or paths k 0 ≡ p → 0 < times paths p
times_at [] k p lt is = absurd (omega (arith, lt))
times_at (x ∷ paths) zero p lt is =
    let e : times (x ∷ paths) p ≡ suc (times paths p) = ap (λ (b : Bool). cond b (suc (times paths p)) (times paths p)) (eq-eqb x p is) in
    omega (arith, e)
times_at (x ∷ paths) (suc k) p lt is =
    let rest = times_at paths k p (omega (arith, lt)) is in
    let more = one_of (x == p) (times paths p) in
    omega (arith, rest, more)

once_tail : (p : ℕ) (paths : List ℕ) → StandOnce (p ∷ paths) → StandOnce paths
once_tail p paths once n = let a = once n in let b = one_of (p == n) (times paths n) in omega (arith, a, b)

once_head : (p : ℕ) (paths : List ℕ) → StandOnce (p ∷ paths) → (k : ℕ) → k < length paths → get_or paths k 0 ≢ p
once_head p paths once k lt is =
    let a = once p in
    let b = times_at paths k p lt is in
    let e : times (p ∷ paths) p ≡ suc (times paths p) = ap (λ (b : Bool). cond b (suc (times paths p)) (times paths p)) (eq-eqb p p refl) in
    omega (arith, a, b, e)

noted_other : (flags : List Bool) (paths : List ℕ) (marks : List Bool) (q : ℕ) → ((k : ℕ) → k < length paths → get_or paths k 0 ≢ q) → has (noted flags paths marks) q ≡ has flags q
noted_other flags [] marks q apart = refl
noted_other flags (p ∷ paths) [] q apart = refl
noted_other flags (p ∷ paths) (mark ∷ marks) q apart =
    noted_other (set flags p mark) paths marks q (λ k lt. apart (suc k) (omega (arith, lt)))
    ∙ get_or-set_other flags p q mark false (λ h. apart 0 (omega arith) (sym h))

noted_given : (flags : List Bool) (paths : List ℕ) (marks : List Bool) → length marks ≡ length paths → StandOnce paths → ((p : ℕ) → has_number paths p ≡ true → p < length flags)
    → (k : ℕ) → k < length paths → has (noted flags paths marks) (get_or paths k 0) ≡ has marks k
noted_given flags [] marks fits once within k lt = absurd (omega (arith, lt))
noted_given flags (p ∷ paths) [] fits once within k lt = absurd (omega (arith, fits))
noted_given flags (p ∷ paths) (mark ∷ marks) fits once within zero lt =
    noted_other (set flags p mark) paths marks p (once_head p paths once)
    ∙ get_or-set_same flags p mark false (within p (or_left (p == p) (has_number paths p) (eq-eqb p p refl)))
noted_given flags (p ∷ paths) (mark ∷ marks) fits once within (suc k) lt =
    noted_given (set flags p mark) paths marks (omega (arith, fits)) (once_tail p paths once)
    (λ q h. let a = within q (or_right (p == q) (has_number paths q) h) in omega (arith, a, length-set flags p mark)) k (omega (arith, lt))

pub noted_flagged : (flags new : List Bool) (paths : List ℕ) (marks : List Bool) → new ≡ noted flags paths marks → length marks ≡ length paths → StandOnce paths → ((p : ℕ) → has_number paths p ≡ true → p < length flags)
    → AreFlagged flags new paths marks
noted_flagged flags new paths marks is fits once within = subst (λ (l : List Bool). AreFlagged flags l paths marks) (sym is) record {
  given = noted_given flags paths marks fits once within;
  others = λ q apart. noted_other flags paths marks q apart;
}

set_past : (flags : List Bool) (p : ℕ) (mark : Bool) → length flags ≤ p → set flags p mark ≡ flags
set_past [] p mark past = refl
set_past (x ∷ flags) zero mark past = absurd (omega (arith, past))
set_past (x ∷ flags) (suc p) mark past = ap (λ (l : List Bool). x ∷ l) (set_past flags p mark (omega (arith, past)))

pub not_noted : (flags : List Bool) (p : ℕ) (mark : Bool) (paths : List ℕ) (marks : List Bool) → length flags ≤ p → noted flags paths marks ≡ noted flags (p ∷ paths) (mark ∷ marks)
not_noted flags p mark paths marks past = ap (λ (l : List Bool). noted l paths marks) (sym (set_past flags p mark past))

-- a path of the list is one of those that it names
pub listed_at : (paths : List ℕ) (k : ℕ) → k < length paths → has_number paths (get_or paths k 0) ≡ true
listed_at [] k lt = absurd (omega (arith, lt))
listed_at (p ∷ paths) zero lt = or_left (p == p) (has_number paths p) (eq-eqb p p refl)
listed_at (p ∷ paths) (suc k) lt = or_right (p == get_or paths k 0) (has_number paths (get_or paths k 0)) (listed_at paths k (omega (arith, lt)))

-- the same of equal lists
pub noted_for : (old before after : List Bool) (paths outputs : List ℕ) (changed : Changed) (flags : List Bool) → before ≡ old → paths ≡ outputs → after ≡ flags → AreNoted before flags paths changed → AreNoted old after outputs changed
noted_for old before after paths outputs changed flags same are is noted =
    subst (λ (l : List Bool). AreNoted old l outputs changed) (sym {A = List Bool} is)
    (subst (λ (l : List Bool). AreNoted l flags outputs changed) same (subst (λ (l : List ℕ). AreNoted before flags l changed) are noted))
