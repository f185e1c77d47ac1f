-- The defaults that are left, and the edges that are expanded.
use Rattle.std.proofs.Common.{◌≡◌, ℕ, zero, suc, ◌<◌, ◌≤◌, ◌+◌, ◌||◌, Bool, true, false, List, [], ◌∷◌, ◌++◌, inl, inr, length, map, take, get_or, slice_get, bytes_eq, Some, subst, refl, sym, ap, ◌∙◌, arith}
use Rattle.std.specs.List.{AllZip, AllByRecursion}
use Rattle.std.proofs.lemmas.Bool.{cases_Bool}
use Rattle.std.proofs.lemmas.List.{map-append, take_more}
use Rattle.std.proofs.lemmas.Slice.Eq.{bytes_eq-Decides}
use Rattle.model.specs.Graph.{has}
use Rattle.paths.specs.Numbers.{HaveOnePlace}
use Rattle.paths.specs.Told.{text_at, texts_at}
use Rattle.manifest.specs.declared.fault.ReadError.{ReadError}
use Rattle.manifest.specs.declared.kept.ReadDefault.{ReadDefault}
use Rattle.manifest.specs.Answer.{IsFaultOf}
use Rattle.manifest.specs.Graphs.{OfDefault, OfDefaults}
use Rattle.manifest.specs.Held.{IsDefaultOf}
use Rattle.manifest.specs.InNumbers.{IsLonger}
use Rattle.manifest.specs.Readings.{Outcome}
use Rattle.manifest.specs.Readings.Outcome.{Reached, Broken}
use Rattle.manifest.specs.Readings.Then.{goes_on}
use Rattle.manifest.specs.States.{Default}
use Rattle.manifest.proofs.Binds.{then_fault, fault_in_wider}

-- what the defaults that are left say, all of them say
pub record Defaults (paths : List (List ℕ)) (said : List Default) (left : List ReadDefault) : Type 0 where
  pub rest : List Default
  pub kept : AllZip IsDefaultOf left rest
  pub whole : (outcome : Outcome (Unit {0})) → OfDefaults paths rest outcome → OfDefaults paths said outcome

module _ (paths : List (List ℕ)) (said : List Default) where
  pub defaults_first : (left : List ReadDefault) → AllZip IsDefaultOf left said → Defaults paths said left
  defaults_first left all = record { rest = said; kept = all; whole = λ outcome is. is }

  module _ (default : ReadDefault) (next : List ReadDefault) where
    on : ((other : Default) → IsDefaultOf default other → OfDefault paths other (Reached tt)) → (rest : List Default) → AllZip IsDefaultOf (default ∷ next) rest
        → ((outcome : Outcome (Unit {0})) → OfDefaults paths rest outcome → OfDefaults paths said outcome) → Defaults paths said next
    on given [] kept whole = absurd kept
    on given (other ∷ rest) kept whole = record { rest = rest; kept = kept.1; whole = λ outcome is. whole outcome (goes_on (given other kept.0) is) }

    stuck : (error : ReadError) → ((other : Default) → IsDefaultOf default other → IsFaultOf (OfDefault paths other) error) → (rest : List Default) → AllZip IsDefaultOf (default ∷ next) rest
        → ((outcome : Outcome (Unit {0})) → OfDefaults paths rest outcome → OfDefaults paths said outcome) → IsFaultOf (OfDefaults paths said) error
    stuck error told [] kept whole = absurd kept
    stuck error told (other ∷ rest) kept whole =
        fault_in_wider (OfDefaults paths (other ∷ rest)) (OfDefaults paths said) error (λ fault. whole (Broken fault)) (then_fault _ _ error (told other kept.0))

  pub defaults_next : (left : List ReadDefault) (default : ReadDefault) (next : List ReadDefault) → left ≡ default ∷ next
      → ((other : Default) → IsDefaultOf default other → OfDefault paths other (Reached tt)) → Defaults paths said left → Defaults paths said next
  defaults_next left default next step given so = on default next given so.rest (subst (λ (l : List ReadDefault). AllZip IsDefaultOf l so.rest) step so.kept) so.whole

  pub defaults_wrong : (left : List ReadDefault) (default : ReadDefault) (next : List ReadDefault) (error : ReadError) → left ≡ default ∷ next
      → ((other : Default) → IsDefaultOf default other → IsFaultOf (OfDefault paths other) error) → Defaults paths said left → IsFaultOf (OfDefaults paths said) error
  defaults_wrong left default next error step told so = stuck default next error told so.rest (subst (λ (l : List ReadDefault). AllZip IsDefaultOf l so.rest) step so.kept) so.whole

  last : (rest : List Default) → AllZip IsDefaultOf [] rest → OfDefaults paths rest (Reached tt)
  last [] all = refl
  last (other ∷ rest) all = absurd all

  pub defaults_all : (left : List ReadDefault) → left ≡ [] → Defaults paths said left → OfDefaults paths said (Reached tt)
  defaults_all left none so = so.whole (Reached tt) (last so.rest (subst (λ (l : List ReadDefault). AllZip IsDefaultOf l so.rest) none so.kept))

-- ---- their numbers

pub default_texts : (table : List (List ℕ)) (defaults : List ReadDefault) (i : ℕ) (default : ReadDefault) (before after : List ℕ) (number : ℕ) → i < length defaults → default ≡ get_or defaults i default
    → texts_at table before ≡ map (λ (d : ReadDefault). d.path) (take i defaults) → after ≡ before ++ number ∷ [] → text_at table number ≡ default.path
    → texts_at table after ≡ map (λ (d : ReadDefault). d.path) (take (i + 1) defaults)
default_texts table defaults i default before after number low is was pushed same =
    ap (texts_at table) pushed ∙ (map-append (text_at table) before (number ∷ []) ∙ (ap (λ (l : List (List ℕ)). l ++ text_at table number ∷ []) was
    ∙ (ap (λ (p : List ℕ). map (λ (d : ReadDefault). d.path) (take i defaults) ++ p ∷ []) same
    ∙ (sym (map-append (λ (d : ReadDefault). d.path) (take i defaults) (default ∷ []))
    ∙ ap (map (λ (d : ReadDefault). d.path)) (sym (take_more defaults i default low ∙ ap (λ (d : ReadDefault). take i defaults ++ d ∷ []) (sym is)))))))

pub below_push : (named : ℕ) (before after : List ℕ) (number : ℕ) → after ≡ before ++ number ∷ [] → number < named → AllByRecursion (λ (n : ℕ). n < named) before → AllByRecursion (λ (n : ℕ). n < named) after
below_push named before after number pushed low all = subst (AllByRecursion (λ (n : ℕ). n < named)) (sym pushed) (by before all)
  where
    by : (xs : List ℕ) → AllByRecursion (λ (n : ℕ). n < named) xs → AllByRecursion (λ (n : ℕ). n < named) (xs ++ number ∷ [])
    by [] all = (low, tt)
    by (x ∷ xs) all = (all.0, by xs all.1)

-- ---- one default

or_right : (a : Bool) → (a || true) ≡ true
or_right true = refl
or_right false = refl

-- a path with a number below that of the first path that no build line names
pub known_path : (known table : List (List ℕ)) (path : List ℕ) (number : ℕ) → IsLonger known table → slice_get table number ≡ Some path → number < length known → has known path ≡ true
known_path known table path number longer at low =
    by known number low (ap (λ (l : List (List ℕ)). slice_get l number) (sym longer.grows) ∙ at)
  where
    by : (k : List (List ℕ)) (n : ℕ) → n < length k → slice_get (k ++ longer.more) n ≡ Some path → has k path ≡ true
    by [] n h e = absurd (omega arith)
    by (x ∷ k) zero h e = let same : Some x ≡ Some path = e in let p : x ≡ path = cc in ap (λ (b : Bool). b || has k path) ((bytes_eq-Decides x path).1 p)
    by (x ∷ k) (suc n) h e = ap (λ (b : Bool). bytes_eq x path || b) (by k n (omega arith) e) ∙ or_right (bytes_eq x path)

-- one past them, or none
pub unknown_path : (known table : List (List ℕ)) (path : List ℕ) (number : ℕ) → HaveOnePlace table → IsLonger known table → slice_get table number ≡ Some path → length known ≤ number → has known path ≡ false
unknown_path known table path number once longer at high = elim (cases_Bool (has known path)) [
  | inl there ↦
      let i = place known there in
      let same : i.0 ≡ number = once i.0 number path (ap (λ (l : List (List ℕ)). slice_get l i.0) longer.grows ∙ i.2) at in
      let low : i.0 < length known = i.1 in
      absurd (omega (arith, same, low, high))
  | inr absent ↦ absent
]
  where
    place : (k : List (List ℕ)) → has k path ≡ true → (i : ℕ) × (i < length k) × (slice_get (k ++ longer.more) i ≡ Some path)
    place [] there = absurd (cc)
    place (x ∷ k) there = elim (cases_Bool (bytes_eq x path)) [
      | inl same ↦ (0, omega arith, ap (λ (p : List ℕ). Some p) ((bytes_eq-Decides x path).0 same))
      | inr other ↦ let rest = place k (sym (ap (λ (b : Bool). b || has k path) other) ∙ there) in (suc rest.0, (let h : rest.0 < length k = rest.1 in omega arith), rest.2)
    ]

pub absent_path : (known table : List (List ℕ)) (path : List ℕ) → IsLonger known table → has table path ≡ false → has known path ≡ false
absent_path known table path longer absent = by known (ap (λ (l : List (List ℕ)). has l path) (sym longer.grows) ∙ absent)
  where
    by : (k : List (List ℕ)) → has (k ++ longer.more) path ≡ false → has k path ≡ false
    by [] e = refl
    by (x ∷ k) e = elim (cases_Bool (bytes_eq x path)) [
      | inl same ↦ absurd (let f : (true || has (k ++ longer.more) path) ≡ false = sym (ap (λ (b : Bool). b || has (k ++ longer.more) path) same) ∙ e in cc)
      | inr other ↦ ap (λ (b : Bool). b || has k path) other ∙ by k (sym (ap (λ (b : Bool). b || has (k ++ longer.more) path) other) ∙ e)
    ]
