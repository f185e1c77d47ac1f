-- What is checked of the values of a build statement.
use Rattle.std.proofs.Common.{◌≡◌, ℕ, Bool, true, false, List, [], ◌∷◌, length, map, string_bytes, refl, sym, ◌∙◌, ap, subst, arith, eqb-true, ◌==◌, Option, Some}
use Rattle.std.specs.Prelude.{bytes_eq, ◌||◌, ◌&&◌, not, String, IsTrue, is_some, if◌then◌else◌}
use Rattle.std.specs.Map.{lookup}
use Rattle.std.specs.declared.alloc.Global.{Global}
use Rattle.std.proofs.lemmas.Bool.{false≢true}
use Rattle.model.specs.Graph.{console}
use Rattle.model.specs.declared.graph.Pool.{Pool}
use Rattle.manifest.specs.declared.fault.FaultKind.{FaultKind}
use Rattle.manifest.specs.declared.fault.ReadError.{ReadError}
use Rattle.manifest.specs.declared.values.Values.{Values}
use Rattle.manifest.specs.Edges.{is_unknown_pool, is_unknown_deps, is_gcc, CheckedPool, CheckedDeps}
use Rattle.manifest.specs.Held.{ArePools, pool_of}
use Rattle.manifest.specs.Places.{IsFaultAt}
use Rattle.manifest.specs.Readings.{Place}
use Rattle.manifest.specs.Readings.Outcome.{Reached}
use Rattle.manifest.specs.Readings.Unless.{in_order}
use Rattle.manifest.specs.States.{Build, is_pool}
use Rattle.manifest.specs.Expansion.{is_empty}
use Rattle.manifest.proofs.BuildKeys.{turned}

-- the same refusal at the place of the statement
pub at_build : (one other : Place) (kind same : FaultKind) (error : ReadError) → one ≡ other → kind ≡ same → IsFaultAt one kind error → IsFaultAt other same error
at_build one other kind same error place is told =
    subst (λ (p : Place). IsFaultAt p same error) place (subst (λ (k : FaultKind). IsFaultAt one k error) is told)

-- the length tells whether a text is empty
pub empty_is : (text other : List ℕ) (b : Bool) → b ≡ (length text == 0) → text ≡ other → is_empty other ≡ b
empty_is text other b is same = sym (is ∙ (ap (λ (t : List ℕ). length t == 0) same ∙ by other))
  where
    by : (l : List ℕ) → (length l == 0) ≡ is_empty l
    by [] = refl
    by (x ∷ xs) = more (length (x ∷ xs) == 0) refl
      where
        more : (answer : Bool) → (length (x ∷ xs) == 0) ≡ answer → (length (x ∷ xs) == 0) ≡ false
        more true is_none = absurd (omega (arith, eqb-true (length (x ∷ xs)) 0 is_none))
        more false is_some = is_some

-- the same where a text of this crate is asked
pub told_empty : (text : List ℕ) (b : Bool) → (IsTrue b → text ≡ []) → (text ≡ [] → IsTrue b) → is_empty text ≡ b
told_empty [] true empty back = refl
told_empty [] false empty back = absurd (false≢true (back refl))
told_empty (x ∷ xs) true empty back = let e : x ∷ xs ≡ [] = empty refl in cc
told_empty (x ∷ xs) false empty back = refl

pub not_true : (b : Bool) → not b ≡ true → b ≡ false
not_true true is = sym is
not_true false is = refl

pub not_false : (b : Bool) → not b ≡ false → b ≡ true
not_false true is = refl
not_false false is = sym is

-- ---- pools

one_pool : (one same : Bool) (depth : ℕ) (left : Option ℕ) (rest : Bool) → one ≡ same → is_some left ≡ rest → is_some (if one then Some depth else left) ≡ (if same then true else rest)
one_pool one same depth left rest e found = rw e (by same)
  where
    by : (b : Bool) → is_some (if b then Some depth else left) ≡ (if b then true else rest)
    by true = refl
    by false = found

-- the pools that are kept are those that were declared
pools_known : (entries : List (String Global × ℕ)) (name : List ℕ) → is_some (lookup (λ (key : String Global). bytes_eq name (string_bytes key)) entries) ≡ is_pool (map pool_of entries) name
pools_known [] name = refl
pools_known (entry ∷ entries) name =
    one_pool (bytes_eq name (string_bytes entry.0)) (bytes_eq (string_bytes entry.0) name) entry.1 _ _ (turned name (string_bytes entry.0)) (pools_known entries name)

pub declared_is : (entries : List (String Global × ℕ)) (said : List Pool) (text pool : List ℕ) (b : Bool)
    → ArePools entries said → b ≡ is_some (lookup (λ (key : String Global). bytes_eq text (string_bytes key)) entries) → text ≡ pool → is_pool said pool ≡ b
declared_is entries said text pool b are is same =
    ap (λ (l : List Pool). is_pool l pool) (sym are)
    ∙ (sym (pools_known entries pool) ∙ (ap (λ (t : List ℕ). is_some (lookup (λ (key : String Global). bytes_eq t (string_bytes key)) entries)) (sym same) ∙ sym is))

pub console_is : (text pool : List ℕ) (b : Bool) → b ≡ bytes_eq text console → text ≡ pool → bytes_eq pool console ≡ b
console_is text pool b is same = ap (λ (t : List ℕ). bytes_eq t console) (sym same) ∙ sym is

pub pool_is : (said : List Pool) (pool : List ℕ) (one two three : Bool) → is_empty pool ≡ one → bytes_eq pool console ≡ two → is_pool said pool ≡ three
    → is_unknown_pool said pool ≡ not (one || (two || three))
pool_is said pool one two three e1 e2 e3 =
    ap (λ (b : Bool). not (b || (bytes_eq pool console || is_pool said pool))) e1
    ∙ (ap (λ (b : Bool). not (one || (b || is_pool said pool))) e2 ∙ ap (λ (b : Bool). not (one || (two || b))) e3)

pub known_pool : (said : List Pool) (build : Build) (values : Values) → is_unknown_pool said values.pool ≡ false → CheckedPool said build values (Reached tt)
known_pool said build values known = in_order (λ bad. false≢true (sym known ∙ bad)) refl

-- ---- deps

pub gcc_is : (text deps : List ℕ) (b : Bool) → b ≡ is_gcc text → text ≡ deps → is_gcc deps ≡ b
gcc_is text deps b is same = ap is_gcc (sym same) ∙ sym is

pub deps_is : (values : Values) (one two three : Bool) → is_empty values.deps ≡ one → is_gcc values.deps ≡ two → is_empty values.depfile ≡ three
    → is_unknown_deps values ≡ (not one && (not two || three))
deps_is values one two three e1 e2 e3 =
    ap (λ (b : Bool). not b && (not (is_gcc values.deps) || is_empty values.depfile)) e1
    ∙ (ap (λ (b : Bool). not one && (not b || is_empty values.depfile)) e2 ∙ ap (λ (b : Bool). not one && (not two || b)) e3)

pub known_deps : (build : Build) (values : Values) → is_unknown_deps values ≡ false → CheckedDeps build values (Reached tt)
known_deps build values known = in_order (λ bad. false≢true (sym known ∙ bad)) refl
