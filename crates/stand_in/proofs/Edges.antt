-- Edges of the graph that was read.
use Rattle.std.proofs.Common.{◌≡◌, ℕ, zero, suc, ◌-◌, ◌<◌, List, [], ◌∷◌, get_or, slice_get, length, Option, Some, option_copied, refl, sym, ap, ◌∙◌, subst, arith}
use denote.Ref.{Bor}
use Rattle.tools.specs.declared.declared.Declared.{Declared}
use Rattle.ninja_asked.specs.Above.{AreEdges}

pub edge_in : (declared : Declared) (edges : List ℕ) (i e : ℕ) → AreEdges declared edges → i < length edges → e ≡ get_or edges i e → e < length declared.graph.manifest.lines
edge_in declared edges i e are low is = subst (λ (x : ℕ). x < length declared.graph.manifest.lines) (sym is) (are i e low)

pub edge_by : (declared : Declared) (edges slice : List ℕ) (i e : ℕ) → slice ≡ edges → AreEdges declared edges → i < length slice → e ≡ get_or slice i e → e < length declared.graph.manifest.lines
edge_by declared edges slice i e same are low is = edge_in declared slice i e (subst (λ (l : List ℕ). AreEdges declared l) (sym same) are) low is

pub last_in : (declared : Declared) (edges : List ℕ) (e : ℕ) → AreEdges declared edges → slice_get edges (length edges - 1) ≡ Some e → e < length declared.graph.manifest.lines
last_in declared edges e are is = by_place (length edges - 1) is
  where
    at_place : (xs : List ℕ) (k : ℕ) → slice_get xs k ≡ Some e → k < length xs
    at_place [] k is = cc
    at_place (x ∷ xs) zero is = omega arith
    at_place (x ∷ xs) (suc k) is = let low = at_place xs k is in omega (arith, low)

    same : (xs : List ℕ) (k : ℕ) → slice_get xs k ≡ Some e → e ≡ get_or xs k e
    same [] k is = refl
    same (x ∷ xs) zero is = cc
    same (x ∷ xs) (suc k) is = same xs k is

    by_place : (k : ℕ) → slice_get edges k ≡ Some e → e < length declared.graph.manifest.lines
    by_place k is = edge_in declared edges k e are (at_place edges k is) (same edges k is)

pub last_of : (declared : Declared) (edges slice : List ℕ) (o : Option (Bor ℕ)) (e : Bor ℕ) → slice ≡ edges → AreEdges declared edges → option_copied o ≡ slice_get slice (length slice - 1) → o ≡ Some e → e.now < length declared.graph.manifest.lines
last_of declared edges slice o e same are value is = last_in declared slice e.now (subst (λ (l : List ℕ). AreEdges declared l) (sym same) are) (sym value ∙ ap option_copied is)
