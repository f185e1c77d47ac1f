-- Each load leaves fewer edges that name a dyndep file.
use Rattle.std.proofs.Common.{◌≡◌, inl, inr, ℕ, zero, suc, ◌<◌, ◌≤◌, cond, List, [], ◌∷◌, length, get_or, Option, Some, None, is_some, ap, arith}
use Rattle.std.proofs.lemmas.List.Sums.{sum_by-cons}
use Rattle.model.specs.declared.graph.Edge.{Edge}
use Rattle.model.specs.Graph.{edge_at, no_edge, Addition}
use Rattle.model.specs.Phases.{IsGrownBy}
use Rattle.theory.proofs.Growth.{cases_named}
use Rattle.work.specs.Standing.{files_left}

-- whether the edge names a file, as a number
abbrev left_of : Edge → ℕ
left_of e = cond (is_some e.dyndep) 1 0

no_more : (xs ys : List Edge) → length ys ≡ length xs → ((k : ℕ) → left_of (get_or ys k no_edge) ≤ left_of (get_or xs k no_edge)) → files_left ys ≤ files_left xs
no_more [] [] fits less = omega arith
no_more [] (y ∷ ys) fits less = absurd (omega (arith, fits))
no_more (x ∷ xs) [] fits less = absurd (omega (arith, fits))
no_more (x ∷ xs) (y ∷ ys) fits less =
    let a = sum_by-cons left_of x xs in
    let b = sum_by-cons left_of y ys in
    let c = no_more xs ys (omega (arith, fits)) (λ k. less (suc k)) in
    let d = less 0 in
    omega (arith, a, b, c, d)

fewer_at : (xs ys : List Edge) (k : ℕ) → length ys ≡ length xs → left_of (get_or ys k no_edge) < left_of (get_or xs k no_edge) → ((j : ℕ) → left_of (get_or ys j no_edge) ≤ left_of (get_or xs j no_edge)) → files_left ys < files_left xs
fewer_at [] ys k fits here less = absurd (omega (arith, here))
fewer_at (x ∷ xs) [] k fits here less = absurd (omega (arith, fits))
fewer_at (x ∷ xs) (y ∷ ys) zero fits here less =
    let a = sum_by-cons left_of x xs in
    let b = sum_by-cons left_of y ys in
    let c = no_more xs ys (omega (arith, fits)) (λ k. less (suc k)) in
    omega (arith, a, b, c, here)
fewer_at (x ∷ xs) (y ∷ ys) (suc k) fits here less =
    let a = sum_by-cons left_of x xs in
    let b = sum_by-cons left_of y ys in
    let c = fewer_at xs ys k (omega (arith, fits)) here (λ j. less (suc j)) in
    let d = less 0 in
    omega (arith, a, b, c, d)

-- an edge that named the file names none
pub fewer_left : (file : List ℕ) (additions : List Addition) (edges next : List Edge) → IsGrownBy file additions edges next → (i : ℕ) → (edge_at edges i).dyndep ≡ Some file → files_left next < files_left edges
fewer_left file additions edges next grown zero names = absurd (none_some names)
  where
    none_some : None ≡ Some file → ⊥
    none_some is = cc
fewer_left file additions edges next grown (suc k) names =
    fewer_at edges next k grown.as_many (let now = none_now (suc k) names in let then = ap {B = ℕ} (λ (d : Option (List ℕ)). cond (is_some d) 1 0) names in omega (arith, now, then)) each
  where
    none_now : (i : ℕ) → (edge_at edges i).dyndep ≡ Some file → left_of (edge_at next i) ≡ 0
    none_now i is = ap left_of (grown.named i is).2

    each : (j : ℕ) → left_of (get_or next j no_edge) ≤ left_of (get_or edges j no_edge)
    each j = elim (cases_named (edge_at edges (suc j)).dyndep file) [
      | inl named ↦ let now = none_now (suc j) named in omega (arith, now)
      | inr other ↦ let same = ap left_of (grown.others (suc j) other) in omega (arith, same)
    ]
