-- Paths that words name.
use Rattle.std.proofs.Common.{◌≡◌, ℕ, ◌+◌, ◌<◌, List, [], ◌∷◌, ◌++◌, Option, Some, None, Result, Ok, Err, IfOk, IfSome, length, take, get_or, map, slice_get, refl, sym, ap, ◌∙◌, subst, arith}
use Rattle.std.specs.List.{AllZip}
use Rattle.std.specs.Map.Iter.{deref}
use denote.Ref.{Bor}
use Rattle.std.proofs.lemmas.List.{map-append, take_more}
use Rattle.graph.specs.Links.{links_of, users_at}
use Rattle.graph.specs.declared.graph.Graph.{Graph}
use Rattle.tools.specs.Found.{HasText, IsFirstMade, IsFirstMadeOf, IsNamed}

zip_push : {X Y : Type 0} (P : X → Y → Type 0) (xs : List X) (ys : List Y) (x : X) (y : Y) → AllZip P xs ys → P x y → AllZip P (xs ++ x ∷ []) (ys ++ y ∷ [])
zip_push P [] [] x y all one = (one, tt)
zip_push P [] (b ∷ ys) x y all one = absurd all
zip_push P (a ∷ xs) [] x y all one = absurd all
zip_push P (a ∷ xs) (b ∷ ys) x y all one = (all.0, zip_push P xs ys x y all.1 one)

-- one word more names one path more
pub asked_more : (graph : Graph) (words : List (Bor (List ℕ))) (i : ℕ) (d : Bor (List ℕ)) (old new : List ℕ) (p : ℕ) → i < length words → AllZip (IsNamed graph) (map deref (take i words)) old → IsNamed graph (get_or words i d).now p
    → new ≡ old ++ p ∷ [] → AllZip (IsNamed graph) (map deref (take (i + 1) words)) new
asked_more graph words i d old new p low all one pushed =
    subst (λ (l : List ℕ). AllZip (IsNamed graph) (map deref (take (i + 1) words)) l) (sym pushed)
    (subst (λ (l : List (List ℕ)). AllZip (IsNamed graph) l (old ++ p ∷ [])) (sym (ap (map deref) (take_more words i d low) ∙ map-append deref (take i words) (get_or words i d ∷ [])))
    (zip_push (IsNamed graph) (map deref (take i words)) old (get_or words i d).now p all one))

pub asked_first : (graph : Graph) (paths : List ℕ) → paths ≡ [] → AllZip (IsNamed graph) [] paths
asked_first graph paths none = subst (λ (l : List ℕ). AllZip (IsNamed graph) [] l) (sym none) tt

-- where there is no word nothing is said
pub none_asked : {T E : Type 0} (words : List (Bor (List ℕ))) (r : Result T E) (P : T → Type 0) → length words ≡ 0 → IfOk r (λ (value : T). (map deref words ≡ [] → ⊥) → P value)
none_asked [] (Ok value) P none = λ some. absurd (some refl)
none_asked [] (Err error) P none = tt
none_asked (word ∷ words) r P none = absurd (omega (arith, none))

-- the first of these
pub made_first : (graph : Graph) (q edge : ℕ) (o : Option ℕ) → slice_get (users_at graph q) 0 ≡ Some edge → o ≡ slice_get ((links_of graph).outputs edge) 0 → IfSome o (IsFirstMade graph q)
made_first graph q edge None reads is = tt
made_first graph q edge (Some p) reads is = record { edge = edge; reads = reads; makes = sym is }
