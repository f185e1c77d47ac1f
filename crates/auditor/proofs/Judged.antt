-- What is in a list of paths, and what is told of one path after another.
use Rattle.std.proofs.Common.{◌≡◌, ◌≤◌, ◌<◌, ℕ, zero, suc, ◌+◌, Bool, true, List, [], ◌∷◌, ◌++◌, Some, None, length, map, take, drop, get_or, slice_get, unwrap_or, bytes_eq, refl, sym, ap, ◌∙◌, arith, add-one}
use Rattle.std.proofs.lemmas.Bool.{or_left, or_right}
use Rattle.std.proofs.lemmas.List.{map-append, take_more, take_all}
use Rattle.std.proofs.lemmas.Option.{unwrap_or-slice_get}
use Rattle.std.proofs.lemmas.Slice.Eq.{bytes_eq-Decides}
use Rattle.model.specs.Graph.{has}
use Rattle.audit.specs.declared.place.Around.{Around}
use Rattle.audit.specs.declared.used.Use.{Use}
use Rattle.auditor.specs.declared.scratch.Scratch.{Scratch}
use Rattle.auditor.specs.Left.{with_left, with_one}
use Rattle.auditor.specs.Scratch.{AreAround, is_scratch}

-- what stands in a place of a list is in it
pub in_has : (paths : List (List ℕ)) (n : ℕ) (p : List ℕ) → slice_get paths n ≡ Some p → has paths p ≡ true
in_has [] n p is = absurd (cc)
in_has (x ∷ xs) zero p is = let same : x ≡ p = cc in or_left (bytes_eq x p) (has xs p) ((bytes_eq-Decides x p).1 same)
in_has (x ∷ xs) (suc n) p is = or_right (bytes_eq x p) (has xs p) (in_has xs n p is)

-- one more path was judged, in one way
more_judged : (of : Around → Bool) (by : List ℕ → Bool) (paths : List (List ℕ)) (place : ℕ) (path : List ℕ) (arounds longer : List Around) (around : Around)
    → place < length paths → path ≡ unwrap_or (slice_get paths place) [] → of around ≡ by path → longer ≡ arounds ++ around ∷ []
    → map of arounds ≡ map by (take place paths) → map of longer ≡ map by (take (place + 1) paths)
more_judged of by paths place path arounds longer around within at is pushed so_far =
    ap (λ (l : List Around). map of l) pushed
    ∙ (map-append of arounds (around ∷ [])
    ∙ (ap (λ (bs : List Bool). bs ++ of around ∷ []) so_far
    ∙ (ap (λ (b : Bool). map by (take place paths) ++ b ∷ []) (is ∙ ap by (at ∙ unwrap_or-slice_get paths place []))
    ∙ (sym (map-append by (take place paths) (get_or paths place [] ∷ []))
    ∙ ap (λ (ps : List (List ℕ)). map by ps) (sym (take_more paths place [] within))))))

-- and in both
pub judged_next : (scratch : Scratch) (left paths : List (List ℕ)) (place : ℕ) (path : List ℕ) (arounds longer : List Around) (around : Around)
    → place < length paths → path ≡ unwrap_or (slice_get paths place) [] → around.scratch ≡ is_scratch scratch path → around.left ≡ has left path → longer ≡ arounds ++ around ∷ []
    → AreAround scratch left (take place paths) arounds → AreAround scratch left (take (place + 1) paths) longer
judged_next scratch left paths place path arounds longer around within at is was pushed so_far = record {
  scratches = more_judged (λ (around : Around). around.scratch) (is_scratch scratch) paths place path arounds longer around within at is pushed so_far.scratches;
  lefts = more_judged (λ (around : Around). around.left) (has left) paths place path arounds longer around within at was pushed so_far.lefts;
}

-- all were
pub judged_all : (scratch : Scratch) (left paths : List (List ℕ)) (place : ℕ) (arounds : List Around)
    → length paths ≤ place → AreAround scratch left (take place paths) arounds → AreAround scratch left paths arounds
judged_all scratch left paths place arounds past so_far = record {
  scratches = so_far.scratches ∙ ap (λ (ps : List (List ℕ)). map (is_scratch scratch) ps) (take_all place paths past);
  lefts = so_far.lefts ∙ ap (λ (ps : List (List ℕ)). map (has left) ps) (take_all place paths past);
}

-- ---- what commands left

-- what is left of a list behind a place
next_from : {A : Type 0} (xs : List A) (n : ℕ) (x : A) → slice_get xs n ≡ Some x → drop n xs ≡ x ∷ drop (suc n) xs
next_from [] n x at = absurd (cc)
next_from (y ∷ ys) zero x at = let same : y ≡ x = cc in ap (λ (z : _). z ∷ ys) same
next_from (y ∷ ys) (suc n) x at = next_from ys n x at

next : {A : Type 0} (xs : List A) (n : ℕ) (x : A) → slice_get xs n ≡ Some x → drop n xs ≡ x ∷ drop (n + 1) xs
next xs n x at = rw add-one (next_from xs n x at)

past : {A : Type 0} (xs : List A) (n : ℕ) → slice_get xs n ≡ None → drop n xs ≡ []
past [] zero at = refl
past [] (suc n) at = refl
past (y ∷ ys) zero at = absurd (cc)
past (y ∷ ys) (suc n) at = past ys n at

past_all : {A : Type 0} (xs : List A) (n : ℕ) → length xs ≤ n → drop n xs ≡ []
past_all [] zero at = refl
past_all [] (suc n) at = refl
past_all (y ∷ ys) zero at = absurd (omega (arith, at))
past_all (y ∷ ys) (suc n) at = past_all ys n (omega (arith, at))

none_used : (scratch : Scratch) (left paths : List (List ℕ)) → with_left scratch left paths [] ≡ left
none_used scratch left [] = refl
none_used scratch left (path ∷ paths) = refl

-- one path more
pub left_next : (scratch : Scratch) (left paths : List (List ℕ)) (uses : List Use) (n : ℕ) (path : List ℕ) (used : Use) → slice_get paths n ≡ Some path → slice_get uses n ≡ Some used
    → with_left scratch left (drop n paths) (drop n uses) ≡ with_left scratch (with_one scratch left path used) (drop (n + 1) paths) (drop (n + 1) uses)
left_next scratch left paths uses n path used at used_at =
    ap (λ (ps : List (List ℕ)). with_left scratch left ps (drop n uses)) (next paths n path at)
    ∙ ap (λ (us : List Use). with_left scratch left (path ∷ drop (n + 1) paths) us) (next uses n used used_at)

pub left_past : (scratch : Scratch) (left paths : List (List ℕ)) (uses : List Use) (n : ℕ) → slice_get paths n ≡ None → with_left scratch left (drop n paths) (drop n uses) ≡ left
left_past scratch left paths uses n at = ap (λ (ps : List (List ℕ)). with_left scratch left ps (drop n uses)) (past paths n at)

pub left_unused : (scratch : Scratch) (left paths : List (List ℕ)) (uses : List Use) (n : ℕ) → slice_get uses n ≡ None → with_left scratch left (drop n paths) (drop n uses) ≡ left
left_unused scratch left paths uses n at =
    ap (λ (us : List Use). with_left scratch left (drop n paths) us) (past uses n at) ∙ none_used scratch left (drop n paths)

pub left_all : (scratch : Scratch) (left paths : List (List ℕ)) (uses : List Use) (n : ℕ) → length paths ≤ n → with_left scratch left (drop n paths) (drop n uses) ≡ left
left_all scratch left paths uses n at = ap (λ (ps : List (List ℕ)). with_left scratch left ps (drop n uses)) (past_all paths n at)
