-- Paths that stand once in a list.
use Rattle.std.proofs.Common.{◌≡◌, ℕ, zero, suc, Bool, true, false, cond, ◌||◌, List, [], ◌∷◌, ◌++◌, filter, Some, slice_get, refl, sym, ap, ◌∙◌, subst, inl, inr}
use Rattle.std.specs.Str.{bytes_eq}
use Rattle.std.proofs.lemmas.Slice.Eq.{bytes_eq-Decides}
use Rattle.std.proofs.lemmas.Bool.{false≢true, or_cases, or_parts, or_left, or_right, or_from, false_from_ne_true}
use Rattle.model.specs.Graph.{has}
use Rattle.log_text.specs.Kept.{AreDistinct}

pub same_bytes : (a b : List ℕ) → bytes_eq a b ≡ true → a ≡ b
same_bytes a b = (bytes_eq-Decides a b).0

pub bytes_same : (a : List ℕ) → bytes_eq a a ≡ true
bytes_same a = (bytes_eq-Decides a a).1 refl

pub bytes_differ : (a b : List ℕ) → (a ≡ b → ⊥) → bytes_eq a b ≡ false
bytes_differ a b other = false_from_ne_true (bytes_eq a b) (λ e. other (same_bytes a b e))

-- each stands once, by going through the list
abbrev pub AreOnce : List (List ℕ) → Type 0
AreOnce [] = Unit {0}
AreOnce (p ∷ ps) = (has ps p ≡ false) × AreOnce ps

has_mid : (before after : List (List ℕ)) (p : List ℕ) → has (before ++ p ∷ after) p ≡ true
has_mid [] after p = or_left (bytes_eq p p) (has after p) (bytes_same p)
has_mid (b ∷ before) after p = or_right (bytes_eq b p) (has (before ++ p ∷ after) p) (has_mid before after p)

not_twice : (before after : List (List ℕ)) (p : List ℕ) → AreOnce (before ++ p ∷ after) → has before p ≡ true → ⊥
not_twice [] after p once h = false≢true h
not_twice (b ∷ before) after p once h = elim (or_cases (bytes_eq b p) (has before p) h) [
  | inl here ↦ false≢true (sym once.0 ∙ (ap (has (before ++ p ∷ after)) (same_bytes b p here) ∙ has_mid before after p))
  | inr there ↦ not_twice before after p once.1 there
]

pub distinct_of_once : (ps : List (List ℕ)) → AreOnce ps → AreDistinct ps
distinct_of_once ps once p twice = not_twice twice.before twice.after p (subst AreOnce twice.splits once) twice.earlier

-- where a path stands in a list
record IsSplit (ps : List (List ℕ)) (p : List ℕ) : Type 0 where
  pub before : List (List ℕ)
  pub after : List (List ℕ)
  pub splits : ps ≡ before ++ p ∷ after

split_at : (p : List ℕ) (ps : List (List ℕ)) → has ps p ≡ true → IsSplit ps p
split_at p [] h = absurd (false≢true h)
split_at p (q ∷ ps) h = elim (or_cases (bytes_eq q p) (has ps p) h) [
  | inl here ↦ record { before = []; after = ps; splits = ap (λ (x : List ℕ). x ∷ ps) (same_bytes q p here) }
  | inr there ↦
      let rest = split_at p ps there in
      record { before = q ∷ rest.before; after = rest.after; splits = ap (λ (l : List (List ℕ)). q ∷ l) rest.splits }
]

pub distinct_tail : (q : List ℕ) (ps : List (List ℕ)) → AreDistinct (q ∷ ps) → AreDistinct ps
distinct_tail q ps distinct p twice = distinct p (record {
  before = q ∷ twice.before;
  after = twice.after;
  splits = ap (λ (l : List (List ℕ)). q ∷ l) twice.splits;
  earlier = or_right (bytes_eq q p) (has twice.before p) twice.earlier;
})

pub once_of_distinct : (ps : List (List ℕ)) → AreDistinct ps → AreOnce ps
once_of_distinct [] distinct = tt
once_of_distinct (q ∷ ps) distinct = (
  false_from_ne_true (has ps q) (λ h.
      let rest = split_at q ps h in
      distinct q (record { before = q ∷ rest.before; after = rest.after; splits = ap (λ (l : List (List ℕ)). q ∷ l) rest.splits; earlier = or_left (bytes_eq q q) (has rest.before q) (bytes_same q) })),
  once_of_distinct ps (distinct_tail q ps distinct),
)

pub has-push : (ps : List (List ℕ)) (q p : List ℕ) → has (ps ++ q ∷ []) p ≡ (has ps p || bytes_eq q p)
has-push [] q p = go (bytes_eq q p)
  where
    go : (b : Bool) → (b || false) ≡ b
    go true = refl
    go false = refl
has-push (x ∷ ps) q p = ap (λ (b : Bool). bytes_eq x p || b) (has-push ps q p) ∙ go (bytes_eq x p)
  where
    go : (b : Bool) → (b || (has ps p || bytes_eq q p)) ≡ ((b || has ps p) || bytes_eq q p)
    go true = refl
    go false = refl

once_push : (ps : List (List ℕ)) (q : List ℕ) → AreOnce ps → has ps q ≡ false → AreOnce (ps ++ q ∷ [])
once_push [] q once h = (refl, tt)
once_push (x ∷ ps) q once h =
    let parts = or_parts (bytes_eq x q) (has ps q) h in
    (has-push ps q x ∙ or_from (has ps x) (bytes_eq q x) once.0 (bytes_differ q x (λ e. false≢true (sym parts.0 ∙ (ap (bytes_eq x) e ∙ bytes_same x)))), once_push ps q once.1 parts.1)

pub distinct_push : (ps : List (List ℕ)) (q : List ℕ) → AreDistinct ps → has ps q ≡ false → AreDistinct (ps ++ q ∷ [])
distinct_push ps q distinct h = distinct_of_once (ps ++ q ∷ []) (once_push ps q (once_of_distinct ps distinct) h)

-- what passes a test stands once
has-filter : (test : List ℕ → Bool) (ps : List (List ℕ)) (p : List ℕ) → has ps p ≡ false → has (filter test ps) p ≡ false
has-filter test [] p h = refl
has-filter test (q ∷ ps) p h =
    let parts = or_parts (bytes_eq q p) (has ps p) h in
    go (test q) parts.0 (has-filter test ps p parts.1)
  where
    go : (b : Bool) → bytes_eq q p ≡ false → has (filter test ps) p ≡ false → has (cond b (q ∷ filter test ps) (filter test ps)) p ≡ false
    go true e ih = or_from (bytes_eq q p) (has (filter test ps) p) e ih
    go false e ih = ih

once-filter : (test : List ℕ → Bool) (ps : List (List ℕ)) → AreOnce ps → AreOnce (filter test ps)
once-filter test [] once = tt
once-filter test (q ∷ ps) once = go (test q) (has-filter test ps q once.0) (once-filter test ps once.1)
  where
    go : (b : Bool) → has (filter test ps) q ≡ false → AreOnce (filter test ps) → AreOnce (cond b (q ∷ filter test ps) (filter test ps))
    go true e ih = (e, ih)
    go false e ih = ih

pub distinct-filter : (test : List ℕ → Bool) (ps : List (List ℕ)) → AreDistinct ps → AreDistinct (filter test ps)
distinct-filter test ps distinct = distinct_of_once (filter test ps) (once-filter test ps (once_of_distinct ps distinct))

-- a path is where it stands
pub has_at : (ps : List (List ℕ)) (n : ℕ) (p : List ℕ) → slice_get ps n ≡ Some p → has ps p ≡ true
has_at [] n p e = cc
has_at (q ∷ ps) zero p e = let same : q ≡ p = cc in or_left (bytes_eq q p) (has ps p) (ap (λ (x : List ℕ). bytes_eq x p) same ∙ bytes_same p)
has_at (q ∷ ps) (suc n) p e = or_right (bytes_eq q p) (has ps p) (has_at ps n p e)

one_place_once : (ps : List (List ℕ)) (m n : ℕ) (p : List ℕ) → AreOnce ps → slice_get ps m ≡ Some p → slice_get ps n ≡ Some p → m ≡ n
one_place_once [] m n p once e f = cc
one_place_once (q ∷ ps) zero zero p once e f = refl
one_place_once (q ∷ ps) zero (suc n) p once e f = let same : q ≡ p = cc in absurd (false≢true (sym once.0 ∙ (ap (has ps) same ∙ has_at ps n p f)))
one_place_once (q ∷ ps) (suc m) zero p once e f = let same : q ≡ p = cc in absurd (false≢true (sym once.0 ∙ (ap (has ps) same ∙ has_at ps m p e)))
one_place_once (q ∷ ps) (suc m) (suc n) p once e f = ap suc (one_place_once ps m n p once.1 e f)

pub one_place : (ps : List (List ℕ)) (m n : ℕ) (p : List ℕ) → AreDistinct ps → slice_get ps m ≡ Some p → slice_get ps n ≡ Some p → m ≡ n
one_place ps m n p distinct = one_place_once ps m n p (once_of_distinct ps distinct)
