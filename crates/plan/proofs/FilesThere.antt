-- Whether one of the dyndep files that are to be loaded is there.
use Rattle.std.proofs.Common.{◌≡◌, ◌⊎◌, inl, inr, ℕ, zero, suc, ◌+◌, ◌<◌, ◌≤◌, ◌==◌, cond, Bool, true, false, List, [], ◌∷◌, ◌++◌, length, get_or, take, refl, sym, ◌∙◌, ap, subst, arith}
use Rattle.std.proofs.Math.ListN.{set}
use Rattle.std.proofs.lemmas.Bool.{cases_eq, eqb-true, eq-eqb, false≢true, or_left, or_right}
use Rattle.std.proofs.lemmas.List.{get_or-set_same, get_or-set_other, length-set}
use Rattle.model.specs.Graph.{has_number}
use Rattle.theory.proofs.Lists.{has_number-cases, has_number-is}
use Rattle.plan.specs.Coming.{AreMarked, AreAway, IsComing}
use Rattle.plan.specs.Flags.{has}
use Rattle.plan.specs.Loads.{NoneIsThere}

-- ---- marks

pub take_next : (xs : List ℕ) (k x : ℕ) → k < length xs → x ≡ get_or xs k 0 → take (k + 1) xs ≡ take k xs ++ x ∷ []
take_next xs k x low is = ap (λ (n : ℕ). take n xs) next ∙ by xs k low is
  where
    next : k + 1 ≡ suc k
    next = omega arith

    by : (l : List ℕ) (j : ℕ) → j < length l → x ≡ get_or l j 0 → take (suc j) l ≡ take j l ++ x ∷ []
    by [] j lt read = absurd (omega (arith, lt))
    by (y ∷ l) zero lt read = ap (λ (n : ℕ). n ∷ []) (sym read)
    by (y ∷ l) (suc j) lt read = ap (λ (rest : List ℕ). y ∷ rest) (by l j (omega (arith, lt)) read)

pub all_taken : (xs : List ℕ) (k : ℕ) → length xs ≤ k → take k xs ≡ xs
all_taken [] zero past = refl
all_taken [] (suc k) past = refl
all_taken (x ∷ xs) zero past = absurd (omega (arith, past))
all_taken (x ∷ xs) (suc k) past = ap (λ (l : List ℕ). x ∷ l) (all_taken xs k (omega (arith, past)))

pub marked_none : (count : ℕ) (flags : List Bool) → AreMarked count [] flags
marked_none count flags p low has_it = absurd (false≢true has_it)

pub marked_next : (count k x : ℕ) (loads : List ℕ) (old new : List Bool) → k < length loads → x ≡ get_or loads k 0 → length old ≡ count → new ≡ set old x true → AreMarked count (take k loads) old → AreMarked count (take (k + 1) loads) new
marked_next count k x loads old new low is fits put before p within there = subst (λ (f : List Bool). has f p ≡ true) (sym put) (elim (cases_eq p x) [
  | inl same ↦ subst (λ (n : ℕ). has (set old x true) n ≡ true) (sym same) (get_or-set_same old x true false (omega (arith, within, same, fits)))
  | inr other ↦ get_or-set_other old x p true false other ∙ before p within (by other (has_number-cases (take k loads) (x ∷ []) p (subst (λ (l : List ℕ). has_number l p ≡ true) (take_next loads k x low is) there)))
])
  where
    by : (p ≡ x → ⊥) → (has_number (take k loads) p ≡ true) ⊎ (has_number (x ∷ []) p ≡ true) → has_number (take k loads) p ≡ true
    by other (inl front) = front
    by other (inr last) = absurd (other (sym (has_number-is x p last)))

pub empty_comes : (loads : List ℕ) (there files : List Bool) (any : Bool) → (length loads == 0) ≡ true → IsComing loads there files any
empty_comes [] there files any none = record { marked = λ p low has_it. absurd (false≢true has_it); none = λ nothing p listed. absurd (false≢true listed) }
empty_comes (x ∷ loads) there files any none = let same : suc (length loads) ≡ 0 = eqb-true (length (x ∷ loads)) 0 none in absurd (omega (arith, same))

-- ---- none is there

pub none_next : (there : List Bool) (loads : List ℕ) (k x : ℕ) → k < length loads → x ≡ get_or loads k 0 → has there x ≡ false → AreAway there (take k loads) → AreAway there (take (k + 1) loads)
none_next there loads k x low is absent before = λ p listed. elim (has_number-cases (take k loads) (x ∷ []) p (subst (λ (l : List ℕ). has_number l p ≡ true) (take_next loads k x low is) listed)) [
  | inl front ↦ before p front
  | inr last ↦ ap (has there) (sym (has_number-is x p last)) ∙ absent
]

-- a path that is none of these comes
pub one_comes : (loads : List ℕ) (there files : List Bool) (any now : Bool) (p : ℕ) → p < length there → now ≡ cond (has files p) true any → IsComing loads there files any → IsComing loads (set there p true) files now
one_comes loads there files any now p low is come = record {
  marked = λ q within has_it. come.marked q (let size = length-set there p true in omega (arith, within, size)) has_it;
  none = λ nothing. by (has files p) refl nothing;
}
  where
    by : (b : Bool) → has files p ≡ b → now ≡ false → AreAway (set there p true) loads
    by true file nothing = absurd (false≢true (sym nothing ∙ (is ∙ ap (λ (b : Bool). cond b true any) file)))
    by false file nothing = λ q listed.
        get_or-set_other there p q true false (λ same. false≢true (sym file ∙ come.marked p low (subst (λ (n : ℕ). has_number loads n ≡ true) same listed)))
        ∙ come.none (sym (ap (λ (b : Bool). cond b true any) file) ∙ (sym is ∙ nothing)) q listed

pub away_none : (there : List Bool) (loads : List ℕ) → AreAway there loads → NoneIsThere there loads
away_none there [] away = tt
away_none there (x ∷ loads) away = (
  away x (or_left (x == x) (has_number loads x) (eq-eqb x x refl)),
  away_none there loads (λ p listed. away p (or_right (x == p) (has_number loads p) listed)),
)
