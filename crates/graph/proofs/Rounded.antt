-- Paths of a round: which ones were put in since the set was emptied.
use Rattle.std.proofs.Common.{◌≡◌, ◌≢◌, ◌⊎◌, if◌then◌else◌, inl, inr, ℕ, zero, suc, ◌+◌, ◌<◌, ◌≤◌, ◌==◌, ◌||◌, Bool, true, false, nat_eq, get_or, set, List, [], ◌∷◌, ◌++◌, length, refl, sym, ◌∙◌, ap, subst, arith}
use Rattle.std.specs.List.{list_any}
use Rattle.std.proofs.lemmas.Bool.{eq-eqb, ne_eqb}
use Rattle.std.proofs.lemmas.Bool.Decides.{eqb_tells}
use Rattle.std.proofs.lemmas.List.{get_or-set_same, get_or-set_other}
use Rattle.indexmap.specs.IndexSet.{insert_key}
use Rattle.model.specs.Graph.{has_number}
use Rattle.theory.proofs.Lists.{has_number-push, has_number-push_other}
use Rattle.graph.specs.Marked.{AreOfRound}
use Rattle.graph.proofs.Lists.{once_push}

-- where no round is another
pub rounded_same : (paths rounds others : List ℕ) (round : ℕ) → AreOfRound paths rounds round → ((k : ℕ) → get_or others k 0 ≡ get_or rounds k 0) → AreOfRound paths others round
rounded_same paths rounds others round are same = record {
  some = are.some;
  past = λ p. subst (λ (n : ℕ). n ≤ round) (sym (same p)) (are.past p);
  held = λ p. are.held p ∙ ap (λ (n : ℕ). n == round) (sym (same p));
  once = are.once;
}

pub rounded_push : (paths rounds : List ℕ) (round path : ℕ) → AreOfRound paths rounds round → path < length rounds → get_or rounds path 0 ≢ round → AreOfRound (paths ++ path ∷ []) (set rounds path round) round
rounded_push paths rounds round path are within fresh = record {
  some = are.some;
  past = λ p. elim (eqb_tells p path) [
    | inl here ↦ let at = ap (λ (k : ℕ). get_or (set rounds path round) k 0) here.1 ∙ get_or-set_same rounds path round 0 within in omega arith
    | inr other ↦ let at = get_or-set_other rounds path p round 0 other.1 in let below = are.past p in omega arith
  ];
  held = λ p. elim (eqb_tells p path) [
    | inl here ↦
        let at : get_or (set rounds path round) p 0 ≡ round = ap (λ (k : ℕ). get_or (set rounds path round) k 0) here.1 ∙ get_or-set_same rounds path round 0 within in
        ap (has_number (paths ++ path ∷ [])) here.1 ∙ (has_number-push paths path ∙ sym (eq-eqb (get_or (set rounds path round) p 0) round at))
    | inr other ↦
        has_number-push_other paths path p (λ e. other.1 (sym e)) ∙ (are.held p ∙ ap (λ (n : ℕ). n == round) (sym (get_or-set_other rounds path p round 0 other.1)))
  ];
  once = once_push paths path are.once (are.held path ∙ ne_eqb (get_or rounds path 0) round fresh);
}

flip : (a b : ℕ) → nat_eq a b ≡ (b == a)
flip a b = elim (eqb_tells a b) [
  | inl same ↦ same.0 ∙ sym (eq-eqb b a (sym same.1))
  | inr other ↦ other.0 ∙ sym (ne_eqb b a (λ e. other.1 (sym e)))
]

any_is_has : (xs : List ℕ) (n : ℕ) → list_any (nat_eq n) xs ≡ has_number xs n
any_is_has [] n = refl
any_is_has (x ∷ xs) n = ap (λ (b : Bool). b || list_any (nat_eq n) xs) (flip n x) ∙ ap (λ (b : Bool). (x == n) || b) (any_is_has xs n)

by_has : (xs : List ℕ) (n : ℕ) (b : Bool) → has_number xs n ≡ b → insert_key nat_eq xs n ≡ (if b then xs else xs ++ n ∷ [])
by_has xs n b is = ap (λ (b : Bool). if b then xs else xs ++ n ∷ []) (any_is_has xs n ∙ is)

-- a path whose round is the present one is in, and another is not
pub insert_held : (paths rounds : List ℕ) (round path : ℕ) → AreOfRound paths rounds round → get_or rounds path 0 ≡ round → paths ≡ insert_key nat_eq paths path
insert_held paths rounds round path are is = sym (by_has paths path true (are.held path ∙ eq-eqb (get_or rounds path 0) round is))

pub insert_fresh : (paths rounds : List ℕ) (round path : ℕ) → AreOfRound paths rounds round → get_or rounds path 0 ≢ round → paths ++ path ∷ [] ≡ insert_key nat_eq paths path
insert_fresh paths rounds round path are other = sym (by_has paths path false (are.held path ∙ ne_eqb (get_or rounds path 0) round other))

-- an entry of none changes no round
pub get_or-nought : (rounds : List ℕ) (k : ℕ) → get_or (rounds ++ 0 ∷ []) k 0 ≡ get_or rounds k 0
get_or-nought [] zero = refl
get_or-nought [] (suc k) = refl
get_or-nought (r ∷ rounds) zero = refl
get_or-nought (r ∷ rounds) (suc k) = get_or-nought rounds k
