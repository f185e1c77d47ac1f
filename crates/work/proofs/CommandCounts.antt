-- How many commands are still to be started.
use Rattle.std.proofs.Common.{◌≡◌, ℕ, suc, ◌+◌, ◌<◌, ◌&&◌, cond, Bool, true, false, List, [], ◌∷◌, ◌++◌, length, take, get_or, sym, ◌∙◌, ap, arith}
use Rattle.std.proofs.lemmas.List.{take_more, length-take-le}
use Rattle.plan.specs.declared.step.Standing.{Standing}
use Rattle.plan.specs.Standing.{standing_at}
use Rattle.work.specs.Commands.{is_unstarted, count_from, count_unstarted}

abbrev one : Bool → ℕ
one true = 1
one false = 0

by_test : (t : Bool) (a b c : ℕ) → a ≡ b + c → cond t (suc a) a ≡ cond t (suc b) b + c
by_test true a b c is = omega (arith, is)
by_test false a b c is = is

alone : (b : Bool) → cond b 1 0 ≡ 0 + one b
alone true = omega arith
alone false = omega arith

count_push : (standings : List Standing) (e : ℕ) (xs : List Bool) (x : Bool) → count_from standings e (xs ++ x ∷ []) ≡ count_from standings e xs + one (x && is_unstarted (standing_at standings (e + length xs)))
count_push standings e [] x =
    let here : e ≡ e + 0 = omega arith in
    alone (x && is_unstarted (standing_at standings e)) ∙ ap (λ (n : ℕ). 0 + one (x && is_unstarted (standing_at standings n))) here
count_push standings e (y ∷ xs) x =
    let next : suc e + length xs ≡ e + length (y ∷ xs) = omega arith in
    by_test (y && is_unstarted (standing_at standings e)) (count_from standings (suc e) (xs ++ x ∷ [])) (count_from standings (suc e) xs) (one (x && is_unstarted (standing_at standings (e + length (y ∷ xs)))))
    (count_push standings (suc e) xs x ∙ ap (λ (n : ℕ). count_from standings (suc e) xs + one (x && is_unstarted (standing_at standings n))) next)

-- the flag at a place is counted
pub counted_next : (standings : List Standing) (flags : List Bool) (k count : ℕ) → k < length flags → count ≡ count_unstarted standings (take k flags) → (b : Bool) → get_or flags k false && is_unstarted (standing_at standings k) ≡ b
    → count + one b ≡ count_unstarted standings (take (k + 1) flags)
counted_next standings flags k count low was b is = sym (
    ap (count_from standings 0) (take_more flags k false low)
    ∙ (count_push standings 0 (take k flags) (get_or flags k false)
    ∙ (ap (λ (n : ℕ). count_from standings 0 (take k flags) + one (get_or flags k false && is_unstarted (standing_at standings n))) place
    ∙ (ap (λ (c : Bool). count_from standings 0 (take k flags) + one c) is ∙ ap (λ (n : ℕ). n + one b) (sym was))))
    )
  where
    place : 0 + length (take k flags) ≡ k
    place = let few = length-take-le k flags (omega (arith, low)) in omega (arith, few)

pub counts : (standings : List Standing) (flags : List Bool) (k count next e : ℕ) → k < length flags → count ≡ count_unstarted standings (take k flags) → e ≡ k → (stands : Standing) → stands ≡ standing_at standings e → (test : Bool) → test ≡ is_unstarted stands
    → get_or flags k false ≡ true → test ≡ true → next ≡ count + 1 → next ≡ count_unstarted standings (take (k + 1) flags)
counts standings flags k count next e low was at stands is test tested due may more =
    more ∙ counted_next standings flags k count low was true
    (ap (λ (b : Bool). b && is_unstarted (standing_at standings k)) due ∙ (ap (λ (n : ℕ). is_unstarted (standing_at standings n)) (sym at) ∙ (ap is_unstarted (sym is) ∙ (sym tested ∙ may))))

pub counts_no_other : (standings : List Standing) (flags : List Bool) (k count next e : ℕ) → k < length flags → count ≡ count_unstarted standings (take k flags) → e ≡ k → (stands : Standing) → stands ≡ standing_at standings e → (test : Bool) → test ≡ is_unstarted stands
    → test ≡ false → next ≡ count → next ≡ count_unstarted standings (take (k + 1) flags)
counts_no_other standings flags k count next e low was at stands is test tested may_not same =
    same ∙ (omega arith ∙ counted_next standings flags k count low was false
    (none (get_or flags k false) (is_unstarted (standing_at standings k)) (ap (λ (n : ℕ). is_unstarted (standing_at standings n)) (sym at) ∙ (ap is_unstarted (sym is) ∙ (sym tested ∙ may_not)))))
  where
    none : (due may : Bool) → may ≡ false → due && may ≡ false
    none true may is = is
    none false may is = λ i. false

pub counts_nothing : (standings : List Standing) (flags : List Bool) (k count next : ℕ) → k < length flags → count ≡ count_unstarted standings (take k flags) → get_or flags k false ≡ false → next ≡ count
    → next ≡ count_unstarted standings (take (k + 1) flags)
counts_nothing standings flags k count next low was clean same =
    same ∙ (omega arith ∙ counted_next standings flags k count low was false (ap (λ (b : Bool). b && is_unstarted (standing_at standings k)) clean))
