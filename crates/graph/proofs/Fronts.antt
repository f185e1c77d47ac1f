-- Lists that get numbers at their end, and lose them again.
use Rattle.std.proofs.Common.{◌≡◌, ◌≢◌, inl, inr, ℕ, zero, suc, ◌+◌, ◌-◌, ◌<◌, ◌≤◌, ◌==◌, true, false, List, [], ◌∷◌, ◌++◌, length, take, refl, sym, ◌∙◌, ap, subst, arith, append_assoc, length-append}
use Rattle.std.specs.Prelude.{replicate}
use Rattle.std.specs.List.{AllByRecursion}
use Rattle.std.proofs.Math.ListN.{set}
use Rattle.std.proofs.Math.Seq.{take-append_seam, take-length}
use Rattle.std.proofs.lemmas.Bool.{cases_Bool, cases_lt, eqb-true, eq-eqb, false≢true, false_from_ne_true, or_left, or_right}
use Rattle.std.proofs.lemmas.List.{append-nil, get_or_past, get_or-set_same, get_or-set_other, length-set}
use Rattle.model.specs.Graph.{has_number}
use Rattle.graph.specs.Fronts.{FrontsStay, AreCut, recorded_times}
use Rattle.graph.specs.Held.{list_at, more_lists, times, StandOnce, push_at, pushed}
use Rattle.graph.proofs.Lists.{one_time, no_time, push_same, push_other, times_of_has, times-append}
use Rattle.graph.proofs.Using.{front_list, back_list}

-- ---- fronts

pub fronts_none : (lists : List (List ℕ)) → FrontsStay lists lists
fronts_none lists p = record { more = []; grows = sym (append-nil (list_at lists p)) }

pub fronts_same : (old new : List (List ℕ)) → new ≡ old → FrontsStay old new
fronts_same old new same = subst (FrontsStay old) (sym same) (fronts_none old)

pub fronts_then : (a b c : List (List ℕ)) → FrontsStay a b → FrontsStay b c → FrontsStay a c
fronts_then a b c one two p = record {
  more = (one p).more ++ (two p).more;
  grows = (two p).grows ∙ (ap (λ (l : List ℕ). l ++ (two p).more) (one p).grows ∙ append_assoc (list_at a p) (one p).more (two p).more);
}

-- ---- so many numbers behind

pub record GrewBy (count : ℕ) (old new : List ℕ) : Type 0 where
  pub more : List ℕ
  pub grows : new ≡ old ++ more
  pub long : length more ≡ count

pub grew_none : (old new : List ℕ) → new ≡ old → GrewBy 0 old new
grew_none old new same = record { more = []; grows = same ∙ sym (append-nil old); long = refl }

pub grew_then : (a b c : List ℕ) (m n : ℕ) → GrewBy m a b → GrewBy n b c → GrewBy (m + n) a c
grew_then a b c m n one two = record {
  more = one.more ++ two.more;
  grows = two.grows ∙ (ap (λ (l : List ℕ). l ++ two.more) one.grows ∙ append_assoc a one.more two.more);
  long = let sum = length-append one.more two.more in let first = one.long in let second = two.long in omega (arith, sum, first, second);
}

-- what it got it loses again
pub grew_back : (count : ℕ) (old new : List ℕ) → GrewBy count old new → take (length new - count) new ≡ old
grew_back count old new grew =
    let size = ap length grew.grows in
    let sum = length-append old grew.more in
    let long = grew.long in
    let short : length new - count ≡ length old = omega (arith, size, sum, long) in
    ap (λ (n : ℕ). take n new) short ∙ (ap (take (length old)) grew.grows ∙ take-append_seam old grew.more)

-- ---- one edge behind those that name some paths

pub pushed_more : (users : List (List ℕ)) (ps : List ℕ) (e q : ℕ) → AllByRecursion (λ p. p < length users) ps → GrewBy (times ps q) (list_at users q) (list_at (pushed users ps e) q)
pushed_more users [] e q within = grew_none (list_at users q) (list_at users q) refl
pushed_more users (p ∷ ps) e q within =
    let rest = pushed_more (push_at users p e) ps e q (subst (λ (n : ℕ). AllByRecursion (λ r. r < n) ps) (sym (length-set users p (list_at users p ++ e ∷ []))) within.1) in
    elim (cases_Bool (p == q)) [
      | inl here ↦
          let one : list_at (push_at users p e) q ≡ list_at users q ++ e ∷ [] = subst (λ (r : ℕ). list_at (push_at users p e) r ≡ list_at users r ++ e ∷ []) (eqb-true p q here) (push_same users p e within.0) in
          record {
            more = e ∷ rest.more;
            grows = rest.grows ∙ (ap (λ (l : List ℕ). l ++ rest.more) one ∙ append_assoc (list_at users q) (e ∷ []) rest.more);
            long = ap suc rest.long ∙ sym (one_time p q here ps);
          }
      | inr other ↦
          let apart : q ≢ p = λ is. false≢true (sym other ∙ eq-eqb p q (sym is)) in
          record {
            more = rest.more;
            grows = rest.grows ∙ ap (λ (l : List ℕ). l ++ rest.more) (push_other users p q e apart);
            long = rest.long ∙ sym (no_time p q other ps);
          }
    ]

pub pushed_front : (users : List (List ℕ)) (ps : List ℕ) (e : ℕ) → AllByRecursion (λ p. p < length users) ps → FrontsStay users (pushed users ps e)
pushed_front users ps e within q = let grew = pushed_more users ps e q within in record { more = grew.more; grows = grew.grows }

-- ---- lists behind the others

pub more_same : (lists : List (List ℕ)) (count p : ℕ) → list_at (more_lists lists count) p ≡ list_at lists p
more_same lists count p = elim (cases_lt p (length lists)) [
  | inl low ↦ front_list lists count p low
  | inr past ↦ back_list lists count p past ∙ sym (get_or_past lists p [] past)
]

pub more_back : (lists : List (List ℕ)) (count : ℕ) → take (length lists) (more_lists lists count) ≡ lists
more_back lists count = take-append_seam lists (replicate (count - length lists) [])

-- ---- cuts

pub length_cut : {X : Type 0} (n : ℕ) (xs : List X) → n ≤ length xs → length (take n xs) ≡ n
length_cut zero xs low = refl
length_cut (suc n) [] low = absurd (omega (arith, low))
length_cut (suc n) (x ∷ xs) low = ap suc (length_cut n xs (omega (arith, low)))

take_cut : (m n : ℕ) (xs : List ℕ) → m ≤ n → take m (take n xs) ≡ take m xs
take_cut zero n xs low = refl
take_cut (suc m) zero xs low = absurd (omega (arith, low))
take_cut (suc m) (suc n) [] low = refl
take_cut (suc m) (suc n) (x ∷ xs) low = ap (λ (l : List ℕ). x ∷ l) (take_cut m n xs (omega (arith, low)))

-- none is lost
take_whole : (count : ℕ) (xs : List ℕ) → count ≡ 0 → take (length xs - count) xs ≡ xs
take_whole count xs none = ap (λ (n : ℕ). take n xs) (omega (arith, none)) ∙ take-length xs

pub cut_none : (count : ℕ → ℕ) (lists : List (List ℕ)) → ((p : ℕ) → count p ≡ 0) → AreCut count lists lists
cut_none count lists none = record { fits = refl; each = λ p. sym (take_whole (count p) (list_at lists p) (none p)) }

pub cut_as : (f g : ℕ → ℕ) (old new : List (List ℕ)) → ((p : ℕ) → g p ≡ f p) → AreCut f old new → AreCut g old new
cut_as f g old new same cut = record { fits = cut.fits; each = λ p. cut.each p ∙ ap (λ (n : ℕ). take (length (list_at old p) - n) (list_at old p)) (sym (same p)) }

pub cut_then : (f g h : ℕ → ℕ) (a b c : List (List ℕ)) → ((p : ℕ) → h p ≡ f p + g p) → AreCut f a b → AreCut g b c → AreCut h a c
cut_then f g h a b c both one two = record {
  fits = two.fits ∙ one.fits;
  each = λ p.
      let l = list_at a p in
      let n = length l - f p in
      let long : length (list_at b p) ≡ n = ap length (one.each p) ∙ length_cut n l (omega arith) in
      let sum = both p in
      two.each p
      ∙ (ap (λ (x : List ℕ). take (length (list_at b p) - g p) x) (one.each p)
      ∙ (ap (λ (m : ℕ). take (m - g p) (take n l)) long ∙ (take_cut (n - g p) n l (omega arith) ∙ ap (λ (m : ℕ). take m l) (omega (arith, sum)))));
}

-- the last number of one list
pub cut_one : (lists : List (List ℕ)) (k : ℕ) → k < length lists → AreCut (times (k ∷ [])) lists (set lists k (take (length (list_at lists k) - 1) (list_at lists k)))
cut_one lists k low = record {
  fits = length-set lists k (take (length (list_at lists k) - 1) (list_at lists k));
  each = λ p. elim (cases_Bool (k == p)) [
    | inl here ↦
        let one : times (k ∷ []) p ≡ 1 = one_time k p here [] in
        subst (λ (q : ℕ). list_at (set lists k (take (length (list_at lists k) - 1) (list_at lists k))) q ≡ take (length (list_at lists q) - 1) (list_at lists q)) (eqb-true k p here)
        (get_or-set_same lists k (take (length (list_at lists k) - 1) (list_at lists k)) [] low)
        ∙ ap (λ (n : ℕ). take (length (list_at lists p) - n) (list_at lists p)) (sym one)
    | inr other ↦
        get_or-set_other lists k p (take (length (list_at lists k) - 1) (list_at lists k)) [] (λ is. false≢true (sym other ∙ eq-eqb k p (sym is)))
        ∙ sym (take_whole (times (k ∷ []) p) (list_at lists p) (no_time k p other []))
  ];
}

-- what was popped from the last path on, and one path more
pub cut_next : (first now new : List (List ℕ)) (paths left front done : List ℕ) (last : ℕ) → last < length now → left ≡ front ++ last ∷ [] → new ≡ set now last (take (length (list_at now last) - 1) (list_at now last)) → paths ≡ left ++ done → AreCut (times done) first now
    → (more : List ℕ) × (paths ≡ front ++ more) × AreCut (times more) first new
cut_next first now new paths left front done last low splits is whole cut = (
  last ∷ done,
  whole ∙ (ap (λ (l : List ℕ). l ++ done) splits ∙ append_assoc front (last ∷ []) done),
  cut_then (times done) (times (last ∷ [])) (times (last ∷ done)) first now new (λ p. let sum = times-append (last ∷ []) done p in omega (arith, sum)) cut (subst (AreCut (times (last ∷ [])) now) (sym is) (cut_one now last low)),
)

pub cut_all : (first now : List (List ℕ)) (paths left : List ℕ) → length left ≡ 0 → (done : List ℕ) × (paths ≡ left ++ done) × AreCut (times done) first now → AreCut (times paths) first now
cut_all first now paths [] none so_far = subst (λ (l : List ℕ). AreCut (times l) first now) (sym so_far.1) so_far.2
cut_all first now paths (x ∷ left) none so_far = absurd (omega (arith, none))

-- ---- numbers that all stand in a list of numbers, each of which stands there once

abbrev sum_times : List ℕ → List ℕ → ℕ
sum_times xs [] = 0
sum_times xs (e ∷ es) = times xs e + sum_times xs es

sum_none : (es : List ℕ) → sum_times [] es ≡ 0
sum_none [] = refl
sum_none (e ∷ es) =
    let rest = sum_none es in
    let none : times [] e ≡ 0 = refl in
    let whole : sum_times [] (e ∷ es) ≡ times [] e + sum_times [] es = refl in
    omega (arith, rest, none, whole)

sum_push : (es : List ℕ) (n : ℕ) (xs : List ℕ) → sum_times (n ∷ xs) es ≡ sum_times xs es + times es n
sum_push [] n xs = let none : times [] n ≡ 0 = refl in let nothing : sum_times xs [] ≡ 0 = refl in let one : sum_times (n ∷ xs) [] ≡ 0 = refl in omega (arith, none, nothing, one)
sum_push (e ∷ es) n xs =
    let rest = sum_push es n xs in
    let whole : sum_times (n ∷ xs) (e ∷ es) ≡ times (n ∷ xs) e + sum_times (n ∷ xs) es = refl in
    let was : sum_times xs (e ∷ es) ≡ times xs e + sum_times xs es = refl in
    elim (cases_Bool (n == e)) [
      | inl here ↦
          let a = one_time n e here xs in
          let b = one_time e n (eq-eqb e n (sym (eqb-true n e here))) es in
          omega (arith, rest, whole, was, a, b)
      | inr other ↦
          let a = no_time n e other xs in
          let b = no_time e n (false_from_ne_true (e == n) (λ is. false≢true (sym other ∙ eq-eqb n e (sym (eqb-true e n is))))) es in
          omega (arith, rest, whole, was, a, b)
    ]

all_counted : (es xs : List ℕ) → StandOnce es → ((e : ℕ) → has_number xs e ≡ true → has_number es e ≡ true) → length xs ≡ sum_times xs es
all_counted es [] once each = sym (sum_none es)
all_counted es (n ∷ xs) once each =
    let rest = all_counted es xs once (λ e h. each e (or_right (n == e) (has_number xs e) h)) in
    let push = sum_push es n xs in
    let one = times_of_has es n (each n (or_left (n == n) (has_number xs n) (eq-eqb n n refl))) in
    let most = once n in
    let long : length (n ∷ xs) ≡ suc (length xs) = refl in
    omega (arith, rest, push, one, most, long)

sum_recorded : (recorded : List (List ℕ)) (xs es : List ℕ) (p : ℕ) → ((e : ℕ) → has_number es e ≡ true → times xs e ≡ times (list_at recorded e) p) → sum_times xs es ≡ recorded_times recorded es p
sum_recorded recorded xs [] p same = refl
sum_recorded recorded xs (e ∷ es) p same =
    let first = same e (or_left (e == e) (has_number es e) (eq-eqb e e refl)) in
    let rest = sum_recorded recorded xs es p (λ d h. same d (or_right (e == d) (has_number es d) h)) in
    let whole : sum_times xs (e ∷ es) ≡ times xs e + sum_times xs es = refl in
    let other : recorded_times recorded (e ∷ es) p ≡ times (list_at recorded e) p + recorded_times recorded es p = refl in
    omega (arith, first, rest, whole, other)

-- they are as many as the path is recorded of these
pub recorded_counted : (recorded : List (List ℕ)) (xs es : List ℕ) (p : ℕ) → StandOnce es → ((e : ℕ) → has_number xs e ≡ true → has_number es e ≡ true) → ((e : ℕ) → has_number es e ≡ true → times xs e ≡ times (list_at recorded e) p)
    → length xs ≡ recorded_times recorded es p
recorded_counted recorded xs es p once each same = all_counted es xs once each ∙ sum_recorded recorded xs es p same

pub recorded_push : (recorded : List (List ℕ)) (es : List ℕ) (e p : ℕ) → recorded_times recorded (es ++ e ∷ []) p ≡ recorded_times recorded es p + times (list_at recorded e) p
recorded_push recorded [] e p = let one : recorded_times recorded (e ∷ []) p ≡ times (list_at recorded e) p + 0 = refl in omega (arith, one)
recorded_push recorded (d ∷ es) e p =
    let rest = recorded_push recorded es e p in
    let whole : recorded_times recorded (d ∷ (es ++ e ∷ [])) p ≡ times (list_at recorded d) p + recorded_times recorded (es ++ e ∷ []) p = refl in
    let was : recorded_times recorded (d ∷ es) p ≡ times (list_at recorded d) p + recorded_times recorded es p = refl in
    omega (arith, rest, whole, was)
