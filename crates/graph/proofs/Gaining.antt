-- What edges gain by a dyndep file, in numbers.
use Rattle.std.proofs.Common.{◌≡◌, ◌≢◌, ◌⊎◌, inl, inr, ℕ, zero, suc, ◌+◌, ◌<◌, ◌≤◌, ◌==◌, Bool, true, false, cond, nat_lt, List, [], ◌∷◌, ◌++◌, Option, Some, None, map, take, length, get_or, slice_get, refl, sym, ◌∙◌, ap, subst, arith, append_assoc, length-append}
use Rattle.std.specs.List.{AllByRecursion}
use Rattle.std.proofs.lemmas.Bool.{cases_eq, cases_lt, eqb-true, eq-eqb, false_from_ne_true, or_left}
use Rattle.std.proofs.Math.ListN.{set}
use Rattle.std.proofs.lemmas.List.{append-nil, get_or_past, get_or_append_left, map-append, get_or-set_same, get_or-set_other}
use Rattle.std.proofs.lemmas.Option.{slice_get_within}
use Rattle.std.proofs.Math.Seq.{get_or-append_seam}
use Rattle.model.specs.Graph.{has_number, Addition}
use Rattle.theory.proofs.Lists.{has_number-cases, has_number-is}
use Rattle.dyndep.specs.declared.addition.Addition.{Addition as Statement}
use Rattle.paths.specs.declared.manifest.Action.{Action}
use Rattle.paths.specs.Commands.{no_action}
use Rattle.paths.specs.declared.manifest.Manifest.{Manifest}
use Rattle.paths.specs.Numbers.{IsAdded}
use Rattle.paths.specs.Lists.{line_at, line_inputs}
use Rattle.paths.specs.Told.{text_at, texts_at}
use Rattle.graph.specs.declared.loaded.Gain.{Gain}
use Rattle.graph.specs.Held.{list_at, times, AreRecorded, AreUsers, pushed}
use Rattle.graph.specs.Statements.{HasMore, AreNumbersIn, IsGainIn, no_gain, gain_at, no_addition, addition_at, AreGainsIn, action_at, action_with}
use Rattle.graph.specs.Extended.{addition_of}
use Rattle.graph.proofs.Asked.{texts_next}
use Rattle.graph.proofs.Lists.{times-append, times_pushed}
use Rattle.graph.proofs.Longer.{IsLonger, texts_longer}
use Rattle.graph.proofs.Texts.{AreWithin, within_of}

take_suc : {X : Type 0} (xs : List X) (k : ℕ) (x : X) → k < length xs → x ≡ get_or xs k x → take (suc k) xs ≡ take k xs ++ x ∷ []
take_suc [] k x lt is = absurd (omega (arith, lt))
take_suc (y ∷ xs) zero x lt is = ap (λ z. z ∷ []) (sym is)
take_suc (y ∷ xs) (suc k) x lt is = ap (λ l. y ∷ l) (take_suc xs k x (omega (arith, lt)) is)

-- ---- more paths

pub more_none : (old new : List (List ℕ)) → new ≡ old → HasMore old new
more_none old new same = record { added = []; grows = same ∙ sym (append-nil old) }

pub more_then : (a b c : List (List ℕ)) → HasMore a b → HasMore b c → HasMore a c
more_then a b c one two = record { added = one.added ++ two.added; grows = two.grows ∙ (ap (λ (l : List (List ℕ)). l ++ two.added) one.grows ∙ append_assoc a one.added two.added) }

pub longer_more : (old new : List (List ℕ)) (path : List ℕ) → IsLonger old new path → HasMore old new
longer_more old new path (inl same) = more_none old new same
longer_more old new path (inr grows) = record { added = path ∷ []; grows = grows }

pub more_length : (old new : List (List ℕ)) → HasMore old new → length old ≤ length new
more_length old new more = let long = ap length more.grows in let sum = length-append old more.added in omega (arith, long, sum)

pub more_texts : (old new : List (List ℕ)) → HasMore old new → (numbers : List ℕ) → AreWithin old numbers → texts_at new numbers ≡ texts_at old numbers
more_texts old new more numbers within = ap (λ (l : List (List ℕ)). texts_at l numbers) more.grows ∙ texts_longer old more.added numbers within

pub numbers_more : (old new texts : List (List ℕ)) (numbers : List ℕ) → HasMore old new → AreNumbersIn old texts numbers → AreNumbersIn new texts numbers
numbers_more old new texts numbers more are = record {
  within = λ p h. let low = are.within p h in let long = more_length old new more in omega (arith, low, long);
  are = more_texts old new more numbers (within_of (length old) numbers are.within) ∙ are.are;
}

-- one number more
pub numbers_next : (old new texts : List (List ℕ)) (numbers now : List ℕ) (k n : ℕ) (text : List ℕ) → k < length texts → text ≡ get_or texts k text → HasMore old new → slice_get new n ≡ Some text → now ≡ numbers ++ n ∷ []
    → AreNumbersIn old (take k texts) numbers → AreNumbersIn new (take (k + 1) texts) now
numbers_next old new texts numbers now k n text lt is more at grown are =
    let before = numbers_more old new (take k texts) numbers more are in
    record {
      within = λ p h. by p (has_number-cases numbers (n ∷ []) p (subst (λ (l : List ℕ). has_number l p ≡ true) grown h));
      are = texts_next new texts numbers now k n text lt is at grown before.are;
    }
  where
    by : (p : ℕ) → (has_number numbers p ≡ true) ⊎ (has_number (n ∷ []) p ≡ true) → p < length new
    by p (inl old_one) = (numbers_more old new (take k texts) numbers more are).within p old_one
    by p (inr new_one) = subst (λ (m : ℕ). m < length new) (has_number-is n p new_one) (slice_get_within new n text at)

-- ---- gains

pub gain_more : (old new : List (List ℕ)) (a : Addition) (gain : Gain) → HasMore old new → IsGainIn old a gain → IsGainIn new a gain
gain_more old new a gain more is = record { outputs = numbers_more old new a.outputs gain.outputs more is.outputs; inputs = numbers_more old new a.inputs gain.inputs more is.inputs }

pub gains_more : (old new : List (List ℕ)) (additions : List Addition) (gains : List Gain) → HasMore old new → AreGainsIn old additions gains → AreGainsIn new additions gains
gains_more old new additions gains more are = record { fits = are.fits; each = λ k lt. gain_more old new (addition_at additions k) (gain_at gains k) more (are.each k lt) }

pub gains_push : (paths : List (List ℕ)) (additions : List Addition) (gains : List Gain) (a : Addition) (gain : Gain) → AreGainsIn paths additions gains → IsGainIn paths a gain → AreGainsIn paths (additions ++ a ∷ []) (gains ++ gain ∷ [])
gains_push paths additions gains a gain are is = record {
  fits = let one = length-append gains (gain ∷ []) in let other = length-append additions (a ∷ []) in omega (arith, one, other, are.fits);
  each = λ k lt. elim (cases_eq k (length additions)) [
    | inl same ↦
        let at_addition : addition_at (additions ++ a ∷ []) k ≡ a = subst (λ (n : ℕ). addition_at (additions ++ a ∷ []) n ≡ a) (sym same) (get_or-append_seam additions a [] no_addition) in
        let at_gain : gain_at (gains ++ gain ∷ []) k ≡ gain = subst (λ (n : ℕ). gain_at (gains ++ gain ∷ []) n ≡ gain) (are.fits ∙ sym same) (get_or-append_seam gains gain [] no_gain) in
        subst (λ (g : Gain). IsGainIn paths (addition_at (additions ++ a ∷ []) k) g) (sym at_gain) (subst (λ (x : Addition). IsGainIn paths x gain) (sym at_addition) is)
    | inr other ↦
        let sum = length-append additions (a ∷ []) in
        let low : k < length additions = omega (arith, lt, sum, other) in
        let low_gain : k < length gains = omega (arith, low, are.fits) in
        subst (λ (g : Gain). IsGainIn paths (addition_at (additions ++ a ∷ []) k) g) (sym (get_or_append_left gains (gain ∷ []) no_gain k low_gain))
        (subst (λ (x : Addition). IsGainIn paths x (gain_at gains k)) (sym (get_or_append_left additions (a ∷ []) no_addition k low)) (are.each k low))
  ];
}

-- ---- one item more

pub take_item : {X : Type 0} (xs : List X) (k : ℕ) (x : X) → k < length xs → x ≡ get_or xs k x → take (k + 1) xs ≡ take k xs ++ x ∷ []
take_item xs k x lt is = let next : k + 1 ≡ suc k = omega arith in ap (λ (n : ℕ). take n xs) next ∙ take_suc xs k x lt is

pub gains_next : (paths : List (List ℕ)) (statements : List Statement) (gains now : List Gain) (k : ℕ) (statement : Statement) (gain : Gain) → k < length statements → statement ≡ get_or statements k statement → now ≡ gains ++ gain ∷ []
    → AreGainsIn paths (map addition_of (take k statements)) gains → IsGainIn paths (addition_of statement) gain → AreGainsIn paths (map addition_of (take (k + 1) statements)) now
gains_next paths statements gains now k statement gain lt is grown are one =
    subst (AreGainsIn paths (map addition_of (take (k + 1) statements))) (sym grown)
    (subst (λ (l : List Addition). AreGainsIn paths l (gains ++ gain ∷ [])) (sym (ap (map addition_of) (take_item statements k statement lt is) ∙ map-append addition_of (take k statements) (statement ∷ [])))
    (gains_push paths (map addition_of (take k statements)) gains (addition_of statement) gain are one))
