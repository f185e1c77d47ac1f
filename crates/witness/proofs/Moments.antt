-- What is written among these moments, in which order, and which commands run.
use Rattle.std.proofs.Common.{◌≡◌, ◌≢◌, inl, inr, ℕ, zero, suc, ◌==◌, nat_le, max, ◌&&◌, ◌||◌, not, Bool, true, false, List, [], ◌∷◌, ◌++◌, length, Option, None, refl, sym, ◌∙◌, ap, subst, bytes_eq, append_assoc}
use Rattle.std.specs.List.{AllByRecursion}
use Rattle.std.proofs.lemmas.Bool.{false≢true, cases_Bool, cond-false, and_parts, or_cases, not-true, eqb-true, leb-true}
use Rattle.std.proofs.lemmas.List.{append-nil, append_cancel_left}
use Rattle.model.specs.declared.event.Event.{Event}
use Rattle.model.specs.declared.event.Event.TheVariants.{Start, Finish}
use Rattle.model.specs.declared.event.Moment.{Moment}
use Rattle.model.specs.declared.event.Moment.TheVariants.{Wrote, Happened}
use Rattle.model.specs.World.{File, IsNotAt, written, file_after, file_from, file_at, runs_from, runs, IsIdle, next_stamp}
use Rattle.model.specs.Graph.{has, has_number}
use Rattle.model.specs.Schedule.{Step, started_in, ended_in}
use Rattle.model.specs.Phases.{happened_in, EndsInEvent, IsPointAfter, IsMomentAfter}
use Rattle.model.specs.Premises.{Increases, StampsGrow}
use Rattle.witness.proofs.RichLists.{every, every_number}

-- ---- files that nobody wrote

abbrev pub written_in : List Moment → List (List ℕ)
written_in [] = []
written_in (Wrote by path content stamp ∷ ms) = path ∷ written_in ms
written_in (Happened event ∷ ms) = written_in ms

pub unmoved : (p : List ℕ) (f : Option File) (ms : List Moment) → AllByRecursion (IsNotAt p) ms → file_from p f ms ≡ f
unmoved p f [] all = refl
unmoved p f (Wrote by path content stamp ∷ ms) all =
    ap (λ (g : Option File). file_from p g ms) (cond-false (bytes_eq path p) (written content stamp) f all.0) ∙ unmoved p f ms all.1
unmoved p f (Happened event ∷ ms) all = unmoved p f ms all.1

pub not_at : (p : List ℕ) (ms : List Moment) → has (written_in ms) p ≡ false → AllByRecursion (IsNotAt p) ms
not_at p [] none = tt
not_at p (Wrote by path content stamp ∷ ms) none = elim (cases_Bool (bytes_eq path p)) [
  | inl same ↦ let no : true ≡ false = rw same at none in absurd (false≢true (sym no))
  | inr other ↦ let rest : has (written_in ms) p ≡ false = rw other at none in (other, not_at p ms rest)
]
not_at p (Happened event ∷ ms) none = (tt, not_at p ms none)

pub from_append : (p : List ℕ) (file : Option File) (xs ys : List Moment) → file_from p file (xs ++ ys) ≡ file_from p (file_from p file xs) ys
from_append p file [] ys = refl
from_append p file (x ∷ xs) ys = from_append p (file_after p file x) xs ys

-- what none of these moments writes is as it was
pub still : (p : List ℕ) (old ms : List Moment) → has (written_in ms) p ≡ false → file_at (old ++ ms) p ≡ file_at old p
still p old ms none = from_append p None old ms ∙ unmoved p (file_at old p) ms (not_at p ms none)

-- ---- up to a start or finish

abbrev pub up_to : ℕ → List Moment → List Moment
up_to zero ms = []
up_to (suc n) [] = []
up_to (suc n) (Wrote by path content stamp ∷ ms) = Wrote by path content stamp ∷ up_to (suc n) ms
up_to (suc n) (Happened event ∷ ms) = Happened event ∷ up_to n ms

abbrev pub past : ℕ → List Moment → List Moment
past zero ms = ms
past (suc n) [] = []
past (suc n) (Wrote by path content stamp ∷ ms) = past (suc n) ms
past (suc n) (Happened event ∷ ms) = past n ms

pub parts : (n : ℕ) (ms : List Moment) → ms ≡ up_to n ms ++ past n ms
parts zero ms = refl
parts (suc n) [] = refl
parts (suc n) (Wrote by path content stamp ∷ ms) = ap (λ (l : List Moment). Wrote by path content stamp ∷ l) (parts (suc n) ms)
parts (suc n) (Happened event ∷ ms) = ap (λ (l : List Moment). Happened event ∷ l) (parts n ms)

abbrev pub is_none : {A : Type 0} → List A → Bool
is_none [] = true
is_none (x ∷ xs) = false

pub none_there : {A : Type 0} (xs : List A) → is_none xs ≡ true → xs ≡ []
none_there [] is = refl
none_there (x ∷ xs) is = absurd (false≢true is)

some_there : {A : Type 0} (xs : List A) → not (is_none xs) ≡ true → xs ≢ []
some_there {A} xs some none = false≢true (subst (λ (l : List A). not (is_none l) ≡ true) none some)

abbrev pub ends_in : List Moment → Bool
ends_in [] = true
ends_in (Wrote by path content stamp ∷ ms) = not (is_none ms) && ends_in ms
ends_in (Happened event ∷ ms) = ends_in ms

ends_in_event : (ms : List Moment) → ends_in ms ≡ true → EndsInEvent ms
ends_in_event [] test = tt
ends_in_event (Wrote by path content stamp ∷ ms) test =
    let both = and_parts (not (is_none ms)) (ends_in ms) test in
    (some_there ms both.0, ends_in_event ms both.1)
ends_in_event (Happened event ∷ ms) test = ends_in_event ms test

abbrev pub done_by : List Step → ℕ
done_by before = length (started_in before ++ ended_in before)

-- these moments up to where just these steps were done
abbrev pub so_far : List Step → List Moment → List Moment
so_far before more = up_to (done_by before) more

abbrev pub is_moment : List Step → List Moment → Bool
is_moment before more = happened_in (so_far before more) == done_by before

abbrev pub is_point : List Step → List Moment → Bool
is_point before more = is_moment before more && (ends_in (so_far before more) && (is_none (so_far before more) || not (is_none (started_in before))))

grown : (before : List Step) (old more : List Moment) → old ++ more ≡ (old ++ so_far before more) ++ past (done_by before) more
grown before old more = ap (λ (l : List Moment). old ++ l) (parts (done_by before) more) ∙ sym (append_assoc old (so_far before more) (past (done_by before) more))

pub moment : (before : List Step) (old more : List Moment) → is_moment before more ≡ true → IsMomentAfter before old (old ++ more) (old ++ so_far before more)
moment before old more test = record {
  so_far = so_far before more;
  later = past (done_by before) more;
  is = refl;
  grows = grown before old more;
  happened = eqb-true (happened_in (so_far before more)) (done_by before) test;
}

pub point : (before : List Step) (old more : List Moment) → is_point before more ≡ true → IsPointAfter before old (old ++ more) (old ++ so_far before more)
point before old more test =
    let a = and_parts (is_moment before more) (ends_in (so_far before more) && (is_none (so_far before more) || not (is_none (started_in before)))) test in
    let b = and_parts (ends_in (so_far before more)) (is_none (so_far before more) || not (is_none (started_in before))) a.1 in
    record {
      so_far = so_far before more;
      later = past (done_by before) more;
      is = refl;
      grows = grown before old more;
      happened = eqb-true (happened_in (so_far before more)) (done_by before) a.0;
      entry = λ none. elim (or_cases (is_none (so_far before more)) (not (is_none (started_in before))) b.1) [
        | inl nothing ↦ ap (λ (l : List Moment). old ++ l) (none_there (so_far before more) nothing) ∙ append-nil old
        | inr some ↦ absurd (some_there (started_in before) some none)
      ];
      behind = ends_in_event (so_far before more) b.0;
    }

-- ---- stamps grow

abbrev pub grows : ℕ → List Moment → Bool
grows next [] = true
grows next (Wrote by path content stamp ∷ ms) = nat_le next stamp && grows stamp ms
grows next (Happened (Start job act stamp) ∷ ms) = grows (max next (suc stamp)) ms
grows next (Happened (Finish job ok) ∷ ms) = grows next ms

increases : (next : ℕ) (ms : List Moment) → grows next ms ≡ true → Increases next ms
increases next [] test = tt
increases next (Wrote by path content stamp ∷ ms) test =
    let both = and_parts (nat_le next stamp) (grows stamp ms) test in
    (leb-true next stamp both.0, increases stamp ms both.1)
increases next (Happened (Start job act stamp) ∷ ms) test = increases (max next (suc stamp)) ms test
increases next (Happened (Finish job ok) ∷ ms) test = increases next ms test

pub stamps_grow : (old more : List Moment) → grows (next_stamp old) more ≡ true → StampsGrow old (old ++ more)
stamps_grow old more test added is = subst (Increases (next_stamp old)) (append_cancel_left old more added is) (increases (next_stamp old) more test)

-- ---- which commands run

abbrev pub jobs_in : List Event → List ℕ
jobs_in [] = []
jobs_in (Start job act stamp ∷ es) = job ∷ jobs_in es
jobs_in (Finish job ok ∷ es) = job ∷ jobs_in es

as_before : (j : ℕ) (b : Bool) (es : List Event) → has_number (jobs_in es) j ≡ false → runs_from j b es ≡ b
as_before j b [] none = refl
as_before j b (Start job act stamp ∷ es) none = elim (cases_Bool (job == j)) [
  | inl same ↦ let no : true ≡ false = rw same at none in absurd (false≢true (sym no))
  | inr other ↦
      let rest : has_number (jobs_in es) j ≡ false = rw other at none in
      ap (λ (c : Bool). runs_from j c es) (cond-false (job == j) true b other) ∙ as_before j b es rest
]
as_before j b (Finish job ok ∷ es) none = elim (cases_Bool (job == j)) [
  | inl same ↦ let no : true ≡ false = rw same at none in absurd (false≢true (sym no))
  | inr other ↦
      let rest : has_number (jobs_in es) j ≡ false = rw other at none in
      ap (λ (c : Bool). runs_from j c es) (cond-false (job == j) false b other) ∙ as_before j b es rest
]

abbrev pub all_ended : List Event → Bool
all_ended es = every (λ j. not (runs j es)) (jobs_in es)

pub idle : (es : List Event) → all_ended es ≡ true → IsIdle es
idle es all j = elim (cases_Bool (has_number (jobs_in es) j)) [
  | inl here ↦ not-true (runs j es) (every_number (λ i. not (runs i es)) (jobs_in es) j all here)
  | inr none ↦ as_before j false es none
]
