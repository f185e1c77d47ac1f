-- What is noted is true.
use Rattle.std.proofs.Common.{◌≡◌, ◌⊎◌, inl, inr, ℕ, ◌+◌, ◌-◌, ◌≤◌, ◌==◌, ◌&&◌, not, max, Bool, true, false, List, [], ◌∷◌, ◌++◌, Option, Some, None, bytes_eq, length, refl, sym, ◌∙◌, ap, subst, append_assoc, if◌then◌else◌, arith}
use Rattle.std.specs.List.{AllByRecursion}
use Rattle.std.proofs.lemmas.Bool.{cases_Bool, cond-true, cond-false, eqb-true}
use Rattle.model.specs.declared.event.Moment.{Moment}
use Rattle.model.specs.declared.event.Moment.TheVariants.{Wrote, Happened}
use Rattle.model.specs.World.{File, file_after, file_at, file_from, written}
use Rattle.theory.proofs.Files.{file_from-append}
use Rattle.seen_log.specs.declared.note.Kind.{Kind}
use Rattle.seen_log.specs.declared.note.Noted.{Noted}
use Rattle.seen_log.specs.Log.{counts_of}
use Rattle.seen_law.specs.Laws.{started_so, told_then}
use Rattle.seen_true.specs.Counting.{is_as_noted, is_turned, telling}
use Rattle.seen_true.specs.Notes.{Course, IsTrueNote, Stood}
use Rattle.seen_true.specs.Others.{LeavesSeen, looks_as}
use Rattle.seen_true.specs.Laws.{AwayIsTrue, LookIsTrue, SeenIsLeft, TickIsLater, ToldIsTrue, found_number, is_late, number_of}
use Rattle.seen_true.proofs.Small.{none_some, some_is}
use Rattle.seen_true.proofs.Telling.{counts_other, told_under}

-- the stamp that counts for a file of this stamp under this number
abbrev counted : (number stamp : ℕ) → ℕ
counted number stamp = if number == 0 then stamp else number

-- it is no less than the number
least : (number stamp : ℕ) → number ≤ counted number stamp
least number stamp = elim (cases_Bool (number == 0)) [
  | inl none ↦ let is : number ≡ 0 = eqb-true number 0 none in omega (arith, is)
  | inr some ↦ subst (λ (n : ℕ). number ≤ n) (sym (cond-false (number == 0) stamp number some)) (omega arith)
]

-- nor than the stamp, where the number is that or 0
no_less : (number stamp : ℕ) → (number ≡ stamp) ⊎ (number ≡ 0) → stamp ≤ counted number stamp
no_less number stamp (inl same) = let no_less_than : number ≤ counted number stamp = least number stamp in omega (arith, same, no_less_than)
no_less number stamp (inr none) = subst (λ (n : ℕ). stamp ≤ counted n stamp) (sym none) (omega arith)

module _ (c : Course) (p : List ℕ) (file : File) (stood : Stood c p (Some file)) where
  true_note : (kind : Kind) (number counts : ℕ) → told_then (telling c.knows) c.more p (Some file) ≡ Some (record { content = file.content; stamp = counts })
      → counts ≤ counted number file.stamp → IsTrueNote c (record { path = p; file = Some file; kind = kind; number = number })
  true_note kind number counts told no_later = record {
    stood = stood;
    so = record { stamp = counts; told = told; no_later = no_later };
  }

  -- where this counts for it
  by_counts : (kind : Kind) (number counts : ℕ) → (telling c.knows).counts p file ≡ Some counts → counts ≤ counted number file.stamp
      → IsTrueNote c (record { path = p; file = Some file; kind = kind; number = number })
  by_counts kind number counts is no_later =
      true_note kind number counts (told_under (telling c.knows) (started_so (telling c.knows) c.more p) p file counts is) no_later

  abbrev size : ℕ
  size = length file.content

  module _ (bound : c.knows.is_own p ≡ false) where
    -- ---- a look

    module _ (since : Option ℕ) (kind : Kind) (number : ℕ) where
      by_since : (late_ : Bool) → (if late_ then Some file.stamp else Some 0) ≡ Some number → (number ≡ file.stamp) ⊎ (number ≡ 0)
      by_since true is = inl (sym (some_is is))
      by_since false is = inr (sym (some_is is))

      by_case : (n : Noted) (as_noted is_output : Bool) → (if as_noted then None else (if is_output then None else Some (max c.knows.number file.stamp))) ≡ Some number
          → (if as_noted then (if is_output && is_turned n.kind then None else Some (counts_of n)) else (if is_output then None else Some (max c.knows.number file.stamp))) ≡ Some number
      by_case n true is_output is = absurd (none_some is)
      by_case n false true is = absurd (none_some is)
      by_case n false false is = is

      look : (noted : Option Noted) → c.knows.noted p ≡ noted → found_number noted (c.knows.is_output p) c.knows.number since file.stamp size ≡ Some number
          → IsTrueNote c (record { path = p; file = Some file; kind = kind; number = number })
      look None none is =
          by_counts kind number file.stamp (counts_other c.knows p None none bound file)
          (no_less number file.stamp (by_since (is_late since file.stamp && not (c.knows.is_output p)) is))
      look (Some n) noted is =
          by_counts kind number number
          (counts_other c.knows p (Some n) noted bound file ∙ by_case n (is_as_noted n file.stamp size) (c.knows.is_output p) is)
          (least number file.stamp)

pub look_law : LookIsTrue
look_law c p file since kind number stood bound is = look c p file stood bound since kind number (c.knows.noted p) refl is

pub away_law : AwayIsTrue
away_law c p kind stood = record { stood = stood; so = tt }

-- ---- what is noted as it is told

told_least : (counts stamp : ℕ) → counts ≤ counted (number_of counts stamp) stamp
told_least counts stamp = elim (cases_Bool (counts == stamp)) [
  | inl same ↦
      let is : counts ≡ stamp = eqb-true counts stamp same in
      subst (λ (n : ℕ). counts ≤ counted n stamp) (sym (cond-true (counts == stamp) 0 counts same)) (omega (arith, is))
  | inr other ↦ subst (λ (n : ℕ). counts ≤ counted n stamp) (sym (cond-false (counts == stamp) 0 counts other)) (least counts stamp)
]

pub told_law : ToldIsTrue
told_law c p file kind counts stood told = true_note c p file stood kind (number_of counts file.stamp) counts told (told_least counts file.stamp)

-- ---- the number of a build

pub tick_law : TickIsLater
tick_law format own history tick greatest low early o made is = let no_later : made.start ≤ tick = early o made is in omega (arith, low, no_later)

-- ---- what is left as it was seen

module _ (p : List ℕ) (was : File) where
  abbrev IsStill : Option File → Type 0
  IsStill held = (file : File) → held ≡ Some file → looks_as was file ≡ true → file ≡ was

  one_leaves : (m : Moment) (held : Option File) → LeavesSeen p was m → IsStill held → IsStill (file_after p held m)
  one_leaves (Wrote by path content stamp) held leaves still = λ file is looks. elim (cases_Bool (bytes_eq path p)) [
    | inl here ↦ leaves here file (sym (cond-true (bytes_eq path p) (written content stamp) held here) ∙ is) looks
    | inr there ↦ still file (sym (cond-false (bytes_eq path p) (written content stamp) held there) ∙ is) looks
  ]
  one_leaves (Happened event) held leaves still = still

  all_leave : (ms : List Moment) (held : Option File) → AllByRecursion (LeavesSeen p was) ms → IsStill held → IsStill (file_from p held ms)
  all_leave [] held leaves still = still
  all_leave (m ∷ ms) held leaves still = all_leave ms (file_after p held m) leaves.1 (one_leaves m held leaves.0 still)

pub left_as_seen_law : SeenIsLeft
left_as_seen_law c p was stood leaves file is looks =
    all_leave p was stood.later (Some was) leaves (λ held same so. sym (some_is same)) file
    (ap (λ (f : Option File). file_from p f stood.later) (sym stood.there)
    ∙ (sym (file_from-append p None (c.first ++ stood.earlier) stood.later)
    ∙ (ap (λ (h : List Moment). file_at h p) (append_assoc c.first stood.earlier stood.later ∙ ap (λ (l : List Moment). c.first ++ l) (sym stood.splits)) ∙ is)))
    looks
