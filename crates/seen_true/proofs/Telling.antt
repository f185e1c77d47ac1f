-- What is told of a file that stays told so.
use Rattle.std.proofs.Common.{◌≡◌, ◌⊎◌, inl, inr, ℕ, Bool, true, false, List, [], ◌∷◌, ◌++◌, Option, Some, None, refl, ◌∙◌, ap}
use Rattle.std.proofs.lemmas.Bool.{cond-true, cond-false}
use Rattle.model.specs.declared.event.Event.TheVariants.{Start, Finish}
use Rattle.model.specs.declared.event.Moment.{Moment}
use Rattle.model.specs.declared.event.Moment.TheVariants.{Wrote, Happened}
use Rattle.model.specs.World.{File}
use Rattle.model.specs.Graph.{has}
use Rattle.seen_log.specs.declared.note.Noted.{Noted}
use Rattle.seen_law.specs.Retold.{Telling, Started, begun, none_started, start_these, started_after, stamp_told, told_file, under}
use Rattle.seen_law.specs.Laws.{started_so, told_then}
use Rattle.seen_true.specs.Counting.{Knowing, counts_file, telling}
use Rattle.seen_true.proofs.Small.{none_some}

-- ---- what was started stays so

pub started-append : (t : Telling) (started : Started) (xs ys : List Moment) → started_after t started (xs ++ ys) ≡ started_after t (started_after t started xs) ys
started-append t started [] ys = refl
started-append t started (Wrote by p content stamp ∷ xs) ys = started-append t started xs ys
started-append t started (Happened (Start job act stamp) ∷ xs) ys = started-append t (start_these started (t.makes job) stamp) xs ys
started-append t started (Happened (Finish job ok) ∷ xs) ys = started-append t started xs ys

begun_keeps : (before : Option ℕ) (makes : Bool) (stamp start : ℕ) → before ≡ Some start → begun before makes stamp ≡ Some start
begun_keeps (Some first) makes stamp start is = is
begun_keeps None makes stamp start is = absurd (none_some is)

pub started_keeps : (t : Telling) (started : Started) (ms : List Moment) (p : List ℕ) (start : ℕ) → started p ≡ Some start → started_after t started ms p ≡ Some start
started_keeps t started [] p start is = is
started_keeps t started (Wrote by q content stamp ∷ ms) p start is = started_keeps t started ms p start is
started_keeps t started (Happened (Start job act stamp) ∷ ms) p start is =
    started_keeps t (start_these started (t.makes job) stamp) ms p start (begun_keeps (started p) (has (t.makes job) p) stamp start is)
started_keeps t started (Happened (Finish job ok) ∷ ms) p start is = started_keeps t started ms p start is

-- ---- what was told of a file stays so

under_keeps : (counts started now : Option ℕ) (stamp : ℕ) (content : List ℕ) (file : File) → ((start : ℕ) → started ≡ Some start → now ≡ Some start)
    → under (stamp_told counts started stamp) content ≡ Some file → under (stamp_told counts now stamp) content ≡ Some file
under_keeps (Some c) started now stamp content file keeps is = is
under_keeps None None now stamp content file keeps is = absurd (none_some is)
under_keeps None (Some start) now stamp content file keeps is =
    ap (λ (s : Option ℕ). under (stamp_told None s stamp) content) (keeps start refl) ∙ is

pub told_keeps : (t : Telling) (more ms : List Moment) (p : List ℕ) (file was : File) → told_then t more p (Some file) ≡ Some was → told_then t (more ++ ms) p (Some file) ≡ Some was
told_keeps t more ms p file was is =
    under_keeps (t.counts p file) (started_so t more p) (started_so t (more ++ ms) p) file.stamp file.content was
    (λ start so. ap (λ (s : Started). s p) (started-append t none_started more ms) ∙ started_keeps t (started_after t none_started more) ms p start so) is

-- ---- what counts under a stamp is told under it

pub told_under : (t : Telling) (started : Option ℕ) (p : List ℕ) (file : File) (counts : ℕ) → t.counts p file ≡ Some counts
    → told_file t.counts started p (Some file) ≡ Some (record { content = file.content; stamp = counts })
told_under t started p file counts is = ap (λ (c : Option ℕ). under (stamp_told c started file.stamp) file.content) is

-- a file of which the own stamp counts is told as it is
pub told_plain : (t : Telling) (started : Option ℕ) (p : List ℕ) → ((file : File) → t.counts p file ≡ Some file.stamp) → (file : Option File) → told_file t.counts started p file ≡ file
told_plain t started p plain None = refl
told_plain t started p plain (Some file) = told_under t started p file file.stamp (plain file)

module _ (k : Knowing) (p : List ℕ) where
  pub counts_own : k.is_own p ≡ true → (file : File) → (telling k).counts p file ≡ Some file.stamp
  counts_own own file = cond-true (k.is_own p) (Some file.stamp) (counts_file (k.noted p) (k.is_output p) k.number file) own

  pub counts_other : (noted : Option Noted) → k.noted p ≡ noted → k.is_own p ≡ false → (file : File) → (telling k).counts p file ≡ counts_file noted (k.is_output p) k.number file
  counts_other noted is own file =
      cond-false (k.is_own p) (Some file.stamp) (counts_file (k.noted p) (k.is_output p) k.number file) own
      ∙ ap (λ (n : Option Noted). counts_file n (k.is_output p) k.number file) is

  pub counts_plain : (k.is_own p ≡ true) ⊎ (k.noted p ≡ None) → (file : File) → (telling k).counts p file ≡ Some file.stamp
  counts_plain (inl own) file = counts_own own file
  counts_plain (inr none) file = by (k.is_own p) refl
    where
      by : (own : Bool) → k.is_own p ≡ own → (telling k).counts p file ≡ Some file.stamp
      by true is = counts_own is file
      by false is = counts_other None none is file
