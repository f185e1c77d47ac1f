-- What is told of files at each moment, and how a history goes on as it is told.
use Rattle.std.proofs.Common.{◌≡◌, inl, inr, ℕ, ◌||◌, Bool, true, false, List, [], ◌∷◌, ◌++◌, Option, Some, None, bytes_eq, refl, sym, ◌∙◌, ap, subst, append_assoc}
use Rattle.std.proofs.lemmas.Bool.{false≢true, cases_Bool, cond-true, cond-false}
use Rattle.model.specs.declared.event.Event.TheVariants.{Start, Finish}
use Rattle.model.specs.declared.event.Moment.{Moment}
use Rattle.model.specs.declared.event.Moment.TheVariants.{Wrote, Happened}
use Rattle.model.specs.declared.event.Writer.{Writer}
use Rattle.model.specs.declared.event.Writer.TheVariants.{Program, Command, Someone}
use Rattle.model.specs.World.{File, written, file_after, file_from, content_of}
use Rattle.model.specs.Calls.{IsByOthers, AllByOthers}
use Rattle.model.specs.Graph.{has}
use Rattle.theory.proofs.Lists.{same_bytes, bytes_same, all_append, some_none}
use Rattle.theory.proofs.Files.{file_from-append}
use Rattle.seen_law.specs.Retold.{Telling, Counting, Started, stamp_told, under, told_file, begun, start_these, teller, stamp_or, wrote_as, write_told, takes, takes_all, files_from, started_after, retell}

-- ---- one after the other

pub started-append : (t : Telling) (started : Started) (xs ys : List Moment) → started_after t started (xs ++ ys) ≡ started_after t (started_after t started xs) ys
started-append t started [] ys = refl
started-append t started (Wrote by p content stamp ∷ xs) ys = started-append t started xs ys
started-append t started (Happened (Start job act stamp) ∷ xs) ys = started-append t (start_these started (t.makes job) stamp) xs ys
started-append t started (Happened (Finish job ok) ∷ xs) ys = started-append t started xs ys

pub retell-append : (t : Telling) (started : Started) (files : List ℕ → Option File) (xs ys : List Moment)
    → retell t started files (xs ++ ys) ≡ retell t started files xs ++ retell t (started_after t started xs) (files_from files xs) ys
retell-append t started files [] ys = refl
retell-append t started files (Wrote by p content stamp ∷ xs) ys =
    ap (λ (l : List Moment). write_told t started by p content stamp ∷ l) (retell-append t started (files_from files (Wrote by p content stamp ∷ [])) xs ys)
retell-append t started files (Happened (Start job act stamp) ∷ xs) ys =
    let now : Started = start_these started (t.makes job) stamp in
    let taken : List Moment = takes_all t.counts started now job files (t.makes job) in
    ap (λ (l : List Moment). Happened (Start job act stamp) ∷ (taken ++ l)) (retell-append t now files xs ys)
    ∙ ap (λ (l : List Moment). Happened (Start job act stamp) ∷ l) (sym (append_assoc taken (retell t now files xs) (retell t (started_after t now xs) (files_from files xs) ys)))
retell-append t started files (Happened (Finish job ok) ∷ xs) ys =
    ap (λ (l : List Moment). Happened (Finish job ok) ∷ l) (retell-append t started files xs ys)

-- ---- a write

pub written_as : (file : Option File) (stamp : ℕ) → written (content_of file) (stamp_or stamp file) ≡ file
written_as None stamp = refl
written_as (Some file) stamp = refl

-- what is written as a file is that file
pub wrote_here : (by : Writer) (p : List ℕ) (file now : Option File) (stamp : ℕ) → file_after p now (wrote_as by p file stamp) ≡ file
wrote_here by p file now stamp = cond-true (bytes_eq p p) (written (content_of file) (stamp_or stamp file)) now (bytes_same p) ∙ written_as file stamp

pub wrote_there : (by : Writer) (q p : List ℕ) (file now : Option File) (stamp : ℕ) → bytes_eq q p ≡ false → file_after p now (wrote_as by q file stamp) ≡ now
wrote_there by q p file now stamp there = cond-false (bytes_eq q p) (written (content_of file) (stamp_or stamp file)) now there

module _ (t : Telling) where
  write_is : (started : Started) (by : Writer) (q : List ℕ) (content : Option (List ℕ)) (stamp : ℕ) (p : List ℕ) (real : Option File)
      → file_after p (told_file t.counts (started p) p real) (write_told t started by q content stamp) ≡ told_file t.counts (started p) p (file_after p real (Wrote by q content stamp))
  write_is started by q content stamp p real = elim (cases_Bool (bytes_eq q p)) [
    | inl here ↦ subst (λ (r : List ℕ). file_after p (told_file t.counts (started p) p real) (write_told t started by r content stamp) ≡ told_file t.counts (started p) p (file_after p real (Wrote by r content stamp)))
        (sym (same_bytes q p here))
        (wrote_here (teller (t.hidden p) by) p (told_file t.counts (started p) p (written content stamp)) (told_file t.counts (started p) p real) stamp
        ∙ ap (λ (f : Option File). told_file t.counts (started p) p f) (sym (cond-true (bytes_eq p p) (written content stamp) real (bytes_same p))))
    | inr there ↦ wrote_there (teller (t.hidden q) by) q p (told_file t.counts (started q) q (written content stamp)) (told_file t.counts (started p) p real) stamp there
        ∙ ap (λ (f : Option File). told_file t.counts (started p) p f) (sym (cond-false (bytes_eq q p) (written content stamp) real there))
  ]

-- ---- what a command has that is started

here_now : (job : ℕ) (p : List ℕ) (before now : Option File) → file_from p now (takes job p before now) ≡ now
here_now job p None (Some file) = cond-true (bytes_eq p p) (written (Some file.content) file.stamp) (Some file) (bytes_same p)
here_now job p None None = refl
here_now job p (Some was) now = refl

here_was : (job : ℕ) (p : List ℕ) (before now : Option File) → ((was : File) → before ≡ Some was → now ≡ Some was) → file_from p before (takes job p before now) ≡ now
here_was job p None (Some file) keeps = cond-true (bytes_eq p p) (written (Some file.content) file.stamp) None (bytes_same p)
here_was job p None None keeps = refl
here_was job p (Some was) now keeps = sym (keeps was refl)

takes_there : (job : ℕ) (o p : List ℕ) (before now file : Option File) → bytes_eq o p ≡ false → file_from p file (takes job o before now) ≡ file
takes_there job o p None (Some taken) file there = cond-false (bytes_eq o p) (written (Some taken.content) taken.stamp) file there
takes_there job o p None None file there = refl
takes_there job o p (Some was) now file there = refl

module _ (counts : Counting) (before now : Started) (job : ℕ) (files : List ℕ → Option File) (p : List ℕ) where
  abbrev was_told : Option File
  was_told = told_file counts (before p) p (files p)

  abbrev is_told : Option File
  is_told = told_file counts (now p) p (files p)

  abbrev taken_at : List ℕ → List Moment
  taken_at o = takes job o (told_file counts (before o) o (files o)) (told_file counts (now o) o (files o))

  one_now : (o : List ℕ) → file_from p is_told (taken_at o) ≡ is_told
  one_now o = elim (cases_Bool (bytes_eq o p)) [
    | inl here ↦ subst (λ (q : List ℕ). file_from p is_told (taken_at q) ≡ is_told) (sym (same_bytes o p here)) (here_now job p was_told is_told)
    | inr there ↦ takes_there job o p (told_file counts (before o) o (files o)) (told_file counts (now o) o (files o)) is_told there
  ]

  all_now : (os : List (List ℕ)) → file_from p is_told (takes_all counts before now job files os) ≡ is_told
  all_now [] = refl
  all_now (o ∷ os) =
      file_from-append p is_told (taken_at o) (takes_all counts before now job files os)
      ∙ (ap (λ (f : Option File). file_from p f (takes_all counts before now job files os)) (one_now o) ∙ all_now os)

  all_was : ((was : File) → was_told ≡ Some was → is_told ≡ Some was) → (os : List (List ℕ)) → has os p ≡ true → file_from p was_told (takes_all counts before now job files os) ≡ is_told
  all_was keeps [] is = absurd (false≢true is)
  all_was keeps (o ∷ os) is =
      file_from-append p was_told (taken_at o) (takes_all counts before now job files os)
      ∙ elim (cases_Bool (bytes_eq o p)) [
        | inl here ↦ ap (λ (f : Option File). file_from p f (takes_all counts before now job files os))
            (subst (λ (q : List ℕ). file_from p was_told (taken_at q) ≡ is_told) (sym (same_bytes o p here)) (here_was job p was_told is_told keeps))
            ∙ all_now os
        | inr there ↦ ap (λ (f : Option File). file_from p f (takes_all counts before now job files os))
            (takes_there job o p (told_file counts (before o) o (files o)) (told_file counts (now o) o (files o)) was_told there)
            ∙ all_was keeps os (sym (ap (λ (b : Bool). b || has os p) there) ∙ is)
      ]

keeps_under : (counts before : Option ℕ) (makes : Bool) (start stamp : ℕ) (content : List ℕ) (was : File)
    → under (stamp_told counts before stamp) content ≡ Some was → under (stamp_told counts (begun before makes start) stamp) content ≡ Some was
keeps_under (Some c) before makes start stamp content was is = is
keeps_under None None makes start stamp content was is = absurd (some_none was (sym is))
keeps_under None (Some first) makes start stamp content was is = is

keeps_told : (counts : Counting) (before : Option ℕ) (makes : Bool) (start : ℕ) (p : List ℕ) (file : Option File) (was : File)
    → told_file counts before p file ≡ Some was → told_file counts (begun before makes start) p file ≡ Some was
keeps_told counts before makes start p None was is = is
keeps_told counts before makes start p (Some file) was is = keeps_under (counts p file) before makes start file.stamp file.content was is

begun_not : (before : Option ℕ) (start : ℕ) → begun before false start ≡ before
begun_not None start = refl
begun_not (Some first) start = refl

module _ (t : Telling) where
  start_is : (started : Started) (files : List ℕ → Option File) (job stamp : ℕ) (p : List ℕ)
      → file_from p (told_file t.counts (started p) p (files p)) (takes_all t.counts started (start_these started (t.makes job) stamp) job files (t.makes job))
      ≡ told_file t.counts (start_these started (t.makes job) stamp p) p (files p)
  start_is started files job stamp p = elim (cases_Bool (has (t.makes job) p)) [
    | inl makes ↦ all_was t.counts started (start_these started (t.makes job) stamp) job files p (keeps_told t.counts (started p) (has (t.makes job) p) stamp p (files p)) (t.makes job) makes
    | inr not_made ↦
        ap (λ (f : Option File). file_from p f (takes_all t.counts started (start_these started (t.makes job) stamp) job files (t.makes job)))
        (ap (λ (s : Option ℕ). told_file t.counts s p (files p)) (sym (ap (λ (b : Bool). begun (started p) b stamp) not_made ∙ begun_not (started p) stamp)))
        ∙ all_now t.counts started (start_these started (t.makes job) stamp) job files p (t.makes job)
  ]

  -- what is told of a path is what counts for what stands there, at each moment
  pub files_told : (started : Started) (files : List ℕ → Option File) (p : List ℕ) (ms : List Moment)
      → file_from p (told_file t.counts (started p) p (files p)) (retell t started files ms) ≡ told_file t.counts (started_after t started ms p) p (file_from p (files p) ms)
  files_told started files p [] = refl
  files_told started files p (Wrote by q content stamp ∷ ms) =
      ap (λ (f : Option File). file_from p f (retell t started (files_from files (Wrote by q content stamp ∷ [])) ms)) (write_is t started by q content stamp p (files p))
      ∙ files_told started (files_from files (Wrote by q content stamp ∷ [])) p ms
  files_told started files p (Happened (Start job act stamp) ∷ ms) =
      let now : Started = start_these started (t.makes job) stamp in
      file_from-append p (told_file t.counts (started p) p (files p)) (takes_all t.counts started now job files (t.makes job)) (retell t now files ms)
      ∙ (ap (λ (f : Option File). file_from p f (retell t now files ms)) (start_is started files job stamp p)
      ∙ files_told now files p ms)
  files_told started files p (Happened (Finish job ok) ∷ ms) = files_told started files p ms

-- ---- what others write

told_by : (running : ℕ → Type 0) (hidden : Bool) (by : Writer) (p : List ℕ) (content other : Option (List ℕ)) (stamp later : ℕ)
    → IsByOthers running (Wrote by p content stamp) → IsByOthers running (Wrote (teller hidden by) p other later)
told_by running true by p content other stamp later is = tt
told_by running false Program p content other stamp later is = is
told_by running false (Command job) p content other stamp later is = is
told_by running false Someone p content other stamp later is = is

pub others_told : (t : Telling) (running : ℕ → Type 0) (started : Started) (files : List ℕ → Option File) (ms : List Moment) → AllByOthers running ms → AllByOthers running (retell t started files ms)
others_told t running started files [] all = tt
others_told t running started files (Wrote by p content stamp ∷ ms) all =
    let told : Option File = told_file t.counts (started p) p (written content stamp) in
    (told_by running (t.hidden p) by p content (content_of told) stamp (stamp_or stamp told) all.0, others_told t running started (files_from files (Wrote by p content stamp ∷ [])) ms all.1)
others_told t running started files (Happened event ∷ ms) all = absurd all.0

pub others_start_none : (t : Telling) (running : ℕ → Type 0) (started : Started) (ms : List Moment) → AllByOthers running ms → started_after t started ms ≡ started
others_start_none t running started [] all = refl
others_start_none t running started (Wrote by p content stamp ∷ ms) all = others_start_none t running started ms all.1
others_start_none t running started (Happened event ∷ ms) all = absurd all.0

-- what a command takes over is its own
pub taken_by : (running : ℕ → Type 0) (counts : Counting) (before now : Started) (job : ℕ) → running job → (files : List ℕ → Option File) (os : List (List ℕ))
    → AllByOthers running (takes_all counts before now job files os)
taken_by running counts before now job runs files [] = tt
taken_by running counts before now job runs files (o ∷ os) =
    all_append (IsByOthers running) (takes job o (told_file counts (before o) o (files o)) (told_file counts (now o) o (files o))) (takes_all counts before now job files os)
    (one (told_file counts (before o) o (files o)) (told_file counts (now o) o (files o))) (taken_by running counts before now job runs files os)
  where
    one : (was is : Option File) → AllByOthers running (takes job o was is)
    one None (Some file) = (runs, tt)
    one None None = tt
    one (Some was) is = tt

-- a file that is told holds what it holds
pub told_holds : (counts : Counting) (started : Option ℕ) (p : List ℕ) (file : Option File) (content : List ℕ) → content_of (told_file counts started p file) ≡ Some content → content_of file ≡ Some content
told_holds counts started p None content is = is
told_holds counts started p (Some file) content is = of_stamp (stamp_told (counts p file) started file.stamp) is
  where
    of_stamp : (stamp : Option ℕ) → content_of (under stamp file.content) ≡ Some content → Some file.content ≡ Some content
    of_stamp None is = absurd (some_none content (sym is))
    of_stamp (Some stamp) is = is
