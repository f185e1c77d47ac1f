-- What is answered of a look, as it is told.
use Rattle.std.proofs.Common.{◌≡◌, ℕ, Bool, true, false, if◌then◌else◌, List, ◌++◌, Option, Some, None, refl, sym, ◌∙◌, ap, subst}
use Rattle.std.specs.Prelude.{IsTrue}
use Rattle.std.proofs.lemmas.Bool.{cases_Bool, cond-true, cond-false}
use Rattle.model.specs.World.{World, File, content_of, file_at, stamp_of}
use Rattle.model.specs.Calls.{OnlyLooks, Sees}
use Rattle.seen_law.specs.Laws.{AnswersAreTold, told_then}
use Rattle.seen_law.specs.Retold.{none_started, started_after, stamp_told, told_file, under}
use Rattle.seen.specs.declared.answer.Looked.{Looked}
use Rattle.seen.specs.declared.counts.Counts.{Counts}
use Rattle.measure.specs.declared.measure.Measure.{Measure}
use Rattle.seen.specs.Beginning.{counts_at, started_by}
use Rattle.seen_true.specs.Going.{since}
use Rattle.seen_true.specs.Counting.{telling}
use Rattle.seen.specs.Begun.{Begun, BeginsTold, GoesOn, told_world}
use Rattle.seen.specs.Looking.{looked_at, looked_by, looked_own, looked_there}
use Rattle.seen.specs.Makers.{maker_of}
use Rattle.measure.specs.Measured.{measure_of, measured_at, read_at}
use Rattle.seen.specs.Own.{is_own}
use Rattle.seen.specs.Reading.{content_counted, measure_in}
use Rattle.seen.proofs.Seeing.{content_own, looked_told}
use Rattle.seen.proofs.Told.{contents_on, stamps_on}

-- ---- what was found is told

found_at : (own : Bool) (k : Counts) (p : List ℕ) (found : Option Measure) → (if own then looked_own found else looked_there k p found).found ≡ found
found_at true k p found = refl
found_at false k p found = refl

looked_found : (begun : Bool) (k : Counts) (p : List ℕ) (found : Option Measure) → (looked_by begun k p found).found ≡ found
looked_found false k p found = refl
looked_found true k p found = found_at (is_own k.own p) k p found

pub looked_is : (begun : Bool) (k : Counts) (p : List ℕ) (found : Option Measure) (l : Looked) → l ≡ looked_by begun k p found → l ≡ looked_by begun k p l.found
looked_is begun k p found l is = is ∙ ap (looked_by begun k p) (sym (looked_found begun k p found) ∙ ap (λ (it : Looked). it.found) (sym is))

-- ---- where the site tells its files

module _ (tells : Bool) (b : Begun) (x y : World) (so_far : GoesOn tells b x) (begins : IsTrue tells → BeginsTold b) (law : AnswersAreTold) (looks : OnlyLooks tells x y) (p : List ℕ) where
  pub stamp_on : (answer : Option ℕ) → (IsTrue tells → Sees (λ history. stamp_of (told_then (telling b.knows) (since b x) p (file_at history p))) answer x.history y.history)
      → IsTrue tells → Sees (λ history. stamp_of (file_at history p)) answer (told_world tells b x).history (told_world tells b y).history
  stamp_on answer sees = by tells so_far begins looks sees
    where
      by : (it : Bool) → GoesOn it b x → (IsTrue it → BeginsTold b) → OnlyLooks it x y
          → (IsTrue it → Sees (λ history. stamp_of (told_then (telling b.knows) (since b x) p (file_at history p))) answer x.history y.history)
          → IsTrue it → Sees (λ history. stamp_of (file_at history p)) answer (told_world it b x).history (told_world it b y).history
      by false goes from is seen told = absurd (let no : false ≡ true = told in cc)
      by true goes from is seen told = (stamps_on b x y (goes refl) (from refl) law is p answer (seen refl)).1

  pub content_on : (answer : Option (List ℕ)) → (IsTrue tells → Sees (λ history. content_of (told_then (telling b.knows) (since b x) p (file_at history p))) answer x.history y.history)
      → IsTrue tells → Sees (λ history. content_of (file_at history p)) answer (told_world tells b x).history (told_world tells b y).history
  content_on answer sees = by tells so_far begins looks sees
    where
      by : (it : Bool) → GoesOn it b x → (IsTrue it → BeginsTold b) → OnlyLooks it x y
          → (IsTrue it → Sees (λ history. content_of (told_then (telling b.knows) (since b x) p (file_at history p))) answer x.history y.history)
          → IsTrue it → Sees (λ history. content_of (file_at history p)) answer (told_world it b x).history (told_world it b y).history
      by false goes from is seen told = absurd (let no : false ≡ true = told in cc)
      by true goes from is seen told = (contents_on b x y (goes refl) (from refl) law is p answer (seen refl)).1

-- ---- one moment of the call

module _ (b : Begun) (k : Counts) (x y : World) (p : List ℕ) (counted : (file : File) → (telling b.knows).counts p file ≡ counts_at k.notes k.makers k.own k.number p file)
    (started : started_after (telling b.knows) none_started (since b x) p ≡ started_by k.starts.items (maker_of k.makers p)) where
  then_told : (file : Option File) → told_file (telling b.knows).counts (started_by k.starts.items (maker_of k.makers p)) p file ≡ told_then (telling b.knows) (since b x) p file
  then_told file = ap (λ (s : Option ℕ). told_file (telling b.knows).counts s p file) (sym started)

  counts_told : (begun : Bool) (l : Looked) (file : Option File) → begun ≡ true → l ≡ looked_by begun k p (measured_at file) → l.counts ≡ stamp_of (told_then (telling b.knows) (since b x) p file)
  counts_told begun l file begun_so is =
      ap (λ (it : Looked). it.counts) (is ∙ ap (λ (bb : Bool). looked_by bb k p (measured_at file)) begun_so)
      ∙ (looked_told k p (telling b.knows) counted file ∙ ap stamp_of (then_told file))

  pub stamp_seen : (begun : Bool) (found : Option Measure) (l : Looked) → begun ≡ true → l ≡ looked_by begun k p found
      → Sees (λ history. measured_at (file_at history p)) found x.history y.history
      → Sees (λ history. stamp_of (told_then (telling b.knows) (since b x) p (file_at history p))) l.counts x.history y.history
  stamp_seen begun found l begun_so is sees = record {
    earlier = sees.earlier;
    later = sees.later;
    grows = sees.grows;
    is = counts_told begun l (file_at (x.history ++ sees.earlier) p) begun_so (is ∙ ap (looked_by begun k p) sees.is);
  }

  by_counts : (counts : Option ℕ) (file : File) → content_counted counts (Some (file.content, measure_of file)) ≡ content_of (under counts file.content)
  by_counts None file = refl
  by_counts (Some stamp) file = refl

  under_told : (started_at : Option ℕ) (file : File) → stamp_of (told_file (telling b.knows).counts started_at p (Some file)) ≡ stamp_told ((telling b.knows).counts p file) started_at file.stamp
  under_told started_at file = by (stamp_told ((telling b.knows).counts p file) started_at file.stamp)
    where
      by : (o : Option ℕ) → stamp_of (under o file.content) ≡ o
      by None = refl
      by (Some stamp) = refl

  content_told : (counts : Option ℕ) (file : Option File) → counts ≡ stamp_of (told_then (telling b.knows) (since b x) p file) → content_counted counts (read_at file) ≡ content_of (told_then (telling b.knows) (since b x) p file)
  content_told counts None is = refl
  content_told counts (Some file) is =
      ap (λ (c : Option ℕ). content_counted c (read_at (Some file))) (is ∙ under_told (started_after (telling b.knows) none_started (since b x) p) file)
      ∙ by_counts (stamp_told ((telling b.knows).counts p file) (started_after (telling b.knows) none_started (since b x) p) file.stamp) file

  measured_read : (file : Option File) → measure_in (read_at file) ≡ measured_at file
  measured_read None = refl
  measured_read (Some file) = refl

  pub content_seen : (begun : Bool) (found : Option (List ℕ × Measure)) (l : Looked) → begun ≡ true → l ≡ looked_by begun k p (measure_in found)
      → Sees (λ history. read_at (file_at history p)) found x.history y.history
      → Sees (λ history. content_of (told_then (telling b.knows) (since b x) p (file_at history p))) (content_counted l.counts found) x.history y.history
  content_seen begun found l begun_so is sees =
      let file : Option File = file_at (x.history ++ sees.earlier) p in
      record {
        earlier = sees.earlier;
        later = sees.later;
        grows = sees.grows;
        is = ap (content_counted l.counts) sees.is
            ∙ content_told l.counts file (counts_told begun l file begun_so (is ∙ ap (looked_by begun k p) (ap measure_in sees.is ∙ measured_read file)));
      }

  -- of one of the program's own files
  pub own_seen : (found : Option (List ℕ)) → is_own k.own p ≡ true → Sees (λ history. content_of (file_at history p)) found x.history y.history
      → Sees (λ history. content_of (told_then (telling b.knows) (since b x) p (file_at history p))) found x.history y.history
  own_seen found own sees = record {
    earlier = sees.earlier;
    later = sees.later;
    grows = sees.grows;
    is = sees.is ∙ content_own k p (telling b.knows) counted (started_after (telling b.knows) none_started (since b x) p) (file_at (x.history ++ sees.earlier) p) own;
  }
