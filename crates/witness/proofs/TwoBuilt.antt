-- Builds of the graph with two edges: what a record of such a build needs, from what was done.
use Rattle.std.proofs.Common.{◌≡◌, ◌≢◌, ◌⊎◌, inl, inr, ℕ, zero, suc, ◌==◌, if◌then◌else◌, Bool, true, false, List, [], ◌∷◌, ◌++◌, length, Option, Some, None, refl, sym, ◌∙◌, ap, subst, bytes_eq, append_assoc}
use Rattle.std.proofs.lemmas.Bool.{false≢true, or_cases, or_left, or_right, cases_Bool, eqb-true}
use Rattle.std.proofs.lemmas.List.{append-nil, append_cancel_left}
use Rattle.std.specs.Prelude.{codes, is_some, IsTrue}
use Rattle.std.specs.List.{AllByRecursion}
use Rattle.model.specs.declared.event.Event.TheVariants.{Start, Finish}
use Rattle.model.specs.declared.event.Moment.{Moment}
use Rattle.model.specs.declared.event.Moment.TheVariants.{Wrote, Happened}
use Rattle.model.specs.declared.event.Writer.TheVariants.{Program}
use Rattle.model.specs.World.{World, File, View, content_of, file_after, file_from, file_at, view_of, next_stamp}
use Rattle.model.specs.Graph.{Addition, has, has_number, edge_at, maker, inputs, outputs}
use Rattle.model.specs.Outcome.{Behaviour, read_depfile, depfile_in, is_accepted, listed}
use Rattle.model.specs.Reading.{IsAbove, Direct, needs}
use Rattle.model.specs.Records.{Store, OwnFiles, IsOwnIn, output_name, recorded_inputs}
use Rattle.model.specs.Judgement.{reason_of}
use Rattle.model.specs.OutOfDate.{IsVerdict, IsStaleByOutputs, IsMissing, made_facts}
use Rattle.model.specs.Schedule.{Step, Judged, Started, Ended, judged_in, started_in, ended_in, well_in, IsLawfulFrom}
use Rattle.model.specs.Phases.{IsLawfulBuild, AreUnloadedFrom, IsPointAfter, WasNothingMissingIn, EndsInEvent, happened_in, NothingNeededIsFree}
use Rattle.model.specs.Premises.{HasOneOutcome, LeftOutcome, EndedAt, Increases, IsWithinEdge, IsNoEdit, OwnFilesApart, LiesIn, SharesNone, FilesAreKept, IsKnownAbove, ByOne, Premises, none_free, KeepsFaith, StampsGrow, LeaveOutcomes, IsTickedAt, StartsAreTicked}
use Rattle.model.specs.SingleBuild.{IsReadBehind, EndAsRead, EndRightly, IsJudged, IsInOrder, WasInOrder, IsOfBuild, MayChange, IsReadyFor, IsMadeBy, IsFrame, task_of}
use Rattle.witness.specs.Scanning.{cat, scan, edges, asked, toys, own, own_paths, begins_with}
use Rattle.witness.proofs.MetLists.{all_has, all_from_has, none_some}
use Rattle.witness.proofs.TwoEdges.{reads_these, no_dyndep, names_no_other, made_once, recorded_h, no_cycle, is_either}

some_none : {A : Type 0} (x : A) → Some x ≡ None → ⊥
some_none x e = cc

-- ---- what holds at each of a list, given what comes before it

abbrev pub AtEach : {A : Type 0} → (List A → A → Type 0) → List A → List A → Type 0
AtEach P front [] = Unit {0}
AtEach P front (x ∷ xs) = P front x × AtEach P (front ++ x ∷ []) xs

at_each : {A : Type 0} (P : List A → A → Type 0) (front xs : List A) (x : A) (earlier later : List A) → AtEach P front xs → xs ≡ earlier ++ x ∷ later → P (front ++ earlier) x
at_each P front [] x [] later each is = cc
at_each P front [] x (y ∷ earlier) later each is = cc
at_each {A} P front (z ∷ xs) x [] later each is =
    let same : z ≡ x = cc in
    subst (λ (w : A). P (front ++ []) w) same (subst (λ (l : List A). P l z) (sym (append-nil front)) each.0)
at_each {A} P front (z ∷ xs) x (y ∷ earlier) later each is =
    let same : z ≡ y = cc in
    let rest : xs ≡ earlier ++ x ∷ later = cc in
    subst (λ (l : List A). P l x)
    (append_assoc front (z ∷ []) earlier ∙ ap (λ (w : A). front ++ w ∷ earlier) same)
    (at_each P (front ++ z ∷ []) xs x earlier later each.1 rest)

-- ---- files that nobody wrote

abbrev pub written_in : List Moment → List (List ℕ)
written_in [] = []
written_in (Wrote by path content stamp ∷ ms) = path ∷ written_in ms
written_in (Happened event ∷ ms) = written_in ms

pub unwritten : (p : List ℕ) (file : Option File) (ms : List Moment) → has (written_in ms) p ≡ false → file_from p file ms ≡ file
unwritten p file [] none = refl
unwritten p file (Wrote by path content stamp ∷ ms) none = elim (cases_Bool (bytes_eq path p)) [
  | inl same ↦ let no : true ≡ false = rw same at none in absurd (false≢true (sym no))
  | inr other ↦
      let rest : has (written_in ms) p ≡ false = rw other at none in
      let kept : file_after p file (Wrote by path content stamp) ≡ file = rw other refl in
      ap (λ (f : Option File). file_from p f ms) kept ∙ unwritten p file ms rest
]
unwritten p file (Happened event ∷ ms) none = unwritten p file ms none

pub from_append : (p : List ℕ) (file : Option File) (xs ys : List Moment) → file_from p file (xs ++ ys) ≡ file_from p (file_from p file xs) ys
from_append p file [] ys = refl
from_append p file (x ∷ xs) ys = from_append p (file_after p file x) xs ys

-- ---- the frame

abbrev pub StartsReady : List Moment → List Moment → Moment → Type 0
StartsReady old front (Wrote by path content stamp) = Unit {0}
StartsReady old front (Happened (Start i act stamp)) =
    ((o : List ℕ) → has (outputs (edge_at edges i)) o ≡ true → file_at (old ++ front) o ≡ file_at old o) × IsReadyFor act (view_of (old ++ front))
StartsReady old front (Happened (Finish i ok)) = Unit {0}

abbrev pub JudgedUntouched : List Moment → List Moment → List Step → Step → Type 0
JudgedUntouched old new before (Judged i out_of_date) =
    (at : List Moment) × IsPointAfter before old new at × ((p : List ℕ) → IsMadeBy (edge_at edges i) p → file_at at p ≡ file_at old p)
JudgedUntouched old new before (Started i) = Unit {0}
JudgedUntouched old new before (Ended i well) = Unit {0}

pub ready_scan : (files : View) → files (codes "b.d") ≡ None → IsReadyFor scan files
ready_scan files none = record { depfile = λ some two. none; response = λ some. absurd (some refl) }

pub ready_cat : (files : View) → IsReadyFor cat files
ready_cat files = record { depfile = λ some two. absurd (some refl); response = λ some. absurd (some refl) }

-- an output is as it was
pub h_is : (old now : List Moment) → file_at now (codes "h") ≡ file_at old (codes "h") → (o : List ℕ) → has (outputs (edge_at edges 1)) o ≡ true → file_at now o ≡ file_at old o
h_is old now same o h = all_has (λ p. file_at now p ≡ file_at old p) (codes "h" ∷ []) o (same, tt) h

pub b_is : (old now : List Moment) → file_at now (codes "b") ≡ file_at old (codes "b") → (o : List ℕ) → has (outputs (edge_at edges 2)) o ≡ true → file_at now o ≡ file_at old o
b_is old now same o h = all_has (λ p. file_at now p ≡ file_at old p) (codes "b" ∷ []) o (same, tt) h

pub some_moment : (m : Moment) (ms : List Moment) → m ∷ ms ≡ [] → ⊥
some_moment m ms is = cc

-- what is judged later is untouched then
pub untouched_at : (old front later : List Moment) (before : List Step) → happened_in front ≡ length (started_in before ++ ended_in before) → (started_in before ≡ [] → ⊥) → EndsInEvent front
    → file_at (old ++ front) (codes "b") ≡ file_at old (codes "b") → file_at (old ++ front) (codes "b.d") ≡ file_at old (codes "b.d")
    → JudgedUntouched old (old ++ (front ++ later)) before (Judged 2 true)
untouched_at old front later before happened started behind b_same told_same = (
  old ++ front,
  record { so_far = front; later = later; is = refl; grows = sym (append_assoc old front later); happened = happened; entry = λ none. absurd (started none); behind = behind },
  of_paths,
)
  where
    of_paths : (p : List ℕ) → IsMadeBy (edge_at edges 2) p → file_at (old ++ front) p ≡ file_at old p
    of_paths p (inl output) = b_is old (old ++ front) b_same p output
    of_paths p (inr told) = subst (λ (q : List ℕ). file_at (old ++ front) q ≡ file_at old q) (sym told.1) told_same

-- what is judged before anything was started
pub untouched_still : (old more : List Moment) (before : List Step) (i : ℕ) (b : Bool) → length (started_in before ++ ended_in before) ≡ 0 → JudgedUntouched old (old ++ more) before (Judged i b)
untouched_still old more before i b none = (
  old,
  record { so_far = []; later = more; is = sym (append-nil old); grows = refl; happened = sym none; entry = λ nothing. refl; behind = tt },
  λ p made. refl,
)

pub frame_of : (all : OwnFiles) (steps : List Step) (old more : List Moment) → AllByRecursion (IsOfBuild all edges steps) more
    → AllByRecursion (MayChange all edges steps) (written_in more) → AtEach (StartsReady old) [] more → AtEach (JudgedUntouched old (old ++ more)) [] steps
    → IsFrame all edges steps old (old ++ more)
frame_of all steps old more writes changes starts judged = record {
  more = more;
  grows = refl;
  writes = writes;
  unchanged = λ free within edits p. elim (cases_Bool (has (written_in more) p)) [
    | inl here ↦ inr (inl (all_has (MayChange all edges steps) (written_in more) p changes here))
    | inr other ↦ inl (from_append p None old more ∙ unwritten p (file_at old p) more other)
  ];
  until_start = λ kept i stamp act o before after is h. (at_each (StartsReady old) [] more (Happened (Start i act stamp)) before after starts is).0 o h;
  until_judged = λ kept before after i b is. at_each (JudgedUntouched old (old ++ more)) [] steps (Judged i b) before after judged is;
  at_start = λ kept i stamp act before after is. (at_each (StartsReady old) [] more (Happened (Start i act stamp)) before after starts is).1;
}

-- ---- the stamps of starts

abbrev pub TickedIn : List Moment → Moment → Type 0
TickedIn front (Wrote by path content stamp) = Unit {0}
TickedIn front (Happened (Start i act stamp)) = IsTickedAt stamp front
TickedIn front (Happened (Finish i ok)) = Unit {0}

-- a tick just before
pub behind_tick : (earlier : List Moment) (path content : List ℕ) (stamp : ℕ) → IsTickedAt stamp (earlier ++ Wrote Program path (Some content) stamp ∷ [])
behind_tick earlier path content stamp = record { earlier = earlier; by = Program; path = path; content = Some content; between = []; splits = refl; quiet = refl }

pub ticked_of : (old more : List Moment) → AtEach TickedIn [] more → StartsAreTicked old (old ++ more)
ticked_of old more each before after i stamp act is =
    at_each TickedIn [] more (Happened (Start i act stamp)) before after each (append_cancel_left old more (before ++ Happened (Start i act stamp) ∷ after) is)

-- ---- the judgements

abbrev pub VerdictAt : Store → List Moment → List Moment → List Step → Step → Type 0
VerdictAt store old new before (Judged i out_of_date) = IsVerdict edges store (well_in before) old new i out_of_date
VerdictAt store old new before (Started i) = Unit {0}
VerdictAt store old new before (Ended i well) = Unit {0}

-- where just the first edge was judged clean, it is so by what it makes
pub clean_first : (store : Store) (old : List Moment) → is_some (reason_of (made_facts (edge_at edges 1) store old)) ≡ false → (i : ℕ) → has_number (1 ∷ []) i ≡ true → IsStaleByOutputs edges store old i → ⊥
clean_first store old clean i h stale = elim (or_cases (1 == i) false h) [
  | inl here ↦ false≢true (sym clean ∙ subst (λ (n : ℕ). IsStaleByOutputs edges store old n) (sym (eqb-true 1 i here)) stale)
  | inr none ↦ false≢true none
]

-- of each command that ended well by itself
abbrev pub EndsIn : (ℕ → List Moment → Type 0) → List Moment → Moment → Type 0
EndsIn Q front (Wrote by path content stamp) = Unit {0}
EndsIn Q front (Happened (Start i act stamp)) = Unit {0}
EndsIn Q front (Happened (Finish i true)) = Q i front
EndsIn Q front (Happened (Finish i false)) = Unit {0}

pub ended_in_build : (Q : ℕ → List Moment → Type 0) (old more : List Moment) → AtEach (EndsIn Q) [] more → (i : ℕ) (at : List Moment) (ended : EndedAt i old (old ++ more) at) → Q i ended.before
ended_in_build Q old more each i at ended =
    at_each (EndsIn Q) [] more (Happened (Finish i true)) ended.before ended.after each (append_cancel_left old more (ended.before ++ Happened (Finish i true) ∷ ended.after) ended.splits)

-- ---- the schedule

pub unloaded : (store : Store) (before steps : List Step) → AreUnloadedFrom (task_of asked store) before steps
unloaded store before [] = tt
unloaded store before (step ∷ steps) = (λ file due. no_dyndep due.edge file due.names, unloaded store (before ++ step ∷ []) steps)

-- ---- what is refused before the first start

none_missing : (at : List Moment) (i : ℕ) → (file_at at (codes "g") ≡ None → ⊥) → (file_at at (codes "a") ≡ None → ⊥) → AllByRecursion (λ p. IsMissing edges at p → ⊥) (inputs (edge_at edges i))
none_missing at i g_there a_there = all_from_has (λ p. IsMissing edges at p → ⊥) (inputs (edge_at edges i)) (λ p h. not_missing p (reads_these i p h))
  where
    not_missing : (p : List ℕ) → ((i ≡ 1) × (p ≡ codes "g")) ⊎ ((i ≡ 2) × ((p ≡ codes "a") ⊎ (p ≡ codes "h"))) → IsMissing edges at p → ⊥
    not_missing p (inl one) missing = g_there (subst (λ (q : List ℕ). file_at at q ≡ None) one.1 missing.absent)
    not_missing p (inr (two, inl is_a)) missing = a_there (subst (λ (q : List ℕ). file_at at q ≡ None) is_a missing.absent)
    not_missing p (inr (two, inr is_h)) missing = some_none 1 (subst (λ (q : List ℕ). maker edges q ≡ None) is_h missing.source)

-- ---- own files

of_depfiles : (i : ℕ) → LiesIn own (edge_at edges i).act.depfile
of_depfiles zero = (refl, refl)
of_depfiles (suc zero) = (refl, refl)
of_depfiles (suc (suc zero)) = (refl, refl)
of_depfiles (suc (suc (suc i))) = (refl, refl)

of_responses : (i : ℕ) → LiesIn own (edge_at edges i).act.response_path
of_responses zero = (refl, refl)
of_responses (suc zero) = (refl, refl)
of_responses (suc (suc zero)) = (refl, refl)
of_responses (suc (suc (suc i))) = (refl, refl)

no_response : (i : ℕ) → (edge_at edges i).act.response_path ≡ []
no_response zero = refl
no_response (suc zero) = refl
no_response (suc (suc zero)) = refl
no_response (suc (suc (suc i))) = refl

no_text : {A : Type 0} (p : List ℕ) → p ≢ p → A
no_text p h = absurd (h refl)

shares_depfile : (i j : ℕ) → i ≢ j → SharesNone (edge_at edges i).act.depfile (edge_at edges j).act.depfile
shares_depfile zero j other = λ some. no_text [] some
shares_depfile (suc zero) j other = λ some. no_text [] some
shares_depfile (suc (suc zero)) zero other = λ some same. some same
shares_depfile (suc (suc zero)) (suc zero) other = λ some same. some same
shares_depfile (suc (suc zero)) (suc (suc zero)) other = absurd (other refl)
shares_depfile (suc (suc zero)) (suc (suc (suc j))) other = λ some same. some same
shares_depfile (suc (suc (suc i))) j other = λ some. no_text [] some

within_set : (p : List ℕ) → own.files p ≡ true → own.set p ≡ true
within_set p h = elim (or_cases (has own_paths p) (begins_with output_name p) h) [
  | inl here ↦ or_left (has ([] ∷ codes "b.d" ∷ own_paths) p) (begins_with output_name p)
      (or_right (bytes_eq [] p) (has (codes "b.d" ∷ own_paths) p) (or_right (bytes_eq (codes "b.d") p) (has own_paths p) here))
  | inr there ↦ or_right (has ([] ∷ codes "b.d" ∷ own_paths) p) (begins_with output_name p) there
]

of_inputs : (i : ℕ) (p : List ℕ) → has (inputs (edge_at edges i)) p ≡ true → own.set p ≡ false
of_inputs zero p h = absurd (false≢true h)
of_inputs (suc zero) p h = all_has (λ q. own.set q ≡ false) (codes "g" ∷ []) p (refl, tt) h
of_inputs (suc (suc zero)) p h = all_has (λ q. own.set q ≡ false) (codes "a" ∷ codes "h" ∷ []) p (refl, (refl, tt)) h
of_inputs (suc (suc (suc i))) p h = absurd (false≢true h)

of_outputs : (i : ℕ) (p : List ℕ) → has (outputs (edge_at edges i)) p ≡ true → own.set p ≡ false
of_outputs zero p h = absurd (false≢true h)
of_outputs (suc zero) p h = all_has (λ q. own.set q ≡ false) (codes "h" ∷ []) p (refl, tt) h
of_outputs (suc (suc zero)) p h = all_has (λ q. own.set q ≡ false) (codes "b" ∷ []) p (refl, tt) h
of_outputs (suc (suc (suc i))) p h = absurd (false≢true h)

pub own_files : OwnFilesApart own edges
own_files = record {
  within = within_set;
  build_log = refl;
  deps_log = refl;
  inputs = of_inputs;
  outputs = of_outputs;
  depfiles = λ i command. of_depfiles i;
  responses = λ i command. of_responses i;
  apart = λ i j command1 command2 other.
      (shares_depfile i j other, (λ some. absurd (some (no_response i))), λ some same. some (same ∙ no_response j));
}

-- the folder of these files is the working folder
pub own_fits : IsOwnIn own []
own_fits = record { build_log = refl; deps_log = refl; is_log = refl; is_deps = refl; tick = refl; new_log = refl; new_deps = refl; outputs = λ digits are. refl }

abbrev pub kept_of : (old more : List Moment) → AllByRecursion (IsWithinEdge none_free edges) more → AllByRecursion (IsNoEdit none_free) more → FilesAreKept own edges old (old ++ more)
kept_of old more within edits = record {
  free = none_free;
  free_apart = record { set = λ p is. refl; outputs = λ i p makes is. refl };
  commands = λ added is. subst (AllByRecursion (IsWithinEdge none_free edges)) (append_cancel_left old more added is) within;
  own_files = own_files;
  edits = λ added is. subst (AllByRecursion (IsNoEdit none_free)) (append_cancel_left old more added is) edits;
}

-- ---- what is told

-- what the command of an edge tells at a good end
abbrev pub told_by : ℕ → List (List ℕ)
told_by i = if i == 2 then codes "h" ∷ [] else []

told_is : (i : ℕ) (p : List ℕ) → has (told_by i) p ≡ true → (i ≡ 2) × (p ≡ codes "h")
told_is i p h = elim (cases_Bool (i == 2)) [
  | inl two ↦ (eqb-true i 2 two, all_has (λ q. q ≡ codes "h") (codes "h" ∷ []) p (refl, tt) (rw two at h))
  | inr other ↦ absurd (false≢true (rw other at h))
]

-- ---- where depfiles are read by their grammar, and nothing is recorded but `h`

module _ (reading : List ℕ → Option (List (List ℕ))) (dyndep : List ℕ → Option (List Addition)) (store : Store) (extra : List (List ℕ))
    (first_none : recorded_inputs store edges 1 ≡ []) (recorded_is : recorded_inputs store edges 2 ≡ extra) (all_h : AllByRecursion (λ p. p ≡ codes "h") extra) where
  abbrev B : Behaviour
  B = toys reading dyndep

  abbrev pub Tells : List Moment → ℕ → Type 0
  Tells files i = depfile_in B (edge_at edges i).act (view_of files) ≡ Some (told_by i)

  -- a command that ended well by itself is among those that did, and told what it tells
  abbrev pub EndsTelling : List Moment → List Step → ℕ → List Moment → Type 0
  EndsTelling old steps i front = (has_number (well_in steps) i ≡ true) × Tells (old ++ front) i

  pub told_at : (steps : List Step) (old more : List Moment) → AtEach (EndsIn (EndsTelling old steps)) [] more → (i : ℕ) (at : List Moment) → EndedAt i old (old ++ more) at → Tells at i
  told_at steps old more ends i at ended = subst (λ (files : List Moment). Tells files i) (sym ended.is) (ended_in_build (EndsTelling old steps) old more ends i at ended).1

  pub ends_of : (steps : List Step) (old more : List Moment) → AtEach (EndsIn (EndsTelling old steps)) [] more → EndRightly B edges steps None old (old ++ more)
  ends_of steps old more ends = record {
    well = λ i at ended h. ap is_accepted (told_at steps old more ends i at ended);
    depfiles = λ i at ended h unmet. (ended_in_build (EndsTelling old steps) old more ends i at ended).0 ∙ sym (ap is_accepted (told_at steps old more ends i at ended));
  }

  -- nothing is written by an end
  same_told : (i : ℕ) (at : List Moment) → depfile_in B (edge_at edges i).act (view_of (at ++ Happened (Finish i true) ∷ [])) ≡ depfile_in B (edge_at edges i).act (view_of at)
  same_told i at = ap (λ (held : Option (List ℕ)). elim (edge_at edges i).act.depfile [ [] ↦ Some [] | q ∷ qs ↦ read_depfile B.depfile held ])
      (ap content_of (from_append (edge_at edges i).act.depfile None at (Happened (Finish i true) ∷ [])))

  -- each depfile as it was right behind the end
  pub read_of : (steps : List Step) (old more : List Moment) → AtEach (EndsIn (EndsTelling old steps)) [] more → EndAsRead B edges steps None old (old ++ more)
  read_of steps old more ends = record {
    well = λ i at ended h. behind i at ended true (sym (ap is_accepted (told_at steps old more ends i at ended)));
    depfiles = λ i at ended h unmet. behind i at ended (has_number (well_in steps) i) ((ended_in_build (EndsTelling old steps) old more ends i at ended).0 ∙ sym (ap is_accepted (told_at steps old more ends i at ended)));
  }
    where
      behind : (i : ℕ) (at : List Moment) → EndedAt i old (old ++ more) at → (w : Bool) → w ≡ is_accepted (depfile_in B (edge_at edges i).act (view_of at)) → IsReadBehind B (edge_at edges i).act i at (old ++ more) w
      behind i at ended w is = record {
        between = [];
        later = ended.after;
        grows = ended.splits ∙ (sym (append_assoc old ended.before (Happened (Finish i true) ∷ ended.after)) ∙ ap (λ (l : List Moment). l ++ Happened (Finish i true) ∷ ended.after) (sym ended.is));
        others = tt;
        is = is ∙ sym (ap is_accepted (same_told i at));
      }

  pub judged_of : (free : List ℕ → Bool) (steps : List Step) (old more : List Moment) → AtEach (VerdictAt store old (old ++ more)) [] steps → AtEach (EndsIn (EndsTelling old steps)) [] more
      → IsJudged B free asked store steps None old (old ++ more)
  judged_of free steps old more verdicts ends = record {
    verdicts = λ before after i b is unread. at_each (VerdictAt store old (old ++ more)) [] steps (Judged i b) before after verdicts is;
    ended = ends_of steps old more ends;
  }

  abbrev pub in_one_phase : (texts : View) (steps : List Step) → IsLawfulFrom (task_of asked store) [] steps → IsLawfulBuild dyndep texts edges (task_of asked store) store steps
  in_one_phase texts steps lawful = record {
    earlier = [];
    last = steps;
    taken_in = [];
    whole = sym (append-nil steps);
    begins = refl;
    phases = tt;
    lawful = record { lawful = lawful; unloaded = unloaded store [] steps };
    rest = tt;
    cause = inl refl;
  }

  -- where the sources are there, all is in order
  pub in_order : (all : OwnFiles) (old new : World) → (file_at old.history (codes "g") ≡ None → ⊥) → (file_at old.history (codes "a") ≡ None → ⊥) → IsInOrder true all asked store [] old new
  in_order all old new g_there a_there = record {
    made_once = made_once;
    dyndep = names_no_other;
    named = tt;
    no_cycle = no_cycle store extra first_none recorded_is all_h;
    sources = λ told kept needed loads apart at point.
        let still : (p : List ℕ) → (file_at old.history p ≡ None → ⊥) → file_at at p ≡ None → ⊥ = λ p there. subst (λ (l : List Moment). file_at l p ≡ None → ⊥) (sym (point.entry refl)) there in
        record { of_targets = (λ missing. some_none 2 missing.source, tt); of_edges = λ i due. none_missing at i (still (codes "g") g_there) (still (codes "a") a_there) };
  }

  none_missing_in : (all : OwnFiles) (old new : World) → (file_at old.history (codes "g") ≡ None → ⊥) → (file_at old.history (codes "a") ≡ None → ⊥)
      → IsTrue true → (kept : FilesAreKept all edges old.history new.history) → NothingNeededIsFree kept.free (task_of asked store)
      → (steps : List Step) → WasNothingMissingIn all (task_of asked store) store old.history new.history [] [] steps
  none_missing_in all old new g_there a_there tells kept needed [] = tt
  none_missing_in all old new g_there a_there tells kept needed (step ∷ steps) = (in_order all old new g_there a_there).sources tells kept needed

  pub was_in_order : (all : OwnFiles) (old new : World) → (file_at old.history (codes "g") ≡ None → ⊥) → (file_at old.history (codes "a") ≡ None → ⊥)
      → (steps : List Step) → WasInOrder true all asked store [] steps old new
  was_in_order all old new g_there a_there steps = record {
    made_once = made_once;
    dyndep = names_no_other;
    named = tt;
    no_cycle = no_cycle store extra first_none recorded_is all_h;
    sources = λ tells kept needed. none_missing_in all old new g_there a_there tells kept needed steps;
  }

  -- ---- the premises

  abbrev pub LeavesAt : List Moment → List Moment → ℕ → List Moment → Type 0
  LeavesAt old new i front = (since : List Moment) → LeftOutcome B edges since new (old ++ front) i

  told_h : (steps : List Step) (old more : List Moment) → AtEach (EndsIn (EndsTelling old steps)) [] more → (i : ℕ) (at : List Moment) → EndedAt i old (old ++ more) at
      → (p : List ℕ) → has (listed (depfile_in B (edge_at edges i).act (view_of at))) p ≡ true → (i ≡ 2) × (p ≡ codes "h")
  told_h steps old more ends i at ended p h =
      told_is i p (subst (λ (l : Option (List (List ℕ))). has (listed l) p ≡ true) (told_at steps old more ends i at ended) h)

  -- what the second command tells is made by the first one, above it
  is_above : (i j : ℕ) (p : List ℕ) → (i ≡ 2) × (p ≡ codes "h") → maker edges p ≡ Some j → IsAbove (needs edges (recorded_inputs store edges)) (maker edges) j i
  is_above i j p both made =
      subst (λ (n : ℕ). IsAbove (needs edges (recorded_inputs store edges)) (maker edges) j n) (sym both.0)
      (Direct j 2 (codes "h") refl (subst (λ (q : List ℕ). maker edges q ≡ Some j) both.1 made))

  is_known_above : (i j : ℕ) (p : List ℕ) → (i ≡ 2) × (p ≡ codes "h") → maker edges p ≡ Some j → IsKnownAbove edges edges (recorded_inputs store edges) j i
  is_known_above i j p both made =
      subst (λ (n : ℕ). IsKnownAbove edges edges (recorded_inputs store edges) j n) (sym both.0)
      (ByOne j 2 (codes "h") refl (subst (λ (q : List ℕ). maker edges q ≡ Some j) both.1 made) (λ k file makes_it source named. absurd (none_some k (sym source ∙ makes_it))))

  h_apart : own.set (codes "h") ≡ false
  h_apart = refl

  pub premises_of : (steps : List Step) (old more : List Moment) → ((i : ℕ) → has_number (judged_in steps) i ≡ true → has_number (1 ∷ 2 ∷ []) i ≡ true)
      → HasOneOutcome B edges (view_of (old ++ more)) 1 → HasOneOutcome B edges (view_of (old ++ more)) 2
      → AllByRecursion (IsWithinEdge none_free edges) more → AllByRecursion (IsNoEdit none_free) more → Increases (next_stamp old) more
      → AtEach (EndsIn (EndsTelling old steps)) [] more → AtEach (EndsIn (LeavesAt old (old ++ more))) [] more
      → Premises B own edges edges (recorded_inputs store edges) steps old (old ++ more) × KeepsFaith B own edges store steps old (old ++ more)
  premises_of steps old more judged first second within edits stamps ends leaves = (
    record {
      files = record {
        kept = kept_of old more within edits;
        quiet = λ i. true;
        alone = record { unread = λ i p is_quiet matters. refl; above = λ i j p is_quiet matters made command. refl };
        recorded_apart = λ i p h. subst (λ (q : List ℕ). own.set q ≡ false) (sym (recorded_h store extra first_none recorded_is all_h i p h).1) h_apart;
        stamps = grow;
        reports = λ i at ended well. all_from_has _ (listed (depfile_in B (edge_at edges i).act (view_of at))) (λ p h.
            let both = told_h steps old more ends i at ended p h in
            record {
              apart = subst (λ (q : List ℕ). own.set q ≡ false) (sym both.1) h_apart;
              above = λ j made command. is_above i j p both made;
            });
        dyndep = record {
          inputs = λ i p command read j file made source named. absurd (none_some j (sym source ∙ made));
          reports = λ i j p reported made command. is_known_above i j p (told_h steps old more ends i reported.at reported.ended p reported.told) made;
        };
      };
      one_outcome = λ i is_quiet h. elim (is_either i (judged i h)) [
        | inl one ↦ subst (λ (n : ℕ). HasOneOutcome B edges (view_of (old ++ more)) n) (sym one) first
        | inr two ↦ subst (λ (n : ℕ). HasOneOutcome B edges (view_of (old ++ more)) n) (sym two) second
      ];
      left_outcomes = left;
    },
    record { kept = kept_of old more within edits; unrecorded = λ p is. absurd (false≢true is); stamps = grow; left_outcomes = left },
  )
    where
      grow : StampsGrow old (old ++ more)
      grow added is = subst (Increases (next_stamp old)) (append_cancel_left old more added is) stamps

      left : LeaveOutcomes B edges steps old (old ++ more)
      left i at ended well before since act stamp is =
          subst (λ (l : List Moment). LeftOutcome B edges since (old ++ more) l i) (sym ended.is) (ended_in_build (LeavesAt old (old ++ more)) old more leaves i at ended since)
