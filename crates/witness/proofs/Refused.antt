-- The rows that are refused.
use Rattle.std.proofs.Common.{◌≡◌, inl, inr, ℕ, zero, suc, ◌<◌, Bool, true, false, List, [], ◌∷◌, ◌++◌, Option, Some, None, refl, sym, ◌∙◌, ap, subst, bytes_eq, arith, append_assoc}
use Rattle.std.proofs.lemmas.Bool.{false≢true, cases_Bool}
use Rattle.std.proofs.lemmas.List.{append_cancel_left}
use Rattle.std.specs.Prelude.{codes}
use Rattle.std.specs.List.{AllByRecursion}
use Rattle.model.specs.declared.act.Act.{Act}
use Rattle.model.specs.declared.event.Event.TheVariants.{Start, Finish}
use Rattle.model.specs.declared.graph.Edge.{Edge}
use Rattle.model.specs.declared.event.Moment.{Moment}
use Rattle.model.specs.declared.event.Moment.TheVariants.{Wrote, Happened}
use Rattle.model.specs.declared.event.Writer.{Writer}
use Rattle.model.specs.declared.event.Writer.TheVariants.{Program}
use Rattle.model.specs.declared.moves.Move.{Move}
use Rattle.model.specs.declared.moves.Move.TheVariants.{Write, Delete, Build}
use Rattle.model.specs.World.{World, file_at, view_of, events_in}
use Rattle.model.specs.Graph.{has, edge_at, inputs, outputs, IsCommand}
use Rattle.model.specs.Outcome.{Behaviour, read_depfile, is_accepted}
use Rattle.model.specs.Records.{LogFormat, OwnFiles, Told, in_force, deps_in_force, read_log}
use Rattle.model.specs.Judgement.{start_of}
use Rattle.model.specs.Schedule.{Step, Judged, Started}
use Rattle.model.specs.Phases.{IsPointAfter}
use Rattle.model.specs.Premises.{none_free, IsWithinEdge, IsNoEdit, OwnFilesApart, LiesIn, FilesAreKept}
use Rattle.model.specs.SingleBuild.{Answer, is_fault, IsFrame, IsMadeBy, IsReadyFor, HeldAt, PassesNoFault}
use Rattle.model.specs.History.{Visit, Edited, Built, Unread, Restarted, IsHistoryFrom, IsEdit}
use Rattle.model.specs.Driven.{CarriesOut, RestartsFrom, Does, is_restart, answers_in}
use Rattle.theory.proofs.Files.{IsElsewhere, file_stays}
use Rattle.theory.proofs.Lists.{all_parts, same_bytes}
use Rattle.witness.specs.Small.{act_with, copy, edge_with, edges, copies, words, done_under}
use Rattle.witness.specs.Refused.{RefusedRecords, RefusedFaults, RefusedMoves, RefusedFiles, RefusedStarts, RefusedLoads, RefusedEnds, RefusedRows, naming, dd_there, refuses_depfiles, anything, own, with_both, start_of_both, response, old_depfile, starts_one, one_path, start_of_one, over_depfile, too_early}
use Rattle.model.specs.Faithful.{IsFaithfulStore}
use Rattle.witness.proofs.RowLists.{all_has, bytes_same, none_some, no_more}

-- ---- records

some_none : {A : Type 0} (x : A) → Some x ≡ None → ⊥
some_none x e = cc

other_start : (stamp other : ℕ) → in_force (done_under other).records (codes "b") ≡ Some (record { act = (edge_at edges 1).act; start = stamp }) → other ≡ stamp
other_start stamp other is = let same : Some other ≡ Some stamp = ap start_of is in cc

records : RefusedRecords
records = record {
  of_a_refused_start = λ old new start keeps. elim (keeps.begun 1 (codes "b") refl refl refl).0 [ inl kept ↦ some_none _ kept | inr none ↦ some_none _ none ];
  of_another_start = λ old new stamp other ran differs keeps. elim (keeps.well 1 stamp ran.1.0 (codes "b") refl ran.0 ran.1.1 refl) [
    | inl recorded ↦ differs (other_start stamp other recorded.done)
    | inr none ↦ some_none _ none.1
  ];
  of_a_failed_command = λ entry old new start keeps. some_none _ (keeps.others 1 (codes "b") refl refl refl);
  of_a_running_command = λ entry old new start keeps. some_none _ (keeps.others 1 (codes "b") refl refl refl);
  of_a_clean_edge = λ old new start keeps. some_none _ (keeps.kept (codes "b") (λ i h. (refl, λ met. none_some i met))).0;
  none_of_a_good_run = λ old new stamp ran keeps. elim (keeps.well 1 stamp ran.1.0 (codes "b") refl ran.0 ran.1.1 refl) [
    | inl recorded ↦ none_some _ recorded.done
    | inr none ↦ none_some 1 none.0
  ];
}

-- ---- faults

fault_said : (old new : World) (answer : Answer) → is_fault answer ≡ false → old.failures < new.failures → PassesNoFault old new answer → ⊥
fault_said old new answer none less faults = let same = faults.refused none in omega (arith, same, less)

faults : RefusedFaults
faults = record {
  swallowed = λ tells B format all wanted old new answer none less build. fault_said old new answer none less build.faults;
  swallowed_unread = λ tells old new answer none less cause. fault_said old new answer none less cause.faults;
  went_on = λ tells B format all wanted old new answer before less build. elim build.faults.starts [
    | inl same ↦ let eq = same in omega (arith, before, less, eq)
    | inr same ↦ let eq = same in omega (arith, less, eq)
  ];
  stop_unsaid = λ tells B format all wanted old new answer stopped other build. other (build.faults.stopped stopped);
  still_running = λ tells B format all wanted old new answer job none running build. false≢true (sym (build.idle none job) ∙ running);
  left_running = λ tells B format all wanted old new answer job going none running build. false≢true (sym (build.taken_in going none job) ∙ running);
  hidden_by_memory = λ tells B format all wanted old new less none build. elim build.answers [
    | inl same ↦ let eq = same in omega (arith, less, eq)
    | inr noted ↦ none_some old.failures (sym none ∙ noted)
  ];
}

-- ---- moves

module _ (tells : Bool) (B : Behaviour) (format : LogFormat) where
  abbrev Visits : Type 0
  Visits = List (Visit tells B format)

  as_the_move : (v : Visit tells B format) (move : Move) (rest : List Move) (first : Move) (moves : List Move) → (first ∷ moves) ≡ (move ∷ rest) → Does anything move v → Does anything first v
  as_the_move v move rest first moves is does = let same : move ≡ first = cc in subst (λ (m : Move). Does anything m v) same does

  -- a build that was asked for has an answer
  answered : (targets : List (List ℕ)) (moves : List Move) (visits : Visits) → CarriesOut anything (Build targets ∷ moves) visits → RestartsFrom false visits → [] ≡ answers_in visits → ⊥
  answered targets moves [] carries restarts none = cc
  answered targets moves (Edited path content old new edit ∷ visits) (inl restart) restarts none = false≢true restart.0
  answered targets moves (Edited path content old new edit ∷ visits) (inr does) restarts none = as_the_move (Edited path content old new edit) does.0 does.1 (Build targets) moves does.2 does.3
  answered targets moves (Built wanted old new answer build ∷ visits) carries restarts none = cc
  answered targets moves (Unread old new answer cause ∷ visits) carries restarts none = cc
  answered targets moves (Restarted others old new restart ∷ visits) carries restarts none = false≢true (sym restarts.0)

  -- without moves there are no visits, but restarts
  nothing_done : (visits : Visits) → CarriesOut anything [] visits → answers_in visits ≡ []
  nothing_done [] carries = refl
  nothing_done (v ∷ visits) (inl restart) = absurd (restart.1 refl)
  nothing_done (v ∷ visits) (inr does) = absurd (let no : ⊥ = cc in no)

  one_move : (move : Move) (rest : List Move) (first : Move) → (first ∷ []) ≡ (move ∷ rest) → rest ≡ []
  one_move move rest first is = cc

  -- one build has one answer
  one_answer : (targets : List (List ℕ)) (answer other : Answer) (answers : List Answer) (visits : Visits) → CarriesOut anything (Build targets ∷ []) visits → RestartsFrom false visits
      → (answer ∷ other ∷ answers) ≡ answers_in visits → ⊥
  one_answer targets answer other answers [] carries restarts is = cc
  one_answer targets answer other answers (Edited path content old new edit ∷ visits) (inl restart) restarts is = false≢true restart.0
  one_answer targets answer other answers (Edited path content old new edit ∷ visits) (inr does) restarts is = as_the_move (Edited path content old new edit) does.0 does.1 (Build targets) [] does.2 does.3
  one_answer targets answer other answers (Built wanted old new said build ∷ visits) (inl restart) restarts is = false≢true restart.0
  one_answer targets answer other answers (Built wanted old new said build ∷ visits) (inr does) restarts is =
      let none = nothing_done visits (subst (λ (l : List Move). CarriesOut anything l visits) (one_move does.0 does.1 (Build targets) does.2) does.4) in cc
  one_answer targets answer other answers (Unread old new said cause ∷ visits) (inl restart) restarts is = false≢true restart.0
  one_answer targets answer other answers (Unread old new said cause ∷ visits) (inr does) restarts is =
      let none = nothing_done visits (subst (λ (l : List Move). CarriesOut anything l visits) (one_move does.0 does.1 (Build targets) does.2) does.4) in cc
  one_answer targets answer other answers (Restarted others old new restart ∷ visits) carries restarts is = false≢true (sym restarts.0)

  no_move : (move : Move) (v : Visit tells B format) → is_restart v ≡ true → Does anything move v → ⊥
  no_move move (Edited path content old new edit) is does = false≢true is
  no_move move (Built wanted old new answer build) is does = false≢true is
  no_move move (Unread old new answer cause) is does = false≢true is
  no_move (Write path content) (Restarted others old new restart) is does = does
  no_move (Delete path) (Restarted others old new restart) is does = does
  no_move (Build targets) (Restarted others old new restart) is does = does

  -- a move comes after a restart
  not_last : (visits : Visits) (v : Visit tells B format) (moves : List Move) → is_restart v ≡ true → CarriesOut anything moves (visits ++ v ∷ []) → ⊥
  not_last [] v moves is (inl restart) = restart.1 restart.2
  not_last [] v moves is (inr does) = no_move does.0 v is does.3
  not_last (w ∷ visits) v moves is (inl restart) = not_last visits v moves is restart.2
  not_last (w ∷ visits) v moves is (inr does) = not_last visits v does.1 is does.4

-- a site on which nothing was written
module _ (B : Behaviour) (format : LogFormat) (path content : List ℕ) (world : World) (going : world.stopped ≡ false) where
  not_edited : (p : List ℕ) (c : Option (List ℕ)) → IsEdit true p c world world → ⊥
  not_edited p c edit = elim (edit.does refl) [
    | inl written ↦ no_more world.history written.1.earlier written.1.later _ written.1.grows
    | inr refused ↦ elim refused.0 [ inl less ↦ omega (arith, less) | inr stopped ↦ false≢true (sym going ∙ stopped) ]
  ]

  edited : (visits : List (Visit true B format)) → CarriesOut anything (Write path content ∷ []) visits → RestartsFrom false visits
      → IsHistoryFrom [] visits world world → ⊥
  edited [] carries restarts history = cc
  edited (Edited p c old new edit ∷ visits) (inl restart) restarts history = false≢true restart.0
  edited (Edited p c old new edit ∷ []) (inr does) restarts history =
      not_edited p c (subst (λ (w : World). IsEdit true p c world w) (sym history.2) (subst (λ (w : World). IsEdit true p c w new) history.0 edit))
  edited (Edited p c old new edit ∷ v ∷ visits) (inr does) restarts history = absurd (more does.4)
    where
      rest_none : does.1 ≡ []
      rest_none = one_move true B format does.0 does.1 (Write path content) does.2

      more : CarriesOut anything does.1 (v ∷ visits) → ⊥
      more (inl restart) = restart.1 rest_none
      more (inr next) = let no : [] ≡ next.0 ∷ next.1 = sym rest_none ∙ next.2 in cc
  edited (Built wanted old new answer build ∷ visits) (inl restart) restarts history = false≢true restart.0
  edited (Built wanted old new answer build ∷ visits) (inr does) restarts history = as_the_move true B format (Built wanted old new answer build) does.0 does.1 (Write path content) [] does.2 does.3
  edited (Unread old new answer cause ∷ visits) (inl restart) restarts history = false≢true restart.0
  edited (Unread old new answer cause ∷ visits) (inr does) restarts history = as_the_move true B format (Unread old new answer cause) does.0 does.1 (Write path content) [] does.2 does.3
  edited (Restarted others old new restart ∷ visits) carries restarts history = false≢true (sym restarts.0)

moves : RefusedMoves
moves = record {
  skipped_build = λ tells B format targets rest first last driven. answered tells B format targets rest driven.visits driven.carries driven.restarts driven.answered;
  skipped_edit = λ B format path content world going driven. edited B format path content world going driven.visits driven.carries driven.restarts driven.history.1;
  missing_restart = λ tells B format v w visits asks none restarts. false≢true (sym none ∙ restarts.1.0 ∙ asks);
  needless_restart = λ tells B format v w visits none is restarts. false≢true (sym none ∙ sym restarts.1.0 ∙ is);
  first_restart = λ tells B format v visits is restarts. false≢true (sym restarts.0 ∙ is);
  last_restart = λ tells B format v visits rest is carries. not_last tells B format visits v rest is carries;
  answer_of_nothing = λ tells B format answer answers first last driven.
      let none = nothing_done tells B format driven.visits driven.carries in let same = driven.answered in cc;
  second_answer = λ tells B format targets answer other answers first last driven.
      one_answer tells B format targets answer other answers driven.visits driven.carries driven.restarts driven.answered;
}

-- ---- files

d_is_not_r : codes "d" ≡ codes "r" → ⊥
d_is_not_r same = false≢true (ap (λ (p : List ℕ). bytes_eq p (codes "r")) same)

-- the command has this path for its response file
abbrev with_response : List ℕ → List Edge
with_response r = edge_with (act_with (codes "copy") (codes "d") r) ∷ []

module _ (r : List ℕ) (lies : LiesIn own r) where
  of_inputs : (i : ℕ) (p : List ℕ) → has (inputs (edge_at (with_response r) i)) p ≡ true → own.set p ≡ false
  of_inputs zero p h = absurd (false≢true h)
  of_inputs (suc zero) p h = all_has (λ q. own.set q ≡ false) (codes "a" ∷ []) p (refl, tt) h
  of_inputs (suc (suc i)) p h = absurd (false≢true h)

  of_outputs : (i : ℕ) (p : List ℕ) → has (outputs (edge_at (with_response r) i)) p ≡ true → own.set p ≡ false
  of_outputs zero p h = absurd (false≢true h)
  of_outputs (suc zero) p h = all_has (λ q. own.set q ≡ false) (codes "b" ∷ []) p (refl, tt) h
  of_outputs (suc (suc i)) p h = absurd (false≢true h)

  of_depfiles : (i : ℕ) → IsCommand (with_response r) i → LiesIn own (edge_at (with_response r) i).act.depfile
  of_depfiles zero command = (refl, refl)
  of_depfiles (suc zero) command = (refl, refl)
  of_depfiles (suc (suc i)) command = (refl, refl)

  of_responses : (i : ℕ) → IsCommand (with_response r) i → LiesIn own (edge_at (with_response r) i).act.response_path
  of_responses zero command = (refl, refl)
  of_responses (suc zero) command = lies
  of_responses (suc (suc i)) command = (refl, refl)

  only_one : (i : ℕ) → IsCommand (with_response r) i → i ≡ 1
  only_one zero command = absurd (false≢true (sym command))
  only_one (suc zero) command = refl
  only_one (suc (suc i)) command = absurd (false≢true (sym command))

  own_files : OwnFilesApart own (with_response r)
  own_files = record {
    within = λ p h. all_has (λ q. own.set q ≡ true) (codes "l" ∷ codes "m" ∷ codes "t" ∷ []) p (refl, (refl, (refl, tt))) h;
    build_log = refl;
    deps_log = refl;
    inputs = of_inputs;
    outputs = of_outputs;
    depfiles = of_depfiles;
    responses = of_responses;
    apart = λ i j command1 command2 other. absurd (other (only_one i command1 ∙ sym (only_one j command2)));
  }

  -- what came after these moments
  kept_after : (old added : List Moment) → AllByRecursion (IsWithinEdge none_free (with_response r)) added → AllByRecursion (IsNoEdit none_free) added → FilesAreKept own (with_response r) old (old ++ added)
  kept_after old added within edits = record {
    free = none_free;
    free_apart = record { set = λ p is. refl; outputs = λ i p makes is. refl };
    commands = λ more is. subst (AllByRecursion (IsWithinEdge none_free (with_response r))) (append_cancel_left old added more is) within;
    own_files = own_files;
    edits = λ more is. subst (AllByRecursion (IsNoEdit none_free)) (append_cancel_left old added more is) edits;
  }

  -- the frame of a build that did just this
  ready_at : (old before after : List Moment) → FilesAreKept own (with_response r) old (old ++ (before ++ Happened (Start 1 (edge_at (with_response r) 1).act 9) ∷ after))
      → IsFrame own (with_response r) starts_one old (old ++ (before ++ Happened (Start 1 (edge_at (with_response r) 1).act 9) ∷ after)) → IsReadyFor (edge_at (with_response r) 1).act (view_of (old ++ before))
  ready_at old before after kept frame =
      frame.at_start kept 1 9 (edge_at (with_response r) 1).act before after (append_cancel_left old frame.more (before ++ Happened (Start 1 (edge_at (with_response r) 1).act 9) ∷ after) (sym frame.grows))

kept_alone : FilesAreKept own with_both [] (start_of_both ∷ [])
kept_alone = kept_after (codes "r") (refl, refl) [] (start_of_both ∷ []) (tt, tt) (tt, tt)

kept_behind : FilesAreKept own with_both old_depfile (old_depfile ++ response ∷ start_of_both ∷ [])
kept_behind = kept_after (codes "r") (refl, refl) old_depfile (response ∷ start_of_both ∷ []) (tt, (tt, tt)) (tt, (tt, tt))

-- ---- one path for both

kept_unwritten : FilesAreKept own one_path [] (start_of_one ∷ [])
kept_unwritten = kept_after (codes "d") (refl, refl) [] (start_of_one ∷ []) (tt, tt) (tt, tt)

kept_over : FilesAreKept own one_path [] (over_depfile ∷ start_of_one ∷ [])
kept_over = kept_after (codes "d") (refl, refl) [] (over_depfile ∷ start_of_one ∷ []) (tt, (tt, tt)) (tt, (tt, tt))

no_output : (i : ℕ) (o : List ℕ) → has (outputs (edge_at one_path i)) o ≡ true → bytes_eq (codes "d") o ≡ false
no_output zero o h = absurd (false≢true h)
no_output (suc zero) o h = all_has (λ q. bytes_eq (codes "d") q ≡ false) (codes "b" ∷ []) o (refl, tt) h
no_output (suc (suc i)) o h = absurd (false≢true h)

one_judgement : (step : Step) (before after : List Step) (i : ℕ) (b : Bool) → Judged 1 true ∷ Started 1 ∷ [] ≡ step ∷ (before ++ Judged i b ∷ after) → ⊥
one_judgement step [] after i b is = cc
one_judgement step (other ∷ []) after i b is = cc
one_judgement step (other ∷ third ∷ before) after i b is = cc

judged_first : (before after : List Step) (i : ℕ) (b : Bool) → Judged 1 true ∷ Started 1 ∷ [] ≡ before ++ Judged i b ∷ after
    → (at : List Moment) × IsPointAfter before [] (over_depfile ∷ start_of_one ∷ []) at × ((p : List ℕ) → IsMadeBy (edge_at one_path i) p → file_at at p ≡ file_at [] p)
judged_first [] after i b is =
    ([], record { so_far = []; later = over_depfile ∷ start_of_one ∷ []; is = refl; grows = refl; happened = refl; entry = λ none. refl; behind = tt }, λ p made. refl)
judged_first (step ∷ before) after i b is = absurd (one_judgement step before after i b is)

no_start : (after : List Moment) (i stamp : ℕ) (act : Act) → over_depfile ∷ start_of_one ∷ [] ≡ Happened (Start i act stamp) ∷ after → ⊥
no_start after i stamp act is = cc

no_third : (m n : Moment) (before after : List Moment) (event : Moment) → over_depfile ∷ start_of_one ∷ [] ≡ m ∷ n ∷ (before ++ event ∷ after) → ⊥
no_third m n [] after event is = cc
no_third m n (k ∷ before) after event is = cc

ready_one : (before after : List Moment) (i stamp : ℕ) (act : Act) → over_depfile ∷ start_of_one ∷ [] ≡ before ++ Happened (Start i act stamp) ∷ after → IsReadyFor act (view_of before)
ready_one [] after i stamp act is = absurd (no_start after i stamp act is)
ready_one (m ∷ []) after i stamp act is =
    let first : over_depfile ≡ m = cc in
    let same : (edge_at one_path 1).act ≡ act = cc in
    subst (λ (a : Act). IsReadyFor a (view_of (m ∷ []))) same
    (subst (λ (n : Moment). IsReadyFor (edge_at one_path 1).act (view_of (n ∷ []))) first (record { depfile = λ named two. absurd (two refl); response = λ named. refl }))
ready_one (m ∷ n ∷ before) after i stamp act is = absurd (no_third m n before after (Happened (Start i act stamp)) is)

frame_over : IsFrame own one_path starts_one [] (over_depfile ∷ start_of_one ∷ [])
frame_over = record {
  more = over_depfile ∷ start_of_one ∷ [];
  grows = refl;
  writes = (inr (inr (1, refl, refl)), (tt, tt));
  unchanged = λ free within edits p. elim (cases_Bool (bytes_eq (codes "d") p)) [
    | inl same ↦ inr (inl (inr (inr (inr (1, refl, sym (same_bytes (codes "d") p same))))))
    | inr other ↦ inl (file_stays p [] (over_depfile ∷ start_of_one ∷ []) (other, (tt, tt)))
  ];
  until_start = λ files i stamp act o before after is h. file_stays o [] before
      (all_parts (IsElsewhere o) before (Happened (Start i act stamp) ∷ after) (subst (λ (l : List Moment). AllByRecursion (IsElsewhere o) l) is (no_output i o h, (tt, tt)))).0;
  until_judged = λ files before after i out_of_date is. judged_first before after i out_of_date is;
  at_start = λ files i stamp act before after is. ready_one before after i stamp act is;
}

-- the deps log is read as the world has it
no_future : (all : OwnFiles) → IsFaithfulStore copies words all [] (too_early all) → ⊥
no_future all faithful =
    let holds : view_of (too_early all).history all.deps_log ≡ Some (codes "future") = rw (bytes_same all.deps_log) refl in
    let told : Option Told = deps_in_force (read_log words.deps (view_of (too_early all).history all.deps_log)) (codes "b") in
    let is : told ≡ Some (record { start = 10; paths = codes "a" ∷ [] }) = ap (λ (held : Option (List ℕ)). deps_in_force (read_log words.deps held) (codes "b")) holds in
    let late = faithful.deps (codes "b") (record { start = 10; paths = codes "a" ∷ [] }) is in
    omega (arith, late)

files : RefusedFiles
files = record {
  future = λ all faithful. absurd (no_future all faithful);
  log_as_input = λ all recorded apart has_log recorded_apart. false≢true (sym (recorded_apart 1 all.build_log has_log) ∙ apart.within all.build_log apart.build_log);
  no_response_file = (kept_alone, λ frame. none_some _ ((ready_at (codes "r") (refl, refl) [] [] [] kept_alone frame).response (λ none. let no : ⊥ = cc in no)));
  depfile_left = (kept_behind, λ frame. some_none _ ((ready_at (codes "r") (refl, refl) old_depfile (response ∷ []) [] kept_behind frame).depfile (λ none. let no : ⊥ = cc in no) d_is_not_r));
  one_unwritten = (kept_unwritten, λ frame. none_some _ ((ready_at (codes "d") (refl, refl) [] [] [] kept_unwritten frame).response (λ none. let no : ⊥ = cc in no)));
  one_for_both = (kept_over, frame_over, λ none. some_none _ none);
}

-- ---- starts

judged_before : (b : Bool) (earlier later : List Step) → (Judged 1 b ∷ []) ≡ earlier ++ Judged 1 true ∷ later → b ≡ true
judged_before b [] later is = cc
judged_before b (step ∷ []) later is = cc
judged_before b (step ∷ other ∷ earlier) later is = cc

none_before : (earlier later : List Step) → [] ≡ earlier ++ Judged 1 true ∷ later → ⊥
none_before [] later is = cc
none_before (step ∷ earlier) later is = cc

-- the moments up to the second start have no tick behind the first one's end
no_tick : (earlier between : List Moment) (by : Writer) (path : List ℕ) (content : Option (List ℕ))
    → Wrote Program (codes "t") (Some []) 9 ∷ Happened (Start 1 copy 9) ∷ Happened (Finish 1 true) ∷ [] ≡ earlier ++ Wrote by path content 9 ∷ between → events_in between ≡ [] → ⊥
no_tick [] between by path content is none =
    let rest : Happened (Start 1 copy 9) ∷ Happened (Finish 1 true) ∷ [] ≡ between = cc in
    some_first (ap events_in rest ∙ none)
  where
    some_first : Start 1 copy 9 ∷ Finish 1 true ∷ [] ≡ [] → ⊥
    some_first is = cc
no_tick (a ∷ []) between by path content is none = cc
no_tick (a ∷ b ∷ []) between by path content is none = cc
no_tick (a ∷ b ∷ c ∷ earlier) between by path content is none = let nothing : [] ≡ earlier ++ Wrote by path content 9 ∷ between = cc in absurd (empty earlier nothing)
  where
    empty : (xs : List Moment) → [] ≡ xs ++ Wrote by path content 9 ∷ between → ⊥
    empty [] e = cc
    empty (x ∷ xs) e = cc

starts : RefusedStarts
starts = record {
  clean = λ free store old new stale. let first = stale (Judged 1 false ∷ []) [] 1 refl in false≢true (judged_before false first.0 first.1 first.2);
  unjudged = λ free store old new stale. let first = stale [] [] 1 refl in none_before first.0 first.1 first.2;
  clean_step = λ lawful. false≢true lawful.1.0.1.stale;
  unjudged_step = λ lawful. false≢true lawful.0.1.stale;
  twice = λ lawful. false≢true (sym lawful.1.1.1.0.1.once);
  absent_output = λ store clean. clean 1 refl refl;
  without_tick = λ ticks.
      let tick = ticks (Wrote Program (codes "t") (Some []) 9 ∷ Happened (Start 1 copy 9) ∷ Happened (Finish 1 true) ∷ []) [] 2 9 copy refl in
      no_tick tick.earlier tick.between tick.by tick.path tick.content tick.splits tick.quiet;
}

-- ---- loads

names_dd : (i : ℕ) (file : List ℕ) → (edge_at naming i).dyndep ≡ Some file → codes "dd" ≡ file
names_dd zero file is = absurd (none_some file is)
names_dd (suc zero) file is = cc
names_dd (suc (suc i)) file is = absurd (none_some file is)

no_other : Some (codes "nothing") ≡ Some (codes "other") → ⊥
no_other is = false≢true (ap (λ (o : Option (List ℕ)). elim o [ None ↦ false | Some q ↦ bytes_eq q (codes "nothing") ]) (sym is))

none_first : (xs ys : List Moment) → xs ++ ys ≡ [] → xs ≡ []
none_first [] ys is = refl
none_first (x ∷ xs) ys is = cc

-- where nobody has written since the entry, the file holds what it held
held_still : (content : List ℕ) → HeldAt (codes "dd") (Some content) [] dd_there dd_there → Some (codes "nothing") ≡ Some content
held_still content held = subst (λ (h : List Moment). view_of h (codes "dd") ≡ Some content) at_entry held.holds
  where
    parts : held.moment.so_far ++ held.moment.later ≡ []
    parts = append_cancel_left dd_there (held.moment.so_far ++ held.moment.later) []
        (sym (append_assoc dd_there held.moment.so_far held.moment.later) ∙ (ap (λ (l : List Moment). l ++ held.moment.later) (sym held.moment.is) ∙ sym held.moment.grows))

    at_entry : held.at ≡ dd_there
    at_entry = held.moment.is ∙ ap (λ (l : List Moment). dd_there ++ l) (none_first held.moment.so_far held.moment.later parts)

loads : RefusedLoads
loads = record {
  other_text = λ texts is held.
      let load = held.0 in
      let named = names_dd load.is_next.due.edge load.file load.is_next.due.names in
      let content : Some (codes "other") ≡ Some load.content = sym is ∙ (ap texts named ∙ load.read) in
      let there = subst (λ (p : List ℕ). HeldAt p (Some load.content) [] dd_there dd_there) (sym named) load.held in
      no_other (held_still load.content there ∙ sym content);
}

-- ---- ends

refused_depfile : (held : Option (List ℕ)) (content : List ℕ) → held ≡ Some content → is_accepted (read_depfile refuses_depfiles.depfile held) ≡ false
refused_depfile held content is = ap (λ (h : Option (List ℕ)). is_accepted (read_depfile refuses_depfiles.depfile h)) is

none_refused : (held : Option (List ℕ)) → is_accepted (read_depfile copies.depfile held) ≡ true
none_refused None = refl
none_refused (Some content) = refl

ends : RefusedEnds
ends = record {
  failed = λ old new at ended right. false≢true (right.depfiles 1 at ended refl (λ met. none_some 1 met));
  unread = λ old new at ended read.
      let seen = read.depfiles 1 at ended refl (λ met. none_some 1 met) in
      false≢true (seen.is ∙ none_refused (view_of (at ++ Happened (Finish 1 true) ∷ seen.between) (codes "d")));
  well = λ old new at content ended held right. false≢true (sym (refused_depfile _ content held) ∙ right.well 1 at ended refl);
}

pub refused_rows : RefusedRows
refused_rows = record { records = records; faults = faults; moves = moves; files = files; starts = starts; loads = loads; ends = ends }
