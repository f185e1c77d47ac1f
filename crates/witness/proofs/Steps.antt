-- The schedules of both builds are lawful, and what is refused before the first start is in order.
use Rattle.std.proofs.Common.{◌≡◌, inl, inr, ℕ, zero, suc, ◌||◌, Bool, true, List, [], ◌∷◌, ◌++◌, Option, Some, is_some, refl, sym, ◌∙◌, ap, subst, arith}
use Rattle.std.proofs.lemmas.Bool.{false≢true, or_cases}
use Rattle.std.specs.Prelude.{codes, IsTrue}
use Rattle.model.specs.declared.event.Moment.{Moment}
use Rattle.model.specs.declared.graph.Edge.{Edge}
use Rattle.model.specs.declared.record.Record.{Record}
use Rattle.model.specs.World.{World, File, file_at, IsIdle}
use Rattle.model.specs.Graph.{has, has_number, edge_at, maker, inputs, outputs, Addition, grown_edge, IsMadeOnce}
use Rattle.model.specs.Reading.{Wanted, Needed, Validating}
use Rattle.model.specs.Records.{OwnFiles, recorded_inputs}
use Rattle.model.specs.OutOfDate.{IsMissing, NothingIsMissing}
use Rattle.model.specs.Schedule.{Task, Step, Done, IsSettled, judged_in, started_in, done_in}
use Rattle.model.specs.Phases.{Phase, IsOnlyFor, IsNextLoad, IsLoad, IsLawfulPhase, IsLawfulBuild, IsInOrderAt, IsNothingMissing, WasNothingMissing, WasNothingMissingIn, NothingNeededIsFree, task_with}
use Rattle.model.specs.Premises.{FilesAreKept}
use Rattle.model.specs.SingleBuild.{NamesOther, InCone, HasNoCycle, HasEnded, IsInOrder, WasInOrder, task_of}
use Rattle.witness.specs.Project.{declared, edges, asked, commands, texts, dyndep_text, makes_x, reads_x, reads_dyndep, store_of, first_records}
use Rattle.witness.specs.Disk.{first_phase, first_last, first_steps, second_phase, second_last, second_steps}
use Rattle.witness.specs.Rich.{no_store, first_store}
use Rattle.witness.proofs.RichLists.{none_some, some_same, all_from_has, every, every_number, every_path, at_each}
use Rattle.witness.proofs.Graphs.{numbers, within, none_recorded, made_once, no_cycle, settles, settled}
use Rattle.witness.proofs.Lawful.{is_next, all_blocked, none_starts, no_load, none_judged, none_may_start, none_loads, phase_lawful}
use Rattle.witness.proofs.Project.{made_here, no_pools, no_pools_declared, targets, cone, cone_before, six_before}

two_none : (n : ℕ) → n ≡ 2 → n ≡ 0 → ⊥
two_none n two none = omega (arith, two, none)

pub some_jobs : asked.jobs ≡ 0 → ⊥
some_jobs none = two_none asked.jobs refl none

-- ---- the load

names_dd : (i : ℕ) (file : List ℕ) → (edge_at declared i).dyndep ≡ Some file → file ≡ codes "dd"
names_dd zero file is = absurd (none_some file is)
names_dd (suc zero) file is = absurd (none_some file is)
names_dd (suc (suc zero)) file is = absurd (none_some file is)
names_dd (suc (suc (suc zero))) file is = absurd (none_some file is)
names_dd (suc (suc (suc (suc zero)))) file is = absurd (none_some file is)
names_dd (suc (suc (suc (suc (suc zero))))) file is = absurd (none_some file is)
names_dd (suc (suc (suc (suc (suc (suc zero)))))) file is = sym (some_same (codes "dd") file is)
names_dd (suc (suc (suc (suc (suc (suc (suc zero))))))) file is = sym (some_same (codes "dd") file is)
names_dd (suc (suc (suc (suc (suc (suc (suc (suc i)))))))) file is = absurd (none_some file is)

-- an edge that names a dyndep file has it as an input
is_input : (i : ℕ) (file : List ℕ) → (edge_at declared i).dyndep ≡ Some file → has (inputs (edge_at declared i)) file ≡ true
is_input zero file is = absurd (none_some file is)
is_input (suc zero) file is = absurd (none_some file is)
is_input (suc (suc zero)) file is = absurd (none_some file is)
is_input (suc (suc (suc zero))) file is = absurd (none_some file is)
is_input (suc (suc (suc (suc zero)))) file is = absurd (none_some file is)
is_input (suc (suc (suc (suc (suc zero))))) file is = absurd (none_some file is)
is_input (suc (suc (suc (suc (suc (suc zero)))))) file is = subst (λ (f : List ℕ). has (inputs (edge_at declared 6)) f ≡ true) (some_same (codes "dd") file is) refl
is_input (suc (suc (suc (suc (suc (suc (suc zero))))))) file is = subst (λ (f : List ℕ). has (inputs (edge_at declared 7)) f ≡ true) (some_same (codes "dd") file is) refl
is_input (suc (suc (suc (suc (suc (suc (suc (suc i)))))))) file is = absurd (none_some file is)

added : (i : ℕ) → (edge_at declared i).dyndep ≡ Some (codes "dd")
    → (a : Addition) × IsOnlyFor (edge_at declared i) (makes_x ∷ reads_x ∷ []) a × (edge_at edges i ≡ grown_edge (edge_at declared i) a)
added zero is = absurd (none_some (codes "dd") is)
added (suc zero) is = absurd (none_some (codes "dd") is)
added (suc (suc zero)) is = absurd (none_some (codes "dd") is)
added (suc (suc (suc zero))) is = absurd (none_some (codes "dd") is)
added (suc (suc (suc (suc zero)))) is = absurd (none_some (codes "dd") is)
added (suc (suc (suc (suc (suc zero))))) is = absurd (none_some (codes "dd") is)
added (suc (suc (suc (suc (suc (suc zero)))))) is = (makes_x, record { before = []; after = reads_x ∷ []; splits = refl; fits = refl; earlier = tt; later = (refl, tt) }, refl)
added (suc (suc (suc (suc (suc (suc (suc zero))))))) is = (reads_x, record { before = makes_x ∷ []; after = []; splits = refl; fits = refl; earlier = (refl, tt); later = tt }, refl)
added (suc (suc (suc (suc (suc (suc (suc (suc i)))))))) is = absurd (none_some (codes "dd") is)

as_declared : (i : ℕ) → ((edge_at declared i).dyndep ≡ Some (codes "dd") → ⊥) → edge_at edges i ≡ edge_at declared i
as_declared zero other = refl
as_declared (suc zero) other = refl
as_declared (suc (suc zero)) other = refl
as_declared (suc (suc (suc zero))) other = refl
as_declared (suc (suc (suc (suc zero)))) other = refl
as_declared (suc (suc (suc (suc (suc zero))))) other = refl
as_declared (suc (suc (suc (suc (suc (suc zero)))))) other = absurd (other refl)
as_declared (suc (suc (suc (suc (suc (suc (suc zero))))))) other = absurd (other refl)
as_declared (suc (suc (suc (suc (suc (suc (suc (suc i)))))))) other = refl

names_no_other : (file : List ℕ) → NamesOther declared file → ⊥
names_no_other file other = false≢true (sym other.other ∙ is_input other.edge file other.names)

-- ---- each path is made once

once_declared : IsMadeOnce declared
once_declared = made_once declared refl refl

once : IsMadeOnce edges
once = made_once edges refl refl

-- ---- with the records of an earlier build, if there was one

module _ (records : List Record) where
  abbrev task : Task
  task = task_of asked (store_of records)

  abbrev before_load : Task
  before_load = task_with task (store_of records) declared

  pub acyclic : HasNoCycle asked (store_of records)
  acyclic i inside cycle = no_cycle edges (recorded_inputs (store_of records) edges) (none_recorded records edges) refl i cycle

  pub next_load : (before : List Step) → has_number (done_in before) 1 ≡ true → IsNextLoad before_load before (codes "dd")
  next_load before done = record {
    due = record {
      edge = 6;
      within = six_before (recorded_inputs (store_of records) declared);
      names = refl;
      settled = λ j made. subst (λ (n : ℕ). IsSettled declared (done_in before) n) (some_same 1 j made) (Done 1 refl done);
    };
    lowest = λ other due. inl (names_dd due.edge other due.names);
  }

  pub load_of : (before : List Step) → has_number (done_in before) 1 ≡ true → IsLoad reads_dyndep texts before_load before edges
  load_of before done = record {
    file = codes "dd";
    is_next = next_load before done;
    content = dyndep_text;
    holds = refl;
    additions = makes_x ∷ reads_x ∷ [];
    read = refl;
    grown = record { as_many = refl; named = added; others = as_declared; fit = ((6, refl, refl), ((7, refl, refl), tt)) };
  }

  pub in_order_at : IsInOrderAt (store_of records) (task_with task (store_of records) edges)
  in_order_at = record { once = once; acyclic = acyclic }

  pub last_lawful : (phase last : List Step) → at_each (is_next task) phase last ≡ true → phase ++ [] ≡ phase → IsLawfulPhase task (phase ++ []) last
  last_lawful phase last test same =
      subst (λ (before : List Step). IsLawfulPhase task before last) (sym same) (phase_lawful task refl some_jobs (cone (recorded_inputs (store_of records) edges)) no_pools phase last test)

  -- a build of these two phases
  abbrev pub lawful_by : (phase last : List Step) → has_number (done_in phase) 1 ≡ true → at_each (is_next before_load) [] phase ≡ true → at_each (is_next task) phase last ≡ true
      → phase ++ last ≡ (phase ++ []) ++ (last ++ []) → phase ++ [] ≡ phase → IsLawfulBuild reads_dyndep texts declared task (store_of records) (phase ++ last)
  lawful_by phase last done first second whole same = record {
    earlier = record { edges = declared; steps = phase } ∷ [];
    last = last;
    taken_in = [];
    whole = whole;
    begins = refl;
    phases = (
      phase_lawful before_load refl some_jobs (cone_before (recorded_inputs (store_of records) declared)) no_pools_declared [] phase first,
      load_of phase done,
      in_order_at,
      tt,
    );
    lawful = last_lawful phase last second same;
    rest = tt;
    cause = inl refl;
  }

  -- ---- the end

  in_cone_within : (i : ℕ) → InCone asked (store_of records) i → has_number (numbers edges) i ≡ true
  in_cone_within i (Wanted _ p h made) = within edges (λ (e : Edge). has (outputs e) p ≡ true) (λ none. false≢true none) i (made_here edges p i made)
  in_cone_within i (Needed _ j p inner h made) = within edges (λ (e : Edge). has (outputs e) p ≡ true) (λ none. false≢true none) i (made_here edges p i made)
  in_cone_within i (Validating _ j p inner h made) = within edges (λ (e : Edge). has (outputs e) p ≡ true) (λ none. false≢true none) i (made_here edges p i made)

  pub all_settled : (steps : List Step) → every (settles edges (done_in steps)) (numbers edges) ≡ true → (i : ℕ) → InCone asked (store_of records) i → IsSettled edges (done_in steps) i
  all_settled steps test i inside = settled edges refl (done_in steps) i (every_number (settles edges (done_in steps)) (numbers edges) i test (in_cone_within i inside))

  pub has_ended : (steps : List Step) (new : World) → IsIdle new.events → all_blocked task (judged_in steps) (done_in steps) (numbers edges) ≡ true → none_starts task steps ≡ true → no_load task (done_in steps) ≡ true
      → HasEnded asked (store_of records) steps new
  has_ended steps new idle judged started loaded = record {
    idle = idle;
    judged = none_judged task refl steps judged;
    started = none_may_start task refl some_jobs steps started;
    loaded = none_loads task refl steps loaded;
  }

  -- ---- what is refused before the first start

  pub in_order : (own : OwnFiles) (phases : List Phase) (old new : World)
      → (IsTrue true → (files : FilesAreKept own edges old.history new.history) → NothingNeededIsFree files.free task → WasNothingMissing own task (store_of records) old.history new.history [] phases)
      → IsInOrder true own asked (store_of records) phases old new
  in_order own phases old new sources = record { made_once = once; dyndep = names_no_other; named = tt; no_cycle = acyclic; sources = sources }

  pub was_in_order : (own : OwnFiles) (phases : List Phase) (last : List Step) (old new : World)
      → (IsTrue true → (files : FilesAreKept own edges old.history new.history) → NothingNeededIsFree files.free task → WasNothingMissingIn own task (store_of records) old.history new.history [] phases last)
      → WasInOrder true own asked (store_of records) phases last old new
  was_in_order own phases last old new sources = record { made_once = once; dyndep = names_no_other; named = tt; no_cycle = acyclic; sources = sources }

  -- nothing is missing where nothing was started, as no source is at the entry
  abbrev pub are_there : List Edge → List Moment → Bool
  are_there es old = every (λ i. every (λ p. is_some (maker es p) || is_some (file_at old p)) (inputs (edge_at es i))) (numbers es)

  not_missing : (es : List Edge) (old at : List Moment) (p : List ℕ) → at ≡ old → (is_some (maker es p) || is_some (file_at old p)) ≡ true → IsMissing es at p → ⊥
  not_missing es old at p same test missing = elim (or_cases (is_some (maker es p)) (is_some (file_at old p)) test) [
    | inl made ↦ false≢true (subst (λ (o : Option ℕ). is_some o ≡ true) missing.source made)
    | inr there ↦ false≢true (subst (λ (o : Option File). is_some o ≡ true) (sym (ap (λ (l : List Moment). file_at l p) same) ∙ missing.absent) there)
  ]

  nothing_missing : (es : List Edge) (before : List Step) (old at : List Moment) → at ≡ old → every (λ p. is_some (maker es p)) targets ≡ true → are_there es old ≡ true
      → NothingIsMissing es (store_of records) before at targets
  nothing_missing es before old at same wanted test = record {
    of_targets = all_from_has (λ p. IsMissing es at p → ⊥) targets
        (λ p h missing. false≢true (subst (λ (o : Option ℕ). is_some o ≡ true) missing.source (every_path (λ q. is_some (maker es q)) targets p wanted h)));
    of_edges = λ i asked_for. all_from_has (λ p. IsMissing es at p → ⊥) (inputs (edge_at es i)) (λ p h.
        not_missing es old at p same
        (every_path (λ q. is_some (maker es q) || is_some (file_at old q)) (inputs (edge_at es i)) p
        (every_number (λ n. every (λ q. is_some (maker es q) || is_some (file_at old q)) (inputs (edge_at es n))) (numbers es) i test
        (within es (λ (e : Edge). has (inputs e) p ≡ true) (λ none. false≢true none) i h)) h));
  }

  pub missing_before : (own : OwnFiles) (before : List Step) (old new : List Moment) → started_in before ≡ [] → are_there declared old ≡ true → IsNothingMissing own before_load (store_of records) before old new
  missing_before own before old new none test loaded apart at point = nothing_missing declared before old at (point.entry none) refl test

  pub missing_after : (own : OwnFiles) (before : List Step) (old new : List Moment) → started_in before ≡ [] → are_there edges old ≡ true → IsNothingMissing own task (store_of records) before old new
  missing_after own before old new none test loaded apart at point = nothing_missing edges before old at (point.entry none) refl test

-- ---- both builds

abbrev pub first_lawful : IsLawfulBuild commands.dyndep texts asked.declared (task_of asked no_store) no_store first_steps
first_lawful = lawful_by [] first_phase first_last refl refl refl refl refl

abbrev pub second_lawful : IsLawfulBuild commands.dyndep texts asked.declared (task_of asked first_store) first_store second_steps
second_lawful = lawful_by first_records second_phase second_last refl refl refl refl refl
