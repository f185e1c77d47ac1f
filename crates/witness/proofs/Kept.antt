-- The premises of both builds.
use Rattle.std.proofs.Common.{◌≡◌, ◌⊎◌, inl, inr, ℕ, zero, suc, ◌&&◌, ◌||◌, not, Bool, true, List, [], ◌∷◌, ◌++◌, Option, Some, None, is_some, refl, sym, ◌∙◌, ap, subst}
use Rattle.std.specs.List.{AllByRecursion}
use Rattle.std.proofs.lemmas.Bool.{false≢true, and_parts, not-true}
use Rattle.std.specs.Prelude.{codes}
use Rattle.model.specs.declared.act.Act.{Act}
use Rattle.model.specs.declared.event.Moment.{Moment}
use Rattle.model.specs.declared.graph.Edge.{Edge}
use Rattle.model.specs.declared.outcome.Outcome.{Outcome}
use Rattle.model.specs.declared.record.Record.{Record}
use Rattle.model.specs.World.{View, view_of, next_stamp}
use Rattle.model.specs.Graph.{has, edge_at, maker, regular_inputs, outputs, IsCommand}
use Rattle.model.specs.Outcome.{Behaviour, ends_well, reports_of, given, GivesTheSame}
use Rattle.model.specs.Records.{OwnFiles, in_force, recorded_inputs}
use Rattle.model.specs.Schedule.{Step, judged_in}
use Rattle.model.specs.Premises.{HasOneOutcome, AgreesOnReading, LeaveOutcomes, Matters, AreQuiet, IsWalked, Input, Behind, IsKnown, InputsAreKnown, DyndepOutputsAreReadBelow, RecordedApart, FilesAreKept, Premises, KeepsFaith}
use Rattle.witness.specs.Project.{declared, edges, commands, own, leaves, keeps, leaves_both, head_of, edited_or_scratch, scratch, store_of, first_records}
use Rattle.witness.specs.Disk.{building, mending, first_steps, second_steps, first, built, edited, last}
use Rattle.witness.specs.Rich.{no_store, first_store, not_second, every_edge, FirstPremises, SecondPremises}
use Rattle.witness.proofs.RichLists.{none_some, some_same, some_none, all_has, all_from_has, every, every_number, every_path, if_there, if_there_at, other_of, at_each}
use Rattle.witness.proofs.Graphs.{numbers, within, none_recorded}
use Rattle.witness.proofs.Moments.{grows, stamps_grow}
use Rattle.witness.proofs.ReadPaths.{reading, read_by, is_read, in_list}
use Rattle.witness.proofs.Left.{none_reported, reports_none, starts_left, outcomes, keeps_to, kept_of}
use Rattle.witness.proofs.Project.{silent, no_depfile, by_command, own_files}

-- ---- commands are functions of what they read

abbrev always : Outcome → Behaviour
always o = record { outcome = λ act view. o; depfile = commands.depfile; dyndep = commands.dyndep }

same_if : (act : Act) (outs : List (List ℕ)) (u v : View) → commands.outcome act u ≡ commands.outcome act v → GivesTheSame commands act outs u v
same_if act outs u v same = record {
  ends = ap (λ (o : Outcome). ends_well (always o) act v) (sym same);
  reports = ap (λ (o : Outcome). reports_of (always o) act v) (sym same);
  contents = all_from_has (λ o. given commands act v o ≡ given commands act u o) outs (λ p h. ap (λ (o : Outcome). given (always o) act v p) (sym same));
}

reads_same : (files u v : View) (i : ℕ) → AgreesOnReading edges files i u → AgreesOnReading edges files i v → (p : List ℕ) → has (reading edges i) p ≡ true → u p ≡ v p
reads_same files u v i at_u at_v p h = at_u p (is_read edges refl files i p h) ∙ sym (at_v p (is_read edges refl files i p h))

pub one_outcome : (files : View) (i : ℕ) → IsCommand edges i → HasOneOutcome commands edges files i
one_outcome files = by_command (λ (i : ℕ). HasOneOutcome commands edges files i)
    (λ u v at_u at_v well reports. same_if (edge_at edges 1).act (outputs (edge_at edges 1)) u v (ap (leaves (codes "dd")) (reads_same files u v 1 at_u at_v (codes "d.in") refl)))
    (λ u v at_u at_v well reports. same_if (edge_at edges 2).act (outputs (edge_at edges 2)) u v (ap (leaves (codes "b")) (reads_same files u v 2 at_u at_v (codes "a") refl)))
    (λ u v at_u at_v well reports. same_if (edge_at edges 3).act (outputs (edge_at edges 3)) u v (ap (λ (o : Option (List ℕ)). keeps (codes "h") (head_of o)) (reads_same files u v 3 at_u at_v (codes "k") refl)))
    (λ u v at_u at_v well reports. same_if (edge_at edges 5).act (outputs (edge_at edges 5)) u v (ap (leaves (codes "q")) (reads_same files u v 5 at_u at_v (codes "h") refl)))
    (λ u v at_u at_v well reports. same_if (edge_at edges 6).act (outputs (edge_at edges 6)) u v (ap (leaves_both (codes "o") (codes "x")) (reads_same files u v 6 at_u at_v (codes "u") refl)))
    (λ u v at_u at_v well reports. same_if (edge_at edges 7).act (outputs (edge_at edges 7)) u v (ap (leaves (codes "z")) (reads_same files u v 7 at_u at_v (codes "x") refl)))

-- ---- what only the dyndep file names is read below it

-- the seventh edge names the file; no other walks what it adds
abbrev IsSeen : ℕ → List ℕ → Type 0
IsSeen i p = (i ≡ 7) ⊎ ((j : ℕ) → maker edges p ≡ Some j → maker declared p ≡ None → ⊥)

by_source : (i : ℕ) (p : List ℕ) → maker edges p ≡ None → IsSeen i p
by_source i p none = inr (λ j made unmade. none_some j (sym none ∙ made))

by_declared : (i n : ℕ) (p : List ℕ) → maker declared p ≡ Some n → IsSeen i p
by_declared i n p known = inr (λ j made unmade. some_none n (sym known ∙ unmade))

of_input : (i : ℕ) (p : List ℕ) → has (regular_inputs (edge_at edges i)) p ≡ true → IsSeen i p
of_input zero p h = absurd (false≢true h)
of_input (suc zero) p h = all_has (IsSeen 1) (codes "d.in" ∷ []) p (by_source 1 (codes "d.in") refl, tt) h
of_input (suc (suc zero)) p h = all_has (IsSeen 2) (codes "a" ∷ []) p (by_source 2 (codes "a") refl, tt) h
of_input (suc (suc (suc zero))) p h = all_has (IsSeen 3) (codes "k" ∷ []) p (by_source 3 (codes "k") refl, tt) h
of_input (suc (suc (suc (suc zero)))) p h = all_has (IsSeen 4) (codes "h" ∷ []) p (by_declared 4 3 (codes "h") refl, tt) h
of_input (suc (suc (suc (suc (suc zero))))) p h = all_has (IsSeen 5) (codes "p" ∷ []) p (by_declared 5 4 (codes "p") refl, tt) h
of_input (suc (suc (suc (suc (suc (suc zero)))))) p h = all_has (IsSeen 6) (codes "u" ∷ []) p (by_source 6 (codes "u") refl, tt) h
of_input (suc (suc (suc (suc (suc (suc (suc zero))))))) p h = inl refl
of_input (suc (suc (suc (suc (suc (suc (suc (suc i)))))))) p h = absurd (false≢true h)

-- what stands behind a phony is made by the build files alone
behind_phony : (i j : ℕ) (p : List ℕ) → (edge_at edges j).phony ≡ true → has (regular_inputs (edge_at edges j)) p ≡ true → IsSeen i p
behind_phony i zero p phony h = absurd (false≢true h)
behind_phony i (suc zero) p phony h = absurd (false≢true phony)
behind_phony i (suc (suc zero)) p phony h = absurd (false≢true phony)
behind_phony i (suc (suc (suc zero))) p phony h = absurd (false≢true phony)
behind_phony i (suc (suc (suc (suc zero)))) p phony h = all_has (IsSeen i) (codes "h" ∷ []) p (by_declared i 3 (codes "h") refl, tt) h
behind_phony i (suc (suc (suc (suc (suc zero))))) p phony h = absurd (false≢true phony)
behind_phony i (suc (suc (suc (suc (suc (suc zero)))))) p phony h = absurd (false≢true phony)
behind_phony i (suc (suc (suc (suc (suc (suc (suc zero))))))) p phony h = absurd (false≢true phony)
behind_phony i (suc (suc (suc (suc (suc (suc (suc (suc j)))))))) p phony h = absurd (false≢true h)

walked : (i : ℕ) (p : List ℕ) → IsWalked edges i p → IsSeen i p
walked i p (Input _ h) = of_input i p h
walked i p (Behind j q _ more alias h) = behind_phony i j p alias.phony h

names_dd : (j : ℕ) (file : List ℕ) → (edge_at declared j).dyndep ≡ Some file → codes "dd" ≡ file
names_dd zero file is = absurd (none_some file is)
names_dd (suc zero) file is = absurd (none_some file is)
names_dd (suc (suc zero)) file is = absurd (none_some file is)
names_dd (suc (suc (suc zero))) file is = absurd (none_some file is)
names_dd (suc (suc (suc (suc zero)))) file is = absurd (none_some file is)
names_dd (suc (suc (suc (suc (suc zero))))) file is = absurd (none_some file is)
names_dd (suc (suc (suc (suc (suc (suc zero)))))) file is = some_same (codes "dd") file is
names_dd (suc (suc (suc (suc (suc (suc (suc zero))))))) file is = some_same (codes "dd") file is
names_dd (suc (suc (suc (suc (suc (suc (suc (suc i)))))))) file is = absurd (none_some file is)

known : (recorded : ℕ → List (List ℕ)) (i : ℕ) (p : List ℕ) → IsSeen i p → IsKnown declared edges recorded i p
known recorded i p (inl seven) j file made unmade names =
    inl (subst (λ (n : ℕ). (edge_at declared n).dyndep ≡ Some file) (sym seven) (ap Some (names_dd j file names)))
known recorded i p (inr other) j file made unmade names = absurd (other j made unmade)

module _ (records : List Record) (steps : List Step) (old more : List Moment) where
  abbrev recorded : ℕ → List (List ℕ)
  recorded = recorded_inputs (store_of records) edges

  not_recorded : (i : ℕ) (p : List ℕ) → has (recorded_inputs (store_of records) edges i) p ≡ true → ⊥
  not_recorded i p h = false≢true (subst (λ (l : List (List ℕ)). has l p ≡ true) (none_recorded records edges i) h)

  pub inputs_known : InputsAreKnown declared edges (recorded_inputs (store_of records) edges)
  inputs_known i p command (inl walks) = known recorded i p (walked i p walks)
  inputs_known i p command (inr told) = absurd (not_recorded i p told)

  pub recorded_apart : RecordedApart own (recorded_inputs (store_of records) edges)
  recorded_apart i p h = absurd (not_recorded i p h)

  pub read_below : DyndepOutputsAreReadBelow commands declared edges (recorded_inputs (store_of records) edges) steps old (old ++ more)
  read_below = record { inputs = inputs_known; reports = λ i j p reported made command. absurd (none_reported commands edges no_depfile steps old (old ++ more) i p reported) }

  -- ---- quiet edges

  -- what matters to an edge is in its list
  matters : view_of (old ++ more) (codes "p") ≡ None → (i : ℕ) (p : List ℕ) → Matters commands edges (recorded_inputs (store_of records) edges) steps old (old ++ more) i p → has (reading edges i) p ≡ true
  matters absent i p (inl read) = in_list edges refl (view_of (old ++ more)) (silent (view_of (old ++ more)) absent) i p read
  matters absent i p (inr (inl told)) = absurd (not_recorded i p told)
  matters absent i p (inr (inr reported)) = absurd (none_reported commands edges no_depfile steps old (old ++ more) i p reported)

  module _ (quiet : ℕ → Bool) (free : List (List ℕ)) where
    -- a path that is not free, and made by no command but a quiet one
    abbrev pub is_alone : List ℕ → Bool
    is_alone p = not (has free p) && if_there (λ j. (edge_at edges j).phony || quiet j) (maker edges p)

    abbrev pub are_alone : Bool
    are_alone = every (λ i. not (quiet i) || every is_alone (reading edges i)) (numbers edges)

    alone_at : are_alone ≡ true → (i : ℕ) (p : List ℕ) → quiet i ≡ true → has (reading edges i) p ≡ true → is_alone p ≡ true
    alone_at test i p is_quiet h =
        let here = within edges (λ (e : Edge). has (read_by edges (regular_inputs e)) p ≡ true) (λ none. false≢true none) i h in
        every_path is_alone (reading edges i) p
        (other_of (not (quiet i)) (every is_alone (reading edges i)) (every_number (λ n. not (quiet n) || every is_alone (reading edges n)) (numbers edges) i test here) (ap not is_quiet)) h

    pub are_quiet : view_of (old ++ more) (codes "p") ≡ None → are_alone ≡ true → AreQuiet commands quiet (has free) edges (recorded_inputs (store_of records) edges) steps old (old ++ more)
    are_quiet absent test = record {
      unread = λ i p is_quiet so. not-true (has free p)
          (and_parts (not (has free p)) (if_there (λ j. (edge_at edges j).phony || quiet j) (maker edges p)) (alone_at test i p is_quiet (matters absent i p so))).0;
      above = λ i j p is_quiet so made command. other_of (edge_at edges j).phony (quiet j)
          (if_there_at (λ n. (edge_at edges n).phony || quiet n) (maker edges p) j
          (and_parts (not (has free p)) (if_there (λ n. (edge_at edges n).phony || quiet n) (maker edges p)) (alone_at test i p is_quiet (matters absent i p so))).1 made) command;
    }

    -- ---- together

    module _ (apart : every (λ q. not (own.set q)) free ≡ true) (unmade : every (λ q. not (is_some (maker edges q))) free ≡ true) (to_outputs : every (keeps_to edges free) more ≡ true)
        (grow : grows (next_stamp old) more ≡ true) (left : at_each (starts_left commands edges old more) [] more ≡ true) where
      pub left_outcomes : LeaveOutcomes commands edges steps old (old ++ more)
      left_outcomes = outcomes commands edges old more no_depfile steps left

      abbrev pub faith_of : AllByRecursion (λ p. in_force records p ≡ None) free → KeepsFaith commands own edges (store_of records) steps old (old ++ more)
      faith_of unrecorded = record {
        kept = kept_of edges free own refl apart unmade own_files old more to_outputs;
        unrecorded = λ p is_free. all_has (λ q. in_force records q ≡ None) free p unrecorded is_free;
        stamps = stamps_grow old more grow;
        left_outcomes = left_outcomes;
      }

      abbrev pub premises_of : view_of (old ++ more) (codes "p") ≡ None → are_alone ≡ true → every (λ i. not (edge_at edges i).phony) (judged_in steps) ≡ true
          → Premises commands own declared edges (recorded_inputs (store_of records) edges) steps old (old ++ more)
      premises_of absent test judged = record {
        files = record {
          kept = kept_of edges free own refl apart unmade own_files old more to_outputs;
          quiet = quiet;
          alone = are_quiet absent test;
          recorded_apart = recorded_apart;
          stamps = stamps_grow old more grow;
          reports = reports_none commands edges no_depfile own (recorded_inputs (store_of records) edges) steps old (old ++ more);
          dyndep = read_below;
        };
        one_outcome = λ i is_quiet h. one_outcome (view_of (old ++ more)) i (not-true (edge_at edges i).phony (every_number (λ n. not (edge_at edges n).phony) (judged_in steps) i judged h));
        left_outcomes = left_outcomes;
      }

-- ---- both builds

abbrev pub first_faith : KeepsFaith commands own edges no_store first_steps first.history built.history
first_faith = faith_of [] first_steps first.history building not_second edited_or_scratch refl refl refl refl refl (refl, (refl, tt))

abbrev pub second_faith : KeepsFaith commands own edges first_store second_steps edited.history last.history
second_faith = faith_of first_records second_steps edited.history mending every_edge scratch refl refl refl refl refl (refl, tt)

abbrev pub first_premises : FirstPremises
first_premises = premises_of [] first_steps first.history building not_second edited_or_scratch refl refl refl refl refl refl refl refl

abbrev pub second_premises : SecondPremises
second_premises = premises_of first_records second_steps edited.history mending every_edge scratch refl refl refl refl refl refl refl refl

-- ---- the edge below the edited source is not quiet, whatever is free and quiet

-- somebody writes `a` in the first build
pub a_is_free : (all : OwnFiles) (files : FilesAreKept all edges first.history built.history) → files.free (codes "a") ≡ true
a_is_free all files = (files.edits building refl).1.1.1.1.1.1.1.1.0

pub loud : (files : List ℕ → Bool) (quiet : ℕ → Bool) → files (codes "a") ≡ true
    → AreQuiet commands quiet files edges (recorded_inputs no_store edges) first_steps first.history built.history → quiet 2 ≡ true → ⊥
loud free quiet is_free alone is_quiet = false≢true (sym (alone.unread 2 (codes "a") is_quiet (inl (is_read edges refl (view_of built.history) 2 (codes "a") refl))) ∙ is_free)
