-- The history in which an edit during a build is mended by the next one.
use Rattle.std.proofs.Common.{◌≡◌, inl, ℕ, Bool, true, false, List, [], ◌∷◌, take, drop, Some, None, not, refl, sym, ◌∙◌, ap, subst, bytes_eq}
use Rattle.std.specs.List.{AllByRecursion}
use Rattle.std.proofs.lemmas.Bool.{false≢true, eqb-true}
use Rattle.std.proofs.lemmas.List.{append_cancel_left}
use Rattle.std.specs.Prelude.{codes}
use Rattle.model.specs.declared.event.Moment.{Moment}
use Rattle.model.specs.declared.event.Moment.TheVariants.{Wrote}
use Rattle.model.specs.declared.event.Writer.TheVariants.{Program}
use Rattle.model.specs.World.{view_of}
use Rattle.model.specs.Graph.{has_number, IsCommand}
use Rattle.model.specs.OutOfDate.{IsVerdict}
use Rattle.model.specs.Records.{Store}
use Rattle.model.specs.Schedule.{started_in}
use Rattle.model.specs.Kept.{KeepsRecords, LeavesNothing}
use Rattle.model.specs.Premises.{IsNoEdit, NothingIsEdited, none_free}
use Rattle.model.specs.SingleBuild.{Success}
use Rattle.model.specs.Faithful.{IsFaithfulStore}
use Rattle.model.specs.History.{Visit, Edited, Built, IsEdit, Keeps}
use Rattle.model.specs.Driven.{HasLogs}
use Rattle.witness.specs.Project.{edges, asked, own, commands, letters, first_records, all_records}
use Rattle.witness.specs.Disk.{two_run, meanwhile, first_steps, second_steps, first_events, first, built, edited, last}
use Rattle.witness.specs.Rich.{no_store, first_store, not_second, every_edge, ShowsAll, SpoilsOne, MendsAll, RichHistoryIsMet}
use Rattle.witness.proofs.RichLists.{none_some}
use Rattle.witness.proofs.Moments.{stamps_grow, idle}
use Rattle.witness.proofs.ReadPaths.{is_read, verdict_is, verdict}
use Rattle.witness.proofs.Project.{silent, by_command, own_fits}
use Rattle.witness.proofs.Kept.{first_faith, second_faith, first_premises, second_premises, a_is_free, loud}
use Rattle.witness.proofs.Logged.{at_built, at_last, first_logs, second_logs, nothing_left, cleanly_built}
use Rattle.witness.proofs.RichBuilds.{second_alone, no_edges, first_build, second_build}

-- ---- the edit between the builds

abbrev edit : Moment
edit = Wrote Program (codes "k") (Some (codes "kw")) 10

edits_k : IsEdit true (codes "k") (Some (codes "kw")) built edited
edits_k = record { events = refl; earlier = refl; does = λ told. inl (10, record { earlier = []; later = []; grows = refl; all_earlier = tt; all_later = tt }) }

unedited : NothingIsEdited built.history edited.history
unedited added is = subst (AllByRecursion (IsNoEdit none_free)) (append_cancel_left built.history (edit ∷ []) added is) (tt, tt)

differs : (p : List ℕ) → bytes_eq (codes "k") p ≡ false → codes "k" ≡ p → ⊥
differs p other same = false≢true (sym other ∙ sym (ap (λ (q : List ℕ). bytes_eq (codes "k") q) same))

-- ---- the visits

abbrev visits : List (Visit true commands letters)
visits =
    Built asked first built (Success 6) first_build ∷ Edited (codes "k") (Some (codes "kw")) built edited edits_k ∷ Built asked edited last (Success 2) second_build ∷ []

keeps : AllByRecursion (λ (v : Visit true commands letters). Keeps own v) visits
keeps = (
  (λ job. refl, (own_fits, first_faith)),
  (
    (idle first_events refl, stamps_grow built.history (edit ∷ []) refl, unedited, (refl, differs own.build_log refl, differs own.deps_log refl)),
    ((idle first_events refl, (own_fits, second_faith)), tt),
  ),
)

logs : AllByRecursion HasLogs visits
logs = (
  λ all fits. record {
    records = λ tells files. subst (λ (s : Store). KeepsRecords commands asked no_store s first_steps None first built) (at_built all fits) first_logs;
    settled = λ tells success start premises.
        subst (λ (s : Store). LeavesNothing premises.quiet asked no_store s first_steps first.history built.history) (at_built all fits)
        (nothing_left second_alone premises.quiet (λ i second is_quiet. loud premises.kept.free premises.quiet (a_is_free all premises.kept) premises.alone
        (subst (λ (n : ℕ). premises.quiet n ≡ true) (eqb-true i 2 second) is_quiet)) no_store first_records first_steps first.history built.history refl refl);
  },
  (
    tt,
    (
      λ all fits. record {
        records = λ tells files. subst (λ (s : Store). KeepsRecords commands asked first_store s second_steps None edited last) (at_last all fits) second_logs;
        settled = λ tells success start premises.
            subst (λ (s : Store). LeavesNothing premises.quiet asked first_store s second_steps edited.history last.history) (at_last all fits)
            (nothing_left no_edges premises.quiet (λ i no is_quiet. false≢true no) first_store all_records second_steps edited.history last.history refl refl);
      },
      tt,
    ),
  ),
)

faithful : IsFaithfulStore commands letters own [] first
faithful = record {
  build_log = λ content is. absurd (none_some content is);
  deps_log = λ content is. absurd (none_some content is);
  records = λ o made is. absurd (none_some made is);
  deps = λ o told is. absurd (none_some told is);
  running = λ job o is h. absurd (false≢true is);
}

-- ---- what is shown of it

spoils : SpoilsOne
spoils = record {
  loud = λ files quiet alone is. loud files.free quiet (a_is_free own files) alone is;
  holds = refl;
  would = refl;
  others = cleanly_built second_alone not_second (λ i second is_quiet. false≢true (sym (ap not second) ∙ is_quiet)) no_store (view_of built.history) refl;
}

-- whether an edge is out of date at the entry of the second build
at_entry : (i : ℕ) → IsCommand edges i → IsVerdict edges first_store [] edited.history edited.history i (has_number (started_in second_steps) i)
at_entry = by_command (λ (i : ℕ). IsVerdict edges first_store [] edited.history edited.history i (has_number (started_in second_steps) i))
    (one 1 false refl) (one 2 true refl) (one 3 true refl) (one 5 false refl) (one 6 false refl) (one 7 false refl)
  where
    one : (i : ℕ) (b : Bool) → verdict_is edges first_records [] edited.history edited.history i b ≡ true → IsVerdict edges first_store [] edited.history edited.history i b
    one i b test = verdict edges refl first_records [] edited.history edited.history (silent (view_of edited.history) refl) i b test

mends : MendsAll
mends = record {
  stale = at_entry;
  started = refl;
  all = cleanly_built no_edges every_edge (λ i no is_quiet. false≢true no) first_store (view_of last.history) refl;
}

shows : ShowsAll
shows = record {
  at_once = (refl, refl);
  at_once_again = (refl, refl);
  parts = (refl, refl);
  dyndep_made = refl;
  dyndep_read = refl;
  output_added = (refl, refl);
  output_read = is_read edges refl (view_of built.history) 7 (codes "x") refl;
  one_stamp = (refl, refl);
  cut = record { before = take 3 two_run; after = drop 5 two_run; splits = refl };
  cut_tells = refl;
  response_start = refl;
  response = (refl, refl);
  scratch_file = (record { before = []; after = drop 1 meanwhile; splits = refl }, record { before = take 4 meanwhile; after = []; splits = refl }, refl);
  edit = (record { before = take 1 meanwhile; after = drop 2 meanwhile; splits = refl }, refl, is_read edges refl (view_of built.history) 2 (codes "a") refl);
  input = (refl, refl);
  restat = (refl, refl, refl);
  alias = (refl, refl, is_read edges refl (view_of last.history) 5 (codes "h") refl);
  not_run = refl;
}

pub rich_history_met : RichHistoryIsMet
rich_history_met = record {
  visits = visits;
  history = (λ job. refl, (refl, tt, (refl, tt, (refl, tt, refl))));
  answers = refl;
  exits = refl;
  steps = (first_steps, second_steps ∷ [], refl, (λ all fits. refl), (second_steps, [], refl, (λ all fits. refl), refl));
  faithful = faithful;
  keeps = keeps;
  logs = logs;
  first_premises = first_premises;
  first_quiet = λ i. refl;
  first_free = λ p. refl;
  second_premises = second_premises;
  second_quiet = λ i. refl;
  second_free = λ p. refl;
  spoils = spoils;
  mends = mends;
  shows = shows;
}
