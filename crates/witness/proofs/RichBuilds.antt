-- Both builds are as a single build is.
use Rattle.std.proofs.Common.{◌≡◌, inl, inr, ℕ, ◌==◌, ◌&&◌, not, Bool, true, false, List, [], ◌∷◌, ◌++◌, Option, Some, None, is_some, refl, sym, ◌∙◌, ap, subst, bytes_eq, append_assoc}
use Rattle.std.proofs.lemmas.Bool.{false≢true, cases_Bool, and_parts, eqb-true, not-true}
use Rattle.std.proofs.lemmas.List.{append_cancel_left}
use Rattle.model.specs.declared.event.Event.TheVariants.{Start, Finish}
use Rattle.model.specs.declared.event.Moment.TheVariants.{Wrote, Happened}
use Rattle.std.specs.Prelude.{codes}
use Rattle.model.specs.declared.event.Moment.{Moment}
use Rattle.model.specs.declared.graph.Edge.{Edge}
use Rattle.model.specs.declared.record.Record.{Record}
use Rattle.model.specs.World.{View, view_of}
use Rattle.model.specs.Graph.{has_number, edge_at}
use Rattle.model.specs.Outcome.{depfile_in, is_accepted}
use Rattle.model.specs.Reading.{IsAlias, Counts}
use Rattle.model.specs.Records.{Store, OwnFiles, IsOwnIn}
use Rattle.model.specs.OutOfDate.{made_facts}
use Rattle.model.specs.Judgement.{reason_of}
use Rattle.model.specs.Premises.{EndedAt, IsTickedAt, StartsAreTicked}
use Rattle.model.specs.Schedule.{Step, Judged, Started, Ended, clean_in, done_in, ended_in, well_in}
use Rattle.model.specs.SingleBuild.{SingleBuild, Success, IsJudged, EndRightly, AreCleanByOutputs, AreJudgedAt, AreHeldThen, IsReadBehind, EndAsRead, task_of}
use Rattle.witness.specs.Project.{declared, edges, asked, commands, letters, texts, dyndep_text, reads_dyndep, store_of, first_records}
use Rattle.witness.specs.Disk.{building, mending, first_phase, first_last, first_steps, second_phase, second_last, second_steps, first_events, second_events, first, built, edited, last}
use Rattle.witness.specs.Rich.{no_store, first_store}
use Rattle.witness.proofs.RichLists.{none_some, some_same, same_bytes, every, every_number, at_each, at_split}
use Rattle.witness.proofs.Graphs.{is_flat}
use Rattle.witness.proofs.Moments.{so_far, is_moment, moment, idle}
use Rattle.witness.proofs.ReadPaths.{verdict_is, verdict}
use Rattle.witness.proofs.Framed.{frame}
use Rattle.witness.proofs.Left.{nothing_told}
use Rattle.witness.proofs.Project.{silent, silent_declared, no_depfile}
use Rattle.witness.proofs.Lawful.{no_load, none_loads}
use Rattle.witness.proofs.Steps.{next_load, first_lawful, second_lawful, all_settled, has_ended, in_order, was_in_order, missing_before, missing_after}
use Rattle.witness.proofs.Kept.{a_is_free, loud}
use Rattle.witness.proofs.Logged.{at_first, at_edited, cleanly_built}

-- ---- the loaded file

texts_are : (file content : List ℕ) → texts file ≡ Some content → (codes "dd" ≡ file) × (dyndep_text ≡ content)
texts_are file content is = elim (cases_Bool (bytes_eq (codes "dd") file)) [
  | inl here ↦ let held : Some dyndep_text ≡ Some content = rw here at is in (same_bytes (codes "dd") file here, some_same dyndep_text content held)
  | inr other ↦ let none : None ≡ Some content = rw other at is in absurd (none_some content none)
]

pub held_by : (files : View) → files (codes "dd") ≡ Some dyndep_text → (file content : List ℕ) → texts file ≡ Some content → files file ≡ Some content
held_by files here file content is =
    let are = texts_are file content is in
    subst (λ (p : List ℕ). files p ≡ Some content) are.0 (here ∙ ap Some are.1)

-- the one file was loaded behind the first phase, when it held that, and at the end none is left to load
pub held_then : (records : List Record) (phase steps : List Step) (old more : List Moment) → has_number (done_in phase) 1 ≡ true → is_moment phase more ≡ true
    → view_of (old ++ so_far phase more) (codes "dd") ≡ Some dyndep_text → no_load (task_of asked (store_of records)) (done_in steps) ≡ true
    → AreHeldThen reads_dyndep texts (task_of asked (store_of records)) (store_of records) (record { edges = declared; steps = phase } ∷ []) steps old (old ++ more)
held_then records phase steps old more done test held none = (
  (
    record {
      file = codes "dd";
      is_next = next_load records phase done;
      content = dyndep_text;
      read = refl;
      held = record { at = old ++ so_far phase more; moment = moment phase old more test; holds = held };
    },
    tt,
  ),
  λ next load. absurd (none_loads (task_of asked (store_of records)) refl steps none load.file load.is_next.due),
)

-- ---- verdicts

no_content : (o : Option (List ℕ)) → not (is_some o) ≡ true → o ≡ None
no_content None test = refl
no_content (Some content) test = absurd (false≢true test)

pub end_rightly : (steps : List Step) (old new : List Moment) → every (has_number (well_in steps)) (ended_in steps) ≡ true → EndRightly commands edges steps None old new
end_rightly steps old new all_well = record {
  well = λ i at ended h. ap is_accepted (nothing_told commands edges no_depfile i (view_of at));
  depfiles = λ i at ended h other.
      every_number (has_number (well_in steps)) (ended_in steps) i all_well h ∙ sym (ap is_accepted (nothing_told commands edges no_depfile i (view_of at)));
}

-- each depfile as it was right behind the end: none is named
pub end_as_read : (steps : List Step) (old new : List Moment) → every (has_number (well_in steps)) (ended_in steps) ≡ true → EndAsRead commands edges steps None old new
end_as_read steps old new all_well = record {
  well = λ i at ended h. behind i at ended true (sym (none_refused i (at ++ Happened (Finish i true) ∷ [])));
  depfiles = λ i at ended h other. behind i at ended (has_number (well_in steps) i) (every_number (has_number (well_in steps)) (ended_in steps) i all_well h ∙ sym (none_refused i (at ++ Happened (Finish i true) ∷ [])));
}
  where
    none_refused : (i : ℕ) (files : List Moment) → is_accepted (depfile_in commands (edge_at edges i).act (view_of files)) ≡ true
    none_refused i files = ap is_accepted (nothing_told commands edges no_depfile i (view_of files))

    behind : (i : ℕ) (at : List Moment) → EndedAt i old new at → (w : Bool) → w ≡ is_accepted (depfile_in commands (edge_at edges i).act (view_of (at ++ Happened (Finish i true) ∷ [])))
        → IsReadBehind commands (edge_at edges i).act i at new w
    behind i at ended w is = record {
      between = [];
      later = ended.after;
      grows = ended.splits ∙ (sym (append_assoc old ended.before (Happened (Finish i true) ∷ ended.after)) ∙ ap (λ (l : List Moment). l ++ Happened (Finish i true) ∷ ended.after) (sym ended.is));
      others = tt;
      is = is;
    }

-- no edge that was judged clean is out of date by what it makes
pub clean_by_outputs : (store : Store) (steps : List Step) (old : List Moment)
    → every (λ i. not (is_some (reason_of (made_facts (edge_at edges i) store old)))) (clean_in steps) ≡ true → AreCleanByOutputs edges store steps old
clean_by_outputs store steps old test i h stale =
    false≢true (sym (not-true (is_some (reason_of (made_facts (edge_at edges i) store old)))
    (every_number (λ i. not (is_some (reason_of (made_facts (edge_at edges i) store old)))) (clean_in steps) i test h)) ∙ stale)

-- ---- ticks

-- the last of these moments is a write of this stamp
abbrev pub is_ticked : ℕ → List Moment → Bool
is_ticked stamp [] = false
is_ticked stamp (Wrote by path content given ∷ []) = given == stamp
is_ticked stamp (Happened event ∷ []) = false
is_ticked stamp (m ∷ n ∷ ms) = is_ticked stamp (n ∷ ms)

ticked_by : (stamp : ℕ) (before : List Moment) → is_ticked stamp before ≡ true → IsTickedAt stamp before
ticked_by stamp [] test = absurd (false≢true test)
ticked_by stamp (Wrote by path content given ∷ []) test = record {
  earlier = [];
  by = by;
  path = path;
  content = content;
  between = [];
  splits = ap (λ (s : ℕ). Wrote by path content s ∷ []) (eqb-true given stamp test);
  quiet = refl;
}
ticked_by stamp (Happened event ∷ []) test = absurd (false≢true test)
ticked_by stamp (m ∷ n ∷ ms) test =
    let tick = ticked_by stamp (n ∷ ms) test in
    record { earlier = m ∷ tick.earlier; by = tick.by; path = tick.path; content = tick.content; between = tick.between; splits = ap (λ (l : List Moment). m ∷ l) tick.splits; quiet = tick.quiet }

abbrev pub starts_ticked : List Moment → Moment → Bool
starts_ticked front (Wrote by path content stamp) = true
starts_ticked front (Happened (Start i act stamp)) = is_ticked stamp front
starts_ticked front (Happened (Finish i ok)) = true

pub ticked : (old more : List Moment) → at_each starts_ticked [] more ≡ true → StartsAreTicked old (old ++ more)
ticked old more test before after i stamp act is =
    ticked_by stamp before (at_split starts_ticked more before after (Happened (Start i act stamp)) (append_cancel_left old more (before ++ Happened (Start i act stamp) ∷ after) is) test)

module _ (records : List Record) (old more : List Moment) where
  abbrev pub is_right : List Step → Step → Bool
  is_right before (Judged i out_of_date) = verdict_is edges records (well_in before) old (old ++ more) i out_of_date
  is_right before (Started i) = true
  is_right before (Ended i well) = true

  pub judged_of : (free : List ℕ → Bool) (steps : List Step) → view_of (old ++ more) (codes "p") ≡ None → at_each is_right [] steps ≡ true → every (has_number (well_in steps)) (ended_in steps) ≡ true
      → IsJudged commands free asked (store_of records) steps None old (old ++ more)
  judged_of free steps absent test all_well = record {
    verdicts = λ before after i out_of_date is unread.
        verdict edges refl records (well_in before) old (old ++ more) (silent (view_of (old ++ more)) absent) i out_of_date
        (at_split is_right steps before after (Judged i out_of_date) is test);
    ended = end_rightly steps old (old ++ more) all_well;
  }

  module _ (es : List Edge) (flat : is_flat es ≡ true) (no_file : (view : View) → view (codes "p") ≡ None → (q : List ℕ) (j : ℕ) → IsAlias es q j → Counts es view q → ⊥) (free : List ℕ → Bool) where
    abbrev pub is_right_then : List Step → Step → Bool
    is_right_then before (Judged i out_of_date) =
        is_moment before more
        && (not (is_some (view_of (old ++ so_far before more) (codes "p"))) && verdict_is es records (well_in before) old (old ++ so_far before more) i out_of_date)
    is_right_then before (Started i) = true
    is_right_then before (Ended i well) = true

    pub judged_then : (before steps : List Step) → at_each is_right_then before steps ≡ true → AreJudgedAt free es (store_of records) before steps old (old ++ more)
    judged_then before [] test = tt
    judged_then before (Judged i out_of_date ∷ steps) test =
        let both = and_parts (is_right_then before (Judged i out_of_date)) (at_each is_right_then (before ++ Judged i out_of_date ∷ []) steps) test in
        let a = and_parts (is_moment before more)
        (not (is_some (view_of (old ++ so_far before more) (codes "p"))) && verdict_is es records (well_in before) old (old ++ so_far before more) i out_of_date) both.0 in
        let b = and_parts (not (is_some (view_of (old ++ so_far before more) (codes "p")))) (verdict_is es records (well_in before) old (old ++ so_far before more) i out_of_date) a.1 in (
          record {
            at = old ++ so_far before more;
            moment = moment before old more a.0;
            right = λ unread. verdict es flat records (well_in before) old (old ++ so_far before more)
                (no_file (view_of (old ++ so_far before more)) (no_content (view_of (old ++ so_far before more) (codes "p")) b.0)) i out_of_date b.1;
          },
          judged_then (before ++ Judged i out_of_date ∷ []) steps both.1,
        )
    judged_then before (Started i ∷ steps) test = judged_then (before ++ Started i ∷ []) steps (and_parts true (at_each is_right_then (before ++ Started i ∷ []) steps) test).1
    judged_then before (Ended i well ∷ steps) test = judged_then (before ++ Ended i well ∷ []) steps (and_parts true (at_each is_right_then (before ++ Ended i well ∷ []) steps) test).1

-- ---- the first build

-- the second edge is below the edited source
abbrev pub second_alone : ℕ → Bool
second_alone i = i == 2

abbrev pub no_edges : ℕ → Bool
no_edges i = false

abbrev pub first_build : (all : OwnFiles) → IsOwnIn all asked.folder → SingleBuild true commands letters all asked first built (Success 6)
first_build all fits = record {
  store = no_store;
  logs = λ tells files. at_first all fits;
  texts = texts;
  held = λ tells files file content bound is known. held_by (view_of built.history) refl file content is;
  steps = first_steps;
  schedule = record {
    lawful = first_lawful;
    first = first_events;
    later = [];
    grows = refl;
    of_steps = (
      refl,
      refl,
      (
        refl,
        refl,
        (
          refl,
          (λ well. well, λ none. refl),
          (
            refl,
            refl,
            (
              refl,
              (λ well. well, λ none. refl),
              (
                refl,
                refl,
                (
                  refl,
                  (λ well. well, λ none. refl),
                  (refl, refl, (refl, (λ well. well, λ none. refl), (refl, refl, (refl, (λ well. well, λ none. refl), (refl, (λ well. well, λ none. refl), tt))))),
                ),
              ),
            ),
          ),
        ),
      ),
    );
    finishes = tt;
    whole = λ none. refl;
    went_on = λ went. refl;
  };
  met = None;
  met_fault = λ i is. absurd (none_some i is);
  judged = λ tells files apart known. judged_of [] first.history building files.free first_steps refl refl refl;
  judged_then = λ tells files apart. (
    (judged_then [] first.history building declared refl silent_declared files.free [] first_phase refl, tt),
    judged_then [] first.history building edges refl silent files.free first_phase first_last refl,
  );
  ended_then = λ tells. end_as_read first_steps first.history (first.history ++ building) refl;
  ended = λ tells files. end_rightly first_steps first.history (first.history ++ building) refl;
  clean = λ tells files. clean_by_outputs (store_of []) first_steps first.history refl;
  held_then = λ tells. held_then [] first_phase first_steps first.history building refl refl refl refl;
  ticked = λ tells. ticked first.history building refl;
  answers = (
    in_order [] all (record { edges = declared; steps = first_phase } ∷ []) first built (λ tells files needed. absurd (false≢true (sym (needed.0 2 (codes "a") refl) ∙ a_is_free all files))),
    has_ended [] first_steps built (idle first_events refl) refl refl refl,
    all_settled [] first_steps refl,
    refl,
    refl,
  );
  in_order = inr (was_in_order [] all (record { edges = declared; steps = first_phase } ∷ []) first_last first built (λ tells files needed. absurd (false≢true (sym (needed.0 2 (codes "a") refl) ∙ a_is_free all files))));
  faults = record { refused = λ none. refl; starts = inl refl; stopped = λ stop. absurd (false≢true stop); earlier = refl };
  idle = λ none. idle first_events refl;
  taken_in = λ going unrefused. idle first_events refl;
  frame = λ tells. frame edges first_steps all fits first.history building no_depfile refl refl refl;
  from_nothing = λ tells success nothing premises.
      cleanly_built second_alone premises.files.quiet
      (λ i second is_quiet. loud premises.files.kept.free premises.files.quiet (a_is_free all premises.files.kept) premises.files.alone
      (subst (λ (n : ℕ). premises.files.quiet n ≡ true) (eqb-true i 2 second) is_quiet))
      no_store (view_of built.history) refl;
}

-- ---- the second build

abbrev pub second_build : (all : OwnFiles) → IsOwnIn all asked.folder → SingleBuild true commands letters all asked edited last (Success 2)
second_build all fits = record {
  store = first_store;
  logs = λ tells files. at_edited all fits;
  texts = texts;
  held = λ tells files file content bound is known. held_by (view_of last.history) refl file content is;
  steps = second_steps;
  schedule = record {
    lawful = second_lawful;
    first = second_events;
    later = [];
    grows = refl;
    of_steps = (refl, refl, (refl, refl, (refl, (λ well. well, λ none. refl), (refl, (λ well. well, λ none. refl), tt))));
    finishes = tt;
    whole = λ none. refl;
    went_on = λ went. refl;
  };
  met = None;
  met_fault = λ i is. absurd (none_some i is);
  judged = λ tells files apart known. judged_of first_records edited.history mending files.free second_steps refl refl refl;
  judged_then = λ tells files apart. (
    (judged_then first_records edited.history mending declared refl silent_declared files.free [] second_phase refl, tt),
    judged_then first_records edited.history mending edges refl silent files.free second_phase second_last refl,
  );
  ended_then = λ tells. end_as_read second_steps edited.history (edited.history ++ mending) refl;
  ended = λ tells files. end_rightly second_steps edited.history (edited.history ++ mending) refl;
  clean = λ tells files. clean_by_outputs (store_of first_records) second_steps edited.history refl;
  held_then = λ tells. held_then first_records second_phase second_steps edited.history mending refl refl refl refl;
  ticked = λ tells. ticked edited.history mending refl;
  answers = (
    in_order first_records all (record { edges = declared; steps = second_phase } ∷ []) edited last
        (λ tells files needed. (missing_before first_records all [] edited.history last.history refl refl, missing_after first_records all second_phase edited.history last.history refl refl)),
    has_ended first_records second_steps last (idle (first_events ++ second_events) refl) refl refl refl,
    all_settled first_records second_steps refl,
    refl,
    refl,
  );
  in_order = inr (was_in_order first_records all (record { edges = declared; steps = second_phase } ∷ []) second_last edited last
      (λ tells files needed. (missing_before first_records all [] edited.history last.history refl refl, missing_after first_records all second_phase edited.history last.history refl refl)));
  faults = record { refused = λ none. refl; starts = inl refl; stopped = λ stop. absurd (false≢true stop); earlier = refl };
  idle = λ none. idle (first_events ++ second_events) refl;
  taken_in = λ going unrefused. idle (first_events ++ second_events) refl;
  frame = λ tells. frame edges second_steps all fits edited.history mending no_depfile refl refl refl;
  from_nothing = λ tells success nothing premises.
      absurd (false≢true (sym (ap is_some (subst (λ (p : List ℕ). view_of edited.history p ≡ None) fits.build_log nothing.build_log))));
}
