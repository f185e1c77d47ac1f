-- What both builds leave in the logs, and that their outputs are as the clean build gives them.
use Rattle.std.proofs.Common.{◌≡◌, inl, inr, ℕ, ◌||◌, Bool, true, false, List, [], ◌∷◌, ◌++◌, Option, Some, None, refl, sym, ◌∙◌, ap, subst}
use Rattle.std.specs.List.{AllByRecursion}
use Rattle.std.proofs.lemmas.Bool.{false≢true, cases_Bool, cond-false, or_cases}
use Rattle.std.proofs.lemmas.List.{append_cancel_left}
use Rattle.std.specs.Prelude.{codes, if◌then◌else◌}
use Rattle.model.specs.declared.act.Act.{Act}
use Rattle.model.specs.declared.event.Event.{Event}
use Rattle.model.specs.declared.event.Event.TheVariants.{Start, Finish}
use Rattle.model.specs.declared.event.Moment.{Moment}
use Rattle.model.specs.declared.record.DepsRecord.{DepsRecord}
use Rattle.model.specs.declared.record.Record.{Record}
use Rattle.model.specs.declared.record.Record.TheVariants.{Begun, Done}
use Rattle.model.specs.World.{View, view_of}
use Rattle.model.specs.Graph.{has, has_number, edge_at, outputs}
use Rattle.model.specs.Clean.{clean_build}
use Rattle.model.specs.Records.{Store, OwnFiles, IsOwnIn, Made, store_in, read_log, build_log_name, deps_log_name, in_force, in_force_from}
use Rattle.model.specs.Schedule.{Step, started_in, well_in}
use Rattle.model.specs.SingleBuild.{IsCleanlyBuilt}
use Rattle.model.specs.Kept.{KeepsRecords, IsLeftAlone, LeavesNothing}
use Rattle.witness.specs.Project.{edges, asked, commands, letters, store_of, first_records, second_records, all_records}
use Rattle.witness.specs.Disk.{first_steps, second_steps, first_events, second_events, building, mending, world_of, first, built, edited, last}
use Rattle.witness.specs.Rich.{no_store, first_store}
use Rattle.witness.proofs.RichLists.{none_some, all_has, every, every_number, every_path, same_content, contents_same, other_of}
use Rattle.witness.proofs.Graphs.{numbers, command_within}
use Rattle.witness.proofs.ReadPaths.{verdict_is, verdict}
use Rattle.witness.proofs.Project.{silent, no_depfile}

-- ---- what the logs tell in these files

abbrev with_both : List Record → List DepsRecord → Store
with_both records deps = record { records = records; deps = deps }

module _ (all : OwnFiles) (fits : IsOwnIn all []) (files : View) where
  abbrev told_by : List ℕ → List ℕ → Store
  told_by log other = with_both (read_log letters.records (files log)) (read_log letters.deps (files other))

  pub store_is : (records : List Record) → read_log letters.records (files build_log_name) ≡ records → read_log letters.deps (files deps_log_name) ≡ [] → store_of records ≡ store_in letters all files
  store_is records records_are deps_are =
      sym (
      ap (λ (p : List ℕ). told_by p all.deps_log) fits.build_log
      ∙ (ap (λ (p : List ℕ). told_by build_log_name p) fits.deps_log
      ∙ (ap (λ (rs : List Record). with_both rs (read_log letters.deps (files deps_log_name))) records_are
      ∙ ap (λ (ds : List DepsRecord). with_both records ds) deps_are))
      )

pub at_first : (all : OwnFiles) → IsOwnIn all [] → no_store ≡ store_in letters all (view_of first.history)
at_first all fits = store_is all fits (view_of first.history) [] refl refl

pub at_built : (all : OwnFiles) → IsOwnIn all [] → first_store ≡ store_in letters all (view_of built.history)
at_built all fits = store_is all fits (view_of built.history) first_records refl refl

pub at_edited : (all : OwnFiles) → IsOwnIn all [] → first_store ≡ store_in letters all (view_of edited.history)
at_edited all fits = store_is all fits (view_of edited.history) first_records refl refl

pub at_last : (all : OwnFiles) → IsOwnIn all [] → store_of all_records ≡ store_in letters all (view_of last.history)
at_last all fits = store_is all fits (view_of last.history) all_records refl refl

-- ---- which start was under which stamp

abbrev AllStarts : (ℕ → ℕ → Type 0) → List Event → Type 0
AllStarts P [] = Unit {0}
AllStarts P (Start i act stamp ∷ es) = P i stamp × AllStarts P es
AllStarts P (Finish i ok ∷ es) = AllStarts P es

start_in : (P : ℕ → ℕ → Type 0) (before after : List Event) (i stamp : ℕ) (act : Act) → AllStarts P (before ++ Start i act stamp ∷ after) → P i stamp
start_in P [] after i stamp act all = all.0
start_in P (Start j other since ∷ before) after i stamp act all = start_in P before after i stamp act all.1
start_in P (Finish j ok ∷ before) after i stamp act all = start_in P before after i stamp act all

-- ---- records

abbrev outputs_of : Record → List (List ℕ)
outputs_of (Begun outs) = outs
outputs_of (Done outs start act) = outs

abbrev made_so : Act → ℕ → Option Made
made_so act start = Some (record { act = act; start = start })

abbrev none_made : Option Made
none_made = None

more_records : (o : List ℕ) (held : Option Made) (xs ys : List Record) → in_force_from o held (xs ++ ys) ≡ in_force_from o (in_force_from o held xs) ys
more_records o held [] ys = refl
more_records o held (Begun outs ∷ xs) ys = more_records o (if has outs o then none_made else held) xs ys
more_records o held (Done outs start act ∷ xs) ys = more_records o (if has outs o then made_so act start else held) xs ys

none_tells : (o : List ℕ) (held : Option Made) (rs : List Record) → AllByRecursion (λ r. has (outputs_of r) o ≡ false) rs → in_force_from o held rs ≡ held
none_tells o held [] none = refl
none_tells o held (Begun outs ∷ rs) none = ap (λ (h : Option Made). in_force_from o h rs) (cond-false (has outs o) none_made held none.0) ∙ none_tells o held rs none.1
none_tells o held (Done outs start act ∷ rs) none =
    ap (λ (h : Option Made). in_force_from o h rs) (cond-false (has outs o) (made_so act start) held none.0) ∙ none_tells o held rs none.1

not_made : (steps : List Step) (o : List ℕ) → IsLeftAlone edges steps None o → (i : ℕ) → has_number (started_in steps) i ≡ true → has (outputs (edge_at edges i)) o ≡ false
not_made steps o alone i started = elim (cases_Bool (has (outputs (edge_at edges i)) o)) [
  | inl here ↦ absurd (false≢true (sym (alone i here).0 ∙ started))
  | inr other ↦ other
]

-- each output of the edge has the record of this start
abbrev AreRecorded : List Record → ℕ → ℕ → Type 0
AreRecorded records i stamp = AllByRecursion (λ o. in_force records o ≡ Some (record { act = (edge_at edges i).act; start = stamp })) (outputs (edge_at edges i))

module _ (records added : List Record) (steps : List Step) (history more : List Moment) (es events : List Event) (tick next : ℕ) where
  pub records_kept : AllStarts (AreRecorded (records ++ added)) events → every (has_number (well_in steps)) (started_in steps) ≡ true
      → ((o : List ℕ) → IsLeftAlone edges steps None o → AllByRecursion (λ r. has (outputs_of r) o ≡ false) added)
      → KeepsRecords commands asked (store_of records) (store_of (records ++ added)) steps None (world_of history es tick) (world_of (history ++ more) (es ++ events) next)
  records_kept recorded all_well untold = record {
    well = λ i stamp at o h under ended makes.
        let here = append_cancel_left es events (under.before ++ Start i under.act stamp ∷ under.after) under.splits in
        let all = start_in (AreRecorded (records ++ added)) under.before under.after i stamp under.act (subst (AllStarts (AreRecorded (records ++ added))) here recorded) in
        inl (record {
          done = all_has (λ p. in_force (records ++ added) p ≡ Some (record { act = (edge_at edges i).act; start = stamp })) (outputs (edge_at edges i)) o all makes;
          deps = λ some. absurd (some (no_depfile i));
        });
    others = λ i o started unwell h. absurd (false≢true (sym unwell ∙ every_number (has_number (well_in steps)) (started_in steps) i all_well started));
    begun = λ i o met. absurd (none_some i met);
    deps = λ i o h. inl refl;
    kept = λ o alone. (more_records o None records added ∙ none_tells o (in_force records o) added (untold o alone), refl);
  }

pub first_logs : KeepsRecords commands asked no_store first_store first_steps None first built
first_logs =
    records_kept [] first_records first_steps first.history building [] first_events 0 8
    ((refl, tt), ((refl, tt), ((refl, tt), ((refl, (refl, tt)), ((refl, tt), ((refl, tt), tt)))))) refl
    (λ o alone. (
      made o alone 1 refl,
      (
        made o alone 2 refl,
        (
          made o alone 1 refl,
          (
            made o alone 3 refl,
            (
              made o alone 2 refl,
              (
                made o alone 6 refl,
                (
                  made o alone 3 refl,
                  (
                    made o alone 5 refl,
                    (made o alone 6 refl, (made o alone 7 refl, (made o alone 5 refl, (made o alone 7 refl, tt)))),
                  ),
                ),
              ),
            ),
          ),
        ),
      ),
    ))
  where
    made : (o : List ℕ) → IsLeftAlone edges first_steps None o → (i : ℕ) → has_number (started_in first_steps) i ≡ true → has (outputs (edge_at edges i)) o ≡ false
    made o alone i started = not_made first_steps o alone i started

pub second_logs : KeepsRecords commands asked first_store (store_of all_records) second_steps None edited last
second_logs =
    records_kept first_records second_records second_steps edited.history mending first_events second_events 8 12
    ((refl, tt), ((refl, tt), tt)) refl
    (λ o alone. (made o alone 2 refl, (made o alone 3 refl, (made o alone 3 refl, (made o alone 2 refl, tt)))))
  where
    made : (o : List ℕ) → IsLeftAlone edges second_steps None o → (i : ℕ) → has_number (started_in second_steps) i ≡ true → has (outputs (edge_at edges i)) o ≡ false
    made o alone i started = not_made second_steps o alone i started

-- ---- nothing is left to do, and what is as the clean build gives it, but for the edges of which nothing is said

module _ (is_loud : ℕ → Bool) (quiet : ℕ → Bool) (loud : (i : ℕ) → is_loud i ≡ true → quiet i ≡ true → ⊥) where
  abbrev pub all_but : (ℕ → Bool) → Bool
  all_but test = every (λ i. (edge_at edges i).phony || (is_loud i || test i)) (numbers edges)

  but_at : (test : ℕ → Bool) → all_but test ≡ true → (i : ℕ) → (edge_at edges i).phony ≡ false → quiet i ≡ true → test i ≡ true
  but_at test all i command is_quiet =
      let here = other_of (edge_at edges i).phony (is_loud i || test i) (every_number (λ n. (edge_at edges n).phony || (is_loud n || test n)) (numbers edges) i all (command_within edges i command)) command in
      elim (or_cases (is_loud i) (test i) here) [ inl noisy ↦ absurd (loud i noisy is_quiet) | inr so ↦ so ]

  pub nothing_left : (entry : Store) (records : List Record) (steps : List Step) (old new : List Moment) → view_of new (codes "p") ≡ None
      → all_but (λ i. verdict_is edges records [] new new i false) ≡ true → LeavesNothing quiet asked entry (store_of records) steps old new
  nothing_left entry records steps old new absent all i is_quiet inside command =
      inr (verdict edges refl records [] new new (silent (view_of new) absent) i false (but_at (λ n. verdict_is edges records [] new new n false) all i command is_quiet))

  abbrev pub is_clean : View → ℕ → Bool
  is_clean files i = every (λ o. same_content (files o) (clean_build commands edges files o)) (outputs (edge_at edges i))

  pub cleanly_built : (store : Store) (files : View) → all_but (is_clean files) ≡ true → IsCleanlyBuilt commands quiet asked store files
  cleanly_built store files all i o is_quiet inside command h =
      contents_same (files o) (clean_build commands edges files o)
      (every_path (λ p. same_content (files p) (clean_build commands edges files p)) (outputs (edge_at edges i)) o (but_at (is_clean files) all i command is_quiet) h)
