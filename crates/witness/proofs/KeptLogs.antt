-- What each build leaves in the logs, and that a success leaves nothing to do.
use Rattle.std.proofs.Common.{◌≡◌, ◌≢◌, ◌⊎◌, inl, inr, ℕ, Bool, true, false, List, [], ◌∷◌, ◌++◌, Option, Some, None, refl, sym, ◌∙◌, subst, arith}
use Rattle.std.proofs.lemmas.Bool.{false≢true, cases_Bool}
use Rattle.std.proofs.lemmas.List.{append_cancel_left}
use Rattle.std.specs.Prelude.{codes}
use Rattle.model.specs.declared.act.Act.{Act}
use Rattle.model.specs.declared.event.Event.{Event}
use Rattle.model.specs.declared.event.Event.TheVariants.{Start, Finish}
use Rattle.model.specs.declared.event.Moment.{Moment}
use Rattle.model.specs.World.{view_of}
use Rattle.model.specs.Graph.{Addition, has, has_number, edge_at, outputs, StandsTwice}
use Rattle.model.specs.Outcome.{Behaviour, depfile_in, listed}
use Rattle.model.specs.Records.{Store, ListsOnce, in_force, deps_in_force}
use Rattle.model.specs.OutOfDate.{IsVerdict}
use Rattle.model.specs.Schedule.{Step, started_in}
use Rattle.model.specs.Kept.{KeepsRecords, KeepsDeps, IsRecorded, IsLeftAlone, LeavesNothing}
use Rattle.witness.specs.Scanning.{cat, scan, edges, asked, toys}
use Rattle.witness.specs.Worlds.{succeeding, again, named, failed, edited, stopped, restarted_world, built_events, built, edited_again, more_events, last}
use Rattle.witness.proofs.MetLists.{none_some}
use Rattle.witness.proofs.Given.{ReadsNames}
use Rattle.witness.proofs.TwoEdges.{one_or_two, makes, is_one, is_two, counts_g, counts_all}
use Rattle.witness.proofs.TwoBuilt.{told_by, told_at}
use Rattle.witness.proofs.Between.{no_store, failed_store, stopped_store, built_store, last_store, failing_steps, stopping_steps, good_steps, all_steps, succeeding_ends, again_ends}

not_two : (i : ℕ) → i ≡ 1 → i ≡ 2 → ⊥
not_two i one two = omega (arith, one, two)

-- ---- what was told

names_depfile : scan.depfile ≢ []
names_depfile e = cc

h_once : (p : List ℕ) → StandsTwice (codes "h" ∷ []) p → ⊥
h_once p twice = none_twice twice.before twice.after twice.splits twice.earlier
  where
    none_twice : (before after : List (List ℕ)) → codes "h" ∷ [] ≡ before ++ p ∷ after → has before p ≡ true → ⊥
    none_twice [] after is h = false≢true h
    none_twice (x ∷ []) after is h = cc
    none_twice (x ∷ y ∷ before) after is h = cc

lists_h : (read : Option (List (List ℕ))) → read ≡ Some (codes "h" ∷ []) → ListsOnce (codes "h" ∷ []) (listed read)
lists_h read is = record { same = λ p. subst (λ (other : Option (List (List ℕ))). has (codes "h" ∷ []) p ≡ has (listed other) p) (sym is) refl; once = h_once }

-- ---- which start was under which stamp

scan_start : (start i stamp : ℕ) (act : Act) (before after : List Event) → Start 2 scan start ∷ Finish 2 true ∷ [] ≡ before ++ Start i act stamp ∷ after → start ≡ stamp
scan_start start i stamp act [] after is = cc
scan_start start i stamp act (x ∷ []) after is = cc
scan_start start i stamp act (x ∷ y ∷ []) after is = cc
scan_start start i stamp act (x ∷ y ∷ z ∷ before) after is = cc

abbrev AreStarts : ℕ → ℕ → ℕ → ℕ → Type 0
AreStarts first second i stamp = ((i ≡ 1) × (first ≡ stamp)) ⊎ ((i ≡ 2) × (second ≡ stamp))

two_starts : (first second : ℕ) (ok : Bool) (i stamp : ℕ) (act : Act) (before after : List Event)
    → Start 1 cat first ∷ Finish 1 true ∷ Start 2 scan second ∷ Finish 2 ok ∷ [] ≡ before ++ Start i act stamp ∷ after → AreStarts first second i stamp
two_starts first second ok i stamp act [] after is = let one : 1 ≡ i = cc in let same : first ≡ stamp = cc in inl (sym one, same)
two_starts first second ok i stamp act (x ∷ []) after is = cc
two_starts first second ok i stamp act (x ∷ y ∷ []) after is = let two : 2 ≡ i = cc in let same : second ≡ stamp = cc in inr (sym two, same)
two_starts first second ok i stamp act (x ∷ y ∷ z ∷ []) after is = cc
two_starts first second ok i stamp act (x ∷ y ∷ z ∷ w ∷ []) after is = cc
two_starts first second ok i stamp act (x ∷ y ∷ z ∷ w ∷ v ∷ before) after is = cc

of_first : (first second i stamp : ℕ) → AreStarts first second i stamp → i ≡ 1 → first ≡ stamp
of_first first second i stamp (inl one) is = one.1
of_first first second i stamp (inr two) is = absurd (not_two i is two.0)

of_second : (first second i stamp : ℕ) → AreStarts first second i stamp → i ≡ 2 → second ≡ stamp
of_second first second i stamp (inl one) is = absurd (not_two i one.0 is)
of_second first second i stamp (inr two) is = two.1

-- ---- paths that no started edge makes

not_made : (steps : List Step) (i : ℕ) (o : List ℕ) → IsLeftAlone edges steps None o → has_number (started_in steps) i ≡ true → has (outputs (edge_at edges i)) o ≡ false
not_made steps i o alone started = elim (cases_Bool (has (outputs (edge_at edges i)) o)) [
  | inl here ↦ absurd (false≢true (sym (alone i here).0 ∙ started))
  | inr other ↦ other
]

-- ---- nothing is left to do

abbrev IsClean : Store → List Moment → ℕ → Type 0
IsClean store files i = IsVerdict edges store [] files files i false

both_clean : (store : Store) (files : List Moment) → IsClean store files 1 → IsClean store files 2 → (i : ℕ) → (i ≡ 1) ⊎ (i ≡ 2) → IsClean store files i
both_clean store files first second i (inl one) = subst (IsClean store files) (sym one) first
both_clean store files first second i (inr two) = subst (IsClean store files) (sym two) second

clean_built : (i : ℕ) → (i ≡ 1) ⊎ (i ≡ 2) → IsClean built_store built.history i
clean_built =
    both_clean built_store built.history
    (record { read = codes "g" ∷ []; counted = counts_g built_store (codes "h" ∷ []) refl refl (refl, tt) built.history; verdict = refl })
    (record { read = codes "a" ∷ codes "h" ∷ []; counted = counts_all built_store (codes "h" ∷ []) refl refl (refl, tt) built.history; verdict = refl })

clean_last : (i : ℕ) → (i ≡ 1) ⊎ (i ≡ 2) → IsClean last_store last.history i
clean_last =
    both_clean last_store last.history
    (record { read = codes "g" ∷ []; counted = counts_g last_store (codes "h" ∷ []) refl refl (refl, tt) last.history; verdict = refl })
    (record { read = codes "a" ∷ codes "h" ∷ []; counted = counts_all last_store (codes "h" ∷ []) refl refl (refl, tt) last.history; verdict = refl })

pub nothing_left : (quiet : ℕ → Bool) → LeavesNothing quiet asked stopped_store built_store good_steps restarted_world.history built.history
nothing_left quiet i is_quiet within command = inr (clean_built i (one_or_two i command))

pub nothing_left_again : (quiet : ℕ → Bool) → LeavesNothing quiet asked built_store last_store all_steps edited_again.history last.history
nothing_left_again quiet i is_quiet within command = inr (clean_last i (one_or_two i command))

-- ---- the builds

module _ (reading : List ℕ → Option (List (List ℕ))) (dyndep : List ℕ → Option (List Addition)) (reads : ReadsNames reading) where
  abbrev B : Behaviour
  B = toys reading dyndep

  abbrev Tells : List Moment → ℕ → Type 0
  Tells at i = depfile_in B (edge_at edges i).act (view_of at) ≡ Some (told_by i)

  -- an edge's output, by which edge it is
  by_edge : (P : ℕ → List ℕ → Type 0) (i : ℕ) (o : List ℕ) → has (outputs (edge_at edges i)) o ≡ true → (i ≡ 1 → P 1 (codes "h")) → (i ≡ 2 → P 2 (codes "b")) → P i o
  by_edge P i o h first second = elim (makes i o h) [
    | inl one ↦ subst (λ (n : ℕ). P n o) (sym one.0) (subst (P 1) (sym one.1) (first one.0))
    | inr two ↦ subst (λ (n : ℕ). P n o) (sym two.0) (subst (P 2) (sym two.1) (second two.0))
  ]

  -- a run that started so is recorded in a store that tells of it
  copy_recorded : (store : Store) (start stamp : ℕ) (at : List Moment) → start ≡ stamp → in_force store.records (codes "h") ≡ Some (record { act = cat; start = start })
      → IsRecorded B edges store 1 stamp at (codes "h")
  copy_recorded store start stamp at same made = record {
    done = subst (λ (n : ℕ). in_force store.records (codes "h") ≡ Some (record { act = cat; start = n })) same made;
    deps = λ some. absurd (some refl);
  }

  scan_recorded : (store : Store) (start stamp : ℕ) (at : List Moment) → start ≡ stamp → Tells at 2 → in_force store.records (codes "b") ≡ Some (record { act = scan; start = start })
      → deps_in_force store.deps (codes "b") ≡ Some (record { start = start; paths = codes "h" ∷ [] })
      → IsRecorded B edges store 2 stamp at (codes "b")
  scan_recorded store start stamp at same tells made known = record {
    done = subst (λ (n : ℕ). in_force store.records (codes "b") ≡ Some (record { act = scan; start = n })) same made;
    deps = λ some. (record { start = start; paths = codes "h" ∷ [] }, known, same, lists_h (depfile_in B scan (view_of at)) tells);
  }

  pub failing_logs : KeepsRecords B asked no_store failed_store failing_steps None named failed
  failing_logs = record {
    well = λ i stamp at o h under ended makes_it.
        let one = is_one i h in
        let same = of_first 6 11 i stamp (two_starts 6 11 false i stamp under.act under.before under.after under.splits) one in
        inl (by_edge (λ (n : ℕ) (p : List ℕ). IsRecorded B edges failed_store n stamp at p) i o makes_it (λ first. copy_recorded failed_store 6 stamp at same refl) (λ second. absurd (not_two i one second)));
    others = λ i o started unwell h.
        by_edge (λ (n : ℕ) (p : List ℕ). in_force failed_store.records p ≡ None) i o h
        (λ first. absurd (false≢true (sym unwell ∙ subst (λ (n : ℕ). has_number (1 ∷ []) n ≡ true) (sym first) refl))) (λ second. refl);
    begun = λ i o met. absurd (none_some i met);
    deps = λ i o h. inl refl;
    kept = λ o alone. (rw (not_made failing_steps 1 o alone refl) (rw (not_made failing_steps 2 o alone refl) refl), refl);
  }

  pub stopping_logs : KeepsRecords B asked failed_store stopped_store stopping_steps None edited stopped
  stopping_logs = record {
    well = λ i stamp at o h. absurd (false≢true h);
    others = λ i o started unwell h.
        let two = is_two i started in
        by_edge (λ (n : ℕ) (p : List ℕ). in_force stopped_store.records p ≡ None) i o h (λ first. absurd (not_two i first two)) (λ second. refl);
    begun = λ i o met. absurd (none_some i met);
    deps = λ i o h. inl refl;
    kept = λ o alone. (rw (not_made stopping_steps 2 o alone refl) refl, refl);
  }

  pub succeeding_logs : KeepsRecords B asked stopped_store built_store good_steps None restarted_world built
  succeeding_logs = record {
    well = λ i stamp at o h under ended makes_it.
        let two = is_two i h in
        let same = scan_start 20 i stamp under.act under.before under.after under.splits in
        let tells = told_at reading dyndep stopped_store [] refl refl tt good_steps restarted_world.history succeeding (succeeding_ends reading dyndep reads) i at ended in
        inl (by_edge (λ (n : ℕ) (p : List ℕ). IsRecorded B edges built_store n stamp at p) i o makes_it (λ first. absurd (not_two i first two))
        (λ second. scan_recorded built_store 20 stamp at same (subst (Tells at) two tells) refl refl));
    others = λ i o started unwell h. absurd (false≢true (sym unwell ∙ started));
    begun = λ i o met. absurd (none_some i met);
    deps = λ i o h.
        by_edge (λ (n : ℕ) (p : List ℕ). KeepsDeps edges stopped_store built_store n restarted_world built p) i o h (λ first. inl refl)
        (λ second. inr (names_depfile, (record { start = 20; paths = codes "h" ∷ [] }, refl, record { act = scan; before = []; after = Finish 2 true ∷ []; splits = refl })));
    kept = λ o alone. (rw (not_made good_steps 2 o alone refl) refl, rw (not_made good_steps 2 o alone refl) refl);
  }

  pub again_logs : KeepsRecords B asked built_store last_store all_steps None edited_again last
  again_logs = record {
    well = λ i stamp at o h under ended makes_it.
        let starts = two_starts 29 34 true i stamp under.act under.before under.after
        (append_cancel_left built_events more_events (under.before ++ Start i under.act stamp ∷ under.after) under.splits) in
        let tells = told_at reading dyndep built_store (codes "h" ∷ []) refl refl (refl, tt) all_steps edited_again.history again (again_ends reading dyndep reads) i at ended in
        inl (by_edge (λ (n : ℕ) (p : List ℕ). IsRecorded B edges last_store n stamp at p) i o makes_it (λ first. copy_recorded last_store 29 stamp at (of_first 29 34 i stamp starts first) refl)
        (λ second. scan_recorded last_store 34 stamp at (of_second 29 34 i stamp starts second) (subst (Tells at) second tells) refl refl));
    others = λ i o started unwell h. absurd (false≢true (sym unwell ∙ started));
    begun = λ i o met. absurd (none_some i met);
    deps = λ i o h.
        by_edge (λ (n : ℕ) (p : List ℕ). KeepsDeps edges built_store last_store n edited_again last p) i o h (λ first. inl refl)
        (λ second. inr (names_depfile, (record { start = 34; paths = codes "h" ∷ [] }, refl, record { act = scan; before = Start 1 cat 29 ∷ Finish 1 true ∷ []; after = Finish 2 true ∷ []; splits = refl })));
    kept = λ o alone. (rw (not_made all_steps 1 o alone refl) (rw (not_made all_steps 2 o alone refl) refl), rw (not_made all_steps 2 o alone refl) refl);
  }
