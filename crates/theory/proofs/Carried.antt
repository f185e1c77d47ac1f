-- A verdict stands: what was settled when an edge was judged is as it was at the exit.
use Rattle.std.proofs.Common.{◌≡◌, ◌≢◌, ◌⊎◌, inl, inr, ℕ, Bool, true, false, IsTrue, List, [], ◌∷◌, ◌++◌, map, Option, Some, None, IsSome, is_some, refl, sym, ◌∙◌, ap, subst, append_assoc}
use Rattle.std.specs.List.{AllByRecursion}
use Rattle.std.proofs.lemmas.Bool.{true≢false}
use Rattle.model.specs.declared.event.Event.TheVariants.{Finish}
use Rattle.model.specs.declared.event.Moment.{Moment}
use Rattle.model.specs.declared.event.Moment.TheVariants.{Happened}
use Rattle.model.specs.declared.graph.Edge.{Edge}
use Rattle.model.specs.World.{World, View, File, file_at, stamp_of, content_of, view_of, IsIdle}
use Rattle.model.specs.Graph.{has, has_number, edge_at, maker, outputs, regular_inputs, inputs, IsMadeOnce, IsCommand}
use Rattle.model.specs.Reading.{Counts, IsAlias, IsRead, Itself, Through}
use Rattle.model.specs.Records.{Store, OwnFiles, recorded_inputs}
use Rattle.model.specs.Judgement.{InputFacts, is_same_number, reason_of}
use Rattle.model.specs.OutOfDate.{is_made_anew, output_facts, input_facts, Counted, ReadsNoFree, IsVerdict}
use Rattle.model.specs.Schedule.{Step, Judged, clean_in, started_in, well_in, done_in}
use Rattle.model.specs.Premises.{IsMaking, FilesAreKept, RecordedApart}
use Rattle.model.specs.SingleBuild.{Asked, task_of}
use Rattle.theory.specs.Run.{IsToldBy, IsRunOrRest, EndOf}
use Rattle.theory.proofs.Lists.{all_parts, same_rest, has-left, has_number-cases, map_same, same_some, some_none}
use Rattle.theory.proofs.Makers.{maker_is, maker_has}
use Rattle.theory.proofs.Steps.{in_left, clean-append, well-append}
use Rattle.theory.proofs.Orderly.{IsKept, kept_orderly}
use Rattle.theory.specs.Order.{IsReadAfter}
use Rattle.theory.proofs.Looks.{kept_before}
use Rattle.theory.proofs.Exit.{end_of, output_unwritten}
use Rattle.theory.proofs.Files.{IsElsewhere, file_stays}
use Rattle.theory.specs.LogLaws.{VerdictStands}
use Rattle.theory.proofs.Kept.{path_unwritten}
use Rattle.theory.proofs.Once.{one_end}

-- ---- the same facts

input_same : (edges : List Edge) (ran : List ℕ) (old mid new : List Moment) (p : List ℕ) → file_at new p ≡ file_at mid p → input_facts edges ran old mid p ≡ input_facts edges ran old new p
input_same edges ran old mid new p same =
    ap (λ (f : Option File). record { stamp = stamp_of f; changed = is_made_anew edges ran (is_same_number (stamp_of (file_at old p)) (stamp_of f)) (maker edges p) }) (sym same)

-- ---- the same reading set

some_input : (q : List ℕ) (qs : List (List ℕ)) → q ∷ qs ≡ [] → ⊥
some_input q qs is = cc

-- whether a path counts by itself rests on files of aliases with inputs alone
module _ (edges : List Edge) (u v : View) (same : (p : List ℕ) (j : ℕ) → IsAlias edges p j → inputs (edge_at edges j) ≢ [] → v p ≡ u p) where
  counts_same : (p : List ℕ) → Counts edges u p → Counts edges v p
  counts_same p (inl no_alias) = inl no_alias
  counts_same p (inr (inr nothing)) = inr (inr nothing)
  counts_same p (inr (inl there)) = by_maker (maker edges p) refl
    where
      by_inputs : (k : ℕ) → maker edges p ≡ Some k → (edge_at edges k).phony ≡ true → (ins : List (List ℕ)) → inputs (edge_at edges k) ≡ ins → Counts edges v p
      by_inputs k is phony [] none = inr (inr (k, record { made = is; phony = phony }, none))
      by_inputs k is phony (q ∷ qs) some =
          inr (inl (subst (λ (held : Option (List ℕ)). IsSome held) (sym (same p k (record { made = is; phony = phony }) (λ none. some_input q qs (sym some ∙ none)))) there))

      by_phony : (k : ℕ) → maker edges p ≡ Some k → (b : Bool) → (edge_at edges k).phony ≡ b → Counts edges v p
      by_phony k is true phony = by_inputs k is phony (inputs (edge_at edges k)) refl
      by_phony k is false command = inl (λ j alias.
          true≢false (sym alias.phony ∙ subst (λ (n : ℕ). (edge_at edges n).phony ≡ false) (same_some k j (sym is ∙ alias.made)) command))

      by_maker : (m : Option ℕ) → maker edges p ≡ m → Counts edges v p
      by_maker None is = inl (λ j alias. some_none j (sym (alias.made) ∙ is))
      by_maker (Some k) is = by_phony k is (edge_at edges k).phony refl

  pub read_same : (i : ℕ) (p : List ℕ) → IsRead edges u i p → IsRead edges v i p
  read_same i p (Itself _ _ h counts) = Itself i p h (counts_same p counts)
  read_same i p (Through _ j q _ h alias below) = Through i j q p h alias (read_same j p below)

pub read_apart : (edges : List Edge) (view : View) (outside : List ℕ → Type 0) → ((k : ℕ) (p : List ℕ) → has (inputs (edge_at edges k)) p ≡ true → outside p) → (i : ℕ) (p : List ℕ) → IsRead edges view i p → outside p
read_apart edges view outside apart i p (Itself _ _ h counts) = apart i p (has-left (regular_inputs (edge_at edges i)) (edge_at edges i).order_only_inputs p h)
read_apart edges view outside apart i p (Through _ j q _ h alias below) = read_apart edges view outside apart j p below

-- Where no path that edge i reads in these files is free, none is that it reads in any files: a phony's own path, which may count
-- there, is an output that it makes, or counts in all files. (For the set of paths that a judgement looks at.)
pub read_bound : (edges : List Edge) (free : List ℕ → Bool) → ((k : ℕ) (p : List ℕ) → IsMaking edges k → has (outputs (edge_at edges k)) p ≡ true → free p ≡ false) → (view other : View) (i : ℕ) → ((p : List ℕ) → IsRead edges view i p → free p ≡ false)
    → (p : List ℕ) → IsRead edges other i p → free p ≡ false
read_bound edges free made view other i bound p (Itself _ _ h counts) = by_maker (maker edges p) refl
  where
    by_inputs : (k : ℕ) → maker edges p ≡ Some k → (edge_at edges k).phony ≡ true → (ins : List (List ℕ)) → inputs (edge_at edges k) ≡ ins → free p ≡ false
    by_inputs k is phony [] none = bound p (Itself i p h (inr (inr (k, record { made = is; phony = phony }, none))))
    by_inputs k is phony (q ∷ qs) some = made k p (inr (λ none. some_input q qs (sym some ∙ none))) (maker_has edges p k is)

    by_phony : (k : ℕ) → maker edges p ≡ Some k → (b : Bool) → (edge_at edges k).phony ≡ b → free p ≡ false
    by_phony k is true phony = by_inputs k is phony (inputs (edge_at edges k)) refl
    by_phony k is false command = bound p (Itself i p h (inl (λ j alias.
        true≢false (sym alias.phony ∙ subst (λ (n : ℕ). (edge_at edges n).phony ≡ false) (same_some k j (sym is ∙ alias.made)) command))))

    by_maker : (m : Option ℕ) → maker edges p ≡ m → free p ≡ false
    by_maker None is = bound p (Itself i p h (inl (λ j alias. some_none j (sym (alias.made) ∙ is))))
    by_maker (Some k) is = by_phony k is (edge_at edges k).phony refl
read_bound edges free made view other i bound p (Through _ j q _ h alias below) =
    read_bound edges free made view other j (λ r read. bound r (Through i j q r h alias read)) p below

-- ---- from a point of the run to its exit

module _ (tells : Bool) (own : OwnFiles) (asked : Asked) (store : Store) (before later : List Step) (old mid now : World) (more : List Moment)
    (tell : IsTrue tells) (idle : IsIdle old.events) (once : IsMadeOnce asked.graph.edges)
    (first : IsRunOrRest tells own (task_of asked store) before old mid) (last : IsRunOrRest tells own (task_of asked store) (before ++ later) old now) (grows : now.history ≡ mid.history ++ more)
    (files : FilesAreKept own asked.graph.edges old.history now.history) where
  files_mid : FilesAreKept own asked.graph.edges old.history mid.history
  files_mid = kept_before own asked.graph.edges old.history mid.history now.history more grows files

  few : IsKept asked.graph.edges before
  few = kept_orderly asked.graph.edges before first.orderly

  many : IsKept asked.graph.edges (before ++ later)
  many = kept_orderly asked.graph.edges (before ++ later) last.orderly

  -- where no started command makes the path, neither before nor after
  never : (p : List ℕ) → own.set p ≡ false → files.free p ≡ false → ((j : ℕ) → has (outputs (edge_at asked.graph.edges j)) p ≡ true → IsCommand asked.graph.edges j → (has_number (started_in before) j ≡ true → ⊥) × (has_number (started_in (before ++ later)) j ≡ true → ⊥))
      → AllByRecursion (IsElsewhere p) more
  never p outside bound unstarted =
      (all_parts (IsElsewhere p) told_mid.more more (path_unwritten tells own (task_of asked store) (before ++ later) old now idle last tell once files p outside bound
      (λ j started makes. (unstarted j makes (many.judged j (many.out_of_date j (many.started j started)))).1 started)
      (told_mid.more ++ more) (grows ∙ (ap (λ (l : List Moment). l ++ more) told_mid.grows ∙ append_assoc old.history told_mid.more more)))).1
    where
      told_mid : IsToldBy own asked.graph.edges before old.events (first.first ++ first.later) old.history mid.history
      told_mid = first.history tell

  -- what was settled is not written any more
  pub settled_unwritten : (p : List ℕ) → own.set p ≡ false → files.free p ≡ false → ((j : ℕ) → maker asked.graph.edges p ≡ Some j → IsCommand asked.graph.edges j → has_number (done_in before) j ≡ true) → AllByRecursion (IsElsewhere p) more
  settled_unwritten p outside bound settled = by_maker (maker asked.graph.edges p) refl
    where
      its_maker : (j k : ℕ) → maker asked.graph.edges p ≡ Some j → has (outputs (edge_at asked.graph.edges k)) p ≡ true → j ≡ k
      its_maker j k is makes = same_some j k (sym is ∙ maker_is asked.graph.edges p k once makes)

      ended : (j : ℕ) → maker asked.graph.edges p ≡ Some j → has_number (well_in before) j ≡ true → AllByRecursion (IsElsewhere p) more
      ended j is well =
          (all_parts (IsElsewhere p) early.after more (subst (λ (l : List Moment). AllByRecursion (IsElsewhere p) l) after_is
          (output_unwritten tells own (task_of asked store) (before ++ later) old now idle last tell once files j (few.judged j (few.out_of_date j (few.started j (few.ended j (few.well j well))))) p (maker_has asked.graph.edges p j is) late))).1
        where
          early : EndOf own asked.graph.edges before j old.history mid.history
          early = end_of tells own (task_of asked store) before old mid idle first tell j well

          late : EndOf own asked.graph.edges (before ++ later) j old.history now.history
          late = end_of tells own (task_of asked store) (before ++ later) old now idle last tell j (in_left well_in well-append before later j well)

          grows_early : now.history ≡ old.history ++ (early.before ++ Happened (Finish j true) ∷ (early.after ++ more))
          grows_early = grows ∙ (ap (λ (l : List Moment). l ++ more) early.grows ∙ (append_assoc old.history (early.before ++ Happened (Finish j true) ∷ early.after) more
              ∙ ap (λ (l : List Moment). old.history ++ l) (append_assoc early.before (Happened (Finish j true) ∷ early.after) more)))

          same : old.history ++ late.before ≡ old.history ++ early.before
          same = one_end tells own (task_of asked store) (before ++ later) old now idle last tell j (old.history ++ late.before) (old.history ++ early.before)
              (record { before = late.before; after = late.after; is = refl; splits = late.grows })
              (record {
                before = early.before;
                after = early.after ++ more;
                is = refl;
                splits = grows_early;
              })

          after_is : late.after ≡ early.after ++ more
          after_is = tails (same_rest early.before (Happened (Finish j true) ∷ late.after) (Happened (Finish j true) ∷ (early.after ++ more))
              (ap (λ (l : List Moment). l ++ Happened (Finish j true) ∷ late.after) (sym (same_rest old.history late.before early.before same))
              ∙ same_rest old.history (late.before ++ Happened (Finish j true) ∷ late.after) (early.before ++ Happened (Finish j true) ∷ (early.after ++ more)) (sym late.grows ∙ grows_early)))
            where
              tails : {x : Moment} {xs ys : List Moment} → x ∷ xs ≡ x ∷ ys → xs ≡ ys
              tails is = cc

      by_done : (j : ℕ) → maker asked.graph.edges p ≡ Some j → (has_number (clean_in before) j ≡ true) ⊎ (has_number (well_in before) j ≡ true) → AllByRecursion (IsElsewhere p) more
      by_done j is (inr well) = ended j is well
      by_done j is (inl clean) = never p outside bound (λ k makes command.
          let this = its_maker j k is makes in
          let k_clean = subst (λ (n : ℕ). has_number (clean_in before) n ≡ true) this clean in (
            (λ started. few.apart k k_clean (few.started k started)),
            (λ started. many.apart k (in_left clean_in clean-append before later k k_clean) (many.started k started)),
          ))

      by_phony : (j : ℕ) → maker asked.graph.edges p ≡ Some j → (b : Bool) → (edge_at asked.graph.edges j).phony ≡ b → AllByRecursion (IsElsewhere p) more
      by_phony j is false command = by_done j is (has_number-cases (clean_in before) (well_in before) j (settled j is command))
      by_phony j is true phony = never p outside bound (λ k makes command.
          let this = its_maker j k is makes in
          absurd (true≢false (sym phony ∙ subst (λ (n : ℕ). (edge_at asked.graph.edges n).phony ≡ false) (sym this) command)))

      by_maker : (m : Option ℕ) → maker asked.graph.edges p ≡ m → AllByRecursion (IsElsewhere p) more
      by_maker None is = never p outside bound (λ k makes command. absurd (some_none k (sym (maker_is asked.graph.edges p k once makes) ∙ is)))
      by_maker (Some j) is = by_phony j is (edge_at asked.graph.edges j).phony refl

  -- what was settled is as it was
  pub settled_stays : (p : List ℕ) → own.set p ≡ false → files.free p ≡ false → ((j : ℕ) → maker asked.graph.edges p ≡ Some j → IsCommand asked.graph.edges j → has_number (done_in before) j ≡ true) → file_at now.history p ≡ file_at mid.history p
  settled_stays p outside bound settled = ap (λ (h : List Moment). file_at h p) grows ∙ file_stays p mid.history more (settled_unwritten p outside bound settled)

-- ---- from the judgement of an edge

module _ (tells : Bool) (own : OwnFiles) (asked : Asked) (store : Store) (before after : List Step) (i : ℕ) (b : Bool) (old mid now : World) (more : List Moment)
    (tell : IsTrue tells) (idle : IsIdle old.events) (once : IsMadeOnce asked.graph.edges)
    (first : IsRunOrRest tells own (task_of asked store) before old mid) (last : IsRunOrRest tells own (task_of asked store) (before ++ Judged i b ∷ after) old now) (grows : now.history ≡ mid.history ++ more)
    (files : FilesAreKept own asked.graph.edges old.history now.history) (apart : RecordedApart own (recorded_inputs store asked.graph.edges))
    (after_makers : IsReadAfter asked.graph.edges (λ k p. Counted asked.graph.edges store now.history k p) (done_in before) i) where
  stays : (p : List ℕ) → own.set p ≡ false → files.free p ≡ false → ((j : ℕ) → maker asked.graph.edges p ≡ Some j → IsCommand asked.graph.edges j → has_number (done_in before) j ≡ true) → file_at now.history p ≡ file_at mid.history p
  stays p outside bound settled = settled_stays tells own asked store before (Judged i b ∷ after) old mid now more tell idle once first last grows files p outside bound settled

  view_same : (p : List ℕ) (j : ℕ) → IsAlias asked.graph.edges p j → inputs (edge_at asked.graph.edges j) ≢ [] → view_of now.history p ≡ view_of mid.history p
  view_same p j alias some = ap content_of (stays p (files.own_files.outputs j p (maker_has asked.graph.edges p j alias.made)) (files.free_apart.outputs j p (inr some) (maker_has asked.graph.edges p j alias.made))
      (λ k made command. absurd (true≢false (sym alias.phony ∙ subst (λ (n : ℕ). (edge_at asked.graph.edges n).phony ≡ false) (same_some k j (sym made ∙ alias.made)) command))))

  pub counted_on : (p : List ℕ) → Counted asked.graph.edges store mid.history i p → Counted asked.graph.edges store now.history i p
  counted_on p (inl read) = inl (read_same asked.graph.edges (view_of mid.history) (view_of now.history) view_same i p read)
  counted_on p (inr recorded) = inr recorded

  counted_back : (p : List ℕ) → Counted asked.graph.edges store now.history i p → Counted asked.graph.edges store mid.history i p
  counted_back p (inl read) = inl (read_same asked.graph.edges (view_of now.history) (view_of mid.history) (λ q j alias some. sym (view_same q j alias some)) i p read)
  counted_back p (inr recorded) = inr recorded

  counted_stays : ReadsNoFree files.free asked.graph.edges store now.history i → (p : List ℕ) → Counted asked.graph.edges store mid.history i p → file_at now.history p ≡ file_at mid.history p
  counted_stays unread p (inl read) =
      stays p (read_apart asked.graph.edges (view_of mid.history) (λ q. own.set q ≡ false) files.own_files.inputs i p read) (unread p (counted_on p (inl read))) (λ j made command. after_makers p j (counted_on p (inl read)) made command)
  counted_stays unread p (inr recorded) = stays p (apart i p recorded) (unread p (inr recorded)) (λ j made command. after_makers p j (inr recorded) made command)

  stands : ReadsNoFree files.free asked.graph.edges store now.history i → IsVerdict asked.graph.edges store (well_in before) old.history mid.history i b → IsVerdict asked.graph.edges store (well_in before) old.history now.history i b
  stands unread verdict = record {
    read = verdict.read;
    counted = λ p. ((λ h. counted_on p ((verdict.counted p).0 h)), (λ counted. (verdict.counted p).1 (counted_back p counted)));
    verdict = verdict.verdict ∙ ap (λ (fs : List InputFacts). is_some (reason_of (record {
      act = (edge_at asked.graph.edges i).act;
      restat = (edge_at asked.graph.edges i).restat;
      deps = (edge_at asked.graph.edges i).deps;
      depfile = is_some (file_at old.history (edge_at asked.graph.edges i).act.depfile);
      outputs = map (output_facts store old.history) (outputs (edge_at asked.graph.edges i));
      inputs = fs;
    }))) (map_same (input_facts asked.graph.edges (well_in before) old.history mid.history) (input_facts asked.graph.edges (well_in before) old.history now.history) verdict.read
        (λ p h. input_same asked.graph.edges (well_in before) old.history mid.history now.history p (counted_stays unread p ((verdict.counted p).0 h))));
  }

pub verdict_stands : VerdictStands
verdict_stands tells own asked store before after i b old mid now more tell idle once first last grows files apart after_makers unread verdict =
    stands tells own asked store before after i b old mid now more tell idle once first last grows files apart after_makers unread verdict
