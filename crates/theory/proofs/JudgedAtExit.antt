-- Verdicts, and depfiles that were read, from their moment to the exit.
use Rattle.std.proofs.Common.{◌≡◌, ◌⊎◌, inl, inr, ℕ, ◌==◌, ◌||◌, Bool, true, false, IsTrue, List, [], ◌∷◌, ◌++◌, Option, Some, refl, sym, ◌∙◌, ap, subst, append_assoc}
use Rattle.std.proofs.lemmas.List.{append-nil}
use Rattle.std.proofs.lemmas.Bool.{false≢true, true≢false, cases_Bool, eqb-true}
use Rattle.model.specs.declared.event.Event.{Event}
use Rattle.model.specs.declared.event.Event.TheVariants.{Finish}
use Rattle.model.specs.declared.event.Moment.{Moment}
use Rattle.model.specs.declared.event.Moment.TheVariants.{Happened}
use Rattle.model.specs.declared.graph.Edge.{Edge}
use Rattle.model.specs.World.{World, View, view_of, events_in}
use Rattle.model.specs.Graph.{has, has_number, edge_at, maker, inputs, regular_inputs, IsCommand}
use Rattle.model.specs.Outcome.{Behaviour, depfile_in, is_accepted}
use Rattle.model.specs.Reading.{IsRead, Itself, Through}
use Rattle.model.specs.Records.{Store, OwnFiles, recorded_inputs}
use Rattle.model.specs.OutOfDate.{Counted, ReadsNoFree, IsVerdict}
use Rattle.model.specs.Schedule.{Step, Judged, Ended, ended_in, well_in, done_in, IsSettled, Done, Alias, MayBeJudged, IsLawful}
use Rattle.model.specs.Premises.{FilesAreKept, RecordedApart, EndedAt}
use Rattle.model.specs.SingleBuild.{Asked, task_of, EndRightly}
use Rattle.theory.specs.Order.{IsReadAfter}
use Rattle.theory.specs.Run.{IsRunOrRest}
use Rattle.theory.proofs.Lists.{same_rest, has-left, has-right, place_in, has_number-append, has_number-one}
use Rattle.theory.proofs.Looks.{kept_before}
use Rattle.theory.proofs.Moments.{events_in-append}
use Rattle.theory.proofs.Settled.{settled_command}
use Rattle.theory.proofs.Steps.{lawful_parts, ended-append, well-append}
use Rattle.theory.specs.Judged.{JudgedThen, AreJudgedThen, VerdictsAtExit}
use Rattle.theory.proofs.Carried.{counted_on, verdict_stands}

-- ---- what is read is made by what is done

-- where the inputs of an edge are settled, commands that make what it reads are done
read_done : (edges : List Edge) (view : View) (done : List ℕ) (k : ℕ) (p : List ℕ) → IsRead edges view k p
    → ((q : List ℕ) (j : ℕ) → has (inputs (edge_at edges k)) q ≡ true → maker edges q ≡ Some j → IsSettled edges done j)
    → (j : ℕ) → maker edges p ≡ Some j → IsCommand edges j → has_number done j ≡ true
read_done edges view done k p (Itself _ _ h counts) settled j made command =
    settled_command edges done j command (settled p j (has-left (regular_inputs (edge_at edges k)) (edge_at edges k).order_only_inputs p h) made)
read_done edges view done k p (Through _ a q _ h alias below) settled j made command =
    read_done edges view done a p below (through a alias.phony (settled q a (has-left (regular_inputs (edge_at edges k)) (edge_at edges k).order_only_inputs q h) alias.made)) j made command
  where
    through : (a : ℕ) → (edge_at edges a).phony ≡ true → IsSettled edges done a → (r : List ℕ) (m : ℕ) → has (inputs (edge_at edges a)) r ≡ true → maker edges r ≡ Some m → IsSettled edges done m
    through a phony (Done _ command_a is) r m input is_made = absurd (true≢false (sym phony ∙ command_a))
    through a phony (Alias _ also settled_below) r m input is_made = settled_below r m input is_made

pub verdicts_at_exit : VerdictsAtExit
verdicts_at_exit tells B own asked store steps met old now tell idle once lawful rest judged files apart taken_in = record {
  verdicts = λ before after i b splits. by_then before after i b splits (judged before after i b splits);
  ended = taken_in;
}
  where
    by_then : (before after : List Step) (i : ℕ) (b : Bool) → steps ≡ before ++ Judged i b ∷ after → JudgedThen tells own asked store before i b old now
        → ReadsNoFree files.free asked.graph.edges store now.history i → IsVerdict asked.graph.edges store (well_in before) old.history now.history i b
    by_then before after i b splits was unread =
        verdict_stands tells own asked store before after i b old was.mid now was.more tell idle once was.run
        (subst (λ (l : List Step). IsRunOrRest tells own (task_of asked store) l old now) splits rest) (was.grows tell) files apart counted unread
        (was.right tell (kept_before own asked.graph.edges old.history was.mid.history now.history was.more (was.grows tell) files) apart
        (λ p counts. unread p (counted_on tells own asked store before after i b old was.mid now was.more tell idle once was.run
        (subst (λ (l : List Step). IsRunOrRest tells own (task_of asked store) l old now) splits rest) (was.grows tell) files apart counted p counts)))
      where
        turn : MayBeJudged (task_of asked store) before i
        turn = (lawful_parts (task_of asked store) [] before (Judged i b ∷ after) (subst (λ (l : List Step). IsLawful (task_of asked store) l) splits lawful)).1.0.0

        counted : IsReadAfter asked.graph.edges (λ k p. Counted asked.graph.edges store now.history k p) (done_in before) i
        counted p j (inl read) made command = read_done asked.graph.edges (view_of now.history) (done_in before) i p read
            (λ q k input is. turn.ready q (has-left (inputs (edge_at asked.graph.edges i)) (recorded_inputs store asked.graph.edges i) q input) k is) j made command
        counted p j (inr recorded) made command = settled_command asked.graph.edges (done_in before) j command
            (turn.ready p (has-right (inputs (edge_at asked.graph.edges i)) (recorded_inputs store asked.graph.edges i) p recorded) j made)

-- ---- verdicts are carried

module _ (tells : Bool) (own : OwnFiles) (asked : Asked) (store : Store) (old : World) where
  no_judgement : (before after : List Step) (i : ℕ) (b : Bool) → [] ≡ before ++ Judged i b ∷ after → ⊥
  no_judgement [] after i b is = cc
  no_judgement (s ∷ before) after i b is = cc

  pub judged_nothing : (now : World) → AreJudgedThen tells own asked store [] old now
  judged_nothing now before after i b is = absurd (no_judgement before after i b is)

  -- the site goes on
  pub judged_on : (steps : List Step) (now new : World) (ms : List Moment) → (IsTrue tells → new.history ≡ now.history ++ ms) → AreJudgedThen tells own asked store steps old now → AreJudgedThen tells own asked store steps old new
  judged_on steps now new ms grows judged before after i b splits =
      let was = judged before after i b splits in
      record {
        mid = was.mid;
        run = was.run;
        more = was.more ++ ms;
        grows = λ tell. grows tell ∙ (ap (λ (l : List Moment). l ++ ms) (was.grows tell) ∙ append_assoc was.mid.history was.more ms);
        right = was.right;
      }

  -- a step that is no judgement
  pub judged_other : (steps : List Step) (step : Step) (now : World) → ((i : ℕ) (b : Bool) → step ≡ Judged i b → ⊥) → AreJudgedThen tells own asked store steps old now
      → AreJudgedThen tells own asked store (steps ++ step ∷ []) old now
  judged_other steps step now other judged before after i b splits = elim (place_in steps (step ∷ []) before after (Judged i b) splits) [
    | inl (rest, first) ↦ judged before rest i b first
    | inr (rest, first, second) ↦ absurd (not_there rest second)
  ]
    where
      not_there : (rest : List Step) → step ∷ [] ≡ rest ++ Judged i b ∷ after → ⊥
      not_there [] is = let same : step ≡ Judged i b = cc in other i b same
      not_there (r ∷ rest) is =
          let tail : [] ≡ rest ++ Judged i b ∷ after = cc in
          no_judgement rest after i b tail

  -- an edge is judged, rightly by the files of now
  pub judged_now : (steps : List Step) (now : World) (i : ℕ) (b : Bool) → IsRunOrRest tells own (task_of asked store) steps old now
      → (IsTrue tells → (files : FilesAreKept own asked.graph.edges old.history now.history) → RecordedApart own (recorded_inputs store asked.graph.edges)
      → ReadsNoFree files.free asked.graph.edges store now.history i → IsVerdict asked.graph.edges store (well_in steps) old.history now.history i b)
      → AreJudgedThen tells own asked store steps old now → AreJudgedThen tells own asked store (steps ++ Judged i b ∷ []) old now
  judged_now steps now i b run right judged before after j c splits = elim (place_in steps (Judged i b ∷ []) before after (Judged j c) splits) [
    | inl (rest, first) ↦ judged before rest j c first
    | inr (rest, first, second) ↦ by_place rest first second
  ]
    where
      by_place : (rest : List Step) → before ≡ steps ++ rest → Judged i b ∷ [] ≡ rest ++ Judged j c ∷ after → JudgedThen tells own asked store before j c old now
      by_place [] first second =
          let same : i ≡ j = cc in
          let also : b ≡ c = cc in
          subst (λ (l : List Step). JudgedThen tells own asked store l j c old now) (sym (first ∙ append-nil steps))
          (subst (λ (n : ℕ). JudgedThen tells own asked store steps n c old now) same (subst (λ (x : Bool). JudgedThen tells own asked store steps i x old now) also
          (record { mid = now; run = run; more = []; grows = λ tell. sym (append-nil now.history); right = right })))
      by_place (r ∷ rest) first second =
          let tail : [] ≡ rest ++ Judged j c ∷ after = cc in
          absurd (no_judgement rest after j c tail)

-- ---- so are depfiles that were read

-- which steps are ends, with one more
module _ (steps : List Step) (i : ℕ) (w : Bool) where
  last_well : (b : Bool) → has_number (well_in (Ended i b ∷ [])) i ≡ b
  last_well true = has_number-one i
  last_well false = refl

  last_other : (b : Bool) (k : ℕ) → (i == k) ≡ false → has_number (well_in (Ended i b ∷ [])) k ≡ false
  last_other true k other = ap (λ (c : Bool). c || false) other
  last_other false k other = refl

  parts : (k : ℕ) → has_number (well_in (steps ++ Ended i w ∷ [])) k ≡ (has_number (well_in steps) k || has_number (well_in (Ended i w ∷ [])) k)
  parts k = ap (λ (l : List ℕ). has_number l k) (well-append steps (Ended i w ∷ [])) ∙ has_number-append (well_in steps) (well_in (Ended i w ∷ [])) k

  or_none : (b : Bool) → (b || false) ≡ b
  or_none true = refl
  or_none false = refl

  pub well_this : has_number (well_in steps) i ≡ false → (k : ℕ) → i ≡ k → has_number (well_in (steps ++ Ended i w ∷ [])) k ≡ w
  well_this fresh k this = subst (λ (n : ℕ). has_number (well_in (steps ++ Ended i w ∷ [])) n ≡ w) this
      (parts i ∙ (ap (λ (b : Bool). b || has_number (well_in (Ended i w ∷ [])) i) fresh ∙ last_well w))

  pub well_other : (k : ℕ) → (i == k) ≡ false → has_number (well_in (steps ++ Ended i w ∷ [])) k ≡ has_number (well_in steps) k
  well_other k other = parts k ∙ (ap (λ (b : Bool). has_number (well_in steps) k || b) (last_other w k other) ∙ or_none (has_number (well_in steps) k))

  pub ended_before : (k : ℕ) → (i == k) ≡ false → has_number (ended_in (steps ++ Ended i w ∷ [])) k ≡ true → has_number (ended_in steps) k ≡ true
  ended_before k other has =
      sym (ap (λ (l : List ℕ). has_number l k) (ended-append steps (Ended i w ∷ []))
      ∙ (has_number-append (ended_in steps) (i ∷ []) k ∙ (ap (λ (b : Bool). has_number (ended_in steps) k || (b || false)) other ∙ or_none (has_number (ended_in steps) k)))) ∙ has

-- an end of the longer history is one of the shorter, or among what came since then
pub ended_back : (i : ℕ) (at old so_far now ms new : List Moment) → now ≡ old ++ so_far → new ≡ now ++ ms → EndedAt i old new at
    → EndedAt i old now at ⊎ ((before : List Moment) × (after : List Moment) × (at ≡ now ++ before) × (ms ≡ before ++ Happened (Finish i true) ∷ after))
ended_back i at old so_far now ms new was grows ended =
    elim (place_in so_far ms ended.before ended.after (Happened (Finish i true)) (same_rest old (so_far ++ ms) (ended.before ++ Happened (Finish i true) ∷ ended.after)
    (sym (append_assoc old so_far ms) ∙ (ap (λ (l : List Moment). l ++ ms) (sym was) ∙ (sym grows ∙ ended.splits))))) [
      | inl (rest, first) ↦ inl (record { before = ended.before; after = rest; is = ended.is; splits = was ∙ ap (λ (l : List Moment). old ++ l) first })
      | inr (rest, first, second) ↦
          inr (rest, ended.after, ended.is ∙ (ap (λ (l : List Moment). old ++ l) first ∙ (sym (append_assoc old so_far rest) ∙ ap (λ (l : List Moment). l ++ rest) (sym was))), second)
    ]

module _ (B : Behaviour) (edges : List Edge) (old : List Moment) where
  no_end : (ms before after : List Moment) (i : ℕ) → events_in ms ≡ [] → ms ≡ before ++ Happened (Finish i true) ∷ after → ⊥
  no_end ms before after i none is = nothing (events_in before) (sym none ∙ (ap events_in is ∙ events_in-append before (Happened (Finish i true) ∷ after)))
    where
      nothing : (xs : List Event) → [] ≡ xs ++ Finish i true ∷ events_in after → ⊥
      nothing [] is = cc
      nothing (x ∷ xs) is = cc

  pub taken_nothing : (met : Option ℕ) (now : List Moment) → EndRightly B edges [] met old now
  taken_nothing met now = record { well = λ i at ended well. absurd (false≢true well); depfiles = λ i at ended has unmet. absurd (false≢true has) }

  -- a call in which no command that was started has ended well by itself, or none is counted
  pub taken_on : (steps : List Step) (met next : Option ℕ) (so_far now ms new : List Moment) → now ≡ old ++ so_far → new ≡ now ++ ms → ((i : ℕ) → met ≡ Some i → next ≡ Some i)
      → ((before after : List Moment) (i : ℕ) → ms ≡ before ++ Happened (Finish i true) ∷ after → has_number (ended_in steps) i ≡ false) → ((i : ℕ) → has_number (well_in steps) i ≡ true → has_number (ended_in steps) i ≡ true)
      → EndRightly B edges steps met old now → EndRightly B edges steps next old new
  taken_on steps met next so_far now ms new was grows keeps none well_ended taken = record {
    well = λ i at ended well. elim (ended_back i at old so_far now ms new was grows ended) [
      | inl before ↦ taken.well i at before well
      | inr (before, after, is, splits) ↦ absurd (false≢true (sym (none before after i splits) ∙ well_ended i well))
    ];
    depfiles = λ i at ended has unmet. elim (ended_back i at old so_far now ms new was grows ended) [
      | inl before ↦ taken.depfiles i at before has (λ is_met. unmet (keeps i is_met))
      | inr (before, after, is, splits) ↦ absurd (false≢true (sym (none before after i splits) ∙ has))
    ];
  }

  -- a step that is no end
  pub taken_other : (steps : List Step) (step : Step) (met : Option ℕ) (now : List Moment) → ended_in (step ∷ []) ≡ [] → well_in (step ∷ []) ≡ [] → EndRightly B edges steps met old now → EndRightly B edges (steps ++ step ∷ []) met old now
  taken_other steps step met now no_ended no_well taken = record {
    well = λ i at ended well. taken.well i at ended (subst (λ (l : List ℕ). has_number l i ≡ true) well_same well);
    depfiles = λ i at ended has unmet. ap (λ (l : List ℕ). has_number l i) well_same ∙ taken.depfiles i at ended (subst (λ (l : List ℕ). has_number l i ≡ true) ended_same has) unmet;
  }
    where
      well_same : well_in (steps ++ step ∷ []) ≡ well_in steps
      well_same = well-append steps (step ∷ []) ∙ (ap (λ (l : List ℕ). well_in steps ++ l) no_well ∙ append-nil (well_in steps))

      ended_same : ended_in (steps ++ step ∷ []) ≡ ended_in steps
      ended_same = ended-append steps (step ∷ []) ∙ (ap (λ (l : List ℕ). ended_in steps ++ l) no_ended ∙ append-nil (ended_in steps))

  -- a command that was taken in is a step now: what its depfile says was read, or it met the fault and did not end well
  pub taken_ended : (steps : List Step) (i : ℕ) (w : Bool) (met next : Option ℕ) (now : List Moment) → has_number (well_in steps) i ≡ false → ((k : ℕ) → met ≡ Some k → next ≡ Some k)
      → ((at : List Moment) → EndedAt i old now at → (w ≡ is_accepted (depfile_in B (edge_at edges i).act (view_of at))) ⊎ ((w ≡ false) × (next ≡ Some i)))
      → EndRightly B edges steps met old now → EndRightly B edges (steps ++ Ended i w ∷ []) next old now
  taken_ended steps i w met next now fresh keeps read taken = record {
    well = λ k at ended well. elim (cases_Bool (i == k)) [
      | inl same ↦
          let this : i ≡ k = eqb-true i k same in
          by_read k at this (subst (λ (n : ℕ). EndedAt n old now at) (sym this) ended) (sym (well_this steps i w fresh k this) ∙ well)
      | inr other ↦ taken.well k at ended (sym (well_other steps i w k other) ∙ well)
    ];
    depfiles = λ k at ended has unmet. elim (cases_Bool (i == k)) [
      | inl same ↦
          let this : i ≡ k = eqb-true i k same in
          well_this steps i w fresh k this ∙ accepted k at this (read at (subst (λ (n : ℕ). EndedAt n old now at) (sym this) ended)) unmet
      | inr other ↦ well_other steps i w k other ∙ taken.depfiles k at ended (ended_before steps i w k other has) (λ is_met. unmet (keeps k is_met))
    ];
  }
    where
      by_read : (k : ℕ) (at : List Moment) → i ≡ k → EndedAt i old now at → w ≡ true → is_accepted (depfile_in B (edge_at edges k).act (view_of at)) ≡ true
      by_read k at this ended well = subst (λ (n : ℕ). is_accepted (depfile_in B (edge_at edges n).act (view_of at)) ≡ true) this (elim (read at ended) [
        | inl is ↦ sym is ∙ well
        | inr not ↦ absurd (false≢true (sym not.0 ∙ well))
      ])

      accepted : (k : ℕ) (at : List Moment) → i ≡ k → (w ≡ is_accepted (depfile_in B (edge_at edges i).act (view_of at))) ⊎ ((w ≡ false) × (next ≡ Some i)) → (next ≡ Some k → ⊥)
          → w ≡ is_accepted (depfile_in B (edge_at edges k).act (view_of at))
      accepted k at this (inl is) unmet = is ∙ ap (λ (n : ℕ). is_accepted (depfile_in B (edge_at edges n).act (view_of at))) this
      accepted k at this (inr (not, met_i)) unmet = absurd (unmet (met_i ∙ ap (λ (n : ℕ). Some n) this))
