-- What an edge reads whose turn to be judged has come: it is settled, and quiet.
use Rattle.std.proofs.Common.{◌≡◌, ◌⊎◌, inl, inr, ℕ, Bool, true, false, IsTrue, List, Some, sym, ◌∙◌, ap, subst}
use Rattle.std.proofs.lemmas.Bool.{false≢true, true≢false, false_from_ne_true}
use Rattle.model.specs.declared.event.Moment.{Moment}
use Rattle.model.specs.declared.graph.Edge.{Edge}
use Rattle.model.specs.World.{World, View, stamp_of, view_of, IsIdle}
use Rattle.model.specs.Graph.{has, has_number, edge_at, maker, outputs, regular_inputs, inputs, IsCommand, IsMadeOnce}
use Rattle.model.specs.Reading.{IsRead, Itself, Through, needs}
use Rattle.model.specs.Records.{OwnFiles, Store, recorded_inputs}
use Rattle.model.specs.OutOfDate.{Counted, ReadsNoFree}
use Rattle.model.specs.Schedule.{Task, Step as Done, IsSettled, Done as ByItself, Alias, judged_in, clean_in, well_in, failed_in, running_in, done_in}
use Rattle.model.specs.Premises.{FilesAreKept, FreeApart, OwnFilesApart, RecordedApart}
use Rattle.model.specs.SingleBuild.{Asked}
use Rattle.theory.specs.Run.{IsRunOrRest}
use Rattle.theory.proofs.Lists.{has-left, has-right, has_number-cases, same_some}
use Rattle.theory.proofs.Makers.{maker_is}
use Rattle.theory.proofs.Settled.{settled_command}
use Rattle.theory.proofs.Steps.{running_parts}
use Rattle.theory.proofs.Orderly.{IsKept, kept_orderly}
use Rattle.theory.proofs.Exit.{unchanged, may_not}
use Rattle.theory.proofs.Carried.{read_apart, read_bound}
use Rattle.judge.specs.Judged.{everything, HasPathsOf, AreUntouched}
use Rattle.work.specs.Course.{is_quiet}
use Rattle.work.proofs.Quiet.{quiet_from}

-- ---- settled edges

-- who makes what an edge reads is settled where who makes its inputs is
pub settled_reads : (edges : List Edge) (view : View) (done : List ℕ) (i : ℕ) (p : List ℕ) → IsRead edges view i p
    → ((q : List ℕ) (j : ℕ) → has (inputs (edge_at edges i)) q ≡ true → maker edges q ≡ Some j → IsSettled edges done j) → (j : ℕ) → maker edges p ≡ Some j → IsSettled edges done j
settled_reads edges view done i p (Itself _ _ h counts) settled j made = settled p j (has-left (regular_inputs (edge_at edges i)) (edge_at edges i).order_only_inputs p h) made
settled_reads edges view done i p (Through _ k q _ h alias below) settled j made =
    settled_reads edges view done k p below (by_settled (settled q k (has-left (regular_inputs (edge_at edges i)) (edge_at edges i).order_only_inputs q h) alias.made)) j made
  where
    by_settled : IsSettled edges done k → (q : List ℕ) (j : ℕ) → has (inputs (edge_at edges k)) q ≡ true → maker edges q ≡ Some j → IsSettled edges done j
    by_settled (ByItself _ command is) = absurd (true≢false (sym alias.phony ∙ command))
    by_settled (Alias _ phony all) = all

module _ (edges : List Edge) (steps : List Done) (kept : IsKept edges steps) where
  -- a settled edge that is a command was judged clean, or ended well
  settled_cases : (j : ℕ) → IsCommand edges j → IsSettled edges (done_in steps) j → (has_number (clean_in steps) j ≡ true) ⊎ (has_number (well_in steps) j ≡ true)
  settled_cases j command settled = has_number-cases (clean_in steps) (well_in steps) j (settled_command edges (done_in steps) j command settled)

  pub settled_unfailed : (j : ℕ) → IsSettled edges (done_in steps) j → has_number (failed_in steps) j ≡ false
  settled_unfailed j settled = false_from_ne_true (has_number (failed_in steps) j) (λ failed.
      let started = kept.started j (kept.ended j (kept.failed j failed)) in
      elim (settled_cases j (kept.judged j (kept.out_of_date j started)) settled) [
        | inl clean ↦ kept.apart j clean started
        | inr well ↦ kept.well_or_failed j well failed
      ])

  pub settled_rests : (j : ℕ) → IsSettled edges (done_in steps) j → has_number (running_in steps) j ≡ true → ⊥
  settled_rests j settled runs =
      let parts = running_parts steps j runs in
      let started = kept.started j parts.0 in
      elim (settled_cases j (kept.judged j (kept.out_of_date j started)) settled) [
        | inl clean ↦ kept.apart j clean started
        | inr well ↦ false≢true (sym parts.1 ∙ kept.well j well)
      ]

  -- ---- an edge whose turn has come

  module _ (own : OwnFiles) (apart : OwnFilesApart own edges) (free : List ℕ → Bool) (free_apart : FreeApart free own edges) (once : IsMadeOnce edges) where
    -- a path that is not free and outside the program's set, whose maker does not run
    quiet_path : (p : List ℕ) → free p ≡ false → own.set p ≡ false → ((j : ℕ) → maker edges p ≡ Some j → has_number (running_in steps) j ≡ true → ⊥) → is_quiet free own edges steps p ≡ true
    quiet_path p bound outside rests = quiet_from free own edges steps p (record {
      bound = bound;
      foreign = false_from_ne_true (own.files p) (λ mine. false≢true (sym outside ∙ apart.within p mine));
      private = λ i command named. elim named [
        | inl is ↦ false≢true (sym outside ∙ (ap own.set is ∙ (apart.depfiles i command).0))
        | inr is ↦ false≢true (sym outside ∙ (ap own.set is ∙ (apart.responses i command).0))
      ];
      rests = λ i runs made. rests i (maker_is edges p i once made) runs;
    })

    -- what a command makes that was not judged yet
    pub outputs_quiet : (i : ℕ) → IsCommand edges i → has_number (judged_in steps) i ≡ false → (p : List ℕ) → has (outputs (edge_at edges i)) p ≡ true → is_quiet free own edges steps p ≡ true
    outputs_quiet i command fresh p h = quiet_path p (free_apart.outputs i p (inl command) h) (apart.outputs i p h) (λ j is runs.
        let same = same_some j i (sym is ∙ maker_is edges p i once h) in
        let judged = kept.out_of_date j (kept.started j (running_parts steps j runs).0) in
        false≢true (sym fresh ∙ subst (λ (n : ℕ). has_number (judged_in steps) n ≡ true) same judged))

    module _ (asked : Asked) (store : Store) (i : ℕ) (command : IsCommand edges i) (fresh : has_number (judged_in steps) i ≡ false) (recorded_apart : RecordedApart own (recorded_inputs store edges))
        (ready : (p : List ℕ) (j : ℕ) → has (needs edges (recorded_inputs store edges) i) p ≡ true → maker edges p ≡ Some j → IsSettled edges (done_in steps) j) where
      input_ready : (p : List ℕ) (j : ℕ) → has (inputs (edge_at edges i)) p ≡ true → maker edges p ≡ Some j → IsSettled edges (done_in steps) j
      input_ready p j h made = ready p j (has-left (inputs (edge_at edges i)) (recorded_inputs store edges i) p h) made

      recorded_ready : (p : List ℕ) (j : ℕ) → has (recorded_inputs store edges i) p ≡ true → maker edges p ≡ Some j → IsSettled edges (done_in steps) j
      recorded_ready p j h made = ready p j (has-right (inputs (edge_at edges i)) (recorded_inputs store edges i) p h) made

      -- who makes a path that counts has not failed
      pub counted_unfailed : (files : List Moment) (p : List ℕ) → Counted edges store files i p → (j : ℕ) → maker edges p ≡ Some j → has_number (failed_in steps) j ≡ false
      counted_unfailed files p (inl read) j made = settled_unfailed j (settled_reads edges (view_of files) (done_in steps) i p read input_ready j made)
      counted_unfailed files p (inr recorded) j made = settled_unfailed j (recorded_ready p j recorded made)

      -- where nothing that counts is free, all that it may look at is quiet
      pub paths_quiet : (files : List Moment) → ReadsNoFree free edges store files i → HasPathsOf edges store i (is_quiet free own edges steps)
      paths_quiet files bound = record {
        made = outputs_quiet i command fresh;
        read = λ p read. quiet_path p (read_bound edges free free_apart.outputs (view_of files) everything i (λ q counts. bound q (inl counts)) p read) (read_apart edges everything (λ q. own.set q ≡ false) apart.inputs i p read)
            (λ j is runs. settled_rests j (settled_reads edges everything (done_in steps) i p read input_ready j is) runs);
        recorded = λ p h. quiet_path p (bound p (inr h)) (recorded_apart i p h) (λ j is runs. settled_rests j (recorded_ready p j h is) runs);
      }

-- nobody has touched its outputs
pub outputs_untouched : (tells : Bool) (own : OwnFiles) (task : Task) (steps : List Done) (old now : World) → IsIdle old.events → IsRunOrRest tells own task steps old now → IsTrue tells
    → FilesAreKept own task.graph.edges old.history now.history → IsMadeOnce task.graph.edges → (i : ℕ) → IsCommand task.graph.edges i → has_number (judged_in steps) i ≡ false
    → AreUntouched task.graph.edges old.history now.history i
outputs_untouched tells own task steps old now idle rest tell files once i command fresh o h = ap stamp_of (elim (unchanged tells own task steps old now idle rest tell files.free files.commands files.edits o) [
  | inl same ↦ same
  | inr (inl may) ↦ absurd (may_not own task.graph.edges steps (kept_orderly task.graph.edges steps rest.orderly) files.own_files once i command fresh o (inl h) may)
  | inr (inr free) ↦ absurd (false≢true (sym (files.free_apart.outputs i o (inl command) h) ∙ free))
])
