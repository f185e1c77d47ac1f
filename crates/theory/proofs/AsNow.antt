-- What a command left, in one view of its own, is what it gives in a view that holds what the present files hold on all that it
-- read: nobody has written that since its start.
use Rattle.std.proofs.Common.{◌≡◌, inl, inr, ℕ, Bool, true, false, IsTrue, List, ◌∷◌, ◌++◌, sym, ◌∙◌, ap, subst, append_assoc, refl, Some}
use Rattle.std.specs.List.{AllByRecursion}
use Rattle.model.specs.declared.event.Event.TheVariants.{Start}
use Rattle.model.specs.declared.event.Moment.{Moment}
use Rattle.model.specs.declared.event.Moment.TheVariants.{Wrote, Happened}
use Rattle.model.specs.declared.graph.Edge.{Edge}
use Rattle.model.specs.World.{World, view_of, IsNotAt, IsIdle}
use Rattle.model.specs.Graph.{has, has_number, edge_at, IsMadeOnce, outputs}
use Rattle.model.specs.Outcome.{Behaviour, reports_of, depfile_in, listed, given}
use Rattle.model.specs.Records.{Store, OwnFiles, recorded_inputs}
use Rattle.model.specs.Schedule.{Step, started_in, well_in}
use Rattle.model.specs.Premises.{HasOneOutcome, EndedAt, IsFromAbove, LeftOutcome, Matters, Premises, StartsAreTicked}
use Rattle.model.specs.SingleBuild.{Asked, task_of}
use Rattle.model.specs.Kept.{StartedUnder}
use Rattle.theory.specs.Order.{AreReadFirst, LeftAsNow, LeaveAsNow}
use Rattle.theory.specs.Run.{IsRunOrRest, IsToldBy}
use Rattle.theory.proofs.Lists.{all_has, all_from_has, all_parts}
use Rattle.theory.proofs.Orderly.{IsKept, kept_orderly}
use Rattle.theory.proofs.Carried.{read_apart, settled_unwritten}
use Rattle.theory.proofs.Starts.{TickedAfter, started_under, ticked_after}
use Rattle.theory.proofs.Ticked.{reads_early}

module _ (tells : Bool) (B : Behaviour) (own : OwnFiles) (asked : Asked) (store : Store) (steps : List Step) (old now : World)
    (tell : IsTrue tells) (idle : IsIdle old.events) (rest : IsRunOrRest tells own (task_of asked store) steps old now) (once : IsMadeOnce asked.graph.edges) (ticks : StartsAreTicked old.history now.history)
    (premises : Premises B own asked.declared asked.graph.edges (recorded_inputs store asked.graph.edges) steps old.history now.history)
    (first_read : AreReadFirst asked.graph.edges (Matters B asked.graph.edges (recorded_inputs store asked.graph.edges) steps old.history now.history) steps) where
  abbrev Reads : ℕ → List ℕ → Type 0
  Reads = Matters B asked.graph.edges (recorded_inputs store asked.graph.edges) steps old.history now.history

  all : IsKept asked.graph.edges steps
  all = kept_orderly asked.graph.edges steps rest.orderly

  module _ (i : ℕ) (at : List Moment) (is_quiet : premises.files.quiet i ≡ true) (ended : EndedAt i old.history now.history at) (well : has_number (well_in steps) i ≡ true) where
    started : has_number (started_in steps) i ≡ true
    started = all.ended i (all.well i well)

    under : (stamp : ℕ) × StartedUnder i stamp old now
    under = started_under tells own (task_of asked store) steps old now rest i started

    t : TickedAfter tells own (task_of asked store) steps i under.0 old now
    t = ticked_after tells own (task_of asked store) steps old now rest tell idle ticks i under.0 under.1

    mid : IsToldBy own asked.graph.edges t.done old.events (t.run.first ++ t.run.later) old.history t.mid.history
    mid = t.run.history tell

    splits : now.history ≡ old.history ++ ((mid.more ++ (t.stamped.before ++ Wrote t.stamped.by t.stamped.path t.stamped.content under.0 ∷ t.stamped.between)) ++ Happened (Start i t.stamped.act under.0) ∷ t.stamped.after)
    splits =
        t.stamped.splits
        ∙ (ap (λ (l : List Moment). t.mid.history ++ l) (sym (append_assoc t.stamped.before (Wrote t.stamped.by t.stamped.path t.stamped.content under.0 ∷ t.stamped.between) (Happened (Start i t.stamped.act under.0) ∷ t.stamped.after)))
        ∙ (ap (λ (l : List Moment). l ++ ((t.stamped.before ++ Wrote t.stamped.by t.stamped.path t.stamped.content under.0 ∷ t.stamped.between) ++ Happened (Start i t.stamped.act under.0) ∷ t.stamped.after)) mid.grows
        ∙ (append_assoc old.history mid.more ((t.stamped.before ++ Wrote t.stamped.by t.stamped.path t.stamped.content under.0 ∷ t.stamped.between) ++ Happened (Start i t.stamped.act under.0) ∷ t.stamped.after)
        ∙ ap (λ (l : List Moment). old.history ++ l) (sym (append_assoc mid.more (t.stamped.before ++ Wrote t.stamped.by t.stamped.path t.stamped.content under.0 ∷ t.stamped.between) (Happened (Start i t.stamped.act under.0) ∷ t.stamped.after))))))

    left : LeftOutcome B asked.graph.edges t.stamped.after now.history at i
    left = premises.left_outcomes i at ended well (mid.more ++ (t.stamped.before ++ Wrote t.stamped.by t.stamped.path t.stamped.content under.0 ∷ t.stamped.between)) t.stamped.after t.stamped.act under.0 splits

    -- what it read was settled when it was judged, and so is not written since its start
    since : (p : List ℕ) → own.set p ≡ false → Reads i p → AllByRecursion (IsNotAt p) t.stamped.after
    since p outside reads = (all_parts (IsNotAt p) t.stamped.between (Happened (Start i t.stamped.act under.0) ∷ t.stamped.after)
        (all_parts (IsNotAt p) t.stamped.before (Wrote t.stamped.by t.stamped.path t.stamped.content under.0 ∷ (t.stamped.between ++ Happened (Start i t.stamped.act under.0) ∷ t.stamped.after))
        (settled_unwritten tells own asked store t.done t.later old t.mid now (t.stamped.before ++ Wrote t.stamped.by t.stamped.path t.stamped.content under.0 ∷ (t.stamped.between ++ Happened (Start i t.stamped.act under.0) ∷ t.stamped.after))
        tell idle once t.run (subst (λ (l : List Step). IsRunOrRest tells own (task_of asked store) l old now) t.splits rest) t.stamped.splits premises.files.kept p outside (premises.files.alone.unread i p is_quiet reads)
        (λ j made is. reads_early tells own asked store steps old now tell idle once rest premises.files.kept premises.files.stamps i under.0 t Reads first_read p j reads made is))).1.1).1.1

    as_reported : (p : List ℕ) → has (listed (depfile_in B (edge_at asked.graph.edges i).act (view_of at))) p ≡ true → left.seen p ≡ view_of now.history p
    as_reported p h = left.unwritten p (since p
        (all_has (IsFromAbove own asked.graph.edges (recorded_inputs store asked.graph.edges) i) (listed (depfile_in B (edge_at asked.graph.edges i).act (view_of at))) p (premises.files.reports i at ended well) h).apart
        (inr (inr (record { at = at; ended = ended; well = well; told = h }))))

    left_as_now : LeftAsNow B asked.graph.edges (view_of now.history) (view_of at) i
    left_as_now = record {
      seen = left.seen;
      well = left.well;
      reading = λ p read. left.unwritten p (since p (read_apart asked.graph.edges (view_of now.history) (λ q. own.set q ≡ false) premises.files.kept.own_files.inputs i p read) (inl read));
      reports = all_from_has (λ p. left.seen p ≡ view_of now.history p) (reports_of B (edge_at asked.graph.edges i).act left.seen)
          (λ p h. as_reported p (ap (λ (ps : List (List ℕ)). has ps p) (ap listed left.depfile) ∙ h));
      contents = left.contents;
      depfile = left.depfile;
    }

  pub leave_as_now : LeaveAsNow B premises.files.quiet asked.graph.edges steps old.history now.history
  leave_as_now i at is_quiet ended well = left_as_now i at is_quiet ended well

-- Where the command is a function of what it declares and reports, what it left as the present files have it is what it left in a view
-- of its own: that of the present files. (So the premise on one view follows from the two that stood in its place.)
pub own_view : (B : Behaviour) (edges : List Edge) (since new at : List Moment) (i : ℕ) → HasOneOutcome B edges (view_of new) i → LeftAsNow B edges (view_of new) (view_of at) i → LeftOutcome B edges since new at i
own_view B edges since new at i one left =
    let same = one left.seen (view_of new) left.reading (λ p read. refl) left.well left.reports in
    record {
      seen = view_of new;
      well = same.ends ∙ left.well;
      unwritten = λ p none. refl;
      contents = all_from_has (λ o. view_of at o ≡ given B (edge_at edges i).act (view_of new) o) (outputs (edge_at edges i))
          (λ o h. all_has (λ q. view_of at q ≡ given B (edge_at edges i).act left.seen q) (outputs (edge_at edges i)) o left.contents h
          ∙ sym (all_has (λ q. given B (edge_at edges i).act (view_of new) q ≡ given B (edge_at edges i).act left.seen q) (outputs (edge_at edges i)) o same.contents h));
      depfile = left.depfile ∙ ap (λ (ps : List (List ℕ)). Some ps) (sym same.reports);
    }
