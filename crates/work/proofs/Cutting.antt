-- Faults that cut a run off, and what is left then.
use Rattle.std.proofs.Common.{◌≡◌, inl, inr, Bool, false, List, Result, Ok, Err, refl, sym, ◌∙◌, ap, arith}
use Rattle.std.specs.Result.{IsErrOf}
use Rattle.std.proofs.lemmas.Bool.{false≢true}
use Rattle.model.specs.declared.event.Event.{Event}
use Rattle.model.specs.declared.fault.SiteFault.TheVariants.{Device, Stopped, Memory}
use Rattle.model.specs.declared.fault.SiteFault.{SiteFault}
use Rattle.model.specs.World.{World, runs}
use Rattle.model.specs.Calls.{OnlyLooks, HasCause, is_stop}
use Rattle.model.specs.SingleBuild.{Answer, PassesNoFault}
use Rattle.theory.specs.Seen.{Unrefused, StartsUnrefused}
use Rattle.work.specs.declared.cut.Cut.{Cut}
use Rattle.work.specs.declared.cut.Cut.TheVariants.{Waiting, Other}
use Rattle.work.specs.Cut.{fault_of}
use Rattle.work.specs.Cutting.{SomeRuns, TakesIn, Cuts, IsMetBy, site_answer}
use Rattle.theory.proofs.SiteCalls.{cause_then, seen_of}

-- what was started in two calls one after the other
pub starts_then : (old mid new : World) → Unrefused old mid → StartsUnrefused old mid → StartsUnrefused mid new → StartsUnrefused old new
starts_then old mid new calm (inl before) (inl none) = inl (none ∙ before)
starts_then old mid new calm (inr before) (inl none) = inr (none ∙ before)
starts_then old mid new calm first (inr some) = inr (some ∙ calm.failures)

-- what runs was taken in after a fault: nothing more was started
pub starts_cut : (old mid new : World) (last : Cut) → StartsUnrefused old mid → TakesIn mid new last → StartsUnrefused old new
starts_cut old mid new last (inl none) takes = inl (takes.at_start ∙ none)
starts_cut old mid new last (inr some) takes = inr (takes.at_start ∙ some)

-- what a run passes over that was not cut off
pub passes_whole : (old new : World) (said : Answer) → StartsUnrefused old new → Unrefused old new → PassesNoFault old new said
passes_whole old new said starts calm = record {
  refused = λ fine. calm.failures;
  starts = starts;
  stopped = λ stopped. absurd (false≢true (sym calm.goes_on ∙ stopped));
  earlier = calm.earlier;
}

-- what runs still does after a call that only looks
pub some_still : (tells : Bool) (old new : World) → SomeRuns old → OnlyLooks tells old new → SomeRuns new
some_still tells old new some looks = (some.0, ap (λ (l : List Event). runs some.0 l) looks.events ∙ some.1)

same_fault : {T : Type 0} (f g : SiteFault) → IsErrOf {T = T} (Err f) g → f ≡ g
same_fault f g is = cc

-- the cause of a fault is the same, whatever the call would have given
pub cause_err : {T U : Type 0} (old new : World) (f : SiteFault) → HasCause {T = T} old new (Err f) → HasCause {T = U} old new (Err f)
cause_err {T = T} {U = U} old new f cause = record {
  grows = cause.grows;
  device = λ is. cause.device (ap (λ (g : SiteFault). Err g) (same_fault {T = U} f Device is));
  others = λ other. cause.others (λ is. other (ap (λ (g : SiteFault). Err g) (same_fault {T = T} f Device is)));
  stopped = cause.stopped ∙ same_stop f;
  after_stop = λ stopped. let after = cause.after_stop stopped in (ap (λ (g : SiteFault). Err g) (same_fault {T = T} f Stopped after.0), after.1);
  earlier = cause.earlier;
}
  where
    same_stop : (g : SiteFault) → is_stop {T = T} (Err g) ≡ is_stop {T = U} (Err g)
    same_stop Device = refl
    same_stop Stopped = refl
    same_stop Memory = refl

-- a call that was not made has no fault
pub cause_none : (world : World) → world.stopped ≡ false → HasCause {T = Unit {0}} world world (Ok tt)
cause_none world running = record { grows = omega arith; device = λ is. cc; others = λ none. refl; stopped = running; after_stop = λ stopped. absurd (false≢true (sym running ∙ stopped)); earlier = refl }

-- calls that start nothing, and were not refused, come before
pub cuts_then : {T : Type 0} (old mid new : World) (r : Result T Cut) → Unrefused old mid → mid.failures_at_start ≡ old.failures_at_start → Cuts mid new r → Cuts old new r
cuts_then old mid new r unrefused same cuts = record { cause = cause_then old mid new (site_answer r) unrefused cuts.cause; starts = by_start cuts.starts; waits = cuts.waits }
  where
    by_start : StartsUnrefused mid new → StartsUnrefused old new
    by_start (inl none) = inl (none ∙ same)
    by_start (inr first) = inr (first ∙ unrefused.failures)

-- the fault of a run says what its cause was
pub met_by : {T : Type 0} (old new : World) (cut : Cut) → HasCause {T = T} old new (Err (fault_of cut)) → IsMetBy old new cut
met_by old new (Waiting fault) cause = seen_of old new (Err fault) cause
met_by old new (Other Device) cause = cause.device refl
met_by old new (Other Stopped) cause = cause.stopped
met_by {T} old new (Other Memory) cause = cause.others no_device
  where
    no_device : IsErrOf {T = T} (Err Memory) Device → ⊥
    no_device is = cc
