-- The calls in which a command is started or taken in, and those in which the site stops with a part of its work done.
use Rattle.std.proofs.Common.{◌≡◌, inl, inr, ℕ, true, List, [], ◌∷◌, ◌++◌, Some, refl, sym, ◌∙◌, ap, subst, append_assoc}
use Rattle.model.specs.declared.act.Act.{Act}
use Rattle.model.specs.declared.event.Event.TheVariants.{Start, Finish}
use Rattle.model.specs.declared.event.Moment.{Moment}
use Rattle.model.specs.declared.event.Moment.TheVariants.{Wrote, Happened}
use Rattle.model.specs.declared.event.Writer.TheVariants.{Program}
use Rattle.model.specs.declared.outcome.Outcome.{Outcome}
use Rattle.model.specs.World.{View, World, file_at, view_of, IsRunning}
use Rattle.model.specs.Calls.{AllByOthers, OthersWrote, OnlyLooks, Starts, Appends, AppendsOrNot, content_or_empty}
use Rattle.model.specs.declared.event.Finished.{Finished}
use Rattle.sim.specs.declared.faults.Call.{Call}
use Rattle.sim.specs.declared.jobs.Running.{Running}
use Rattle.sim.specs.declared.sim.Sim.{Sim}
use Rattle.sim.specs.History.{with_event, with_writes, after_writes}
use Rattle.sim.specs.Jobs.{running_at}
use Rattle.sim.specs.Running.{IsNext, act_of}
use Rattle.sim.specs.World.{world_of, happened, worked, appended}
use Rattle.sim.specs.Sim.{called, launched, written_at, putting_some, given_by, Halts, Ends}
use Rattle.sim.proofs.Runs.{started_runs}
use Rattle.sim.proofs.Steps.{appends_now}
use Rattle.sim.proofs.Work.{append_all, with_writes-others, ends_view}

pub starts_launched : {C : Type 0} (outcome : Act → View → Outcome) (job : ℕ) (act : Act) (sim new : Sim C) → new ≡ launched outcome job act sim → Starts true job act (world_of sim) (world_of new)
starts_launched {C} outcome job act sim new is = subst (λ (s : Sim C). Starts true job act (world_of sim) (world_of s)) (sym is) (record {
  events = refl;
  ticked = refl;
  at_start = refl;
  history = λ _. record {
    earlier = [];
    later = others.more;
    grows = others.grows ∙ append_assoc sim.history (Happened (Start job act sim.ticked) ∷ []) others.more;
    all_earlier = tt;
    all_later = others.all;
  };
})
  where
    others : OthersWrote (IsRunning (sim.jobs.events ++ Start job act sim.ticked ∷ [])) (sim.history ++ Happened (Start job act sim.ticked) ∷ []) (launched outcome job act sim).history
    others = with_writes-others (IsRunning (sim.jobs.events ++ Start job act sim.ticked ∷ [])) job (written_at sim.timing (outcome act (view_of sim.history))) (sim.history ++ Happened (Start job act sim.ticked) ∷ []) (started_runs job act sim.ticked sim.jobs.events (sim.jobs.events ++ Start job act sim.ticked ∷ []) refl)

-- the site stopped afterwards, and others wrote
abbrev pub stopped_with : List Moment → World → World
stopped_with history world = record world { history = history; stopped = true }

pub starts_then : (job : ℕ) (act : Act) (old mid new : World) → Starts true job act old mid → new ≡ stopped_with new.history mid → OthersWrote (IsRunning mid.events) mid.history new.history → Starts true job act old new
starts_then job act old mid new starts is others = subst (λ (w : World). Starts true job act old w) (sym is) (record {
  events = starts.events;
  ticked = starts.ticked;
  at_start = starts.at_start;
  history = λ told. let own = starts.history told in record {
    earlier = own.earlier;
    later = own.later ++ others.more;
    grows = others.grows ∙ ap (λ (l : List Moment). l ++ others.more) own.grows ∙ append_assoc old.history (own.earlier ++ Happened (Start job act old.ticked) ∷ own.later) others.more
        ∙ ap (λ (l : List Moment). old.history ++ l) (append_assoc own.earlier (Happened (Start job act old.ticked) ∷ own.later) others.more);
    all_earlier = own.all_earlier;
    all_later = append_all (IsRunning mid.events) own.later others.more own.all_later others.all;
  };
})

looks_then : (old mid new : World) → mid ≡ old → new ≡ stopped_with new.history mid → OthersWrote (IsRunning mid.events) mid.history new.history → OnlyLooks true old new
looks_then old mid new same is others = subst (λ (w : World). OnlyLooks true w new) same (subst (λ (w : World). OnlyLooks true mid w) (sym is) (record { events = refl; ticked = refl; at_start = refl; history = λ _. others }))

appends_then : (path bytes : List ℕ) (old mid new : World) → Appends true path bytes old mid → mid.events ≡ old.events → new ≡ stopped_with new.history mid → OthersWrote (IsRunning mid.events) mid.history new.history → Appends true path bytes old new
appends_then path bytes old mid new appends still is others = subst (λ (w : World). Appends true path bytes old w) (sym is) (record {
  events = appends.events;
  ticked = appends.ticked;
  at_start = appends.at_start;
  history = λ told. let own = appends.history told in record {
    stamp = own.stamp;
    earlier = own.earlier;
    later = own.later ++ others.more;
    grows = others.grows ∙ ap (λ (l : List Moment). l ++ others.more) own.grows
        ∙ append_assoc old.history (own.earlier ++ Wrote Program path (Some (content_or_empty (file_at (old.history ++ own.earlier) path) ++ bytes)) own.stamp ∷ own.later) others.more
        ∙ ap (λ (l : List Moment). old.history ++ l) (append_assoc own.earlier (Wrote Program path (Some (content_or_empty (file_at (old.history ++ own.earlier) path) ++ bytes)) own.stamp ∷ own.later) others.more);
    all_earlier = own.all_earlier;
    all_later = append_all (IsRunning old.events) own.later others.more own.all_later (by_events others.more others.all);
  };
})
  where
    by_events : (more : List Moment) → AllByOthers (IsRunning mid.events) more → AllByOthers (IsRunning old.events) more
    by_events more all = subst (λ es. AllByOthers (IsRunning es) more) still all

pub appends_cut : {C : Type 0} (outcome : Act → View → Outcome) (path part rest bytes : List ℕ) (old : World) (sim mid new : Sim C) → world_of sim ≡ old → mid ≡ putting_some path part sim → part ++ rest ≡ bytes → Halts outcome mid new → AppendsOrNot true path bytes old (world_of new)
appends_cut outcome path [] rest bytes old sim mid new from is splits halts = inl (looks_then old (world_of mid) (world_of new) (ap world_of is ∙ from) halts.world halts.writes)
appends_cut outcome path (byte ∷ part) rest bytes old sim mid new from is splits halts =
    let own : world_of mid ≡ appended path (byte ∷ part) old = ap world_of is ∙ ap (appended path (byte ∷ part)) from in
    inr (byte ∷ part, rest, splits, appends_then path (byte ∷ part) old (world_of mid) (world_of new) (appends_now path (byte ∷ part) old (world_of mid) own) (ap (λ (w : World). w.events) own) halts.world halts.writes)

-- that a call was counted says nothing of commands
ends_called : {C : Type 0} (outcome : Act → View → Outcome) (finished : Finished) (call : Call) (old new : Sim C) → Ends outcome finished (called call old) new → Ends outcome finished old new
ends_called outcome finished call old new ends = record {
  next = ends.next;
  one = ends.one;
  runs = ends.runs;
  acts = ends.acts;
  ok = ends.ok;
  output = ends.output;
  world = ends.world;
  view = ends.view;
}

pub ends_now : {C : Type 0} (outcome : Act → View → Outcome) (call : Call) (sim old new : Sim C) (job : ℕ) (one : Running) (given : Outcome) (output : List ℕ) → sim ≡ called call old → IsNext sim.order job (world_of sim).events
    → running_at job sim.jobs.running ≡ Some one → act_of job (world_of sim).events ≡ Some one.act → given ≡ given_by outcome one sim.history → output ≡ []
    → world_of new ≡ happened (Finish job given.ok) (worked job given (world_of sim)) → new.history ≡ with_event (Some (Finish job given.ok)) (with_writes job given.writes sim.history)
    → Ends outcome (record { job = job; ok = given.ok; output = output }) old new
ends_now {C} outcome call sim old new job one given output same next runs acts given_is silent world_is is = ends_called outcome (record { job = job; ok = given.ok; output = output }) call old new (subst (λ (s : Sim C). Ends outcome (record { job = job; ok = given.ok; output = output }) s new) same (record {
  next = next;
  one = one;
  runs = runs;
  acts = acts;
  ok = ap (λ (o : Outcome). o.ok) given_is;
  output = silent;
  world = world_is ∙ ap (λ (o : Outcome). happened (Finish job given.ok) (worked job o (world_of sim))) given_is;
  view = λ path. ends_view job given sim.history new.history path is ∙ ap (λ (o : Outcome). after_writes (view_of sim.history) o.writes path) given_is;
}))
