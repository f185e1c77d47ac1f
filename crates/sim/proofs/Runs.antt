-- Which jobs run, by their starts and their acts.
use Rattle.std.proofs.Common.{◌≡◌, ℕ, ◌==◌, Bool, true, false, List, [], ◌∷◌, ◌++◌, Option, Some, None, refl, ◌∙◌, ap, cond}
use Rattle.std.specs.Option.{is_some}
use Rattle.std.proofs.lemmas.Bool.{cond-true, eq-eqb}
use Rattle.model.specs.declared.act.Act.{Act}
use Rattle.model.specs.declared.event.Event.{Event}
use Rattle.model.specs.declared.event.Event.TheVariants.{Start, Finish}
use Rattle.model.specs.World.{runs, runs_from, runs_after}
use Rattle.sim.specs.Running.{act_from, act_after}

-- the last event decides what a job runs
pub act_of-push : (job : ℕ) (act : Option Act) (events : List Event) (event : Event) → act_from job act (events ++ event ∷ []) ≡ act_after job (act_from job act events) event
act_of-push job act [] event = refl
act_of-push job act (e ∷ events) event = act_of-push job (act_after job act e) events event

-- a job runs where it has an act
pub act_runs : (job : ℕ) (act : Option Act) (events : List Event) → is_some (act_from job act events) ≡ runs_from job (is_some act) events
act_runs job act [] = refl
act_runs job act (Start other started stamp ∷ events) =
    by_test (other == job) (act_runs job (Some started) events) (act_runs job act events)
  where
    by_test : (b : Bool) → is_some (act_from job (Some started) events) ≡ runs_from job true events → is_some (act_from job act events) ≡ runs_from job (is_some act) events
        → is_some (act_from job (cond b (Some started) act) events) ≡ runs_from job (cond b true (is_some act)) events
    by_test true e f = e
    by_test false e f = f
act_runs job act (Finish other ok ∷ events) =
    by_test (other == job) (act_runs job None events) (act_runs job act events)
  where
    by_test : (b : Bool) → is_some (act_from job None events) ≡ runs_from job false events → is_some (act_from job act events) ≡ runs_from job (is_some act) events
        → is_some (act_from job (cond b None act) events) ≡ runs_from job (cond b false (is_some act)) events
    by_test true e f = e
    by_test false e f = f

runs-push : (job : ℕ) (ran : Bool) (events : List Event) (event : Event) → runs_from job ran (events ++ event ∷ []) ≡ runs_after job (runs_from job ran events) event
runs-push job ran [] event = refl
runs-push job ran (e ∷ events) event = runs-push job (runs_after job ran e) events event

-- a job runs that has just been started
pub started_runs : (job : ℕ) (act : Act) (stamp : ℕ) (events new : List Event) → new ≡ events ++ Start job act stamp ∷ [] → runs job new ≡ true
started_runs job act stamp events new is =
    ap (runs job) is ∙ runs-push job false events (Start job act stamp) ∙ cond-true (job == job) true (runs job events) (eq-eqb job job refl)
