-- Which edges run, and which have failed, on the site and by the plan.
use Rattle.std.proofs.Common.{◌≡◌, ℕ, zero, suc, ◌<◌, ◌==◌, cond, Bool, true, false, List, [], ◌∷◌, map, length, Option, refl, sym, ◌∙◌, ap, arith}
use Rattle.std.specs.List.{All}
use Rattle.std.proofs.lemmas.Bool.{false≢true, true≢false, eq-eqb, or_left, or_right, false_from_ne_true}
use Rattle.model.specs.World.{World, runs}
use Rattle.model.specs.Graph.{has_number, IsCommand}
use Rattle.model.specs.Reading.{IsInCone}
use Rattle.model.specs.Schedule.{Task, Step as Done, started_in, well_in, failed_in, clean_in, out_of_date_in, running_in}
use Rattle.model.specs.SingleBuild.{task_of}
use Rattle.theory.proofs.Orderly.{IsKept, kept_orderly}
use Rattle.theory.proofs.Steps.{running_parts}
use Rattle.theory.proofs.Runs.{running_now}
use Rattle.graph.specs.declared.graph.Graph.{Graph}
use Rattle.plan.specs.declared.plan.Plan.{Plan}
use Rattle.plan.specs.declared.step.Standing.{Standing}
use Rattle.plan.specs.declared.step.Standing.TheVariants.{Unjudged, Clean, OutOfDate, Running, Well, Failed}
use Rattle.plan.specs.Standing.{standing_at, is_outside}
use Rattle.plan.specs.Planned.{IsPlanned, standing_in}
use Rattle.work.specs.declared.state.Work.{Work}
use Rattle.work.specs.Course.{Course, edges_of, IsOn}

pub cone_within : (task : Task) (graph : Graph) (plan : Plan) (steps : List Done) → IsPlanned task graph plan steps → (e : ℕ) → IsInCone task.graph.edges task.recorded task.targets (suc e) → e < length graph.manifest.lines
cone_within task graph plan steps planned e cone = by_place plan.standings.items (planned.inside e cone) planned.over.over.edges
  where
    inside : (ss : List Standing) (k : ℕ) → is_outside (standing_at ss k) ≡ false → k < length ss
    inside [] k is = absurd (true≢false is)
    inside (s ∷ ss) zero is = omega arith
    inside (s ∷ ss) (suc k) is = let lt = inside ss k is in omega (arith, lt)

    by_place : (ss : List Standing) → is_outside (standing_at ss e) ≡ false → length ss ≡ length graph.manifest.lines → e < length graph.manifest.lines
    by_place ss is fits = let lt = inside ss e is in omega (arith, lt, fits)

-- a command that runs by the steps stands so
stands_running : (steps : List Done) (i : ℕ) → has_number (well_in steps) i ≡ false → has_number (failed_in steps) i ≡ false → has_number (started_in steps) i ≡ true → standing_in steps i ≡ Running
stands_running steps i = by_test (has_number (well_in steps) i) (has_number (failed_in steps) i) (has_number (started_in steps) i)
    (cond (has_number (out_of_date_in steps) i) OutOfDate (cond (has_number (clean_in steps) i) Clean Unjudged))
  where
    by_test : (w f s : Bool) (rest : Standing) → w ≡ false → f ≡ false → s ≡ true → cond w Well (cond f Failed (cond s Running rest)) ≡ Running
    by_test w f s rest well failed is =
        ap (λ (b : Bool). cond b Well (cond f Failed (cond s Running rest))) well ∙ (ap (λ (b : Bool). cond b Failed (cond s Running rest)) failed ∙ ap (λ (b : Bool). cond b Running rest) is)

-- the edge of a job runs, by the plan
pub record IsRunningEdge (course : Course) (graph : Graph) (plan : Plan) (steps : List Done) (job : ℕ) : Type 0 where
  pub edge : ℕ
  pub is : job ≡ suc edge
  pub within : edge < length graph.manifest.lines
  pub stands : standing_at plan.standings.items edge ≡ Running
  pub running : has_number (running_in steps) job ≡ true
  pub stale : has_number (out_of_date_in steps) job ≡ true
  pub command : IsCommand (edges_of course) job

module _ (tells : Bool) (course : Course) (graph : Graph) (hand : Option ℕ) (state : Work) (now : World) (on : IsOn tells course graph hand state now) where
  abbrev task : Task
  task = task_of course.asked course.store

  kept : IsKept (edges_of course) on.steps
  kept = kept_orderly (edges_of course) on.steps on.carried.run.orderly

  runs_by : (job : ℕ) → runs job now.events ≡ has_number (running_in on.steps) job
  runs_by = running_now tells course.own task course.entry on.steps now on.carried.beside.idle on.carried.run

  -- the edges that were noted are those of the graph
  pub noted_within : All (λ e. e < length graph.manifest.lines) state.failed.items
  noted_within k d lt = within_all state.failed.items (λ e has. failed_edge e (ap (λ (l : List ℕ). has_number l (suc e)) (sym on.noted) ∙ has)) k d lt
    where
      failed_edge : (e : ℕ) → has_number (failed_in on.steps) (suc e) ≡ true → e < length graph.manifest.lines
      failed_edge e has = cone_within task graph state.plan on.steps on.planned e (on.taken.within (suc e) (kept.out_of_date (suc e) (kept.started (suc e) (kept.ended (suc e) (kept.failed (suc e) has)))))

      within_all : (xs : List ℕ) → ((e : ℕ) → has_number (map suc xs) (suc e) ≡ true → e < length graph.manifest.lines) → All (λ e. e < length graph.manifest.lines) xs
      within_all [] each k d lt = absurd (omega (arith, lt))
      within_all (x ∷ xs) each zero d lt = each x (or_left (suc x == suc x) (has_number (map suc xs) (suc x)) (eq-eqb (suc x) (suc x) refl))
      within_all (x ∷ xs) each (suc k) d lt = within_all xs (λ e has. each e (or_right (suc x == suc e) (has_number (map suc xs) (suc e)) has)) k d (omega (arith, lt))

  -- what runs on the site is the command of an edge that runs by the plan
  pub running_edge : (job : ℕ) → runs job now.events ≡ true → IsRunningEdge course graph state.plan on.steps job
  running_edge job ran = by_job job (sym (runs_by job) ∙ ran)
    where
      by_job : (j : ℕ) → has_number (running_in on.steps) j ≡ true → IsRunningEdge course graph state.plan on.steps j
      by_job zero is = absurd (true≢false (kept.judged zero (kept.out_of_date zero (kept.started zero (running_parts on.steps zero is).0))))
      by_job (suc e) is =
          let parts = running_parts on.steps (suc e) is in
          let stale = kept.started (suc e) parts.0 in
          let cone = on.taken.within (suc e) (kept.out_of_date (suc e) stale) in
          let command = kept.judged (suc e) (kept.out_of_date (suc e) stale) in
          record {
            edge = e;
            is = refl;
            within = cone_within task graph state.plan on.steps on.planned e cone;
            stands = on.planned.stands e cone command
                ∙ stands_running on.steps (suc e)
                (false_from_ne_true (has_number (well_in on.steps) (suc e)) (λ h. false≢true (sym parts.1 ∙ kept.well (suc e) h)))
                (false_from_ne_true (has_number (failed_in on.steps) (suc e)) (λ h. false≢true (sym parts.1 ∙ kept.failed (suc e) h)))
                parts.0;
            running = is;
            stale = stale;
            command = command;
          }

  -- some command runs where one does by the steps
  pub some_runs : (running_in on.steps ≡ [] → ⊥) → (job : ℕ) × (runs job now.events ≡ true)
  some_runs some = first (running_in on.steps) refl
    where
      first : (xs : List ℕ) → xs ≡ running_in on.steps → (job : ℕ) × (runs job now.events ≡ true)
      first [] is = absurd (some (sym is))
      first (x ∷ xs) is = (x, runs_by x ∙ (ap (λ (l : List ℕ). has_number l x) (sym is) ∙ or_left (x == x) (has_number xs x) (eq-eqb x x refl)))
