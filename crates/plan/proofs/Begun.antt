-- A plan in which nothing was done.
use Rattle.std.proofs.Common.{◌≡◌, ℕ, zero, suc, ◌<◌, Bool, true, false, List, [], ◌∷◌, ◌++◌, Option, Some, None, map, replicate, length, refl, sym, ◌∙◌, ap, arith}
use Rattle.std.specs.Option.{is_none}
use Rattle.std.proofs.lemmas.Bool.{false≢true, true≢false}
use Rattle.model.specs.Graph.{has_number}
use Rattle.model.specs.Schedule.{Task}
use Rattle.plan.specs.Flags.{has}
use Rattle.plan.specs.Turns.{Turns}
use Rattle.graph.specs.declared.cone.Mark.{Mark}
use Rattle.graph.specs.declared.graph.Graph.{Graph}
use Rattle.graph.specs.Cone.{mark_at, is_listed}
use Rattle.graph.specs.Links.{Links, links_of}
use Rattle.graph.specs.Linked.{IsConeOf}
use Rattle.plan.specs.declared.step.Standing.{Standing}
use Rattle.plan.specs.declared.step.Standing.TheVariants.{Outside, Unjudged, Alias}
use Rattle.plan.specs.Standing.{standing_at, is_out_of_date, is_running, is_failed, is_well, is_outside, is_phony, is_settled, maker_settled}
use Rattle.plan.specs.Plan.{IsOver, IsWaiting, IsTallied}
use Rattle.plan.specs.First.{first_of, AreFirst, AreSources, AreCounts, IsIdle}
use Rattle.plan.specs.Planned.{IsTaskOf}
use Rattle.plan.proofs.PlannedCounts.{count_nothing}
use Rattle.plan.proofs.Stepping.{IsHalf}

pub first_fails : (test : Standing → Bool) → test Outside ≡ false → test Unjudged ≡ false → test Alias ≡ false → (listed phony : Bool) → test (first_of listed phony) ≡ false
first_fails test outside unjudged alias true true = alias
first_fails test outside unjudged alias true false = unjudged
first_fails test outside unjudged alias false phony = outside

pub inside_listed : (listed phony : Bool) → is_outside (first_of listed phony) ≡ false → listed ≡ true
inside_listed true phony h = refl
inside_listed false phony h = absurd (true≢false h)

pub listed_inside : (listed phony : Bool) → listed ≡ true → is_outside (first_of listed phony) ≡ false
listed_inside true true h = refl
listed_inside true false h = refl
listed_inside false phony h = absurd (false≢true h)

pub inside_kind : (listed phony : Bool) → is_outside (first_of listed phony) ≡ false → is_phony (first_of listed phony) ≡ phony
inside_kind true true h = refl
inside_kind true false h = refl
inside_kind false phony h = absurd (true≢false h)

pub listed_command : (listed phony : Bool) → listed ≡ true → phony ≡ false → first_of listed phony ≡ Unjudged
listed_command true true l p = absurd (true≢false p)
listed_command true false l p = refl
listed_command false phony l p = absurd (false≢true l)

pub has_later : (xs : List ℕ) (e : ℕ) → has_number (map suc xs) (suc e) ≡ has_number xs e
has_later [] e = refl
has_later (x ∷ xs) e = grind (arith, has_later xs e)

module _ (links : Links) (marks : List Mark) (standings : List Standing) (first : AreFirst links marks standings) where
  pub none_stands : (test : Standing → Bool) → test Outside ≡ false → test Unjudged ≡ false → test Alias ≡ false → (e : ℕ) → test (standing_at standings e) ≡ false
  none_stands test outside unjudged alias e = ap test (first.each e) ∙ first_fails test outside unjudged alias (is_listed (mark_at marks e)) (links.phony e)

  pub none_counted : IsTallied standings 0 0 0
  none_counted = record {
    runs = sym (count_nothing is_running standings (none_stands is_running refl refl refl));
    fails = sym (count_nothing is_failed standings (none_stands is_failed refl refl refl));
    ends = sym (count_nothing is_well standings (none_stands is_well refl refl refl));
  }

  pub none_waits : (graph : Graph) (turns : Turns) → IsIdle graph standings turns → IsWaiting standings turns
  none_waits graph turns idle = record {
    fits = idle.fits;
    waits = λ e. idle.none e ∙ sym (none_stands is_out_of_date refl refl refl e);
  }

  pub over_first : (paths : ℕ) (there : List Bool) (left : List ℕ) → AreSources links paths there → AreCounts links standings there left → IsOver links paths standings left there
  over_first paths there left sources counts = record {
    edges = first.fits;
    known = sources.fits;
    counts = counts.each;
    sound = λ p flag. of_source p (sym (sources.each p (let low = range there p flag in omega (arith, low, sources.fits))) ∙ flag);
    complete = λ p lt settled. sources.each p lt ∙ source_of (links.maker p) settled;
  }
    where
      range : (fs : List Bool) (k : ℕ) → has fs k ≡ true → k < length fs
      range [] k h = absurd (false≢true h)
      range (f ∷ fs) zero h = omega arith
      range (f ∷ fs) (suc k) h = let rest = range fs k h in omega (arith, rest)

      settled_none : (o : Option ℕ) → is_none o ≡ true → maker_settled standings o ≡ true
      settled_none None h = refl
      settled_none (Some e) h = absurd (false≢true h)

      of_source : (p : ℕ) → is_none (links.maker p) ≡ true → maker_settled standings (links.maker p) ≡ true
      of_source p none = settled_none (links.maker p) none

      source_of : (o : Option ℕ) → maker_settled standings o ≡ true → is_none o ≡ true
      source_of None h = refl
      source_of (Some e) h = absurd (false≢true (sym (none_stands is_settled refl refl refl e) ∙ h))

-- where nothing was done, the commands of the cone are to be judged
pub half_first : (task : Task) (graph : Graph) (marks : List Mark) (order : List ℕ) (standings : List Standing) (turns : Turns) → IsTaskOf task graph → IsConeOf task.graph.edges task.recorded task.targets order marks
    → AreFirst (links_of graph) marks standings → IsIdle graph standings turns → IsHalf task standings turns []
half_first task graph marks order standings turns stated cone first idle = record {
  within = λ e inside. cone.within e (sym (cone.marked e) ∙ inside_listed (is_listed (mark_at marks e)) ((links_of graph).phony e) (sym (ap is_outside (first.each e)) ∙ inside));
  inside = λ e in_cone. ap is_outside (first.each e) ∙ listed_inside (is_listed (mark_at marks e)) ((links_of graph).phony e) (listed e (cone.all (suc e) in_cone));
  kinds = λ e inside. ap is_phony (first.each e) ∙ (inside_kind (is_listed (mark_at marks e)) ((links_of graph).phony e) (sym (ap is_outside (first.each e)) ∙ inside) ∙ stated.phony e);
  stands = λ e in_cone command. first.each e ∙ listed_command (is_listed (mark_at marks e)) ((links_of graph).phony e) (listed e (cone.all (suc e) in_cone)) (stated.phony e ∙ command);
  settled = λ e settled. absurd (false≢true (sym (none_stands (links_of graph) marks standings first is_settled refl refl refl e) ∙ settled));
  runs = idle.idle;
}
  where
    listed : (e : ℕ) → has_number (map suc order) (suc e) ≡ true → is_listed (mark_at marks e) ≡ true
    listed e h = cone.marked e ∙ (sym (has_later order e) ∙ h)

pub none_flagged : (count p : ℕ) → has (replicate count false) p ≡ false
none_flagged zero p = refl
none_flagged (suc count) zero = refl
none_flagged (suc count) (suc p) = none_flagged count p

pub longer_flags : (flags : List Bool) (more p : ℕ) → has (flags ++ replicate more false) p ≡ has flags p
longer_flags [] more p = none_flagged more p
longer_flags (flag ∷ flags) more zero = refl
longer_flags (flag ∷ flags) more (suc p) = longer_flags flags more p
