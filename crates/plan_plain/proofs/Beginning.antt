-- How a plan begins.
use Rattle.std.proofs.Common.{◌≡◌, inl, inr, ℕ, suc, ◌+◌, ◌<◌, ◌≤◌, ◌==◌, ◌||◌, Bool, true, false, List, [], ◌∷◌, ◌++◌, map, length, refl, sym, ◌∙◌, ap, arith}
use Rattle.std.proofs.Math.ListN.{get_or-append}
use Rattle.std.proofs.Math.Seq.{get_or-append_seam}
use Rattle.std.proofs.lemmas.Bool.{false≢true, true≢false, eq-eqb, eqb-true, cases_eq, false_from_ne_true}
use Rattle.model.specs.Graph.{has_number}
use Rattle.model.specs.Reading.{IsInCone}
use Rattle.model.specs.Schedule.{Task}
use Rattle.graph.specs.declared.graph.Graph.{Graph}
use Rattle.graph.specs.declared.cone.Mark.{Mark}
use Rattle.graph.specs.Links.{links_of}
use Rattle.graph.specs.Cone.{is_listed, mark_at}
use Rattle.graph.specs.Linked.{IsConeOf}
use Rattle.plan.specs.declared.step.Standing.{Standing}
use Rattle.plan.specs.declared.step.Standing.TheVariants.{Outside, Unjudged}
use Rattle.plan.specs.Standing.{standing_at, is_outside, is_phony, is_settled}
use Rattle.plan.specs.Planned.{IsTaskOf}
use Rattle.plan_plain.specs.Planned.{first_standing, AreFirst, AreStood}

-- one more edge stands as it does at first
pub pushed_first : (first : ℕ → Standing) (standings : List Standing) (s : Standing) (place : ℕ) → length standings ≡ place → ((k : ℕ) → k < place → standing_at standings k ≡ first k) → s ≡ first place
    → (k : ℕ) → k < place + 1 → standing_at (standings ++ s ∷ []) k ≡ first k
pushed_first first standings s place fits each is k lt = elim (cases_eq k place) [
  | inl same ↦
      ap (standing_at (standings ++ s ∷ [])) (same ∙ sym fits) ∙ (get_or-append_seam standings s [] Outside ∙ (is ∙ ap first (sym same)))
  | inr other ↦ get_or-append standings (s ∷ []) Outside k (omega (arith, lt, other, fits)) ∙ each k (omega (arith, lt, other))
]

-- ---- before the first step

outside_is : (listed phony : Bool) → is_outside (first_standing listed phony) ≡ false → listed ≡ true
outside_is true phony h = refl
outside_is false phony h = absurd (true≢false h)

inside_is : (listed phony : Bool) → listed ≡ true → is_outside (first_standing listed phony) ≡ false
inside_is true true h = refl
inside_is true false h = refl
inside_is false phony h = absurd (false≢true h)

kind_is : (listed phony : Bool) → listed ≡ true → is_phony (first_standing listed phony) ≡ phony
kind_is true true h = refl
kind_is true false h = refl
kind_is false phony h = absurd (false≢true h)

command_is : (listed phony : Bool) → listed ≡ true → phony ≡ false → first_standing listed phony ≡ Unjudged
command_is true true h none = absurd (true≢false none)
command_is true false h none = refl
command_is false phony h none = absurd (false≢true h)

none_settled : (listed phony : Bool) → is_settled (first_standing listed phony) ≡ false
none_settled true true = refl
none_settled true false = refl
none_settled false phony = refl

has_later : (order : List ℕ) (e : ℕ) → has_number (map suc order) (suc e) ≡ has_number order e
has_later [] e = refl
has_later (d ∷ order) e = ap (λ (b : Bool). b || has_number (map suc order) (suc e)) (later d e) ∙ ap (λ (b : Bool). (d == e) || b) (has_later order e)
  where
    later : (d e : ℕ) → (suc d == suc e) ≡ (d == e)
    later d e = elim (cases_eq d e) [
      | inl same ↦ eq-eqb (suc d) (suc e) (ap suc same) ∙ sym (eq-eqb d e same)
      | inr other ↦ false_from_ne_true (suc d == suc e) (λ h. other (omega (arith, eqb-true (suc d) (suc e) h))) ∙ sym (false_from_ne_true (d == e) (λ h. other (eqb-true d e h)))
    ]

pub stood_first : (task : Task) (graph : Graph) (order : List ℕ) (marks : List Mark) (standings : List Standing) → IsTaskOf task graph → IsConeOf task.graph.edges task.recorded task.targets order marks
    → AreFirst (links_of graph) marks standings → AreStood task standings []
stood_first task graph order marks standings stated cone first = record {
  within = λ e inside. cone.within e (sym (cone.marked e) ∙ outside_is (listed e) (phony e) (sym (ap is_outside (first.stands e)) ∙ inside));
  inside = λ e needed. ap is_outside (first.stands e) ∙ inside_is (listed e) (phony e) (in_cone e needed);
  kinds = λ e inside. ap is_phony (first.stands e) ∙ (kind_is (listed e) (phony e) (outside_is (listed e) (phony e) (sym (ap is_outside (first.stands e)) ∙ inside)) ∙ stated.phony e);
  stands = λ e needed command. first.stands e ∙ command_is (listed e) (phony e) (in_cone e needed) (stated.phony e ∙ command);
  settled = λ e settled. absurd (false≢true (sym (none_settled (listed e) (phony e)) ∙ (sym (ap is_settled (first.stands e)) ∙ settled)));
}
  where
    listed : ℕ → Bool
    listed e = is_listed (mark_at marks e)

    phony : ℕ → Bool
    phony e = (links_of graph).phony e

    in_cone : (e : ℕ) → IsInCone task.graph.edges task.recorded task.targets (suc e) → listed e ≡ true
    in_cone e needed = cone.marked e ∙ (sym (has_later order e) ∙ cone.all (suc e) needed)
