-- What an edge waits for, by the standings of edges.
use Rattle.std.proofs.Common.{◌≡◌, inl, inr, ℕ, zero, suc, ◌<◌, ◌&&◌, Bool, true, List, [], ◌∷◌, ◌++◌, Option, Some, None, length, get_or, refl, sym, ◌∙◌, ap, subst, arith}
use Rattle.std.proofs.lemmas.Bool.{false≢true, cases_Bool, and_from}
use Rattle.std.proofs.lemmas.List.Folds.{list_all_at}
use Rattle.std.specs.List.{list_all}
use Rattle.std.specs.Option.{option_map}
use Rattle.model.specs.Graph.{has, edge_at, inputs, maker}
use Rattle.model.specs.Reading.{needs}
use Rattle.model.specs.Schedule.{Task, IsSettled, Alias as ByAlias}
use Rattle.theory.proofs.Lists.{has-left}
use Rattle.paths.specs.Told.{text_at}
use Rattle.graph.specs.declared.graph.Graph.{Graph}
use Rattle.graph.specs.Links.{Links, links_of, needs_at}
use Rattle.graph.specs.Cone.{maker_at}
use Rattle.graph.specs.Linked.{HasMaker}
use Rattle.plan.specs.declared.step.Standing.{Standing}
use Rattle.plan.specs.Standing.{standing_at, is_settled, maker_settled}
use Rattle.plan.specs.Planned.{IsTaskOf}
use Rattle.plan_plain.specs.Scan.{is_there, waits_for_nothing}
use Rattle.plan_plain.specs.Planned.{NamesNone, IsSound}

-- ---- all of a list

all_at : (p : ℕ → Bool) (xs : List ℕ) (k : ℕ) → k < length xs → list_all p xs ≡ true → p (get_or xs k 0) ≡ true
all_at p xs k lt all = elim (cases_Bool (p (get_or xs k 0))) [
  | inl is ↦ is
  | inr fails ↦ absurd (false≢true (sym (list_all_at p xs k 0 lt fails) ∙ all))
]

all_from : (p : ℕ → Bool) (xs : List ℕ) → ((k : ℕ) → k < length xs → p (get_or xs k 0) ≡ true) → list_all p xs ≡ true
all_from p [] each = refl
all_from p (x ∷ xs) each = and_from (p x) (list_all p xs) (each 0 (omega arith)) (all_from p xs (λ k lt. each (suc k) (omega (arith, lt))))

all_same : (p q : ℕ → Bool) (xs : List ℕ) → ((x : ℕ) → p x ≡ q x) → list_all p xs ≡ list_all q xs
all_same p q [] same = refl
all_same p q (x ∷ xs) same = ap (λ (b : Bool). b && list_all p xs) (same x) ∙ ap (λ (b : Bool). q x && b) (all_same p q xs same)

-- ---- what is waited for

module _ (links : Links) (e : ℕ) where
  -- where the makers of all that it needs are settled, it waits for nothing
  pub nothing_left : (standings : List Standing) → ((k n : ℕ) → k < length (needs_at links e) → maker_at links e k ≡ Some n → is_settled (standing_at standings n) ≡ true) → waits_for_nothing links standings e ≡ true
  nothing_left standings each = all_from (is_there links standings) (needs_at links e) (λ k lt. by_maker k lt (maker_at links e k) refl)
    where
      by_maker : (k : ℕ) → k < length (needs_at links e) → (m : Option ℕ) → maker_at links e k ≡ m → maker_settled standings (maker_at links e k) ≡ true
      by_maker k lt None is = ap (maker_settled standings) is
      by_maker k lt (Some n) is = ap (maker_settled standings) is ∙ each k n lt is

  -- it does not matter how edges stand beside that
  pub waits_same : (old new : List Standing) → ((k : ℕ) → is_settled (standing_at new k) ≡ is_settled (standing_at old k)) → waits_for_nothing links new e ≡ waits_for_nothing links old e
  waits_same old new same = all_same (is_there links new) (is_there links old) (needs_at links e) (λ p. by_maker (links.maker p))
    where
      by_maker : (m : Option ℕ) → maker_settled new m ≡ maker_settled old m
      by_maker None = refl
      by_maker (Some n) = same n

module _ (task : Task) (graph : Graph) (stated : IsTaskOf task graph) (done : List ℕ) (standings : List Standing) (sound : IsSound task.graph.edges done standings) (e : ℕ) (all : waits_for_nothing (links_of graph) standings e ≡ true) where
  by_number : (j : ℕ) → HasMaker (links_of graph) e j → IsSettled task.graph.edges done j
  by_number j found =
      subst (λ (n : ℕ). IsSettled task.graph.edges done n) found.same
      (sound found.number (ap (maker_settled standings) (sym found.is) ∙ all_at (is_there (links_of graph) standings) (needs_at (links_of graph) e) found.place found.within all))

  pub need_settled : (p : List ℕ) (j : ℕ) → has (needs task.graph.edges task.recorded (suc e)) p ≡ true → maker task.graph.edges p ≡ Some j → IsSettled task.graph.edges done j
  need_settled p j need made = by_number j (stated.linked.complete e j record { path = p; needed = need; made = made })

  pub alias_settled : (edge_at task.graph.edges (suc e)).phony ≡ true → IsSettled task.graph.edges done (suc e)
  alias_settled phony = ByAlias (suc e) phony (λ p j input made. need_settled p j (has-left (inputs (edge_at task.graph.edges (suc e))) (task.recorded (suc e)) p input) made)

-- ---- dyndep files

-- where no edge names a file by number, none does by text
pub none_named : (task : Task) (graph : Graph) → IsTaskOf task graph → NamesNone graph → (i : ℕ) → (edge_at task.graph.edges i).dyndep ≡ None
none_named task graph stated none zero = refl
none_named task graph stated none (suc e) = stated.files e ∙ ap (option_map (text_at graph.manifest.paths)) (none e)
