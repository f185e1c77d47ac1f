-- The load that a plan says is the one that is due.
use Rattle.std.proofs.Common.{◌≡◌, ◌⊎◌, inl, inr, ℕ, zero, suc, ◌<◌, ◌==◌, Bool, true, false, List, [], ◌∷◌, ◌++◌, Option, None, Some, take, drop, length, get_or, refl, sym, ◌∙◌, ap, subst, arith}
use Rattle.std.specs.Option.{option_map}
use Rattle.std.specs.List.{AllByRecursion}
use Rattle.std.proofs.lemmas.Bool.{false≢true, or_cases, eqb-true}
use Rattle.std.proofs.lemmas.Option.{slice_get-get_or}
use Rattle.model.specs.declared.graph.Edge.{Edge}
use Rattle.model.specs.Graph.{has_number, edge_at, maker, later_number}
use Rattle.model.specs.Reading.{IsInCone, Needed}
use Rattle.model.specs.Schedule.{Task, Step, IsSettled, IsSettledPath, done_in}
use Rattle.model.specs.Phases.{IsDueLoad, NoLoadIsDue, IsFirstNamer, GoesBefore, BySource as GoesBySource, ByNamer, IsNextLoad}
use Rattle.theory.proofs.Lists.{has_number-left, has_number-right, has_number-cases, has_number-one, same_some, some_none}
use Rattle.plan.specs.Flags.{has}
use Rattle.paths.specs.Numbers.{HaveOnePlace}
use Rattle.paths.specs.Told.{text_at}
use Rattle.graph.specs.declared.graph.Graph.{Graph}
use Rattle.graph.specs.Links.{links_of, needs_at}
use Rattle.graph.specs.Extended.{dyndep_at}
use Rattle.plan.specs.declared.plan.Plan.{Plan}
use Rattle.plan.specs.Standing.{maker_settled}
use Rattle.plan.specs.Loads.{IsWanted, IsFirstToName, LoadsBefore, BySource, ByEdge, AreInOrder, NoneIsThere, IsFirstThere}
use Rattle.plan.specs.Planned.{IsPlanned, AreTaken}
use Rattle.plan.proofs.Judging.{settled_stands}

-- what holds of each number of a list
each_number : (P : ℕ → Type 0) (xs : List ℕ) (n : ℕ) → AllByRecursion P xs → has_number xs n ≡ true → P n
each_number P [] n all h = absurd (false≢true h)
each_number P (x ∷ xs) n all h = elim (or_cases (x == n) (has_number xs n) h) [
  | inl same ↦ subst P (eqb-true x n same) all.0
  | inr later ↦ each_number P xs n all.1 later
]

parted : (xs : List ℕ) (k : ℕ) → k < length xs → xs ≡ take k xs ++ get_or xs k 0 ∷ drop (suc k) xs
parted [] k lt = absurd (omega (arith, lt))
parted (x ∷ xs) zero lt = refl
parted (x ∷ xs) (suc k) lt = ap (λ (l : List ℕ). x ∷ l) (parted xs k (omega (arith, lt)))

pub first_there : (there : List Bool) (paths : List ℕ) (k p : ℕ) → k < length paths → p ≡ get_or paths k 0 → NoneIsThere there (take k paths) → has there p ≡ true → IsFirstThere there paths p
first_there there paths k p lt at none is = record {
  before = take k paths;
  after = drop (suc k) paths;
  splits = subst (λ (n : ℕ). paths ≡ take k paths ++ n ∷ drop (suc k) paths) (sym at) (parted paths k lt);
  earlier = none;
  is = is;
}

-- the file stands in the list
pub first_listed : (there : List Bool) (paths : List ℕ) (p : ℕ) → IsFirstThere there paths p → has_number paths p ≡ true
first_listed there paths p first =
    subst (λ (l : List ℕ). has_number l p ≡ true) (sym first.splits) (has_number-right first.before (p ∷ first.after) p (has_number-left (p ∷ []) first.after p (has_number-one p)))

place_in : (xs : List ℕ) (n : ℕ) → has_number xs n ≡ true → (k : ℕ) × (k < length xs) × (get_or xs k 0 ≡ n)
place_in [] n h = absurd (false≢true h)
place_in (x ∷ xs) n h = elim (or_cases (x == n) (has_number xs n) h) [
  | inl here ↦ (0, omega arith, eqb-true x n here)
  | inr later ↦ let rest = place_in xs n later in (suc rest.0, omega (arith, rest.1), rest.2)
]

-- two numbers with one text are one
one_number : (paths : List (List ℕ)) → HaveOnePlace paths → (p q : ℕ) → p < length paths → q < length paths → text_at paths p ≡ text_at paths q → p ≡ q
one_number paths apart p q low other same = apart p q (text_at paths q) (slice_get-get_or paths p [] low ∙ ap (λ (t : List ℕ). Some t) same) (slice_get-get_or paths q [] other)

-- a file goes before each one behind it
before_rest : (graph : Graph) (before : List ℕ) (file : ℕ) (after : List ℕ) → AreInOrder graph (before ++ file ∷ after) → (other : ℕ) → has_number after other ≡ true → LoadsBefore graph file other
before_rest graph [] file after ordered other h = ordered.0 other h
before_rest graph (x ∷ before) file after ordered other h = before_rest graph before file after ordered.1 other h

later_none : (o : Option ℕ) → later_number o ≡ None → o ≡ None
later_none None e = refl
later_none (Some k) e = absurd (some_none (suc k) e)

-- the text of a number, where there is one
named_text : (text : ℕ → List ℕ) (o : Option ℕ) (file : List ℕ) → option_map text o ≡ Some file → (p : ℕ) × (o ≡ Some p) × (text p ≡ file)
named_text text None file is = absurd (some_none file (sym is))
named_text text (Some p) file is = (p, refl, same_some (text p) file is)

module _ (task : Task) (graph : Graph) (plan : Plan) (steps : List Step) (at : IsPlanned task graph plan steps) (lawful : AreTaken task steps) where
  abbrev edges : List Edge
  edges = task.graph.edges

  abbrev text : ℕ → List ℕ
  text p = text_at graph.manifest.paths p

  abbrev InCone : ℕ → Type 0
  InCone i = IsInCone task.graph.edges task.recorded task.targets i

  -- the maker of a file that an edge of the cone names is in the cone
  maker_in_cone : (e p n : ℕ) → dyndep_at graph e ≡ Some p → InCone (suc e) → (links_of graph).maker p ≡ Some n → InCone (suc n)
  maker_in_cone e p n names within is =
      let place = place_in (needs_at (links_of graph) e) p (has_number-left ((links_of graph).inputs e) ((links_of graph).recorded e) p (graph.dyndeps e p names)) in
      let found = at.stated.linked.linked e (suc n) record { place = place.0; number = n; within = place.1; is = ap (links_of graph).maker place.2 ∙ is; same = refl } in
      Needed (suc n) (suc e) found.path within found.needed found.made

  -- a file that an edge of the cone names is there just where it is settled
  settled_there : (e p : ℕ) → dyndep_at graph e ≡ Some p → InCone (suc e) → IsSettledPath edges steps (text p) → has plan.there.items p ≡ true
  settled_there e p names within settled = at.over.over.complete p low (by ((links_of graph).maker p) refl)
    where
      low : p < length graph.manifest.paths
      low = at.stated.known e p names

      by : (o : Option ℕ) → (links_of graph).maker p ≡ o → maker_settled plan.standings.items ((links_of graph).maker p) ≡ true
      by None is = ap (maker_settled plan.standings.items) is
      by (Some n) is =
          ap (maker_settled plan.standings.items) is
          ∙ settled_stands task graph plan steps at lawful (suc n) n refl (settled (suc n) (at.stated.makers p low ∙ ap later_number is)) (maker_in_cone e p n names within is)

  there_settled : (p : ℕ) → p < length graph.manifest.paths → has plan.there.items p ≡ true → IsSettledPath edges steps (text p)
  there_settled p low there = λ j made. by ((links_of graph).maker p) refl j made
    where
      by : (o : Option ℕ) → (links_of graph).maker p ≡ o → (j : ℕ) → maker edges (text p) ≡ Some j → IsSettled edges (done_in steps) j
      by None is j made = absurd (some_none j (sym made ∙ (at.stated.makers p low ∙ ap later_number is)))
      by (Some n) is j made =
          subst (λ (i : ℕ). IsSettled edges (done_in steps) i) (same_some (suc n) j (sym (at.stated.makers p low ∙ ap later_number is) ∙ made))
          (at.settled n (sym (ap (maker_settled plan.standings.items) is) ∙ at.over.over.sound p there))

  due_load : (p : ℕ) → IsWanted graph plan.standings.items p → has plan.there.items p ≡ true → IsDueLoad task steps (text p)
  due_load p wanted there = record {
    edge = suc wanted.edge;
    within = at.within wanted.edge wanted.inside;
    names = at.stated.files wanted.edge ∙ ap (option_map text) wanted.names;
    settled = there_settled p (at.stated.known wanted.edge p wanted.names) there;
  }

  -- a load that is due is one of the plan's, and its file is there
  record IsSeen (file : List ℕ) : Type 0 where
    number : ℕ
    is : text number ≡ file
    low : number < length graph.manifest.paths
    listed : has_number plan.loads.items number ≡ true
    there : has plan.there.items number ≡ true

  seen : (file : List ℕ) → IsDueLoad task steps file → IsSeen file
  seen file due = by due.edge due.within due.names
    where
      by : (i : ℕ) → InCone i → (edge_at edges i).dyndep ≡ Some file → IsSeen file
      by zero within names = absurd (some_none file (sym names))
      by (suc e) within names =
          let number = named_text text (dyndep_at graph e) file (sym (at.stated.files e) ∙ names) in
          record {
            number = number.0;
            is = number.2;
            low = at.stated.known e number.0 number.1;
            listed = at.over.loading.loads_are.all e number.0 (at.inside e within) number.1;
            there = settled_there e number.0 number.1 within (subst (IsSettledPath edges steps) (sym number.2) due.settled);
          }

  pub none_due : NoneIsThere plan.there.items plan.loads.items → NoLoadIsDue task steps
  none_due none file due = let is = seen file due in false≢true (sym (each_number (λ p. has plan.there.items p ≡ false) plan.loads.items is.number none is.listed) ∙ is.there)

  -- the first that names the file by number is so by text
  first_namer : (p d : ℕ) → IsFirstToName graph p d → IsFirstNamer edges (text p) (suc d)
  first_namer p d is = record { names = at.stated.files d ∙ ap (option_map text) is.names; first = lower }
    where
      lower : (k : ℕ) → k < suc d → (edge_at edges k).dyndep ≡ Some (text p) → ⊥
      lower zero lt names = some_none (text p) (sym names)
      lower (suc k) lt names =
          let number = named_text text (dyndep_at graph k) (text p) (sym (at.stated.files k) ∙ names) in
          is.first k (omega (arith, lt)) (number.1 ∙ ap (λ (n : ℕ). Some n) (one_number graph.manifest.paths at.stated.apart number.0 p (at.stated.known k number.0 number.1) (at.stated.known d p is.names) number.2))

  goes_before : (p q : ℕ) → p < length graph.manifest.paths → q < length graph.manifest.paths → LoadsBefore graph p q → GoesBefore edges (text p) (text q)
  goes_before p q low other (BySource d none made) = GoesBySource (suc d) (at.stated.makers p low ∙ ap later_number none) (at.stated.makers q other ∙ ap later_number made)
  goes_before p q low other (ByEdge d e kind first second lt) =
      ByNamer (suc d) (suc e) (λ none. at.stated.makers p low ∙ ap later_number (kind (later_none ((links_of graph).maker q) (sym (at.stated.makers q other) ∙ none))))
      (first_namer p d first) (first_namer q e second) (omega (arith, lt))

  pub next_load : (p : ℕ) → IsFirstThere plan.there.items plan.loads.items p → IsNextLoad task steps (text p)
  next_load p first = record { due = due_load p wanted first.is; lowest = lowest }
    where
      wanted : IsWanted graph plan.standings.items p
      wanted = at.over.loading.loads_are.named p (first_listed plan.there.items plan.loads.items p first)

      lowest : (other : List ℕ) → IsDueLoad task steps other → (other ≡ text p) ⊎ GoesBefore edges (text p) other
      lowest other due =
          let is = seen other due in
          elim (has_number-cases first.before (p ∷ first.after) is.number (subst (λ (l : List ℕ). has_number l is.number ≡ true) first.splits is.listed)) [
            | inl earlier ↦ absurd (false≢true (sym (each_number (λ q. has plan.there.items q ≡ false) first.before is.number first.earlier earlier) ∙ is.there))
            | inr rest ↦ elim (or_cases (p == is.number) (has_number first.after is.number) rest) [
              | inl same ↦ inl (sym is.is ∙ ap text (sym (eqb-true p is.number same)))
              | inr later ↦ inr (subst (GoesBefore edges (text p)) is.is
                  (goes_before p is.number (at.stated.known wanted.edge p wanted.names) is.low
                  (before_rest graph first.before p first.after (subst (AreInOrder graph) first.splits at.over.loading.loads_are.ordered) is.number later)))
            ]
          ]
