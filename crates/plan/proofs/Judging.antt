-- The edges that may be judged are those that a plan has ready.
use Rattle.std.proofs.Common.{◌≡◌, ◌⊎◌, inl, inr, ℕ, zero, suc, ◌+◌, ◌<◌, ◌==◌, ◌||◌, not, cond, Bool, true, false, List, [], ◌∷◌, Option, Some, None, length, get_or, count_by, refl, sym, ◌∙◌, ap, subst, arith}
use Rattle.std.proofs.lemmas.Bool.{false≢true, true≢false, and_parts, and_from, eq-eqb, eqb-true, false_from_ne_true}
use Rattle.std.proofs.lemmas.List.Sums.{sum_by-cons}
use Rattle.model.specs.Graph.{has, has_number, edge_at, inputs, maker, IsCommand}
use Rattle.model.specs.Reading.{IsInCone, Needed}
use Rattle.model.specs.Schedule.{Task, Step, Judged, failed_in, well_in, clean_in, started_in, out_of_date_in, done_in, IsSettled, Done, Alias as ByAlias, MayBeJudged, NoneMayBeJudged, IsLawfulStep}
use Rattle.theory.proofs.Lists.{has-cases, has_number-append}
use Rattle.theory.proofs.Orderly.{kept_orderly}
use Rattle.plan.specs.Flags.{has as flagged, IsFirst, AreNone}
use Rattle.graph.specs.declared.graph.Graph.{Graph}
use Rattle.graph.specs.Links.{links_of, needs_at}
use Rattle.graph.specs.Cone.{maker_at}
use Rattle.graph.specs.Linked.{HasMaker, IsMakerFor}
use Rattle.plan.specs.declared.plan.Plan.{Plan}
use Rattle.plan.specs.declared.step.Standing.{Standing}
use Rattle.plan.specs.declared.step.Standing.TheVariants.{Outside, Unjudged, Clean, OutOfDate, Running, Well, Failed, Alias, Known}
use Rattle.plan.specs.Standing.{standing_at, is_unjudged, is_alias, is_outside, is_phony, awaits, is_settled, maker_settled}
use Rattle.plan.specs.Plan.{is_missing}
use Rattle.plan.specs.Planned.{standing_in, IsPlanned, AreTaken}
use Rattle.plan.proofs.PlannedSteps as stands
use Rattle.plan.proofs.CountBy.{count_none}

-- ---- standings

unjudged_is : (s : Standing) → is_unjudged s ≡ true → s ≡ Unjudged
unjudged_is Outside h = absurd (false≢true h)
unjudged_is Unjudged h = refl
unjudged_is Clean h = absurd (false≢true h)
unjudged_is OutOfDate h = absurd (false≢true h)
unjudged_is Running h = absurd (false≢true h)
unjudged_is Well h = absurd (false≢true h)
unjudged_is Failed h = absurd (false≢true h)
unjudged_is Alias h = absurd (false≢true h)
unjudged_is Known h = absurd (false≢true h)

phony_cases : (s : Standing) → is_phony s ≡ true → (s ≡ Alias) ⊎ (s ≡ Known)
phony_cases Outside h = absurd (false≢true h)
phony_cases Unjudged h = absurd (false≢true h)
phony_cases Clean h = absurd (false≢true h)
phony_cases OutOfDate h = absurd (false≢true h)
phony_cases Running h = absurd (false≢true h)
phony_cases Well h = absurd (false≢true h)
phony_cases Failed h = absurd (false≢true h)
phony_cases Alias h = inl refl
phony_cases Known h = inr refl

-- what was judged clean, or ended well, is settled
settled_flags : (w f s o c : Bool) → (w ≡ true → f ≡ false) → (c ≡ true → (f ≡ false) × (s ≡ false) × (o ≡ false)) → (c || w) ≡ true → is_settled (stands.stands w f s o c) ≡ true
settled_flags true f s o c wf cf h = refl
settled_flags false f s o false wf cf h = absurd (false≢true h)
settled_flags false true s o true wf cf h = absurd (true≢false (cf refl).0)
settled_flags false false true o true wf cf h = absurd (true≢false (cf refl).1)
settled_flags false false false true true wf cf h = absurd (true≢false (cf refl).2)
settled_flags false false false false true wf cf h = refl

-- ---- counts

abbrev one_if : Bool → ℕ
one_if b = cond b 1 0

count_nothing : (test : ℕ → Bool) (xs : List ℕ) → ((k : ℕ) → k < length xs → test (get_or xs k 0) ≡ false) → count_by test xs ≡ 0
count_nothing test [] none = refl
count_nothing test (x ∷ xs) none =
    let rest = count_nothing test xs (λ k lt. none (suc k) (omega (arith, lt))) in
    by (test x) refl rest
  where
    by : (b : Bool) → test x ≡ b → count_by test xs ≡ 0 → count_by test (x ∷ xs) ≡ 0
    by true is rest = absurd (false≢true (sym (none 0 (omega arith)) ∙ is))
    by false is rest =
        let e : count_by test (x ∷ xs) ≡ one_if (test x) + count_by test xs = sum_by-cons (λ (y : ℕ). one_if (test y)) x xs in
        let z : one_if (test x) ≡ 0 = ap one_if is in
        omega (arith, e, z, rest)

module _ (task : Task) (graph : Graph) (plan : Plan) (steps : List Step) (at : IsPlanned task graph plan steps) (lawful : AreTaken task steps) where
  abbrev pub InCone : ℕ → Type 0
  InCone i = IsInCone task.graph.edges task.recorded task.targets i

  abbrev pub stand : ℕ → Standing
  stand e = standing_at plan.standings.items e

  -- an edge that is not outside, by a test that one outside fails
  pub known : (test : Standing → Bool) (e : ℕ) → test Outside ≡ false → test (stand e) ≡ true → is_outside (stand e) ≡ false
  known test e none is = by (stand e) is
    where
      by : (s : Standing) → test s ≡ true → is_outside s ≡ false
      by Outside h = absurd (false≢true (sym none ∙ h))
      by Unjudged h = refl
      by Clean h = refl
      by OutOfDate h = refl
      by Running h = refl
      by Well h = refl
      by Failed h = refl
      by Alias h = refl
      by Known h = refl

  done_stands : (i : ℕ) → has_number (done_in steps) i ≡ true → is_settled (standing_in steps i) ≡ true
  done_stands i h =
      let kept = kept_orderly task.graph.edges steps lawful.orderly in
      settled_flags (has_number (well_in steps) i) (has_number (failed_in steps) i) (has_number (started_in steps) i) (has_number (out_of_date_in steps) i) (has_number (clean_in steps) i)
      (λ w. false_from_ne_true (has_number (failed_in steps) i) (λ f. kept.well_or_failed i w f))
      (λ c.
      let out : has_number (out_of_date_in steps) i ≡ false = false_from_ne_true (has_number (out_of_date_in steps) i) (λ o. kept.apart i c o) in
      let new : has_number (started_in steps) i ≡ false = false_from_ne_true (has_number (started_in steps) i) (λ s. false≢true (sym out ∙ kept.started i s)) in
      (false_from_ne_true (has_number (failed_in steps) i) (λ f. false≢true (sym new ∙ kept.ended i (kept.failed i f))), new, out))
      (sym (has_number-append (clean_in steps) (well_in steps) i) ∙ h)

  -- the makers of what an edge needs, by numbers
  maker_of : (e k n : ℕ) → k < length (needs_at (links_of graph) e) → maker_at (links_of graph) e k ≡ Some n → IsMakerFor task.graph.edges task.recorded (suc e) (suc n)
  maker_of e k n lt is = at.stated.linked.linked e (suc n) record { place = k; number = n; within = lt; is = is; same = refl }

  -- where the makers of all that an edge needs are settled, nothing is missing
  none_missing : (e : ℕ) → ((k n : ℕ) → k < length (needs_at (links_of graph) e) → maker_at (links_of graph) e k ≡ Some n → is_settled (stand n) ≡ true) → count_by (is_missing plan.there.items) (needs_at (links_of graph) e) ≡ 0
  none_missing e each = count_nothing (is_missing plan.there.items) (needs_at (links_of graph) e) (λ k lt. ap not (at.over.over.complete (get_or (needs_at (links_of graph) e) k 0) (at.stated.numbered e k lt) (by_maker k lt (maker_at (links_of graph) e k) refl)))
    where
      by_maker : (k : ℕ) → k < length (needs_at (links_of graph) e) → (m : Option ℕ) → maker_at (links_of graph) e k ≡ m → maker_settled plan.standings.items (maker_at (links_of graph) e k) ≡ true
      by_maker k lt None is = ap (maker_settled plan.standings.items) is
      by_maker k lt (Some n) is = ap (maker_settled plan.standings.items) is ∙ each k n lt is

  -- what is settled by the steps stands so
  pub settled_stands : (i n : ℕ) → i ≡ suc n → IsSettled task.graph.edges (done_in steps) i → InCone (suc n) → is_settled (stand n) ≡ true
  settled_stands _ n same (Done i command done) within =
      let mine : IsCommand task.graph.edges (suc n) = subst (λ (j : ℕ). IsCommand task.graph.edges j) same command in
      ap is_settled (at.stands n within mine) ∙ done_stands (suc n) (subst (λ (j : ℕ). has_number (done_in steps) j ≡ true) same done)
  settled_stands _ n same (ByAlias i phony below) within = elim (phony_cases (stand n) (at.kinds n (at.inside n within) ∙ subst (λ (j : ℕ). (edge_at task.graph.edges j).phony ≡ true) same phony)) [
    | inl waiting ↦ absurd (false≢true (sym (at.over.settled n) ∙ (plan.sets.pending n ∙ and_from (is_alias (stand n)) (get_or plan.left.items n 0 == 0) (ap is_alias waiting) (eq-eqb (get_or plan.left.items n 0) 0 (at.over.over.counts n (ap awaits waiting) ∙ none_missing n (each (λ p m input made cone_too. settled_stands (suc m) m refl (below p (suc m) input made) cone_too)))))))
    | inr settled ↦ ap is_settled settled
  ]
    where
      each : ((p : List ℕ) (m : ℕ) → has (inputs (edge_at task.graph.edges i)) p ≡ true → maker task.graph.edges p ≡ Some (suc m) → InCone (suc m) → is_settled (stand m) ≡ true) → (k m : ℕ) → k < length (needs_at (links_of graph) n) → maker_at (links_of graph) n k ≡ Some m → is_settled (stand m) ≡ true
      each above k m lt is =
          let found = maker_of n k m lt is in
          let mine : (edge_at task.graph.edges (suc n)).phony ≡ true = subst (λ (j : ℕ). (edge_at task.graph.edges j).phony ≡ true) same phony in
          let input : has (inputs (edge_at task.graph.edges (suc n))) found.path ≡ true = elim (has-cases (inputs (edge_at task.graph.edges (suc n))) (task.recorded (suc n)) found.path found.needed) [
            | inl here ↦ here
            | inr noted ↦ absurd (false≢true (subst (λ (ps : List (List ℕ)). has ps found.path ≡ true) (at.stated.bare (suc n) mine) noted))
          ] in
          above found.path m (subst (λ (j : ℕ). has (inputs (edge_at task.graph.edges j)) found.path ≡ true) (sym same) input) found.made
          (Needed (suc m) (suc n) found.path within found.needed found.made)

  -- ---- judgements

  pub may_be_judged : (e : ℕ) → flagged plan.ready e ≡ true → MayBeJudged task steps (suc e)
  may_be_judged e ready =
      let both = and_parts (is_unjudged (stand e)) (get_or plan.left.items e 0 == 0) (sym (plan.sets.ready e) ∙ ready) in
      let inside = known is_unjudged e refl both.0 in
      let stood : stand e ≡ Unjudged = unjudged_is (stand e) both.0 in
      let command : IsCommand task.graph.edges (suc e) = sym (at.kinds e inside) ∙ ap is_phony stood in
      let within = at.within e inside in
      record {
        within = within;
        command = command;
        once = stands.unjudged_fresh steps (suc e) (ap is_unjudged (sym (at.stands e within command)) ∙ both.0);
        ready = λ p need j made. settled_maker stood both.1 j (at.stated.linked.complete e j record { path = p; needed = need; made = made });
      }
    where
      settled_maker : stand e ≡ Unjudged → (get_or plan.left.items e 0 == 0) ≡ true → (j : ℕ) → HasMaker (links_of graph) e j → IsSettled task.graph.edges (done_in steps) j
      settled_maker stood none j found =
          let nothing : count_by (is_missing plan.there.items) (needs_at (links_of graph) e) ≡ 0 = sym (at.over.over.counts e (ap awaits stood)) ∙ eqb-true (get_or plan.left.items e 0) 0 none in
          let p = get_or (needs_at (links_of graph) e) found.place 0 in
          let there : flagged plan.there.items p ≡ true = not_false (flagged plan.there.items p) (count_none (is_missing plan.there.items) (needs_at (links_of graph) e) found.place 0 found.within nothing) in
          let is : is_settled (stand found.number) ≡ true = ap (maker_settled plan.standings.items) (sym found.is) ∙ at.over.over.sound p there in
          subst (λ (n : ℕ). IsSettled task.graph.edges (done_in steps) n) found.same (at.settled found.number is)
        where
          not_false : (b : Bool) → not b ≡ false → b ≡ true
          not_false true h = refl
          not_false false h = absurd (true≢false h)

  pub judged_may : (e : ℕ) → MayBeJudged task steps (suc e) → flagged plan.ready e ≡ true
  judged_may e may =
      let stood : stand e ≡ Unjudged = at.stands e may.within may.command ∙ stands.fresh_unjudged task steps lawful (suc e) may.once in
      plan.sets.ready e ∙ and_from (is_unjudged (stand e)) (get_or plan.left.items e 0 == 0) (ap is_unjudged stood)
      (eq-eqb (get_or plan.left.items e 0) 0 (at.over.over.counts e (ap awaits stood) ∙ none_missing e each))
    where
      each : (k n : ℕ) → k < length (needs_at (links_of graph) e) → maker_at (links_of graph) e k ≡ Some n → is_settled (stand n) ≡ true
      each k n lt is =
          let found = maker_of e k n lt is in
          settled_stands (suc n) n refl (may.ready found.path found.needed (suc n) found.made) (Needed (suc n) (suc e) found.path may.within found.needed found.made)

  pub none_judged : AreNone plan.ready → NoneMayBeJudged task steps
  none_judged none zero may = stands.never_judged task steps may
  none_judged none (suc e) may = false≢true (sym (none e) ∙ judged_may e may)

  pub judge_lawful : (e : ℕ) → IsFirst plan.ready e → (stale : Bool) → IsLawfulStep task steps (Judged (suc e) stale)
  judge_lawful e first stale = (may_be_judged e first.is, lower)
    where
      lower : (k : ℕ) → k < suc e → MayBeJudged task steps k → ⊥
      lower zero lt may = stands.never_judged task steps may
      lower (suc k) lt may = false≢true (sym (first.lowest k (omega (arith, lt))) ∙ judged_may k may)
