-- By the order of settling, what is settled is right after as many rounds as there are edges settled.
use Rattle.std.proofs.Common.{◌≡◌, inl, inr, ℕ, zero, suc, ◌<◌, ◌≤◌, Bool, true, false, List, [], ◌∷◌, ◌++◌, length, Option, Some, None, refl, sym, ◌∙◌, ap, subst, arith, append_assoc}
use Rattle.std.specs.List.{AllByRecursion}
use Rattle.std.proofs.lemmas.List.{append-nil}
use Rattle.std.proofs.lemmas.Bool.{false≢true, cond-true, cond-false}
use Rattle.model.specs.declared.graph.Edge.{Edge}
use Rattle.model.specs.World.{View}
use Rattle.model.specs.Calls.{AgreeOn}
use Rattle.model.specs.Graph.{has, has_number, edge_at, maker, outputs, IsCommand}
use Rattle.model.specs.Outcome.{Behaviour, given, reports_of}
use Rattle.model.specs.Clean.{made, rounds, if_no_command, sources_of, clean_build}
use Rattle.model.specs.Reading.{IsRead}
use Rattle.model.specs.Premises.{HasOneOutcome}
use Rattle.theory.specs.Order.{IsReadAfter, IsNextRead, IsReadingOrder, IsExplained}
use Rattle.theory.proofs.Lists.{all_has, has_number-left, has_number-push, has_number-push_cases, count_done, count_more, count_few}
use Rattle.theory.proofs.Makers.{command_within, maker_has}

module _ (B : Behaviour) (edges : List Edge) (files : View) (Reads : ℕ → List ℕ → Type 0) (as_read : (i : ℕ) (p : List ℕ) → IsRead edges files i p → Reads i p) where
  abbrev after_rounds : ℕ → View
  after_rounds n = rounds B edges (sources_of edges files) n

  -- ---- what no command makes holds what it holds

  source_held : (p : List ℕ) → maker edges p ≡ None → sources_of edges files p ≡ files p
  source_held p is = ap (λ (m : Option ℕ). if_no_command edges (files p) m) is

  source_right : (n : ℕ) (p : List ℕ) → maker edges p ≡ None → after_rounds n p ≡ files p
  source_right zero p is = source_held p is
  source_right (suc n) p is =
      ap (λ (m : Option ℕ). made B edges (sources_of edges files) (after_rounds n) p m) is ∙ source_held p is

  alias_held : (p : List ℕ) (j : ℕ) → maker edges p ≡ Some j → (edge_at edges j).phony ≡ true → sources_of edges files p ≡ files p
  alias_held p j is phony =
      ap (λ (m : Option ℕ). if_no_command edges (files p) m) is ∙ cond-true (edge_at edges j).phony (files p) None phony

  alias_right : (n : ℕ) (p : List ℕ) (j : ℕ) → maker edges p ≡ Some j → (edge_at edges j).phony ≡ true → after_rounds n p ≡ files p
  alias_right zero p j is phony = alias_held p j is phony
  alias_right (suc n) p j is phony =
      ap (λ (m : Option ℕ). made B edges (sources_of edges files) (after_rounds n) p m) is
      ∙ cond-true (edge_at edges j).phony (sources_of edges files p) (given B (edge_at edges j).act (after_rounds n) p) phony
      ∙ alias_held p j is phony

  command_round : (n : ℕ) (p : List ℕ) (i : ℕ) → maker edges p ≡ Some i → IsCommand edges i → after_rounds (suc n) p ≡ given B (edge_at edges i).act (after_rounds n) p
  command_round n p i is command =
      ap (λ (m : Option ℕ). made B edges (sources_of edges files) (after_rounds n) p m) is
      ∙ cond-false (edge_at edges i).phony (sources_of edges files p) (given B (edge_at edges i).act (after_rounds n) p) command

  -- ---- what is settled

  -- what the commands that are done make is right after so many rounds
  abbrev IsRightAfter : ℕ → List ℕ → Type 0
  IsRightAfter n done = (p : List ℕ) (j : ℕ) → maker edges p ≡ Some j → has_number done j ≡ true → after_rounds n p ≡ files p

  -- what the edge reads is right where the commands that make it are done
  read_right : (n : ℕ) (done : List ℕ) → IsRightAfter n done → (i : ℕ) → IsReadAfter edges Reads done i → (p : List ℕ) → Reads i p → after_rounds n p ≡ files p
  read_right n done right i after p reads = by_maker (maker edges p) refl
    where
      by_edge : (j : ℕ) (b : Bool) → (edge_at edges j).phony ≡ b → maker edges p ≡ Some j → after_rounds n p ≡ files p
      by_edge j true phony is = alias_right n p j is phony
      by_edge j false command is = right p j is (after p j reads is command)

      by_maker : (m : Option ℕ) → maker edges p ≡ m → after_rounds n p ≡ files p
      by_maker None is = source_right n p is
      by_maker (Some j) is = by_edge j (edge_at edges j).phony refl is

  -- so is what a command reports
  reports_right : (n : ℕ) (done : List ℕ) → IsRightAfter n done → (i : ℕ) → IsReadAfter edges Reads done i → (seen : View) (ps : List (List ℕ))
      → AllByRecursion (Reads i) ps → AgreeOn ps seen files → AgreeOn ps seen (after_rounds n)
  reports_right n done right i after seen [] told same = tt
  reports_right n done right i after seen (p ∷ ps) told same =
      (same.0 ∙ sym (read_right n done right i after p told.0), reports_right n done right i after seen ps told.1 same.1)

  -- an explained output is right one round later
  output_right : (n : ℕ) (done : List ℕ) → IsRightAfter n done → (i : ℕ) (o : List ℕ) → IsCommand edges i → maker edges o ≡ Some i
      → IsReadAfter edges Reads done i → HasOneOutcome B edges files i → IsExplained B edges Reads files i o → after_rounds (suc n) o ≡ files o
  output_right n done right i o command is after one explained =
      let same = one explained.seen (after_rounds n) explained.reading
      (λ p read. read_right n done right i after p (as_read i p read)) explained.well
      (reports_right n done right i after explained.seen (reports_of B (edge_at edges i).act explained.seen) explained.told explained.reports) in
      command_round n o i is command
      ∙ all_has (λ q. given B (edge_at edges i).act (after_rounds n) q ≡ given B (edge_at edges i).act explained.seen q) (outputs (edge_at edges i)) o same.contents (maker_has edges o i is)
      ∙ sym explained.gives

  -- ---- by the order of settling

  abbrev IsRight : List ℕ → Type 0
  IsRight done = (n : ℕ) → count_done (length edges) done ≤ n → IsRightAfter n done

  abbrev AreExplained : ℕ → Type 0
  AreExplained i = HasOneOutcome B edges files i × ((o : List ℕ) → has (outputs (edge_at edges i)) o ≡ true → IsExplained B edges Reads files i o)

  right_push : (done : List ℕ) (i : ℕ) → IsNextRead edges Reads done i → AreExplained i → IsRight done → IsRight (done ++ i ∷ [])
  right_push done i next explained right n le p j is h = elim (has_number-push_cases done i j h) [
    | inl old ↦ right n (omega (arith, one_more)) p j is old
    | inr new ↦ some_round n le (is ∙ ap (λ (k : ℕ). Some k) (sym new))
  ]
    where
      within : (0 < i) × (i ≤ length edges)
      within = command_within edges i next.command

      one_more : count_done (length edges) (done ++ i ∷ []) ≡ suc (count_done (length edges) done)
      one_more = count_more (length edges) i done next.fresh within.0 within.1

      some_round : (m : ℕ) → count_done (length edges) (done ++ i ∷ []) ≤ m → maker edges p ≡ Some i → after_rounds m p ≡ files p
      some_round zero le is = absurd (omega (arith, one_more))
      some_round (suc m) le is =
          output_right m done (right m (omega (arith, one_more))) i p next.command is next.reads explained.0 (explained.1 p (maker_has edges p i is))

  right_order : (done rest : List ℕ) → IsReadingOrder edges Reads done rest
      → ((i : ℕ) → has_number (done ++ rest) i ≡ true → AreExplained i) → IsRight done → IsRight (done ++ rest)
  right_order done [] order explained right = subst (λ (xs : List ℕ). IsRight xs) (sym (append-nil done)) right
  right_order done (i ∷ rest) order explained right =
      let again : (done ++ i ∷ []) ++ rest ≡ done ++ i ∷ rest = append_assoc done (i ∷ []) rest in
      let here : has_number (done ++ i ∷ rest) i ≡ true = subst (λ (xs : List ℕ). has_number xs i ≡ true) again (has_number-left (done ++ i ∷ []) rest i (has_number-push done i)) in
      subst (λ (xs : List ℕ). IsRight xs) again
      (right_order (done ++ i ∷ []) rest order.1
      (λ k h. explained k (subst (λ (xs : List ℕ). has_number xs k ≡ true) again h))
      (right_push done i order.0 (explained i here) right))

  -- after an order of explained edges in which what each reads comes first, their outputs hold what the clean build gives
  pub clean_by_order : (order : List ℕ) → IsReadingOrder edges Reads [] order → ((i : ℕ) → has_number order i ≡ true → AreExplained i)
      → (i : ℕ) (o : List ℕ) → has_number order i ≡ true → maker edges o ≡ Some i → files o ≡ clean_build B edges files o
  clean_by_order order reading explained i o h is =
      sym (right_order [] order reading explained (λ n le p j at none. absurd (false≢true none))
      (length edges) (count_few (length edges) order) o i is h)
