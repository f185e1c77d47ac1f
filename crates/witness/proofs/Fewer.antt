-- The rows of what needs fewer premises.
use Rattle.std.proofs.Common.{◌≡◌, inl, inr, ℕ, zero, suc, ◌==◌, Bool, true, false, List, [], ◌∷◌, ◌++◌, Option, Some, None, refl, sym, ◌∙◌, ap, subst, bytes_eq, arith}
use Rattle.std.proofs.lemmas.Bool.{false≢true, or_cases, eqb-true}
use Rattle.std.specs.Prelude.{codes}
use Rattle.std.specs.List.{AllByRecursion}
use Rattle.model.specs.declared.event.Event.TheVariants.{Start, Finish}
use Rattle.model.specs.declared.event.Moment.{Moment}
use Rattle.model.specs.declared.event.Moment.TheVariants.{Wrote, Happened}
use Rattle.model.specs.declared.event.Writer.TheVariants.{Command, Someone}
use Rattle.model.specs.Graph.{has, has_number, edge_at, outputs, IsCommand}
use Rattle.model.specs.Records.{OwnFiles}
use Rattle.model.specs.Schedule.{well_in}
use Rattle.model.specs.Premises.{none_free, IsWithinEdge, IsNoEdit, FilesAreKept, EndedAt}
use Rattle.model.specs.SingleBuild.{IsReadBehind}
use Rattle.witness.specs.Refused.{own, with_depfile}
use Rattle.witness.specs.Fewer.{one_depfile, refuses_no, tells, told_in_d, spoilt, failed_steps, FewerPremises}
use Rattle.witness.proofs.RowLists.{all_has, none_some}

-- ---- two edges with one depfile

of_depfiles : (i : ℕ) → IsCommand one_depfile i → own.set (edge_at one_depfile i).act.depfile ≡ true
of_depfiles zero command = refl
of_depfiles (suc zero) command = refl
of_depfiles (suc (suc zero)) command = refl
of_depfiles (suc (suc (suc i))) command = refl

of_responses : (i : ℕ) → IsCommand one_depfile i → own.set (edge_at one_depfile i).act.response_path ≡ true
of_responses zero command = refl
of_responses (suc zero) command = refl
of_responses (suc (suc zero)) command = refl
of_responses (suc (suc (suc i))) command = refl

of_outputs : (i : ℕ) (p : List ℕ) → has (outputs (edge_at one_depfile i)) p ≡ true → own.set p ≡ false
of_outputs zero p h = absurd (false≢true h)
of_outputs (suc zero) p h = all_has (λ q. own.set q ≡ false) (codes "b" ∷ []) p (refl, tt) h
of_outputs (suc (suc zero)) p h = all_has (λ q. own.set q ≡ false) (codes "c" ∷ []) p (refl, tt) h
of_outputs (suc (suc (suc i))) p h = absurd (false≢true h)

one_two : ◌≡◌ {A = ℕ} 1 2 → ⊥
one_two same = omega (arith, same)

-- ---- a depfile that is written behind the end

is_first : (i : ℕ) → has_number (1 ∷ []) i ≡ true → 1 ≡ i
is_first i h = elim (or_cases (1 == i) false h) [
  | inl same ↦ eqb-true 1 i same
  | inr other ↦ absurd (false≢true other)
]

-- what comes before the one end
before_end : (before after : List Moment) (i : ℕ)
    → Happened (Start 1 tells 9) ∷ Wrote (Command 1) (codes "d") (Some (codes "yes")) 10 ∷ Happened (Finish 1 true) ∷ Wrote Someone (codes "d") (Some (codes "no")) 11 ∷ [] ≡ before ++ Happened (Finish i true) ∷ after
    → told_in_d ≡ before
before_end [] after i is = cc
before_end (a ∷ []) after i is = cc
before_end (a ∷ b ∷ []) after i is = cc
before_end (a ∷ b ∷ c ∷ []) after i is = cc
before_end (a ∷ b ∷ c ∷ d ∷ before) after i is = let none : [] ≡ before ++ Happened (Finish i true) ∷ after = cc in absurd (nothing before none)
  where
    nothing : (xs : List Moment) → [] ≡ xs ++ Happened (Finish i true) ∷ after → ⊥
    nothing [] none = cc
    nothing (x ∷ xs) none = cc

read_first : IsReadBehind refuses_no (edge_at with_depfile 1).act 1 told_in_d spoilt false
read_first = record { between = Wrote Someone (codes "d") (Some (codes "no")) 11 ∷ []; later = []; grows = refl; others = (tt, tt); is = refl }

read_behind : (i : ℕ) (at : List Moment) → EndedAt i [] spoilt at → 1 ≡ i → IsReadBehind refuses_no (edge_at with_depfile i).act i at spoilt (has_number (well_in failed_steps) i)
read_behind i at ended first =
    subst (λ (n : ℕ). IsReadBehind refuses_no (edge_at with_depfile n).act n at spoilt false) first
    (subst (λ (l : List Moment). IsReadBehind refuses_no (edge_at with_depfile 1).act 1 l spoilt false) (before_end ended.before ended.after i ended.splits ∙ sym ended.is) read_first)

pub fewer_premises : FewerPremises
fewer_premises = record {
  outputs = record {
    free = none_free;
    apart = record {
      bound = λ i p makes h. refl;
      within = λ p h. all_has (λ q. own.set q ≡ true) (codes "l" ∷ codes "m" ∷ codes "t" ∷ []) p (refl, (refl, (refl, tt))) h;
      depfiles = of_depfiles;
      responses = of_responses;
      outputs = of_outputs;
    };
    commands = λ more is. subst (AllByRecursion (IsWithinEdge none_free one_depfile)) is tt;
    edits = λ more is. subst (AllByRecursion (IsNoEdit none_free)) is tt;
  };
  shared = λ all files. (files.own_files.apart 1 2 refl refl one_two).0 (λ none. let no : ⊥ = cc in no) refl;
  as_read = record { well = λ i at ended well. absurd (false≢true well); depfiles = λ i at ended has unmet. read_behind i at ended (is_first i has) };
  as_left = λ right. false≢true (right.depfiles 1 told_in_d
      (record { before = told_in_d; after = Wrote Someone (codes "d") (Some (codes "no")) 11 ∷ []; is = refl; splits = refl }) refl (λ met. none_some 1 met));
  spoils = λ all files. false≢true (sym (files.free_apart.set (codes "d") (files.own_files.depfiles 1 refl).0) ∙ (files.edits spoilt refl).1.1.1.0);
}
