-- Files that a run leaves as they are.
use Rattle.std.proofs.Common.{◌≡◌, ◌≢◌, inl, inr, ℕ, ◌==◌, Bool, true, false, IsTrue, List, [], ◌∷◌, ◌++◌, sym, ◌∙◌, ap, subst}
use Rattle.std.proofs.lemmas.Bool.{false≢true, or_cases, eqb-true}
use Rattle.model.specs.World.{World, file_at, IsIdle}
use Rattle.model.specs.Graph.{has, has_number, edge_at, outputs, IsMadeOnce, IsCommand}
use Rattle.model.specs.Records.{OwnFiles}
use Rattle.model.specs.Schedule.{Task, Step, Judged, Started, Ended, clean_in, started_in, out_of_date_in}
use Rattle.model.specs.Premises.{FilesAreKept, LiesIn}
use Rattle.model.specs.SingleBuild.{MayChange}
use Rattle.theory.specs.Run.{IsRunOrRest}
use Rattle.theory.proofs.Orderly.{IsKept, kept_orderly}
use Rattle.theory.proofs.Makers.{one_maker}
use Rattle.theory.proofs.Exit.{told, unwritten_or, unchanged}
use Rattle.theory.proofs.Files.{IsElsewhere, file_stays}
use Rattle.theory.proofs.Lists.{same_rest}
use Rattle.std.specs.List.{AllByRecursion}
use Rattle.model.specs.declared.event.Moment.{Moment}

-- the judgement of an edge that was judged clean
pub record IsJudgedClean (steps : List Step) (i : ℕ) : Type 0 where
  pub before : List Step
  pub after : List Step
  pub splits : steps ≡ before ++ Judged i false ∷ after

further : (step : Step) (steps : List Step) (i : ℕ) → IsJudgedClean steps i → IsJudgedClean (step ∷ steps) i
further step steps i judged = record { before = step ∷ judged.before; after = judged.after; splits = ap (λ (l : List Step). step ∷ l) judged.splits }

pub clean_step : (steps : List Step) (i : ℕ) → has_number (clean_in steps) i ≡ true → IsJudgedClean steps i
clean_step [] i h = absurd (false≢true h)
clean_step (Judged j true ∷ steps) i h = further (Judged j true) steps i (clean_step steps i h)
clean_step (Judged j false ∷ steps) i h = elim (or_cases (j == i) (has_number (clean_in steps) i) h) [
  | inl here ↦ record { before = []; after = steps; splits = ap (λ (n : ℕ). Judged n false ∷ steps) (eqb-true j i here) }
  | inr there ↦ further (Judged j false) steps i (clean_step steps i there)
]
clean_step (Started j ∷ steps) i h = further (Started j) steps i (clean_step steps i h)
clean_step (Ended j w ∷ steps) i h = further (Ended j w) steps i (clean_step steps i h)

module _ (tells : Bool) (own : OwnFiles) (task : Task) (steps : List Step) (old now : World) (idle : IsIdle old.events) (rest : IsRunOrRest tells own task steps old now) (tell : IsTrue tells)
    (once : IsMadeOnce task.graph.edges) (files : FilesAreKept own task.graph.edges old.history now.history) where
  kept : IsKept task.graph.edges steps
  kept = kept_orderly task.graph.edges steps rest.orderly

  pub commands : (i : ℕ) → has_number (out_of_date_in steps) i ≡ true → IsCommand task.graph.edges i
  commands i h = kept.judged i (kept.out_of_date i h)

  -- a path outside the set that no started command makes is as it was
  pub path_unwritten : (o : List ℕ) → own.set o ≡ false → files.free o ≡ false → ((i : ℕ) → has_number (started_in steps) i ≡ true → has (outputs (edge_at task.graph.edges i)) o ≡ true → ⊥)
      → (more : List Moment) → now.history ≡ old.history ++ more → AllByRecursion (IsElsewhere o) more
  path_unwritten o outside bound unstarted more grows = elim (unwritten_or tells own task steps old now idle rest tell files.free files.commands files.edits o) [
    | inl same ↦ subst (λ (l : List Moment). AllByRecursion (IsElsewhere o) l) (same_rest old.history (told tells own task steps old now idle rest tell).more more (sym (told tells own task steps old now idle rest tell).grows ∙ grows)) same
    | inr (inl may) ↦ absurd (no_change may)
    | inr (inr is_free) ↦ absurd (false≢true (sym bound ∙ is_free))
  ]
    where
      in_set : (q : List ℕ) → LiesIn own q → o ≡ q → ⊥
      in_set q lies same = false≢true (sym outside ∙ (ap own.set same ∙ lies.0))

      no_change : MayChange own task.graph.edges steps o → ⊥
      no_change (inl mine) = false≢true (sym outside ∙ files.own_files.within o mine)
      no_change (inr (inl (i, started, makes))) = unstarted i started makes
      no_change (inr (inr (inl (i, out, is)))) = in_set (edge_at task.graph.edges i).act.depfile (files.own_files.depfiles i (commands i out)) is
      no_change (inr (inr (inr (i, out, is)))) = in_set (edge_at task.graph.edges i).act.response_path (files.own_files.responses i (commands i out)) is

  pub path_stays : (o : List ℕ) → own.set o ≡ false → files.free o ≡ false → ((i : ℕ) → has_number (started_in steps) i ≡ true → has (outputs (edge_at task.graph.edges i)) o ≡ true → ⊥) → file_at now.history o ≡ file_at old.history o
  path_stays o outside bound unstarted =
      let all = told tells own task steps old now idle rest tell in
      ap (λ (h : List Moment). file_at h o) all.grows ∙ file_stays o old.history all.more (path_unwritten o outside bound unstarted all.more all.grows)

  -- the outputs of an edge that was judged clean are as they were
  pub clean_stays : (i : ℕ) (o : List ℕ) → has_number (clean_in steps) i ≡ true → has (outputs (edge_at task.graph.edges i)) o ≡ true → file_at now.history o ≡ file_at old.history o
  clean_stays i o clean is_output = path_stays o (files.own_files.outputs i o is_output) (files.free_apart.outputs i o (inl (kept.judged i (kept.clean i clean))) is_output)
      (λ j started makes. kept.apart i clean
      (subst (λ (k : ℕ). has_number (out_of_date_in steps) k ≡ true) (one_maker task.graph.edges o j i once makes is_output) (kept.started j started)))

  -- the depfile of an edge that was not judged out of date is as it was
  pub depfile_stays : (i : ℕ) → IsCommand task.graph.edges i → (edge_at task.graph.edges i).act.depfile ≢ [] → (has_number (out_of_date_in steps) i ≡ true → ⊥)
      → file_at now.history (edge_at task.graph.edges i).act.depfile ≡ file_at old.history (edge_at task.graph.edges i).act.depfile
  depfile_stays i command some not_out = elim (unchanged tells own task steps old now idle rest tell files.free files.commands files.edits (edge_at task.graph.edges i).act.depfile) [
    | inl same ↦ same
    | inr (inl may) ↦ absurd (no_change may)
    | inr (inr is_free) ↦ absurd (false≢true (sym (files.free_apart.set (edge_at task.graph.edges i).act.depfile (files.own_files.depfiles i command).0) ∙ is_free))
  ]
    where
      other : (k : ℕ) → has_number (out_of_date_in steps) k ≡ true → i ≡ k → ⊥
      other k out same = not_out (subst (λ (n : ℕ). has_number (out_of_date_in steps) n ≡ true) (sym same) out)

      no_change : MayChange own task.graph.edges steps (edge_at task.graph.edges i).act.depfile → ⊥
      no_change (inl mine) = false≢true (sym (files.own_files.depfiles i command).1 ∙ mine)
      no_change (inr (inl (k, started, makes))) = false≢true (sym (files.own_files.outputs k (edge_at task.graph.edges i).act.depfile makes) ∙ (files.own_files.depfiles i command).0)
      no_change (inr (inr (inl (k, out, is)))) = (files.own_files.apart i k command (commands k out) (λ same. other k out same)).0 some is
      no_change (inr (inr (inr (k, out, is)))) = (files.own_files.apart i k command (commands k out) (λ same. other k out same)).2 some is
