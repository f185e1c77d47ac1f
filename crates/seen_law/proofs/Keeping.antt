-- Files that are kept, as they are told.
use Rattle.std.proofs.Common.{◌≡◌, inl, ℕ, Bool, true, false, List, [], ◌∷◌, Option, Some, None, refl, subst}
use Rattle.std.specs.List.{AllByRecursion}
use Rattle.model.specs.declared.event.Event.TheVariants.{Start, Finish}
use Rattle.model.specs.declared.event.Moment.{Moment}
use Rattle.model.specs.declared.event.Moment.TheVariants.{Wrote, Happened}
use Rattle.model.specs.declared.event.Writer.{Writer}
use Rattle.model.specs.declared.event.Writer.TheVariants.{Program, Command, Someone}
use Rattle.model.specs.declared.graph.Edge.{Edge}
use Rattle.model.specs.World.{File, content_of, file_at, written}
use Rattle.model.specs.Graph.{has, edge_at, outputs}
use Rattle.model.specs.Premises.{IsWithinEdge, IsNoEdit}
use Rattle.theory.proofs.Lists.{all_append, all_from_has, same_rest}
use Rattle.seen_law.specs.Retold.{Telling, Counting, Started, none_started, told_file, start_these, teller, stamp_or, takes, takes_all, files_from, retell}
use Rattle.seen_law.specs.Laws.{KeptIsTold}

module _ (t : Telling) (free : List ℕ → Bool) (edges : List Edge) (hidden_free : (p : List ℕ) → t.hidden p ≡ true → free p ≡ true)
    (makes_outputs : (job : ℕ) (p : List ℕ) → has (t.makes job) p ≡ true → has (outputs (edge_at edges job)) p ≡ true) where
  -- ---- commands keep to their outputs

  one_within : (hidden : Bool) (by : Writer) (p : List ℕ) (content other : Option (List ℕ)) (stamp later : ℕ)
      → IsWithinEdge free edges (Wrote by p content stamp) → IsWithinEdge free edges (Wrote (teller hidden by) p other later)
  one_within true by p content other stamp later is = tt
  one_within false Program p content other stamp later is = is
  one_within false (Command job) p content other stamp later is = is
  one_within false Someone p content other stamp later is = is

  -- what a command takes over
  taken_within : (counts : Counting) (before now : Started) (job : ℕ) (files : List ℕ → Option File) (os : List (List ℕ))
      → AllByRecursion (λ o. has (outputs (edge_at edges job)) o ≡ true) os → AllByRecursion (IsWithinEdge free edges) (takes_all counts before now job files os)
  taken_within counts before now job files [] all = tt
  taken_within counts before now job files (o ∷ os) all =
      all_append (IsWithinEdge free edges) (takes job o (told_file counts (before o) o (files o)) (told_file counts (now o) o (files o))) (takes_all counts before now job files os)
      (one (told_file counts (before o) o (files o)) (told_file counts (now o) o (files o))) (taken_within counts before now job files os all.1)
    where
      one : (was is : Option File) → AllByRecursion (IsWithinEdge free edges) (takes job o was is)
      one None (Some file) = (inl all.0, tt)
      one None None = tt
      one (Some was) is = tt

  within_told : (started : Started) (files : List ℕ → Option File) (ms : List Moment) → AllByRecursion (IsWithinEdge free edges) ms → AllByRecursion (IsWithinEdge free edges) (retell t started files ms)
  within_told started files [] all = tt
  within_told started files (Wrote by p content stamp ∷ ms) all =
      let told : Option File = told_file t.counts (started p) p (written content stamp) in
      (one_within (t.hidden p) by p content (content_of told) stamp (stamp_or stamp told) all.0, within_told started (files_from files (Wrote by p content stamp ∷ [])) ms all.1)
  within_told started files (Happened (Start job act stamp) ∷ ms) all =
      let now : Started = start_these started (t.makes job) stamp in (
        tt,
        all_append (IsWithinEdge free edges) (takes_all t.counts started now job files (t.makes job)) (retell t now files ms)
            (taken_within t.counts started now job files (t.makes job) (all_from_has (λ o. has (outputs (edge_at edges job)) o ≡ true) (t.makes job) (makes_outputs job)))
            (within_told now files ms all.1),
      )
  within_told started files (Happened (Finish job ok) ∷ ms) all = (tt, within_told started files ms all.1)

  -- ---- somebody else writes free paths alone

  one_edit : (hidden : Bool) (by : Writer) (p : List ℕ) (content other : Option (List ℕ)) (stamp later : ℕ) → t.hidden p ≡ hidden
      → IsNoEdit free (Wrote by p content stamp) → IsNoEdit free (Wrote (teller hidden by) p other later)
  one_edit true by p content other stamp later hides is = hidden_free p hides
  one_edit false Program p content other stamp later hides is = is
  one_edit false (Command job) p content other stamp later hides is = is
  one_edit false Someone p content other stamp later hides is = is

  taken_edits : (counts : Counting) (before now : Started) (job : ℕ) (files : List ℕ → Option File) (os : List (List ℕ)) → AllByRecursion (IsNoEdit free) (takes_all counts before now job files os)
  taken_edits counts before now job files [] = tt
  taken_edits counts before now job files (o ∷ os) =
      all_append (IsNoEdit free) (takes job o (told_file counts (before o) o (files o)) (told_file counts (now o) o (files o))) (takes_all counts before now job files os)
      (one (told_file counts (before o) o (files o)) (told_file counts (now o) o (files o))) (taken_edits counts before now job files os)
    where
      one : (was is : Option File) → AllByRecursion (IsNoEdit free) (takes job o was is)
      one None (Some file) = (tt, tt)
      one None None = tt
      one (Some was) is = tt

  edits_told : (started : Started) (files : List ℕ → Option File) (ms : List Moment) → AllByRecursion (IsNoEdit free) ms → AllByRecursion (IsNoEdit free) (retell t started files ms)
  edits_told started files [] all = tt
  edits_told started files (Wrote by p content stamp ∷ ms) all =
      let told : Option File = told_file t.counts (started p) p (written content stamp) in
      (one_edit (t.hidden p) by p content (content_of told) stamp (stamp_or stamp told) refl all.0, edits_told started (files_from files (Wrote by p content stamp ∷ [])) ms all.1)
  edits_told started files (Happened (Start job act stamp) ∷ ms) all =
      let now : Started = start_these started (t.makes job) stamp in (
        tt,
        all_append (IsNoEdit free) (takes_all t.counts started now job files (t.makes job)) (retell t now files ms)
            (taken_edits t.counts started now job files (t.makes job))
            (edits_told now files ms all.1),
      )
  edits_told started files (Happened (Finish job ok) ∷ ms) all = (tt, edits_told started files ms all.1)

pub kept_law : KeptIsTold
kept_law t own edges first before more files hidden_free makes_outputs =
    let told : List Moment = retell t none_started (file_at first) more in
    record {
      free = files.free;
      free_apart = files.free_apart;
      commands = λ since grows. subst (λ (l : List Moment). AllByRecursion (IsWithinEdge files.free edges) l) (same_rest before told since grows)
          (within_told t files.free edges hidden_free makes_outputs none_started (file_at first) more (files.commands more refl));
      own_files = files.own_files;
      edits = λ since grows. subst (λ (l : List Moment). AllByRecursion (IsNoEdit files.free) l) (same_rest before told since grows)
          (edits_told t files.free edges hidden_free makes_outputs none_started (file_at first) more (files.edits more refl));
    }
