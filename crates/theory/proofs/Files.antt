-- Which files a run leaves as they are.
use Rattle.std.proofs.Common.{◌≡◌, ◌⊎◌, inl, inr, ℕ, Bool, true, false, List, [], ◌∷◌, ◌++◌, Option, None, bytes_eq, refl, sym, ◌∙◌, ap, subst}
use Rattle.std.specs.List.{AllByRecursion}
use Rattle.std.proofs.lemmas.Bool.{false≢true, cases_Bool, cond-true, cond-false, false_from_ne_true}
use Rattle.model.specs.declared.graph.Edge.{Edge}
use Rattle.model.specs.declared.event.Moment.{Moment}
use Rattle.model.specs.declared.event.Moment.TheVariants.{Wrote, Happened}
use Rattle.model.specs.declared.event.Writer.{Writer}
use Rattle.model.specs.declared.event.Writer.TheVariants.{Program, Command, Someone}
use Rattle.model.specs.Calls.{AllByOthers}
use Rattle.model.specs.World.{File, written, file_after, file_from, file_at, IsNotAt}
use Rattle.model.specs.Graph.{has, has_number, edge_at, outputs, IsMadeOnce, IsCommand}
use Rattle.model.specs.Records.{OwnFiles}
use Rattle.model.specs.Schedule.{Step, started_in, out_of_date_in}
use Rattle.model.specs.Premises.{OwnFilesApart, FreeApart, OutputsApart, OutputsAreKept, FilesAreKept, IsWithinEdge, IsNoEdit}
use Rattle.model.specs.SingleBuild.{IsOwnWrite, IsOfBuild, MayChange}
use Rattle.theory.specs.Run.{IsByOthersThan}
use Rattle.theory.proofs.Lists.{same_bytes, bytes_same}
use Rattle.theory.proofs.Makers.{one_maker}

pub file_from-append : (p : List ℕ) (f : Option File) (xs ys : List Moment) → file_from p f (xs ++ ys) ≡ file_from p (file_from p f xs) ys
file_from-append p f [] ys = refl
file_from-append p f (x ∷ xs) ys = file_from-append p (file_after p f x) xs ys

-- another path, or no write
abbrev pub IsElsewhere : List ℕ → Moment → Type 0
IsElsewhere p m = IsNotAt p m

pub unmoved : (p : List ℕ) (f : Option File) (ms : List Moment) → AllByRecursion (IsElsewhere p) ms → file_from p f ms ≡ f
unmoved p f [] all = refl
unmoved p f (Wrote by path content stamp ∷ ms) all =
    ap (λ (g : Option File). file_from p g ms) (cond-false (bytes_eq path p) (written content stamp) f all.0) ∙ unmoved p f ms all.1
unmoved p f (Happened event ∷ ms) all = unmoved p f ms all.1

-- where nothing is written at the path, its file stays
pub file_stays : (p : List ℕ) (old more : List Moment) → AllByRecursion (IsElsewhere p) more → file_at (old ++ more) p ≡ file_at old p
file_stays p old more all = file_from-append p None old more ∙ unmoved p (file_at old p) more all

-- ---- what running commands write

pub others_elsewhere : (free : List ℕ → Bool) (edges : List Edge) (running : ℕ → Type 0) (p : List ℕ) → free p ≡ false → ((job : ℕ) → running job → has (outputs (edge_at edges job)) p ≡ true → ⊥) → ((job : ℕ) → running job → p ≡ (edge_at edges job).act.depfile → ⊥)
    → (ms : List Moment) → AllByOthers running ms → AllByRecursion (IsWithinEdge free edges) ms → AllByRecursion (IsNoEdit free) ms → AllByRecursion (IsElsewhere p) ms
others_elsewhere free edges running p bound outs deps [] all within edits = tt
others_elsewhere free edges running p bound outs deps (Wrote Program path content stamp ∷ ms) all within edits = absurd all.0
others_elsewhere free edges running p bound outs deps (Wrote (Command job) path content stamp ∷ ms) all within edits =
    (false_from_ne_true (bytes_eq path p) (λ here. by_place (same_bytes path p here) within.0), others_elsewhere free edges running p bound outs deps ms all.1 within.1 edits.1)
  where
    by_place : path ≡ p → (has (outputs (edge_at edges job)) path ≡ true) ⊎ (path ≡ (edge_at edges job).act.depfile) ⊎ (free path ≡ true) → ⊥
    by_place same (inl makes) = outs job all.0 (subst (λ (q : List ℕ). has (outputs (edge_at edges job)) q ≡ true) same makes)
    by_place same (inr (inl is)) = deps job all.0 (sym same ∙ is)
    by_place same (inr (inr scratch)) = false≢true (sym bound ∙ (ap free (sym same) ∙ scratch))
others_elsewhere free edges running p bound outs deps (Wrote Someone path content stamp ∷ ms) all within edits =
    (false_from_ne_true (bytes_eq path p) (λ here. false≢true (sym bound ∙ (ap free (sym (same_bytes path p here)) ∙ edits.0))), others_elsewhere free edges running p bound outs deps ms all.1 within.1 edits.1)
others_elsewhere free edges running p bound outs deps (Happened event ∷ ms) all within edits = absurd all.0

-- a write stands where nothing else is written at the path since then
pub write_stands : (p : List ℕ) (by : Writer) (content : Option (List ℕ)) (stamp : ℕ) (old earlier later new : List Moment) → new ≡ old ++ (earlier ++ Wrote by p content stamp ∷ later)
    → AllByRecursion (IsElsewhere p) later → file_at new p ≡ written content stamp
write_stands p by content stamp old earlier later new grows others =
    ap (λ (h : List Moment). file_at h p) grows
    ∙ (file_from-append p None old (earlier ++ Wrote by p content stamp ∷ later)
    ∙ (file_from-append p (file_at old p) earlier (Wrote by p content stamp ∷ later)
    ∙ (ap (λ (f : Option File). file_from p f later) (cond-true (bytes_eq p p) (written content stamp) (file_from p (file_at old p) earlier) (bytes_same p))
    ∙ unmoved p (written content stamp) later others)))

-- where files are kept, outputs are
abbrev pub outputs_apart : (own : OwnFiles) (edges : List Edge) (free : List ℕ → Bool) → OwnFilesApart own edges → FreeApart free own edges → OutputsApart free own edges
outputs_apart own edges free apart free_apart = record {
  bound = λ i p makes h. free_apart.outputs i p makes h;
  within = λ p h. apart.within p h;
  depfiles = λ i command. (apart.depfiles i command).0;
  responses = λ i command. (apart.responses i command).0;
  outputs = λ i p h. apart.outputs i p h;
}

abbrev pub outputs_kept : (own : OwnFiles) (edges : List Edge) (old new : List Moment) → FilesAreKept own edges old new → OutputsAreKept own edges old new
outputs_kept own edges old new files = record { free = files.free; apart = outputs_apart own edges files.free files.own_files files.free_apart; commands = files.commands; edits = files.edits }

module _ (own : OwnFiles) (edges : List Edge) (steps : List Step) (free : List ℕ → Bool) (apart : OutputsApart free own edges)
    (commands : (i : ℕ) → has_number (out_of_date_in steps) i ≡ true → IsCommand edges i)
    (judged : (i : ℕ) → has_number (started_in steps) i ≡ true → has_number (out_of_date_in steps) i ≡ true) where
  -- ---- outputs of an edge whose command writes nothing

  lies_in_set : (p q : List ℕ) → own.set q ≡ true → p ≡ q → own.set p ≡ true
  lies_in_set p q lies same = ap own.set same ∙ lies

  -- the program's writes lie in its set
  program_in_set : (path : List ℕ) (content : Option (List ℕ)) → IsOwnWrite own edges steps path content → own.set path ≡ true
  program_in_set path content (inl mine) = apart.within path mine
  program_in_set path content (inr (inl (k, out, is, gone))) = lies_in_set path (edge_at edges k).act.depfile (apart.depfiles k (commands k out)) is
  program_in_set path content (inr (inr (k, out, is))) = lies_in_set path (edge_at edges k).act.response_path (apart.responses k (commands k out)) is

  module _ (once : IsMadeOnce edges) (i : ℕ) (command : IsCommand edges i) (o : List ℕ) (is_output : has (outputs (edge_at edges i)) o ≡ true) where
    not_in_set : (path : List ℕ) → path ≡ o → own.set path ≡ true → ⊥
    not_in_set path same in_set =
        false≢true (sym (apart.outputs i o is_output) ∙ (ap own.set (sym same) ∙ in_set))

    not_free : (path : List ℕ) → path ≡ o → free path ≡ true → ⊥
    not_free path same is_free = false≢true (sym (apart.bound i o (inl command) is_output) ∙ (ap free (sym same) ∙ is_free))

    elsewhere : (m : Moment) → IsByOthersThan own edges steps i m → IsWithinEdge free edges m × IsNoEdit free m → IsElsewhere o m
    elsewhere (Wrote Program path content stamp) others kept =
        false_from_ne_true (bytes_eq path o) (λ same. not_in_set path (same_bytes path o same) (program_in_set path content others))
    elsewhere (Wrote (Command job) path content stamp) others kept =
        false_from_ne_true (bytes_eq path o) (λ same. by_place (same_bytes path o same) kept.0)
      where
        by_place : path ≡ o → (has (outputs (edge_at edges job)) path ≡ true) ⊎ (path ≡ (edge_at edges job).act.depfile) ⊎ (free path ≡ true) → ⊥
        by_place same (inl made) = others.0 (one_maker edges path job i once made (subst (λ (x : List ℕ). has (outputs (edge_at edges i)) x ≡ true) (sym same) is_output))
        by_place same (inr (inr scratch)) = not_free path same scratch
        by_place same (inr (inl is)) = not_in_set path same (lies_in_set path (edge_at edges job).act.depfile (apart.depfiles job (commands job (judged job others.1))) is)
    elsewhere (Wrote Someone path content stamp) others kept =
        false_from_ne_true (bytes_eq path o) (λ same. not_free path (same_bytes path o same) kept.1)
    elsewhere (Happened event) others kept = tt

    -- an output stays as it is while its command writes nothing
    pub all_elsewhere : (ms : List Moment) → AllByRecursion (IsByOthersThan own edges steps i) ms → AllByRecursion (IsWithinEdge free edges) ms → AllByRecursion (IsNoEdit free) ms → AllByRecursion (IsElsewhere o) ms
    all_elsewhere [] others within edits = tt
    all_elsewhere (m ∷ ms) others within edits = (elsewhere m others.0 (within.0, edits.0), all_elsewhere ms others.1 within.1 edits.1)

-- ---- a file that changes is one that the build may change

module _ (own : OwnFiles) (edges : List Edge) (steps : List Step) (free : List ℕ → Bool)
    (judged : (i : ℕ) → has_number (started_in steps) i ≡ true → has_number (out_of_date_in steps) i ≡ true) where
  may_change : (p : List ℕ) (m : Moment) → IsOfBuild own edges steps m → IsWithinEdge free edges m → IsNoEdit free m → IsElsewhere p m ⊎ MayChange own edges steps p ⊎ (free p ≡ true)
  may_change p (Wrote Program path content stamp) build within edits = elim (cases_Bool (bytes_eq path p)) [
    | inl same ↦ inr (inl (by_write build (same_bytes path p same)))
    | inr other ↦ inl other
  ]
    where
      by_write : IsOwnWrite own edges steps path content → path ≡ p → MayChange own edges steps p
      by_write (inl mine) same = inl (ap own.files (sym same) ∙ mine)
      by_write (inr (inl (k, out, is, gone))) same = inr (inr (inl (k, out, sym same ∙ is)))
      by_write (inr (inr (k, out, is))) same = inr (inr (inr (k, out, sym same ∙ is)))
  may_change p (Wrote (Command job) path content stamp) build within edits = elim (cases_Bool (bytes_eq path p)) [
    | inl same ↦ inr (by_place within (same_bytes path p same))
    | inr other ↦ inl other
  ]
    where
      by_place : (has (outputs (edge_at edges job)) path ≡ true) ⊎ (path ≡ (edge_at edges job).act.depfile) ⊎ (free path ≡ true) → path ≡ p → MayChange own edges steps p ⊎ (free p ≡ true)
      by_place (inl made) same = inl (inr (inl (job, build, subst (λ (x : List ℕ). has (outputs (edge_at edges job)) x ≡ true) same made)))
      by_place (inr (inl is)) same = inl (inr (inr (inl (job, judged job build, sym same ∙ is))))
      by_place (inr (inr scratch)) same = inr (ap free (sym same) ∙ scratch)
  may_change p (Wrote Someone path content stamp) build within edits = elim (cases_Bool (bytes_eq path p)) [
    | inl same ↦ inr (inr (ap free (sym (same_bytes path p same)) ∙ edits))
    | inr other ↦ inl other
  ]
  may_change p (Happened event) build within edits = inl tt

  pub stays_or_may_change : (p : List ℕ) (ms : List Moment) → AllByRecursion (IsOfBuild own edges steps) ms → AllByRecursion (IsWithinEdge free edges) ms → AllByRecursion (IsNoEdit free) ms
      → AllByRecursion (IsElsewhere p) ms ⊎ MayChange own edges steps p ⊎ (free p ≡ true)
  stays_or_may_change p [] build within edits = inl tt
  stays_or_may_change p (m ∷ ms) build within edits = elim (may_change p m build.0 within.0 edits.0) [
    | inl here ↦ elim (stays_or_may_change p ms build.1 within.1 edits.1) [
      | inl rest ↦ inl (here, rest)
      | inr may ↦ inr may
    ]
    | inr may ↦ inr may
  ]
