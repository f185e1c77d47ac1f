-- Quiet paths: no call of a run writes them.
use Rattle.std.proofs.Common.{◌≡◌, ◌⊎◌, inl, inr, ℕ, zero, suc, ◌==◌, ◌&&◌, not, Bool, true, false, IsTrue, List, [], ◌∷◌, ◌++◌, get_or, bytes_eq, refl, sym, ◌∙◌, ap, subst}
use Rattle.std.specs.List.{AllByRecursion, list_any}
use Rattle.std.proofs.lemmas.List.{append-nil}
use Rattle.std.proofs.lemmas.Bool.{false≢true, true≢false, or_cases, or_left, or_right, and_parts, and_from, not-true, not_from_false, eqb-true, eq-eqb, false_from_ne_true}
use Rattle.model.specs.declared.event.Event.{Event}
use Rattle.model.specs.declared.event.Moment.{Moment}
use Rattle.model.specs.declared.event.Moment.TheVariants.{Happened}
use Rattle.model.specs.declared.graph.Edge.{Edge}
use Rattle.model.specs.World.{World, IsRunning}
use Rattle.model.specs.Calls.{AllByOthers, Adds, OnlyLooks}
use Rattle.model.specs.Graph.{has, has_number, no_edge, edge_at, outputs, IsCommand}
use Rattle.model.specs.Records.{OwnFiles}
use Rattle.model.specs.Schedule.{Step as Done, Started, started_in, ended_in, running_in}
use Rattle.model.specs.Premises.{FilesAreKept, IsWithinEdge, IsNoEdit}
use Rattle.theory.proofs.Lists.{same_bytes, bytes_same, all_append, all_parts, same_rest}
use Rattle.theory.proofs.Files.{IsElsewhere, file_stays, others_elsewhere}
use Rattle.theory.proofs.Looks.{kept_before}
use Rattle.theory.proofs.Starting.{since}
use Rattle.theory.proofs.Steps.{running_is, running_parts, started-append, ended-append, in_left}
use Rattle.theory.specs.Writes.{GrewAt}
use Rattle.theory.proofs.Writing.{at_elsewhere}
use Rattle.judge.specs.Seen.{AreKept}
use Rattle.work.specs.Course.{is_private, is_under_way, is_quiet}

-- ---- some of a list

any_number : (test : ℕ → Bool) (xs : List ℕ) (i : ℕ) → has_number xs i ≡ true → test i ≡ true → list_any test xs ≡ true
any_number test [] i there is = absurd (false≢true there)
any_number test (x ∷ xs) i there is = elim (or_cases (x == i) (has_number xs i) there) [
  | inl here ↦ or_left (test x) (list_any test xs) (ap test (eqb-true x i here) ∙ is)
  | inr later ↦ or_right (test x) (list_any test xs) (any_number test xs i later is)
]

pub number_of_any : (test : ℕ → Bool) (xs : List ℕ) → list_any test xs ≡ true → (i : ℕ) × (has_number xs i ≡ true) × (test i ≡ true)
number_of_any test [] some = absurd (false≢true some)
number_of_any test (x ∷ xs) some = elim (or_cases (test x) (list_any test xs) some) [
  | inl here ↦ (x, or_left (x == x) (has_number xs x) (eq-eqb x x refl), here)
  | inr later ↦
      let rest = number_of_any test xs later in
      (rest.0, or_right (x == rest.0) (has_number xs rest.0) rest.1, rest.2)
]

any_place : (test : Edge → Bool) (edges : List Edge) (e : ℕ) → (get_or edges e no_edge).phony ≡ false → test (get_or edges e no_edge) ≡ true → list_any test edges ≡ true
any_place test [] e command is = absurd (true≢false command)
any_place test (edge ∷ edges) zero command is = or_left (test edge) (list_any test edges) is
any_place test (edge ∷ edges) (suc e) command is = or_right (test edge) (list_any test edges) (any_place test edges e command is)

any_command : (test : Edge → Bool) (edges : List Edge) (i : ℕ) → IsCommand edges i → test (edge_at edges i) ≡ true → list_any test edges ≡ true
any_command test edges zero command is = absurd (true≢false command)
any_command test edges (suc e) command is = any_place test edges e command is

-- an edge that some command of the list is
command_of_any : (test : Edge → Bool) (edges : List Edge) → list_any (λ edge. not edge.phony && test edge) edges ≡ true → (i : ℕ) × IsCommand edges i × (test (edge_at edges i) ≡ true)
command_of_any test [] some = absurd (false≢true some)
command_of_any test (edge ∷ edges) some = elim (or_cases (not edge.phony && test edge) (list_any (λ edge. not edge.phony && test edge) edges) some) [
  | inl here ↦
      let both = and_parts (not edge.phony) (test edge) here in
      (1, not-true edge.phony both.0, both.1)
  | inr later ↦ shifted (command_of_any test edges later)
]
  where
    shifted : (i : ℕ) × IsCommand edges i × (test (edge_at edges i) ≡ true) → (i : ℕ) × IsCommand (edge ∷ edges) i × (test (edge_at (edge ∷ edges) i) ≡ true)
    shifted (zero, command, is) = absurd (true≢false command)
    shifted (suc e, command, is) = (suc (suc e), command, is)

-- ---- quiet paths

-- a quiet path is none of these
pub record IsQuiet (free : List ℕ → Bool) (own : OwnFiles) (edges : List Edge) (steps : List Done) (p : List ℕ) : Type 0 where
  pub bound : free p ≡ false
  pub foreign : own.files p ≡ false
  pub private : (i : ℕ) → IsCommand edges i → (p ≡ (edge_at edges i).act.depfile) ⊎ (p ≡ (edge_at edges i).act.response_path) → ⊥
  pub rests : (i : ℕ) → has_number (running_in steps) i ≡ true → has (outputs (edge_at edges i)) p ≡ true → ⊥

module _ (free : List ℕ → Bool) (own : OwnFiles) (edges : List Edge) (steps : List Done) (p : List ℕ) where
  abbrev names : Edge → Bool
  names edge = has (edge.act.depfile ∷ edge.act.response_path ∷ []) p

  abbrev makes : ℕ → Bool
  makes i = has (outputs (edge_at edges i)) p

  named : (edge : Edge) → (p ≡ edge.act.depfile) ⊎ (p ≡ edge.act.response_path) → names edge ≡ true
  named edge (inl is) = or_left (bytes_eq edge.act.depfile p) (has (edge.act.response_path ∷ []) p) (ap (λ (q : List ℕ). bytes_eq q p) (sym is) ∙ bytes_same p)
  named edge (inr is) =
      or_right (bytes_eq edge.act.depfile p) (has (edge.act.response_path ∷ []) p) (or_left (bytes_eq edge.act.response_path p) false (ap (λ (q : List ℕ). bytes_eq q p) (sym is) ∙ bytes_same p))

  named_by : (edge : Edge) → names edge ≡ true → (p ≡ edge.act.depfile) ⊎ (p ≡ edge.act.response_path)
  named_by edge is = elim (or_cases (bytes_eq edge.act.depfile p) (has (edge.act.response_path ∷ []) p) is) [
    | inl here ↦ inl (sym (same_bytes edge.act.depfile p here))
    | inr later ↦ elim (or_cases (bytes_eq edge.act.response_path p) false later) [
      | inl here ↦ inr (sym (same_bytes edge.act.response_path p here))
      | inr none ↦ absurd (false≢true none)
    ]
  ]

  pub quiet_parts : is_quiet free own edges steps p ≡ true → IsQuiet free own edges steps p
  quiet_parts is = record {
    bound = not-true (free p) outer.0;
    foreign = not-true (own.files p) first.0;
    private = λ i command named_so. false≢true (sym (not-true (is_private edges p) second.0) ∙ any_command (λ edge. not edge.phony && names edge) edges i command
        (and_from (not (edge_at edges i).phony) (names (edge_at edges i)) (not_from_false (edge_at edges i).phony command) (named (edge_at edges i) named_so)));
    rests = λ i runs made. false≢true (sym (not-true (is_under_way edges steps p) second.1) ∙ any_number makes (running_in steps) i runs made);
  }
    where
      outer : (not (free p) ≡ true) × ((not (own.files p) && (not (is_private edges p) && not (is_under_way edges steps p))) ≡ true)
      outer = and_parts (not (free p)) (not (own.files p) && (not (is_private edges p) && not (is_under_way edges steps p))) is

      first : (not (own.files p) ≡ true) × ((not (is_private edges p) && not (is_under_way edges steps p)) ≡ true)
      first = and_parts (not (own.files p)) (not (is_private edges p) && not (is_under_way edges steps p)) outer.1

      second : (not (is_private edges p) ≡ true) × (not (is_under_way edges steps p) ≡ true)
      second = and_parts (not (is_private edges p)) (not (is_under_way edges steps p)) first.1

  pub quiet_from : IsQuiet free own edges steps p → is_quiet free own edges steps p ≡ true
  quiet_from quiet =
      and_from (not (free p)) (not (own.files p) && (not (is_private edges p) && not (is_under_way edges steps p))) (not_from_false (free p) quiet.bound)
      (and_from (not (own.files p)) (not (is_private edges p) && not (is_under_way edges steps p)) (not_from_false (own.files p) quiet.foreign)
      (and_from (not (is_private edges p)) (not (is_under_way edges steps p)) (not_from_false (is_private edges p) none_private) (not_from_false (is_under_way edges steps p) none_runs)))
    where
      none_private : is_private edges p ≡ false
      none_private = false_from_ne_true (is_private edges p) (λ some.
          let edge = command_of_any names edges some in
          quiet.private edge.0 edge.1 (named_by (edge_at edges edge.0) edge.2))

      none_runs : is_under_way edges steps p ≡ false
      none_runs = false_from_ne_true (is_under_way edges steps p) (λ some.
          let edge = number_of_any makes (running_in steps) some in
          quiet.rests edge.0 edge.1 edge.2)

-- where fewer run, more is quiet
pub quiet_less : (free : List ℕ → Bool) (own : OwnFiles) (edges : List Edge) (few many : List Done) → ((i : ℕ) → has_number (running_in few) i ≡ true → has_number (running_in many) i ≡ true)
    → (p : List ℕ) → is_quiet free own edges many p ≡ true → is_quiet free own edges few p ≡ true
quiet_less free own edges few many more p is =
    let quiet = quiet_parts free own edges many p is in
    quiet_from free own edges few p (record { bound = quiet.bound; foreign = quiet.foreign; private = quiet.private; rests = λ i runs made. quiet.rests i (more i runs) made })

-- what ran before a start runs after it
pub running_started : (steps : List Done) (i j : ℕ) → has_number (running_in steps) j ≡ true → has_number (running_in (steps ++ Started i ∷ [])) j ≡ true
running_started steps i j runs =
    let parts = running_parts steps j runs in
    running_is (steps ++ Started i ∷ []) j
    ∙ and_from (has_number (started_in (steps ++ Started i ∷ [])) j) (not (has_number (ended_in (steps ++ Started i ∷ [])) j))
    (in_left started_in started-append steps (Started i ∷ []) j parts.0)
    (not_from_false (has_number (ended_in (steps ++ Started i ∷ [])) j) (ap (λ (l : List ℕ). has_number l j) (ended-append steps (Started i ∷ []) ∙ append-nil (ended_in steps)) ∙ parts.1))

-- ---- calls

-- paths of the set keep their files over moments that are elsewhere
pub all_kept : (set : List ℕ → Bool) (old more new : List Moment) → new ≡ old ++ more → ((p : List ℕ) → set p ≡ true → AllByRecursion (IsElsewhere p) more) → AreKept set old new
all_kept set old more new grows each p is earlier later splits =
    file_stays p old earlier (all_parts (IsElsewhere p) earlier later (subst (λ (l : List Moment). AllByRecursion (IsElsewhere p) l) (same_rest old more (earlier ++ later) (sym grows ∙ splits)) (each p is))).0

-- the history grew in the call
abbrev pub Grew : World → World → Type 0
Grew now new = (more : List Moment) × (new.history ≡ now.history ++ more)

-- where files are kept behind such a call, they were before it, with the same free paths
abbrev pub files_then : (own : OwnFiles) (edges : List Edge) (first now new : World) → Grew now new → FilesAreKept own edges first.history new.history → FilesAreKept own edges first.history now.history
files_then own edges first now new grew files = kept_before own edges first.history now.history new.history grew.0 grew.1 files

-- the call added to the history; and where the files are kept after it, quiet paths keep theirs in it
abbrev pub KeepsQuiet : Bool → OwnFiles → List Edge → List Done → World → World → World → Type 0
KeepsQuiet tells own edges steps first now new =
    IsTrue tells → (files : FilesAreKept own edges first.history new.history) → Grew now new × AreKept (is_quiet files.free own edges steps) now.history new.history

-- what runs are commands that run by the steps
abbrev pub RunBy : List Edge → List Done → World → Type 0
RunBy edges steps now = (job : ℕ) → IsRunning now.events job → IsCommand edges job × (has_number (running_in steps) job ≡ true)

module _ (tells : Bool) (own : OwnFiles) (edges : List Edge) (steps : List Done) (first now new : World) (grown : IsTrue tells → (so_far : List Moment) × (now.history ≡ first.history ++ so_far)) where
  -- where all that is written is elsewhere for each quiet path
  by_elsewhere : (tell : IsTrue tells) (more : List Moment) → new.history ≡ now.history ++ more → (kept : FilesAreKept own edges first.history new.history)
      → ((p : List ℕ) → is_quiet kept.free own edges steps p ≡ true → AllByRecursion (IsWithinEdge kept.free edges) more → AllByRecursion (IsNoEdit kept.free) more → AllByRecursion (IsElsewhere p) more)
      → Grew now new × AreKept (is_quiet kept.free own edges steps) now.history new.history
  by_elsewhere tell more grows kept each = (
    (more, grows),
    all_kept (is_quiet kept.free own edges steps) now.history more new.history grows (λ p is. each p is
        (since (IsWithinEdge kept.free edges) first.history (grown tell).0 now.history more new.history (grown tell).1 grows kept.commands)
        (since (IsNoEdit kept.free) first.history (grown tell).0 now.history more new.history (grown tell).1 grows kept.edits)),
  )

  -- what running commands write
  others_quiet : (free : List ℕ → Bool) (running : ℕ → Type 0) → ((job : ℕ) → running job → IsCommand edges job × (has_number (running_in steps) job ≡ true)) → (p : List ℕ) → is_quiet free own edges steps p ≡ true
      → (ms : List Moment) → AllByOthers running ms → AllByRecursion (IsWithinEdge free edges) ms → AllByRecursion (IsNoEdit free) ms → AllByRecursion (IsElsewhere p) ms
  others_quiet free running by p is =
      let quiet = quiet_parts free own edges steps p is in
      others_elsewhere free edges running p quiet.bound (λ job runs made. quiet.rests job (by job runs).1 made) (λ job runs same. quiet.private job (by job runs).0 (inl same))

  module _ (by : RunBy edges steps now) where
    -- the program writes at a path that is not quiet
    pub quiet_at : (path : List ℕ) → (IsTrue tells → (files : FilesAreKept own edges first.history new.history) → is_quiet files.free own edges steps path ≡ true → ⊥) → (IsTrue tells → GrewAt path (IsRunning now.events) now.history new.history)
        → KeepsQuiet tells own edges steps first now new
    quiet_at path loud grew tell kept =
        let call = grew tell in
        by_elsewhere tell call.more call.grows kept (λ p is within edits.
        at_elsewhere kept.free edges (IsRunning now.events) path p (λ same. loud tell kept (ap (is_quiet kept.free own edges steps) same ∙ is)) (others_quiet kept.free (IsRunning now.events) by p is) call.more call.all within edits)

    -- one of its own files: a tick, a log
    pub quiet_own : (path : List ℕ) → own.files path ≡ true → (IsTrue tells → GrewAt path (IsRunning now.events) now.history new.history) → KeepsQuiet tells own edges steps first now new
    quiet_own path mine grew = quiet_at path (λ tell kept is. false≢true (sym (quiet_parts kept.free own edges steps path is).foreign ∙ mine)) grew

    -- the response file of a command
    pub quiet_response : (i : ℕ) → IsCommand edges i → (IsTrue tells → GrewAt (edge_at edges i).act.response_path (IsRunning now.events) now.history new.history) → KeepsQuiet tells own edges steps first now new
    quiet_response i command grew = quiet_at (edge_at edges i).act.response_path (λ tell kept is. (quiet_parts kept.free own edges steps (edge_at edges i).act.response_path is).private i command (inr refl)) grew

    -- the depfile of a command
    pub quiet_depfile : (i : ℕ) → IsCommand edges i → (IsTrue tells → GrewAt (edge_at edges i).act.depfile (IsRunning now.events) now.history new.history) → KeepsQuiet tells own edges steps first now new
    quiet_depfile i command grew = quiet_at (edge_at edges i).act.depfile (λ tell kept is. (quiet_parts kept.free own edges steps (edge_at edges i).act.depfile is).private i command (inl refl)) grew

    -- calls that only look
    pub quiet_looks : OnlyLooks tells now new → KeepsQuiet tells own edges steps first now new
    quiet_looks looks tell kept =
        let call = looks.history tell in
        by_elsewhere tell call.more call.grows kept (λ p is within edits. others_quiet kept.free (IsRunning now.events) by p is call.more call.all within edits)

    -- a command is started or taken in
    pub quiet_adds : RunBy edges steps new → (event : Event) → (IsTrue tells → Adds (IsRunning now.events) (IsRunning new.events) (Happened event) now.history new.history) → KeepsQuiet tells own edges steps first now new
    quiet_adds after event adds tell kept =
        let call = adds tell in
        by_elsewhere tell (call.earlier ++ Happened event ∷ call.later) call.grows kept (λ p is within edits.
        let w = all_parts (IsWithinEdge kept.free edges) call.earlier (Happened event ∷ call.later) within in
        let e = all_parts (IsNoEdit kept.free) call.earlier (Happened event ∷ call.later) edits in
        all_append (IsElsewhere p) call.earlier (Happened event ∷ call.later)
        (others_quiet kept.free (IsRunning now.events) by p is call.earlier call.all_earlier w.0 e.0)
        (tt, others_quiet kept.free (IsRunning new.events) after p is call.later call.all_later w.1.1 e.1.1))
