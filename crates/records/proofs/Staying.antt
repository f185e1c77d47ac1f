-- A log that a call does not write stays as it is.
use Rattle.std.proofs.Common.{◌≡◌, ◌≢◌, inl, inr, ℕ, Bool, true, IsTrue, List, [], ◌∷◌, ◌++◌, Option, ap, ◌∙◌}
use Rattle.std.specs.List.{AllByRecursion}
use Rattle.model.specs.declared.event.Event.{Event}
use Rattle.model.specs.declared.event.Event.TheVariants.{Start, Finish}
use Rattle.model.specs.declared.event.Moment.{Moment}
use Rattle.model.specs.declared.event.Moment.TheVariants.{Happened}
use Rattle.model.specs.declared.graph.Edge.{Edge}
use Rattle.model.specs.World.{World, file_at, content_of, view_of, runs, IsRunning}
use Rattle.model.specs.Calls.{Adds}
use Rattle.model.specs.Graph.{IsCommand}
use Rattle.model.specs.Records.{OwnFiles}
use Rattle.model.specs.Premises.{FilesAreKept, IsWithinEdge, IsNoEdit}
use Rattle.theory.proofs.Files.{file_stays}
use Rattle.theory.proofs.Starting.{since}
use Rattle.theory.specs.Writes.{GrewAt}
use Rattle.theory.proofs.LoggedCalls.{log_elsewhere, log_stays_at}
use Rattle.theory.proofs.Writing.{at_elsewhere}
use Rattle.records.specs.Laws.{LeavesTheLogs}

-- the history grew
abbrev pub Grew : World → World → Type 0
Grew now new = (more : List Moment) × (new.history ≡ now.history ++ more)

pub grew : (tells : Bool) (own : OwnFiles) (edges : List Edge) (first now new : World) → IsTrue tells → LeavesTheLogs tells own edges first now new → Grew now new
grew tells own edges first now new tell (inl writes) = let call = writes.history tell in (call.more, call.grows)
grew tells own edges first now new tell (inr (inl (i, act, starts))) = let adds = starts.history tell in (adds.earlier ++ Happened (Start i act now.ticked) ∷ adds.later, adds.grows)
grew tells own edges first now new tell (inr (inr (i, ok, finishes))) = let adds = finishes.history tell in (adds.earlier ++ Happened (Finish i ok) ∷ adds.later, adds.grows)

module _ (tells : Bool) (own : OwnFiles) (edges : List Edge) (first now new : World) (commands : (job : ℕ) → runs job now.events ≡ true → IsCommand edges job)
    (grows : IsTrue tells → (so_far : List Moment) × (now.history ≡ first.history ++ so_far)) (tell : IsTrue tells) (kept : FilesAreKept own edges first.history new.history) where
  within : (ms : List Moment) → new.history ≡ now.history ++ ms → AllByRecursion (IsWithinEdge kept.free edges) ms
  within ms more = since (IsWithinEdge kept.free edges) first.history (grows tell).0 now.history ms new.history (grows tell).1 more kept.commands

  edits : (ms : List Moment) → new.history ≡ now.history ++ ms → AllByRecursion (IsNoEdit kept.free) ms
  edits ms more = since (IsNoEdit kept.free) first.history (grows tell).0 now.history ms new.history (grows tell).1 more kept.edits

  module _ (log : List ℕ) (mine : own.files log ≡ true) where
    pub other_stays : (path : List ℕ) → path ≢ log → GrewAt path (IsRunning now.events) now.history new.history → view_of new.history log ≡ view_of now.history log
    other_stays path other call =
        ap content_of (ap (λ (h : List Moment). file_at h log) call.grows
        ∙ file_stays log now.history call.more (at_elsewhere kept.free edges (IsRunning now.events) path log other (λ ms all w e. log_elsewhere own edges kept.own_files kept.free kept.free_apart log mine (IsRunning now.events) commands ms all w e)
        call.more call.all (within call.more call.grows) (edits call.more call.grows)))

    happened_stays : ((job : ℕ) → runs job new.events ≡ true → IsCommand edges job) → (event : Event) → Adds (IsRunning now.events) (IsRunning new.events) (Happened event) now.history new.history → view_of new.history log ≡ view_of now.history log
    happened_stays later event adds =
        let ms = adds.earlier ++ Happened event ∷ adds.later in
        ap content_of (log_stays_at own edges kept.own_files kept.free kept.free_apart log mine (IsRunning now.events) (IsRunning new.events) commands later (Happened event) now.history new.history tt adds
        (within ms adds.grows) (edits ms adds.grows))

  module _ (later : (job : ℕ) → runs job new.events ≡ true → IsCommand edges job) where
    pub build_stays : LeavesTheLogs tells own edges first now new → view_of new.history own.build_log ≡ view_of now.history own.build_log
    build_stays (inl writes) = other_stays own.build_log kept.own_files.build_log writes.path (writes.other tell kept).0 (writes.history tell)
    build_stays (inr (inl (i, act, starts))) = happened_stays own.build_log kept.own_files.build_log later (Start i act now.ticked) (starts.history tell)
    build_stays (inr (inr (i, ok, finishes))) = happened_stays own.build_log kept.own_files.build_log later (Finish i ok) (finishes.history tell)

    pub deps_stays : LeavesTheLogs tells own edges first now new → view_of new.history own.deps_log ≡ view_of now.history own.deps_log
    deps_stays (inl writes) = other_stays own.deps_log kept.own_files.deps_log writes.path (writes.other tell kept).1 (writes.history tell)
    deps_stays (inr (inl (i, act, starts))) = happened_stays own.deps_log kept.own_files.deps_log later (Start i act now.ticked) (starts.history tell)
    deps_stays (inr (inr (i, ok, finishes))) = happened_stays own.deps_log kept.own_files.deps_log later (Finish i ok) (finishes.history tell)
