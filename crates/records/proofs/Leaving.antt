-- Which calls leave the logs alone, for whoever carries it over them.
use Rattle.std.proofs.Common.{◌≢◌, inl, inr, ℕ, Bool, List, ◌∷◌, ◌++◌, length, ap, arith}
use Rattle.std.proofs.lemmas.List.{length-append}
use Rattle.model.specs.declared.act.Act.{Act}
use Rattle.model.specs.declared.graph.Edge.{Edge}
use Rattle.model.specs.World.{World}
use Rattle.model.specs.Calls.{OnlyLooks, Ticks, TicksOrNot, StartsOrNot}
use Rattle.model.specs.Records.{OwnFiles}
use Rattle.theory.specs.Writes.{WritesAt}
use Rattle.theory.proofs.Writing.{looks_at, ticks_grew}
use Rattle.records.specs.Carried.{WhereKept}
use Rattle.records.specs.Laws.{LeavesTheLogs}

module _ (tells : Bool) (own : OwnFiles) (edges : List Edge) (first now new : World) where
  module _ (path : List ℕ) (other : WhereKept tells own edges first new ((path ≢ own.build_log) × (path ≢ own.deps_log))) where
    -- a write or a removal, failed or not, of another file (`theory` says which calls write at one path)
    pub writes_leave : WritesAt tells path now new → LeavesTheLogs tells own edges first now new
    writes_leave writes = inl (record { events = writes.events; path = path; other = other; history = writes.history })

    pub ticks_leave : (stamp : ℕ) → Ticks tells path stamp now new → LeavesTheLogs tells own edges first now new
    ticks_leave stamp ticks = inl (record { events = ticks.events; path = path; other = other; history = ticks_grew tells path stamp now new ticks })

    pub ticks_or_not_leave : TicksOrNot tells path now new → LeavesTheLogs tells own edges first now new
    ticks_or_not_leave (inl looks) = writes_leave (looks_at tells path now new looks)
    ticks_or_not_leave (inr (stamp, ticks)) = ticks_leave stamp ticks

  -- a path that is longer than both logs' is neither
  abbrev neither : List ℕ
  neither = 0 ∷ (own.build_log ++ own.deps_log)

  not_build : (0 ∷ (own.build_log ++ own.deps_log)) ≢ own.build_log
  not_build same = omega (arith, ap length same, length-append own.build_log own.deps_log)

  not_deps : (0 ∷ (own.build_log ++ own.deps_log)) ≢ own.deps_log
  not_deps same = omega (arith, ap length same, length-append own.build_log own.deps_log)

  pub looks_leave : OnlyLooks tells now new → LeavesTheLogs tells own edges first now new
  looks_leave looks = writes_leave neither (λ tell kept. (not_build, not_deps)) (looks_at tells neither now new looks)

  pub starts_or_not_leave : (i : ℕ) (act : Act) → StartsOrNot tells i act now new → LeavesTheLogs tells own edges first now new
  starts_or_not_leave i act (inl looks) = looks_leave looks
  starts_or_not_leave i act (inr starts) = inr (inl (i, act, starts))
