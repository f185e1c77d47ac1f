-- What others may not write while a build only looks.
use Rattle.std.proofs.Common.{◌≡◌, ℕ, Bool, false, IsTrue, List, [], sym, subst}
use Rattle.std.proofs.lemmas.Bool.{not-true}
use Rattle.model.specs.declared.event.Event.{Event}
use Rattle.model.specs.World.{World, runs, IsRunning, IsIdle}
use Rattle.model.specs.Calls.{OthersWrote, OnlyLooks}
use Rattle.model.specs.Records.{OwnFiles}
use Rattle.model.specs.Premises.{OnlyFreeIsEdited, IsNoEdit}
use Rattle.theory.proofs.Looks.{untouched}
use Rattle.theory.proofs.Starting.{since}
use Rattle.judge.specs.Seen.{AreKept}
use Rattle.work.proofs.Quiet.{all_kept}
use Rattle.work.specs.Standing.{is_bound}

-- in a call that only looks, where there was only looked since the entry, paths that are not free keep their files
pub bound_kept : (tells : Bool) (own : OwnFiles) (entry now new : World) → IsIdle entry.events → OnlyLooks tells entry now → OnlyLooks tells now new → IsTrue tells
    → (free : List ℕ → Bool) → OnlyFreeIsEdited free entry.history new.history → AreKept (is_bound free) now.history new.history
bound_kept tells own entry now new idle before looks tell free edits =
    all_kept (is_bound free) now.history call.more new.history call.grows (λ p is.
    untouched tells own [] now new none_runs looks free p (not-true (free p) is) call.more call.all
    (since (IsNoEdit free) entry.history (before.history tell).more now.history call.more new.history (before.history tell).grows call.grows edits))
  where
    call : OthersWrote (IsRunning now.events) now.history new.history
    call = looks.history tell

    none_runs : IsIdle now.events
    none_runs job = subst (λ (es : List Event). runs job es ≡ false) (sym before.events) (idle job)
