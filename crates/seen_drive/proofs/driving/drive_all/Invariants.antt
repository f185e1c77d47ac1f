use Rattle.std.proofs.Common.{◌+◌, ◌≤◌, take, drop, length, vec_capacity}
use Rattle.drive.specs.Moves.{builds_among}
use Rattle.seen_drive.specs.Moves.{AreDone}
use Rattle.seen_drive.proofs.driving.drive_all.Given as goal

abbrev pub invariant-loop-step : goal.invariant-loop-step
invariant-loop-step g l =
    AreDone g.S.Texts.tells l.initial.options (take l.step-index l.moves) l.again l.reports.items (g.S.Texts.world l.initial.site) (g.S.Texts.world l.site)
    × (length l.reports.items + builds_among (drop l.step-index l.moves) ≤ vec_capacity l.reports)
