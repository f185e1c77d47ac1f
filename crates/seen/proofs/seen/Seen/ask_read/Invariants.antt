use Rattle.std.proofs.Common.{◌≡◌, ℕ, Ok}
use Rattle.seen.specs.Asking.{Asks}
use Rattle.seen.specs.Begun.{told_world}
use Rattle.seen.specs.Noting.{Grows}
use Rattle.seen.proofs.seen.Seen.ask_read.Given as goal

-- what was asked so far was answered, and what was noted stands behind what was noted before
abbrev pub invariant-loop-path : goal.invariant-loop-path
invariant-loop-path g l = record {
  asks : Asks {T = ℕ} g.S.Texts.tells (told_world g.S.Texts.tells g.B.Beginning.begun (g.S.Texts.world l.fn.self.retold.site)) (told_world g.S.Texts.tells g.B.Beginning.begun (g.S.Texts.world l.self.retold.site)) (Ok 0);
  grows : Grows l.fn.self.retold.noted.lines.items l.self.retold.noted.lines.items;
  own : l.self.retold.known.own ≡ l.fn.self.retold.known.own;
}
