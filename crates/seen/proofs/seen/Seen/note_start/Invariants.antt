use Rattle.std.proofs.Common.{◌≡◌}
use Rattle.seen.proofs.seen.Seen.note_start.Given as goal

-- nothing was done on the site
abbrev pub invariant-loop-output : goal.invariant-loop-output
invariant-loop-output g l = record {
  site : l.self.retold.site ≡ l.fn.self.retold.site;
  noted : l.self.retold.noted ≡ l.fn.self.retold.noted;
  own : l.self.retold.known.own ≡ l.fn.self.retold.known.own;
}
