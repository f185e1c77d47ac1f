use Rattle.std.proofs.Common.{◌≡◌, ℕ, true, false, length, take}
use Rattle.model.specs.Graph.{has_number}
use Rattle.judge.specs.declared.looks.Look.TheVariants.{Unasked}
use Rattle.judge.specs.Seen.{look_at}
use Rattle.judge.proofs.looks.Looks.forget.Given as goal

abbrev pub invariant-loop-path : goal.invariant-loop-path
invariant-loop-path l = record {
  sums : l.self.sums ≡ l.fn.self.sums;
  forgotten : (p : ℕ) → has_number (take l.path-index l.paths) p ≡ true → look_at l.self.seen.items p ≡ Unasked;
  others : (p : ℕ) → has_number (take l.path-index l.paths) p ≡ false → look_at l.self.seen.items p ≡ look_at l.fn.self.seen.items p;
  fits : length l.self.seen.items ≡ length l.fn.self.seen.items;
}
