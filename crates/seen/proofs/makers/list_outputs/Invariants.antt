use Rattle.std.proofs.Common.{◌≡◌, ◌<◌, ◌++◌, ℕ, suc, true, take}
use Rattle.paths.specs.Lists.{line_at, line_outputs}
use Rattle.seen.specs.Makers.{are_below, pairs_of, texts_with}
use Rattle.seen.proofs.makers.list_outputs.Given as goal

-- what is listed is of edges before, and these are the outputs so far
abbrev pub invariant-loop-output : goal.invariant-loop-output
invariant-loop-output l = record {
  below : (jobs : ℕ) → suc l.fn.place < jobs → are_below jobs l.fn.listed.items ≡ true → are_below jobs l.listed.items ≡ true;
  lists : pairs_of l.listed.items ≡ pairs_of l.fn.listed.items ++ texts_with l.manifest.paths (suc l.fn.place) (take l.output-index (line_outputs (line_at l.manifest.lines l.fn.place)));
}
