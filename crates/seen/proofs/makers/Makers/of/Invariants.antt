use Rattle.std.proofs.Common.{◌≡◌, true}
use Rattle.seen.specs.Makers.{are_below, listing, pairs_of}
use Rattle.seen.proofs.makers.Makers.of.Given as goal

-- what is listed is of edges that there are, and of each so far
abbrev pub invariant-loop-place : goal.invariant-loop-place
invariant-loop-place l = record {
  below : are_below l.jobs l.listed.items ≡ true;
  lists : pairs_of l.listed.items ≡ listing l.manifest l.place;
}
