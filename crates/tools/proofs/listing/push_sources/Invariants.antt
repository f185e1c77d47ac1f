use Rattle.std.proofs.Common.{filter, is_none, take, string_bytes}
use Rattle.graph.specs.Links.{links_of}
use Rattle.paths.specs.Told.{texts_at}
use Rattle.tools.specs.Answers.{Puts}
use Rattle.tools.proofs.listing.push_sources.Given as goal

abbrev pub invariant-loop-path : goal.invariant-loop-path
invariant-loop-path l =
    Puts (string_bytes l.initial.told) (string_bytes l.told) (texts_at l.graph.manifest.paths (filter (λ p. is_none ((links_of l.graph).maker p)) (take l.path-index l.paths)))
