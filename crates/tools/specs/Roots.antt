-- What is meant where no target is named and build files say nothing.
use Rattle.std.specs.Prelude.{◌≡◌, ℕ, List, filter, flat_map, length, nat_eq}
use Rattle.paths.specs.Lists.{line_outputs}
use Rattle.graph.specs.Links.{users_at}
use Rattle.graph.specs.declared.graph.Graph.{Graph}

-- those of the paths that no edge names as an input
abbrev pub unread : Graph → List ℕ → List ℕ
unread graph paths = filter (λ p. nat_eq (length (users_at graph p)) 0) paths

-- the outputs that no edge names as an input, in reading order
abbrev pub AreRoots : Graph → List ℕ → Type 0
AreRoots graph roots = roots ≡ unread graph (flat_map line_outputs graph.manifest.lines)
