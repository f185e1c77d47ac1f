-- Phony edges by numbers.
use Rattle.std.specs.Prelude.{ℕ, Bool, true, false, ◌||◌, if◌then◌else◌, List, [], ◌∷◌, ◌++◌, Option, Some, None, is_some, option_to_list}
use Rattle.graph.specs.declared.graph.Graph.{Graph}
use Rattle.graph.specs.Links.{Links, links_of}

abbrev pub if_phony : Links → Option ℕ → Option ℕ
if_phony links None = None
if_phony links (Some e) = if links.phony e then Some e else None

-- the phony edge that makes the path, if one does
abbrev pub alias_at : Links → ℕ → Option ℕ
alias_at links p = if_phony links (links.maker p)

abbrev pub is_any : List ℕ → Bool
is_any [] = false
is_any (p ∷ ps) = true

abbrev pub has_inputs : Links → Option ℕ → Bool
has_inputs links None = false
has_inputs links (Some e) = is_any (links.inputs e)

-- a phony edge that has inputs makes the path
abbrev pub counts_if_present : Links → ℕ → Bool
counts_if_present links p = has_inputs links (alias_at links p)

-- the phony edges that make these paths
abbrev pub aliases_of : Links → List ℕ → List ℕ
aliases_of links [] = []
aliases_of links (p ∷ ps) = option_to_list (alias_at links p) ++ aliases_of links ps

abbrev pub any_alias : Links → List ℕ → Bool
any_alias links [] = false
any_alias links (p ∷ ps) = is_some (alias_at links p) || any_alias links ps

-- the phony edges that make regular inputs of the edge
abbrev pub aliases_for : Graph → ℕ → List ℕ
aliases_for graph e = aliases_of (links_of graph) ((links_of graph).regular e)
