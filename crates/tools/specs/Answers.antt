-- What tools print of a graph, line by line (the forms are real ninja's).
use Rattle.std.specs.Prelude.{◌≡◌, ◌<◌, ℕ, zero, suc, if◌then◌else◌, Bool, true, false, List, [], ◌∷◌, ◌++◌, ◌↔◌, ◌⊎◌, map, filter, flat_map, codes, length, Option, Some, None, is_none, get_or, bytes_eq, String, string_bytes}
use Rattle.std.specs.Borrow.{Bor}
use Rattle.std.specs.List.{range_with_len}
use Rattle.std.specs.Map.Iter.{deref}
use Rattle.std.specs.declared.alloc.Global.{Global}
use Rattle.std.specs.Ordering.{nat_cmp}
use Rattle.std.specs.declared.cmp.Ordering.TheVariants.{Less}
use Rattle.std.specs.Cmp.Lexicographic.{slice_cmp}
use Rattle.lexer.specs.Quote.{quoted}
use Rattle.model.specs.Graph.{has, has_number}
use Rattle.paths.specs.Commands.{no_action}
use Rattle.paths.specs.Lists.{line_at}
use Rattle.paths.specs.Told.{text_at, texts_at}
use Rattle.paths.specs.declared.manifest.Action.{Action}
use Rattle.paths.specs.declared.manifest.Action.TheVariants.{Alias, Command}
use Rattle.graph.specs.Held.{StandOnce}
use Rattle.graph.specs.Links.{links_of, users_at}
use Rattle.graph.specs.declared.graph.Graph.{Graph}
use Rattle.tools.specs.Above.{AreAbove, IsNeededFor}
use Rattle.tools.specs.Files.{rule_of}
use Rattle.tools.specs.Roots.{AreRoots}
use Rattle.tools.specs.declared.declared.Declared.{Declared}
use Rattle.tools.specs.declared.listing.Wanted.{Wanted}
use Rattle.tools.specs.declared.listing.Wanted.TheVariants.{Depth, Rule, Sources, All}

abbrev pub line : List ℕ → List ℕ
line text = text ++ 10 ∷ []

abbrev pub lines : List (List ℕ) → List ℕ
lines texts = flat_map line texts

-- these lines were put behind a text
abbrev pub Puts : (old new : List ℕ) → List (List ℕ) → Type 0
Puts old new told = new ≡ old ++ lines told

-- the same of texts that grow
abbrev pub Tells : (old new : String Global) → List (List ℕ) → Type 0
Tells old new told = Puts (string_bytes old) (string_bytes new) told

-- all edges, in reading order
abbrev pub places : Graph → List ℕ
places graph = range_with_len 0 (length graph.manifest.lines)

-- the text of a path
abbrev pub path_text : Declared → ℕ → List ℕ
path_text declared p = text_at declared.graph.manifest.paths p

-- each of these texts comes behind the one before it in the order of their bytes, the first behind this one
abbrev pub AreAfter : List ℕ → List (List ℕ) → Type 0
AreAfter last [] = Unit {0}
AreAfter last (text ∷ texts) = (slice_cmp nat_cmp last text ≡ Less) × AreAfter text texts

-- they stand in the order of their bytes, so none of them twice
abbrev pub AreInOrder : List (List ℕ) → Type 0
AreInOrder [] = Unit {0}
AreInOrder (text ∷ texts) = AreAfter text texts

-- a line for each of these texts, in the order of their bytes, each once
pub record PrintsEach (texts : List (List ℕ)) (text : List ℕ) : Type 0 where
  pub each : List (List ℕ)
  pub order : AreInOrder each
  pub just : (one : List ℕ) → has each one ≡ true ↔ has texts one ≡ true
  pub is : text ≡ lines each

-- ---- `-t commands`

abbrev pub command_in : Action → List (List ℕ)
command_in Alias = []
command_in (Command command) = command.act.command ∷ []

abbrev pub commands_of : Declared → List ℕ → List (List ℕ)
commands_of declared edges = flat_map (λ e. command_in (get_or declared.graph.manifest.actions e no_action)) edges

-- the edges that make these paths, each once
pub record AreMakers (graph : Graph) (paths edges : List ℕ) : Type 0 where
  pub just : (e : ℕ) → has_number edges e ≡ true ↔ ((p : ℕ) × (has_number paths p ≡ true) × ((links_of graph).maker p ≡ Some e))
  pub once : StandOnce edges

-- the edges that make these paths were met, and no others
pub record AreMet (graph : Graph) (paths : List ℕ) (met : List Bool) (edges : List ℕ) : Type 0 where
  pub count : length met ≡ length graph.manifest.lines
  pub marked : (e : ℕ) → e < length graph.manifest.lines → get_or met e false ≡ has_number edges e
  pub makers : AreMakers graph paths edges

-- and so was the edge that makes one path more
abbrev pub MeetsOne : Graph → ℕ → (met : List Bool) → (edges : List ℕ) → (more_met : List Bool) → (more_edges : List ℕ) → Type 0
MeetsOne graph path met edges more_met more_edges =
    (paths : List ℕ) → AreMet graph paths met edges → AreMet graph (paths ++ path ∷ []) more_met more_edges

-- of the paths alone, or of all that is above them
abbrev pub AreMeant : Graph → List ℕ → Bool → List ℕ → Type 0
AreMeant graph paths true edges = AreMakers graph paths edges
AreMeant graph paths false edges = AreAbove graph paths edges

abbrev pub PrintsCommands : Declared → List ℕ → Bool → List ℕ → Type 0
PrintsCommands declared paths single text = (edges : List ℕ) × AreMeant declared.graph paths single edges × (text ≡ lines (commands_of declared edges))

-- ---- `-t inputs`

-- a command that is needed for the paths names the input, quoted so
abbrev pub IsInputFor : Declared → List ℕ → List ℕ → Type 0
IsInputFor declared paths text =
    (e p : ℕ) × IsNeededFor (links_of declared.graph) paths e × ((links_of declared.graph).phony e ≡ false)
    × (has_number ((links_of declared.graph).inputs e) p ≡ true) × (text ≡ quoted (path_text declared p))

-- these paths, quoted
abbrev pub quoted_paths : Declared → List ℕ → List (List ℕ)
quoted_paths declared paths = map (λ p. quoted (path_text declared p)) paths

-- the inputs of the edge, quoted, where it is a command
abbrev pub quoted_inputs : Declared → ℕ → List (List ℕ)
quoted_inputs declared e =
    if (links_of declared.graph).phony e then [] else quoted_paths declared ((links_of declared.graph).inputs e)

-- these words stand behind those that there were
abbrev pub AddsWords : {Y : Type 0} → (old new : List (String Y)) → List (List ℕ) → Type 0
AddsWords old new more = map string_bytes new ≡ map string_bytes old ++ more

pub record PrintsInputs (declared : Declared) (paths text : List ℕ) : Type 0 where
  pub inputs : List (List ℕ)
  pub order : AreInOrder inputs
  pub just : (input : List ℕ) → has inputs input ≡ true ↔ IsInputFor declared paths input
  pub is : text ≡ lines inputs

-- ---- `-t targets`

-- `PATH: RULE`
abbrev pub with_rule : Declared → ℕ → ℕ → List ℕ
with_rule declared e p = path_text declared p ++ codes ": " ++ rule_of declared e

-- each output with the name of its rule, in reading order
abbrev pub all_targets : Declared → List (List ℕ)
all_targets declared = flat_map (λ e. map (with_rule declared e) ((links_of declared.graph).outputs e)) (places declared.graph)

-- those of the paths that no edge makes
abbrev pub sources_of : Graph → List ℕ → List (List ℕ)
sources_of graph paths = texts_at graph.manifest.paths (filter (λ p. is_none ((links_of graph).maker p)) paths)

-- the inputs that no edge makes, in reading order, as often as they are named
abbrev pub all_sources : Declared → List (List ℕ)
all_sources declared = sources_of declared.graph (flat_map (λ e. (links_of declared.graph).inputs e) (places declared.graph))

-- the outputs of the edge, each with the name of its rule
abbrev pub targets_of : Declared → ℕ → List (List ℕ)
targets_of declared e = map (with_rule declared e) ((links_of declared.graph).outputs e)

-- these texts stand behind those that there were
abbrev pub AddsTexts : (old new : List (Bor (List ℕ))) → List (List ℕ) → Type 0
AddsTexts old new more = map deref new ≡ map deref old ++ more

-- the outputs of the edge, where that is its rule
abbrev pub outputs_of_rule : Declared → List ℕ → ℕ → List (List ℕ)
outputs_of_rule declared rule e =
    if bytes_eq (rule_of declared e) rule then texts_at declared.graph.manifest.paths ((links_of declared.graph).outputs e) else []

-- the outputs of the edges of a rule, by name
abbrev pub PrintsOfRule : Declared → List ℕ → List ℕ → Type 0
PrintsOfRule declared rule text = PrintsEach (flat_map (outputs_of_rule declared rule) (places declared.graph)) text

-- a line so many levels deep
abbrev pub indented : ℕ → List ℕ → List ℕ
indented zero text = text
indented (suc level) text = 32 ∷ 32 ∷ indented level text

-- a path, and behind it what each input of the edge that makes it comes to
abbrev pub branch : Declared → (ℕ → List (List ℕ)) → (level p : ℕ) → Option ℕ → List (List ℕ)
branch declared above level p None = indented level (path_text declared p) ∷ []
branch declared above level p (Some e) = indented level (with_rule declared e p) ∷ flat_map above ((links_of declared.graph).inputs e)

-- a path with what is above it, this many levels more
abbrev pub tree : Declared → (more level p : ℕ) → List (List ℕ)
tree declared zero level p = []
tree declared (suc more) level p = branch declared (tree declared more (suc level)) level p ((links_of declared.graph).maker p)

-- no path is deeper than there are edges, where these need each other in no circle
abbrev pub levels : Declared → ℕ → ℕ
levels declared zero = suc (length declared.graph.manifest.lines)
levels declared (suc depth) = suc depth

abbrev pub PrintsTargets : Declared → Wanted → List ℕ → Type 0
PrintsTargets declared (Depth depth) text =
    (roots : List ℕ) × AreRoots declared.graph roots × (text ≡ lines (flat_map (tree declared (levels declared depth) 0) roots))
PrintsTargets declared (Rule rule) text = PrintsOfRule declared rule.now text
PrintsTargets declared Sources text = text ≡ lines (all_sources declared)
PrintsTargets declared All text = text ≡ lines (all_targets declared)

-- ---- `-t query`

-- this, where there is one of those
abbrev pub if_some : List ℕ → List (List ℕ) → List (List ℕ)
if_some [] told = []
if_some (first ∷ others) told = told

-- a line for each of the paths, behind a mark
abbrev pub marked : Declared → List ℕ → List ℕ → List (List ℕ)
marked declared mark paths = map (λ p. mark ++ path_text declared p) paths

-- what validates, where something does
abbrev pub validation_lines : Declared → List ℕ → List (List ℕ)
validation_lines declared paths = if_some paths (codes "  validations:" ∷ marked declared (codes "    ") paths)

-- the inputs of the edge that makes a path
abbrev pub maker_lines : Declared → Option ℕ → List (List ℕ)
maker_lines declared None = []
maker_lines declared (Some e) =
    (codes "  input: " ++ rule_of declared e) ∷ marked declared (codes "    ") (line_at declared.graph.manifest.lines e).explicit_inputs
    ++ marked declared (codes "    | ") (line_at declared.graph.manifest.lines e).implicit_inputs
    ++ marked declared (codes "    || ") (line_at declared.graph.manifest.lines e).order_only_inputs
    ++ validation_lines declared ((links_of declared.graph).validations e)

-- the outputs of the edges that name a path
abbrev pub outputs_of : Declared → List ℕ → List (List ℕ)
outputs_of declared edges = flat_map (λ e. marked declared (codes "    ") ((links_of declared.graph).outputs e)) edges

-- those of these edges that name a path for validation
abbrev pub validating : Declared → ℕ → List ℕ → List ℕ
validating declared p edges = filter (λ e. has_number ((links_of declared.graph).validations e) p) edges

abbrev pub validated_by : Declared → ℕ → List ℕ
validated_by declared p = validating declared p (places declared.graph)

-- what these edges make, which name it, where some do
abbrev pub validated_lines : Declared → List ℕ → List (List ℕ)
validated_lines declared edges = if_some edges (codes "  validation for:" ∷ outputs_of declared edges)

abbrev pub query_lines : Declared → ℕ → List (List ℕ)
query_lines declared p =
    (path_text declared p ++ codes ":") ∷ maker_lines declared ((links_of declared.graph).maker p)
    ++ codes "  outputs:" ∷ outputs_of declared (users_at declared.graph p)
    ++ validated_lines declared (validated_by declared p)
