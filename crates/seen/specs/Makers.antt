-- Which edge makes a path, by the build file.
use Rattle.std.specs.Prelude.{◌≡◌, ℕ, zero, suc, ◌<◌, ◌==◌, Bool, true, false, if◌then◌else◌, List, [], ◌∷◌, ◌++◌, map, get_or, slice_get, Option, Some, None, bytes_eq, nat_lt}
use Rattle.std.specs.List.{filter_map}
use Rattle.std.specs.Option.{option_or, option_map}
use Rattle.indexmap.specs.IndexMap.{get_by}
use Rattle.paths.specs.Commands.{no_action}
use Rattle.paths.specs.Lists.{line_at, line_outputs}
use Rattle.paths.specs.declared.line.Line.{Line}
use Rattle.paths.specs.declared.manifest.Action.{Action}
use Rattle.paths.specs.declared.manifest.Action.TheVariants.{Alias, Command}
use Rattle.paths.specs.declared.manifest.Manifest.{Manifest}
use Rattle.seen.specs.declared.makers.Output.{Output}
use Rattle.seen.specs.declared.makers.Makers.{Makers}

-- the edge of the first output with this text
abbrev pub maker_in : List Output → List ℕ → Option ℕ
maker_in [] p = None
maker_in (o ∷ os) p = if bytes_eq o.text.now p then Some o.job else maker_in os p

-- by what is listed, and else by the table
abbrev pub maker_of : Makers → List ℕ → Option ℕ
maker_of makers p = option_or (maker_in makers.listed.items p) (get_by (λ k. bytes_eq p k.now) makers.table)

-- each path is made by the same edge
abbrev pub MakesSame : Makers → Makers → Type 0
MakesSame old new = (p : List ℕ) → maker_of new p ≡ maker_of old p

-- each path is made by one of the edges
abbrev pub AreJobs : Makers → Type 0
AreJobs makers = (p : List ℕ) (job : ℕ) → maker_of makers p ≡ Some job → job < makers.jobs

-- this is the edge
abbrev pub is_job : ℕ → Option ℕ → Bool
is_job job None = false
is_job job (Some it) = it == job

-- what an edge makes by these outputs
abbrev pub made_in : (all listed : List Output) → ℕ → List (List ℕ)
made_in all [] job = []
made_in all (o ∷ os) job = if is_job job (maker_in all o.text.now) then o.text.now ∷ made_in all os job else made_in all os job

-- all of these are of edges before this one
abbrev pub are_below : ℕ → List Output → Bool
are_below jobs [] = true
are_below jobs (o ∷ os) = if nat_lt o.job jobs then are_below jobs os else false

-- ---- what is to be listed

-- the outputs of a line with a command; none of a phony one
abbrev pub command_outputs : Action → Line → List ℕ
command_outputs Alias line = []
command_outputs (Command command) line = line_outputs line

-- the texts of these paths, each with the number under which their edge is started
abbrev pub texts_with : (paths : List (List ℕ)) (job : ℕ) → List ℕ → List (List ℕ × ℕ)
texts_with paths job numbers = filter_map (λ number. option_map (λ text. (text, job)) (slice_get paths number)) numbers

-- what the command of the edge at this place makes: edges are started under numbers from 1
abbrev pub listing_at : Manifest → (place : ℕ) → List (List ℕ × ℕ)
listing_at manifest place = texts_with manifest.paths (suc place) (command_outputs (get_or manifest.actions place no_action) (line_at manifest.lines place))

-- what the commands of the first so many edges make
abbrev pub listing : Manifest → (count : ℕ) → List (List ℕ × ℕ)
listing manifest zero = []
listing manifest (suc count) = listing manifest count ++ listing_at manifest count

-- what is listed: each text, and the number of its edge
abbrev pub pairs_of : List Output → List (List ℕ × ℕ)
pairs_of outputs = map (λ o. (o.text.now, o.job)) outputs
