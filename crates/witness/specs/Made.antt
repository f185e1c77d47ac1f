-- What the plain program looks up, and what it keeps in its files.
use Rattle.std.specs.Prelude.{◌≡◌, ℕ, Bool, if◌then◌else◌, List, [], ◌∷◌, map, filter, Option, Some, None, bytes_eq, is_some}
use denote.Ref.{Bor}
use Rattle.model.specs.declared.act.Act.{Act}
use Rattle.model.specs.declared.event.Moment.{Moment}
use Rattle.model.specs.declared.graph.Edge.{Edge}
use Rattle.model.specs.declared.outcome.Outcome.{Outcome}
use Rattle.model.specs.World.{View, view_of}
use Rattle.model.specs.Graph.{has, outputs, all_outputs}
use Rattle.model.specs.Outcome.{Behaviour, given, depfile_in, is_accepted, left}
use Rattle.model.specs.Clean.{clean_build}

-- commands that give these outcomes, with depfiles that are read so; no dyndep file can be read
abbrev pub behaviour : (Act → View → Outcome) → (List ℕ → Option (List (List ℕ))) → Behaviour
behaviour outcome depfile = record { outcome = outcome; depfile = depfile; dyndep = λ content. None }

abbrev pub if_command : Edge → Option Edge
if_command e = if e.phony then None else Some e

-- the edge whose command makes the path
abbrev pub command_of : List Edge → List ℕ → Option Edge
command_of [] p = None
command_of (e ∷ es) p = if has (outputs e) p then if_command e else command_of es p

-- those of the paths that commands make
abbrev pub made_among : List Edge → List (List ℕ) → List (List ℕ)
made_among edges paths = filter (λ p. is_some (command_of edges p)) paths

-- the paths that commands make
abbrev pub made_paths : List Edge → List (List ℕ)
made_paths edges = made_among edges (all_outputs edges)

-- what the command of the edge gives
abbrev pub given_by : Behaviour → View → List ℕ → Option Edge → Option (List ℕ)
given_by B view p None = None
given_by B view p (Some e) = given B e.act view p

-- what the command that makes the path gives there
abbrev pub given_at : Behaviour → View → List Edge → List ℕ → Option (List ℕ)
given_at B view edges p = given_by B view p (command_of edges p)

-- paths, each with what it is to hold
abbrev pub Contents : Type 0
Contents = List (List ℕ × Option (List ℕ))

-- what the commands that make these paths give, each in the same view
abbrev pub given_round : Behaviour → View → List Edge → List (Bor (List ℕ)) → Contents
given_round B view edges paths = map (λ path. (path.now, given_at B view edges path.now)) paths

-- whether the depfile that the outcome leaves for the act is not refused
abbrev pub is_read : Behaviour → Act → Outcome → Bool
is_read B act outcome = is_accepted (depfile_in B act (left outcome))

-- the answer is that, whatever commands give
abbrev pub IsWhetherRead : (List ℕ → Option (List (List ℕ))) → Act → Outcome → Bool → Type 0
IsWhetherRead inputs act outcome read = (gives : Act → View → Outcome) → read ≡ is_read (behaviour gives inputs) act outcome

-- the view with these contents, a later one going before an earlier one
abbrev pub overwritten : View → List (List ℕ × Option (List ℕ)) → View
overwritten view [] = view
overwritten view (w ∷ ws) = overwritten (λ p. if bytes_eq w.0 p then w.1 else view p) ws

-- the files hold these contents, and what they held before at each other path
abbrev pub AreWritten : Contents → List Moment → List Moment → Type 0
AreWritten contents old new = (p : List ℕ) → view_of new p ≡ overwritten (view_of old) contents p

-- the files hold what a clean build gives over those of before
abbrev pub AreBuilt : Behaviour → List Edge → List Moment → List Moment → Type 0
AreBuilt B edges old new = (p : List ℕ) → view_of new p ≡ clean_build B edges (view_of old) p
