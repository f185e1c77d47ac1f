-- The toy commands: what each gives in a view, and what it reads.
use Rattle.std.specs.Prelude.{ℕ, ◌==◌, Bool, true, false, if◌then◌else◌, List, [], ◌∷◌, ◌++◌, Option, Some, None, bytes_eq, codes, map}
use Rattle.std.specs.List.{slice_split, flat_map, filter_map}
use Rattle.std.specs.Str.{is_utf8}
use denote.Ref.{Bor}
use Rattle.model.specs.declared.act.Act.{Act}
use Rattle.model.specs.declared.event.Moment.{Moment}
use Rattle.model.specs.declared.outcome.Outcome.{Outcome}
use Rattle.model.specs.declared.outcome.Write.{Write}
use Rattle.model.specs.World.{View, view_of}
use Rattle.sim.specs.declared.toy.Kind.{Kind}
use Rattle.sim.specs.declared.toy.Kind.TheVariants.{Cat, Keep, Both, Scan, Args, Fail}

-- texts that are borrowed
abbrev pub texts_in : List (Bor (List ℕ)) → List (List ℕ)
texts_in texts = map (λ text. text.now) texts

-- a command is cut at each space; a word is a path as it stands
abbrev pub words : List ℕ → List (List ℕ)
words command = slice_split (λ b. b == 32) command

abbrev pub kind_of : List ℕ → Option Kind
kind_of word =
    if bytes_eq word (codes "cat") then Some Cat
    else (if bytes_eq word (codes "keep") then Some Keep
    else (if bytes_eq word (codes "both") then Some Both
    else (if bytes_eq word (codes "scan") then Some Scan
    else (if bytes_eq word (codes "args") then Some Args
    else (if bytes_eq word (codes "fail") then Some Fail
    else None)))))

abbrev pub joined : Option (List ℕ) → Option (List ℕ) → Option (List ℕ)
joined None rest = None
joined (Some content) None = None
joined (Some content) (Some rest) = Some (content ++ rest)

-- the contents of the paths, one after the other; None where one is absent
abbrev pub contents : View → List (List ℕ) → Option (List ℕ)
contents view [] = Some []
contents view (path ∷ paths) = joined (view path) (contents view paths)

-- what the paths hold at the end of a history
abbrev pub contents_at : List Moment → List (Bor (List ℕ)) → Option (List ℕ)
contents_at history paths = contents (view_of history) (texts_in paths)

-- the command fails and writes nothing
abbrev pub nothing : Outcome
nothing = record { ok = false; writes = [] }

abbrev pub writing : List ℕ → List ℕ → Write
writing path content = record { path = path; content = Some content; only_changes = false }

-- the contents go to the path; with only_changes they stay where they are
abbrev pub gathered : Bool → List ℕ → Option (List ℕ) → Outcome
gathered only_changes out None = nothing
gathered only_changes out (Some content) = record { ok = true; writes = record { path = out; content = Some content; only_changes = only_changes } ∷ [] }

abbrev pub copied : List ℕ → List ℕ → Option (List ℕ) → Outcome
copied out other None = nothing
copied out other (Some content) = record { ok = true; writes = writing out content ∷ writing other content ∷ [] }

-- the half of a file is left
abbrev pub halved : List ℕ → Option (List ℕ) → Outcome
halved out None = nothing
halved out (Some content) = record { ok = false; writes = writing out (codes "half") ∷ [] }

-- what is copied to both, and where to
abbrev pub doubled : List ℕ → List (List ℕ) → View → Outcome
doubled out (other ∷ from ∷ more) view = copied out other (view from)
doubled out words view = nothing

-- what stands behind a prefix
abbrev pub behind : List ℕ → List ℕ → Option (List ℕ)
behind [] line = Some line
behind (a ∷ prefix) [] = None
behind (a ∷ prefix) (b ∷ line) = if b == a then behind prefix line else None

-- each line that begins with 'use ' names the path that is the rest of it
abbrev pub named : List ℕ → List (List ℕ)
named content = filter_map (behind (codes "use ")) (slice_split (λ b. b == 10) content)

-- the paths that these lines name
abbrev pub used_in : List (List ℕ) → List (List ℕ)
used_in lines = filter_map (behind (codes "use ")) lines

-- what a file names; None where it is absent or not UTF-8
abbrev pub named_in : Option (List ℕ) → Option (List (List ℕ))
named_in None = None
named_in (Some content) = if is_utf8 content then Some (named content) else None

-- the paths, with a space between
abbrev pub spaced : List (List ℕ) → List ℕ
spaced [] = []
spaced (path ∷ paths) = path ++ flat_map (λ other. 32 ∷ other) paths

-- the paths, each with a space before it
abbrev pub each_spaced : List (List ℕ) → List ℕ
each_spaced paths = flat_map (λ path. 32 ∷ path) paths

-- a depfile that tells these inputs of OUT
abbrev pub depfile : List ℕ → List (List ℕ) → List ℕ
depfile out paths = out ++ codes ": " ++ spaced paths ++ 10 ∷ []

-- what the paths hold goes to OUT, and which they are to a depfile
abbrev pub told : List ℕ → List ℕ → List (List ℕ) → Option (List ℕ) → Outcome
told out dep paths None = nothing
told out dep paths (Some content) = record { ok = true; writes = writing out content ∷ writing dep (depfile out paths) ∷ [] }

abbrev pub gathered_from : List ℕ → List ℕ → Option (List (List ℕ)) → View → Outcome
gathered_from out dep None view = nothing
gathered_from out dep (Some paths) view = told out dep paths (contents view paths)

abbrev pub scanned : List ℕ → List (List ℕ) → View → Outcome
scanned out (dep ∷ from ∷ more) view = gathered_from out dep (named_in (view from)) view
scanned out words view = nothing

-- the response content of the act is written
abbrev pub replied : List ℕ → List ℕ → Outcome
replied response out = record { ok = true; writes = writing out response ∷ [] }

abbrev pub given : Option Kind → List ℕ → List ℕ → List (List ℕ) → View → Outcome
given None response out words view = nothing
given (Some Cat) response out words view = gathered false out (contents view words)
given (Some Keep) response out words view = gathered true out (contents view words)
given (Some Both) response out words view = doubled out words view
given (Some Scan) response out words view = scanned out words view
given (Some Args) response out words view = replied response out
given (Some Fail) response out words view = halved out (contents view words)

abbrev pub does : List ℕ → List (List ℕ) → View → Outcome
does response (kind ∷ out ∷ words) view = given (kind_of kind) response out words view
does response words view = nothing

abbrev pub toy_outcome : Act → View → Outcome
toy_outcome act view = does act.response_content (words act.command) view

-- ---- what a command reads

abbrev pub doubled_reads : List (List ℕ) → List (List ℕ)
doubled_reads (other ∷ from ∷ more) = from ∷ []
doubled_reads words = []

abbrev pub all_named : Option (List (List ℕ)) → List (List ℕ)
all_named None = []
all_named (Some paths) = paths

abbrev pub scanned_reads : List (List ℕ) → View → List (List ℕ)
scanned_reads (dep ∷ from ∷ more) view = from ∷ all_named (named_in (view from))
scanned_reads words view = []

abbrev pub given_reads : Option Kind → List (List ℕ) → View → List (List ℕ)
given_reads None words view = []
given_reads (Some Cat) words view = words
given_reads (Some Keep) words view = words
given_reads (Some Both) words view = doubled_reads words
given_reads (Some Scan) words view = scanned_reads words view
given_reads (Some Args) words view = []
given_reads (Some Fail) words view = words

abbrev pub does_read : List (List ℕ) → View → List (List ℕ)
does_read (kind ∷ out ∷ words) view = given_reads (kind_of kind) words view
does_read words view = []

abbrev pub toy_reads : Act → View → List (List ℕ)
toy_reads act view = does_read (words act.command) view
