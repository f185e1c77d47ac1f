-- That a command has all of its lines, and no others.
use Rattle.std.specs.Prelude.{◌≡◌, ℕ, ◌+◌, ◌==◌, Bool, false, true, List, [], ◌∷◌, ◌++◌, Option, Some, None, codes, option_and_then, if◌then◌else◌, ⊤}
use Rattle.shares.specs.declared.families.Families.{Families}
use Rattle.shares.specs.declared.processes.Process.{Process}
use Rattle.shares.specs.declared.sharing.Share.{Share}
use Rattle.shares.specs.declared.sharing.Shares.{Shares}
use Rattle.shares.specs.Families.{after, after_all, nothing_yet, place_of_line}
use Rattle.shares.specs.Owners.{owner_at}
use Rattle.shares.specs.Processes.{is_fine}
use Rattle.shares.specs.Sharing.{owned_by, shared, shares_of, told}

-- whose a line is, where it is known whose each process is
abbrev pub owner_of : List (Option ℕ) → Families → List ℕ → Option ℕ
owner_of owners families line = option_and_then (λ place. owner_at place owners) (place_of_line families line)

abbrev pub is_of : ℕ → Option ℕ → Bool
is_of command None = false
is_of command (Some other) = other == command

abbrev pub line_for : ℕ → Option ℕ → List ℕ → List ℕ
line_for command owner line = if is_of command owner then line ++ codes "\n" else []

-- the lines of a command, each with its line feed, in their order
abbrev pub lines_of : ℕ → List (Option ℕ) → Families → List (List ℕ) → List ℕ
lines_of command owners families [] = []
lines_of command owners families (line ∷ lines) =
    line_for command (owner_of owners families line) line ++ lines_of command owners (after families line) lines

-- what is known behind several lines of the second reading
abbrev pub shared_all : Shares → List (List ℕ) → Shares
shared_all shares [] = shares
shared_all shares (line ∷ lines) = shared_all (shared shares line) lines

-- what the first reading of these lines tells
abbrev pub read_of : List (List ℕ) → Families
read_of = after_all nothing_yet

-- each of these processes that is the command's has ended, and cannot be another one; the first of them stands in this place
abbrev pub AllFine : ℕ → List (Option ℕ) → ℕ → List Process → Type 0
AllFine command owners place [] = ⊤
AllFine command owners place (process ∷ processes) =
    (is_of command (owner_at place owners) ≡ true → is_fine process ≡ true) × AllFine command owners (place + 1) processes

-- The share of a command that is told at a line, by what a first reading of all lines told, is all of its lines, and each of its processes
-- is known whole.
abbrev pub EachShareIsWhole : Type 0
EachShareIsWhole =
    (lines front : List (List ℕ)) (line : List ℕ) (back : List (List ℕ)) (share : Share) → lines ≡ front ++ line ∷ back
    → told (shared_all (shares_of (read_of lines)) front) line ≡ Some share
    → (share.text ≡ lines_of share.command (owned_by (read_of lines)).owners nothing_yet lines)
    × AllFine share.command (owned_by (read_of lines)).owners 0 (read_of lines).processes
