-- The lines of a trace, handed to the commands that they are of.
use Rattle.std.specs.Prelude.{ℕ, ◌-◌, ◌==◌, List, [], ◌∷◌, ◌++◌, Option, Some, None, codes, get_or, length, nat_eq, option_and_then, set, if◌then◌else◌}
use Rattle.shares.specs.declared.families.Families.{Families}
use Rattle.shares.specs.declared.owners.Owned.{Owned}
use Rattle.shares.specs.declared.sharing.Share.{Share}
use Rattle.shares.specs.declared.sharing.Shares.{Shares}
use Rattle.shares.specs.Families.{after, nothing_yet, place_of_line}
use Rattle.shares.specs.Owners.{no_left, none_owned, owned_all, owner_at}

-- ---- the lines so far of a command

abbrev pub no_share : Share
no_share = record { command = 0; text = [] }

abbrev pub text_of : ℕ → List Share → List ℕ
text_of command [] = []
text_of command (share ∷ shares) = if share.command == command then share.text else text_of command shares

abbrev pub without_open : ℕ → List Share → List Share
without_open command [] = []
without_open command (share ∷ shares) = if share.command == command then shares else share ∷ without_open command shares

-- ---- what the first reading tells

abbrev pub owned_by : Families → Owned
owned_by families = owned_all families.processes (none_owned (if families.is_clear then length families.commands else 0))

-- nothing was read once more
abbrev pub shares_of : Families → Shares
shares_of families = record { families = nothing_yet; owners = (owned_by families).owners; left = (owned_by families).left; begun = [] }

-- ---- a line

-- whose a line is that is read
abbrev pub command_of : Shares → List ℕ → Option ℕ
command_of shares line = option_and_then (λ place. owner_at place shares.owners) (place_of_line shares.families line)

abbrev pub read_more : Shares → List ℕ → Shares
read_more shares line = record shares { families = after shares.families line }

-- the lines so far of its command, and this one
abbrev pub with_this : ℕ → List ℕ → Shares → Share
with_this command line shares = record { command = command; text = (text_of command shares.begun ++ line) ++ codes "\n" }

abbrev pub shared_left : ℕ → List ℕ → ℕ → Shares → Shares
shared_left command line left shares = record shares {
  left = set shares.left command (Some (left - 1));
  begun = if left == 1 then without_open command shares.begun else without_open command shares.begun ++ with_this command line shares ∷ [];
}

abbrev pub shared_by : ℕ → List ℕ → Option ℕ → Shares → Shares
shared_by command line None shares = shares
shared_by command line (Some left) shares = if left == 0 then shares else shared_left command line left shares

-- what is known behind a line of this command
abbrev pub shared_of : ℕ → List ℕ → Shares → Shares
shared_of command line shares = shared_by command line (get_or shares.left command no_left) shares

abbrev pub told_by : ℕ → List ℕ → Option ℕ → Shares → Option Share
told_by command line None shares = None
told_by command line (Some left) shares = if left == 1 then Some (with_this command line shares) else None

-- all lines of the command, if this is the last of them
abbrev pub told_of : ℕ → List ℕ → Shares → Option Share
told_of command line shares = told_by command line (get_or shares.left command no_left) shares

abbrev pub shared_to : Option ℕ → List ℕ → Shares → Shares
shared_to None line shares = shares
shared_to (Some command) line shares = shared_of command line shares

-- what is known behind a line
abbrev pub shared : Shares → List ℕ → Shares
shared shares line = shared_to (command_of shares line) line (read_more shares line)

abbrev pub told_to : Option ℕ → List ℕ → Shares → Option Share
told_to None line shares = None
told_to (Some command) line shares = told_of command line shares

-- all lines of a command, if this is the last of them
abbrev pub told : Shares → List ℕ → Option Share
told shares line = told_to (command_of shares line) line (read_more shares line)
