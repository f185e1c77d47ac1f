-- How the end of a build is told, as other programs look for it.
use Rattle.std.specs.Prelude.{ℕ, List, codes, nat_eq, nat_lt, ◌||◌, if◌then◌else◌}

-- `keep` failures end a build, 0 is no limit
abbrev pub why_stopped : ℕ → ℕ → List ℕ
why_stopped failed keep =
    if nat_eq keep 0 || nat_lt failed keep then codes "cannot make progress due to previous errors"
    else if nat_lt 1 keep then codes "subcommands failed"
    else codes "subcommand failed"
