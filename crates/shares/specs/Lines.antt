-- What a line of a trace tells of processes. (This project's own reading of what strace 6 writes with the words that `host` has for it.)
--
-- A line is the number of a process, blanks, and what the process did: a call `NAME(ARGUMENTS) = ANSWER`, which is written once it has
-- ended; or its beginning, where another process comes between, and later its end; or that the process has ended.
use Rattle.std.specs.Prelude.{ℕ, ◌&&◌, ◌||◌, Bool, List, Option, None, Some, bytes_eq, codes, nat_eq, option_map, option_and_then, if◌then◌else◌}
use Rattle.std.specs.List.{starts_with}
use Rattle.shares.specs.Marks.{cut, has, skip_blanks}

abbrev pub begins : List ℕ → List ℕ → Bool
begins start text = starts_with nat_eq text start

abbrev pub without_blanks : List ℕ × List ℕ → List ℕ × List ℕ
without_blanks parts = (parts.0, skip_blanks parts.1)

-- the number of the process of a line, and what it tells of it
abbrev pub numbered : List ℕ → Option (List ℕ × List ℕ)
numbered line = option_map without_blanks (cut (codes " ") line)

-- it tells that the process has ended
abbrev pub is_end : List ℕ → Bool
is_end body = begins (codes "+++ exited with ") body || begins (codes "+++ killed by ") body

-- it is of a call that no command's share has
abbrev pub is_left_out : List ℕ → Bool
is_left_out body = begins (codes "rt_sigprocmask(") body || begins (codes "<... rt_sigprocmask resumed>") body

-- it starts a process that gives other numbers to those that it starts
abbrev pub leaves_numbers : List ℕ → Bool
leaves_numbers body = begins (codes "clone") body && has (codes "CLONE_NEWPID") body

-- the name of the call that it tells of, and what is written behind it
abbrev pub call_parts : List ℕ → Option (List ℕ × List ℕ)
call_parts body = if begins (codes "<... ") body then cut (codes " resumed>") body else cut (codes "(") body

abbrev pub starts_here : List ℕ → Bool
starts_here name =
    bytes_eq name (codes "clone") || (bytes_eq name (codes "clone3") || (bytes_eq name (codes "vfork") || bytes_eq name (codes "fork")))

abbrev pub ends_start : List ℕ → Bool
ends_start name =
    bytes_eq name (codes "<... clone") || (bytes_eq name (codes "<... clone3")
    || (bytes_eq name (codes "<... vfork") || bytes_eq name (codes "<... fork")))

-- a call of this name starts a process
abbrev pub starts_one : List ℕ → Bool
starts_one name = starts_here name || ends_start name

-- none was started, or that is not known
abbrev pub is_none_started : List ℕ → Bool
is_none_started answer = begins (codes "-") answer || begins (codes "?") answer

abbrev pub child_told : List ℕ × List ℕ → Option (List ℕ)
child_told parts = if is_none_started parts.1 then None else Some parts.1

abbrev pub child_of_call : List ℕ × List ℕ → Option (List ℕ)
child_of_call parts = if starts_one parts.0 then option_and_then child_told (cut (codes " = ") parts.1) else None

-- the number of the process that it started, where it tells that of one
abbrev pub child_of : List ℕ → Option (List ℕ)
child_of body = option_and_then child_of_call (call_parts body)
