-- The calls of the system of which it is known what they do to files, and how they end. (What each does is what the manual of Linux says
-- of it; which count as which is this project's own.)
use Rattle.std.specs.Prelude.{ℕ, ◌||◌, Bool, true, false, List, Option, Some, None, bytes_eq, codes, nat_eq, if◌then◌else◌}
use Rattle.std.specs.Option.{option_or}
use Rattle.std.specs.List.{starts_with}
use Rattle.trace.specs.declared.calls.Row.{Row}
use Rattle.trace.specs.declared.calls.Does.{Does}
use Rattle.trace.specs.declared.calls.Does.TheVariants as doing
use Rattle.trace.specs.declared.calls.Form.{Form}
use Rattle.trace.specs.declared.calls.Form.TheVariants as by
use Rattle.trace.specs.declared.ending.End.{End}
use Rattle.trace.specs.declared.ending.End.TheVariants as ending

abbrev pub begins : List ℕ → List ℕ → Bool
begins start text = starts_with nat_eq text start

-- how a call ended, by what stands behind the sign of equality
unfoldable pub ending_of : List ℕ → End
ending_of text =
    if begins (codes "-1 ENOENT ") text || begins (codes "-1 ENOTDIR ") text then ending.Missing
    else (if (begins (codes "-1 EFAULT ") text || begins (codes "-1 EBADF ") text) || begins (codes "-1 ENOSYS ") text then ending.Void
    else (if begins (codes "-1 ") text then ending.Refused
    else (if begins (codes "? ERESTART") text then ending.Void
    else (if begins (codes "?") text then ending.Open else ending.Well))))

abbrev pub is_well : End → Bool
is_well ending.Well = true
is_well _ = false

abbrev pub is_missing : End → Bool
is_missing ending.Missing = true
is_missing _ = false

abbrev pub is_void : End → Bool
is_void ending.Void = true
is_void _ = false

abbrev pub is_open : End → Bool
is_open ending.Open = true
is_open _ = false

-- ---- kinds of calls

-- its first argument is no path of a file that it works on
abbrev pub leads : Does → Bool
leads doing.Leads = true
leads _ = false

-- it works on two paths
abbrev pub has_two : Does → Bool
has_two doing.Moves = true
has_two doing.Links = true
has_two _ = false

-- what stands at its path is a folder, where it ends well
abbrev pub is_of_folders : Does → Bool
is_of_folders doing.Goes = true
is_of_folders doing.Clears = true
is_of_folders _ = false

abbrev pub runs : Does → Bool
runs doing.Runs = true
runs _ = false

abbrev pub opens : Does → Bool
opens doing.Opens = true
opens _ = false

abbrev pub links : Does → Bool
links doing.Links = true
links _ = false

-- what a link leads to that stands at the path is meant, where the call says nothing else
abbrev pub follows_links : Does → Bool
follows_links doing.Looks = true
follows_links doing.Opens = true
follows_links doing.Creates = true
follows_links doing.Runs = true
follows_links doing.Goes = true
follows_links doing.Cuts = true
follows_links doing.Changes = true
follows_links _ = false

abbrev pub goes : Does → Bool
goes doing.Goes = true
goes _ = false

abbrev pub begins_one : Does → Bool
begins_one doing.Starts = true
begins_one _ = false

abbrev pub connects : Does → Bool
connects doing.Connects = true
connects _ = false

abbrev pub passes : Does → Bool
passes doing.Passes = true
passes _ = false

-- ---- which calls are known

abbrev pub looks : List ℕ → Bool
looks name =
    bytes_eq name (codes "stat") || (bytes_eq name (codes "access") || (bytes_eq name (codes "statfs")
    || (bytes_eq name (codes "getxattr") || (bytes_eq name (codes "listxattr") || (bytes_eq name (codes "chmod")
    || bytes_eq name (codes "chown"))))))

-- these look at what stands at the path itself, be that a link
abbrev pub peeks : List ℕ → Bool
peeks name =
    bytes_eq name (codes "lstat") || (bytes_eq name (codes "readlink") || (bytes_eq name (codes "lgetxattr")
    || (bytes_eq name (codes "llistxattr") || bytes_eq name (codes "lchown"))))

abbrev pub looks_at : List ℕ → Bool
looks_at name =
    bytes_eq name (codes "newfstatat") || (bytes_eq name (codes "statx") || (bytes_eq name (codes "faccessat")
    || (bytes_eq name (codes "faccessat2") || (bytes_eq name (codes "fchmodat") || (bytes_eq name (codes "fchmodat2")
    || (bytes_eq name (codes "fchownat") || bytes_eq name (codes "name_to_handle_at")))))))

abbrev pub opens_at : List ℕ → Bool
opens_at name = bytes_eq name (codes "openat") || bytes_eq name (codes "openat2")

abbrev pub lists : List ℕ → Bool
lists name = bytes_eq name (codes "getdents") || bytes_eq name (codes "getdents64")

abbrev pub makes : List ℕ → Bool
makes name = bytes_eq name (codes "creat") || bytes_eq name (codes "mknod")

abbrev pub changes : List ℕ → Bool
changes name =
    bytes_eq name (codes "utime") || (bytes_eq name (codes "utimes") || (bytes_eq name (codes "setxattr")
    || bytes_eq name (codes "removexattr")))

abbrev pub marks : List ℕ → Bool
marks name = bytes_eq name (codes "lsetxattr") || bytes_eq name (codes "lremovexattr")

abbrev pub changes_at : List ℕ → Bool
changes_at name = bytes_eq name (codes "utimensat") || bytes_eq name (codes "futimesat")

abbrev pub moves_at : List ℕ → Bool
moves_at name = bytes_eq name (codes "renameat") || bytes_eq name (codes "renameat2")

abbrev pub starts : List ℕ → Bool
starts name =
    bytes_eq name (codes "fork") || (bytes_eq name (codes "vfork") || (bytes_eq name (codes "clone") || bytes_eq name (codes "clone3")))

-- ---- what they do, and how they name a path

abbrev pub when : Bool → Does → Form → Option Row
when is does form = if is then Some (record { does = does; form = form }) else None

unfoldable pub row_of_look : List ℕ → Option Row
row_of_look name =
    option_or (option_or (option_or (option_or (option_or (option_or
    (when (looks name) doing.Looks by.Name)
    (when (peeks name) doing.Peeks by.Name))
    (when (bytes_eq name (codes "readlinkat")) doing.Peeks by.At))
    (when (looks_at name) doing.Looks by.At))
    (when (bytes_eq name (codes "open")) doing.Opens by.Name))
    (when (opens_at name) doing.Opens by.At))
    (when (lists name) doing.Lists by.Opened)

unfoldable pub row_of_change : List ℕ → Option Row
row_of_change name =
    option_or (option_or (option_or (option_or (option_or (option_or (option_or (option_or (option_or (option_or (option_or
    (when (makes name) doing.Creates by.Name)
    (when (bytes_eq name (codes "mknodat")) doing.Creates by.At))
    (when (bytes_eq name (codes "truncate")) doing.Cuts by.Name))
    (when (bytes_eq name (codes "ftruncate")) doing.Empties by.Opened))
    (when (changes name) doing.Changes by.Name))
    (when (marks name) doing.Marks by.Name))
    (when (changes_at name) doing.Changes by.At))
    (when (bytes_eq name (codes "mkdir")) doing.Folders by.Name))
    (when (bytes_eq name (codes "mkdirat")) doing.Folders by.At))
    (when (bytes_eq name (codes "rmdir")) doing.Clears by.Name))
    (when (bytes_eq name (codes "unlink")) doing.Removes by.Name))
    (when (bytes_eq name (codes "unlinkat")) doing.Removes by.At)

unfoldable pub row_of_two : List ℕ → Option Row
row_of_two name =
    option_or (option_or (option_or (option_or (option_or
    (when (bytes_eq name (codes "rename")) doing.Moves by.Name)
    (when (moves_at name) doing.Moves by.At))
    (when (bytes_eq name (codes "link")) doing.Links by.Name))
    (when (bytes_eq name (codes "linkat")) doing.Links by.At))
    (when (bytes_eq name (codes "symlink")) doing.Leads by.Name))
    (when (bytes_eq name (codes "symlinkat")) doing.Leads by.At)

unfoldable pub row_of_process : List ℕ → Option Row
row_of_process name =
    option_or (option_or (option_or (option_or (option_or (option_or
    (when (bytes_eq name (codes "execve")) doing.Runs by.Name)
    (when (bytes_eq name (codes "execveat")) doing.Runs by.At))
    (when (bytes_eq name (codes "chdir")) doing.Goes by.Name))
    (when (bytes_eq name (codes "fchdir")) doing.Goes by.Opened))
    (when (starts name) doing.Starts by.Name))
    (when (bytes_eq name (codes "connect")) doing.Connects by.Opened))
    (when (bytes_eq name (codes "getcwd")) doing.Passes by.Name)

-- What is known of the call with this name. Of others it is not known what they do: `io_uring_setup`, `open_by_handle_at`, `mount`.
unfoldable pub row_named : List ℕ → Option Row
row_named name = option_or (option_or (option_or (row_of_look name) (row_of_change name)) (row_of_two name)) (row_of_process name)
