-- What is handed over so that a command is traced.
use Rattle.std.specs.Prelude.{◌≡◌, ℕ, ℤ, ◌==◌, Bool, true, false, ◌&&◌, ◌||◌, List, [], ◌∷◌, ◌++◌, Option, Some, None, codes, decimal, nat_eq}
use Rattle.std.specs.List.{starts_with}
use Rattle.os.specs.Paths.{HasNoNul}
use Rattle.host.specs.declared.process.Handed.{Handed}
use Rattle.host.specs.Process.{IsHanded, block_of, shell}

-- a word, and the NUL that ends it
abbrev pub ended : List ℕ → List ℕ
ended word = word ++ 0 ∷ []

-- which calls of the system are written down
abbrev pub calls : List ℕ
calls = codes "trace=%file,fork,vfork,clone,clone3,execveat,fchdir,getdents,getdents64,ftruncate,connect,bind,unshare,setns,open_by_handle_at,io_uring_setup,fsmount,move_mount"

-- Processes that are started are followed, descriptors come with their paths, names in hexadecimal digits, and no signal is told. Of
-- structures those are written that tell a folder from a file, what a file is opened for, and whether a process shares its folder with
-- another.
abbrev pub first_words : List ℕ
first_words =
    ended (codes "strace") ++ ended (codes "-f") ++ ended (codes "-y") ++ ended (codes "-xx") ++ ended (codes "-s") ++ ended (codes "65536")
    ++ ended (codes "--seccomp-bpf") ++ ended (codes "-e") ++ ended (codes "signal=none") ++ ended (codes "-e")
    ++ ended (codes "verbose=stat,lstat,newfstatat,statx,clone3,openat2") ++ ended (codes "-e") ++ ended calls ++ ended (codes "-o")

-- the words by which the shell runs a command, but for that
abbrev pub shell_words : List ℕ
shell_words = ended (codes "--") ++ ended shell ++ ended (codes "-c")

-- ---- the locale of the tracer

-- the text begins with the name of the variable that sets a locale whatever others say
abbrev pub sets_at : List ℕ → Bool
sets_at text = starts_with nat_eq text (codes "LC_ALL")

-- such a text stands behind a NUL
abbrev pub sets_within : List ℕ → Bool
sets_within [] = false
sets_within (byte ∷ rest) = (byte == 0 && sets_at rest) || sets_within rest

-- one of the variables is that one, or has a longer name
abbrev pub sets_locale : List ℕ → Bool
sets_locale variables = sets_at variables || sets_within variables

-- Where none is, the tracer gets a locale that reads no files, in front of the variables of the command, and takes it out again before the
-- command begins. Where one is, it gets what the command gets.
abbrev pub traced_variables : Bool → List ℕ → List ℕ
traced_variables true variables = variables
traced_variables false variables = ended (codes "LC_ALL=C") ++ variables

abbrev pub locale_words : Bool → List ℕ
locale_words true = []
locale_words false = ended (codes "-E") ++ ended (codes "LC_ALL")

-- ---- a traced command

-- where the trace of a job is written
abbrev pub trace_file : ℕ → List ℕ
trace_file job = codes ".nj_trace." ++ decimal job

-- the same words of the shell as without, behind those of the tracer
abbrev pub traced_words : Bool → ℕ → List ℕ → List ℕ
traced_words is_set job command = (((first_words ++ ended (trace_file job)) ++ locale_words is_set) ++ shell_words) ++ ended command

-- what is handed over so that this command is traced by this program
pub record IsTraced (tracer : List ℕ) (job : ℕ) (command variables : List ℕ) (fds : List ℤ) (handed : Handed) : Type 0 where
  pub program : handed.program.now ≡ tracer
  pub words : handed.words.items ≡ traced_words (sets_locale variables) job command
  pub whole : HasNoNul command
  pub environment : block_of handed.environment ≡ traced_variables (sets_locale variables) variables
  pub folder : handed.folder.now ≡ []
  pub streams : handed.streams ≡ fds

-- what is handed over so that the shell runs this command, traced where there is a program for that
abbrev pub IsHandedBy : Option (List ℕ) → ℕ → List ℕ → List ℕ → List ℤ → Handed → Type 0
IsHandedBy None job command variables fds handed = IsHanded command variables fds handed
IsHandedBy (Some program) job command variables fds handed = IsTraced program job command variables fds handed
