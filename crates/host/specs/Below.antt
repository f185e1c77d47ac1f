-- What is handed over so that the program runs once more, below one tracer of it and of all that it starts.
use Rattle.std.specs.Prelude.{◌≡◌, ℕ, ℤ, Bool, List, [], ◌∷◌, ◌++◌, codes, negsuc}
use Rattle.host.specs.declared.process.Handed.{Handed}
use Rattle.host.specs.Process.{block_of}
use Rattle.host.specs.Environment.{ended as all_ended}
use Rattle.host.specs.Traced.{calls, ended, locale_words, sets_locale, traced_variables}

-- The words of the tracer: those of one that traces a command (`first_words` of Traced), but that it is no parent of what it traces, that the
-- first call of a process that the C library starts is written too, and that it is written which signal ended a process. Then the file.
abbrev pub aside_words : List ℕ
aside_words =
    ended (codes "strace") ++ ended (codes "-D") ++ ended (codes "-f") ++ ended (codes "-y") ++ ended (codes "-xx") ++ ended (codes "-s")
    ++ ended (codes "65536") ++ ended (codes "--seccomp-bpf") ++ ended (codes "-e") ++ ended (codes "signal=!SIGCHLD") ++ ended (codes "-e")
    ++ ended (codes "verbose=stat,lstat,newfstatat,statx,clone3,openat2") ++ ended (codes "-e") ++ ended (calls ++ codes ",rt_sigprocmask")
    ++ ended (codes "-o") ++ ended (codes ".nj_trace.all")

abbrev pub end_words : List ℕ
end_words = ended (codes "--")

-- with them the program, a word in front of all others, and these
abbrev pub below_words : Bool → List ℕ → List ℕ → List (List ℕ) → List ℕ
below_words is_set program first words =
    ((((aside_words ++ locale_words is_set) ++ end_words) ++ ended program) ++ ended first) ++ all_ended words

-- the program's own descriptors
abbrev pub own : List ℤ
own = negsuc 0 ∷ negsuc 0 ∷ negsuc 0 ∷ []

-- what is handed over so that this tracer runs with these words, and what it starts gets these variables
pub record IsBelow (tracer all variables : List ℕ) (handed : Handed) : Type 0 where
  pub program : handed.program.now ≡ tracer
  pub words : handed.words.items ≡ all
  pub environment : block_of handed.environment ≡ traced_variables (sets_locale variables) variables
  pub folder : handed.folder.now ≡ []
  pub streams : handed.streams ≡ own
