-- What some words ask for, and why some are refused.
use Rattle.std.specs.Prelude.{◌≡◌, true, false, List, [], ◌∷◌, Some, None, codes}
use Rattle.clap.specs.Words.{Text, fault_of, takes}
use Rattle.clap.specs.declared.error.kind.ErrorKind.TheVariants.{DisplayHelp, UnknownArgument, ValueValidation}
use Rattle.nj_run.specs.Options.{AreAsked, Options, nj}

-- the words are taken, and ask for these options and no others
pub record AskFor (words : List Text) (options : Options) : Type 0 where
  pub taken : takes nj words ≡ true
  pub only : (other : Options) → AreAsked words other → other ≡ options

-- no words: the defaults
abbrev pub no_words : Options
no_words = record { folder = None; file = codes "build.ninja"; jobs = 4; keep = 1; verbose = false; why = false; audit = false; audit_all = false; targets = [] }

-- `-j8 -k 0 -vC out all -f b.ninja -j 3 -- -x`
abbrev pub many_words : List Text
many_words =
    codes "-j8" ∷ codes "-k" ∷ codes "0" ∷ codes "-vC" ∷ codes "out" ∷ codes "all" ∷ codes "-f" ∷ codes "b.ninja" ∷ codes "-j" ∷ codes "3" ∷ codes "--" ∷ codes "-x" ∷ []

abbrev pub many_options : Options
many_options = record { folder = Some (codes "out"); file = codes "b.ninja"; jobs = 3; keep = 0; verbose = true; why = false; audit = false; audit_all = false; targets = codes "all" ∷ codes "-x" ∷ [] }

-- the defaults, and eight jobs
abbrev pub eight_jobs : Options
eight_jobs = record no_words { jobs = 8 }

-- the defaults, but that it is only told why commands are due of `all`
abbrev pub asks_why : Options
asks_why = record no_words { why = true; targets = codes "all" ∷ [] }

-- the defaults, and an audit
abbrev pub an_audit : Options
an_audit = record no_words { audit = true; targets = codes "all" ∷ [] }

-- the defaults, and an audit that lists all files
abbrev pub a_long_audit : Options
a_long_audit = record no_words { audit_all = true }

-- what these words ask for, or why they are refused
pub record WorkedWords : Type 0 where
  pub defaults : AskFor [] no_words
  pub given : AskFor many_words many_options
  pub zero_in_front : AskFor (codes "-j" ∷ codes "08" ∷ []) eight_jobs
  pub plus_in_front : AskFor (codes "-j" ∷ codes "+8" ∷ []) eight_jobs
  pub why : AskFor (codes "--why" ∷ codes "all" ∷ []) asks_why
  pub audit : AskFor (codes "--audit" ∷ codes "all" ∷ []) an_audit
  pub audit_all : AskFor (codes "--audit-all" ∷ []) a_long_audit
  pub no_number : fault_of nj (codes "-j" ∷ codes "x" ∷ []) ≡ ValueValidation ∷ []
  pub too_large : fault_of nj (codes "-k4294967296" ∷ []) ≡ ValueValidation ∷ []
  pub unknown : fault_of nj (codes "-q" ∷ []) ≡ UnknownArgument ∷ []
  pub help : fault_of nj (codes "all" ∷ codes "--help" ∷ []) ≡ DisplayHelp ∷ []
