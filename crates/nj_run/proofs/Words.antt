-- What some words ask for, computed.
use Rattle.std.proofs.Common.{◌≡◌, ℕ, Bool, true, List, [], ◌∷◌, Option, refl, ap, ◌∙◌, lit<, codes}
use Rattle.clap.specs.Words.{fault_of, Text, matches_of, takes}
use Rattle.clap.specs.declared.error.kind.ErrorKind.TheVariants.{DisplayHelp, UnknownArgument, ValueValidation}
use Rattle.clap.proofs.OnLiterals.{clap_on_literals}
use Rattle.nj_run.specs.Options.{AreGiven, Options, Writes, nj}
use Rattle.nj_run.specs.Worked.{AskFor, no_words, many_words, many_options, eight_jobs, asks_why, an_audit, a_long_audit}

abbrev options_of : Option Text → Text → ℕ → ℕ → Bool → Bool → Bool → Bool → List Text → Options
options_of folder file jobs keep verbose why audit audit_all targets =
    record { folder = folder; file = file; jobs = jobs; keep = keep; verbose = verbose; why = why; audit = audit; audit_all = audit_all; targets = targets }

-- options with the same parts
same_options : (a b : Options) → a.folder ≡ b.folder → a.file ≡ b.file → a.jobs ≡ b.jobs → a.keep ≡ b.keep → a.verbose ≡ b.verbose → a.why ≡ b.why → a.audit ≡ b.audit → a.audit_all ≡ b.audit_all → a.targets ≡ b.targets → a ≡ b
same_options a b folder file jobs keep verbose why audit audit_all targets =
    ap (λ (x : Option Text). options_of x a.file a.jobs a.keep a.verbose a.why a.audit a.audit_all a.targets) folder
    ∙ ap (λ (x : Text). options_of b.folder x a.jobs a.keep a.verbose a.why a.audit a.audit_all a.targets) file
    ∙ ap (λ (x : ℕ). options_of b.folder b.file x a.keep a.verbose a.why a.audit a.audit_all a.targets) jobs
    ∙ ap (λ (x : ℕ). options_of b.folder b.file b.jobs x a.verbose a.why a.audit a.audit_all a.targets) keep
    ∙ ap (λ (x : Bool). options_of b.folder b.file b.jobs b.keep x a.why a.audit a.audit_all a.targets) verbose
    ∙ ap (λ (x : Bool). options_of b.folder b.file b.jobs b.keep b.verbose x a.audit a.audit_all a.targets) why
    ∙ ap (λ (x : Bool). options_of b.folder b.file b.jobs b.keep b.verbose b.why x a.audit_all a.targets) audit
    ∙ ap (λ (x : Bool). options_of b.folder b.file b.jobs b.keep b.verbose b.why b.audit x a.targets) audit_all
    ∙ ap (λ (x : List Text). options_of b.folder b.file b.jobs b.keep b.verbose b.why b.audit b.audit_all x) targets

defaults_are_taken : takes nj [] ≡ true
unfolding clap_on_literals
defaults_are_taken = refl

defaults_only : (other : Options) → AreGiven (matches_of nj []) other → other ≡ no_words
unfolding clap_on_literals
defaults_only other given = same_options other no_words given.folder given.file given.jobs given.keep (given.verbose.1 refl) (given.why.1 refl) (given.audit.1 refl) (given.audit_all.1 refl) given.targets

pub no_words_ask : AskFor [] no_words
no_words_ask = record { taken = defaults_are_taken; only = λ other asked. defaults_only other asked.given }

many_are_taken : takes nj many_words ≡ true
unfolding clap_on_literals
many_are_taken = refl

three : Writes (codes "3") 3
three = record { digits = (lit< tt, (lit< tt, tt)); value = refl }

none : Writes (codes "0") 0
none = record { digits = (lit< tt, (lit< tt, tt)); value = refl }

many_only : (other : Options) → AreGiven (matches_of nj many_words) other → other ≡ many_options
unfolding clap_on_literals
many_only other given = same_options other many_options given.folder given.file (given.jobs 3 (lit< tt) three) (given.keep 0 (lit< tt) none) (given.verbose.0 refl) (given.why.1 refl) (given.audit.1 refl) (given.audit_all.1 refl) given.targets

pub many_words_ask : AskFor many_words many_options
many_words_ask = record { taken = many_are_taken; only = λ other asked. many_only other asked.given }

zero_eight : Writes (codes "08") 8
zero_eight = record { digits = (lit< tt, (lit< tt, (lit< tt, tt))); value = refl }

zero_in_front_is_taken : takes nj (codes "-j" ∷ codes "08" ∷ []) ≡ true
unfolding clap_on_literals
zero_in_front_is_taken = refl

zero_in_front_only : (other : Options) → AreGiven (matches_of nj (codes "-j" ∷ codes "08" ∷ [])) other → other ≡ eight_jobs
unfolding clap_on_literals
zero_in_front_only other given = same_options other eight_jobs given.folder given.file (given.jobs 8 (lit< tt) zero_eight) given.keep (given.verbose.1 refl) (given.why.1 refl) (given.audit.1 refl) (given.audit_all.1 refl) given.targets

pub zero_in_front : AskFor (codes "-j" ∷ codes "08" ∷ []) eight_jobs
zero_in_front = record { taken = zero_in_front_is_taken; only = λ other asked. zero_in_front_only other asked.given }

why_is_taken : takes nj (codes "--why" ∷ codes "all" ∷ []) ≡ true
unfolding clap_on_literals
why_is_taken = refl

why_only : (other : Options) → AreGiven (matches_of nj (codes "--why" ∷ codes "all" ∷ [])) other → other ≡ asks_why
unfolding clap_on_literals
why_only other given = same_options other asks_why given.folder given.file given.jobs given.keep (given.verbose.1 refl) (given.why.0 refl) (given.audit.1 refl) (given.audit_all.1 refl) given.targets

pub why_asked : AskFor (codes "--why" ∷ codes "all" ∷ []) asks_why
why_asked = record { taken = why_is_taken; only = λ other asked. why_only other asked.given }

plus_eight : Writes (codes "+8") 8
plus_eight = record { digits = (lit< tt, (lit< tt, tt)); value = refl }

plus_in_front_is_taken : takes nj (codes "-j" ∷ codes "+8" ∷ []) ≡ true
unfolding clap_on_literals
plus_in_front_is_taken = refl

plus_in_front_only : (other : Options) → AreGiven (matches_of nj (codes "-j" ∷ codes "+8" ∷ [])) other → other ≡ eight_jobs
unfolding clap_on_literals
plus_in_front_only other given = same_options other eight_jobs given.folder given.file (given.jobs 8 (lit< tt) plus_eight) given.keep (given.verbose.1 refl) (given.why.1 refl) (given.audit.1 refl) (given.audit_all.1 refl) given.targets

pub plus_in_front : AskFor (codes "-j" ∷ codes "+8" ∷ []) eight_jobs
plus_in_front = record { taken = plus_in_front_is_taken; only = λ other asked. plus_in_front_only other asked.given }

audit_is_taken : takes nj (codes "--audit" ∷ codes "all" ∷ []) ≡ true
unfolding clap_on_literals
audit_is_taken = refl

audit_only : (other : Options) → AreGiven (matches_of nj (codes "--audit" ∷ codes "all" ∷ [])) other → other ≡ an_audit
unfolding clap_on_literals
audit_only other given = same_options other an_audit given.folder given.file given.jobs given.keep (given.verbose.1 refl) (given.why.1 refl) (given.audit.0 refl) (given.audit_all.1 refl) given.targets

pub audit_asked : AskFor (codes "--audit" ∷ codes "all" ∷ []) an_audit
audit_asked = record { taken = audit_is_taken; only = λ other asked. audit_only other asked.given }

audit_all_is_taken : takes nj (codes "--audit-all" ∷ []) ≡ true
unfolding clap_on_literals
audit_all_is_taken = refl

audit_all_only : (other : Options) → AreGiven (matches_of nj (codes "--audit-all" ∷ [])) other → other ≡ a_long_audit
unfolding clap_on_literals
audit_all_only other given = same_options other a_long_audit given.folder given.file given.jobs given.keep (given.verbose.1 refl) (given.why.1 refl) (given.audit.1 refl) (given.audit_all.0 refl) given.targets

pub audit_all_asked : AskFor (codes "--audit-all" ∷ []) a_long_audit
audit_all_asked = record { taken = audit_all_is_taken; only = λ other asked. audit_all_only other asked.given }

pub no_number : fault_of nj (codes "-j" ∷ codes "x" ∷ []) ≡ ValueValidation ∷ []
unfolding clap_on_literals
no_number = refl

pub too_large : fault_of nj (codes "-k4294967296" ∷ []) ≡ ValueValidation ∷ []
unfolding clap_on_literals
too_large = refl

pub unknown : fault_of nj (codes "-q" ∷ []) ≡ UnknownArgument ∷ []
unfolding clap_on_literals
unknown = refl

pub help : fault_of nj (codes "all" ∷ codes "--help" ∷ []) ≡ DisplayHelp ∷ []
unfolding clap_on_literals
help = refl
