-- What the values of options come to.
use Rattle.std.proofs.Common.{◌≡◌, ◌<◌, ◌^◌, ℕ, Bool, true, false, List, [], map, option_map, subst, Option, Some, None, Result, Ok, Err, refl, sym, ap, ◌∙◌}
use Rattle.std.specs.Prelude.{codes, unwrap_or, IfErr, IsErrAnd}
use Rattle.std.specs.Str.Parse.{ParsesUnsigned}
use Rattle.std.specs.Borrow.{Bor}
use Rattle.clap.specs.Words.{App, HasKind, HasMatchesOf, ReadsOne, fault_of, Row, Text, found_of, is_simple, is_simple_and_free, kind_of, matches_of, rows_of, takes}
use Rattle.clap.specs.declared.parser.matches.ArgMatches.{ArgMatches}
use Rattle.clap.proofs.OnLiterals.{clap_on_literals}
use Rattle.clap.specs.declared.error.Error.{Error}
use Rattle.clap.specs.declared.error.kind.ErrorKind.TheVariants.{OutOfMemory}
use Rattle.nj_run.specs.Options.{AreAsked, AreGiven, IsFlag, IsNumber, Options, Writes, nj}

read_number : {E : Type 0} (G : Text → Result ℕ E → Type 0) (text : Text) (default given : ℕ) (r : Option ℕ) → ((u : Text) (x : Result ℕ E) → G u x → ParsesUnsigned 32 10 u x)
    → given < 2 ^ 32 → Writes text given → ReadsOne G text r → unwrap_or r default ≡ given
read_number {E} G text default given (Some v) only below writes read = (only text (Ok v) read).1 ∙ sym writes.value
read_number {E} G text default given None only below writes read =
    absurd (only text (Err read.0) read.1 (writes.digits, subst (λ (n : ℕ). n < 2 ^ 32) writes.value below))

pub number_is : {E : Type 0} (G : Text → Result ℕ E → Type 0) (o : Option Text) (default : ℕ) (r : Option ℕ) → ((u : Text) (x : Result ℕ E) → G u x → ParsesUnsigned 32 10 u x)
    → (o ≡ None → r ≡ None) → ((t : Text) → o ≡ Some t → ReadsOne G t r) → IsNumber o default (unwrap_or r default)
number_is G None default r only none value = rw (none refl) refl
number_is G (Some t) default r only none value = λ given below writes. read_number G t default given r only below writes (value t refl)

pub flag_is : (o : Option Text) (flag : Bool) → (o ≡ None → flag ≡ false) → (o ≡ Some (codes "true") → flag ≡ true) → (o ≡ Some (codes "false") → flag ≡ false) → IsFlag o flag
flag_is None flag none set unset = none refl
flag_is (Some text) flag none set unset = (λ e. set (ap (λ (t : Text). Some t) e), λ e. unset (ap (λ (t : Text). Some t) e))

pub taken : (a : App) (words : List Text) (e : Error) → a ≡ nj → (takes a words ≡ true → kind_of e ≡ OutOfMemory) → takes nj words ≡ true → kind_of e ≡ OutOfMemory
taken a words e same passes h = passes (ap (λ (b : App). takes b words) same ∙ h)

nj_is_simple : is_simple nj ≡ true
unfolding clap_on_literals
nj_is_simple = refl

-- what is given by the matches is what the words ask for
pub asked : (a : App) (words : List Text) (m : ArgMatches) (options : Options) → a ≡ nj → HasMatchesOf a words m → AreGiven (rows_of (found_of m)) options → AreAsked words options
asked a words m options same has given = record {
  given = subst (λ (rows : List Row). AreGiven rows options) ((has (ap is_simple same ∙ nj_is_simple)).0 ∙ ap (λ (b : App). matches_of b words) same) given;
}

-- a text of a word, else the default
pub text_or : (o : Option (Bor Text)) (default : Bor Text) → (unwrap_or o default).now ≡ unwrap_or (option_map (λ text. text.now) o) default.now
text_or None default = refl
text_or (Some text) default = refl

-- texts of words, else none
pub texts_or : (o : Option (Bor (List (Bor Text)))) (none : Bor (List (Bor Text))) → none.now ≡ []
    → map (λ text. text.now) (unwrap_or o none).now ≡ unwrap_or (option_map (λ texts. map (λ text. text.now) texts.now) o) []
texts_or None none empty = rw empty refl
texts_or (Some texts) none empty = refl

pub if_err : {T E : Type 0} (r : Result T E) (P Q : E → Type 0) → IsErrAnd r P → ((e : E) → P e → Q e) → IfErr r Q
if_err (Ok v) P Q h more = tt
if_err (Err e) P Q h more = more e h

nj_is_free : is_simple_and_free nj ≡ true
unfolding clap_on_literals
nj_is_free = refl

pub faultless : (a : App) (words : List Text) → a ≡ nj → (is_simple_and_free a ≡ true → fault_of a words ≡ []) → fault_of nj words ≡ []
faultless a words same none = ap (λ (b : App). fault_of b words) (sym same) ∙ none (ap is_simple_and_free same ∙ nj_is_free)

-- memory ran out, or the error is of a fault of the words
pub faulty : (a : App) (words : List Text) (e : Error) → a ≡ nj → (is_simple_and_free a ≡ true → HasKind (fault_of a words) e) → HasKind (fault_of nj words) e
faulty a words e same kinds = subst (λ (b : App). HasKind (fault_of b words) e) same (kinds (ap is_simple_and_free same ∙ nj_is_free))
