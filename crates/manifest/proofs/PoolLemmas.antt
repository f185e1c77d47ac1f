-- The blocks of pools, line by line.
use Rattle.std.proofs.Common.{Result, Ok, Err, IsErr, IfErr, ◌≡◌, ℕ, Bool, true, false, List, [], ◌∷◌, ◌++◌, Option, None, Some, refl, sym, ap, subst, ◌∙◌}
use mathlib.Core.Bool.{true≢false}
use Rattle.std.specs.Prelude.{bytes_eq, codes, not}
use Rattle.lexer.specs.Said.{Fragments}
use Rattle.lexer.specs.declared.fault.FaultKind.TheVariants.{TooLarge}
use Rattle.manifest.specs.declared.fault.FaultKind.{FaultKind}
use Rattle.manifest.specs.declared.fault.FaultKind.TheVariants.{UnexpectedVariable, BadDepth, Line}
use Rattle.manifest.specs.declared.fault.FileFault.{FileFault}
use Rattle.manifest.specs.declared.fault.ReadError.{ReadError}
use Rattle.manifest.specs.declared.fault.ReadError.TheVariants.{Memory, Site, Refused}
use Rattle.manifest.specs.declared.place.Place.{Place as KeptPlace}
use Rattle.manifest.specs.Answer.{IsFaultOf, IsAnswerOf}
use Rattle.manifest.specs.Blocks.{BlockLine}
use Rattle.manifest.specs.Declarations.{PoolLine, SomeDepth, DepthOf}
use Rattle.manifest.specs.Numbers.{depth_in}
use Rattle.manifest.specs.Places.{place_of, IsFaultAt}
use Rattle.manifest.specs.Readings.{Outcome, Unless, Give, Cut, Each, Place, fault_at}
use Rattle.manifest.specs.Readings.Outcome.{Reached, Broken}
use Rattle.manifest.specs.Readings.Unless.{refused, in_order}
use Rattle.manifest.specs.Readings.Then.{goes_on}
use Rattle.manifest.specs.States.{State}
use Rattle.manifest.specs.Expansion.{text_at, is_large}
use Rattle.manifest.proofs.Binds.{apart, unless_at, unless_fault, refuse_at, Stops, then_fault, then_next_fault, cut_ok, cut_fault, cut_next_fault}
use Rattle.manifest.proofs.RuleLemmas.{one_line, one_line_fault, fault_there}

-- ---- what was refused, or given, of a value

module _ {X Y : Type 0} (bad : Type 0) (fault : FileFault) (value : X) (Next : Outcome Y → Type 0) where
  pub unless_again : (error : ReadError) → IsFaultOf (Unless bad fault (Give value)) error → IsFaultOf (Unless bad fault Next) error
  unless_again Memory is = tt
  unless_again (Site site) is = is
  unless_again (Refused other) (refused is_bad) = refused is_bad
  unless_again (Refused other) (in_order good gives) = absurd (apart (Broken other) value other gives refl)

module _ {X : Type 0} (bad : Type 0) (fault : FileFault) (value given : X) where
  pub unless_gave : Unless bad fault (Give value) (Reached given) → (bad → ⊥) × (given ≡ value)
  unless_gave (in_order good gives) = (good, same gives)
    where
      same : Reached given ≡ Reached value → given ≡ value
      same is = cc

-- a call that always refuses a depth
pub only_bad : {X : Type 0} (reading : Outcome X → Type 0) (r : Result X ReadError) (Q : ReadError → Type 0) → IsErr r → IfErr r Q
    → ((error : ReadError) → Q error → IsFaultOf reading error) → IsAnswerOf reading r
only_bad reading (Ok value) Q is_err is refusal = absurd (true≢false (sym is_err))
only_bad reading (Err error) Q is_err is refusal = refusal error is

-- ---- a line of a pool

module _ (state : State) (pool : List ℕ) (place there : KeptPlace) (number : ℕ) (name : List ℕ) (value : Fragments) (lines : List BlockLine)
    (same_file : there.file.now ≡ place.file.now) (same_line : there.line ≡ number) (are : lines ≡ record { line = number; name = name; value = value } ∷ []) where
  abbrev here : Place
  here = record { file = place.file.now.value; line = number }

  is_here : place_of there ≡ here
  is_here = rw (← same_file, ← same_line) refl

  at_here : (told kind : FaultKind) (error : ReadError) → told ≡ kind → IsFaultAt (place_of there) told error → IsFaultAt here kind error
  at_here told kind error same is = fault_there place there number told kind error same_file same_line same is

  whole : (before : Option ℕ) (error : ReadError) → IsFaultOf (PoolLine state place.file.now.value pool (record { line = number; name = name; value = value }) before) error
      → IsFaultOf (Each (PoolLine state place.file.now.value pool) (lines ++ []) before) error
  whole before error is = one_line_fault (PoolLine state place.file.now.value pool) lines (record { line = number; name = name; value = value }) before error are is

  is_depth : bytes_eq name (codes "depth") ≡ true → bytes_eq name (codes "depth") ≡ false → ⊥
  is_depth named other = differ _ named other
    where
      differ : (b : Bool) → b ≡ true → b ≡ false → ⊥
      differ b one two = cc

  -- the name is refused
  pub pool_unexpected : (before : Option ℕ) (told : List ℕ) (error : ReadError) → bytes_eq name (codes "depth") ≡ false → told ≡ name
      → IsFaultAt (place_of there) (UnexpectedVariable told) error → IsFaultOf (Each (PoolLine state place.file.now.value pool) (lines ++ []) before) error
  pool_unexpected before told error other same is =
      whole before error (unless_at _ _ here (UnexpectedVariable name) error other (at_here (UnexpectedVariable told) (UnexpectedVariable name) error (ap UnexpectedVariable same) is))

  module _ (before : Option ℕ) (named : bytes_eq name (codes "depth") ≡ true) where
    -- the value is refused
    pub pool_large : (error : ReadError) → IsFaultOf (Unless (is_large (text_at state.past value) ≡ true) (fault_at (place_of there) (Line TooLarge)) (Give (text_at state.past value))) error
        → IsFaultOf (Each (PoolLine state place.file.now.value pool) (lines ++ []) before) error
    pool_large error is =
        let at : IsFaultOf (Unless (is_large (text_at state.past value) ≡ true) (fault_at here (Line TooLarge)) (Give (text_at state.past value))) error
        = subst (λ (p : Place). IsFaultOf (Unless (is_large (text_at state.past value) ≡ true) (fault_at p (Line TooLarge)) (Give (text_at state.past value))) error) is_here is in
        whole before error (unless_fault _ _ _ error (is_depth named) (unless_again _ _ (text_at state.past value) _ error at))

    module _ (text : List ℕ) (fits : Unless (is_large (text_at state.past value) ≡ true) (fault_at (place_of there) (Line TooLarge)) (Give (text_at state.past value)) (Reached text)) where
      small : is_large (text_at state.past value) ≡ true → ⊥
      small = (unless_gave _ _ (text_at state.past value) text fits).0

      same_text : text ≡ text_at state.past value
      same_text = (unless_gave _ _ (text_at state.past value) text fits).1

      -- the depth is refused
      pub pool_bad : (told : List ℕ) (error : ReadError) → depth_in text ≡ None → told ≡ pool → IsFaultAt (place_of there) (BadDepth told) error
          → IsFaultOf (Each (PoolLine state place.file.now.value pool) (lines ++ []) before) error
      pool_bad told error none same is =
          whole before error (unless_fault _ _ _ error (is_depth named) (unless_fault _ _ _ error small
          (unless_at _ _ here (BadDepth pool) error (ap depth_in (sym same_text) ∙ none) (at_here (BadDepth told) (BadDepth pool) error (ap BadDepth same) is))))

      pub pool_bad_answer : (r : Result (Option ℕ) ReadError) → depth_in text ≡ None → IsErr r → IfErr r (IsFaultAt (place_of there) (BadDepth pool))
          → IsAnswerOf (Each (PoolLine state place.file.now.value pool) (lines ++ []) before) r
      pool_bad_answer r none is_err is =
          only_bad (Each (PoolLine state place.file.now.value pool) (lines ++ []) before) r (IsFaultAt (place_of there) (BadDepth pool)) is_err is
          (λ error at. pool_bad pool error none refl at)

      pub pool_some : (depth : ℕ) → depth_in text ≡ Some depth → Each (PoolLine state place.file.now.value pool) (lines ++ []) before (Reached (Some depth))
      pool_some depth found =
          let gives : depth_in (text_at state.past value) ≡ Some depth = ap depth_in (sym same_text) ∙ found in
          one_line (PoolLine state place.file.now.value pool) lines (record { line = number; name = name; value = value }) before (Reached (Some depth)) are
          (in_order (is_depth named) (in_order small (in_order (λ none. both _ gives none) (ap Reached (sym gives)))))
        where
          both : (o : Option ℕ) → o ≡ Some depth → o ≡ None → ⊥
          both o one two = cc

-- `!=` on texts
pub differs : (r b : Bool) → r ≡ not b → r ≡ true → b ≡ false
differs r true is bad = cc
differs r false is bad = refl

pub agrees : (r b : Bool) → r ≡ not b → r ≡ false → b ≡ true
agrees r true is good = refl
agrees r false is good = cc

-- ---- the block

module _ (place : Place) (name : List ℕ) (block : List BlockLine) (behind : Option FileFault) (state : State) where
  pub depth_faulty : (error : ReadError) → IsFaultOf (Each (PoolLine state place.file name) block None) error → IsFaultOf (DepthOf place name block behind state) error
  depth_faulty error is = then_fault _ _ error is

  module _ (depth : Option ℕ) (read : Each (PoolLine state place.file name) block None (Reached depth)) where
    pub depth_stopped : (error : ReadError) → IsFaultOf (Stops behind) error → IsFaultOf (DepthOf place name block behind state) error
    depth_stopped error is = then_next_fault (Each (PoolLine state place.file name) block None) _ depth error read (cut_fault _ behind error is)

  pub depth_missing : (depth : Option ℕ) (r : Result ℕ ReadError) → depth ≡ None → Each (PoolLine state place.file name) block None (Reached depth) → Stops behind (Reached tt)
      → IsErr r → IfErr r (IsFaultAt place (BadDepth name)) → IsAnswerOf (DepthOf place name block behind state) r
  depth_missing depth r none read passed is_err is =
      let missing : Each (PoolLine state place.file name) block None (Reached None) = subst (λ (d : Option ℕ). Each (PoolLine state place.file name) block None (Reached d)) none read in
      only_bad (DepthOf place name block behind state) r (IsFaultAt place (BadDepth name)) is_err is
      (λ error at. then_next_fault (Each (PoolLine state place.file name) block None) (λ (found : Option ℕ). Cut behind (SomeDepth place name found)) None error missing
      (cut_next_fault (SomeDepth place name None) behind error passed (refuse_at ℕ place (BadDepth name) error at)))

  pub depth_given : (found : Option ℕ) (depth : ℕ) → found ≡ Some depth → Each (PoolLine state place.file name) block None (Reached found) → Stops behind (Reached tt)
      → DepthOf place name block behind state (Reached depth)
  depth_given found depth some read passed =
      let given : Each (PoolLine state place.file name) block None (Reached (Some depth)) = subst (λ (d : Option ℕ). Each (PoolLine state place.file name) block None (Reached d)) some read in
      goes_on given (cut_ok (SomeDepth place name (Some depth)) behind (Reached depth) passed refl)

pub never : (b : Bool) → b ≡ false → b ≡ true → ⊥
never b one other = cc
