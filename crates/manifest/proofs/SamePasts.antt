-- Pasts that say the same.
use Rattle.std.proofs.Common.{◌≡◌, ℕ, zero, suc, Bool, true, false, if◌then◌else◌, List, [], ◌∷◌, ◌++◌, length, Option, None, Some, IsSome, unwrap_or, refl, sym, ◌∙◌, ap, subst}
use Rattle.std.specs.Str.{bytes_eq}
use Rattle.std.proofs.Math.Path.{fun_ext}
use Rattle.std.proofs.lemmas.Bool.{false≢true}
use Rattle.lexer.specs.declared.fault.FaultKind.TheVariants.{TooLarge}
use Rattle.lexer.specs.Said.{Fragments}
use Rattle.scopes.specs.declared.template.Rule.{Rule}
use Rattle.scopes.specs.Moves.{Move, Bind, DeclareRule, Enter, Leave, variable, rule_named, or_else, last_said, value_at, rule_at, entered, open_scopes, scopes_from, begins_with, last_in, first_in, value_at_end}
use Rattle.manifest.specs.declared.fault.FaultKind.TheVariants.{Line}
use Rattle.manifest.specs.Blocks.{BlockLine, BuildBlock, build_block}
use Rattle.manifest.specs.Expansion.{Bound, bound, value_here, text_at, text_of, is_large}
use Rattle.manifest.specs.Readings.{fault_at}
use Rattle.manifest.specs.States.{State, Build, present, first_or, named, all_of}
use Rattle.manifest.proofs.Sameness.{SameRule, SameOption, SamePast, SameBuild, SameBuilds, SameState}

-- ---- what holds of pasts that say the same

module _ (P : List Move → List Move → Type 0) (nothing_done : P [] [])
    (bind : (name value : List ℕ) (p q : List Move) → SamePast p q → P p q → P (Bind name value ∷ p) (Bind name value ∷ q))
    (declare : (name : List ℕ) (rule other : Rule) → SameRule rule other → (p q : List Move) → SamePast p q → P p q → P (DeclareRule name rule ∷ p) (DeclareRule name other ∷ q))
    (enter : (p q : List Move) → SamePast p q → P p q → P (Enter ∷ p) (Enter ∷ q))
    (leave : (p q : List Move) → SamePast p q → P p q → P (Leave ∷ p) (Leave ∷ q)) where
  by_moves : (p q : List Move) → SamePast p q → P p q
  by_moves [] [] same = nothing_done
  by_moves [] (n ∷ q) same = absurd same
  by_moves (m ∷ p) [] same = absurd same
  by_moves (Bind name value ∷ p) (Bind name' value' ∷ q) same =
      subst (λ (n : List ℕ). P (Bind name value ∷ p) (Bind n value' ∷ q)) same.0.0
      (subst (λ (v : List ℕ). P (Bind name value ∷ p) (Bind name v ∷ q)) same.0.1 (bind name value p q same.1 (by_moves p q same.1)))
  by_moves (Bind name value ∷ p) (DeclareRule name' rule' ∷ q) same = absurd same.0
  by_moves (Bind name value ∷ p) (Enter ∷ q) same = absurd same.0
  by_moves (Bind name value ∷ p) (Leave ∷ q) same = absurd same.0
  by_moves (DeclareRule name rule ∷ p) (Bind name' value' ∷ q) same = absurd same.0
  by_moves (DeclareRule name rule ∷ p) (DeclareRule name' rule' ∷ q) same =
      subst (λ (n : List ℕ). P (DeclareRule name rule ∷ p) (DeclareRule n rule' ∷ q)) same.0.0
      (declare name rule rule' same.0.1 p q same.1 (by_moves p q same.1))
  by_moves (DeclareRule name rule ∷ p) (Enter ∷ q) same = absurd same.0
  by_moves (DeclareRule name rule ∷ p) (Leave ∷ q) same = absurd same.0
  by_moves (Enter ∷ p) (Bind name' value' ∷ q) same = absurd same.0
  by_moves (Enter ∷ p) (DeclareRule name' rule' ∷ q) same = absurd same.0
  by_moves (Enter ∷ p) (Enter ∷ q) same = enter p q same.1 (by_moves p q same.1)
  by_moves (Enter ∷ p) (Leave ∷ q) same = absurd same.0
  by_moves (Leave ∷ p) (Bind name' value' ∷ q) same = absurd same.0
  by_moves (Leave ∷ p) (DeclareRule name' rule' ∷ q) same = absurd same.0
  by_moves (Leave ∷ p) (Enter ∷ q) same = absurd same.0
  by_moves (Leave ∷ p) (Leave ∷ q) same = leave p q same.1 (by_moves p q same.1)

-- ---- scopes

pub entered_same : (p q : List Move) → SamePast p q → entered p ≡ entered q
entered_same = by_moves (λ p q. entered p ≡ entered q) refl
    (λ name value p q same e. e) (λ name rule other rules p q same e. e) (λ p q same e. ap suc e) (λ p q same e. e)

pub open_scopes_same : (p q : List Move) → SamePast p q → open_scopes p ≡ open_scopes q
open_scopes_same = by_moves (λ p q. open_scopes p ≡ open_scopes q) refl
    (λ name value p q same e. e) (λ name rule other rules p q same e. e) entering leaving
  where
    entering : (p q : List Move) → SamePast p q → open_scopes p ≡ open_scopes q → open_scopes (Enter ∷ p) ≡ open_scopes (Enter ∷ q)
    entering p q same e = let n = entered_same p q same in cc

    leaving : (p q : List Move) → SamePast p q → open_scopes p ≡ open_scopes q → open_scopes (Leave ∷ p) ≡ open_scopes (Leave ∷ q)
    leaving p q same e = cc

pub scopes_from_same : (p q : List Move) → SamePast p q → (s : ℕ) → scopes_from p s ≡ scopes_from q s
scopes_from_same = by_moves (λ p q. (s : ℕ) → scopes_from p s ≡ scopes_from q s) (λ s. refl)
    (λ name value p q same e. e) (λ name rule other rules p q same e. e) entering (λ p q same e. e)
  where
    entering : (p q : List Move) → SamePast p q → ((s : ℕ) → scopes_from p s ≡ scopes_from q s) → (s : ℕ) → scopes_from (Enter ∷ p) s ≡ scopes_from (Enter ∷ q) s
    entering p q same e s = let n = entered_same p q same in let opened = open_scopes_same p q same in let here = e s in cc

-- ---- look-ups

module _ {V : Type 0} (R : V → V → Type 0) where
  or_else_same : (a b c d : Option V) → SameOption R a b → SameOption R c d → SameOption R (or_else a c) (or_else b d)
  or_else_same None None c d first second = second
  or_else_same None (Some y) c d first second = absurd first
  or_else_same (Some x) None c d first second = absurd first
  or_else_same (Some x) (Some y) c d first second = first

  if_same : (t u : Bool) (a b c d : Option V) → t ≡ u → SameOption R a b → SameOption R c d → SameOption R (if t then a else c) (if u then b else d)
  if_same true true a b c d same first second = first
  if_same true false a b c d same first second = absurd (false≢true (sym same))
  if_same false true a b c d same first second = absurd (false≢true same)
  if_same false false a b c d same first second = second

  module _ (says : Move → Option V) (of_bind : (name value : List ℕ) → SameOption R (says (Bind name value)) (says (Bind name value)))
      (of_rule : (name : List ℕ) (rule other : Rule) → SameRule rule other → SameOption R (says (DeclareRule name rule)) (says (DeclareRule name other))) where
    abbrev SaysSame : List Move → List Move → Type 0
    SaysSame p q = (left : ℕ) → SameOption R (last_said says left p) (last_said says left q)

    last_said_same : (p q : List Move) → SamePast p q → SaysSame p q
    last_said_same = by_moves SaysSame (λ left. tt) binding declaring entering (λ p q same e left. e (suc left))
      where
        binding : (name value : List ℕ) (p q : List Move) → SamePast p q → SaysSame p q → SaysSame (Bind name value ∷ p) (Bind name value ∷ q)
        binding name value p q same e zero = or_else_same _ _ _ _ (of_bind name value) (e zero)
        binding name value p q same e (suc left) = e (suc left)

        declaring : (name : List ℕ) (rule other : Rule) → SameRule rule other → (p q : List Move) → SamePast p q → SaysSame p q → SaysSame (DeclareRule name rule ∷ p) (DeclareRule name other ∷ q)
        declaring name rule other rules p q same e zero = or_else_same _ _ _ _ (of_rule name rule other rules) (e zero)
        declaring name rule other rules p q same e (suc left) = e (suc left)

        entering : (p q : List Move) → SamePast p q → SaysSame p q → SaysSame (Enter ∷ p) (Enter ∷ q)
        entering p q same e zero = e zero
        entering p q same e (suc left) = e left

    abbrev InSame : List Move → List Move → Type 0
    InSame p q = (s : ℕ) → SameOption R (last_in says p s) (last_in says q s)

    last_in_same : (p q : List Move) → SamePast p q → InSame p q
    last_in_same = by_moves InSame (λ s. tt) binding declaring (λ p q same e. e) (λ p q same e. e)
      where
        begins_same : (p q : List Move) → SamePast p q → (s : ℕ) → begins_with s (open_scopes p) ≡ begins_with s (open_scopes q)
        begins_same p q same s = ap (begins_with s) (open_scopes_same p q same)

        binding : (name value : List ℕ) (p q : List Move) → SamePast p q → InSame p q → InSame (Bind name value ∷ p) (Bind name value ∷ q)
        binding name value p q same e s = if_same _ _ _ _ _ _ (begins_same p q same s) (or_else_same _ _ _ _ (of_bind name value) (e s)) (e s)

        declaring : (name : List ℕ) (rule other : Rule) → SameRule rule other → (p q : List Move) → SamePast p q → InSame p q → InSame (DeclareRule name rule ∷ p) (DeclareRule name other ∷ q)
        declaring name rule other rules p q same e s = if_same _ _ _ _ _ _ (begins_same p q same s) (or_else_same _ _ _ _ (of_rule name rule other rules) (e s)) (e s)

    first_in_same : (p q : List Move) → SamePast p q → (ss : List ℕ) → SameOption R (first_in says p ss) (first_in says q ss)
    first_in_same p q same [] = tt
    first_in_same p q same (s ∷ ss) = or_else_same _ _ _ _ (last_in_same p q same s) (first_in_same p q same ss)

-- ---- variables

same_option : {V : Type 0} (a b : Option V) → SameOption {X = V} {Y = V} (λ x y. x ≡ y) a b → a ≡ b
same_option None None same = refl
same_option None (Some y) same = absurd same
same_option (Some x) None same = absurd same
same_option (Some x) (Some y) same = ap Some same

abbrev Alike : List ℕ → List ℕ → Type 0
Alike value other = value ≡ other

variable_bind : (name bound value : List ℕ) → SameOption Alike (variable name (Bind bound value)) (variable name (Bind bound value))
variable_bind name bound value = by (bytes_eq bound name)
  where
    by : (t : Bool) → SameOption Alike (if t then Some value else None) (if t then Some value else None)
    by true = refl
    by false = tt

pub value_at_same : (p q : List Move) → SamePast p q → (name : List ℕ) → value_at p name ≡ value_at q name
value_at_same p q same name = same_option _ _ (last_said_same Alike (variable name) (variable_bind name) (λ declared rule other rules. tt) p q same zero)

pub value_at_end_same : (p q : List Move) → SamePast p q → (s : ℕ) (name : List ℕ) → value_at_end p s name ≡ value_at_end q s name
value_at_end_same p q same s name =
    same_option _ _ (first_in_same Alike (variable name) (variable_bind name) (λ declared rule other rules. tt) p q same (scopes_from p s))
    ∙ ap (first_in (variable name) q) (scopes_from_same p q same s)

-- ---- rules

named_rule : (name declared : List ℕ) (rule other : Rule) → SameRule rule other → SameOption SameRule (rule_named name (DeclareRule declared rule)) (rule_named name (DeclareRule declared other))
named_rule name declared rule other same = by (bytes_eq declared name)
  where
    by : (t : Bool) → SameOption SameRule (if t then Some rule else None) (if t then Some other else None)
    by true = same
    by false = tt

pub rule_at_same : (p q : List Move) → SamePast p q → (name : List ℕ) → SameOption SameRule (rule_at p name) (rule_at q name)
rule_at_same p q same name = last_said_same SameRule (rule_named name) (λ bound value. tt) (named_rule name) p q same zero

pub rule_in_same : (p q : List Move) → SamePast p q → (name : List ℕ) (s : ℕ) → SameOption SameRule (last_in (rule_named name) p s) (last_in (rule_named name) q s)
rule_in_same p q same name s = last_in_same SameRule (rule_named name) (λ bound value. tt) (named_rule name) p q same s

pub is_some_same : (a b : Option Rule) → SameOption SameRule a b → IsSome a → IsSome b
is_some_same None None same is = is
is_some_same None (Some y) same is = absurd same
is_some_same (Some x) None same is = absurd same
is_some_same (Some x) (Some y) same is = refl

pub is_some_same' : (a b : Option Rule) → SameOption SameRule a b → IsSome b → IsSome a
is_some_same' None None same is = is
is_some_same' None (Some y) same is = absurd same
is_some_same' (Some x) None same is = absurd same
is_some_same' (Some x) (Some y) same is = refl

-- ---- texts

pub value_here_same : (p q : List Move) → SamePast p q → (block : List Bound) → value_here block p ≡ value_here block q
value_here_same p q same block = fun_ext (λ name. ap (λ (o : Option (List ℕ)). unwrap_or (or_else (bound block name) o) []) (value_at_same p q same name))

pub text_at_same : (p q : List Move) → SamePast p q → (value : Fragments) → text_at p value ≡ text_at q value
text_at_same p q same value = ap (λ (f : List ℕ → List ℕ). text_of f value) (value_here_same p q same [])

pub build_block_same : (file : List ℕ) (p q : List Move) → SamePast p q → (lines : List BlockLine) (before : List Bound) → build_block file p lines before ≡ build_block file q lines before
build_block_same file p q same [] before = refl
build_block_same file p q same (line ∷ lines) before =
    ap (λ (t : List ℕ). if is_large t then stopped else build_block file p lines (record { name = line.name; value = t } ∷ before)) (text_at_same p q same line.value)
    ∙ ap (λ (rest : BuildBlock). if is_large (text_at q line.value) then stopped else rest)
    (build_block_same file p q same lines (record { name = line.name; value = text_at q line.value } ∷ before))
  where
    stopped : BuildBlock
    stopped = record { bound = before; fault = Some (fault_at (record { file = file; line = line.line }) (Line TooLarge)) }

-- ---- states

pub present_same : (s t : State) → SameState s t → present s ≡ present t
present_same s t same = ap (first_or 0) (open_scopes_same s.past t.past same.past)

pub named_same : (bs cs : List Build) → SameBuilds bs cs → named bs ≡ named cs
named_same [] [] same = refl
named_same [] (c ∷ cs) same = absurd same
named_same (b ∷ bs) [] same = absurd same
named_same (b ∷ bs) (c ∷ cs) same = let here = ap all_of same.0.paths in let rest = named_same bs cs same.1 in cc

pub length_same : (bs cs : List Build) → SameBuilds bs cs → length bs ≡ length cs
length_same [] [] same = refl
length_same [] (c ∷ cs) same = absurd same
length_same (b ∷ bs) [] same = absurd same
length_same (b ∷ bs) (c ∷ cs) same = ap suc (length_same bs cs same.1)

pub builds_push : (bs cs : List Build) (b c : Build) → SameBuilds bs cs → SameBuild b c → SameBuilds (bs ++ b ∷ []) (cs ++ c ∷ [])
builds_push [] [] b c same more = (more, tt)
builds_push [] (d ∷ cs) b c same more = absurd same
builds_push (d ∷ bs) [] b c same more = absurd same
builds_push (d ∷ bs) (e ∷ cs) b c same more = (same.0, builds_push bs cs b c same.1 more)
