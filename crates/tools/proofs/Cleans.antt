-- What is cleaned, edge by edge and whole.
use Rattle.std.proofs.Common.{◌≡◌, ◌≢◌, ◌⊎◌, ◌↔◌, inl, inr, ℕ, zero, suc, ◌<◌, ◌≤◌, ◌==◌, ◌||◌, Bool, true, false, List, [], ◌∷◌, Option, Some, None, is_some, length, map, get_or, slice_get, refl, sym, ap, ◌∙◌, subst, arith, bytes_eq}
use Rattle.std.specs.Map.Iter.{deref}
use denote.Ref.{Bor}
use Rattle.std.proofs.lemmas.Bool.{cases_lt, eqb-true, eq-eqb, false≢true, or_cases, or_left, or_right}
use Rattle.std.proofs.lemmas.List.{get_or_past}
use Rattle.std.proofs.lemmas.Option.{none-some, same_Some}
use Rattle.std.proofs.lemmas.Slice.Eq.{bytes_eq-Decides}
use Rattle.model.specs.Graph.{has, has_number}
use Rattle.paths.specs.Commands.{no_action}
use Rattle.paths.specs.Lists.{line_at, line_outputs, no_line}
use Rattle.paths.specs.Numbers.{IsAdded}
use Rattle.paths.specs.Told.{text_at, texts_at}
use Rattle.paths.specs.declared.line.Line.{Line}
use Rattle.paths.specs.declared.manifest.Action.{Action}
use Rattle.paths.specs.declared.manifest.Action.TheVariants.{Alias, Command}
use Rattle.paths.specs.declared.manifest.Command.{Command as EdgeCommand}
use Rattle.graph.specs.Held.{AreMakers}
use Rattle.graph.specs.Links.{links_of}
use Rattle.tools.specs.Above.{IsNamedAbove, AreNamedMade}
use Rattle.tools.specs.Clean.{AddsJust, AreCleaned, IsAnyRule, IsAsked, IsCleanedOutput, IsCleanedRule, IsCleanedTarget, IsFileOf, IsFree, IsOtherAt, IsOwnFileOf, LacksJust, MayClean, MayCleanPath}
use Rattle.tools.specs.Files.{command_at, files_of, own_files, rule_of}
use Rattle.tools.specs.declared.cleaning.Cleaning.{Cleaning}
use Rattle.tools.specs.declared.cleaning.Cleaning.TheVariants.{All, Targets, Rules}
use Rattle.tools.specs.declared.declared.Declared.{Declared}
use Rattle.tools.proofs.Adding.{IsListed, IsSame, IsText, IsTextOf, Or, adds_as, adds_none, adds_path, adds_then}
use Rattle.tools.proofs.Removed.{has_at}

-- ---- the files of a command

pub files_are : (action : Action) (command : EdgeCommand) → command_at action ≡ Some command → files_of action ≡ command.act.depfile ∷ command.act.response_path ∷ []
files_are Alias command is = absurd (none-some command is)
files_are (Command own) command is = let same : own ≡ command = same_Some own command is in ap (λ (c : EdgeCommand). c.act.depfile ∷ c.act.response_path ∷ []) same

pub no_files : (action : Action) → command_at action ≡ None → files_of action ≡ []
no_files Alias is = refl
no_files (Command own) is = absurd (none-some own (sym is))

same_text : (a b : List ℕ) → bytes_eq a b ≡ true → a ≡ b
same_text a b h = (bytes_eq-Decides a b).0 h

text_same : (a : List ℕ) → bytes_eq a a ≡ true
text_same a = (bytes_eq-Decides a a).1 refl

has_one : (t a : List ℕ) → has (a ∷ []) t ≡ true → t ≡ a
has_one t a h = elim (or_cases (bytes_eq a t) false h) [
  | inl same ↦ sym (same_text a t same)
  | inr not ↦ absurd (false≢true not)
]

-- both files of a command are added
pub own_adds : (declared : Declared) (e : ℕ) (command : EdgeCommand) (old mid new : List (List ℕ)) → command_at (get_or declared.graph.manifest.actions e no_action) ≡ Some command
    → AddsJust old mid (λ t. (t ≢ []) × (t ≡ command.act.depfile)) → AddsJust mid new (λ t. (t ≢ []) × (t ≡ command.act.response_path)) → AddsJust old new (IsOwnFileOf declared e)
own_adds declared e command old mid new is first second =
    adds_as old new (Or (IsText command.act.depfile) (IsText command.act.response_path)) (IsOwnFileOf declared e)
    (λ t either. elim either [
      | inl p ↦ (p.0, subst (λ (l : List (List ℕ)). has l t ≡ true) (sym files) (or_left (bytes_eq command.act.depfile t) (has (command.act.response_path ∷ []) t) (subst (λ (q : List ℕ). bytes_eq q t ≡ true) p.1 (text_same t))))
      | inr p ↦ (p.0, subst (λ (l : List (List ℕ)). has l t ≡ true) (sym files) (or_right (bytes_eq command.act.depfile t) (has (command.act.response_path ∷ []) t) (or_left (bytes_eq command.act.response_path t) false (subst (λ (q : List ℕ). bytes_eq q t ≡ true) p.1 (text_same t)))))
    ])
    (λ t own. elim (or_cases (bytes_eq command.act.depfile t) (has (command.act.response_path ∷ []) t) (subst (λ (l : List (List ℕ)). has l t ≡ true) files own.1)) [
      | inl dep ↦ inl (own.0, sym (same_text command.act.depfile t dep))
      | inr response ↦ inr (own.0, has_one t command.act.response_path response)
    ])
    (adds_then old mid new (IsText command.act.depfile) (IsText command.act.response_path) first second)
  where
    files : own_files declared e ≡ command.act.depfile ∷ command.act.response_path ∷ []
    files = files_are (get_or declared.graph.manifest.actions e no_action) command is

pub own_none : (declared : Declared) (e : ℕ) (old : List (List ℕ)) → command_at (get_or declared.graph.manifest.actions e no_action) ≡ None → AddsJust old old (IsOwnFileOf declared e)
own_none declared e old is =
    adds_none old (IsOwnFileOf declared e) (λ t own. false≢true (subst (λ (l : List (List ℕ)). has l t ≡ true) (no_files (get_or declared.graph.manifest.actions e no_action) is) own.1))

-- ---- an edge

pub edge_adds : (declared : Declared) (generated : Bool) (e : ℕ) (old mid new : List (List ℕ)) → IsFree declared generated e → (links_of declared.graph).outputs e ≢ []
    → AddsJust old mid (λ t. (t ≢ []) × (has (texts_at declared.graph.manifest.paths ((links_of declared.graph).outputs e)) t ≡ true)) → AddsJust mid new (IsOwnFileOf declared e) → AddsJust old new (MayClean declared generated e)
edge_adds declared generated e old mid new free makes first second =
    adds_as old new (Or (IsTextOf (texts_at declared.graph.manifest.paths ((links_of declared.graph).outputs e))) (IsOwnFileOf declared e)) (MayClean declared generated e)
    (λ t either. elim either [
      | inl p ↦ record { free = free; file = record { makes = makes; some = p.0; file = inl p.1 } }
      | inr q ↦ record { free = free; file = record { makes = makes; some = q.0; file = inr q.1 } }
    ])
    (λ t may. elim may.file.file [
      | inl made ↦ inl (may.file.some, made)
      | inr own ↦ inr (may.file.some, own)
    ])
    (adds_then old mid new (IsTextOf (texts_at declared.graph.manifest.paths ((links_of declared.graph).outputs e))) (IsOwnFileOf declared e) first second)

pub edge_none : (declared : Declared) (generated : Bool) (e : ℕ) (old : List (List ℕ)) → (links_of declared.graph).outputs e ≡ [] → AddsJust old old (MayClean declared generated e)
edge_none declared generated e old none = adds_none old (MayClean declared generated e) (λ t may. may.file.makes none)

pub edge_kept : (declared : Declared) (generated : Bool) (e : ℕ) (old : List (List ℕ)) → (IsFree declared generated e → ⊥) → AddsJust old old (MayClean declared generated e)
edge_kept declared generated e old not = adds_none old (MayClean declared generated e) (λ t may. not may.free)

-- ---- a path

pub path_none : (declared : Declared) (generated : Bool) (p : ℕ) (old : List (List ℕ)) → (links_of declared.graph).maker p ≡ None → AddsJust old old (MayCleanPath declared generated p)
path_none declared generated p old none = adds_none old (MayCleanPath declared generated p) (λ t may. clash may.edge (sym none ∙ may.made))
  where
    clash : (e : ℕ) → None ≡ Some e → ⊥
    clash e is = cc

same_edge : (a b : ℕ) → Some a ≡ Some b → a ≡ b
same_edge a b is = cc

pub path_kept : (declared : Declared) (generated : Bool) (p e : ℕ) (old : List (List ℕ)) → (links_of declared.graph).maker p ≡ Some e → (IsFree declared generated e → ⊥) → AddsJust old old (MayCleanPath declared generated p)
path_kept declared generated p e old made not =
    adds_none old (MayCleanPath declared generated p) (λ t may. not (subst (λ (n : ℕ). IsFree declared generated n) (same_edge may.edge e (sym may.made ∙ made)) may.free))

pub path_adds : (declared : Declared) (generated : Bool) (p e : ℕ) (old mid new : List (List ℕ)) → (links_of declared.graph).maker p ≡ Some e → IsFree declared generated e
    → AddsJust old mid (λ t. (t ≢ []) × (t ≡ text_at declared.graph.manifest.paths p)) → AddsJust mid new (IsOwnFileOf declared e) → AddsJust old new (MayCleanPath declared generated p)
path_adds declared generated p e old mid new made free first second =
    adds_as old new (Or (IsText (text_at declared.graph.manifest.paths p)) (IsOwnFileOf declared e)) (MayCleanPath declared generated p)
    (λ t either. elim either [
      | inl one ↦ record { edge = e; made = made; free = free; some = one.0; file = inl one.1 }
      | inr own ↦ record { edge = e; made = made; free = free; some = own.0; file = inr own.1 }
    ])
    (λ t may. elim may.file [
      | inl one ↦ inl (may.some, one)
      | inr own ↦ inr (may.some, subst (λ (n : ℕ). has (own_files declared n) t ≡ true) (same_edge may.edge e (sym may.made ∙ made)) own)
    ])
    (adds_then old mid new (IsText (text_at declared.graph.manifest.paths p)) (IsOwnFileOf declared e) first second)

-- ---- whole

-- a text among those of numbers
has_text : (paths : List (List ℕ)) (numbers : List ℕ) (t : List ℕ) → has (texts_at paths numbers) t ≡ true → (p : ℕ) × (has_number numbers p ≡ true) × (t ≡ text_at paths p)
has_text paths [] t h = absurd (false≢true h)
has_text paths (n ∷ numbers) t h = elim (or_cases (bytes_eq (text_at paths n) t) (has (texts_at paths numbers) t) h) [
  | inl here ↦ (n, or_left (n == n) (has_number numbers n) (eq-eqb n n refl), sym (same_text (text_at paths n) t here))
  | inr later ↦ let rest = has_text paths numbers t later in (rest.0, or_right (n == rest.0) (has_number numbers rest.0) rest.1, rest.2)
]

text_has : (paths : List (List ℕ)) (numbers : List ℕ) (p : ℕ) → has_number numbers p ≡ true → has (texts_at paths numbers) (text_at paths p) ≡ true
text_has paths [] p h = absurd (false≢true h)
text_has paths (n ∷ numbers) p h = elim (or_cases (n == p) (has_number numbers p) h) [
  | inl here ↦ or_left (bytes_eq (text_at paths n) (text_at paths p)) (has (texts_at paths numbers) (text_at paths p)) (subst (λ (m : ℕ). bytes_eq (text_at paths n) (text_at paths m) ≡ true) (eqb-true n p here) (text_same (text_at paths n)))
  | inr later ↦ or_right (bytes_eq (text_at paths n) (text_at paths p)) (has (texts_at paths numbers) (text_at paths p)) (text_has paths numbers p later)
]

first_of : (numbers : List ℕ) → numbers ≢ [] → (p : ℕ) × (has_number numbers p ≡ true)
first_of [] some = absurd (some refl)
first_of (n ∷ numbers) some = (n, or_left (n == n) (has_number numbers n) (eq-eqb n n refl))

not_none : (numbers : List ℕ) (p : ℕ) → has_number numbers p ≡ true → numbers ≢ []
not_none numbers p h none = false≢true (subst (λ (l : List ℕ). has_number l p ≡ true) none h)

makes_within : (lines : List Line) (e p : ℕ) → has_number (line_outputs (line_at lines e)) p ≡ true → e < length lines
makes_within lines e p h = elim (cases_lt e (length lines)) [
  | inl low ↦ low
  | inr past ↦ absurd (false≢true (sym (ap (λ (line : Line). has_number (line_outputs line) p) (get_or_past lines e no_line past)) ∙ h))
]

module _ (declared : Declared) (making : AreMakers declared.graph.manifest declared.graph.makers) (cleaning : Cleaning) (generated : Bool) where
  -- a path of an edge that may be cleaned, of which each path is asked for
  pub cleaned_of : (e : ℕ) (t : List ℕ) → MayClean declared generated e t → ((p : ℕ) → (links_of declared.graph).maker p ≡ Some e → IsAsked declared cleaning e p) → IsCleanedOutput declared cleaning generated t
  cleaned_of e t may asked = elim may.file.file [
    | inl made ↦
        let at = has_text declared.graph.manifest.paths ((links_of declared.graph).outputs e) t made in
        let maker = making.all at.0 e at.1 in
        record { path = at.0; edge = e; made = maker; command = may.free.command; asked = asked at.0 maker; free = may.free.free; some = may.file.some; file = inl at.2 }
    | inr own ↦
        let first = first_of ((links_of declared.graph).outputs e) may.file.makes in
        let maker = making.all first.0 e first.1 in
        record { path = first.0; edge = e; made = maker; command = may.free.command; asked = asked first.0 maker; free = may.free.free; some = may.file.some; file = inr own }
  ]

  pub of_cleaned : (t : List ℕ) (cleaned : IsCleanedOutput declared cleaning generated t) → (cleaned.edge < length declared.graph.manifest.lines) × MayClean declared generated cleaned.edge t
  of_cleaned t cleaned =
      let makes = making.made cleaned.path cleaned.edge cleaned.made in (
        makes_within declared.graph.manifest.lines cleaned.edge cleaned.path makes,
        record {
          free = record { command = cleaned.command; free = cleaned.free };
          file = record {
            makes = not_none ((links_of declared.graph).outputs cleaned.edge) cleaned.path makes;
            some = cleaned.some;
            file = elim cleaned.file [
              | inl is ↦ inl (subst (λ (q : List ℕ). has (texts_at declared.graph.manifest.paths ((links_of declared.graph).outputs cleaned.edge)) q ≡ true) (sym is) (text_has declared.graph.manifest.paths ((links_of declared.graph).outputs cleaned.edge) cleaned.path makes))
              | inr own ↦ inr own
            ];
          };
        },
      )

module _ (declared : Declared) (making : AreMakers declared.graph.manifest declared.graph.makers) (generated : Bool) (old new : List (List ℕ)) where
  pub all_adds : AddsJust old new (IsAnyRule declared generated) → AddsJust old new (IsCleanedOutput declared All generated)
  all_adds adds =
      adds_as old new (IsAnyRule declared generated) (IsCleanedOutput declared All generated) (λ t any. cleaned_of declared making All generated any.0 t any.2 (λ p maker. tt)) (λ t cleaned. let may = of_cleaned declared making All generated t cleaned in (cleaned.edge, may.0, may.1)) adds

  pub rules_adds : (rules : List (Bor (List ℕ))) (which : Bor (List (Bor (List ℕ)))) → which.now ≡ rules → AddsJust old new (IsCleanedRule declared (map deref rules) generated) → AddsJust old new (IsCleanedOutput declared (Rules which) generated)
  rules_adds rules which same adds =
      adds_as old new (IsCleanedRule declared (map deref rules) generated) (IsCleanedOutput declared (Rules which) generated)
      (λ t any. cleaned_of declared making (Rules which) generated any.0 t any.2.1 (λ p maker. subst (λ (l : List (Bor (List ℕ))). has (map deref l) (rule_of declared any.0) ≡ true) (sym same) any.2.0))
      (λ t cleaned. let may = of_cleaned declared making (Rules which) generated t cleaned in (cleaned.edge, may.0, (subst (λ (l : List (Bor (List ℕ))). has (map deref l) (rule_of declared cleaned.edge) ≡ true) same cleaned.asked, may.1))) adds

  pub targets_adds : (targets : List ℕ) (which : Bor (List ℕ)) → which.now ≡ targets → AddsJust old new (IsCleanedTarget declared targets generated) → AddsJust old new (IsCleanedOutput declared (Targets which) generated)
  targets_adds targets which same adds =
      adds_as old new (IsCleanedTarget declared targets generated) (IsCleanedOutput declared (Targets which) generated)
      (λ t any. record {
        path = any.0;
        edge = any.2.edge;
        made = any.2.made;
        command = any.2.free.command;
        asked = subst (λ (l : List ℕ). IsNamedAbove declared.graph l any.0) (sym same) any.1;
        free = any.2.free.free;
        some = any.2.some;
        file = any.2.file;
      })
      (λ t cleaned. (
        cleaned.path,
        subst (λ (l : List ℕ). IsNamedAbove declared.graph l cleaned.path) same cleaned.asked,
        record { edge = cleaned.edge; made = cleaned.made; free = record { command = cleaned.command; free = cleaned.free }; some = cleaned.some; file = cleaned.file },
      )) adds

-- the file that was read is none of them
pub cleaned_all : (mid new : List (List ℕ)) (file : List ℕ) (P : List ℕ → Type 0) → AddsJust [] mid P → LacksJust mid new file → (t : List ℕ) → has new t ≡ true ↔ ((t ≢ file) × P t)
cleaned_all mid new file P adds lacks t = (
  λ h. let both = (lacks t).0 h in (
    both.0,
    elim ((adds t).0 both.1) [
      | inl none ↦ absurd (false≢true none)
      | inr p ↦ p
    ],
  ),
  λ h. (lacks t).1 (h.0, (adds t).1 (inr h.1)),
)

-- where it was none of them, nothing is left out
pub lacks_same : (paths : List (List ℕ)) (file : List ℕ) → has paths file ≡ false → LacksJust paths paths file
lacks_same paths file none t = (λ h. (λ same. false≢true (sym none ∙ subst (λ (q : List ℕ). has paths q ≡ true) same h), h), λ h. h.1)

-- the outputs above the targets, one by one, are all of them
pub named_adds : (declared : Declared) (targets outputs : List ℕ) (generated : Bool) (old new : List (List ℕ)) → AreNamedMade declared.graph targets outputs
    → AddsJust old new (λ t. (p : ℕ) × (has_number outputs p ≡ true) × MayCleanPath declared generated p t) → AddsJust old new (IsCleanedTarget declared targets generated)
named_adds declared targets outputs generated old new named adds =
    adds_as old new (IsListed (MayCleanPath declared generated) outputs) (IsCleanedTarget declared targets generated) (λ t all. (all.0, ((named all.0).0 all.1).0, all.2))
    (λ t all. (all.0, (named all.0).1 (all.1, ap is_some all.2.made), all.2)) adds

-- ---- the others

-- one of the first so many texts, unless it is this one
abbrev pub IsOtherBelow : List (List ℕ) → List ℕ → ℕ → List ℕ → Type 0
IsOtherBelow paths file n t = (k : ℕ) × (k < n) × IsOtherAt paths file k t

pub others_none : (paths new : List (List ℕ)) (file : List ℕ) → new ≡ [] → AddsJust [] new (IsOtherBelow paths file 0)
others_none paths new file none = subst (λ (l : List (List ℕ)). AddsJust [] l (IsOtherBelow paths file 0)) (sym none) (adds_none [] (IsOtherBelow paths file 0) (λ t below. absurd (omega (arith, below.1))))

text_place : (paths : List (List ℕ)) (t : List ℕ) → has paths t ≡ true → (k : ℕ) × (k < length paths) × (slice_get paths k ≡ Some t)
text_place [] t h = absurd (false≢true h)
text_place (path ∷ paths) t h = elim (or_cases (bytes_eq path t) (has paths t) h) [
  | inl here ↦ (zero, omega arith, ap (λ (l : List ℕ). Some l) (same_text path t here))
  | inr later ↦ let rest = text_place paths t later in (suc rest.0, omega (arith, rest.1), rest.2)
]

pub lacks_all : (paths new : List (List ℕ)) (file : List ℕ) (n : ℕ) → n ≡ length paths → AddsJust [] new (IsOtherBelow paths file n) → LacksJust paths new file
lacks_all paths new file n count adds t = (
  λ h. elim ((adds t).0 h) [
    | inl none ↦ absurd (false≢true none)
    | inr there ↦ (there.2.1, has_at paths there.0 t there.2.0)
  ],
  λ both. let at = text_place paths t both.1 in (adds t).1 (inr (at.0, omega (arith, at.1, count), (at.2, both.0))),
)

pub other_past : (paths : List (List ℕ)) (file : List ℕ) (k : ℕ) (old : List (List ℕ)) → None ≡ slice_get paths k → AddsJust old old (IsOtherAt paths file k)
other_past paths file k old past = adds_none old (IsOtherAt paths file k) (λ t other. none-some t (past ∙ other.0))

pub other_same : (paths : List (List ℕ)) (file path : List ℕ) (k : ℕ) (old : List (List ℕ)) → Some path ≡ slice_get paths k → bytes_eq path file ≡ true → AddsJust old old (IsOtherAt paths file k)
other_same paths file path k old at same = adds_none old (IsOtherAt paths file k) (λ t other. other.1 (sym (same_Some path t (at ∙ other.0)) ∙ same_text path file same))

pub other_adds : (paths : List (List ℕ)) (file path : List ℕ) (k n : ℕ) (old new : List (List ℕ)) → Some path ≡ slice_get paths k → bytes_eq path file ≡ false → IsAdded old new path n → AddsJust old new (IsOtherAt paths file k)
other_adds paths file path k n old new at other added =
    adds_as old new (IsSame path) (IsOtherAt paths file k)
    (λ t is. (sym at ∙ ap (λ (l : List ℕ). Some l) (sym is), λ same. false≢true (sym other ∙ (bytes_eq-Decides path file).1 (sym is ∙ same))))
    (λ t both. sym (same_Some path t (at ∙ both.0))) (adds_path old new path n added)
