-- What the command gives, and what it tells.
use Rattle.std.proofs.Common.{◌≡◌, inl, inr, ℕ, zero, suc, ◌<◌, if◌then◌else◌, Bool, true, false, List, [], ◌∷◌, ◌++◌, Option, Some, Result, Ok, refl, ◌∙◌, ap, arith}
use Rattle.std.proofs.lemmas.Bool.{false≢true, cases_Bool, ltb-true}
use Rattle.std.proofs.Math.Dec.{ltb}
use Rattle.std.specs.Prelude.{codes}
use Rattle.std.specs.Str.{IsUtf8, IsAscii}
use Rattle.std.proofs.lemmas.Str.{is_utf8-from_IsUtf8, IsUtf8-from_ascii}
use Rattle.model.specs.declared.outcome.Outcome.{Outcome}
use Rattle.model.specs.World.{View}
use Rattle.lexer.specs.Path.{IsCanonical, Step, parent}
use Rattle.lexer.specs.Path.Rewrites.{done as no_step}
use Rattle.depfile.specs.Depfile.{IsRead, IsReading, accepted}
use Rattle.depfile.specs.declared.fault.DepFault.{DepFault}
use Rattle.depfile.specs.Signs.Sign.{letter}
use Rattle.sim.specs.Toy.{toy_outcome, named, named_in, gathered_from, contents, joined}
use Rattle.sim.specs.Toy as toy
use Rattle.witness.specs.Scanning.{scan, naming, telling}

-- ---- texts

-- each byte is ASCII
abbrev pub low : List ℕ → Bool
low [] = true
low (b ∷ bs) = if ltb b 128 then low bs else false

low_at : (bs : List ℕ) → low bs ≡ true → IsAscii bs
low_at [] is i = omega arith
low_at (b ∷ bs) is i = elim (cases_Bool (ltb b 128)) [
  | inl here ↦ low_of b bs (ltb-true b 128 here) (low_at bs (rw here at is)) i
  | inr other ↦ absurd (false≢true (rw other at is))
]
  where
    low_of : (b : ℕ) (bs : List ℕ) → b < 128 → IsAscii bs → IsAscii (b ∷ bs)
    low_of b bs here rest zero = here
    low_of b bs here rest (suc i) = rest i

pub text_of : (bs : List ℕ) → low bs ≡ true → IsUtf8 bs
text_of bs is = IsUtf8-from_ascii bs (low_at bs is)

-- a name that the second command finds in its input
pub record IsName (name : List ℕ) : Type 0 where
  pub text : low (naming name) ≡ true
  pub line : toy.named (naming name) ≡ name ∷ []

pub h_is_name : IsName (codes "h")
h_is_name = record { text = refl; line = refl }

pub k_is_name : IsName (codes "k")
k_is_name = record { text = refl; line = refl }

names_it : (name : List ℕ) → IsName name → named_in (Some (naming name)) ≡ Some (name ∷ [])
names_it name is = rw (is_utf8-from_IsUtf8 (naming name) (text_of (naming name) is.text)) (ap Some is.line)

-- ---- what the commands give

-- what the first one gives, by what `g` holds
abbrev pub copying_of : Option (List ℕ) → Outcome
copying_of held = toy.gathered false (codes "h") (joined held (Some []))

-- where `a` names a file: what that holds, and that it was read; nothing where there is none
abbrev pub giving : List ℕ → Option (List ℕ) → Outcome
giving name held = toy.told (codes "b") (codes "b.d") (name ∷ []) (joined held (Some []))

pub outcome_is : (name : List ℕ) → IsName name → (view : View) → view (codes "a") ≡ Some (naming name) → toy_outcome scan view ≡ giving name (view name)
outcome_is name is_name view is =
    ap (λ (held : Option (List ℕ)). gathered_from (codes "b") (codes "b.d") (named_in held) view) is
    ∙ ap (λ (paths : Option (List (List ℕ))). gathered_from (codes "b") (codes "b.d") paths view) (names_it name is_name)

-- ---- what depfiles say

no_plain_step : (name : List ℕ) (next : List (List ℕ)) → Step false (name ∷ []) next → ⊥
no_plain_step name next (inl folds) = no_pair folds.front folds.part folds.back folds.before
  where
    no_pair : (front : List (List ℕ)) (part : List ℕ) (back : List (List ℕ)) → name ∷ [] ≡ front ++ part ∷ parent ∷ back → ⊥
    no_pair [] part back is = cc
    no_pair (x ∷ []) part back is = cc
    no_pair (x ∷ y ∷ front) part back is = cc
no_plain_step name next (inr climbs) = false≢true climbs.root

h_is_canonical : IsCanonical (codes "h") (codes "h")
h_is_canonical = record { parts = codes "h" ∷ []; rewritten = no_step; final = no_plain_step (codes "h"); text_is = refl }

k_is_canonical : IsCanonical (codes "k") (codes "k")
k_is_canonical = record { parts = codes "k" ∷ []; rewritten = no_step; final = no_plain_step (codes "k"); text_is = refl }

h_is_read : IsRead (telling (codes "h")) (Ok (codes "h" ∷ []))
h_is_read = (text_of (telling (codes "h")) refl, (letter 104 ∷ []) ∷ [], refl, record { all = codes "h" ∷ []; canonical = (h_is_canonical, tt); once = refl })

k_is_read : IsRead (telling (codes "k")) (Ok (codes "k" ∷ []))
k_is_read = (text_of (telling (codes "k")) refl, (letter 107 ∷ []) ∷ [], refl, record { all = codes "k" ∷ []; canonical = (k_is_canonical, tt); once = refl })

-- a reading that reads of both names that they were told
pub record ReadsNames (reading : List ℕ → Option (List (List ℕ))) : Type 0 where
  pub h : reading (telling (codes "h")) ≡ Some (codes "h" ∷ [])
  pub k : reading (telling (codes "k")) ≡ Some (codes "k" ∷ [])

-- a reading by the grammar is one
pub reads_names : ((bytes : List ℕ) (a b : Result (List (List ℕ)) DepFault) → IsRead bytes a → IsRead bytes b → a ≡ b) → (depfile : List ℕ → Option (List (List ℕ))) → IsReading depfile → ReadsNames depfile
reads_names one depfile reading = record {
  h = (reading (telling (codes "h"))).2 ∙ ap accepted (one (telling (codes "h")) (reading (telling (codes "h"))).0 (Ok (codes "h" ∷ [])) (reading (telling (codes "h"))).1 h_is_read);
  k = (reading (telling (codes "k"))).2 ∙ ap accepted (one (telling (codes "k")) (reading (telling (codes "k"))).0 (Ok (codes "k" ∷ [])) (reading (telling (codes "k"))).1 k_is_read);
}
