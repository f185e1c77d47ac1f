-- Circles that variables lead into.
use Rattle.std.proofs.Common.{◌≡◌, inl, inr, ℕ, Bool, true, List, Option, Result, Ok, Err, OnOk, sym, subst}
use Rattle.std.specs.Prelude.{codes, bytes_eq, ◌||◌}
use Rattle.scopes.specs.declared.template.Template.{Template}
use Rattle.scopes.specs.Use.{HasCircle}
use Rattle.text.proofs.Plain.{same_bytes, or_false}
use Rattle.manifest.specs.Uses.{is_expanded, LeadsIntoCircle}

abbrev pub HasNoCircle : (List ℕ → Option Template) → List ℕ → Type 0
HasNoCircle opens name = HasCircle opens name → ⊥

-- what holds of each variable that is expanded
pub each_variable : (P : List ℕ → Type 0) → P (codes "command") → P (codes "depfile") → P (codes "deps") → P (codes "dyndep")
    → P (codes "description") → P (codes "pool") → P (codes "restat") → P (codes "rspfile") → P (codes "rspfile_content")
    → (name : List ℕ) → is_expanded name ≡ true → P name
each_variable P p1 p2 p3 p4 p5 p6 p7 p8 p9 name is = (either (codes "command") p1 _
    (either (codes "depfile") p2 _
    (either (codes "deps") p3 _
    (either (codes "dyndep") p4 _
    (either (codes "description") p5 _
    (either (codes "pool") p6 _
    (either (codes "restat") p7 _
    (either (codes "rspfile") p8 _
    (last (codes "rspfile_content") p9))))))))) is
  where
    last : (text : List ℕ) → P text → bytes_eq name text ≡ true → P name
    last text p h = subst P (sym (same_bytes name text h)) p

    either : (text : List ℕ) → P text → (b : Bool) → (b ≡ true → P name) → (bytes_eq name text || b) ≡ true → P name
    either text p b rest h = elim (or_false (bytes_eq name text) b h) [
      | inl here ↦ subst P (sym (same_bytes name text here)) p
      | inr there ↦ rest there
    ]

pub no_circles : (opens : List ℕ → Option Template) → HasNoCircle opens (codes "command") → HasNoCircle opens (codes "depfile") → HasNoCircle opens (codes "deps")
    → HasNoCircle opens (codes "dyndep") → HasNoCircle opens (codes "description") → HasNoCircle opens (codes "pool") → HasNoCircle opens (codes "restat")
    → HasNoCircle opens (codes "rspfile") → HasNoCircle opens (codes "rspfile_content") → LeadsIntoCircle opens → ⊥
no_circles opens p1 p2 p3 p4 p5 p6 p7 p8 p9 into = each_variable (HasNoCircle opens) p1 p2 p3 p4 p5 p6 p7 p8 p9 into.name into.expanded into.circle

pub ok_map : {T E : Type 0} {A B : Type 0} (r : Result T E) → (A → B) → OnOk r A → OnOk r B
ok_map (Ok value) f a = f a
ok_map (Err error) f a = tt
