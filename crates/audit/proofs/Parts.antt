-- A name, part by part.
use Rattle.std.proofs.Common.{◌≡◌, ℕ, zero, suc, ◌+◌, ◌-◌, ◌<◌, Bool, true, false, List, [], ◌∷◌, ◌++◌, length, get_or, slice_get, refl, sym, ap, ◌∙◌, Option, Some, None, Bor, arith}
use Rattle.std.proofs.lemmas.Bool.{eqb-true, false≢true}
use Rattle.std.specs.Prelude.{◌&&◌, not, nat_eq}
use Rattle.std.specs.List.{starts_with}
use Rattle.lexer.specs.Path.{texts}
use Rattle.audit.specs.declared.lead.Asks.{Asks}
use Rattle.audit.specs.declared.lead.Target.{Target}
use Rattle.audit.specs.declared.lead.Way.{Way}
use Rattle.audit.specs.Below.{is_below, is_slash}
use Rattle.audit.specs.Came.{Came}
use Rattle.audit.specs.Leading.{at_end, come_to, done, entered, goes_on, is_here, is_lost, is_up, joined, lead_in, lead_on, passed, so_far, step, steps, target_at, walked, way_after}
use Rattle.audit.specs.Stood.{Stood}

-- one part more
pub steps_more : (links : List ℕ → Option Target) (came : Came) (parts : List (List ℕ)) (part : List ℕ) → steps links came (parts ++ part ∷ []) ≡ step links (steps links came parts) part
steps_more links came [] part = refl
steps_more links came (p ∷ parts) part = steps_more links (step links came p) parts part

pub texts_more : (parts : List (Bor (List ℕ))) (part : Bor (List ℕ)) → texts (parts ++ part ∷ []) ≡ texts parts ++ part.now ∷ []
texts_more [] part = refl
texts_more (p ∷ parts) part = ap (λ (ps : List (List ℕ)). p.now ∷ ps) (texts_more parts part)

-- a part that names something, at which no link stands
pub passed_on : (links : List ℕ → Option Target) (came : Came) (part place : List ℕ) → is_here part ≡ false → is_up part ≡ false → place ≡ joined (done came.folders) part → links place ≡ None
    → entered came place ≡ passed links came part
passed_on links came part place here up at none =
    sym (rw (here, up) (ap (λ (p : List ℕ). come_to came p (links p)) (sym at) ∙ ap (λ (t : Option Target). come_to came place t) none))

-- ---- a path below a folder

both_left : (x y : Bool) → (x && y) ≡ true → x ≡ true
both_left true y e = refl
both_left false y e = absurd (false≢true e)

both_right : (x y : Bool) → (x && y) ≡ true → y ≡ true
both_right true y e = e
both_right false y e = absurd (false≢true e)

slash_there : (path : List ℕ) (n : ℕ) → is_slash (slice_get path n) ≡ true → (n < length path) × (get_or path n 0 ≡ 47)
slash_there [] zero is = absurd (false≢true is)
slash_there [] (suc n) is = absurd (false≢true is)
slash_there (b ∷ path) zero is = (omega arith, eqb-true b 47 is)
slash_there (b ∷ path) (suc n) is = let there = slash_there path n is in (omega (arith, there.0), there.1)

-- a slash stands behind the folder
pub slash_behind : (folder path : List ℕ) → is_below folder path ≡ true → (length folder < length path) × (get_or path (length folder) 0 ≡ 47)
unfolding is_below
slash_behind folder path is =
    slash_there path (length folder) (both_right (starts_with nat_eq path folder) (is_slash (slice_get path (length folder))) is)

-- ---- one link after another

one_less : (left : ℕ) → 0 < left → left ≡ suc (left - 1)
one_less left some = omega (arith, some)

on_walk : (left : ℕ) (own old : Stood) (asks : Asks) (met : Bool) (way : Way) (name : List ℕ) (walk : Came) → 0 < left → walk ≡ walked (target_at own old asks.sees) name
    → lead_in left own old asks met way name ≡ lead_on (lead_in (left - 1) own old asks) own asks (so_far met way) walk
on_walk left own old asks met way name walk some is =
    ap (λ (n : ℕ). lead_in n own old asks met way name) (one_less left some)
    ∙ ap (λ (w : Came). lead_on (lead_in (left - 1) own old asks) own asks (so_far met way) w) (sym is)

pub lead_lost : (left : ℕ) (own old : Stood) (asks : Asks) (met : Bool) (way : Way) (name : List ℕ) (walk : Came) → 0 < left → walk ≡ walked (target_at own old asks.sees) name
    → is_lost walk.phase ≡ true → lead_in left own old asks met way name ≡ None
lead_lost left own old asks met way name walk some is lost =
    on_walk left own old asks met way name walk some is ∙ rw lost refl

pub lead_ended : (left : ℕ) (own old : Stood) (asks : Asks) (met : Bool) (way : Way) (name : List ℕ) (walk : Came) → 0 < left → walk ≡ walked (target_at own old asks.sees) name
    → is_lost walk.phase ≡ false → goes_on walk asks.follows ≡ false
    → lead_in left own old asks met way name ≡ Some (at_end own asks.writes (so_far met way) (done walk.folders))
lead_ended left own old asks met way name walk some is lost goes = on_walk left own old asks met way name walk some is ∙ rw (lost, goes) refl

pub lead_next : (left : ℕ) (own old : Stood) (asks : Asks) (met : Bool) (way : Way) (name : List ℕ) (walk : Came) → 0 < left → walk ≡ walked (target_at own old asks.sees) name
    → is_lost walk.phase ≡ false → goes_on walk asks.follows ≡ true
    → lead_in left own old asks met way name ≡ lead_in (left - 1) own old asks true (way_after way walk.own walk.last) walk.next
lead_next left own old asks met way name walk some is lost goes = on_walk left own old asks met way name walk some is ∙ rw (lost, goes) refl

pub ends : (b : Bool) → not b ≡ true → b ≡ false
ends true is = absurd (false≢true is)
ends false is = refl

pub goes : (b : Bool) → not b ≡ false → b ≡ true
goes true is = refl
goes false is = absurd (false≢true (sym is))
