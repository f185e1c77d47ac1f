-- What calls leave one after another.
use Rattle.std.proofs.Common.{◌≡◌, ℕ, ◌<◌, Bool, true, List, Option, Some, None, length, slice_set, refl, ◌∙◌, ap}
use Rattle.std.proofs.lemmas.List.{get_or-set_same}
use Rattle.model.specs.World.{World}
use Rattle.theory.proofs.SiteCalls.{looks_none, looks_then}
use Rattle.graph.specs.declared.graph.Graph.{Graph}
use Rattle.judge.specs.declared.looks.Looks.{Looks}
use Rattle.judge.specs.declared.sums.Sums.{Sums}
use Rattle.judge.specs.Looking.{HasLooked}
use Rattle.judge.specs.declared.looks.Look.{Look}
use Rattle.judge.specs.declared.looks.Look.TheVariants.{Unasked}
use Rattle.judge.specs.Seen.{look_at, look_of, is_asked}
use Rattle.judge.proofs.Kept.{kept_before, kept_after}

pub looked_then : (tells : Bool) (graph : Graph) (a b c : World) (first_looks second_looks third_looks : Looks) → HasLooked tells graph a b first_looks second_looks
    → HasLooked tells graph b c second_looks third_looks → HasLooked tells graph a c first_looks third_looks
looked_then tells graph a b c first_looks second_looks third_looks first second = record {
  looks = looks_then tells a b c first.looks second.looks;
  fits = second.fits ∙ first.fits;
  seen = λ told set kept seen.
      let one = first.looks.history told in
      let two = second.looks.history told in
      second.seen told set (kept_after set a.history b.history c.history one.more two.more one.grows two.grows kept)
      (first.seen told set (kept_before set a.history b.history c.history one.more two.more one.grows two.grows kept) seen);
  stays = λ p asked.
      let same = first.stays p asked in
      second.stays p (ap is_asked same ∙ asked) ∙ same;
}

pub looked_none : (tells : Bool) (graph : Graph) (w : World) (looks : Looks) → HasLooked tells graph w w looks looks
looked_none tells graph w looks = record { looks = looks_none tells w; fits = refl; seen = λ told set kept seen. seen; stays = λ p asked. refl }

-- what stands for a stamp was asked for
pub asked_look : (stamp : Option ℕ) → is_asked (look_of stamp) ≡ true
asked_look None = refl
asked_look (Some stamp) = refl

-- a path of which the stamp was noted was asked for
pub asked_now : (seen new : List Look) (p : ℕ) (stamp : Option ℕ) → p < length seen → new ≡ slice_set seen p (look_of stamp) → is_asked (look_at new p) ≡ true
asked_now seen new p stamp lt is = ap (λ (l : List Look). is_asked (look_at l p)) is ∙ (ap is_asked (get_or-set_same seen p (look_of stamp) Unasked lt) ∙ asked_look stamp)

-- the same looks, with other sums
abbrev pub with_sums : Looks → Sums → Looks
with_sums looks sums = record { seen = looks.seen; sums = sums }

-- sums are nothing that was seen
pub looked_cleared : (tells : Bool) (graph : Graph) (w : World) (looks : Looks) (sums : Sums) → HasLooked tells graph w w looks (with_sums looks sums)
looked_cleared tells graph w looks sums = record { looks = looks_none tells w; fits = refl; seen = λ told set kept seen. seen; stays = λ p asked. refl }
