-- Room for paths that a graph got.
use Rattle.std.proofs.Common.{◌≡◌, inl, inr, ℕ, ◌<◌, ◌-◌, true, List, [], ◌++◌, length, sym, refl, ◌∙◌, ap, arith}
use Rattle.std.proofs.Math.ListN.{replicate}
use Rattle.std.proofs.lemmas.Bool.{false≢true, cases_lt}
use Rattle.std.proofs.lemmas.List.{get_or_past, get_or_append_left, get_or-append_right, get_or-replicate, length-replicate}
use Rattle.model.specs.World.{file_at, stamp_of}
use Rattle.paths.specs.Told.{text_at}
use Rattle.judge.specs.declared.looks.Look.{Look}
use Rattle.judge.specs.declared.looks.Look.TheVariants.{Unasked}
use Rattle.judge.specs.Seen.{look_at, look_of, is_asked, StaysSeen}

-- more places that were not asked for show what was shown before
filled : (n p : ℕ) → look_at (replicate n Unasked) p ≡ Unasked
filled n p = elim (cases_lt p n) [
  | inl lt ↦ get_or-replicate n p Unasked Unasked lt
  | inr past ↦ get_or_past (replicate n Unasked) p Unasked (let size = length-replicate {A = Look} n Unasked in omega (arith, size))
]

pub look_filled : (seen : List Look) (n p : ℕ) → look_at (seen ++ replicate n Unasked) p ≡ look_at seen p
look_filled seen n p = elim (cases_lt p (length seen)) [
  | inl lt ↦ get_or_append_left seen (replicate n Unasked) Unasked p lt
  | inr past ↦ get_or-append_right seen (replicate n Unasked) (length seen) p Unasked refl past ∙ (filled n (p - length seen) ∙ sym (get_or_past seen p Unasked past))
]

-- what was asked for has its place
asked_within : (seen : List Look) (p : ℕ) → is_asked (look_at seen p) ≡ true → p < length seen
asked_within seen p asked = elim (cases_lt p (length seen)) [
  | inl lt ↦ lt
  | inr past ↦ absurd (false≢true (sym (ap is_asked (get_or_past seen p Unasked past)) ∙ asked))
]

pub stays_seen : (paths more grown : List (List ℕ)) (old new : List Look) → grown ≡ paths ++ more → length old ≡ length paths → ((p : ℕ) → look_at new p ≡ look_at old p) → StaysSeen paths grown old new
stays_seen paths more grown old new grows size same = record {
  all = λ files seen p asked. same p ∙ (seen p (was p asked) ∙ ap (λ (t : List ℕ). look_of (stamp_of (file_at files t))) (sym (text p asked)));
  kept = λ set files seen p asked is. same p ∙ (seen p (was p asked) (sym (ap set (text p asked)) ∙ is) ∙ ap (λ (t : List ℕ). look_of (stamp_of (file_at files t))) (sym (text p asked)));
}
  where
    was : (p : ℕ) → is_asked (look_at new p) ≡ true → is_asked (look_at old p) ≡ true
    was p asked = sym (ap is_asked (same p)) ∙ asked

    text : (p : ℕ) → is_asked (look_at new p) ≡ true → text_at grown p ≡ text_at paths p
    text p asked = ap (λ (l : List (List ℕ)). text_at l p) grows ∙ get_or_append_left paths more [] p (let low = asked_within old p (was p asked) in omega (arith, low, size))
