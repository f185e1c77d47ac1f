-- Which outputs of a command that ended count as changed.
use Rattle.std.proofs.Common.{◌≡◌, inl, inr, ℕ, zero, suc, ◌+◌, ◌<◌, ◌==◌, ◌&&◌, not, Bool, true, false, List, [], ◌∷◌, ◌++◌, length, get_or, slice_index, slice_index_or, sym, ◌∙◌, ap, subst, arith}
use Rattle.std.proofs.lemmas.Bool.{false≢true, cases_Bool, and_from, eqb-true, eq-eqb}
use Rattle.std.proofs.lemmas.List.{get_or_push, length_push}
use Rattle.std.proofs.Math.ListN.{get_or-append}
use Rattle.model.specs.World.{World}
use Rattle.model.specs.Graph.{has_number, edge_at}
use Rattle.plan.specs.Flags.{has}
use Rattle.graph.specs.declared.graph.Graph.{Graph}
use Rattle.graph.specs.Links.{links_of}
use Rattle.graph.specs.Told.{declared_by}
use Rattle.judge.specs.declared.looks.Look.{Look}
use Rattle.judge.specs.declared.looks.Look.TheVariants.{Unasked}
use Rattle.judge.specs.declared.looks.Looks.{Looks}
use Rattle.judge.specs.Looking.{HasLooked}
use Rattle.judge.specs.Seen.{look_at}
use Rattle.work.proofs.Seeing.{saw_none}
use Rattle.plan.specs.Changed.{AreFlagged}
use Rattle.work.specs.declared.state.Work.{Work}
use Rattle.work.specs.Going.{IsSameBeside, HasEnded}
use Rattle.work.specs.Restat.{is_same_look, AreChangesOf, IsFlagged, IsForgotten, LooksAnew}
use Rattle.work.proofs.Noting.{place_of}

-- ---- the flags

-- what stands at a place of these paths
pub place_is : (paths : List ℕ) (k p : ℕ) → p ≡ get_or paths k p → k < length paths → p ≡ slice_index paths k
place_is [] k p read lt = absurd (omega (arith, lt))
place_is (x ∷ paths) zero p read lt = read
place_is (x ∷ paths) (suc k) p read lt = place_is paths k p read (omega (arith, lt))

-- one more is told
pub one_more : {X : Type 0} (d : X) (told : ℕ → X) (xs : List X) (n : ℕ) (y : X) → length xs ≡ n → ((k : ℕ) → k < n → slice_index_or xs k d ≡ told k) → y ≡ told n
    → (length (xs ++ y ∷ []) ≡ n + 1) × ((k : ℕ) → k < n + 1 → slice_index_or (xs ++ y ∷ []) k d ≡ told k)
one_more d told xs n y fits each here = (
  length_push xs y ∙ ap (λ (k : ℕ). k + 1) fits,
  λ k lt. elim (cases_Bool (k == n)) [
    | inl last ↦
        let same = eqb-true k n last in
        get_or_push xs y d k (fits ∙ sym {A = ℕ} same) ∙ (here ∙ ap told (sym {A = ℕ} same))
    | inr before ↦
        let other = λ (is : k ≡ n). false≢true (sym before ∙ eq-eqb k n is) in
        let low : k < n = omega (arith, lt, other) in
        get_or-append xs (y ∷ []) d k (subst (λ (m : ℕ). k < m) (sym {A = ℕ} fits) low) ∙ each k low
  ],
)

-- the plan takes them by path
pub flags_compared : (old new given flags : List Bool) (outs : List ℕ) (before after : List Look) → AreFlagged old new outs given → given ≡ flags → AreChangesOf before after outs flags → (p : ℕ) → has_number outs p ≡ true
    → has new p ≡ not (is_same_look (look_at before p) (look_at after p))
flags_compared old new given flags outs before after flagged same changes p there =
    let place = place_of outs p there in
    subst (λ (q : ℕ). has new q ≡ not (is_same_look (look_at before q) (look_at after q))) place.2 (flagged.given place.0 place.1 ∙ (ap (λ (l : List Bool). has l place.0) same ∙ changes.are place.0 place.1))

-- ---- what an end changes

-- what was seen of the outputs is forgotten
pub outputs_forgotten : (graph : Graph) (e : ℕ) (paths : List ℕ) (before after : Looks) → paths ≡ (links_of graph).outputs e → ((p : ℕ) → has_number paths p ≡ true → look_at after.seen.items p ≡ Unasked)
    → ((p : ℕ) → has_number paths p ≡ false → look_at after.seen.items p ≡ look_at before.seen.items p) → length after.seen.items ≡ length before.seen.items → IsForgotten graph e before after
outputs_forgotten graph e paths before after same forgotten others fits = record {
  forgotten = subst (λ (l : List ℕ). (p : ℕ) → has_number l p ≡ true → look_at after.seen.items p ≡ Unasked) same forgotten;
  others = subst (λ (l : List ℕ). (p : ℕ) → has_number l p ≡ false → look_at after.seen.items p ≡ look_at before.seen.items p) same others;
  fits = fits;
}

module _ (tells : Bool) (graph : Graph) (e : ℕ) (ok : Bool) (was now : World) (old new : Work) (beside : IsSameBeside old new)
    (unchanged : (p : ℕ) → has_number ((links_of graph).outputs e) p ≡ false → has new.plan.changed.items p ≡ has old.plan.changed.items p) where
  abbrev compares : Bool
  compares = ok && (edge_at (declared_by graph).edges (suc e)).restat

  -- where outputs are compared
  pub ended_compared : ok ≡ true → (edge_at (declared_by graph).edges (suc e)).restat ≡ true
      → ((p : ℕ) → has_number ((links_of graph).outputs e) p ≡ true → has new.plan.changed.items p ≡ not (is_same_look (look_at old.looks.seen.items p) (look_at new.looks.seen.items p)))
      → LooksAnew tells graph e was now old.looks new.looks → HasEnded tells graph e ok was now old new
  ended_compared went restat changed anew = record {
    changed = λ p made. subst (λ (b : Bool). IsFlagged b (look_at old.looks.seen.items p) (look_at new.looks.seen.items p) (has new.plan.changed.items p))
        (sym (and_from ok (edge_at (declared_by graph).edges (suc e)).restat went restat)) (anew.asked p made, changed p made);
    unchanged = unchanged;
    between = anew.between;
    forgets = anew.forgets;
    looked = anew.looked;
    beside = beside;
  }

  -- where all of them count
  pub ended_all : compares ≡ false → now ≡ was → ((p : ℕ) → has_number ((links_of graph).outputs e) p ≡ true → has new.plan.changed.items p ≡ true) → IsForgotten graph e old.looks new.looks
      → HasEnded tells graph e ok was now old new
  ended_all none same changed forgets = record {
    changed = λ p made. subst (λ (b : Bool). IsFlagged b (look_at old.looks.seen.items p) (look_at new.looks.seen.items p) (has new.plan.changed.items p)) (sym none) (changed p made);
    unchanged = unchanged;
    between = new.looks;
    forgets = forgets;
    looked = subst (λ (w : World). HasLooked tells graph was w new.looks new.looks) (sym {A = World} same) (saw_none tells graph was new.looks);
    beside = beside;
  }
