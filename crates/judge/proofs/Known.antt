-- What the records know of outputs is so of the paths of the graph.
use Rattle.std.proofs.Common.{◌≡◌, ℕ, zero, suc, ◌<◌, true, List, [], ◌∷◌, ◌++◌, Option, length, arith, refl, sym, ◌∙◌, ap, subst}
use Rattle.model.specs.declared.act.Act.{Act}
use Rattle.model.specs.declared.record.Record.{Record}
use Rattle.model.specs.declared.record.DepsRecord.{DepsRecord}
use Rattle.model.specs.Graph.{has_number}
use Rattle.model.specs.Judgement.{OutputFacts}
use Rattle.model.specs.OutOfDate.{deps_start}
use Rattle.model.specs.Records.{Made, in_force, deps_in_force}
use Rattle.paths.specs.Told.{text_at}
use Rattle.graph.specs.declared.graph.Graph.{Graph}
use Rattle.graph.specs.Links.{links_of}
use Rattle.records.specs.declared.records.Records.{Records}
use Rattle.records.specs.Known.{AreKnown}
use Rattle.judge.specs.declared.output_facts.Outputs.{Outputs}
use Rattle.judge.specs.Summaries.{TakesOutput}
use Rattle.judge.specs.Facts.{AreKnownOf}

-- a path in front keeps its text where others are put behind
pub text_in_front : (first more : List (List ℕ)) (p : ℕ) → p < length first → text_at (first ++ more) p ≡ text_at first p
text_in_front [] more p lt = absurd (omega (arith, lt))
text_in_front (x ∷ first) more zero lt = refl
text_in_front (x ∷ first) more (suc p) lt = text_in_front first more p (omega (arith, lt))

-- the outputs of an edge are known, where all are
pub known_of : (graph : Graph) (rs : List Record) (ds : List DepsRecord) (records : Records) → AreKnown graph rs ds records → (e : ℕ) (numbers : List ℕ) → numbers ≡ (links_of graph).outputs e
    → AreKnownOf graph.manifest.paths numbers rs ds records
known_of graph rs ds records known e numbers are = record {
  first = known.paths;
  more = known.more;
  grown = known.grown;
  within = λ p h. known.outputs e p (subst (λ (l : List ℕ). has_number l p ≡ true) are h);
  known = known.known;
  told = known.told;
}

-- the output of this number was taken in by its records
pub takes_known : (paths : List (List ℕ)) (numbers : List ℕ) (rs : List Record) (ds : List DepsRecord) (records : Records) (of : AreKnownOf paths numbers rs ds records) (act : Act) (p : ℕ)
    → has_number numbers p ≡ true → (stamp : Option ℕ) (made : Option Made) (start : Option ℕ)
    → (p < length of.first → made ≡ in_force rs (text_at of.first p)) → (p < length of.first → start ≡ deps_start (deps_in_force ds (text_at of.first p)))
    → (old new : Outputs) → TakesOutput act (record { stamp = stamp; made = made; deps_start = start }) old new
    → TakesOutput act (record { stamp = stamp; made = in_force rs (text_at paths p); deps_start = deps_start (deps_in_force ds (text_at paths p)) }) old new
takes_known paths numbers rs ds records of act p listed stamp made start is_made is_start old new =
    let within = of.within p listed in
    let text : text_at of.first p ≡ text_at paths p = sym (ap (λ (l : List (List ℕ)). text_at l p) of.grown ∙ text_in_front of.first of.more p within) in
    let made_is : made ≡ in_force rs (text_at paths p) = is_made within ∙ ap (in_force rs) text in
    let start_is : start ≡ deps_start (deps_in_force ds (text_at paths p)) = is_start within ∙ ap (λ (t : List ℕ). deps_start (deps_in_force ds t)) text in
    subst (λ (o : OutputFacts). TakesOutput act o old new)
    (ap (λ (m : Option Made). record { stamp = stamp; made = m; deps_start = start }) made_is ∙ ap (λ (s : Option ℕ). record { stamp = stamp; made = in_force rs (text_at paths p); deps_start = s }) start_is)
