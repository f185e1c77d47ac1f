-- Flags that are what the rule says, one more after another in the order of a cone.
use Rattle.std.proofs.Common.{◌≡◌, inl, inr, ℕ, suc, ◌+◌, ◌<◌, Bool, true, false, List, [], ◌∷◌, Option, Some, None, bytes_eq, length, take, get_or, refl, sym, ◌∙◌, ap, subst, arith}
use Rattle.std.proofs.Math.ListN.{set}
use Rattle.std.proofs.lemmas.Bool.{false≢true, cases_Bool}
use Rattle.std.proofs.lemmas.List.{take_more, get_or-set_same, get_or-set_other}
use Rattle.model.specs.World.{World}
use Rattle.model.specs.Calls.{OnlyLooks}
use Rattle.model.specs.Graph.{has_number, edge_at}
use Rattle.theory.proofs.Lists.{has_number-cases, has_number-is, same_some, some_none}
use Rattle.graph.specs.declared.graph.Graph.{Graph}
use Rattle.graph.specs.Links.{links_of}
use Rattle.graph.specs.Told.{declared_by}
use Rattle.plan.specs.declared.plan.Plan.{Plan}
use Rattle.records.specs.declared.records.Records.{Records}
use Rattle.judge.specs.declared.looks.Look.{Look}
use Rattle.judge.specs.declared.looks.Looks.{Looks}
use Rattle.judge.specs.Answers.{IsDepfileFound}
use Rattle.judge.specs.Looking.{HasLooked}
use Rattle.judge.specs.UnderWay.{judged_due}
use Rattle.judge.specs.Dues.{due_at}
use Rattle.judge.specs.Ruled.{IsAliasRuled, IsCommandRuled, IsEdgeFound, IsFlagFound, IsRuledFound, EachRuledFound, ComeAfterMakers}
use Rattle.judge.proofs.AfterMakers.{makers_within, none_next}
use Rattle.judge.proofs.Answered.{depfile_then}
use Rattle.judge.proofs.FilesStay.{Follow, Stay}
use Rattle.judge.proofs.RuledStays.{KeepsMakers, alias_flags, command_flags, ruled_flags, anew_flags, reads_same, ruled_seen}

-- ---- one call after another

module _ (follow : Follow) (stay : Stay) (tells : Bool) (graph : Graph) (records : Records) (a b c : World) (one two : Looks) (due : List Bool) where
  -- what was found in the first
  pub found_first : (plan : Plan) (e : ℕ) → OnlyLooks tells a b → HasLooked tells graph b c one two → IsRuledFound tells graph records plan a b one.seen.items due e → IsRuledFound tells graph records plan a c two.seen.items due e
  found_first plan e first second was = record {
    depfile = was.depfile;
    ruled = ruled_seen one.seen.items two.seen.items second.stays graph due records plan was.depfile e was.ruled;
    there = λ anew. depfile_then follow stay tells graph e was.depfile a b c one first second.looks (was.there anew);
  }

  pub each_first : (plan : Plan) (listed : List ℕ) → OnlyLooks tells a b → HasLooked tells graph b c one two → EachRuledFound tells graph records plan a b one.seen.items due listed
      → EachRuledFound tells graph records plan a c two.seen.items due listed
  each_first plan listed first second each e is = found_first plan e first second (each e is)

  -- and in the second
  pub edge_second : (seen : List Look) (e : ℕ) (is : Bool) → OnlyLooks tells a b → OnlyLooks tells b c → IsEdgeFound tells graph records b c seen due e is → IsEdgeFound tells graph records a c seen due e is
  edge_second seen e is first second found = record {
    alias = found.alias;
    command = λ plain.
        let was = found.command plain in
        record { depfile = was.depfile; ruled = was.ruled; there = λ none. depfile_second was.depfile (was.there none) };
  }
    where
      depfile_second : (depfile : Bool) → IsDepfileFound tells graph e depfile b c → IsDepfileFound tells graph e depfile a c
      depfile_second depfile there told keeps =
          there told (λ tell named. (follow tells a b c).later tell (bytes_eq (edge_at (declared_by graph).edges (suc e)).act.depfile) first second (keeps tell named))

-- ---- one edge

module _ (tells : Bool) (graph : Graph) (records : Records) (plan : Plan) (old new : World) (seen : List Look) (due more : List Bool) (e : ℕ) (keeps : KeepsMakers graph due more e) where
  -- its flag is as it was
  pub found_flags : due_at more e ≡ due_at due e → IsRuledFound tells graph records plan old new seen due e → IsRuledFound tells graph records plan old new seen more e
  found_flags same was = record {
    depfile = was.depfile;
    ruled = ruled_flags graph due more e keeps records plan seen was.depfile same was.ruled;
    there = λ anew. was.there (anew_flags graph due more e keeps plan anew);
  }

  module _ (is : Bool) (written : due_at more e ≡ is) where
    -- it was judged
    pub judged_with : judged_due graph plan e ≡ Some is → IsRuledFound tells graph records plan old new seen more e
    judged_with told = record {
      depfile = false;
      ruled = record {
        judged = λ was so. written ∙ same_some is was (sym told ∙ so);
        alias = λ none. absurd (some_none is (sym told ∙ none));
        command = λ none. absurd (some_none is (sym told ∙ none));
      };
      there = λ anew. absurd (some_none is (sym told ∙ anew.unjudged));
    }

    -- it was not, and this was found of it
    pub unjudged_with : judged_due graph plan e ≡ None → IsEdgeFound tells graph records old new seen due e is → IsRuledFound tells graph records plan old new seen more e
    unjudged_with unjudged found = elim (cases_Bool ((links_of graph).phony e)) [
      | inl phony ↦ record {
        depfile = false;
        ruled = record {
          judged = λ d so. absurd (some_none d (sym so ∙ unjudged));
          alias = λ none so. subst (IsAliasRuled (links_of graph) seen more e) (sym written) (alias_flags graph due more e keeps seen is (found.alias so));
          command = λ none plain. absurd (false≢true (sym plain ∙ phony));
        };
        there = λ anew. absurd (false≢true (sym anew.command ∙ phony));
      }
      | inr plain ↦
          let was = found.command plain in
          record {
            depfile = was.depfile;
            ruled = record {
              judged = λ d so. absurd (some_none d (sym so ∙ unjudged));
              alias = λ none phony. absurd (false≢true (sym plain ∙ phony));
              command = λ none so. subst (IsCommandRuled graph records seen more was.depfile e) (sym written) (command_flags graph due more e keeps records seen was.depfile is was.ruled);
            };
            there = λ anew. was.there (sym (reads_same graph due more e keeps) ∙ anew.unread);
          }
    ]

    -- one or the other
    pub flag_with : IsFlagFound tells graph records plan old new seen due e is → IsRuledFound tells graph records plan old new seen more e
    flag_with found = by_judged (judged_due graph plan e) refl
      where
        by_judged : (o : Option Bool) → judged_due graph plan e ≡ o → IsRuledFound tells graph records plan old new seen more e
        by_judged None none = unjudged_with none (found.unjudged none)
        by_judged (Some was) told = judged_with (told ∙ ap (λ (b : Bool). Some b) (sym (found.judged was told)))

-- ---- one edge more

module _ (tells : Bool) (graph : Graph) (records : Records) (plan : Plan) (old new : World) (seen : List Look) (order : List ℕ) (after : ComeAfterMakers (links_of graph) order) (k : ℕ) (within : k < length order)
    (due : List Bool) (fits : get_or order k 0 < length due) (is : Bool)
  where
    abbrev edge : ℕ
    edge = get_or order k 0

    abbrev more : List Bool
    more = set due edge is

    written : due_at more edge ≡ is
    written = get_or-set_same due edge is false fits

    elsewhere : (q : ℕ) → (q ≡ edge → ⊥) → due_at more q ≡ due_at due q
    elsewhere q other = get_or-set_other due edge q is false other

    -- the makers of what this edge and those before it need stand before it
    keeps_here : KeepsMakers graph due more edge
    keeps_here p m needed made = elsewhere m (none_next (links_of graph) order after k within m (after.makers k p m within needed made))

    keeps_before : (q : ℕ) → has_number (take k order) q ≡ true → KeepsMakers graph due more q
    keeps_before q listed p m needed made = elsewhere m (none_next (links_of graph) order after k within m (makers_within (links_of graph) order after k (omega (arith, within)) q listed p m needed made))

    pub ruled_judged : judged_due graph plan edge ≡ Some is → IsRuledFound tells graph records plan old new seen more edge
    ruled_judged told = judged_with tells graph records plan old new seen due more edge keeps_here is written told

    pub ruled_unjudged : judged_due graph plan edge ≡ None → IsEdgeFound tells graph records old new seen due edge is → IsRuledFound tells graph records plan old new seen more edge
    ruled_unjudged unjudged found = unjudged_with tells graph records plan old new seen due more edge keeps_here is written unjudged found

    pub ruled_more : EachRuledFound tells graph records plan old new seen due (take k order) → IsRuledFound tells graph records plan old new seen more edge
        → EachRuledFound tells graph records plan old new seen more (take (k + 1) order)
    ruled_more so_far here q listed = elim (has_number-cases (take k order) (edge ∷ []) q (subst (λ (l : List ℕ). has_number l q ≡ true) (take_more order k 0 within) listed)) [
      | inl early ↦
          found_flags tells graph records plan old new seen due more q (keeps_before q early) (elsewhere q (none_next (links_of graph) order after k within q early)) (so_far q early)
      | inr same ↦ subst (λ (n : ℕ). IsRuledFound tells graph records plan old new seen more n) (has_number-is edge q same) here
    ]

-- what is told of the flag of an edge in the second of two calls
pub flag_second : (follow : Follow) (stay : Stay) (tells : Bool) (graph : Graph) (records : Records) (plan : Plan) (a b c : World) (one two : Looks) (due : List Bool) (seen : List Look) (e : ℕ) (is : Bool) → OnlyLooks tells a b → OnlyLooks tells b c
    → IsFlagFound tells graph records plan b c seen due e is → IsFlagFound tells graph records plan a c seen due e is
flag_second follow stay tells graph records plan a b c one two due seen e is first second found = record {
  judged = found.judged;
  unjudged = λ none. edge_second follow stay tells graph records a b c one two due seen e is first second (found.unjudged none);
}
