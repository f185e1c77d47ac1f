-- What the rule says of an edge stays, where what was seen stays and the flags of the makers do.
use Rattle.std.proofs.Common.{◌≡◌, ℕ, ◌==◌, ◌||◌, Bool, true, false, List, [], ◌∷◌, Option, Some, None, refl, sym, ◌∙◌, ap, subst}
use Rattle.std.specs.List.{list_any}
use Rattle.std.proofs.lemmas.Bool.{or_right}
use Rattle.model.specs.Graph.{has_number}
use Rattle.theory.proofs.Lists.{has_number-left, has_number-right}
use Rattle.paths.specs.Lists.{line_at, line_regular_inputs}
use Rattle.graph.specs.declared.graph.Graph.{Graph}
use Rattle.graph.specs.Links.{Links, links_of, needs_at}
use Rattle.plan.specs.declared.plan.Plan.{Plan}
use Rattle.records.specs.declared.records.Records.{Records}
use Rattle.judge.specs.declared.looks.Look.{Look}
use Rattle.judge.specs.Seen.{StaysKnown}
use Rattle.judge.specs.Dues.{due_at, due_by, is_made_due, reads_due}
use Rattle.judge.specs.Ruled.{is_absent_seen, is_due_seen, WasAsked, WasSourceAsked, IsAnyAsked, IsAliasRuled, IsCommandRuled, IsRuled, IsFoundAnew}
use Rattle.judge.proofs.Answered.{answer_stays}
use Rattle.judge.proofs.AskedAny.{absent_stays, due_stays}
use Rattle.judge.proofs.NumbersAsTexts.{has_here}

-- ---- one of some paths

pub any_stays : (Old New : ℕ → Type 0) (was now : ℕ → Bool) (paths : List ℕ) → ((p : ℕ) → has_number paths p ≡ true → Old p → (New p) × (now p ≡ was p)) → (is : Bool) → IsAnyAsked Old was paths is → IsAnyAsked New now paths is
any_stays Old New was now paths stays is asked = record {
  one = λ so.
      let at = asked.one so in
      let kept = stays at.0 at.1 at.2 in
      (at.0, at.1, kept.0, kept.1 ∙ at.3);
  none = λ so p listed.
      let both = asked.none so p listed in
      let kept = stays p listed both.0 in
      (kept.0, kept.1 ∙ both.1);
}

-- ---- by what was seen since

module _ (seen new : List Look) (stays : StaysKnown seen new) (graph : Graph) (due : List Bool) where
  pub alias_seen : (e : ℕ) (is : Bool) → IsAliasRuled (links_of graph) seen due e is → IsAliasRuled (links_of graph) new due e is
  alias_seen e is ruled = record {
    of_nothing = λ empty.
        any_stays (WasAsked seen) (WasAsked new) (is_absent_seen seen) (is_absent_seen new) ((links_of graph).outputs e) (λ p listed asked. absent_stays seen new stays p asked) is (ruled.of_nothing empty);
    of_inputs = λ some.
        any_stays (WasSourceAsked (links_of graph) seen) (WasSourceAsked (links_of graph) new) (is_due_seen (links_of graph) seen due) (is_due_seen (links_of graph) new due) ((links_of graph).regular e)
        (λ p listed asked. due_stays seen new stays (links_of graph) due p asked) is (ruled.of_inputs some);
  }

  pub command_seen : (records : Records) (depfile : Bool) (e : ℕ) (is : Bool) → IsCommandRuled graph records seen due depfile e is → IsCommandRuled graph records new due depfile e is
  command_seen records depfile e is ruled = record {
    reads = ruled.reads;
    found = λ none. answer_stays graph records seen new stays e (record { depfile = depfile; due = is }) (ruled.found none);
  }

  pub ruled_seen : (records : Records) (plan : Plan) (depfile : Bool) (e : ℕ) → IsRuled graph records plan seen due depfile e → IsRuled graph records plan new due depfile e
  ruled_seen records plan depfile e ruled = record {
    judged = ruled.judged;
    alias = λ none phony. alias_seen e (due_at due e) (ruled.alias none phony);
    command = λ none plain. command_seen records depfile e (due_at due e) (ruled.command none plain);
  }

-- ---- by the flags of the makers

-- each edge that makes what the edge needs has the flag that it had
abbrev pub KeepsMakers : Graph → List Bool → List Bool → ℕ → Type 0
KeepsMakers graph due new e = (p m : ℕ) → has_number (needs_at (links_of graph) e) p ≡ true → (links_of graph).maker p ≡ Some m → due_at new m ≡ due_at due m

pub any_where : (f g : ℕ → Bool) (xs : List ℕ) → ((x : ℕ) → has_number xs x ≡ true → f x ≡ g x) → list_any f xs ≡ list_any g xs
any_where f g [] same = refl
any_where f g (x ∷ xs) same =
    ap (λ (b : Bool). b || list_any f xs) (same x (has_here x xs))
    ∙ ap (λ (b : Bool). g x || b) (any_where f g xs (λ y listed. same y (or_right (x == y) (has_number xs y) listed)))

module _ (graph : Graph) (due new : List Bool) (e : ℕ) (keeps : KeepsMakers graph due new e) where
  abbrev links : Links
  links = links_of graph

  made_same : (source : Bool) (p : ℕ) → has_number (needs_at links e) p ≡ true → due_by new source (links.maker p) ≡ due_by due source (links.maker p)
  made_same source p needed = by_maker (links.maker p) refl
    where
      by_maker : (o : Option ℕ) → links.maker p ≡ o → due_by new source o ≡ due_by due source o
      by_maker None is = refl
      by_maker (Some m) is = keeps p m needed is

  regular_needed : (p : ℕ) → has_number (links.regular e) p ≡ true → has_number (needs_at links e) p ≡ true
  regular_needed p listed =
      has_number-left (links.inputs e) (links.recorded e) p
      (has_number-left (line_regular_inputs (line_at graph.manifest.lines e)) (line_at graph.manifest.lines e).order_only_inputs p listed)

  recorded_needed : (p : ℕ) → has_number (links.recorded e) p ≡ true → has_number (needs_at links e) p ≡ true
  recorded_needed p listed = has_number-right (links.inputs e) (links.recorded e) p listed

  pub reads_same : reads_due links new e ≡ reads_due links due e
  reads_same =
      ap (λ (b : Bool). b || list_any (is_made_due links new) (links.recorded e))
      (any_where (is_made_due links new) (is_made_due links due) (links.regular e) (λ p listed. made_same false p (regular_needed p listed)))
      ∙ ap (λ (b : Bool). list_any (is_made_due links due) (links.regular e) || b)
      (any_where (is_made_due links new) (is_made_due links due) (links.recorded e) (λ p listed. made_same false p (recorded_needed p listed)))

  pub alias_flags : (seen : List Look) (is : Bool) → IsAliasRuled links seen due e is → IsAliasRuled links seen new e is
  alias_flags seen is ruled = record {
    of_nothing = ruled.of_nothing;
    of_inputs = λ some.
        any_stays (WasSourceAsked links seen) (WasSourceAsked links seen) (is_due_seen links seen due) (is_due_seen links seen new) (links.regular e)
        (λ p listed asked. (asked, made_same (is_absent_seen seen p) p (regular_needed p listed))) is (ruled.of_inputs some);
  }

  pub command_flags : (records : Records) (seen : List Look) (depfile is : Bool) → IsCommandRuled graph records seen due depfile e is → IsCommandRuled graph records seen new depfile e is
  command_flags records seen depfile is ruled = record {
    reads = λ so. ruled.reads (sym reads_same ∙ so);
    found = λ none. ruled.found (sym reads_same ∙ none);
  }

  -- where its own flag stays as well
  pub ruled_flags : (records : Records) (plan : Plan) (seen : List Look) (depfile : Bool) → due_at new e ≡ due_at due e → IsRuled graph records plan seen due depfile e → IsRuled graph records plan seen new depfile e
  ruled_flags records plan seen depfile flag ruled = record {
    judged = λ was is. flag ∙ ruled.judged was is;
    alias = λ none phony. subst (IsAliasRuled links seen new e) (sym flag) (alias_flags seen (due_at due e) (ruled.alias none phony));
    command = λ none plain. subst (IsCommandRuled graph records seen new depfile e) (sym flag) (command_flags records seen depfile (due_at due e) (ruled.command none plain));
  }

  pub anew_flags : (plan : Plan) → IsFoundAnew graph plan new e → IsFoundAnew graph plan due e
  anew_flags plan anew = record { unjudged = anew.unjudged; command = anew.command; unread = sym reads_same ∙ anew.unread }
