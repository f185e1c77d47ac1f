-- Flags of edges, each of which is what the rule says: by the flags of the makers and by what was seen.
use Rattle.std.specs.Prelude.{◌≡◌, ◌==◌, ◌<◌, ℕ, Bool, true, false, IfOk, OnOk, List, take, length, get_or, Some, None, Result, Vec}
use Rattle.std.specs.Option.{is_none}
use Rattle.std.specs.declared.alloc.Global.{Global}
use Rattle.model.specs.World.{World}
use Rattle.model.specs.Graph.{has_number}
use Rattle.graph.specs.declared.cone.Cone.{Cone}
use Rattle.graph.specs.declared.graph.Graph.{Graph}
use Rattle.graph.specs.Links.{Links, links_of, needs_at}
use Rattle.plan.specs.declared.plan.Plan.{Plan}
use Rattle.records.specs.declared.records.Records.{Records}
use Rattle.judge.specs.declared.looks.Look.{Look}
use Rattle.judge.specs.declared.looks.Looks.{Looks}
use Rattle.judge.specs.Seen.{look_at, is_asked}
use Rattle.judge.specs.Facts.{seen_stamp}
use Rattle.judge.specs.Answers.{IsAnswerSeen, IsDepfileFound}
use Rattle.judge.specs.UnderWay.{judged_due}
use Rattle.judge.specs.Dues.{due_at, due_by, reads_due, AreListed}

-- ---- paths

-- there is no file at the path, as it was seen
abbrev pub is_absent_seen : List Look → ℕ → Bool
is_absent_seen seen p = is_none (seen_stamp (look_at seen p))

-- one of the due edges makes the path, or it is an absent source, as it was seen
abbrev pub is_due_seen : Links → List Look → List Bool → ℕ → Bool
is_due_seen links seen due p = due_by due (is_absent_seen seen p) (links.maker p)

-- the path was asked for
abbrev pub WasAsked : List Look → ℕ → Type 0
WasAsked seen p = is_asked (look_at seen p) ≡ true

-- it was, if it is a source
abbrev pub WasSourceAsked : Links → List Look → ℕ → Type 0
WasSourceAsked links seen p = links.maker p ≡ None → WasAsked seen p

-- This is whether one of these paths passes the test: one that was asked for does, or all were asked for, and none does.
pub record IsAnyAsked (Asked : ℕ → Type 0) (test : ℕ → Bool) (paths : List ℕ) (is : Bool) : Type 0 where
  pub one : is ≡ true → (p : ℕ) × (has_number paths p ≡ true) × (Asked p) × (test p ≡ true)
  pub none : is ≡ false → (p : ℕ) → has_number paths p ≡ true → (Asked p) × (test p ≡ false)

-- this is whether there is no file at the path, which was asked for
pub record IsAbsentAsked (seen : List Look) (p : ℕ) (is : Bool) : Type 0 where
  pub asked : WasAsked seen p
  pub same : is_absent_seen seen p ≡ is

-- and this whether one of the due edges makes it, or it is an absent source
pub record IsDueAsked (links : Links) (seen : List Look) (due : List Bool) (p : ℕ) (is : Bool) : Type 0 where
  pub asked : WasSourceAsked links seen p
  pub same : is_due_seen links seen due p ≡ is

-- all of these were asked for, and none passes the test
abbrev pub NoneAsked : (ℕ → Type 0) → (ℕ → Bool) → List ℕ → Type 0
NoneAsked Asked test paths = (p : ℕ) → has_number paths p ≡ true → (Asked p) × (test p ≡ false)

-- whether one of these paths is absent
abbrev pub IsAnyAbsentAsked : List Look → List ℕ → Bool → Type 0
IsAnyAbsentAsked seen paths is = IsAnyAsked (WasAsked seen) (is_absent_seen seen) paths is

-- whether one of them is made by a due edge, or is an absent source
abbrev pub IsAnyDueAsked : Links → List Look → List Bool → List ℕ → Bool → Type 0
IsAnyDueAsked links seen due paths is = IsAnyAsked (WasSourceAsked links seen) (is_due_seen links seen due) paths is

-- ---- edges

-- this is what the rule says of a phony edge
pub record IsAliasRuled (links : Links) (seen : List Look) (due : List Bool) (e : ℕ) (is : Bool) : Type 0 where
  pub of_nothing : (length (links.inputs e) == 0) ≡ true → IsAnyAbsentAsked seen (links.outputs e) is
  pub of_inputs : (length (links.inputs e) == 0) ≡ false → IsAnyDueAsked links seen due (links.regular e) is

-- and this of a command, whose depfile is there, or is not
pub record IsCommandRuled (graph : Graph) (records : Records) (seen : List Look) (due : List Bool) (depfile : Bool) (e : ℕ) (is : Bool) : Type 0 where
  pub reads : reads_due (links_of graph) due e ≡ true → is ≡ true
  pub found : reads_due (links_of graph) due e ≡ false → IsAnswerSeen graph records seen e (record { depfile = depfile; due = is })

-- the flag of the edge is what was judged of it, or else what the rule says
pub record IsRuled (graph : Graph) (records : Records) (plan : Plan) (seen : List Look) (due : List Bool) (depfile : Bool) (e : ℕ) : Type 0 where
  pub judged : (was : Bool) → judged_due graph plan e ≡ Some was → due_at due e ≡ was
  pub alias : judged_due graph plan e ≡ None → (links_of graph).phony e ≡ true → IsAliasRuled (links_of graph) seen due e (due_at due e)
  pub command : judged_due graph plan e ≡ None → (links_of graph).phony e ≡ false → IsCommandRuled graph records seen due depfile e (due_at due e)

-- ---- what a call found

-- the command of the edge was not judged, and reads nothing that a due edge makes
pub record IsFoundAnew (graph : Graph) (plan : Plan) (due : List Bool) (e : ℕ) : Type 0 where
  pub unjudged : judged_due graph plan e ≡ None
  pub command : (links_of graph).phony e ≡ false
  pub unread : reads_due (links_of graph) due e ≡ false

-- this is what the rule says of a command, whose depfile was found so between these worlds where the rule asks for it
pub record IsCommandFound (tells : Bool) (graph : Graph) (records : Records) (old new : World) (seen : List Look) (due : List Bool) (e : ℕ) (is : Bool) : Type 0 where
  pub depfile : Bool
  pub ruled : IsCommandRuled graph records seen due depfile e is
  pub there : reads_due (links_of graph) due e ≡ false → IsDepfileFound tells graph e depfile old new

-- and this of an edge that was not judged
pub record IsEdgeFound (tells : Bool) (graph : Graph) (records : Records) (old new : World) (seen : List Look) (due : List Bool) (e : ℕ) (is : Bool) : Type 0 where
  pub alias : (links_of graph).phony e ≡ true → IsAliasRuled (links_of graph) seen due e is
  pub command : (links_of graph).phony e ≡ false → IsCommandFound tells graph records old new seen due e is

-- the flag of the edge is what was judged of it or what the rule says, by its depfile as it was found between these worlds
pub record IsRuledFound (tells : Bool) (graph : Graph) (records : Records) (plan : Plan) (old new : World) (seen : List Look) (due : List Bool) (e : ℕ) : Type 0 where
  pub depfile : Bool
  pub ruled : IsRuled graph records plan seen due depfile e
  pub there : IsFoundAnew graph plan due e → IsDepfileFound tells graph e depfile old new

-- so it is of each of the listed edges
abbrev pub EachRuledFound : Bool → Graph → Records → Plan → World → World → List Look → List Bool → List ℕ → Type 0
EachRuledFound tells graph records plan old new seen due listed = (e : ℕ) → has_number listed e ≡ true → IsRuledFound tells graph records plan old new seen due e

-- and no other has a flag
pub record AreRuledFound (tells : Bool) (graph : Graph) (records : Records) (plan : Plan) (old new : World) (seen : List Look) (due : List Bool) (listed : List ℕ) : Type 0 where
  pub flagged : AreListed listed due
  pub each : EachRuledFound tells graph records plan old new seen due listed

-- ---- the order in which edges are gone through

-- each edge stands once, and after the edges that make what it needs
pub record ComeAfterMakers (links : Links) (order : List ℕ) : Type 0 where
  pub once : (k : ℕ) → k < length order → has_number (take k order) (get_or order k 0) ≡ false
  pub makers : (k p m : ℕ) → k < length order → has_number (needs_at links (get_or order k 0)) p ≡ true → links.maker p ≡ Some m → has_number (take k order) m ≡ true

-- ---- What calls say that are given a site: `world` tells the world of the site, which the call found as `old` and left as `new`.

-- the answer is what the rule says of the command
abbrev pub FindsCommandRuled : {S E : Type 0} → Bool → (S → World) → S → S → Graph → Records → Looks → List Bool → ℕ → Result Bool E → Type 0
FindsCommandRuled tells world old new graph records after due e result =
    IfOk result (λ is. IsCommandFound tells graph records (world old) (world new) after.seen.items due e is)

-- and of an edge that was not judged
abbrev pub FindsEdgeRuled : {S E : Type 0} → Bool → (S → World) → S → S → Graph → Records → Looks → List Bool → ℕ → Result Bool E → Type 0
FindsEdgeRuled tells world old new graph records after due e result =
    IfOk result (λ is. IsEdgeFound tells graph records (world old) (world new) after.seen.items due e is)

-- each flag that is answered is, where the order of the cone is one of makers first
abbrev pub FindsRuled : {S E : Type 0} → Bool → (S → World) → S → S → Graph → Records → Cone → Plan → Looks → Result (Vec Bool Global) E → Type 0
FindsRuled tells world old new graph records cone plan after result =
    IfOk result (λ due. ComeAfterMakers (links_of graph) cone.order.items
    → AreRuledFound tells graph records plan (world old) (world new) after.seen.items due.items cone.order.items)

-- the answer is the flag of the edge: as it was judged, or what the rule says
pub record IsFlagFound (tells : Bool) (graph : Graph) (records : Records) (plan : Plan) (old new : World) (seen : List Look) (due : List Bool) (e : ℕ) (is : Bool) : Type 0 where
  pub judged : (was : Bool) → judged_due graph plan e ≡ Some was → is ≡ was
  pub unjudged : judged_due graph plan e ≡ None → IsEdgeFound tells graph records old new seen due e is

-- so it is by the flags that are kept
abbrev pub FindsFlag : {S E : Type 0} → Bool → (S → World) → S → S → Graph → Records → Plan → Looks → ℕ → Result Bool E → Type 0
FindsFlag tells world old new graph records plan after e result =
    IfOk result (λ is. IsFlagFound tells graph records plan (world old) (world new) after.seen.items after.sums.answers.dues.flags.items e is)

-- and so is each flag that is kept
abbrev pub FindsAgain : {S E : Type 0} → Bool → (S → World) → S → S → Graph → Records → Cone → Plan → Looks → Result (Unit {0}) E → Type 0
FindsAgain tells world old new graph records cone plan after result =
    OnOk result (AreRuledFound tells graph records plan (world old) (world new) after.seen.items after.sums.answers.dues.flags.items cone.order.items)
