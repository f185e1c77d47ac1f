-- Manifests and graphs that have the same parts.
use Rattle.std.proofs.Common.{◌≡◌, ℕ, ◌<◌, ◌≤◌, ◌^◌, true, List, Option, length, get_or, sym, ap, subst}
use Rattle.std.proofs.Math.Bridge.{le_prop}
use Rattle.std.proofs.Math.Nat.{ℕ_set}
use Rattle.std.proofs.Math.Bool.{Bool-set}
use Rattle.std.proofs.Props.{props}
use Rattle.model.specs.Graph.{has_number}
use Rattle.model.specs.declared.graph.Pool.{Pool}
use Rattle.paths.specs.declared.line.Line.{Line}
use Rattle.paths.specs.declared.manifest.Action.{Action}
use Rattle.paths.specs.declared.manifest.Manifest.{Manifest}
use Rattle.paths.specs.Commands.{no_action, dyndep_stop}
use Rattle.paths.specs.Lists.{all_paths}
use Rattle.paths.specs.Numbers.{HaveOnePlace}
use Rattle.graph.specs.declared.graph.Graph.{Graph}
use Rattle.graph.specs.Held.{AreMakers, DyndepsAreInputs, AreRecorded, AreUsers}

pub record HaveSameParts (a b : Manifest) : Type 0 where
  pub paths : a.paths ≡ b.paths
  pub named : a.named ≡ b.named
  pub lines : a.lines ≡ b.lines
  pub actions : a.actions ≡ b.actions
  pub pools : a.pools ≡ b.pools
  pub defaults : a.defaults ≡ b.defaults
  pub builddir : a.builddir ≡ b.builddir

-- the parts of a manifest, and what holds of them
pub record Parts : Type 0 where
  pub paths : List (List ℕ)
  pub named : ℕ
  pub lines : List Line
  pub actions : List Action
  pub pools : List Pool
  pub defaults : List ℕ
  pub builddir : List ℕ

pub record Hold (x : Parts) : Type 0 where
  pub few : length x.lines ≤ 2 ^ 32
  pub fits : length x.actions ≡ length x.lines
  pub names : x.named ≤ length x.paths
  pub numbered : (p : ℕ) → p < x.named → has_number (all_paths x.lines) p ≡ true
  pub within : (p : ℕ) → has_number (all_paths x.lines) p ≡ true → p < length x.paths
  pub known : (k : ℕ) → k < length x.defaults → get_or x.defaults k 0 < x.named
  pub dyndeps : (k : ℕ) → dyndep_stop (get_or x.actions k no_action) ≤ length x.paths

abbrev pub parts_of : Manifest → Parts
parts_of m = record { paths = m.paths; named = m.named; lines = m.lines; actions = m.actions; pools = m.pools; defaults = m.defaults; builddir = m.builddir }

abbrev pub held_of : (m : Manifest) → Hold (parts_of m)
held_of m = record { few = m.few; fits = m.fits; names = m.names; numbered = m.numbered; within = m.within; known = m.known; dyndeps = m.dyndeps }

abbrev pub made_of : (x : Parts) → Hold x → Manifest
made_of x h = record {
  paths = x.paths;
  named = x.named;
  lines = x.lines;
  actions = x.actions;
  pools = x.pools;
  defaults = x.defaults;
  builddir = x.builddir;
  few = h.few;
  fits = h.fits;
  names = h.names;
  numbered = h.numbered;
  within = h.within;
  known = h.known;
  dyndeps = h.dyndeps;
}

numbered_prop : (x : Parts) → IsProp ((p : ℕ) → p < x.named → has_number (all_paths x.lines) p ≡ true)
numbered_prop x = hlevel (le_prop, ℕ_set, Bool-set)

within_prop : (x : Parts) → IsProp ((p : ℕ) → has_number (all_paths x.lines) p ≡ true → p < length x.paths)
within_prop x = hlevel (le_prop, ℕ_set, Bool-set)

known_prop : (x : Parts) → IsProp ((k : ℕ) → k < length x.defaults → get_or x.defaults k 0 < x.named)
known_prop x = hlevel (le_prop, ℕ_set, Bool-set)

dyndeps_prop : (x : Parts) → IsProp ((k : ℕ) → dyndep_stop (get_or x.actions k no_action) ≤ length x.paths)
dyndeps_prop x = hlevel (le_prop, ℕ_set, Bool-set)

held_same : (x : Parts) (g h : Hold x) → g ≡ h
held_same x g h = λ i. record {
  few = le_prop g.few h.few i;
  fits = ℕ_set (length x.actions) (length x.lines) g.fits h.fits i;
  names = le_prop g.names h.names i;
  numbered = numbered_prop x g.numbered h.numbered i;
  within = within_prop x g.within h.within i;
  known = known_prop x g.known h.known i;
  dyndeps = dyndeps_prop x g.dyndeps h.dyndeps i;
}

pub same_parts : (a b : Manifest) → HaveSameParts a b → parts_of a ≡ parts_of b
same_parts a b same = cc

pub same_manifest : (a b : Manifest) → HaveSameParts a b → a ≡ b
same_manifest a b same = subst (λ (x : Parts). (h : Hold x) → made_of x h ≡ b) (sym (same_parts a b same)) (λ h. ap (made_of (parts_of b)) (held_same (parts_of b) h (held_of b))) (held_of a)

pub held_for : (b : Manifest) (x : Parts) → x ≡ parts_of b → Hold x
held_for b x same = subst Hold (sym same) (held_of b)

-- ---- graphs

pub record HaveSameGraph (a b : Graph) : Type 0 where
  pub manifest : a.manifest ≡ b.manifest
  pub makers : a.makers ≡ b.makers
  pub recorded : a.recorded ≡ b.recorded
  pub users : a.users ≡ b.users

pub record GraphParts : Type 0 where
  pub manifest : Manifest
  pub makers : List (Option ℕ)
  pub recorded : List (List ℕ)
  pub users : List (List ℕ)

pub record GraphHolds (x : GraphParts) : Type 0 where
  pub apart : HaveOnePlace x.manifest.paths
  pub making : AreMakers x.manifest x.makers
  pub dyndeps : DyndepsAreInputs x.manifest
  pub recording : AreRecorded x.manifest x.recorded
  pub using : AreUsers x.manifest x.recorded x.users

abbrev pub graph_parts : Graph → GraphParts
graph_parts g = record { manifest = g.manifest; makers = g.makers; recorded = g.recorded; users = g.users }

abbrev pub graph_holds : (g : Graph) → GraphHolds (graph_parts g)
graph_holds g = record { apart = g.apart; making = g.making; dyndeps = g.dyndeps; recording = g.recording; using = g.using }

abbrev pub graph_made : (x : GraphParts) → GraphHolds x → Graph
graph_made x h = record {
  manifest = x.manifest;
  makers = x.makers;
  recorded = x.recorded;
  users = x.users;
  apart = h.apart;
  making = h.making;
  dyndeps = h.dyndeps;
  recording = h.recording;
  using = h.using;
}

apart_prop : (x : GraphParts) → IsProp (HaveOnePlace x.manifest.paths)
apart_prop x = hlevel (ℕ_set)

making_prop : (x : GraphParts) → IsProp (AreMakers x.manifest x.makers)
making_prop x = hlevel (props, le_prop, ℕ_set, Bool-set)

dyndeps_prop_of : (x : GraphParts) → IsProp (DyndepsAreInputs x.manifest)
dyndeps_prop_of x = hlevel (Bool-set)

recording_prop : (x : GraphParts) → IsProp (AreRecorded x.manifest x.recorded)
recording_prop x = hlevel (le_prop, ℕ_set, Bool-set)

using_prop : (x : GraphParts) → IsProp (AreUsers x.manifest x.recorded x.users)
using_prop x = hlevel (le_prop, ℕ_set)

graph_held_same : (x : GraphParts) (g h : GraphHolds x) → g ≡ h
graph_held_same x g h = λ i. record {
  apart = apart_prop x g.apart h.apart i;
  making = making_prop x g.making h.making i;
  dyndeps = dyndeps_prop_of x g.dyndeps h.dyndeps i;
  recording = recording_prop x g.recording h.recording i;
  using = using_prop x g.using h.using i;
}

same_graph_parts : (a b : Graph) → HaveSameGraph a b → graph_parts a ≡ graph_parts b
same_graph_parts a b same = λ i. record { manifest = same.manifest i; makers = same.makers i; recorded = same.recorded i; users = same.users i }

pub same_graph : (a b : Graph) → HaveSameGraph a b → a ≡ b
same_graph a b same =
    subst (λ (x : GraphParts). (h : GraphHolds x) → graph_made x h ≡ b) (sym (same_graph_parts a b same)) (λ h. ap (graph_made (graph_parts b)) (graph_held_same (graph_parts b) h (graph_holds b))) (graph_holds a)

pub graph_holds_for : (b : Graph) (x : GraphParts) → x ≡ graph_parts b → GraphHolds x
graph_holds_for b x same = subst GraphHolds (sym same) (graph_holds b)
