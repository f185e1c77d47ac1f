-- The edges that make paths, each once.
use Rattle.std.proofs.Common.{◌≡◌, ◌≢◌, ◌⊎◌, ◌↔◌, inl, inr, ℕ, zero, suc, ◌+◌, ◌<◌, ◌≤◌, ◌==◌, ◌||◌, Bool, true, false, List, [], ◌∷◌, ◌++◌, Option, Some, None, length, take, get_or, replicate, refl, sym, ap, ◌∙◌, subst, arith}
use Rattle.std.proofs.Math.ListN.{set}
use Rattle.std.proofs.lemmas.Bool.{cases_Bool, cases_lt, eqb-true, eq-eqb, false≢true, or_cases, or_left, or_right}
use Rattle.std.proofs.lemmas.Option.{none-some, same_Some}
use Rattle.std.proofs.lemmas.List.{get_or-replicate, get_or-set_same, get_or-set_other, get_or_past, length-replicate, length-set}
use Rattle.model.specs.Graph.{has_number}
use Rattle.paths.specs.declared.manifest.Action.{Action}
use Rattle.paths.specs.declared.manifest.Action.TheVariants.{Alias, Command}
use Rattle.paths.specs.declared.manifest.Command.{Command as EdgeCommand}
use Rattle.graph.specs.Links.{links_of}
use Rattle.graph.specs.declared.graph.Graph.{Graph}
use Rattle.tools.specs.Answers.{AreMakers, AreMet, command_in}
use Rattle.tools.specs.Files.{command_at}
use Rattle.tools.proofs.Rises.{has_push, once_push, once_none}

-- no path was looked at
pub met_none : (graph : Graph) (met : List Bool) → length met ≡ length graph.manifest.lines → ((e : ℕ) → get_or met e false ≡ false) → AreMet graph [] met []
met_none graph met count none = record {
  count = count;
  marked = λ e low. none e;
  makers = record { just = λ e. (λ h. absurd (false≢true h), λ h. absurd (false≢true h.1)); once = once_none };
}

module _ (graph : Graph) (paths : List ℕ) (path : ℕ) (met : List Bool) (edges : List ℕ) (at : AreMet graph paths met edges) where
  has_more : (p : ℕ) → has_number (paths ++ path ∷ []) p ≡ true → (has_number paths p ≡ true) ⊎ (path ≡ p)
  has_more p h = elim (or_cases (has_number paths p) (path == p) (sym (has_push paths path p) ∙ h)) [
    | inl old ↦ inl old
    | inr new ↦ inr (eqb-true path p new)
  ]

  has_old : (p : ℕ) → has_number paths p ≡ true → has_number (paths ++ path ∷ []) p ≡ true
  has_old p h = has_push paths path p ∙ or_left (has_number paths p) (path == p) h

  has_last : has_number (paths ++ path ∷ []) path ≡ true
  has_last = has_push paths path path ∙ or_right (has_number paths path) (path == path) (eq-eqb path path refl)

  -- a path that no edge makes
  pub met_source : (links_of graph).maker path ≡ None → AreMet graph (paths ++ path ∷ []) met edges
  met_source none = record {
    count = at.count;
    marked = at.marked;
    makers = record {
      just = λ e. (
        λ h. let old = (at.makers.just e).0 h in (old.0, has_old old.0 old.1, old.2),
        λ h. elim (has_more h.0 h.1) [
          | inl old ↦ (at.makers.just e).1 (h.0, old, h.2)
          | inr new ↦ absurd (not_some e (sym none ∙ (ap (links_of graph).maker new ∙ h.2)))
        ],
      );
      once = at.makers.once;
    };
  }
    where
      not_some : (e : ℕ) → None ≡ Some e → ⊥
      not_some e clash = cc

  -- one whose maker was met
  pub met_known : (e : ℕ) → (links_of graph).maker path ≡ Some e → has_number edges e ≡ true → AreMet graph (paths ++ path ∷ []) met edges
  met_known e made known = record {
    count = at.count;
    marked = at.marked;
    makers = record {
      just = λ d. (
        λ h. let old = (at.makers.just d).0 h in (old.0, has_old old.0 old.1, old.2),
        λ h. elim (has_more h.0 h.1) [
          | inl old ↦ (at.makers.just d).1 (h.0, old, h.2)
          | inr new ↦ subst (λ (n : ℕ). has_number edges n ≡ true) (same e d (sym made ∙ (ap (links_of graph).maker new ∙ h.2))) known
        ],
      );
      once = at.makers.once;
    };
  }
    where
      same : (a b : ℕ) → Some a ≡ Some b → a ≡ b
      same a b is = cc

  -- one whose maker was not
  pub met_new : (e : ℕ) → (links_of graph).maker path ≡ Some e → e < length met → has_number edges e ≡ false → AreMet graph (paths ++ path ∷ []) (set met e true) (edges ++ e ∷ [])
  met_new e made low unknown = record {
    count = length-set met e true ∙ at.count;
    marked = λ d within. elim (cases_Bool (e == d)) [
      | inl is ↦ subst (λ (n : ℕ). get_or (set met e true) n false ≡ has_number (edges ++ e ∷ []) n) (eqb-true e d is) (get_or-set_same met e true false low ∙ sym (has_push edges e e ∙ or_right (has_number edges e) (e == e) (eq-eqb e e refl)))
      | inr other ↦ get_or-set_other met e d true false (λ h. false≢true (sym other ∙ eq-eqb e d (sym h))) ∙ (at.marked d within ∙ sym (has_push edges e d ∙ or_nothing (has_number edges d) (e == d) other))
    ];
    makers = record {
      just = λ d. (
        λ h. elim (or_cases (has_number edges d) (e == d) (sym (has_push edges e d) ∙ h)) [
          | inl old ↦ let was = (at.makers.just d).0 old in (was.0, has_old was.0 was.1, was.2)
          | inr new ↦ (path, has_last, made ∙ ap (λ (n : ℕ). Some n) (eqb-true e d new))
        ],
        λ h. has_push edges e d ∙ elim (has_more h.0 h.1) [
          | inl old ↦ or_left (has_number edges d) (e == d) ((at.makers.just d).1 (h.0, old, h.2))
          | inr new ↦ or_right (has_number edges d) (e == d) (eq-eqb e d (same e d (sym made ∙ (ap (links_of graph).maker new ∙ h.2))))
        ],
      );
      once = once_push edges e at.makers.once unknown;
    };
  }
    where
      same : (a b : ℕ) → Some a ≡ Some b → a ≡ b
      same a b is = cc

      or_nothing : (a b : Bool) → b ≡ false → (a || b) ≡ a
      or_nothing true b h = refl
      or_nothing false b h = h

-- no edge was met
pub none_marked : (n e : ℕ) → get_or (replicate n false) e false ≡ false
none_marked n e = elim (cases_lt e n) [
  | inl low ↦ get_or-replicate n e false false low
  | inr past ↦ let size : length (replicate n false) ≡ n = length-replicate n false in get_or_past (replicate n false) e false (omega (arith, past, size))
]

pub met_first : (graph : Graph) (n : ℕ) (met : List Bool) (edges : List ℕ) → met ≡ replicate n false → n ≡ length graph.manifest.lines → edges ≡ [] → AreMet graph [] met edges
met_first graph n met edges is count none =
    subst (λ (l : List ℕ). AreMet graph [] met l) (sym none)
    (subst (λ (l : List Bool). AreMet graph [] l []) (sym is) (met_none graph (replicate n false) (length-replicate n false ∙ count) (none_marked n)))

-- ---- the commands of edges

pub command_told : (action : Action) (command : EdgeCommand) → command_at action ≡ Some command → command_in action ≡ command.act.command ∷ []
command_told Alias command is = absurd (none-some command is)
command_told (Command own) command is = let same : own ≡ command = same_Some own command is in ap (λ (c : EdgeCommand). c.act.command ∷ []) same

pub no_command_told : (action : Action) → command_at action ≡ None → command_in action ≡ []
no_command_told Alias is = refl
no_command_told (Command own) is = absurd (none-some own (sym is))
