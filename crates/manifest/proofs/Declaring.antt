-- One more statement of the open scope.
use Rattle.std.proofs.Common.{◌≡◌, ◌≢◌, ◌<◌, ◌⊎◌, inl, inr, ℕ, suc, List, ◌∷◌, length, vec_len, Vec, Global, Option, Some, None, IsSome, sym, ap, subst, ◌∙◌}
use Rattle.std.specs.Prelude.{codes}
use Rattle.std.specs.List.{AllByRecursion}
use Rattle.scopes.specs.declared.all_scopes.Scopes.{Scopes}
use Rattle.scopes.specs.declared.scope.Scope.{Scope}
use Rattle.scopes.specs.Moves.{Move, last_in, rule_named, entered}
use Rattle.scopes.specs.Scopes.{IsScopesOf}
use Rattle.manifest.specs.declared.kept.Declared.{Declared}
use Rattle.manifest.specs.declared.kept.ReadEdge.{ReadEdge}
use Rattle.manifest.specs.States.{State, with_move, present, first_or}
use Rattle.manifest.specs.Held.{IsStateOf, IsFormed}
use Rattle.manifest.specs.Declarations.{IsRepeated}

-- the same declarations with other scopes
abbrev pub with_scopes : Scopes → Declared → Declared
with_scopes scopes declared = record { scopes = scopes; edges = declared.edges; pools = declared.pools; defaults = declared.defaults; paths = declared.paths; room = declared.room }

pub present_is : (declared : Declared) (state : State) → IsStateOf declared state → present state ≡ declared.scopes.present
present_is declared state is = ap (first_or 0) is.scopes.opened

-- one move more
pub moved : (declared : Declared) (scopes : Scopes) (state : State) (move : Move) → IsStateOf declared state → IsScopesOf scopes (move ∷ state.past)
    → IsStateOf (with_scopes scopes declared) (with_move move state)
moved declared scopes state move is after = record { scopes = after; edges = is.edges; pools = is.pools; defaults = is.defaults; paths = is.paths }

counted : (scopes : Vec Scope Global) → vec_len scopes ≡ length scopes.items
counted scopes = scopes.ok.0

-- a move that enters no scope keeps the edges in theirs
pub formed_moved : (declared : Declared) (scopes : Scopes) (move : Move) → ((past : List Move) → IsScopesOf declared.scopes past → IsScopesOf scopes (move ∷ past))
    → ((past : List Move) → entered (move ∷ past) ≡ entered past) → IsFormed declared → IsFormed (with_scopes scopes declared)
formed_moved declared scopes move after stays formed =
    let scoped : IsScopesOf scopes (move ∷ formed.past) = after formed.past formed.scopes in
    let same : vec_len declared.scopes.scopes ≡ vec_len scopes.scopes = counted declared.scopes.scopes ∙ (formed.scopes.number ∙ (ap suc (sym (stays formed.past)) ∙ (sym scoped.number ∙ sym (counted scopes.scopes)))) in
    record {
      past = move ∷ formed.past;
      scopes = scoped;
      edges = subst (λ (count : ℕ). AllByRecursion (λ (edge : ReadEdge). edge.scope < count) declared.edges.items) same formed.edges;
      paths = formed.paths;
    }

-- ---- names of rules

pub rule_repeated : (declared : Declared) (state : State) (name : List ℕ) → IsStateOf declared state
    → ((name ≡ codes "phony") ⊎ ((past : List Move) → IsScopesOf declared.scopes past → IsSome (last_in (rule_named name) past declared.scopes.present)))
    → IsRepeated state name
rule_repeated declared state name is (inl phony) = inl phony
rule_repeated declared state name is (inr some) =
    inr (subst (λ (scope : ℕ). IsSome (last_in (rule_named name) state.past scope)) (sym (present_is declared state is)) (some state.past is.scopes))

pub not_repeated : (declared : Declared) (state : State) (name : List ℕ) → IsStateOf declared state → name ≢ codes "phony"
    → ((past : List Move) → IsScopesOf declared.scopes past → last_in (rule_named name) past declared.scopes.present ≡ None)
    → IsRepeated state name → ⊥
not_repeated declared state name is other none (inl phony) = other phony
not_repeated declared state name is other none (inr some) =
    let missing : last_in (rule_named name) state.past (present state) ≡ None
    = ap (last_in (rule_named name) state.past) (present_is declared state is) ∙ none state.past is.scopes in
    both _ missing some
  where
    both : {T : Type 0} (found : Option T) → found ≡ None → IsSome found → ⊥
    both None missing some = cc
    both (Some value) missing some = cc
