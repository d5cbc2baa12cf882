-- Walks over statements, from what their parts emit.
use Rattle.std.proofs.Common.{◌≡◌, ℕ, List, [], ◌∷◌, length, map, refl, sym, ap, ◌∙◌}
use Rattle.std.proofs.lemmas.List.{length-map, length-reverse}
use Rattle.c_semantics.specs.Resolved.{Statement, Statements, Block}
use Rattle.c_semantics.specs.Texts.{Definitions}
use Rattle.resolved_tree.specs.Nodes.{Table}
use Rattle.typed_trees.specs.ValueTypes.{Environment, in_scope}
use Rattle.bytecode.specs.declared.instr.Instr.{Instr}
use Rattle.tree_code.specs.Code.{Code}
use Rattle.expr_gen.specs.declared.context.Variable.{Variable}
use Rattle.expr_gen.specs.Scope.{binding_of, variables_of}
use Rattle.bytecode_gen.specs.declared.part.Jumps.{Jumps}
use Rattle.bytecode_gen.specs.Tails.{Precedes, Emits, Walks, InScope, AreInside, statement_code, statements_code}
use Rattle.bytecode_gen.proofs.Preceding.{still_inside}
use Rattle.bytecode_gen.proofs.Scoping.{in_one_scope}
use Rattle.bytecode_gen.proofs.StatementCode.{of_statement}

-- where no variable comes or goes
pub walks : {t : Table} {vs : List Variable} {x y : List Instr} {f : Environment → Code} → Emits t vs x y f → Walks t vs vs x y f
walks h = record { emits = h; keeps = refl }

-- of an equal statement
pub walks_statement : {t : Table} {vs ws : List Variable} {x y : List Instr} {s r : Statement} (look : Definitions) (n : ℕ) (jumps : Jumps) → s ≡ r
    → Walks t vs ws x y (statement_code look s n jumps x) → Walks t vs ws x y (statement_code look r n jumps x)
walks_statement look n jumps e h = record {
  emits = record { code = λ env scope. of_statement look env n jumps e (h.emits.code env scope) };
  keeps = h.keeps;
}

-- of a block, whose scope is empty when it begins
pub walks_block : {t : Table} {vs ws : List Variable} {x y : List Instr} (look : Definitions) (ss : Statements) (n : ℕ) (jumps : Jumps)
    → Walks t vs ws x y (statements_code look ss n jumps x) → Walks t vs ws x y (statement_code look (Block ss) n jumps x)
walks_block look ss n jumps h = record {
  emits = record { code = λ env scope. h.emits.code ([] ∷ env) (record { same = scope.same }) };
  keeps = h.keeps;
}

-- in the scope that the variables themselves are
pub emitted : {t : Table} {vs : List Variable} {x y : List Instr} {f : Environment → Code} → Emits t vs x y f
    → Precedes t x y (f (variables_of t vs ∷ []))
emitted {t} {vs} h = h.code (variables_of t vs ∷ []) (in_one_scope t vs)

pub still_inside_walk : {t : Table} {jumps : Jumps} {vs ws : List Variable} {x y : List Instr} {f : Environment → Code} → AreInside jumps x
    → Walks t vs ws x y f → AreInside jumps y
still_inside_walk inside h = still_inside inside (emitted h.emits)

-- variables that are the same ones, in another list
pub emits_of : {t : Table} {us vs : List Variable} {x y : List Instr} {f : Environment → Code} → us ≡ vs → Emits t us x y f → Emits t vs x y f
emits_of {t} is h = record { code = λ env scope. h.code env (record { same = scope.same ∙ sym (ap (variables_of t) is) }) }

pub scope_of : {t : Table} {vs ws us : List Variable} {env : Environment} → us ≡ ws → variables_of t ws ≡ variables_of t vs → InScope t env vs
    → InScope t env us
scope_of {t} is kept scope = record { same = scope.same ∙ sym kept ∙ sym (ap (variables_of t) is) }

-- how many there are
pub all_counted : {t : Table} {vs ws : List Variable} {env : Environment} {n : ℕ} → n ≡ length ws → ws ≡ vs → InScope t env vs
    → n ≡ length (in_scope env)
all_counted {t} {vs} counted is scope =
    counted ∙ ap length is ∙ sym (length-reverse (map (binding_of t) vs) ∙ length-map vs (binding_of t)) ∙ sym (ap length scope.same)
