-- Variables that come into scope and go out of it, in a list and in the definitions' scopes.
use Rattle.std.proofs.Common.{◌≡◌, ℕ, ◌+◌, ◌-◌, List, [], ◌∷◌, ◌++◌, map, take, reverse, length, sym, refl, ap, ◌∙◌, arith, append-nil, append_assoc}
use Rattle.std.proofs.lemmas.List.{map-append, take-map, length-map, reverse-append, reverse-reverse, length-reverse}
use Rattle.std.proofs.Math.Seq.{take-append_seam}
use Rattle.c_tree.specs.BareExpr.{Bytes, BareType}
use Rattle.c_tree.specs.BareDef.{BareBinding}
use Rattle.c_semantics.specs.Resolved.{Statement, Statements, Declare, NoStatements, StatementThen}
use Rattle.resolved_tree.specs.Nodes.{Table, type_of, word}
use Rattle.typed_trees.specs.StatementTypes.{with_variable, declares, declare_all}
use Rattle.typed_trees.specs.ValueTypes.{Environment, in_scope}
use Rattle.expr_gen.specs.declared.context.Variable.{Variable}
use Rattle.expr_gen.specs.Scope.{binding_of, variables_of}
use Rattle.bytecode_gen.specs.Tails.{InScope}

scope_with : (type : BareType) (name : Bytes) (env : Environment)
    → in_scope (with_variable type name env) ≡ record { declared = type; name = name } ∷ in_scope env
scope_with type name [] = refl
scope_with type name (bindings ∷ outer) = refl

-- one variable more
variables_pushed : (t : Table) (vs more : List Variable) (v : Variable) → more ≡ vs ++ v ∷ [] → variables_of t more ≡ binding_of t v ∷ variables_of t vs
variables_pushed t vs more v e =
    ap (variables_of t) e ∙ ap reverse (map-append (binding_of t) vs (v ∷ [])) ∙ reverse-append (map (binding_of t) vs) (binding_of t v ∷ [])

pub pushed : (t : Table) (env : Environment) (vs more : List Variable) (v : Variable) → more ≡ vs ++ v ∷ [] → InScope t env vs
    → InScope t (with_variable (type_of t v.declared) (word t v.name) env) more
pushed t env vs more v e scope = record {
  same = scope_with (type_of t v.declared) (word t v.name) env ∙ ap (λ bs. binding_of t v ∷ bs) scope.same
      ∙ sym (variables_pushed t vs more v e);
}

variables_length : (t : Table) (vs : List Variable) → length (variables_of t vs) ≡ length vs
variables_length t vs = length-reverse (map (binding_of t) vs) ∙ length-map vs (binding_of t)

-- the oldest variables, when the newest go
pub oldest : (t : Table) (vs : List Variable) (newest rest : List BareBinding) (n : ℕ) → n ≡ length rest → variables_of t vs ≡ newest ++ rest
    → variables_of t (take n vs) ≡ rest
oldest t vs newest rest n few e =
    let bs = map (binding_of t) vs in
    let whole : bs ≡ reverse rest ++ reverse newest = sym (reverse-reverse bs) ∙ ap reverse e ∙ reverse-append newest rest in
    ap reverse (sym (take-map (binding_of t) n vs) ∙ ap (take n) whole ∙ ap (λ k. take k (reverse rest ++ reverse newest)) (few ∙ sym (length-reverse rest))
    ∙ take-append_seam (reverse rest) (reverse newest))
    ∙ reverse-reverse rest

popped : (t : Table) (vs : List Variable) (n : ℕ) (b : BareBinding) (rest : List BareBinding) → n ≡ length vs - 1 → variables_of t vs ≡ b ∷ rest
    → variables_of t (take n vs) ≡ rest
popped t vs n b rest few e =
    let l = ap length e in
    let m = variables_length t vs in
    oldest t vs (b ∷ []) rest n (omega arith) e

pub out_of_scope : (t : Table) (env : Environment) (vs fewer : List Variable) (n : ℕ) (v : Variable) → fewer ≡ take n vs → n ≡ length vs - 1
    → InScope t (with_variable (type_of t v.declared) (word t v.name) env) vs → InScope t env fewer
out_of_scope t env vs fewer n v is few scope =
    let one = scope_with (type_of t v.declared) (word t v.name) env in
    record { same = sym (ap (variables_of t) is ∙ popped t vs n (binding_of t v) (in_scope env) few (sym scope.same ∙ one)) }

pub pushed_and_popped : (t : Table) (vs more fewer : List Variable) (n : ℕ) (v : Variable) → more ≡ vs ++ v ∷ [] → fewer ≡ take n more
    → n ≡ length more - 1 → variables_of t fewer ≡ variables_of t vs
pushed_and_popped t vs more fewer n v e is few =
    ap (variables_of t) is ∙ popped t more n (binding_of t v) (variables_of t vs) few (variables_pushed t vs more v e)

-- the same variables
pub in_one_scope : (t : Table) (vs : List Variable) → InScope t (variables_of t vs ∷ []) vs
in_one_scope t vs = record { same = append-nil (variables_of t vs) }

pub still_in_scope : (t : Table) (env : Environment) (vs same : List Variable) → variables_of t same ≡ variables_of t vs → InScope t env vs → InScope t env same
still_in_scope t env vs same e scope = record { same = scope.same ∙ sym e }

pub inner_block : (t : Table) (env : Environment) (vs : List Variable) → InScope t env vs → InScope t ([] ∷ env) vs
inner_block t env vs scope = record { same = scope.same }

-- what statements declare is newer than what is declared before
record Declares (added : List BareBinding) (before after : Environment) : Type 0 where
  pub all : in_scope after ≡ added ++ in_scope before

declares_one : (s : Statement) (env : Environment) → (added : List BareBinding) × Declares added env (declares s env)
declares_one (Declare type name e) env = (record { declared = type; name = name } ∷ [], record { all = scope_with type name env })
declares_one s env = ([], record { all = refl })

declares_several : (ss : Statements) (env : Environment) → (added : List BareBinding) × Declares added env (declare_all ss env)
declares_several NoStatements env = ([], record { all = refl })
declares_several (StatementThen s ss) env =
    let one = declares_one s env in
    let more = declares_several ss (declares s env) in
    (more.0 ++ one.0, record { all = more.1.all ∙ ap (λ bs. more.0 ++ bs) one.1.all ∙ sym (append_assoc more.0 one.0 (in_scope env)) })

-- without what statements have declared, the variables are as before
pub truncated : (t : Table) (ss : Statements) (vs more same fewer : List Variable) (n : ℕ) → n ≡ length vs
    → InScope t (declare_all ss ([] ∷ variables_of t vs ∷ [])) more → variables_of t same ≡ variables_of t more → fewer ≡ take n same
    → variables_of t fewer ≡ variables_of t vs
truncated t ss vs more same fewer n few scope kept is =
    let d = declares_several ss ([] ∷ variables_of t vs ∷ []) in
    ap (variables_of t) is
    ∙ oldest t same d.0 (variables_of t vs) n (few ∙ sym (variables_length t vs))
    (kept ∙ sym scope.same ∙ d.1.all ∙ ap (λ bs. d.0 ++ bs) (append-nil (variables_of t vs)))
