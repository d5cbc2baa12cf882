-- Statements in a row: one more at the end, the last of those that are left, and their weights.
use Rattle.std.proofs.Common.{◌≡◌, ℕ, zero, suc, ◌-◌, ◌<◌, ◌≤◌, List, [], ◌∷◌, ◌++◌, length, map, get_or, drop, refl, sym, ap, ◌∙◌, arith}
use Rattle.std.proofs.Math.Seq.{drop-cons}
use Rattle.c_semantics.specs.Resolved.{Statements, StatementThen}
use Rattle.c_semantics.specs.Points.{of_statement, of_statements}
use Rattle.c_semantics.specs.Skeletons.{statement, statements}
use Rattle.resolved_tree.specs.declared.node.NodeId.{NodeId}
use Rattle.name_resolution.specs.Found.{before}
use Rattle.resolved_tree.specs.Nodes.{Table, statement_at}
use Rattle.skeleton_gen.specs.Adding.{Drawn, AddsFlow, targets}
use Rattle.skeleton_gen.specs.Rows.{in_a_row}
use Rattle.skeleton_gen.specs.Weights as weight
use Rattle.skeleton_gen.proofs.StatementParts.{adds_then, at_statements}

-- one more at the end
pub row_more : (t : Table) (ids : List NodeId) (s : NodeId) (others : Statements)
    → before (map (statement_at t) (ids ++ s ∷ [])) others ≡ before (map (statement_at t) ids) (StatementThen (statement_at t s) others)
row_more t [] s others = refl
row_more t (id ∷ ids) s others = ap (StatementThen (statement_at t id)) (row_more t ids s others)

-- each weighs less than all
pub row_weight : (t : Table) (ids : List NodeId) (i : ℕ) (d : NodeId) → i < length ids
    → weight.of_statement (statement_at t (get_or ids i d)) < weight.of_statements (in_a_row t ids)
row_weight t [] i d h = absurd (omega arith)
row_weight t (id ∷ ids) zero d h = omega arith
row_weight t (id ∷ ids) (suc i) d h = let k = row_weight t ids i d (omega arith) in omega arith

row_rest : (t : Table) (ids : List NodeId) (left : ℕ) (d : NodeId) → 0 < left → left ≤ length ids
    → StatementThen (statement_at t (get_or ids (left - 1) d)) (in_a_row t (drop left ids)) ≡ in_a_row t (drop (left - 1) ids)
row_rest t ids left d some within =
    let e : suc (left - 1) ≡ left = omega arith in
    sym (ap (in_a_row t) (drop-cons ids (left - 1) d (omega arith) ∙ ap (λ n. get_or ids (left - 1) d ∷ drop n ids) e))

-- one statement before the last of them
pub adds_one_of_row : {f g : List ℕ} {u v w : Drawn} (t : Table) (d : ℕ) (ids : List NodeId) (left : ℕ) (some : NodeId)
    (on broken continued : List ℕ) → 0 < left → left ≤ length ids
    → AddsFlow (of_statements d (in_a_row t (drop left ids))) (λ n. statements (in_a_row t (drop left ids)) n (targets on broken continued)) u v f
    → AddsFlow (of_statement d (statement_at t (get_or ids (left - 1) some)))
    (λ n. statement (statement_at t (get_or ids (left - 1) some)) n (targets f broken continued)) v w g
    → AddsFlow (of_statements d (in_a_row t (drop (left - 1) ids))) (λ n. statements (in_a_row t (drop (left - 1) ids)) n (targets on broken continued)) u w g
adds_one_of_row t d ids left some on broken continued more within rest here =
    at_statements d (targets on broken continued) (row_rest t ids left some more within)
    (adds_then d (statement_at t (get_or ids (left - 1) some)) (in_a_row t (drop left ids)) on broken continued rest here)
