-- Statements without faults are sound, and leave transactions at their ends alone.
use Rattle.std.proofs.Common.{◌≡◌, ℕ, suc, Bool, true, false, not, ◌&&◌, List, [], ◌∷◌, ◌++◌, map, Option, Some, None, option_map, unwrap_or, find, cond, refl, sym, subst, subst₂}
use Rattle.std.specs.Prelude.{◌==◌}
use Rattle.c_tree.specs.BareExpr.{Bytes, BareType}
use Rattle.c_tree.specs.BareStmt.{BareStmt, BareStmts}
use Rattle.c_tree.specs.BareDef.{BareBinding, BareDef}
use Rattle.c_tree.specs.Bare.{bare_binding, bare_block, bare_def, bare_expr, bare_kind, bare_stmt, bare_stmt_node, bare_type}
use Rattle.c_tree.specs.declared.name.CType.{CType}
use Rattle.c_tree.specs.declared.expr.Expr.{Expr}
use Rattle.c_tree.specs.declared.stmt.Stmt.{Stmt, Stmt-F}
use Rattle.c_tree.specs.declared.stmt.Stmt.TheFolds.{fold-roll-Stmt, ind-Stmt, map-Stmt}
use Rattle.c_tree.specs.declared.stmt.StmtNode.{StmtNode}
use Rattle.c_tree.specs.declared.stmt.StmtNode.TheVariants.{Block, Empty, Evaluate, Declare, If, IfElse, While, DoWhile, For, Break, Continue, Return, ReturnValue, Update, Transaction}
use Rattle.c_tree.specs.declared.def.Def.{Def}
use Rattle.c_tree.specs.declared.def.DefKind.{DefKind}
use Rattle.c_tree.specs.declared.def.DefKind.TheVariants as kind
use Rattle.c_expr_types.specs.declared.fault.TypeKind.TheVariants.{LeavesTransaction}
use Rattle.c_expr_types.specs.declared.found.Found.{Found}
use Rattle.c_definitions.specs.declared.lookup.Position.TheVariants.{InFunction}
use Rattle.c_types.specs.declared.statement.Loop.{Loop}
use Rattle.c_types.specs.declared.statement.Loop.TheVariants.{Outside, Within, Beyond}
use Rattle.c_expr_types.specs.Found.{is_evaluated}
use Rattle.c_definitions.specs.Lookup.{Scopes, declare}
use Rattle.c_expr_types.specs.Expressions.{fits, is_condition}
use Rattle.c_types.specs.Definitions.{inside}
use Rattle.c_types.specs.Statements.{Around, Walked, behind, beyond, expression_faults, in_a_transaction, in_block, in_loop, in_order, jump_faults, leaving_faults, optional_faults, part_in, return_faults, stmt_node, value_return_faults, walk}
use Rattle.c_semantics.specs.Texts.{Definitions, defines, int}
use Rattle.c_semantics.specs.Resolution.{as_locals, declared_by, declared_by_all, resolved_body, statement, statements}
use Rattle.c_semantics.specs.Leaving.{stays, all_stay, leaves_at_ends}
use Rattle.typed_uses.proofs.Faultless.{meets, none_after, none_before, none_hidden, passes}
use Rattle.typed_uses.proofs.SoundTexts.{AllSound as AllTyped, Facts, Sound as Typed}
use Rattle.typed_uses.proofs.Lookups.{look}
use Rattle.frame_bodies.proofs.Sound.{Sound, SoundIf, SoundStmt, SoundStmts}
use Rattle.frame_bodies.proofs.ResolvedSame.{SoundBody}
use Rattle.frame_bodies.proofs.TypedExpressions.{Called, expression_sound}

no : false ≡ true → ⊥
no e = cc

both_hold : (a b : Bool) → a ≡ true → b ≡ true → (a && b) ≡ true
both_hold true b g h = h
both_hold false b g h = absurd (no g)

-- ---- expressions

evaluation : (test : Found → Bool) (around : Around) → Facts around.text → (e : Expr) → expression_faults test around e ≡ []
    → Sound (Called around.text) (bare_expr e)
evaluation test around facts e none =
    expression_sound (record { text = around.text; scopes = around.scopes; position = InFunction }) facts e
    (meets (test (part_in around e).found) (part_in around e) none).1

evaluation_if : (test : Found → Bool) (around : Around) → Facts around.text → (e : Option Expr) → optional_faults test around e ≡ []
    → SoundIf (Called around.text) (option_map bare_expr e)
evaluation_if test around facts None none = tt
evaluation_if test around facts (Some e) none = evaluation test around facts e none

returned : (at : ℕ) (around : Around) → Facts around.text → (e : Expr) (result : Option CType) → value_return_faults result at around e ≡ []
    → Sound (Called around.text) (bare_expr e)
returned at around facts e None none = cc
returned at around facts e (Some t) none = evaluation (fits around.text t) around facts e none

-- ---- loops and transactions round a statement

-- in how many transactions a statement is, and whether a loop encloses it in the innermost one
record Levels (loops : Loop) (in_transaction : Bool) (d : ℕ) (looped : Bool) : Type 0 where
  jumps : (at : ℕ) → jump_faults loops at ≡ [] → looped ≡ true
  leaves : not in_transaction ≡ true → (d == 0) ≡ true

looping : (loops : Loop) (in_transaction : Bool) (d : ℕ) (looped : Bool) → Levels loops in_transaction d looped → Levels Within in_transaction d true
looping loops in_transaction d looped l = record { jumps = λ at e. refl; leaves = l.leaves }

inner : (loops : Loop) (d : ℕ) → Levels (beyond loops) true d false
inner loops d = record { jumps = by loops; leaves = λ e. absurd (no e) }
  where
    by : (loops : Loop) (at : ℕ) → jump_faults (beyond loops) at ≡ [] → false ≡ true
    by Outside at e = cc
    by Within at e = cc
    by Beyond at e = cc

outermost : Levels Outside false 0 false
outermost = record { jumps = λ at e. cc; leaves = λ e. refl }

-- ---- statements

-- a statement is sound, and stays in the transactions in which it is
record Fine (around : Around) (b : BareStmt) : Type 0 where
  sound : SoundStmt (Called around.text) b
  stays : (d : ℕ) (looped : Bool) → Levels around.loop around.in_transaction d looped
      → (look : Definitions) (result : BareType) (locals : List BareBinding) → stays d looped (statement look result locals b) ≡ true

record AllFine (around : Around) (bs : BareStmts) : Type 0 where
  sound : SoundStmts (Called around.text) bs
  stays : (d : ℕ) (looped : Bool) → Levels around.loop around.in_transaction d looped
      → (look : Definitions) (result : BareType) (locals : List BareBinding) → all_stay d looped (statements look result locals bs) ≡ true

abbrev IfFaultless : (Around → Walked) → BareStmt → Type 0
IfFaultless w b = (around : Around) → Facts around.text → (w around).faults ≡ [] → Fine around b

abbrev EachIfFaultless : List Stmt → Type 0
EachIfFaultless [] = Unit {0}
EachIfFaultless (s ∷ ss) = IfFaultless (walk s) (bare_stmt s) × EachIfFaultless ss

all_fine : (ss : List Stmt) → EachIfFaultless ss → (around : Around) → Facts around.text
    → (in_order (map walk ss) around).faults ≡ [] → AllFine around (bare_block (map bare_stmt ss))
all_fine [] each around facts none = record { sound = tt; stays = λ d looped l look result locals. refl }
all_fine (x ∷ xs) each around facts none =
    let own = each.0 around facts (none_before (walk x around).faults _ none) in
    let more = all_fine xs each.1 (behind (walk x around).scopes around) facts (none_after (walk x around).faults _ none) in
    record {
      sound = (own.sound, more.sound);
      stays = λ d looped l look result locals.
          both_hold _ _ (own.stays d looped l look result locals) (more.stays d looped l look result (declared_by (bare_stmt x) locals));
    }

abbrev Proved : Type 0
Proved = (s : Stmt) × IfFaultless (walk s) (bare_stmt s)

each : (ss : List Proved) → EachIfFaultless (map (λ s. s.0) ss)
each [] = tt
each (s ∷ ss) = (s.1, each ss)

abbrev Layer : Stmt-F Stmt → Type 0
Layer x = IfFaultless (stmt_node x.place (map-Stmt Stmt (Around → Walked) walk x).node) (bare_stmt_node (map-Stmt Stmt BareStmt bare_stmt x).node)

of_node : (place : ℕ) (n : StmtNode Proved) → Layer (map-Stmt Proved Stmt (λ s. s.0) (record { place = place; node = n }))
of_node place (Block ss) around facts none =
    let all = all_fine (map (λ x. x.0) ss) (each ss) (in_block around) facts none in
    record { sound = all.sound; stays = λ d looped l look result locals. all.stays d looped l look result locals }
of_node place Empty around facts none = record { sound = tt; stays = λ d looped l look result locals. refl }
of_node place (Evaluate e) around facts none =
    record { sound = evaluation is_evaluated around facts e none; stays = λ d looped l look result locals. refl }
of_node place (Declare x) around facts none =
    let scope : Scopes = declare x.name.text x.declared around.scopes in
    record {
      sound = evaluation_if (fits around.text x.declared) (behind scope around) facts x.initial
          (none_hidden (optional_faults (fits around.text x.declared) (behind scope around) x.initial) _ none).0;
      stays = λ d looped l look result locals. refl;
    }
of_node place (If c a) around facts none =
    let own = a.1 (in_block around) facts (none_after (expression_faults is_condition around c) _ none) in
    record {
      sound = (evaluation is_condition around facts c (none_before (expression_faults is_condition around c) _ none), own.sound);
      stays = λ d looped l look result locals. own.stays d looped l look result locals;
    }
of_node place (IfElse c a b) around facts none =
    let branches = none_after (expression_faults is_condition around c) _ none in
    let one = a.1 (in_block around) facts (none_before (walk a.0 (in_block around)).faults _ branches) in
    let other = b.1 (in_block around) facts (none_after (walk a.0 (in_block around)).faults _ branches) in
    record {
      sound = (evaluation is_condition around facts c (none_before (expression_faults is_condition around c) _ none), one.sound, other.sound);
      stays = λ d looped l look result locals.
          both_hold _ _ (one.stays d looped l look result locals) (other.stays d looped l look result locals);
    }
of_node place (While c a) around facts none =
    let own = a.1 (in_block (in_loop around)) facts (none_after (expression_faults is_condition around c) _ none) in
    record {
      sound = (evaluation is_condition around facts c (none_before (expression_faults is_condition around c) _ none), own.sound);
      stays = λ d looped l look result locals.
          own.stays d true (looping around.loop around.in_transaction d looped l) look result locals;
    }
of_node place (DoWhile a c) around facts none =
    let body = (walk a.0 (in_block (in_loop around))).faults in
    let own = a.1 (in_block (in_loop around)) facts (none_before body _ none) in
    record {
      sound = (evaluation is_condition around facts c (none_after body _ none), own.sound);
      stays = λ d looped l look result locals.
          own.stays d true (looping around.loop around.in_transaction d looped l) look result locals;
    }
of_node place (For first test step a) around facts none =
    let block = in_block around in
    let opening = in_order (map walk (map (λ x. x.0) first)) block in
    let then = behind opening.scopes block in
    let of_test = optional_faults is_condition then test in
    let of_step = optional_faults is_evaluated then step in
    let body = (walk a.0 (in_block (in_loop then))).faults in
    let turn = none_after opening.faults (of_test ++ (of_step ++ body)) none in
    let rest = none_after of_test (of_step ++ body) turn in
    let begun = all_fine (map (λ x. x.0) first) (each first) block facts (none_before opening.faults (of_test ++ (of_step ++ body)) none) in
    let own = a.1 (in_block (in_loop then)) facts (none_after of_step body rest) in
    record {
      sound = (
        begun.sound,
        evaluation_if is_condition then facts test (none_before of_test (of_step ++ body) turn),
        evaluation_if is_evaluated then facts step (none_before of_step body rest),
        own.sound,
      );
      stays = λ d looped l look result locals.
          both_hold _ _ (begun.stays d looped l look result locals)
          (own.stays d true (looping around.loop around.in_transaction d looped l) look result
          (declared_by_all (bare_block (map bare_stmt (map (λ x. x.0) first))) locals));
    }
of_node place Break around facts none =
    record { sound = tt; stays = λ d looped l look result locals. l.jumps place none }
of_node place Continue around facts none =
    record { sound = tt; stays = λ d looped l look result locals. l.jumps place none }
of_node place Return around facts none =
    record {
      sound = tt;
      stays = λ d looped l look result locals.
          l.leaves (passes (not around.in_transaction) LeavesTransaction place (none_after (return_faults around.result place) _ none));
    }
of_node place (ReturnValue e) around facts none =
    record {
      sound = returned place around facts e around.result (none_after (leaving_faults around place) _ none);
      stays = λ d looped l look result locals.
          l.leaves (passes (not around.in_transaction) LeavesTransaction place (none_before (leaving_faults around place) _ none));
    }
of_node place Update around facts none = record { sound = tt; stays = λ d looped l look result locals. refl }
of_node place (Transaction ss end) around facts none =
    let all = all_fine (map (λ x. x.0) ss) (each ss) (in_block (in_a_transaction around)) facts none in
    record {
      sound = all.sound;
      stays = λ d looped l look result locals. all.stays (suc d) false (inner around.loop (suc d)) look result locals;
    }

stmt_fine : (s : Stmt) → IfFaultless (walk s) (bare_stmt s)
stmt_fine = ind-Stmt (λ s. IfFaultless (walk s) (bare_stmt s)) (λ x y is.
    let layer : Layer x = subst Layer is (of_node y.place y.node) in
    subst₂ IfFaultless (sym (fold-roll-Stmt (Around → Walked) (λ s. stmt_node s.place s.node) x))
    (sym (fold-roll-Stmt BareStmt (λ s. bare_stmt_node s.node) x)) layer)

each_fine : (ss : List Stmt) → EachIfFaultless ss
each_fine [] = tt
each_fine (s ∷ ss) = (stmt_fine s, each_fine ss)

-- ---- functions

-- a definition's body is sound, and leaves transactions at their ends
pub record FineBody (text : List Def) (o : Option BareDef) : Type 0 where
  pub sound : SoundBody (Called text) o
  pub leaves : (look : Definitions) → leaves_at_ends (resolved_body look o) ≡ true

fine_kind : (text : List Def) → Facts text → (k : DefKind) → Typed text k → FineBody text (Some (bare_kind k))
fine_kind text facts (kind.Struct tag members) s = record { sound = tt; leaves = λ look. refl }
fine_kind text facts (kind.Forward tag) s = record { sound = tt; leaves = λ look. refl }
fine_kind text facts (kind.Mutex name) s = record { sound = tt; leaves = λ look. refl }
fine_kind text facts (kind.Function f) s =
    let all = all_fine f.body (each_fine f.body) (inside text f) facts s.body in
    record {
      sound = all.sound;
      leaves = λ look. all.stays 0 false outermost look (unwrap_or (option_map bare_type f.result) int) (as_locals (map bare_binding f.parameters));
    }
fine_kind text facts (kind.Prototype p) s = record { sound = tt; leaves = λ look. refl }
fine_kind text facts (kind.Global d) s = record { sound = tt; leaves = λ look. refl }
fine_kind text facts (kind.Array a) s = record { sound = tt; leaves = λ look. refl }
fine_kind text facts (kind.TransformStruct t) s = record { sound = tt; leaves = λ look. refl }
fine_kind text facts (kind.TransformGlobal name v) s = record { sound = tt; leaves = λ look. refl }

fine_found : (text ds : List Def) (name : Bytes) → Facts text → AllTyped text ds → FineBody text (find (defines name) (map bare_def ds))
fine_found text [] name facts s = record { sound = tt; leaves = λ look. refl }
fine_found text (d ∷ ds) name facts s = by (defines name (bare_def d)) (fine_found text ds name facts s.1)
  where
    by : (b : Bool) → FineBody text (find (defines name) (map bare_def ds))
        → FineBody text (cond b (Some (bare_def d)) (find (defines name) (map bare_def ds)))
    by true rest = fine_kind text facts d.kind s.0
    by false rest = rest

pub fine_body : (text : List Def) (name : Bytes) → Facts text → FineBody text (look text name)
fine_body text name facts = fine_found text text name facts facts.sound
