-- What statements add, from what their parts add.
use Rattle.std.proofs.Common.{◌≡◌, ℕ, suc, ◌+◌, List, [], ◌∷◌, ◌++◌, length, reverse, set, Option, Some, None, refl, sym, ap, ◌∙◌, subst, append_assoc, append-nil, add-zero, add-one, arith}
use Rattle.std.proofs.lemmas.List.{map-append}
use Rattle.run_types.specs.Skeleton.{Point, CheckIn, Begin, End, Update, Return, Back}
use Rattle.run_types.specs.CheckIns as check_in
use Rattle.c_semantics.specs.Resolved.{Expression, Statement, Statements, If, IfElse, While, DoWhile, For, Transaction, UpdatePoint, StatementThen}
use Rattle.c_semantics.specs.Resolved as tree
use Rattle.c_semantics.specs.Points.{at_depth, of_expression, evaluated, evaluated_if, of_statement, of_statements, size, size_stmt, size_stmts}
use Rattle.c_semantics.specs.Skeletons.{Flow, Targets, point, pass, goes, before, guarded, loop, union, statement, statements, expression}
use Rattle.skeleton_gen.specs.Adding.{Drawn, AddsPart, AddsFlow, targets}
use Rattle.skeleton_gen.specs.Loops.{loop_points, loop_flow}
use Rattle.skeleton_gen.proofs.Adding.{adds_in_order, adds_flow_before, adds_both, adds_or_goes, as_flow, same_flow}
use Rattle.skeleton_gen.proofs.Loops.{redirected, flows_equal}
use Rattle.skeleton_gen.proofs.Sizes.{evaluated_size, statement_size, statements_size}

-- statements in order
pub adds_then : (d : ℕ) {f g : List ℕ} {u v w : Drawn} (s : Statement) (ss : Statements) (on broken continued : List ℕ)
    → AddsFlow (of_statements d ss) (λ n. statements ss n (targets on broken continued)) u v f
    → AddsFlow (of_statement d s) (λ n. statement s n (targets f broken continued)) v w g
    → AddsFlow (of_statements d (StatementThen s ss)) (λ n. statements (StatementThen s ss) n (targets on broken continued)) u w g
adds_then d s ss on broken continued rest here =
    adds_flow_before (λ f n. statement s n (targets f broken continued)) (size_stmt s) (statement_size d s) rest here

-- a condition in front of what it decides
adds_test : (d : ℕ) {qs : List Point} {inside : ℕ → Flow} {f g : List ℕ} {u v w : Drawn} (c : Expression)
    → AddsFlow qs inside u v f → AddsFlow (evaluated d c) (λ n. before (expression c n) (goes f)) v w g
    → AddsFlow (evaluated d c ++ qs) (λ n. before (expression c n) (inside (n + size c))) u w g
adds_test d {qs} {inside} c a b =
    same_flow refl
    (λ n. let z = inside (n + size c) in
    flows_equal refl (ap (λ r. r ++ z.next) (append-nil (expression c n z.first).next)))
    (adds_flow_before (λ f n. before (expression c n) (goes f)) (size c) (evaluated_size d c) a b)

pub adds_if : (d : ℕ) {f g : List ℕ} {u v w : Drawn} (c : Expression) (s : Statement) (on broken continued : List ℕ)
    → AddsFlow (of_statement d s) (λ n. statement s n (targets on broken continued)) u v f
    → AddsFlow (evaluated d c) (λ n. guarded (Some c) n (goes f) on) v w g
    → AddsFlow (of_statement d (If c s)) (λ n. statement (If c s) n (targets on broken continued)) u w g
adds_if d c s on broken continued a b = adds_test d c (adds_or_goes on a) b

pub adds_if_else : (d : ℕ) {e f g : List ℕ} {u v w x : Drawn} (c : Expression) (s t : Statement) (on broken continued : List ℕ)
    → AddsFlow (of_statement d t) (λ n. statement t n (targets on broken continued)) u v e
    → AddsFlow (of_statement d s) (λ n. statement s n (targets on broken continued)) v w f
    → AddsFlow (evaluated d c) (λ n. guarded (Some c) n (goes f) e) w x g
    → AddsFlow (of_statement d (IfElse c s t)) (λ n. statement (IfElse c s t) n (targets on broken continued)) u x g
adds_if_else d c s t on broken continued b a test =
    same_flow (sym (append_assoc (evaluated d c) (of_statement d s) (of_statement d t))) (λ n. refl)
    (adds_test d c (adds_both (size_stmt s) (statement_size d s) b a) test)

-- loops
pub adds_while : (d : ℕ) {f : List ℕ} {u v : Drawn} (c : Expression) (s : Statement) (on broken continued : List ℕ)
    → AddsFlow (loop_points d (Some c) None s) (λ n. loop_flow (Some c) None s n on) u v f
    → AddsFlow (of_statement d (While c s)) (λ n. statement (While c s) n (targets on broken continued)) u v f
adds_while d c s on broken continued a =
    same_flow (ap (λ ps. ps ++ (at_depth d Back ∷ [])) (append-nil (evaluated d c ++ of_statement d s)))
    (λ n. let m = n + size c in
    ap (λ b. loop (Some c) n (statement s m) pass b (targets on on on)) (add-zero (m + size_stmt s)))
    a

pub adds_for : (d : ℕ) {f g : List ℕ} {u v w : Drawn} (first : Statements) (test step : Option Expression) (s : Statement)
    (on broken continued : List ℕ) → AddsFlow (loop_points d test step s) (λ n. loop_flow test step s n on) u v f
    → AddsFlow (of_statements d first) (λ n. statements first n (targets f broken continued)) v w g
    → AddsFlow (of_statement d (For first test step s)) (λ n. statement (For first test step s) n (targets on broken continued)) u w g
adds_for d first test step s on broken continued a b =
    let i = of_statements d first in
    let t = evaluated_if d test in
    let l = of_statement d s in
    let p = evaluated_if d step in
    let back = at_depth d Back ∷ [] in
    let joined : i ++ (((t ++ l) ++ p) ++ back) ≡ (((i ++ t) ++ l) ++ p) ++ back =
    sym (append_assoc i ((t ++ l) ++ p) back)
    ∙ ap (λ r. r ++ back) (sym (append_assoc i (t ++ l) p) ∙ ap (λ r. r ++ p) (sym (append_assoc i t l))) in
    same_flow joined (λ n. refl)
    (adds_flow_before (λ f n. statements first n (targets f broken continued)) (size_stmts first) (statements_size d first) a b)

pub adds_do : {d : ℕ} {edge after f : List ℕ} {u v w x y : Drawn} (s : Statement) (c : Expression) (on broken continued : List ℕ)
    (old items : List (List ℕ)) → AddsPart d (Back ∷ []) point [] u v edge
    → AddsPart d (of_expression c) (expression c) (union edge on) v w after
    → AddsFlow (of_statement d s) (λ n. statement s n (targets after on after)) w x f
    → u.next ≡ reverse old → x.next ≡ reverse items → y.at ≡ x.at → y.points ≡ x.points
    → y.next ≡ reverse (set items (length old) f)
    → AddsFlow (of_statement d (DoWhile s c)) (λ n. statement (DoWhile s c) n (targets on broken continued)) u y f
adds_do {d} {edge} {after} {f} {u} {v} {w} {x} {y} s c on broken continued old items a b e ends rows at points next =
    let tests = adds_flow_before (λ f n. expression c n (union f on)) (size c) (evaluated_size d c) (as_flow a) (as_flow b) in
    let bodies = adds_flow_before (λ f n. statement s n (targets f on f)) (size_stmt s) (statement_size d s) tests e in
    let C : ℕ → Flow = λ n. expression c n (union ((n + size c) ∷ []) on) in
    let B : ℕ → Flow = λ n. let r = (C (n + size_stmt s)).first in statement s n (targets r on r) in
    same_flow (sym (append_assoc (of_statement d s) (evaluated d c) (at_depth d Back ∷ []))) (λ n. refl)
    (redirected (λ n. (B n).next ++ (C (n + size_stmt s)).next) old items y
    (λ n. sym (append_assoc (B n).next (C (n + size_stmt s)).next ([] ∷ []))) ends rows at points next bodies)

-- a return
pub adds_return : {d : ℕ} {f g : List ℕ} {u v w : Drawn} (e : Expression) (k : Targets)
    → AddsPart d (Return ∷ []) point [] u v f → AddsPart d (of_expression e) (expression e) f v w g
    → AddsFlow (of_statement d (tree.Return e)) (λ n. statement (tree.Return e) n k) u w g
adds_return {d} e k a b =
    same_flow (map-append (at_depth d) (of_expression e) (Return ∷ [])) (λ n. refl) (as_flow (adds_in_order a b))

-- an update point
pub adds_update : {d : ℕ} {f g : List ℕ} {u v w : Drawn} (on broken continued : List ℕ)
    → AddsPart d (CheckIn check_in.Update ∷ []) point on u v f → AddsPart d (Update ∷ []) point f v w g
    → AddsFlow (of_statement d UpdatePoint) (λ n. statement UpdatePoint n (targets on broken continued)) u w g
adds_update {d} on broken continued a b =
    same_flow refl
    (λ n. let f : ℕ → Flow = λ m. record { first = n ∷ []; next = (m ∷ []) ∷ on ∷ [] } in ap f (add-one n))
    (as_flow (adds_in_order a b))

-- a transaction
pub adds_transaction : {d e : ℕ} {f g h i j : List ℕ} {u v w x y z : Drawn} (ss : Statements) (on broken continued : List ℕ)
    → e ≡ suc d
    → AddsPart d (CheckIn check_in.End ∷ []) point on u v f → AddsPart e (End ∷ []) point f v w g
    → AddsFlow (of_statements e ss) (λ n. statements ss n (targets g broken continued)) w x h
    → AddsPart e (CheckIn check_in.Begin ∷ []) point h x y i → AddsPart d (Begin ∷ []) point i y z j
    → AddsFlow (of_statement d (Transaction ss)) (λ n. statement (Transaction ss) n (targets on broken continued)) u z j
adds_transaction {d} {e} ss on broken continued inner ended end inside begun begin =
    let ends = adds_flow_before (λ f n. point n f) 1 refl (as_flow ended) (as_flow end) in
    let body = adds_flow_before (λ f n. statements ss n (targets f broken continued)) (size_stmts ss) (statements_size e ss) ends inside in
    let checked = adds_flow_before (λ f n. point n f) 1 refl body (as_flow begun) in
    let whole = adds_flow_before (λ f n. point n f) 1 refl checked (as_flow begin) in
    let Points : ℕ → List Point = λ e. at_depth d Begin ∷ at_depth e (CheckIn check_in.Begin) ∷ of_statements e ss
    ++ at_depth e End ∷ at_depth d (CheckIn check_in.End) ∷ [] in
    let Whole : ℕ → ℕ → ℕ → ℕ → ℕ → Flow = λ n second third end ended.
    let s = statements ss third (targets (end ∷ []) broken continued) in
    record { first = n ∷ []; next = (second ∷ []) ∷ s.first ∷ s.next ++ (ended ∷ []) ∷ on ∷ [] } in
    same_flow (ap Points inner)
    (λ n.
    let m : n + 1 + 1 ≡ n + 2 = omega arith in
    let k = n + 2 + size_stmts ss in
    ap (λ b. Whole n b (n + 1 + 1) (n + 1 + 1 + size_stmts ss) (n + 1 + 1 + size_stmts ss + 1)) (add-one n)
    ∙ ap (λ b. Whole n (suc n) b (b + size_stmts ss) (b + size_stmts ss + 1)) m
    ∙ ap (λ b. Whole n (suc n) (n + 2) k b) (add-one k))
    whole

-- an equal statement
pub at_statement : {f : List ℕ} {u v : Drawn} {s t : Statement} (d : ℕ) (k : Targets) → s ≡ t
    → AddsFlow (of_statement d s) (λ n. statement s n k) u v f → AddsFlow (of_statement d t) (λ n. statement t n k) u v f
at_statement {f} {u} {v} {s} {t} d k e a =
    let P : Statement → Type 0 = λ x. AddsFlow (of_statement d x) (λ n. statement x n k) u v f in subst P e a

pub at_statements : {f : List ℕ} {u v : Drawn} {s t : Statements} (d : ℕ) (k : Targets) → s ≡ t
    → AddsFlow (of_statements d s) (λ n. statements s n k) u v f → AddsFlow (of_statements d t) (λ n. statements t n k) u v f
at_statements {f} {u} {v} {s} {t} d k e a =
    let P : Statements → Type 0 = λ x. AddsFlow (of_statements d x) (λ n. statements x n k) u v f in subst P e a
