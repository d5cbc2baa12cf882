-- A tree whose names are resolved has the constants that are written, and small ones of the language.
use Rattle.std.proofs.Common.{◌≡◌, ℤ, pos, List, [], ◌∷◌, Option, Some, None, arith, option_map}
use Rattle.std.proofs.lemmas.Int.{ints}
use Rattle.c_ints.specs.declared.kind.Kind.TheVariants.{I32}
use Rattle.c_ints.specs.declared.operator.BinOp.{BinOp}
use Rattle.c_ints.specs.Number.{number}
use Rattle.c_tree.specs.declared.expr.StepOp.{StepOp}
use Rattle.c_tree.specs.declared.expr.StepOp.TheVariants.{PreIncrement, PreDecrement, PostIncrement, PostDecrement}
use Rattle.c_tree.specs.BareExpr.{Bytes, BareType, Integer, Handle, Thread, BareExpr, BareExprs}
use Rattle.c_tree.specs.BareExpr as bare
use Rattle.c_tree.specs.BareStmt.{BareDeclaration, BareStmt, BareStmts}
use Rattle.c_tree.specs.BareStmt as bare_s
use Rattle.c_tree.specs.BareDef.{BareBinding}
use Rattle.c_semantics.specs.Texts.{Definitions, bound, parameters_of}
use Rattle.c_semantics.specs.Resolved.{Expression, Expressions, Place, NoExpressions, ExpressionThen}
use Rattle.c_semantics.specs.Resolution.{Resolved, common_type, declared_by, declared_by_all, field, handed, int_value, passed, resolved, resolved_all, side, statement, statements, step, tree_of, variable}
use Rattle.constant_ranges.specs.Ranges.{AllRanged, IsRanged, PlaceRanged, Ranged, RangedIf, StatementRanged, StatementsRanged}
use Rattle.constant_ranges.proofs.BareRanges.{AllBareRanged, BareRanged, BareRangedIf, StmtRanged, StmtsRanged}

-- a tree and the place that it is
pub record Fine (r : Resolved) : Type 0 where
  pub tree : Ranged r.tree
  pub place : PlaceRanged r.place

zero_ranged : IsRanged (number I32 (pos 0))
zero_ranged = (omega (arith, ints), omega (arith, ints))

one_ranged : IsRanged (number I32 (pos 1))
one_ranged = (omega (arith, ints), omega (arith, ints))

side_ranged : (type : BareType) (e : Expression) → Ranged e → Ranged (side type e)
side_ranged (Integer k) e h = h
side_ranged (Handle tag) e h = h
side_ranged Thread e h = h

step_fine : (op : StepOp) (a : Resolved) → Fine a → Fine (step op a)
step_fine PreIncrement a h = record { tree = (h.place, one_ranged); place = tt }
step_fine PreDecrement a h = record { tree = (h.place, one_ranged); place = tt }
step_fine PostIncrement a h = record { tree = h.place; place = tt }
step_fine PostDecrement a h = record { tree = h.place; place = tt }

variable_fine : (look : Definitions) (name : Bytes) (b : Option BareBinding) → Fine (variable look name b)
variable_fine look name (Some b) = record { tree = tt; place = tt }
variable_fine look name None = record { tree = tt; place = tt }

passed_ranged : (es : Expressions) (parameters : List BareBinding) → AllRanged es → AllRanged (passed es parameters)
passed_ranged NoExpressions parameters h = tt
passed_ranged (ExpressionThen e es) [] h = (h.0, passed_ranged es [] h.1)
passed_ranged (ExpressionThen e es) (p ∷ ps) h = (h.0, passed_ranged es ps h.1)

handed_ranged : (parameters : List BareBinding) (e : Expression) → Ranged e → Ranged (handed parameters e)
handed_ranged [] e h = h
handed_ranged (p ∷ ps) e h = h

module _ (look : Definitions) where
  mutual
    pub expression_fine : (locals : List BareBinding) (e : BareExpr) → BareRanged e → Fine (resolved look locals e)
    expression_fine locals (bare.Number n) h = record { tree = h; place = tt }
    expression_fine locals (bare.Character n) h = record { tree = h; place = tt }
    expression_fine locals bare.Null h = record { tree = zero_ranged; place = tt }
    expression_fine locals bare.Success h = record { tree = zero_ranged; place = tt }
    expression_fine locals bare.Error h = record { tree = one_ranged; place = tt }
    expression_fine locals (bare.Variable name) h = variable_fine look name (bound locals name)
    expression_fine locals (bare.Unary op a) h = record { tree = (expression_fine locals a h).tree; place = tt }
    expression_fine locals (bare.Step op a) h = step_fine op (resolved look locals a) (expression_fine locals a h)
    expression_fine locals (bare.Cast to a) h = record { tree = (expression_fine locals a h).tree; place = tt }
    expression_fine locals (bare.Binary op a b) h =
        let type = common_type (resolved look locals a).type (resolved look locals b).type in
        record {
          tree = (
            side_ranged type (resolved look locals a).tree (expression_fine locals a h.0).tree,
            side_ranged type (resolved look locals b).tree (expression_fine locals b h.1).tree,
          );
          place = tt;
        }
    expression_fine locals (bare.And a b) h =
        record { tree = ((expression_fine locals a h.0).tree, (expression_fine locals b h.1).tree); place = tt }
    expression_fine locals (bare.Or a b) h =
        record { tree = ((expression_fine locals a h.0).tree, (expression_fine locals b h.1).tree); place = tt }
    expression_fine locals (bare.Choice c a b) h = record {
      tree = ((expression_fine locals c h.0).tree, (expression_fine locals a h.1).tree, (expression_fine locals b h.2).tree);
      place = tt;
    }
    expression_fine locals (bare.Assign a b) h =
        record { tree = ((expression_fine locals a h.0).place, (expression_fine locals b h.1).tree); place = tt }
    expression_fine locals (bare.Update op a b) h =
        record { tree = ((expression_fine locals a h.0).place, (expression_fine locals b h.1).tree); place = tt }
    expression_fine locals (bare.Call name arguments) h = record {
      tree = passed_ranged (resolved_all look locals arguments) (parameters_of (look name)) (arguments_fine locals arguments h);
      place = tt;
    }
    expression_fine locals (bare.Element name a) h =
        let x = (expression_fine locals a h).tree in record { tree = x; place = x }
    expression_fine locals (bare.Arrow a name) h =
        let x = (expression_fine locals a h).tree in record { tree = x; place = x }
    expression_fine locals (bare.Dot a name) h = record { tree = zero_ranged; place = tt }
    expression_fine locals (bare.Print format arguments) h = record { tree = arguments_fine locals arguments h; place = tt }
    expression_fine locals (bare.Calloc tag) h = record { tree = tt; place = tt }
    expression_fine locals (bare.Free a) h = record { tree = (expression_fine locals a h).tree; place = tt }
    expression_fine locals (bare.Create a name b) h = record {
      tree = (
        (expression_fine locals a h.0).place,
        handed_ranged (parameters_of (look name)) (resolved look locals b).tree (expression_fine locals b h.1).tree,
      );
      place = tt;
    }
    expression_fine locals (bare.Join a) h = record { tree = (expression_fine locals a h).tree; place = tt }
    expression_fine locals (bare.JoinInto a b) h =
        record { tree = ((expression_fine locals a h.0).tree, (expression_fine locals b h.1).place); place = tt }
    expression_fine locals (bare.InitMutex name) h = record { tree = tt; place = tt }
    expression_fine locals (bare.Lock name) h = record { tree = tt; place = tt }
    expression_fine locals (bare.Unlock name) h = record { tree = tt; place = tt }

    pub arguments_fine : (locals : List BareBinding) (es : BareExprs) → AllBareRanged es → AllRanged (resolved_all look locals es)
    arguments_fine locals bare.NoExprs h = tt
    arguments_fine locals (bare.ExprThen e es) h = ((expression_fine locals e h.0).tree, arguments_fine locals es h.1)

  optional_fine : (locals : List BareBinding) (o : Option BareExpr) → BareRangedIf o → RangedIf (option_map (tree_of look locals) o)
  optional_fine locals None h = tt
  optional_fine locals (Some e) h = (expression_fine locals e h).tree

  initial_fine : (locals : List BareBinding) (d : BareDeclaration) (o : Option BareExpr) → BareRangedIf o
      → RangedIf (option_map (λ e. Expression.Convert d.declared (tree_of look (record { declared = d.declared; name = d.name } ∷ locals) e)) o)
  initial_fine locals d None h = tt
  initial_fine locals d (Some e) h = (expression_fine (record { declared = d.declared; name = d.name } ∷ locals) e h).tree

  module _ (result : BareType) where
    mutual
      pub statement_fine : (locals : List BareBinding) (s : BareStmt) → StmtRanged s → StatementRanged (statement look result locals s)
      statement_fine locals (bare_s.Block ss) h = statements_fine locals ss h
      statement_fine locals bare_s.Empty h = tt
      statement_fine locals (bare_s.Evaluate e) h = (expression_fine locals e h).tree
      statement_fine locals (bare_s.Declare d) h = initial_fine locals d d.initial h
      statement_fine locals (bare_s.If c s) h = ((expression_fine locals c h.0).tree, statement_fine locals s h.1)
      statement_fine locals (bare_s.IfElse c s t) h =
          ((expression_fine locals c h.0).tree, statement_fine locals s h.1, statement_fine locals t h.2)
      statement_fine locals (bare_s.While c s) h = ((expression_fine locals c h.0).tree, statement_fine locals s h.1)
      statement_fine locals (bare_s.DoWhile s c) h = (statement_fine locals s h.0, (expression_fine locals c h.1).tree)
      statement_fine locals (bare_s.For first test step s) h =
          let inner = declared_by_all first locals in (
            statements_fine locals first h.0,
            optional_fine inner test h.1,
            optional_fine inner step h.2,
            statement_fine inner s h.3,
          )
      statement_fine locals bare_s.Break h = tt
      statement_fine locals bare_s.Continue h = tt
      statement_fine locals bare_s.Return h = zero_ranged
      statement_fine locals (bare_s.ReturnValue e) h = (expression_fine locals e h).tree
      statement_fine locals bare_s.Update h = tt
      statement_fine locals (bare_s.Transaction ss) h = statements_fine locals ss h

      pub statements_fine : (locals : List BareBinding) (ss : BareStmts) → StmtsRanged ss → StatementsRanged (statements look result locals ss)
      statements_fine locals bare_s.NoStmts h = tt
      statements_fine locals (bare_s.StmtThen s ss) h =
          (statement_fine locals s h.0, statements_fine (declared_by s locals) ss h.1)
