-- Texts that leave loops, transactions and functions, and their first faults.
use Rattle.std.specs.Prelude.{◌≡◌, pos, [], ◌∷◌, Some, None, codes}
use Rattle.std.proofs.Common.{refl}
use Rattle.c_ints.specs.declared.kind.Kind.TheVariants.{I32}
use Rattle.c_ints.specs.declared.int.Int.TheVariants.{I32 as int32}
use Rattle.c_tree.specs.declared.name.CType.TheVariants.{Integer, Thread}
use Rattle.c_tree.specs.declared.expr.ExprNode.TheVariants as node
use Rattle.c_tree.specs.declared.stmt.StmtNode.TheVariants as made
use Rattle.c_tree.specs.declared.def.DefKind.TheVariants as kind
use Rattle.c_expr_types.specs.declared.fault.TypeKind.TheVariants.{WrongType, OutsideLoop, LeavesTransaction}
use Rattle.c_expr_types.specs.Faults.{fault}
use Rattle.c_types.specs.Definitions.{first_fault}
use Rattle.c_types.proofs.Samples.{name, expr, stmt, variable, binding, function, def, program}
use Rattle.c_types.proofs.FoldsAtNode.{infer_at, need_at, walk_at, stmt_need_at, variables_at}

-- int main(void) { break; return 0; }
break_alone : first_fault (program ((def 0 (kind.Function (function (Some (Integer I32)) (name 4 "main") [] ((stmt 17 made.Break) ∷ (stmt 24 (made.ReturnValue (expr 31 (node.Number (int32 (pos 0)))))) ∷ []) 34 12))) ∷ []) 35) ≡ Some (fault OutsideLoop 17)
break_alone = simp (infer_at, walk_at, stmt_need_at, variables_at) refl

-- int main(void) { if (1) continue; return 0; }
continue_in_if : first_fault (program ((def 0 (kind.Function (function (Some (Integer I32)) (name 4 "main") [] ((stmt 17 (made.If (expr 21 (node.Number (int32 (pos 1)))) (stmt 24 made.Continue))) ∷ (stmt 34 (made.ReturnValue (expr 41 (node.Number (int32 (pos 0)))))) ∷ []) 44 16))) ∷ []) 45) ≡ Some (fault OutsideLoop 24)
continue_in_if = simp (infer_at, need_at, walk_at, stmt_need_at, variables_at) refl

-- int main(void) { dsu_tx { break; } return 0; }
break_in_transaction_without_loop : first_fault (program ((def 0 (kind.Function (function (Some (Integer I32)) (name 4 "main") [] ((stmt 17 (made.Transaction ((stmt 26 made.Break) ∷ []) 33)) ∷ (stmt 35 (made.ReturnValue (expr 42 (node.Number (int32 (pos 0)))))) ∷ []) 45 15))) ∷ []) 46) ≡ Some (fault OutsideLoop 26)
break_in_transaction_without_loop = simp (infer_at, need_at, walk_at, stmt_need_at, variables_at) refl

-- int main(void) { while (1) { break; } return 0; }
break_in_loop : first_fault (program ((def 0 (kind.Function (function (Some (Integer I32)) (name 4 "main") [] ((stmt 17 (made.While (expr 24 (node.Number (int32 (pos 1)))) (stmt 27 (made.Block ((stmt 29 made.Break) ∷ []))))) ∷ (stmt 38 (made.ReturnValue (expr 45 (node.Number (int32 (pos 0)))))) ∷ []) 48 18))) ∷ []) 49) ≡ None
break_in_loop = simp (infer_at, need_at, walk_at, stmt_need_at, variables_at) refl

-- int main(void) { dsu_tx { return 0; } }
return_in_transaction : first_fault (program ((def 0 (kind.Function (function (Some (Integer I32)) (name 4 "main") [] ((stmt 17 (made.Transaction ((stmt 26 (made.ReturnValue (expr 33 (node.Number (int32 (pos 0)))))) ∷ []) 36)) ∷ []) 38 13))) ∷ []) 39) ≡ Some (fault LeavesTransaction 26)
return_in_transaction = simp (infer_at, walk_at, stmt_need_at, variables_at) refl

-- int main(void) { for (;;) dsu_tx { break; } }
break_out_of_transaction : first_fault (program ((def 0 (kind.Function (function (Some (Integer I32)) (name 4 "main") [] ((stmt 17 (made.For [] None None (stmt 26 (made.Transaction ((stmt 35 made.Break) ∷ []) 42)))) ∷ []) 44 17))) ∷ []) 45) ≡ Some (fault LeavesTransaction 35)
break_out_of_transaction = simp (walk_at, stmt_need_at, variables_at) refl

-- int main(void) { dsu_tx { do { continue; } while (0); } return 0; }
loop_in_transaction : first_fault (program ((def 0 (kind.Function (function (Some (Integer I32)) (name 4 "main") [] ((stmt 17 (made.Transaction ((stmt 26 (made.DoWhile (stmt 29 (made.Block ((stmt 31 made.Continue) ∷ []))) (expr 50 (node.Number (int32 (pos 0)))))) ∷ []) 54)) ∷ (stmt 56 (made.ReturnValue (expr 63 (node.Number (int32 (pos 0)))))) ∷ []) 66 23))) ∷ []) 67) ≡ None
loop_in_transaction = simp (infer_at, need_at, walk_at, stmt_need_at, variables_at) refl

-- int main(void) { dsu_tx { return; } }
return_of_nothing_in_transaction : first_fault (program ((def 0 (kind.Function (function (Some (Integer I32)) (name 4 "main") [] ((stmt 17 (made.Transaction ((stmt 26 made.Return) ∷ []) 34)) ∷ []) 36 12))) ∷ []) 37) ≡ Some (fault WrongType 26)
return_of_nothing_in_transaction = simp (walk_at, stmt_need_at, variables_at) refl

-- void f(void) { return 1; } int main(void) { return 0; }
value_from_void : first_fault (program ((def 0 (kind.Function (function None (name 5 "f") [] ((stmt 15 (made.ReturnValue (expr 22 (node.Number (int32 (pos 1)))))) ∷ []) 25 10))) ∷ (def 27 (kind.Function (function (Some (Integer I32)) (name 31 "main") [] ((stmt 44 (made.ReturnValue (expr 51 (node.Number (int32 (pos 0)))))) ∷ []) 54 10))) ∷ []) 55) ≡ Some (fault WrongType 15)
value_from_void = simp (infer_at, need_at, walk_at, stmt_need_at, variables_at) refl

-- struct t { int v; }; thrd_t t; int main(void) { while (t) return y; return 0; }
condition_hidden_by_no_body : first_fault (program ((def 0 (kind.Struct (name 7 "t") ((binding (Integer I32) (name 15 "v")) ∷ []))) ∷ (def 21 (kind.Global (variable Thread (name 28 "t") None))) ∷ (def 31 (kind.Function (function (Some (Integer I32)) (name 35 "main") [] ((stmt 48 (made.While (expr 55 (node.Variable (codes "t"))) (stmt 58 (made.ReturnValue (expr 65 (node.Variable (codes "y"))))))) ∷ (stmt 68 (made.ReturnValue (expr 75 (node.Number (int32 (pos 0)))))) ∷ []) 78 17))) ∷ []) 79) ≡ Some (fault WrongType 55)
condition_hidden_by_no_body = simp (infer_at, need_at, walk_at, stmt_need_at, variables_at) refl
