-- Expressions (6.5): which tokens are one, at which depth, and its tree. Each relation reads "at the depth, these tokens
-- are this tree"; it has a case for each rule, and a case for each rule that it passes on to.
use Rattle.std.specs.Prelude.{◌≡◌, ℕ, zero, suc, pos, List, [], ◌∷◌, ◌++◌}
use Rattle.c_ints.specs.declared.int.Int.{Int}
use Rattle.c_ints.specs.declared.operator.BinOp.{BinOp}
use Rattle.c_ints.specs.declared.operator.UnOp.{UnOp}
use Rattle.c_ints.specs.Number.{value_of}
use Rattle.c_lexer.specs.declared.token.TokenKind.TheVariants.{Punctuator}
use Rattle.c_tree.specs.declared.name.CType.{CType}
use Rattle.c_tree.specs.declared.expr.Expr.{Expr, roll-Expr}
use Rattle.c_tree.specs.declared.expr.ExprNode.{ExprNode}
use Rattle.c_tree.specs.declared.expr.ExprNode.TheVariants as node
use Rattle.c_tree.specs.declared.expr.StepOp.TheVariants.{PreIncrement, PreDecrement, PostIncrement, PostDecrement}
use Rattle.c_expr_parser.specs.Placed.{Placed, at, text, start}
use Rattle.c_expr_parser.specs.Terminals.{Spells, IsPunctuator, IsKeyword, IsLibraryWord, IsIdentifier, IsNumber, IsCharacter, Strings, name}
use Rattle.c_expr_parser.specs.TypeNames.{TypeName}
use Rattle.c_expr_parser.specs.declared.operators.Joint.{Joint}
use Rattle.c_expr_parser.specs.Operators.{joined, BinaryOperator, loosest, UnaryOperator, CompoundOperator}

-- the expression of a node that begins at a place
abbrev pub expr : ℕ → ExprNode Expr → Expr
expr place made = roll-Expr (record { place = place; node = made })

mutual
  -- 6.5.16
  pub data Assignment : ℕ → List Placed → Expr → Type 0 where
    conditional : {d : ℕ} {ts : List Placed} {e : Expr} → Conditional d ts e → Assignment d ts e
    assign : {d : ℕ} {left right : List Placed} {sign : Placed} {place value : Expr}
        → Unary d left place → IsPunctuator d "=" sign → Assignment (suc d) right value
        → Assignment d (left ++ sign ∷ right) (expr (start left) (node.Assign place value))
    update : {d : ℕ} {left right : List Placed} {sign : Placed} {spelling : List ℕ} {op : BinOp} {place value : Expr}
        → Unary d left place → CompoundOperator spelling op → Spells Punctuator d spelling sign → Assignment (suc d) right value
        → Assignment d (left ++ sign ∷ right) (expr (start left) (node.Update op place value))

  -- 6.5.15
  pub data Conditional : ℕ → List Placed → Expr → Type 0 where
    binary : {d : ℕ} {ts : List Placed} {e : Expr} → Binary loosest d ts e → Conditional d ts e
    choice : {d : ℕ} {test first second : List Placed} {question colon : Placed} {c a b : Expr}
        → Binary loosest d test c → IsPunctuator d "?" question → Assignment d first a → IsPunctuator d ":" colon
        → Conditional (suc d) second b
        → Conditional d (test ++ (question ∷ first ++ colon ∷ second)) (expr (start test) (node.Choice c a b))

  -- 6.5.5 to 6.5.14: the operators of a level group from the left
  pub data Binary : ℕ → ℕ → List Placed → Expr → Type 0 where
    operand : {d : ℕ} {ts : List Placed} {e : Expr} → Cast d ts e → Binary zero d ts e
    tighter : {level d : ℕ} {ts : List Placed} {e : Expr} → Binary level d ts e → Binary (suc level) d ts e
    chain : {level d : ℕ} {left right : List Placed} {sign : Placed} {spelling : List ℕ} {joint : Joint} {a b : Expr}
        → Binary (suc level) d left a → BinaryOperator (suc level) spelling joint → Spells Punctuator d spelling sign
        → Binary level d right b
        → Binary (suc level) d (left ++ sign ∷ right) (expr (start left) (joined joint a b))

  -- 6.5.4
  pub data Cast : ℕ → List Placed → Expr → Type 0 where
    unary : {d : ℕ} {ts : List Placed} {e : Expr} → Unary d ts e → Cast d ts e
    cast : {d : ℕ} {paren close : Placed} {ts operand : List Placed} {t : CType} {e : Expr}
        → IsPunctuator d "(" paren → TypeName (suc d) ts t → IsPunctuator d ")" close → Cast (suc d) operand e
        → Cast d (paren ∷ ts ++ close ∷ operand) (expr (at paren) (node.Cast t e))

  -- 6.5.3
  pub data Unary : ℕ → List Placed → Expr → Type 0 where
    postfix : {d : ℕ} {ts : List Placed} {e : Expr} → Postfix d ts e → Unary d ts e
    operator : {d : ℕ} {sign : Placed} {operand : List Placed} {spelling : List ℕ} {op : UnOp} {e : Expr}
        → UnaryOperator spelling op → Spells Punctuator d spelling sign → Cast (suc d) operand e
        → Unary d (sign ∷ operand) (expr (at sign) (node.Unary op e))
    pre_increment : {d : ℕ} {sign : Placed} {operand : List Placed} {e : Expr}
        → IsPunctuator d "++" sign → Unary (suc d) operand e
        → Unary d (sign ∷ operand) (expr (at sign) (node.Step PreIncrement e))
    pre_decrement : {d : ℕ} {sign : Placed} {operand : List Placed} {e : Expr}
        → IsPunctuator d "--" sign → Unary (suc d) operand e
        → Unary d (sign ∷ operand) (expr (at sign) (node.Step PreDecrement e))

  -- 6.5.2
  pub data Postfix : ℕ → List Placed → Expr → Type 0 where
    primary : {d : ℕ} {ts : List Placed} {e : Expr} → Primary d ts e → Postfix d ts e
    call : {d : ℕ} {function paren close : Placed} {ts : List Placed} {es : List Expr}
        → IsIdentifier d function → IsPunctuator d "(" paren → Arguments (suc d) ts es → IsPunctuator d ")" close
        → Postfix d (function ∷ paren ∷ ts ++ close ∷ []) (expr (at function) (node.Call (text function) es))
    element : {d : ℕ} {array bracket close : Placed} {ts : List Placed} {index : Expr}
        → IsIdentifier d array → IsPunctuator d "[" bracket → Assignment (suc d) ts index → IsPunctuator d "]" close
        → Postfix d (array ∷ bracket ∷ ts ++ close ∷ []) (expr (at array) (node.Element (text array) index))
    arrow : {d : ℕ} {ts : List Placed} {sign field : Placed} {e : Expr}
        → Postfix d ts e → IsPunctuator d "->" sign → IsIdentifier d field
        → Postfix d (ts ++ sign ∷ field ∷ []) (expr (start ts) (node.Arrow e (name field)))
    dot : {d : ℕ} {ts : List Placed} {sign field : Placed} {e : Expr}
        → Postfix d ts e → IsPunctuator d "." sign → IsIdentifier d field
        → Postfix d (ts ++ sign ∷ field ∷ []) (expr (start ts) (node.Dot e (name field)))
    post_increment : {d : ℕ} {ts : List Placed} {sign : Placed} {e : Expr}
        → Postfix d ts e → IsPunctuator d "++" sign
        → Postfix d (ts ++ sign ∷ []) (expr (start ts) (node.Step PostIncrement e))
    post_decrement : {d : ℕ} {ts : List Placed} {sign : Placed} {e : Expr}
        → Postfix d ts e → IsPunctuator d "--" sign
        → Postfix d (ts ++ sign ∷ []) (expr (start ts) (node.Step PostDecrement e))

  -- 6.5.1, and the calls of the library, which need no declaration
  pub data Primary : ℕ → List Placed → Expr → Type 0 where
    variable : {d : ℕ} {t : Placed} → IsIdentifier d t → Primary d (t ∷ []) (expr (at t) (node.Variable (text t)))
    number : {d : ℕ} {t : Placed} {value : Int} → IsNumber d value t
        → Primary d (t ∷ []) (expr (at t) (node.Number value))
    character : {d : ℕ} {t : Placed} {value : Int} → IsCharacter d value t
        → Primary d (t ∷ []) (expr (at t) (node.Character value))
    null : {d : ℕ} {t : Placed} → IsLibraryWord d "NULL" t → Primary d (t ∷ []) (expr (at t) node.Null)
    success : {d : ℕ} {t : Placed} → IsLibraryWord d "thrd_success" t → Primary d (t ∷ []) (expr (at t) node.Success)
    error : {d : ℕ} {t : Placed} → IsLibraryWord d "thrd_error" t → Primary d (t ∷ []) (expr (at t) node.Error)
    -- parentheses make no node
    parentheses : {d : ℕ} {paren close : Placed} {ts : List Placed} {e : Expr}
        → IsPunctuator d "(" paren → Assignment (suc d) ts e → IsPunctuator d ")" close
        → Primary d (paren ∷ ts ++ close ∷ []) e
    print : {d : ℕ} {word paren close : Placed} {strings ts : List Placed} {bytes : List ℕ} {es : List Expr}
        → IsLibraryWord d "printf" word → IsPunctuator d "(" paren → Strings (suc d) strings bytes → Further (suc d) ts es
        → IsPunctuator d ")" close
        → Primary d (word ∷ paren ∷ strings ++ (ts ++ close ∷ [])) (expr (at word) (node.Print (start strings) bytes es))
    calloc : {d : ℕ} {word paren one comma sizeof inner struct tag end close : Placed} {value : Int}
        → IsLibraryWord d "calloc" word → IsPunctuator d "(" paren → IsNumber (suc d) value one → value_of value ≡ pos 1
        → IsPunctuator (suc d) "," comma → IsKeyword (suc d) "sizeof" sizeof → IsPunctuator (suc d) "(" inner
        → IsKeyword (suc (suc d)) "struct" struct → IsIdentifier (suc (suc d)) tag → IsPunctuator (suc d) ")" end
        → IsPunctuator d ")" close
        → Primary d (word ∷ paren ∷ one ∷ comma ∷ sizeof ∷ inner ∷ struct ∷ tag ∷ end ∷ close ∷ [])
        (expr (at word) (node.Calloc (name tag)))
    free : {d : ℕ} {word paren close : Placed} {ts : List Placed} {e : Expr}
        → IsLibraryWord d "free" word → IsPunctuator d "(" paren → Assignment (suc d) ts e → IsPunctuator d ")" close
        → Primary d (word ∷ paren ∷ ts ++ close ∷ []) (expr (at word) (node.Free e))
    create : {d : ℕ} {word paren ampersand first function second close : Placed} {place argument : List Placed} {p a : Expr}
        → IsLibraryWord d "thrd_create" word → IsPunctuator d "(" paren → IsPunctuator (suc d) "&" ampersand → Unary (suc d) place p
        → IsPunctuator (suc d) "," first → IsIdentifier (suc d) function → IsPunctuator (suc d) "," second
        → Assignment (suc d) argument a → IsPunctuator d ")" close
        → Primary d (word ∷ paren ∷ ampersand ∷ place ++ (first ∷ function ∷ second ∷ argument ++ close ∷ []))
        (expr (at word) (node.Create p (name function) a))
    join : {d : ℕ} {word paren comma null close : Placed} {ts : List Placed} {e : Expr}
        → IsLibraryWord d "thrd_join" word → IsPunctuator d "(" paren → Assignment (suc d) ts e → IsPunctuator (suc d) "," comma
        → IsLibraryWord (suc d) "NULL" null → IsPunctuator d ")" close
        → Primary d (word ∷ paren ∷ ts ++ comma ∷ null ∷ close ∷ []) (expr (at word) (node.Join e))
    join_into : {d : ℕ} {word paren comma ampersand close : Placed} {ts place : List Placed} {e p : Expr}
        → IsLibraryWord d "thrd_join" word → IsPunctuator d "(" paren → Assignment (suc d) ts e → IsPunctuator (suc d) "," comma
        → IsPunctuator (suc d) "&" ampersand → Unary (suc d) place p → IsPunctuator d ")" close
        → Primary d (word ∷ paren ∷ ts ++ (comma ∷ ampersand ∷ place ++ close ∷ [])) (expr (at word) (node.JoinInto e p))
    init_mutex : {d : ℕ} {word paren ampersand mutex comma plain close : Placed}
        → IsLibraryWord d "mtx_init" word → IsPunctuator d "(" paren → IsPunctuator (suc d) "&" ampersand → IsIdentifier (suc d) mutex
        → IsPunctuator (suc d) "," comma → IsLibraryWord (suc d) "mtx_plain" plain → IsPunctuator d ")" close
        → Primary d (word ∷ paren ∷ ampersand ∷ mutex ∷ comma ∷ plain ∷ close ∷ [])
        (expr (at word) (node.InitMutex (name mutex)))
    lock : {d : ℕ} {word paren ampersand mutex close : Placed}
        → IsLibraryWord d "mtx_lock" word → IsPunctuator d "(" paren → IsPunctuator (suc d) "&" ampersand → IsIdentifier (suc d) mutex
        → IsPunctuator d ")" close
        → Primary d (word ∷ paren ∷ ampersand ∷ mutex ∷ close ∷ []) (expr (at word) (node.Lock (name mutex)))
    unlock : {d : ℕ} {word paren ampersand mutex close : Placed}
        → IsLibraryWord d "mtx_unlock" word → IsPunctuator d "(" paren → IsPunctuator (suc d) "&" ampersand → IsIdentifier (suc d) mutex
        → IsPunctuator d ")" close
        → Primary d (word ∷ paren ∷ ampersand ∷ mutex ∷ close ∷ []) (expr (at word) (node.Unlock (name mutex)))

  -- the arguments of a call: none, or some with commas between
  pub data Arguments : ℕ → List Placed → List Expr → Type 0 where
    none : {d : ℕ} → Arguments d [] []
    some : {d : ℕ} {ts rest : List Placed} {e : Expr} {es : List Expr} → Assignment d ts e → Further d rest es
        → Arguments d (ts ++ rest) (e ∷ es)

  -- further arguments, each after a comma
  pub data Further : ℕ → List Placed → List Expr → Type 0 where
    no_more : {d : ℕ} → Further d [] []
    more : {d : ℕ} {comma : Placed} {ts rest : List Placed} {e : Expr} {es : List Expr}
        → IsPunctuator d "," comma → Assignment d ts e → Further d rest es → Further d (comma ∷ ts ++ rest) (e ∷ es)
