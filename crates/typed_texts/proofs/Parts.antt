-- By the grammar the parts of an `if` and the bodies of loops are no declarations (6.8.4, 6.8.5).
use Rattle.std.proofs.Common.{◌≡◌, ℕ, List, [], ◌∷◌, ◌++◌, map, sym, subst}
use Rattle.c_tree.specs.BareStmt.{BareStmt, BareStmts}
use Rattle.c_tree.specs.BareStmt as bare
use Rattle.c_tree.specs.Bare.{bare_block, bare_stmt, bare_stmt_node}
use Rattle.c_tree.specs.declared.name.CType.{CType}
use Rattle.c_tree.specs.declared.stmt.Declaration.{Declaration}
use Rattle.c_tree.specs.declared.stmt.Stmt.{Stmt}
use Rattle.c_tree.specs.declared.stmt.Stmt.TheFolds.{fold-roll-Stmt, map-Stmt}
use Rattle.c_tree.specs.declared.stmt.StmtNode.{StmtNode}
use Rattle.c_tree.specs.declared.stmt.StmtNode.TheVariants as node
use Rattle.c_tree.specs.declared.def.Def.{Def}
use Rattle.c_tree.specs.declared.def.DefKind.{DefKind}
use Rattle.c_tree.specs.declared.def.DefKind.TheVariants as kind
use Rattle.c_tree.specs.declared.def.Function.{Function as FunctionTree}
use Rattle.c_tree.specs.declared.def.Program.{Program}
use Rattle.c_expr_parser.specs.Placed.{Placed, at, start}
use Rattle.c_expr_parser.specs.Declarations.{Declarators}
use Rattle.c_expr_parser.specs.Statements.{Ending, First, Items, Statement, declares, stmt}
use Rattle.c_expr_parser.specs.Definitions.{FunctionDefinition, GlobalDeclarator, Item, ItemList, TranslationUnit, defs}
use Rattle.c_front.specs.Accepted.{IsReadAs}

-- no declaration
abbrev pub IsBody : BareStmt → Type 0
IsBody (bare.Declare d) = ⊥
IsBody _ = Unit {0}

-- and none in its parts
abbrev mutual
  pub Proper : BareStmt → Type 0
  Proper (bare.Block ss) = AllProper ss
  Proper (bare.If c s) = IsBody s × Proper s
  Proper (bare.IfElse c s t) = IsBody s × Proper s × IsBody t × Proper t
  Proper (bare.While c s) = IsBody s × Proper s
  Proper (bare.DoWhile s c) = IsBody s × Proper s
  Proper (bare.For first test step s) = AllProper first × IsBody s × Proper s
  Proper (bare.Transaction ss) = AllProper ss
  Proper _ = Unit {0}

  pub AllProper : BareStmts → Type 0
  AllProper bare.NoStmts = Unit {0}
  AllProper (bare.StmtThen s ss) = Proper s × AllProper ss

-- both
abbrev Whole : BareStmt → Type 0
Whole s = IsBody s × Proper s

made : (place : ℕ) (n : StmtNode Stmt) → bare_stmt (stmt place n) ≡ bare_stmt_node (map-Stmt Stmt BareStmt bare_stmt (record { place = place; node = n })).node
made place n = fold-roll-Stmt BareStmt (λ s. bare_stmt_node s.node) (record { place = place; node = n })

whole : (place : ℕ) (n : StmtNode Stmt) → Whole (bare_stmt_node (map-Stmt Stmt BareStmt bare_stmt (record { place = place; node = n })).node)
    → Whole (bare_stmt (stmt place n))
whole place n h = subst Whole (sym (made place n)) h

-- declarations before statements
declared_first : (place : ℕ) (ds : List Declaration) (ss : List Stmt) → AllProper (bare_block (map bare_stmt ss))
    → AllProper (bare_block (map bare_stmt (declares place ds ++ ss)))
declared_first place [] ss h = h
declared_first place (d ∷ ds) ss h =
    (subst Proper (sym (made place (node.Declare d))) tt, declared_first place ds ss h)

declared_all : (place : ℕ) (ds : List Declaration) → AllProper (bare_block (map bare_stmt (declares place ds)))
declared_all place [] = tt
declared_all place (d ∷ ds) = (subst Proper (sym (made place (node.Declare d))) tt, declared_all place ds)

of_first : (depth : ℕ) (ts : List Placed) (ss : List Stmt) → First depth ts ss → AllProper (bare_block (map bare_stmt ss))
of_first depth _ _ (First.declaration {ts = ts} {declared = ds} v) = declared_all (start ts) ds
of_first depth _ _ (First.expression {ts = ts} {e = e} a s) = (subst Proper (sym (made (start ts) (node.Evaluate e))) tt, tt)
of_first depth _ _ (First.nothing s) = tt

mutual
  of_statement : (ending : Ending) (d : ℕ) (ts : List Placed) (s : Stmt) → Statement ending d ts s → Whole (bare_stmt s)
  of_statement _ d _ _ (Statement.block {brace = brace} {ts = ts} {ss = ss} b items e) =
      whole (at brace) (node.Block ss) (tt, of_items _ ts ss items)
  of_statement _ d _ _ (Statement.empty {semicolon = semicolon} s) = whole (at semicolon) node.Empty (tt, tt)
  of_statement _ d _ _ (Statement.evaluate {ts = ts} {e = e} a s) = whole (start ts) (node.Evaluate e) (tt, tt)
  of_statement _ d _ _ (Statement.if_only {ending = ending} {word = word} {body = body} {c = c} {s = s} w p t q own) =
      whole (at word) (node.If c s) (tt, of_statement ending _ body s own)
  of_statement _ d _ _ (Statement.if_else {ending = ending} {word = word} {first = first} {second = second} {c = c} {s = s} {r = r} w p t q one o other) =
      let h = of_statement Ending.complete _ first s one in
      let i = of_statement ending _ second r other in
      whole (at word) (node.IfElse c s r) (tt, (h.0, h.1, i.0, i.1))
  of_statement _ d _ _ (Statement.while {ending = ending} {word = word} {body = body} {c = c} {s = s} w p t q own) =
      whole (at word) (node.While c s) (tt, of_statement ending _ body s own)
  of_statement _ d _ _ (Statement.do_while {ending = ending} {word = word} {body = body} {c = c} {s = s} w own a p t q e) =
      whole (at word) (node.DoWhile s c) (tt, of_statement ending _ body s own)
  of_statement _ d _ _ (Statement.for {ending = ending} {word = word} {first = first} {body = body} {before = before} {c = c} {e = e} {s = s} w p f t m u q own) =
      let h = of_statement ending _ body s own in
      whole (at word) (node.For before c e s) (tt, (of_first _ first before f, h.0, h.1))
  of_statement _ d _ _ (Statement.break {word = word} w s) = whole (at word) node.Break (tt, tt)
  of_statement _ d _ _ (Statement.continue {word = word} w s) = whole (at word) node.Continue (tt, tt)
  of_statement _ d _ _ (Statement.return {word = word} w s) = whole (at word) node.Return (tt, tt)
  of_statement _ d _ _ (Statement.return_value {word = word} {e = e} w a s) = whole (at word) (node.ReturnValue e) (tt, tt)
  of_statement _ d _ _ (Statement.update {word = word} w p q s) = whole (at word) node.Update (tt, tt)
  of_statement _ d _ _ (Statement.transaction {word = word} {end = end} {ts = ts} {ss = ss} w b items e) =
      whole (at word) (node.Transaction ss (at end)) (tt, of_items _ ts ss items)

  of_items : (d : ℕ) (ts : List Placed) (ss : List Stmt) → Items d ts ss → AllProper (bare_block (map bare_stmt ss))
  of_items d _ _ Items.none = tt
  of_items d _ _ (Items.declaration {ts = ts} {rest = rest} {declared = ds} {ss = ss} v more) =
      declared_first (start ts) ds ss (of_items d rest ss more)
  of_items d _ _ (Items.statement {ending = ending} {ts = ts} {rest = rest} {s = s} {ss = ss} own more) =
      ((of_statement ending d ts s own).1, of_items d rest ss more)

-- ---- definitions

abbrev pub ProperBody : DefKind → Type 0
ProperBody (kind.Function f) = AllProper (bare_block (map bare_stmt f.body))
ProperBody _ = Unit {0}

abbrev pub ProperBodies : List Def → Type 0
ProperBodies [] = Unit {0}
ProperBodies (d ∷ ds) = ProperBody d.kind × ProperBodies ds

of_function : (ts : List Placed) (f : FunctionTree) → FunctionDefinition ts f → AllProper (bare_block (map bare_stmt f.body))
of_function whole _ (FunctionDefinition.function {body = body} {ss = ss} r i paren ps close brace items final e) = of_items 1 body ss items

of_global : (t : CType) (ts : List Placed) (k : DefKind) → GlobalDeclarator t ts k → ProperBody k
of_global t _ _ (GlobalDeclarator.plain i) = tt
of_global t _ _ (GlobalDeclarator.initialised i sign e) = tt
of_global t _ _ (GlobalDeclarator.array i bracket n close) = tt
of_global t _ _ (GlobalDeclarator.initialised_array i bracket n close sign brace es trailing final) = tt

of_globals : (t : CType) (place : ℕ) (ts : List Placed) (ks : List DefKind) → Declarators 0 t (GlobalDeclarator t) ts ks → ProperBodies (defs place ks)
of_globals t place _ _ (Declarators.last {ts = ts} {a = k} g) = (of_global t ts k g, tt)
of_globals t place _ _ (Declarators.more {ts = ts} {rest = rest} {a = k} {others = others} g c s later) =
    (of_global t ts k g, of_globals t place rest others later)

of_item : (ts : List Placed) (ds : List Def) → Item ts ds → ProperBodies ds
of_item _ _ (Item.forward word tag semicolon) = (tt, tt)
of_item _ _ (Item.struct word tag brace members final semicolon) = (tt, tt)
of_item _ _ (Item.mutex s word i semicolon) = (tt, tt)
of_item _ _ (Item.function {ts = ts} {f = f} s d) = (of_function ts f d, tt)
of_item _ _ (Item.prototype s p) = (tt, tt)
of_item _ _ (Item.global {ts = ts} {names = names} {t = t} {globals = globals} s type declarators semicolon) =
    of_globals t (start ts) names globals declarators
of_item _ _ (Item.transform_struct word struct tag brace updates final) = (tt, tt)
of_item _ _ (Item.transform_global word i sign e semicolon) = (tt, tt)

joined : (ds es : List Def) → ProperBodies ds → ProperBodies es → ProperBodies (ds ++ es)
joined [] es a b = b
joined (d ∷ ds) es a b = (a.0, joined ds es a.1 b)

of_list : (ts : List Placed) (ds : List Def) → ItemList ts ds → ProperBodies ds
of_list _ _ ItemList.none = tt
of_list _ _ (ItemList.more {ts = ts} {rest = rest} {made = own} {others = others} item later) =
    joined own others (of_item ts own item) (of_list rest others later)

of_unit : (ts : List Placed) (program : Program) → TranslationUnit ts program → ProperBodies program.definitions
of_unit ts _ (TranslationUnit.program {made = ds} items) = of_list ts ds items

-- a text that is read has such bodies
pub bodies_proper : (bytes : List ℕ) (program : Program) → IsReadAs bytes program → ProperBodies program.definitions
bodies_proper bytes program is =
    subst (λ p. ProperBodies p.definitions) (sym is.ends) (of_unit is.reads.placed is.read is.reads.phrase)
