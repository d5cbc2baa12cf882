-- The functions of a text that is read have bodies whose constants are in their ranges.
use Rattle.std.proofs.Common.{◌≡◌, ℕ, List, [], ◌∷◌, ◌++◌, map, sym, subst}
use Rattle.c_lexer.specs.declared.token.Token.{Token}
use Rattle.c_tree.specs.declared.name.CType.{CType}
use Rattle.c_tree.specs.declared.def.Def.{Def}
use Rattle.c_tree.specs.declared.def.DefKind.{DefKind}
use Rattle.c_tree.specs.declared.def.DefKind.TheVariants as kind
use Rattle.c_tree.specs.declared.def.Function.{Function as FunctionTree}
use Rattle.c_tree.specs.declared.def.Program.{Program}
use Rattle.c_expr_parser.specs.Placed.{Placed, start, tokens}
use Rattle.c_expr_parser.specs.Declarations.{Declarators}
use Rattle.c_expr_parser.specs.Definitions.{FunctionDefinition, GlobalDeclarator, Item, ItemList, TranslationUnit, defs}
use Rattle.c_front.specs.Accepted.{IsReadAs}
use Rattle.constant_ranges.proofs.Characters.{TokensSmall, lexed_small}
use Rattle.constant_ranges.proofs.Expressions.{AreRead, front, rear}
use Rattle.constant_ranges.proofs.Statements.{StmtsFine, items_fine}

-- the body of a function
abbrev pub BodyFine : DefKind → Type 0
BodyFine (kind.Function f) = StmtsFine f.body
BodyFine _ = Unit {0}

abbrev pub BodiesFine : List Def → Type 0
BodiesFine [] = Unit {0}
BodiesFine (d ∷ ds) = BodyFine d.kind × BodiesFine ds

function_fine : {ts : List Placed} {f : FunctionTree} → FunctionDefinition ts f → AreRead ts → StmtsFine f.body
function_fine (FunctionDefinition.function {result} {parameters} {body} {function} {paren} {close} {brace} {final} r i p ps c b ss e is) h =
    let inner = close ∷ brace ∷ body ++ final ∷ [] in
    let whole : AreRead (result ++ (function ∷ paren ∷ parameters ++ inner)) = subst AreRead is h in
    let named = rear result (function ∷ paren ∷ parameters ++ inner) whole in
    items_fine ss (front body (final ∷ []) (rear parameters inner named.1.1).1.1)

global_fine : {t : CType} {ts : List Placed} {k : DefKind} → GlobalDeclarator t ts k → BodyFine k
global_fine (GlobalDeclarator.plain i) = tt
global_fine (GlobalDeclarator.initialised i sign e) = tt
global_fine (GlobalDeclarator.array i bracket n close) = tt
global_fine (GlobalDeclarator.initialised_array i bracket n close sign brace es trailing final) = tt

globals_fine : {t : CType} (place : ℕ) {ts : List Placed} {ks : List DefKind} → Declarators 0 t (GlobalDeclarator t) ts ks → BodiesFine (defs place ks)
globals_fine place (Declarators.last g) = (global_fine g, tt)
globals_fine place (Declarators.more g c s later) = (global_fine g, globals_fine place later)

item_fine : {ts : List Placed} {ds : List Def} → Item ts ds → AreRead ts → BodiesFine ds
item_fine (Item.forward word tag semicolon) h = (tt, tt)
item_fine (Item.struct word tag brace members final semicolon) h = (tt, tt)
item_fine (Item.mutex s word i semicolon) h = (tt, tt)
item_fine (Item.function {static} {ts} s d) h = (function_fine d (rear static ts h), tt)
item_fine (Item.prototype s p) h = (tt, tt)
item_fine (Item.global {ts} s type declarators semicolon) h = globals_fine (start ts) declarators
item_fine (Item.transform_struct word struct tag brace updates final) h = (tt, tt)
item_fine (Item.transform_global word i sign e semicolon) h = (tt, tt)

joined : (ds es : List Def) → BodiesFine ds → BodiesFine es → BodiesFine (ds ++ es)
joined [] es h k = k
joined (d ∷ ds) es h k = (h.0, joined ds es h.1 k)

list_fine : {ts : List Placed} {ds : List Def} → ItemList ts ds → AreRead ts → BodiesFine ds
list_fine ItemList.none h = tt
list_fine (ItemList.more {ts} {rest} {made} {others} item later) h =
    joined made others (item_fine item (front ts rest h)) (list_fine later (rear ts rest h))

unit_fine : {ts : List Placed} {program : Program} → TranslationUnit ts program → AreRead ts → BodiesFine program.definitions
unit_fine (TranslationUnit.program items) h = list_fine items h

-- tokens with their depths
placed : (ts : List Placed) → TokensSmall (tokens ts) → AreRead ts
placed [] h = tt
placed (t ∷ ts) h = (h.0, placed ts h.1)

pub bodies_fine : (bytes : List ℕ) (program : Program) → IsReadAs bytes program → BodiesFine program.definitions
bodies_fine bytes program is =
    let small : TokensSmall (tokens is.reads.placed) = subst TokensSmall (sym is.reads.are) (lexed_small bytes is.tokens is.lexes) in
    subst (λ p. BodiesFine p.definitions) (sym is.ends) (unit_fine is.reads.phrase (placed is.reads.placed small))
