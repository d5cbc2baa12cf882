-- A node is the same tree in two tables that agree on what it names.
use Rattle.std.proofs.Common.{◌≡◌, ℕ, ◌<◌, ◌≤◌, Bool, true, false, ◌&&◌, IsTrue, nat_lt, List, [], ◌∷◌, ◌++◌, Option, Some, None, refl, ap, rules, arith, tests}
use Rattle.c_tree.specs.BareExpr.{Bytes, BareType}
use Rattle.c_tree.specs.BareExpr as type
use Rattle.c_semantics.specs.Resolved.{Expression, Expressions, Statement, Statements}
use Rattle.c_semantics.specs.Resolved as tree
use Rattle.resolved_tree.specs.declared.node.NodeId.{NodeId}
use Rattle.resolved_tree.specs.declared.node.ValueType.{ValueType}
use Rattle.resolved_tree.specs.declared.node.ValueType.TheVariants.{Integer, Handle, Thread}
use Rattle.resolved_tree.specs.declared.node.Place.{Place}
use Rattle.resolved_tree.specs.declared.node.Place.TheVariants.{Local, Global, Element, Field}
use Rattle.resolved_tree.specs.declared.node.ExpressionNode.{ExpressionNode}
use Rattle.resolved_tree.specs.declared.node.ExpressionNode.TheVariants.{Constant, Read, Unary, Binary, Convert, And, Or, Choice, Assign, Update, Postfix, Call, Print, New, Free, Create, Join, JoinInto, InitMutex, Lock, Unlock}
use Rattle.resolved_tree.specs.declared.node.ArgumentsNode.{ArgumentsNode}
use Rattle.resolved_tree.specs.declared.node.ArgumentsNode.TheVariants.{None as NoArguments, Then as ArgumentThen}
use Rattle.resolved_tree.specs.declared.node.StatementNode.{StatementNode}
use Rattle.resolved_tree.specs.declared.node.StatementNode.TheVariants.{Block, Empty, Evaluate, Declare, If, IfElse, While, DoWhile, For, Break, Continue, Return, UpdatePoint, Transaction}
use Rattle.resolved_tree.specs.declared.node.StatementsNode.{StatementsNode}
use Rattle.resolved_tree.specs.declared.node.StatementsNode.TheVariants.{None as Nothing, Then as StatementThen}
use Rattle.resolved_tree.specs.declared.node.Node.{Node}
use Rattle.resolved_tree.specs.declared.node.Node.TheVariants.{Expression as ExpressionIs, Arguments as ArgumentsAre, Statement as StatementIs, Statements as StatementsAre}
use Rattle.resolved_tree.specs.declared.words.Word.{Word}
use Rattle.resolved_tree.specs.Nodes.{Table, word, tree_at, as_expression, as_arguments, as_statement, as_statements, expression_at, arguments_at, statement_at, statements_at, expression_if, type_of, place_of, expression_of, arguments_of, statement_of, statements_of, made}
use Rattle.resolved_tree.specs.Parts.{Named, a_word, a_node, a_node_if, both, in_type, in_place, in_expression, in_arguments, in_statement, in_statements, in_node, below, is_within}

-- each number is below a limit, as a fact
abbrev pub AllBelow : ℕ → List ℕ → Type 0
AllBelow limit [] = Unit {0}
AllBelow limit (n ∷ ns) = (n < limit) × AllBelow limit ns

left_holds : (a b : Bool) → IsTrue (a && b) → IsTrue a
left_holds true b h = refl
left_holds false b h = h

right_holds : (a b : Bool) → IsTrue (a && b) → IsTrue b
right_holds true b h = h
right_holds false b h = absurd (let e : false ≡ true = h in cc)

is_below : (n limit : ℕ) → IsTrue (nat_lt n limit) → n < limit
is_below n limit h = search (rules, tests)

shown_below : (n limit : ℕ) → n < limit → IsTrue (nat_lt n limit)
shown_below n limit h = search (rules, tests)

pub all_below : (limit : ℕ) (ns : List ℕ) → IsTrue (below limit ns) → AllBelow limit ns
all_below limit [] h = tt
all_below limit (n ∷ ns) h =
    (is_below n limit (left_holds _ _ h), all_below limit ns (right_holds (nat_lt n limit) _ h))

pub both_hold : (a b : Bool) → IsTrue a → IsTrue b → IsTrue (a && b)
both_hold a b x y = rw (x, y) refl

pub shown_all : (limit : ℕ) (ns : List ℕ) → AllBelow limit ns → IsTrue (below limit ns)
shown_all limit [] h = refl
shown_all limit (n ∷ ns) h = both_hold _ _ (shown_below n limit h.0) (shown_all limit ns h.1)

pub below_more : (limit more : ℕ) (ns : List ℕ) → limit ≤ more → AllBelow limit ns → AllBelow more ns
below_more limit more [] le h = tt
below_more limit more (n ∷ ns) le h = let first = h.0 in (omega arith, below_more limit more ns le h.1)

-- what is within limits is within larger ones
pub within_more : (w more n : ℕ) (node : Node) → w ≤ more → IsTrue (is_within w n node) → IsTrue (is_within more n node)
within_more w more n node le h =
    both_hold _ _
    (shown_all more _ (below_more w more _ le (all_below w _ (left_holds _ _ h))))
    (right_holds (below w (in_node node).words) _ h)

pub left_below : (limit : ℕ) (ms ns : List ℕ) → AllBelow limit (ms ++ ns) → AllBelow limit ms
left_below limit [] ns h = tt
left_below limit (m ∷ ms) ns h = (h.0, left_below limit ms ns h.1)

pub right_below : (limit : ℕ) (ms ns : List ℕ) → AllBelow limit (ms ++ ns) → AllBelow limit ns
right_below limit [] ns h = h
right_below limit (m ∷ ms) ns h = right_below limit ms ns h.1

-- what is named is within limits
record Within (w n : ℕ) (m : Named) : Type 0 where
  words : AllBelow w m.words
  nodes : AllBelow n m.nodes

left : (w n : ℕ) (a b : Named) → Within w n (both a b) → Within w n a
left w n a b h = record { words = left_below w a.words b.words h.words; nodes = left_below n a.nodes b.nodes h.nodes }

right : (w n : ℕ) (a b : Named) → Within w n (both a b) → Within w n b
right w n a b h = record { words = right_below w a.words b.words h.words; nodes = right_below n a.nodes b.nodes h.nodes }

-- two tables agree on the words and the nodes below two limits
pub record Agree (w n : ℕ) (t u : Table) : Type 0 where
  pub words : (x : Word) → x.0 < w → word t x ≡ word u x
  pub trees : (id : NodeId) → id.0 < n → tree_at t id ≡ tree_at u id

-- what is named within limits in two tables that agree
module _ (w n : ℕ) (t u : Table) (g : Agree w n t u) where
  same_word : (x : Word) → Within w n (a_word x) → word t x ≡ word u x
  same_word x h = g.words x h.words.0

  same_expression : (id : NodeId) → Within w n (a_node id) → expression_at t id ≡ expression_at u id
  same_expression id h = ap as_expression (g.trees id h.nodes.0)

  same_arguments : (id : NodeId) → Within w n (a_node id) → arguments_at t id ≡ arguments_at u id
  same_arguments id h = ap as_arguments (g.trees id h.nodes.0)

  same_statement : (id : NodeId) → Within w n (a_node id) → statement_at t id ≡ statement_at u id
  same_statement id h = ap as_statement (g.trees id h.nodes.0)

  same_statements : (id : NodeId) → Within w n (a_node id) → statements_at t id ≡ statements_at u id
  same_statements id h = ap as_statements (g.trees id h.nodes.0)

  same_if : (id : Option NodeId) → Within w n (a_node_if id) → expression_if t id ≡ expression_if u id
  same_if None h = refl
  same_if (Some id) h = ap Some (same_expression id h)

  same_type : (type : ValueType) → Within w n (in_type type) → type_of t type ≡ type_of u type
  same_type (Integer kind) h = refl
  same_type (Handle tag) h = ap type.Handle (same_word tag h)
  same_type Thread h = refl

  same_place : (p : Place) → Within w n (in_place p) → place_of t p ≡ place_of u p
  same_place (Local name) h = ap tree.Local (same_word name h)
  same_place (Global name) h = ap tree.Global (same_word name h)
  same_place (Element name index) h =
      let x = same_word name (left w n (a_word name) (a_node index) h) in
      let y = same_expression index (right w n (a_word name) (a_node index) h) in
      cc
  same_place (Field tag handle name) h =
      let rest = right w n (a_word tag) (both (a_node handle) (a_word name)) h in
      let x = same_word tag (left w n (a_word tag) (both (a_node handle) (a_word name)) h) in
      let y = same_expression handle (left w n (a_node handle) (a_word name) rest) in
      let z = same_word name (right w n (a_node handle) (a_word name) rest) in
      cc

  same_expression_node : (e : ExpressionNode) → Within w n (in_expression e) → expression_of t e ≡ expression_of u e
  same_expression_node (Constant v) h = refl
  same_expression_node (Read p) h = let x = same_place p h in cc
  same_expression_node (Unary op a) h = let x = same_expression a h in cc
  same_expression_node (Binary op a b) h =
      let x = same_expression a (left w n (a_node a) (a_node b) h) in
      let rest0 = (right w n (a_node a) (a_node b) h) in
      let y = same_expression b rest0 in
      cc
  same_expression_node (Convert type a) h =
      let x = same_type type (left w n (in_type type) (a_node a) h) in
      let rest0 = (right w n (in_type type) (a_node a) h) in
      let y = same_expression a rest0 in
      cc
  same_expression_node (And a b) h =
      let x = same_expression a (left w n (a_node a) (a_node b) h) in
      let rest0 = (right w n (a_node a) (a_node b) h) in
      let y = same_expression b rest0 in
      cc
  same_expression_node (Or a b) h =
      let x = same_expression a (left w n (a_node a) (a_node b) h) in
      let rest0 = (right w n (a_node a) (a_node b) h) in
      let y = same_expression b rest0 in
      cc
  same_expression_node (Choice c a b) h =
      let x = same_expression c (left w n (a_node c) (both (a_node a) (a_node b)) h) in
      let rest0 = (right w n (a_node c) (both (a_node a) (a_node b)) h) in
      let y = same_expression a (left w n (a_node a) (a_node b) rest0) in
      let rest1 = (right w n (a_node a) (a_node b) rest0) in
      let z = same_expression b rest1 in
      cc
  same_expression_node (Assign p e) h =
      let x = same_place p (left w n (in_place p) (a_node e) h) in
      let rest0 = (right w n (in_place p) (a_node e) h) in
      let y = same_expression e rest0 in
      cc
  same_expression_node (Update type op p e) h =
      let x = same_type type (left w n (in_type type) (both (in_place p) (a_node e)) h) in
      let rest0 = (right w n (in_type type) (both (in_place p) (a_node e)) h) in
      let y = same_place p (left w n (in_place p) (a_node e) rest0) in
      let rest1 = (right w n (in_place p) (a_node e) rest0) in
      let z = same_expression e rest1 in
      cc
  same_expression_node (Postfix type op p) h =
      let x = same_type type (left w n (in_type type) (in_place p) h) in
      let rest0 = (right w n (in_type type) (in_place p) h) in
      let y = same_place p rest0 in
      cc
  same_expression_node (Call name es) h =
      let x = same_word name (left w n (a_word name) (a_node es) h) in
      let rest0 = (right w n (a_word name) (a_node es) h) in
      let y = same_arguments es rest0 in
      cc
  same_expression_node (Print format es) h =
      let x = same_word format (left w n (a_word format) (a_node es) h) in
      let rest0 = (right w n (a_word format) (a_node es) h) in
      let y = same_arguments es rest0 in
      cc
  same_expression_node (New tag) h = let x = same_word tag h in cc
  same_expression_node (Free tag e) h =
      let x = same_word tag (left w n (a_word tag) (a_node e) h) in
      let rest0 = (right w n (a_word tag) (a_node e) h) in
      let y = same_expression e rest0 in
      cc
  same_expression_node (Create p name e) h =
      let x = same_place p (left w n (in_place p) (both (a_word name) (a_node e)) h) in
      let rest0 = (right w n (in_place p) (both (a_word name) (a_node e)) h) in
      let y = same_word name (left w n (a_word name) (a_node e) rest0) in
      let rest1 = (right w n (a_word name) (a_node e) rest0) in
      let z = same_expression e rest1 in
      cc
  same_expression_node (Join e) h = let x = same_expression e h in cc
  same_expression_node (JoinInto e p) h =
      let x = same_expression e (left w n (a_node e) (in_place p) h) in
      let rest0 = (right w n (a_node e) (in_place p) h) in
      let y = same_place p rest0 in
      cc
  same_expression_node (InitMutex name) h = let x = same_word name h in cc
  same_expression_node (Lock name) h = let x = same_word name h in cc
  same_expression_node (Unlock name) h = let x = same_word name h in cc

  same_arguments_node : (es : ArgumentsNode) → Within w n (in_arguments es) → arguments_of t es ≡ arguments_of u es
  same_arguments_node NoArguments h = refl
  same_arguments_node (ArgumentThen e es) h =
      let x = same_expression e (left w n (a_node e) (a_node es) h) in
      let rest0 = (right w n (a_node e) (a_node es) h) in
      let y = same_arguments es rest0 in
      cc

  same_statement_node : (s : StatementNode) → Within w n (in_statement s) → statement_of t s ≡ statement_of u s
  same_statement_node (Block ss) h = let x = same_statements ss h in cc
  same_statement_node Empty h = refl
  same_statement_node (Evaluate e) h = let x = same_expression e h in cc
  same_statement_node (Declare type name e) h =
      let x = same_type type (left w n (in_type type) (both (a_word name) (a_node_if e)) h) in
      let rest0 = (right w n (in_type type) (both (a_word name) (a_node_if e)) h) in
      let y = same_word name (left w n (a_word name) (a_node_if e) rest0) in
      let rest1 = (right w n (a_word name) (a_node_if e) rest0) in
      let z = same_if e rest1 in
      cc
  same_statement_node (If c s) h =
      let x = same_expression c (left w n (a_node c) (a_node s) h) in
      let rest0 = (right w n (a_node c) (a_node s) h) in
      let y = same_statement s rest0 in
      cc
  same_statement_node (IfElse c a b) h =
      let x = same_expression c (left w n (a_node c) (both (a_node a) (a_node b)) h) in
      let rest0 = (right w n (a_node c) (both (a_node a) (a_node b)) h) in
      let y = same_statement a (left w n (a_node a) (a_node b) rest0) in
      let rest1 = (right w n (a_node a) (a_node b) rest0) in
      let z = same_statement b rest1 in
      cc
  same_statement_node (While c s) h =
      let x = same_expression c (left w n (a_node c) (a_node s) h) in
      let rest0 = (right w n (a_node c) (a_node s) h) in
      let y = same_statement s rest0 in
      cc
  same_statement_node (DoWhile s c) h =
      let x = same_statement s (left w n (a_node s) (a_node c) h) in
      let rest0 = (right w n (a_node s) (a_node c) h) in
      let y = same_expression c rest0 in
      cc
  same_statement_node (For first test step s) h =
      let x = same_statements first (left w n (a_node first) (both (a_node_if test) (both (a_node_if step) (a_node s))) h) in
      let rest0 = (right w n (a_node first) (both (a_node_if test) (both (a_node_if step) (a_node s))) h) in
      let y = same_if test (left w n (a_node_if test) (both (a_node_if step) (a_node s)) rest0) in
      let rest1 = (right w n (a_node_if test) (both (a_node_if step) (a_node s)) rest0) in
      let z = same_if step (left w n (a_node_if step) (a_node s) rest1) in
      let rest2 = (right w n (a_node_if step) (a_node s) rest1) in
      let v = same_statement s rest2 in
      cc
  same_statement_node Break h = refl
  same_statement_node Continue h = refl
  same_statement_node (Return e) h = let x = same_expression e h in cc
  same_statement_node UpdatePoint h = refl
  same_statement_node (Transaction ss) h = let x = same_statements ss h in cc

  same_statements_node : (ss : StatementsNode) → Within w n (in_statements ss) → statements_of t ss ≡ statements_of u ss
  same_statements_node Nothing h = refl
  same_statements_node (StatementThen s ss) h =
      let x = same_statement s (left w n (a_node s) (a_node ss) h) in
      let rest0 = (right w n (a_node s) (a_node ss) h) in
      let y = same_statements ss rest0 in
      cc

  same_made : (node : Node) → Within w n (in_node node) → made t node ≡ made u node
  same_made (ExpressionIs e) h = let x = same_expression_node e h in cc
  same_made (ArgumentsAre es) h = let x = same_arguments_node es h in cc
  same_made (StatementIs s) h = let x = same_statement_node s h in cc
  same_made (StatementsAre ss) h = let x = same_statements_node ss h in cc

-- a node is the same tree in both
pub made_agrees : (w n : ℕ) (t u : Table) → Agree w n t u → (node : Node) → IsTrue (is_within w n node) → made t node ≡ made u node
made_agrees w n t u g node h =
    same_made w n t u g node
    (record { words = all_below w _ (left_holds _ _ h); nodes = all_below n _ (right_holds (below w (in_node node).words) _ h) })
