-- What a node names: words, and other nodes.
use Rattle.std.specs.Prelude.{ℕ, Bool, ◌&&◌, nat_lt, List, [], ◌∷◌, ◌++◌, Option, Some, None}
use Rattle.std.specs.List.{list_all}
use Rattle.resolved_tree.specs.declared.node.NodeId.{NodeId}
use Rattle.resolved_tree.specs.declared.node.ValueType.{ValueType}
use Rattle.resolved_tree.specs.declared.node.ValueType.TheVariants.{Integer, Handle, Thread}
use Rattle.resolved_tree.specs.declared.node.Place.{Place}
use Rattle.resolved_tree.specs.declared.node.Place.TheVariants.{Local, Global, Element, Field}
use Rattle.resolved_tree.specs.declared.node.ExpressionNode.{ExpressionNode}
use Rattle.resolved_tree.specs.declared.node.ExpressionNode.TheVariants.{Constant, Read, Unary, Binary, Convert, And, Or, Choice, Assign, Update, Postfix, Call, Print, New, Free, Create, Join, JoinInto, InitMutex, Lock, Unlock}
use Rattle.resolved_tree.specs.declared.node.ArgumentsNode.{ArgumentsNode}
use Rattle.resolved_tree.specs.declared.node.ArgumentsNode.TheVariants.{None as NoArguments, Then as ArgumentThen}
use Rattle.resolved_tree.specs.declared.node.StatementNode.{StatementNode}
use Rattle.resolved_tree.specs.declared.node.StatementNode.TheVariants.{Block, Empty, Evaluate, Declare, If, IfElse, While, DoWhile, For, Break, Continue, Return, UpdatePoint, Transaction}
use Rattle.resolved_tree.specs.declared.node.StatementsNode.{StatementsNode}
use Rattle.resolved_tree.specs.declared.node.StatementsNode.TheVariants.{None as Nothing, Then as StatementThen}
use Rattle.resolved_tree.specs.declared.node.Node.{Node}
use Rattle.resolved_tree.specs.declared.node.Node.TheVariants.{Expression as ExpressionIs, Arguments as ArgumentsAre, Statement as StatementIs, Statements as StatementsAre}
use Rattle.resolved_tree.specs.declared.words.Word.{Word}

-- what is named: words by number, and nodes by number
pub record Named : Type 0 where
  pub words : List ℕ
  pub nodes : List ℕ

-- nothing, a word, a node
abbrev pub nothing : Named
nothing = record { words = []; nodes = [] }

abbrev pub a_word : Word → Named
a_word w = record { words = w.0 ∷ []; nodes = [] }

abbrev pub a_node : NodeId → Named
a_node id = record { words = []; nodes = id.0 ∷ [] }

abbrev pub a_node_if : Option NodeId → Named
a_node_if None = nothing
a_node_if (Some id) = a_node id

-- two together
abbrev pub both : Named → Named → Named
both a b = record { words = a.words ++ b.words; nodes = a.nodes ++ b.nodes }

-- what a type, a place and a node name
abbrev pub in_type : ValueType → Named
in_type (Integer kind) = nothing
in_type (Handle tag) = a_word tag
in_type Thread = nothing

abbrev pub in_place : Place → Named
in_place (Local name) = a_word name
in_place (Global name) = a_word name
in_place (Element name index) = both (a_word name) (a_node index)
in_place (Field tag handle name) = both (a_word tag) (both (a_node handle) (a_word name))

abbrev pub in_expression : ExpressionNode → Named
in_expression (Constant n) = nothing
in_expression (Read p) = in_place p
in_expression (Unary op a) = a_node a
in_expression (Binary op a b) = both (a_node a) (a_node b)
in_expression (Convert type a) = both (in_type type) (a_node a)
in_expression (And a b) = both (a_node a) (a_node b)
in_expression (Or a b) = both (a_node a) (a_node b)
in_expression (Choice c a b) = both (a_node c) (both (a_node a) (a_node b))
in_expression (Assign p e) = both (in_place p) (a_node e)
in_expression (Update type op p e) = both (in_type type) (both (in_place p) (a_node e))
in_expression (Postfix type op p) = both (in_type type) (in_place p)
in_expression (Call name es) = both (a_word name) (a_node es)
in_expression (Print format es) = both (a_word format) (a_node es)
in_expression (New tag) = a_word tag
in_expression (Free tag e) = both (a_word tag) (a_node e)
in_expression (Create p name e) = both (in_place p) (both (a_word name) (a_node e))
in_expression (Join e) = a_node e
in_expression (JoinInto e p) = both (a_node e) (in_place p)
in_expression (InitMutex name) = a_word name
in_expression (Lock name) = a_word name
in_expression (Unlock name) = a_word name

abbrev pub in_arguments : ArgumentsNode → Named
in_arguments NoArguments = nothing
in_arguments (ArgumentThen e es) = both (a_node e) (a_node es)

abbrev pub in_statement : StatementNode → Named
in_statement (Block ss) = a_node ss
in_statement Empty = nothing
in_statement (Evaluate e) = a_node e
in_statement (Declare type name e) = both (in_type type) (both (a_word name) (a_node_if e))
in_statement (If c s) = both (a_node c) (a_node s)
in_statement (IfElse c a b) = both (a_node c) (both (a_node a) (a_node b))
in_statement (While c s) = both (a_node c) (a_node s)
in_statement (DoWhile s c) = both (a_node s) (a_node c)
in_statement (For first test step s) =
    both (a_node first) (both (a_node_if test) (both (a_node_if step) (a_node s)))
in_statement Break = nothing
in_statement Continue = nothing
in_statement (Return e) = a_node e
in_statement UpdatePoint = nothing
in_statement (Transaction ss) = a_node ss

abbrev pub in_statements : StatementsNode → Named
in_statements Nothing = nothing
in_statements (StatementThen s ss) = both (a_node s) (a_node ss)

abbrev pub in_node : Node → Named
in_node (ExpressionIs n) = in_expression n
in_node (ArgumentsAre n) = in_arguments n
in_node (StatementIs n) = in_statement n
in_node (StatementsAre n) = in_statements n

-- each number is below a limit
abbrev pub below : ℕ → List ℕ → Bool
below limit numbers = list_all (λ n. nat_lt n limit) numbers

-- each word that is named is one of so many, and each node is one of so many
abbrev pub is_within : ℕ → ℕ → Node → Bool
is_within words nodes n = below words (in_node n).words && below nodes (in_node n).nodes
