-- The table that nodes make which were added one after another.
use Rattle.std.specs.Prelude.{◌≡◌, ℕ, ◌<◌, IsTrue, List, [], ◌∷◌, ◌++◌, length, slice_index_or}
use Rattle.c_tree.specs.BareExpr.{Bytes}
use Rattle.resolved_tree.specs.declared.node.Entry.{Entry}
use Rattle.resolved_tree.specs.Nodes.{Tree, Table, tree_at, made, points_of}
use Rattle.resolved_tree.specs.Parts.{is_within}

-- the trees with those of more nodes
abbrev pub grown : List Bytes → List Tree → List Entry → List Tree
grown words trees [] = trees
grown words trees (e ∷ es) = grown words (trees ++ made (record { words = words; trees = trees }) e.node ∷ []) es

-- the table of some nodes
abbrev pub made_of : List Bytes → List Entry → Table
made_of words entries = record { words = words; trees = grown words [] entries }

-- each node names words that are there and nodes before it, and its number of points is that of its tree
pub record IsSound (words : List Bytes) (entries : List Entry) : Type 0 where
  pub within : (k : ℕ) (e : Entry) → k < length entries
      → IsTrue (is_within (length words) k (slice_index_or entries k e).node)
  pub points : (k : ℕ) (e : Entry) → k < length entries
      → (slice_index_or entries k e).points ≡ points_of (tree_at (made_of words entries) (record { 0 = k }))
