-- What contracts see of the table of trees.
use Rattle.resolved_tree.specs.declared.trees.Trees.{Trees}
use Rattle.resolved_tree.specs.Nodes.{Table}
use Rattle.resolved_tree.specs.Grown.{made_of}

-- the words and the trees
abbrev pub table : Trees → Table
table t = made_of t.words t.entries.items
