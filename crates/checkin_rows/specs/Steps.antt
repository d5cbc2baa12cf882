-- What the steps promise one another.
use Rattle.std.specs.Prelude.{◌≡◌, ℕ, ◌+◌, ◌<◌, ◌⊎◌, ◌↔◌, List, ◌++◌, Contains, Some, length, replicate, slice_get, slice_index}
use Rattle.name_sets.specs.IdSet.{Holds}
use Rattle.name_sets.specs.Limit.{most_names}
use Rattle.set_constraints.specs.Constraints.{Reaches}
use Rattle.effect_flow.specs.Parts.{Contents}
use Rattle.con_freeness.specs.declared.row.Row.{Row}
use Rattle.checkin_rows.specs.declared.row.Mark.{Mark}
use Rattle.checkin_rows.specs.declared.row.Mark.TheVariants.{Start, CheckIn}
use Rattle.checkin_rows.specs.declared.entries.Entry.{Entry}
use Rattle.set_constraints.specs.Nets as nets
use Rattle.checkin_rows.specs.Edges.{edges_of, node_count}

-- two sets have the same ids
abbrev pub AreSame : ℕ → ℕ → Type 0
AreSame a b = (id : ℕ) → Holds a id ↔ Holds b id

abbrev pub IsEmptySet : ℕ → Type 0
IsEmptySet set = (id : ℕ) → Holds set id → ⊥

-- the first sets of a list, so many of them
pub record AreFirst (count : ℕ) (all first : List ℕ) : Type 0 where
  pub many : length first ≡ count
  pub same : (i : ℕ) → i < count → AreSame (slice_index first i) (slice_index all i)

-- points have their own sets, both as what control goes on from and as what a path ends at, and functions have nothing
pub record AreSeeds (points ids : ℕ) (own seeds : List ℕ) : Type 0 where
  pub first : List ℕ
  pub empty : ℕ
  pub are_first : AreFirst points own first
  pub is_empty : IsEmptySet empty
  pub seeds_are : seeds ≡ first ++ first ++ replicate (ids + ids + ids) empty

-- the nodes and edges of a flow
pub record IsNetOf (points ids : ℕ) (flow : Contents) (net : nets.Contents) : Type 0 where
  pub nodes : net.nodes ≡ node_count points ids
  pub edges : net.edges ≡ edges_of points ids flow

-- the sets of the system in which points have their own sets
pub record AreSetsOf (points ids : ℕ) (flow : Contents) (own sets : List ℕ) : Type 0 where
  pub seeds : List ℕ
  pub are_seeds : AreSeeds points ids own seeds
  pub least : (n id : ℕ) → Holds (slice_index sets n) id ↔ Reaches seeds (edges_of points ids flow) n id

-- the prior, future and concrete sets of the nodes
pub record SetsOfNodes : Type 0 where
  pub prior : List ℕ
  pub future : List ℕ
  pub concrete : List ℕ

-- some entry of a mark has the id in the set of its node
pub record IsFound (entries : List Entry) (sets : List ℕ) (m : Mark) (id : ℕ) : Type 0 where
  pub entry : Entry
  pub among : Contains entries entry
  pub of_mark : entry.mark ≡ m
  pub holds : Holds (slice_index sets entry.node) id

-- the function of a start, where its number is an id
abbrev pub IsStarted : Mark → ℕ → Type 0
IsStarted (Start f) id = (id ≡ f) × (f < most_names)
IsStarted (CheckIn f g n) id = ⊥

-- some entry of a mark is that of a start of the function
pub record IsEntered (entries : List Entry) (m : Mark) (id : ℕ) : Type 0 where
  pub entry : Entry
  pub among : Contains entries entry
  pub of_mark : entry.mark ≡ m
  pub started : IsStarted m id

-- the row has what the entries of a mark have
pub record IsRowOfMark (entries : List Entry) (sets : SetsOfNodes) (m : Mark) (row : Row) : Type 0 where
  pub prior : (id : ℕ) → Holds row.prior id ↔ IsFound entries sets.prior m id
  pub future : (id : ℕ) → Holds row.future id ↔ IsFound entries sets.future m id
  pub concrete : (id : ℕ) → Holds row.concrete id ↔ (IsFound entries sets.concrete m id ⊎ IsEntered entries m id)

-- each mark has its row at its place
pub record AreRowsOfMarks (entries : List Entry) (sets : SetsOfNodes) (marks : List Mark) (rows : List Row) : Type 0 where
  pub many : length rows ≡ length marks
  pub row : (k : ℕ) (m : Mark) (row : Row) → slice_get marks k ≡ Some m → slice_get rows k ≡ Some row
      → IsRowOfMark entries sets m row

-- a row with the names of an entry
pub record AddsEntry (sets : SetsOfNodes) (e : Entry) (old new : Row) : Type 0 where
  pub prior : (id : ℕ) → Holds new.prior id ↔ (Holds old.prior id ⊎ Holds (slice_index sets.prior e.node) id)
  pub future : (id : ℕ) → Holds new.future id ↔ (Holds old.future id ⊎ Holds (slice_index sets.future e.node) id)
  pub concrete : (id : ℕ) → Holds new.concrete id
      ↔ ((Holds old.concrete id ⊎ Holds (slice_index sets.concrete e.node) id) ⊎ IsStarted e.mark id)

-- the place of each row among the different ones
pub record AreKept (rows : List Row) (index : List ℕ) (kept : List Row) : Type 0 where
  pub many : length index ≡ length rows
  pub at : (k : ℕ) (row : Row) → slice_get rows k ≡ Some row → (j : ℕ) × (slice_get index k ≡ Some j) × (slice_get kept j ≡ Some row)
