-- Numbers for nodes: the places of points first, and then for each other kind of node a block of numbers, one for each id
-- of a name. Each number is that of at most one node.
use Rattle.std.proofs.Common.{◌≡◌, ℕ, ◌+◌, ◌<◌, ◌≤◌, List, Some, ap, refl, subst, sym, ◌∙◌, arith}
use Rattle.std.specs.Prelude.{slice_get}
use Rattle.c_tree.specs.BareExpr.{Bytes}
use Rattle.effects.specs.Sites.{Site}
use Rattle.effects.proofs.Systems.{Node, At, Calls, Whole, Name}
use Rattle.effects.proofs.NestedEquations.{NestedNode, Transactions, Function}
use Rattle.effects.proofs.RowEquations.{RowNode, From, To, Entries, Starts, Returns}
use Rattle.contextual_effects.proofs.Encoding.{IsNamed}

-- each place is below the number of points, and that of one point
pub record ArePlaces (Place : Site → ℕ → Type 0) (points : ℕ) : Type 0 where
  pub below : (p : Site) (i : ℕ) → Place p i → i < points
  pub one : (p q : Site) (i : ℕ) → Place p i → Place q i → p ≡ q

-- n is the number of a name in the block that begins at a number: the name's id is below a limit
pub record InBlock (names : List Bytes) (ids start : ℕ) (f : Bytes) (n : ℕ) : Type 0 where
  pub id : ℕ
  pub named : IsNamed names id f
  pub below : id < ids
  pub number : n ≡ start + id

from_start : {names : List Bytes} {ids start : ℕ} {f : Bytes} {n : ℕ} → InBlock names ids start f n → start ≤ n
from_start {start} {n} x = by x.id x.number
  where
    by : (id : ℕ) → n ≡ start + id → start ≤ n
    by id e = omega arith

before_end : {names : List Bytes} {ids start : ℕ} {f : Bytes} {n : ℕ} → InBlock names ids start f n → n < start + ids
before_end {ids} {start} {n} x = by x.id x.below x.number
  where
    by : (id : ℕ) → id < ids → n ≡ start + id → n < start + ids
    by id below e = omega arith

one_name : {names : List Bytes} {ids start : ℕ} {f g : Bytes} {n : ℕ}
    → InBlock names ids start f n → InBlock names ids start g n → f ≡ g
one_name {names} {start} {f} {g} {n} x y =
    item (sym x.named ∙ ap (slice_get names) (same x.id y.id x.number y.number) ∙ y.named)
  where
    same : (i j : ℕ) → n ≡ start + i → n ≡ start + j → i ≡ j
    same i j a b = omega arith

    item : Some f ≡ Some g → f ≡ g
    item e = cc

-- the nodes of the systems for effects
pub data NodeCode (Place : Site → ℕ → Type 0) (names : List Bytes) (points ids : ℕ) : Node → ℕ → Type 0 where
  of_point : (p : Site) (n : ℕ) → Place p n → NodeCode Place names points ids (At p) n
  of_calls : (f : Bytes) (n : ℕ) → InBlock names ids points f n → NodeCode Place names points ids (Calls f) n
  of_function : (f : Bytes) (n : ℕ) → InBlock names ids (points + ids) f n → NodeCode Place names points ids (Whole f) n
  of_name : (u : Bytes) (n : ℕ) → InBlock names ids (points + ids + ids) u n → NodeCode Place names points ids (Name u) n

-- the block of a node
abbrev low : ℕ → ℕ → Node → ℕ
low points ids (At p) = 0
low points ids (Calls f) = points
low points ids (Whole f) = points + ids
low points ids (Name u) = points + ids + ids

abbrev high : ℕ → ℕ → Node → ℕ
high points ids (At p) = points
high points ids (Calls f) = points + ids
high points ids (Whole f) = points + ids + ids
high points ids (Name u) = points + ids + ids + ids

range : {Place : Site → ℕ → Type 0} {names : List Bytes} {points ids : ℕ} → ArePlaces Place points
    → (a : Node) (n : ℕ) → NodeCode Place names points ids a n → (low points ids a ≤ n) × (n < high points ids a)
range places _ _ (of_point p n at) = (omega arith, places.below p n at)
range places _ _ (of_calls f n x) = (from_start x, before_end x)
range places _ _ (of_function f n x) = (from_start x, before_end x)
range places _ _ (of_name u n x) = (from_start x, before_end x)

pub one_node : {Place : Site → ℕ → Type 0} {names : List Bytes} {points ids : ℕ} → ArePlaces Place points
    → (a b : Node) (n : ℕ) → NodeCode Place names points ids a n → NodeCode Place names points ids b n → a ≡ b
one_node {Place} {names} {points} {ids} places a b n x y = by a b x y (range places a n x) (range places b n y)
  where
    by : (a b : Node) → NodeCode Place names points ids a n → NodeCode Place names points ids b n
        → (low points ids a ≤ n) × (n < high points ids a) → (low points ids b ≤ n) × (n < high points ids b) → a ≡ b
    by _ _ (of_point p _ x) (of_point q _ y) r s = ap At (places.one p q n x y)
    by _ _ (of_calls f _ x) (of_calls g _ y) r s = ap Calls (one_name x y)
    by _ _ (of_function f _ x) (of_function g _ y) r s = ap Whole (one_name x y)
    by _ _ (of_name u _ x) (of_name v _ y) r s = ap Name (one_name x y)
    by _ _ _ _ r s = absurd (omega arith)

-- the nodes of the system for nested functions: the functions by their ids, and the transactions next
pub data NestedCode (names : List Bytes) (ids : ℕ) : NestedNode → ℕ → Type 0 where
  of_function : (f : Bytes) (n : ℕ) → InBlock names ids 0 f n → NestedCode names ids (Function f) n
  of_transactions : (n : ℕ) → n ≡ ids → NestedCode names ids Transactions n

pub one_nested_node : {names : List Bytes} {ids : ℕ}
    → (a b : NestedNode) (n : ℕ) → NestedCode names ids a n → NestedCode names ids b n → a ≡ b
one_nested_node _ _ _ (NestedCode.of_function f n x) (NestedCode.of_function g _ y) = ap Function (one_name x y)
one_nested_node _ _ _ (NestedCode.of_function f n x) (of_transactions _ e) = let h = before_end x in absurd (omega arith)
one_nested_node _ _ _ (of_transactions n e) (NestedCode.of_function g _ y) = let h = before_end y in absurd (omega arith)
one_nested_node _ _ _ (of_transactions n e) (of_transactions _ d) = refl

-- the nodes of the systems for rows: the points twice, and three blocks
pub data RowCode (Place : Site → ℕ → Type 0) (names : List Bytes) (points ids : ℕ) : RowNode → ℕ → Type 0 where
  of_from : (p : Site) (n : ℕ) → Place p n → RowCode Place names points ids (From p) n
  of_to : (p : Site) (i n : ℕ) → Place p i → n ≡ points + i → RowCode Place names points ids (To p) n
  of_entries : (f : Bytes) (n : ℕ) → InBlock names ids (points + points) f n → RowCode Place names points ids (Entries f) n
  of_starts : (f : Bytes) (n : ℕ)
      → InBlock names ids (points + points + ids) f n → RowCode Place names points ids (Starts f) n
  of_returns : (f : Bytes) (n : ℕ)
      → InBlock names ids (points + points + ids + ids) f n → RowCode Place names points ids (Returns f) n

abbrev row_low : ℕ → ℕ → RowNode → ℕ
row_low points ids (From p) = 0
row_low points ids (To p) = points
row_low points ids (Entries f) = points + points
row_low points ids (Starts f) = points + points + ids
row_low points ids (Returns f) = points + points + ids + ids

abbrev row_high : ℕ → ℕ → RowNode → ℕ
row_high points ids (From p) = points
row_high points ids (To p) = points + points
row_high points ids (Entries f) = points + points + ids
row_high points ids (Starts f) = points + points + ids + ids
row_high points ids (Returns f) = points + points + ids + ids + ids

row_range : {Place : Site → ℕ → Type 0} {names : List Bytes} {points ids : ℕ} → ArePlaces Place points
    → (a : RowNode) (n : ℕ) → RowCode Place names points ids a n → (row_low points ids a ≤ n) × (n < row_high points ids a)
row_range places _ _ (of_from p n at) = (omega arith, places.below p n at)
row_range {points} places _ _ (of_to p i n at e) = to i n (places.below p i at) e
  where
    to : (i n : ℕ) → i < points → n ≡ points + i → (points ≤ n) × (n < points + points)
    to i n l e = (omega arith, omega arith)
row_range places _ _ (of_entries f n x) = (from_start x, before_end x)
row_range places _ _ (of_starts f n x) = (from_start x, before_end x)
row_range places _ _ (of_returns f n x) = (from_start x, before_end x)

pub one_row_node : {Place : Site → ℕ → Type 0} {names : List Bytes} {points ids : ℕ} → ArePlaces Place points
    → (a b : RowNode) (n : ℕ) → RowCode Place names points ids a n → RowCode Place names points ids b n → a ≡ b
one_row_node {Place} {names} {points} {ids} places a b n x y = by a b x y (row_range places a n x) (row_range places b n y)
  where
    same : (i j : ℕ) → n ≡ points + i → n ≡ points + j → i ≡ j
    same i j d e = omega arith

    by : (a b : RowNode) → RowCode Place names points ids a n → RowCode Place names points ids b n
        → (row_low points ids a ≤ n) × (n < row_high points ids a) → (row_low points ids b ≤ n) × (n < row_high points ids b)
        → a ≡ b
    by _ _ (of_from p _ x) (of_from q _ y) r s = ap From (places.one p q n x y)
    by _ _ (of_to p i _ x d) (of_to q j _ y e) r s = ap To (places.one p q i x (subst (Place q) (same j i e d) y))
    by _ _ (of_entries f _ x) (of_entries g _ y) r s = ap Entries (one_name x y)
    by _ _ (of_starts f _ x) (of_starts g _ y) r s = ap Starts (one_name x y)
    by _ _ (of_returns f _ x) (of_returns g _ y) r s = ap Returns (one_name x y)
    by _ _ _ _ r s = absurd (omega arith)
