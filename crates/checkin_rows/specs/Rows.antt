-- Which rows are those of the check-ins and of the starts of a store.
use Rattle.std.specs.Prelude.{◌≡◌, ℕ, zero, suc, List, Option, Some, None, Contains, slice_get}
use Rattle.std.specs.Option.{option_and_then, unwrap_or}
use Rattle.name_sets.specs.IdSet.{Holds}
use Rattle.c_tree.specs.BareExpr.{Bytes}
use Rattle.c_semantics.specs.Store.{Body, Start, CheckInOf}
use Rattle.c_semantics.specs.Store as store
use Rattle.effects.specs.Sites.{Site, IsEntry}
use Rattle.effects.specs.Rows.{IsCheckIn, InPrior, InFuture, InConcrete}
use Rattle.contextual_effects.specs.Effects.{HasNames}
use Rattle.con_freeness.specs.declared.row.Row.{Row}
use Rattle.checkin_rows.specs.declared.row.Mark.{Mark}
use Rattle.checkin_rows.specs.declared.row.Mark.TheVariants as mark

-- the marks that have rows, in the order of their numbers; for each the place of its row among the different rows; these,
-- and the row of no names
pub record Contents : Type 0 where
  pub marks : List Mark
  pub index : List ℕ
  pub kept : List Row
  pub empty : Row

-- the number of a mark: 0 if it has no row, and else one more than its place
abbrev pub IsNumber : List Mark → Mark → ℕ → Type 0
IsNumber marks m zero = Contains marks m → ⊥
IsNumber marks m (suc k) = slice_get marks k ≡ Some m

-- the place of the row of a number among the different rows, if it has one
abbrev pub place_of : Contents → ℕ → Option ℕ
place_of r zero = None
place_of r (suc k) = slice_get r.index k

-- the row of a number; a number without a row has that of no names
abbrev pub row_of : Contents → ℕ → Row
row_of r n = unwrap_or (option_and_then (slice_get r.kept) (place_of r n)) r.empty

-- a row has exactly the names of the row of a mark, by a table of names
pub record IsRow (names : List Bytes) (bodies : List Body) (mark : store.Mark) (row : Row) : Type 0 where
  pub prior : HasNames names row.prior (InPrior bodies mark)
  pub future : HasNames names row.future (InFuture bodies mark)
  pub concrete : HasNames names row.concrete (InConcrete bodies mark)

-- a row has no names
pub record IsEmptyRow (row : Row) : Type 0 where
  pub prior : (id : ℕ) → Holds row.prior id → ⊥
  pub future : (id : ℕ) → Holds row.future id → ⊥
  pub concrete : (id : ℕ) → Holds row.concrete id → ⊥

-- no item is in a list twice
abbrev pub AreDifferent : {A : Type 0} → List A → Type 0
AreDifferent {A} xs = (i j : ℕ) (x : A) → slice_get xs i ≡ Some x → slice_get xs j ≡ Some x → i ≡ j

-- the rows are those of the check-ins of the bodies and of the starts of their functions
pub record AreRowsOf (names : List Bytes) (bodies : List Body) (r : Contents) : Type 0 where
  -- of each check-in of a body; another one has the number 0, and covers nothing
  pub check_in : (f : Bytes) (id generation number n : ℕ) → slice_get names id ≡ Some f
      → IsNumber r.marks (mark.CheckIn id generation number) n → IsRow names bodies (CheckInOf f generation number) (row_of r n)
  pub no_check_in : (f : Bytes) (id generation number : ℕ) (p : Site) → slice_get names id ≡ Some f
      → IsCheckIn bodies p f generation number → IsNumber r.marks (mark.CheckIn id generation number) 0 → ⊥
  -- of the start of each function that has a body with an entry
  pub start : (f : Bytes) (id n : ℕ) (e : Site) → slice_get names id ≡ Some f → IsEntry bodies e f
      → IsNumber r.marks (mark.Start id) n → IsRow names bodies (Start f) (row_of r n)
  pub no_start : (f : Bytes) (id : ℕ) (e : Site) → slice_get names id ≡ Some f → IsEntry bodies e f
      → IsNumber r.marks (mark.Start id) 0 → ⊥
