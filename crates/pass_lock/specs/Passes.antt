-- How contracts see a lock, and a pass.
use Rattle.std.specs.Prelude.{◌≡◌, ℕ, suc, zero, List, [], ◌∷◌, Option, None}
use Rattle.atomic_table.specs.Seated.{TableId}
use Rattle.pass_lock.specs.declared.notes.Entry.{Entry}
use Rattle.pass_lock.specs.declared.view.CheckIn.{CheckIn}
use Rattle.pass_lock.specs.declared.view.Held.{Held}
use Rattle.pass_lock.specs.declared.view.Open.{Open}
use Rattle.pass_lock.specs.Histories.{StartsWith, entries_of}

-- which lock it is, and how many passes it has
pub record Lock : Type 0 where
  pub table : TableId
  pub passes : ℕ

-- what a pass is of, and what it knows
pub record Known (E : Type 0) : Type 0 where
  pub table : TableId
  pub number : ℕ
  pub seen : List (Entry E)
  pub own : List E
  pub checkins : List CheckIn
  pub helds : List Held
  pub turn : Option (Open E)

module _ {E : Type 0} where
  -- the pass is one of this lock
  abbrev pub IsPassOf : Lock → Known E → Type 0
  IsPassOf lock pass = pass.table ≡ lock.table

  -- the pass is one of this table's lock and has no turn
  abbrev pub IsFreeAt : TableId → Known E → Type 0
  IsFreeAt table pass = (pass.table ≡ table) × (pass.turn ≡ None)

  -- the pass is one of this lock and has no turn
  abbrev pub IsFreePassOf : Lock → Known E → Type 0
  IsFreePassOf lock pass = IsFreeAt lock.table pass

  -- a turn that begins at this history
  abbrev pub opened : List (Entry E) → Open E
  opened log = record { log = log; deeds = [] }

  -- a pass that has seen nothing and made no entry
  abbrev pub fresh : TableId → ℕ → Known E
  fresh table number = record { table = table; number = number; seen = []; own = []; checkins = []; helds = []; turn = None }

  -- as many of them, with the numbers from this one on
  abbrev pub fresh_from : TableId → ℕ → ℕ → List (Known E)
  fresh_from table number zero = []
  fresh_from table number (suc count) = fresh table number ∷ fresh_from table (suc number) count

  -- the history begins with what the pass has seen, and the entries that name the pass are its own, each once and in order
  abbrev pub Keeps : List (Entry E) → Known E → Type 0
  Keeps log pass = StartsWith log pass.seen × (entries_of pass.number log ≡ pass.own)
