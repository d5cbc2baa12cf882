-- What is known of a thread in a transaction: the names that it recorded, and versions that their entries share.
use Rattle.std.specs.Prelude.{◌≡◌, ℕ, ◌+◌, ◌<◌, Bool, true, false, List, [], ◌∷◌, All, Option}
use Rattle.run_types.specs.Skeleton.{PointKind, Begin, End}
use Rattle.c_tree.specs.BareExpr.{Bytes}
use Rattle.c_semantics.specs.SourceTexts.{Text}
use Rattle.c_semantics.specs.Store.{Body, store}
use Rattle.c_semantics.specs.Threads.{Enter, Record}
use Rattle.effects.specs.Sites.{Site, Passes}
use Rattle.source_model.specs.Versions.{Table, current}
use Rattle.source_model.specs.Uses.{HasVersion, use_of}
use Rattle.admission_laws.specs.Stacks.{Level}
use Rattle.admission_laws.specs.Transactions.{HasDepth, Depth, Known}
use Rattle.admission_laws.specs.Closures.{Ahead}

-- in how many transactions the frames below are
abbrev pub LowerDepth : List Body → List Level → ℕ → Type 0
LowerDepth bodies [] n = n ≡ 0
LowerDepth bodies (c ∷ below) n = Depth bodies c.site below n

-- a version that is in the entries of all recorded uses, and in the current one of each name that may still be used
pub record Shares (texts : List Text) (table : Table) (p : Site) (below : List Level) (uses : Record) : Type 0 where
  pub version : ℕ
  pub recorded : All (HasVersion table version) uses
  pub ahead : (name : Bytes) → Ahead texts p below name → HasVersion table version (use_of table name)

-- the entries of a thread that isn't pinned are all current; one that is has such a version
abbrev pub AreVersioned : List Text → Table → Bool → Site → List Level → Record → Type 0
AreVersioned texts table false p below uses = All (HasVersion table (current table)) uses
AreVersioned texts table true p below uses = Shares texts table p below uses

-- a thread at a site, with its depth, its record and its pin
pub record InTransaction (texts : List Text) (table : Table) (depth : ℕ) (uses : Record) (pinned : Bool) (p : Site) (own : ℕ)
    (due : Option Enter) (below : List Level) : Type 0 where
  pub here : HasDepth (store texts) p own
  pub lower : ℕ
  pub lower_is : LowerDepth (store texts) below lower
  pub total : depth ≡ own + lower
  pub known : 0 < depth → All (λ u. Known (store texts) p due below u.name) uses
  pub versioned : 0 < depth → AreVersioned texts table pinned p below uses
  pub outside : depth ≡ 0 → uses ≡ []
  pub pin : pinned ≡ true → 0 < depth

-- whether a thread is in as many transactions after a point as before
abbrev pub keeps_depth : PointKind → Bool
keeps_depth Begin = false
keeps_depth End = false
keeps_depth _ = true

-- no transaction begins or ends at a site
abbrev pub IsStill : List Body → Site → Type 0
IsStill bodies p = Passes bodies p (λ at. keeps_depth at.kind)
