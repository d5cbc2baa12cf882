-- Laws of transactions: what a thread may still use in one, the names that it recorded, and the versions of their entries.
use Rattle.std.specs.Prelude.{◌≡◌, ℕ, suc, Bool, true, false, List, All, None, is_some}
use Rattle.c_tree.specs.BareExpr.{Bytes}
use Rattle.c_tree.specs.BareDef.{BareDef}
use Rattle.c_semantics.specs.Changes.{changed}
use Rattle.c_semantics.specs.SourceTexts.{Text}
use Rattle.c_semantics.specs.Store.{Body, store}
use Rattle.c_semantics.specs.Texts.{definition}
use Rattle.c_semantics.specs.Threads.{Record}
use Rattle.name_sets.specs.NameLists.{is_among}
use Rattle.effects.specs.Sites.{Site, Next}
use Rattle.effects.specs.Nested.{Inside}
use Rattle.effects.specs.Contextual.{Prior, Future}
use Rattle.source_model.specs.Versions.{Table, current, next_table}
use Rattle.source_model.specs.Uses.{HasVersion, IsConsistent}
use Rattle.admission_laws.specs.Stacks.{Level, Stacked}
use Rattle.admission_laws.specs.Transactions.{Depth, Known}
use Rattle.admission_laws.specs.Closures.{Ahead}
use Rattle.admission_laws.specs.InTransactions.{AreVersioned}

-- what is ahead of a thread in its transaction is in the future effect of the point of its innermost frame
abbrev pub AheadIsFuture : Type 0
AheadIsFuture =
    (texts : List Text) (p : Site) (below : List Level) (name : Bytes)
    → Stacked (store texts) p below → Ahead texts p below name → Future (store texts) p name

-- a thread that is in a transaction stands inside
abbrev pub DeepIsInside : Type 0
DeepIsInside =
    (bodies : List Body) (p : Site) (below : List Level) (n : ℕ)
    → Stacked bodies p below → Depth bodies p below (suc n) → Inside bodies p

-- a recorded name is in the prior effect of each next point that is inside
abbrev pub KnownIsPrior : Type 0
KnownIsPrior =
    (bodies : List Body) (p q : Site) (below : List Level) (name : Bytes)
    → Inside bodies q → Next bodies p q → Known bodies p None below name → Prior bodies q name

-- a record that is consistent stays so where a text is installed
abbrev pub RecordsStayConsistent : Type 0
RecordsStayConsistent =
    (p q : List BareDef) (table : Table) (uses : Record)
    → IsConsistent table uses → IsConsistent (next_table (current table) p q table) uses

-- an entry that was current stays current where its name is defined and the text doesn't change it
abbrev pub LeftEntriesFollow : Type 0
LeftEntriesFollow =
    (p q : List BareDef) (table : Table) (uses : Record)
    → All (λ u. is_some (definition p u.name) ≡ true) uses → All (λ u. is_among (changed p q) u.name ≡ false) uses
    → All (HasVersion table (current table)) uses
    → All (HasVersion (next_table (current table) p q table) (suc (current table))) uses

-- the record of a thread whose entries are so versioned is consistent
abbrev pub VersionedIsConsistent : Type 0
VersionedIsConsistent =
    (texts : List Text) (table : Table) (pinned : Bool) (p : Site) (below : List Level) (uses : Record)
    → AreVersioned texts table pinned p below uses → IsConsistent table uses
