-- The rows over a store.
use Rattle.std.specs.Prelude.{List}
use Rattle.c_tree.specs.BareExpr.{Bytes}
use Rattle.c_semantics.specs.Store.{Body}
use Rattle.code_store.specs.declared.body.StoredBody.{StoredBody}
use Rattle.code_store.specs.Stored.{IsStoreOf}
use Rattle.checkin_rows.specs.Rows.{AreRowsOf, Contents}

-- the rows are those over the bodies for which a store has its own, by whichever names
abbrev pub AreRowsOver : List StoredBody → Contents → Type 0
AreRowsOver stored rows =
    (names : List Bytes) (bodies : List Body) → IsStoreOf names bodies stored → AreRowsOf names bodies rows
