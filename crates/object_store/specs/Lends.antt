-- What the objects end as, where one of them is lent for changes.
use Rattle.std.specs.Prelude.{ℕ, Option}
use Rattle.std.specs.Borrow.{Lends, LendsIf, Fml, MutBor}
use Rattle.object_store.specs.declared.object.Object.{Object}
use Rattle.object_store.specs.contracts.object.Object as object
use Rattle.object_store.specs.contracts.objects.Objects.{the_row}
use Rattle.object_store.specs.Stores.{Store, with_object}

-- once the loan ends, the handle has what was last written through it
abbrev pub lends_live : MutBor Store → ℕ → MutBor Object → Fml
lends_live s handle r = Lends the_row object.the_row s r (with_object s.now handle)

-- the same where an object lives under the handle; else nothing changes
abbrev pub lends_object : MutBor Store → ℕ → Option (MutBor Object) → Fml
lends_object s handle r = LendsIf the_row object.the_row s r (with_object s.now handle) s.now
