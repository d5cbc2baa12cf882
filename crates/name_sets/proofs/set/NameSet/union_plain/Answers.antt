use Rattle.name_sets.specs.Row.{IsRow}
use Rattle.name_sets.proofs.RowSetLemmas.{IsRow-unites, members-unites, grew-unites, same-unites, HasIds-row}
use Rattle.name_sets.proofs.set.NameSet.union_plain.Goals as goal

pub invariant_of-self : goal.invariant_of-self
invariant_of-self c = IsRow-unites c.self.invariant c.other.invariant c.unite_plain.ensures.words c.unite_plain.array_long

pub returns-clause-members : goal.returns-clause-members
returns-clause-members c =
    let row : IsRow c.unite_plain.new.words = IsRow-unites c.self.invariant c.other.invariant c.unite_plain.ensures.words c.unite_plain.array_long in
    rw (← c.self.view_is, ← c.other.view_is) (members-unites c.self.invariant c.other.invariant c.unite_plain.ensures.words row)

pub returns-clause-grew : goal.returns-clause-grew
returns-clause-grew c =
    let row : IsRow c.unite_plain.new.words = IsRow-unites c.self.invariant c.other.invariant c.unite_plain.ensures.words c.unite_plain.array_long in
    rw (← c.self.view_is) (grew-unites c.self.invariant c.other.invariant c.unite_plain.ensures.words row c.unite_plain.result c.unite_plain.ensures.grew)

pub returns-clause-same : goal.returns-clause-same
returns-clause-same c =
    let row : IsRow c.unite_plain.new.words = IsRow-unites c.self.invariant c.other.invariant c.unite_plain.ensures.words c.unite_plain.array_long in
    rw (← c.self.view_is) (same-unites c.self.invariant c.other.invariant c.unite_plain.ensures.words row c.unite_plain.result c.unite_plain.ensures.grew)

pub returns-clause-ids : goal.returns-clause-ids
returns-clause-ids c = HasIds-row c.unite_plain.new.words (IsRow-unites c.self.invariant c.other.invariant c.unite_plain.ensures.words c.unite_plain.array_long)
