use Rattle.name_sets.specs.Row.{IsRow}
use Rattle.name_sets.proofs.RowSetLemmas.{IsRow-unites, members-unites, grew-unites, same-unites, HasIds-row}
use Rattle.name_sets.proofs.set.NameSet.union_with.Goals as goal

pub invariant_of-self : goal.invariant_of-self
invariant_of-self c = IsRow-unites c.self.invariant c.other.invariant c.unite.ensures.words c.unite.array_long

pub returns-clause-members : goal.returns-clause-members
returns-clause-members c =
    let row : IsRow c.unite.new.words = IsRow-unites c.self.invariant c.other.invariant c.unite.ensures.words c.unite.array_long in
    rw (← c.self.view_is, ← c.other.view_is) (members-unites c.self.invariant c.other.invariant c.unite.ensures.words row)

pub returns-clause-grew : goal.returns-clause-grew
returns-clause-grew c =
    let row : IsRow c.unite.new.words = IsRow-unites c.self.invariant c.other.invariant c.unite.ensures.words c.unite.array_long in
    rw (← c.self.view_is) (grew-unites c.self.invariant c.other.invariant c.unite.ensures.words row c.unite.result c.unite.ensures.grew)

pub returns-clause-same : goal.returns-clause-same
returns-clause-same c =
    let row : IsRow c.unite.new.words = IsRow-unites c.self.invariant c.other.invariant c.unite.ensures.words c.unite.array_long in
    rw (← c.self.view_is) (same-unites c.self.invariant c.other.invariant c.unite.ensures.words row c.unite.result c.unite.ensures.grew)

pub returns-clause-ids : goal.returns-clause-ids
returns-clause-ids c = HasIds-row c.unite.new.words (IsRow-unites c.self.invariant c.other.invariant c.unite.ensures.words c.unite.array_long)
