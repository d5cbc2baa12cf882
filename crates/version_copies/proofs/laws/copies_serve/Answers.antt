use Rattle.version_copies.proofs.SameContents.{same_meaning, same_stores, same_with_more}
use Rattle.version_copies.proofs.laws.copies_serve.Goals as goal

pub returns-clause-meaning : goal.returns-clause-meaning
returns-clause-meaning c = same_meaning

pub returns-clause-stores : goal.returns-clause-stores
returns-clause-stores c = same_stores

pub returns-clause-more : goal.returns-clause-more
returns-clause-more c = same_with_more
