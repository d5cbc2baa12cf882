use Rattle.std.proofs.Common.{◌+◌, ◌-◌, None, subst, sym, slice_set}
use Rattle.source_model.specs.Guards.{answered}
use Rattle.dsu_runs.specs.Books.{AreEntries, IsBook}
use Rattle.dsu_runs.proofs.Books.{closed}
use Rattle.dsu_runs.proofs.book.Book.close.Goals as goal

pub returns : goal.returns
returns c = λ setup g names meaning book opens says.
    let k = c.args.k in
    subst
    (λ b.
    IsBook setup (answered k meaning g) names (record b { open_offer = None; closed = b.closed + 1; answers = slice_set b.answers (k - 1) c.args.answer }))
    (sym c.self.view_is)
    (closed setup g names c.args.self.now k c.args.answer meaning (subst AreEntries c.self.view_is c.self.invariant) book opens says)
