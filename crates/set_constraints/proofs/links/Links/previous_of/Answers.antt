use Rattle.std.proofs.Common.{sym, subst, arith}
use Rattle.std.proofs.lemmas.List.{get_or_read}
use Rattle.set_constraints.specs.Chains.{IsUpTo, SkipsNone}
use Rattle.set_constraints.proofs.links.Links.previous_of.Goals as goal

pub returns-clause-own : goal.returns-clause-own
returns-clause-own c =
    let links = c.args.self.now in
    let read = get_or_read links.previous.items c.args.index c.index.result.now (omega (arith, links.linked.many)) c.index.ensures 0 in
    subst (IsUpTo links.edges.items _ c.args.index) (sym read) (links.linked.previous_own c.args.index c.requires)

pub returns-clause-skips : goal.returns-clause-skips
returns-clause-skips c =
    let links = c.args.self.now in
    let read = get_or_read links.previous.items c.args.index c.index.result.now (omega (arith, links.linked.many)) c.index.ensures 0 in
    subst (SkipsNone links.edges.items _ c.args.index) (sym read) (links.linked.previous_skips c.args.index c.requires)
