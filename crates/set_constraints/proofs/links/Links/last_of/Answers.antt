use Rattle.std.proofs.Common.{sym, subst}
use Rattle.std.proofs.lemmas.List.{get_or_read}
use Rattle.set_constraints.specs.Chains.{IsUpTo, SkipsNone}
use Rattle.set_constraints.proofs.links.Links.last_of.Goals as goal

pub returns-clause-own : goal.returns-clause-own
returns-clause-own c =
    let links = c.args.self.now in
    let read = get_or_read links.last.items c.args.node c.index.result.now c.requires c.index.ensures 0 in
    subst (IsUpTo links.edges.items c.args.node _) (sym read) (links.linked.last_own c.args.node c.requires)

pub returns-clause-skips : goal.returns-clause-skips
returns-clause-skips c =
    let links = c.args.self.now in
    let read = get_or_read links.last.items c.args.node c.index.result.now c.requires c.index.ensures 0 in
    subst (SkipsNone links.edges.items c.args.node _) (sym read) (links.linked.last_skips c.args.node c.requires)
