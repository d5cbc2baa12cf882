use Rattle.std.proofs.Common.{refl}
use Rattle.std.proofs.lemmas.Result.{IfErr-weaker}
use Rattle.plain_engine.proofs.Starting.{some_texts}
use Rattle.plain_engine.proofs.start.PlainEngine+SourceRun+S.new.Goals as goal

pub over-requires-clause-some : goal.over-requires-clause-some
over-requires-clause-some g c = some_texts c.args.text c.args.offers.items _ c.in-Ok.ensures.trees

pub returns-in-Ok-clause-start : goal.returns-in-Ok-clause-start
returns-in-Ok-clause-start g c =
    c.over.ensures.start c.args.text c.args.offers.items c.args.objects c.requires.equal c.in-Ok.ensures.trees c.in-Ok.ensures.run refl
    (λ rules events x moves rows legal world versions. tt)

pub returns-in-Ok-clause-fault : goal.returns-in-Ok-clause-fault
returns-in-Ok-clause-fault g c =
    IfErr-weaker c.over.result _ _ (λ e is. is c.args.text c.args.offers.items c.in-Ok.ensures.trees) c.over.ensures.fault
