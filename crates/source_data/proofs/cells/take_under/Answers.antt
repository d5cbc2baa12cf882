use Rattle.std.proofs.Common.{◌-◌, sym, ap, ◌∙◌, arith}
use Rattle.std.specs.Vec.{vec_len}
use Rattle.local_evaluation.specs.Work.{newest}
use Rattle.source_data.proofs.Newest.{under_taken}
use Rattle.source_data.proofs.cells.take_under.Goals as goal

pub returns-in-Some-last_mut : goal.returns-in-Some-last_mut
returns-in-Some-last_mut c = λ v under rest is.
    under_taken c.pop.new.self.items c.in-Some.newest (vec_len c.pop.new.self - 1) v under rest (omega (arith, c.pop.new.self.ok.0))
    (sym (ap newest c.in-Some.ensures.items) ∙ is)
