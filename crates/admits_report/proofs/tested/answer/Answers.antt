use Rattle.std.proofs.Common.{sym, ap, ◌∙◌}
use Rattle.std.specs.Option.{option_map}
use Rattle.con_freeness.specs.Verdicts.{effect_seen}
use Rattle.admits_report.proofs.OneThread.{effect_of, obstacle_is}
use Rattle.admits_report.proofs.tested.answer.Goals as goal

pub returns-in-Admitted : goal.returns-in-Admitted
returns-in-Admitted c = λ texts changed interface table is in_c in_i.
    let a = c.args.admission.now in
    ap (λ v. option_map (effect_seen a.names.now) (effect_of v)) (sym c.in-Admitted.is)
    ∙ obstacle_is a.names.now c.args.row.now texts a.changed a.interface changed interface c.decide.result c.decide.ensures.verdict table is in_c in_i

pub returns-in-Refused : goal.returns-in-Refused
returns-in-Refused c = λ texts changed interface table is in_c in_i.
    let a = c.args.admission.now in
    ap (λ v. option_map (effect_seen a.names.now) (effect_of v)) (sym c.in-Refused.is)
    ∙ obstacle_is a.names.now c.args.row.now texts a.changed a.interface changed interface c.decide.result c.decide.ensures.verdict table is in_c in_i
