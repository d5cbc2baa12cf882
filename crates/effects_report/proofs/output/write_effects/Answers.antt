use Rattle.std.proofs.Common.{subst, sym}
use Rattle.c_tree.specs.declared.def.Program.{Program}
use Rattle.c_front.specs.Accepted.{Accepted}
use Rattle.effects_report.proofs.output.write_effects.Goals as goal

pub report_of-requires : goal.report_of-requires
report_of-requires g c = subst {A = Program} (Accepted c.args.text.now) (sym c.program.ensures.tree) c.requires
