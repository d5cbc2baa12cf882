use Rattle.std.proofs.Common.{rules}
use Rattle.effects_report.specs.EffectsText.{line_text}
use Rattle.effects_report.specs.Shown.{line_of}
use Rattle.dsu_journal.proofs.Pieces.{Appends-nothing}
use Rattle.effects_report.proofs.Putting.{read_more, read_front, mapped_all}
use Rattle.effects_report.proofs.write.put_lines.Goals as goal

pub returns-in-Err-clause-bytes : goal.returns-in-Err-clause-bytes
returns-in-Err-clause-bytes g c =
    read_front (line_text c.args.lines.now.text.now) (line_of c.args.names.now c.args.effects.now) _ _ _ c.args.spots.now c.loop-spot.spot-index _
    c.loop-spot-test.true c.loop-spot.invariant.1 c.in-Err.ensures.bytes

pub loop-spot-init : goal.loop-spot-init
loop-spot-init g c = (search rules, Appends-nothing _)

pub loop-spot-preserved : goal.loop-spot-preserved
loop-spot-preserved g c = (
  search rules,
  read_more (line_text c.args.lines.now.text.now) (line_of c.args.names.now c.args.effects.now) _ _ _ c.args.spots.now c.loop-spot.spot-index _
      c.loop-spot-test.true c.loop-spot.invariant.1 c.in-Ok.ensures.bytes,
)

pub returns-clause-bytes : goal.returns-clause-bytes
returns-clause-bytes g c =
    mapped_all (line_text c.args.lines.now.text.now) (line_of c.args.names.now c.args.effects.now) _ _ c.args.spots.now c.loop-spot.spot-index
    c.loop-spot-test.false c.loop-spot.invariant.1
