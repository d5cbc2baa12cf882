use Rattle.std.proofs.Common.{rules}
use Rattle.effects_report.specs.EffectsText.{block_text}
use Rattle.effects_report.specs.Shown.{block_of}
use Rattle.dsu_journal.proofs.Pieces.{Appends-nothing}
use Rattle.effects_report.proofs.Putting.{mapped_more, mapped_front, mapped_all}
use Rattle.effects_report.proofs.write.put_sections.Goals as goal

pub returns-in-Err-clause-bytes : goal.returns-in-Err-clause-bytes
returns-in-Err-clause-bytes g c =
    mapped_front (block_text c.args.lines.now.text.now) (block_of c.args.names.now c.args.effects.now) _ _ _ c.args.sections.now c.loop-section.section-index c.section-item.result
    c.loop-section-test.true c.section-item.is c.loop-section.invariant.1 c.in-Err.ensures.bytes

pub loop-section-init : goal.loop-section-init
loop-section-init g c = (search rules, Appends-nothing _)

pub loop-section-preserved : goal.loop-section-preserved
loop-section-preserved g c = (
  search rules,
  mapped_more (block_text c.args.lines.now.text.now) (block_of c.args.names.now c.args.effects.now) _ _ _ c.args.sections.now c.loop-section.section-index c.section-item.result
      c.loop-section-test.true c.section-item.is c.loop-section.invariant.1 c.in-Ok.ensures.bytes,
)

pub returns-clause-bytes : goal.returns-clause-bytes
returns-clause-bytes g c =
    mapped_all (block_text c.args.lines.now.text.now) (block_of c.args.names.now c.args.effects.now) _ _ c.args.sections.now c.loop-section.section-index
    c.loop-section-test.false c.loop-section.invariant.1
