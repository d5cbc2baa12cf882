use Rattle.std.proofs.Common.{◌≡◌, length, ℕ, subst, arith, rules}
use Rattle.std.specs.Io.KnownBytes.{Appends}
use Rattle.effects_report.specs.EffectsText.{names_text}
use Rattle.effects_report.specs.Shown.{names_below}
use Rattle.dsu_journal.proofs.Pieces.{Appends-nothing}
use Rattle.effects_report.proofs.NamesBelow.{names_more, names_front}
use Rattle.effects_report.proofs.names.put_names.Goals as goal

pub returns-in-Err-clause-bytes : goal.returns-in-Err-clause-bytes
returns-in-Err-clause-bytes g c =
    names_front _ _ _ c.args.names.now c.args.set.now c.loop-index.index (length c.args.names.now) (omega arith) c.loop-index.invariant.1 c.in-Err.ensures.bytes

pub loop-index-init : goal.loop-index-init
loop-index-init g c = (search rules, Appends-nothing _)

pub loop-index-preserved : goal.loop-index-preserved
loop-index-preserved g c =
    (search rules, names_more _ _ _ c.args.names.now c.args.set.now c.loop-index.index c.loop-index.invariant.1 c.in-Ok.ensures.bytes)

pub returns-clause-bytes : goal.returns-clause-bytes
returns-clause-bytes g c =
    let all : c.loop-index.index ≡ length c.args.names.now = omega arith in
    subst {A = ℕ} (λ k. Appends (g.S.Sink.told c.args.sink.now) (g.S.Sink.told c.loop-index.sink) (names_text (names_below c.args.names.now c.args.set.now k)))
    all c.loop-index.invariant.1
