use Rattle.std.proofs.Common.{◌+◌, ◌-◌, length, refl, arith}
use Rattle.std.specs.Vec.{with_item}
use Rattle.std.proofs.lemmas.List.{length-set}
use Rattle.code_machine.specs.Versions.{texts_by}
use Rattle.code_machine.proofs.Answering.{answered}
use Rattle.code_machine.proofs.Going.{runs_so}
use Rattle.code_machine.proofs.Resuming.{can_resume, words_there}
use Rattle.code_machine.proofs.WordsKept.{kept_words}
use Rattle.code_machine.proofs.running.Running.answer.Goals as goal

pub go_on-requires : goal.go_on-requires
go_on-requires c =
    let r = c.args.self.now in
    let takes = words_there c.args.image.now.functions.items (length c.args.image.now.callees.items) r c.args.stop.now c.requires.rests in
    can_resume c.args.image.now.functions.items (length c.args.image.now.callees.items) r c.args.stop.now c.requires.rests (record r.frames { words = with_item r.frames.words (c.stack-low.result.0 + c.stack-low.result.1 - 1) c.args.word }) c.stack-low.result.1
    (kept_words r.frames (with_item r.frames.words (c.stack-low.result.0 + c.stack-low.result.1 - 1) c.args.word) c.requires.rests.fits.kept
    (length-set r.frames.words.items (c.stack-low.result.0 + c.stack-low.result.1 - 1) c.args.word) refl) refl refl c.requires.exchanges.returns
    (omega (arith, c.stack-low.ensures.height, c.requires.exchanges.takes, c.requires.exchanges.leaves, takes))

pub returns-clause-answered : goal.returns-clause-answered
returns-clause-answered c = λ all versions code.
    let r = c.args.self.now in
    let takes = words_there c.args.image.now.functions.items (length c.args.image.now.callees.items) r c.args.stop.now c.requires.rests in
    answered (texts_by all versions) c.args.image.now r (record r.frames { words = with_item r.frames.words (c.stack-low.result.0 + c.stack-low.result.1 - 1) c.args.word }) c.go_on.new.self c.args.stop.now c.args.word (c.stack-low.result.0 + c.stack-low.result.1 - 1) c.stack-low.result.1 c.requires.rests
    (omega (arith, c.requires.exchanges.takes, takes)) refl refl refl
    (omega (arith, c.stack-low.ensures.low, c.stack-low.ensures.height, c.requires.exchanges.takes, takes)) c.stack-low.ensures.height (c.go_on.ensures.went all versions (runs_so all versions c.args.image.now r (record r { frames = record r.frames { words = with_item r.frames.words (c.stack-low.result.0 + c.stack-low.result.1 - 1) c.args.word } }) refl code))

pub returns-clause-runs : goal.returns-clause-runs
returns-clause-runs c = λ all versions code.
    let r = c.args.self.now in
    c.go_on.ensures.runs all versions
    (runs_so all versions c.args.image.now r (record r { frames = record r.frames { words = with_item r.frames.words (c.stack-low.result.0 + c.stack-low.result.1 - 1) c.args.word } }) refl code)
