use Rattle.std.proofs.Common.{◌<◌, ◌^◌, ◌*◌, ◌%◌, ◌+◌, refl, bit_and, length, arith}
use Rattle.std.specs.Int.{trailing_zeros, bit_not, w64}
use Rattle.name_sets.specs.Search.{IsLesser}
use Rattle.name_sets.proofs.LeastLemmas.{done_at_first, done_at_last, done_step, takes_out, TakesOut, lesser_known, if_some_from_for}
use Rattle.name_sets.proofs.least.least_of_word.Goals as goal

pub loop-left-init : goal.loop-left-init
loop-left-init c = record {
  part = λ j there. there;
  known = c.requires.known;
  least = λ set shows. done_at_first c.args.names.now set c.args.base c.args.word c.args.so_far shows;
}

pub lesser-requires-clause-old : goal.lesser-requires-clause-old
lesser-requires-clause-old c = c.loop-left.invariant.known

pub lesser-requires-clause-id : goal.lesser-requires-clause-id
lesser-requires-clause-id c =
    let out = takes_out c.loop-left.left (trailing_zeros w64 c.loop-left.left) (omega arith) c.loop-left.auto.left-fits.fits refl in
    rw c.at-id.ensures (c.requires.ids (trailing_zeros w64 c.loop-left.left) (c.loop-left.invariant.part (trailing_zeros w64 c.loop-left.left) out.here))

pub loop-left-preserved : goal.loop-left-preserved
loop-left-preserved c =
    let bit = trailing_zeros w64 c.loop-left.left in
    let next = bit_and c.loop-left.left (bit_not w64 (1 * 2 ^ bit % 2 ^ 64)) in
    let out : TakesOut c.loop-left.left bit next = takes_out c.loop-left.left bit (omega arith) c.loop-left.auto.left-fits.fits refl in
    let lesser : IsLesser c.args.names.now c.loop-left.least (c.args.base + bit) c.lesser.result = rw (← c.at-id.ensures) c.lesser.ensures in
    let id : c.args.base + bit < length c.args.names.now = c.requires.ids bit (c.loop-left.invariant.part bit out.here) in
    record {
      part = λ j there. c.loop-left.invariant.part j (out.back j there);
      known = lesser_known c.args.names.now c.loop-left.least (c.args.base + bit) c.lesser.result c.loop-left.invariant.known id lesser;
      least = λ set shows at_first. done_step c.args.names.now set c.args.base c.args.word c.loop-left.left bit next c.lesser.result c.loop-left.least shows c.loop-left.invariant.part out (c.loop-left.invariant.least set shows at_first) lesser;
    }

pub loop-left-smaller : goal.loop-left-smaller
loop-left-smaller c = (takes_out c.loop-left.left (trailing_zeros w64 c.loop-left.left) (omega arith) c.loop-left.auto.left-fits.fits refl).less

pub returns-clause-known : goal.returns-clause-known
returns-clause-known c = if_some_from_for c.loop-left.least (λ id. id < length c.args.names.now) c.loop-left.invariant.known

pub returns-clause-least : goal.returns-clause-least
returns-clause-least c = λ set shows at_first. done_at_last c.args.names.now set c.args.base c.loop-left.left c.loop-left.least c.loop-left-test.false (c.loop-left.invariant.least set shows at_first)
