use Rattle.std.proofs.Common.{◌≡◌, ◌+◌, ◌*◌, ◌<◌, length, arith}
use Rattle.name_sets.proofs.LeastLemmas.{eight_common, for_some_from_if}
use Rattle.name_sets.proofs.least.least_of_rows.Goals as goal

pub loop-block-preserved : goal.loop-block-preserved
loop-block-preserved c =
    let next : 512 * c.loop-block.block + 512 ≡ 512 * (c.loop-block.block + 1) = omega arith in
    record {
      known = for_some_from_if c.least_of_block-least.result (λ id. id < length c.args.names.now) c.least_of_block-least.ensures.known;
      least = λ set show. rw (← next) (c.least_of_block-least.ensures.least set
          (eight_common c.args.words.now c.args.other.now c.common-shared.result set c.loop-block.block c.loop-block-test.true c.common-shared.ensures show)
          (c.loop-block.invariant.least set show));
    }

pub returns : goal.returns
returns c = λ set show.
    let last : 512 * c.loop-block.block ≡ 2048 = omega arith in
    rw (← last) (c.loop-block.invariant.least set show)
