use Rattle.std.proofs.Common.{◌≡◌, ◌+◌, ◌*◌, ◌∙◌, arith}
use Rattle.std.proofs.lemmas.Simd.{length-put_chunk}
use Rattle.name_sets.proofs.UniteLemmas.{Turn, new_done, new_rest, new_grew}
use Rattle.name_sets.proofs.words.unite.Goals as goal

pub loop-block-preserved : goal.loop-block-preserved
loop-block-preserved c =
    let at = 8 * c.loop-block.block in
    let next : 8 * c.loop-block.block + 8 ≡ 8 * (c.loop-block.block + 1) = omega arith in
    let t : Turn c.args.words.now c.args.other.now c.loop-block.words at c.load-mine.result c.load.result
    = record { mine_is = c.load-mine.ensures; theirs_is = c.load.ensures; long = c.loop-block.invariant.long; long' = c.told-other; room = omega arith; rest = c.loop-block.invariant.rest } in
    record {
      long = rw c.store.ensures (length-put_chunk at c.loop-block.words _ ∙ c.loop-block.invariant.long);
      done = λ j below. rw c.store.ensures (new_done t c.loop-block.invariant.done j (omega arith));
      rest = λ j above. rw c.store.ensures (new_rest t j (omega arith));
      grew = rw (← next) (new_grew t c.loop-block.grew c.has_bits-grew.result c.loop-block.invariant.grew c.has_bits-grew.ensures);
    }
