use Rattle.std.proofs.Common.{◌≡◌, ◌∙◌, ◌+◌, ◌-◌, ◌<◌, ◌%◌, ◌∷◌, [], All, length, arith, ap, subst, sym, length-append, length-set, length-take-le, mod-lt}
use Rattle.std.specs.Vec.{vec_capacity}
use Rattle.pass_lock.specs.Passes.{IsFreeAt}
use Rattle.threaded_vm.proofs.Crews.{Seated, last_fresh, one_seated, others_fresh}
use Rattle.threaded_vm.proofs.crew.Crew.seat_all.Goals as goal

pub loop-pass-preserved : goal.loop-pass-preserved
loop-pass-preserved g c =
    let i = c.loop-pass.invariant in
    let table = c.args.self.now.lock.table in
    let rest = c.pop.new.self.items in
    let items = c.in-Some.ensures.items in
    let last = last_fresh table c.loop-pass.passes.items rest c.in-Some.pass items i.0 in
    let count = ap length items ∙ length-append rest (c.in-Some.pass ∷ []) in
    let loads_len = c.loop-pass.loads.ok.0 in
    let loads = ap length c.pop-in-Some.ensures.rest ∙ length-take-le (c.loop-pass.loads.len - 1) c.loop-pass.loads.items (omega (arith, loads_len)) in
    let workers = c.loop-pass.workers.items in
    let workers_len = c.loop-pass.workers.ok.0 in
    let place = c.from.result % c.len.result in
    let some : 0 < c.len.result = let n = c.len.ensures in let few = i.3 in omega (arith, n, few, workers_len) in
    let below : place < length workers = let low = mod-lt c.from.result some in let n = c.len.ensures in omega (arith, low, n, workers_len) in
    let before : length c.loop-pass.passes.items ≡ length rest + 1 = omega (arith, count) in
    let free = subst (IsFreeAt table) (sym c.new-seat.ensures) last.0 in (
      others_fresh table c.loop-pass.passes.items rest c.in-Some.pass items i.0,
      (let few = i.1 in omega (arith, few, count)),
      (let same = i.2 in omega (arith, loads, loads_len, same, count)),
      subst (λ n. 0 < n) (sym (length-set workers place c.push_reserved.new.self)) i.3,
      one_seated (λ w. w.items) (λ w. vec_capacity w) table workers place (length rest) _ c.index_mut.result.now c.push_reserved.new.self c.new-seat.result
          (subst (λ n. All (Seated (λ w. w.items) (λ w. vec_capacity w) table n) workers) before i.4) below c.index_mut.ensures.value c.push_reserved.ensures.items
          c.push_reserved.ensures.capacity free,
    )
