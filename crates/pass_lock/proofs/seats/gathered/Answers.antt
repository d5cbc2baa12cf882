use Rattle.std.proofs.Common.{◌∷◌, [], ◌++◌, map, ap, ◌∙◌, subst, All}
use Rattle.std.proofs.lemmas.List.{append_assoc}
use Rattle.pass_lock.specs.Passes.{IsFreeAt}
use Rattle.pass_lock.specs.Steps.{claim_of}
use Rattle.pass_lock.proofs.Calls.{all_front, all_last, resting, gathers}
use Rattle.pass_lock.proofs.Kept.{joins_one}
use Rattle.pass_lock.proofs.seats.gathered.Goals as goal

pub join_seat-requires : goal.join_seat-requires
join_seat-requires g c = let i = c.loop-pass.invariant in
    let free = all_last (IsFreeAt c.args.board.now.table_id) c.pop-in-loop-pass.new.self.items c.in-Some.pass (subst (All (IsFreeAt c.args.board.now.table_id)) c.in-Some.ensures.items i.4) in
    let r = resting c.into_seat-seat.result c.in-Some.pass c.into_seat-seat.ensures.0 c.into_seat-seat.ensures.1 free.1 in (
      ap (λ k. k.table) c.into_seat-seat.ensures.1 ∙ free.0,
      i.2,
      ap (λ m. m.1) i.3,
      c.requires.some.0,
      joins_one g.W.Told.history _ _ _ c.into_seat-seat.result.me.0 c.loop-pass.all.me.0 (ap (λ m. m.0.stage) r) (ap (λ m. m.0.stage) i.3),
    )

pub loop-pass-preserved : goal.loop-pass-preserved
loop-pass-preserved g c = let i = c.loop-pass.invariant in let items = c.in-Some.ensures.items in
    let free = all_last (IsFreeAt c.args.board.now.table_id) c.pop-in-loop-pass.new.self.items c.in-Some.pass (subst (All (IsFreeAt c.args.board.now.table_id)) items i.4) in
    let r = resting c.into_seat-seat.result c.in-Some.pass c.into_seat-seat.ensures.0 c.into_seat-seat.ensures.1 free.1 in (
      c.in-Some.pass ∷ i.0,
      i.1 ∙ (ap (λ l. l ++ i.0) items ∙ append_assoc c.pop-in-loop-pass.new.self.items (c.in-Some.pass ∷ []) i.0),
      c.join_seat.ensures.0 ∙ (ap (λ k. k.table) c.into_seat-seat.ensures.1 ∙ free.0),
      gathers c.into_seat-seat.result.me c.loop-pass.all.me c.join_seat.new.seat.me (claim_of c.in-Some.pass) (map claim_of i.0) r i.3 c.join_seat.ensures.2,
      all_front (IsFreeAt c.args.board.now.table_id) c.pop-in-loop-pass.new.self.items (c.in-Some.pass ∷ []) (subst (All (IsFreeAt c.args.board.now.table_id)) items i.4),
    )
