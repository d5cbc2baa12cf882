use Rattle.std.proofs.Common.{rules, ◌≡◌, ◌≢◌, ◌∷◌, [], sym, ap, ◌∙◌, subst, Some}
use Rattle.atomic_table.specs.Table.{rest}
use Rattle.pass_lock.specs.Ruled.{Fits}
use Rattle.pass_lock.specs.Steps.{first_claim, HasTicket}
use Rattle.pass_lock.proofs.Calls.{same_head, waited}
use Rattle.pass_lock.proofs.Kept.{looks_one}
use Rattle.pass_lock.proofs.seats.wait_for.Goals as goal

pub load-serving-requires : goal.load-serving-requires
load-serving-requires g c = (search rules, search rules, looks_one g.W.Told.history _ _ _ c.loop.seat.me (subst (λ m. m.0.claims ≡ first_claim m.0.claims ∷ []) (sym c.loop.invariant.1) c.requires.seat.1))

pub exchange-requires : goal.exchange-requires
exchange-requires g c = let has = subst (λ m. HasTicket c.args.ticket m.0.stage) (sym c.loop.invariant.1) c.requires.seat.0 in let hit : c.load-serving.result ≡ c.args.ticket = search rules in
    let t = (c.load-serving.ensures.2 c.args.ticket has).1 hit in let carried = ap (λ m. m.1) t.1 in (search rules, (Some t.0, carried ∙ ap (λ cs. (0, Some t.0) ∷ rest cs) (sym carried)))

pub unwrap-requires : goal.unwrap-requires
unwrap-requires g c = let has = subst (λ m. HasTicket c.args.ticket m.0.stage) (sym c.loop.invariant.1) c.requires.seat.0 in let hit : c.load-serving.result ≡ c.args.ticket = search rules in
    let t = (c.load-serving.ensures.2 c.args.ticket has).1 hit in let is : Some t.0 ≡ c.exchange.result = same_head _ _ _ _ _ (ap (λ m. m.1) t.1) c.exchange.ensures.2 in search rules

pub returns-then-serving-ticket-clause-seat : goal.returns-then-serving-ticket-clause-seat
returns-then-serving-ticket-clause-seat g c = let has = subst (λ m. HasTicket c.args.ticket m.0.stage) (sym c.loop.invariant.1) c.requires.seat.0 in let hit : c.load-serving.result ≡ c.args.ticket = search rules in
    let t = (c.load-serving.ensures.2 c.args.ticket has).1 hit in let is : Some t.0 ≡ c.exchange.result = same_head _ _ _ _ _ (ap (λ m. m.1) t.1) c.exchange.ensures.2 in let same : t.0 ≡ c.unwrap.result = search rules in
    (search rules, waited g.W.Told.history c.args.seat.now.me c.loop.seat.me c.load-serving.new.seat.me c.exchange.new.seat.me t.0 c.unwrap.result c.loop.invariant.1 t.1 c.requires.seat.2 same c.exchange.ensures.3)

pub returns-then-serving-ticket-clause-history : goal.returns-then-serving-ticket-clause-history
returns-then-serving-ticket-clause-history g c = let has = subst (λ m. HasTicket c.args.ticket m.0.stage) (sym c.loop.invariant.1) c.requires.seat.0 in let hit : c.load-serving.result ≡ c.args.ticket = search rules in
    let t = (c.load-serving.ensures.2 c.args.ticket has).1 hit in let is : Some t.0 ≡ c.exchange.result = same_head _ _ _ _ _ (ap (λ m. m.1) t.1) c.exchange.ensures.2 in let same : t.0 ≡ c.unwrap.result = search rules in
    subst (λ v. Fits (g.W.Told.history v) (first_claim c.args.seat.now.me.0.claims)) same (subst (λ m. Fits (g.W.Told.history t.0) (first_claim m.0.claims)) c.loop.invariant.1 t.2)

pub loop-preserved : goal.loop-preserved
loop-preserved g c = let has = subst (λ m. HasTicket c.args.ticket m.0.stage) (sym c.loop.invariant.1) c.requires.seat.0 in let miss : c.load-serving.result ≢ c.args.ticket = search rules in
    (search rules, (c.load-serving.ensures.2 c.args.ticket has).0 miss ∙ c.loop.invariant.1)
