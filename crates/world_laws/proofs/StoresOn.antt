-- The same of statements, and of all that a frame has pending.
use Rattle.std.proofs.Common.{ℕ, ◌+◌, List, [], ◌∷◌, Option, Some, None}
use Rattle.c_tree.specs.BareExpr.{BareType}
use Rattle.c_semantics.specs.Texts.{Definitions}
use Rattle.c_semantics.specs.Values.{int_of, zero_of, converted_to}
use Rattle.c_semantics.specs.Resolved.{Expression, Statement, Statements}
use Rattle.c_semantics.specs.Resolved as made
use Rattle.c_semantics.specs.Points.{size, size_if, size_stmt, size_stmts}
use Rattle.c_semantics.specs.Stops as stop
use Rattle.c_semantics.specs.Pieces.{Piece, Loop, body_at, step_at, back_at, Compute, Arguments, Parts, Get, Set, Dup, Tuck, Swap, Apply, Combine, ConvertTo, Drop, Push, Truth, Created, AndThen, OrElse, Choose, Then, ThenElse, Turn, Repeat, Do, Sequence, Close, LoopTest, AfterBody, BackEdge, Until, At}
use Rattle.c_semantics.specs.Evaluation.{Next, Ways, give, change, close_scope, open_scope, declare, closing, only, back_edge, stepped, looped, tested, loop_test, repeated, until, loop_of, ways, local, as_truth, creation, combine, apply, drop, choose, set, stop_at}
use Rattle.c_semantics.specs.Evaluation as ev
use Rattle.world_laws.proofs.TypedValues.{converted_has_type}
use Rattle.world_laws.proofs.Storing.{Serves, given, Stores, IfStores, StmtStores, StmtsStore, LoopStores, asked, PiecesStore}
use Rattle.world_laws.proofs.StoresAhead.{Good, Rest, After, serves_more, plain, asking, stopped, given_good, changed_good, change_good, drop_good, apply_good, combine_good, choose_good, get_good, set_good, dup_good, tuck_good, swap_part_good, expression_good, expressions_good, parts_good}

module _ (look : Definitions) (result : BareType) where
  -- what holds on each way
  record GoodWays (k : Ways) : Type 0 where
    on : Good look result None k.on
    broken : Good look result None k.broken
    continued : Good look result None k.continued

  closed : (k : Next) → Good look result None k → Good look result None (close_scope k)
  closed k g values [] _ = tt
  closed k g values (variables ∷ scopes) _ = g values scopes tt

  closing_good : (k : Ways) → GoodWays k → GoodWays (closing k)
  closing_good k g = record {
    on = closed k.on g.on;
    broken = closed k.broken g.broken;
    continued = closed k.continued g.continued;
  }

  -- what follows is good where nothing is asked of it
  abbrev Follows : List Piece → Type 0
  Follows rest = Serves None (After look result rest) × Rest look result rest

  if_good : (e : Expression) (n : ℕ) (rest : List Piece) (k : Next) → Stores look e → Serves None (After look result rest)
      → Rest look result rest → Good look result None k → Good look result None (ev.expression e n rest k)
  if_good e n rest k h s more g =
      expression_good look result e n rest k h (serves_more (given e) (After look result rest) s) more (asking look result (After look result rest) k g)

  -- ---- loops

  back_good : (l : Loop) (rest : List Piece) → LoopStores look result l → Follows rest → Good look result None (back_edge l rest)
  back_good l rest h f = stopped look result stop.Back (back_at l) (LoopTest l ∷ rest) tt tt (h, f.0, f.1)

  stepped_good : (l : Loop) (e : Option Expression) (rest : List Piece) → LoopStores look result l → IfStores look e → Follows rest
      → Good look result None (stepped l e rest)
  stepped_good l None rest h i f = back_good l rest h f
  stepped_good l (Some e) rest h i f =
      if_good e (step_at l) (Drop ∷ BackEdge l ∷ rest) _ i tt (tt, tt, (h, f.0, f.1)) (drop_good look result _ (back_good l rest h f))

  looped_good : (l : Loop) (rest : List Piece) (k : Ways) → LoopStores look result l → Follows rest → GoodWays k → GoodWays (looped l rest k)
  looped_good l rest k h f g =
      let again = stepped_good l l.step rest h h.1 f in record { on = again; broken = g.on; continued = again }

  -- what a loop's body means, where it is good
  abbrev GoodBody : (List Piece → Ways → Next) → Type 0
  GoodBody body = (rest : List Piece) (k : Ways) → Follows rest → GoodWays k → Good look result None (body rest k)

  tested_good : (l : Loop) (e : Option Expression) (body : List Piece → Ways → Next) (rest : List Piece) (k : Ways)
      → LoopStores look result l → IfStores look e → GoodBody body → Follows rest → GoodWays k → Good look result None (tested l e body rest k)
  tested_good l None body rest k h i b f g = b (AfterBody l ∷ rest) (looped l rest k) (tt, (h, f.0, f.1)) (looped_good l rest k h f g)
  tested_good l (Some e) body rest k h i b f g =
      if_good e l.first (Turn l ∷ rest) _ i tt (h, f.0, f.1)
      (choose_good look result (body (AfterBody l ∷ rest) (looped l rest k)) k.on
      (b (AfterBody l ∷ rest) (looped l rest k) (tt, (h, f.0, f.1)) (looped_good l rest k h f g)) g.on)

  repeated_good : (s : Statement) (c : Expression) (n : ℕ) (rest : List Piece) → StmtStores look result s → Stores look c → Follows rest
      → Good look result None (repeated s c n rest)
  repeated_good s c n rest h i f =
      stopped look result stop.Back (n + size_stmt s + size c) (Do (made.DoWhile s c) n ∷ rest) tt tt ((h, i), f.0, f.1)

  until_good : (s : Statement) (c : Expression) (n : ℕ) (rest : List Piece) (k : Ways) → StmtStores look result s → Stores look c → Follows rest
      → GoodWays k → Good look result None (until s c n rest k)
  until_good s c n rest k h i f g =
      if_good c (n + size_stmt s) (Repeat s c n ∷ rest) _ i tt ((h, i), f.0, f.1)
      (choose_good look result (repeated s c n rest) k.on (repeated_good s c n rest h i f) g.on)

  -- ---- statements

  mutual
    statement_good : (a : Statement) (n : ℕ) (rest : List Piece) (k : Ways) → StmtStores look result a → Follows rest → GoodWays k
        → Good look result None (ev.statement a n rest k)
    statement_good (made.Block ss) n rest k h f g = λ values scopes _.
        sequence_good ss n (Close ∷ rest) (closing k) h (tt, (tt, f.0, f.1)) (closing_good k g) values ([] ∷ scopes) tt
    statement_good made.Empty n rest k h f g = g.on
    statement_good (made.Evaluate e) n rest k h f g = if_good e n (Drop ∷ rest) _ h tt (tt, f.0, f.1) (drop_good look result k.on g.on)
    statement_good (made.Declare type name None) n rest k h f g = λ values scopes _. g.on values (ev.declared name (zero_of type) scopes) tt
    statement_good (made.Declare type name (Some e)) n rest k h f g =
        let last : Rest look result (Drop ∷ rest) = (tt, f.0, f.1) in
        λ values scopes _. if_good e n (Set (made.Local name) (n + size e) ∷ Drop ∷ rest) _ h tt (tt, tt, last)
        (set_good look result (made.Local name) (n + size e) (Drop ∷ rest) _ tt tt last (drop_good look result k.on g.on))
        values (ev.declared name (zero_of type) scopes) tt
    statement_good (made.If c s) n rest k h f g =
        let m = n + size c in
        if_good c n (Then s m ∷ rest) _ h.0 tt (h.1, f.0, f.1)
        (choose_good look result (ev.statement s m rest k) k.on (statement_good s m rest k h.1 f g) g.on)
    statement_good (made.IfElse c s t) n rest k h f g =
        let m = n + size c in
        if_good c n (ThenElse s t m ∷ rest) _ h.0 tt ((h.1, h.2), f.0, f.1)
        (choose_good look result (ev.statement s m rest k) (ev.statement t (m + size_stmt s) rest k) (statement_good s m rest k h.1 f g)
        (statement_good t (m + size_stmt s) rest k h.2 f g))
    statement_good (made.While c s) n rest k h f g =
        tested_good (loop_of (Some c) None s n) (Some c) (ev.statement s (n + size c)) rest k (h.0, tt, h.1) h.0
        (λ r j. statement_good s (n + size c) r j h.1) f g
    statement_good (made.DoWhile s c) n rest k h f g =
        let again = until_good s c n rest k h.0 h.1 f g in
        statement_good s n (Until s c n ∷ rest) _ h.0 (tt, ((h.0, h.1), f.0, f.1)) (record { on = again; broken = g.on; continued = again })
    statement_good (made.For first test step s) n rest k h f g =
        let m = n + size_stmts first in
        let l = loop_of test step s m in
        let stores : LoopStores look result l = (h.1, h.2, h.3) in
        let ending = closing_good k g in
        let last : Follows (Close ∷ rest) = (tt, (tt, f.0, f.1)) in
        λ values scopes _. sequence_good first n (LoopTest l ∷ Close ∷ rest) _ h.0 (tt, (stores, last.0, last.1))
        (record {
          on = tested_good l test (ev.statement s (m + size_if test)) (Close ∷ rest) (closing k) stores h.1
              (λ r j. statement_good s (m + size_if test) r j h.3) last ending;
          broken = ending.broken;
          continued = ending.continued;
        })
        values ([] ∷ scopes) tt
    statement_good made.Break n rest k h f g = g.broken
    statement_good made.Continue n rest k h f g = g.continued
    statement_good (made.Return e) n rest k h f g =
        let m = n + size e in
        expression_good look result e n (At stop.Return m ∷ rest) (stop_at stop.Return m rest) h.1 h.0 (tt, f.0, f.1)
        (stopped look result stop.Return m rest tt f.0 f.1)
    statement_good made.UpdatePoint n rest k h f g = stopped look result stop.Update n rest tt f.0 f.1
    statement_good (made.Transaction ss) n rest k h f g =
        stopped look result stop.Begin n (Do (made.Block ss) (n + 2) ∷ At stop.End (n + 2 + size_stmts ss) ∷ rest) tt tt
        (h, tt, (tt, f.0, f.1))

    sequence_good : (ss : Statements) (n : ℕ) (rest : List Piece) (k : Ways) → StmtsStore look result ss → Follows rest → GoodWays k
        → Good look result None (ev.sequence ss n rest k)
    sequence_good made.NoStatements n rest k h f g = g.on
    sequence_good (made.StatementThen s ss) n rest k h f g =
        let m = n + size_stmt s in
        statement_good s n (Sequence ss m ∷ rest) _ h.0 (tt, (h.1, f.0, f.1))
        (record { on = sequence_good ss m rest k h.1 f g; broken = g.broken; continued = g.continued })

  -- ---- pending pieces

  -- on each way, where what is asked of the newest value holds
  pub record GoodFrom (o : Option BareType) (k : Ways) : Type 0 where
    pub on : Good look result o k.on
    pub broken : Good look result None k.broken
    pub continued : Good look result None k.continued

  unasked_ways : (o : Option BareType) (k : Ways) → Serves None o → GoodFrom o k → GoodWays k
  unasked_ways o k s g = record { on = plain look result o k.on s g.on; broken = g.broken; continued = g.continued }

  asked_ways : (k : Ways) → GoodWays k → GoodFrom None k
  asked_ways k g = record { on = g.on; broken = g.broken; continued = g.continued }

  onward : (o u : Option BareType) (next : Next) (k : Ways) → Good look result o next → GoodFrom u k → GoodFrom o (only next k)
  onward o u next k g rest = record { on = g; broken = rest.broken; continued = rest.continued }

  pub pieces_good : (ps : List Piece) → PiecesStore look result ps → GoodFrom (asked look result ps) (ways ps)
  pieces_good [] h = record { on = λ values scopes _. tt; broken = λ values scopes _. tt; continued = λ values scopes _. tt }
  pieces_good (p ∷ ps) h = by p h (pieces_good ps h.2)
    where
      after : Option BareType
      after = asked look result ps

      by : (p : Piece) → PiecesStore look result (p ∷ ps) → GoodFrom (asked look result ps) (ways ps)
          → GoodFrom (asked look result (p ∷ ps)) (ways (p ∷ ps))
      by (Compute e n) h g = onward None (asked look result ps) _ (ways ps) (expression_good look result e n ps (ways ps).on h.0 h.1 h.2 g.on) g
      by (Arguments es n) h g =
          onward None (asked look result ps) _ (ways ps)
          (expressions_good look result es n ps (ways ps).on h.0 h.1 h.2 (plain look result (asked look result ps) (ways ps).on h.1 g.on)) g
      by (Parts p n) h g =
          onward None (asked look result ps) _ (ways ps)
          (parts_good look result p n ps (ways ps).on h.0 h.1 h.2 (plain look result (asked look result ps) (ways ps).on h.1 g.on)) g
      by (Get p n) h g = onward None (asked look result ps) _ (ways ps) (get_good look result p n ps (ways ps).on h.1 h.2 g.on) g
      by (Set p n) h g = onward _ (asked look result ps) _ (ways ps) (set_good look result p n ps (ways ps).on h.0 h.1 h.2 g.on) g
      by (Dup p) h g =
          onward None (asked look result ps) _ (ways ps) (dup_good look result p (ways ps).on (plain look result (asked look result ps) (ways ps).on h.1 g.on)) g
      by (Tuck p) h g =
          onward None (asked look result ps) _ (ways ps) (tuck_good look result p (ways ps).on (plain look result (asked look result ps) (ways ps).on h.1 g.on)) g
      by (Swap p) h g =
          onward None (asked look result ps) _ (ways ps) (swap_part_good look result p (ways ps).on (plain look result (asked look result ps) (ways ps).on h.1 g.on)) g
      by (Apply op) h g =
          onward None (asked look result ps) _ (ways ps) (apply_good look result op (ways ps).on (plain look result (asked look result ps) (ways ps).on h.1 g.on)) g
      by (Combine op) h g =
          onward None (asked look result ps) _ (ways ps) (combine_good look result op (ways ps).on (plain look result (asked look result ps) (ways ps).on h.1 g.on)) g
      by (ConvertTo type) h g =
          onward None (asked look result ps) _ (ways ps)
          (changed_good look result (converted_to type) type (asked look result ps) (ways ps).on (converted_has_type type) h.1 g.on) g
      by Drop h g = onward None (asked look result ps) _ (ways ps) (drop_good look result (ways ps).on (plain look result (asked look result ps) (ways ps).on h.1 g.on)) g
      by (Push v) h g = onward None (asked look result ps) _ (ways ps) (given_good look result v (asked look result ps) (ways ps).on h.1 g.on) g
      by Truth h g =
          onward None (asked look result ps) _ (ways ps) (change_good look result as_truth (ways ps).on (plain look result (asked look result ps) (ways ps).on h.1 g.on)) g
      by Created h g =
          onward None (asked look result ps) _ (ways ps) (change_good look result creation (ways ps).on (plain look result (asked look result ps) (ways ps).on h.1 g.on)) g
      by (AndThen b m) h g =
          let on = plain look result (asked look result ps) (ways ps).on h.1 g.on in
          onward None (asked look result ps) _ (ways ps)
          (choose_good look result (ev.expression b m (Truth ∷ ps) (change as_truth (ways ps).on)) (give (int_of 0) (ways ps).on)
          (if_good b m (Truth ∷ ps) _ h.0 tt (tt, h.1, h.2) (change_good look result as_truth (ways ps).on on))
          (given_good look result (int_of 0) None (ways ps).on tt on)) g
      by (OrElse b m) h g =
          let on = plain look result (asked look result ps) (ways ps).on h.1 g.on in
          onward None (asked look result ps) _ (ways ps)
          (choose_good look result (give (int_of 1) (ways ps).on) (ev.expression b m (Truth ∷ ps) (change as_truth (ways ps).on))
          (given_good look result (int_of 1) None (ways ps).on tt on)
          (if_good b m (Truth ∷ ps) _ h.0 tt (tt, h.1, h.2) (change_good look result as_truth (ways ps).on on))) g
      by (Choose a b m) h g =
          let on = plain look result (asked look result ps) (ways ps).on h.1 g.on in
          onward None (asked look result ps) _ (ways ps)
          (choose_good look result (ev.expression a m ps (ways ps).on) (ev.expression b (m + size a) ps (ways ps).on)
          (if_good a m ps (ways ps).on h.0.0 h.1 h.2 on) (if_good b (m + size a) ps (ways ps).on h.0.1 h.1 h.2 on)) g
      by (Then s m) h g =
          let all = unasked_ways (asked look result ps) (ways ps) h.1 g in
          onward None (asked look result ps) _ (ways ps)
          (choose_good look result (ev.statement s m ps (ways ps)) (ways ps).on (statement_good s m ps (ways ps) h.0 (h.1, h.2) all) all.on) g
      by (ThenElse s t m) h g =
          let all = unasked_ways (asked look result ps) (ways ps) h.1 g in
          onward None (asked look result ps) _ (ways ps)
          (choose_good look result (ev.statement s m ps (ways ps)) (ev.statement t (m + size_stmt s) ps (ways ps))
          (statement_good s m ps (ways ps) h.0.0 (h.1, h.2) all) (statement_good t (m + size_stmt s) ps (ways ps) h.0.1 (h.1, h.2) all)) g
      by (Turn l) h g =
          let all = unasked_ways (asked look result ps) (ways ps) h.1 g in
          onward None (asked look result ps) _ (ways ps)
          (choose_good look result (ev.statement l.body (body_at l) (AfterBody l ∷ ps) (looped l ps (ways ps))) (ways ps).on
          (statement_good l.body (body_at l) (AfterBody l ∷ ps) (looped l ps (ways ps)) h.0.2 (tt, (h.0, h.1, h.2))
          (looped_good l ps (ways ps) h.0 (h.1, h.2) all)) all.on) g
      by (Repeat s c n) h g =
          let all = unasked_ways (asked look result ps) (ways ps) h.1 g in
          onward None (asked look result ps) _ (ways ps)
          (choose_good look result (repeated s c n ps) (ways ps).on (repeated_good s c n ps h.0.0 h.0.1 (h.1, h.2)) all.on) g
      by (Do s n) h g =
          onward None (asked look result ps) _ (ways ps)
          (statement_good s n ps (ways ps) h.0 (h.1, h.2) (unasked_ways (asked look result ps) (ways ps) h.1 g)) g
      by (Sequence ss n) h g =
          onward None (asked look result ps) _ (ways ps)
          (sequence_good ss n ps (ways ps) h.0 (h.1, h.2) (unasked_ways (asked look result ps) (ways ps) h.1 g)) g
      by Close h g = asked_ways (closing (ways ps)) (closing_good (ways ps) (unasked_ways (asked look result ps) (ways ps) h.1 g))
      by (LoopTest l) h g =
          onward None (asked look result ps) _ (ways ps)
          (tested_good l l.test (ev.statement l.body (body_at l)) ps (ways ps) h.0 h.0.0 (λ r j. statement_good l.body (body_at l) r j h.0.2)
          (h.1, h.2) (unasked_ways (asked look result ps) (ways ps) h.1 g)) g
      by (AfterBody l) h g =
          asked_ways (looped l ps (ways ps)) (looped_good l ps (ways ps) h.0 (h.1, h.2) (unasked_ways (asked look result ps) (ways ps) h.1 g))
      by (BackEdge l) h g = onward None (asked look result ps) _ (ways ps) (back_good l ps h.0 (h.1, h.2)) g
      by (Until s c n) h g =
          let all = unasked_ways (asked look result ps) (ways ps) h.1 g in
          let again = until_good s c n ps (ways ps) h.0.0 h.0.1 (h.1, h.2) all in
          record { on = again; broken = all.on; continued = again }
      by (At s n) h g = onward _ (asked look result ps) _ (ways ps) (stopped look result s n ps h.0 h.1 h.2) g

  -- local evaluation of a frame's pieces ends as it must
  pub halts_well : (ps : List Piece) → PiecesStore look result ps → Good look result (asked look result ps) (local ps)
  halts_well ps h = (pieces_good ps h).on
