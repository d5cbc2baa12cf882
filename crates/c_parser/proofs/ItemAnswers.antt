-- What the items of a text are where a function of the parser returns.
use Rattle.std.proofs.Common.{◌≡◌, ◌<◌, true, false, List, [], ◌∷◌, length, Result, sym, subst, arith}
use Rattle.std.specs.Prelude.{MatchResult, ◌==◌}
use Rattle.std.specs.Result.{IsErrAnd}
use Rattle.std.proofs.lemmas.Result.{err_from_is_err_and}
use Rattle.std.proofs.lemmas.Bool.{eqb-true}
use Rattle.c_lexer.specs.declared.token.Token.{Token}
use Rattle.c_tree.specs.declared.def.Def.{Def}
use Rattle.c_expr_parser.specs.declared.stop.Stop.{Stop}
use Rattle.c_expr_parser.specs.declared.stop.Stop.TheVariants.{Stuck, Deep, Memory}
use Rattle.c_expr_parser.proofs.PlanResults.{no_items}
use Rattle.c_parser.specs.TextPlans.{TextStops, text_parsed, item, ItemsRead}
use Rattle.c_parser.specs.Parts.{Makes, ItemsStop}

comes : (stop : Stop) {ts rest : List Token} {ds : List Def} → ItemsRead ts ds rest → 0 < length rest → TextStops stop (text_parsed item rest) → ItemsStop ts stop
comes (Stuck left) {ts} {rest} {ds} r h e = record { before = ds; rest = rest; items = r; some_left = h; stopped = e }
comes (Deep left) {ts} {rest} {ds} r h e = record { before = ds; rest = rest; items = r; some_left = h; stopped = e }
comes Memory r h e = tt

pub items_stop : {T : Type 0} (V : T → Type 0) (r : Result T Stop) (stop : Stop) {ts rest : List Token} {ds : List Def}
    → IsErrAnd r (λ told. told ≡ stop) → ItemsRead ts ds rest → 0 < length rest → TextStops stop (text_parsed item rest)
    → MatchResult r V (λ s. ItemsStop ts s)
items_stop V r stop {ts} told items h e =
    let w = err_from_is_err_and r told in
    subst (λ r. MatchResult r V (λ s. ItemsStop ts s)) (sym w.1) (subst (ItemsStop ts) (sym w.2) (comes stop items h e))

pub items_more : {ts rest behind : List Token} {ds all : List Def} → ItemsRead ts ds rest → Makes (text_parsed item rest) (length rest) ds all behind
    → ItemsRead ts all behind
items_more {ts} {behind} r m = subst (λ l. ItemsRead ts l behind) (sym m.added) (ItemsRead.more m.taken r m.gives m.counted)

-- whether tokens are left
pub some_left : (ts : List Token) → (length ts == 0) ≡ false → 0 < length ts
some_left [] h = let e : true ≡ false = h in absurd (cc)
some_left (t ∷ ts) h = omega arith

pub none_left : (ts : List Token) → (length ts == 0) ≡ true → ts ≡ []
none_left ts h = no_items ts (eqb-true (length ts) 0 h)
