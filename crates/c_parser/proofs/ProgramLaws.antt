-- The laws of whole texts: each item of a text is read as it is and no further, so a text is read in one way.
use Rattle.std.specs.Prelude.{◌≡◌, ℕ, zero, suc, List, [], ◌∷◌, ◌++◌, take, length}
use Rattle.std.proofs.Common.{refl, ap, sym, ◌∙◌}
use Rattle.c_lexer.specs.declared.token.Token.{Token}
use Rattle.c_tree.specs.declared.def.Def.{Def}
use Rattle.c_expr_parser.specs.Placed.{Placed, tokens, end}
use Rattle.c_expr_parser.specs.Definitions.{ItemList, TranslationUnit}
use Rattle.c_expr_parser.specs.Laws.{OneProgram, ProgramDepth}
use Rattle.c_parser.specs.TextPlans.{Found, TextWanted, run_text, item}
use Rattle.c_parser.specs.TextPlans.Found.{made}
use Rattle.c_parser.specs.TextPlans.TextPlan.{Give}
use Rattle.c_parser.specs.TextPlans.TextTrace.{Gave, Stopped}
use Rattle.c_parser.proofs.JoinedTraces.{nexts, text_placed, text_end, placed_nexts, end_nexts, run_text_same}
use Rattle.c_parser.proofs.CompleteItems.{Yields, item_yields}
use Rattle.c_parser.proofs.OnlyAnswers.{tokens_append}

run_give : (f : Found) (rest : List Token) → run_text rest (Give f) ≡ Gave f rest
run_give f [] = refl
run_give f (t ∷ ts) = refl

-- an item of a text before others
pub reads_item : {ts : List Placed} {definitions : List Def} (y : Yields TextWanted.Item ts definitions) (rest : List Placed)
    → run_text (tokens (ts ++ rest)) item ≡ nexts ts (Gave (made y.by_count) (tokens rest))
reads_item {ts} y rest =
    ap (λ l. run_text l item) (tokens_append ts rest)
    ∙ ((y.goes (tokens rest) Give).carried ∙ ap (nexts ts) (run_give (made y.by_count) (tokens rest)))

item_placed : {ts : List Placed} {definitions : List Def} (y : Yields TextWanted.Item ts definitions) (rest : List Placed)
    → text_placed (run_text (tokens (ts ++ rest)) item) ≡ ts
item_placed {ts} y rest = ap text_placed (reads_item y rest) ∙ placed_nexts ts (made y.by_count) (tokens rest)

item_end : {ts : List Placed} {definitions : List Def} (y : Yields TextWanted.Item ts definitions) (rest : List Placed)
    → text_end (run_text (tokens (ts ++ rest)) item) ≡ Gave (made y.by_count) (tokens rest)
item_end {ts} y rest = ap text_end (reads_item y rest) ∙ end_nexts ts (made y.by_count) (tokens rest)

-- an item has a token
pub has_token : (ts rest : List Placed) (definitions : List Def) → Yields TextWanted.Item ts definitions → ¬ (tokens (ts ++ rest) ≡ [])
has_token [] rest definitions y e =
    let gave : Stopped [] ≡ Gave (made y.by_count) [] = (y.goes [] Give).carried in
    absurd (cc)
has_token (t ∷ ts) rest definitions y e = absurd (cc)

same_made : (f g : ℕ → List Def) (ts us : List Token) → Gave (made f) ts ≡ Gave (made g) us → (f ≡ g) × (ts ≡ us)
same_made f g ts us e = (cc, cc)

joined : {ts us rest others : List Placed} {a b c d : List Def} → ts ≡ us → a ≡ b → (rest ≡ others) × (c ≡ d)
    → (ts ++ rest ≡ us ++ others) × (a ++ c ≡ b ++ d)
joined e f g = (λ i. e i ++ g.0 i, λ i. f i ++ g.1 i)

items_once : {p q : List Placed} {a b : List Def} → ItemList p a → ItemList q b → tokens p ≡ tokens q → (p ≡ q) × (a ≡ b)
items_once ItemList.none ItemList.none e = (refl, refl)
items_once ItemList.none (ItemList.more {ts} {rest} {made = definitions} x xs) e =
    absurd (has_token ts rest definitions (item_yields x) (sym e))
items_once (ItemList.more {ts} {rest} {made = definitions} x xs) ItemList.none e =
    absurd (has_token ts rest definitions (item_yields x) e)
items_once (ItemList.more {ts} {rest} {made = a} x xs) (ItemList.more {ts = us} {rest = others} {made = b} y ys) e =
    let left = item_yields x in
    let right = item_yields y in
    let placed : ts ≡ us =
    sym (item_placed left rest) ∙ (ap (λ l. text_placed (run_text l item)) e ∙ item_placed right others) in
    let ends = same_made left.by_count right.by_count (tokens rest) (tokens others)
    (sym (item_end left rest) ∙ (ap (λ l. text_end (run_text l item)) e ∙ item_end right others)) in
    let same : a ≡ b = sym left.are ∙ ((λ i. ends.0 i (length (placed i))) ∙ right.are) in
    joined placed same (items_once xs ys ends.1)

pub one_program : OneProgram
one_program p q a b e (TranslationUnit.program x) (TranslationUnit.program y) =
    let same = items_once x y e in
    (same.0, λ i. record { definitions = same.1 i; end = end (same.0 i) })

-- the first tokens of two texts
abbrev FrontsSame : List Placed → List Placed → Type 0
FrontsSame p q = (n : ℕ) → take n (tokens p) ≡ take n (tokens q) → take n p ≡ take n q

same_head : {A : Type 0} (t u : A) (ts us : List A) → t ∷ ts ≡ u ∷ us → (t ≡ u) × (ts ≡ us)
same_head t u ts us e = (cc, cc)

fronts_behind : (n : ℕ) (ts us rest others : List Placed) → take n ts ≡ take n us → FrontsSame rest others
    → take n (tokens (ts ++ rest)) ≡ take n (tokens (us ++ others)) → take n (ts ++ rest) ≡ take n (us ++ others)
fronts_behind zero ts us rest others e f h = refl
fronts_behind (suc n) [] [] rest others e f h = f (suc n) h
fronts_behind (suc n) [] (u ∷ us) rest others e f h = absurd (cc)
fronts_behind (suc n) (t ∷ ts) [] rest others e f h = absurd (cc)
fronts_behind (suc n) (t ∷ ts) (u ∷ us) rest others e f h =
    let first = same_head t u (take n ts) (take n us) e in
    let tail = same_head t.token u.token (take n (tokens (ts ++ rest))) (take n (tokens (us ++ others))) h in
    let behind = fronts_behind n ts us rest others first.1 f tail.1 in
    λ i. first.0 i ∷ behind i

none_front : (n : ℕ) (q : List Placed) → take n (tokens []) ≡ take n (tokens q) → take n [] ≡ take n q
none_front zero q e = refl
none_front (suc n) [] e = refl
none_front (suc n) (t ∷ q) e = absurd (cc)

items_front : {p q : List Placed} {a b : List Def} → ItemList p a → ItemList q b → FrontsSame p q
items_front {q = q} ItemList.none ys n e = none_front n q e
items_front {p} (ItemList.more x xs) ItemList.none n e = sym (none_front n p (sym e))
items_front (ItemList.more {ts} {rest} x xs) (ItemList.more {ts = us} {rest = others} y ys) n e =
    let placed : take n ts ≡ take n us =
    sym (ap (take n) (item_placed (item_yields x) rest))
    ∙ (run_text_same n (tokens (ts ++ rest)) (tokens (us ++ others)) item e ∙ ap (take n) (item_placed (item_yields y) others)) in
    fronts_behind n ts us rest others placed (items_front xs ys) e

pub program_depth : ProgramDepth
program_depth p q a b n (TranslationUnit.program x) (TranslationUnit.program y) e = items_front x y n e
