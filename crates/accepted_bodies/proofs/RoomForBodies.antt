-- An accepted text has at most 65,536 tokens, so its bodies have room in a store.
use Rattle.std.proofs.Common.{◌≡◌, ℕ, suc, ◌+◌, ◌*◌, ◌<◌, ◌≤◌, Bool, true, false, List, [], ◌∷◌, ◌++◌, map, length, length-append, append-nil, get_or, Option, Some, None, Ok, Err, refl, ap, ◌∙◌, sym, subst, arith}
use Rattle.std.specs.Prelude.{IfSome, filter_map, sum_by, nat_lt, slice_index, unwrap_or, option_map, ◌||◌, if◌then◌else◌}
use Rattle.std.specs.List.{cons_option}
use Rattle.std.proofs.lemmas.Bool.Decides.{nat_tests}
use Rattle.std.proofs.lemmas.List.{length-map}
use Rattle.std.proofs.lemmas.List.Sums.{sum_by-append}
use Rattle.c_tree.specs.Bare.{bare_binding, bare_block, bare_def, bare_function, bare_kind, bare_stmt, bare_type}
use Rattle.c_tree.specs.declared.name.CType.{CType}
use Rattle.c_tree.specs.declared.def.Def.{Def}
use Rattle.c_tree.specs.declared.def.DefKind.{DefKind}
use Rattle.c_tree.specs.declared.def.DefKind.TheVariants as kind
use Rattle.c_tree.specs.declared.def.Function.{Function}
use Rattle.c_tree.specs.declared.def.Program.{Program}
use Rattle.c_lexer.specs.declared.token.Token.{Token}
use Rattle.c_lexer.specs.declared.token.LexFault.{LexFault}
use Rattle.c_lexer.specs.declared.token.LexFault.TheVariants.{TooMany}
use Rattle.c_lexer.specs.Cut.{answer, most_tokens, or_fault}
use Rattle.c_expr_parser.specs.Placed.{Placed, start}
use Rattle.c_expr_parser.specs.Declarations.{Declarators}
use Rattle.c_expr_parser.specs.Definitions.{defs, FunctionDefinition, GlobalDeclarator, Item, ItemList, TranslationUnit}
use Rattle.c_front.specs.Accepted.{Accepted}
use Rattle.c_semantics.specs.Texts.{definition, int}
use Rattle.c_semantics.specs.Resolution.{as_locals, statements}
use Rattle.c_semantics.specs.SourceTexts.{Text, text_of, tokens_of_kind}
use Rattle.c_semantics.specs.Skeletons.{check_ins as check_ins_at, skeleton, skeleton_of}
use Rattle.c_semantics.specs.Store.{Body, all_check_ins, all_tokens, body_of, store, tokens_of}
use Rattle.code_store.specs.Limits.{are_too_many, most_check_ins, most_function_tokens}
use Rattle.brought_bodies.proofs.Once.{count_in, own_tokens, typed_once}
use Rattle.accepted_bodies.specs.BodyRoom.{AcceptedTextsHaveRoom}
use Rattle.accepted_bodies.proofs.TreeCheckIns.{in_statements, of_function}
use Rattle.accepted_bodies.proofs.ResolvedCheckIns.{block_few}
use Rattle.accepted_bodies.proofs.CoveredExpressions.{Covers}
use Rattle.accepted_bodies.proofs.CoveredStatements.{check_ins_in, items_covered}

-- ---- what definitions have

-- check-ins of functions, with those at their entries, and their tokens
abbrev pub kind_check_ins : DefKind → ℕ
kind_check_ins (kind.Function f) = check_ins_in f.body + 1
kind_check_ins _ = 0

abbrev pub kind_tokens : DefKind → ℕ
kind_tokens (kind.Function f) = f.tokens
kind_tokens _ = 0

abbrev pub check_ins_of : List Def → ℕ
check_ins_of [] = 0
check_ins_of (d ∷ ds) = kind_check_ins d.kind + check_ins_of ds

abbrev pub tokens_in : List Def → ℕ
tokens_in [] = 0
tokens_in (d ∷ ds) = kind_tokens d.kind + tokens_in ds

-- some tokens are enough for what definitions have
record Enough (ts : List Placed) (made : List Def) : Type 0 where
  check_ins : Covers ts (check_ins_of made)
  tokens : tokens_in made ≤ length ts

check_ins_of_both : (ds es : List Def) → check_ins_of (ds ++ es) ≡ check_ins_of ds + check_ins_of es
check_ins_of_both [] es = omega arith
check_ins_of_both (d ∷ ds) es = let rest = check_ins_of_both ds es in omega (arith, rest)

tokens_in_both : (ds es : List Def) → tokens_in (ds ++ es) ≡ tokens_in ds + tokens_in es
tokens_in_both [] es = omega arith
tokens_in_both (d ∷ ds) es = let rest = tokens_in_both ds es in omega (arith, rest)

-- ---- what the grammar reads

function_enough : {ts : List Placed} {f : Function} → FunctionDefinition ts f
    → Covers ts (check_ins_in f.body + 1) × (f.tokens ≡ length ts)
function_enough (FunctionDefinition.function {whole} {result} {parameters} {body} {function} {paren} {close} {brace} {final} r i p ps c b ss e is) =
    let within = items_covered ss in
    let inner = close ∷ brace ∷ body ++ final ∷ [] in
    let same : length whole ≡ length (result ++ (function ∷ paren ∷ parameters ++ inner)) = ap length is in
    let first = length-append result (function ∷ paren ∷ parameters ++ inner) in
    let second = length-append parameters inner in
    let third = length-append body (final ∷ []) in
    (omega (arith, within, same, first, second, third), refl)

-- variables and arrays have nothing of this
global_none : {t : CType} {ts : List Placed} {made : DefKind} → GlobalDeclarator t ts made → (kind_check_ins made ≡ 0) × (kind_tokens made ≡ 0)
global_none (GlobalDeclarator.plain i) = (refl, refl)
global_none (GlobalDeclarator.initialised i s c) = (refl, refl)
global_none (GlobalDeclarator.array i b l c) = (refl, refl)
global_none (GlobalDeclarator.initialised_array i b l c s o cs tr f) = (refl, refl)

globals_none : (place : ℕ) {t : CType} {ts : List Placed} {made : List DefKind} → Declarators 0 t (GlobalDeclarator t) ts made
    → (check_ins_of (defs place made) ≡ 0) × (tokens_in (defs place made) ≡ 0)
globals_none place (Declarators.last {ts} {a} x) =
    let none = global_none x in let check_ins = none.0 in let tokens = none.1 in (omega (arith, check_ins), omega (arith, tokens))
globals_none place (Declarators.more {ts} {stars} {rest} {comma} {a} {others} x c s xs) =
    let none = global_none x in
    let after = globals_none place xs in
    let check_ins = none.0 in
    let tokens = none.1 in
    let more_check_ins = after.0 in
    let more_tokens = after.1 in
    (omega (arith, check_ins, more_check_ins), omega (arith, tokens, more_tokens))

item_enough : {ts : List Placed} {made : List Def} → Item ts made → Enough ts made
item_enough (Item.forward w i s) = record { check_ins = omega arith; tokens = omega arith }
item_enough (Item.struct w i b ms f s) = record { check_ins = omega arith; tokens = omega arith }
item_enough (Item.mutex st w i s) = record { check_ins = omega arith; tokens = omega arith }
item_enough (Item.function {static} {ts} {f} st x) =
    let own = function_enough x in
    let check_ins = own.0 in
    let tokens = own.1 in
    let long = length-append static ts in
    record { check_ins = omega (arith, check_ins, long); tokens = omega (arith, tokens, long) }
item_enough (Item.prototype st p) = record { check_ins = omega arith; tokens = omega arith }
item_enough (Item.global {static} {ts} {names} {semicolon} {t} {globals} st ty ds s) =
    let none = globals_none (start ts) ds in
    let check_ins = none.0 in
    let tokens = none.1 in
    record { check_ins = omega (arith, check_ins); tokens = omega (arith, tokens) }
item_enough (Item.transform_struct w s i b u f) = record { check_ins = omega arith; tokens = omega arith }
item_enough (Item.transform_global w i s c e) = record { check_ins = omega arith; tokens = omega arith }

items_enough : {ts : List Placed} {made : List Def} → ItemList ts made → Enough ts made
items_enough ItemList.none = record { check_ins = omega arith; tokens = omega arith }
items_enough (ItemList.more {ts} {rest} {made} {others} x xs) =
    let first = item_enough x in
    let after = items_enough xs in
    let long = length-append ts rest in
    let check_ins = check_ins_of_both made others in
    let tokens = tokens_in_both made others in
    record {
      check_ins = omega (arith, first.check_ins, after.check_ins, long, check_ins);
      tokens = omega (arith, first.tokens, after.tokens, long, tokens);
    }

-- a text has so many tokens at most
few_by : (b : Bool) (n m : ℕ) → nat_lt n m ≡ b → b ≡ false → m ≤ n
few_by b n m is none = grind (arith, nat_tests)

few_tokens : (ts all : List Token) (fault : Option LexFault) → Ok ts ≡ answer all fault → length ts ≤ most_tokens
few_tokens ts all fault e =
    by (nat_lt most_tokens (length all)) refl (TooMany (slice_index (map (λ t. t.at) all) most_tokens)) fault e
  where
    by : (b : Bool) → nat_lt most_tokens (length all) ≡ b → (many : LexFault) (fault : Option LexFault)
        → Ok ts ≡ (if b then Err many else or_fault all fault) → length ts ≤ most_tokens
    by true is many fault e = cc
    by false is many None e =
        let same : ts ≡ all = cc in
        let few = few_by false most_tokens (length all) is refl in
        let long = ap length same in
        omega (arith, few, long)
    by false is many (Some fault) e = cc

-- so much have the definitions of an accepted text
pub record IsSmall (made : List Def) : Type 0 where
  pub check_ins : 3 * check_ins_of made ≤ 131072
  pub tokens : tokens_in made ≤ 65536

program_small : (placed : List Placed) (p : Program) → TranslationUnit placed p → length placed ≤ most_tokens → IsSmall p.definitions
program_small placed p (TranslationUnit.program {ts} {made} items) few =
    let enough = items_enough items in
    record { check_ins = omega (arith, enough.check_ins, few); tokens = omega (arith, enough.tokens, few) }

pub accepted_small : (bytes : List ℕ) (p : Program) → Accepted bytes p → IsSmall p.definitions
accepted_small bytes p a =
    let read = a.is_read in
    let lexed = read.lexes in
    let few = few_tokens read.tokens lexed.0 lexed.1 lexed.3 in
    let placed = read.reads.placed in
    let long : length placed ≡ length read.tokens = sym (length-map placed (λ t. t.token)) ∙ ap length read.reads.are in
    let small = program_small placed read.read read.reads.phrase (omega (arith, few, long)) in
    subst (λ (q : Program). IsSmall q.definitions) (sym read.ends) small

-- ---- what a store has of them

nothing_before : (n : ℕ) → 0 + n ≡ n
nothing_before n = omega arith

no_more : (m n : ℕ) → m ≤ n → m ≤ 0 + n
no_more m n h = omega (arith, h)

at_most_by : (whole one own most rest n : ℕ) → whole ≡ one + rest → one ≡ own + 1 → own ≤ most → rest ≤ n → whole ≤ most + 1 + n
at_most_by whole one own most rest n sum is few least = omega (arith, sum, is, few, least)

same_by : (whole one own rest n : ℕ) → whole ≡ one + rest → one ≡ own → rest ≤ n → whole ≤ own + n
same_by whole one own rest n sum is least = omega (arith, sum, is, least)

neither : (a b : Bool) → a ≡ false → b ≡ false → (a || b) ≡ false
neither false false e f = refl
neither false true e f = cc
neither true b e f = cc

not_less : (m n : ℕ) → n ≤ m → nat_lt m n ≡ false
not_less m n h = grind (arith, nat_tests)

module _ (p : Program) where
  abbrev q : Text
  q = text_of p

  abbrev stored : List Def → List Body
  stored ds = filter_map (body_of 1 [] q) (map bare_def ds)

  -- one body and others
  one_more : (f : Body → ℕ) (b : Body) (rest : List Body) → sum_by f (b ∷ rest) ≡ f b + sum_by f rest
  one_more f b rest = sum_by-append f (b ∷ []) rest ∙ ap (λ n. n + sum_by f rest) (nothing_before (f b))

  -- the body of one definition, and others
  kind_check_ins_few : (k : DefKind) (rest : List Body) (n : ℕ) → all_check_ins rest ≤ n
      → all_check_ins (cons_option (body_of 1 [] q (bare_kind k)) rest) ≤ kind_check_ins k + n
  kind_check_ins_few (kind.Function f) rest n few =
      let look = definition q.definitions in
      let body = statements look (unwrap_or (option_map bare_type f.result) int) (as_locals (map bare_binding f.parameters)) (bare_block (map bare_stmt f.body)) in
      let own : check_ins_at (skeleton body) ≡ in_statements body + 1 = of_function body in
      let most : in_statements body ≤ check_ins_in f.body = block_few look _ _ _ in
      let stored : Body = record { function = f.name.text; generation = 1; skeleton = skeleton body; tokens = tokens_of q f.name.text } in
      let sum : all_check_ins (cons_option (body_of 1 [] q (bare_function f)) rest) ≡ check_ins_at (skeleton body) + all_check_ins rest =
      one_more (λ b. check_ins_at b.skeleton) stored rest
      in
      at_most_by _ _ _ _ _ _ sum own most few
  kind_check_ins_few (kind.Struct name members) rest n few = no_more _ n few
  kind_check_ins_few (kind.Forward name) rest n few = no_more _ n few
  kind_check_ins_few (kind.Mutex name) rest n few = no_more _ n few
  kind_check_ins_few (kind.Prototype x) rest n few = no_more _ n few
  kind_check_ins_few (kind.Global d) rest n few = no_more _ n few
  kind_check_ins_few (kind.Array a) rest n few = no_more _ n few
  kind_check_ins_few (kind.TransformStruct t) rest n few = no_more _ n few
  kind_check_ins_few (kind.TransformGlobal name value) rest n few = no_more _ n few

  check_ins_few : (ds : List Def) → all_check_ins (stored ds) ≤ check_ins_of ds
  check_ins_few [] = omega arith
  check_ins_few (d ∷ ds) = kind_check_ins_few d.kind (stored ds) (check_ins_of ds) (check_ins_few ds)

  kind_tokens_few : (k : DefKind) → IfSome (tokens_of_kind k) (λ t. count_in p.definitions t.function ≡ t.count)
      → (rest : List Body) (n : ℕ) → all_tokens rest ≤ n
      → all_tokens (cons_option (body_of 1 [] q (bare_kind k)) rest) ≤ kind_tokens k + n
  kind_tokens_few (kind.Function f) own rest n few =
      let look = definition q.definitions in
      let stored : Body = record { function = f.name.text; generation = 1; skeleton = skeleton_of look (Some (bare_function f)); tokens = tokens_of q f.name.text } in
      let sum : all_tokens (cons_option (body_of 1 [] q (bare_function f)) rest) ≡ tokens_of q f.name.text + all_tokens rest =
      one_more (λ b. b.tokens) stored rest
      in
      let same : tokens_of q f.name.text ≡ f.tokens = own in
      same_by _ _ _ _ _ sum same few
  kind_tokens_few (kind.Struct name members) own rest n few = no_more _ n few
  kind_tokens_few (kind.Forward name) own rest n few = no_more _ n few
  kind_tokens_few (kind.Mutex name) own rest n few = no_more _ n few
  kind_tokens_few (kind.Prototype x) own rest n few = no_more _ n few
  kind_tokens_few (kind.Global d) own rest n few = no_more _ n few
  kind_tokens_few (kind.Array a) own rest n few = no_more _ n few
  kind_tokens_few (kind.TransformStruct t) own rest n few = no_more _ n few
  kind_tokens_few (kind.TransformGlobal name value) own rest n few = no_more _ n few

  tokens_few : (ds : List Def)
      → ((i : ℕ) (d : Def) → i < length ds → d ≡ get_or ds i d → IfSome (tokens_of_kind d.kind) (λ t. count_in p.definitions t.function ≡ t.count))
      → all_tokens (stored ds) ≤ tokens_in ds
  tokens_few [] own = omega arith
  tokens_few (d ∷ ds) own =
      kind_tokens_few d.kind (own 0 d (omega arith) refl) (stored ds) (tokens_in ds)
      (tokens_few ds (λ i x within is. own (suc i) x (omega (arith, within)) is))

  -- a first version is the whole store
  alone : store (q ∷ []) ≡ stored p.definitions
  alone = append-nil (stored p.definitions)

  pub program_has_room : (bytes : List ℕ) → Accepted bytes p → are_too_many (store (q ∷ [])) ≡ false
  program_has_room bytes a =
      let small = accepted_small bytes p a in
      let check_ins = check_ins_few p.definitions in
      let tokens = tokens_few p.definitions (own_tokens p.definitions (typed_once p a.types)) in
      subst (λ bodies. are_too_many bodies ≡ false) (sym alone)
      (neither _ _ (not_less most_check_ins (all_check_ins (stored p.definitions)) (omega (arith, small.check_ins, check_ins)))
      (not_less most_function_tokens (all_tokens (stored p.definitions)) (omega (arith, small.tokens, tokens))))

pub accepted_texts_have_room : AcceptedTextsHaveRoom
accepted_texts_have_room text a =
    subst (λ t. are_too_many (store (t ∷ [])) ≡ false) (sym a.is) (program_has_room text.tree a.bytes a.accepted)
