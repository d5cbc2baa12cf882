-- What may follow an operand, by the first token.
use Rattle.std.proofs.Common.{◌≡◌, ◌≤◌, ◌<◌, ◌+◌, ℕ, zero, suc, Bool, true, false, ◌&&◌, List, [], ◌∷◌, ◌++◌, length, Option, Some, None, refl, ap, ◌∙◌, arith, zero-add}
use Rattle.std.specs.Prelude.{option_map, if◌then◌else◌, codes}
use Rattle.std.specs.Str.{bytes_eq}
use Rattle.std.proofs.lemmas.Slice.Eq.{bytes_eq-Decides}
use Rattle.c_ints.specs.declared.operator.BinOp.{BinOp}
use Rattle.c_lexer.specs.declared.token.Token.{Token}
use Rattle.c_lexer.specs.declared.token.TokenKind.{TokenKind}
use Rattle.c_lexer.specs.declared.token.TokenKind.TheVariants.{Punctuator}
use Rattle.c_tree.specs.declared.expr.Expr.{Expr}
use Rattle.c_tree.specs.declared.expr.ExprNode.TheVariants as node
use Rattle.c_expr_parser.specs.declared.operand.Operand.{Operand}
use Rattle.c_expr_parser.specs.declared.operators.Joint.{Joint}
use Rattle.c_expr_parser.specs.declared.postfix.PostfixOp.{PostfixOp}
use Rattle.c_expr_parser.specs.Operators.{joined}
use Rattle.c_expr_parser.specs.Readings.{most_depth}
use Rattle.c_expr_parser.specs.Tables.{look, is_kind, is, when_some, ahead, holds_ahead, postfix_operators, postfix_operator, binary_operator}
use Rattle.c_expr_parser.specs.Plans.{Value, operand, listed, Wanted, Postfix, Assigned, Chain, Chosen, Further, Plan, Return, Then, after, as_operand, as_expr, other, depth_of, takes, left_out, punctuator, expr_then, assignment, conditional, binary, chains, assigned, assignment_sign, assignment_operator, one_postfix, Parsed, read, stuck, deep, parsed, reads}
use Rattle.c_expr_parser.proofs.JoinedTraces.{after_return}
use Rattle.c_expr_parser.proofs.PlanResults.{next, fits, sinks, parsed_after, parsed_return, parsed_takes, parsed_left, parsed_end_left}
use Rattle.c_expr_parser.proofs.SoundTables.{of_kind}

-- a table with other values
abbrev pub with_values : {A B : Type 0} → (A → B) → List (List ℕ × A) → List (List ℕ × B)
with_values f [] = []
with_values f (row ∷ rows) = (row.0, f row.1) ∷ with_values f rows

pub look_values : {A B : Type 0} (f : A → B) (spelling : List ℕ) (rows : List (List ℕ × A))
    → look spelling (with_values f rows) ≡ option_map f (look spelling rows)
look_values f spelling [] = refl
look_values f spelling (row ∷ rows) = pick (bytes_eq spelling row.0) (look_values f spelling rows)
  where
    pick : (b : Bool) → look spelling (with_values f rows) ≡ option_map f (look spelling rows)
        → (if b then Some (f row.1) else look spelling (with_values f rows)) ≡ option_map f (if b then Some row.1 else look spelling rows)
    pick true later = refl
    pick false later = later

pub when_map : {A B : Type 0} (f : A → B) (b : Bool) (o : Option A) → when_some b (option_map f o) ≡ option_map f (when_some b o)
when_map f true o = refl
when_map f false o = refl

-- something that is left out where the first token isn't what may stand there
pub passes_ahead : {A : Type 0} (f : Token → Option A) (w : Wanted) (k : Value → Plan) (v : Value) (ts : List Token)
    → ((t : Token) → f t ≡ None → takes w t ≡ None) → left_out w ≡ Some v → ahead f ts ≡ None → parsed (Then w k) ts ≡ parsed (k v) ts
passes_ahead f w k v [] none out e = parsed_end_left w k v out
passes_ahead f w k v (t ∷ ts) none out e = parsed_left w k t ts v (none t e) out

pub passes_held : (test : Token → Bool) (w : Wanted) (k : Value → Plan) (v : Value) (ts : List Token)
    → ((t : Token) → test t ≡ false → takes w t ≡ None) → left_out w ≡ Some v → holds_ahead test ts ≡ false → parsed (Then w k) ts ≡ parsed (k v) ts
passes_held test w k v [] none out e = parsed_end_left w k v out
passes_held test w k v (t ∷ ts) none out e = parsed_left w k t ts v (none t e) out

-- something that begins with the first token
pub takes_first : (w : Wanted) (k : Value → Plan) (t : Token) (us ts : List Token) (p : Plan) → ts ≡ t ∷ us → takes w t ≡ Some p
    → depth_of w ≤ most_depth → parsed (Then w k) ts ≡ parsed (after p k) us
takes_first w k t us ts p are e shallow = rw are (parsed_takes w k t us p e ∙ fits _ _ _ shallow)

pub sinks_first : (w : Wanted) (k : Value → Plan) (t : Token) (us ts : List Token) (p : Plan) → ts ≡ t ∷ us → takes w t ≡ Some p
    → most_depth < depth_of w → parsed (Then w k) ts ≡ deep (length ts)
sinks_first w k t us ts p are e low = rw are (parsed_takes w k t us p e ∙ sinks _ _ _ low)

-- postfix operators
postfix_then : ℕ → Operand → PostfixOp → Plan
postfix_then d a op = after (one_postfix d a op) (λ v. Then (Postfix d (as_operand v)) Return)

postfix_is : (d : ℕ) (a : Operand) (t : Token) → takes (Postfix d a) t ≡ option_map (postfix_then d a) (postfix_operator t)
unfolding postfix_then
postfix_is d a t =
    ap (when_some (is_kind Punctuator t)) (look_values (postfix_then d a) t.text postfix_operators)
    ∙ when_map (postfix_then d a) (is_kind Punctuator t) (look t.text postfix_operators)

pub postfix_none : (d : ℕ) (a : Operand) (ts : List Token) → ahead postfix_operator ts ≡ None → reads (Postfix d a) ts ≡ read (operand a) ts
postfix_none d a ts e =
    passes_ahead postfix_operator (Postfix d a) Return (operand a) ts (λ t h. postfix_is d a t ∙ ap (option_map (postfix_then d a)) h) refl e
    ∙ parsed_return (operand a) ts

pub postfix_some : (d : ℕ) (a : Operand) (op : PostfixOp) (t : Token) (us ts : List Token) → ts ≡ t ∷ us → postfix_operator t ≡ Some op
    → d ≤ most_depth → reads (Postfix d a) ts ≡ next (parsed (one_postfix d a op) us) (λ v rest. reads (Postfix d (as_operand v)) rest)
unfolding postfix_then
postfix_some d a op t us ts are e shallow =
    takes_first (Postfix d a) Return t us ts (postfix_then d a op) are (postfix_is d a t ∙ ap (option_map (postfix_then d a)) e) shallow
    ∙ ap (λ p. parsed p us) (after_return (postfix_then d a op))
    ∙ parsed_after (one_postfix d a op) (λ v. Then (Postfix d (as_operand v)) Return) us

pub postfix_deep : (d : ℕ) (a : Operand) (op : PostfixOp) (t : Token) (us ts : List Token) → ts ≡ t ∷ us → postfix_operator t ≡ Some op
    → most_depth < d → reads (Postfix d a) ts ≡ deep (length ts)
postfix_deep d a op t us ts are e low =
    sinks_first (Postfix d a) Return t us ts (postfix_then d a op) are (postfix_is d a t ∙ ap (option_map (postfix_then d a)) e) low

-- the flag of a test
pub is_spelled : (kind : TokenKind) (spelling : List ℕ) (t : Token) → is kind spelling t ≡ true → (t.kind ≡ kind) × (t.text ≡ spelling)
is_spelled kind spelling t h = let b = both (is_kind kind t) (bytes_eq t.text spelling) h in (of_kind kind t b.0, (bytes_eq-Decides t.text spelling).0 b.1)
  where
    both : (a b : Bool) → (a && b) ≡ true → (a ≡ true) × (b ≡ true)
    both true b h = (refl, h)
    both false b h = let k : false ≡ true = h in cc

-- an assignment's operator and right side after an operand
assigned_then : ℕ → Operand → Option BinOp → Plan
assigned_then d a op = expr_then (suc d) (λ b. Return (operand (other a.start (assigned op a.expr b))))

assigned_is : (d : ℕ) (a : Operand) (t : Token) → takes (Assigned d a) t ≡ option_map (assigned_then d a) (assignment_sign a t)
unfolding assigned_then
assigned_is d a t = when_map (assigned_then d a) a.is_unary (assignment_operator t)

pub assigned_none : (d : ℕ) (a : Operand) (ts : List Token) → ahead (assignment_sign a) ts ≡ None → reads (Assigned d a) ts ≡ read (operand a) ts
assigned_none d a ts e =
    passes_ahead (assignment_sign a) (Assigned d a) Return (operand a) ts (λ t h. assigned_is d a t ∙ ap (option_map (assigned_then d a)) h) refl e
    ∙ parsed_return (operand a) ts

pub assigned_some : (d : ℕ) (a : Operand) (op : Option BinOp) (t : Token) (us ts : List Token) → ts ≡ t ∷ us → assignment_sign a t ≡ Some op
    → d ≤ most_depth → reads (Assigned d a) ts
    ≡ next (parsed (assignment (suc d)) us) (λ v rest. parsed (Return (operand (other a.start (assigned op a.expr (as_expr v))))) rest)
unfolding assigned_then
assigned_some d a op t us ts are e shallow =
    takes_first (Assigned d a) Return t us ts (assigned_then d a op) are (assigned_is d a t ∙ ap (option_map (assigned_then d a)) e) shallow
    ∙ ap (λ p. parsed p us) (after_return (assigned_then d a op))
    ∙ parsed_after (assignment (suc d)) (λ v. Return (operand (other a.start (assigned op a.expr (as_expr v))))) us

pub assigned_deep : (d : ℕ) (a : Operand) (op : Option BinOp) (t : Token) (us ts : List Token) → ts ≡ t ∷ us → assignment_sign a t ≡ Some op
    → most_depth < d → reads (Assigned d a) ts ≡ deep (length ts)
assigned_deep d a op t us ts are e low =
    sinks_first (Assigned d a) Return t us ts (assigned_then d a op) are (assigned_is d a t ∙ ap (option_map (assigned_then d a)) e) low

-- the second and third part of a choice
abbrev pub choice_rest : ℕ → Operand → Plan
choice_rest d a =
    expr_then d (λ b. punctuator (codes ":") d (after (conditional (suc d)) (λ c. Return (operand (other a.start (node.Choice a.expr b (as_expr c)))))))

pub chosen_none : (d : ℕ) (a : Operand) (ts : List Token) → holds_ahead (is Punctuator (codes "?")) ts ≡ false → reads (Chosen d a) ts ≡ read (operand a) ts
chosen_none d a ts e =
    passes_held (is Punctuator (codes "?")) (Chosen d a) Return (operand a) ts (λ t h. ap (λ b. when_some b (Some (choice_rest d a))) h) refl e
    ∙ parsed_return (operand a) ts

pub chosen_some : (d : ℕ) (a : Operand) (t : Token) (us ts : List Token) → ts ≡ t ∷ us → is Punctuator (codes "?") t ≡ true → d ≤ most_depth
    → reads (Chosen d a) ts ≡ parsed (choice_rest d a) us
chosen_some d a t us ts are e shallow =
    takes_first (Chosen d a) Return t us ts (choice_rest d a) are (ap (λ b. when_some b (Some (choice_rest d a))) e) shallow
    ∙ ap (λ p. parsed p us) (after_return (choice_rest d a))

pub chosen_deep : (d : ℕ) (a : Operand) (t : Token) (us ts : List Token) → ts ≡ t ∷ us → is Punctuator (codes "?") t ≡ true → most_depth < d
    → reads (Chosen d a) ts ≡ deep (length ts)
chosen_deep d a t us ts are e low =
    sinks_first (Chosen d a) Return t us ts (choice_rest d a) are (ap (λ b. when_some b (Some (choice_rest d a))) e) low

-- the operators of a level
chain_then : ℕ → ℕ → Operand → Joint → Plan
chain_then level d a joint = after (binary level d) (λ b. Then (Chain level d (other a.start (joined joint a.expr (as_expr b)))) Return)

pub chain_none : (level d : ℕ) (a : Operand) (ts : List Token) → ahead (binary_operator (suc level)) ts ≡ None
    → reads (Chain level d a) ts ≡ read (operand a) ts
unfolding chain_then
chain_none level d a ts e =
    passes_ahead (binary_operator (suc level)) (Chain level d a) Return (operand a) ts (λ t h. ap (option_map (chain_then level d a)) h) refl e
    ∙ parsed_return (operand a) ts

pub chain_some : (level d : ℕ) (a : Operand) (joint : Joint) (t : Token) (us ts : List Token) → ts ≡ t ∷ us → binary_operator (suc level) t ≡ Some joint
    → d ≤ most_depth → reads (Chain level d a) ts
    ≡ next (parsed (binary level d) us) (λ v rest. reads (Chain level d (other a.start (joined joint a.expr (as_expr v)))) rest)
unfolding chain_then
chain_some level d a joint t us ts are e shallow =
    takes_first (Chain level d a) Return t us ts (chain_then level d a joint) are (ap (option_map (chain_then level d a)) e) shallow
    ∙ ap (λ p. parsed p us) (after_return (chain_then level d a joint))
    ∙ parsed_after (binary level d) (λ b. Then (Chain level d (other a.start (joined joint a.expr (as_expr b)))) Return) us

pub chain_deep : (level d : ℕ) (a : Operand) (joint : Joint) (t : Token) (us ts : List Token) → ts ≡ t ∷ us → binary_operator (suc level) t ≡ Some joint
    → most_depth < d → reads (Chain level d a) ts ≡ deep (length ts)
unfolding chain_then
chain_deep level d a joint t us ts are e low =
    sinks_first (Chain level d a) Return t us ts (chain_then level d a joint) are (ap (option_map (chain_then level d a)) e) low

-- the levels up to one
pub chains_step : (level d : ℕ) (v : Value) (ts : List Token)
    → parsed (chains (suc level) d v) ts ≡ next (parsed (chains level d v) ts) (λ w rest. reads (Chain level d (as_operand w)) rest)
chains_step level d v ts = parsed_after (chains level d v) (λ w. Then (Chain level d (as_operand w)) Return) ts

next_read : (m : Parsed) → m ≡ next m read
next_read (read v rest) = refl
next_read (stuck left) = refl
next_read (deep left) = refl

next_next : (m : Parsed) (f g : Value → List Token → Parsed) → next (next m f) g ≡ next m (λ v rest. next (f v rest) g)
next_next (read v rest) f g = refl
next_next (stuck left) f g = refl
next_next (deep left) f g = refl

pub chains_go : (more level d : ℕ) (v : Value) (ts : List Token)
    → (k : Value → List Token → Parsed) × (parsed (chains (more + level) d v) ts ≡ next (parsed (chains level d v) ts) k)
chains_go zero level d v ts = (read, rw zero-add (next_read _))
chains_go (suc more) level d v ts =
    let h = chains_go more level d v ts in
    let same : suc more + level ≡ suc (more + level) = omega arith in (
      λ w rest. next (h.0 w rest) (λ x rest. reads (Chain (more + level) d (as_operand x)) rest),
      ap (λ n. parsed (chains n d v) ts) same ∙ chains_step (more + level) d v ts
          ∙ ap (λ m. next m (λ x rest. reads (Chain (more + level) d (as_operand x)) rest)) h.1
          ∙ next_next (parsed (chains level d v) ts) h.0 (λ x rest. reads (Chain (more + level) d (as_operand x)) rest),
    )

-- further arguments
further_then : ℕ → List Expr → Plan
further_then d es = expr_then d (λ e. Then (Further d (es ++ e ∷ [])) Return)

pub further_none : (d : ℕ) (es : List Expr) (ts : List Token) → holds_ahead (is Punctuator (codes ",")) ts ≡ false → reads (Further d es) ts ≡ read (listed es) ts
unfolding further_then
further_none d es ts e =
    passes_held (is Punctuator (codes ",")) (Further d es) Return (listed es) ts (λ t h. ap (λ b. when_some b (Some (further_then d es))) h) refl e
    ∙ parsed_return (listed es) ts

pub further_some : (d : ℕ) (es : List Expr) (t : Token) (us ts : List Token) → ts ≡ t ∷ us → is Punctuator (codes ",") t ≡ true → d ≤ most_depth
    → reads (Further d es) ts ≡ next (parsed (assignment d) us) (λ v rest. reads (Further d (es ++ as_expr v ∷ [])) rest)
unfolding further_then
further_some d es t us ts are e shallow =
    takes_first (Further d es) Return t us ts (further_then d es) are (ap (λ b. when_some b (Some (further_then d es))) e) shallow
    ∙ ap (λ p. parsed p us) (after_return (further_then d es))
    ∙ parsed_after (assignment d) (λ v. Then (Further d (es ++ as_expr v ∷ [])) Return) us

pub further_deep : (d : ℕ) (es : List Expr) (t : Token) (us ts : List Token) → ts ≡ t ∷ us → is Punctuator (codes ",") t ≡ true → most_depth < d
    → reads (Further d es) ts ≡ deep (length ts)
unfolding further_then
further_deep d es t us ts are e low =
    sinks_first (Further d es) Return t us ts (further_then d es) are (ap (λ b. when_some b (Some (further_then d es))) e) low
