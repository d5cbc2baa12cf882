-- Whatever the tokens: the plans of declarations and statements take what the grammar reads, and where nothing fits, what
-- they took begins a phrase.
use Rattle.std.specs.Prelude.{◌≡◌, ℕ, zero, suc, ◌≤◌, List, [], ◌∷◌, length, Option, Some, None}
use Rattle.std.proofs.Common.{refl, ap, sym, subst, arith}
use Rattle.std.proofs.Math.Path.{fun_ext}
use Rattle.c_lexer.specs.declared.token.Token.{Token}
use Rattle.c_lexer.specs.declared.token.TokenKind.TheVariants.{Punctuator}
use Rattle.c_tree.specs.declared.name.CType.{CType}
use Rattle.c_tree.specs.declared.stmt.StmtNode.TheVariants as node
use Rattle.c_expr_parser.specs.Placed.{Placed}
use Rattle.c_expr_parser.specs.Declarations.{Variable, Member}
use Rattle.c_expr_parser.specs.Statements.{stmt, Optional, First, Statement, Items}
use Rattle.c_expr_parser.specs.Tables.{is}
use Rattle.c_expr_parser.proofs.Samples.{punctuator, is_punctuator}
use Rattle.c_expr_parser.proofs.SoundTables.{placed_at, Each, each_when, spelled_at}
use Rattle.c_parser.specs.TextPlans.{Found, TextWanted, TextPlan, TextTrace, then_text, text_depth, text_takes, text_left_out, text_passed, text_met, run_text}
use Rattle.c_parser.specs.TextPlans.Found.{place, optional, statement, statements, declarations, bindings}
use Rattle.c_parser.specs.TextPlans.TextPlan.{Give, Want}
use Rattle.c_parser.proofs.CompletePlans.{Passes}
use Rattle.c_parser.proofs.TraceMeaning.{Meaning, From, TextExplained, Explains, gives}
use Rattle.c_parser.proofs.SoundDeclarations.{Made, IsInitial, Further, Declares, initial_taken, more_taken, more_names_taken}
use Rattle.c_parser.proofs.SoundStatements.{IsPlace, IsStatement, Speaks, given}
use Rattle.c_parser.proofs.StatementsByFirstToken.{statement_taken, items_taken, first_taken, optional_taken}

then_give : (p : TextPlan) → then_text p Give ≡ p
then_give (Give f) = refl
then_give (Want w p) = ap (Want w) (fun_ext (λ f. then_give (p f)))

-- what is found where nothing is taken, or an example where something must be
abbrev pub Left : TextWanted → Meaning → Option Found → Type 0
Left w Q None = (more : List Placed) × (f : Found) × Q more f []
Left w Q (Some f) = (rest : List Token) → Passes w rest → Q [] f rest

passed_explained : (w : TextWanted) (Q : Meaning) (ts : List Token) → Passes w ts → (o : Option Found) → Left w Q o
    → TextExplained Q (text_passed ts o (λ f. run_text ts (Give f)))
passed_explained w Q ts p None left = left
passed_explained w Q ts p (Some f) left = given Q f ts (left ts p)

met_explained : (Q : Meaning) (x : Placed) (later : TextPlan → TextTrace) (other : TextTrace) (o : Option TextPlan)
    → (o ≡ None → TextExplained Q other) → Each (λ p. TextExplained (From (x ∷ []) Q) (later p)) o
    → TextExplained Q (text_met x later other o)
met_explained Q x later other None left taken = left refl
met_explained Q x later other (Some p) left taken = taken

later_explained : {n : ℕ} (Q : Meaning) (ts : List Token) → length ts ≤ n → (o : Option TextPlan) → Each (λ p. Explains n Q p) o
    → Each (λ p. TextExplained Q (run_text ts (then_text p Give))) o
later_explained Q ts h None e = tt
later_explained Q ts h (Some p) e = subst (λ q. TextExplained Q (run_text ts q)) (sym (then_give p)) (e.trace ts h)

none_explained : (w : TextWanted) (Q : Meaning) → Left w Q (text_left_out w) → (ts : List Token) → length ts ≤ 0
    → TextExplained Q (run_text ts (Want w Give))
none_explained w Q left [] h = passed_explained w Q [] tt (text_left_out w) left
none_explained w Q left (t ∷ ts) h = absurd (omega arith)

more_explained : (n : ℕ) (w : TextWanted) (Q : Meaning) → Left w Q (text_left_out w)
    → ((t : Token) → Each (λ p. Explains n (From (placed_at (text_depth w) t ∷ []) Q) p) (text_takes w t))
    → (ts : List Token) → length ts ≤ suc n → TextExplained Q (run_text ts (Want w Give))
more_explained n w Q left taken [] h = passed_explained w Q [] tt (text_left_out w) left
more_explained n w Q left taken (t ∷ ts) h =
    met_explained Q (placed_at (text_depth w) t) (λ p. run_text ts (then_text p Give))
    (text_passed (t ∷ ts) (text_left_out w) (λ f. run_text (t ∷ ts) (Give f))) (text_takes w t)
    (λ e. passed_explained w Q (t ∷ ts) e (text_left_out w) left)
    (later_explained (From (placed_at (text_depth w) t ∷ []) Q) ts (omega arith) (text_takes w t) (taken t))

-- something wanted on no token, and on one more
pub on_none : (w : TextWanted) (Q : Meaning) → Left w Q (text_left_out w) → Explains 0 Q (Want w Give)
on_none w Q left = record { trace = none_explained w Q left }

pub on_more : {n : ℕ} (w : TextWanted) (Q : Meaning) → Left w Q (text_left_out w)
    → ((t : Token) → Each (λ p. Explains n (From (placed_at (text_depth w) t ∷ []) Q) p) (text_takes w t))
    → Explains (suc n) Q (Want w Give)
on_more {n} w Q left taken = record { trace = more_explained n w Q left taken }

-- the meanings
abbrev Initials : ℕ → Meaning
Initials d = Made optional (λ o ts r. IsInitial d o ts)

abbrev MoreOf : ℕ → CType → Meaning
MoreOf d t = Made declarations (λ ds ts r. Further d t (Variable d t) ds ts)

abbrev NamesOf : ℕ → CType → Meaning
NamesOf d t = Made bindings (λ bs ts r. Further d t (Member d t) bs ts)

abbrev Places : List ℕ → ℕ → Meaning
Places spelling d = Made place (λ p ts r. IsPlace spelling d p ts)

abbrev Optionals : ℕ → Meaning
Optionals d = Made optional (λ o ts r. Optional d ts o)

abbrev Firsts : ℕ → Meaning
Firsts d = Made statements (λ ss ts r. First d ts ss)

abbrev pub AsStatement : ℕ → Meaning
AsStatement d = Made statement (λ s ts r. IsStatement d s ts r)

abbrev pub AsItems : ℕ → Meaning
AsItems d = Made statements (λ ss ts r. Items d ts ss)

punctuator_taken : (n : ℕ) (spelling : List ℕ) (d : ℕ) (t : Token)
    → Each (λ p. Explains n (From (placed_at d t ∷ []) (Places spelling d)) p) (text_takes (TextWanted.Place spelling d) t)
punctuator_taken n spelling d t =
    each_when (λ p. Explains n (From (placed_at d t ∷ []) (Places spelling d)) p) (is Punctuator spelling t) (Some (Give (place t.at)))
    (λ h. gives (λ rest. Made.it_is (IsPlace.it_is (spelled_at Punctuator d spelling t h))))

-- what is left out, and examples
punctuator_left : (spelling : List ℕ) (d : ℕ) → Left (TextWanted.Place spelling d) (Places spelling d) None
punctuator_left spelling d = (
  record { token = record { kind = Punctuator; at = 0; len = 0; text = spelling }; depth = d } ∷ [],
  place 0,
  Made.it_is (IsPlace.it_is (record { sort = refl; stands = refl; spelled = refl })),
)

first_left : (d : ℕ) → Left (TextWanted.First d) (Firsts d) None
first_left d = (punctuator d 0 ";" ∷ [], statements [], Made.it_is (First.nothing (is_punctuator d 0 ";")))

statement_left : (d : ℕ) → Left (TextWanted.Statement d) (AsStatement d) None
statement_left d =
    (punctuator d 0 ";" ∷ [], statement (stmt 0 node.Empty), Made.it_is (IsStatement.it_is (Statement.empty (is_punctuator d 0 ";")) tt))

pub declares_all : (n : ℕ) → Declares n
declares_all zero = record {
  initial = λ d. on_none (TextWanted.Initial d) (Initials d) (λ rest p. Made.it_is IsInitial.none);
  more = λ d t. on_none (TextWanted.MoreVariables d t) (MoreOf d t) (λ rest p. Made.it_is Further.none);
  more_names = λ d t. on_none (TextWanted.MoreNames d t) (NamesOf d t) (λ rest p. Made.it_is Further.none);
}
declares_all (suc n) = record {
  initial = λ d. on_more (TextWanted.Initial d) (Initials d) (λ rest p. Made.it_is IsInitial.none) (initial_taken n d);
  more = λ d t. on_more (TextWanted.MoreVariables d t) (MoreOf d t) (λ rest p. Made.it_is Further.none) (more_taken (declares_all n) d t);
  more_names = λ d t. on_more (TextWanted.MoreNames d t) (NamesOf d t) (λ rest p. Made.it_is Further.none) (more_names_taken (declares_all n) d t);
}

pub speaks_all : (n : ℕ) → Speaks n
speaks_all zero = record {
  declares_so = declares_all zero;
  punctuator_at = λ s d. on_none (TextWanted.Place s d) (Places s d) (punctuator_left s d);
  optional_so = λ d. on_none (TextWanted.Optional d) (Optionals d) (λ rest p. Made.it_is Optional.absent);
  first_so = λ d. on_none (TextWanted.First d) (Firsts d) (first_left d);
  statement_so = λ d. on_none (TextWanted.Statement d) (AsStatement d) (statement_left d);
  items_so = λ d. on_none (TextWanted.Items d) (AsItems d) (λ rest p. Made.it_is Items.none);
}
speaks_all (suc n) = record {
  declares_so = declares_all (suc n);
  punctuator_at = λ s d. on_more (TextWanted.Place s d) (Places s d) (punctuator_left s d) (punctuator_taken n s d);
  optional_so = λ d. on_more (TextWanted.Optional d) (Optionals d) (λ rest p. Made.it_is Optional.absent) (optional_taken n d);
  first_so = λ d. on_more (TextWanted.First d) (Firsts d) (first_left d) (first_taken (speaks_all n) d);
  statement_so = λ d. on_more (TextWanted.Statement d) (AsStatement d) (statement_left d) (statement_taken (speaks_all n) d);
  items_so = λ d. on_more (TextWanted.Items d) (AsItems d) (λ rest p. Made.it_is Items.none) (items_taken (speaks_all n) d);
}

-- a statement, and what is in a block
pub sound_statement : (d : ℕ) (ts : List Token) → TextExplained (AsStatement d) (run_text ts (Want (TextWanted.Statement d) Give))
sound_statement d ts = ((speaks_all (length ts)).statement_so d).trace ts (omega arith)

pub sound_items : (d : ℕ) (ts : List Token) → TextExplained (AsItems d) (run_text ts (Want (TextWanted.Items d) Give))
sound_items d ts = ((speaks_all (length ts)).items_so d).trace ts (omega arith)
