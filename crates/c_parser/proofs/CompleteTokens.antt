-- Tokens as the walk through texts takes them, what it refuses, and phrases that it knows by their first token.
use Rattle.std.specs.Prelude.{◌≡◌, ℕ, Bool, true, false, IsTrue, List, [], ◌∷◌, ◌++◌, Option, Some, None, option_map}
use Rattle.std.specs.Str.{bytes_eq}
use Rattle.std.proofs.Common.{refl, ap, sym, subst, ◌∙◌}
use Rattle.std.proofs.lemmas.Slice.Eq.{bytes_eq-Decides}
use Rattle.std.proofs.lemmas.Bool.{eq-eqb, false≢true}
use Rattle.c_lexer.specs.Words.{is_one_of}
use Rattle.c_lexer.specs.declared.token.Token.{Token}
use Rattle.c_lexer.specs.declared.token.TokenKind.{TokenKind}
use Rattle.c_lexer.specs.declared.token.TokenKind.TheVariants.{Punctuator}
use Rattle.c_tree.specs.declared.name.Name.{Name}
use Rattle.c_tree.specs.declared.name.CType.{CType}
use Rattle.c_tree.specs.declared.expr.Expr.{Expr}
use Rattle.c_expr_parser.specs.Placed.{Placed, tokens, start, at}
use Rattle.c_expr_parser.specs.Terminals.{Spells, IsIdentifier, name}
use Rattle.c_expr_parser.specs.TypeNames.{TypeName}
use Rattle.c_expr_parser.specs.Expressions.{Assignment, Conditional}
use Rattle.c_expr_parser.specs.Tables.{is, kind_number}
use Rattle.c_expr_parser.specs.Plans.{Value, Wanted, Plan, after, takes, left_out, depth_of, as_expr, as_type, assignment_rest, conditional_rest}
use Rattle.c_expr_parser.specs.Plans.Value.{nothing, named}
use Rattle.c_expr_parser.specs.Plans.Plan.{Return, Then}
use Rattle.c_expr_parser.specs.Plans.Wanted.{Word, Typing, Cast}
use Rattle.c_expr_parser.proofs.Beginnings.{Opens, opens, type_opens, begins_expression, begins_type}
use Rattle.c_expr_parser.proofs.SoundTables.{spelled_at}
use Rattle.c_expr_parser.proofs.CompleteTokens.{token_of, as_spelled}
use Rattle.c_expr_parser.proofs.CompleteEnds.{EndsExpression}
use Rattle.c_expr_parser.proofs.CompleteTypes.{EndsType}
use Rattle.c_parser.specs.TextPlans.{Found, TextWanted, TextPlan, TextTrace, then_text, behind, begun, as_part, text_depth, text_takes, run_text, name_then, expr_from, type_from}
use Rattle.c_parser.specs.TextPlans.Found.{part, place}
use Rattle.c_parser.specs.TextPlans.TextPlan.{Give, Want}
use Rattle.c_parser.specs.TextPlans.TextWanted.{Of, Place}
use Rattle.c_parser.specs.TextPlans.TextTrace.{Next, Stopped}
use Rattle.c_parser.proofs.JoinedTraces.{then_behind, behind_after, nexts}
use Rattle.c_parser.proofs.CompletePlans.{Goes, at_token, at_none, taken, expression, conditional_part, type_part}

bytes_same : (s : List ℕ) → bytes_eq s s ≡ true
bytes_same s = (bytes_eq-Decides s s).1 refl

is_spelled : {kind : TokenKind} {d : ℕ} {spelling : List ℕ} {t : Placed} → Spells kind d spelling t → is kind spelling t.token ≡ true
is_spelled {kind} {d} {spelling} s = rw (s.sort, s.spelled, eq-eqb (kind_number kind) (kind_number kind) refl, bytes_same spelling) refl

-- a token that must come
pub word : {kind : TokenKind} {d : ℕ} {spelling : List ℕ} {t : Placed} {ts : List Placed} {rest : List Token} {p q : TextPlan}
    → Spells kind d spelling t → Goes ts rest p q → Goes (t ∷ ts) rest (Want (Of (Word kind spelling d)) (λ f. p)) q
word s r = taken {p = Give (part nothing)} (rw (is_spelled s) refl) s.stands r

-- a punctuator by its place
pub closing : {d : ℕ} {spelling : List ℕ} {t : Placed} {ts : List Placed} {rest : List Token} {q : TextPlan} (k : Found → TextPlan)
    → Spells Punctuator d spelling t → Goes ts rest (k (place (at t))) q → Goes (t ∷ ts) rest (Want (Place spelling d) k) q
closing {t} k s r = taken {p = Give (place (at t))} (rw (is_spelled s) refl) s.stands r

-- a name
pub naming : {d : ℕ} {t : Placed} {ts : List Placed} {rest : List Token} {q : TextPlan} (k : Name → TextPlan) → IsIdentifier d t
    → Goes ts rest (k (name t)) q → Goes (t ∷ ts) rest (name_then d k) q
naming {t} k s r = taken {p = Give (part (named (name t)))} (rw s.sort refl) s.stands r

-- a token of a kind and a spelling with which nothing wanted so begins
pub refuses : (w : TextWanted) {kind : TokenKind} {d : ℕ} {spelling : List ℕ} {t : Placed} → Spells kind d spelling t
    → text_takes w (token_of kind (at t) t.token.len spelling) ≡ None → text_takes w t.token ≡ None
refuses w s e = ap (text_takes w) (as_spelled s) ∙ e

-- a type ends before a name and before a punctuator
pub type_before_name : {d : ℕ} {t : Placed} → IsIdentifier d t → (rest : List Token) → EndsType (t.token ∷ rest)
type_before_name s rest = record { words = λ d words. rw s.sort refl }

pub type_before_punctuator : {d : ℕ} {spelling : List ℕ} {t : Placed} → Spells Punctuator d spelling t → (rest : List Token)
    → EndsType (t.token ∷ rest)
type_before_punctuator s rest = record { words = λ d words. rw s.sort refl }

-- a phrase's first token stays the first before others
pub starts : {test : TokenKind → List ℕ → Bool} {d : ℕ} {ts : List Placed} → Opens test d ts → (more : List Placed)
    → start (ts ++ more) ≡ start ts
starts o more = ap (λ ts. start (ts ++ more)) o.are ∙ sym (ap start o.are)

pub opens_before : {test : TokenKind → List ℕ → Bool} {d : ℕ} {ts : List Placed} → Opens test d ts → (more : List Placed)
    → Opens test d (ts ++ more)
opens_before o more = record {
  first = o.first;
  rest = o.rest ++ more;
  are = ap (λ ts. ts ++ more) o.are;
  stands = o.stands;
  begins = o.begins;
}

-- a spelling that passes a test is none that doesn't
pub apart : (test : List ℕ → Bool) (spelling other : List ℕ) → test other ≡ false → test spelling ≡ true
    → bytes_eq spelling other ≡ false
apart test spelling other without passed =
    (elim (bytes_eq spelling other) as (λ b. bytes_eq spelling other ≡ b → b ≡ false) [
      | true ↦ λ e. absurd (false≢true (sym without ∙ (sym (ap test ((bytes_eq-Decides spelling other).0 e)) ∙ passed)))
      | false ↦ λ e. refl
    ]) refl

-- none of these passes it
abbrev pub Fail : (List ℕ → Bool) → List (List ℕ) → Type 0
Fail test [] = Unit {0}
Fail test (word ∷ words) = (test word ≡ false) × Fail test words

pub none_of : (test : List ℕ → Bool) (spelling : List ℕ) (words : List (List ℕ)) → Fail test words → test spelling ≡ true
    → is_one_of words spelling ≡ false
none_of test spelling [] f passed = refl
none_of test spelling (word ∷ words) f passed =
    rw (apart test spelling word f.0 passed) (none_of test spelling words f.1 passed)

-- a token that passes a test is none that doesn't
pub is_other : (test : TokenKind → List ℕ → Bool) (kind : TokenKind) (spelling : List ℕ) (t : Token) → test kind spelling ≡ false
    → test t.kind t.text ≡ true → is kind spelling t ≡ false
is_other test kind spelling t without passed =
    (elim (is kind spelling t) as (λ b. is kind spelling t ≡ b → b ≡ false) [
      | true ↦ λ e. let s = spelled_at kind 0 spelling t e in
          let same : test t.kind t.text ≡ test kind spelling = λ i. test (s.sort i) (s.spelled i) in
          absurd (false≢true (sym without ∙ (sym same ∙ passed)))
      | false ↦ λ e. refl
    ]) refl

-- what is begun with a token that is looked at, and the same as a part
begun_same : (W : TextWanted) (w : Wanted) (q : Value → Plan) (made : Value → TextPlan) (k : Found → TextPlan) (t : Token)
    (ts : List Token) (u : Placed) (after_it : TextTrace)
    → text_takes W t ≡ begun (takes w t) q made → text_depth W ≡ depth_of w → left_out w ≡ None
    → run_text (t ∷ ts) (behind (Then w q) (λ v. then_text (made v) k)) ≡ Next u after_it
    → run_text (t ∷ ts) (Want W k) ≡ run_text (t ∷ ts) (behind (Then w q) (λ v. then_text (made v) k))
begun_same W w q made k t ts u after_it begins deep left goes = by_plan (takes w t) refl
  where
    by_plan : (o : Option Plan) → takes w t ≡ o
        → run_text (t ∷ ts) (Want W k) ≡ run_text (t ∷ ts) (behind (Then w q) (λ v. then_text (made v) k))
    by_plan None e =
        let stopped : Stopped (t ∷ ts) ≡ Next u after_it = sym (at_none (Of w) t ts (λ f. behind (q (as_part f)) (λ v. then_text (made v) k)) (rw e refl) (rw left refl)) ∙ goes in
        absurd (cc)
    by_plan (Some p) e =
        at_token W t ts k (behind (after p q) made) (begins ∙ ap (λ o. begun o q made) e)
        ∙ (ap (λ d. Next (record { token = t; depth = d }) (run_text ts (then_text (behind (after p q) made) k))) deep
        ∙ (ap (λ x. Next (record { token = t; depth = depth_of w }) (run_text ts x))
        (then_behind (after p q) made k
        ∙ (behind_after p q (λ v. then_text (made v) k)
        ∙ sym (then_behind p (λ v. Give (part v)) (λ f. behind (q (as_part f)) (λ v. then_text (made v) k)))))
        ∙ sym (at_token (Of w) t ts (λ f. behind (q (as_part f)) (λ v. then_text (made v) k)) (behind p (λ v. Give (part v))) (ap (option_map (λ p. behind p (λ v. Give (part v)))) e))))

-- a phrase that is known by its first token
pub opened : {test : TokenKind → List ℕ → Bool} {d : ℕ} {ts : List Placed} {rest : List Token} {target : TextPlan}
    (W : TextWanted) (w : Wanted) (q : Value → Plan) (made : ℕ → Value → TextPlan) (k : Found → TextPlan) → Opens test d ts
    → ((t : Token) → IsTrue (test t.kind t.text) → text_takes W t ≡ begun (takes w t) q (made t.at))
    → text_depth W ≡ depth_of w → left_out w ≡ None
    → Goes ts rest (behind (Then w q) (λ v. then_text (made (start ts) v) k)) target → Goes ts rest (Want W k) target
opened {rest = rest} {target} W w q made k o begins deep left =
    subst (λ ts. Goes ts rest (behind (Then w q) (λ v. then_text (made (start ts) v) k)) target → Goes ts rest (Want W k) target)
    (sym o.are)
    (λ g. record {
      carried = begun_same W w q (made (at o.first)) k o.first.token (tokens o.rest ++ rest) o.first (nexts o.rest (run_text rest target))
          (begins o.first.token o.begins) deep left g.carried ∙ g.carried;
    })

pub from_expression : {d : ℕ} {ts : List Placed} {e : Expr} {rest : List Token} (W : TextWanted) (made : ℕ → Expr → TextPlan)
    (k : Found → TextPlan) → Assignment d ts e → EndsExpression rest
    → ((t : Token) → IsTrue (begins_expression t.kind t.text) → text_takes W t ≡ expr_from d t (made t.at))
    → text_depth W ≡ d → Goes ts rest (Want W k) (then_text (made (start ts) e) k)
from_expression {d} {ts} {rest = rest} W made k a ends begins deep =
    opened W (Cast d) (assignment_rest d) (λ p v. made p (as_expr v)) k (opens a) begins deep refl
    (expression a rest ends (λ e. then_text (made (start ts) e) k))

pub from_conditional : {d : ℕ} {ts : List Placed} {e : Expr} {rest : List Token} (W : TextWanted) (made : Expr → TextPlan)
    (k : Found → TextPlan) → Conditional d ts e → EndsExpression rest
    → ((t : Token) → IsTrue (begins_expression t.kind t.text)
    → text_takes W t ≡ begun (takes (Cast d) t) (conditional_rest d) (λ v. made (as_expr v)))
    → text_depth W ≡ d → Goes ts rest (Want W k) (then_text (made e) k)
from_conditional {d} {rest = rest} W made k c ends begins deep =
    opened W (Cast d) (conditional_rest d) (λ p v. made (as_expr v)) k (opens (Assignment.conditional c)) begins deep refl
    (conditional_part c rest ends (λ e. then_text (made e) k))

pub from_type : {d : ℕ} {ts : List Placed} {t : CType} {rest : List Token} (W : TextWanted) (made : ℕ → CType → TextPlan)
    (k : Found → TextPlan) → TypeName d ts t → EndsType rest
    → ((u : Token) → IsTrue (begins_type u.kind u.text) → text_takes W u ≡ type_from d u (made u.at))
    → text_depth W ≡ d → Goes ts rest (Want W k) (then_text (made (start ts) t) k)
from_type {d} {ts} {rest = rest} W made k a ends begins deep =
    opened W (Typing d) Return (λ p v. made p (as_type v)) k (type_opens a) begins deep refl
    (type_part a rest ends (λ t. then_text (made (start ts) t) k))
