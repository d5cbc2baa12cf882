-- What each thing wanted in a text means, and the declarations.
use Rattle.std.specs.Prelude.{ℕ, List, [], ◌∷◌, ◌++◌, Option, Some, None, codes}
use Rattle.std.proofs.Common.{sym, subst, append-nil, append_assoc}
use Rattle.c_lexer.specs.declared.token.Token.{Token}
use Rattle.c_lexer.specs.declared.token.TokenKind.TheVariants.{Punctuator}
use Rattle.c_tree.specs.declared.name.CType.{CType}
use Rattle.c_tree.specs.declared.expr.Expr.{Expr}
use Rattle.c_tree.specs.declared.stmt.Declaration.{Declaration}
use Rattle.c_tree.specs.declared.def.Binding.{Binding}
use Rattle.c_expr_parser.specs.Placed.{Placed}
use Rattle.c_expr_parser.specs.Terminals.{IsPunctuator, IsIdentifier, name}
use Rattle.c_expr_parser.specs.TypeNames.{Star}
use Rattle.c_expr_parser.specs.Expressions.{Assignment}
use Rattle.c_expr_parser.specs.Declarations.{Declarators, Variable, Member}
use Rattle.c_expr_parser.specs.Tables.{is}
use Rattle.c_expr_parser.proofs.SoundTables.{placed_at, Each, each_when, spelled_at}
use Rattle.c_parser.specs.TextPlans.{Found, TextWanted, TextPlan, text_takes, variables, names, as_optional, as_declarations, as_bindings}
use Rattle.c_parser.specs.TextPlans.Found.{optional, declarations, bindings}
use Rattle.c_parser.specs.TextPlans.TextPlan.{Give, Want}
use Rattle.c_parser.proofs.TraceMeaning.{Meaning, From, Explains, gives, explains_map, explains_then}
use Rattle.c_parser.proofs.WantedMeaning.{text_name, text_expr, text_star}

-- something of a kind was found, and the tokens are that
pub data Made {A : Type 0} (make : A → Found) (P : A → List Placed → List Token → Type 0) : List Placed → Found → List Token → Type 0 where
  it_is : {a : A} {ts : List Placed} {rest : List Token} → P a ts rest → Made make P ts (make a) rest

pub made_case : {n : ℕ} {A : Type 0} {make : A → Found} {P : A → List Placed → List Token → Type 0} (Q : Meaning) (k : Found → TextPlan)
    → ((a : A) (us : List Placed) (rest : List Token) → P a us rest → Explains n (From us Q) (k (make a)))
    → {us : List Placed} {f : Found} {rest : List Token} → Made make P us f rest → Explains n (From us Q) (k f)
made_case Q k g (Made.it_is p) = g _ _ _ p

pub text_want : {n : ℕ} {A : Type 0} {make : A → Found} {P : A → List Placed → List Token → Type 0} (Q : Meaning) (k : Found → TextPlan)
    (w : TextWanted) → Explains n (Made make P) (Want w Give)
    → ((a : A) (us : List Placed) (rest : List Token) → P a us rest → Explains n (From us Q) (k (make a))) → Explains n Q (Want w k)
text_want Q k w s g = explains_then {p = Want w Give} {k = k} s (λ us f rest m. made_case Q k g m)

pub regroup : {n : ℕ} {p : TextPlan} (Q : Meaning) (us vs : List Placed) → Explains n (From (us ++ vs) Q) p → Explains n (From vs (From us Q)) p
regroup Q us vs s = explains_map (λ ts f rest q. subst (λ l. Q l f rest) (append_assoc us vs ts) q) s

pub data IsInitial (d : ℕ) : Option Expr → List Placed → Type 0 where
  none : IsInitial d None []
  some : {sign : Placed} {ts : List Placed} {e : Expr} → IsPunctuator d "=" sign → Assignment d ts e → IsInitial d (Some e) (sign ∷ ts)

-- further declarators after one
pub data Further {A : Type 0} (d : ℕ) (t : CType) (D : List Placed → A → Type 0) : List A → List Placed → Type 0 where
  none : Further d t D [] []
  some : {comma : Placed} {stars ts : List Placed} {all : List A} → IsPunctuator d "," comma → Star d t stars → Declarators d t D ts all
      → Further d t D all (comma ∷ stars ++ ts)

pub further_of : {A : Type 0} {d : ℕ} {t : CType} {D : List Placed → A → Type 0} {vs : List Placed} {a : A} {all : List A} (us : List Placed) → D us a
    → Further d t D all vs → Declarators d t D (us ++ vs) (a ∷ all)
further_of {d = d} {t} {D} {a = a} us x Further.none = subst (λ l. Declarators d t D l (a ∷ [])) (sym (append-nil us)) (Declarators.last x)
further_of us x (Further.some c s ds) = Declarators.more x c s ds

variable_of : {d : ℕ} {t : CType} {x : Placed} {us : List Placed} {o : Option Expr} → IsIdentifier d x → IsInitial d o us
    → Variable d t (x ∷ us) (record { declared = t; name = name x; initial = o })
variable_of id IsInitial.none = Variable.plain id
variable_of id (IsInitial.some s a) = Variable.initialised id s a

-- on at most so many tokens, these are found as the grammar says
pub record Declares (n : ℕ) : Type 0 where
  pub initial : (d : ℕ) → Explains n (Made optional (λ o ts r. IsInitial d o ts)) (Want (TextWanted.Initial d) Give)
  pub more : (d : ℕ) (t : CType) → Explains n (Made declarations (λ ds ts r. Further d t (Variable d t) ds ts)) (Want (TextWanted.MoreVariables d t) Give)
  pub more_names : (d : ℕ) (t : CType) → Explains n (Made bindings (λ bs ts r. Further d t (Member d t) bs ts)) (Want (TextWanted.MoreNames d t) Give)

pub variables_explained : {n : ℕ} (Q : Meaning) → Declares n → (d : ℕ) (t : CType) (k : List Declaration → TextPlan)
    → ((us : List Placed) (ds : List Declaration) → Declarators d t (Variable d t) us ds → Explains n (From us Q) (k ds))
    → Explains n Q (variables d t k)
variables_explained {n} Q fits d t k g =
    text_name Q (λ name. Want (TextWanted.Initial d) (λ e. Want (TextWanted.MoreVariables d t) (λ more.
    k (record { declared = t; name = name; initial = as_optional e } ∷ as_declarations more))))
    (λ x id. text_want (From (x ∷ []) Q) _ (TextWanted.Initial d) (fits.initial d)
    (λ o us rest p. text_want (From us (From (x ∷ []) Q)) _ (TextWanted.MoreVariables d t) (fits.more d t)
    (λ ds vs rest q. regroup (From (x ∷ []) Q) us vs (g (x ∷ (us ++ vs)) (record { declared = t; name = name x; initial = o } ∷ ds) (further_of (x ∷ us) (variable_of id p) q)))))

pub names_explained : {n : ℕ} (Q : Meaning) → Declares n → (d : ℕ) (t : CType) (k : List Binding → TextPlan)
    → ((us : List Placed) (bs : List Binding) → Declarators d t (Member d t) us bs → Explains n (From us Q) (k bs))
    → Explains n Q (names d t k)
names_explained {n} Q fits d t k g =
    text_name Q (λ name. Want (TextWanted.MoreNames d t) (λ more. k (record { declared = t; name = name } ∷ as_bindings more)))
    (λ x id. text_want (From (x ∷ []) Q) _ (TextWanted.MoreNames d t) (fits.more_names d t)
    (λ bs vs rest q. g (x ∷ vs) (record { declared = t; name = name x } ∷ bs) (further_of (x ∷ []) (Member.member id) q)))

-- after the token that begins them
pub initial_taken : (n : ℕ) (d : ℕ) (t : Token)
    → Each (λ p. Explains n (From (placed_at d t ∷ []) (Made optional (λ o ts r. IsInitial d o ts))) p) (text_takes (TextWanted.Initial d) t)
initial_taken n d t =
    each_when (λ p. Explains n Q p) (is Punctuator (codes "=") t) _
    (λ h. text_expr Q (λ e. Give (optional (Some e)))
    (λ us e a. gives (λ rest. rw append-nil (Made.it_is (IsInitial.some (spelled_at Punctuator d (codes "=") t h) a)))))
  where
    Q : Meaning
    Q = From (placed_at d t ∷ []) (Made optional (λ o ts r. IsInitial d o ts))

pub more_taken : {n : ℕ} → Declares n → (d : ℕ) (ty : CType) (t : Token)
    → Each (λ p. Explains n (From (placed_at d t ∷ []) (Made declarations (λ ds ts r. Further d ty (Variable d ty) ds ts))) p)
    (text_takes (TextWanted.MoreVariables d ty) t)
more_taken {n} fits d ty t =
    each_when (λ p. Explains n Q p) (is Punctuator (codes ",") t) _
    (λ h. text_star Q (variables d ty (λ ds. Give (declarations ds))) ty
    (λ stars s. variables_explained (From stars Q) fits d ty (λ ds. Give (declarations ds))
    (λ us ds x. gives (λ rest. rw append-nil (Made.it_is (Further.some (spelled_at Punctuator d (codes ",") t h) s x))))))
  where
    Q : Meaning
    Q = From (placed_at d t ∷ []) (Made declarations (λ ds ts r. Further d ty (Variable d ty) ds ts))

pub more_names_taken : {n : ℕ} → Declares n → (d : ℕ) (ty : CType) (t : Token)
    → Each (λ p. Explains n (From (placed_at d t ∷ []) (Made bindings (λ bs ts r. Further d ty (Member d ty) bs ts))) p)
    (text_takes (TextWanted.MoreNames d ty) t)
more_names_taken {n} fits d ty t =
    each_when (λ p. Explains n Q p) (is Punctuator (codes ",") t) _
    (λ h. text_star Q (names d ty (λ bs. Give (bindings bs))) ty
    (λ stars s. names_explained (From stars Q) fits d ty (λ bs. Give (bindings bs))
    (λ us bs x. gives (λ rest. rw append-nil (Made.it_is (Further.some (spelled_at Punctuator d (codes ",") t h) s x))))))
  where
    Q : Meaning
    Q = From (placed_at d t ∷ []) (Made bindings (λ bs ts r. Further d ty (Member d ty) bs ts))
