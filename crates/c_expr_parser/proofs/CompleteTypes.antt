-- The walk reads what is a type.
use Rattle.std.specs.Prelude.{◌≡◌, ◌||◌, ℕ, Bool, true, false, if◌then◌else◌, IsTrue, List, [], ◌∷◌, ◌++◌, Option, Some, None, option_map, is_some, codes}
use Rattle.std.proofs.Common.{refl, sym, subst, ◌∙◌, append_assoc, append-nil}
use Rattle.std.specs.Str.{bytes_eq}
use Rattle.std.proofs.lemmas.Slice.Eq.{bytes_eq-Decides}
use Rattle.std.proofs.lemmas.Bool.{false≢true}
use Rattle.c_ints.specs.declared.kind.Kind.{Kind}
use Rattle.c_lexer.specs.Words.{is_one_of}
use Rattle.c_lexer.specs.declared.token.Token.{Token}
use Rattle.c_lexer.specs.declared.token.TokenKind.{TokenKind}
use Rattle.c_lexer.specs.declared.token.TokenKind.TheVariants.{Identifier, Keyword, LibraryWord, Number, Character, Str, Punctuator}
use Rattle.c_tree.specs.declared.name.CType.{CType}
use Rattle.c_tree.specs.declared.name.CType.TheVariants.{Integer}
use Rattle.c_expr_parser.specs.Placed.{Placed, text}
use Rattle.c_expr_parser.specs.TypeNames.{TypeName, IntegerWords, IsIntegerWord, integer_words, is_spelling}
use Rattle.c_expr_parser.specs.Tables.{kind_of, is_integer_word, begins_type}
use Rattle.c_expr_parser.specs.Plans.{Value, Plan, takes, left_out}
use Rattle.c_expr_parser.specs.Plans.Value.{typed}
use Rattle.c_expr_parser.specs.Plans.Wanted.{Typing, Words}
use Rattle.c_expr_parser.specs.Plans.Plan.{Return, Then}
use Rattle.c_expr_parser.proofs.OneKind.{means}
use Rattle.c_expr_parser.proofs.Beginnings.{Opens, type_opens}
use Rattle.c_expr_parser.proofs.Beginnings
use Rattle.c_expr_parser.proofs.CompletePlans.{Reaches, Skips, stays, taken, skipped}
use Rattle.c_expr_parser.proofs.CompleteWords.{front_means}
use Rattle.c_expr_parser.proofs.CompleteTokens.{taken_spelled, word, naming}

-- no token goes on with an integer type
pub record EndsType (rest : List Token) : Type 0 where
  pub words : (d : ℕ) (words : List (List ℕ)) → Skips (Words d words) rest

is_word : {d : ℕ} {t : Placed} → IsIntegerWord d t → is_integer_word t.token ≡ true
is_word w = rw (w.keyword.sort, w.known) refl

some_plan : {A : Type 0} (p : Plan) (o : Option A) → is_some o ≡ true → option_map (λ a. p) o ≡ Some p
some_plan p None h = absurd (false≢true h)
some_plan p (Some a) h = refl

-- further words after some
more_words : {d : ℕ} {ts : List Placed} {words : List (List ℕ)} {rest : List Token} {k : Value → Plan} → IntegerWords d ts words
    → (kind : Kind) (one : List ℕ) (before : List (List ℕ)) → IsTrue (is_one_of integer_words one)
    → IsTrue (is_spelling kind ((one ∷ before) ++ words))
    → Reaches ts rest (Then (Words d (one ∷ before)) k) (Then (Words d ((one ∷ before) ++ words)) k)
more_words {d} {rest = rest} {k} IntegerWords.none kind one before known h =
    subst (λ all. Reaches [] rest (Then (Words d (one ∷ before)) k) (Then (Words d all) k)) (sym (append-nil (one ∷ before))) stays
more_words {d} {rest = rest} {k} (IntegerWords.more {t} {ts} {words} w ws) kind one before known h =
    let regrouped = append_assoc (one ∷ before) (text t ∷ []) words in
    let spelled = subst (λ all. IsTrue (is_spelling kind all)) (sym regrouped) h in
    let some = front_means kind one (before ++ text t ∷ []) words known spelled in
    let takes_word : takes (Words d (one ∷ before)) t.token ≡ Some (Then (Words d ((one ∷ before) ++ text t ∷ [])) Return) =
    rw (is_word w) (some_plan (Then (Words d ((one ∷ before) ++ text t ∷ [])) Return) (kind_of ((one ∷ before) ++ text t ∷ [])) some)
    in
    subst (λ all. Reaches (t ∷ ts) rest (Then (Words d (one ∷ before)) k) (Then (Words d all) k)) regrouped
    (taken takes_word w.keyword.stands (more_words ws kind one (before ++ text t ∷ []) known spelled))

type_read : {d : ℕ} {ts : List Placed} {words : List (List ℕ)} (kind : Kind) (rest : List Token) (k : Value → Plan)
    → IntegerWords d ts words → IsTrue (is_spelling kind words) → EndsType rest → Reaches ts rest (Then (Typing d) k) (k (typed (Integer kind)))
type_read kind rest k IntegerWords.none h ends = absurd (Beginnings.none_means kind h)
type_read {d} kind rest k (IntegerWords.more {t} {ts} {words} w ws) h ends =
    let begun : takes (Typing d) t.token ≡ Some (Then (Words d (text t ∷ [])) Return) = rw (is_word w) refl in
    let value : left_out (Words d (text t ∷ words)) ≡ Some (typed (Integer kind)) = rw (means kind (text t ∷ words) h) refl in
    skipped (taken begun w.keyword.stands (more_words ws kind (text t) [] w.known h)) value (ends.words d (text t ∷ words))

-- what is a type is read as that type
pub type_walk : {d : ℕ} {ts : List Placed} {t : CType} → TypeName d ts t → (rest : List Token) → EndsType rest → (k : Value → Plan)
    → Reaches ts rest (Then (Typing d) k) (k (typed t))
type_walk (TypeName.integer {kind} words h) rest ends k = type_read kind rest k words h ends
type_walk (TypeName.handle s tag star) rest ends k = taken_spelled s refl refl (naming tag (word star stays))
type_walk (TypeName.thread s) rest ends k = taken_spelled s refl refl stays

either_way : (a b : Bool) → (if a then true else (if b then true else false)) ≡ (b || a)
either_way true true = refl
either_way true false = refl
either_way false true = refl
either_way false false = refl

or_false : (b : Bool) → b ≡ (b || false)
or_false true = refl
or_false false = refl

pub begins_same : (kind : TokenKind) (place many : ℕ) (spelling : List ℕ)
    → begins_type (record { kind = kind; at = place; len = many; text = spelling }) ≡ Beginnings.begins_type kind spelling
begins_same Keyword p m s = either_way _ _
begins_same LibraryWord p m s = or_false _
begins_same Identifier p m s = refl
begins_same Number p m s = refl
begins_same Character p m s = refl
begins_same Str p m s = refl
begins_same Punctuator p m s = refl

-- what begins an expression begins no type
apart : (spelling : List ℕ) (same : Bool) → bytes_eq spelling (codes "thrd_t") ≡ same
    → Beginnings.begins_expression LibraryWord spelling ≡ true → (same || false) ≡ false
apart spelling false e h = refl
apart spelling true e h =
    let is : spelling ≡ codes "thrd_t" = (bytes_eq-Decides spelling (codes "thrd_t")).0 e in
    absurd (false≢true (subst (λ s. Beginnings.begins_expression LibraryWord s ≡ true) is h))

begins_no_type : (kind : TokenKind) (spelling : List ℕ) → Beginnings.begins_expression kind spelling ≡ true
    → Beginnings.begins_type kind spelling ≡ false
begins_no_type Keyword s h = absurd (false≢true h)
begins_no_type LibraryWord s h = apart s (bytes_eq s (codes "thrd_t")) refl h
begins_no_type Identifier s h = refl
begins_no_type Number s h = refl
begins_no_type Character s h = refl
begins_no_type Str s h = refl
begins_no_type Punctuator s h = refl

pub no_type : (t : Token) → Beginnings.begins_expression t.kind t.text ≡ true → begins_type t ≡ false
no_type t h = begins_same t.kind t.at t.len t.text ∙ begins_no_type t.kind t.text h

pub is_type : (t : Token) → Beginnings.begins_type t.kind t.text ≡ true → begins_type t ≡ true
is_type t h = begins_same t.kind t.at t.len t.text ∙ h
