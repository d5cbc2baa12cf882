-- Types.
use Rattle.std.specs.Prelude.{◌≡◌, ℕ, Bool, true, List, [], ◌∷◌, ◌++◌, Some, codes}
use Rattle.std.specs.List.{find}
use Rattle.std.specs.Str.{bytes_eq}
use Rattle.std.proofs.Common.{refl, sym, subst, inl, inr, append_assoc, append-nil}
use Rattle.std.proofs.lemmas.Bool.{and_parts, or_cases, false≢true}
use Rattle.std.proofs.lemmas.Slice.Eq.{bytes_eq-Decides}
use Rattle.c_ints.specs.declared.kind.Kind.{Kind}
use Rattle.c_ints.specs.declared.kind.Kind.TheVariants.{I8, U8, I16, U16, I32, U32, I64, U64}
use Rattle.c_lexer.specs.Words.{is_one_of}
use Rattle.c_lexer.specs.declared.token.Token.{Token}
use Rattle.c_lexer.specs.declared.token.TokenKind.TheVariants.{Keyword, LibraryWord}
use Rattle.c_tree.specs.declared.name.CType.TheVariants.{Integer, Handle, Thread}
use Rattle.c_expr_parser.specs.Placed.{Placed, text}
use Rattle.c_expr_parser.specs.TypeNames.{TypeName, IntegerWords, IsIntegerWord, integer_words, is_spelling}
use Rattle.c_expr_parser.specs.Tables.{is, is_kind, is_integer_word, kind_of, longer_kind}
use Rattle.c_expr_parser.specs.Plans.{Wanted, Plan, type_plan, name_then, punctuator, takes, left_out}
use Rattle.c_expr_parser.specs.Plans.Value.{typed}
use Rattle.c_expr_parser.specs.Plans.Plan.{Return, Then}
use Rattle.c_expr_parser.proofs.TraceMeaning.{Sound, sound_return, sound_map}
use Rattle.c_expr_parser.proofs.WantedMeaning.{IsTyped, Means, Fits, sound_word, sound_naming}
use Rattle.c_expr_parser.proofs.SoundTables.{placed_at, Each, each_at, each_if, each_map, when_parts, token_at, spelled_at}

-- what is found passes the test
found_passes : {A : Type 0} (test : A → Bool) (xs : List A) → Each (λ x. test x ≡ true) (find test xs)
found_passes test [] = tt
found_passes test (x ∷ xs) =
    each_if (λ x. test x ≡ true) (test x) (Some x) (find test xs) (λ h. h) (λ h. found_passes test xs)

pub kind_means : (words : List (List ℕ)) (kind : Kind) → kind_of words ≡ Some kind → is_spelling kind words ≡ true
kind_means words kind e =
    each_at (λ kind. is_spelling kind words ≡ true) (kind_of words) kind e
    (found_passes (λ kind. is_spelling kind words) (I8 ∷ U8 ∷ I16 ∷ U16 ∷ I32 ∷ U32 ∷ I64 ∷ U64 ∷ []))

-- P holds of each
abbrev EachOf : (List ℕ → Type 0) → List (List ℕ) → Type 0
EachOf P [] = Unit {0}
EachOf P (x ∷ xs) = P x × EachOf P xs

of_one : (P : List ℕ → Type 0) (spelling : List ℕ) (xs : List (List ℕ)) → EachOf P xs → is_one_of xs spelling ≡ true → P spelling
of_one P spelling [] e h = absurd (false≢true h)
of_one P spelling (x ∷ xs) e h = elim (or_cases (bytes_eq spelling x) (is_one_of xs spelling) h) [
  | inl same ↦ subst P (sym ((bytes_eq-Decides spelling x).0 same)) e.0
  | inr later ↦ of_one P spelling xs e.1 later
]

-- a word alone means a type
abbrev HasKind : List ℕ → Type 0
HasKind spelling = (kind : Kind) × (kind_of (spelling ∷ []) ≡ Some kind)

word_kind : (spelling : List ℕ) → is_one_of integer_words spelling ≡ true → HasKind spelling
word_kind spelling h =
    of_one HasKind spelling integer_words
    ((I8, refl), ((I16, refl), ((I32, refl), ((I64, refl), ((I32, refl), ((U32, refl), tt)))))) h

word_at : (d : ℕ) (t : Token) → is_integer_word t ≡ true → IsIntegerWord d (placed_at d t)
word_at d t h =
    let both = and_parts (is_kind Keyword t) (is_one_of integer_words t.text) h in
    record { keyword = token_at Keyword d t both.0; known = both.1 }

words_more : {d : ℕ} {ts : List Placed} {words : List (List ℕ)} {t : Placed} → IntegerWords d ts words → IsIntegerWord d t
    → IntegerWords d (ts ++ t ∷ []) (words ++ text t ∷ [])
words_more IntegerWords.none w = IntegerWords.more w IntegerWords.none
words_more (IntegerWords.more v vs) w = IntegerWords.more v (words_more vs w)

-- a further word
pub words_taken : {n : ℕ} → Fits n → (d : ℕ) (words : List (List ℕ)) (t : Token)
    → Each (λ p. Sound n (λ more v. Means (Wanted.Words d words) (placed_at d t ∷ more) v) p) (takes (Wanted.Words d words) t)
words_taken {n} fits d words t =
    each_map (λ p. Sound n (λ more v. Means (Wanted.Words d words) (placed_at d t ∷ more) v) p)
    (λ k. Then (Wanted.Words d (words ++ t.text ∷ [])) Return) (longer_kind words t) (λ kind e. longer kind e)
  where
    longer : (kind : Kind) → longer_kind words t ≡ Some kind
        → Sound n (λ more v. Means (Wanted.Words d words) (placed_at d t ∷ more) v) (Then (Wanted.Words d (words ++ t.text ∷ [])) Return)
    longer kind e =
        let parts = when_parts (is_integer_word t) (kind_of (words ++ t.text ∷ [])) kind e in
        sound_map (λ more v m. λ left other ws k.
        rw append_assoc at (m (left ++ placed_at d t ∷ []) kind (words_more ws (word_at d t parts.0)) parts.1))
        (fits.wanted (Wanted.Words d (words ++ t.text ∷ [])))

-- no further word
pub words_left : (d : ℕ) (words : List (List ℕ)) → Each (Means (Wanted.Words d words) []) (left_out (Wanted.Words d words))
words_left d words =
    each_map (Means (Wanted.Words d words) []) (λ k. typed (Integer k)) (kind_of words)
    (λ kind e left other ws k. IsTyped.type_name (TypeName.integer {kind = kind} {words = words} (rw append-nil ws) (kind_means words kind e)))

-- a type's first token
pub type_taken : {n : ℕ} → Fits n → (d : ℕ) (t : Token)
    → Each (λ p. Sound n (λ more v. IsTyped d (placed_at d t ∷ more) v) p) (type_plan d t)
type_taken {n} fits d t =
    each_if P (is_integer_word t) _ _ (λ h. integer h)
    (λ h. each_if P (is Keyword (codes "struct") t) _ _ (λ s. handle s)
    (λ s. each_if P (is LibraryWord (codes "thrd_t") t) _ _ (λ p. thread p) (λ p. tt)))
  where
    P : Plan → Type 0
    P p = Sound n (λ more v. IsTyped d (placed_at d t ∷ more) v) p

    integer : is_integer_word t ≡ true → P (Then (Wanted.Words d (t.text ∷ [])) Return)
    integer h =
        let one = word_at d t h in
        let kind = word_kind t.text one.known in
        sound_map (λ more v m. m (placed_at d t ∷ []) kind.0 (IntegerWords.more one IntegerWords.none) kind.1)
        (fits.wanted (Wanted.Words d (t.text ∷ [])))

    handle : is Keyword (codes "struct") t ≡ true → P (name_then d (λ tag. punctuator (codes "*") d (Return (typed (Handle tag)))))
    handle h =
        sound_naming fits (λ tag i. sound_word fits (λ star s.
        sound_return (IsTyped.type_name (TypeName.handle (spelled_at Keyword d (codes "struct") t h) i s))))

    thread : is LibraryWord (codes "thrd_t") t ≡ true → P (Return (typed Thread))
    thread h = sound_return (IsTyped.type_name (TypeName.thread (spelled_at LibraryWord d (codes "thrd_t") t h)))
