-- What the plans of a global's initialisers mean.
use Rattle.std.specs.Prelude.{◌≡◌, ℕ, zero, suc, List, [], ◌∷◌, ◌++◌, Option, Some, None, codes}
use Rattle.std.proofs.Common.{refl, sym, subst, append-nil, append_assoc}
use Rattle.c_ints.specs.declared.int.Int.{Int}
use Rattle.c_lexer.specs.declared.token.Token.{Token}
use Rattle.c_lexer.specs.declared.token.TokenKind.TheVariants.{Punctuator, Number}
use Rattle.c_tree.specs.declared.name.Name.{Name}
use Rattle.c_tree.specs.declared.name.CType.{CType}
use Rattle.c_tree.specs.declared.expr.Expr.{Expr}
use Rattle.c_tree.specs.declared.def.Length.{Length}
use Rattle.c_tree.specs.declared.def.DefKind.{DefKind}
use Rattle.c_tree.specs.declared.def.DefKind.TheVariants as kind
use Rattle.c_expr_parser.specs.Placed.{Placed, at}
use Rattle.c_expr_parser.specs.Terminals.{IsPunctuator, IsIdentifier, IsNumber, name}
use Rattle.c_expr_parser.specs.Expressions.{Conditional}
use Rattle.c_expr_parser.specs.Declarations.{Commas}
use Rattle.c_expr_parser.specs.Definitions.{TrailingComma, GlobalDeclarator}
use Rattle.c_expr_parser.specs.Tables.{is, is_kind, constant_of}
use Rattle.c_expr_parser.proofs.Samples.{placed}
use Rattle.c_expr_parser.proofs.Examples.{one}
use Rattle.c_expr_parser.proofs.SoundTables.{placed_at, Each, each_if, each_when, each_map, spelled_at, of_kind}
use Rattle.c_expr_parser.proofs.SoundTerminals.{constant_is}
use Rattle.c_parser.specs.TextPlans.{TextWanted, text_takes, punctuator, name_then, as_values, as_length, as_listed, as_global, as_globals}
use Rattle.c_parser.specs.TextPlans.Found.{numbered, values, listed, global, globals}
use Rattle.c_parser.specs.TextPlans.TextPlan.{Give, Want}
use Rattle.c_parser.proofs.TraceMeaning.{Meaning, From, Explains, gives}
use Rattle.c_parser.proofs.WantedMeaning.{text_word, text_name, text_conditional, text_star, conditional_begun}
use Rattle.c_parser.proofs.SoundDeclarations.{Made, text_want, regroup, Further, further_of}
use Rattle.c_parser.proofs.SoundPhrases.{Left, on_none, on_more}

pub data IsLength (d : ℕ) : Length → List Placed → Type 0 where
  it_is : {t : Placed} {value : Int} → IsNumber d value t → IsLength d (record { place = at t; value = value }) (t ∷ [])

-- initialisers after one, and after a comma
pub data IsMore (d : ℕ) : List Expr → List Placed → Type 0 where
  none : IsMore d [] []
  trailing : {comma : Placed} → IsPunctuator d "," comma → IsMore d [] (comma ∷ [])
  some : {comma : Placed} {ts end : List Placed} {es : List Expr} → IsPunctuator d "," comma → Commas d (Conditional d) ts es → TrailingComma d end
      → IsMore d es (comma ∷ (ts ++ end))

pub data IsBehind (d : ℕ) : List Expr → List Placed → Type 0 where
  none : IsBehind d [] []
  some : {ts end : List Placed} {es : List Expr} → Commas d (Conditional d) ts es → TrailingComma d end → IsBehind d es (ts ++ end)

pub data IsArray : Option (List Expr) → List Placed → Type 0 where
  none : IsArray None []
  some : {sign brace final : Placed} {ts end : List Placed} {es : List Expr} → IsPunctuator 0 "=" sign → IsPunctuator 0 "{" brace
      → Commas 1 (Conditional 1) ts es → TrailingComma 1 end → IsPunctuator 0 "}" final
      → IsArray (Some es) (sign ∷ brace ∷ (ts ++ (end ++ final ∷ [])))

comma_of : {d : ℕ} {c : Placed} {es : List Expr} {us : List Placed} → IsPunctuator d "," c → IsBehind d es us → IsMore d es (c ∷ us)
comma_of c IsBehind.none = IsMore.trailing c
comma_of c (IsBehind.some es end) = IsMore.some c es end

values_of : {d : ℕ} {e : Expr} {es : List Expr} {vs : List Placed} (us : List Placed) → Conditional d us e → IsMore d es vs
    → IsBehind d (e ∷ es) (us ++ vs)
values_of us c IsMore.none = IsBehind.some (Commas.last c) TrailingComma.absent
values_of us c (IsMore.trailing comma) = IsBehind.some (Commas.last c) (TrailingComma.present comma)
values_of {d} {e} us c (IsMore.some {comma} {ts} {end} {es} s cs tr) =
    subst (IsBehind d (e ∷ es)) (append_assoc us (comma ∷ ts) end) (IsBehind.some (Commas.more c s cs) tr)

array_of : {s b f : Placed} {e : Expr} {es : List Expr} {ws : List Placed} → IsPunctuator 0 "=" s → IsPunctuator 0 "{" b → IsBehind 1 (e ∷ es) ws
    → IsPunctuator 0 "}" f → IsArray (Some (e ∷ es)) (s ∷ b ∷ (ws ++ f ∷ []))
array_of {s} {b} {f} {e} {es} hs hb (IsBehind.some {ts} {end} cs tr) hf =
    subst (λ l. IsArray (Some (e ∷ es)) (s ∷ b ∷ l)) (sym (append_assoc ts end (f ∷ []))) (IsArray.some hs hb cs tr hf)

-- what follows a global's name
abbrev pub IsTail : CType → Name → DefKind → List Placed → Type 0
IsTail t n g ts = (first : Placed) → IsIdentifier 0 first → n ≡ name first → GlobalDeclarator t (first ∷ ts) g

-- on at most so many tokens, these are found as the grammar says
pub record Holds (n : ℕ) : Type 0 where
  pub length_so : (d : ℕ) → Explains n (Made numbered (λ l ts r. IsLength d l ts)) (Want (TextWanted.ArrayLength d) Give)
  pub more_so : (d : ℕ) → Explains n (Made values (λ es ts r. IsMore d es ts)) (Want (TextWanted.MoreValues d) Give)
  pub behind_so : (d : ℕ) → Explains n (Made values (λ es ts r. IsBehind d es ts)) (Want (TextWanted.AfterComma d) Give)
  pub array_so : Explains n (Made listed (λ es ts r. IsArray es ts)) (Want TextWanted.ArrayInitial Give)
  pub global_so : (t : CType) (n' : Name) → Explains n (Made global (λ g ts r. IsTail t n' g ts)) (Want (TextWanted.Global t n') Give)
  pub globals_so : (t : CType) → Explains n (Made globals (λ gs ts r. Further 0 t (GlobalDeclarator t) gs ts)) (Want (TextWanted.MoreGlobals t) Give)

length_taken : (n d : ℕ) (t : Token)
    → Each (λ p. Explains n (From (placed_at d t ∷ []) (Made numbered (λ l ts r. IsLength d l ts))) p) (text_takes (TextWanted.ArrayLength d) t)
length_taken n d t =
    each_when (λ p. Explains n (From (placed_at d t ∷ []) (Made numbered (λ l ts r. IsLength d l ts))) p) (is_kind Number t) _
    (λ h. each_map (λ p. Explains n (From (placed_at d t ∷ []) (Made numbered (λ l ts r. IsLength d l ts))) p)
    (λ v. Give (numbered (record { place = t.at; value = v }))) (constant_of t.text)
    (λ v e. gives (λ rest. Made.it_is (IsLength.it_is (record { sort = of_kind Number t h; stands = refl; constant = constant_is t.text v e })))))

more_taken : {n : ℕ} → Holds n → (d : ℕ) (t : Token)
    → Each (λ p. Explains n (From (placed_at d t ∷ []) (Made values (λ es ts r. IsMore d es ts))) p) (text_takes (TextWanted.MoreValues d) t)
more_taken {n} holds d t =
    each_when (λ p. Explains n Q p) (is Punctuator (codes ",") t) _
    (λ h. text_want Q Give (TextWanted.AfterComma d) (holds.behind_so d)
    (λ es us rest m. gives (λ rest. rw append-nil (Made.it_is (comma_of (spelled_at Punctuator d (codes ",") t h) m)))))
  where
    Q : Meaning
    Q = From (placed_at d t ∷ []) (Made values (λ es ts r. IsMore d es ts))

behind_taken : {n : ℕ} → Holds n → (d : ℕ) (t : Token)
    → Each (λ p. Explains n (From (placed_at d t ∷ []) (Made values (λ es ts r. IsBehind d es ts))) p) (text_takes (TextWanted.AfterComma d) t)
behind_taken {n} holds d t =
    conditional_begun Q (λ e. Want (TextWanted.MoreValues d) (λ more. Give (values (e ∷ as_values more)))) d t
    (λ us e c. text_want (From us Q) (λ more. Give (values (e ∷ as_values more))) (TextWanted.MoreValues d) (holds.more_so d)
    (λ es vs rest m. gives (λ rest. rw append-nil (Made.it_is (values_of (placed_at d t ∷ us) c m)))))
  where
    Q : Meaning
    Q = From (placed_at d t ∷ []) (Made values (λ es ts r. IsBehind d es ts))

array_taken : {n : ℕ} → Holds n → (t : Token)
    → Each (λ p. Explains n (From (placed_at 0 t ∷ []) (Made listed (λ es ts r. IsArray es ts))) p) (text_takes TextWanted.ArrayInitial t)
array_taken {n} holds t =
    each_when (λ p. Explains n Q p) (is Punctuator (codes "=") t) _
    (λ h. text_word Q (λ b hb. text_conditional (From (b ∷ []) Q) (λ e. Want (TextWanted.MoreValues 1) (λ more.
    punctuator (codes "}") 0 (Give (listed (Some (e ∷ as_values more))))))
    (λ us e c. text_want (From us (From (b ∷ []) Q)) (λ more. punctuator (codes "}") 0 (Give (listed (Some (e ∷ as_values more))))) (TextWanted.MoreValues 1) (holds.more_so 1)
    (λ es vs rest m. regroup (From (b ∷ []) Q) us vs
    (text_word (From (us ++ vs) (From (b ∷ []) Q)) (λ f hf.
    gives (λ rest. Made.it_is (array_of (spelled_at Punctuator 0 (codes "=") t h) hb (values_of us c m) hf))))))))
  where
    Q : Meaning
    Q = From (placed_at 0 t ∷ []) (Made listed (λ es ts r. IsArray es ts))

tail_array : {t : CType} {n : Name} {b q : Placed} {l : Length} {ws vs : List Placed} {o : Option (List Expr)} → IsPunctuator 0 "[" b → IsLength 1 l ws
    → IsPunctuator 0 "]" q → IsArray o vs
    → IsTail t n (kind.Array (record { element = t; name = n; length = l; initial = o })) (b ∷ (ws ++ (q ∷ vs)))
tail_array {t} {b = b} {q} hb (IsLength.it_is {t = x} {value} num) hq IsArray.none first id e =
    subst (λ n. GlobalDeclarator t (first ∷ b ∷ x ∷ q ∷ []) (kind.Array (record { element = t; name = n; length = record { place = at x; value = value }; initial = None })))
    (sym e) (GlobalDeclarator.array id hb num hq)
tail_array {t} {b = b} {q} hb (IsLength.it_is {t = x} {value} num) hq (IsArray.some {sign} {brace} {final} {ts} {end} {es} hs hbr cs tr hf) first id e =
    subst (λ n. GlobalDeclarator t (first ∷ b ∷ x ∷ q ∷ sign ∷ brace ∷ (ts ++ (end ++ final ∷ [])))
    (kind.Array (record { element = t; name = n; length = record { place = at x; value = value }; initial = Some es })))
    (sym e) (GlobalDeclarator.initialised_array id hb num hq hs hbr cs tr hf)

tail_initial : {t : CType} {n : Name} {s : Placed} {us : List Placed} {x : Expr} → IsPunctuator 0 "=" s → Conditional 0 us x
    → IsTail t n (kind.Global (record { declared = t; name = n; initial = Some x })) (s ∷ us)
tail_initial {t} {s = s} {us} {x} hs c first id e =
    subst (λ n. GlobalDeclarator t (first ∷ s ∷ us) (kind.Global (record { declared = t; name = n; initial = Some x }))) (sym e)
    (GlobalDeclarator.initialised id hs c)

tail_plain : (t : CType) (n : Name) → IsTail t n (kind.Global (record { declared = t; name = n; initial = None })) []
tail_plain t n first id e =
    subst (λ n. GlobalDeclarator t (first ∷ []) (kind.Global (record { declared = t; name = n; initial = None }))) (sym e)
    (GlobalDeclarator.plain id)

global_taken : {n : ℕ} → Holds n → (ty : CType) (nm : Name) (t : Token)
    → Each (λ p. Explains n (From (placed_at 0 t ∷ []) (Made global (λ g ts r. IsTail ty nm g ts))) p) (text_takes (TextWanted.Global ty nm) t)
global_taken {n} holds ty nm t =
    each_if (λ p. Explains n Q p) (is Punctuator (codes "=") t) _ _
    (λ h. text_conditional Q (λ e. Give (global (kind.Global (record { declared = ty; name = nm; initial = Some e }))))
    (λ us e c. gives (λ rest. rw append-nil (Made.it_is (tail_initial (spelled_at Punctuator 0 (codes "=") t h) c)))))
    (λ h. each_when (λ p. Explains n Q p) (is Punctuator (codes "[") t) _
    (λ m. text_want Q (λ l. punctuator (codes "]") 0 (Want TextWanted.ArrayInitial (λ es.
    Give (global (kind.Array (record { element = ty; name = nm; length = as_length l; initial = as_listed es }))))))
    (TextWanted.ArrayLength 1) (holds.length_so 1)
    (λ l ws rest x. text_word (From ws Q) (λ q hq.
    text_want (From (q ∷ []) (From ws Q)) (λ es. Give (global (kind.Array (record { element = ty; name = nm; length = l; initial = as_listed es }))))
    TextWanted.ArrayInitial holds.array_so
    (λ es vs rest y. gives (λ rest. rw append-nil (Made.it_is (tail_array (spelled_at Punctuator 0 (codes "[") t m) x hq y))))))))
  where
    Q : Meaning
    Q = From (placed_at 0 t ∷ []) (Made global (λ g ts r. IsTail ty nm g ts))

globals_taken : {n : ℕ} → Holds n → (ty : CType) (t : Token)
    → Each (λ p. Explains n (From (placed_at 0 t ∷ []) (Made globals (λ gs ts r. Further 0 ty (GlobalDeclarator ty) gs ts))) p)
    (text_takes (TextWanted.MoreGlobals ty) t)
globals_taken {n} holds ty t =
    each_when (λ p. Explains n Q p) (is Punctuator (codes ",") t) _
    (λ h. text_star Q (name_then 0 (λ name. Want (TextWanted.Global ty name) (λ g. Want (TextWanted.MoreGlobals ty) (λ more.
    Give (globals (as_global g ∷ as_globals more)))))) ty
    (λ stars s. text_name (From stars Q) (λ name. Want (TextWanted.Global ty name) (λ g. Want (TextWanted.MoreGlobals ty) (λ more.
    Give (globals (as_global g ∷ as_globals more)))))
    (λ x id. text_want (From (x ∷ []) (From stars Q)) (λ g. Want (TextWanted.MoreGlobals ty) (λ more. Give (globals (as_global g ∷ as_globals more))))
    (TextWanted.Global ty (name x)) (holds.global_so ty (name x))
    (λ g us rest m. text_want (From us (From (x ∷ []) (From stars Q))) (λ more. Give (globals (g ∷ as_globals more)))
    (TextWanted.MoreGlobals ty) (holds.globals_so ty)
    (λ gs vs rest y. gives (λ rest. rw append-nil (Made.it_is
    (Further.some (spelled_at Punctuator 0 (codes ",") t h) s (further_of (x ∷ us) (m x id refl) y)))))))))
  where
    Q : Meaning
    Q = From (placed_at 0 t ∷ []) (Made globals (λ gs ts r. Further 0 ty (GlobalDeclarator ty) gs ts))

length_left : (d : ℕ) → Left (TextWanted.ArrayLength d) (Made numbered (λ l ts r. IsLength d l ts)) None
length_left d = (placed Number d 0 "1" ∷ [], _, Made.it_is (IsLength.it_is (record { sort = refl; stands = refl; constant = one })))

abbrev Arrays : Meaning
Arrays = Made listed (λ es ts r. IsArray es ts)

abbrev Tails : CType → Name → Meaning
Tails t n = Made global (λ g ts r. IsTail t n g ts)

abbrev GlobalsOf : CType → Meaning
GlobalsOf t = Made globals (λ gs ts r. Further 0 t (GlobalDeclarator t) gs ts)

pub holds_all : (n : ℕ) → Holds n
holds_all zero = record {
  length_so = λ d. on_none (TextWanted.ArrayLength d) (Made numbered (λ l ts r. IsLength d l ts)) (length_left d);
  more_so = λ d. on_none (TextWanted.MoreValues d) (Made values (λ es ts r. IsMore d es ts)) (λ rest p. Made.it_is IsMore.none);
  behind_so = λ d. on_none (TextWanted.AfterComma d) (Made values (λ es ts r. IsBehind d es ts)) (λ rest p. Made.it_is IsBehind.none);
  array_so = on_none TextWanted.ArrayInitial Arrays (λ rest p. Made.it_is IsArray.none);
  global_so = λ t n. on_none (TextWanted.Global t n) (Tails t n) (λ rest p. Made.it_is (tail_plain t n));
  globals_so = λ t. on_none (TextWanted.MoreGlobals t) (GlobalsOf t) (λ rest p. Made.it_is Further.none);
}
holds_all (suc n) = record {
  length_so = λ d. on_more (TextWanted.ArrayLength d) (Made numbered (λ l ts r. IsLength d l ts)) (length_left d) (length_taken n d);
  more_so = λ d. on_more (TextWanted.MoreValues d) (Made values (λ es ts r. IsMore d es ts)) (λ rest p. Made.it_is IsMore.none) (more_taken (holds_all n) d);
  behind_so = λ d. on_more (TextWanted.AfterComma d) (Made values (λ es ts r. IsBehind d es ts)) (λ rest p. Made.it_is IsBehind.none) (behind_taken (holds_all n) d);
  array_so = on_more TextWanted.ArrayInitial Arrays (λ rest p. Made.it_is IsArray.none) (array_taken (holds_all n));
  global_so = λ t m. on_more (TextWanted.Global t m) (Tails t m) (λ rest p. Made.it_is (tail_plain t m)) (global_taken (holds_all n) t m);
  globals_so = λ t. on_more (TextWanted.MoreGlobals t) (GlobalsOf t) (λ rest p. Made.it_is Further.none) (globals_taken (holds_all n) t);
}
