-- What a format prints of words is what it prints of the values that have them, where these fit its conversions.
use Rattle.std.proofs.Common.{◌≡◌, ℕ, Bool, true, false, List, [], ◌∷◌, ◌++◌, map, take, reverse, length, Option, Some, None, option_map, refl, sym, ap, ap₂, subst, ◌∙◌, ◌==◌, if◌then◌else◌, arith}
use Rattle.std.proofs.lemmas.List.{length-reverse, reverse-append, reverse-reverse}
use Rattle.std.proofs.lemmas.Option.{none-some, same_Some}
use Rattle.std.proofs.lemmas.Int.{ints}
use Rattle.std.specs.Fmt.{signed_decimal}
use Rattle.c_ints.specs.declared.kind.Kind.{Kind}
use Rattle.c_ints.specs.declared.kind.Kind.TheVariants.{I8, U8, I16, U16, I32, U32, I64, U64}
use Rattle.c_ints.specs.declared.int.Int.{Int}
use Rattle.c_ints.specs.Kind.{InRange, promoted}
use Rattle.c_ints.specs.Number.{value_of}
use Rattle.c_ints.proofs.Reduction.{reduced_same}
use Rattle.c_format.specs.declared.reading.Reading.{Reading}
use Rattle.c_format.specs.declared.reading.Reading.TheVariants.{Text, Percent, Long, Bad}
use Rattle.c_format.specs.Formats.{kinds, letter_d, letter_u, read, taken}
use Rattle.c_tree.specs.BareExpr.{Bytes, Integer, Handle, Thread}
use Rattle.c_semantics.specs.Values.{Value, Number, Reference, Started}
use Rattle.source_model.specs.Printing.{is_literal, printed_from, written_for}
use Rattle.typed_trees.specs.ValueTypes.{HaveTypes}
use Rattle.typed_trees.specs.PieceTypes.{PopsPrinted, Stack}
use Rattle.bytecode.specs.Words.{Naming, number_at, word_of}
use Rattle.tree_code.specs.Ranges.{AllRanged}
use Rattle.tree_code.proofs.WordValues.{word_back}
use Rattle.code_runs.specs.SharedStops.{printed_for}
use Rattle.code_runs.specs.SharedStops as words

-- integers, each in the range of a kind
abbrev pub Fit : List Kind → List Value → Type 0
Fit [] [] = Unit {0}
Fit (k ∷ ks) (Number n ∷ vs) = InRange k (value_of n) × Fit ks vs
Fit _ _ = ⊥

both_fit : (ks js : List Kind) (vs ws : List Value) → Fit ks vs → Fit js ws → Fit (ks ++ js) (vs ++ ws)
both_fit [] js [] ws g h = h
both_fit [] js (v ∷ vs) ws g h = absurd g
both_fit (k ∷ ks) js [] ws g h = absurd g
both_fit (k ∷ ks) js (Number n ∷ vs) ws g h = (g.0, both_fit ks js vs ws g.1 h)
both_fit (k ∷ ks) js (Reference o ∷ vs) ws g h = absurd g
both_fit (k ∷ ks) js (Started o ∷ vs) ws g h = absurd g

reversed_more : (ks : List Kind) (vs : List Value) (k : Kind) (v : Value) → Fit (reverse ks) (reverse vs) → Fit (k ∷ []) (v ∷ [])
    → Fit (reverse (k ∷ ks)) (reverse (v ∷ vs))
reversed_more ks vs k v g h =
    subst (λ js. Fit js (reverse (v ∷ vs))) (sym (reverse-append (k ∷ []) ks))
    (subst (Fit (reverse ks ++ k ∷ [])) (sym (reverse-append (v ∷ []) vs))
    (both_fit (reverse ks) (k ∷ []) (reverse vs) (v ∷ []) g h))

reversed_fit : (ks : List Kind) (vs : List Value) → Fit ks vs → Fit (reverse ks) (reverse vs)
reversed_fit [] [] h = tt
reversed_fit [] (v ∷ vs) h = absurd h
reversed_fit (k ∷ ks) [] h = absurd h
reversed_fit (k ∷ ks) (Number n ∷ vs) h = reversed_more ks vs k (Number n) (reversed_fit ks vs h.1) (h.0, tt)
reversed_fit (k ∷ ks) (Reference o ∷ vs) h = absurd h
reversed_fit (k ∷ ks) (Started o ∷ vs) h = absurd h

-- a kind is promoted to one that has all its numbers
promoted_has : (j : Kind) (n : Int) → InRange j (value_of n) → InRange (promoted j) (value_of n)
promoted_has I8 n h = (omega (arith, ints, h.0), omega (arith, ints, h.1))
promoted_has U8 n h = (omega (arith, ints, h.0), omega (arith, ints, h.1))
promoted_has I16 n h = (omega (arith, ints, h.0), omega (arith, ints, h.1))
promoted_has U16 n h = (omega (arith, ints, h.0), omega (arith, ints, h.1))
promoted_has I32 n h = h
promoted_has U32 n h = h
promoted_has I64 n h = h
promoted_has U64 n h = h

-- the newest values, which a format takes
module _ (tags : List Bytes) where
  newest_fit : (ks : List Kind) (stack : Stack) (then_are : Stack → Type 0) (values : List Value) → PopsPrinted ks stack then_are
      → HaveTypes tags stack values → AllRanged values → Fit ks (take (length ks) values)
  newest_fit [] stack then_are values p h r = tt
  newest_fit (k ∷ ks) [] then_are values p h r = absurd p
  newest_fit (k ∷ ks) (Integer j ∷ stack) then_are [] p h r = absurd h
  newest_fit (k ∷ ks) (Integer j ∷ stack) then_are (Number n ∷ values) p h r = (
    subst (λ i. InRange i (value_of n)) p.0 (promoted_has j n (subst (λ i. InRange i (value_of n)) h.0 r.0)),
    newest_fit ks stack then_are values p.1 h.1 r.1,
  )
  newest_fit (k ∷ ks) (Integer j ∷ stack) then_are (Reference o ∷ values) p h r = absurd h.0
  newest_fit (k ∷ ks) (Integer j ∷ stack) then_are (Started o ∷ values) p h r = absurd h.0
  newest_fit (k ∷ ks) (Handle tag ∷ stack) then_are values p h r = absurd p
  newest_fit (k ∷ ks) (Thread ∷ stack) then_are values p h r = absurd p

  -- in their order
  pub arguments_fit : (ks : List Kind) (n : ℕ) (stack : Stack) (then_are : Stack → Type 0) (values : List Value) → length ks ≡ n
      → PopsPrinted (reverse ks) stack then_are → HaveTypes tags stack values → AllRanged values → Fit ks (reverse (take n values))
  arguments_fit ks n stack then_are values count p h r =
      let long : length (reverse ks) ≡ n = length-reverse ks ∙ count in
      subst (λ js. Fit js (reverse (take n values))) (reverse-reverse ks)
      (reversed_fit (reverse ks) (take n values)
      (subst (λ m. Fit (reverse ks) (take m values)) long (newest_fit (reverse ks) stack then_are values p h r)))

-- ---- what is printed

-- a byte takes at most one argument
abbrev AtMostOne : List Kind → Type 0
AtMostOne [] = Unit {0}
AtMostOne (k ∷ []) = Unit {0}
AtMostOne (k ∷ j ∷ ks) = ⊥

chosen_one : (a b : Bool) (j k : Kind) → AtMostOne (if a then j ∷ [] else (if b then k ∷ [] else []))
chosen_one true b j k = tt
chosen_one false true j k = tt
chosen_one false false j k = tt

one_taken : (reading : Reading) (c : ℕ) → AtMostOne (taken reading c)
one_taken Text c = tt
one_taken Percent c = chosen_one (c == letter_d) (c == letter_u) I32 U32
one_taken Long c = chosen_one (c == letter_d) (c == letter_u) I64 U64
one_taken Bad c = tt

kinds_more : (reading : Reading) (c : ℕ) (cs : Bytes)
    → kinds reading (c ∷ cs) ≡ option_map (λ others. taken reading c ++ others) (kinds (read reading c) cs)
kinds_more Text c cs = refl
kinds_more Percent c cs = refl
kinds_more Long c cs = refl
kinds_more Bad c cs = refl

module _ (naming : Naming) where
  -- a number in range is read of its word
  shown_so : (k : Kind) (n : Int) → InRange k (value_of n) → number_at k (word_of naming (Number n)) ≡ value_of n
  shown_so k n h = word_back k (value_of n) ∙ reduced_same k (value_of n) h

  abbrev words_of : List Value → List ℕ
  words_of = map (word_of naming)

  -- what one byte and those after it print, by the kinds that these take
  one_byte : (own others : List Kind) (literal : Bool) (c : ℕ) (reading : Reading) (cs : Bytes) (vs : List Value) → AtMostOne own
      → Fit (own ++ others) vs
      → ((ws : List Value) → Fit others ws → words.printed_from reading cs (words_of ws) ≡ printed_from reading cs ws)
      → (printed_for own literal c (words_of vs)).bytes ++ words.printed_from reading cs (printed_for own literal c (words_of vs)).words
      ≡ (written_for own literal c vs).bytes ++ printed_from reading cs (written_for own literal c vs).arguments
  one_byte [] others literal c reading cs vs one fit rest = ap (λ bs. (if literal then c ∷ [] else []) ++ bs) (rest vs fit)
  one_byte (k ∷ []) others literal c reading cs [] one fit rest = absurd fit
  one_byte (k ∷ []) others literal c reading cs (Number n ∷ vs) one fit rest =
      ap₂ (λ z bs. signed_decimal z ++ bs) (shown_so k n fit.0) (rest vs fit.1)
  one_byte (k ∷ []) others literal c reading cs (Reference o ∷ vs) one fit rest = absurd fit
  one_byte (k ∷ []) others literal c reading cs (Started o ∷ vs) one fit rest = absurd fit
  one_byte (k ∷ j ∷ ks) others literal c reading cs vs one fit rest = absurd one

  pub printed_alike : (reading : Reading) (format : Bytes) (ks : List Kind) (vs : List Value) → kinds reading format ≡ Some ks → Fit ks vs
      → words.printed_from reading format (words_of vs) ≡ printed_from reading format vs
  printed_alike reading [] ks vs e fit = refl
  printed_alike reading (c ∷ cs) ks vs e fit =
      by (kinds (read reading c) cs) refl (sym (kinds_more reading c cs) ∙ e) (λ others ws is f. printed_alike (read reading c) cs others ws is f)
    where
      by : (o : Option (List Kind)) → kinds (read reading c) cs ≡ o → option_map (λ others. taken reading c ++ others) o ≡ Some ks
          → ((others : List Kind) (ws : List Value) → kinds (read reading c) cs ≡ Some others → Fit others ws
          → words.printed_from (read reading c) cs (words_of ws) ≡ printed_from (read reading c) cs ws)
          → words.printed_from reading (c ∷ cs) (words_of vs) ≡ printed_from reading (c ∷ cs) vs
      by None is e rest = absurd (none-some ks e)
      by (Some others) is e rest =
          one_byte (taken reading c) others (is_literal reading c) c (read reading c) cs vs (one_taken reading c)
          (subst (λ js. Fit js vs) (sym (same_Some (taken reading c ++ others) ks e)) fit) (λ ws f. rest others ws is f)
