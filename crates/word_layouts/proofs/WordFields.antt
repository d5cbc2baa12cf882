-- The words of fields, as values and back.
use Rattle.std.proofs.Common.{◌≡◌, ℕ, zero, suc, ◌+◌, ◌-◌, ◌<◌, ◌≤◌, false, true≢false, List, [], ◌∷◌, ◌++◌, map, length, length-append, append_assoc, take, replicate, get_or, Some, None, refl, sym, ap, subst, ◌∙◌, arith}
use Rattle.std.specs.Prelude.{◌==◌, IsTrue, if◌then◌else◌, set, slice_index_or}
use Rattle.std.specs.Option.{option_map}
use Rattle.std.proofs.lemmas.List.Elements.{All-nil, All-cons, All-head, All-tail}
use Rattle.std.proofs.Math.Seq.{set-append_seam}
use Rattle.std.proofs.lemmas.List.{length-map, map-append, take_more}
use Rattle.c_ints.specs.declared.kind.Kind.{Kind}
use Rattle.c_ints.specs.declared.kind.Kind.TheVariants.{I32}
use Rattle.c_ints.specs.declared.int.Int.{Int}
use Rattle.c_ints.specs.declared.int.Int.TheVariants.{I8 as int8, U8 as uint8, I16 as int16, U16 as uint16, I32 as int32, U32 as uint32, I64 as int64, U64 as uint64}
use Rattle.c_ints.specs.Kind.{InRange}
use Rattle.c_ints.specs.Number.{kind_of, number, reduced, value_of}
use Rattle.c_ints.proofs.Reduction.{reduced_range, reduced_same, value_of-number, kind_of-number}
use Rattle.c_tree.specs.BareExpr.{BareType, Integer, Handle, Thread}
use Rattle.c_tree.specs.BareDef.{BareBinding}
use Rattle.c_semantics.specs.Values.{Value, Number, Reference, Started, converted_to, int_of}
use Rattle.c_semantics.specs.Pieces.{Variable}
use Rattle.patch_faults.specs.TransformLaws.{has_type, HaveTypes}
use Rattle.patch_faults.proofs.ValuesOfTypes.{one_kind}
use Rattle.constant_values.specs.Kinds.{a_type_of, kind_of as kind_of_type}
use Rattle.constant_values.specs.declared.kind.ValueKind.{ValueKind}
use Rattle.versioned_structs.specs.declared.transform.FieldChange.{FieldChange}
use Rattle.versioned_structs.specs.declared.transform.FieldChange.TheVariants.{Copied, Zero, Given}
use Rattle.versioned_structs.specs.Formulas.{value_in}
use Rattle.versioned_structs.specs.Limits.{most_fields}
use Rattle.versioned_structs.specs.Transforms.{new_value, new_values, variables}
use Rattle.bytecode.specs.Words.{Naming, Distinguishes, integer_word, number_at, word_of}
use Rattle.tree_code.specs.Ranges.{Ranged, AllRanged}
use Rattle.tree_code.proofs.WordValues.{word_back, zero_ranged}
use Rattle.code_runs.specs.Layouts.{FieldsRanged, field_words}
use Rattle.word_layouts.specs.WordValues.{by_word, object_words, read_word, read_words, renamed, thread_of, unless_zero}
use Rattle.local_evaluation.specs.declared.value.Value.{Value as Held}
use Rattle.local_evaluation.specs.Values.{seen}
use Rattle.word_layouts.proofs.Renaming.{Known, AllKnown}

-- ---- one value

whole : (k : Kind) (i : Int) → kind_of i ≡ k → number k (value_of i) ≡ i
whole k (int8 z) e = subst (λ k. number k z ≡ int8 z) e refl
whole k (uint8 m) e = subst (λ k. number k (value_of (uint8 m)) ≡ uint8 m) e refl
whole k (int16 z) e = subst (λ k. number k z ≡ int16 z) e refl
whole k (uint16 m) e = subst (λ k. number k (value_of (uint16 m)) ≡ uint16 m) e refl
whole k (int32 z) e = subst (λ k. number k z ≡ int32 z) e refl
whole k (uint32 m) e = subst (λ k. number k (value_of (uint32 m)) ≡ uint32 m) e refl
whole k (int64 z) e = subst (λ k. number k z ≡ int64 z) e refl
whole k (uint64 m) e = subst (λ k. number k (value_of (uint64 m)) ≡ uint64 m) e refl

number_back : (k : Kind) (i : Int) → kind_of i ≡ k → InRange (kind_of i) (value_of i) → number k (number_at k (integer_word (value_of i))) ≡ i
number_back k i e r =
    let range : InRange k (value_of i) = subst (λ k. InRange k (value_of i)) e r in
    ap (number k) (word_back k (value_of i) ∙ reduced_same k (value_of i) range) ∙ whole k i e

no_zero : (w : ℕ) → 0 < w → (w == 0) ≡ false
no_zero w h = grind arith

not_zero : (w : ℕ) → 0 < w → unless_zero w ≡ Some w
not_zero w h = ap (λ b. if b then None else Some w) (no_zero w h)

-- a word is read as the value that it stands for, renamed
pub read_back : (n : Naming) (count : ℕ) → Distinguishes count n → (t : BareType) (v : Value)
    → IsTrue (has_type t v) → Ranged v → Known count v → read_word (kind_of_type t) (word_of n v) ≡ renamed n v
read_back n count apart (Integer k) (Number i) h r known = ap Number (number_back k i (one_kind (kind_of i) k h) r)
read_back n count apart (Handle tag) (Reference None) h r known = refl
read_back n count apart (Handle tag) (Reference (Some o)) h r known = ap Reference (not_zero (n.object o) (apart.no_null o known))
read_back n count apart Thread (Started None) h r known = refl
read_back n count apart Thread (Started (Some t)) h r known = ap (λ o. Started (option_map thread_of o)) (not_zero (n.thread t) (apart.no_none t))
read_back n count apart t v h r known = absurd (true≢false (sym h))

-- a renamed value has the word of the value
pub written : (n : Naming) (v : Value) → word_of by_word (renamed n v) ≡ word_of n v
written n (Number i) = refl
written n (Reference None) = refl
written n (Reference (Some o)) = refl
written n (Started None) = refl
written n (Started (Some t)) = refl

pub all_written : (n : Naming) (vs : List Value) → map (word_of by_word) (map (renamed n) vs) ≡ map (word_of n) vs
all_written n [] = refl
all_written n (v ∷ vs) = ap (λ w. w ∷ map (word_of by_word) (map (renamed n) vs)) (written n v) ∙ ap (λ ws. word_of n v ∷ ws) (all_written n vs)

-- ---- fields

abbrev pub values_of : List Variable → List Value
values_of fields = map (λ f. f.value) fields

pub read_fields : (n : Naming) (count : ℕ) → Distinguishes count n → (bs : List BareBinding) (fs : List Variable) (others : List ℕ)
    → HaveTypes bs fs → FieldsRanged fs → AllKnown count (values_of fs)
    → read_words (map (λ b. kind_of_type b.declared) bs) (field_words n fs ++ others) ≡ map (renamed n) (values_of fs)
read_fields n count apart [] [] others h r known = refl
read_fields n count apart (b ∷ bs) (f ∷ fs) others h r known =
    let first = read_back n count apart b.declared f.value h.1 (All-head (λ f. Ranged f.value) f fs r) known.0 in
    let rest = read_fields n count apart bs fs others h.2 (All-tail (λ f. Ranged f.value) f fs r) known.1 in
    ap (λ v. v ∷ read_words (map (λ b. kind_of_type b.declared) bs) (field_words n fs ++ others)) first ∙ ap (λ vs. renamed n f.value ∷ vs) rest
read_fields n count apart [] (f ∷ fs) others h r known = absurd h
read_fields n count apart (b ∷ bs) [] others h r known = absurd h

-- fields are those of their layout with their values
pub fields_are : (bs : List BareBinding) (fs : List Variable) → HaveTypes bs fs → variables bs (values_of fs) ≡ fs
fields_are [] [] h = refl
fields_are (b ∷ bs) (f ∷ fs) h =
    ap (λ m. record { name = m; value = f.value } ∷ variables bs (values_of fs)) (sym h.0) ∙ ap (λ l. f ∷ l) (fields_are bs fs h.2)
fields_are [] (f ∷ fs) h = absurd h
fields_are (b ∷ bs) [] h = absurd h

pub as_many : (bs : List BareBinding) (fs : List Variable) → HaveTypes bs fs → length (values_of fs) ≡ length bs
as_many [] [] h = refl
as_many (b ∷ bs) (f ∷ fs) h = ap suc (as_many bs fs h.2)
as_many [] (f ∷ fs) h = absurd h
as_many (b ∷ bs) [] h = absurd h

-- the values of variables
pub values_back : (bs : List BareBinding) (vs : List Value) → length vs ≡ length bs → values_of (variables bs vs) ≡ vs
values_back [] [] e = refl
values_back (b ∷ bs) (v ∷ vs) e =
    let more : length vs ≡ length bs = omega (arith, e) in ap (λ l. v ∷ l) (values_back bs vs more)
values_back [] (v ∷ vs) e = cc
values_back (b ∷ bs) [] e = cc

pub words_back : (n : Naming) (fs : List Variable) → field_words n fs ≡ map (word_of n) (values_of fs)
words_back n [] = refl
words_back n (f ∷ fs) = ap (λ ws. word_of n f.value ∷ ws) (words_back n fs)

-- ---- ranges

int_ranged : (k : Kind) (i : Int) → InRange k (value_of i) → kind_of i ≡ k → Ranged (Number i)
int_ranged k i r e = subst (λ k. InRange k (value_of i)) (sym e) r

pub converted_ranged : (t : BareType) (v : Value) → Ranged (converted_to t v)
converted_ranged (Integer k) (Number i) =
    int_ranged k (number k (reduced k (value_of i)))
    (subst (InRange k) (sym (value_of-number k (reduced k (value_of i)) (reduced_range k (value_of i)))) (reduced_range k (value_of i)))
    (kind_of-number k (reduced k (value_of i)))
converted_ranged (Integer k) (Reference o) = zero_ranged (Integer k)
converted_ranged (Integer k) (Started t) = zero_ranged (Integer k)
converted_ranged (Handle tag) (Number i) = tt
converted_ranged (Handle tag) (Reference o) = tt
converted_ranged (Handle tag) (Started t) = tt
converted_ranged Thread (Number i) = tt
converted_ranged Thread (Reference o) = tt
converted_ranged Thread (Started t) = tt

-- in a list
pub ranged_all : (fs : List Variable) → FieldsRanged fs → AllRanged (values_of fs)
ranged_all [] h = tt
ranged_all (f ∷ fs) h = (All-head (λ f. Ranged f.value) f fs h, ranged_all fs (All-tail (λ f. Ranged f.value) f fs h))

pub fields_ranged : (bs : List BareBinding) (vs : List Value) → AllRanged vs → FieldsRanged (variables bs vs)
fields_ranged [] vs h = All-nil (λ f. Ranged f.value)
fields_ranged (b ∷ bs) [] h = All-nil (λ f. Ranged f.value)
fields_ranged (b ∷ bs) (v ∷ vs) h =
    All-cons (λ f. Ranged f.value) (record { name = b.name; value = v }) (variables bs vs) h.0 (fields_ranged bs vs h.1)

index_ranged : (vs : List Value) (place : ℕ) → AllRanged vs → Ranged (slice_index_or vs place (int_of 0))
index_ranged [] zero h = zero_ranged (Integer I32)
index_ranged [] (suc place) h = zero_ranged (Integer I32)
index_ranged (v ∷ vs) zero h = h.0
index_ranged (v ∷ vs) (suc place) h = index_ranged vs place h.1

change_ranged : (old : List Value) (c : FieldChange) → AllRanged old → Ranged (new_value old c)
change_ranged old (Copied place) h = index_ranged old place h
change_ranged old (Zero k) h = zero_ranged (a_type_of k)
change_ranged old (Given k f) h = converted_ranged (a_type_of k) (value_in old f)

pub changes_ranged : (cs : List FieldChange) (old : List Value) → AllRanged old → AllRanged (new_values cs old)
changes_ranged [] old h = tt
changes_ranged (c ∷ cs) old h = (change_ranged old c h, changes_ranged cs old h)

-- ---- words of an object

-- one word more
pub read_more : (ks : List ValueKind) (ws : List ℕ) (i : ℕ) (k : ValueKind) (w : ℕ) → i < length ks → i < length ws
    → read_words (take (i + 1) ks) ws ≡ read_words (take i ks) ws ++ read_word (get_or ks i k) (get_or ws i w) ∷ []
read_more [] ws i k w h g = absurd (omega (arith, h))
read_more (x ∷ ks) [] i k w h g = absurd (omega (arith, g))
read_more (x ∷ ks) (y ∷ ws) zero k w h g = refl
read_more (x ∷ ks) (y ∷ ws) (suc i) k w h g =
    let next : suc i + 1 ≡ suc (i + 1) = omega arith in
    ap (λ m. read_words (take m (x ∷ ks)) (y ∷ ws)) next
    ∙ ap (λ l. read_word x y ∷ l) (read_more ks ws i k w (omega (arith, h)) (omega (arith, g)))

-- one value more
pub words_more : (vs : List Value) (v : Value) → length vs < most_fields
    → set (object_words vs) (length vs) (word_of by_word v) ≡ object_words (vs ++ v ∷ [])
words_more vs v h =
    let here = map (word_of by_word) vs in
    let rest = most_fields - suc (length vs) in
    let left : most_fields - length vs ≡ suc rest = omega (arith, h) in
    let added : length (vs ++ v ∷ []) ≡ suc (length vs) = length-append vs (v ∷ []) ∙ omega arith in
    ap (λ m. set (here ++ replicate m 0) (length vs) (word_of by_word v)) left
    ∙ ap (λ m. set (here ++ 0 ∷ replicate rest 0) m (word_of by_word v)) (sym (length-map vs (word_of by_word)))
    ∙ set-append_seam here 0 (replicate rest 0) (word_of by_word v)
    ∙ sym (ap (λ m. map (word_of by_word) (vs ++ v ∷ []) ++ replicate (most_fields - m) 0) added
    ∙ ap (λ l. l ++ replicate rest 0) (map-append (word_of by_word) vs (v ∷ []))
    ∙ append_assoc here (word_of by_word v ∷ []) (replicate rest 0))

taken : {X : Type 0} (i : ℕ) (xs : List X) → i ≤ length xs → length (take i xs) ≡ i
taken zero xs h = refl
taken (suc i) [] h = absurd (omega (arith, h))
taken (suc i) (x ∷ xs) h = ap suc (taken i xs (omega (arith, h)))

-- one word of the values so far more
pub words_step : (hs : List Held) (ws : List ℕ) (i : ℕ) (d : Held) (w : ℕ) → i < length hs → length hs ≤ most_fields
    → ws ≡ object_words (map seen (take i hs)) → w ≡ word_of by_word (seen (get_or hs i d))
    → set ws i w ≡ object_words (map seen (take (i + 1) hs))
words_step hs ws i d w below few before is =
    let so = map seen (take i hs) in
    let v = seen (get_or hs i d) in
    let many : length so ≡ i = length-map (take i hs) seen ∙ taken i hs (omega (arith, below)) in
    let room : length so < most_fields = omega (arith, many, below, few) in
    ap (λ l. set l i w) before
    ∙ ap (λ k. set (object_words so) k w) (sym many)
    ∙ ap (set (object_words so) (length so)) is
    ∙ words_more so v room
    ∙ sym (ap (λ l. object_words (map seen l)) (take_more hs i d below) ∙ ap object_words (map-append seen (take i hs) (get_or hs i d ∷ [])))
