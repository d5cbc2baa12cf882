-- The lists of seeds have what `Seeds` asks for.
use Rattle.std.proofs.Common.{◌≡◌, ◌↔◌, ℕ, ◌+◌, ◌-◌, ◌<◌, ◌≤◌, inl, inr, List, [], ◌∷◌, ◌++◌, length, get_or, refl, subst, sym, ap, ◌∙◌, arith}
use Rattle.std.specs.Prelude.{replicate, slice_index}
use Rattle.std.specs.Int.{bit_at}
use Rattle.std.proofs.lemmas.List.{length-append, length-replicate, get_or-replicate, get_or_append_left, get_or-append-add, get_or_past}
use Rattle.std.proofs.lemmas.Bool.{cases_lt, cases_order}
use Rattle.std.proofs.lemmas.Nat.Bits.{bit_at-zero}
use Rattle.name_sets.specs.IdSet.{Holds}
use Rattle.c_tree.specs.BareExpr.{Bytes}
use Rattle.c_semantics.specs.Store.{Body}
use Rattle.contextual_effects.specs.Steps.{AreSeeds, AreNone, AreTokens, AreStandard}
use Rattle.contextual_effects.proofs.Seeds.{AreNameSeeds, AreEffectSeeds}

-- past the end of a list there are no names
pub none_past : (sets : List ℕ) (n id : ℕ) → length sets ≤ n → Holds (slice_index sets n) id → ⊥
none_past sets n id l holds =
    let nothing : get_or sets n 0 ≡ 0 = get_or_past sets n 0 l in
    no (bit_at 0 id) (bit_at-zero id) (subst (λ set. bit_at set id ≡ 1) nothing holds)
  where
    no : (bit : ℕ) → bit ≡ 0 → bit ≡ 1 → ⊥
    no bit e f = omega arith

-- a list of three parts
front : (A B C : List ℕ) (a n : ℕ) → length A ≡ a → n < a → get_or (A ++ B ++ C) n 0 ≡ get_or A n 0
front A B C a n many l =
    get_or_append_left (A ++ B) C 0 n (omega (arith, length-append A B))
    ∙ get_or_append_left A B 0 n (omega arith)

middle : (A B C : List ℕ) (a b i : ℕ) → length A ≡ a → length B ≡ b → i < b → get_or (A ++ B ++ C) (a + i) 0 ≡ get_or B i 0
middle A B C a b i first second l =
    let place : a + i ≡ length A + i = omega arith in
    get_or_append_left (A ++ B) C 0 (a + i) (omega (arith, length-append A B))
    ∙ ap (λ n. get_or (A ++ B) n 0) place
    ∙ get_or-append-add A B i 0

last : (A B C : List ℕ) (a b i : ℕ) → length A ≡ a → length B ≡ b → get_or (A ++ B ++ C) (a + b + i) 0 ≡ get_or C i 0
last A B C a b i first second =
    let place : a + b + i ≡ length (A ++ B) + i = omega (arith, length-append A B) in
    ap (λ n. get_or (A ++ B ++ C) n 0) place ∙ get_or-append-add (A ++ B) C i 0

-- what the seeds have at each number
record Parts (points ids : ℕ) (whole seeds : List ℕ) : Type 0 where
  none_before : (n id : ℕ) → n < points + ids → Holds (slice_index seeds n) id → ⊥
  of_whole : (i : ℕ) → i < ids → slice_index seeds (points + ids + i) ≡ slice_index whole i
  names_alone : (i id : ℕ) → i < ids → Holds (slice_index seeds (points + ids + ids + i)) id ↔ (id ≡ i)
  none_after : (n id : ℕ) → points + ids + ids + ids ≤ n → Holds (slice_index seeds n) id → ⊥

pub seeds_many : {points ids : ℕ} {whole seeds : List ℕ} → length whole ≡ ids → AreSeeds points ids whole seeds
    → length seeds ≡ points + ids + ids + ids
seeds_many {points} {ids} {whole} {seeds} many s =
    ap length s.seeds_are
    ∙ length-append (replicate (points + ids) s.empty ++ whole) s.singles
    ∙ sum (length (replicate (points + ids) s.empty ++ whole)) (length s.singles)
    (length-append (replicate (points + ids) s.empty) whole ∙ both (length (replicate (points + ids) s.empty)) (length-replicate (points + ids) s.empty))
    s.are_singles.many
  where
    both : (a : ℕ) → a ≡ points + ids → a + length whole ≡ points + ids + ids
    both a e = omega arith

    sum : (a b : ℕ) → a ≡ points + ids + ids → b ≡ ids → a + b ≡ points + ids + ids + ids
    sum a b d e = omega arith

pub tokens_many : {ids : ℕ} {seeds : List ℕ} → AreTokens ids seeds → length seeds ≡ ids + 1
tokens_many {ids} {seeds} t =
    ap length t.seeds_are
    ∙ length-append (replicate ids t.empty) (t.token ∷ [])
    ∙ ap (λ n. n + 1) (length-replicate ids t.empty)

parts_of : {points ids : ℕ} {whole seeds : List ℕ} → length whole ≡ ids → AreSeeds points ids whole seeds → Parts points ids whole seeds
parts_of {points} {ids} {whole} {seeds} many s = record {
  none_before = λ n id l holds. s.is_empty id (subst (λ set. Holds set id) (before n l) holds);
  of_whole = λ i l. ap (λ xs. get_or xs (points + ids + i) 0) s.seeds_are ∙ middle A whole s.singles (points + ids) ids i size many l;
  names_alone = λ i id l.
      let at : slice_index seeds (points + ids + ids + i) ≡ slice_index s.singles i =
      ap (λ xs. get_or xs (points + ids + ids + i) 0) s.seeds_are ∙ last A whole s.singles (points + ids) ids i size many in
      let one = s.are_singles.single i l id in
      (λ h. one.0 (subst (λ set. Holds set id) at h), λ e. subst (λ set. Holds set id) (sym at) (one.1 e));
  none_after = λ n id l. none_past seeds n id (omega (arith, all));
}
  where
    A : List ℕ
    A = replicate (points + ids) s.empty

    size : length (replicate (points + ids) s.empty) ≡ points + ids
    size = length-replicate (points + ids) s.empty

    before : (n : ℕ) → n < points + ids → slice_index seeds n ≡ s.empty
    before n l =
        ap (λ xs. get_or xs n 0) s.seeds_are
        ∙ front (replicate (points + ids) s.empty) whole s.singles (points + ids) n size l
        ∙ get_or-replicate (points + ids) n s.empty 0 l

    all : length seeds ≡ points + ids + ids + ids
    all = seeds_many many s

none_in : {ids : ℕ} {whole : List ℕ} → AreNone ids whole → (length whole ≡ ids) × ((i id : ℕ) → i < ids → Holds (slice_index whole i) id → ⊥)
none_in {ids} {whole} none = (
  ap length none.sets_are ∙ length-replicate ids none.empty,
  λ i id l holds. none.is_empty id
      (subst (λ set. Holds set id) (ap (λ xs. get_or xs i 0) none.sets_are ∙ get_or-replicate ids i none.empty 0 l) holds),
)

pub name_seeds : {points ids : ℕ} {whole seeds : List ℕ} → AreNone ids whole → AreSeeds points ids whole seeds → AreNameSeeds points ids seeds
name_seeds {points} {ids} {whole} {seeds} none s = record {
  none_before = before;
  names_alone = k.names_alone;
  none_after = k.none_after;
}
  where
    w : (length whole ≡ ids) × ((i id : ℕ) → i < ids → Holds (slice_index whole i) id → ⊥)
    w = none_in none

    k : Parts points ids whole seeds
    k = parts_of w.0 s

    in_second : (n id i : ℕ) → i < ids → n ≡ points + ids + i → Holds (slice_index seeds n) id → ⊥
    in_second n id i l e holds =
        w.1 i id l (subst (λ set. Holds set id) (k.of_whole i l) (subst (λ m. Holds (slice_index seeds m) id) e holds))

    before : (n id : ℕ) → n < points + ids + ids → Holds (slice_index seeds n) id → ⊥
    before n id l holds =
        elim (cases_lt n (points + ids)) [
          | inl first ↦ k.none_before n id first holds
          | inr second ↦ in_second n id (n - (points + ids)) (omega arith) (omega arith) holds
        ]

pub effect_seeds : {names : List Bytes} {bodies : List Body} {points ids : ℕ} {whole seeds : List ℕ} → length whole ≡ ids
    → AreStandard names bodies whole → AreSeeds points ids whole seeds → AreEffectSeeds bodies names points ids seeds
effect_seeds {names} {bodies} {points} {ids} {whole} {seeds} many standard s = record {
  none_before = k.none_before;
  functions_stand = λ i id f named l holds.
      (standard.of_function f i named).only id (subst (λ set. Holds set id) (k.of_whole i l) holds);
  functions_taken = λ i f z named l x.
      let t = (standard.of_function f i named).all z x in
      (t.0, t.1, subst (λ set. Holds set t.0) (sym (k.of_whole i l)) t.2);
  names_alone = k.names_alone;
  none_after = k.none_after;
}
  where
    k : Parts points ids whole seeds
    k = parts_of many s

-- the token is at the transactions alone
pub token_at : {ids : ℕ} {seeds : List ℕ} (n id : ℕ) → AreTokens ids seeds → Holds (slice_index seeds n) id → (n ≡ ids) × (id ≡ 0)
token_at {ids} {seeds} n id t holds =
    elim (cases_order n ids) [
      | inl e ↦ (e, (t.is_token id).0 (subst (λ set. Holds set id) (at n e) holds))
      | inr r ↦ elim r [
        | inl l ↦ absurd (t.is_empty id (subst (λ set. Holds set id) (before n l) holds))
        | inr g ↦ absurd (none_past seeds n id (omega (arith, all)) holds)
      ]
    ]
  where
    size : length (replicate ids t.empty) ≡ ids
    size = length-replicate ids t.empty

    at : (n : ℕ) → n ≡ ids → slice_index seeds n ≡ t.token
    at n e =
        let place : n ≡ length (replicate ids t.empty) + 0 = omega (arith, size) in
        ap (λ xs. get_or xs n 0) t.seeds_are
        ∙ ap (λ n. get_or (replicate ids t.empty ++ t.token ∷ []) n 0) place
        ∙ get_or-append-add (replicate ids t.empty) (t.token ∷ []) 0 0

    before : (n : ℕ) → n < ids → slice_index seeds n ≡ t.empty
    before n l =
        ap (λ xs. get_or xs n 0) t.seeds_are
        ∙ get_or_append_left (replicate ids t.empty) (t.token ∷ []) 0 n (omega (arith, size))
        ∙ get_or-replicate ids n t.empty 0 l

    all : length seeds ≡ ids + 1
    all = tokens_many t

pub token_is_at : {ids : ℕ} {seeds : List ℕ} → AreTokens ids seeds → Holds (slice_index seeds ids) 0
token_is_at {ids} {seeds} t = subst (λ set. Holds set 0) (sym at) ((t.is_token 0).1 refl)
  where
    at : slice_index seeds ids ≡ t.token
    at =
        let size : length (replicate ids t.empty) ≡ ids = length-replicate ids t.empty in
        let place : ids ≡ length (replicate ids t.empty) + 0 = omega arith in
        ap (λ xs. get_or xs ids 0) t.seeds_are
        ∙ ap (λ n. get_or (replicate ids t.empty ++ t.token ∷ []) n 0) place
        ∙ get_or-append-add (replicate ids t.empty) (t.token ∷ []) 0 0
