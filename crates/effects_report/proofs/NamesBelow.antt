-- The names of a set up to an id, and how they are put.
use Rattle.std.proofs.Common.{◌≡◌, ℕ, zero, suc, ◌+◌, ◌<◌, ◌⊎◌, inl, inr, List, [], ◌++◌, sym, ◌∙◌, ap, subst, arith, append_assoc, append-nil, add-one}
use Rattle.std.proofs.lemmas.List.Concat.{flat_map-append}
use Rattle.std.specs.Prelude.{codes}
use Rattle.std.proofs.lemmas.Bool.{cases_eq}
use Rattle.std.specs.declared.option.Option.{Option}
use Rattle.std.specs.Io.KnownBytes.{Appends}
use Rattle.con_freeness.specs.Rows.{Names}
use Rattle.dsu_io.specs.Sinks.{AppendsFront}
use Rattle.dsu_io.proofs.Written.{Appends-then, AppendsFront-then}
use Rattle.effects_report.specs.EffectsText.{names_text}
use Rattle.effects_report.specs.Shown.{name_if, names_below}

-- the names up to an id, the one with the id, and others
abbrev Split : List (List ℕ) → ℕ → ℕ → ℕ → Type 0
Split names set i n = (rest : Names) × (names_below names set n ≡ names_below names set i ++ (name_if names set i ++ rest))

split_last : (names : List (List ℕ)) (set i n : ℕ) → i ≡ n → Split names set i (suc n)
split_last names set i n same =
    subst {A = ℕ} (λ k. Split names set k (suc n)) (sym same)
    ([], ap (λ ns. names_below names set n ++ ns) (sym (append-nil (name_if names set n))))

split_more : (names : List (List ℕ)) (set i n : ℕ) → Split names set i n → Split names set i (suc n)
split_more names set i n before = (
  before.0 ++ name_if names set n,
  ap (λ ns. ns ++ name_if names set n) before.1
      ∙ append_assoc (names_below names set i) (name_if names set i ++ before.0) (name_if names set n)
      ∙ ap (λ ns. names_below names set i ++ ns) (append_assoc (name_if names set i) before.0 (name_if names set n)),
)

upto : (i n : ℕ) → i < suc n → (i < n) ⊎ (i ≡ n)
upto i n h = elim (cases_eq i n) [ inl same ↦ inr same | inr apart ↦ inl (omega arith) ]

names_split : (names : List (List ℕ)) (set i n : ℕ) → i < n → Split names set i n
names_split names set i zero within = absurd (omega arith)
names_split names set i (suc n) within =
    elim (upto i n within) [
      | inl less ↦ split_more names set i n (names_split names set i n less)
      | inr same ↦ split_last names set i n same
    ]

-- one more
pub names_more : (old mid new : Option (List ℕ)) (names : List (List ℕ)) (set i : ℕ)
    → Appends old mid (names_text (names_below names set i)) → Appends mid new (names_text (name_if names set i))
    → Appends old new (names_text (names_below names set (i + 1)))
names_more old mid new names set i first second =
    let e : names_text (names_below names set (i + 1)) ≡ names_text (names_below names set i) ++ names_text (name_if names set i) =
    ap (λ k. names_text (names_below names set k)) (add-one i)
    ∙ flat_map-append (λ name. codes " " ++ name) (names_below names set i) (name_if names set i)
    in
    subst {A = List ℕ} (λ bytes. Appends old new bytes) (sym e)
    (Appends-then old mid new (names_text (names_below names set i)) (names_text (name_if names set i)) first second)

-- a shorter prefix of one more
pub names_front : (old mid new : Option (List ℕ)) (names : List (List ℕ)) (set i n : ℕ) → i < n
    → Appends old mid (names_text (names_below names set i)) → AppendsFront mid new (names_text (name_if names set i))
    → AppendsFront old new (names_text (names_below names set n))
names_front old mid new names set i n within first second =
    let split = names_split names set i n within in
    let e : names_text (names_below names set n) ≡ names_text (names_below names set i) ++ (names_text (name_if names set i) ++ names_text split.0) =
    ap names_text split.1 ∙ flat_map-append (λ name. codes " " ++ name) (names_below names set i) (name_if names set i ++ split.0)
    ∙ ap (λ bytes. names_text (names_below names set i) ++ bytes) (flat_map-append (λ name. codes " " ++ name) (name_if names set i) split.0)
    in
    subst {A = List ℕ} (λ bytes. AppendsFront old new bytes) (sym e)
    (AppendsFront-then old mid new (names_text (names_below names set i)) (names_text (name_if names set i)) (names_text split.0) first second)
