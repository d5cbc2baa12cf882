-- Places past the end of a text.
use Rattle.std.proofs.Common.{◌≡◌, ℕ, zero, suc, ◌+◌, ◌-◌, ◌<◌, List, length, refl, ◌∙◌, ap, arith}
use Rattle.std.specs.Prelude.{◌==◌, slice_index, if◌then◌else◌}
use Rattle.std.proofs.lemmas.List.{get_or_past}
use Rattle.dsu_report.specs.Places.{line_at, column_at}

no_byte : (text : List ℕ) (k : ℕ) → slice_index text (length text + k) ≡ 0
no_byte text k = get_or_past text (length text + k) 0 (omega arith)

line_one_on : (text : List ℕ) (at : ℕ) → slice_index text at ≡ 0 → line_at text (suc at) ≡ line_at text at
line_one_on text at none = ap (λ byte. if byte == 10 then line_at text at + 1 else line_at text at) none

column_one_on : (text : List ℕ) (at : ℕ) → slice_index text at ≡ 0 → column_at text (suc at) ≡ column_at text at + 1
column_one_on text at none = ap (λ byte. if byte == 10 then 1 else column_at text at + 1) none

-- the last line goes on
lines_on : (text : List ℕ) (k at : ℕ) → at ≡ length text + k → line_at text at ≡ line_at text (length text)
lines_on text zero at is = ap (line_at text) (omega (arith, is))
lines_on text (suc k) at is =
    let next : at ≡ suc (length text + k) = omega (arith, is) in
    ap (line_at text) next ∙ line_one_on text (length text + k) (no_byte text k) ∙ lines_on text k (length text + k) refl

columns_on : (text : List ℕ) (k at : ℕ) → at ≡ length text + k → column_at text at ≡ column_at text (length text) + k
columns_on text zero at is =
    let same : at ≡ length text = omega (arith, is) in
    let more : column_at text (length text) ≡ column_at text (length text) + 0 = omega arith in
    ap (column_at text) same ∙ more
columns_on text (suc k) at is =
    let next : at ≡ suc (length text + k) = omega (arith, is) in
    let before = columns_on text k (length text + k) refl in
    let more : column_at text (length text + k) + 1 ≡ column_at text (length text) + suc k = omega (arith, before) in
    ap (column_at text) next ∙ column_one_on text (length text + k) (no_byte text k) ∙ more

pub line_past : (text : List ℕ) (at : ℕ) → length text < at → line_at text at ≡ line_at text (length text)
line_past text at past = lines_on text (at - length text) at (omega (arith, past))

pub column_past : (text : List ℕ) (at : ℕ) → length text < at → column_at text at ≡ column_at text (length text) + (at - length text)
column_past text at past = columns_on text (at - length text) at (omega (arith, past))
