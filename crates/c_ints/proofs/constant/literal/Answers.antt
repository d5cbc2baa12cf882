-- what the code reads is what the definition's reading computes
use Rattle.std.proofs.Common.{◌≡◌, ◌-◌, ◌∙◌, ◌⊎◌, inl, inr, sym, arith, take, drop, length, length-drop}
use Rattle.std.proofs.lemmas.List.{take_all}
use Rattle.c_ints.specs.declared.constant.Radix.TheVariants.{Decimal, Octal, Hexadecimal}
use Rattle.c_ints.proofs.Reading.{radix_of, reading, reading_of, literal_laws}
use Rattle.c_ints.proofs.constant.literal.Goals as goal
use Rattle.c_ints.proofs.constant.literal.Goals.{After-read_digits, After-read_digits-in-Decimal}

hexadecimal : (c : After-read_digits) → c.read_digits.result ≡ reading c.args.text.now
hexadecimal c =
    let read : c.read_digits.result ≡ reading_of c.radix_of-radix.result (take (length c.as_bytes-bytes.result.now - 2) (drop 2 c.as_bytes-bytes.result.now)) = c.read_digits.ensures in
    let rest : take (length c.as_bytes-bytes.result.now - 2) (drop 2 c.as_bytes-bytes.result.now) ≡ drop 2 c.as_bytes-bytes.result.now = take_all _ _ (omega (arith, length-drop 2 c.as_bytes-bytes.result.now)) in
    let radix : radix_of c.as_bytes-bytes.result.now ≡ Hexadecimal = sym c.radix_of-radix.ensures ∙ c.in-Hexadecimal.is in
    rw (← c.as_bytes-bytes.ensures.value, radix) (read ∙ rw (c.in-Hexadecimal.is, rest))

pub returns-in-Hexadecimal-clause-value : goal.returns-in-Hexadecimal-clause-value
returns-in-Hexadecimal-clause-value c = (literal_laws c.args.text.now c.read_digits.result (hexadecimal c)).value

pub returns-in-Hexadecimal-clause-some : goal.returns-in-Hexadecimal-clause-some
returns-in-Hexadecimal-clause-some c = (literal_laws c.args.text.now c.read_digits.result (hexadecimal c)).some

pub returns-in-Hexadecimal-clause-shape : goal.returns-in-Hexadecimal-clause-shape
returns-in-Hexadecimal-clause-shape c =
    let laws = literal_laws c.args.text.now c.read_digits.result (hexadecimal c) in (laws.written, laws.unwritten)

plain : (c : After-read_digits-in-Decimal) → c.read_digits-in-Decimal.result ≡ reading c.args.text.now
plain c = by_radix c.in-Decimal.is
  where
    read : c.read_digits-in-Decimal.result ≡ reading_of c.radix_of-radix.result c.as_bytes-bytes.result.now
    read = c.read_digits-in-Decimal.ensures

    by_radix : (c.radix_of-radix.result ≡ Decimal) ⊎ (c.radix_of-radix.result ≡ Octal) → c.read_digits-in-Decimal.result ≡ reading c.args.text.now
    by_radix (inl d) =
        let radix : radix_of c.as_bytes-bytes.result.now ≡ Decimal = sym c.radix_of-radix.ensures ∙ d in
        rw (← c.as_bytes-bytes.ensures.value, radix) (read ∙ rw d)
    by_radix (inr o) =
        let radix : radix_of c.as_bytes-bytes.result.now ≡ Octal = sym c.radix_of-radix.ensures ∙ o in
        rw (← c.as_bytes-bytes.ensures.value, radix) (read ∙ rw o)

pub returns-in-Decimal : goal.returns-in-Decimal
returns-in-Decimal c =
    let laws = literal_laws c.args.text.now c.read_digits-in-Decimal.result (plain c) in
    record { value = laws.value; some = laws.some; shape = (laws.written, laws.unwritten) }
