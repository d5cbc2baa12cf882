use Rattle.std.proofs.Common.{◌≡◌, ℕ, ◌∷◌, ◌++◌, [], if◌then◌else◌, Some, map, length, bytes_eq, true, false, sym, ap, ◌∙◌, arith}
use Rattle.source_programs.specs.Places.{place_in}
use Rattle.std.specs.Prelude.{string_bytes}
use Rattle.std.specs.Option.{is_some}
use Rattle.std.proofs.lemmas.List.{map-append}
use Rattle.image_load.proofs.NamesOfTexts.{is_fresh, table_more, table_same}
use Rattle.image_load.proofs.tables.NameTable.add.Goals as goal

pub returns-then-is_some : goal.returns-then-is_some
returns-then-is_some c =
    let there = ap is_some (sym c.find.ensures) ∙ sym c.is_some.ensures ∙ c.if-is_some.true in
    record {
      added = λ names h. table_same names c.args.self.now c.args.name.now there h;
      fresh = λ names h. is_fresh names c.args.self.now c.args.name.now true there h;
    }

pub returns : goal.returns
returns c =
    let absent = ap is_some (sym c.find.ensures) ∙ sym c.is_some.ensures ∙ c.if-is_some.false in
    let name = c.args.name.now in
    let old = c.args.self.now in
    let many : c.len.result ≡ length old.names.items = omega (arith, c.len.ensures, old.names.ok.0) in
    let pushed = ap (map string_bytes) c.in_ok-push.ensures.items ∙ map-append string_bytes old.names.items (c.in_ok-owned.owned ∷ [])
    ∙ ap (λ n. map string_bytes old.names.items ++ n ∷ []) c.in_ok-owned.ensures.ok in
    record {
      added = λ names h.
          table_more names old (record { places = c.put.new.self; names = c.push.new.self }) name absent
          (λ other.
          c.in_ok-put.ensures other ∙ ap (λ (n : ℕ). if bytes_eq other name then Some n else place_in old.places other) many) pushed h;
      fresh = λ names h. is_fresh names old name false absent h;
    }
