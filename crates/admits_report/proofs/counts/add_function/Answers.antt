use Rattle.std.proofs.Common.{◌≡◌, ℕ, ◌+◌, [], ◌∷◌, length, map, sym, ap, ◌∙◌, arith}
use Rattle.std.specs.Prelude.{count_by}
use Rattle.std.specs.Option.{is_none}
use Rattle.std.proofs.lemmas.List.{length-map}
use Rattle.admits_report.specs.Shown.{ids_of, ids_of_line}
use Rattle.admits_report.proofs.Counted.{count_append}
use Rattle.admits_report.proofs.counts.add_function.Goals as goal

pub returns-clause-admitted : goal.returns-clause-admitted
returns-clause-admitted c =
    let f = c.args.function.now in
    let rest = ap (λ lines. count_by is_none (map ids_of_line lines)) c.as_slice-lines.ensures.value in
    let all : c.admitted_by.result + c.admitted_among.result ≡ count_by is_none (ids_of f) =
    ap (λ n. n + c.admitted_among.result) c.admitted_by.ensures.many
    ∙ ap (λ n. count_by is_none (f.start ∷ []) + n) (c.admitted_among.ensures.many ∙ rest)
    ∙ sym (count_append is_none (f.start ∷ []) (map ids_of_line f.lines.items))
    in
    grind (arith, all)

pub returns-clause-all : goal.returns-clause-all
returns-clause-all c =
    let f = c.args.function.now in
    let many = ap length c.as_slice-lines.ensures.value in
    let shown = length-map f.lines.items ids_of_line in
    grind (arith, many, shown)
