use Rattle.std.proofs.Common.{◌≡◌, ◌∙◌, [], codes, length, map, sym, ap, arith}
use Rattle.std.specs.Prelude.{slice_get, unwrap_or}
use Rattle.std.specs.Option.{option_map}
use Rattle.std.proofs.lemmas.List.{length-map}
use Rattle.std.proofs.lemmas.Option.{slice_get-get_or, slice_get-map}
use Rattle.dsu_cli.specs.Sorted.{given}
use Rattle.dsu_cli.proofs.Given.{is_there, nows, raw_given}
use Rattle.dsu_cli.proofs.read.positional.Goals as goal

pub unwrap-requires : goal.unwrap-requires
unwrap-requires c = is_there c.get_raw.result (λ none.
    let is = raw_given c.args.matches.now (codes "files") c.get_raw.result c.get_raw.ensures in
    let empty : [] ≡ given (codes "files") c.args.matches.now = ap (λ o. unwrap_or (option_map nows o) []) (sym none) ∙ is in
    let long : 0 ≡ length (given (codes "files") c.args.matches.now) = ap length empty in
    absurd (omega arith))

pub bounds-unwrap-at : goal.bounds-unwrap-at
bounds-unwrap-at c =
    let is = raw_given c.args.matches.now (codes "files") c.get_raw.result c.get_raw.ensures in
    let files : map (λ v. v.now) c.unwrap.result.now ≡ given (codes "files") c.args.matches.now = ap (λ o. unwrap_or (option_map nows o) []) (sym c.unwrap.ensures) ∙ is in
    let long = ap length files in
    let same : length (map (λ v. v.now) c.unwrap.result.now) ≡ length c.unwrap.result.now = simp length-map in
    omega arith

pub offset_bounds-unwrap-at : goal.offset_bounds-unwrap-at
offset_bounds-unwrap-at c =
    let is = raw_given c.args.matches.now (codes "files") c.get_raw.result c.get_raw.ensures in
    let files : map (λ v. v.now) c.unwrap.result.now ≡ given (codes "files") c.args.matches.now = ap (λ o. unwrap_or (option_map nows o) []) (sym c.unwrap.ensures) ∙ is in
    let long = ap length files in
    let same : length (map (λ v. v.now) c.unwrap.result.now) ≡ length c.unwrap.result.now = simp length-map in
    omega arith

pub returns : goal.returns
returns c =
    let is = raw_given c.args.matches.now (codes "files") c.get_raw.result c.get_raw.ensures in
    let files : map (λ v. v.now) c.unwrap.result.now ≡ given (codes "files") c.args.matches.now = ap (λ o. unwrap_or (option_map nows o) []) (sym c.unwrap.ensures) ∙ is in
    let long = ap length files in
    let same : length (map (λ v. v.now) c.unwrap.result.now) ≡ length c.unwrap.result.now = simp length-map in
    ap (λ xs. slice_get xs c.args.at) (sym files) ∙ slice_get-map (λ v. v.now) c.unwrap.result.now c.args.at
    ∙ ap (option_map (λ v. v.now)) (slice_get-get_or c.unwrap.result.now c.args.at _ (omega arith))
