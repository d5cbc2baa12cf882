use Rattle.std.proofs.Common.{◌≡◌, ◌∙◌, ◌++◌, ◌+◌, ◌<◌, ◌∷◌, [], Option, Some, Bor, length, map, drop, get_or, sym, ap, arith, append_assoc}
use Rattle.std.specs.List.{filter_map, cons_option}
use Rattle.std.proofs.lemmas.List.{drop_more, length-map}
use Rattle.std.proofs.Math.ListN.{get_or-map}
use Rattle.dsu_cli.specs.declared.job.Offer.{Offer}
use Rattle.dsu_cli.specs.Words.{Text, is_offer, offer_of}
use Rattle.dsu_cli.proofs.Given.{all_at}
use Rattle.dsu_cli.proofs.read.offers_of.Goals as goal

abbrev now : Bor Text → Text
now value = value.now

pub offer-requires : goal.offer-requires
offer-requires c =
    let i = c.loop-value.value-index in
    let long : length (map now c.args.values.now) ≡ length c.args.values.now = simp length-map in
    let within : i < length (map now c.args.values.now) = omega arith in
    let at : get_or (map now c.args.values.now) i [] ≡ (get_or c.args.values.now i (record { ref_ptr = (0, 0); now = [] })).now =
    get_or-map now c.args.values.now i (record { ref_ptr = (0, 0); now = [] }) in
    ap is_offer (sym at) ∙ all_at is_offer (map now c.args.values.now) i [] within c.requires

pub loop-value-preserved : goal.loop-value-preserved
loop-value-preserved c =
    let i = c.loop-value.value-index in
    let all = map now c.args.values.now in
    let long : length (map now c.args.values.now) ≡ length c.args.values.now = simp length-map in
    let within : i < length all = omega arith in
    let at : get_or (map now c.args.values.now) i [] ≡ (get_or c.args.values.now i (record { ref_ptr = (0, 0); now = [] })).now =
    get_or-map now c.args.values.now i (record { ref_ptr = (0, 0); now = [] }) in
    let here : drop i all ≡ get_or all i [] ∷ drop (i + 1) all = drop_more all i [] within in
    let is : offer_of (get_or all i []) ≡ Some c.in_ok-offer.field-0 = ap offer_of at ∙ c.in_ok-offer.ensures in
    let rest = filter_map offer_of (drop (i + 1) all) in
    let step : filter_map offer_of (drop i all) ≡ c.in_ok-offer.field-0 ∷ rest = ap (filter_map offer_of) here ∙ ap (λ (o : Option Offer). cons_option o rest) is in
    ap (λ xs. xs ++ rest) c.in_ok-push.ensures.items ∙ append_assoc c.loop-value.offers.items (c.in_ok-offer.field-0 ∷ []) rest
    ∙ ap (λ ys. c.loop-value.offers.items ++ ys) (sym step) ∙ c.loop-value.invariant
