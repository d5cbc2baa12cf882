use Rattle.std.proofs.Common.{◌≡◌, ◌∙◌, List, [], codes, map, sym, ap, subst}
use Rattle.std.specs.Prelude.{IfOk, unwrap_or}
use Rattle.std.specs.Option.{option_map}
use Rattle.std.specs.List.{filter_map, list_all}
use Rattle.dsu_cli.specs.declared.job.Offer.{Offer}
use Rattle.dsu_cli.specs.Words.{Text, is_offer, offer_of}
use Rattle.dsu_cli.specs.Sorted.{given}
use Rattle.dsu_cli.proofs.Given.{nows, raw_given}
use Rattle.dsu_cli.proofs.read.offers.Goals as goal

pub offers_of-requires : goal.offers_of-requires
offers_of-requires c =
    let is = raw_given c.args.matches.now (codes "offer") c.get_raw.result c.get_raw.ensures in
    let values : map (λ v. v.now) c.in-Some.values.now ≡ given (codes "offer") c.args.matches.now = ap (λ o. unwrap_or (option_map nows o) []) (sym c.in-Some.is) ∙ is in
    ap (list_all is_offer) values ∙ c.requires

pub returns-in-Some : goal.returns-in-Some
returns-in-Some c =
    let is = raw_given c.args.matches.now (codes "offer") c.get_raw.result c.get_raw.ensures in
    let values : map (λ v. v.now) c.in-Some.values.now ≡ given (codes "offer") c.args.matches.now = ap (λ o. unwrap_or (option_map nows o) []) (sym c.in-Some.is) ∙ is in
    subst (λ (vs : List Text). IfOk c.offers_of.result (λ (offers : List Offer). offers ≡ filter_map offer_of vs)) values c.offers_of.ensures

pub returns-in-None : goal.returns-in-None
returns-in-None c =
    let is = raw_given c.args.matches.now (codes "offer") c.get_raw.result c.get_raw.ensures in
    let none : [] ≡ given (codes "offer") c.args.matches.now = ap (λ o. unwrap_or (option_map nows o) []) (sym c.in-None.is) ∙ is in
    c.of.ensures ∙ c.new.ensures.items ∙ ap (filter_map offer_of) none
