use Rattle.std.proofs.Common.{List, map, subst, refl, rules}
use Rattle.std.specs.List.Sorted.{IsPermutation}
use Rattle.skeletons.specs.Meaning.{meant}
use Rattle.std.proofs.lemmas.List.Sorted.{IsPermutation-map, All-permutation, IsNonDecreasingBy-from_sort_by_key}
use Rattle.check_in_places.specs.CheckIns.{CheckIn}
use Rattle.check_in_places.specs.Bodies.{shown, IsCounted, IsSpotOf}
use Rattle.check_in_places.proofs.spots.section_of.Goals as goal

pub returns : goal.returns
returns c = λ names. record {
  function = refl;
  all = subst {A = List CheckIn} (λ list. IsPermutation list (map shown c.sort_by_key.new.self.items)) (c.in_ok-spots.ensures.shown names)
      (IsPermutation-map shown _ _ c.in_ok-sort_by_key.ensures.permutation);
  ascending = IsNonDecreasingBy-from_sort_by_key (λ spot. spot.at) _ c.in_ok-sort_by_key.ensures.sorted (λ a r q k. search rules);
  spots = All-permutation (IsSpotOf c.args.first) _ _ c.in_ok-sort_by_key.ensures.permutation c.in_ok-spots.ensures.spots;
  counted = All-permutation (IsCounted (meant names c.args.skeleton.now)) _ _ c.in_ok-sort_by_key.ensures.permutation (c.in_ok-spots.ensures.counted names);
}
