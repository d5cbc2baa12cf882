-- A check-in that directly follows a stop has as many check-ins before it as the stop.
use Rattle.std.proofs.Common.{◌≡◌, ℕ, suc, false, List, take, Option, Some, None, refl, sym, ap, subst, ◌∙◌, add-one}
use Rattle.std.specs.Prelude.{slice_get, count_by, option_map}
use Rattle.std.specs.Option.{option_and_then}
use Rattle.std.proofs.lemmas.List.Sums.{count_by_more_no}
use Rattle.std.proofs.lemmas.Option.{get_or_from_slice_get, slice_get_within}
use Rattle.run_types.specs.CheckIns.{CheckInKind}
use Rattle.run_types.specs.Skeleton.{PointKind, Point, Skeleton, check_in_after, check_in_of, kind_at, reached, reached_by}
use Rattle.run_types.specs.Skeleton as seen
use Rattle.c_semantics.specs.Skeletons.{is_check_in_kind}

-- a stop that a check-in follows is no check-in itself
no_check_in_itself : (kind : PointKind) (after : CheckInKind) → check_in_after kind ≡ Some after → is_check_in_kind kind ≡ false
no_check_in_itself (seen.Call name) after e = refl
no_check_in_itself seen.Begin after e = refl
no_check_in_itself seen.End after e = refl
no_check_in_itself seen.Update after e = refl
no_check_in_itself (seen.CheckIn kind) after e = cc
no_check_in_itself (seen.ReadGlobal name) after e = cc
no_check_in_itself (seen.WriteGlobal name) after e = cc
no_check_in_itself (seen.ReadElement name) after e = cc
no_check_in_itself (seen.WriteElement name) after e = cc
no_check_in_itself (seen.ReadField name) after e = cc
no_check_in_itself (seen.WriteField name) after e = cc
no_check_in_itself (seen.New name) after e = cc
no_check_in_itself (seen.Free name) after e = cc
no_check_in_itself seen.Print after e = cc
no_check_in_itself (seen.InitMutex name) after e = cc
no_check_in_itself (seen.Lock name) after e = cc
no_check_in_itself (seen.Unlock name) after e = cc
no_check_in_itself (seen.Spawn name) after e = cc
no_check_in_itself seen.Join after e = cc
no_check_in_itself seen.Return after e = cc
no_check_in_itself seen.Back after e = cc

-- the number of check-ins before a point, and before the one after it
before_next : (ps : List Point) (n : ℕ) (after : CheckInKind)
    → option_and_then check_in_after (option_map (λ p. p.kind) (slice_get ps n)) ≡ Some after
    → count_by (λ p. is_check_in_kind p.kind) (take (suc n) ps) ≡ count_by (λ p. is_check_in_kind p.kind) (take n ps)
before_next ps n after e = by (slice_get ps n) refl
  where
    Followed : Option Point → Type 0
    Followed o = option_and_then check_in_after (option_map (λ p. p.kind) o) ≡ Some after

    by : (o : Option Point) → slice_get ps n ≡ o
        → count_by (λ p. is_check_in_kind p.kind) (take (suc n) ps) ≡ count_by (λ p. is_check_in_kind p.kind) (take n ps)
    by None is = absurd (none (subst Followed is e))
      where
        none : Followed None → ⊥
        none f = cc
    by (Some p) is =
        let itself : is_check_in_kind p.kind ≡ false = no_check_in_itself p.kind after (subst Followed is e) in
        ap (λ m. count_by (λ p. is_check_in_kind p.kind) (take m ps)) (sym (add-one n))
        ∙ count_by_more_no (λ p. is_check_in_kind p.kind) ps n p (slice_get_within ps n p is)
        (ap (λ p. is_check_in_kind p.kind) (get_or_from_slice_get ps n p p is) ∙ itself)

pub before_reached : (s : Skeleton) (n : ℕ)
    → count_by (λ p. is_check_in_kind p.kind) (take (reached s n) s.points)
    ≡ count_by (λ p. is_check_in_kind p.kind) (take n s.points)
before_reached s n = by (option_and_then check_in_after (kind_at s n)) refl
  where
    by : (after : Option CheckInKind) → option_and_then check_in_after (kind_at s n) ≡ after
        → count_by (λ p. is_check_in_kind p.kind) (take (reached_by after n) s.points)
        ≡ count_by (λ p. is_check_in_kind p.kind) (take n s.points)
    by None e = refl
    by (Some after) e = before_next s.points n after e
