-- In how many transactions points are, by those from which control goes to them.
use Rattle.std.proofs.Common.{◌≡◌, ◌≢◌, ℕ, zero, suc, ◌<◌, length, arith, Bool, true, false, not, ◌&&◌, ◌==◌, Option, Some, None, List, [], ◌∷◌, Contains, slice_get, option_map, refl, sym, ap, ap₂, subst, ◌∙◌}
use Rattle.std.specs.Option.{option_and_then}
use Rattle.std.proofs.lemmas.Bool.{false≢true}
use Rattle.std.proofs.lemmas.Option.{none-some, same_Some}
use Rattle.run_types.specs.Skeleton.{Point, PointKind, Leads, CheckIn, Begin, End, Return, depth_after, direct_use, point_at, kind_at, successors}
use Rattle.c_tree.specs.BareExpr.{Bytes}
use Rattle.c_semantics.specs.Skeletons.{is_check_in_kind}
use Rattle.c_semantics.specs.Store.{Body}
use Rattle.effects.specs.Sites.{Site, IsKind, Next, Passes, Uses, point_in, is_end, is_outer_end}
use Rattle.effects.proofs.Points.{kind_is_point, uses_is_point}
use Rattle.admission_laws.specs.SoundTexts.{AllShaped}
use Rattle.admission_laws.specs.Stacks.{Level}
use Rattle.admission_laws.specs.Transactions.{HasDepth}
use Rattle.admission_laws.specs.Closures.{GoesFurther}
use Rattle.admission_laws.specs.Closures as closure
use Rattle.admission_laws.specs.InTransactions.{IsStill, keeps_depth}
use Rattle.admission_laws.proofs.PointFacts.{found, point_of, next_at, use_of_kind}

-- a test of a point that another implies
pub passes_weaker : (bodies : List Body) (p : Site) (test other : Point → Bool) → ((at : Point) → test at ≡ true → other at ≡ true)
    → Passes bodies p test → Passes bodies p other
passes_weaker bodies p test other f x = record { passes = by (point_in bodies p) x.passes }
  where
    by : (o : Option Point) → option_map test o ≡ Some true → option_map other o ≡ Some true
    by None e = absurd (none-some true e)
    by (Some at) e = ap Some (f at (same_Some _ _ e))

first_of : (m : ℕ) (ms : List ℕ) → Contains (m ∷ ms) m
first_of m ms = (zero, positive (length ms), refl)
  where
    positive : (n : ℕ) → zero < suc n
    positive n = omega arith

-- ---- kinds

check_in_keeps : (k : PointKind) → is_check_in_kind k ≡ true → keeps_depth k ≡ true
check_in_keeps Begin h = absurd (false≢true h)
check_in_keeps End h = absurd (false≢true h)
check_in_keeps _ h = refl

use_keeps : (k : PointKind) (name : Bytes) → direct_use k ≡ Some name → keeps_depth k ≡ true
use_keeps Begin name h = absurd (none-some name h)
use_keeps End name h = absurd (none-some name h)
use_keeps _ name h = refl

pub depth_kept : (k : PointKind) (d : ℕ) → keeps_depth k ≡ true → depth_after k d ≡ d
depth_kept Begin d h = absurd (false≢true h)
depth_kept End d h = absurd (false≢true h)
depth_kept _ d h = refl

still_no_end : (k : PointKind) → keeps_depth k ≡ true → is_end k ≡ false
still_no_end End h = absurd (false≢true h)
still_no_end _ h = refl

no_outer_end : (at : Point) → is_end at.kind ≡ false → not (is_outer_end at) ≡ true
no_outer_end at e = ap (λ b. not (b && at.depth == 1)) e

no_check_in_uses : (k : PointKind) (name : Bytes) → is_check_in_kind k ≡ true → direct_use k ≡ Some name → ⊥
no_check_in_uses (CheckIn c) name h u = none-some name u
no_check_in_uses _ name h u = false≢true h

-- ---- sites

pub check_in_still : (bodies : List Body) (p : Site) → Passes bodies p (λ at. is_check_in_kind at.kind) → IsStill bodies p
check_in_still bodies p x =
    passes_weaker bodies p (λ at. is_check_in_kind at.kind) (λ at. keeps_depth at.kind) (λ at h. check_in_keeps at.kind h) x

pub use_still : (bodies : List Body) (p : Site) (name : Bytes) → Uses bodies p name → IsStill bodies p
use_still bodies p name x = record { passes = by (point_in bodies p) x.uses }
  where
    by : (o : Option Point) → option_and_then (λ at. direct_use at.kind) o ≡ Some name → option_map (λ at. keeps_depth at.kind) o ≡ Some true
    by None e = absurd (none-some name e)
    by (Some at) e = ap Some (use_keeps at.kind name e)

-- a check-in uses no name
pub uses_no_check_in : (bodies : List Body) (p : Site) (name : Bytes) → Uses bodies p name → Passes bodies p (λ at. is_check_in_kind at.kind) → ⊥
uses_no_check_in bodies p name x y = by (point_in bodies p) x.uses y.passes
  where
    by : (o : Option Point) → option_and_then (λ at. direct_use at.kind) o ≡ Some name → option_map (λ at. is_check_in_kind at.kind) o ≡ Some true → ⊥
    by None e h = none-some name e
    by (Some at) e h = no_check_in_uses at.kind name (same_Some _ _ h) e

-- the outermost transaction doesn't end where none does
pub further_still : (bodies : List Body) (p : Site) (below : List Level) → IsStill bodies p → GoesFurther bodies p below
further_still bodies p below x =
    closure.no_end p below
    (passes_weaker bodies p (λ at. keeps_depth at.kind) (λ at. not (is_outer_end at))
    (λ at h. no_outer_end at (still_no_end at.kind h)) x)

-- ---- depths

module _ (bodies : List Body) (shaped : AllShaped bodies) where
  -- the point from which control goes
  from_is : (p q : Site) (x : Next bodies p q) → point_in bodies p ≡ Some x.from
  from_is p q x = point_of bodies p x.body x.stored ∙ x.is_from

  to_depth : (p q : Site) (x : Next bodies p q) → HasDepth bodies q (depth_after x.from.kind x.from.depth)
  to_depth p q x = record {
    has_depth = ap (option_map (λ at. at.depth)) (point_of bodies q x.body (ap (slice_get bodies) x.same ∙ x.stored))
        ∙ (shaped p.body x.body x.stored).follows p.point q.point x.from x.leads x.is_from;
  }

  from_depth : (p q : Site) (own : ℕ) (x : Next bodies p q) → HasDepth bodies p own → x.from.depth ≡ own
  from_depth p q own x d = same_Some _ _ (sym (ap (option_map (λ at. at.depth)) (from_is p q x)) ∙ d.has_depth)

  -- after a point of a kind
  pub depth_next : (p q : Site) (k : PointKind) (own : ℕ) → Next bodies p q → IsKind bodies p k → HasDepth bodies p own
      → HasDepth bodies q (depth_after k own)
  depth_next p q k own x is d =
      subst (HasDepth bodies q)
      (ap₂ depth_after (same_Some _ _ (sym (ap (option_map (λ at. at.kind)) (from_is p q x)) ∙ is.is_kind)) (from_depth p q own x d))
      (to_depth p q x)

  -- after one at which no transaction begins or ends
  pub depth_still : (p q : Site) (own : ℕ) → Next bodies p q → IsStill bodies p → HasDepth bodies p own → HasDepth bodies q own
  depth_still p q own x still d =
      subst (HasDepth bodies q)
      (depth_kept x.from.kind x.from.depth (same_Some _ _ (sym (ap (option_map (λ at. keeps_depth at.kind)) (from_is p q x)) ∙ still.passes))
      ∙ from_depth p q own x d)
      (to_depth p q x)

  depth_there : (p : Site) (own : ℕ) (b : Body) (at : Point) → slice_get bodies p.body ≡ Some b → point_at b.skeleton p.point ≡ Some at
      → HasDepth bodies p own → at.depth ≡ own
  depth_there p own b at stored here d =
      same_Some _ _ (sym (ap (option_map (λ x. x.depth)) (point_of bodies p b stored ∙ here)) ∙ d.has_depth)

  kind_there : (p : Site) (k : PointKind) (b : Body) (at : Point) → slice_get bodies p.body ≡ Some b → point_at b.skeleton p.point ≡ Some at
      → IsKind bodies p k → at.kind ≡ k
  kind_there p k b at stored here x =
      same_Some _ _ (sym (ap (option_map (λ x. x.kind)) (point_of bodies p b stored ∙ here)) ∙ x.is_kind)

  -- an end is in a transaction, a return in none
  pub end_depth : (p : Site) (own : ℕ) → IsKind bodies p End → HasDepth bodies p own → 0 < own
  end_depth p own x d =
      let y = found bodies p (kind_is_point bodies p End x) in
      subst (λ n. 0 < n) (depth_there p own y.body y.at y.stored y.here d)
      ((shaped p.body y.body y.stored).ends p.point y.at y.here (kind_there p End y.body y.at y.stored y.here x))

  pub return_depth : (p : Site) (own : ℕ) → IsKind bodies p Return → HasDepth bodies p own → own ≡ 0
  return_depth p own x d =
      let y = found bodies p (kind_is_point bodies p Return x) in
      sym (depth_there p own y.body y.at y.stored y.here d)
      ∙ (shaped p.body y.body y.stored).returns p.point y.at y.here (kind_there p Return y.body y.at y.stored y.here x)

  -- control goes on from a point that uses a name
  pub use_goes_on : (p : Site) (name : Bytes) → Uses bodies p name → (q : Site) × Next bodies p q
  use_goes_on p name x =
      let y = found bodies p (uses_is_point bodies p name x) in
      by y.body y.at y.stored y.here (successors y.body.skeleton p.point) refl
      ((shaped p.body y.body y.stored).goes_on p.point name (used_there y.body y.stored))
    where
      used_there : (b : Body) → slice_get bodies p.body ≡ Some b → option_and_then direct_use (kind_at b.skeleton p.point) ≡ Some name
      used_there b stored =
          use_of_kind (point_at b.skeleton p.point)
          ∙ ap (option_and_then (λ at. direct_use at.kind)) (sym (point_of bodies p b stored)) ∙ x.uses

      there : (o : Option Point) (d : ℕ) → option_map (λ at. at.depth) o ≡ Some d → (at : Point) × (o ≡ Some at)
      there None d e = absurd (none-some d e)
      there (Some at) d e = (at, refl)

      by : (b : Body) (at : Point) → slice_get bodies p.body ≡ Some b → point_at b.skeleton p.point ≡ Some at → (ms : List ℕ)
          → successors b.skeleton p.point ≡ ms → successors b.skeleton p.point ≢ [] → (q : Site) × Next bodies p q
      by b at stored here [] e some = absurd (some e)
      by b at stored here (m ∷ ms) e some =
          let leads : Leads b.skeleton p.point m = record { leads = subst (λ ns. Contains ns m) (sym e) (first_of m ms) } in
          let to = there (point_at b.skeleton m) _ ((shaped p.body b stored).follows p.point m at leads here) in
          let q : Site = record { body = p.body; point = m } in
          (q, next_at bodies p q b at to.0 stored refl leads here to.1)
