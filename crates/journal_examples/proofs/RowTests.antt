-- A row that passes a test at each point that a check-in covers has all names of the check-in's row.
use Rattle.std.proofs.Common.{◌≡◌, ◌∙◌, ℕ, Bool, true, false, ◌&&◌, ◌||◌, not, List, [], ◌∷◌, ◌++◌, refl, sym, subst, ap, inl, inr}
use Rattle.std.specs.Prelude.{◌==◌, bytes_eq, slice_get}
use Rattle.std.specs.List.{list_any}
use Rattle.std.specs.Option.{option_map_or}
use Rattle.std.proofs.lemmas.Bool.{and_parts, and_from}
use Rattle.std.proofs.lemmas.Bool.Decides.{Decides-eqb}
use Rattle.std.proofs.lemmas.Slice.Eq.{bytes_eq-Decides}
use Rattle.name_sets.specs.NameLists.{is_among, name_set}
use Rattle.con_freeness.specs.Rows.{Names, Row}
use Rattle.run_types.specs.Skeleton.{Call, entry}
use Rattle.c_tree.specs.BareExpr.{Bytes}
use Rattle.c_semantics.specs.Skeletons.{is_check_in_kind}
use Rattle.c_semantics.specs.Store.{Body, Mark, CheckInOf, check_in_number}
use Rattle.effects.specs.Sites.{Site, after_call, stays}
use Rattle.effects.specs.Rows.{Edge, Covers, Covered, IsCheckIn, InPrior, InFuture, InConcrete, IsSet, IsRowOf}
use Rattle.effects.specs.Rows as rows
use Rattle.effects.specs.Concrete.{Concrete}
use Rattle.effects.specs.GrowthLaws.{RowsGrow}
use Rattle.effects.specs.LeastLaws.{EachHasARow}
use Rattle.effects.proofs.Reachable.{Among}
use Rattle.effects.proofs.OneRow.{cases_of}
use Rattle.effects.proofs.Points.{of_is_point, kind_is_point, passes_is_point}
use Rattle.effects.proofs.StoreSites.{sites, point_is_among}
use Rattle.effects.proofs.PointLists.{all, each, if_then, conclusion, lie_in, lies, functions_at, calls_at, passes_at, is_return, followers, of_at, call_at, pass_at, return_at, next_at, among_names}
use Rattle.effects.proofs.Tables.{Table, Passed, prior_in, future_in, concrete_in}

-- ---- the points that a check-in covers

abbrev is_site : Site → Site → Bool
is_site p q = p.body == q.body && p.point == q.point

-- whether a point is among some
abbrev pub has_site : List Site → Site → Bool
has_site ps q = list_any (λ p. is_site p q) ps

-- whether each point to which a thread may go from p, with no point between, is among some
abbrev goes_within : List Body → List Site → Site → Bool
goes_within bodies ps p =
    if_then (passes_at bodies p (λ at. stays at.kind)) (all (has_site ps) (followers bodies p))
    && (all (λ f. all (λ e. if_then (e.point == entry && is_among (functions_at bodies e) f) (has_site ps e)) (sites bodies)) (calls_at bodies p)
    && if_then (passes_at bodies p (λ at. is_return at.kind))
    (all (λ f. all (λ c. if_then (is_among (calls_at bodies c) f) (has_site ps (after_call c))) (sites bodies)) (functions_at bodies p)))

-- whether a point is the check-in of a number in the body of f of a generation
abbrev is_check_in : List Body → Bytes → ℕ → ℕ → Site → Bool
is_check_in bodies f generation number p =
    option_map_or (λ b. bytes_eq f b.function && (b.generation == generation && check_in_number b p.point == number)) (slice_get bodies p.body) false
    && passes_at bodies p (λ at. is_check_in_kind at.kind)

-- whether a path goes on from a point
abbrev passes_on : List Body → Site → Bool
passes_on bodies p = passes_at bodies p (λ at. not (is_check_in_kind at.kind))

-- some points have all that a check-in covers
pub record AreCovered (bodies : List Body) (f : Bytes) (generation number : ℕ) (ps : List Site) : Type 0 where
  pub begin : all (λ c. if_then (is_check_in bodies f generation number c) (has_site ps c && goes_within bodies ps c)) (sites bodies) ≡ true
  pub further : all (λ p. if_then (has_site ps p && passes_on bodies p) (goes_within bodies ps p)) (sites bodies) ≡ true

module _ (bodies : List Body) (ps : List Site) where
  goes : (p q : Site) → goes_within bodies ps p ≡ true → Edge bodies p q → has_site ps q ≡ true
  goes _ _ e (rows.on p q stay next) =
      each (has_site ps) (followers bodies p) q
      (conclusion _ _ (and_parts _ _ e).0 (pass_at bodies p (λ at. stays at.kind) stay))
      (next_at bodies p q next)
  goes _ _ e (rows.call c q f call at) =
      conclusion _ _
      (each (λ e. if_then (e.point == entry && is_among (functions_at bodies e) f) (has_site ps e)) (sites bodies) q
      (each
      (λ f. all (λ e. if_then (e.point == entry && is_among (functions_at bodies e) f) (has_site ps e)) (sites bodies))
      (calls_at bodies c) f (and_parts _ _ (and_parts _ _ e).1).0 (call_at bodies c f call))
      (point_is_among bodies q (of_is_point bodies q f at.is_of)))
      (and_from (q.point == entry) (is_among (functions_at bodies q) f) ((Decides-eqb q.point entry).1 at.is_entry)
      (among_names (functions_at bodies q) f (of_at bodies q f at.is_of)))
  goes _ _ e (rows.return r c f ret call) =
      conclusion _ _
      (each (λ c. if_then (is_among (calls_at bodies c) f) (has_site ps (after_call c))) (sites bodies) c
      (each (λ f. all (λ c. if_then (is_among (calls_at bodies c) f) (has_site ps (after_call c))) (sites bodies)) (functions_at bodies r) f
      (conclusion _ _ (and_parts _ _ (and_parts _ _ e).1).1 (return_at bodies r f ret))
      (of_at bodies r f ret.is_of))
      (point_is_among bodies c (kind_is_point bodies c (Call f) call)))
      (among_names (calls_at bodies c) f (call_at bodies c f call))

  module _ (f : Bytes) (generation number : ℕ) (k : AreCovered bodies f generation number ps) where
    checked : (c : Site) → IsCheckIn bodies c f generation number → is_check_in bodies f generation number c ≡ true
    checked c x =
        and_from _ _
        (ap (λ o. option_map_or (λ b. bytes_eq f b.function && (b.generation == generation && check_in_number b c.point == number)) o false) x.stored
        ∙ and_from _ _ ((bytes_eq-Decides f x.body.function).1 (sym x.function))
        (and_from _ _ ((Decides-eqb x.body.generation generation).1 x.of_generation)
        ((Decides-eqb (check_in_number x.body c.point) number).1 x.counted)))
        (pass_at bodies c (λ at. is_check_in_kind at.kind) x.is_check_in)

    begins : (c : Site) → IsCheckIn bodies c f generation number → (has_site ps c ≡ true) × (goes_within bodies ps c ≡ true)
    begins c x =
        and_parts _ _
        (conclusion (is_check_in bodies f generation number c) (has_site ps c && goes_within bodies ps c)
        (each (λ c. if_then (is_check_in bodies f generation number c) (has_site ps c && goes_within bodies ps c)) (sites bodies) c k.begin
        (point_is_among bodies c (passes_is_point bodies c _ x.is_check_in)))
        (checked c x))

    covers : (c p : Site) → IsCheckIn bodies c f generation number → Covers bodies c p → has_site ps p ≡ true
    covers c _ x rows.itself = (begins c x).0
    covers c _ x (rows.first p edge) = goes c p (begins c x).1 edge
    covers c _ x (rows.then p q y pass edge) =
        goes p q
        (conclusion (has_site ps p && passes_on bodies p) (goes_within bodies ps p)
        (each (λ p. if_then (has_site ps p && passes_on bodies p) (goes_within bodies ps p)) (sites bodies) p k.further
        (point_is_among bodies p (passes_is_point bodies p _ pass)))
        (and_from (has_site ps p) (passes_on bodies p) (covers c p x y) (pass_at bodies p (λ at. not (is_check_in_kind at.kind)) pass)))
        edge

    pub covered_in : (p : Site) → Covered bodies (CheckInOf f generation number) p → has_site ps p ≡ true
    covered_in p x = by (CheckInOf f generation number) p x refl
      where
        by : (mark : Mark) (p : Site) → Covered bodies mark p → mark ≡ CheckInOf f generation number → has_site ps p ≡ true
        by _ _ (rows.started g e at) same = cc
        by _ _ (rows.passed g m n c p at y) same =
            covers c p
            (subst (λ number. IsCheckIn bodies c f generation number) (number_of g m n same)
            (subst (λ generation. IsCheckIn bodies c f generation n) (generation_of g m n same)
            (subst (λ f. IsCheckIn bodies c f m n) (function_of g m n same) at)))
            y
          where
            function_of : (g : Bytes) (m n : ℕ) → CheckInOf g m n ≡ CheckInOf f generation number → g ≡ f
            function_of g m n e = cc

            generation_of : (g : Bytes) (m n : ℕ) → CheckInOf g m n ≡ CheckInOf f generation number → m ≡ generation
            generation_of g m n e = cc

            number_of : (g : Bytes) (m n : ℕ) → CheckInOf g m n ≡ CheckInOf f generation number → n ≡ number
            number_of g m n e = cc

in_sites : (ps : List Site) (q : Site) → has_site ps q ≡ true → Among ps q
in_sites [] q e = cc
in_sites (p ∷ ps) q e = by (is_site p q) refl e (in_sites ps q)
  where
    same : (b n : ℕ) → p.body ≡ b → p.point ≡ n → p ≡ record { body = b; point = n }
    same b n e f = λ i. record { body = e i; point = f i }

    by : (b : Bool) → is_site p q ≡ b → (b || has_site ps q) ≡ true → (has_site ps q ≡ true → Among ps q) → Among (p ∷ ps) q
    by true is e rest =
        let both = and_parts (p.body == q.body) (p.point == q.point) is in
        inl (same q.body q.point ((Decides-eqb p.body q.body).0 both.0) ((Decides-eqb p.point q.point).0 both.1))
    by false is e rest = inr (rest e)

-- ---- the row

-- a row has the names that a table has at the points that a check-in covers
pub record RowPasses (t : Table) (ps : List Site) (row : Row) : Type 0 where
  pub prior : all (λ p. lie_in (t.prior p) row.prior) ps ≡ true
  pub future : all (λ p. lie_in (t.future p) row.future) ps ≡ true
  pub concrete : all (λ p. lie_in (t.concrete p) row.concrete) ps ≡ true

-- a row lies in another that a mark has
pub record Within (bodies : List Body) (mark : Mark) (row : Row) : Type 0 where
  pub prior : (z : Bytes) → is_among row.prior z ≡ true → InPrior bodies mark z
  pub future : (z : Bytes) → is_among row.future z ≡ true → InFuture bodies mark z
  pub concrete : (z : Bytes) → is_among row.concrete z ≡ true → InConcrete bodies mark z

-- its names are in the order of bytes, each once
pub record IsOrdered (row : Row) : Type 0 where
  pub prior : name_set row.prior ≡ row.prior
  pub future : name_set row.future ≡ row.future
  pub concrete : name_set row.concrete ≡ row.concrete

module _ (bodies : List Body) (f : Bytes) (generation number : ℕ) (ps : List Site) (t : Table) (row : Row)
    (covered : AreCovered bodies f generation number ps) (passed : Passed bodies t) (passes : RowPasses t ps row) where
  prior_within : (z : Bytes) → InPrior bodies (CheckInOf f generation number) z → is_among row.prior z ≡ true
  prior_within z x =
      lies (t.prior x.site) row.prior z
      (each (λ p. lie_in (t.prior p) row.prior) ps x.site passes.prior
      (in_sites ps x.site (covered_in bodies ps f generation number covered x.site x.covered)))
      (prior_in bodies t passed x.site z x.prior)

  future_within : (z : Bytes) → InFuture bodies (CheckInOf f generation number) z → is_among row.future z ≡ true
  future_within z x =
      lies (t.future x.site) row.future z
      (each (λ p. lie_in (t.future p) row.future) ps x.site passes.future
      (in_sites ps x.site (covered_in bodies ps f generation number covered x.site x.covered)))
      (future_in bodies t passed x.site z x.future)

  concrete_at : (p : Site) (z : Bytes) → Covered bodies (CheckInOf f generation number) p → Concrete bodies p z → is_among row.concrete z ≡ true
  concrete_at p z cover x =
      lies (t.concrete p) row.concrete z
      (each (λ p. lie_in (t.concrete p) row.concrete) ps p passes.concrete
      (in_sites ps p (covered_in bodies ps f generation number covered p cover)))
      (concrete_in bodies t passed p z x)

  concrete_within : (z : Bytes) → InConcrete bodies (CheckInOf f generation number) z → is_among row.concrete z ≡ true
  concrete_within z x = by (CheckInOf f generation number) z x refl
    where
      by : (mark : Mark) (z : Bytes) → InConcrete bodies mark z → mark ≡ CheckInOf f generation number → is_among row.concrete z ≡ true
      by _ _ (rows.entering g) same = cc
      by _ _ (rows.InConcrete.covered mark p z cover x) same = concrete_at p z (subst (λ m. Covered bodies m p) same cover) x

  -- so it is the row, if each of its names is one of the mark's
  pub is_row : IsOrdered row → Within bodies (CheckInOf f generation number) row → IsRowOf bodies (CheckInOf f generation number) row
  is_row ordered within = record {
    prior = record { ordered = ordered.prior; same = λ z. (within.prior z, prior_within z) };
    future = record { ordered = ordered.future; same = λ z. (within.future z, future_within z) };
    concrete = record { ordered = ordered.concrete; same = λ z. (within.concrete z, concrete_within z) };
  }

-- when bodies are added, what was in the row of a mark stays there
pub still_within : EachHasARow → RowsGrow → (bodies more : List Body) (mark : Mark) (row : Row) → IsRowOf bodies mark row
    → Within (bodies ++ more) mark row
still_within exists grow bodies more mark row is =
    let later = exists (bodies ++ more) mark in
    let grown = grow bodies more mark row later.0 is later.1 in
    record {
      prior = λ z e. (later.1.prior.same z).0 (grown.prior z e);
      future = λ z e. (later.1.future.same z).0 (grown.future z e);
      concrete = λ z e. (later.1.concrete.same z).0 (grown.concrete z e);
    }

-- each name of a list is one of a family
abbrev pub Each : (Bytes → Type 0) → Names → Type 0
Each In [] = Unit {0}
Each In (n ∷ names) = In n × Each In names

pub each_is_in : (In : Bytes → Type 0) (names : Names) → Each In names → (z : Bytes) → is_among names z ≡ true → In z
each_is_in In [] x z e = cc
each_is_in In (n ∷ names) x z e =
    elim (cases_of z n names e) [ inl same ↦ subst In (sym same) x.0 | inr later ↦ each_is_in In names x.1 z later ]
