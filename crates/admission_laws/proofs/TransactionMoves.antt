-- What is known of a thread in a transaction after its stop and after its enter.
use Rattle.std.proofs.Common.{◌≡◌, ℕ, zero, suc, pred, ◌+◌, ◌<◌, Bool, true, false, not, ◌&&◌, ◌==◌, List, [], ◌∷◌, All, is_some, Option, Some, None, refl, sym, ap, subst, ◌∙◌, arith, option_map}
use Rattle.std.specs.Prelude.{nat_lt}
use Rattle.std.proofs.lemmas.Bool.{false≢true, and_right}
use Rattle.std.proofs.lemmas.Bool.Decides.{nat_tests}
use Rattle.std.proofs.lemmas.List.Elements.{All-nil}
use Rattle.std.proofs.lemmas.Option.{none-some, same_Some}
use Rattle.run_types.specs.Skeleton.{Point, PointKind, direct_use, check_in_after, depth_after, after}
use Rattle.run_types.specs.Skeleton as kind
use Rattle.c_tree.specs.BareExpr.{Bytes}
use Rattle.c_semantics.specs.Stops.{Stop, Begin, End, kind_of}
use Rattle.c_semantics.specs.SourceTexts.{Text}
use Rattle.c_semantics.specs.Store.{store}
use Rattle.c_semantics.specs.Threads.{Enter, Record, Thread}
use Rattle.effects.specs.Sites.{Site, IsKind, Next, Passes, Uses, point_in, is_end, is_outer_end}
use Rattle.source_model.specs.Versions.{Table, current, in_version}
use Rattle.source_model.specs.Uses.{HasVersion, IsConsistent, use_of, recorded_at}
use Rattle.source_model.specs.Worlds.{Closed}
use Rattle.source_model.specs.Moves.{Standing}
use Rattle.admission_laws.specs.SoundTexts.{AllShaped}
use Rattle.admission_laws.specs.Stacks.{Level, Stacked}
use Rattle.admission_laws.specs.Transactions.{HasDepth}
use Rattle.admission_laws.specs.Closures.{GoesFurther}
use Rattle.admission_laws.specs.Closures as closure
use Rattle.admission_laws.specs.InTransactions.{LowerDepth, InTransaction, IsStill, keeps_depth}
use Rattle.admission_laws.proofs.Outcomes.{Records}
use Rattle.admission_laws.proofs.Outcomes as outcome
use Rattle.admission_laws.proofs.PointFacts.{passes_kind}
use Rattle.admission_laws.proofs.Depths.{passes_weaker, depth_kept, further_still, depth_next, depth_still, end_depth}
use Rattle.admission_laws.proofs.TransactionFacts.{versioned_is_consistent}
use Rattle.admission_laws.proofs.TransactionSteps.{to_stop, to_use, stays_at, to_check_in, begins_there, ends_there}

-- a site with what is known there, and how many transactions enclose it in the text of its function
abbrev pub Within : List Text → Table → ℕ → Record → Bool → Site → Option Enter → List Level → Type 0
Within texts table depth uses pinned p due below = (own : ℕ) × InTransaction texts table depth uses pinned p own due below

-- the record of a thread is consistent
pub consistent_in : (texts : List Text) (table : Table) (depth : ℕ) (uses : Record) (pinned : Bool) (p : Site) (own : ℕ) (due : Option Enter)
    (below : List Level) → InTransaction texts table depth uses pinned p own due below → IsConsistent table uses
consistent_in texts table zero uses pinned p own due below x =
    (0, subst (All (HasVersion table 0)) (sym (x.outside refl)) (All-nil (HasVersion table 0)))
consistent_in texts table (suc depth) uses pinned p own due below x =
    versioned_is_consistent texts table pinned p below uses (x.versioned (positive depth))
  where
    positive : (n : ℕ) → 0 < suc n
    positive n = omega arith

-- ---- to a stop

module _ (texts : List Text) (shaped : AllShaped (store texts)) (table : Table) (depth : ℕ) (uses : Record) (pinned : Bool) (p n : Site)
    (own : ℕ) (below : List Level) (x : InTransaction texts table depth uses pinned p own None below) (still : IsStill (store texts) p)
    (stacked : Stacked (store texts) n below) (next : Next (store texts) p n) where
  here : HasDepth (store texts) n own
  here = depth_still (store texts) shaped p n own next still x.here

  -- that uses no name, or a called one, at its enter
  pub comes_to : (due : Option Enter) → InTransaction texts table depth uses pinned n own due below
  comes_to due =
      to_stop texts table depth uses pinned p n own below x (further_still (store texts) p below still) stacked next here due

  pub comes_to_use : (name : Bytes) → Uses (store texts) n name → IsStill (store texts) n → is_some (in_version table (current table) name) ≡ true
      → InTransaction texts table depth (recorded_at depth uses (use_of table name)) pinned n own None below
  comes_to_use name use_of_n still_n defined =
      to_use texts table depth uses pinned p n own below x (further_still (store texts) p below still) stacked next here name use_of_n
      (further_still (store texts) n below still_n) defined

-- ---- from a stop on

-- a stop of a kind that no check-in follows neither begins nor ends a transaction
pub keeps_by : (k : PointKind) → check_in_after k ≡ None → keeps_depth k ≡ true
keeps_by kind.Begin h = absurd (none-some _ (sym h))
keeps_by kind.End h = absurd (none-some _ (sym h))
keeps_by _ h = refl

keeps_stop : (x : Stop) → outcome.keeps_depth x ≡ true → keeps_depth (kind_of x) ≡ true
keeps_stop Begin h = absurd (false≢true h)
keeps_stop End h = absurd (false≢true h)
keeps_stop _ h = refl

module _ (texts : List Text) (table : Table) (s : Standing) (pinned : Bool) (n : Site) (own : ℕ) (below : List Level)
    (x : InTransaction texts table s.thread.depth s.thread.uses pinned n own None below) (after : Thread) (closed : List Closed) where
  abbrev pub After : Site → Type 0
  After q = Within texts table after.depth after.uses (pinned && nat_lt 0 after.depth) q None below

  -- the thread in as many transactions, with that record
  same_thread : (q : Site) (depth : ℕ) (uses : Record) → after.depth ≡ depth → after.uses ≡ uses
      → Within texts table depth uses (pinned && nat_lt 0 depth) q None below → After q
  same_thread q depth uses e f y =
      subst (λ u. Within texts table after.depth u (pinned && nat_lt 0 after.depth) q None below) (sym f)
      (subst (λ d. Within texts table d uses (pinned && nat_lt 0 d) q None below) (sym e) y)

  -- where no check-in follows
  pub remains : (y : Stop) → Records s after closed y → check_in_after (kind_of y) ≡ None → After n
  remains _ (outcome.stay y keeps e f c) none =
      same_thread n s.thread.depth s.thread.uses e f
      (own, stays_at texts table s.thread.depth s.thread.uses pinned n own None below x)
  remains _ (outcome.begins e d u c) none = absurd (none-some _ (sym none))
  remains _ (outcome.deeper k e d u c) none = absurd (none-some _ (sym none))
  remains _ (outcome.close e d u c) none = absurd (none-some _ (sym none))
  remains _ (outcome.shallower k e d u c) none = absurd (none-some _ (sym none))

  module _ (shaped : AllShaped (store texts)) (q : Site) (stacked : Stacked (store texts) q below) (next : Next (store texts) n q) where
    there : (y : Stop) → IsKind (store texts) n (kind_of y) → HasDepth (store texts) q (depth_after (kind_of y) own)
    there y is = depth_next (store texts) shaped n q (kind_of y) own next is x.here

    -- the end of an inner transaction
    inner_end : (d : ℕ) → s.thread.depth ≡ suc (suc d) → GoesFurther (store texts) n below
    inner_end d e = by own below x.here x.lower x.lower_is (sym x.total ∙ e)
      where
        outer : (m : ℕ) → (suc (suc m) == 1) ≡ false
        outer m = grind (arith, nat_tests)

        not_outer : (m : ℕ) → HasDepth (store texts) n (suc (suc m)) → Passes (store texts) n (λ at. not (is_outer_end at))
        not_outer m has = record { passes = by_point (point_in (store texts) n) has.has_depth }
          where
            by_point : (o : Option Point) → option_map (λ at. at.depth) o ≡ Some (suc (suc m)) → option_map (λ at. not (is_outer_end at)) o ≡ Some true
            by_point None e = absurd (none-some _ e)
            by_point (Some at) e =
                ap (λ b. Some (not b)) (and_right (is_end at.kind) (at.depth == 1) (ap (λ k. k == 1) (same_Some _ _ e) ∙ outer m))

        deep : (low m : ℕ) → zero + low ≡ suc (suc m) → 0 < low
        deep low m e = omega (arith, e)

        one_deep : (low m : ℕ) → 1 + low ≡ suc (suc m) → 0 < low
        one_deep low m e = omega (arith, e)

        zero_low : (low : ℕ) → low ≡ 0 → 0 < low → ⊥
        zero_low low e h = omega (arith, e, h)

        by_lower : (ls : List Level) (low : ℕ) → LowerDepth (store texts) ls low → 0 < low → GoesFurther (store texts) n ls
        by_lower [] low is h = absurd (zero_low low is h)
        by_lower (c ∷ ls) low is h = closure.within n c ls low is h

        by : (m : ℕ) (ls : List Level) → HasDepth (store texts) n m → (low : ℕ) → LowerDepth (store texts) ls low → m + low ≡ suc (suc d)
            → GoesFurther (store texts) n ls
        by zero ls has low is e = by_lower ls low is (deep low d e)
        by (suc zero) ls has low is e = by_lower ls low is (one_deep low d e)
        by (suc (suc m)) ls has low is e = closure.no_end n ls (not_outer m has)

    -- to the check-in that follows
    pub led : (y : Stop) → IsKind (store texts) n (kind_of y) → Records s after closed y → After q
    led _ is (outcome.stay y keeps e f c) =
        same_thread q s.thread.depth s.thread.uses e f (
          depth_after (kind_of y) own,
          to_check_in texts table s.thread.depth s.thread.depth s.thread.uses pinned n q own (depth_after (kind_of y) own) below x stacked next
              (further_still (store texts) n below (passes_kind (store texts) n (kind_of y) keeps_depth is (keeps_stop y keeps)))
              (there y is) (λ h. h) (x.total ∙ ap (λ d. d + x.lower) (sym (depth_kept (kind_of y) own (keeps_stop y keeps)))) x.outside,
        )
    led _ is (outcome.begins e d u c) =
        same_thread q 1 [] d u
        (suc own, begins_there texts table s.thread.depth s.thread.uses pinned n q own None below x e (there Begin is))
    led _ is (outcome.deeper k e d u c) =
        same_thread q (suc (suc k)) s.thread.uses d u (
          suc own,
          to_check_in texts table s.thread.depth (suc (suc k)) s.thread.uses pinned n q own (suc own) below x stacked next
              (closure.no_end n below
              (passes_weaker (store texts) n (λ at. not (is_end at.kind)) (λ at. not (is_outer_end at)) (λ at h. not_end at h)
              (passes_kind (store texts) n kind.Begin (λ k. not (is_end k)) is refl)))
              (there Begin is) (λ h. was k s.thread.depth e) (more k own x.lower s.thread.depth e x.total) (λ h. absurd (never (suc k) h)),
        )
      where
        not_end : (at : Point) → not (is_end at.kind) ≡ true → not (is_outer_end at) ≡ true
        not_end at h = by (is_end at.kind) h
          where
            by : (b : Bool) → not b ≡ true → not (b && at.depth == 1) ≡ true
            by true h = absurd (false≢true h)
            by false h = refl

        was : (k depth : ℕ) → depth ≡ suc k → 0 < depth
        was k depth e = omega (arith, e)

        more : (k m low depth : ℕ) → depth ≡ suc k → depth ≡ m + low → suc (suc k) ≡ suc m + low
        more k m low depth e f = omega (arith, e, f)

        never : (k : ℕ) → suc k ≡ 0 → ⊥
        never k e = omega (arith, e)
    led _ is (outcome.close e d u c) =
        same_thread q 0 [] d u (
          pred own,
          ends_there texts table s.thread.depth s.thread.uses pinned n q own (pred own) None below x (there End is)
              (none own x.lower s.thread.depth e x.total (end_depth (store texts) shaped n own is x.here)),
        )
      where
        none : (m low depth : ℕ) → depth ≡ 1 → depth ≡ m + low → 0 < m → 0 ≡ pred m + low
        none zero low depth e f h = absurd (omega (arith, h))
        none (suc m) low depth e f h = omega (arith, e, f)
    led _ is (outcome.shallower k e d u c) =
        same_thread q (suc k) s.thread.uses d u (
          pred own,
          to_check_in texts table s.thread.depth (suc k) s.thread.uses pinned n q own (pred own) below x stacked next
              (inner_end k e) (there End is) (λ h. was k s.thread.depth e)
              (less k own x.lower s.thread.depth e x.total (end_depth (store texts) shaped n own is x.here)) (λ h. absurd (never k h)),
        )
      where
        was : (k depth : ℕ) → depth ≡ suc (suc k) → 0 < depth
        was k depth e = omega (arith, e)

        less : (k m low depth : ℕ) → depth ≡ suc (suc k) → depth ≡ m + low → 0 < m → suc k ≡ pred m + low
        less k zero low depth e f h = absurd (omega (arith, h))
        less k (suc m) low depth e f h = omega (arith, e, f)

        never : (k : ℕ) → suc k ≡ 0 → ⊥
        never k e = omega (arith, e)
