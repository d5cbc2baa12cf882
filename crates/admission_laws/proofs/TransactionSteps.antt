-- What is known of a thread in a transaction stays so where it goes on.
use Rattle.std.proofs.Common.{◌≡◌, ℕ, zero, suc, ◌+◌, ◌<◌, Bool, true, false, ◌&&◌, List, [], ◌∷◌, All, slice_get, is_some, Option, Some, None, refl, sym, ap, subst, ◌∙◌, arith, add-zero, zero-add}
use Rattle.std.specs.Prelude.{nat_lt}
use Rattle.std.proofs.lemmas.Bool.{false≢true, and_parts, lt-ltb, ltb-true}
use Rattle.std.proofs.lemmas.List.Elements.{All-nil, All-push, All-weaker}
use Rattle.std.proofs.lemmas.Option.{same_Some}
use Rattle.c_tree.specs.BareExpr.{Bytes}
use Rattle.c_semantics.specs.SourceTexts.{Text}
use Rattle.c_semantics.specs.Store.{Body, store}
use Rattle.c_semantics.specs.Threads.{Enter, Record, Use}
use Rattle.effects.specs.Sites.{Site, IsOf, IsEntry, IsKind, Next, Uses, after_call}
use Rattle.effects.specs.Nested.{Nested, Inside}
use Rattle.source_model.specs.Versions.{Table, current, in_version}
use Rattle.source_model.specs.Uses.{HasVersion, use_of, recorded_at}
use Rattle.run_types.specs.Skeleton.{Return}
use Rattle.run_types.specs.Skeleton as kind
use Rattle.admission_laws.specs.SoundTexts.{IsInForce, is_function, now_in}
use Rattle.admission_laws.specs.Stacks.{Level, AtCall, Stacked}
use Rattle.admission_laws.specs.Transactions.{HasDepth, Depth, Known}
use Rattle.admission_laws.specs.Transactions as transaction
use Rattle.admission_laws.specs.Closures.{GoesFurther, Ahead}
use Rattle.admission_laws.specs.Closures as closure
use Rattle.admission_laws.specs.InTransactions.{LowerDepth, AreVersioned, InTransaction}
use Rattle.admission_laws.proofs.PointFacts.{uses_by_kind}
use Rattle.admission_laws.proofs.RecordedNames.{inside_by, nested_by, function_at, used_here, known_next, known_entered, known_function, known_returned}
use Rattle.admission_laws.proofs.ClosureFacts.{ahead_before_enter}
use Rattle.admission_laws.proofs.EntryVersions.{current_has}

-- ---- depths

-- the depth at a site, by its own and those below
pub depth_at : (bodies : List Body) (p : Site) (own : ℕ) (below : List Level) (n : ℕ) → HasDepth bodies p own → LowerDepth bodies below n
    → Depth bodies p below (own + n)
depth_at bodies p own [] n here lower =
    subst (Depth bodies p []) (sym (ap (λ m. own + m) lower ∙ add-zero own)) (transaction.bottom p own here)
depth_at bodies p own (c ∷ below) n here lower = transaction.above p own c below n here lower

pub record DepthParts (bodies : List Body) (p : Site) (below : List Level) (n : ℕ) : Type 0 where
  pub own : ℕ
  pub here : HasDepth bodies p own
  pub lower : ℕ
  pub lower_is : LowerDepth bodies below lower
  pub sum : n ≡ own + lower

pub depth_parts : (bodies : List Body) (p : Site) (below : List Level) (n : ℕ) → Depth bodies p below n → DepthParts bodies p below n
depth_parts bodies _ _ _ (transaction.bottom p d here) = record { own = d; here = here; lower = 0; lower_is = refl; sum = sym (add-zero d) }
depth_parts bodies _ _ _ (transaction.above p d c below n here rest) =
    record { own = d; here = here; lower = n; lower_is = rest; sum = refl }

pub one_depth : (bodies : List Body) (p : Site) (a b : ℕ) → HasDepth bodies p a → HasDepth bodies p b → a ≡ b
one_depth bodies p a b x y = same_Some _ _ (sym x.has_depth ∙ y.has_depth)

-- ---- versions of records

-- a record with a use more
recorded_all : (P : Use → Type 0) (depth : ℕ) (uses : Record) (u : Use) → All P uses → P u → All P (recorded_at depth uses u)
recorded_all P zero uses u all new = all
recorded_all P (suc depth) uses u all new = All-push P uses u all new

pub none_recorded : (depth : ℕ) (uses : Record) (u : Use) → depth ≡ 0 → uses ≡ [] → recorded_at depth uses u ≡ []
none_recorded zero uses u e none = none
none_recorded (suc depth) uses u e none = cc

-- where less is ahead
pub versioned_on : (texts : List Text) (table : Table) (pinned : Bool) (p q : Site) (below ls : List Level) (uses : Record)
    → ((name : Bytes) → Ahead texts q ls name → Ahead texts p below name) → AreVersioned texts table pinned p below uses
    → AreVersioned texts table pinned q ls uses
versioned_on texts table false p q below ls uses less h = h
versioned_on texts table true p q below ls uses less h =
    record { version = h.version; recorded = h.recorded; ahead = λ name x. h.ahead name (less name x) }

-- where a name that is ahead is used rightly
pub versioned_use : (texts : List Text) (table : Table) (pinned : Bool) (p : Site) (below : List Level) (depth : ℕ) (uses : Record)
    (name : Bytes) → is_some (in_version table (current table) name) ≡ true → Ahead texts p below name
    → AreVersioned texts table pinned p below uses → AreVersioned texts table pinned p below (recorded_at depth uses (use_of table name))
versioned_use texts table false p below depth uses name defined ahead h =
    recorded_all (HasVersion table (current table)) depth uses (use_of table name) h (current_has table name defined)
versioned_use texts table true p below depth uses name defined ahead h = record {
  version = h.version;
  recorded = recorded_all (HasVersion table h.version) depth uses (use_of table name) h.recorded (h.ahead name ahead);
  ahead = h.ahead;
}

-- the pin after a move
still_pinned : (pinned : Bool) (depth : ℕ) → 0 < depth → (pinned && nat_lt 0 depth) ≡ pinned
still_pinned true depth h = lt-ltb 0 depth h
still_pinned false depth h = refl

pin_after : (pinned : Bool) (depth : ℕ) → (pinned && nat_lt 0 depth) ≡ true → 0 < depth
pin_after pinned depth h = ltb-true 0 depth (and_parts pinned (nat_lt 0 depth) h).1

moved_versioned : (texts : List Text) (table : Table) (pinned : Bool) (depth : ℕ) (p : Site) (below : List Level) (uses : Record) → 0 < depth
    → AreVersioned texts table pinned p below uses → AreVersioned texts table (pinned && nat_lt 0 depth) p below uses
moved_versioned texts table pinned depth p below uses h x =
    subst (λ b. AreVersioned texts table b p below uses) (sym (still_pinned pinned depth h)) x

-- ---- to a stop

module _ (texts : List Text) (table : Table) (depth : ℕ) (uses : Record) (pinned : Bool) (p n : Site) (own : ℕ) (below : List Level)
    (x : InTransaction texts table depth uses pinned p own None below) (further_p : GoesFurther (store texts) p below)
    (stacked : Stacked (store texts) n below)
    (next : Next (store texts) p n) (here : HasDepth (store texts) n own) where
  inside_there : 0 < depth → Inside (store texts) n
  inside_there h =
      inside_by (store texts) n below (own + x.lower) (depth_at (store texts) n own below x.lower here x.lower_is)
      (subst (λ d. 0 < d) x.total h) stacked

  still_ahead : (name : Bytes) → Ahead texts n below name → Ahead texts p below name
  still_ahead name a = closure.later p n below name further_p next a

  -- that uses no name
  pub to_stop : (due : Option Enter) → InTransaction texts table depth uses pinned n own due below
  to_stop due = record {
    here = here;
    lower = x.lower;
    lower_is = x.lower_is;
    total = x.total;
    known = λ h.
        All-weaker (λ u. Known (store texts) p None below u.name) (λ u. Known (store texts) n due below u.name)
        (λ u k. known_next (store texts) p n due below u.name (inside_there h) next k) uses (x.known h);
    versioned = λ h. versioned_on texts table pinned p n below below uses still_ahead (x.versioned h);
    outside = x.outside;
    pin = x.pin;
  }

  -- that uses a name
  pub to_use : (name : Bytes) → Uses (store texts) n name → GoesFurther (store texts) n below
      → is_some (in_version table (current table) name) ≡ true
      → InTransaction texts table depth (recorded_at depth uses (use_of table name)) pinned n own None below
  to_use name use_of_n further defined =
      let t = to_stop None in
      let f = function_at (store texts) n below stacked in
      record {
        here = here;
        lower = x.lower;
        lower_is = x.lower_is;
        total = x.total;
        known = λ h.
            recorded_all (λ u. Known (store texts) n None below u.name) depth uses (use_of table name) (t.known h)
            (used_here (store texts) n below f.0 name stacked f.1 use_of_n);
        versioned = λ h.
            versioned_use texts table pinned n below depth uses name defined (closure.Ahead.used n below name further use_of_n) (t.versioned h);
        outside = λ e. none_recorded depth uses (use_of table name) e (x.outside e);
        pin = x.pin;
      }

-- ---- from a stop

-- a stop that no check-in follows: the thread stays in as many transactions
pub stays_at : (texts : List Text) (table : Table) (depth : ℕ) (uses : Record) (pinned : Bool) (n : Site) (own : ℕ) (due : Option Enter)
    (below : List Level) → InTransaction texts table depth uses pinned n own due below
    → InTransaction texts table depth uses (pinned && nat_lt 0 depth) n own due below
stays_at texts table depth uses pinned n own due below x = record {
  here = x.here;
  lower = x.lower;
  lower_is = x.lower_is;
  total = x.total;
  known = x.known;
  versioned = λ h. moved_versioned texts table pinned depth n below uses h (x.versioned h);
  outside = x.outside;
  pin = pin_after pinned depth;
}

-- to the check-in that follows, still in a transaction
pub to_check_in : (texts : List Text) (table : Table) (depth after : ℕ) (uses : Record) (pinned : Bool) (n q : Site) (own behind : ℕ)
    (below : List Level) → (x : InTransaction texts table depth uses pinned n own None below) → Stacked (store texts) q below
    → Next (store texts) n q → GoesFurther (store texts) n below → HasDepth (store texts) q behind → (0 < after → 0 < depth)
    → after ≡ behind + x.lower → (after ≡ 0 → uses ≡ [])
    → InTransaction texts table after uses (pinned && nat_lt 0 after) q behind None below
to_check_in texts table depth after uses pinned n q own behind below x stacked next further here was sum outside = record {
  here = here;
  lower = x.lower;
  lower_is = x.lower_is;
  total = sum;
  known = λ h.
      All-weaker (λ u. Known (store texts) n None below u.name) (λ u. Known (store texts) q None below u.name)
      (λ u k. known_next (store texts) n q None below u.name (inside h) next k) uses (x.known (was h));
  versioned = λ h.
      moved_versioned texts table pinned after q below uses h
      (versioned_on texts table pinned n q below below uses (λ name a. closure.later n q below name further next a) (x.versioned (was h)));
  outside = outside;
  pin = pin_after pinned after;
}
  where
    inside : 0 < after → Inside (store texts) q
    inside h =
        inside_by (store texts) q below (behind + x.lower) (depth_at (store texts) q behind below x.lower here x.lower_is)
        (subst (λ d. 0 < d) sum h) stacked

-- the outermost transaction begins: nothing is recorded yet
not_pinned : (b : Bool) (depth : ℕ) → (b ≡ true → 0 < depth) → depth ≡ 0 → b ≡ false
not_pinned false depth pin e = refl
not_pinned true depth pin e = absurd (none (subst (λ d. 0 < d) e (pin refl)))
  where
    none : 0 < 0 → ⊥
    none h = omega (arith, h)

pub begins_there : (texts : List Text) (table : Table) (depth : ℕ) (uses : Record) (pinned : Bool) (n q : Site) (own : ℕ)
    (due : Option Enter) (below : List Level) → (x : InTransaction texts table depth uses pinned n own due below) → depth ≡ 0
    → HasDepth (store texts) q (suc own) → InTransaction texts table 1 [] (pinned && nat_lt 0 1) q (suc own) None below
begins_there texts table depth uses pinned n q own due below x e here = record {
  here = here;
  lower = x.lower;
  lower_is = x.lower_is;
  total = one own x.lower (sym x.total ∙ e);
  known = λ h. All-nil (λ u. Known (store texts) q None below u.name);
  versioned = λ h.
      subst (λ b. AreVersioned texts table (b && nat_lt 0 1) q below []) (sym (not_pinned pinned depth x.pin e))
      (All-nil (HasVersion table (current table)));
  outside = λ h. refl;
  pin = pin_after pinned 1;
}
  where
    one : (a b : ℕ) → a + b ≡ 0 → 1 ≡ suc a + b
    one a b h = omega (arith, h)

-- and ends
pub ends_there : (texts : List Text) (table : Table) (depth : ℕ) (uses : Record) (pinned : Bool) (n q : Site) (own behind : ℕ)
    (due : Option Enter) (below : List Level) → (x : InTransaction texts table depth uses pinned n own due below)
    → HasDepth (store texts) q behind → 0 ≡ behind + x.lower → InTransaction texts table 0 [] (pinned && nat_lt 0 0) q behind None below
ends_there texts table depth uses pinned n q own behind due below x here sum = record {
  here = here;
  lower = x.lower;
  lower_is = x.lower_is;
  total = sum;
  known = λ h. absurd (none h);
  versioned = λ h. absurd (none h);
  outside = λ h. refl;
  pin = pin_after pinned 0;
}
  where
    none : 0 < 0 → ⊥
    none h = omega (arith, h)

-- ---- into a function, and back

-- a started thread, at the entry of its function
pub starts_there : (texts : List Text) (table : Table) (depth : ℕ) (uses : Record) (pinned : Bool) (at : Site) → depth ≡ 0 → uses ≡ []
    → pinned ≡ false → HasDepth (store texts) at 0 → InTransaction texts table depth uses pinned at 0 None []
starts_there texts table depth uses pinned at outside none unpinned here = record {
  here = here;
  lower = 0;
  lower_is = refl;
  total = outside;
  known = λ h. absurd (zero_depth depth outside h);
  versioned = λ h. absurd (zero_depth depth outside h);
  outside = λ h. none;
  pin = λ h. absurd (false≢true (sym unpinned ∙ h));
}
  where
    zero_depth : (d : ℕ) → d ≡ 0 → 0 < d → ⊥
    zero_depth d e h = omega (arith, e, h)

-- from a call to the entry of the function, whose use is recorded
pub enters_there : (texts : List Text) (table : Table) (depth : ℕ) (uses : Record) (pinned : Bool) (c : Level) (at : Site) (own : ℕ) (e : Enter)
    (b : Body) (below : List Level) → (x : InTransaction texts table depth uses pinned c.site own (Some e) below)
    → Stacked (store texts) c.site below → AtCall (store texts) c.site e.function → GoesFurther (store texts) c.site below
    → IsEntry (store texts) at e.function → HasDepth (store texts) at 0 → IsInForce texts e.function b
    → slice_get (store texts) at.body ≡ Some b → is_function (now_in texts e.function) ≡ true
    → is_some (in_version table (current table) e.function) ≡ true
    → InTransaction texts table depth (recorded_at depth uses (use_of table e.function)) (pinned && nat_lt 0 depth) at 0 None (c ∷ below)
enters_there texts table depth uses pinned c at own e b below x stacked call further entry here in_force stored is defined = record {
  here = here;
  lower = own + x.lower;
  lower_is = total_depth;
  total = x.total ∙ sym (zero-add (own + x.lower));
  known = λ h.
      recorded_all (λ u. Known (store texts) at None (c ∷ below) u.name) depth uses (use_of table e.function)
      (All-weaker (λ u. Known (store texts) c.site (Some e) below u.name) (λ u. Known (store texts) at None (c ∷ below) u.name)
      (λ u k. known_entered (store texts) c at e below u.name (inside h) (nested h) call.call entry k) uses (x.known h))
      (known_function (store texts) c at e below f.0 (nested h) call.call entry stacked f.1);
  versioned = λ h.
      moved_versioned texts table pinned depth at (c ∷ below) (recorded_at depth uses (use_of table e.function)) h
      (versioned_on texts table pinned c.site at below (c ∷ below) (recorded_at depth uses (use_of table e.function))
      (λ name a. ahead_before_enter texts e.function b at c below name in_force stored further call.call is call.next a)
      (versioned_use texts table pinned c.site below depth uses e.function defined
      (closure.Ahead.used c.site below e.function further
      (uses_by_kind (store texts) c.site (kind.Call e.function) e.function call.call refl)) (x.versioned h)));
  outside = λ h. none_recorded depth uses (use_of table e.function) h (x.outside h);
  pin = pin_after pinned depth;
}
  where
    total_depth : Depth (store texts) c.site below (own + x.lower)
    total_depth = depth_at (store texts) c.site own below x.lower x.here x.lower_is

    f : (f : Bytes) × IsOf (store texts) c.site f
    f = function_at (store texts) c.site below stacked

    inside : 0 < depth → Inside (store texts) c.site
    inside h = inside_by (store texts) c.site below (own + x.lower) total_depth (subst (λ d. 0 < d) x.total h) stacked

    nested : 0 < depth → Nested (store texts) e.function
    nested h = nested_by (store texts) c.site below (own + x.lower) e.function total_depth (subst (λ d. 0 < d) x.total h) stacked call.call

-- from a return, in none of its function's transactions, to the check-in after the call
pub returns_there : (texts : List Text) (table : Table) (depth : ℕ) (uses : Record) (pinned : Bool) (r : Site) (c : Level) (own : ℕ)
    (below : List Level) → InTransaction texts table depth uses pinned r 0 None (c ∷ below) → Stacked (store texts) (after_call c.site) below
    → Next (store texts) c.site (after_call c.site) → IsKind (store texts) r Return → HasDepth (store texts) c.site own
    → HasDepth (store texts) (after_call c.site) own
    → InTransaction texts table depth uses (pinned && nat_lt 0 depth) (after_call c.site) own None below
returns_there texts table depth uses pinned r c own below x stacked next ret here there = record {
  here = there;
  lower = parts.lower;
  lower_is = parts.lower_is;
  total = sum;
  known = λ h.
      All-weaker (λ u. Known (store texts) r None (c ∷ below) u.name) (λ u. Known (store texts) (after_call c.site) None below u.name)
      (λ u k. known_returned (store texts) r c below x.lower u.name x.lower_is (subst (λ d. 0 < d) total h) (inside h) next k) uses (x.known h);
  versioned = λ h.
      moved_versioned texts table pinned depth (after_call c.site) below uses h
      (versioned_on texts table pinned r (after_call c.site) (c ∷ below) below uses
      (λ name a. closure.returned r c below name ret a) (x.versioned h));
  outside = x.outside;
  pin = pin_after pinned depth;
}
  where
    total : depth ≡ x.lower
    total = x.total ∙ zero-add x.lower

    parts : DepthParts (store texts) c.site below x.lower
    parts = depth_parts (store texts) c.site below x.lower x.lower_is

    sum : depth ≡ own + parts.lower
    sum = total ∙ parts.sum ∙ ap (λ d. d + parts.lower) (one_depth (store texts) c.site parts.own own parts.here here)

    inside : 0 < depth → Inside (store texts) (after_call c.site)
    inside h =
        inside_by (store texts) (after_call c.site) below (own + parts.lower)
        (depth_at (store texts) (after_call c.site) own below parts.lower there parts.lower_is) (subst (λ d. 0 < d) sum h) stacked
