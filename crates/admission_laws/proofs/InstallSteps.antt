-- What is known of a thread in a transaction stays so where an admitted patch is installed.
use Rattle.std.proofs.Common.{◌≡◌, ℕ, suc, ◌⊎◌, inl, inr, Bool, true, false, not, ◌&&◌, ◌||◌, List, [], ◌∷◌, ◌++◌, All, Contains, slice_get, is_some, option_map, Option, Some, None, refl, sym, ap, ap₂, subst, ◌∙◌}
use Rattle.std.specs.Option.{option_and_then}
use Rattle.std.proofs.lemmas.Bool.{false≢true}
use Rattle.std.proofs.lemmas.List.Elements.{All-weaker, All-contains, All-contains_itself}
use Rattle.std.proofs.lemmas.Option.{same_Some}
use Rattle.run_types.specs.Skeleton.{Call, Return, direct_use, kind_at}
use Rattle.c_tree.specs.BareExpr.{Bytes}
use Rattle.c_tree.specs.BareDef.{BareDef, Function}
use Rattle.c_semantics.specs.Changes.{changed, same_definition, agree}
use Rattle.c_semantics.specs.Texts.{definition}
use Rattle.c_semantics.specs.SourceTexts.{Text}
use Rattle.c_semantics.specs.Store.{Body, store}
use Rattle.c_semantics.specs.Threads.{Enter, Record}
use Rattle.name_sets.specs.NameLists.{is_among}
use Rattle.effects.specs.Sites.{Site, IsCall, IsKind, Next, Passes, Uses, after_call, is_outer_end}
use Rattle.effects.specs.Standard.{Adds}
use Rattle.effects.specs.Standard as standard
use Rattle.effects.specs.Contextual.{Prior}
use Rattle.effects.proofs.Points.{next_is_to_point}
use Rattle.effects.proofs.Growing.{prior_grows, standard_grows}
use Rattle.source_model.specs.Versions.{Table, current, in_version, next_table}
use Rattle.source_model.specs.Uses.{HasVersion, use_of}
use Rattle.version_laws.specs.Histories.{last_text}
use Rattle.definition_laws.proofs.Names.{among_names}
use Rattle.version_laws.proofs.DefinedNames.{stays_where_same}
use Rattle.version_laws.proofs.TableHistories.{last_is_next}
use Rattle.admission_laws.specs.SoundTexts.{IsSound, BodiesStay, is_function, definitions_of, now_in}
use Rattle.admission_laws.specs.Stacks.{Level, Stacked, MayUse}
use Rattle.admission_laws.specs.Stacks as stacks
use Rattle.admission_laws.specs.Transactions.{HasDepth, Depth, Known, KnownBelow}
use Rattle.admission_laws.specs.Transactions as transaction
use Rattle.admission_laws.specs.Closures.{ToUse, GoesFurther, Ahead}
use Rattle.admission_laws.specs.Closures as closure
use Rattle.admission_laws.specs.InTransactions.{LowerDepth, Shares, AreVersioned}
use Rattle.admission_laws.proofs.PointFacts.{uses_by_kind}
use Rattle.admission_laws.proofs.StackUses.{above_of, stacked_at}
use Rattle.admission_laws.proofs.LargerStores.{is_kind as kind_more, uses_more, stored_at, kind_before, next_before, same_point, uses_before, passes_before}
use Rattle.admission_laws.proofs.LaterTexts.{grows, definitions_more}
use Rattle.admission_laws.proofs.RightUses.{last_by_name}
use Rattle.admission_laws.proofs.EntryVersions.{version_stays, version_follows, stays_by, use_stays, current_has, current_defined}

-- a name that a text leaves as it is
abbrev pub Left : List Text → Text → Bytes → Type 0
Left texts q name = is_among (changed (last_text (definitions_of texts)) q.definitions) name ≡ false

-- ---- depths

depth_before : (bodies more : List Body) (p : Site) (below : List Level) (n : ℕ) → Depth (bodies ++ more) p below n → Stacked bodies p below
    → Depth bodies p below n
depth_before bodies more _ _ _ (transaction.bottom p d has) stacked =
    let b = stored_at bodies p [] stacked in
    transaction.bottom p d
    (record { has_depth = ap (option_map (λ at. at.depth)) (sym (same_point bodies more p b.body b.stored)) ∙ has.has_depth })
depth_before bodies more _ _ _ (transaction.above p d c below n has rest) stacked =
    let b = stored_at bodies p (c ∷ below) stacked in
    let a = above_of bodies p c below stacked in
    transaction.above p d c below n
    (record { has_depth = ap (option_map (λ at. at.depth)) (sym (same_point bodies more p b.body b.stored)) ∙ has.has_depth })
    (depth_before bodies more c.site below n rest a.under)

has_depth_more : (bodies more : List Body) (p : Site) (b : Body) (d : ℕ) → slice_get bodies p.body ≡ Some b → HasDepth bodies p d
    → HasDepth (bodies ++ more) p d
has_depth_more bodies more p b d stored has =
    record { has_depth = ap (option_map (λ at. at.depth)) (same_point bodies more p b stored) ∙ has.has_depth }

depth_more : (bodies more : List Body) (p : Site) (below : List Level) (n : ℕ) → Depth bodies p below n → Stacked bodies p below
    → Depth (bodies ++ more) p below n
depth_more bodies more _ _ _ (transaction.bottom p d has) stacked =
    let b = stored_at bodies p [] stacked in transaction.bottom p d (has_depth_more bodies more p b.body d b.stored has)
depth_more bodies more _ _ _ (transaction.above p d c below n has rest) stacked =
    let b = stored_at bodies p (c ∷ below) stacked in
    let a = above_of bodies p c below stacked in
    transaction.above p d c below n (has_depth_more bodies more p b.body d b.stored has) (depth_more bodies more c.site below n rest a.under)

pub own_more : (bodies more : List Body) (p : Site) (below : List Level) (d : ℕ) → Stacked bodies p below → HasDepth bodies p d
    → HasDepth (bodies ++ more) p d
own_more bodies more p below d stacked has =
    let b = stored_at bodies p below stacked in has_depth_more bodies more p b.body d b.stored has

pub lower_more : (bodies more : List Body) (p : Site) (below : List Level) (n : ℕ) → Stacked bodies p below → LowerDepth bodies below n
    → LowerDepth (bodies ++ more) below n
lower_more bodies more p [] n stacked e = e
lower_more bodies more p (c ∷ below) n stacked depth = depth_more bodies more c.site below n depth (above_of bodies p c below stacked).under

-- ---- what is ahead, before

function_back : (a b : BareDef) → same_definition a b ≡ true → is_function (Some b) ≡ true → is_function (Some a) ≡ true
function_back (Function r name ps body) _ h i = refl
function_back _ (Function r name ps body) h i = absurd (false≢true h)
function_back _ _ h i = absurd (false≢true i)

functions_back : (a b : Option BareDef) → agree same_definition a b ≡ true → is_function b ≡ true → is_function a ≡ true
functions_back None b h i = absurd (false≢true h)
functions_back (Some a) None h i = absurd (false≢true h)
functions_back (Some a) (Some b) h i = function_back a b h i

module _ (texts : List Text) (q : Text) where
  newest_is : (name : Bytes) → now_in (texts ++ q ∷ []) name ≡ definition q.definitions name
  newest_is name =
      sym (last_by_name (texts ++ q ∷ []) name)
      ∙ ap (λ text. definition text name) (ap last_text (definitions_more texts q) ∙ last_is_next (definitions_of texts) q.definitions)

  defined_last : (name : Bytes) → is_some (now_in texts name) ≡ true → is_some (definition (last_text (definitions_of texts)) name) ≡ true
  defined_last name h = ap is_some (last_by_name texts name) ∙ h

  -- a function that is left was one before
  function_before : (f : Bytes) → is_some (now_in texts f) ≡ true → Left texts q f → is_function (now_in (texts ++ q ∷ []) f) ≡ true
      → is_function (now_in texts f) ≡ true
  function_before f defined left is =
      subst (λ o. is_function o ≡ true) (last_by_name texts f)
      (functions_back (definition (last_text (definitions_of texts)) f) (definition q.definitions f)
      (sym (stays_where_same (last_text (definitions_of texts)) q.definitions f)
      ∙ ap₂ (λ a b. a && not b) (among_names (last_text (definitions_of texts)) f ∙ defined_last f defined) left)
      (subst (λ o. is_function o ≡ true) (newest_is f) is))

module _ (texts : List Text) (q : Text) (sound : IsSound texts) (stay : BodiesStay texts q) where
  pub to_use_before : (f name : Bytes) → ToUse (texts ++ q ∷ []) f name → is_function (now_in texts f) ≡ true → Left texts q f
      → ((z : Bytes) → ToUse texts f z → Left texts q z) → ToUse texts f name
  to_use_before _ _ (closure.ToUse.used f name b n k in_force is use_of) is_f left all =
      let before = stay f b is_f left (λ a m j z x at y. all z (closure.ToUse.used f z a m j x at y)) in_force in
      closure.ToUse.used f name b n k before is use_of
  to_use_before _ _ (closure.ToUse.called f g name b n in_force is rest) is_f left all =
      let before = stay f b is_f left (λ a m j z x at y. all z (closure.ToUse.used f z a m j x at y)) in_force in
      let y = sound.in_force f is_f in
      let same = same_Some y.body b (sym y.found ∙ before.found) in
      closure.ToUse.called f g name b n before is
      (to_use_before g name rest
      (sound.calls f g n (subst (λ s. kind_at s n ≡ Some (Call g)) (sym (ap (λ x. x.skeleton) same) ∙ y.skeleton_is) is))
      (all g (closure.ToUse.used f g b n (Call g) before is refl))
      (λ z x. all z (closure.ToUse.called f g z b n before is x)))

  -- a point of the larger store
  further_before : (p : Site) (below : List Level) → GoesFurther (store (texts ++ q ∷ [])) p below → Stacked (store texts) p below
      → GoesFurther (store texts) p below
  further_before _ _ (closure.no_end p below x) stacked =
      let b = stored_at (store texts) p below stacked in
      closure.no_end p below
      (passes_before (store texts) (grows texts q).more p b.body _ b.stored
      (subst (λ s. Passes s p (λ at. not (is_outer_end at))) (grows texts q).grows x))
  further_before _ _ (closure.within p c below n depth positive) stacked =
      let a = above_of (store texts) p c below stacked in
      closure.within p c below n
      (depth_before (store texts) (grows texts q).more c.site below n (subst (λ s. Depth s c.site below n) (grows texts q).grows depth) a.under)
      positive

  pub ahead_before : (p : Site) (below : List Level) (name : Bytes) → Ahead (texts ++ q ∷ []) p below name → Stacked (store texts) p below
      → (v : ℕ) → ((u : ℕ) (z : Bytes) → MayUse (store texts) p v below u z → is_some (now_in texts z) ≡ true)
      → ((z : Bytes) → Ahead texts p below z → Left texts q z) → Ahead texts p below name
  ahead_before _ _ _ (closure.Ahead.used p below name goes uses) stacked v defined all =
      let b = stored_at (store texts) p below stacked in
      closure.Ahead.used p below name (further_before p below goes stacked)
      (uses_before (store texts) (grows texts q).more p b.body name b.stored (subst (λ s. Uses s p name) (grows texts q).grows uses))
  ahead_before _ _ _ (closure.Ahead.called p below f name goes call is to_use) stacked v defined all =
      let b = stored_at (store texts) p below stacked in
      let goes' = further_before p below goes stacked in
      let call' = kind_before (store texts) (grows texts q).more p b.body (Call f) b.stored (subst (λ s. IsCall s p f) (grows texts q).grows call) in
      let uses = uses_by_kind (store texts) p (Call f) f call' refl in
      let left = all f (closure.Ahead.used p below f goes' uses) in
      let is' = function_before texts q f (defined v f (stacks.used p v below f uses)) left is in
      closure.Ahead.called p below f name goes' call' is'
      (to_use_before f name to_use is' left (λ z x. all z (closure.Ahead.called p below f z goes' call' is' x)))
  ahead_before _ _ _ (closure.later p r below name goes next rest) stacked v defined all =
      let b = stored_at (store texts) p below stacked in
      let goes' = further_before p below goes stacked in
      let next' = next_before (store texts) (grows texts q).more p r b.body b.stored (subst (λ s. Next s p r) (grows texts q).grows next) in
      closure.later p r below name goes' next'
      (ahead_before r below name rest (stacked_at (store texts) p r below stacked next'.same (next_is_to_point (store texts) p r next')) v
      (λ u z m. defined u z (stacks.later p r v below u z next' m)) (λ z x. all z (closure.later p r below z goes' next' x)))
  ahead_before _ _ _ (closure.returned r c below name ret rest) stacked v defined all =
      let b = stored_at (store texts) r (c ∷ below) stacked in
      let a = above_of (store texts) r c below stacked in
      let ret' = kind_before (store texts) (grows texts q).more r b.body Return b.stored (subst (λ s. IsKind s r Return) (grows texts q).grows ret) in
      closure.returned r c below name ret'
      (ahead_before (after_call c.site) below name rest
      (stacked_at (store texts) c.site (after_call c.site) below a.under refl (next_is_to_point (store texts) c.site (after_call c.site) a.call.next))
      c.version (λ u z m. defined u z (stacks.returned r v c below u z ret' m)) (λ z x. all z (closure.returned r c below z ret' x)))

-- ---- what is known, after

adds_more : (bodies more : List Body) (p : Site) (name : Bytes) → Adds bodies p name → Adds (bodies ++ more) p name
adds_more bodies more _ _ (standard.direct p name x) = standard.direct p name (uses_more bodies more p name x)
adds_more bodies more _ _ (standard.Adds.called p f name call s) =
    standard.Adds.called p f name (kind_more bodies more p (Call f) call) (standard_grows bodies more f name s)

known_below_more : (bodies more : List Body) (c : Site) (below : List Level) (name : Bytes) → Stacked bodies c below → KnownBelow bodies below name
    → KnownBelow (bodies ++ more) below name
known_below_more bodies more _ _ name (stacks.bottom p f x) k = tt
known_below_more bodies more _ _ name (stacks.above p f c below x call under) k = (
  λ n depth positive. by (k.0 n (depth_before bodies more c.site below n depth under) positive),
  known_below_more bodies more c.site below name under k.1,
)
  where
    by : Prior bodies c.site name ⊎ Adds bodies c.site name → Prior (bodies ++ more) c.site name ⊎ Adds (bodies ++ more) c.site name
    by (inl x) = inl (prior_grows bodies more c.site name x)
    by (inr x) = inr (adds_more bodies more c.site name x)

pub known_more : (bodies more : List Body) (p : Site) (due : Option Enter) (below : List Level) (name : Bytes) → Stacked bodies p below
    → Known bodies p due below name → Known (bodies ++ more) p due below name
known_more bodies more p due below name stacked k =
    record { here = by k.here; under = known_below_more bodies more p below name stacked k.under }
  where
    by : Prior bodies p name ⊎ ((due ≡ None) × Uses bodies p name) → Prior (bodies ++ more) p name ⊎ ((due ≡ None) × Uses (bodies ++ more) p name)
    by (inl x) = inl (prior_grows bodies more p name x)
    by (inr x) = inr (x.0, uses_more bodies more p name x.1)

-- ---- the install

-- what an admitted patch leaves of a thread: all that is ahead of it, or, if it isn't pinned, all that it recorded
pub record IsLeft (texts : List Text) (q : Text) (p : Site) (below : List Level) (uses : Record) (pinned meets_prior : Bool) : Type 0 where
  pub either : ((name : Bytes) → Ahead texts p below name → Left texts q name) ⊎ ((pinned ≡ false) × (meets_prior ≡ false))
  pub recorded : meets_prior ≡ false → All (λ u. Left texts q u.name) uses

both_of : {A : Type 0} (P Q R : A → Type 0) (xs : List A) → ((x : A) → P x → Q x → R x) → All P xs → All Q xs → All R xs
both_of P Q R xs f p q =
    All-weaker (Contains xs) R
    (λ x has. f x (All-contains P xs x p has) (All-contains Q xs x q has)) xs (All-contains_itself xs)

module _ (texts : List Text) (q : Text) (sound : IsSound texts) (stay : BodiesStay texts q) (table : Table)
    (count : current (next_table (current table) (last_text (definitions_of texts)) q.definitions table) ≡ suc (current table))
    (p : Site) (below : List Level) (stacked : Stacked (store texts) p below) (v : ℕ)
    (defined : (u : ℕ) (z : Bytes) → MayUse (store texts) p v below u z → is_some (now_in texts z) ≡ true)
    (current_is : (name : Bytes) → is_some (in_version table (current table) name) ≡ is_some (now_in texts name)) where
  abbrev next : Table
  next = next_table (current table) (last_text (definitions_of texts)) q.definitions table

  -- a name that is defined and left has its current entry still
  use_kept : (name : Bytes) → is_some (now_in texts name) ≡ true → Left texts q name → (w : ℕ) → HasVersion table w (use_of table name)
      → HasVersion next w (use_of next name)
  use_kept name is left w h =
      subst (HasVersion next w)
      (sym (use_stays (last_text (definitions_of texts)) q.definitions table name
      (stays_by (last_text (definitions_of texts)) q.definitions name (defined_last texts q name is) left) count))
      (version_stays (current table) (last_text (definitions_of texts)) q.definitions table w (use_of table name) h)

  ahead_defined : (p : Site) (below : List Level) (name : Bytes) → Ahead texts p below name → (v : ℕ)
      → ((u : ℕ) (z : Bytes) → MayUse (store texts) p v below u z → is_some (now_in texts z) ≡ true) → is_some (now_in texts name) ≡ true
  ahead_defined _ _ _ (closure.Ahead.used p below name goes uses) v all = all v name (stacks.used p v below name uses)
  ahead_defined _ _ _ (closure.Ahead.called p below f name goes call is to_use) v all = to_use_defined f name to_use is
    where
      to_use_defined : (f name : Bytes) → ToUse texts f name → is_function (now_in texts f) ≡ true → is_some (now_in texts name) ≡ true
      to_use_defined _ _ (closure.ToUse.used f name b n k in_force at use_of) is_f =
          let y = sound.in_force f is_f in
          sound.uses f name n
          (ap (option_and_then direct_use)
          (subst (λ s. kind_at s n ≡ Some k) (sym (ap (λ x. x.skeleton) (same_Some y.body b (sym y.found ∙ in_force.found))) ∙ y.skeleton_is) at)
          ∙ use_of)
      to_use_defined _ _ (closure.ToUse.called f g name b n in_force at rest) is_f =
          let y = sound.in_force f is_f in
          to_use_defined g name rest
          (sound.calls f g n
          (subst (λ s. kind_at s n ≡ Some (Call g)) (sym (ap (λ x. x.skeleton) (same_Some y.body b (sym y.found ∙ in_force.found))) ∙ y.skeleton_is) at))
  ahead_defined _ _ _ (closure.later p r below name goes next rest) v all =
      ahead_defined r below name rest v (λ u z m. all u z (stacks.later p r v below u z next m))
  ahead_defined _ _ _ (closure.returned r c below name ret rest) v all =
      ahead_defined (after_call c.site) below name rest c.version (λ u z m. all u z (stacks.returned r v c below u z ret m))

  -- where all that is ahead is left, versions that it shares stay
  shares_later : (uses : Record) (w : ℕ) → All (HasVersion table w) uses → ((name : Bytes) → Ahead texts p below name → Left texts q name)
      → ((name : Bytes) → Ahead texts p below name → HasVersion table w (use_of table name)) → Shares (texts ++ q ∷ []) next p below uses
  shares_later uses w recorded left has = record {
    version = w;
    recorded = All-weaker (HasVersion table w) (HasVersion next w)
        (λ u h. version_stays (current table) (last_text (definitions_of texts)) q.definitions table w u h) uses recorded;
    ahead = λ name x.
        let before = ahead_before texts q sound stay p below name x stacked v defined left in
        use_kept name (ahead_defined p below name before v defined) (left name before) w (has name before);
  }

  follows : (uses : Record) → All (HasVersion table (current table)) uses → All (λ u. Left texts q u.name) uses
      → All (HasVersion next (current next)) uses
  follows uses recorded left =
      both_of (HasVersion table (current table)) (λ u. Left texts q u.name) (HasVersion next (current next)) uses
      (λ u h l.
      subst (λ w. HasVersion next w u) (sym count)
      (version_follows (current table) (last_text (definitions_of texts)) q.definitions table u
      (stays_by (last_text (definitions_of texts)) q.definitions u.name
      (defined_last texts q u.name (sym (current_is u.name) ∙ current_defined table u h)) l) h)) recorded left

  pub versioned_later : (uses : Record) (pinned meets_prior : Bool) → IsLeft texts q p below uses pinned meets_prior
      → AreVersioned texts table pinned p below uses → AreVersioned (texts ++ q ∷ []) next (pinned || meets_prior) p below uses
  versioned_later uses true meets left h = by left.either
    where
      by : ((name : Bytes) → Ahead texts p below name → Left texts q name) ⊎ ((true ≡ false) × (meets ≡ false))
          → Shares (texts ++ q ∷ []) next p below uses
      by (inl all) = shares_later uses h.version h.recorded all h.ahead
      by (inr (wrong, none)) = absurd (false≢true (sym wrong))
  versioned_later uses false true left h = by left.either
    where
      by : ((name : Bytes) → Ahead texts p below name → Left texts q name) ⊎ ((false ≡ false) × (true ≡ false))
          → Shares (texts ++ q ∷ []) next p below uses
      by (inl all) =
          shares_later uses (current table) h all
          (λ name x. current_has table name (current_is name ∙ ahead_defined p below name x v defined))
      by (inr (same, wrong)) = absurd (false≢true (sym wrong))
  versioned_later uses false false left h = follows uses h (left.recorded refl)
