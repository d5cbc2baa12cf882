-- What is known of a thread in a transaction where a patch is installed that its row in force admits.
use Rattle.std.proofs.Common.{◌≡◌, ℕ, zero, suc, ◌+◌, ◌<◌, ◌⊎◌, inl, inr, Bool, true, false, ◌&&◌, ◌||◌, List, [], ◌∷◌, ◌++◌, All, Option, None, refl, sym, ap, subst, ◌∙◌, arith}
use Rattle.std.specs.Prelude.{nat_lt}
use Rattle.std.proofs.lemmas.Bool.{and_parts, lt-ltb, ltb-true, or_cases}
use Rattle.std.proofs.lemmas.List.{length-map}
use Rattle.std.proofs.lemmas.List.Elements.{All-nil, All-weaker}
use Rattle.c_tree.specs.BareExpr.{Bytes}
use Rattle.c_semantics.specs.Changes.{changed}
use Rattle.c_semantics.specs.SourceTexts.{Text}
use Rattle.c_semantics.specs.Store.{Body, Mark, store}
use Rattle.c_semantics.specs.Threads.{Frame, Enter, Record}
use Rattle.effects.specs.Sites.{Site, Next, Uses}
use Rattle.effects.specs.Standard as standard
use Rattle.effects.specs.Nested.{Inside}
use Rattle.effects.specs.Contextual.{Prior}
use Rattle.effects.specs.Contextual as contextual
use Rattle.effects.specs.Rows.{InPrior, InFuture, Covered}
use Rattle.effects.proofs.Points.{next_is_to_point}
use Rattle.source_model.specs.Versions.{Table, current, next_table}
use Rattle.source_model.specs.Guards.{Seat}
use Rattle.version_laws.specs.Histories.{IsHistory, last_text}
use Rattle.admission_laws.specs.SoundTexts.{IsSound, BodiesStay, definitions_of}
use Rattle.admission_laws.specs.Transactions.{HasDepth, Known}
use Rattle.admission_laws.specs.Closures.{Ahead}
use Rattle.admission_laws.specs.InTransactions.{LowerDepth, AreVersioned, InTransaction}
use Rattle.admission_laws.specs.Standing.{Placed, StandsAt}
use Rattle.admission_laws.specs.Standing as standing
use Rattle.admission_laws.proofs.StackUses.{stacked_at}
use Rattle.admission_laws.proofs.Covering.{covers_place, covered_of, further}
use Rattle.admission_laws.proofs.LaterTexts.{Grows, grows, longer}
use Rattle.admission_laws.proofs.RightUses.{defined_alike, defined_now}
use Rattle.admission_laws.proofs.AdmittedRows.{OthersLeft}
use Rattle.admission_laws.proofs.Depths.{depth_still, uses_no_check_in, use_goes_on}
use Rattle.admission_laws.proofs.RecordedNames.{inside_by}
use Rattle.admission_laws.proofs.ClosureFacts.{ahead_is_future}
use Rattle.admission_laws.proofs.TransactionSteps.{depth_at}
use Rattle.admission_laws.proofs.InstallSteps.{Left, IsLeft, known_more, own_more, lower_more, versioned_later}

-- where a thread has made a use, its mark covers each next point too
covered_next : (bodies : List Body) (mark : Mark) (p q : Site) (v : ℕ) (due : Option Enter) (b : Bool) (name : Bytes)
    → Placed bodies mark p v due b → Uses bodies p name → due ≡ None → Next bodies p q → Covered bodies mark q
covered_next bodies mark p q v _ _ name (standing.calling e behind call same) uses none next = cc
covered_next bodies mark p q v _ _ name (standing.coming covered check_in) uses none next =
    absurd (uses_no_check_in bodies p name uses check_in)
covered_next bodies mark p q v _ _ name (standing.passed f generation number is_mark at) uses none next =
    absurd (uses_no_check_in bodies p name uses at.is_check_in)
covered_next bodies mark p q v _ _ name (standing.stopped behind no_check_in stays) uses none next =
    covered_of bodies mark q (further bodies mark p q behind no_check_in stays next)

module _ (texts : List Text) (sound : IsSound texts) (table : Table) (f : Frame) (fs : List Frame) (due : Option Enter) (depth : ℕ)
    (uses : Record) (seat : Seat) (st : StandsAt texts table f fs due depth uses seat) where
  -- a name that was recorded is in the prior set of the row in force, which covers the point after its use too
  pub known_prior : (name : Bytes) → 0 < depth → Known (store texts) st.site due st.levels name → InPrior (store texts) st.mark name
  known_prior name positive k = by k.here
    where
      inside : (p : Site) → Next (store texts) st.site p → Inside (store texts) p
      inside p next =
          inside_by (store texts) p st.levels (st.own + st.transaction.lower)
          (depth_at (store texts) p st.own st.levels st.transaction.lower
          (depth_still (store texts) sound.shapes st.site p st.own next st.still st.transaction.here) st.transaction.lower_is)
          (subst (λ d. 0 < d) st.transaction.total positive)
          (stacked_at (store texts) st.site p st.levels st.stacked next.same (next_is_to_point (store texts) st.site p next))

      by : Prior (store texts) st.site name ⊎ ((due ≡ None) × Uses (store texts) st.site name) → InPrior (store texts) st.mark name
      by (inl x) = record {
        site = st.site;
        covered = covers_place (store texts) st.mark st.site f.version due seat.at_check_in st.placed;
        prior = x;
      }
      by (inr (none, uses)) =
          let s = use_goes_on (store texts) sound.shapes st.site name uses in record {
            site = s.0;
            covered = covered_next (store texts) st.mark st.site s.0 f.version due seat.at_check_in name st.placed uses none s.1;
            prior = contextual.Prior.added st.site s.0 name (inside s.0 s.1) s.1 (standard.direct st.site name uses);
          }

  pub recorded_prior : All (λ u. InPrior (store texts) st.mark u.name) uses
  recorded_prior = by depth refl
    where
      positive : (d : ℕ) → 0 < suc d
      positive d = omega arith

      by : (d : ℕ) → depth ≡ d → All (λ u. InPrior (store texts) st.mark u.name) uses
      by zero none =
          subst (All (λ u. InPrior (store texts) st.mark u.name)) (sym (st.transaction.outside none))
          (All-nil (λ u. InPrior (store texts) st.mark u.name))
      by (suc d) some =
          let inside = subst (λ n. 0 < n) (sym some) (positive d) in
          All-weaker (λ u. Known (store texts) st.site due st.levels u.name) (λ u. InPrior (store texts) st.mark u.name)
          (λ u k. known_prior u.name inside k) uses (st.transaction.known inside)

module _ (texts : List Text) (q : Text) (sound : IsSound texts) (stay : BodiesStay texts q) (table : Table)
    (h : IsHistory (definitions_of texts) table)
    (later : IsHistory (definitions_of (texts ++ q ∷ [])) (next_table (current table) (last_text (definitions_of texts)) q.definitions table))
  where
    abbrev next : Table
    next = next_table (current table) (last_text (definitions_of texts)) q.definitions table

    count : current next ≡ suc (current table)
    count =
        later.count ∙ length-map (texts ++ q ∷ []) (λ t. t.definitions) ∙ longer texts q
        ∙ ap suc (sym (h.count ∙ length-map texts (λ t. t.definitions)))

    module _ (f : Frame) (fs : List Frame) (due : Option Enter) (depth : ℕ) (uses : Record) (seat : Seat)
        (st : StandsAt texts table f fs due depth uses seat) where
      is_left : (meets : Bool) → OthersLeft (store texts) st.mark seat.pinned meets (changed (last_text (definitions_of texts)) q.definitions)
          → 0 < depth → IsLeft texts q st.site st.levels uses seat.pinned meets
      is_left meets o positive = record {
        either = by o.either;
        recorded = λ none.
            All-weaker (λ u. Known (store texts) st.site due st.levels u.name) (λ u. Left texts q u.name)
            (λ u k. o.prior none u.name (known_prior texts sound table f fs due depth uses seat st u.name positive k)) uses (st.transaction.known positive);
      }
        where
          by : ((name : Bytes) → InFuture (store texts) st.mark name → Left texts q name) ⊎ ((seat.pinned ≡ false) × (meets ≡ false))
              → ((name : Bytes) → Ahead texts st.site st.levels name → Left texts q name) ⊎ ((seat.pinned ≡ false) × (meets ≡ false))
          by (inl all) =
              inl (λ name a.
              all name (record {
                site = st.site;
                covered = covers_place (store texts) st.mark st.site f.version due seat.at_check_in st.placed;
                future = ahead_is_future texts st.site st.levels name a st.stacked;
              }))
          by (inr x) = inr x

      pub transaction_later : (meets pinned : Bool)
          → OthersLeft (store texts) st.mark seat.pinned meets (changed (last_text (definitions_of texts)) q.definitions)
          → pinned ≡ (seat.pinned || (nat_lt 0 depth && meets))
          → InTransaction (texts ++ q ∷ []) (next_table (current table) (last_text (definitions_of texts)) q.definitions table) depth uses pinned
          st.site st.own due st.levels
      transaction_later meets pinned o pins = record {
        here = subst (λ bodies. HasDepth bodies st.site st.own) (sym g.grows) (own_more (store texts) g.more st.site st.levels st.own st.stacked x.here);
        lower = x.lower;
        lower_is = subst (λ bodies. LowerDepth bodies st.levels x.lower) (sym g.grows)
            (lower_more (store texts) g.more st.site st.levels x.lower st.stacked x.lower_is);
        total = x.total;
        known = λ positive.
            All-weaker (λ u. Known (store texts) st.site due st.levels u.name) (λ u. Known (store (texts ++ q ∷ [])) st.site due st.levels u.name)
            (λ u k. subst (λ bodies. Known bodies st.site due st.levels u.name) (sym g.grows)
            (known_more (store texts) g.more st.site due st.levels u.name st.stacked k)) uses (x.known positive);
        versioned = λ positive.
            subst (λ b. AreVersioned (texts ++ q ∷ []) next b st.site st.levels uses) (pin_is positive)
            (versioned_later texts q sound stay table count st.site st.levels st.stacked f.version
            (λ u z m. defined_now texts table h u z (st.right u z m)) (defined_alike texts table h) uses seat.pinned meets
            (is_left meets o positive) (x.versioned positive));
        outside = x.outside;
        pin = λ on. by_pin (or_cases seat.pinned (nat_lt 0 depth && meets) (sym pins ∙ on));
      }
        where
          x : InTransaction texts table depth uses seat.pinned st.site st.own due st.levels
          x = st.transaction

          g : Grows texts q
          g = grows texts q

          pin_is : 0 < depth → (seat.pinned || meets) ≡ pinned
          pin_is positive = sym (pins ∙ ap (λ b. seat.pinned || (b && meets)) (lt-ltb 0 depth positive))

          by_pin : (seat.pinned ≡ true) ⊎ ((nat_lt 0 depth && meets) ≡ true) → 0 < depth
          by_pin (inl on) = x.pin on
          by_pin (inr on) = ltb-true 0 depth (and_parts (nat_lt 0 depth) meets on).0
