-- Two journals by the solo schedule differ only where one withdraws an offer that the other decides.
use Rattle.std.proofs.Common.{◌≡◌, inl, inr, ℕ, List, [], ◌∷◌, ◌++◌, Option, Some, refl, sym, ◌∙◌, ap, subst, append_assoc}
use Rattle.std.specs.Prelude.{reverse}
use Rattle.std.specs.Option.{option_or}
use Rattle.std.proofs.lemmas.List.{reverse-append}
use Rattle.std.proofs.lemmas.Option.{same_Some}
use Rattle.run_types.specs.declared.run.Event.{Event}
use Rattle.run_types.specs.declared.run.Event.TheVariants.{Decide, Withdraw}
use Rattle.source_model.specs.Guards.{Guard, Rules, Setup}
use Rattle.source_model.specs.Journals.{happens}
use Rattle.source_model.specs.Schedules.{MayStand, Solo, acted_by, solo_next}
use Rattle.run_laws.specs.ScheduleLaws.{Agree, SoloIsDeterministic, withdrawn, decided, later}

-- the guard after events, and the slot that acted last, are the only ones
one_guard : (rules : Rules) (setup : Setup) (es : List Event) (g h : Guard) (last final : Option ℕ)
    → Solo rules setup es g last → Solo rules setup es h final → (g ≡ h) × (last ≡ final)
one_guard rules setup [] g h last final (one, at_start) (other, at_first) = (one ∙ sym other, at_start ∙ sym at_first)
one_guard rules setup (e ∷ es) g h last final
    (before, before_last, next, so, is_next, may, made, last_is) (before', before_last', next', so', is_next', may', made', final_is) =
    let same = one_guard rules setup es before before' before_last before_last' so so' in
    let moved = subst (λ b. happens rules setup e b ≡ Some g) same.0 made in (
      same_Some g h (sym moved ∙ made'),
      last_is ∙ ap (λ l. option_or (acted_by e) l) same.1 ∙ sym final_is,
    )

-- the older of some events are by the schedule too
pub record SoFar (rules : Rules) (setup : Setup) (es : List Event) : Type 0 where
  pub guard : Guard
  pub last : Option ℕ
  pub solo : Solo rules setup es guard last

older : (rules : Rules) (setup : Setup) (newer es : List Event) (g : Guard) (last : Option ℕ)
    → Solo rules setup (newer ++ es) g last → SoFar rules setup es
older rules setup [] es g last so = record { guard = g; last = last; solo = so }
older rules setup (e ∷ newer) es g last (before, before_last, next, so, is_next, may, made, last_is) =
    older rules setup newer es before before_last so

-- two events that may be made for the same next one are the same, or one withdraws what the other decides
pub data Either : Event → Event → Type 0 where
  same : (e : Event) → Either e e
  first : (k : ℕ) → Either (Withdraw k) (Decide k)
  second : (k : ℕ) → Either (Decide k) (Withdraw k)

same_offer : (k n : ℕ) → Decide k ≡ Decide n → k ≡ n
same_offer k n is = cc

either : (next e f : Event) → MayStand next e → MayStand next f → Either e f
either next e f (inl a) (inl b) = subst (λ x. Either e x) (a ∙ sym b) (same e)
either next e f (inl a) (inr (k, is, made)) =
    subst (λ x. Either x f) (sym (a ∙ is)) (subst (λ y. Either (Decide k) y) (sym made) (second k))
either next e f (inr (k, is, made)) (inl b) =
    subst (λ x. Either e x) (sym (b ∙ is)) (subst (λ y. Either y (Decide k)) (sym made) (first k))
either next e f (inr (k, is, made)) (inr (n, is', made')) =
    let k_is = same_offer k n (sym is ∙ is') in
    subst (λ x. Either e x) (made ∙ ap Withdraw k_is ∙ sym made') (same e)

-- one more event in both
further : (e : Event) (es fs : List Event) → Agree es fs → Agree (e ∷ es) (e ∷ fs)
further e es fs (inl (rest, is)) = inl (rest, ap (λ xs. e ∷ xs) is)
further e es fs (inr (inl (rest, is))) = inr (inl (rest, ap (λ xs. e ∷ xs) is))
further e es fs (inr (inr forks)) = inr (inr (later e es fs forks))

-- the newest first: events after some others
turned : (done es : List Event) (e : Event) → reverse (done ++ e ∷ es) ≡ reverse es ++ e ∷ reverse done
turned done es e =
    ap reverse (sym (append_assoc done (e ∷ []) es)) ∙ reverse-append (done ++ e ∷ []) es
    ∙ ap (λ xs. reverse es ++ xs) (reverse-append done (e ∷ []))

regrouped : (done es : List Event) (e : Event) → done ++ e ∷ es ≡ (done ++ e ∷ []) ++ es
regrouped done es e = sym (append_assoc done (e ∷ []) es)

module _ (rules : Rules) (setup : Setup) where
  -- the event after some others is made for the next one of the schedule
  made_next : (done es : List Event) (e : Event) → SoFar rules setup (reverse (done ++ e ∷ es)) → SoFar rules setup (e ∷ reverse done)
  made_next done es e so =
      older rules setup (reverse es) (e ∷ reverse done) so.guard so.last
      (subst (λ xs. Solo rules setup xs so.guard so.last) (turned done es e) so.solo)

  next_alike : (done : List Event) (e f : Event) → SoFar rules setup (e ∷ reverse done) → SoFar rules setup (f ∷ reverse done) → Either e f
  next_alike done e f one other = by one.solo other.solo
    where
      by : Solo rules setup (e ∷ reverse done) one.guard one.last → Solo rules setup (f ∷ reverse done) other.guard other.last → Either e f
      by (before, before_last, next, so, is_next, may, made, last_is) (before', before_last', next', so', is_next', may', made', last_is') =
          let same = one_guard rules setup (reverse done) before before' before_last before_last' so so' in
          let there = subst (λ l. solo_next setup before' l ≡ Some next) same.1 (subst (λ b. solo_next setup b before_last ≡ Some next) same.0 is_next) in
          let next_is = same_Some next next' (sym there ∙ is_next') in
          either next' e f (subst (λ n. MayStand n e) next_is may) may'

  -- the rest of both, where the next event is the same or withdraws what the other decides
  agree_on : (x y : Event) (es fs done : List Event)
      → ((more : List Event) → SoFar rules setup (reverse (more ++ es)) → SoFar rules setup (reverse (more ++ fs)) → Agree es fs)
      → Either x y → SoFar rules setup (reverse (done ++ x ∷ es)) → SoFar rules setup (reverse (done ++ y ∷ fs)) → Agree (x ∷ es) (y ∷ fs)
  agree_on _ _ es fs done rest (same x) one other =
      further x es fs
      (rest (done ++ x ∷ []) (subst (λ xs. SoFar rules setup (reverse xs)) (regrouped done es x) one)
      (subst (λ xs. SoFar rules setup (reverse xs)) (regrouped done fs x) other))
  agree_on _ _ es fs done rest (first k) one other = inr (inr (withdrawn k es fs))
  agree_on _ _ es fs done rest (second k) one other = inr (inr (decided k es fs))

  agree : (es fs done : List Event) → SoFar rules setup (reverse (done ++ es)) → SoFar rules setup (reverse (done ++ fs)) → Agree es fs
  agree [] fs done one other = inl (fs, refl)
  agree (e ∷ es) [] done one other = inr (inl (e ∷ es, refl))
  agree (e ∷ es) (f ∷ fs) done one other =
      agree_on e f es fs done (agree es fs) (next_alike done e f (made_next done es e one) (made_next done fs f other)) one other

pub solo_is_deterministic : SoloIsDeterministic
solo_is_deterministic rules setup es fs g h last final one other =
    agree rules setup es fs [] (record { guard = g; last = last; solo = one }) (record { guard = h; last = final; solo = other })
