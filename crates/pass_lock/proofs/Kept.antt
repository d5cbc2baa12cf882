-- Each step keeps the rule of the table.
use Rattle.std.proofs.Common.{◌≡◌, ◌≢◌, ℕ, zero, suc, ◌+◌, ◌-◌, ◌%◌, ◌^◌, ◌<◌, ◌≤◌, List, [], ◌∷◌, ◌++◌, map, length, get_or, set, sym, refl, ap, ◌∙◌, subst, inl, inr, ⊎_elim, arith, Option, Some, None, length-set, get_or-set_other, get_or-set_same, All}
use mathlib.Core.Logic.{dite}
use mathlib.Core.Option.{none, some, some-injective}
use mathlib.Core.Option as maybe
use native.Mathlib.Decide.{ℕ_discrete}
use lib.ListN.{get_elem?}
use lib.Seq.{set-get_or}
use Rattle.atomic_table.specs.Table.{State, Me, step, keeps, takes, gives, stepped, Allows, Splits, Joins, opening}
use Rattle.atomic_table.proofs.Lists.{set_else, set_again, at_longer, one_turn}
use Rattle.pass_lock.specs.declared.notes.Entry.{Entry}
use Rattle.pass_lock.specs.declared.view.Claim.{Claim}
use Rattle.pass_lock.specs.declared.view.Open.{Open}
use Rattle.pass_lock.specs.declared.view.Stage.{Stage}
use Rattle.pass_lock.specs.declared.view.Stage.TheVariants.{Idle, Waiting, Turning}
use Rattle.pass_lock.specs.declared.view.View.{View}
use Rattle.pass_lock.specs.Histories.{StartsWith, entry, entries_of}
use Rattle.pass_lock.specs.Passes.{opened}
use Rattle.pass_lock.specs.Ruled.{stage_tickets, tickets_out, claim_count, HasTurn, Fits, AllKept, Stands, SeatOk, Ruled}
use Rattle.pass_lock.specs.Steps.{seated, first_view, after_split, split_off, joined, spent, first_claim, grown, drew, looked, served}
use Rattle.pass_lock.proofs.Sums.{put, put_here, put_else, instead, instead_there, instead_else, at_last, set_at, all_set, total_set, total_last, total_at, total_below}
use Rattle.std.proofs.lemmas.List.{append-nil, length-append}
use Rattle.pass_lock.proofs.Entries.{entries_append, entries_own, entries_else, added_is, starts_longer, starts_itself}

module _ {E : Type 0} where
  -- what is kept of a seat's claims, where each number that is this seat's stays so
  all_kept : (log log' : List (Entry E)) (made made' : ℕ) (at at' : ℕ → ℕ) (seat seat' : ℕ) → made ≤ made'
      → ((c : Claim E) → c.number < made → at c.number ≡ seat → Fits log c → (at' c.number ≡ seat') × Fits log' c)
      → (cs : List (Claim E)) → AllKept log made at seat cs → AllKept log' made' at' seat' cs
  all_kept log log' made made' at at' seat seat' more f [] k = tt
  all_kept log log' made made' at at' seat seat' more f (c ∷ cs) k = let below : c.number < made = k.0.0 in
      let t = f c k.0.0 k.0.1 k.0.2 in ((omega arith, t.0, t.1), all_kept log log' made made' at at' seat seat' more f cs k.1)

  kept_append : (log : List (Entry E)) (made : ℕ) (at : ℕ → ℕ) (seat : ℕ) (cs bs : List (Claim E)) → AllKept log made at seat cs → AllKept log made at seat bs → AllKept log made at seat (cs ++ bs)
  kept_append log made at seat [] bs a b = b
  kept_append log made at seat (c ∷ cs) bs a b = (a.0, kept_append log made at seat cs bs a.1 b)

  -- tickets of other seats stay, where more are drawn, and a ticket of another seat is served
  stays : (log log' : List (Entry E)) (drawn drawn' served served' : ℕ) (at at' : ℕ → ℕ) (seat : ℕ) → drawn ≤ drawn'
      → ((t : ℕ) → t < drawn → at t ≡ seat → at' t ≡ seat)
      → ((t : ℕ) → served ≤ t → at t ≡ seat → served' ≤ t)
      → (at served ≡ seat → (served' ≡ served) × (log ≡ log'))
      → (st : Stage E) → Stands log drawn served at seat st → Stands log' drawn' served' at' seat st
  stays log log' drawn drawn' served served' at at' seat more same later now Idle h = tt
  stays log log' drawn drawn' served served' at at' seat more same later now (Waiting t) h = let below : t < drawn = h.1 in (later t h.0 h.2, omega arith, same t h.1 h.2)
  stays log log' drawn drawn' served served' at at' seat more same later now (Turning t o) h = let below : t < drawn = h.1 in
      let here : at served ≡ seat = ap at (sym h.0) ∙ h.2 in (h.0 ∙ sym (now here).0, omega arith, same t h.1 h.2, h.3 ∙ (now here).1)

  served_ticket : (log : List (Entry E)) (drawn served : ℕ) (at : ℕ → ℕ) (seat : ℕ) (st : Stage E) → HasTurn st → Stands log drawn served at seat st → served < drawn
  served_ticket log drawn served at seat Idle turn h = absurd turn
  served_ticket log drawn served at seat (Waiting t) turn h = absurd turn
  served_ticket log drawn served at seat (Turning t o) turn h = let same : t ≡ served = h.0 in let below : t < drawn = h.1 in omega arith

module _ {W E : Type 0} (history : W → List (Entry E)) (passes : ℕ) where
  abbrev St : Type 0
  St = State (Option W) (View E)

  abbrev M : Type 0
  M = Me (Option W) (View E)

  abbrev Rule : St → Type 0
  Rule = Ruled history passes

  -- at most as many tickets are out as there are passes
  tickets_few : (s : St) (r : Rule s) → r.drawn ≤ r.served + 64
  tickets_few s r = let below = total_below tickets_out claim_count s.views (λ i v e. (r.each_seat i v e).one) in
      let out = r.out in let claimed = r.claimed in let a = r.few.0 in let b = r.few.1 in omega arith

  -- a step that changes nothing
  unmoved : (s : St) (r : Rule s) (i id : ℕ) (v : View E) (cs : List (ℕ × Option W)) → get_elem? s.views id ≡ some v → Rule (stepped s i (get_or s.words i 0) id cs v keeps)
  unmoved s r i id v cs at = subst (λ (x : List ℕ × List (View E)). Rule record { words = x.0; homes = s.homes; views = x.1 }) (λ j. (sym (set-get_or s.words i 0) j, sym (set_again s.views id v at) j)) r

  pub starts : (words : List ℕ) (value : W) → length words ≡ passes + 2 → passes ≤ 64 → get_or words 0 0 ≡ 0 → get_or words 1 0 ≡ 0 → history value ≡ []
      → Rule (opening words (Some value ∷ []) first_view)
  starts words value wide few zero_drawn zero_served empty = record {
    log = [];
    made = 0;
    drawn = 0;
    served = 0;
    pass_seat = λ _. 0;
    ticket_seat = λ _. 0;
    wide = wide;
    few = (omega arith, few);
    tickets = zero_drawn;
    serving = zero_served;
    out = refl;
    claimed = refl;
    unused = λ _ _. refl;
    each_seat = λ j v e. ⊎_elim (λ t. absurd (nowhere j v t)) (λ t. subst (λ (x : ℕ × View E). SeatOk [] 0 0 0 (λ _. 0) (λ _. 0) x.0 x.1) (λ k. (sym t.0 k, t.1 k)) first) (at_last [] first_view v j e);
    placed = inl (value, refl, empty);
  }
    where
      first : SeatOk {E = E} [] 0 0 0 (λ _. 0) (λ _. 0) 0 first_view
      first = record { stands = tt; kept = tt; one = omega arith; maker = λ _. (refl, refl) }

      nowhere : (j : ℕ) (v : View E) → get_elem? [] j ≡ some v → ⊥
      nowhere j v e = maybe.some-ne-none v (sym e)

  -- 4. draw
  pub draws : (slots id makes : ℕ) (c : Claim E) (cs : List (ℕ × Option W))
      → Allows Rule slots id (seated Idle (c ∷ []) makes, cs) 0 (λ n. (n + 1) % 2 ^ 64) (drew history (step slots 0 1 0 none) (seated Idle (c ∷ []) makes, cs))
  draws slots id makes c cs s r _ at _ = let v : View E = seated Idle (c ∷ []) makes in let w : View E = seated (Waiting r.drawn) (c ∷ []) makes in
      let n : ℕ = get_or s.words 0 0 in let n' : ℕ = (n + 1) % 18446744073709551616 in let at' = put r.ticket_seat r.drawn id in
      let wide = r.wide in let out = r.out in let claimed = r.claimed in let tickets = r.tickets in let next : n' ≡ (r.drawn + 1) % 18446744073709551616 = omega arith in
      let outs = total_set tickets_out s.views id v w at in let claims = total_set claim_count s.views id v w at in let mine = r.each_seat id v at in (
        w,
        keeps,
        tt,
        record {
          log = r.log;
          made = r.made;
          drawn = r.drawn + 1;
          served = r.served;
          pass_seat = r.pass_seat;
          ticket_seat = at';
          wide = length-set s.words 0 n' ∙ wide;
          few = r.few;
          tickets = get_or-set_same s.words 0 n' 0 (omega arith) ∙ next;
          serving = get_or-set_other s.words 0 1 n' 0 (λ e. omega arith) ∙ r.serving;
          out = omega arith;
          claimed = omega arith;
          unused = r.unused;
          each_seat = all_set (SeatOk r.log r.made (r.drawn + 1) r.served r.pass_seat at') s.views id w
              record { stands = (omega arith, omega arith, put_here r.ticket_seat r.drawn id); kept = mine.kept; one = omega arith; maker = mine.maker }
              (λ j u other e. let ok = r.each_seat j u e in record {
                stands = stays r.log r.log r.drawn (r.drawn + 1) r.served r.served r.ticket_seat at' j (omega arith) (λ t l h. put_else r.ticket_seat r.drawn id t (λ z. omega arith) ∙ h) (λ t l _. l) (λ _. (refl, refl)) u.stage ok.stands;
                kept = ok.kept;
                one = ok.one;
                maker = ok.maker;
              });
          placed = ⊎_elim (λ t. inl t) (λ t. let ok = r.each_seat (r.ticket_seat r.served) t.0 t.1 in let below = served_ticket r.log r.drawn r.served r.ticket_seat (r.ticket_seat r.served) t.0.stage t.2 ok.stands in
              let same = put_else r.ticket_seat r.drawn id r.served (λ z. omega arith) in
              let apart : r.ticket_seat r.served ≢ id = λ z. subst (λ (u : View E). HasTurn u.stage) (some-injective t.0 v (sym t.1 ∙ (ap (get_elem? s.views) z ∙ at))) t.2 in
              inr (t.0, ap (get_elem? (set s.views id w)) same ∙ (set_else s.views id (r.ticket_seat r.served) w apart ∙ t.1), t.2, t.3)) r.placed;
        },
        (tickets, refl),
      )

  -- 5. look, and 6. take out
  pub looks : (slots id makes : ℕ) (st : Stage E) (c : Claim E) (cs : List (ℕ × Option W))
      → Allows Rule slots id (seated st (c ∷ []) makes, cs) 1 (λ n. n) (looked history (step slots 1 0 0 none) (seated st (c ∷ []) makes, cs))
  looks slots id makes Idle c cs s r _ at _ = (seated Idle (c ∷ []) makes, keeps, tt, unmoved s r 1 id (seated Idle (c ∷ []) makes) cs at, λ ticket has. absurd has)
  looks slots id makes (Turning t o) c cs s r _ at _ = (seated (Turning t o) (c ∷ []) makes, keeps, tt, unmoved s r 1 id (seated (Turning t o) (c ∷ []) makes) cs at, λ ticket has. absurd has)
  looks slots id makes (Waiting t) c cs s r _ at _ = let v : View E = seated (Waiting t) (c ∷ []) makes in let n : ℕ = get_or s.words 1 0 in let mine = r.each_seat id v at in let few = tickets_few s r in
      let from : r.served ≤ t = mine.stands.0 in let below : t < r.drawn = mine.stands.1 in let serving = r.serving in
      dite (ℕ_discrete n (t % 18446744073709551616))
      (λ hit. let is : r.served ≡ t = one_turn r.served t 18446744073709551616 from (omega arith) (sym serving ∙ hit) in
      let here : r.ticket_seat r.served ≡ id = ap r.ticket_seat is ∙ mine.stands.2 in
      ⊎_elim
      (λ p. let w : View E = seated (Turning t (opened (history p.0))) (c ∷ []) makes in
      let outs = total_set tickets_out s.views id v w at in let claims = total_set claim_count s.views id v w at in let out = r.out in let claimed = r.claimed in (
        w,
        takes 0 (Some p.0),
        ap (λ (hs : List (maybe.Option (Option W))). get_elem? hs 0) p.1,
        subst (λ (ws : List ℕ). Rule record { words = ws; homes = set s.homes 0 none; views = set s.views id w }) (sym (set-get_or s.words 1 0)) record {
          log = r.log;
          made = r.made;
          drawn = r.drawn;
          served = r.served;
          pass_seat = r.pass_seat;
          ticket_seat = r.ticket_seat;
          wide = r.wide;
          few = r.few;
          tickets = r.tickets;
          serving = r.serving;
          out = omega arith;
          claimed = omega arith;
          unused = r.unused;
          each_seat = all_set (SeatOk r.log r.made r.drawn r.served r.pass_seat r.ticket_seat) s.views id w
              record { stands = (sym is, below, mine.stands.2, p.2); kept = mine.kept; one = omega arith; maker = mine.maker } (λ j u _ e. r.each_seat j u e);
          placed = inr (w, ap (get_elem? (set s.views id w)) here ∙ set_at s.views id v w at, tt, ap (λ (hs : List (maybe.Option (Option W))). set hs 0 none) p.1);
        },
        λ ticket has. ((λ miss. absurd (miss (hit ∙ sym has))), λ _. (p.0, refl, subst (λ (log : List (Entry E)). Fits log c) (sym p.2) mine.kept.0.2)),
      ))
      (λ p. absurd (subst (λ (u : View E). HasTurn u.stage) (some-injective p.0 v (sym p.1 ∙ (ap (get_elem? s.views) here ∙ at))) p.2)) r.placed)
      (λ miss. (v, keeps, tt, unmoved s r 1 id v cs at, λ ticket has. ((λ _. refl), λ e. absurd (miss (e ∙ has)))))

  abbrev value_or : W → List (ℕ × Option W) → W
  value_or d [] = d
  value_or d (x ∷ xs) = elim x.1 [
    | None ↦ d
    | Some w ↦ w
  ]

  -- 7. put back (the value lies in the slot that the seat has), and 8. serve
  pub serves : (slots id makes : ℕ) (t : ℕ) (o : Open E) (c : Claim E) (w : W) (added : List E) → history w ≡ o.log ++ map (entry c.number) added
      → Allows Rule slots id (seated (Turning t o) (c ∷ []) makes, (0, Some w) ∷ []) 1 (λ n. (n + 1) % 2 ^ 64) (served history (step slots 1 1 0 none) (seated (Turning t o) (c ∷ []) makes, (0, Some w) ∷ []))
  serves slots id makes t o c w added adds s r _ at _ = let v : View E = seated (Turning t o) (c ∷ []) makes in let c' : Claim E = grown o.log (history w) c in let u : View E = seated Idle (c' ∷ []) makes in
      let n : ℕ = get_or s.words 1 0 in let n' : ℕ = (n + 1) % 18446744073709551616 in let log' : List (Entry E) = history w in let k : ℕ = c.number in
      let wide = r.wide in let out = r.out in let claimed = r.claimed in let serving = r.serving in let mine = r.each_seat id v at in let next : n' ≡ (r.served + 1) % 18446744073709551616 = omega arith in
      let outs = total_set tickets_out s.views id v u at in let claims = total_set claim_count s.views id v u at in
      let is : t ≡ r.served = mine.stands.0 in let here : r.ticket_seat r.served ≡ id = ap r.ticket_seat (sym is) ∙ mine.stands.2 in
      let more : log' ≡ r.log ++ map (entry k) added = adds ∙ ap (λ (l : List (Entry E)). l ++ map (entry k) added) mine.stands.3 in
      let owner : r.pass_seat k ≡ id = mine.kept.0.1 in let below : k < r.made = mine.kept.0.0 in
      let others : (j : ℕ) → k ≢ j → entries_of j log' ≡ entries_of j r.log = λ j other. ap (entries_of j) more ∙ (entries_append j r.log (map (entry k) added) ∙ (ap (λ (l : List E). entries_of j r.log ++ l) (entries_else k j added other) ∙ append-nil (entries_of j r.log))) in
      let own : entries_of k log' ≡ c'.own = ap (entries_of k) more ∙ (entries_append k r.log (map (entry k) added) ∙ (λ i. mine.kept.0.2.1 i ++ (entries_own k added ∙ sym (added_is k o.log log' added adds)) i)) in (
        u,
        gives,
        tt,
        record {
          log = log';
          made = r.made;
          drawn = r.drawn;
          served = r.served + 1;
          pass_seat = r.pass_seat;
          ticket_seat = r.ticket_seat;
          wide = length-set s.words 1 n' ∙ wide;
          few = r.few;
          tickets = get_or-set_other s.words 1 0 n' 0 (λ e. omega arith) ∙ r.tickets;
          serving = get_or-set_same s.words 1 n' 0 (omega arith) ∙ next;
          out = omega arith;
          claimed = omega arith;
          unused = λ j from. others j (λ e. omega arith) ∙ r.unused j from;
          each_seat = all_set (SeatOk log' r.made r.drawn (r.served + 1) r.pass_seat r.ticket_seat) s.views id u
              record { stands = tt; kept = ((below, owner, (starts_itself log', own)), tt); one = omega arith; maker = mine.maker }
              (λ j x other e. let ok = r.each_seat j x e in record {
                stands = stays r.log log' r.drawn r.drawn r.served (r.served + 1) r.ticket_seat r.ticket_seat j (omega arith) (λ _ _ h. h)
                    (λ i from h. dite (ℕ_discrete i r.served) (λ same. absurd (other (sym h ∙ (ap r.ticket_seat same ∙ here)))) (λ apart. omega arith))
                    (λ h. absurd (other (sym h ∙ here))) x.stage ok.stands;
                kept = all_kept r.log log' r.made r.made r.pass_seat r.pass_seat j j (omega arith)
                    (λ d _ seat fits. (
                      seat,
                      (
                        subst (λ (l : List (Entry E)). StartsWith l d.seen) (sym more) (starts_longer r.log d.seen (map (entry k) added) fits.0),
                        others d.number (λ same. other (sym seat ∙ (ap r.pass_seat (sym same) ∙ owner))) ∙ fits.1,
                      ),
                    )) x.claims ok.kept;
                one = ok.one;
                maker = ok.maker;
              });
          placed = inl (w, ⊎_elim (λ p. ap (λ (hs : List (maybe.Option (Option W))). set hs 0 (some (Some w))) p.1) (λ p. ap (λ (hs : List (maybe.Option (Option W))). set hs 0 (some (Some w))) p.3) r.placed, refl);
        },
        λ w' carried. ap (λ (x : W). let m : M = (seated Idle (grown o.log (history x) c ∷ []) makes, []) in m) (ap (value_or w) carried),
      )

  -- 2. split
  pub splits : (id makes : ℕ) → 0 < makes → makes ≤ passes → Splits Rule id (seated Idle [] makes) (after_split (seated Idle [] makes)) (split_off (seated Idle [] makes))
  splits id makes some_made room s r at = let v : View E = seated Idle [] makes in let a : View E = after_split v in let b : View E = split_off v in let n : ℕ = length s.views in let at' = put r.pass_seat r.made n in
      let mine = r.each_seat id v at in let make = mine.maker some_made in let count : makes ≡ r.made + 1 = make.1 in let few = r.few in let number : makes - 1 ≡ r.made = omega arith in
      let outs = total_set tickets_out s.views id v a at in let claims = total_set claim_count s.views id v a at in let out = r.out in let claimed = r.claimed in
      let outs' = total_last tickets_out (set s.views id a) b in let claims' = total_last claim_count (set s.views id a) b in
      let keep : (j : ℕ) (cs : List (Claim E)) → AllKept r.log r.made r.pass_seat j cs → AllKept r.log (r.made + 1) at' j cs = λ j cs k.
      all_kept r.log r.log r.made (r.made + 1) r.pass_seat at' j j (omega arith) (λ c below seat fits. (put_else r.pass_seat r.made n c.number (λ e. omega arith) ∙ seat, fits)) cs k in record {
        log = r.log;
        made = r.made + 1;
        drawn = r.drawn;
        served = r.served;
        pass_seat = at';
        ticket_seat = r.ticket_seat;
        wide = r.wide;
        few = (omega arith, r.few.1);
        tickets = r.tickets;
        serving = r.serving;
        out = omega arith;
        claimed = omega arith;
        unused = λ j from. r.unused j (omega arith);
        each_seat = λ j u e. ⊎_elim (all_set (SeatOk r.log (r.made + 1) r.drawn r.served at' r.ticket_seat) s.views id a
            record { stands = tt; kept = tt; one = omega arith; maker = λ _. (make.0, omega arith) }
            (λ i x other f. let ok = r.each_seat i x f in record { stands = ok.stands; kept = keep i x.claims ok.kept; one = ok.one; maker = λ z. absurd (other ((ok.maker z).0 ∙ sym make.0)) }) j u)
            (λ t. subst (λ (x : ℕ × View E). SeatOk r.log (r.made + 1) r.drawn r.served at' r.ticket_seat x.0 x.1) (λ i. (sym (t.0 ∙ length-set s.views id a) i, t.1 i))
            record {
              stands = tt;
              kept = ((omega arith, ap at' number ∙ put_here r.pass_seat r.made n, ((r.log, refl), ap (λ (z : ℕ). entries_of z r.log) number ∙ r.unused r.made (omega arith))), tt);
              one = omega arith;
              maker = λ z. absurd (omega arith);
            }) (at_last (set s.views id a) b u j e);
        placed = ⊎_elim (λ t. inl t) (λ t. let apart : r.ticket_seat r.served ≢ id = λ z. subst (λ (x : View E). HasTurn x.stage) (some-injective t.0 v (sym t.1 ∙ (ap (get_elem? s.views) z ∙ at))) t.2 in
            inr (t.0, at_longer (set s.views id a) (b ∷ []) (r.ticket_seat r.served) t.0 (set_else s.views id (r.ticket_seat r.served) a apart ∙ t.1), t.2, t.3)) r.placed;
      }

  -- 3. join
  pub joins : (id other makes makes' : ℕ) (cs bs : List (Claim E)) → Joins Rule id (seated Idle cs makes) other (seated Idle bs makes') (joined (seated Idle cs makes) (seated Idle bs makes')) spent
  joins id other makes makes' cs bs s r at apart there = let v : View E = seated Idle cs makes in let w : View E = seated Idle bs makes' in let a : View E = joined v w in let vs : List (View E) = set s.views id a in
      let at' = instead r.pass_seat other id in let mine = r.each_seat id v at in
      let was : get_elem? s.views other ≡ some w = sym (set_else s.views id other a apart) ∙ there in let theirs = r.each_seat other w was in
      let outs = total_set tickets_out s.views id v a at in let claims = total_set claim_count s.views id v a at in let out = r.out in let claimed = r.claimed in
      let outs' = total_set tickets_out vs other w spent there in let claims' = total_set claim_count vs other w spent there in let both = length-append cs bs in
      let keep : (j : ℕ) (cs : List (Claim E)) → j ≢ other → AllKept r.log r.made r.pass_seat j cs → AllKept r.log r.made at' j cs = λ j cs not k.
      all_kept r.log r.log r.made r.made r.pass_seat at' j j (omega arith) (λ c _ seat fits. (instead_else r.pass_seat other id c.number (λ e. not (sym seat ∙ e)) ∙ seat, fits)) cs k in
      let moved : AllKept r.log r.made at' id bs = all_kept r.log r.log r.made r.made r.pass_seat at' other id (omega arith) (λ c _ seat fits. (instead_there r.pass_seat other id c.number seat, fits)) bs theirs.kept in record {
        log = r.log;
        made = r.made;
        drawn = r.drawn;
        served = r.served;
        pass_seat = at';
        ticket_seat = r.ticket_seat;
        wide = r.wide;
        few = r.few;
        tickets = r.tickets;
        serving = r.serving;
        out = omega arith;
        claimed = omega arith;
        unused = r.unused;
        each_seat = all_set (SeatOk r.log r.made r.drawn r.served at' r.ticket_seat) vs other spent record { stands = tt; kept = tt; one = omega arith; maker = λ z. absurd (omega arith) }
            (λ j u not e. all_set (λ (i : ℕ) (x : View E). i ≢ other → SeatOk r.log r.made r.drawn r.served at' r.ticket_seat i x) s.views id a
            (λ _. record { stands = tt; kept = kept_append r.log r.made at' id cs bs (keep id cs (λ z. apart (sym z)) mine.kept) moved; one = omega arith; maker = mine.maker })
            (λ i x _ f far. let ok = r.each_seat i x f in record { stands = ok.stands; kept = keep i x.claims far ok.kept; one = ok.one; maker = ok.maker }) j u e not);
        placed = ⊎_elim (λ t. inl t) (λ t. let far : r.ticket_seat r.served ≢ id = λ z. subst (λ (x : View E). HasTurn x.stage) (some-injective t.0 v (sym t.1 ∙ (ap (get_elem? s.views) z ∙ at))) t.2 in
            let far' : r.ticket_seat r.served ≢ other = λ z. subst (λ (x : View E). HasTurn x.stage) (some-injective t.0 w (sym t.1 ∙ (ap (get_elem? s.views) z ∙ was))) t.2 in
            inr (t.0, set_else vs other (r.ticket_seat r.served) spent far' ∙ (set_else s.views id (r.ticket_seat r.served) a far ∙ t.1), t.2, t.3)) r.placed;
      }

  fits_all : (log : List (Entry E)) (made : ℕ) (at : ℕ → ℕ) (seat : ℕ) (cs : List (Claim E)) → AllKept log made at seat cs → (k : ℕ) (d : Claim E) → k < length cs → Fits log (get_or cs k d)
  fits_all log made at seat [] kept k d h = absurd (omega arith)
  fits_all log made at seat (c ∷ cs) kept zero d h = kept.0.2
  fits_all log made at seat (c ∷ cs) kept (suc k) d h = fits_all log made at seat cs kept.1 k d (omega arith)

  -- the end: where one seat has the claims of all passes, the value is at home, and its history fits them all
  pub ends : (s : St) (r : Rule s) (id makes : ℕ) (cs : List (Claim E)) → get_elem? s.views id ≡ some (seated Idle cs makes) → length cs ≡ passes
      → (w : W) × (get_elem? s.homes 0 ≡ some (some (Some w))) × All (Fits (history w)) cs
  ends s r id makes cs at whole = let v : View E = seated Idle cs makes in let mine = r.each_seat id v at in
      ⊎_elim (λ t. (t.0, ap (λ (hs : List (maybe.Option (Option W))). get_elem? hs 0) t.1, subst (λ (log : List (Entry E)). All (Fits log) cs) (sym t.2) (fits_all r.log r.made r.pass_seat id cs mine.kept)))
      (λ t. let seat = r.ticket_seat r.served in let apart : seat ≢ id = λ z. subst (λ (x : View E). HasTurn x.stage) (some-injective t.0 v (sym t.1 ∙ (ap (get_elem? s.views) z ∙ at))) t.2 in
      let rest = total_set claim_count s.views id v spent at in let there = set_else s.views id seat spent apart ∙ t.1 in let part = total_at claim_count (set s.views id spent) seat t.0 there in
      let claimed = r.claimed in let few = r.few.0 in let one = (r.each_seat seat t.0 t.1).one in let ticket : 0 < tickets_out t.0 = has_ticket t.0.stage t.2 in absurd (omega arith)) r.placed
    where
      has_ticket : (st : Stage E) → HasTurn st → 0 < stage_tickets st
      has_ticket Idle h = absurd h
      has_ticket (Waiting t) h = absurd h
      has_ticket (Turning t o) h = omega arith

  -- the steps of a seat with one claim, whatever it is
  pub draws_one : (slots id : ℕ) (me : M) → me.0.stage ≡ Idle → me.0.claims ≡ first_claim me.0.claims ∷ [] → Allows Rule slots id me 0 (λ n. (n + 1) % 2 ^ 64) (drew history (step slots 0 1 0 none) me)
  draws_one slots id me idle single = subst (λ (x : Stage E × List (Claim E)). Allows Rule slots id (seated x.0 x.1 me.0.makes, me.1) 0 (λ n. (n + 1) % 2 ^ 64) (drew history (step slots 0 1 0 none) (seated x.0 x.1 me.0.makes, me.1)))
      (λ i. (sym idle i, sym single i)) (draws slots id me.0.makes (first_claim me.0.claims) me.1)

  pub looks_one : (slots id : ℕ) (me : M) → me.0.claims ≡ first_claim me.0.claims ∷ [] → Allows Rule slots id me 1 (λ n. n) (looked history (step slots 1 0 0 none) me)
  looks_one slots id me single = subst (λ (cl : List (Claim E)). Allows Rule slots id (seated me.0.stage cl me.0.makes, me.1) 1 (λ n. n) (looked history (step slots 1 0 0 none) (seated me.0.stage cl me.0.makes, me.1)))
      (sym single) (looks slots id me.0.makes me.0.stage (first_claim me.0.claims) me.1)

  pub serves_one : (slots id t : ℕ) (me : M) (o : Open E) (w : W) (added : List E) → me.0.stage ≡ Turning t o → me.0.claims ≡ first_claim me.0.claims ∷ [] → me.1 ≡ (0, Some w) ∷ []
      → history w ≡ o.log ++ map (entry (first_claim me.0.claims).number) added → Allows Rule slots id me 1 (λ n. (n + 1) % 2 ^ 64) (served history (step slots 1 1 0 none) me)
  serves_one slots id t me o w added turn single carried adds =
      subst (λ (x : Stage E × List (Claim E) × List (ℕ × Option W)). Allows Rule slots id (seated x.0 x.1 me.0.makes, x.2) 1 (λ n. (n + 1) % 2 ^ 64) (served history (step slots 1 1 0 none) (seated x.0 x.1 me.0.makes, x.2)))
      (λ i. (sym turn i, sym single i, sym carried i)) (serves slots id me.0.makes t o (first_claim me.0.claims) w added adds)

  pub splits_one : (id n : ℕ) (v : View E) → v ≡ seated Idle [] (n + 1) → n < passes → Splits Rule id v (after_split v) (split_off v)
  splits_one id n v is room = subst (λ (x : View E). Splits Rule id x (after_split x) (split_off x)) (sym is) (splits id (n + 1) (omega arith) (omega arith))

  pub joins_one : (id other : ℕ) (v w : View E) → v.stage ≡ Idle → w.stage ≡ Idle → Joins Rule id v other w (joined v w) spent
  joins_one id other v w idle idle' = subst (λ (x : Stage E × Stage E). Joins Rule id (seated x.0 v.claims v.makes) other (seated x.1 w.claims w.makes) (joined (seated x.0 v.claims v.makes) (seated x.1 w.claims w.makes)) spent)
      (λ i. (sym idle i, sym idle' i)) (joins id other v.makes w.makes v.claims w.claims)
