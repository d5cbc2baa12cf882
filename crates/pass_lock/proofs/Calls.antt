-- What the lock's calls know of a seat before and after their steps.
use Rattle.std.proofs.Common.{◌≡◌, ℕ, zero, suc, ◌+◌, ◌-◌, ◌<◌, List, [], ◌∷◌, ◌++◌, map, length, get_or, replicate, sym, refl, ap, ◌∙◌, subst, arith, Option, Some, None, All}
use Rattle.atomic_table.specs.Seated.{TableId}
use Rattle.atomic_table.specs.Table.{Me, rest}
use Rattle.atomic_table.specs.declared.shared.Seat.{Seat}
use Rattle.pass_lock.specs.declared.notes.Entry.{Entry}
use Rattle.pass_lock.specs.declared.view.Claim.{Claim}
use Rattle.pass_lock.specs.declared.view.Open.{Open}
use Rattle.pass_lock.specs.declared.view.Stage.{Stage}
use Rattle.pass_lock.specs.declared.view.Stage.TheVariants.{Idle, Waiting, Turning}
use Rattle.pass_lock.specs.declared.view.View.{View}
use Rattle.pass_lock.specs.Histories.{entry}
use Rattle.pass_lock.specs.Passes.{Known, opened, fresh, fresh_from}
use Rattle.pass_lock.specs.Steps.{seated, HasTicket, began, open_turn, turn_log, first_claim, added_since, known, taken, NotWaiting, IsPass, new_claim, claim_of, after_split, split_off, joined}
use Rattle.pass_lock.proofs.Entries.{added_is}

pub zeros : (n i : ℕ) → ◌≡◌ {A = ℕ} (get_or (replicate n 0) i 0) 0
zeros zero i = refl
zeros (suc n) zero = refl
zeros (suc n) (suc i) = zeros n i

module _ {A : Type 0} (P : A → Type 0) where
  pub all_front : (xs ys : List A) → All P (xs ++ ys) → (k : ℕ) (d : A) → k < length xs → P (get_or xs k d)
  all_front [] ys a k d h = absurd (omega arith)
  all_front (x ∷ xs) ys a zero d h = a zero d (omega arith)
  all_front (x ∷ xs) ys a (suc k) d h = all_front xs ys (λ i e l. a (suc i) e (omega arith)) k d (omega arith)

  pub all_last : (xs : List A) (x : A) → All P (xs ++ x ∷ []) → P x
  all_last [] x a = a zero x (omega arith)
  all_last (y ∷ xs) x a = all_last xs x (λ i e l. a (suc i) e (omega arith))

pub all_map : {A B : Type 0} (f : A → B) (P : B → Type 0) (xs : List A) → All P (map f xs) → (k : ℕ) (d : A) → k < length xs → P (f (get_or xs k d))
all_map f P [] a k d h = absurd (omega arith)
all_map f P (x ∷ xs) a zero d h = a zero (f d) (omega arith)
all_map f P (x ∷ xs) a (suc k) d h = all_map f P xs (λ i e l. a (suc i) e (omega arith)) k d (omega arith)

module _ {E : Type 0} where
  pub fresh_last : (table : TableId) (number count : ℕ) → fresh_from {E = E} table number (suc count) ≡ fresh_from table number count ++ fresh table (number + count) ∷ []
  fresh_last table number zero = ap (λ (n : ℕ). fresh {E = E} table n ∷ []) (let e : number ≡ number + 0 = omega arith in e)
  fresh_last table number (suc count) = ap (λ (l : List (Known E)). fresh table number ∷ l) (fresh_last table (suc number) count
      ∙ ap (λ (n : ℕ). fresh_from {E = E} table (suc number) count ++ fresh table n ∷ []) (let e : suc number + count ≡ number + suc count = omega arith in e))

  abbrev IsIt : Option (Open E) → Type 0
  IsIt None = ⊥
  IsIt (Some o) = Unit {0}

  abbrev it_or : Open E → Option (Open E) → Open E
  it_or d None = d
  it_or d (Some o) = o

  pub turning : (st : Stage E) (o : Open E) → open_turn st ≡ Some o → (t : ℕ) × (st ≡ Turning t o)
  turning Idle o e = absurd (subst IsIt (sym e) tt)
  turning (Waiting t) o e = absurd (subst IsIt (sym e) tt)
  turning (Turning t p) o e = (t, ap (λ (z : Option (Open E)). let st : Stage E = Turning t (it_or p z) in st) e)

  pub idle : (st : Stage E) → open_turn st ≡ None → NotWaiting st → st ≡ Idle
  idle Idle e w = refl
  idle (Waiting t) e w = absurd w
  idle (Turning t o) e w = absurd (subst IsIt e tt)

  begins : (r : ℕ) (log : List (Entry E)) (st : Stage E) → HasTicket r st → NotWaiting (began log st) × (open_turn (began log st) ≡ Some (opened log))
  begins r log Idle h = absurd h
  begins r log (Waiting t) h = (tt, refl)
  begins r log (Turning t o) h = absurd h

  -- what a turn added, as `serve` computes it
  pub turn_added : (st : Stage E) (o : Open E) (number : ℕ) (added : List E) (later : List (Entry E)) → open_turn st ≡ Some o → later ≡ o.log ++ map (entry number) added → added_since (turn_log st) later ≡ added
  turn_added st o number added later turn adds = let t = turning st o turn in ap (λ (z : Stage E). added_since (turn_log z) later) t.1 ∙ added_is number o.log later added adds

module _ {W : Type 0} where
  abbrev head_or : Option W → List (ℕ × Option W) → Option W
  head_or d [] = d
  head_or d (x ∷ xs) = x.1

  pub same_head : (l r r' : List (ℕ × Option W)) (x y : Option W) → l ≡ (0, x) ∷ r → l ≡ (0, y) ∷ r' → x ≡ y
  same_head l r r' x y e f = ap (head_or x) (sym e ∙ f)

module _ {W E : Type 0} where
  -- a seat that has given its turn back, or was just made
  pub rests_idle : (s : Seat (Option W) (View E)) (c : Claim E) (makes : ℕ) → s.me ≡ (seated Idle (c ∷ []) makes, []) → IsPass s
  rests_idle s c makes e = record {
    single = subst (λ (x : Me (Option W) (View E)). x.0.claims ≡ first_claim x.0.claims ∷ []) (sym e) refl;
    rests = subst (λ (x : Me (Option W) (View E)). NotWaiting x.0.stage) (sym e) tt;
    carries = subst (λ (x : Me (Option W) (View E)). x.1 ≡ taken (open_turn x.0.stage)) (sym e) refl;
  }

  -- the seat after its value was taken out of the slot
  pub waited : (history : W → List (Entry E)) (m m₁ m₂ m₃ : Me (Option W) (View E)) (w v : W) → m₁ ≡ m → m₂ ≡ (record m₁.0 { stage = began (history w) m₁.0.stage }, (0, Some w) ∷ m₁.1) → m.1 ≡ [] → w ≡ v
      → m₃ ≡ (m₂.0, (0, None) ∷ rest m₂.1) → m₃ ≡ (record m.0 { stage = began (history v) m.0.stage }, (0, None) ∷ [])
  waited history m m₁ m₂ m₃ w v kept took bare same gave =
      gave ∙ (ap (λ (x : Me (Option W) (View E)). let z : Me (Option W) (View E) = (x.0, (0, None) ∷ rest x.1) in z) took
      ∙ (ap (λ (x : Me (Option W) (View E) × W). let z : Me (Option W) (View E) = (record x.0.0 { stage = began (history x.1) x.0.0.stage }, (0, None) ∷ x.0.1) in z) (λ i. (kept i, same i))
      ∙ ap (λ (l : List (ℕ × Option W)). let z : Me (Option W) (View E) = (record m.0 { stage = began (history v) m.0.stage }, (0, None) ∷ l) in z) bare))

  -- a seat that was just split off is the pass with the next number
  pub dealt : (s : Seat (Option W) (View E)) (table : TableId) (n : ℕ) → s.table_id ≡ table → s.me ≡ (seated Idle (new_claim ((n + 1) - 1) ∷ []) 0, []) → known s ≡ fresh table n
  dealt s table n same e = λ i. let c : Claim E = first_claim (e i).0.claims in record {
    table = same i;
    number = (ap (λ (x : Me (Option W) (View E)). (first_claim x.0.claims).number) e ∙ (let z : (n + 1) - 1 ≡ n = omega arith in z)) i;
    seen = c.seen;
    own = c.own;
    checkins = c.checkins;
    helds = c.helds;
    turn = open_turn (e i).0.stage;
  }

  -- a pass without a turn is an idle seat with what is known of the pass
  pub resting : (s : Seat (Option W) (View E)) (p : Known E) → IsPass s → known s ≡ p → p.turn ≡ None → s.me ≡ (seated Idle (claim_of p ∷ []) s.me.0.makes, [])
  resting s p pass is none = let turn : open_turn s.me.0.stage ≡ None = ap (λ (k : Known E). k.turn) is ∙ none in let rest_stage = idle s.me.0.stage turn pass.rests in
      let claims : s.me.0.claims ≡ claim_of p ∷ [] = pass.single ∙ ap (λ (k : Known E). claim_of k ∷ []) is in let carries : s.me.1 ≡ [] = pass.carries ∙ ap taken turn in
      λ i. (seated (rest_stage i) (claims i) s.me.0.makes, carries i)

  -- a split: the seat that makes passes, and the new one
  pub split_kept : (m m' : Me (Option W) (View E)) (n : ℕ) → m ≡ (seated Idle [] (n + 1), []) → m' ≡ (after_split m.0, m.1) → m' ≡ (seated Idle [] ((n + 1) + 1), [])
  split_kept m m' n p e = e ∙ ap (λ (x : Me (Option W) (View E)). let z : Me (Option W) (View E) = (after_split x.0, x.1) in z) p

  pub split_given : (m m' : Me (Option W) (View E)) (n : ℕ) → m ≡ (seated Idle [] (n + 1), []) → m' ≡ (split_off m.0, []) → m' ≡ (seated Idle (new_claim ((n + 1) - 1) ∷ []) 0, [])
  split_given m m' n p e = e ∙ ap (λ (x : Me (Option W) (View E)). let z : Me (Option W) (View E) = (split_off x.0, []) in z) p

  -- the seat after it took in one more
  pub gathers : (m n m' : Me (Option W) (View E)) (c : Claim E) (cs : List (Claim E)) → m ≡ (seated Idle (c ∷ []) m.0.makes, []) → n ≡ (seated Idle cs n.0.makes, []) → m' ≡ (joined m.0 n.0, m.1)
      → m' ≡ (seated Idle (c ∷ cs) m'.0.makes, [])
  gathers m n m' c cs p q f = let e : m' ≡ (seated Idle (c ∷ cs) m.0.makes, []) = f ∙ (λ i. (seated (p i).0.stage ((p i).0.claims ++ (q i).0.claims) (p i).0.makes, (p i).1)) in
      e ∙ ap (λ (k : ℕ). let z : Me (Option W) (View E) = (seated Idle (c ∷ cs) k, []) in z) (sym (ap (λ (x : Me (Option W) (View E)). x.0.makes) e))

  module _ (r : ℕ) (log : List (Entry E)) (s : Seat (Option W) (View E)) (m : Me (Option W) (View E)) (s' : Seat (Option W) (View E)) (single : s.me.0.claims ≡ first_claim s.me.0.claims ∷ []) (drew : HasTicket r m.0.stage) (drawn : m ≡ (record s.me.0 { stage = m.0.stage }, s.me.1))
      (at : s'.me ≡ (record m.0 { stage = began log m.0.stage }, (0, None) ∷ [])) where
    now : s'.me ≡ (seated (began log m.0.stage) s.me.0.claims s.me.0.makes, (0, None) ∷ [])
    now = at ∙ ap (λ (x : Me (Option W) (View E)). let z : Me (Option W) (View E) = (seated (began log m.0.stage) x.0.claims x.0.makes, (0, None) ∷ []) in z) drawn

    -- a seat that has taken its turn is a pass with that turn
    pub took_is : IsPass s'
    took_is = record {
      single = subst (λ (x : Me (Option W) (View E)). x.0.claims ≡ first_claim x.0.claims ∷ []) (sym now) single;
      rests = subst (λ (x : Me (Option W) (View E)). NotWaiting x.0.stage) (sym now) (begins r log m.0.stage drew).0;
      carries = subst (λ (x : Me (Option W) (View E)). x.1 ≡ taken (open_turn x.0.stage)) (sym now) (sym (ap taken (begins r log m.0.stage drew).1));
    }

    pub took : s'.table_id ≡ s.table_id → known s' ≡ record (known s) { turn = Some (opened log) }
    took same = λ i. let c : Claim E = first_claim (now i).0.claims in record {
      table = same i;
      number = c.number;
      seen = c.seen;
      own = c.own;
      checkins = c.checkins;
      helds = c.helds;
      turn = (ap (λ (x : Me (Option W) (View E)). open_turn x.0.stage) now ∙ (begins r log m.0.stage drew).1) i;
    }
