-- Parts of code with the shapes of their places, and how they are put together.
use Rattle.std.proofs.Common.{◌≡◌, ◌≤◌, ◌<◌, ℕ, zero, suc, ◌+◌, ◌-◌, Bool, true, false, [], ◌∷◌, ◌++◌, Contains, length, slice_get, Option, Some, None, refl, sym, ap, subst, ◌∙◌, arith, inl, inr, append-nil, append_assoc, length-append}
use Rattle.std.specs.Prelude.{◌⊎◌, IsTrue, ◌||◌, ◌&&◌}
use Rattle.c_semantics.specs.Texts.{Definitions}
use Rattle.c_semantics.specs.Stops as stop
use Rattle.bytecode.specs.Instructions.{Instruction, Halt, Back}
use Rattle.tree_code.specs.Code.{Code}
use Rattle.code_kinds.specs.declared.kind.WordKind.{WordKind}
use Rattle.code_kinds.specs.StopKinds.{Words}
use Rattle.code_kinds.specs.Shapes.{Shape, after, leads_to}
use Rattle.code_kinds.specs.WellFormed.{Shapes, Comes, led, deepest}
use Rattle.formed_code.proofs.Lists.{both_true, contains_none, contains_one, either_true, left_of_both, left_true, never, none_some, right_of_both, right_true, same_item}

-- ---- targets of jumps

-- where a jump out of some code leads, if some may: so many instructions on from the code's end, with a shape
pub record Target : Type 0 where
  pub far : ℕ
  pub shape : Shape
  pub real : Bool

-- by number
abbrev pub Targets : Type 0
Targets = ℕ → Target

-- one more, with the number 0; all so many instructions further on
abbrev pub more : Target → Targets → Targets
more t k zero = t
more t k (suc w) = k w

abbrev pub further : ℕ → Targets → Targets
further n k w = record { far = n + (k w).far; shape = (k w).shape; real = (k w).real }

-- ---- shapes of places

-- the shapes of some code's places; none where control doesn't come
abbrev pub Notes : Code → Type 0
Notes [] = Unit {0}
Notes (i ∷ is) = Option Shape × Notes is

abbrev pub joined : (a b : Code) → Notes a → Notes b → Notes (a ++ b)
joined [] b na nb = nb
joined (i ∷ a) b na nb = (na.0, joined a b na.1 nb)

-- some code is at a place, with these shapes
abbrev pub Stands : Code → Shapes → ℕ → (is : Code) → Notes is → Type 0
Stands code shapes p [] notes = Unit {0}
Stands code shapes p (i ∷ is) notes = (slice_get code p ≡ Some i) × (shapes p ≡ notes.0) × Stands code shapes (suc p) is notes.1

pub record At (code : Code) (shapes : Shapes) (p : ℕ) (is : Code) (notes : Notes is) (end : ℕ) : Type 0 where
  pub has : Stands code shapes p is notes
  pub ends : end ≡ p + length is

stands_apart : (code : Code) (shapes : Shapes) (p : ℕ) (a b : Code) (na : Notes a) (nb : Notes b)
    → Stands code shapes p (a ++ b) (joined a b na nb) → Stands code shapes p a na × Stands code shapes (p + length a) b nb
stands_apart code shapes p [] b na nb h = (tt, subst (λ q. Stands code shapes q b nb) (omega arith) h)
stands_apart code shapes p (i ∷ a) b na nb h =
    let r = stands_apart code shapes (suc p) a b na.1 nb h.2 in
    ((h.0, h.1, r.0), subst (λ q. Stands code shapes q b nb) (omega arith) r.1)

-- code in two parts
pub record Apart (code : Code) (shapes : Shapes) (p : ℕ) (a b : Code) (na : Notes a) (nb : Notes b) (end : ℕ) : Type 0 where
  pub middle : ℕ
  pub first : At code shapes p a na middle
  pub second : At code shapes middle b nb end

pub apart : {code : Code} {shapes : Shapes} {p end : ℕ} (a b : Code) (na : Notes a) (nb : Notes b)
    → At code shapes p (a ++ b) (joined a b na nb) end → Apart code shapes p a b na nb end
apart {code} {shapes} {p} {end} a b na nb x =
    let r = stands_apart code shapes p a b na nb x.has in
    record {
      middle = p + length a;
      first = record { has = r.0; ends = refl };
      second = record { has = r.1; ends = x.ends ∙ far (length a) (length b) (length-append a b) };
    }
  where
    far : (m n : ℕ) {l : ℕ} → l ≡ m + n → p + l ≡ p + m + n
    far m n e = omega (arith, e)

-- a way with a shape comes to a place; variables that were declared last may be forgotten
pub record Carries (shapes : Shapes) (s : Shape) (q : ℕ) : Type 0 where
  pub there : Shape
  pub has : shapes q ≡ Some there
  pub stack : there.stack ≡ s.stack
  pub transactions : there.transactions ≡ s.transactions
  pub due : there.due ≡ s.due
  pub forgotten : Words
  pub variables : s.variables ≡ there.variables ++ forgotten

pub carried : {shapes : Shapes} {s : Shape} {p q : ℕ} → p ≡ q → Carries shapes s p → Carries shapes s q
carried {shapes} {s} e c = subst (λ x. Carries shapes s x) e c

-- a shape is another with variables that were declared later
pub record Extends (s x : Shape) : Type 0 where
  pub stack : x.stack ≡ s.stack
  pub transactions : x.transactions ≡ s.transactions
  pub due : x.due ≡ s.due
  pub dropped : Words
  pub variables : s.variables ≡ x.variables ++ dropped

pub same_shape : (s : Shape) → Extends s s
same_shape s = record { stack = refl; transactions = refl; due = refl; dropped = []; variables = sym (append-nil s.variables) }

pub here_is : {shapes : Shapes} {s : Shape} {q : ℕ} → shapes q ≡ Some s → Carries shapes s q
here_is {shapes} {s} {q} e =
    record { there = s; has = e; stack = refl; transactions = refl; due = refl; forgotten = []; variables = sym (append-nil s.variables) }

behind : (a b c x y : Words) → a ≡ b ++ x → b ≡ c ++ y → a ≡ c ++ (y ++ x)
behind a b c x y e f = e ∙ ap (λ z. z ++ x) f ∙ simp append_assoc refl

pub extended : {shapes : Shapes} {s x : Shape} {q : ℕ} → Extends s x → Carries shapes x q → Carries shapes s q
extended {shapes} {s} {x} {q} e c = record {
  there = c.there;
  has = c.has;
  stack = c.stack ∙ e.stack;
  transactions = c.transactions ∙ e.transactions;
  due = c.due ∙ e.due;
  forgotten = c.forgotten ++ e.dropped;
  variables = behind s.variables x.variables c.there.variables e.dropped c.forgotten e.variables c.variables;
}

-- the shape of a place to which control comes, if it does
abbrev pub noted : Bool → Shape → Option Shape
noted true s = Some s
noted false s = None

noted_here : (r : Bool) (s : Shape) → IsTrue r → noted r s ≡ Some s
noted_here true s e = refl
noted_here false s e = absurd (never e)

noted_is : (r : Bool) (s x : Shape) → noted r s ≡ Some x → IsTrue r × (s ≡ x)
noted_is true s x e = (refl, same_item refl e)
noted_is false s x e = absurd (none_some refl e)

module _ (look : Definitions) (result : WordKind) (room : ℕ) where
  -- ---- instructions that are fine

  -- an instruction finds what it takes, and its ways come to places with shapes
  pub record Sound (shapes : Shapes) (p : ℕ) (i : Instruction) (s : Shape) : Type 0 where
    pub left : Shape
    pub leaves : after look result room i s ≡ Some left
    pub shallow : length left.stack ≤ deepest
    pub goes : (q : ℕ) → Contains (leads_to p i) q → Carries shapes left q

  -- a back edge leads to a place with as many variables as it says
  abbrev pub Edge : Shapes → ℕ → Instruction → Type 0
  Edge shapes p (Back d n v) = (q : ℕ) → q + d ≡ p → (there : Shape) → shapes q ≡ Some there → length there.variables ≡ v
  Edge shapes p _ = Unit {0}

  pub record Good (code : Code) (shapes : Shapes) (p : ℕ) (i : Instruction) : Type 0 where
    pub sound : (s : Shape) → shapes p ≡ Some s → Sound shapes p i s
    pub comes : (s : Shape) → shapes p ≡ Some s → Comes code shapes p
    pub edge : Edge shapes p i

  abbrev pub AllGood : Code → Shapes → ℕ → Code → Type 0
  AllGood code shapes p [] = Unit {0}
  AllGood code shapes p (i ∷ is) = Good code shapes p i × AllGood code shapes (suc p) is

  good_append : (code : Code) (shapes : Shapes) (p : ℕ) (a b : Code) → AllGood code shapes p a → AllGood code shapes (p + length a) b
      → AllGood code shapes p (a ++ b)
  good_append code shapes p [] b g h = subst (λ q. AllGood code shapes q b) (omega arith) h
  good_append code shapes p (i ∷ a) b g h =
      (g.0, good_append code shapes (suc p) a b g.1 (subst (λ q. AllGood code shapes q b) (omega arith) h))

  pub good_behind : (code : Code) (shapes : Shapes) (p middle : ℕ) (a b : Code) → middle ≡ p + length a → AllGood code shapes p a
      → AllGood code shapes middle b → AllGood code shapes p (a ++ b)
  good_behind code shapes p middle a b e g h =
      good_append code shapes p a b g (subst (λ q. AllGood code shapes q b) e h)

  -- ---- segments

  -- ways out of some code come to places with shapes: at its end, and at its targets
  pub record Exits (shapes : Shapes) (k : Targets) (on : Bool) (out : ℕ → Bool) (t : Shape) (end : ℕ) : Type 0 where
    pub falls : IsTrue on → Carries shapes t end
    pub leaps : (w : ℕ) → IsTrue (out w) → Carries shapes (k w).shape (end + (k w).far)

  -- where control comes to some code, if it does, all variables are there with which it begins; or the code is empty
  abbrev pub Starts : Shapes → Shape → Shape → ℕ → ℕ → Type 0
  Starts shapes s t p end =
      (there : Shape) → shapes p ≡ Some there
      → (length there.variables ≡ length s.variables) ⊎ ((p ≡ end) × (length t.variables ≡ length s.variables))

  -- some code that is fine from one shape to another, with targets, wherever it stands; whether control comes to it is given
  pub record Segment (r : Bool) (k : Targets) (is : Code) (s t : Shape) : Type 0 where
    pub on : Bool
    pub out : ℕ → Bool
    pub notes : Notes is
    pub lives : IsTrue on → IsTrue r
    pub leaps_live : (w : ℕ) → IsTrue (out w) → IsTrue r × IsTrue (k w).real
    pub carries : (code : Code) (shapes : Shapes) (p end : ℕ) → At code shapes p is notes end → IsTrue r
        → Exits shapes k on out t end → Carries shapes s p
    pub comes : (code : Code) (shapes : Shapes) (p end : ℕ) → At code shapes p is notes end → (IsTrue r → Comes code shapes p)
        → IsTrue on → Comes code shapes end
    pub leaves : (code : Code) (shapes : Shapes) (p end : ℕ) → At code shapes p is notes end → (IsTrue r → Comes code shapes p)
        → (w : ℕ) → IsTrue (out w) → Comes code shapes (end + (k w).far)
    pub starts : (code : Code) (shapes : Shapes) (p end : ℕ) → At code shapes p is notes end → Starts shapes s t p end
    pub good : (code : Code) (shapes : Shapes) (p end : ℕ) → At code shapes p is notes end → (IsTrue r → Comes code shapes p)
        → Exits shapes k on out t end → AllGood code shapes p is

  pub recoded : {r : Bool} {k : Targets} {a b : Code} {s t : Shape} → a ≡ b → Segment r k a s t → Segment r k b s t
  recoded {r} {k} {a} {b} {s} {t} e f = subst (λ x. Segment r k x s t) e f

  pub to_shape : {r : Bool} {k : Targets} {a : Code} {s t u : Shape} → t ≡ u → Segment r k a s t → Segment r k a s u
  to_shape {r} {k} {a} {s} e f = subst (λ x. Segment r k a s x) e f

  none_on : (p : ℕ) → p ≡ p + 0
  none_on p = omega arith

  pub nothing : (r : Bool) (k : Targets) (s : Shape) → Segment r k [] s s
  nothing r k s = record {
    on = r;
    out = λ w. false;
    notes = tt;
    lives = λ h. h;
    leaps_live = λ w h. absurd (never h);
    carries = λ code shapes p end x h e. carried (x.ends ∙ sym (none_on p)) (e.falls h);
    comes = λ code shapes p end x c h. subst (λ q. Comes code shapes q) (none_on p ∙ sym x.ends) (c h);
    leaves = λ code shapes p end x c w h. absurd (never h);
    starts = λ code shapes p end x there e. inr (none_on p ∙ sym x.ends, refl);
    good = λ code shapes p end x c e. tt;
  }

  -- the one and then the other
  module _ (r : Bool) (k : Targets) (a b : Code) (s m t : Shape) (f : Segment r (further (length b) k) a s m)
      (g : Segment f.on k b m t) where
    over : (q e l n : ℕ) → e ≡ q + l → e + n ≡ q + (l + n)
    over q e l n h = omega (arith, h)

    abbrev out_of_both : ℕ → Bool
    out_of_both w = f.out w || g.out w

    second_exits : (shapes : Shapes) (end : ℕ) → Exits shapes k g.on out_of_both t end → Exits shapes k g.on g.out t end
    second_exits shapes end e = record { falls = e.falls; leaps = λ w h. e.leaps w (right_true (f.out w) (g.out w) h) }

    first_exits : (code : Code) (shapes : Shapes) (q end : ℕ) → At code shapes q b g.notes end → Exits shapes k g.on out_of_both t end
        → Exits shapes (further (length b) k) f.on f.out m q
    first_exits code shapes q end x e = record {
      falls = λ h. g.carries code shapes q end x h (second_exits shapes end e);
      leaps = λ w h. carried (over q end (length b) (k w).far x.ends) (e.leaps w (left_true (f.out w) (g.out w) h));
    }

    one_lives : (w : ℕ) → IsTrue (f.out w) ⊎ IsTrue (g.out w) → IsTrue r × IsTrue (k w).real
    one_lives w (inl h) = f.leaps_live w h
    one_lives w (inr h) = (f.lives (g.leaps_live w h).0, (g.leaps_live w h).1)

    left : (code : Code) (shapes : Shapes) (p q end : ℕ) → At code shapes p a f.notes q → At code shapes q b g.notes end
        → (IsTrue r → Comes code shapes p) → (w : ℕ) → IsTrue (f.out w) ⊎ IsTrue (g.out w) → Comes code shapes (end + (k w).far)
    left code shapes p q end x y c w (inl h) =
        subst (λ z. Comes code shapes z) (sym (over q end (length b) (k w).far y.ends)) (f.leaves code shapes p q x c w h)
    left code shapes p q end x y c w (inr h) =
        g.leaves code shapes q end y (λ j. f.comes code shapes p q x c j) w h

    begun : (code : Code) (shapes : Shapes) (p q end : ℕ) → At code shapes q b g.notes end → (there : Shape) → shapes p ≡ Some there
        → (length there.variables ≡ length s.variables) ⊎ ((p ≡ q) × (length m.variables ≡ length s.variables))
        → (length there.variables ≡ length s.variables) ⊎ ((p ≡ end) × (length t.variables ≡ length s.variables))
    begun code shapes p q end y there e (inl h) = inl h
    begun code shapes p q end y there e (inr h) =
        elim (g.starts code shapes q end y there (sym (ap shapes h.0) ∙ e))
        [ inl j ↦ inl (j ∙ h.1) | inr j ↦ inr (h.0 ∙ j.0, j.1 ∙ h.1) ]

    pub both : Segment r k (a ++ b) s t
    both = record {
      on = g.on;
      out = out_of_both;
      notes = joined a b f.notes g.notes;
      lives = λ h. f.lives (g.lives h);
      leaps_live = λ w h. one_lives w (either_true (f.out w) (g.out w) h);
      carries = λ code shapes p end x h e.
          let y = apart a b f.notes g.notes x in
          f.carries code shapes p y.middle y.first h (first_exits code shapes y.middle end y.second e);
      comes = λ code shapes p end x c h.
          let y = apart a b f.notes g.notes x in
          g.comes code shapes y.middle end y.second (λ j. f.comes code shapes p y.middle y.first c j) h;
      leaves = λ code shapes p end x c w h.
          let y = apart a b f.notes g.notes x in
          left code shapes p y.middle end y.first y.second c w (either_true (f.out w) (g.out w) h);
      starts = λ code shapes p end x there e.
          let y = apart a b f.notes g.notes x in
          begun code shapes p y.middle end y.second there e (f.starts code shapes p y.middle y.first there e);
      good = λ code shapes p end x c e.
          let y = apart a b f.notes g.notes x in
          good_behind code shapes p y.middle a b y.first.ends
          (f.good code shapes p y.middle y.first c (first_exits code shapes y.middle end y.second e))
          (g.good code shapes y.middle end y.second (λ j. f.comes code shapes p y.middle y.first c j) (second_exits shapes end e));
    }

  pub and_then : {r : Bool} {k : Targets} {a b : Code} {s m t : Shape} → Segment r (further (length b) k) a s m
      → ((q : Bool) → Segment q k b m t) → Segment r k (a ++ b) s t
  and_then {r} {k} {a} {b} {s} {m} {t} f g = both r k a b s m t f (g f.on)

  -- jumps to the end of some code
  module _ (r : Bool) (k : Targets) (is : Code) (s t : Shape) (f : Segment r (more (record { far = 0; shape = t; real = true }) k) is s t) where
    inner_exits : (shapes : Shapes) (end : ℕ) → Exits shapes k (f.on || f.out 0) (λ w. f.out (suc w)) t end
        → Exits shapes (more (record { far = 0; shape = t; real = true }) k) f.on f.out t end
    inner_exits shapes end e = record { falls = λ h. e.falls (left_true f.on (f.out 0) h); leaps = leaps }
      where
        leaps : (w : ℕ) → IsTrue (f.out w) → Carries shapes (more (record { far = 0; shape = t; real = true }) k w).shape (end + (more (record { far = 0; shape = t; real = true }) k w).far)
        leaps zero h = carried (none_on end) (e.falls (right_true f.on (f.out 0) h))
        leaps (suc w) h = e.leaps w h

    arrives : (code : Code) (shapes : Shapes) (p end : ℕ) → At code shapes p is f.notes end → (IsTrue r → Comes code shapes p)
        → IsTrue f.on ⊎ IsTrue (f.out 0) → Comes code shapes end
    arrives code shapes p end x c (inl h) = f.comes code shapes p end x c h
    arrives code shapes p end x c (inr h) = subst (λ q. Comes code shapes q) (sym (none_on end)) (f.leaves code shapes p end x c 0 h)

    either_lives : IsTrue f.on ⊎ IsTrue (f.out 0) → IsTrue r
    either_lives (inl h) = f.lives h
    either_lives (inr h) = (f.leaps_live 0 h).0

    pub landed : Segment r k is s t
    landed = record {
      on = f.on || f.out 0;
      out = λ w. f.out (suc w);
      notes = f.notes;
      lives = λ h. either_lives (either_true f.on (f.out 0) h);
      leaps_live = λ w h. f.leaps_live (suc w) h;
      carries = λ code shapes p end x h e. f.carries code shapes p end x h (inner_exits shapes end e);
      comes = λ code shapes p end x c h. arrives code shapes p end x c (either_true f.on (f.out 0) h);
      leaves = λ code shapes p end x c w h. f.leaves code shapes p end x c (suc w) h;
      starts = f.starts;
      good = λ code shapes p end x c e. f.good code shapes p end x c (inner_exits shapes end e);
    }

  pub land : {r : Bool} {k : Targets} {is : Code} {s t : Shape} → Segment r (more (record { far = 0; shape = t; real = true }) k) is s t
      → Segment r k is s t
  land {r} {k} {is} {s} {t} f = landed r k is s t f

  -- variables are forgotten at the end
  pub forgetting : {r : Bool} {k : Targets} {is : Code} {s t u : Shape} → Extends t u → length u.variables ≡ length s.variables
      → Segment r k is s t → Segment r k is s u
  forgetting {r} {k} {is} {s} {t} {u} x l f = record {
    on = f.on;
    out = f.out;
    notes = f.notes;
    lives = f.lives;
    leaps_live = f.leaps_live;
    carries = λ code shapes p end y h e. f.carries code shapes p end y h (exits shapes end e);
    comes = f.comes;
    leaves = f.leaves;
    starts = λ code shapes p end y there e.
        elim (f.starts code shapes p end y there e) [ inl h ↦ inl h | inr h ↦ inr (h.0, l) ];
    good = λ code shapes p end y c e. f.good code shapes p end y c (exits shapes end e);
  }
    where
      exits : (shapes : Shapes) (end : ℕ) → Exits shapes k f.on f.out u end → Exits shapes k f.on f.out t end
      exits shapes end e = record { falls = λ h. extended x (e.falls h); leaps = e.leaps }

  -- ---- one instruction

  -- where an instruction leads: to the next one, or to a target with a shape that its own one extends
  abbrev pub LeadsTo : Targets → Bool → (ℕ → Bool) → Shape → ℕ → ℕ → Type 0
  LeadsTo k falls out left p q =
      (IsTrue falls × (q ≡ suc p)) ⊎ ((w : ℕ) × IsTrue (out w) × Extends left (k w).shape × (q ≡ suc p + (k w).far))

  pub record Acts (k : Targets) (i : Instruction) (s left : Shape) (falls : Bool) (out : ℕ → Bool) : Type 0 where
    pub leaves : after look result room i s ≡ Some left
    pub shallow : length left.stack ≤ deepest
    pub edge : (shapes : Shapes) (p : ℕ) → Edge shapes p i
    pub goes : (p q : ℕ) → Contains (leads_to p i) q → LeadsTo k falls out left p q
    pub next : (p : ℕ) → IsTrue falls → Contains (leads_to p i) (suc p)
    pub leaps : (p w : ℕ) → IsTrue (out w) → Contains (leads_to p i) (suc p + (k w).far)
    pub real : (w : ℕ) → IsTrue (out w) → IsTrue (k w).real

  module _ (r : Bool) (k : Targets) (i : Instruction) (s left t : Shape) (falls : Bool) (out : ℕ → Bool)
      (acts : Acts k i s left falls out) (to : IsTrue falls → left ≡ t) where
    abbrev notes_of : Notes (i ∷ [])
    notes_of = (noted r s, tt)

    one_on : (p end : ℕ) → end ≡ p + 1 → suc p ≡ end
    one_on p end e = omega (arith, e)

    before : (p q : ℕ) → p < suc p + q
    before p q = omega arith

    before_next : (p : ℕ) → p < suc p
    before_next p = omega arith

    brings : (shapes : Shapes) (p end q : ℕ) → end ≡ p + 1 → IsTrue r → Exits shapes k (r && falls) (λ w. r && out w) t end
        → LeadsTo k falls out left p q → Carries shapes left q
    brings shapes p end q x h e (inl j) =
        subst (λ y. Carries shapes y q) (sym (to j.0)) (carried (sym (one_on p end x) ∙ sym j.1) (e.falls (both_true r falls h j.0)))
    brings shapes p end q x h e (inr j) =
        extended j.2 (carried (ap (λ y. y + (k j.0).far) (sym (one_on p end x)) ∙ sym j.3) (e.leaps j.0 (both_true r (out j.0) h j.1)))

    here_good : (code : Code) (shapes : Shapes) (p end : ℕ) → At code shapes p (i ∷ []) notes_of end → (IsTrue r → Comes code shapes p)
        → Exits shapes k (r && falls) (λ w. r && out w) t end → Good code shapes p i
    here_good code shapes p end x c e = record {
      sound = λ y f.
          let n = noted_is r s y (sym x.has.1 ∙ f) in
          subst (λ z. Sound shapes p i z) n.1 (record {
            left = left;
            leaves = acts.leaves;
            shallow = acts.shallow;
            goes = λ q j. brings shapes p end q x.ends n.0 e (acts.goes p q j);
          });
      comes = λ y f. c (noted_is r s y (sym x.has.1 ∙ f)).0;
      edge = acts.edge shapes p;
    }

    pub single : Segment r k (i ∷ []) s t
    single = record {
      on = r && falls;
      out = λ w. r && out w;
      notes = notes_of;
      lives = λ h. left_of_both r falls h;
      leaps_live = λ w h. (left_of_both r (out w) h, acts.real w (right_of_both r (out w) h));
      carries = λ code shapes p end x h e. here_is (x.has.1 ∙ noted_here r s h);
      comes = λ code shapes p end x c h.
          subst (λ q. Comes code shapes q) (one_on p end x.ends)
          (led p i s (before_next p) x.has.0 (x.has.1 ∙ noted_here r s (left_of_both r falls h)) (acts.next p (right_of_both r falls h)));
      leaves = λ code shapes p end x c w h.
          subst (λ q. Comes code shapes (q + (k w).far)) (one_on p end x.ends)
          (led p i s (before p (k w).far) x.has.0 (x.has.1 ∙ noted_here r s (left_of_both r (out w) h))
          (acts.leaps p w (right_of_both r (out w) h)));
      starts = λ code shapes p end x there e. inl (ap (λ y. length y.variables) (sym (noted_is r s there (sym x.has.1 ∙ e)).1));
      good = λ code shapes p end x c e. (here_good code shapes p end x c e, tt);
    }

  -- ---- loops

  -- some code, and a back edge to its beginning
  module _ (r : Bool) (k : Targets) (is : Code) (n v : ℕ) (s t : Shape) (f : Segment r (further 1 k) is s s)
      (turns : (d : ℕ) → after look result room (Back d n v) s ≡ Some s) (shallow : length s.stack ≤ deepest)
      (keeps : length s.variables ≡ v) where
    abbrev edge : Instruction
    edge = Back (length is) n v

    abbrev edge_notes : Notes (edge ∷ [])
    edge_notes = (noted f.on s, tt)

    past : (q end n : ℕ) → end ≡ q + 1 → end + n ≡ q + (1 + n)
    past q end n e = omega (arith, e)

    start_of : (p q l : ℕ) → q ≡ p + l → q - l ≡ p
    start_of p q l e = omega (arith, e)

    only_start : (p q l z : ℕ) → q ≡ p + l → z + l ≡ q → z ≡ p
    only_start p q l z e g = omega (arith, e, g)

    turn_exits : (code : Code) (shapes : Shapes) (q end : ℕ) → At code shapes q (edge ∷ []) edge_notes end
        → Exits shapes k false f.out t end → Exits shapes (further 1 k) f.on f.out s q
    turn_exits code shapes q end x e = record {
      falls = λ j. here_is (x.has.1 ∙ noted_here f.on s j);
      leaps = λ w j. carried (past q end (k w).far x.ends) (e.leaps w j);
    }

    loop_starts : (code : Code) (shapes : Shapes) (p q end : ℕ) → At code shapes p is f.notes q → At code shapes q (edge ∷ []) edge_notes end
        → (there : Shape) → shapes p ≡ Some there → length there.variables ≡ length s.variables
    loop_starts code shapes p q end x y there e =
        elim (f.starts code shapes p q x there e) [
          | inl h ↦ h
          | inr h ↦ ap (λ z. length z.variables) (sym (noted_is f.on s there (sym y.has.1 ∙ ap shapes (sym h.0) ∙ e)).1)
        ]

    edge_good : (code : Code) (shapes : Shapes) (p q end : ℕ) → At code shapes p is f.notes q → At code shapes q (edge ∷ []) edge_notes end
        → (IsTrue r → Comes code shapes p) → Exits shapes k false f.out t end → Good code shapes q edge
    edge_good code shapes p q end x y c e = record {
      sound = λ z g.
          let n = noted_is f.on s z (sym y.has.1 ∙ g) in
          let h = f.lives n.0 in
          subst (λ o. Sound shapes q edge o) n.1 (record {
            left = s;
            leaves = turns (length is);
            shallow = shallow;
            goes = λ o j. carried (sym (start_of p q (length is) x.ends) ∙ sym (contains_one (q - length is) o j))
                (f.carries code shapes p q x h (turn_exits code shapes q end y e));
          });
      comes = λ z g. f.comes code shapes p q x c (noted_is f.on s z (sym y.has.1 ∙ g)).0;
      edge = λ z g there o.
          loop_starts code shapes p q end x y there (ap shapes (sym (only_start p q (length is) z x.ends g)) ∙ o) ∙ keeps;
    }

    pub looped : Segment r k (is ++ edge ∷ []) s t
    looped = record {
      on = false;
      out = f.out;
      notes = joined is (edge ∷ []) f.notes edge_notes;
      lives = λ h. absurd (never h);
      leaps_live = f.leaps_live;
      carries = λ code shapes p end x h e.
          let y = apart is (edge ∷ []) f.notes edge_notes x in
          f.carries code shapes p y.middle y.first h (turn_exits code shapes y.middle end y.second e);
      comes = λ code shapes p end x c h. absurd (never h);
      leaves = λ code shapes p end x c w h.
          let y = apart is (edge ∷ []) f.notes edge_notes x in
          subst (λ z. Comes code shapes z) (sym (past y.middle end (k w).far y.second.ends)) (f.leaves code shapes p y.middle y.first c w h);
      starts = λ code shapes p end x there e.
          let y = apart is (edge ∷ []) f.notes edge_notes x in
          inl (loop_starts code shapes p y.middle end y.first y.second there e);
      good = λ code shapes p end x c e.
          let y = apart is (edge ∷ []) f.notes edge_notes x in
          good_behind code shapes p y.middle is (edge ∷ []) y.first.ends
          (f.good code shapes p y.middle y.first c (turn_exits code shapes y.middle end y.second e))
          (edge_good code shapes p y.middle end y.first y.second c e, tt);
    }

  -- ---- a whole function

  -- some code that is fine from a shape on to its last return
  pub record Final (is : Code) (s : Shape) : Type 0 where
    pub notes : Notes is
    pub carries : (code : Code) (shapes : Shapes) (p end : ℕ) → At code shapes p is notes end → Carries shapes s p
    pub good : (code : Code) (shapes : Shapes) (p end : ℕ) → At code shapes p is notes end → Comes code shapes p
        → AllGood code shapes p is

  module _ (k : Targets) (is : Code) (n : ℕ) (s t left : Shape) (f : Segment true k is s t)
      (leaves : after look result room (Halt stop.Return n) t ≡ Some left) (shallow : length left.stack ≤ deepest)
      (unreal : (w : ℕ) → (k w).real ≡ false) where
    abbrev last : Instruction
    last = Halt stop.Return n

    abbrev last_notes : Notes (last ∷ [])
    last_notes = (noted f.on t, tt)

    last_exits : (code : Code) (shapes : Shapes) (q end : ℕ) → At code shapes q (last ∷ []) last_notes end → Exits shapes k f.on f.out t q
    last_exits code shapes q end x = record {
      falls = λ h. here_is (x.has.1 ∙ noted_here f.on t h);
      leaps = λ w h. absurd (never (sym (unreal w) ∙ (f.leaps_live w h).1));
    }

    last_good : (code : Code) (shapes : Shapes) (p q end : ℕ) → At code shapes p is f.notes q → At code shapes q (last ∷ []) last_notes end
        → Comes code shapes p → Good code shapes q last
    last_good code shapes p q end x y c = record {
      sound = λ z g.
          subst (λ o. Sound shapes q last o) (noted_is f.on t z (sym y.has.1 ∙ g)).1
          (record { left = left; leaves = leaves; shallow = shallow; goes = λ o j. absurd (contains_none o j) });
      comes = λ z g. f.comes code shapes p q x (λ h. c) (noted_is f.on t z (sym y.has.1 ∙ g)).0;
      edge = tt;
    }

    pub final : Final (is ++ last ∷ []) s
    final = record {
      notes = joined is (last ∷ []) f.notes last_notes;
      carries = λ code shapes p end x.
          let y = apart is (last ∷ []) f.notes last_notes x in
          f.carries code shapes p y.middle y.first refl (last_exits code shapes y.middle end y.second);
      good = λ code shapes p end x c.
          let y = apart is (last ∷ []) f.notes last_notes x in
          good_behind code shapes p y.middle is (last ∷ []) y.first.ends
          (f.good code shapes p y.middle y.first (λ h. c) (last_exits code shapes y.middle end y.second))
          (last_good code shapes p y.middle end y.first y.second c, tt);
    }

-- whether two numbers of targets are one
abbrev pub mark : ℕ → ℕ → Bool
mark zero zero = true
mark zero (suc w) = false
mark (suc b) zero = false
mark (suc b) (suc w) = mark b w

pub mark_same : (b : ℕ) → IsTrue (mark b b)
mark_same zero = refl
mark_same (suc b) = mark_same b

pub mark_only : (b w : ℕ) → IsTrue (mark b w) → b ≡ w
mark_only zero zero e = refl
mark_only zero (suc w) e = absurd (never e)
mark_only (suc b) zero e = absurd (never e)
mark_only (suc b) (suc w) e = ap suc (mark_only b w e)
