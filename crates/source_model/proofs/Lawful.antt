-- The laws of the source machine.
use Rattle.std.proofs.Common.{◌≡◌, ℕ, Bool, true, false, ◌||◌, List, [], ◌∷◌, ◌++◌, Option, Some, None, refl, sym, ◌∙◌, ap, subst}
use Rattle.std.specs.Prelude.{IsTrue, ◌||◌, if◌then◌else◌}
use Rattle.std.specs.Option.{option_and_then}
use Rattle.std.proofs.lemmas.List.{append-nil, append_assoc}
use Rattle.c_tree.specs.BareDef.{BareDef}
use Rattle.source_model.specs.Worlds.{World, Limits, in_slot, is_over}
use Rattle.source_model.specs.Moves.{move, move_of}
use Rattle.source_model.specs.Waits.{must_wait}
use Rattle.source_model.specs.Installs.{installed}
use Rattle.source_model.specs.Runs.{SourceMove, Move, Install, install, step, run, start}
use Rattle.source_model.specs.Laws.{TwoParts, MarkedStands, InstallKeepsThreads, InstallKeepsOutput, OthersStay, Grows, OutputGrows, EntriesApart}
use Rattle.source_model.specs.Versions.{AllApart}
use Rattle.source_model.proofs.Apart.{next_table_apart, first_table_apart}
use Rattle.source_model.proofs.Moved.{Keeps, AllOf, move_keeps, of_outcome}

-- one step and then two parts
and_then_parts : (f g : World → Option World) (h : World → Option World) (o : Option World)
    → ((w : World) → h w ≡ option_and_then g (f w)) → option_and_then h o ≡ option_and_then g (option_and_then f o)
and_then_parts f g h None e = refl
and_then_parts f g h (Some w) e = e w

pub two_parts : TwoParts
two_parts texts [] ns w = refl
two_parts texts (m ∷ ms) ns w =
    and_then_parts (run texts ms) (run texts ns) (run texts (ms ++ ns)) (step texts m w) (two_parts texts ms ns)

-- a test that fails doesn't hold
fails : IsTrue false → ⊥
fails h = cc

-- a test that holds takes the first way
first_way : {A : Type 0} (b : Bool) (x y : A) → IsTrue b → (if b then x else y) ≡ x
first_way true x y h = refl
first_way false x y h = absurd (fails h)

-- one that holds or another
left_holds : (a b : Bool) → IsTrue a → IsTrue (a || b)
left_holds true b h = refl
left_holds false b h = absurd (fails h)

install_marked : (w : World) (q : Option (List BareDef)) → IsTrue w.misused → install w q ≡ None
install_marked w None marked = refl
install_marked w (Some q) marked = first_way (is_over w) None (Some (installed q w)) (left_holds w.misused _ marked)

pub marked_stands : MarkedStands
marked_stands texts (Move t) w marked =
    first_way (is_over w || must_wait w t) None (move_of w t (in_slot w t))
    (left_holds (is_over w) _ (left_holds w.misused _ marked))
marked_stands texts (Install k) w marked = install_marked w _ marked

pub install_keeps_threads : InstallKeepsThreads
install_keeps_threads q w = refl

pub install_keeps_output : InstallKeepsOutput
install_keeps_output q w = refl

pub others_stay : OthersStay
others_stay w after t k th moved other is = (of_outcome (Keeps t w) (move w t) after moved (move_keeps w t)).others k th other is

-- what was printed before what was printed before
grows_twice : (a b c : World) → Grows a b → Grows b c → Grows a c
grows_twice a b c (m, e) (n, f) = (m ++ n, f ∙ ap (λ l. l ++ n) e ∙ append_assoc a.output m n)

grows_not : (w : World) → Grows w w
grows_not w = ([], sym (append-nil w.output))

install_grows : (w : World) (q : Option (List BareDef)) → AllOf (Grows w) (install w q)
install_grows w None = tt
install_grows w (Some q) = unless (is_over w)
  where
    unless : (b : Bool) → AllOf (Grows w) (if b then None else Some (installed q w))
    unless true = tt
    unless false = grows_not w

keeps_grow : (t : ℕ) (w : World) (o : Option World) → AllOf (Keeps t w) o → AllOf (Grows w) o
keeps_grow t w None k = tt
keeps_grow t w (Some after) k = k.grows

step_grows : (texts : List (List BareDef)) (m : SourceMove) (w : World) → AllOf (Grows w) (step texts m w)
step_grows texts (Move t) w = keeps_grow t w (move w t) (move_keeps w t)
step_grows texts (Install k) w = install_grows w _

-- what holds of each outcome of a second step holds after both
further : (w mid : World) (o : Option World) → Grows w mid → AllOf (Grows mid) o → AllOf (Grows w) o
further w mid None g h = tt
further w mid (Some after) g h = grows_twice w mid after g h

and_then_grows : (f : World → Option World) (w : World) (o : Option World)
    → AllOf (Grows w) o → ((mid : World) → AllOf (Grows mid) (f mid)) → AllOf (Grows w) (option_and_then f o)
and_then_grows f w None g h = tt
and_then_grows f w (Some mid) g h = further w mid (f mid) g (h mid)

run_grows : (texts : List (List BareDef)) (ms : List SourceMove) (w : World) → AllOf (Grows w) (run texts ms w)
run_grows texts [] w = grows_not w
run_grows texts (m ∷ ms) w = and_then_grows (run texts ms) w (step texts m w) (step_grows texts m w) (run_grows texts ms)

pub output_grows : OutputGrows
output_grows texts ms w after ran = of_outcome (Grows w) (run texts ms w) after ran (run_grows texts ms w)

-- the entries stay apart at each move
install_apart : (w : World) (q : Option (List BareDef)) → AllApart w.table → AllOf (λ after. AllApart after.table) (install w q)
install_apart w None apart = tt
install_apart w (Some q) apart = unless (is_over w)
  where
    unless : (b : Bool) → AllOf (λ after. AllApart after.table) (if b then None else Some (installed q w))
    unless true = tt
    unless false = next_table_apart w.text q w.table apart

keeps_apart : (t : ℕ) (w : World) (o : Option World) → AllApart w.table → AllOf (Keeps t w) o → AllOf (λ after. AllApart after.table) o
keeps_apart t w None apart k = tt
keeps_apart t w (Some after) apart k = subst AllApart (sym k.same_table) apart

step_apart : (texts : List (List BareDef)) (m : SourceMove) (w : World) → AllApart w.table
    → AllOf (λ after. AllApart after.table) (step texts m w)
step_apart texts (Move t) w apart = keeps_apart t w (move w t) apart (move_keeps w t)
step_apart texts (Install k) w apart = install_apart w _ apart

and_then_apart : (f : World → Option World) (o : Option World) → AllOf (λ after. AllApart after.table) o
    → ((mid : World) → AllApart mid.table → AllOf (λ after. AllApart after.table) (f mid))
    → AllOf (λ after. AllApart after.table) (option_and_then f o)
and_then_apart f None h g = tt
and_then_apart f (Some mid) h g = g mid h

run_apart : (texts : List (List BareDef)) (ms : List SourceMove) (w : World) → AllApart w.table
    → AllOf (λ after. AllApart after.table) (run texts ms w)
run_apart texts [] w apart = apart
run_apart texts (m ∷ ms) w apart =
    and_then_apart (run texts ms) (step texts m w) (step_apart texts m w apart) (λ mid h. run_apart texts ms mid h)

start_apart : (texts : List (List BareDef)) (limits : Limits) → AllOf (λ w. AllApart w.table) (start texts limits)
start_apart [] limits = tt
start_apart (text ∷ texts) limits = first_table_apart text

pub entries_apart : EntriesApart
entries_apart texts limits ms w after started ran =
    of_outcome (λ x. AllApart x.table) (run texts ms w) after ran
    (run_apart texts ms w (of_outcome (λ x. AllApart x.table) (start texts limits) w started (start_apart texts limits)))
