-- The start of a run.
use Rattle.std.proofs.Common.{◌≡◌, ℕ, zero, suc, ◌<◌, false, List, [], ◌∷◌, map, length, slice_get, slice_index_or, Option, Some, None, refl, sym, ◌∙◌, ap, subst, arith}
use Rattle.std.specs.Prelude.{◌-◌, option_map, codes, replicate}
use Rattle.std.proofs.lemmas.Bool.{false≢true}
use Rattle.std.proofs.lemmas.List.{length-replicate}
use Rattle.std.proofs.lemmas.Option.{none-some, same_Some}
use Rattle.c_tree.specs.declared.def.Program.{Program}
use Rattle.c_semantics.specs.SourceTexts.{text_of}
use Rattle.c_semantics.specs.Store.{Start}
use Rattle.source_model.specs.Runs.{is_live}
use Rattle.source_model.specs.Worlds.{Free, in_slot, main_enter}
use Rattle.source_model.specs.Guards.{Guard, Offer, Setup, bodies_of, empty_seat, first_guard}
use Rattle.source_model.specs.Guards as guard
use Rattle.source_programs.specs.Programs.{text_in}
use Rattle.run_machine.specs.Machines.{Shown}
use Rattle.resolved_tree.specs.Nodes.{word}
use Rattle.resolved_tree.specs.declared.words.Word.{Word}
use Rattle.installed_versions.specs.Installed.{HasItsRows, IsInstalled}
use Rattle.dsu_runs.specs.Books.{IsBook}
use Rattle.dsu_runs.specs.Setups.{limits_of, offers_of, setup_of}
use Rattle.plain_engine.specs.declared.seat.Seat.{Seat}
use Rattle.plain_engine.specs.Kept.{IsSeat, empty, started}
use Rattle.plain_engine.specs.Needs.{MeetsNeeds}
use Rattle.plain_engine.specs.Plain.{AreSeats, IsRunAt, IsStateAt, ShownState}
use Rattle.plain_engine.proofs.Reaching.{first_reached}
use Rattle.plain_engine.proofs.SlotsAfter.{entered}

-- the texts of a setup
offered_texts : (programs : List Program) (lines : List ℕ) → length programs ≡ length lines
    → map (λ (o : Offer). o.text) (offers_of programs lines) ≡ map text_of programs
offered_texts [] lines e = refl
offered_texts (p ∷ ps) [] e = absurd (omega (arith, e))
offered_texts (p ∷ ps) (n ∷ ns) e = ap (λ ts. text_of p ∷ ts) (offered_texts ps ns (omega (arith, e)))

offered_definitions : (programs : List Program) (lines : List ℕ) → length programs ≡ length lines
    → map (λ (o : Offer). o.text.definitions) (offers_of programs lines) ≡ map text_in programs
offered_definitions [] lines e = refl
offered_definitions (p ∷ ps) [] e = absurd (omega (arith, e))
offered_definitions (p ∷ ps) (n ∷ ns) e = ap (λ ts. text_in p ∷ ts) (offered_definitions ps ns (omega (arith, e)))

pub lines_are : (programs : List Program) (lines : List ℕ) → length programs ≡ length lines
    → lines ≡ map (λ (o : Offer). o.lines) (offers_of programs lines)
lines_are [] [] e = refl
lines_are [] (n ∷ ns) e = absurd (omega (arith, e))
lines_are (p ∷ ps) [] e = absurd (omega (arith, e))
lines_are (p ∷ ps) (n ∷ ns) e = ap (λ ls. n ∷ ls) (lines_are ps ns (omega (arith, e)))

-- the first of some texts
pub first_there : {A : Type 0} (xs : List A) → 0 < length xs → slice_get xs 0 ≡ None → ⊥
first_there [] some e = omega (arith, some)
first_there (x ∷ xs) some e = none-some x (sym e)

pub some_texts : (text : Program) (programs trees : List Program) → trees ≡ text ∷ programs → 0 < length trees
some_texts text programs trees e = let long = ap length e in omega (arith, long)

-- the run at its start
pub first_run_at : (text : Program) (programs : List Program) (lines : List ℕ) (objects : ℕ) (r : Shown)
    → length programs ≡ length lines → r.is_run (map text_in (text ∷ programs)) (limits_of objects) []
    → r.trees ≡ text ∷ programs
    → IsRunAt (setup_of text programs lines objects) (first_guard (setup_of text programs lines objects)) r
first_run_at text programs lines objects r equal is trees = record {
  moves = [];
  run = subst (λ ts. r.is_run (text_in text ∷ ts) (limits_of objects) []) (sym (offered_definitions programs lines equal)) is;
  world = refl;
  trees = ap (map text_of) trees ∙ ap (λ ts. text_of text ∷ ts) (sym (offered_texts programs lines equal));
  versions = refl;
}

pub first_state : (text : Program) (programs : List Program) (lines : List ℕ) (objects : ℕ) (s : ShownState)
    → IsRunAt (setup_of text programs lines objects) (first_guard (setup_of text programs lines objects)) s.run
    → AreSeats (first_guard (setup_of text programs lines objects)) s.run s.seats
    → IsInstalled (text_of text ∷ []) s.installed.count s.installed.names s.installed.store → HasItsRows s.installed → s.last ≡ 0
    → s.run.trees ≡ text ∷ programs
    → IsBook (setup_of text programs lines objects) (first_guard (setup_of text programs lines objects)) s.installed.names s.book
    → MeetsNeeds s.run.needs (setup_of text programs lines objects)
    → IsStateAt (setup_of text programs lines objects) (first_guard (setup_of text programs lines objects)) s
first_state text programs lines objects s run seats installed rows last trees book meets = record {
  run = run;
  seats = seats;
  versions = record {
    installed = installed;
    before = [];
    tree = text;
    numbered = ap (slice_get s.run.trees) last ∙ ap (λ ts. slice_get ts 0) trees;
    last_is = refl;
    rows = rows;
  };
  book = book;
  reached = first_reached (setup_of text programs lines objects);
  meets = meets;
}

-- ---- the slots at the start

filled : {A : Type 0} (count n : ℕ) (x y : A) → slice_get (replicate count x) n ≡ Some y → y ≡ x
filled zero n x y e = absurd (none-some y e)
filled (suc count) zero x y e = sym (same_Some x y e)
filled (suc count) (suc n) x y e = filled count n x y e

in_free : (count n : ℕ) → slice_index_or (replicate count Free) n Free ≡ Free
in_free zero n = refl
in_free (suc count) zero = refl
in_free (suc count) (suc n) = in_free count n

many_slots : (n : ℕ) → n ≡ 16 → suc (n - 1) ≡ 16
many_slots n e = omega (arith, e)

pub first_slots : (setup : Setup) (r : Shown) (function : Option Word) (seats : List Seat) → setup.limits.slots ≡ 16
    → option_map (word r.words) function ≡ Some (codes "main") → seats ≡ started function ∷ replicate 15 empty
    → AreSeats (first_guard setup) r seats
first_slots setup r function seats slots named is = record {
  many = ap suc (length-replicate (setup.limits.slots - 1) empty_seat) ∙ many_slots setup.limits.slots slots;
  each = λ going n kept own at_kept at_own. by n kept own (ap (λ ss. slice_get ss n) (sym is) ∙ at_kept) at_own;
}
  where
    by : (n : ℕ) (kept : Seat) (own : guard.Seat) → slice_get (started function ∷ replicate 15 empty) n ≡ Some kept
        → slice_get (first_guard setup).seats n ≡ Some own
        → IsSeat r.words (bodies_of (first_guard setup)) 1 false (in_slot (first_guard setup).world n) kept own
    by zero kept own at_kept at_own =
        subst (λ k. IsSeat r.words (bodies_of (first_guard setup)) 1 false (in_slot (first_guard setup).world 0) k own)
        (same_Some (started function) kept at_kept)
        (subst (IsSeat r.words (bodies_of (first_guard setup)) 1 false (in_slot (first_guard setup).world 0) (started function))
        (same_Some (guard.started_seat (codes "main")) own at_own) (record {
          at_check_in = refl;
          pinned = refl;
          there = refl;
          lives = λ e. absurd (false≢true e);
          idle = λ e. absurd (false≢true (sym e));
          mark = λ on. ap (λ f. Some (Start f)) (entered r.words function (Some main_enter) named);
          version = λ on. tt;
        }))
    by (suc n) kept own at_kept at_own =
        subst (λ k. IsSeat r.words (bodies_of (first_guard setup)) 1 false (in_slot (first_guard setup).world (suc n)) k own)
        (sym (filled 15 n empty kept at_kept))
        (subst (IsSeat r.words (bodies_of (first_guard setup)) 1 false (in_slot (first_guard setup).world (suc n)) empty)
        (sym (filled (setup.limits.slots - 1) n empty_seat own at_own)) (record {
          at_check_in = refl;
          pinned = refl;
          there = sym (ap is_live (in_free (setup.limits.slots - 1) n));
          lives = λ e. absurd (false≢true e);
          idle = λ e. refl;
          mark = λ on. refl;
          version = λ on. tt;
        }))
