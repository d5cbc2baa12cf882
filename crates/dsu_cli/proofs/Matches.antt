-- What a parse of known items finds.
use Rattle.std.proofs.Common.{◌≡◌, ◌∙◌, ◌&&◌, Bool, true, false, List, [], ◌∷◌, None, length, refl, ap, codes, cond, arith}
use Rattle.std.specs.Prelude.{is_some}
use Rattle.std.specs.List.{fold, list_all}
use Rattle.std.proofs.lemmas.Bool.{and_from, and_parts, eqb-true}
use Rattle.clap.specs.Walk.{Row, Rule, Walk, default_rows, finished, idle, is_empty, nothing_held, walk_from, with_default}
use Rattle.clap.specs.Simple.{HasMatchesOf, built, entered, matches_of}
use Rattle.clap.specs.Takes.{default_passes, entered_passes, is_valid, settle_passes, takes, walk_passes}
use Rattle.clap.specs.declared.builder.value_parser.Reading.{Reading}
use Rattle.clap.specs.declared.parser.matches.ArgMatches.{ArgMatches}
use Rattle.dsu_cli.specs.Words.{Text, Item}
use Rattle.dsu_cli.specs.Fit.{name_of, switch_name}
use Rattle.dsu_cli.specs.Sorted.{AreKnown, Sorts, app}
use Rattle.dsu_cli.proofs.App.{app_simple, rules, shape}
use Rattle.dsu_cli.proofs.Walk.{at, base, idle_rests, nothing, put_item, settle_ok}
use Rattle.dsu_cli.proofs.WalkAll.{Walked, resting, walk_all}
use Rattle.dsu_cli.proofs.Rows.{files_in, option_in, switch_in, values_in}

no_rows : (id : Text) (how : Reading) (defaults : List Text) (rows : List Row) → is_empty defaults ≡ true → default_rows id how defaults rows ≡ rows
no_rows id how [] rows e = refl
no_rows id how (v ∷ vs) rows e =
    let none = eqb-true (length (v ∷ vs)) 0 e in
    absurd (omega arith)

same_cond : {X : Type 0} (b : Bool) (x y : X) → y ≡ x → cond b x y ≡ x
same_cond true x y e = refl
same_cond false x y e = e

no_defaults : (c : List Rule) (rows : List Row) → list_all (λ a. is_empty a.defaults) c ≡ true → fold with_default rows c ≡ rows
no_defaults [] rows e = refl
no_defaults (a ∷ c) rows e =
    let all = and_parts _ _ e in
    ap (λ r. fold with_default r c) (same_cond _ rows _ (no_rows a.id _ a.defaults rows all.0)) ∙ no_defaults c rows all.1

module _ (words : List Text) (its : List Item) (h : AreKnown words its) where
  walk_is : Walked words its [] (at [] None idle)
  walk_is = walk_all words its None [] (at [] None idle) (resting [] None idle nothing idle_rests) h.are h.known

  abbrev whole : Walk → Bool
  whole x = entered_passes (built app) x.stopped && (walk_passes shape [] (walk_from nothing_held) words && (settle_passes rules false x.held
      && (list_all default_passes rules && is_valid shape (finished rules x.held) (is_some (entered (built app) x.stopped)))))

  -- the words are taken
  pub words_taken : takes app words ≡ true
  words_taken = ap whole walk_is.ends ∙ and_from _ _ walk_is.passes (and_from _ _ (settle_ok walk_is.rows walk_is.last_read walk_is.pending) refl)

  rows_are : matches_of app words ≡ fold put_item [] its
  rows_are = ap (λ (x : Walk). finished rules x.held) walk_is.ends ∙ no_defaults rules (base walk_is.rows walk_is.last_read) refl ∙ walk_is.holds

  -- and sorted
  pub words_sorted : (m : ArgMatches) → HasMatchesOf app words m → Sorts its m
  words_sorted m has =
      let rows = (has app_simple).0 ∙ rows_are in
      record {
        files = ap (values_in (codes "files")) rows ∙ files_in its h.known;
        options = λ s. ap (values_in (name_of s)) rows ∙ option_in s its h.known;
        switches = λ s. ap (λ r. length (values_in (switch_name s) r)) rows ∙ switch_in s its h.known;
      }
