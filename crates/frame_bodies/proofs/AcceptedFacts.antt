-- What is known of an accepted text, said of its definitions.
use Rattle.std.proofs.Common.{◌≡◌, Bool, true, false, List, [], ◌∷◌, map, Option, Some, None, is_some, cond, bytes_eq, refl, sym, ap, subst, Contains, inl, inr, ◌∙◌}
use Rattle.std.specs.List.{cons_option}
use Rattle.std.specs.Option.{option_map_or}
use Rattle.c_tree.specs.BareExpr.{Bytes}
use Rattle.c_tree.specs.BareDef.{BareDef}
use Rattle.c_tree.specs.Bare.{bare_def}
use Rattle.c_semantics.specs.Texts.{Definitions, defined, definition, names}
use Rattle.c_semantics.specs.Changes.{agree, same_interface}
use Rattle.c_semantics.specs.Resolution.{resolved_body}
use Rattle.c_semantics.specs.Skeletons.{skeleton_of, direct_uses}
use Rattle.c_semantics.specs.SourceTexts.{Text}
use Rattle.c_semantics.specs.Leaving.{leaves_at_ends}
use Rattle.typed_uses.proofs.DeclaredNames.{names_of_texts_are_apart}
use Rattle.typed_uses.proofs.Points.{either_of}
use Rattle.typed_uses.proofs.SoundTexts.{Facts, facts_of}
use Rattle.typed_uses.proofs.Lookups.{itself, look}
use Rattle.typed_uses.proofs.Uses.{accepted_texts_define_their_uses}
use Rattle.frame_bodies.specs.AcceptedTexts.{IsAccepted, TextsOfProgramsAreAccepted}
use Rattle.frame_bodies.specs.ByUses.{ResolvedByUses}
use Rattle.frame_bodies.specs.Ends.{AcceptedLeaveAtEnds}
use Rattle.frame_bodies.proofs.Lists.{each_point_has_it, none_in}
use Rattle.frame_bodies.proofs.ResolvedSame.{body_same}
use Rattle.frame_bodies.proofs.TypedExpressions.{Called}
use Rattle.frame_bodies.proofs.TypedStatements.{fine_body}
use Rattle.frame_bodies.proofs.Looked.{looks_same}

pub texts_of_programs_are_accepted : TextsOfProgramsAreAccepted
texts_of_programs_are_accepted bytes program accepted = record { bytes = bytes; accepted = accepted; is = refl }

-- its definitions are those of its tree
pub bare_of : (text : Text) → IsAccepted text → map bare_def text.tree.definitions ≡ text.definitions
bare_of text a = sym (ap (λ t. t.definitions) a.is)

pub facts_in : (text : Text) → IsAccepted text → Facts text.tree.definitions
facts_in text a = facts_of text.tree a.accepted.types (names_of_texts_are_apart a.bytes text.tree a.accepted.is_read)

not_itself : (a b : Bytes) → b ≡ a → bytes_eq a b ≡ false → ⊥
not_itself a b is e = never (sym e ∙ ap (bytes_eq a) is ∙ itself a)
  where
    never : false ≡ true → ⊥
    never e = cc

-- a name of a text is defined in it
pub named_is_defined : (text : List BareDef) (u : Bytes) → Contains (names text) u → is_some (definition text u) ≡ true
named_is_defined [] u h = absurd (none_in u h)
named_is_defined (d ∷ text) u h = by (defined d) (named_is_defined text u) h
  where
    under : (b : Bool) → (b ≡ false → is_some (definition text u) ≡ true) → is_some (cond b (Some d) (definition text u)) ≡ true
    under true rest = refl
    under false rest = rest refl

    by : (o : Option Bytes) → (Contains (names text) u → is_some (definition text u) ≡ true) → Contains (cons_option o (names text)) u
        → is_some (cond (option_map_or (bytes_eq u) o false) (Some d) (definition text u)) ≡ true
    by None rest h = rest h
    by (Some n) rest h =
        under (bytes_eq u n) (λ e. elim (either_of n u (names text) h) [ inl is ↦ absurd (not_itself u n is e) | inr later ↦ rest later ])

-- ---- resolution by uses

by_uses : (bytes : Bytes) (text : Text) → IsAccepted text → (other : Definitions) (function : Bytes)
    → ((used : Bytes) → Contains (direct_uses (skeleton_of other (look text.tree.definitions function))) used
    → is_some (look text.tree.definitions used) ≡ true → agree same_interface (look text.tree.definitions used) (other used) ≡ true)
    → resolved_body (look text.tree.definitions) (look text.tree.definitions function)
    ≡ resolved_body other (look text.tree.definitions function)
by_uses bytes text a other function agrees =
    let ds = text.tree.definitions in
    let There : Bytes → Type 0 = λ u. is_some (look ds u) ≡ true in
    let Agrees : Bytes → Type 0 = λ u. is_some (look ds u) ≡ true → agree same_interface (look ds u) (other u) ≡ true in
    let body = fine_body ds function (facts_in text a) in
    body_same (look ds) other There Agrees (Called ds) (λ u p q. looks_same (look ds u) (other u) (q p)) (look ds function) body.sound
    (each_point_has_it There (skeleton_of (look ds) (look ds function))
    (λ u h. named_is_defined (map bare_def ds) u (accepted_texts_define_their_uses a.bytes text.tree a.accepted function u h)))
    (each_point_has_it Agrees (skeleton_of other (look ds function)) agrees)

abbrev ByUsesIn : Definitions → Bytes → List BareDef → Type 0
ByUsesIn other function ds =
    ((used : Bytes) → Contains (direct_uses (skeleton_of other (definition ds function))) used
    → is_some (definition ds used) ≡ true → agree same_interface (definition ds used) (other used) ≡ true)
    → resolved_body (definition ds) (definition ds function) ≡ resolved_body other (definition ds function)

pub resolved_by_uses : ResolvedByUses
resolved_by_uses text other function a =
    subst (ByUsesIn other function) (bare_of text a) (by_uses a.bytes text a other function)

pub accepted_leave_at_ends : AcceptedLeaveAtEnds
accepted_leave_at_ends text function a =
    subst (λ ds. leaves_at_ends (resolved_body (definition ds) (definition ds function)) ≡ true) (bare_of text a)
    ((fine_body text.tree.definitions function (facts_in text a)).leaves (look text.tree.definitions))
