-- The row of a passed check-in by what was found of its body.
use Rattle.std.proofs.Common.{◌≡◌, ℕ, ◌<◌, [], List, length, Option, sym, subst}
use Rattle.std.specs.Option.{option_map_or}
use Rattle.std.proofs.lemmas.Option.{slice_get-get_or}
use Rattle.name_sets.specs.Texts.{text_of}
use Rattle.run_types.specs.Skeleton.{reached}
use Rattle.c_tree.specs.BareExpr.{Bytes}
use Rattle.c_semantics.specs.Store.{Body, CheckInOf, generation_by, body_in, check_in_number}
use Rattle.con_freeness.specs.declared.row.Row.{Row}
use Rattle.checkin_rows.specs.declared.row.Mark.TheVariants.{CheckIn}
use Rattle.checkin_rows.specs.Rows.{Contents, AreRowsOf, IsNumber, IsRow, row_of}
use Rattle.rows_in_force.specs.Origins.{mark_at}

-- the number of the check-in that is reached, where the body is there
abbrev pub number_in : ℕ → Option Body → ℕ
number_in point body = option_map_or (λ b. check_in_number b (reached b.skeleton point)) body 0

pub passed_is_row : (names : List Bytes) (all : List Body) (r : Contents) (id version point generation number n : ℕ) (row : Row)
    → AreRowsOf names all r → id < length names
    → generation ≡ generation_by (text_of names id) version all
    → number ≡ number_in point (body_in all (text_of names id) generation)
    → IsNumber r.marks (CheckIn id generation number) n → row ≡ row_of r n
    → IsRow names all (mark_at all (text_of names id) version point) row
passed_is_row names all r id version point generation number n row rows known generation_is number_is is_number row_is =
    let f = text_of names id in
    subst (IsRow names all (mark_at all f version point)) (sym row_is)
    (subst (λ g. IsRow names all (CheckInOf f g (number_in point (body_in all f g))) (row_of r n)) generation_is
    (subst (λ k. IsRow names all (CheckInOf f generation k) (row_of r n)) number_is
    (rows.check_in f id generation number n (slice_get-get_or names id [] known) is_number)))
